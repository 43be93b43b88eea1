-- The maximum count before a home's value: its gap, the count, and the call of the value.
use Rattle.std.proofs.Common.{◌≡◌, ◌≤◌, ℕ, ◌+◌, Bool, true, false, ◌&&◌, List, [], ◌∷◌, ◌++◌, length, Some, None, refl, ap, sym, ◌∙◌, subst, arith, length-append}
use Rattle.std.specs.Prelude.{pos, ◌||◌, eqb}
use Rattle.std.specs.List.{slice_get}
use Rattle.nd_base.specs.declared.octets.Order.{Order}
use Rattle.nd_base.specs.declared.TheConstants.{STREAM_LIMIT}
use Rattle.nd_types.specs.declared.types.Attr.{Attr}
use Rattle.nd_types.specs.declared.types.Attr.TheVariants as attr
use Rattle.nd_types.specs.Number.{unsigned}
use Rattle.nd_types.specs.Table.{Table}
use Rattle.nd_value.specs.declared.item.Home.{Home}
use Rattle.nd_value.specs.declared.item.Item.{Item}
use Rattle.nd_value.specs.declared.item.ItemKind.TheVariants as item
use Rattle.nd_grammar.specs.Entry.{Entry, EntryAt, gap, Align, Max}
use Rattle.nd_grammar.specs.Refusal.{refusal, tested_at, same_home}
use Rattle.nd_grammar.specs.Reader.{Names, Read, pass, taken, number_in, read_in_place, read_hoisted}
use Rattle.ndr_code.specs.declared.instr.Instr.{Instr}
use Rattle.ndr_code.specs.declared.instr.Instr.TheVariants as op
use Rattle.ndr_code.specs.declared.lists.EnumList.{EnumList}
use Rattle.ndr_code.specs.Code.{place_at}
use Rattle.ndr_code.specs.Runs.{IsRunAt}
use Rattle.ndr_code.proofs.Runs.{next_at}
use Rattle.ndr_decoder_laws.specs.reader.Halves.{hoisted_after}
use Rattle.ndr_decoder_laws.specs.reader.Around.{going, stopped, finish}
use Rattle.ndr_decoder_laws.specs.reader.Points.{counting, called}
use Rattle.ndr_decoder_laws.proofs.reader.Continuing.{passed, refused as stops_at, in_place_stays}
use Rattle.ndr_decoder_laws.proofs.reader.FromPoint.{hoisted_in_halves}
use Rattle.ndr_decoder_laws.specs.declared.first.First.{First}
use Rattle.ndr_decoder_laws.specs.declared.first.Member.{Member}
use Rattle.ndr_decoder_laws.specs.declared.frame.Frame.TheVariants as frame
use Rattle.ndr_decoder_laws.specs.steps.Spots.{IsFine, IsPlanned}
use Rattle.ndr_decoder_laws.specs.steps.Steps.{State, Outcome, goes, gap_read, past, done_after, with_max, call_from, place_of, no_place}
use Rattle.ndr_decoder_laws.specs.steps.Good.{Told, IsRight, place_at as place_of_node}
use Rattle.ndr_decoder_laws.specs.steps.StepItems.{item_here, gap_items, count_items}
use Rattle.ndr_decoder_laws.proofs.steps.CountedCells.{none_named}
use Rattle.ndr_decoder_laws.proofs.steps.Passing.{items_it, gap_noted, noted_joined, onward, silent, told_passed, known_joined, lie_joined, lie_longer, judged, taken_it, lies_it, tested_now}
use Rattle.ndr_decoder_laws.proofs.steps.Passing.{tested_passed}
use Rattle.std.proofs.lemmas.Bool.{le-ltb as no_less}
use Rattle.nd_grammar.proofs.agreements.TestedAt.{same_home_self as same_homes}
use Rattle.ndr_decoder_laws.proofs.steps.Arriving.{Within, parts_of, within_passed, arrives}
use Rattle.ndr_decoder_laws.proofs.steps.Adding.{stop_by, Stops}

module _ (order : Order) (octets : List ℕ) (table : Table) (h : Home) (m at : ℕ) (seen : List EntryAt) (names : Names) (target : Read) (t : ℕ) where
  pub hoist_gap_next : finish order octets table h m 32 [] (read_hoisted order octets table h true t (going at seen) names) ≡ target
      → Stops order octets seen at target (record { home = h; node = 0; kind = Align 4 })
  hoist_gap_next rest =
      let e : Entry = record { home = h; node = 0; kind = Align 4 } in
      λ why r.
      let w : ℕ = number_in order octets (taken order octets (record { home = h; node = 0; kind = Max 0 }) (stopped at seen why)) in
      stop_by order octets table h 32 m [] (read_hoisted order octets table h true t (going at seen) names) target at seen why
      (ap (λ p. (hoisted_after order octets table h t p names).progress) (stops_at order octets e at seen why r)
      ∙ in_place_stays order octets table h at seen why 32 w t 0 names) rest

  pub hoist_count_next : finish order octets table h m 32 [] (hoisted_after order octets table h t (going at seen) names) ≡ target
      → Stops order octets seen at target (record { home = h; node = 0; kind = Max 0 })
  hoist_count_next rest =
      let v : ℕ = number_in order octets (taken order octets (record { home = h; node = 0; kind = Max 0 }) (going at seen)) in
      let e : Entry = record { home = h; node = 0; kind = Max v } in
      λ why r. stop_by order octets table h 32 m [] (hoisted_after order octets table h t (going at seen) names) target at seen why
      (ap (λ p. (read_in_place order octets table h 32 v t 0 p names).progress) (stops_at order octets e at seen why r)
      ∙ in_place_stays order octets table h at seen why 32 v t 0 names) rest

module _ (order : Order) (fetched os : List ℕ) (code : List Instr) (values : List EnumList) (table : Table) (h : Home) (own limit : ℕ) (noted : List Item) (direct : ℕ) (target : List ℕ → Read)
    (planned : IsPlanned code values table)
    (s : State) (seen : List EntryAt) (names : Names) (t : ℕ) (fine : IsFine table 32 t) (w : Within code table h own limit seen 32 [] t (parts_of s)) (reached : length fetched ≡ s.at)
    (run : IsRunAt code s.pc (op.Hoist ∷ op.Call (place_at table t) ∷ op.Ret ∷ [])) (told : Told noted direct order fetched h seen names s.cells s.numbers s.max_at (length s.nodes) [])
    (no_max : s.max_at ≡ None) where
  abbrev Right : List Item → Outcome → Type 0
  Right news o = IsRight order (fetched ++ os) code table h own limit (noted ++ news) direct target s.at seen o

  further : (size : ℕ) → length os ≡ size → length (fetched ++ os) ≡ s.at + size
  further size e = let l : length (fetched ++ os) ≡ length fetched + length os = length-append fetched os in omega (arith, l, reached, e)

  -- the gap
  pub hoist_gap_right : length os ≡ gap s.at 4
      → ((later : List ℕ) → finish order (fetched ++ later) table h s.max 32 [] (read_hoisted order (fetched ++ later) table h true t (going s.at seen) names) ≡ target (fetched ++ later))
      → Right (gap_items h s.at os) (goes (past (length os) gap_read s))
  hoist_gap_right size rest =
      let m : Entry = record { home = h; node = 0; kind = Align 4 } in
      let x : EntryAt = record { at = s.at; entry = m } in
      let w' : Within code table h own limit (seen ++ x ∷ []) 32 [] t (parts_of s) = within_passed code table h own limit seen 32 [] t (parts_of s) x (λ c j l. silent c h j x tt) w in
      record {
        depth = 32;
        fs = [];
        point = counting t;
        seen = seen ++ x ∷ [];
        names = names;
        deep = w'.deep;
        spot = (fine, run);
        phase = refl;
        registers = no_max;
        inside = w'.inside;
        begin = w'.begin;
        fits = (refl, refl);
        tied = w'.tied;
        nodes = w'.nodes;
        numbered = w'.numbered;
        members = w'.members;
        pending = w'.pending;
        many = w'.many;
        kept = w'.kept;
        first = w'.first;
        reached = let r : length (fetched ++ os) ≡ s.at + length os = further (length os) refl in omega (arith, r);
        holds = tt;
        told = told_passed (gap_items h s.at os) order fetched os h seen names s.cells s.numbers s.max_at (length s.nodes) [] x
            (items_it order fetched os [] s.at reached m seen (sym size) ∙ gap_noted order h 0 4 s.at os (sym size)) tt tt refl (lies_it order fetched os [] s.at reached m seen (sym size)) told;
        rest = λ later.
            let octets : List ℕ = (fetched ++ os) ++ later in
            let r : refusal order octets seen x ≡ None = judged order fetched os later s.at reached m seen (sym size) refl in
            ap (finish order octets table h s.max 32 [])
            (sym (hoisted_in_halves order octets table h t (going s.at seen) names
            ∙ ap (λ p. hoisted_after order octets table h t p names) (passed order octets m s.at seen r ∙ ap (λ j. going (s.at + j) (seen ++ x ∷ [])) (sym size))))
            ∙ onward fetched os (λ o. finish order o table h s.max 32 [] (read_hoisted order o table h true t (going s.at seen) names) ≡ target o) rest later;
      }

  -- the count
  pub hoist_count_right : length os ≡ 4 → s.at + 4 ≤ STREAM_LIMIT
      → ((later : List ℕ) → finish order (fetched ++ later) table h s.max 32 [] (hoisted_after order (fetched ++ later) table h t (going s.at seen) names) ≡ target (fetched ++ later))
      → Right (count_items order h os item.Max s) (goes (done_after 4 (with_max (unsigned order os) s)))
  hoist_count_right size short rest =
      record {
        depth = 32;
        fs = [];
        point = called t;
        seen = seen ++ x ∷ [];
        names = names;
        deep = w.deep;
        spot = (fine, next_at code s.pc op.Hoist (op.Call (place_at table t) ∷ op.Ret ∷ []) run);
        phase = refl;
        registers = tt;
        inside = w.inside;
        begin = w.begin;
        fits = refl;
        tied = w.tied;
        nodes = w.nodes;
        numbered = w.numbered;
        members = w.members;
        pending = w.pending;
        many = w.many;
        kept = λ i m y a b. absurd (no_member i m (ap (λ ms. slice_get ms i) (sym w.members) ∙ a));
        first = tt;
        reached = let r : length (fetched ++ os) ≡ s.at + 4 = further 4 size in omega (arith, r);
        holds = tt;
        told = record {
          noted_are = noted_joined order fetched os seen x noted (count_items order h os item.Max s) told.lie_within
              (items_it order fetched os [] s.at reached x.entry seen (sym size) ∙ ap (λ j. item_here h s.at item.Max 4 (pos (unsigned order os)) j ∷ []) (sym (ap length w.nodes))) told.noted_are;
          cells_are = told.cells_are;
          cells_named = none_named seen s.numbers (length s.cells) direct told.cells_named x refl;
          numbers_are = λ u p. known_joined order fetched os seen names x told.lie_within u (λ to. refl) _ (told.numbers_are u p);
          ahead = ahead;
          lie_within = lie_joined (fetched ++ os) seen x (lie_longer fetched os seen told.lie_within) (lies_it order fetched os [] s.at reached x.entry seen (sym size));
        };
        rest = λ later.
            let octets : List ℕ = (fetched ++ os) ++ later in
            let judge : (y : ℕ) → refusal order octets seen (record { at = s.at; entry = record { home = h; node = 0; kind = Max y } }) ≡ None =
            λ y. judged order fetched os later s.at reached (record { home = h; node = 0; kind = Max y }) seen (sym size) (no_less STREAM_LIMIT (s.at + 4) short) in
            let value : number_in order octets (taken order octets (record { home = h; node = 0; kind = Max 0 }) (going s.at seen)) ≡ v =
            ap (number_in order octets) (taken_it order fetched os later s.at reached (record { home = h; node = 0; kind = Max 0 }) seen (sym size) (judge 0)) in
            sym (ap (λ y. read_in_place order octets table h 32 y t 0 (pass order octets (record { home = h; node = 0; kind = Max y }) (going s.at seen)) names) value
            ∙ ap (λ p. read_in_place order octets table h 32 v t 0 p names) (passed order octets x.entry s.at seen (judge v)))
            ∙ onward fetched os (λ o. finish order o table h s.max 32 [] (hoisted_after order o table h t (going s.at seen) names) ≡ target o) rest later;
      }
    where
      v : ℕ
      v = unsigned order os

      x : EntryAt
      x = record { at = s.at; entry = record { home = h; node = 0; kind = Max v } }

      no_member : (i : ℕ) (m : Member) → slice_get [] i ≡ Some m → ⊥
      no_member i m e = cc

      -- nothing was found before
      none_yet : (a : Attr) (j : ℕ) → place_of a None no_place ≡ None → tested_at seen a h (length s.nodes + j) ≡ None
      none_yet a j e = told.ahead a j ∙ ap (λ o. place_of a o no_place) no_max ∙ e

      is_it : (b c : Bool) → b ≡ true → (b && (true || c)) ≡ true
      is_it true c e = refl
      is_it false c e = cc

      ahead : (a : Attr) (j : ℕ) → tested_at (seen ++ x ∷ []) a h (length s.nodes + j) ≡ place_of a (Some s.at) (place_of_node [] j)
      ahead attr.Size j = tested_now seen x attr.Size h (length s.nodes + j) (none_yet attr.Size j refl) (is_it (same_home h h) (eqb 0 (length s.nodes + j)) (same_homes h))
      ahead attr.Max j = tested_now seen x attr.Max h (length s.nodes + j) (none_yet attr.Max j refl) (is_it (same_home h h) (eqb 0 (length s.nodes + j)) (same_homes h))
      ahead attr.First j = tested_passed seen x attr.First h (length s.nodes + j) refl ∙ none_yet attr.First j refl
      ahead attr.Length j = tested_passed seen x attr.Length h (length s.nodes + j) refl ∙ none_yet attr.Length j refl
      ahead attr.Last j = tested_passed seen x attr.Last h (length s.nodes + j) refl ∙ none_yet attr.Last j refl
      ahead attr.Switch j = tested_passed seen x attr.Switch h (length s.nodes + j) refl ∙ none_yet attr.Switch j refl

-- the call of a home's value
pub jump_right : (order : Order) (fetched : List ℕ) (code : List Instr) (values : List EnumList) (table : Table) (h : Home) (own limit : ℕ) (noted : List Item) (direct : ℕ) (target : List ℕ → Read)
    → IsPlanned code values table
    → (s : State) (depth : ℕ) (seen : List EntryAt) (names : Names) (t : ℕ) → IsFine table depth t → Within code table h own limit seen depth [] t (parts_of s) → length fetched ≡ s.at
    → Told noted direct order fetched h seen names s.cells s.numbers s.max_at (length s.nodes) []
    → ((later : List ℕ) → finish order (fetched ++ later) table h s.max depth [] (read_in_place order (fetched ++ later) table h depth s.max t 0 (going s.at seen) names) ≡ target (fetched ++ later))
    → IsRight order fetched code table h own limit noted direct target s.at seen (goes (call_from s.top (place_at table t) s))
jump_right order fetched code values table h own limit noted direct target planned s depth seen names t fine w reached told rest =
    subst (λ x. IsRight order fetched code table h own limit noted direct target s.at seen (goes (call_from x (place_at table t) s))) (sym w.inside.0)
    (arrives order fetched code values table h own limit noted direct target planned (call_from frame.Home (place_at table t) s) depth [] seen names t fine refl refl
    (record {
      deep = w.deep;
      inside = w.inside;
      begin = w.begin;
      fits = w.fits;
      tied = w.tied;
      nodes = w.nodes;
      numbered = w.numbered;
      members = w.members;
      pending = w.pending;
      many = w.many;
      kept = w.kept;
      first = w.first;
    })
    told reached rest)
