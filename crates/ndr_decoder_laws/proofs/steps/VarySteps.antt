-- Counts: the offset and the actual count of a varying array and of a text, and a text's octets.
use Rattle.std.proofs.Common.{◌≡◌, ◌≤◌, inl, inr, ℕ, ◌+◌, zero, suc, Bool, true, false, List, [], ◌∷◌, ◌++◌, length, Option, Some, None, refl, ap, ap₂, sym, ◌∙◌, subst, arith, length-append, map}
use Rattle.std.specs.Prelude.{pos, ◌-◌, not, eqb, ltb, take, replicate, if◌then◌else◌, ◌≢◌}
use Rattle.std.proofs.lemmas.List.{append-nil, length-replicate}
use Rattle.nd_base.specs.declared.octets.Order.{Order}
use Rattle.nd_base.specs.declared.TheConstants.{STREAM_LIMIT}
use Rattle.nd_types.specs.declared.types.Attr.{Attr}
use Rattle.nd_types.specs.declared.types.Attr.TheVariants as attr
use Rattle.nd_types.specs.declared.types.TypeDef.{TypeDef}
use Rattle.nd_types.specs.declared.types.TypeDef.TheVariants as def
use Rattle.nd_types.specs.declared.types.TypeId.{TypeId}
use Rattle.nd_types.specs.Number.{unsigned}
use Rattle.nd_types.specs.Table.{Table, type_at}
use Rattle.nd_value.specs.declared.item.Home.{Home}
use Rattle.nd_value.specs.declared.item.Item.{Item}
use Rattle.nd_value.specs.declared.item.ItemKind.TheVariants as item
use Rattle.nd_value.specs.Tree as tree
use Rattle.nd_value.specs.Tree.{node, none}
use Rattle.nd_grammar.specs.declared.reason.Reason.{Reason}
use Rattle.nd_grammar.specs.declared.reason.Reason.TheVariants as reason
use Rattle.nd_grammar.specs.Entry.{Kind, Entry, EntryAt, Offset, Actual, Text}
use Rattle.nd_grammar.specs.Refusal.{refusal, refused_if, text_refusal, is_max}
use Rattle.nd_grammar.specs.Stream.{piece}
use Rattle.nd_grammar.specs.Reader.{Names, Read, pass, taken, taken_by, number_in, text_in, bound_or, read_in_place, read_children}
use Rattle.ndr_code.specs.declared.instr.Instr.{Instr}
use Rattle.ndr_code.specs.declared.instr.Instr.TheVariants as op
use Rattle.ndr_code.specs.declared.lists.EnumList.{EnumList}
use Rattle.ndr_code.specs.Code.{place_at, text_bound}
use Rattle.ndr_code.specs.Runs.{IsRunAt}
use Rattle.ndr_decoder_laws.specs.reader.Around.{Around, going, stopped, finish, nodes_around, pointers_around}
use Rattle.ndr_decoder_laws.specs.reader.Points.{opened, offset_read as at_offset, text_offset, text_counted, has, read_at}
use Rattle.ndr_decoder_laws.proofs.reader.Continuing.{passed, refused as stops_at, children_stay, in_place_stays}
use Rattle.ndr_decoder_laws.specs.reader.Halves.{array_after_offset, text_after_offset, text_after_count}
use Rattle.ndr_decoder_laws.proofs.reader.FromPoint.{array_offset, array_count, text_begins, text_count, text_ends}
use Rattle.ndr_decoder_laws.proofs.reader.HomePointers.{of_text}
use Rattle.ndr_decoder_laws.specs.steps.Spots.{IsFine, IsPlanned, body_run, at_ret}
use Rattle.ndr_decoder_laws.specs.steps.Steps.{State, Outcome, goes, refused, begun, offset_read, count_read, past, elements, with_node, vary_by, text_by, text_done, limit_of, offset_before}
use Rattle.ndr_decoder_laws.specs.steps.Steps.{counts_at}
use Rattle.ndr_decoder_laws.specs.steps.Good.{Told, IsRight, owed}
use Rattle.ndr_decoder_laws.specs.steps.StepItems.{item_here, next_item, count_items}
use Rattle.ndr_decoder_laws.proofs.steps.Passing.{items_it, onward, later_node, told_counted, told_passed, silent, judged, taken_it, lies_it, Change}
use Rattle.std.proofs.lemmas.Bool.{le-ltb as no_less}
use Rattle.ndr_decoder_laws.proofs.steps.Arriving.{Within, parts_of, within_passed, plain_good}
use Rattle.ndr_decoder_laws.proofs.steps.Adding.{leaf_good, none_found, no_pointer, stop_by, Stops}
use Rattle.ndr_decoder_laws.proofs.steps.ArraySteps.{elements_right}

module _ (order : Order) (octets : List ℕ) (table : Table) (h : Home) (k m : ℕ) (fs : List Around) (n at : ℕ) (seen : List EntryAt) (names : Names) (target : Read) where
  -- the offset of a varying array
  pub offset_next : (t : ℕ) (elem : TypeId) (bound : Option ℕ)
      → finish order octets table h m (suc k) fs (read_at order octets table h m (suc k) (opened t (def.Array elem bound true)) n (going at seen) names) ≡ target
      → Stops order octets seen at target (record { home = h; node = n; kind = Offset false 0 })
  offset_next t elem bound rest =
      let o : ℕ = number_in order octets (taken order octets (record { home = h; node = n; kind = Offset false 0 }) (going at seen)) in
      let e : Entry = record { home = h; node = n; kind = Offset false o } in
      λ why r. stop_by order octets table h (suc k) m fs (read_at order octets table h m (suc k) (opened t (def.Array elem bound true)) n (going at seen) names) target at seen why
      (ap (λ p. (array_after_offset order octets table h (read_in_place order octets table h k m) (Some (def.Array elem bound true)) (bound_or bound m) elem.0 n o p names).progress)
      (stops_at order octets e at seen why r)) rest

  -- its actual count
  pub count_next : (t max elem o : ℕ) (d : TypeDef)
      → finish order octets table h m (suc k) fs (read_at order octets table h m (suc k) (at_offset t d max elem o) n (going at seen) names) ≡ target
      → Stops order octets seen at target (record { home = h; node = n; kind = Actual false o max 0 })
  count_next t max elem o d rest =
      let c : ℕ = number_in order octets (taken order octets (record { home = h; node = n; kind = Actual false o max 0 }) (going at seen)) in
      let e : Entry = record { home = h; node = n; kind = Actual false o max c } in
      let rd = read_in_place order octets table h k m in
      λ why r. stop_by order octets table h (suc k) m fs (read_at order octets table h m (suc k) (at_offset t d max elem o) n (going at seen) names) target at seen why
      (ap (λ p. (read_children order octets table h rd (Some d) n (tree.Arr max o) (replicate c elem) p names).progress) (stops_at order octets e at seen why r)
      ∙ children_stay order octets table h at seen why rd (in_place_stays order octets table h at seen why k m) (Some d) n (tree.Arr max o) (replicate c elem) names) rest

  -- the offset of a text, its actual count, and its octets
  pub text_offset_next : (t : ℕ) (elem : TypeId) (bound : Option ℕ)
      → finish order octets table h m (suc k) fs (read_at order octets table h m (suc k) (opened t (def.Text elem bound)) n (going at seen) names) ≡ target
      → Stops order octets seen at target (record { home = h; node = n; kind = Offset true 0 })
  text_offset_next t elem bound rest =
      let e : Entry = record { home = h; node = n; kind = Offset true 0 } in
      λ why r. stop_by order octets table h (suc k) m fs (read_at order octets table h m (suc k) (opened t (def.Text elem bound)) n (going at seen) names) target at seen why
      (ap (λ p. (text_after_offset order octets table h (bound_or bound m) n p names).progress) (stops_at order octets e at seen why r)) rest

  pub text_count_next : (t max : ℕ)
      → finish order octets table h m (suc k) fs (read_at order octets table h m (suc k) (text_offset t max) n (going at seen) names) ≡ target
      → Stops order octets seen at target (record { home = h; node = n; kind = Actual true 0 max 0 })
  text_count_next t max rest =
      let c : ℕ = number_in order octets (taken order octets (record { home = h; node = n; kind = Actual true 0 max 0 }) (going at seen)) in
      let e : Entry = record { home = h; node = n; kind = Actual true 0 max (c - 1 + 1) } in
      λ why r. stop_by order octets table h (suc k) m fs (read_at order octets table h m (suc k) (text_offset t max) n (going at seen) names) target at seen why
      (ap (λ p. (text_after_count order octets table h max (c - 1) n p names).progress) (stops_at order octets e at seen why r)) rest

  pub text_next : (t max c : ℕ)
      → finish order octets table h m (suc k) fs (read_at order octets table h m (suc k) (text_counted t max c) n (going at seen) names) ≡ target
      → Stops order octets seen at target (record { home = h; node = n; kind = Text (replicate c 0) })
  text_next t max c rest =
      let zeros : List ℕ = replicate c 0 in
      let e : List ℕ → Entry = λ os. record { home = h; node = n; kind = Text os } in
      let os : List ℕ = text_in order octets c (taken order octets (e zeros) (going at seen)) in
      λ why r. stop_by order octets table h (suc k) m fs (read_at order octets table h m (suc k) (text_counted t max c) n (going at seen) names) target at seen why
      (ap (λ x. pass order octets (e x) (going at seen)) (ap (λ o. text_in order octets c (taken_by None o (piece octets at (Text zeros)))) r) ∙ stops_at order octets (e zeros) at seen why r) rest

back_four : (n : ℕ) → n + 4 - 4 ≡ n
back_four n = omega arith

-- what an attribute finds as the counts come
after_offset : (max_at : Option ℕ) (b : Bool) (v at : ℕ) (a : Attr) → Change max_at [] (offset_before (at + 4) ∷ []) (Offset b v) at a
after_offset max_at b v at attr.Size = inr (refl, refl)
after_offset max_at b v at attr.Max = inr (refl, refl)
after_offset max_at b v at attr.First = inl (refl, refl, ap Some (back_four at))
after_offset max_at b v at attr.Length = inr (refl, refl)
after_offset max_at b v at attr.Last = inr (refl, refl)
after_offset max_at b v at attr.Switch = inr (refl, refl)

after_count : (max_at : Option ℕ) (b : Bool) (o l v at at' : ℕ) → at' ≡ at → (a : Attr) → Change max_at (offset_before at ∷ []) (counts_at at' ∷ []) (Actual b o l v) at a
after_count max_at b o l v at at' e attr.Size = inr (refl, refl)
after_count max_at b o l v at at' e attr.Max = inr (refl, refl)
after_count max_at b o l v at at' e attr.First = inr (refl, ap (λ j. Some (j - 4)) (sym e))
after_count max_at b o l v at at' e attr.Length = inl (refl, refl, ap Some e)
after_count max_at b o l v at at' e attr.Last = inl (refl, refl, ap Some e)
after_count max_at b o l v at at' e attr.Switch = inr (refl, refl)

pub not_none : (bound : Option ℕ) (s : State) → bound ≢ Some 0 → limit_of (text_bound bound) s ≡ bound_or bound s.max
not_none None s e = refl
not_none (Some zero) s e = absurd (e refl)
not_none (Some (suc n)) s e = refl

module _ (order : Order) (fetched os : List ℕ) (code : List Instr) (values : List EnumList) (table : Table) (h : Home) (own limit : ℕ) (noted : List Item) (direct : ℕ) (target : List ℕ → Read)
    (planned : IsPlanned code values table) where
  abbrev Right : List Item → ℕ → List EntryAt → Outcome → Type 0
  Right news at seen o = IsRight order (fetched ++ os) code table h own limit (noted ++ news) direct target at seen o

  module _ (s : State) (k : ℕ) (fs : List Around) (seen : List EntryAt) (names : Names) (t : ℕ) (fine : IsFine table (suc k) t) (w : Within code table h own limit seen (suc k) fs t (parts_of s))
      (reached : length fetched ≡ s.at)
    where
      abbrev n : ℕ
      n = length (nodes_around fs)

      abbrev entry_of : Kind → EntryAt
      entry_of x = record { at = s.at; entry = record { home = h; node = n; kind = x } }

      same_count : length s.nodes ≡ n
      same_count = ap length w.nodes

      further : (size : ℕ) → length os ≡ size → length (fetched ++ os) ≡ s.at + size
      further size e = let l : length (fetched ++ os) ≡ length fetched + length os = length-append fetched os in omega (arith, l, reached, e)

      module _ (size : length os ≡ 4) (short : s.at + 4 ≤ STREAM_LIMIT) where
        abbrev v : ℕ
        v = unsigned order os

        -- the entry of a count, of a kind that is no maximum count, and is not refused
        counted_within : (x : Kind) → is_max x ≡ false → Within code table h own limit (seen ++ entry_of x ∷ []) (suc k) fs t (parts_of s)
        counted_within x m = within_passed code table h own limit seen (suc k) fs t (parts_of s) (entry_of x)
            (λ a j l. later_node a h j (entry_of x) m (let e : length s.nodes ≡ n = same_count in omega (arith, l, e))) w

        -- the offset of a varying array
        pub offset_right : (elem : TypeId) (bound : Option ℕ) → type_at table t ≡ Some (def.Array elem bound true) → IsRunAt code s.pc (body_run code table t (def.Array elem bound true))
            → Told noted direct order fetched h seen names s.cells s.numbers s.max_at (length s.nodes) []
            → ((later : List ℕ) → finish order (fetched ++ later) table h s.max (suc k) fs
            (read_at order (fetched ++ later) table h s.max (suc k) (opened t (def.Array elem bound true)) n (going s.at seen) names) ≡ target (fetched ++ later))
            → Right (count_items order h os item.Offset s) s.at seen (goes (past 4 (offset_read v) s))
        offset_right elem bound et run told rest =
            let x : EntryAt = entry_of (Offset false v) in
            let told' : Told (noted ++ count_items order h os item.Offset s) direct order (fetched ++ os) h (seen ++ x ∷ []) names s.cells s.numbers s.max_at (length s.nodes)
            (offset_before (s.at + 4) ∷ []) =
            subst (λ j. Told (noted ++ count_items order h os item.Offset s) direct order (fetched ++ os) h (seen ++ x ∷ []) names s.cells s.numbers s.max_at j (offset_before (s.at + 4) ∷ []))
            (sym same_count)
            (told_counted order fetched os h s.at (Offset false v) seen names s.cells s.numbers s.max_at n [] (offset_before (s.at + 4) ∷ []) (count_items order h os item.Offset s)
            (items_it order fetched os [] s.at reached x.entry seen (sym size) ∙ ap (λ j. item_here h s.at item.Offset 4 (pos v) j ∷ []) (sym same_count)) refl tt refl
            (lies_it order fetched os [] s.at reached x.entry seen (sym size)) (after_offset s.max_at false v s.at)
            (subst (λ j. Told noted direct order fetched h seen names s.cells s.numbers s.max_at j []) same_count told)) in
            plain_good order (fetched ++ os) code table h own limit (noted ++ count_items order h os item.Offset s) direct target
            (at_offset t (def.Array elem bound true) (bound_or bound s.max) elem.0 v) tt (past 4 (offset_read v) s) (suc k) fs (seen ++ x ∷ []) names
            (counted_within (Offset false v) refl) (fine, (elem, bound, refl, et, refl, refl, run)) refl tt (let r : length (fetched ++ os) ≡ s.at + 4 = further 4 size in omega (arith, r)) tt told'
            (λ later.
            let octets : List ℕ = (fetched ++ os) ++ later in
            let judge : (y : ℕ) → refusal order octets seen (entry_of (Offset false y)) ≡ None =
            λ y. judged order fetched os later s.at reached (entry_of (Offset false y)).entry seen (sym size) (no_less STREAM_LIMIT (s.at + 4) short) in
            ap (finish order octets table h s.max (suc k) fs)
            (sym (array_offset order octets table h s.max k t n v elem bound s.at seen names
            (sym (ap (number_in order octets) (taken_it order fetched os later s.at reached (entry_of (Offset false 0)).entry seen (sym size) (judge 0))))
            ∙ ap (λ p. read_at order octets table h s.max (suc k) (at_offset t (def.Array elem bound true) (bound_or bound s.max) elem.0 v) n p names)
            (passed order octets x.entry s.at seen (judge v))))
            ∙ onward fetched os
            (λ o. finish order o table h s.max (suc k) fs (read_at order o table h s.max (suc k) (opened t (def.Array elem bound true)) n (going s.at seen) names) ≡ target o) rest later)

        -- its actual count
        pub count_right : (elem : TypeId) (bound : Option ℕ) (max o : ℕ) → type_at table t ≡ Some (def.Array elem bound true) → IsFine table k elem.0 → IsRunAt code (s.pc + 1) (op.Ret ∷ [])
            → Told noted direct order fetched h seen names s.cells s.numbers s.max_at (length s.nodes) (offset_before s.at ∷ [])
            → ((later : List ℕ) → finish order (fetched ++ later) table h s.max (suc k) fs
            (read_at order (fetched ++ later) table h s.max (suc k) (at_offset t (def.Array elem bound true) max elem.0 o) n (going s.at seen) names) ≡ target (fetched ++ later))
            → Right (count_items order h os item.Actual s) s.at seen (vary_by values order os (offset_read o) max (place_at table elem.0) s)
        count_right elem bound max o et inner run told rest = by_test (ltb max (o + v)) refl
          where
            x : EntryAt
            x = entry_of (Actual false o max v)

            judge : (b : Bool) → ltb max (o + v) ≡ b → (later : List ℕ) (y : ℕ)
                → refusal order ((fetched ++ os) ++ later) seen (entry_of (Actual false o max y)) ≡ refused_if b (s.at, reason.PastBound) None
            judge b e later y =
                judged order fetched os later s.at reached (entry_of (Actual false o max y)).entry seen (sym size) (no_less STREAM_LIMIT (s.at + 4) short)
                ∙ ap (λ c. refused_if c (s.at, reason.PastBound) None) e

            on_it : (later : List ℕ) → finish order ((fetched ++ os) ++ later) table h s.max (suc k) fs
                (read_at order ((fetched ++ os) ++ later) table h s.max (suc k) (at_offset t (def.Array elem bound true) max elem.0 o) n (going s.at seen) names) ≡ target ((fetched ++ os) ++ later)
            on_it = onward fetched os
                (λ u. finish order u table h s.max (suc k) fs (read_at order u table h s.max (suc k) (at_offset t (def.Array elem bound true) max elem.0 o) n (going s.at seen) names) ≡ target u) rest

            told' : Told (noted ++ count_items order h os item.Actual s) direct order (fetched ++ os) h (seen ++ x ∷ []) names s.cells s.numbers s.max_at (length s.nodes) (counts_at s.at ∷ [])
            told' =
                subst (λ j. Told (noted ++ count_items order h os item.Actual s) direct order (fetched ++ os) h (seen ++ x ∷ []) names s.cells s.numbers s.max_at j (counts_at s.at ∷ []))
                (sym same_count)
                (told_counted order fetched os h s.at (Actual false o max v) seen names s.cells s.numbers s.max_at n (offset_before s.at ∷ []) (counts_at s.at ∷ [])
                (count_items order h os item.Actual s)
                (items_it order fetched os [] s.at reached x.entry seen (sym size) ∙ ap (λ j. item_here h s.at item.Actual 4 (pos v) j ∷ []) (sym same_count)) refl tt refl
                (lies_it order fetched os [] s.at reached x.entry seen (sym size)) (after_count s.max_at false o max v s.at s.at refl)
                (subst (λ j. Told noted direct order fetched h seen names s.cells s.numbers s.max_at j (offset_before s.at ∷ [])) same_count told))

            by_test : (b : Bool) → ltb max (o + v) ≡ b
                → Right (count_items order h os item.Actual s) s.at seen
                (if b then refused s.at reason.PastBound else goes (elements v (place_at table elem.0) (with_node (tree.Arr max o, v) (Some s.at) (past 4 begun s))))
            by_test true e = λ later.
                (count_next order ((fetched ++ os) ++ later) table h k s.max fs n s.at seen names (target ((fetched ++ os) ++ later)) t max elem.0 o (def.Array elem bound true) (on_it later))
                (s.at, reason.PastBound) (judge true e later 0)
            by_test false e =
                elements_right order (fetched ++ os) code values table h own limit (noted ++ count_items order h os item.Actual s) direct target planned (past 4 begun s) k fs
                (seen ++ x ∷ []) names t max o v elem bound true (Some s.at) (counts_at s.at ∷ []) et inner
                (counted_within (Actual false o max v) refl)
                (none_found order (fetched ++ os) h (seen ++ x ∷ []) names s.cells s.numbers s.max_at (length s.nodes) (counts_at s.at ∷ []) told')
                told' (further 4 size) run
                (λ later.
                let octets : List ℕ = (fetched ++ os) ++ later in
                ap (finish order octets table h s.max (suc k) fs)
                (sym (array_count order octets table h s.max k t n max elem.0 o v (def.Array elem bound true) s.at seen names
                (sym (ap (number_in order octets) (taken_it order fetched os later s.at reached (entry_of (Actual false o max 0)).entry seen (sym size) (judge false e later 0))))
                ∙ ap (λ p. read_children order octets table h (read_in_place order octets table h k s.max) (Some (def.Array elem bound true)) n (tree.Arr max o) (replicate v elem.0) p names)
                (passed order octets x.entry s.at seen (judge false e later v))))
                ∙ on_it later)

        -- the offset of a text
        pub text_offset_right : (elem : TypeId) (bound : Option ℕ) (lim : ℕ) → type_at table t ≡ Some (def.Text elem bound) → bound ≢ Some 0
            → IsRunAt code s.pc (body_run code table t (def.Text elem bound))
            → Told noted direct order fetched h seen names s.cells s.numbers s.max_at (length s.nodes) []
            → ((later : List ℕ) → finish order (fetched ++ later) table h s.max (suc k) fs
            (read_at order (fetched ++ later) table h s.max (suc k) (opened t (def.Text elem bound)) n (going s.at seen) names) ≡ target (fetched ++ later))
            → Right (count_items order h os item.Offset s) s.at seen (text_by values order os begun lim s)
        text_offset_right elem bound lim et some_bound run told rest = by_test (eqb v 0) refl
          where
            x : EntryAt
            x = entry_of (Offset true 0)

            judge : (b : Bool) → eqb v 0 ≡ b → (later : List ℕ) → refusal order ((fetched ++ os) ++ later) seen x ≡ refused_if (not b) (s.at, reason.TextOffset) None
            judge b e later =
                judged order fetched os later s.at reached x.entry seen (sym size) (no_less STREAM_LIMIT (s.at + 4) short)
                ∙ ap (λ c. refused_if (not c) (s.at, reason.TextOffset) None) e

            on_it : (later : List ℕ) → finish order ((fetched ++ os) ++ later) table h s.max (suc k) fs
                (read_at order ((fetched ++ os) ++ later) table h s.max (suc k) (opened t (def.Text elem bound)) n (going s.at seen) names) ≡ target ((fetched ++ os) ++ later)
            on_it = onward fetched os (λ u. finish order u table h s.max (suc k) fs (read_at order u table h s.max (suc k) (opened t (def.Text elem bound)) n (going s.at seen) names) ≡ target u) rest

            told' : Told (noted ++ count_items order h os item.Offset s) direct order (fetched ++ os) h (seen ++ x ∷ []) names s.cells s.numbers s.max_at (length s.nodes)
                (offset_before (s.at + 4) ∷ [])
            told' =
                subst (λ j. Told (noted ++ count_items order h os item.Offset s) direct order (fetched ++ os) h (seen ++ x ∷ []) names s.cells s.numbers s.max_at j (offset_before (s.at + 4) ∷ []))
                (sym same_count)
                (told_counted order fetched os h s.at (Offset true 0) seen names s.cells s.numbers s.max_at n [] (offset_before (s.at + 4) ∷ []) (count_items order h os item.Offset s)
                (items_it order fetched os [] s.at reached x.entry seen (sym size) ∙ ap (λ j. item_here h s.at item.Offset 4 (pos v) j ∷ []) (sym same_count)) refl tt refl
                (lies_it order fetched os [] s.at reached x.entry seen (sym size)) (after_offset s.max_at true 0 s.at)
                (subst (λ j. Told noted direct order fetched h seen names s.cells s.numbers s.max_at j []) same_count told))

            by_test : (b : Bool) → eqb v 0 ≡ b → Right (count_items order h os item.Offset s) s.at seen (if b then goes (past 4 (offset_read 0) s) else refused s.at reason.TextOffset)
            by_test false e = λ later.
                (text_offset_next order ((fetched ++ os) ++ later) table h k s.max fs n s.at seen names (target ((fetched ++ os) ++ later)) t elem bound (on_it later)) (s.at, reason.TextOffset)
                (judge false e later)
            by_test true e =
                plain_good order (fetched ++ os) code table h own limit (noted ++ count_items order h os item.Offset s) direct target (text_offset t (bound_or bound s.max)) tt
                (past 4 (offset_read 0) s) (suc k) fs (seen ++ x ∷ []) names
                (counted_within (Offset true 0) refl) (fine, (elem, bound, et, some_bound, refl, run)) refl tt (let r : length (fetched ++ os) ≡ s.at + 4 = further 4 size in omega (arith, r)) tt told'
                (λ later.
                let octets : List ℕ = (fetched ++ os) ++ later in
                ap (finish order octets table h s.max (suc k) fs)
                (sym (text_begins order octets table h s.max k t n elem bound (going s.at seen) names
                ∙ ap (λ p. read_at order octets table h s.max (suc k) (text_offset t (bound_or bound s.max)) n p names) (passed order octets x.entry s.at seen (judge true e later))))
                ∙ on_it later)

        -- its actual count
        pub text_count_right : (elem : TypeId) (bound : Option ℕ) (max : ℕ) → type_at table t ≡ Some (def.Text elem bound) → bound ≢ Some 0 → max ≡ bound_or bound s.max
            → IsRunAt code s.pc (body_run code table t (def.Text elem bound))
            → Told noted direct order fetched h seen names s.cells s.numbers s.max_at (length s.nodes) (offset_before s.at ∷ [])
            → ((later : List ℕ) → finish order (fetched ++ later) table h s.max (suc k) fs
            (read_at order (fetched ++ later) table h s.max (suc k) (text_offset t max) n (going s.at seen) names) ≡ target (fetched ++ later))
            → Right (count_items order h os item.Actual s) s.at seen (text_by values order os (offset_read 0) max s)
        text_count_right elem bound max et some_bound em run told rest = by_zero (eqb v 0) refl
          where
            x : EntryAt
            x = entry_of (Actual true 0 max (v - 1 + 1))

            zero_plus : 0 + v ≡ v
            zero_plus = omega arith

            judge : (b c : Bool) → eqb v 0 ≡ b → ltb max v ≡ c → (later : List ℕ) (y : ℕ)
                → refusal order ((fetched ++ os) ++ later) seen (entry_of (Actual true 0 max y)) ≡ refused_if b (s.at, reason.TextEmpty) (refused_if c (s.at, reason.PastBound) None)
            judge b c e l later y =
                judged order fetched os later s.at reached (entry_of (Actual true 0 max y)).entry seen (sym size) (no_less STREAM_LIMIT (s.at + 4) short)
                ∙ ap₂ (λ d f. refused_if d (s.at, reason.TextEmpty) (refused_if f (s.at, reason.PastBound) None)) e (ap (ltb max) zero_plus ∙ l)

            on_it : (later : List ℕ) → finish order ((fetched ++ os) ++ later) table h s.max (suc k) fs
                (read_at order ((fetched ++ os) ++ later) table h s.max (suc k) (text_offset t max) n (going s.at seen) names) ≡ target ((fetched ++ os) ++ later)
            on_it = onward fetched os (λ u. finish order u table h s.max (suc k) fs (read_at order u table h s.max (suc k) (text_offset t max) n (going s.at seen) names) ≡ target u) rest

            told' : Told (noted ++ count_items order h os item.Actual s) direct order (fetched ++ os) h (seen ++ x ∷ []) names s.cells s.numbers s.max_at (length s.nodes)
                (counts_at (s.at + 4 - 4) ∷ [])
            told' =
                subst (λ j. Told (noted ++ count_items order h os item.Actual s) direct order (fetched ++ os) h (seen ++ x ∷ []) names s.cells s.numbers s.max_at j (counts_at (s.at + 4 - 4) ∷ []))
                (sym same_count)
                (told_counted order fetched os h s.at (Actual true 0 max (v - 1 + 1)) seen names s.cells s.numbers s.max_at n (offset_before s.at ∷ []) (counts_at (s.at + 4 - 4) ∷ [])
                (count_items order h os item.Actual s)
                (items_it order fetched os [] s.at reached x.entry seen (sym size) ∙ ap (λ j. item_here h s.at item.Actual 4 (pos v) j ∷ []) (sym same_count)) refl tt refl
                (lies_it order fetched os [] s.at reached x.entry seen (sym size)) (after_count s.max_at true 0 max (v - 1 + 1) s.at (s.at + 4 - 4) (back_four s.at))
                (subst (λ j. Told noted direct order fetched h seen names s.cells s.numbers s.max_at j (offset_before s.at ∷ [])) same_count told))

            stops_it : (later : List ℕ) (why : ℕ × Reason) → refusal order ((fetched ++ os) ++ later) seen (entry_of (Actual true 0 max 0)) ≡ Some why
                → (target ((fetched ++ os) ++ later)).progress ≡ stopped s.at seen why
            stops_it later = text_count_next order ((fetched ++ os) ++ later) table h k s.max fs n s.at seen names (target ((fetched ++ os) ++ later)) t max (on_it later)

            by_bound : (b : Bool) → eqb v 0 ≡ false → ltb max v ≡ b
                → Right (count_items order h os item.Actual s) s.at seen (if b then refused s.at reason.PastBound else goes (past 4 (count_read (v - 1)) s))
            by_bound true z e = λ later. stops_it later (s.at, reason.PastBound) (judge false true z e later 0)
            by_bound false z e =
                plain_good order (fetched ++ os) code table h own limit (noted ++ count_items order h os item.Actual s) direct target (text_counted t max (v - 1)) tt (past 4 (count_read (v - 1)) s)
                (suc k) fs (seen ++ x ∷ []) names
                (counted_within (Actual true 0 max (v - 1 + 1)) refl) (fine, (elem, bound, et, some_bound, em, run)) refl tt
                (let r : length (fetched ++ os) ≡ s.at + 4 = further 4 size in omega (arith, r)) tt told'
                (λ later.
                let octets : List ℕ = (fetched ++ os) ++ later in
                ap (finish order octets table h s.max (suc k) fs)
                (sym (text_count order octets table h s.max k t n max v (going s.at seen) names
                (sym (ap (number_in order octets) (taken_it order fetched os later s.at reached (entry_of (Actual true 0 max 0)).entry seen (sym size) (judge false false z e later 0))))
                ∙ ap (λ p. read_at order octets table h s.max (suc k) (text_counted t max (v - 1)) n p names) (passed order octets x.entry s.at seen (judge false false z e later (v - 1 + 1)))))
                ∙ on_it later)

            by_zero : (b : Bool) → eqb v 0 ≡ b
                → Right (count_items order h os item.Actual s) s.at seen
                (if b then refused s.at reason.TextEmpty else (if ltb max v then refused s.at reason.PastBound else goes (past 4 (count_read (v - 1)) s)))
            by_zero true e = λ later. stops_it later (s.at, reason.TextEmpty) (judge true (ltb max v) e refl later 0)
            by_zero false e = by_bound (ltb max v) e refl

      -- its octets
      pub text_right : (elem : TypeId) (bound : Option ℕ) (max c : ℕ) → type_at table t ≡ Some (def.Text elem bound) → IsRunAt code (s.pc + 1) (op.Ret ∷ [])
          → length os ≡ c + 1 → s.at + (c + 1) ≤ STREAM_LIMIT
          → Told noted direct order fetched h seen names s.cells s.numbers s.max_at (length s.nodes) (counts_at (s.at - 4) ∷ [])
          → ((later : List ℕ) → finish order (fetched ++ later) table h s.max (suc k) fs
          (read_at order (fetched ++ later) table h s.max (suc k) (text_counted t max c) n (going s.at seen) names) ≡ target (fetched ++ later))
          → Right (next_item h s item.Text (length os) (pos (length os)) ∷ []) s.at seen (text_by values order os (count_read c) max s)
      text_right elem bound max c et run size short told rest = by_refusal (text_refusal s.at os) refl
        where
          zeros : List ℕ
          zeros = replicate c 0

          text : List ℕ
          text = take (length os - 1) os

          text_is : take c os ≡ text
          text_is = let e : c ≡ length os - 1 = omega (arith, size) in ap (λ j. take j os) e

          taken_length : (j : ℕ) (xs : List ℕ) → length xs ≡ j + 1 → length (take j xs) ≡ j
          taken_length zero [] e = refl
          taken_length zero (y ∷ xs) e = refl
          taken_length (suc j) [] e = absurd (omega (arith, e))
          taken_length (suc j) (y ∷ xs) e = let l : length (take j xs) ≡ j = taken_length j xs (omega (arith, e)) in ap suc l

          text_size : length text + 1 ≡ length os
          text_size = let l : length text ≡ c = ap length (sym text_is) ∙ taken_length c os size in omega (arith, l, size)

          zeros_size : length zeros + 1 ≡ length os
          zeros_size = let l : length zeros ≡ c = length-replicate c 0 in omega (arith, l, size)

          x : EntryAt
          x = entry_of (Text text)

          judge : (r : Option (ℕ × Reason)) → text_refusal s.at os ≡ r → (later : List ℕ) (y : List ℕ) → length y + 1 ≡ length os
              → refusal order ((fetched ++ os) ++ later) seen (entry_of (Text y)) ≡ r
          judge r e later y l = judged order fetched os later s.at reached (entry_of (Text y)).entry seen l (no_less STREAM_LIMIT (s.at + (length y + 1)) (omega (arith, l, size, short))) ∙ e

          on_it : (later : List ℕ) → finish order ((fetched ++ os) ++ later) table h s.max (suc k) fs
              (read_at order ((fetched ++ os) ++ later) table h s.max (suc k) (text_counted t max c) n (going s.at seen) names) ≡ target ((fetched ++ os) ++ later)
          on_it = onward fetched os (λ u. finish order u table h s.max (suc k) fs (read_at order u table h s.max (suc k) (text_counted t max c) n (going s.at seen) names) ≡ target u) rest

          by_refusal : (r : Option (ℕ × Reason)) → text_refusal s.at os ≡ r → Right (next_item h s item.Text (length os) (pos (length os)) ∷ []) s.at seen (text_done r max os s)
          by_refusal (Some why) e = λ later.
              (text_next order ((fetched ++ os) ++ later) table h k s.max fs n s.at seen names (target ((fetched ++ os) ++ later)) t max c (on_it later)) why
              (judge (Some why) e later zeros zeros_size)
          by_refusal None e =
              let told' : Told (noted ++ next_item h s item.Text (length os) (pos (length os)) ∷ []) direct order (fetched ++ os) h (seen ++ x ∷ []) names s.cells s.numbers s.max_at (length s.nodes)
              (counts_at (s.at - 4) ∷ []) =
              told_passed (next_item h s item.Text (length os) (pos (length os)) ∷ []) order fetched os h seen names s.cells s.numbers s.max_at (length s.nodes) (counts_at (s.at - 4) ∷ []) x
              (items_it order fetched os [] s.at reached x.entry seen text_size ∙ ap₂ (λ l j. item_here h s.at item.Text l (pos (length os)) j ∷ []) text_size (sym same_count)) tt tt refl
              (lies_it order fetched os [] s.at reached x.entry seen text_size) told in
              leaf_good order (fetched ++ os) code table h own limit (noted ++ next_item h s item.Text (length os) (pos (length os)) ∷ []) direct target (parts_of s) (s.pc + 1)
              (s.at + length os) s.max s.tag s.carrier s.fresh s.cells s.numbers (tree.Text max text) (Some (s.at - 4)) (counts_at (s.at - 4) ∷ []) (seen ++ x ∷ []) names (suc k) fs t
              (within_passed code table h own limit seen (suc k) fs t (parts_of s) x (λ a j l. silent a h j x tt) w)
              (none_found order (fetched ++ os) h (seen ++ x ∷ []) names s.cells s.numbers s.max_at (length s.nodes) (counts_at (s.at - 4) ∷ []) told')
              told'
              (further (length os) refl)
              (at_ret run)
              (no_pointer (type_at table t))
              (w.pending ∙ ap (map (owed table)) (sym (append-nil (pointers_around table h fs)) ∙ ap (λ ps. pointers_around table h fs ++ ps) (sym (of_text table h t n max text elem bound et))))
              (λ later.
              let octets : List ℕ = (fetched ++ os) ++ later in
              ap (finish order octets table h s.max (suc k) fs)
              (sym (text_ends order octets table h s.max k t n max c text (going s.at seen) names
              (sym (ap (text_in order octets c) (taken_it order fetched os later s.at reached (entry_of (Text zeros)).entry seen zeros_size (judge None e later zeros zeros_size)) ∙ text_is))
              ∙ ap (λ p. read_at order octets table h s.max (suc k) (has t (node (tree.Text max text) none)) n p names)
              (passed order octets x.entry s.at seen (judge None e later text text_size) ∙ ap (λ j. going (s.at + j) (seen ++ x ∷ [])) text_size)))
              ∙ on_it later)
