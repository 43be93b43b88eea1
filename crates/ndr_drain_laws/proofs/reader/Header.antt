-- The gap and the count of a chunk, as the plain reader reads them: cut short, past the limit of a stream, or there.
-- `before` are the octets before the place, `g` those of the gap, `os` those of the count, `later` any octets after them.
use Rattle.std.proofs.Common.{◌≡◌, ◌≤◌, ◌<◌, ℕ, ◌+◌, true, false, List, [], ◌∷◌, ◌++◌, length, length-append, append_assoc, Some, None, refl, ap, ap₂, sym, ◌∙◌, subst, arith, replicate}
use Rattle.std.specs.Prelude.{ltb}
use Rattle.std.proofs.lemmas.List.{append-nil}
use Rattle.nd_base.specs.declared.octets.Order.{Order}
use Rattle.nd_base.specs.declared.TheConstants.{STREAM_LIMIT}
use Rattle.nd_types.specs.declared.types.Attr.{Attr}
use Rattle.nd_types.specs.declared.types.Attr.TheVariants as attr
use Rattle.nd_types.specs.Number.{unsigned}
use Rattle.nd_value.specs.declared.item.Home.{Home}
use Rattle.nd_value.specs.declared.item.Home.TheVariants as home
use Rattle.nd_value.specs.Setting.{Setting}
use Rattle.nd_grammar.specs.declared.reason.Reason.{Reason}
use Rattle.nd_grammar.specs.declared.reason.Reason.TheVariants as reason
use Rattle.nd_grammar.specs.Entry.{Entry, EntryAt, Align, Chunk, gap}
use Rattle.nd_grammar.specs.Items.{items}
use Rattle.nd_grammar.specs.Reader.{Progress, ReadAll, number_in, pass, read_in_place, read_list, taken, taken_by}
use Rattle.nd_grammar.specs.Refusal.{refusal, tested_at}
use Rattle.nd_grammar.specs.Stream.{piece}
use Rattle.ndr_drain_laws.specs.parts.Parts.{Spot, elem_at}
use Rattle.ndr_decoder_laws.specs.reader.Around.{going, stopped}
use Rattle.ndr_decoder_laws.proofs.reader.Continuing.{passed, refused}
use Rattle.ndr_decoder_laws.proofs.reader.Fetched.{cut_refused, long_refused}
use Rattle.ndr_decoder_laws.specs.steps.Good.{Told, place_at}
use Rattle.ndr_decoder_laws.specs.steps.StepItems.{gap_items}
use Rattle.ndr_decoder_laws.specs.steps.Steps.{place_of}
use Rattle.ndr_decoder_laws.proofs.steps.Passing.{gap_noted, items_it, items_stay, judged, lies_it, taken_it, told_passed}
use Rattle.std.proofs.lemmas.Bool.{le-ltb as no_less, lt-ltb as is_less}
use Rattle.ndr_decoder_laws.specs.stream.Added.{Added}
use Rattle.ndr_decoder_laws.proofs.stream.Growing.{added_twice, in_place_adds, list_adds, pass_adds}
use Rattle.ndr_decoder_laws.proofs.verdict.CellsSeen.{none_seen}
use Rattle.ndr_drain_laws.specs.reader.PartReader.{after_count, gap_seen, header_items, header_seen, no_names, of_pipe, past_gap, read_part}

-- nothing ahead has a count or tag
nothing_ahead : (h : Home) (a : Attr) (j : ℕ) → tested_at [] a h (1 + j) ≡ place_of a None (place_at [] j)
nothing_ahead h attr.Size j = refl
nothing_ahead h attr.Max j = refl
nothing_ahead h attr.First j = refl
nothing_ahead h attr.Length j = refl
nothing_ahead h attr.Last j = refl
nothing_ahead h attr.Switch j = refl

module _ (w : Setting) (order : Order) (s : Spot) (before : List ℕ) (of_place : length before ≡ s.place) where
  abbrev h : Home
  h = home.Root s.root

  abbrev m : Entry
  m = of_pipe s (Align 4)

  abbrev n : ℕ → Entry
  n k = of_pipe s (Chunk k)

  abbrev gp : ℕ
  gp = s.place + gap s.place 4

  -- the count and the elements, from the place after the gap on
  abbrev by_count : List ℕ → Progress → ℕ → ReadAll
  by_count z p k = read_list w.table (read_in_place order z w.table (home.Root s.root) 32 0) (replicate k (elem_at w s.root)) 1 (pass order z (of_pipe s (Chunk k)) p) no_names

  abbrev from_gap : List ℕ → Progress → ReadAll
  from_gap z p = by_count z p (number_in order z (taken order z (of_pipe s (Chunk 0)) p))

  from_stopped : (z : List ℕ) (at : ℕ) (seen : List EntryAt) (why : ℕ × Reason) (p : Progress) → p ≡ stopped at seen why → (from_gap z p).progress ≡ stopped at seen why
  from_stopped z at seen why p e = ap (λ u. (from_gap z u).progress) e

  -- ## The gap

  pub gap_short : (os : List ℕ) → length os < gap s.place 4 → (read_part w order (before ++ os) s).progress ≡ stopped s.place [] (length (before ++ os), reason.Truncated)
  gap_short os less =
      let why : ℕ × Reason = (length (before ++ os), reason.Truncated) in
      let at_end : length os < gap (length before) 4 = subst (λ a. length os < gap a 4) (sym of_place) less in
      let e : refusal order (before ++ os) [] (record { at = s.place; entry = m }) ≡ Some why =
      subst (λ a. refusal order (before ++ os) [] (record { at = a; entry = m }) ≡ Some why) of_place (cut_refused order before os m [] at_end refl) in
      from_stopped (before ++ os) s.place [] why (past_gap w order (before ++ os) s) (refused order (before ++ os) m s.place [] why e)

  module _ (g : List ℕ) (size : length g ≡ gap s.place 4) where
    abbrev F : List ℕ
    F = before ++ g

    reached : length F ≡ gp
    reached = length-append before g ∙ ap₂ (λ a b. a + b) of_place size

    pub after_gap : (later : List ℕ) → past_gap w order ((before ++ g) ++ later) s ≡ going (s.place + gap s.place 4) (gap_seen s)
    after_gap later = passed order (F ++ later) m s.place [] (judged order before g later s.place of_place m [] (sym size) refl)

    -- what was read to the end of the gap
    told_gap : Told (gap_items h s.place g) 0 order F h (gap_seen s) no_names [] [] None 1 []
    told_gap =
        told_passed (gap_items h s.place g) order before g h [] no_names [] [] None 1 [] (record { at = s.place; entry = m })
        (items_it order before g [] s.place of_place m [] (sym size) ∙ gap_noted order h 0 4 s.place g (sym size)) tt tt refl (lies_it order before g [] s.place of_place m [] (sym size))
        (record {
          cells_are = refl;
          cells_named = record { named = none_seen; there = tt };
          numbers_are = λ v l. (refl, λ to. refl);
          ahead = nothing_ahead h;
          noted_are = refl;
          lie_within = tt;
        })

    pub gap_items_are : items order (before ++ g) (gap_seen s) ≡ gap_items (home.Root s.root) s.place g
    gap_items_are = told_gap.noted_are

    pub gap_items_in : (later : List ℕ) → items order ((before ++ g) ++ later) (gap_seen s) ≡ gap_items (home.Root s.root) s.place g
    gap_items_in later = items_stay order F later (gap_seen s) told_gap.lie_within ∙ gap_items_are

    -- reading goes on from the end of the gap
    pub goes_on : (later : List ℕ) → (added : List EntryAt) × ((read_part w order ((before ++ g) ++ later) s).progress.seen ≡ gap_seen s ++ added)
    goes_on later =
        let z : List ℕ = F ++ later in
        let p : Progress = going gp (gap_seen s) in
        let k : ℕ = number_in order z (taken order z (n 0) p) in
        let q : Progress = pass order z (n k) p in
        let r : ReadAll = by_count z p k in
        let a : Added h p r.progress =
        added_twice h p q r.progress (pass_adds order z h (n k) p refl)
        (list_adds order z w.table h (read_in_place order z w.table h 32 0) (in_place_adds order z w.table h 32 0) (replicate k (elem_at w s.root)) 1 q no_names) in
        (a.added, ap (λ u. (from_gap z u).progress.seen) (after_gap later) ∙ a.seen)

    -- ## The count

    count_stops : (z : List ℕ) (why : ℕ × Reason) → past_gap w order z s ≡ going gp (gap_seen s) → refusal order z (gap_seen s) (record { at = gp; entry = n 0 }) ≡ Some why
        → (read_part w order z s).progress ≡ stopped gp (gap_seen s) why
    count_stops z why e f =
        let t : taken order z (n 0) (going gp (gap_seen s)) ≡ None = ap (λ o. taken_by None o (piece z gp (Chunk 0))) f in
        ap (λ p. (from_gap z p).progress) e ∙ ap (λ o. (by_count z (going gp (gap_seen s)) (number_in order z o)).progress) t ∙ refused order z (n 0) gp (gap_seen s) why f

    pub count_short : (os : List ℕ) → length os < 4 → after_count s ≤ STREAM_LIMIT
        → (read_part w order ((before ++ g) ++ os) s).progress ≡ stopped (s.place + gap s.place 4) (gap_seen s) (length ((before ++ g) ++ os), reason.Truncated)
    count_short os less short =
        let why : ℕ × Reason = (length (F ++ os), reason.Truncated) in
        let l : ltb STREAM_LIMIT (length F + 4) ≡ false = no_less STREAM_LIMIT (length F + 4) (omega (arith, reached, short)) in
        count_stops (F ++ os) why (after_gap os)
        (subst (λ a. refusal order (F ++ os) (gap_seen s) (record { at = a; entry = n 0 }) ≡ Some why) reached (cut_refused order F os (n 0) (gap_seen s) less l))

    pub count_far : STREAM_LIMIT < after_count s → (later : List ℕ)
        → (read_part w order ((before ++ g) ++ later) s).progress ≡ stopped (s.place + gap s.place 4) (gap_seen s) (STREAM_LIMIT, reason.TooLong)
    count_far far later =
        let why : ℕ × Reason = (STREAM_LIMIT, reason.TooLong) in
        let l : ltb STREAM_LIMIT (length F + 4) ≡ true = is_less STREAM_LIMIT (length F + 4) (omega (arith, reached, far)) in
        count_stops (F ++ later) why (after_gap later)
        (subst (λ a. refusal order (F ++ later) (gap_seen s) (record { at = a; entry = n 0 }) ≡ Some why) reached
        (ap (λ z. refusal order (z ++ later) (gap_seen s) (record { at = length F; entry = n 0 })) (sym (append-nil F)) ∙ long_refused order F [] later (n 0) (gap_seen s) l))

    module _ (os : List ℕ) (four : length os ≡ 4) (short : after_count s ≤ STREAM_LIMIT) where
      not_long : ltb STREAM_LIMIT (gp + 4) ≡ false
      not_long = no_less STREAM_LIMIT (gp + 4) short

      judge : (later : List ℕ) (u : ℕ) → refusal order ((F ++ os) ++ later) (gap_seen s) (record { at = gp; entry = n u }) ≡ None
      judge later u = judged order F os later gp reached (n u) (gap_seen s) (sym four) not_long

      -- so many elements come after it
      pub count_there : (later : List ℕ) → read_part w order (((before ++ g) ++ os) ++ later) s
          ≡ read_list w.table (read_in_place order (((before ++ g) ++ os) ++ later) w.table (home.Root s.root) 32 0) (replicate (unsigned order os) (elem_at w s.root)) 1
          (going (after_count s) (header_seen s (unsigned order os))) no_names
      count_there later =
          let z : List ℕ = (F ++ os) ++ later in
          let v : ℕ = unsigned order os in
          let p : past_gap w order z s ≡ going gp (gap_seen s) = subst (λ u. past_gap w order u s ≡ going gp (gap_seen s)) (sym (append_assoc F os later)) (after_gap (os ++ later)) in
          let t : taken order z (n 0) (going gp (gap_seen s)) ≡ Some os = taken_it order F os later gp reached (n 0) (gap_seen s) (sym four) (judge later 0) in
          let q : pass order z (n v) (going gp (gap_seen s)) ≡ going (gp + 4) (gap_seen s ++ record { at = gp; entry = n v } ∷ []) = passed order z (n v) gp (gap_seen s) (judge later v) in
          ap (from_gap z) p ∙ ap (λ o. by_count z (going gp (gap_seen s)) (number_in order z o)) t
          ∙ ap (λ u. read_list w.table (read_in_place order z w.table h 32 0) (replicate v (elem_at w s.root)) 1 u no_names) q

      -- what was read to its end
      pub told_count : Told (header_items order s g os) 0 order ((before ++ g) ++ os) (home.Root s.root) (header_seen s (unsigned order os)) no_names [] [] None 1 []
      told_count =
          let x : EntryAt = record { at = gp; entry = n (unsigned order os) } in
          told_passed _ order F os h (gap_seen s) no_names [] [] None 1 [] x (items_it order F os [] gp reached (n (unsigned order os)) (gap_seen s) (sym four)) tt tt refl
          (lies_it order F os [] gp reached (n (unsigned order os)) (gap_seen s) (sym four)) told_gap

      pub header_items_are : items order ((before ++ g) ++ os) (header_seen s (unsigned order os)) ≡ header_items order s g os
      header_items_are = told_count.noted_are
