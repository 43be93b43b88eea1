-- A chunk whose gap or count is refused or cut off, and one that ends its pipe.
use Rattle.std.proofs.Common.{◌≡◌, ◌≤◌, ◌<◌, ◌⊎◌, inl, inr, ℕ, ◌+◌, zero, suc, List, [], ◌∷◌, ◌++◌, length, length-append, append_assoc, length-take, take, drop, Some, refl, ap, sym, ◌∙◌, subst}
use Rattle.std.proofs.Common.{arith, replicate}
use Rattle.std.proofs.lemmas.Bool.{cases_lt}
use Rattle.std.proofs.lemmas.List.{append-nil, length-replicate, take-append-drop}
use Rattle.nd_base.specs.declared.octets.Order.{Order}
use Rattle.nd_base.specs.declared.TheConstants.{STREAM_LIMIT}
use Rattle.nd_types.specs.Number.{AreOctets, unsigned}
use Rattle.nd_value.specs.Setting.{Setting}
use Rattle.nd_value.specs.Tree as tree
use Rattle.nd_value.specs.Tree.{none}
use Rattle.nd_value.proofs.Apart.{all_append}
use Rattle.nd_grammar.specs.declared.reason.Reason.{Reason}
use Rattle.nd_grammar.specs.declared.reason.Reason.TheVariants as reason
use Rattle.nd_grammar.specs.Entry.{EntryAt, gap}
use Rattle.nd_grammar.specs.Items.{items}
use Rattle.nd_grammar.specs.LegalSide.{IsLegalSide}
use Rattle.nd_grammar.specs.Reader.{Progress, ReadAll, read_in_place, read_list}
use Rattle.ndr_drain_laws.specs.parts.Parts.{Spot, elem_at}
use Rattle.ndr_decoder_laws.specs.reader.Around.{going, stopped}
use Rattle.ndr_decoder_laws.specs.steps.StepItems.{gap_items}
use Rattle.ndr_drain_laws.specs.reader.PartReader.{IsAtPipe, after_count, before_place, gap_seen, header_items, header_seen, no_names, pipe_home, read_part}
use Rattle.ndr_drain_laws.specs.reader.Outcomes.{PartCut, PartRefused, PartWhole}
use Rattle.ndr_drain_laws.proofs.reader.Header.{count_far, count_short, count_there, gap_items_in, gap_short, goes_on, header_items_are}
use Rattle.ndr_drain_laws.proofs.reader.Refused.{IsNeededPart, refused_part}
use Rattle.ndr_drain_laws.proofs.reader.Through.{cut_here}
use Rattle.ndr_drain_laws.proofs.reader.Wholes.{whole_part}

pub zeros_are : (n : ℕ) → AreOctets (replicate {A = ℕ} n 0)
zeros_are zero = tt
zeros_are (suc n) = (omega arith, zeros_are n)

module _ (w : Setting) (side : IsLegalSide w) (order : Order) (s : Spot) (at_pipe : IsAtPipe w s) where
  abbrev Z : List ℕ
  Z = before_place s

  pub zeros_long : length (before_place s) ≡ s.place
  zeros_long = length-replicate s.place 0

  pub after_zeros : (xs : List ℕ) → AreOctets xs → AreOctets (before_place s ++ xs)
  after_zeros xs a = all_append (λ b. b < 256) Z xs (zeros_are s.place) a

  long_so : (xs : List ℕ) → length (Z ++ xs) ≡ s.place + length xs
  long_so xs = length-append Z xs ∙ ap (λ n. n + length xs) zeros_long

  stop_of : (p : Progress) (at : ℕ) (seen : List EntryAt) (why : ℕ × Reason) → p ≡ stopped at seen why → p.stop ≡ Some why
  stop_of p at seen why e = ap (λ (q : Progress). q.stop) e

  seen_of : (p : Progress) (at : ℕ) (seen : List EntryAt) (why : ℕ × Reason) → p ≡ stopped at seen why → p.seen ≡ seen
  seen_of p at seen why e = ap (λ (q : Progress). q.seen) e

  abbrev progress_of : List ℕ → Progress
  progress_of xs = (read_part w order (before_place s ++ xs) s).progress

  -- ## The gap

  gap_stops : (os : List ℕ) → length os < gap s.place 4 → progress_of os ≡ stopped s.place [] (length (Z ++ os), reason.Truncated)
  gap_stops os less = gap_short w order s Z zeros_long os less

  gap_needed : (os : List ℕ) → length os ≤ gap s.place 4 → IsNeededPart w order s Z os
  gap_needed os less part last e =
      let l : length os ≡ length part + 1 = ap length e ∙ length-append part (last ∷ []) in
      stop_of (progress_of part) s.place [] (length (Z ++ part), reason.Truncated) (gap_stops part (omega (arith, l, less)))

  pub gap_is_refused : (os : List ℕ) → AreOctets os → length os < gap s.place 4 → PartRefused w order s os [] (s.place + length os) reason.Truncated
  gap_is_refused os all less =
      let p : progress_of os ≡ stopped s.place [] (length (Z ++ os), reason.Truncated) = gap_stops os less in
      refused_part w side order s at_pipe Z os zeros_long (after_zeros os all) (s.place + length os) reason.Truncated
      (stop_of (progress_of os) s.place [] (length (Z ++ os), reason.Truncated) p ∙ ap (λ n. Some (n, reason.Truncated)) (long_so os))
      (gap_needed os (omega (arith, less))) [] (ap (items order (Z ++ os)) (seen_of (progress_of os) s.place [] (length (Z ++ os), reason.Truncated) p))

  pub gap_is_cut : (os : List ℕ) → AreOctets os → PartCut w order s os []
  gap_is_cut os all = cut_here w side order s at_pipe Z os zeros_long (after_zeros os all) [] (progress_of os).seen refl [] refl

  -- ## The count

  module _ (g : List ℕ) (g_octets : AreOctets g) (size : length g ≡ gap s.place 4) where
    abbrev gp : ℕ
    gp = s.place + gap s.place 4

    joined_so : (os : List ℕ) → (Z ++ g) ++ os ≡ Z ++ (g ++ os)
    joined_so os = append_assoc Z g os

    -- it would end past the limit of a stream
    pub count_is_long : STREAM_LIMIT < after_count s → PartRefused w order s g (gap_items (pipe_home s) s.place g) STREAM_LIMIT reason.TooLong
    count_is_long far =
        let why : ℕ × Reason = (STREAM_LIMIT, reason.TooLong) in
        let p : progress_of g ≡ stopped gp (gap_seen s) why =
        subst (λ z. (read_part w order z s).progress ≡ stopped gp (gap_seen s) why) (append-nil (Z ++ g)) (count_far w order s Z zeros_long g size far []) in
        let i : items order (Z ++ g) (gap_seen s) ≡ gap_items (pipe_home s) s.place g =
        subst (λ z. items order z (gap_seen s) ≡ gap_items (pipe_home s) s.place g) (append-nil (Z ++ g)) (gap_items_in w order s Z zeros_long g size []) in
        refused_part w side order s at_pipe Z g zeros_long (after_zeros g g_octets) STREAM_LIMIT reason.TooLong (stop_of (progress_of g) gp (gap_seen s) why p) (gap_needed g (omega (arith, size)))
        (gap_items (pipe_home s) s.place g) (ap (items order (Z ++ g)) (seen_of (progress_of g) gp (gap_seen s) why p) ∙ i)

    count_stops : (os : List ℕ) → length os < 4 → after_count s ≤ STREAM_LIMIT → progress_of (g ++ os) ≡ stopped gp (gap_seen s) (length (Z ++ (g ++ os)), reason.Truncated)
    count_stops os less short =
        subst (λ z. (read_part w order z s).progress ≡ stopped gp (gap_seen s) (length z, reason.Truncated)) (joined_so os) (count_short w order s Z zeros_long g size os less short)

    gap_items_here : (os : List ℕ) → items order (Z ++ (g ++ os)) (gap_seen s) ≡ gap_items (pipe_home s) s.place g
    gap_items_here os = subst (λ z. items order z (gap_seen s) ≡ gap_items (pipe_home s) s.place g) (joined_so os) (gap_items_in w order s Z zeros_long g size os)

    pub count_is_cut : (os : List ℕ) → AreOctets os → PartCut w order s (g ++ os) (gap_items (pipe_home s) s.place g)
    count_is_cut os all =
        let (added, e) = goes_on w order s Z zeros_long g size os in
        let f : (progress_of (g ++ os)).seen ≡ gap_seen s ++ added = subst (λ z. (read_part w order z s).progress.seen ≡ gap_seen s ++ added) (joined_so os) e in
        cut_here w side order s at_pipe Z (g ++ os) zeros_long (after_zeros (g ++ os) (all_append (λ b. b < 256) g os g_octets all)) (gap_seen s) added f (gap_items (pipe_home s) s.place g)
        (gap_items_here os)

  -- the first octets of a gap and a count are cut short
  pub header_stops : (part : List ℕ) → length part < gap s.place 4 + 4 → after_count s ≤ STREAM_LIMIT
      → (read_part w order (before_place s ++ part) s).progress.stop ≡ Some (length (before_place s ++ part), reason.Truncated)
  header_stops part less short = go (cases_lt (length part) (gap s.place 4))
    where
      go : (length part < gap s.place 4) ⊎ (gap s.place 4 ≤ length part) → (progress_of part).stop ≡ Some (length (Z ++ part), reason.Truncated)
      go (inl l) = stop_of (progress_of part) s.place [] (length (Z ++ part), reason.Truncated) (gap_stops part l)
      go (inr l) =
          let g : List ℕ = take (gap s.place 4) part in
          let o : List ℕ = drop (gap s.place 4) part in
          let e : g ++ o ≡ part = take-append-drop (gap s.place 4) part in
          let size : length g ≡ gap s.place 4 = length-take (gap s.place 4) part ∙ omega (arith, l) in
          let both : length part ≡ length g + length o = ap length (sym e) ∙ length-append g o in
          let p : (read_part w order ((Z ++ g) ++ o) s).progress ≡ stopped (s.place + gap s.place 4) (gap_seen s) (length ((Z ++ g) ++ o), reason.Truncated) =
          count_short w order s Z zeros_long g size o (omega (arith, both, size, less)) short in
          subst (λ z. (read_part w order z s).progress.stop ≡ Some (length z, reason.Truncated)) (append_assoc Z g o ∙ ap (λ u. Z ++ u) e)
          (stop_of _ (s.place + gap s.place 4) (gap_seen s) (length ((Z ++ g) ++ o), reason.Truncated) p)

  module _ (g os : List ℕ) (g_octets : AreOctets g) (size : length g ≡ gap s.place 4) (os_octets : AreOctets os) where
    abbrev both : List ℕ
    both = g ++ os

    pub both_octets : AreOctets (g ++ os)
    both_octets = all_append (λ b. b < 256) g os g_octets os_octets

    -- it is cut short
    pub count_is_refused : length os < 4 → after_count s ≤ STREAM_LIMIT → PartRefused w order s (g ++ os) (gap_items (pipe_home s) s.place g) (s.place + length (g ++ os)) reason.Truncated
    count_is_refused less short =
        let why : ℕ × Reason = (length (Z ++ both), reason.Truncated) in
        let gp : ℕ = s.place + gap s.place 4 in
        let p : progress_of both ≡ stopped gp (gap_seen s) why = count_stops g g_octets size os less short in
        let n : length both ≡ length g + length os = length-append g os in
        refused_part w side order s at_pipe Z both zeros_long (after_zeros both both_octets) (s.place + length both) reason.Truncated
        (stop_of (progress_of both) gp (gap_seen s) why p ∙ ap (λ n. Some (n, reason.Truncated)) (long_so both))
        (λ part last e. (let l : length both ≡ length part + 1 = ap length e ∙ length-append part (last ∷ []) in header_stops part (omega (arith, l, n, size, less)) short))
        (gap_items (pipe_home s) s.place g) (ap (items order (Z ++ both)) (seen_of (progress_of both) gp (gap_seen s) why p) ∙ gap_items_here g g_octets size os)

    -- it is 0: the pipe ends
    pub count_is_end : length os ≡ 4 → after_count s ≤ STREAM_LIMIT → unsigned order os ≡ 0 → PartWhole w order s (g ++ os) [] (header_items order s g os)
    count_is_end four short zero_is =
        let z : List ℕ = Z ++ both in
        let q : Progress = going (after_count s) (header_seen s (unsigned order os)) in
        let f : ((Z ++ g) ++ os) ++ [] ≡ z = append-nil ((Z ++ g) ++ os) ∙ append_assoc Z g os in
        let e : read_part w order z s ≡ read_list w.table (read_in_place order z w.table (pipe_home s) 32 0) (replicate (unsigned order os) (elem_at w s.root)) 1 q no_names =
        subst (λ u. read_part w order u s ≡ read_list w.table (read_in_place order u w.table (pipe_home s) 32 0) (replicate (unsigned order os) (elem_at w s.root)) 1 q no_names) f
        (count_there w order s Z zeros_long g size os four short []) in
        let r : read_part w order z s ≡ record { trees = none; progress = q; names = no_names } =
        e ∙ ap (λ k. read_list w.table (read_in_place order z w.table (pipe_home s) 32 0) (replicate k (elem_at w s.root)) 1 q no_names) zero_is in
        let n : length both ≡ length g + length os = length-append g os in
        let i : items order z (header_seen s (unsigned order os)) ≡ header_items order s g os =
        subst (λ u. items order u (header_seen s (unsigned order os)) ≡ header_items order s g os) (append_assoc Z g os) (header_items_are w order s Z zeros_long g size os four short) in
        subst (λ els. PartWhole w order s both els (header_items order s g os)) (ap (λ (x : ReadAll). tree.items x.trees) r)
        (whole_part w side order s at_pipe Z both zeros_long (after_zeros both both_octets) (ap (λ (x : ReadAll). x.progress.stop) r)
        (ap (λ (x : ReadAll). x.progress.at) r ∙ omega (arith, n, size, four))
        (header_items order s g os) (ap (λ (x : ReadAll). items order z x.progress.seen) r ∙ i))
