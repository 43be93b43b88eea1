-- Where a run ends the plain reader says the same: a whole value, a refusal, or octets that are cut short; and each octet was needed.
use Rattle.std.proofs.Common.{◌≡◌, ◌<◌, ◌⊎◌, inl, inr, ℕ, ◌+◌, List, [], ◌∷◌, ◌++◌, length, Some, refl, ap, sym, ◌∙◌, subst, arith, append_assoc, length-append}
use Rattle.std.specs.Prelude.{slice_get}
use Rattle.std.proofs.lemmas.List.{append-nil}
use Rattle.nd_base.specs.declared.octets.Order.{Order}
use Rattle.nd_base.specs.declared.TheConstants.{STREAM_LIMIT}
use Rattle.nd_types.specs.Table.{Table}
use Rattle.nd_value.specs.declared.item.Home.{Home}
use Rattle.nd_value.specs.declared.item.Item.{Item}
use Rattle.nd_grammar.specs.declared.reason.Reason.{Reason}
use Rattle.nd_grammar.specs.declared.reason.Reason.TheVariants as reason
use Rattle.nd_grammar.specs.Items.{items}
use Rattle.nd_grammar.specs.Reader.{Read}
use Rattle.ndr_code.specs.declared.instr.Instr.{Instr}
use Rattle.ndr_code.specs.declared.lists.EnumList.{EnumList}
use Rattle.ndr_decoder_laws.specs.reader.Around.{stopped}
use Rattle.ndr_decoder_laws.specs.steps.Spots.{IsPlanned}
use Rattle.ndr_decoder_laws.specs.steps.Steps.{State, refused, whole, Want, no_octets, gap_of, item_of, wants, step}
use Rattle.ndr_decoder_laws.specs.steps.StepItems.{step_items}
use Rattle.ndr_decoder_laws.specs.steps.Good.{Good, Whole, IsRight, HasOctets, IsCut, IsTooLong}
use Rattle.ndr_decoder_laws.proofs.steps.Lacking.{cut_right, long_right, wanting}
use Rattle.ndr_decoder_laws.proofs.steps.Passing.{items_stay}
use Rattle.ndr_decoder_laws.proofs.steps.PointSteps.{step_right}
use Rattle.ndr_decoder_laws.specs.runs.Reaching.{Reaches, begins, steps_to}
use Rattle.ndr_decoder_laws.specs.runs.Refusals.{IsRefusedHere, IsShort}
use Rattle.ndr_decoder_laws.proofs.runs.GoodRuns.{along}
use Rattle.nd_lemmas.proofs.Lists.{no_last, same_before_last as without_last}

-- ## Lists

abbrev HasLast : List ℕ → Type 0
HasLast os = (os ≡ []) ⊎ ((mid : List ℕ) × ((o : ℕ) × (os ≡ mid ++ o ∷ [])))

one_more : (o : ℕ) (os : List ℕ) → HasLast os → HasLast (o ∷ os)
one_more o os (inl e) = inr ([], (o, ap (λ k. o ∷ k) e))
one_more o os (inr (mid, (l, e))) = inr (o ∷ mid, (l, ap (λ k. o ∷ k) e))

has_last : (os : List ℕ) → HasLast os
has_last [] = inl refl
has_last (o ∷ os) = one_more o os (has_last os)

-- fewer octets than those of a step are cut short
cut_of : (w : Want) (os mid : List ℕ) (at : ℕ) → length mid < length os → HasOctets w os at ⊎ IsCut w os at → IsCut w mid at
cut_of no_octets os mid at l (inl e) = let n : length os ≡ 0 = ap length e in absurd (omega (arith, l, n))
cut_of no_octets os mid at l (inr c) = absurd c
cut_of (gap_of n) os mid at l (inl e) = let a : length os ≡ n = e in omega (arith, l, a)
cut_of (gap_of n) os mid at l (inr c) = let a : length os < n = c in omega (arith, l, a)
cut_of (item_of n) os mid at l (inl e) = let a : length os ≡ n = e.0 in (omega (arith, l, a), e.1)
cut_of (item_of n) os mid at l (inr c) = let a : length os < n = c.0 in (omega (arith, l, a), c.1)

module _ (values : List EnumList) (order : Order) (code : List Instr) (table : Table) (h : Home) (own limit direct : ℕ) (target : List ℕ → Read) (planned : IsPlanned code values table)
    (f0 : List ℕ) (n0 : List Item) (s0 : State) (g0 : Good order f0 code table h own limit n0 direct target s0) where
  abbrev Comes : List ℕ → List Item → State → Type 0
  Comes fetched noted s = Reaches values order code h s0 fetched noted s

  good : (fetched : List ℕ) (noted : List Item) (s : State) → Comes fetched noted s → Good order (f0 ++ fetched) code table h own limit (n0 ++ noted) direct target s
  good fetched noted s r = along values order code table h own limit direct target planned f0 n0 s0 g0 r

  -- ## Octets that are needed

  short_of : (fetched : List ℕ) (noted : List Item) (s : State) → Comes fetched noted s → (i : Instr) → slice_get code s.pc ≡ Some i → (mid : List ℕ) → IsCut (wants values i s) mid s.at
      → IsShort target (f0 ++ (fetched ++ mid))
  short_of fetched noted s r i there mid c =
      let g : Good order (f0 ++ fetched) code table h own limit (n0 ++ noted) direct target s = good fetched noted s r in (
        s.at,
        (
          g.seen,
          subst (λ k. (target k).progress ≡ stopped s.at g.seen (length k, reason.Truncated)) (append_assoc f0 fetched mid)
              (cut_right order (f0 ++ fetched) code values table h own limit (n0 ++ noted) direct target planned s g i there mid c),
        ),
      )

  abbrev Needed : List ℕ → Type 0
  Needed octets = (part : List ℕ) (last : ℕ) → octets ≡ part ++ last ∷ [] → IsShort target (f0 ++ part)

  -- the octets of one step more, or some of them
  pub needed_then : (fetched : List ℕ) (noted : List Item) (s : State) → Comes fetched noted s → (i : Instr) → slice_get code s.pc ≡ Some i → (os : List ℕ)
      → HasOctets (wants values i s) os s.at ⊎ IsCut (wants values i s) os s.at → Needed fetched → Needed (fetched ++ os)
  needed_then fetched noted s r i there os came before part last e = by_last (has_last os)
    where
      by_last : HasLast os → IsShort target (f0 ++ part)
      by_last (inl none) = before part last (sym (append-nil fetched) ∙ ap (λ k. fetched ++ k) (sym none) ∙ e)
      by_last (inr (mid, (o, is))) =
          let all : (fetched ++ mid) ++ o ∷ [] ≡ part ++ last ∷ [] = append_assoc fetched mid (o ∷ []) ∙ ap (λ k. fetched ++ k) (sym is) ∙ e in
          let same : fetched ++ mid ≡ part = without_last (fetched ++ mid) part o last all in
          let n : length os ≡ length mid + 1 = ap length is ∙ length-append mid (o ∷ []) in
          subst (λ k. IsShort target (f0 ++ k)) same (short_of fetched noted s r i there mid (cut_of (wants values i s) os mid s.at (omega (arith, n)) came))

  pub needed_along : {fetched : List ℕ} {noted : List Item} {s : State} → Reaches values order code h s0 fetched noted s → (part : List ℕ) (last : ℕ) → fetched ≡ part ++ last ∷ []
      → IsShort target (f0 ++ part)
  needed_along begins part last e = absurd (no_last part last e)
  needed_along (steps_to fetched os noted s next i before there has octets e) part last f =
      needed_then fetched noted s before i there os (inl has) (needed_along before) part last f

  -- ## Ends

  module _ (fetched : List ℕ) (noted : List Item) (s : State) (r : Comes fetched noted s) (i : Instr) (there : slice_get code s.pc ≡ Some i) (os : List ℕ) where
    abbrev all_octets : List ℕ
    all_octets = f0 ++ (fetched ++ os)

    g : Good order (f0 ++ fetched) code table h own limit (n0 ++ noted) direct target s
    g = good fetched noted s r

    step_is : HasOctets (wants values i s) os s.at
        → IsRight order ((f0 ++ fetched) ++ os) code table h own limit ((n0 ++ noted) ++ step_items order h os i s) direct target s.at g.seen (step values order os i s)
    step_is has = step_right order (f0 ++ fetched) os code values table h own limit (n0 ++ noted) direct target planned s g i there has

    items_then : items order all_octets g.seen ≡ n0 ++ noted
    items_then =
        subst (λ k. items order k g.seen ≡ n0 ++ noted) (append_assoc f0 fetched os)
        (items_stay order (f0 ++ fetched) os g.seen g.told.lie_within ∙ g.told.noted_are)

    pub whole_end : HasOctets (wants values i s) os s.at → (s1 : State) → step values order os i s ≡ whole s1
        → Whole order (f0 ++ (fetched ++ os)) table h own (n0 ++ (noted ++ step_items order h os i s)) direct target s1
    whole_end has s1 e =
        subst (λ k. Whole order k table h own (n0 ++ (noted ++ step_items order h os i s)) direct target s1) (append_assoc f0 fetched os)
        (subst (λ k. Whole order ((f0 ++ fetched) ++ os) table h own k direct target s1) (append_assoc n0 noted (step_items order h os i s))
        (subst (IsRight order ((f0 ++ fetched) ++ os) code table h own limit ((n0 ++ noted) ++ step_items order h os i s) direct target s.at g.seen) e (step_is has)))

    pub refused_end : HasOctets (wants values i s) os s.at → (place : ℕ) (why : Reason) → step values order os i s ≡ refused place why
        → IsRefusedHere order (f0 ++ (fetched ++ os)) (n0 ++ noted) (length s.cells) direct target place why
    refused_end has place why e =
        let right : (later : List ℕ) → (target (((f0 ++ fetched) ++ os) ++ later)).progress ≡ stopped s.at g.seen (place, why) =
        subst (IsRight order ((f0 ++ fetched) ++ os) code table h own limit ((n0 ++ noted) ++ step_items order h os i s) direct target s.at g.seen) e (step_is has) in
        record {
          at = s.at;
          seen = g.seen;
          stops = λ later ok. subst (λ k. (target (k ++ later)).progress ≡ stopped s.at g.seen (place, why)) (append_assoc f0 fetched os) (right later);
          items_are = items_then;
          cells_named = g.told.cells_named.named;
        }

    cut_place : IsCut (wants values i s) os s.at → length ((f0 ++ fetched) ++ os) ≡ s.at + length os
    cut_place c = by_reached (wanting order (f0 ++ fetched) code values table h own limit (n0 ++ noted) direct target s i g there)
      where
        by_reached : (wants values i s ≡ no_octets) ⊎ (length (f0 ++ fetched) ≡ s.at) → length ((f0 ++ fetched) ++ os) ≡ s.at + length os
        by_reached (inl e) = absurd (subst (λ x. IsCut x os s.at) e c)
        by_reached (inr e) = length-append (f0 ++ fetched) os ∙ ap (λ k. k + length os) e

    pub cut_end : IsCut (wants values i s) os s.at → IsRefusedHere order (f0 ++ (fetched ++ os)) (n0 ++ noted) (length s.cells) direct target (s.at + length os) reason.Truncated
    cut_end c =
        let right : (target ((f0 ++ fetched) ++ os)).progress ≡ stopped s.at g.seen (length ((f0 ++ fetched) ++ os), reason.Truncated) =
        cut_right order (f0 ++ fetched) code values table h own limit (n0 ++ noted) direct target planned s g i there os c in
        let here : (target all_octets).progress ≡ stopped s.at g.seen (s.at + length os, reason.Truncated) =
        subst (λ k. (target k).progress ≡ stopped s.at g.seen (s.at + length os, reason.Truncated)) (append_assoc f0 fetched os)
        (right ∙ ap (λ k. stopped s.at g.seen (k, reason.Truncated)) (cut_place c)) in
        record {
          at = s.at;
          seen = g.seen;
          stops = λ later ok. subst (λ k. (target k).progress ≡ stopped s.at g.seen (s.at + length os, reason.Truncated)) (sym (ap (λ k. all_octets ++ k) (ok refl) ∙ append-nil all_octets)) here;
          items_are = items_then;
          cells_named = g.told.cells_named.named;
        }

    pub long_end : IsTooLong (wants values i s) s.at → os ≡ [] → IsRefusedHere order (f0 ++ (fetched ++ os)) (n0 ++ noted) (length s.cells) direct target STREAM_LIMIT reason.TooLong
    long_end c none =
        let right : (later : List ℕ) → (target ((f0 ++ fetched) ++ later)).progress ≡ stopped s.at g.seen (STREAM_LIMIT, reason.TooLong) =
        long_right order (f0 ++ fetched) code values table h own limit (n0 ++ noted) direct target planned s g i there c in
        let same : f0 ++ fetched ≡ all_octets = ap (λ k. f0 ++ k) (sym (append-nil fetched) ∙ ap (λ k. fetched ++ k) (sym none)) in
        record {
          at = s.at;
          seen = g.seen;
          stops = λ later ok. subst (λ k. (target (k ++ later)).progress ≡ stopped s.at g.seen (STREAM_LIMIT, reason.TooLong)) same (right later);
          items_are = items_then;
          cells_named = g.told.cells_named.named;
        }
