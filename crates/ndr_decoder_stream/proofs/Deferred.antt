-- Pending referents and their agreements, which are kept beside those of the others.
use Rattle.std.proofs.Common.{◌≡◌, ◌≤◌, ◌<◌, ℕ, ◌+◌, ◌-◌, zero, suc, List, [], ◌∷◌, ◌++◌, length, Option, Some, refl, ap, ap₂, sym, ◌∙◌, subst, arith, map, take, drop, length-append}
use Rattle.std.specs.Prelude.{reverse, slice_get, slice_index_or, slice_range}
use Rattle.std.specs.List.{AllByRecursion}
use Rattle.std.proofs.lemmas.List.{reverse-append}
use Rattle.std.proofs.lemmas.Option.{same_Some}
use Rattle.nd_value.specs.Agreement.{Agreement}
use Rattle.nd_value.specs.Seen.{cell_number}
use Rattle.nd_value.specs.declared.value.CellId.{CellId}
use Rattle.ndr_decoder_laws.specs.steps.Steps.{Owed}
use Rattle.ndr_decoder_state.specs.declared.machine.Owed as code
use Rattle.ndr_decoder_state.specs.declared.machine.Wanted.{Wanted}
use Rattle.ndr_decoder_state.specs.Seen.{agreement_of, owed_of}
use Rattle.ndr_decoder_stream.specs.Seen.{AreSpans, pending_in}
use Rattle.nd_lemmas.proofs.Lists.{drop_at as one_before, drop_length}
use Rattle.std.proofs.Math.Seq.{drop-append_seam as drop_all}

take_in : {X : Type 0} (n : ℕ) (xs ys : List X) → n ≤ length xs → take n (xs ++ ys) ≡ take n xs
take_in zero xs ys l = refl
take_in (suc n) [] ys l = absurd (omega (arith, l))
take_in (suc n) (x ∷ xs) ys l = ap (λ u. x ∷ u) (take_in n xs ys (omega (arith, l)))

drop_in : {X : Type 0} (n : ℕ) (xs ys : List X) → n ≤ length xs → drop n (xs ++ ys) ≡ drop n xs ++ ys
drop_in zero xs ys l = refl
drop_in (suc n) [] ys l = absurd (omega (arith, l))
drop_in (suc n) (x ∷ xs) ys l = drop_in n xs ys (omega (arith, l))

take_twice : {X : Type 0} (n : ℕ) (xs : List X) → take n (take n xs) ≡ take n xs
take_twice zero xs = refl
take_twice (suc n) [] = refl
take_twice (suc n) (x ∷ xs) = ap (λ u. x ∷ u) (take_twice n xs)

abbrev with_agreements : code.Owed → List Agreement → Owed
with_agreements o ags = record { class = o.class; to = o.to.0; run = o.run; cell = cell_number o.cell; agreements = ags }

-- agreements that are kept later change nothing
owed_stays : (ws more : List Wanted) (o : code.Owed) → o.from + o.len ≤ length ws → owed_of (ws ++ more) o ≡ owed_of ws o
owed_stays ws more o l =
    let k : o.from ≤ length ws = omega (arith, l) in
    let e = drop_length o.from ws k in
    ap (λ ags. with_agreements o (map agreement_of ags)) (ap (take o.len) (drop_in o.from ws more k) ∙ take_in o.len (drop o.from ws) more (omega (arith, l, e)))

all_stay : (ws more : List Wanted) (os : List code.Owed) → AllByRecursion (λ (o : code.Owed). o.from + o.len ≤ length ws) os → map (owed_of (ws ++ more)) os ≡ map (owed_of ws) os
all_stay ws more [] a = refl
all_stay ws more (o ∷ os) a = ap₂ (λ u us. u ∷ us) (owed_stays ws more o a.0) (all_stay ws more os a.1)

all_in : {X : Type 0} (P : X → Type 0) (xs ys : List X) → AllByRecursion P xs → AllByRecursion P ys → AllByRecursion P (xs ++ ys)
all_in P [] ys a b = b
all_in P (x ∷ xs) ys a b = (a.0, all_in P xs ys a.1 b)

all_back : {X : Type 0} (P : X → Type 0) (xs : List X) → AllByRecursion P xs → AllByRecursion P (reverse xs)
all_back P [] a = tt
all_back P (x ∷ xs) a = subst (AllByRecursion P) (sym (reverse-append (x ∷ []) xs)) (all_in P (reverse xs) (x ∷ []) (all_back P xs a.1) (a.0, tt))

-- the next pointer, with its agreements after those that are kept
next_first : (ws us : List Wanted) (os : List code.Owed) (o next : code.Owed) → AllByRecursion (λ (p : code.Owed). p.from + p.len ≤ length ws) os → o.from + o.len ≤ length us
    → next ≡ record { class = o.class; to = o.to; run = o.run; cell = o.cell; from = length ws; len = o.len }
    → pending_in (ws ++ take o.len (drop o.from us)) (os ++ next ∷ []) ≡ owed_of us o ∷ pending_in ws os
next_first ws us os o next a l e =
    let more : List Wanted = take o.len (drop o.from us) in
    let its : owed_of (ws ++ more) next ≡ owed_of us o =
    ap (owed_of (ws ++ more)) e
    ∙ ap (λ ags. with_agreements o (map agreement_of ags)) (ap (take o.len) (drop_all ws more) ∙ take_twice o.len (drop o.from us)) in
    ap (map (owed_of (ws ++ more))) (reverse-append os (next ∷ []))
    ∙ ap₂ (λ u us'. u ∷ us') its (all_stay ws more (reverse os) (all_back (λ (p : code.Owed). p.from + p.len ≤ length ws) os a))

-- a pointer whose agreements are kept from a place on
abbrev kept_from : ℕ → code.Owed → code.Owed
kept_from n o = record { class = o.class; to = o.to; run = o.run; cell = o.cell; from = n; len = o.len }

joined : (ws ws' us : List Wanted) (o : code.Owed) → ws' ≡ ws ++ slice_range us o.from (o.from + o.len) → ws' ≡ ws ++ take o.len (drop o.from us)
joined ws ws' us o e = let z : o.from + o.len - o.from ≡ o.len = omega arith in e ∙ ap (λ k. ws ++ take k (drop o.from us)) z

pub next_pending : (ws ws' us : List Wanted) (os os' : List code.Owed) (o next : code.Owed) (n : ℕ) → AllByRecursion (λ (p : code.Owed). p.from + p.len ≤ length ws) os → o.from + o.len ≤ length us
    → ws' ≡ ws ++ slice_range us o.from (o.from + o.len) → os' ≡ os ++ next ∷ [] → n ≡ length ws → next ≡ kept_from n o → pending_in ws' os' ≡ owed_of us o ∷ pending_in ws os
next_pending ws ws' us os os' o next n a l e f m g =
    ap (λ u. pending_in u os') (joined ws ws' us o e) ∙ ap (pending_in (ws ++ take o.len (drop o.from us))) f ∙ next_first ws us os o next a l (g ∙ ap (λ k. kept_from k o) m)

-- the same fact of longer lists
pub still_within : (ws more : List Wanted) (os : List code.Owed) → AllByRecursion (λ (p : code.Owed). p.from + p.len ≤ length ws) os
    → AllByRecursion (λ (p : code.Owed). p.from + p.len ≤ length (ws ++ more)) os
still_within ws more [] a = tt
still_within ws more (o ∷ os) a =
    let l : o.from + o.len ≤ length ws = a.0 in
    let e = length-append ws more in
    (omega (arith, l, e), still_within ws more os a.1)

length_taken : (us : List Wanted) (n k : ℕ) → n + k ≤ length us → length (take k (drop n us)) ≡ k
length_taken us zero zero l = refl
length_taken [] zero (suc k) l = absurd (omega (arith, l))
length_taken (u ∷ us) zero (suc k) l = ap suc (length_taken us zero k (omega (arith, l)))
length_taken [] (suc n) k l = absurd (omega (arith, l))
length_taken (u ∷ us) (suc n) k l = length_taken us n k (omega (arith, l))

pub next_within : (ws ws' us : List Wanted) (os os' : List code.Owed) (o next : code.Owed) (n : ℕ) → AllByRecursion (λ (p : code.Owed). p.from + p.len ≤ length ws) os → o.from + o.len ≤ length us
    → ws' ≡ ws ++ slice_range us o.from (o.from + o.len) → os' ≡ os ++ next ∷ [] → n ≡ length ws → next ≡ kept_from n o → AllByRecursion (λ (p : code.Owed). p.from + p.len ≤ length ws') os'
next_within ws ws' us os os' o next n a l e f m g =
    let more : List Wanted = take o.len (drop o.from us) in
    let w : ws' ≡ ws ++ more = joined ws ws' us o e in
    let t : length more ≡ o.len = length_taken us o.from o.len l in
    let p = length-append ws more in
    let x : next.from ≡ n = ap (λ (u : code.Owed). u.from) g in
    let y : next.len ≡ o.len = ap (λ (u : code.Owed). u.len) g in
    let last : next.from + next.len ≤ length (ws ++ more) = omega (arith, t, p, x, y, m) in
    subst (λ us'. AllByRecursion (λ (p : code.Owed). p.from + p.len ≤ length us') os') (sym w)
    (subst (λ ps. AllByRecursion (λ (p : code.Owed). p.from + p.len ≤ length (ws ++ more)) ps) (sym f)
    (all_in (λ (p : code.Owed). p.from + p.len ≤ length (ws ++ more)) os (next ∷ []) (still_within ws more os a) (last, tt)))

-- what is read at a place that is within
pub got : {X : Type 0} (xs : List X) (i : ℕ) (x : X) → i < length xs → x ≡ slice_index_or xs i x → slice_get xs i ≡ Some x
got [] i x l e = absurd (omega (arith, l))
got (y ∷ ys) zero x l e = ap Some (sym e)
got (y ∷ ys) (suc i) x l e = got ys i x (omega (arith, l)) e

-- one more is
pub deferred_turn : (us : List Wanted) (fresh : List code.Owed) (p q r : List Owed) (at : ℕ) (o : code.Owed) → at < length fresh → slice_get fresh (length fresh - 1 - at) ≡ Some o
    → p ≡ map (owed_of us) (drop (length fresh - at) fresh) ++ r → q ≡ owed_of us o ∷ p → q ≡ map (owed_of us) (drop (length fresh - (at + 1)) fresh) ++ r
deferred_turn us fresh p q r at o l there e f =
    let n : length fresh - (at + 1) ≡ length fresh - 1 - at = omega (arith, l) in
    let m : suc (length fresh - 1 - at) ≡ length fresh - at = omega (arith, l) in
    f ∙ ap (λ u. owed_of us o ∷ u) e
    ∙ sym (ap (λ k. map (owed_of us) (drop k fresh) ++ r) n ∙ ap (λ xs. map (owed_of us) xs ++ r) (one_before fresh (length fresh - 1 - at) o there)
    ∙ ap (λ k. owed_of us o ∷ (map (owed_of us) (drop k fresh) ++ r)) m)

-- all are
pub deferred_end : (us : List Wanted) (fresh : List code.Owed) (p r : List Owed) (at : ℕ) → length fresh ≤ at → p ≡ map (owed_of us) (drop (length fresh - at) fresh) ++ r
    → p ≡ map (owed_of us) fresh ++ r
deferred_end us fresh p r at l e = let z : length fresh - at ≡ 0 = omega (arith, l) in e ∙ ap (λ n. map (owed_of us) (drop n fresh) ++ r) z

-- ## A home of one pointer at most, which has no agreements

-- a pointer without agreements is the same beside any
none_owed : (ws us : List Wanted) (o : code.Owed) → o.len ≡ 0 → owed_of ws o ≡ owed_of us o
none_owed ws us o z =
    ap (λ ags. with_agreements o (map agreement_of ags)) (ap (λ n. take n (drop o.from ws)) z)
    ∙ sym (ap (λ ags. with_agreements o (map agreement_of ags)) (ap (λ n. take n (drop o.from us)) z))

none_but_last : {X : Type 0} (xs : List X) (x : X) → length (xs ++ x ∷ []) < 2 → xs ≡ []
none_but_last [] x l = refl
none_but_last (y ∷ ys) x l = let e = length-append ys (x ∷ []) in absurd (omega (arith, l, e))

module _ (ws us : List Wanted) (fresh fresh' todo todo' : List code.Owed) (o : code.Owed) (few : length fresh < 2) (none : us ≡ [])
    (within : AllByRecursion (λ (p : code.Owed). p.from + p.len ≤ length us) fresh) (taken : fresh ≡ fresh' ++ o ∷ []) (put : todo' ≡ todo ++ o ∷ []) where
  pub none_after : fresh' ≡ []
  none_after = none_but_last fresh' o (subst (λ os. length os < 2) taken few)

  alone : fresh ≡ o ∷ []
  alone = taken ∙ ap (λ os. os ++ o ∷ []) none_after

  no_agreements : o.from + o.len ≤ 0
  no_agreements = let a = subst (AllByRecursion (λ (p : code.Owed). p.from + p.len ≤ length us)) alone within in subst (λ vs. o.from + o.len ≤ length vs) none a.0

  pub one_pending : pending_in ws todo' ≡ map (owed_of us) fresh ++ pending_in ws todo
  one_pending =
      ap (pending_in ws) put
      ∙ ap (map (owed_of ws)) (reverse-append todo (o ∷ []))
      ∙ ap (λ u. u ∷ pending_in ws todo) (none_owed ws us o (omega (arith, no_agreements)))
      ∙ sym (ap (λ os. map (owed_of us) os ++ pending_in ws todo) alone)

-- the only one
only_is : (fresh : List code.Owed) (o : code.Owed) → length fresh < 2 → slice_get fresh 0 ≡ Some o → fresh ≡ o ∷ []
only_is [] o l e = cc
only_is (x ∷ []) o l e = ap (λ u. u ∷ []) (same_Some x o e)
only_is (x ∷ y ∷ ys) o l e = absurd (omega (arith, l))

abbrev pub made : code.Owed → Option CellId → List Agreement → Owed
made o c ags = record { class = o.class; to = o.to.0; run = o.run; cell = cell_number c; agreements = ags }

-- the only one, as it is given: it has no agreements
pub only_given : (ws us : List Wanted) (fresh os : List code.Owed) (o : code.Owed) (c : Option CellId) → length fresh < 2 → AreSpans [] fresh → slice_get fresh 0 ≡ Some o → c ≡ o.cell
    → made o c [] ∷ pending_in ws os ≡ map (owed_of us) fresh ++ pending_in ws os
only_given ws us fresh os o c few spans there cell =
    let is : fresh ≡ o ∷ [] = only_is fresh o few there in
    let within : o.from + o.len ≤ 0 = (subst (AreSpans []) is spans).0 in
    let none : o.len ≡ 0 = omega (arith, within) in
    ap (λ u. made o u [] ∷ pending_in ws os) cell
    ∙ ap (λ n. made o o.cell (map agreement_of (take n (drop o.from us))) ∷ pending_in ws os) (sym none)
    ∙ sym (ap (λ xs. map (owed_of us) xs ++ pending_in ws os) is)
