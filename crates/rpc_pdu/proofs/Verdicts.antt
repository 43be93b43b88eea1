-- Any octets begin with the fragments of a call, or are refused.
use Rattle.std.proofs.Common.{◌≡◌, ◌∙◌, ◌⊎◌, inl, inr, ℕ, ◌+◌, ◌-◌, ◌≤◌, ◌<◌, suc, zero, Bool, true, false, List, [], ◌∷◌, ◌++◌, length, take, drop, Option, Some, None, refl, ap, sym, subst}
use Rattle.std.proofs.Common.{arith, append_assoc}
use Rattle.std.proofs.lemmas.List.{length-append, length-drop, length-take-le, take-append-drop}
use Rattle.nd_base.specs.declared.octets.Order.{Order}
use Rattle.rpc_pdu.specs.declared.pdu.Wanted.{Wanted}
use Rattle.rpc_pdu.specs.declared.pdu.Opening.{Opening}
use Rattle.rpc_pdu.specs.declared.pdu.PduReason.{PduReason}
use Rattle.rpc_pdu.specs.declared.pdu.PduReason.TheVariants as why
use Rattle.rpc_pdu.specs.Checks.{is_last, fragment_length, header_length, opening_of, Before, nothing, after, opened, refusal}
use Rattle.rpc_pdu.specs.Fragments.{IsFragment, AreEarlier, none_earlier, one_more, Fragments, BadPdu, BeginsWithCall}
use Rattle.rpc_pdu.proofs.Checking.{last_same}
use Rattle.rpc_pdu.proofs.Staying.{IsThere, is_there, first_fragment, stays}

abbrev pub Answered : Wanted → List ℕ → Type 0
Answered want octets = BeginsWithCall want octets ⊎ ((place : ℕ) × (w : PduReason) × BadPdu want octets place w)

-- the first fragment of octets that are accepted
record First (want : Wanted) (s : Before) (rest : List ℕ) : Type 0 where
  pub os : List ℕ
  pub more : List ℕ
  pub split : os ++ more ≡ rest
  pub fragment : IsFragment want s os
  pub long : 24 ≤ length os

first_of : (want : Wanted) (s : Before) (rest : List ℕ) → refusal want s rest ≡ None → First want s rest
first_of want s rest h =
    let there = is_there want s rest h in
    let n = fragment_length rest in
    let split : take n rest ++ drop n rest ≡ rest = take-append-drop n rest in
    let whole : length (take n rest) ≡ fragment_length (take n rest ++ drop n rest) = length-take-le n rest there.fragment ∙ ap fragment_length (sym split) in
    let f : IsFragment want s (take n rest) = first_fragment want s (take n rest) (drop n rest) (ap (refusal want s) split ∙ h) whole in
    let here = is_there want s (take n rest) f.accepted in
    record { os = take n rest; more = drop n rest; split = split; fragment = f; long = here.long }

by_refusal : (want : Wanted) (earlier : List ℕ) (s : Before) → AreEarlier want earlier s → (rest : List ℕ) → (r : Option (ℕ × PduReason)) → refusal want s rest ≡ r
    → (refusal want s rest ≡ None → Answered want (earlier ++ rest)) → Answered want (earlier ++ rest)
by_refusal want earlier s d rest None e next = next e
by_refusal want earlier s d rest (Some r) e next =
    inr (r.0, r.1, record { earlier = earlier; before = s; are_earlier = d; rest = rest; end_to_end = refl; refused = e })

by_last : (b c : Bool) (X : Type 0) → b ≡ c → (b ≡ true → X) → (b ≡ false → X) → X
by_last b true X e yes_last not_last = yes_last e
by_last b false X e yes_last not_last = not_last e

at_last : (want : Wanted) (earlier : List ℕ) (s : Before) → AreEarlier want earlier s → (os more : List ℕ) → IsFragment want s os → is_last os ≡ true → BeginsWithCall want ((earlier ++ os) ++ more)
at_last want earlier s d os more f last =
    let o : Opening = opened s.opening (opening_of want os) in record {
      call_octets = earlier ++ os;
      rest = more;
      order = o.order;
      call = o.call;
      opnum = o.opnum;
      stub = (after want s os).stub;
      split = refl;
      fragments = record { earlier = earlier; before = s; are_earlier = d; last = os; end_to_end = refl; is_fragment = f; is_last = last; states = refl; stub_is = refl };
    }

answered : (fuel : ℕ) (want : Wanted) (earlier : List ℕ) (s : Before) → AreEarlier want earlier s → (rest : List ℕ) → length rest < fuel → Answered want (earlier ++ rest)
answered zero want earlier s d rest few = absurd (omega (arith, few))
answered (suc fuel) want earlier s d rest few =
    by_refusal want earlier s d rest (refusal want s rest) refl (λ none.
    let f = first_of want s rest none in
    let joined : (earlier ++ f.os) ++ f.more ≡ earlier ++ rest = append_assoc earlier f.os f.more ∙ ap (λ l. earlier ++ l) f.split in
    let all : length (f.os ++ f.more) ≡ length f.os + length f.more = length-append f.os f.more in
    let same : length (f.os ++ f.more) ≡ length rest = ap length f.split in
    let fewer : length f.more < fuel = omega (arith, all, same, f.long, few) in
    by_last (is_last f.os) (is_last f.os) (Answered want (earlier ++ rest)) refl
    (λ last. subst (Answered want) joined (inl (at_last want earlier s d f.os f.more f.fragment last)))
    (λ not_last. subst (Answered want) joined
    (answered fuel want (earlier ++ f.os) (after want s f.os) (one_more earlier s f.os d f.fragment not_last) f.more fewer)))

pub one_of_two : (want : Wanted) (octets : List ℕ) → Answered want octets
one_of_two want octets = answered (suc (length octets)) want [] nothing none_earlier octets (omega arith)

same_reason : (r q : ℕ × PduReason) → Some r ≡ Some q → r ≡ q
same_reason r q h = cc

-- what is refused stays refused
pub bad_stays : (want : Wanted) (octets more : List ℕ) (place : ℕ) (w : PduReason) → BadPdu want octets place w → (w ≡ why.Short → ⊥) → BadPdu want (octets ++ more) place w
bad_stays want octets more place w b not = record {
  earlier = b.earlier;
  before = b.before;
  are_earlier = b.are_earlier;
  rest = b.rest ++ more;
  end_to_end = ap (λ l. l ++ more) b.end_to_end ∙ append_assoc b.earlier b.rest more;
  refused = stays want b.before b.rest more (Some (place, w)) (λ p e. not (ap (λ r. r.1) (same_reason (place, w) (p, why.Short) e))) b.refused;
}
