-- The reader finds the fragments of a call where there are some, and a refusal where there is one: so there is one answer.
use Rattle.std.proofs.Common.{◌≡◌, ◌∙◌, ◌⊎◌, inl, inr, ℕ, ◌+◌, ◌-◌, ◌≤◌, ◌<◌, suc, zero, Bool, true, false, List, [], ◌∷◌, ◌++◌, length, take, drop, Option, Some, None, refl, ap, sym, subst}
use Rattle.std.proofs.Common.{arith, append_assoc, append-nil}
use Rattle.std.proofs.lemmas.List.{length-append, length-drop, length-take-le, take-append-drop}
use lib.Seq.{take-append_seam, drop-append_seam}
use Rattle.nd_base.specs.declared.octets.Order.{Order}
use Rattle.rpc_pdu.specs.declared.pdu.Wanted.{Wanted}
use Rattle.rpc_pdu.specs.declared.pdu.Opening.{Opening}
use Rattle.rpc_pdu.specs.declared.pdu.PduReason.{PduReason}
use Rattle.rpc_pdu.specs.declared.pdu.PduReason.TheVariants as why
use Rattle.rpc_pdu.specs.Checks.{is_last, has_object, fragment_length, header_length, opening_of, Before, nothing, after, opened, refusal}
use Rattle.rpc_pdu.specs.Fragments.{IsFragment, AreEarlier, none_earlier, one_more, Fragments, BadPdu, SameCall}
use Rattle.rpc_pdu.specs.Reader.{Verdict, found, refused_at, read_from, read}
use Rattle.rpc_pdu.proofs.Checking.{least_header, length_same, last_same}
use Rattle.rpc_pdu.proofs.Staying.{IsThere, is_there, same_refusal, after_same, first_fragment, stays}

-- ## One step of the reader

by_verdict : (want : Wanted) (fuel : ℕ) (s : Before) (os : List ℕ) (r : Option (ℕ × PduReason)) (last : Bool) → refusal want s os ≡ r → is_last os ≡ last
    → read_from want (suc fuel) s os
    ≡ (elim r [
      | Some r ↦ refused_at r.0 r.1
      | None ↦ elim last [ true ↦ found (after want s os) | false ↦ read_from want fuel (after want s os) (drop (fragment_length os) os) ]
    ])
by_verdict want fuel s os r last e f =
    ap (λ x. elim x [
      | Some r ↦ refused_at r.0 r.1
      | None ↦ elim (is_last os) [ true ↦ found (after want s os) | false ↦ read_from want fuel (after want s os) (drop (fragment_length os) os) ]
    ]) e
    ∙ ap (λ x. elim r [
      | Some r ↦ refused_at r.0 r.1
      | None ↦ elim x [ true ↦ found (after want s os) | false ↦ read_from want fuel (after want s os) (drop (fragment_length os) os) ]
    ]) f

pub refusing : (want : Wanted) (fuel : ℕ) (s : Before) (os : List ℕ) (p : ℕ) (w : PduReason) → refusal want s os ≡ Some (p, w) → read_from want (suc fuel) s os ≡ refused_at p w
refusing want fuel s os p w e = by_verdict want fuel s os (Some (p, w)) (is_last os) e refl

-- a fragment with other octets after it
there_of : (want : Wanted) (s : Before) (os : List ℕ) → IsFragment want s os → IsThere want os
there_of want s os f = is_there want s os f.accepted

accepted_more : (want : Wanted) (s : Before) (os more : List ℕ) → IsFragment want s os → refusal want s (os ++ more) ≡ None
accepted_more want s os more f = same_refusal want s os more (there_of want s os f) ∙ f.accepted

pub ending : (want : Wanted) (fuel : ℕ) (s : Before) (os more : List ℕ) → IsFragment want s os → is_last os ≡ true → read_from want (suc fuel) s (os ++ more) ≡ found (after want s os)
ending want fuel s os more f last =
    let there = there_of want s os f in
    let short : 16 ≤ length os = omega (arith, there.long) in
    by_verdict want fuel s (os ++ more) None true (accepted_more want s os more f) (last_same os more short ∙ last)
    ∙ ap found (after_same want s os more there)

left_after : (os more : List ℕ) → drop (length os) (os ++ more) ≡ more
left_after os more = drop-append_seam os more

pub going_on : (want : Wanted) (fuel : ℕ) (s : Before) (os more : List ℕ) → IsFragment want s os → is_last os ≡ false
    → read_from want (suc fuel) s (os ++ more) ≡ read_from want fuel (after want s os) more
going_on want fuel s os more f last =
    let there = there_of want s os f in
    let short : 16 ≤ length os = omega (arith, there.long) in
    let wide : fragment_length (os ++ more) ≡ length os = length_same os more short ∙ sym f.whole in
    by_verdict want fuel s (os ++ more) None false (accepted_more want s os more f) (last_same os more short ∙ last)
    ∙ ap (λ b. read_from want fuel b (drop (fragment_length (os ++ more)) (os ++ more))) (after_same want s os more there)
    ∙ ap (λ n. read_from want fuel (after want s os) (drop n (os ++ more))) wide
    ∙ ap (read_from want fuel (after want s os)) (left_after os more)

-- ## After earlier fragments

-- the reader comes to what follows them, in some steps
pub record Comes (want : Wanted) (earlier : List ℕ) (s : Before) : Type 0 where
  pub steps : ℕ
  pub few : steps ≤ length earlier
  pub at : s.at ≡ length earlier
  pub on : (rest : List ℕ) (left fuel : ℕ) → fuel ≡ steps + left → read_from want fuel nothing (earlier ++ rest) ≡ read_from want left s rest

pub comes : (want : Wanted) (earlier : List ℕ) (s : Before) → AreEarlier want earlier s → Comes want earlier s
comes want _ _ none_earlier = record {
  steps = 0;
  few = omega arith;
  at = refl;
  on = λ rest left fuel e. ap (λ n. read_from want n nothing rest) (omega (arith, e));
}
comes want _ _ (one_more octets s os d f l) =
    let c = comes want octets s d in
    let there = there_of want s os f in
    let all : length (octets ++ os) ≡ length octets + length os = length-append octets os in
    record {
      steps = suc c.steps;
      few = omega (arith, c.few, all, there.long);
      at = omega (arith, c.at, all, f.whole);
      on = λ rest left fuel e.
          ap (read_from want fuel nothing) (append_assoc octets os rest)
          ∙ c.on (os ++ rest) (suc left) fuel (omega (arith, e))
          ∙ going_on want left s os rest f l;
    }

-- the whole reader
pub read_after : (want : Wanted) (earlier : List ℕ) (s : Before) → AreEarlier want earlier s → (rest : List ℕ)
    → (left : ℕ) × (read want (earlier ++ rest) ≡ read_from want (suc left) s rest)
read_after want earlier s d rest =
    let c = comes want earlier s d in
    let all : length (earlier ++ rest) ≡ length earlier + length rest = length-append earlier rest in
    (length (earlier ++ rest) - c.steps, c.on rest (suc (length (earlier ++ rest) - c.steps)) (suc (length (earlier ++ rest))) (omega (arith, all, c.few)))

pub read_call : (want : Wanted) (octets more : List ℕ) (order : Order) (call : ℕ) (opnum : Option ℕ) (stub : List ℕ) → (f : Fragments octets want order call opnum stub)
    → read want (octets ++ more) ≡ found (after want f.before f.last)
read_call want octets more order call opnum stub f =
    let r = read_after want f.earlier f.before f.are_earlier (f.last ++ more) in
    ap (λ os. read want (os ++ more)) f.end_to_end
    ∙ ap (read want) (append_assoc f.earlier f.last more)
    ∙ r.1
    ∙ ending want r.0 f.before f.last more f.is_fragment f.is_last

pub read_bad : (want : Wanted) (octets : List ℕ) (place : ℕ) (w : PduReason) → BadPdu want octets place w → read want octets ≡ refused_at place w
read_bad want octets place w b =
    let r = read_after want b.earlier b.before b.are_earlier b.rest in
    ap (read want) b.end_to_end ∙ r.1 ∙ refusing want r.0 b.before b.rest place w b.refused

-- ## One answer

same_refused : (p q : ℕ) (w v : PduReason) → refused_at p w ≡ refused_at q v → (p ≡ q) × (w ≡ v)
same_refused p q w v h = (cc, cc)

same_found : (b c : Before) → found b ≡ found c → b ≡ c
same_found b c h = cc

same_some : (o p : Opening) → Some o ≡ Some p → o ≡ p
same_some o p h = cc

pub one_refusal : (want : Wanted) (octets : List ℕ) (p q : ℕ) (w v : PduReason) → BadPdu want octets p w → BadPdu want octets q v → (p ≡ q) × (w ≡ v)
one_refusal want octets p q w v a b = same_refused p q w v (sym (read_bad want octets p w a) ∙ read_bad want octets q v b)

pub never_both : (want : Wanted) (octets more : List ℕ) (order : Order) (call : ℕ) (opnum : Option ℕ) (stub : List ℕ) (p : ℕ) (w : PduReason)
    → Fragments octets want order call opnum stub → BadPdu want (octets ++ more) p w → ⊥
never_both want octets more order call opnum stub p w f b =
    let e : found (after want f.before f.last) ≡ refused_at p w = sym (read_call want octets more order call opnum stub f) ∙ read_bad want (octets ++ more) p w b in
    cc

-- how long the fragments of a call are
pub call_length : (want : Wanted) (octets : List ℕ) (order : Order) (call : ℕ) (opnum : Option ℕ) (stub : List ℕ) → (f : Fragments octets want order call opnum stub)
    → length octets ≡ (after want f.before f.last).at
call_length want octets order call opnum stub f =
    let c = comes want f.earlier f.before f.are_earlier in
    let all : length (f.earlier ++ f.last) ≡ length f.earlier + length f.last = length-append f.earlier f.last in
    ap length f.end_to_end ∙ omega (arith, all, c.at, f.is_fragment.whole)

pub one_call : (want : Wanted) (octets other more more' : List ℕ) (order order' : Order) (call call' : ℕ) (opnum opnum' : Option ℕ) (stub stub' : List ℕ)
    → octets ++ more ≡ other ++ more' → Fragments octets want order call opnum stub → Fragments other want order' call' opnum' stub'
    → SameCall octets other order order' call call' opnum opnum' stub stub'
one_call want octets other more more' order order' call call' opnum opnum' stub stub' e f g =
    let same : after want f.before f.last ≡ after want g.before g.last =
    same_found (after want f.before f.last) (after want g.before g.last)
    (sym (read_call want octets more order call opnum stub f) ∙ ap (read want) e ∙ read_call want other more' order' call' opnum' stub' g) in
    let long : length octets ≡ length other =
    call_length want octets order call opnum stub f ∙ ap (λ b. b.at) same ∙ sym (call_length want other order' call' opnum' stub' g) in
    let opening : opened f.before.opening (opening_of want f.last) ≡ opened g.before.opening (opening_of want g.last) =
    same_some (opened f.before.opening (opening_of want f.last)) (opened g.before.opening (opening_of want g.last)) (ap (λ b. b.opening) same) in
    let stated = sym f.states ∙ opening ∙ g.states in
    record {
      octets_same = sym (take-append_seam octets more) ∙ ap (λ n. take n (octets ++ more)) long ∙ ap (take (length other)) e ∙ take-append_seam other more';
      order_same = ap (λ o. o.order) stated;
      call_same = ap (λ o. o.call) stated;
      opnum_same = ap (λ o. o.opnum) stated;
      stub_same = f.stub_is ∙ ap (λ b. b.stub) same ∙ sym g.stub_is;
    }
