-- The fragments of a call, one after the other.
use Rattle.std.proofs.Common.{◌≡◌, ◌∙◌, ℕ, ◌+◌, ◌-◌, ◌*◌, ◌≤◌, ◌<◌, suc, zero, Bool, true, false, eqb, ltb, not, ◌&&◌, List, [], ◌∷◌, ◌++◌, length, take, drop, Option, Some, None, refl, ap}
use Rattle.std.proofs.Common.{sym, subst, arith}
use Rattle.std.proofs.lemmas.Bool.Decides.{nat_tests}
use Rattle.std.proofs.lemmas.List.{length-append, length-take-le, length-drop}
use Rattle.std.proofs.KnownBytes.{Consumes-trans}
use Rattle.std.specs.Io.KnownBytes.{Consumes}
use Rattle.nd_base.specs.Over.{SourceSeen, SourceOver, source_over, HasRisen}
use Rattle.nd_base.proofs.Rising.{rose_later}
use Rattle.nd_base.specs.declared.TheConstants.{STREAM_LIMIT}
use Rattle.rpc_pdu.specs.declared.pdu.Wanted.{Wanted}
use Rattle.rpc_pdu.specs.declared.pdu.Opening.{Opening}
use Rattle.rpc_pdu.specs.declared.pdu.Joined.{Joined}
use Rattle.rpc_pdu.specs.declared.pdu.PduFault.{PduFault}
use Rattle.rpc_pdu.specs.declared.pdu.PduFault.TheVariants as fault
use Rattle.rpc_pdu.specs.declared.pdu.PduReason.{PduReason}
use Rattle.rpc_pdu.specs.declared.pdu.PduReason.TheVariants as why
use Rattle.rpc_pdu.specs.Checks.{is_last, has_object, fragment_length, header_length, header_by, part_length, part_of, opening_of, Before, before, checks, refusal, after, opened}
use Rattle.rpc_pdu.specs.Fragments.{IsFragment, AreEarlier, one_more, Fragments, BadPdu, IsJoined, IsRefused, IsJoinCause, IsWholeFragment, IsFragmentCause}
use Rattle.rpc_pdu.proofs.Checking.{each_passes, most_header, below_or}
use Rattle.rpc_pdu.proofs.Staying.{IsThere, is_there}
use Rattle.rpc_pdu.proofs.Reading.{Comes, comes}
use Rattle.rpc_pdu.proofs.Fetched.{end_from}

some_data : (n : ℕ) (last : Bool) → (eqb n 0 && not last) ≡ false → last ≡ false → 0 < n
some_data n true h e = cc
some_data n false h e = grind (arith, nat_tests)

-- what a fragment that is not the last adds
pub record Grown (b next : Before) : Type 0 where
  pub few : next.at ≤ 41 * length next.stub
  pub room : length next.stub ≤ STREAM_LIMIT
  pub more : length b.stub < length next.stub

grown : (want : Wanted) (b : Before) (os : List ℕ) → IsFragment want b os → is_last os ≡ false → b.at ≤ 41 * length b.stub → Grown b (after want b os)
grown want b os f last few =
    let there = is_there want b os f.accepted in
    let each = each_passes (checks want b os) f.accepted in
    let some : 0 < part_length want os = some_data (part_length want os) (is_last os) each.1.1.1.1.1.1.1.1.1.1.1.0 last in
    let room : length b.stub + part_length want os ≤ STREAM_LIMIT = below_or STREAM_LIMIT (length b.stub + part_length want os) each.1.1.1.1.1.1.1.1.1.1.1.1.0 in
    let most : header_length want os ≤ 40 = most_header want (has_object os) in
    let left : length (drop (header_length want os) os) ≡ length os - header_length want os = length-drop (header_length want os) os in
    let part : length (part_of want os) ≡ part_length want os =
    length-take-le (part_length want os) (drop (header_length want os) os) (omega (arith, left, there.fragment)) in
    let all : length (b.stub ++ part_of want os) ≡ length b.stub + length (part_of want os) = length-append b.stub (part_of want os) in
    let sum : fragment_length os ≡ header_length want os + part_length want os = omega (arith, there.header) in
    record { few = omega (arith, few, all, part, some, sum, most); room = omega (arith, all, part, room); more = omega (arith, all, part, some) }

module _ {S : Type 0} (shown : S → SourceSeen) (want : Wanted) where
  abbrev seen : S → S → SourceOver
  seen x y = source_over shown x y

  -- fragments that were taken so far
  abbrev pub Earlier : S → S → Before → Type 0
  Earlier x y b = (earlier : List ℕ) × (AreEarlier want earlier b × Consumes (shown x).left (shown y).left earlier)

  pub one_more_taken : (x y z : S) (b next : Before) (last : Bool) → Earlier x y b → IsWholeFragment want b (seen y z) next last → last ≡ false → Earlier x z next
  one_more_taken x y z b next last e w not_last =
      subst (Earlier x z) w.after_is
      (e.0 ++ w.os, (one_more e.0 b w.os e.1.0 w.fragment (w.last_is ∙ not_last), Consumes-trans (shown x).left (shown y).left (shown z).left e.0 w.os e.1.1 w.taken))

  pub grown_by : (y z : S) (b next : Before) (last : Bool) → IsWholeFragment want b (seen y z) next last → last ≡ false → b.at ≤ 41 * length b.stub → Grown b next
  grown_by y z b next last w not_last few = subst (Grown b) w.after_is (grown want b w.os w.fragment (w.last_is ∙ not_last) few)

  pub all_taken : (x y z : S) (b : Before) (o : Opening) (at : ℕ) (stub : List ℕ) (last : Bool) → Earlier x y b → IsWholeFragment want b (seen y z) (before (Some o) at stub) last → last ≡ true
      → (j : Joined) → j.order ≡ o.order → j.call ≡ o.call → j.opnum ≡ o.opnum → j.stub ≡ stub → j.taken ≡ at → IsJoined want (seen x z) j
  all_taken x y z b o at stub last e w is_last_one j order call opnum stub_is taken =
      let c = comes want e.0 b e.1.0 in
      let all : length (e.0 ++ w.os) ≡ length e.0 + length w.os = length-append e.0 w.os in
      let same : (after want b w.os).at ≡ at = ap (λ q. q.at) w.after_is in
      let here : opened b.opening (opening_of want w.os) ≡ o = let some : Some (opened b.opening (opening_of want w.os)) ≡ Some o = ap (λ q. q.opening) w.after_is in cc in
      record {
        octets = e.0 ++ w.os;
        taken = Consumes-trans (shown x).left (shown y).left (shown z).left e.0 w.os e.1.1 w.taken;
        count = omega (arith, all, c.at, w.fragment.whole, same, taken);
        fragments = record {
          earlier = e.0;
          before = b;
          are_earlier = e.1.0;
          last = w.os;
          end_to_end = refl;
          is_fragment = w.fragment;
          is_last = w.last_is ∙ is_last_one;
          states = here
              ∙ ap (λ n. record { order = n; call = o.call; opnum = o.opnum }) (sym order)
              ∙ ap (λ n. record { order = j.order; call = n; opnum = o.opnum }) (sym call)
              ∙ ap (λ n. record { order = j.order; call = j.call; opnum = n }) (sym opnum);
          stub_is = stub_is ∙ sym (ap (λ q. q.stub) w.after_is);
        };
      }

  pub cause_of : (x y z : S) (b : Before) (e : PduFault) → (shown x).faults ≤ (shown y).faults → Earlier x y b → IsFragmentCause want b (seen y z) e → IsJoinCause want (seen x z) e
  cause_of x y z b fault.Memory low d h = tt
  cause_of x y z b fault.ReadFault low d h =
      let all : length (d.0 ++ h.os) ≡ length d.0 + length h.os = length-append d.0 h.os in
      let c = comes want d.0 b d.1.0 in
      let there : b.at + length h.os ≡ length (d.0 ++ h.os) = omega (arith, all, c.at) in record {
        octets = d.0 ++ h.os;
        taken = Consumes-trans (shown x).left (shown y).left (shown z).left d.0 h.os d.1.1 h.taken;
        short = record {
          earlier = d.0;
          before = b;
          are_earlier = d.1.0;
          rest = h.os;
          end_to_end = refl;
          refused = h.short ∙ ap (λ (q : ℕ). Some (q, why.Short)) there;
        };
        failed = rose_later (shown x).faults (shown y).faults (shown z).faults low h.failed;
      }
  cause_of x y z b (fault.Bad p w) low d h = record {
    octets = d.0 ++ h.os;
    taken = Consumes-trans (shown x).left (shown y).left (shown z).left d.0 h.os d.1.1 h.taken;
    bad = record { earlier = d.0; before = b; are_earlier = d.1.0; rest = h.os; end_to_end = refl; refused = h.refused };
    ends = h.ends;
    end = end_from shown x y z w h.end;
  }
