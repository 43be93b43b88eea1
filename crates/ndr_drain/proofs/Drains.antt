-- A drain over an interface, from the beginning to its answer.
-- Of the intake `b` is what was seen at the beginning and `first` after the head; `l0`, `l1`, `l2` are what the source had left at the beginning, after the head and at the end, and
-- so for the faults, the log and the steps.
use Rattle.std.proofs.Common.{◌≡◌, ◌≤◌, ◌∙◌, sym, refl, subst, ℕ, Bool, List, length, Option, Some, arith}
use Rattle.std.specs.List.{slice_get}
use Rattle.nd_base.specs.declared.octets.Order.{Order}
use Rattle.nd_types.specs.declared.interface.Interface.{Interface}
use Rattle.nd_types.specs.declared.types.Operation.{Operation}
use Rattle.nd_types.specs.declared.types.Side.{Side}
use Rattle.nd_value.specs.declared.value.Graph.{Graph}
use Rattle.nd_value.specs.Fitting.{setting_beside}
use Rattle.nd_value.specs.Logged.{Logged}
use Rattle.nd_value.specs.Setting.{Setting}
use Rattle.nd_grammar.specs.decoded.Verdict.{decoding_seen}
use Rattle.ndr_decoder_state.specs.declared.fault.DecodeFault.{DecodeFault}
use Rattle.ndr_pipe.specs.Ends.{EndSeen}
use Rattle.ndr_drain_reader.specs.Calls.{HasBegun, HasHead, IsHeadCause}
use Rattle.ndr_drain_reader.specs.Seen.{IntakeSeen}
use Rattle.ndr_drain.specs.Drained.{IsCutInHead, IsDrainCause, IsDrained, pipe_count}
use Rattle.ndr_drain.specs.Faults.{fault_of}
use Rattle.ndr_drain.specs.Turns.{IsReadToEnd, OfSetting, StopsUnderWay}
use Rattle.ndr_drain.specs.declared.fault.DrainFault.{DrainFault}
use Rattle.ndr_drain.proofs.Begun.{b_order, first_interface, first_op, first_side, head_of, in_setting, left_is, legal_side}
use Rattle.ndr_drain.proofs.UnderWay.{ends_to, over}
use Rattle.ndr_drain.proofs.Whole.{drained, not_begun, nothing_read, stopped}

module _ (i tie : Interface) (n : ℕ) (side : Side) (order : Order) (q : Option Graph) (tied : tie ≡ i) (b first : IntakeSeen) (l0 l1 l2 : Option (List ℕ)) (e1 e2 : Bool) (f0 f1 f2 : ℕ)
    (ends last : List EndSeen) (g0 g1 g2 : Logged) (n0 n1 n2 : ℕ)
    (begun : (o : Operation) → slice_get tie.operations n ≡ Some o → HasBegun tie n o side order b) where
  -- ## After the head

  module _ (read : (o : Operation) → slice_get b.interface.operations b.op ≡ Some o
      → HasHead (setting_beside b.interface o b.side q) (over l0 l1 e1 f0 f1) (decoding_seen g0 g1 n0 n1) b first) (beside : first.given ≡ q) where
    abbrev order_at : (o : Operation) → slice_get i.operations n ≡ Some o → b.order ≡ order
    order_at o there = b_order i tie n side order q b first (over l0 l1 e1 f0 f1) (decoding_seen g0 g1 n0 n1) tied begun read beside o there

    abbrev head_at : (o : Operation) → slice_get i.operations n ≡ Some o → HasHead (setting_beside i o side q) (over l0 l1 e1 f0 f1) (decoding_seen g0 g1 n0 n1) b first
    head_at o there = head_of i tie n side order q b first (over l0 l1 e1 f0 f1) (decoding_seen g0 g1 n0 n1) tied begun read beside o there

    under : (P : Setting → Type 0) → OfSetting first P → (o : Operation) → slice_get i.operations n ≡ Some o → P (setting_beside i o side q)
    under P f o there =
        let s = over l0 l1 e1 f0 f1 in
        let t = decoding_seen g0 g1 n0 n1 in
        in_setting i n side q first (first_interface i tie n side order q b first s t tied begun read beside o there) (first_op i tie n side order q b first s t tied begun read beside o there)
        (first_side i tie n side order q b first s t tied begun read beside o there) beside P f o there

    -- all was read and given
    pub drain_done : (wanted found : ℕ) → wanted ≡ b.left → found ≡ length ends → wanted ≤ found → (kept : Graph) (taken : ℕ)
        → OfSetting first (λ w. IsReadToEnd w first (over l1 l2 e2 f1 f2) (ends_to ends last) (decoding_seen g1 g2 n1 n2) kept taken) → (o : Operation) → slice_get i.operations n ≡ Some o
        → IsDrained (setting_beside i o side q) order (over l0 l2 e2 f0 f2) (ends_to ends last) (decoding_seen g0 g2 n0 n2) taken kept
    drain_done wanted found w f many kept taken d o there =
        let W : Setting = setting_beside i o side q in
        let left : b.left ≡ pipe_count W = left_is i tie n side order q b first (over l0 l1 e1 f0 f1) (decoding_seen g0 g1 n0 n1) tied begun read beside o there in
        let enough : pipe_count W ≤ length ends = omega (arith, w, f, many, left) in
        let D : Order → Type 0 = λ x. IsDrained W x (over l0 l2 e2 f0 f2) (ends_to ends last) (decoding_seen g0 g2 n0 n2) taken kept in
        subst D (order_at o there) (drained W (legal_side i n o side q there) b first l0 l1 l2 e1 e2 f0 f1 f2 ends last g0 g1 g2 n0 n1 n2 (head_at o there) kept taken enough
        (under (λ w. IsReadToEnd w first (over l1 l2 e2 f1 f2) (ends_to ends last) (decoding_seen g1 g2 n1 n2) kept taken) d o there))

    -- a chunk was not read, or not given
    pub drain_stopped : (f : DrainFault) → f0 ≤ f1 → OfSetting first (λ w. StopsUnderWay w first (over l1 l2 e2 f1 f2) (ends_to ends last) (decoding_seen g1 g2 n1 n2) f)
        → (o : Operation) → slice_get i.operations n ≡ Some o → IsDrainCause (setting_beside i o side q) order (over l0 l2 e2 f0 f2) (ends_to ends last) (decoding_seen g0 g2 n0 n2) f
    drain_stopped f later d o there =
        let W : Setting = setting_beside i o side q in
        let D : Order → Type 0 = λ x. IsDrainCause W x (over l0 l2 e2 f0 f2) (ends_to ends last) (decoding_seen g0 g2 n0 n2) f in
        subst D (order_at o there) (stopped W (legal_side i n o side q there) b first l0 l1 l2 e1 e2 f0 f1 f2 ends last g0 g1 g2 n0 n1 n2 (head_at o there) f
        (under (λ w. StopsUnderWay w first (over l1 l2 e2 f1 f2) (ends_to ends last) (decoding_seen g1 g2 n1 n2) f) d o there) later)

  -- ## Before that

  -- the head was not read
  pub head_refused : (f : DecodeFault) (r : DrainFault) → r ≡ fault_of f
      → ((o : Operation) → slice_get b.interface.operations b.op ≡ Some o → IsHeadCause (setting_beside b.interface o b.side q) b.order (over l0 l1 e1 f0 f1) (decoding_seen g0 g1 n0 n1) f)
      → (o : Operation) → slice_get i.operations n ≡ Some o → IsDrainCause (setting_beside i o side q) order (over l0 l1 e1 f0 f1) (ends_to ends ends) (decoding_seen g0 g1 n0 n1) r
  head_refused f r e h o there =
      let A : Interface → Type 0 = λ j. slice_get j.operations n ≡ Some o in
      let begins : HasBegun tie n o side order b = begun o (subst A (sym tied) there) in
      let B : Interface → Type 0 = λ j. slice_get j.operations b.op ≡ Some o in
      let C : ℕ → Type 0 = λ m. slice_get i.operations m ≡ Some o in
      let there' : slice_get b.interface.operations b.op ≡ Some o = subst B (sym (begins.interface_is ∙ tied)) (subst C (sym begins.op_is) there) in
      let J : Interface → Type 0 = λ j. IsHeadCause (setting_beside j o b.side q) b.order (over l0 l1 e1 f0 f1) (decoding_seen g0 g1 n0 n1) f in
      let S : Side → Type 0 = λ x. IsHeadCause (setting_beside i o x q) b.order (over l0 l1 e1 f0 f1) (decoding_seen g0 g1 n0 n1) f in
      let O : Order → Type 0 = λ x. IsHeadCause (setting_beside i o side q) x (over l0 l1 e1 f0 f1) (decoding_seen g0 g1 n0 n1) f in
      not_begun (setting_beside i o side q) order (over l0 l1 e1 f0 f1) (decoding_seen g0 g1 n0 n1) ends f r e
      (subst O begins.order_is (subst S begins.side_is (subst J (begins.interface_is ∙ tied) (h o there'))))

-- out of memory before anything was read
pub no_memory : (i : Interface) (n : ℕ) (o : Operation) (side : Side) (order : Order) (q : Option Graph) (l : Option (List ℕ)) (e : Bool) (f : ℕ) (ends : List EndSeen) (g : Logged) (m : ℕ)
    → slice_get i.operations n ≡ Some o → IsCutInHead (setting_beside i o side q) order (over l l e f f) (ends_to ends ends) (decoding_seen g g m m)
no_memory i n o side order q l e f ends g m there = record {
  cut = record { cut = nothing_read (setting_beside i o side q) (legal_side i n o side q there) order l e f g m; in_head = omega arith };
  none_given = refl;
}
