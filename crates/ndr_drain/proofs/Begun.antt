-- What an intake shows under the setting of its stream.
-- `i` is an interface, `n` the number of an operation of it, `o` that operation, `q` the graph of a request or none; `b` is the intake at the beginning, `first` after the head.
use Rattle.std.proofs.Common.{◌≡◌, ◌-◌, ◌∙◌, ap, sym, subst, ℕ, length, Option, Some}
use Rattle.std.specs.List.{slice_get}
use Rattle.nd_base.specs.declared.octets.Order.{Order}
use Rattle.nd_base.specs.Over.{SourceOver}
use Rattle.nd_types.specs.declared.interface.Interface.{Interface}
use Rattle.nd_types.specs.declared.types.Operation.{Operation}
use Rattle.nd_types.specs.declared.types.Side.{Side}
use Rattle.nd_value.specs.declared.value.Graph.{Graph}
use Rattle.nd_value.specs.Deferral.{before_pipes}
use Rattle.nd_value.specs.Fitting.{setting_beside, setting_of}
use Rattle.nd_value.specs.Setting.{Setting, root_list}
use Rattle.nd_grammar.specs.LegalSide.{IsLegalSide}
use Rattle.nd_grammar.proofs.LegalSides.{interface_side}
use Rattle.nd_grammar.specs.decoded.Verdict.{DecodingSeen}
use Rattle.ndr_drain_reader.specs.Calls.{HasBegun, HasHead}
use Rattle.ndr_drain_reader.specs.Seen.{IntakeSeen, moved_to, setting_in}
use Rattle.ndr_drain.specs.Drained.{pipe_count}
use Rattle.ndr_drain.specs.Turns.{OfSetting}

pub legal_side : (i : Interface) (n : ℕ) (o : Operation) (s : Side) (q : Option Graph) → slice_get i.operations n ≡ Some o → IsLegalSide (setting_beside i o s q)
legal_side i n o s q e = let x : IsLegalSide (setting_of i o s) = interface_side i n o s e in record { operations = x.operations; legal = x.legal; operation = x.operation }

-- ## The same intake at another spot

pub of_moved : (first now : IntakeSeen) → now ≡ moved_to now.spot now.left first → (P : Setting → Type 0) → OfSetting first P → OfSetting now P
of_moved first now e P f = let Q : IntakeSeen → Type 0 = λ i. OfSetting i P in subst Q (sym e) f

pub of_first : (first now : IntakeSeen) → now ≡ moved_to now.spot now.left first → (P : Setting → Type 0) → OfSetting now P → OfSetting first P
of_first first now e P f = let Q : IntakeSeen → Type 0 = λ i. OfSetting i P in subst Q e f

-- ## An intake of an operation

module _ (i : Interface) (n : ℕ) (side : Side) (q : Option Graph) (now : IntakeSeen) (interface_is : now.interface ≡ i) (op_is : now.op ≡ n) (side_is : now.side ≡ side)
    (given_is : now.given ≡ q) where
  there_is : (o : Operation) → slice_get now.interface.operations now.op ≡ Some o → slice_get i.operations n ≡ Some o
  there_is o e =
      let A : Interface → Type 0 = λ j. slice_get j.operations now.op ≡ Some o in
      let B : ℕ → Type 0 = λ m. slice_get i.operations m ≡ Some o in
      subst B op_is (subst A interface_is e)

  is_there : (o : Operation) → slice_get i.operations n ≡ Some o → slice_get now.interface.operations now.op ≡ Some o
  is_there o e =
      let A : ℕ → Type 0 = λ m. slice_get i.operations m ≡ Some o in
      let B : Interface → Type 0 = λ j. slice_get j.operations now.op ≡ Some o in
      subst B (sym interface_is) (subst A (sym op_is) e)

  same_setting : (o : Operation) → setting_in now o ≡ setting_beside i o side q
  same_setting o =
      ap (λ j. setting_beside j o now.side now.given) interface_is ∙ ap (λ s. setting_beside i o s now.given) side_is ∙ ap (setting_beside i o side) given_is

  pub of_setting : (P : Setting → Type 0) → ((o : Operation) → slice_get i.operations n ≡ Some o → P (setting_beside i o side q)) → OfSetting now P
  of_setting P f o e = subst P (sym (same_setting o)) (f o (there_is o e))

  pub in_setting : (P : Setting → Type 0) → OfSetting now P → (o : Operation) → slice_get i.operations n ≡ Some o → P (setting_beside i o side q)
  in_setting P f o e = subst P (same_setting o) (f o (is_there o e))

-- ## After the head

module _ (i tie : Interface) (n : ℕ) (side : Side) (order : Order) (q : Option Graph) (b first : IntakeSeen) (s : SourceOver) (t : DecodingSeen) (tied : tie ≡ i)
    (begun : (o : Operation) → slice_get tie.operations n ≡ Some o → HasBegun tie n o side order b)
    (read : (o : Operation) → slice_get b.interface.operations b.op ≡ Some o → HasHead (setting_beside b.interface o b.side q) s t b first) (beside : first.given ≡ q)
    (o : Operation) (there : slice_get i.operations n ≡ Some o) where
  in_tie : slice_get tie.operations n ≡ Some o
  in_tie = let A : Interface → Type 0 = λ j. slice_get j.operations n ≡ Some o in subst A (sym tied) there

  begins : HasBegun tie n o side order b
  begins = begun o in_tie

  b_interface : b.interface ≡ i
  b_interface = begins.interface_is ∙ tied

  pub b_order : b.order ≡ order
  b_order = begins.order_is

  b_there : slice_get b.interface.operations b.op ≡ Some o
  b_there =
      let A : Interface → Type 0 = λ j. slice_get j.operations b.op ≡ Some o in
      let B : ℕ → Type 0 = λ m. slice_get i.operations m ≡ Some o in
      subst A (sym b_interface) (subst B (sym begins.op_is) there)

  b_setting : setting_beside b.interface o b.side q ≡ setting_beside i o side q
  b_setting = ap (λ j. setting_beside j o b.side q) b_interface ∙ ap (λ d. setting_beside i o d q) begins.side_is

  -- the head was read, under this setting
  pub head_of : HasHead (setting_beside i o side q) s t b first
  head_of = let H : Setting → Type 0 = λ w. HasHead w s t b first in subst H b_setting (read o b_there)

  pub first_interface : first.interface ≡ i
  first_interface = head_of.interface_is ∙ b_interface

  pub first_op : first.op ≡ n
  first_op = head_of.op_is ∙ begins.op_is

  pub first_side : first.side ≡ side
  first_side = head_of.side_is ∙ begins.side_is

  pub left_is : b.left ≡ pipe_count (setting_beside i o side q)
  left_is = begins.left ∙ ap (λ j. pipe_count (setting_of j o side)) tied

  -- the first pipe is next, and all are left
  pub first_root : first.spot.root ≡ before_pipes (root_list (setting_beside i o side q))
  first_root = ap (λ x. x.root) head_of.spot

  pub all_left : first.left ≡ length (root_list (setting_beside i o side q)) - before_pipes (root_list (setting_beside i o side q))
  all_left = head_of.as_many ∙ left_is
