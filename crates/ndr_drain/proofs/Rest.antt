-- What the steps of a drain ask for.
-- `i` is an interface, `n` the number of an operation of it, `q` the graph of a request or none; `b` is the intake at the beginning, `first` after the head.
use Rattle.std.proofs.Common.{◌≡◌, ◌<◌, ◌-◌, ◌∙◌, sym, subst, ℕ, List, length, Option, Some, Result, Ok, Err}
use Rattle.std.specs.Prelude.{IfOk, IfErr}
use Rattle.std.specs.List.{slice_get}
use Rattle.nd_base.specs.declared.octets.Order.{Order}
use Rattle.nd_base.specs.Over.{SourceOver}
use Rattle.nd_types.specs.declared.interface.Interface.{Interface}
use Rattle.nd_types.specs.declared.types.Operation.{Operation}
use Rattle.nd_types.specs.declared.types.Side.{Side}
use Rattle.nd_types.specs.declared.types.TypeId.{TypeId}
use Rattle.nd_types.specs.Roots.{named_roots}
use Rattle.nd_value.specs.declared.value.Graph.{Graph}
use Rattle.nd_value.specs.Deferral.{before_pipes}
use Rattle.nd_value.specs.Fitting.{Fitting, setting_beside}
use Rattle.nd_value.specs.Request.{IsRequestOf}
use Rattle.nd_value.specs.Setting.{Setting, root_list}
use Rattle.nd_lemmas.proofs.Lists.{item_at}
use Rattle.nd_grammar.specs.decoded.Verdict.{DecodingSeen}
use Rattle.ndr_drain_reader.specs.Calls.{HasBegun, HasHead}
use Rattle.ndr_drain_reader.specs.Seen.{IntakeSeen}
use Rattle.ndr_drain_reader.specs.declared.intake.Phase.TheVariants.{Begun, Reading}
use Rattle.ndr_drain.specs.Drained.{pipe_elements}
use Rattle.ndr_drain.specs.Turns.{AreElements, OfSetting}
use Rattle.ndr_drain.proofs.Begun.{all_left, first_interface, first_op, first_root, first_side, head_of, left_is, of_setting}
use Rattle.ndr_drain.proofs.ElementTypes.{are_elements, as_many, numbers}

pub ok_on : {T E : Type 0} (r : Result T E) (P Q : T → Type 0) → ((x : T) → P x → Q x) → IfOk r P → IfOk r Q
ok_on (Ok x) P Q f h = f x h
ok_on (Err e) P Q f h = tt

pub err_on : {T E : Type 0} (r : Result T E) (P Q : E → Type 0) → ((x : E) → P x → Q x) → IfErr r P → IfErr r Q
err_on (Ok x) P Q f h = tt
err_on (Err e) P Q f h = f e h

module _ (i tie : Interface) (n : ℕ) (side : Side) (order : Order) (tied : tie ≡ i) (b : IntakeSeen)
    (begun : (o : Operation) → slice_get tie.operations n ≡ Some o → HasBegun tie n o side order b) (known : n < length i.operations) where
  -- the operation
  abbrev o : Operation
  o = (item_at i.operations n known).0

  there : slice_get i.operations n ≡ Some o
  there = (item_at i.operations n known).1

  begins : HasBegun tie n o side order b
  begins = let A : Interface → Type 0 = λ j. slice_get j.operations n ≡ Some o in begun o (subst A (sym tied) there)

  pub b_phase : b.phase ≡ Begun
  b_phase = begins.phase

  pub b_request : (f : Option Fitting) → IsRequestOf i n side f → IsRequestOf b.interface b.op b.side f
  b_request f r =
      let J : Interface → Type 0 = λ j. IsRequestOf j n side f in
      let N : ℕ → Type 0 = λ m. IsRequestOf b.interface m side f in
      let S : Side → Type 0 = λ x. IsRequestOf b.interface b.op x f in
      subst S (sym begins.side_is) (subst N (sym begins.op_is) (subst J (sym (begins.interface_is ∙ tied)) r))

  module _ (q : Option Graph) (first : IntakeSeen) (s : SourceOver) (t : DecodingSeen)
      (read : (o : Operation) → slice_get b.interface.operations b.op ≡ Some o → HasHead (setting_beside b.interface o b.side q) s t b first) (beside : first.given ≡ q) where
    pub rest_tied : first.interface ≡ i
    rest_tied = first_interface i tie n side order q b first s t tied begun read beside o there

    pub rest_op : first.op ≡ n
    rest_op = first_op i tie n side order q b first s t tied begun read beside o there

    pub rest_side : first.side ≡ side
    rest_side = first_side i tie n side order q b first s t tied begun read beside o there

    pub rest_reading : first.phase ≡ Reading
    rest_reading = (head_of i tie n side order q b first s t tied begun read beside o there).phase

    in_first : (P : Setting → Type 0) → ((o : Operation) → slice_get i.operations n ≡ Some o → P (setting_beside i o side q)) → OfSetting first P
    in_first P f = of_setting i n side q first rest_tied rest_op rest_side beside P f

    pub rest_first : OfSetting first (λ w. first.spot.root ≡ before_pipes (root_list w))
    rest_first = in_first (λ w. first.spot.root ≡ before_pipes (root_list w)) (λ o there. first_root i tie n side order q b first s t tied begun read beside o there)

    pub rest_all : OfSetting first (λ w. first.left ≡ length (root_list w) - before_pipes (root_list w))
    rest_all = in_first (λ w. first.left ≡ length (root_list w) - before_pipes (root_list w)) (λ o there. all_left i tie n side order q b first s t tied begun read beside o there)

    module _ (types : List TypeId) (are : (o : Operation) → slice_get i.operations n ≡ Some o → numbers types ≡ pipe_elements i.types (named_roots i.types side o)) where
      pub rest_types : OfSetting first (λ w. AreElements w (numbers types))
      rest_types = in_first (λ w. AreElements w (numbers types)) (λ o there. are_elements (setting_beside i o side q) (numbers types) (are o there))

      -- there are as many types as pipes
      pub rest_many : length types ≡ b.left
      rest_many =
          let a : AreElements (setting_beside i o side q) (numbers types) = are_elements (setting_beside i o side q) (numbers types) (are o there) in
          sym (as_many types) ∙ a.all ∙ sym (left_is i tie n side order q b first s t tied begun read beside o there)
