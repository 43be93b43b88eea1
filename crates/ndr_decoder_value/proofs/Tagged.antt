-- Numbers that are values of a type, tags and arms.
-- `s` is a state before, `t` one after a part of the step, `z` a value, `o` an outcome.
use Rattle.std.proofs.Common.{◌≡◌, ℕ, ℤ, Bool, true, false, List, Option, Some, None, refl, sym, ap, ◌∙◌}
use Rattle.std.specs.Prelude.{eqb, if◌then◌else◌, not}
use Rattle.nd_base.specs.declared.octets.Order.{Order}
use Rattle.nd_types.specs.Number.{value_of_octets}
use Rattle.nd_types.specs.Table.{width}
use Rattle.nd_value.specs.Tree as tree
use Rattle.nd_flat.specs.FlatForm.{armed_count}
use Rattle.nd_grammar.specs.declared.reason.Reason.TheVariants as reason
use Rattle.nd_grammar.specs.Refusal.{is_enumerator}
use Rattle.ndr_code.specs.declared.lists.EnumList.{EnumList}
use Rattle.ndr_decoder_laws.specs.reader.Points.{TagForm}
use Rattle.ndr_decoder_laws.specs.declared.frame.Frame.TheVariants as frame
use Rattle.ndr_decoder_laws.specs.steps.Steps.{State, goes, refused, next, past, with_node, with_tag, tag_step, form_by, arm_taken, Phase, jumped, pushed}
use Rattle.ndr_decoder_value.specs.Parts.{arm_entered}

-- ## Numbers

module _ (values : List EnumList) (order : Order) (os : List ℕ) where
  -- ## Tags

  pub tag_known : (form : TagForm) (s : State) (z : ℤ) → z ≡ value_of_octets order form.prim os → is_enumerator form.values z ≡ true
      → tag_step values order os form s ≡ goes (next (with_tag z form.prim s))
  tag_known form s z e h =
      ap (λ (b : Bool). if b then goes (next (with_tag (value_of_octets order form.prim os) form.prim s)) else refused s.at reason.EnumValue)
      (ap (is_enumerator form.values) (sym e) ∙ h)
      ∙ ap (λ (y : ℤ). goes (next (with_tag y form.prim s))) (sym e)

-- a tag is a value of the type that its form says
pub form_values : (of : ℕ) (o : Option (List ℤ)) → (form_by of o).values ≡ o
form_values of None = refl
form_values of (Some values) = refl

-- ## Arms

pub arm_is : (run : ℕ) (b : Bool) (s t : State) (phase : Phase) → b ≡ not (eqb run 0) → t ≡ with_node (tree.Union s.tag, armed_count b) (Some s.at) s
    → arm_taken (eqb run 0) run s ≡ arm_entered run (past (width s.carrier) phase t)
arm_is run b s t phase h e =
    by (eqb run 0) (ap (λ (c : Bool). with_node (tree.Union s.tag, armed_count c) (Some s.at) s) (sym h) ∙ sym e)
  where
    by : (z : Bool) → with_node (tree.Union s.tag, armed_count (not z)) (Some s.at) s ≡ t
        → arm_taken z run s ≡ (if z then jumped 0 (past (width s.carrier) phase t) else jumped run (pushed (frame.Elements 0 run 1) (past (width s.carrier) phase t)))
    by true e = ap (λ (q : State). jumped 0 (past (width s.carrier) phase q)) e
    by false e = ap (λ (q : State). jumped run (pushed (frame.Elements 0 run 1) (past (width s.carrier) phase q))) e

-- an arm leaves the cells
pub arm_cells : (b : Bool) (run : ℕ) (s : State) → (arm_taken b run s).cells ≡ s.cells
arm_cells true run s = refl
arm_cells false run s = refl
