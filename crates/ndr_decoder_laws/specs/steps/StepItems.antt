-- The items that a step reads: none, or the one of its gap, count, number, tag, text or context handle.
-- `h` is the home, `s` the state before the step, `os` are the octets of the step.
use Rattle.std.specs.Prelude.{ℕ, ℤ, pos, if◌then◌else◌, List, [], ◌∷◌, length}
use Rattle.std.specs.Ordering.{int_eq}
use Rattle.nd_base.specs.declared.octets.Order.{Order}
use Rattle.nd_types.specs.declared.types.Primitive.{Primitive}
use Rattle.nd_types.specs.declared.types.Primitive.TheVariants.{Short}
use Rattle.nd_types.specs.Number.{unsigned, value_of_octets}
use Rattle.nd_types.specs.Table.{width}
use Rattle.nd_value.specs.declared.item.Home.{Home}
use Rattle.nd_value.specs.declared.item.Item.{Item}
use Rattle.nd_value.specs.declared.item.ItemKind.{ItemKind}
use Rattle.nd_value.specs.declared.item.ItemKind.TheVariants as item
use Rattle.ndr_code.specs.declared.instr.Instr.{Instr}
use Rattle.ndr_code.specs.declared.instr.Instr.TheVariants as op
use Rattle.ndr_decoder_laws.specs.steps.Steps.{State, Phase, gap_read, offset_read, count_read}
use Rattle.ndr_code.specs.Fields.{prim_of}

abbrev pub item_here : Home → ℕ → ItemKind → ℕ → ℤ → ℕ → Item
item_here h at kind len value node = record { at = at; len = len; kind = kind; home = h; node = node; value = value }

-- an item of the node that comes next, at the place where the state is
abbrev pub next_item : Home → State → ItemKind → ℕ → ℤ → Item
next_item h s kind len value = item_here h s.at kind len value (length s.nodes)

-- an empty gap is no item; any other belongs to the home as a whole
abbrev pub gap_items : Home → ℕ → List ℕ → List Item
gap_items h at [] = []
gap_items h at (o ∷ os) = item_here h at item.Gap (length (o ∷ os)) (pos 0) 0 ∷ []

-- a union's tag is noted with its arm
abbrev pub tag_items : Home → State → List Item
tag_items h s = next_item h s item.Tag (width s.carrier) s.tag ∷ []

abbrev pub arm_items : Home → ℤ → State → List Item
arm_items h label s = if int_eq label s.tag then tag_items h s else []

module _ (order : Order) (h : Home) (os : List ℕ) where
  abbrev pub number_items : Primitive → State → List Item
  number_items p s = next_item h s item.Num (width p) (value_of_octets order p os) ∷ []

  -- a count or a pointer's number
  abbrev pub count_items : ItemKind → State → List Item
  count_items kind s = next_item h s kind 4 (pos (unsigned order os)) ∷ []

  abbrev pub vary_items : Phase → State → List Item
  vary_items (offset_read o) s = count_items item.Actual s
  vary_items _ s = count_items item.Offset s

  abbrev pub text_items : Phase → State → List Item
  text_items (count_read c) s = next_item h s item.Text (length os) (pos (length os)) ∷ []
  text_items (offset_read o) s = count_items item.Actual s
  text_items _ s = count_items item.Offset s

  abbrev pub hoist_items : Phase → State → List Item
  hoist_items gap_read s = count_items item.Max s
  hoist_items _ s = gap_items h s.at os

  abbrev pub step_items : Instr → State → List Item
  step_items (op.Align n) s = gap_items h s.at os
  step_items (op.Num of) s = number_items (prim_of of.0) s
  step_items (op.Enum of) s = number_items Short s
  step_items (op.Vary bound run) s = vary_items s.phase s
  step_items (op.Confvary run) s = vary_items s.phase s
  step_items (op.Text bound) s = text_items s.phase s
  step_items op.Hoist s = hoist_items s.phase s
  step_items (op.Arm label run) s = arm_items h label s
  step_items (op.Other run) s = tag_items h s
  step_items (op.Pointer class to run) s = count_items item.Number s
  step_items op.Context s = next_item h s item.Context 20 (pos 0) ∷ []
  step_items _ s = []
