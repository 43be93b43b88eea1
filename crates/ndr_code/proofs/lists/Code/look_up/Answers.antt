use Rattle.std.proofs.Common.{subst, sym}
use Rattle.ndr_code.specs.Fields.{AreFields}
use Rattle.ndr_code.specs.Lengths.{AreLengths}
use Rattle.ndr_code.proofs.LengthTables.{lengths_none}
use Rattle.ndr_code.proofs.lists.Code.look_up.Goals as goal

pub invariant_of-self : goal.invariant_of-self
invariant_of-self c = (
  subst (λ code. AreFields code c.look_fields_up-fields.new.fields.items) c.as_slice.ensures.value c.look_fields_up-fields.ensures,
  lengths_none c.self.inside.items.items c.clear-2.new.self.items c.clear-2.ensures.items,
)

pub look_lengths_up-lengths-requires-clause-fields :
    goal.look_lengths_up-lengths-requires-clause-fields
look_lengths_up-lengths-requires-clause-fields c =
    subst (λ fields. AreFields c.as_slice-code.result.now fields) (sym c.as_slice-2.ensures.value)
    (subst (λ code. AreFields code c.look_fields_up-fields.new.fields.items) (sym c.as_slice-code.ensures.value)
    (subst (λ code. AreFields code c.look_fields_up-fields.new.fields.items) c.as_slice.ensures.value c.look_fields_up-fields.ensures))

pub invariant_of-self-2 : goal.invariant_of-self-2
invariant_of-self-2 c = (
  subst (λ code. AreFields code c.look_fields_up-fields.new.fields.items) c.as_slice.ensures.value c.look_fields_up-fields.ensures,
  subst (λ code. AreLengths code c.look_lengths_up-lengths.new.lengths.items) c.as_slice-code.ensures.value c.look_lengths_up-lengths.ensures,
)
