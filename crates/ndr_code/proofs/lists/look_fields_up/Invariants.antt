use Rattle.std.proofs.Common.{◌≡◌, length}
use Rattle.ndr_code.specs.Fields.{AreFields}
use Rattle.ndr_code.proofs.lists.look_fields_up.Given as goal

abbrev pub invariant-loop-at : goal.invariant-loop-at
invariant-loop-at l = AreFields l.code l.fields.items × (length l.fields.items ≡ l.at)
