use Rattle.std.proofs.Common.{◌∙◌}
use Rattle.dceidl_c.proofs.interfaces.dceidl_operation_number.Goals as goal
use Rattle.dceidl_c.proofs.interfaces.dceidl_operation_number.Goals.{in-Interface, in_default-deref}

pub returns-clause-utf8 : goal.returns-clause-utf8
returns-clause-utf8 c some right =
    elim c.match-deref.branch [
      | in-Interface w ↦ w.find_operation-status.ensures.utf8 (λ argument. right (w.status-is ∙ argument))
      | in_default-deref w ↦ absurd (some w.status-is)
    ]
