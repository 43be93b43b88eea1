use Rattle.std.proofs.Common.{◌≡◌, drop}
use Rattle.nd_value.specs.Tree.{trees}
use Rattle.nd_value.specs.Seen.{tree_of}
use Rattle.nd_value.specs.Agreement.{member_agreements}
use Rattle.nd_value.specs.Conforms.{disagreement_of}
use Rattle.nd_misfits.specs.Disagreeing.{subject_in}
use Rattle.nd_misfits.proofs.agreement.member.Given as goal

abbrev pub invariant-loop-at : goal.invariant-loop-at
invariant-loop-at l =
    disagreement_of (subject_in l.graph (tree_of l.val)) (member_agreements (trees l.vals) l.vars)
    ≡ disagreement_of (subject_in l.graph (tree_of l.val)) (member_agreements (trees l.vals) (drop l.at l.vars))
