use Rattle.std.proofs.Common.{◌≡◌, drop}
use Rattle.nd_value.specs.Seen.{tree_of}
use Rattle.nd_value.specs.Conforms.{disagreement_of}
use Rattle.nd_misfits.specs.Disagreeing.{subject_in}
use Rattle.nd_misfits.specs.Numbers.{agreements_by}
use Rattle.nd_misfits.proofs.agreement.parameter.Given as goal

abbrev pub invariant-loop-at : goal.invariant-loop-at
invariant-loop-at l =
    disagreement_of (subject_in l.graph (tree_of l.val)) (agreements_by l.numbers l.vars)
    ≡ disagreement_of (subject_in l.graph (tree_of l.val)) (agreements_by l.numbers (drop l.at l.vars))
