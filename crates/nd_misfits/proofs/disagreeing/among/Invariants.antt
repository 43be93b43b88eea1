use Rattle.std.proofs.Common.{◌≡◌, drop, map}
use Rattle.nd_value.specs.Setting.{Setting}
use Rattle.nd_misfits.specs.HomeList.{home_tree}
use Rattle.nd_misfits.specs.Disagreeing.{disagreeing_homes}
use Rattle.nd_misfits.specs.Numbers.{AreNumbers}
use Rattle.nd_misfits.proofs.disagreeing.among.Given as goal

abbrev pub invariant-loop-at : goal.invariant-loop-at
invariant-loop-at l =
    (w : Setting) → w.table ≡ l.types → w.op ≡ l.operation → AreNumbers w l.graph l.numbers
    → disagreeing_homes w l.graph (map home_tree l.homes) ≡ disagreeing_homes w l.graph (map home_tree (drop l.at l.homes))
