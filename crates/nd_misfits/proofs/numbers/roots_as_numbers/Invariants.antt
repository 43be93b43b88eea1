use Rattle.std.proofs.Common.{◌≡◌, ◌++◌, drop, map}
use Rattle.nd_misfits.specs.HomeList.{home_tree}
use Rattle.nd_misfits.specs.Numbers.{home_number}
use Rattle.nd_misfits.proofs.numbers.roots_as_numbers.Given as goal

abbrev pub invariant-loop-at : goal.invariant-loop-at
invariant-loop-at l =
    l.numbers.items ++ map (λ h. home_number l.graph (home_tree h)) (drop l.at l.homes) ≡ map (λ h. home_number l.graph (home_tree h)) l.homes
