use Rattle.std.proofs.Common.{◌≡◌, drop}
use Rattle.std.specs.List.{list_all}
use Rattle.nd_misfits.specs.Simple.{is_simple_member}
use Rattle.nd_misfits.proofs.simple.are_simple.Given as goal

abbrev pub invariant-loop-at : goal.invariant-loop-at
invariant-loop-at l =
    list_all (is_simple_member l.pointers l.types) l.members ≡ list_all (is_simple_member l.pointers l.types) (drop l.at l.members)
