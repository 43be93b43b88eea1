use Rattle.std.proofs.Common.{◌≡◌, take, reverse}
use Rattle.ndr_explain.specs.Cursors.{path_to}
use Rattle.ndr_explain.proofs.levels.append_outer.Given as goal

abbrev pub invariant-loop-level : goal.invariant-loop-level
invariant-loop-level l = l.text ≡ path_to l.initial.text (reverse (take l.level-index l.below.items))
