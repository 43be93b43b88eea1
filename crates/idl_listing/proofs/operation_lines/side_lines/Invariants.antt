use Rattle.std.proofs.Common.{◌≡◌, ◌++◌, map}
use Rattle.std.specs.List.{flat_map}
use Rattle.nd_types.specs.Roots.{root_value}
use Rattle.idl_listing.specs.Worded.{named_line}
use Rattle.idl_listing.proofs.operation_lines.side_lines.Given as goal

-- the lines of the roots that were given are written
abbrev pub invariant-loop-root : goal.invariant-loop-root
invariant-loop-root l = l.text ≡ l.initial.text ++ flat_map (named_line l.operation l.fn.side) (map root_value l.yielded)
