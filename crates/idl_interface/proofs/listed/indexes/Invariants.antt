use Rattle.std.proofs.Common.{map, take}
use Rattle.idl_constructs.specs.SeenNodes.{seen_declared}
use Rattle.idl_interface.specs.Made.{AreListed}
use Rattle.idl_interface.proofs.listed.indexes.Given as goal

-- the first of the list
abbrev pub invariant-loop-index : goal.invariant-loop-index
invariant-loop-index l = AreListed (map seen_declared (take l.index l.list)) l.table
