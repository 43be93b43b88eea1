use Rattle.std.proofs.Common.{◌≡◌, ◌++◌, drop}
use Rattle.idl_interface.specs.Made.{ids_of}
use Rattle.idl_interface.proofs.members.numbered.Given as goal

-- what is there, with what is left
abbrev pub invariant-loop-of : goal.invariant-loop-of
invariant-loop-of l = l.ids.items ++ ids_of l.program.types.now.kinds l.program.numbers.now (drop l.of-index l.types) ≡ ids_of l.program.types.now.kinds l.program.numbers.now l.types
