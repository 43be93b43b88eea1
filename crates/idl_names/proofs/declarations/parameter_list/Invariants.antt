use Rattle.std.proofs.Common.{◌≡◌, [], drop}
use Rattle.idl_scope.specs.Kept.{listed}
use Rattle.idl_scope.specs.Known.{walked}
use Rattle.idl_names.proofs.Rests as rests
use Rattle.idl_names.proofs.declarations.parameter_list.Given as goal

-- the steps of what is left come to what those of all come to
abbrev pub invariant-loop-one : goal.invariant-loop-one
invariant-loop-one l = walked l.file l.names (rests.parameters_from (listed l.before) (drop l.one-index l.one-items)) ≡ walked l.file l.initial.names (rests.parameters_from [] l.one-items)
