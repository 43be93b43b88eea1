use Rattle.std.proofs.Common.{◌≡◌, [], drop}
use Rattle.idl_scope.specs.Kept.{listed}
use Rattle.idl_scope.specs.Known.{walked}
use Rattle.idl_names.proofs.Rests as rests
use Rattle.idl_names.proofs.types.+types.Given as goal

-- the steps of what is left come to what those of all come to
abbrev pub invariant-members-loop-one : goal.invariant-members-loop-one
invariant-members-loop-one l = walked l.file l.names (rests.members_from (listed l.before) (drop l.one-index l.one-items)) ≡ walked l.file l.initial.names (rests.members_from [] l.one-items)

-- the steps of what is left come to what those of all come to
abbrev pub invariant-cases-loop-one : goal.invariant-cases-loop-one
invariant-cases-loop-one l = walked l.file l.names (rests.cases_from 0 (drop l.one-index l.one-items)) ≡ walked l.file l.initial.names (rests.cases_from 0 l.one-items)

-- the steps of what is left come to what those of all come to
abbrev pub invariant-arms-loop-one : goal.invariant-arms-loop-one
invariant-arms-loop-one l = walked l.file l.names (rests.arms_from 0 (drop l.one-index l.one-items)) ≡ walked l.file l.initial.names (rests.arms_from 0 l.one-items)
