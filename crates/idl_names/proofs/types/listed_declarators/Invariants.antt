use Rattle.std.proofs.Common.{◌≡◌, ◌++◌, drop}
use Rattle.idl_scope.specs.Kept.{listed}
use Rattle.idl_scope.specs.Known.{walked}
use Rattle.idl_names.proofs.Rests as rests
use Rattle.idl_names.proofs.types.listed_declarators.Given as goal

-- the steps of what is left come to what those of all come to
abbrev pub invariant-loop-declarator : goal.invariant-loop-declarator
invariant-loop-declarator l = record {
  right : walked l.file l.names (rests.listed_from (listed l.list) (drop l.declarator-index l.declarators)) ≡ walked l.file l.names (rests.listed_from (listed l.initial.list) l.declarators);
  more : listed l.list ++ rests.names_of (drop l.declarator-index l.declarators) ≡ listed l.initial.list ++ rests.names_of l.declarators;
}
