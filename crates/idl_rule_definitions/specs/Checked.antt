-- The files of a scope, as the rules speak of them.
use Rattle.idl_scope.specs.declared.scope.Scope.{Scope}
use Rattle.idl_scope.specs.Seen.{seen_files, known_in}
use Rattle.idl_rule_definitions.specs.Nodes.{World}

abbrev pub world_of : Scope → World
world_of scope = record { files = seen_files scope.files; known = known_in scope }
