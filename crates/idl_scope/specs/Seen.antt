-- What a scope keeps, as the definitions have it.
use Rattle.idl_scope.specs.declared.scope.Scope.{Scope}
use Rattle.idl_scope.specs.Known.{Known}
pub use Rattle.idl_scope.specs.SeenFiles.{seen_file, seen_files}

-- what a scope knows of names
abbrev pub known_in : Scope → Known
known_in scope = scope.names
