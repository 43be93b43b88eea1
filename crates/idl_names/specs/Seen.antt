-- What the program keeps, as the definitions have it.
use Rattle.idl_grammar.specs.declared.language.Language.{Language}
use Rattle.idl_names.specs.declared.resolving.WalkState.{WalkState}
use Rattle.idl_names.specs.Walk.{Source, State}
use Rattle.idl_scope.specs.declared.scope.Scope.{Scope}
use Rattle.idl_scope.specs.SeenFiles.{seen_files}
use Rattle.std.specs.Prelude.{List}

-- what a scope and the sources hold together
abbrev pub seen_scope : Language → List Source → Scope → State
seen_scope language sources scope = record { language = language; sources = sources; ended = seen_files scope.files; known = scope.names }

-- the same on the way
abbrev pub seen_state : Language → List Source → WalkState → State
seen_state language sources state = record { language = language; sources = sources; ended = seen_files state.files; known = state.names }
