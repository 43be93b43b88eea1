-- Interface files as they are named.
use Rattle.std.specs.Prelude.{ℕ, List}
use Rattle.idl_grammar.specs.declared.language.Language.{Language}
use Rattle.idl_grammar.specs.declared.language.Language.TheVariants.{C706}
use Rattle.idl_grammar.specs.declared.language.IdlFile.{IdlFile}

-- the name of an interface file, and the language of it and of the files that it imports
pub record Idl : Type 0 where
  pub name : List ℕ
  pub language : Language

-- such a file in the language of C706
abbrev pub in_c706 : List ℕ → Idl
in_c706 name = record { name = name; language = C706 }

-- a file of the code as one of the definitions
abbrev pub seen_idl : IdlFile → Idl
seen_idl f = record { name = f.name.now; language = f.language }
