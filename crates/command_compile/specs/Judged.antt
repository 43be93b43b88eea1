-- What files whose names are resolved come to by the rules, and what each main file comes to by all of it.
use Rattle.std.specs.Prelude.{◌≡◌, ℕ, true, List, [], ◌∷◌, Option, Some, None}
use Rattle.idl_grammar.specs.Files.{Idl}
use Rattle.idl_lexer.specs.declared.tokens.LexKind.{LexKind}
use Rattle.idl_lexer.specs.Verdict.{IsVerdict, Refused}
use Rattle.idl_grammar.specs.Tree.{Tree}
use Rattle.idl_grammar.specs.declared.fault.SyntaxFault.{SyntaxFault}
use Rattle.idl_scope.specs.declared.name_fault.NameFault.{NameFault}
use Rattle.idl_names.specs.Decided.{is_decided}
use Rattle.idl_names.specs.Walk.{IsFile, IsNoFile, Source, source, State, Stopped, IsResolved, IsRefused}
use Rattle.nd_types.specs.Legal.{IsLegal}
use Rattle.idl_rule_definitions.specs.Nodes.{World}
use Rattle.idl_rule_definitions.specs.Rules.{Breach, first_broken}
use Rattle.nd_types.specs.Meant.{Meant}
use Rattle.idl_rule_definitions.specs.Meaning.{meaning, HasIdentifiers}

-- files that are resolved, as the rules speak of them
abbrev pub world : State → World
world s = record { files = s.ended; known = s.known }

-- No rule is broken, and the files mean this interface, which is legal if its names are identifiers.
pub record MeansLegal (w : World) (m : Meant) : Type 0 where
  pub keeps : first_broken w ≡ None
  pub means : meaning w ≡ m ∷ []
  pub legal : HasIdentifiers m.types m.operations → IsLegal m.types m.operations

pub data IsJudged (w : World) : Type 0 where
  Means : (m : Meant) → MeansLegal w m → IsJudged w
  Breaks : (b : Breach) → first_broken w ≡ Some b → IsJudged w

abbrev pub main_file : Idl → List ℕ → List Source
main_file idl text = source idl.name text ∷ []

-- What a main file of this name, language and text comes to: an interface, which is legal; a broken rule; a fault of names or of an imported file,
-- which is absent, say, but neither by running out of memory nor by a failed load; a fault of its own syntax; or one of its own tokens.
pub data HasOutcome (held : Option (List ℕ → Option (List ℕ))) (idl : Idl) (text : List ℕ) : Type 0 where
  Interface : (t : Tree) → IsFile idl.language text t → (s : State) → IsResolved idl.language held (main_file idl text) t s → (m : Meant)
      → MeansLegal (world s) m
      → IsLegal m.types m.operations
      → HasOutcome held idl text
  Broken : (t : Tree) → IsFile idl.language text t → (s : State) → IsResolved idl.language held (main_file idl text) t s → (b : Breach)
      → first_broken (world s) ≡ Some b
      → HasOutcome held idl text
  Unnamed : (t : Tree) → IsFile idl.language text t → (sources : List Source) (f : NameFault) → is_decided (Stopped sources f) ≡ true
      → IsRefused idl.language held (main_file idl text) t sources f
      → HasOutcome held idl text
  NoFile : (at : ℕ) (f : SyntaxFault) → IsNoFile idl.language text at f → HasOutcome held idl text
  Uncut : (at : ℕ) (kind : LexKind) → IsVerdict text (Refused at kind) → HasOutcome held idl text
