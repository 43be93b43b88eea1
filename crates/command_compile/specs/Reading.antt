-- What the steps of compiling answer: loads, the main file, the attribute configuration file, and the names asked for on the way.
use Rattle.std.specs.Prelude.{◌≡◌, ℕ, ◌≤◌, ◌<◌, ◌⊎◌, List, [], ◌∷◌, ◌++◌, length, drop, Option, None, Some, ⊤}
use Rattle.idl_grammar.specs.Files.{Idl}
use Rattle.nd_base.specs.Over.{IsContent, FilesOver}
use Rattle.nd_types.specs.declared.interface.Interface.{Interface}
use Rattle.idl_lexer.specs.Verdict.{Lexed, place_of}
use Rattle.idl_grammar.specs.declared.fault.SyntaxFault.{SyntaxFault}
use Rattle.idl_grammar.specs.declared.fault.SyntaxFault.TheVariants as parser
use Rattle.idl_scope.specs.declared.name_fault.NameFault.{NameFault}
use Rattle.idl_scope.specs.declared.name_fault.NameFault.TheVariants as names
use Rattle.idl_names.specs.Walk.{Source, State, names_of}
use Rattle.nd_base.specs.Text.{position_of}
use Rattle.command_refusals.specs.Loads.{IsLoadCause}
use Rattle.command_refusals.specs.declared.refusal.IdlReason.TheVariants as reason
use Rattle.command_refusals.specs.declared.refusal.Refusal.{Refusal}
use Rattle.command_refusals.specs.declared.refusal.Refusal.TheVariants.{Memory, BadIdl}
use Rattle.command_compile.specs.Compiled.{AreAsked, all_due}
use Rattle.command_compile.specs.Idl.{Means, word_at, reported_by, IsAcfFault}

-- what is reported of tokens that are not a file of the language for a fault
abbrev pub IsReportedUnparsed : Lexed → SyntaxFault → NameFault → Type 0
IsReportedUnparsed l parser.Memory f = f ≡ names.Memory
IsReportedUnparsed l (parser.Syntax k) f = f ≡ names.Syntax 0 (place_of l k) (parser.Syntax k)
IsReportedUnparsed l (parser.Deep k) f = f ≡ names.Syntax 0 (place_of l k) (parser.Deep k)
IsReportedUnparsed l (parser.Banned k) f = f ≡ names.Syntax 0 (place_of l k) (parser.Banned k)

-- a refusal, or that memory ran out for it
abbrev pub IsOrMemory : Refusal → Refusal → Type 0
IsOrMemory due reported = (reported ≡ due) ⊎ (reported ≡ Memory)

-- why the text of an attribute configuration file of a name is refused; running out of memory needs no cause
abbrev pub IsReportedAcf : List ℕ → List ℕ → Refusal → Type 0
IsReportedAcf name text Memory = ⊤
IsReportedAcf name text (BadIdl file line column why) =
    (at : ℕ) × IsAcfFault text at why × (BadIdl file line column why ≡ reported_by name (position_of text at) why)
IsReportedAcf name text _ = ⊥

-- why the attribute configuration file of a name was not loaded and read
abbrev pub IsAcfCause : FilesOver → List ℕ → Refusal → Type 0
IsAcfCause f name (BadIdl file line column why) =
    (text : List ℕ) × IsContent f.held name text × IsReportedAcf name text (BadIdl file line column why)
IsAcfCause f name r = IsLoadCause f name r

-- the same where one is named
abbrev pub IsBesideCause : FilesOver → Option (List ℕ) → Refusal → Type 0
IsBesideCause f None r = ⊥
IsBesideCause f (Some name) r = IsAcfCause f name r

-- what is reported of tokens of a text that are not an attribute configuration file for a fault
abbrev pub IsReportedUnread : List ℕ → List ℕ → Lexed → SyntaxFault → Refusal → Type 0
IsReportedUnread name text l parser.Memory r = r ≡ Memory
IsReportedUnread name text l (parser.Syntax k) r = IsOrMemory (reported_by name (position_of text (place_of l k)) reason.Syntax) r
IsReportedUnread name text l (parser.Deep k) r = IsOrMemory (reported_by name (position_of text (place_of l k)) reason.Deep) r
IsReportedUnread name text l (parser.Banned k) r =
    IsOrMemory (reported_by name (position_of text (place_of l k)) (reason.Banned (word_at text (place_of l k)))) r

-- ## Names asked for

-- What files mean whose names are resolved in this way.
pub record IsJudged (held : Option (List ℕ → Option (List ℕ))) (idl : Idl) (text : List ℕ) (acf : Option (List ℕ)) (state : State)
    (i : Interface) : Type 0 where
  pub means : Means held idl text acf i
  pub state_is : means.state ≡ state

-- The main file was loaded before; after it all that is due was asked for, and the files mean this interface.
pub record MeansAfter (f : FilesOver) (idl : Idl) (text : List ℕ) (acf : Option (List ℕ)) (i : Interface) : Type 0 where
  pub means : Means f.held idl text acf i
  pub rest : List (List ℕ)
  pub rest_is : idl.name ∷ rest ≡ all_due means.state.sources acf
  pub asked : f.asked_now ≡ f.asked ++ rest

-- The main file was asked for before, and after it these, each when it was due.
pub record AsksAfter (f : FilesOver) (idl : Idl) (acf : Option (List ℕ)) : Type 0 where
  pub rest : List (List ℕ)
  pub asked : f.asked_now ≡ f.asked ++ rest
  pub are_asked : AreAsked f.held idl acf (idl.name ∷ rest)

-- The same of the imports of a main file with this text.
pub record AsksOfImports (held : Option (List ℕ → Option (List ℕ))) (idl : Idl) (text : List ℕ) (asked asked_now : List (List ℕ)) : Type 0 where
  pub rest : List (List ℕ)
  pub asked_is : asked_now ≡ asked ++ rest
  pub due : IsContent held idl.name text → (acf : Option (List ℕ)) → AreAsked held idl acf (idl.name ∷ rest)
