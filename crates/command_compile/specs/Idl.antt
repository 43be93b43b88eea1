-- What the files of a compilation mean, and for which causes they are refused.
use Rattle.std.specs.Prelude.{◌≡◌, ◌⊎◌, ℕ, true, false, ◌==◌, List, [], ◌∷◌, length, drop, take_while, Option, Some, None, Result, Ok, Err}
use Rattle.std.specs.Prelude.{option_map, ⊤}
use Rattle.idl_grammar.specs.declared.language.Language.{Language}
use Rattle.idl_grammar.specs.Files.{Idl}
use Rattle.nd_base.specs.declared.octets.Place.{Place}
use Rattle.nd_base.specs.Over.{IsContent}
use Rattle.nd_base.specs.Text.{is_word_octet, position_of}
use Rattle.nd_types.specs.declared.interface.Interface.{Interface}
use Rattle.idl_lexer.specs.declared.tokens.LexFault.TheVariants as lexical
use Rattle.idl_lexer.specs.Verdict.{Lexed, place_of as octet_of, AreTokens, IsFault, IsVerdict, Refused}
use Rattle.idl_grammar.specs.declared.fault.SyntaxFault.{SyntaxFault}
use Rattle.idl_grammar.specs.declared.fault.SyntaxFault.TheVariants as syntax
use Rattle.idl_grammar.specs.ReadPhrases.{Fault}
use Rattle.idl_grammar.specs.Tree.{Tree}
use Rattle.acf_reader.specs.Grammar.{Acf}
use Rattle.acf_reader.specs.Symbols.{lexemes}
use Rattle.acf_reader.specs.Answers.{IsAnswer}
use Rattle.idl_scope.specs.declared.name_fault.NameFault.{NameFault}
use Rattle.idl_scope.specs.declared.name_fault.NameFault.TheVariants as names
use Rattle.idl_names.specs.Walk.{IsSyntaxFault, IsFile, IsNoFile, Source, source, and_source, file_name, file_text, State, Walk, start, all_of}
use Rattle.idl_names.specs.Walk.{Stopped, IsResolved, IsRefused}
use Rattle.idl_rule_definitions.specs.Nodes.{World}
use Rattle.idl_rule_definitions.specs.Rules.{breach}
use Rattle.idl_check.specs.AcfRules.{acf_file, first_of_all, IsMeaningBeside}
use Rattle.command_refusals.specs.declared.refusal.IdlReason.{IdlReason}
use Rattle.command_refusals.specs.declared.refusal.IdlReason.TheVariants as reason
use Rattle.command_refusals.specs.declared.refusal.Refusal.{Refusal}
use Rattle.command_refusals.specs.declared.refusal.Refusal.TheVariants.{Memory, Absent, FileFailed, BadIdl}

-- `held` tells the contents of files, `idl` is the main file as it is named and `text` its text, and `acf` is the name of the attribute
-- configuration file, if one is named.

-- ## The attribute configuration file

-- What the text of an attribute configuration file is read as (C706, section 4.3): its tree, or its first fault. And what is read of the file that
-- is named beside a file of IDL.

-- The text is cut into tokens, and this is answered on them by the grammar.
pub record IsAcfRead (text : List ℕ) (lexed : Lexed) (answer : Result Acf Fault) : Type 0 where
  pub text_is : lexed.text ≡ text
  pub tokens : AreTokens text lexed.tokens
  pub answered : IsAnswer (lexemes lexed) answer

-- the text is an attribute configuration file of this tree
pub record IsAcf (text : List ℕ) (tree : Acf) : Type 0 where
  pub lexed : Lexed
  pub read : IsAcfRead text lexed (Ok tree)

-- The text is cut into tokens and is no such file, for a fault at a token that begins at this octet.
pub record IsNoAcf (text : List ℕ) (at : ℕ) (fault : SyntaxFault) : Type 0 where
  pub lexed : Lexed
  pub told : Fault
  pub token : ℕ
  pub is_told : IsSyntaxFault fault token told
  pub read : IsAcfRead text lexed (Err told)
  pub octet : at ≡ octet_of lexed token

-- a file with its name, its text and its tree
pub record AcfFile : Type 0 where
  pub name : List ℕ
  pub text : List ℕ
  pub tree : Acf

-- The file of a name was loaded and read.
pub record IsLoadedAcf (held : Option (List ℕ → Option (List ℕ))) (name : List ℕ) (f : AcfFile) : Type 0 where
  pub named : f.name ≡ name
  pub loaded : IsContent held name f.text
  pub read : IsAcf f.text f.tree

-- what is read beside a file of IDL: nothing where no attribute configuration file is named, else that file
abbrev pub IsBeside : Option (List ℕ → Option (List ℕ)) → Option (List ℕ) → Option AcfFile → Type 0
IsBeside held None None = ⊤
IsBeside held None (Some f) = ⊥
IsBeside held (Some name) None = ⊥
IsBeside held (Some name) (Some f) = IsLoadedAcf held name f

abbrev pub tree_beside : Option AcfFile → Option Acf
tree_beside beside = option_map (λ f. f.tree) beside

-- ## The files of a compilation

-- ### What the files mean

-- the main file alone
abbrev pub main_file : Idl → List ℕ → List Source
main_file idl text = source idl.name text ∷ []

-- files that are resolved, as the rules speak of them
abbrev pub resolved_world : State → World
resolved_world s = record { files = s.ended; known = s.known }

-- The text is a file of the language, and its names are resolved, with those of the files that it imports.
pub record AreResolved (held : Option (List ℕ → Option (List ℕ))) (idl : Idl) (text : List ℕ) (state : State) : Type 0 where
  pub tree : Tree
  pub parsed : IsFile idl.language text tree
  pub names : IsResolved idl.language held (main_file idl text) tree state

-- The names are resolved, the attribute configuration file is read, no rule is broken, and the files mean this interface.
pub record Means (held : Option (List ℕ → Option (List ℕ))) (idl : Idl) (text : List ℕ) (acf : Option (List ℕ)) (i : Interface) : Type 0 where
  pub state : State
  pub resolved : AreResolved held idl text state
  pub beside : Option AcfFile
  pub read : IsBeside held acf beside
  pub meaning : IsMeaningBeside (resolved_world state) (tree_beside beside) i

-- ### Faults

-- The main file cannot be cut into tokens, or is no file of the language. (Running out of memory needs no cause.)
abbrev pub IsMainFault : Language → List ℕ → NameFault → Type 0
IsMainFault language text names.Memory = ⊤
IsMainFault language text (names.Lex file f) = (file ≡ 0) × IsFault text f
IsMainFault language text (names.Syntax file at f) = (file ≡ 0) × IsNoFile language text at f
IsMainFault language text _ = ⊥

-- the main file has a fault, or the walk through the files has one
abbrev pub IsNameFault : Option (List ℕ → Option (List ℕ)) → Idl → List ℕ → List Source → NameFault → Type 0
IsNameFault held idl text sources f =
    ((sources ≡ main_file idl text) × IsMainFault idl.language text f)
    ⊎ ((tree : Tree) × IsFile idl.language text tree × IsRefused idl.language held (main_file idl text) tree sources f)

-- The names are resolved, the attribute configuration file is read, and this is the rule that is reported, at its place.
pub record IsBroken (held : Option (List ℕ → Option (List ℕ))) (idl : Idl) (text : List ℕ) (acf : Option (List ℕ)) (sources : List Source)
    (beside : Option AcfFile) (rule : ℕ) (place : Place) : Type 0 where
  pub state : State
  pub resolved : AreResolved held idl text state
  pub sources_are : sources ≡ state.sources
  pub read : IsBeside held acf beside
  pub first : first_of_all (resolved_world state) (tree_beside beside) ≡ Some (breach rule place)

-- ### How faults are reported

abbrev or_empty : Option (List ℕ) → List ℕ
or_empty None = []
or_empty (Some octets) = octets

-- the name and the text of a file by its number; each fault is of a file that is there
abbrev pub name_in : List Source → ℕ → List ℕ
name_in sources file = or_empty (file_name sources file)

abbrev pub text_in : List Source → ℕ → List ℕ
text_in sources file = or_empty (file_text sources file)

-- the word that begins at an octet: the longest run of letters, digits and `_` there
abbrev pub word_at : List ℕ → ℕ → List ℕ
word_at text at = take_while is_word_octet (drop at text)

abbrev pub word_in : List Source → Place → List ℕ
word_in sources p = word_at (text_in sources p.file) p.at

-- an octet of a text is told by its line and column, both from 1; a line feed ends a line
abbrev pub reported_by : List ℕ → ℕ × ℕ → IdlReason → Refusal
reported_by name position why = BadIdl name position.0 position.1 why

abbrev pub reported_at : List Source → Place → IdlReason → Refusal
reported_at sources p why = reported_by (name_in sources p.file) (position_of (text_in sources p.file) p.at) why

abbrev pub syntax_reason : List ℕ → SyntaxFault → Option IdlReason
syntax_reason word syntax.Memory = None
syntax_reason word (syntax.Syntax token) = Some reason.Syntax
syntax_reason word (syntax.Deep token) = Some reason.Deep
syntax_reason word (syntax.Banned token) = Some (reason.Banned word)

abbrev pub reported_if : List Source → Place → Option IdlReason → Refusal
reported_if sources p None = Memory
reported_if sources p (Some why) = reported_at sources p why

abbrev pub place_of : ℕ → ℕ → Place
place_of file at = record { file = file; at = at }

-- a fault of names, of the main file or of an import, as a refusal
abbrev pub reported_fault : List Source → NameFault → Refusal
reported_fault s names.Memory = Memory
reported_fault s (names.Unknown p) = reported_at s p (reason.Unknown (word_in s p))
reported_fault s (names.Twice p first) = reported_at s p (reason.Twice (word_in s p))
reported_fault s (names.Const p f) = reported_at s p (reason.NoValue f)
reported_fault s (names.ImportCycle p) = reported_at s p reason.ImportCycle
reported_fault s (names.TooMany p) = reported_at s p reason.TooMany
reported_fault s (names.Absent file) = Absent (name_in s file)
reported_fault s (names.Failed file) = FileFailed (name_in s file)
reported_fault s (names.Lex file lexical.Memory) = Memory
reported_fault s (names.Lex file (lexical.At at kind)) = reported_at s (place_of file at) (reason.Lexical kind)
reported_fault s (names.Syntax file at f) = reported_if s (place_of file at) (syntax_reason (word_in s (place_of file at)) f)

-- a rule that is broken by a file of IDL as a refusal
abbrev pub reported_rule : List Source → ℕ → Place → Refusal
reported_rule s rule place = reported_at s place (reason.Rule rule)

-- A broken rule as a refusal. It is reported under the name of the file that breaks it: that of the attribute configuration file where the place is
-- one of that file.
abbrev pub reported_beside : List Source → Option AcfFile → ℕ → Place → Refusal
reported_beside s None rule place = reported_rule s rule place
reported_beside s (Some f) rule place = elim (place.file == acf_file) [
  | true ↦ reported_by f.name (position_of f.text place.at) (reason.Rule rule)
  | false ↦ reported_rule s rule place
]

-- ### Faults of the attribute configuration file

-- why the text of an attribute configuration file cannot be cut into tokens, or is none, at an octet
abbrev pub IsAcfFault : List ℕ → ℕ → IdlReason → Type 0
IsAcfFault text at (reason.Lexical kind) = IsVerdict text (Refused at kind)
IsAcfFault text at reason.Syntax = (token : ℕ) × IsNoAcf text at (syntax.Syntax token)
IsAcfFault text at reason.Deep = (token : ℕ) × IsNoAcf text at (syntax.Deep token)
IsAcfFault text at (reason.Banned word) = ((token : ℕ) × IsNoAcf text at (syntax.Banned token)) × (word ≡ word_at text at)
IsAcfFault text at _ = ⊥

-- The names are resolved, and the attribute configuration file of this name was loaded. It has this text, and a fault at this octet.
pub record IsBadAcf (held : Option (List ℕ → Option (List ℕ))) (idl : Idl) (text : List ℕ) (acf : Option (List ℕ)) (name body : List ℕ) (at : ℕ)
    (why : IdlReason) : Type 0 where
  pub state : State
  pub resolved : AreResolved held idl text state
  pub named : acf ≡ Some name
  pub loaded : IsContent held name body
  pub fault : IsAcfFault body at why

-- ### How the files are refused

-- The files are refused in this way: for the first fault of their names; after that for the first fault of the attribute configuration file, which is
-- told by its name and by line and column of its text; and after that for the first rule that is broken.
pub data IsIdlFault (held : Option (List ℕ → Option (List ℕ))) (idl : Idl) (text : List ℕ) (acf : Option (List ℕ)) (r : Refusal) : Type 0 where
  by_names : (sources : List Source) (f : NameFault) → IsNameFault held idl text sources f → r ≡ reported_fault sources f
      → IsIdlFault held idl text acf r
  by_acf : (name body : List ℕ) (at : ℕ) (why : IdlReason) → IsBadAcf held idl text acf name body at why
      → r ≡ reported_by name (position_of body at) why
      → IsIdlFault held idl text acf r
  by_rules : (sources : List Source) (beside : Option AcfFile) (rule : ℕ) (place : Place) → IsBroken held idl text acf sources beside rule place
      → r ≡ reported_beside sources beside rule place → IsIdlFault held idl text acf r

-- ### Files that are due

-- The load of an import is due: the walk comes to it, so that it ends there if the load fails.
pub record IsDueImport (held : Option (List ℕ → Option (List ℕ))) (idl : Idl) (text file : List ℕ) : Type 0 where
  pub tree : Tree
  pub parsed : IsFile idl.language text tree
  pub sources : List Source
  pub comes : Walk held (start idl.language (main_file idl text)) (all_of 0 tree)
      (Stopped (and_source sources file []) (names.Failed (length sources)))

-- The load of the attribute configuration file is due: it is named, and all names are resolved. A file that was loaded already under this name, as
-- one of IDL, is loaded again.
pub record IsDueAcf (held : Option (List ℕ → Option (List ℕ))) (idl : Idl) (text : List ℕ) (acf : Option (List ℕ)) (file : List ℕ) : Type 0 where
  pub state : State
  pub resolved : AreResolved held idl text state
  pub named : acf ≡ Some file

-- the load of a file is due after that of the main file: of an import, or of the attribute configuration file
abbrev pub IsDueAfter : Option (List ℕ → Option (List ℕ)) → Idl → List ℕ → Option (List ℕ) → List ℕ → Type 0
IsDueAfter held idl text acf file = IsDueImport held idl text file ⊎ IsDueAcf held idl text acf file

-- the load of a file is due: of the main file, or of one after it
abbrev pub IsDueFile : Option (List ℕ → Option (List ℕ)) → Idl → Option (List ℕ) → List ℕ → Type 0
IsDueFile held idl acf file = (file ≡ idl.name) ⊎ ((text : List ℕ) × IsContent held idl.name text × IsDueAfter held idl text acf file)
