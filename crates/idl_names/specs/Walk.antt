-- The walk through the files: each file by its attributes, then its imports, then its declarations. An import is walked in its place.
use Rattle.std.specs.Prelude.{◌≡◌, ◌⊎◌, ℕ, ◌<◌, ◌≤◌, Bool, true, false, ◌==◌, List, [], ◌∷◌, ◌++◌, length, map, drop, Option, Some, None, slice_get}
use Rattle.std.specs.Prelude.{Result, Ok, Err, position, option_map}
use Rattle.std.specs.Str.{bytes_eq}
use Rattle.std.specs.Str.Lossy.{utf8_lossy}
use Rattle.nd_base.specs.declared.octets.Place.{Place}
use Rattle.nd_base.specs.Over.{IsContent, IsMissing}
use Rattle.idl_lexer.specs.declared.tokens.LexKind.{LexKind}
use Rattle.idl_lexer.specs.declared.tokens.LexFault.TheVariants as lex_fault
use Rattle.idl_lexer.specs.Verdict.{Lexed, place_of, AreTokens, IsVerdict, Refused}
use Rattle.idl_grammar.specs.declared.fault.SyntaxFault.{SyntaxFault}
use Rattle.idl_grammar.specs.declared.fault.SyntaxFault.TheVariants as syntax_fault
use Rattle.idl_grammar.specs.declared.words.Spelling.{Spelling}
use Rattle.idl_grammar.specs.declared.language.Language.{Language}
use Rattle.idl_grammar.specs.Text.{Depth, Ban, lexemes}
use Rattle.idl_grammar.specs.ReadPhrases.{Fault, Syntax, Passes}
use Rattle.idl_grammar.specs.Tree.{Tree}
use Rattle.idl_grammar.specs.Grammar as grammar
use Rattle.idl_grammar.specs.Answers.{Answers}
use Rattle.idl_scope.specs.declared.name_fault.NameFault.{NameFault}
use Rattle.idl_scope.specs.declared.name_fault.NameFault.TheVariants as fault
use Rattle.idl_scope.specs.Value.{escaped}
use Rattle.idl_scope.specs.Steps.{Step, attribute_steps, imports_of, declaration_steps}
use Rattle.idl_scope.specs.Known.{Known, nothing, passed, place_in, first_undefined, Ended, ended, has_ended}

-- ## What the text of a file is read as in a language: its tree, or its first fault

-- The text is cut into tokens, and this is answered on them by the grammar.
pub record IsRead (language : Language) (text : List ℕ) (lexed : Lexed) (answer : Result Tree Fault) : Type 0 where
  pub text_is : lexed.text ≡ text
  pub tokens : AreTokens text lexed.tokens
  pub answered : Answers grammar.file (lexemes language lexed) answer

-- the text is a file of this tree
pub record IsFile (language : Language) (text : List ℕ) (tree : Tree) : Type 0 where
  pub lexed : Lexed
  pub read : IsRead language text lexed (Ok tree)

-- the token of a fault, and the fault as the grammar has it
abbrev pub IsSyntaxFault : SyntaxFault → ℕ → Fault → Type 0
IsSyntaxFault syntax_fault.Memory token f = ⊥
IsSyntaxFault (syntax_fault.Syntax k) token f = (token ≡ k) × (f ≡ Syntax k)
IsSyntaxFault (syntax_fault.Deep k) token f = (token ≡ k) × (f ≡ Passes Depth k)
IsSyntaxFault (syntax_fault.Banned k) token f = (token ≡ k) × (f ≡ Passes Ban k)

-- The text is cut into tokens and is no file, for a fault at a token that begins at this octet.
pub record IsNoFile (language : Language) (text : List ℕ) (at : ℕ) (fault : SyntaxFault) : Type 0 where
  pub lexed : Lexed
  pub told : Fault
  pub token : ℕ
  pub is_told : IsSyntaxFault fault token told
  pub read : IsRead language text lexed (Err told)
  pub octet : at ≡ place_of lexed token

-- ## Files by the names under which they are loaded

pub record Source : Type 0 where
  pub name : List ℕ
  pub text : List ℕ

abbrev pub source : List ℕ → List ℕ → Source
source name text = record { name = name; text = text }

-- the number of the file of a name
abbrev pub file_number : List Source → List ℕ → Option ℕ
file_number sources name = position (λ s. bytes_eq name s.name) sources

abbrev pub file_name : List Source → ℕ → Option (List ℕ)
file_name sources file = option_map (λ s. s.name) (slice_get sources file)

abbrev pub file_text : List Source → ℕ → Option (List ℕ)
file_text sources file = option_map (λ s. s.text) (slice_get sources file)

abbrev pub backslash : ℕ
backslash = 92

-- what is before the closing quote, its escapes read
abbrev pub before_quote : List ℕ → List ℕ
before_quote [] = []
before_quote (c ∷ []) = []
before_quote (c ∷ d ∷ rest) = elim (c == backslash) [ true ↦ escaped d ∷ before_quote rest | false ↦ c ∷ before_quote (d ∷ rest) ]

-- what a string spells between its quotes
abbrev pub string_value : List ℕ → List ℕ
string_value [] = []
string_value (quote ∷ rest) = before_quote rest

-- The name of the file that a string spells. The strings of a text are ASCII, and names are text: of other octets, that a tree may have which was
-- read from no text, those that are no UTF-8 are replaced as in the strings of programs.
abbrev pub file_named : List ℕ → List ℕ
file_named string = utf8_lossy (string_value string)

-- the files, with one more
abbrev pub and_source : List Source → List ℕ → List ℕ → List Source
and_source sources name text = sources ++ source name text ∷ []

-- ## The walk

-- the greatest number of files
abbrev pub most_files : ℕ
most_files = 64

abbrev pub names_of : List Source → List (List ℕ)
names_of sources = map (λ s. s.name) sources

-- how far a walk has come
pub record State : Type 0 where
  -- the language of all files
  pub language : Language
  -- the main file, then each file whose load was begun, in that order
  pub sources : List Source
  -- the files whose resolving has ended, in that order
  pub ended : List Ended
  -- what is known of names
  pub known : Known

-- what is still to be done
pub data Due : Type 0 where
  -- a step of a file
  Pass : (file : ℕ) (step : Step) → Due
  -- the import at a place, of the file of a name
  Load : (place : Place) (name : List ℕ) → Due
  -- the end of a file
  End : (file : ℕ) (tree : Tree) → Due

abbrev pub load_of : ℕ → Spelling → Due
load_of file string = Load (place_in file string) (file_named string.octets)

-- all of a file
abbrev pub all_of : ℕ → Tree → List Due
all_of file t =
    map (Pass file) (attribute_steps t.attributes) ++ map (load_of file) (imports_of t) ++ map (Pass file) (declaration_steps (file == 0) t)
    ++ End file t ∷ []

-- A file is to be loaded: it is not there yet, and not one too many.
pub record IsDue (sources : List Source) (name : List ℕ) : Type 0 where
  pub new : file_number sources name ≡ None
  pub room : length sources < most_files

abbrev pub with_known : State → Known → State
with_known s k = record s { known = k }

abbrev pub with_ended : State → ℕ → Tree → State
with_ended s file t = record s { ended = s.ended ++ ended file t ∷ [] }

abbrev pub with_source : State → List ℕ → List ℕ → State
with_source s name text = record s { sources = and_source s.sources name text }

-- How a walk ends: all is done, or there is a fault, with the files whose load was begun.
pub data Ending : Type 0 where
  Done : (state : State) → Ending
  Stopped : (sources : List Source) (fault : NameFault) → Ending

-- How a walk ends from a state, where this is due and `held` tells the contents of files.
pub data Walk (held : Option (List ℕ → Option (List ℕ))) : State → List Due → Ending → Type 0 where
  all_done : (s : State) → Walk held s [] (Done s)
  -- a step is passed
  goes_on : (s : State) (file : ℕ) (step : Step) (k : Known) (rest : List Due) (e : Ending) → passed file s.known step ≡ Ok k
      → Walk held (with_known s k) rest e → Walk held s (Pass file step ∷ rest) e
  -- a step is at fault
  faults : (s : State) (file : ℕ) (step : Step) (f : NameFault) (rest : List Due) → passed file s.known step ≡ Err f
      → Walk held s (Pass file step ∷ rest) (Stopped s.sources f)
  -- a file ends
  ends : (s : State) (file : ℕ) (t : Tree) (rest : List Due) (e : Ending) → Walk held (with_ended s file t) rest e → Walk held s (End file t ∷ rest) e
  -- the imported file is being resolved
  cycle : (s : State) (place : Place) (name : List ℕ) (rest : List Due) (n : ℕ) → file_number s.sources name ≡ Some n → has_ended s.ended n ≡ false
      → Walk held s (Load place name ∷ rest) (Stopped s.sources (fault.ImportCycle place))
  -- it is resolved already
  again : (s : State) (place : Place) (name : List ℕ) (rest : List Due) (e : Ending) (n : ℕ) → file_number s.sources name ≡ Some n
      → has_ended s.ended n ≡ true
      → Walk held s rest e → Walk held s (Load place name ∷ rest) e
  -- it would be one too many
  too_many : (s : State) (place : Place) (name : List ℕ) (rest : List Due) → file_number s.sources name ≡ None → most_files ≤ length s.sources
      → Walk held s (Load place name ∷ rest) (Stopped s.sources (fault.TooMany place))
  -- there is no such file
  absent : (s : State) (place : Place) (name : List ℕ) (rest : List Due) → IsDue s.sources name → IsMissing held name
      → Walk held s (Load place name ∷ rest) (Stopped (and_source s.sources name []) (fault.Absent (length s.sources)))
  -- its load failed
  failed : (s : State) (place : Place) (name : List ℕ) (rest : List Due) → IsDue s.sources name
      → Walk held s (Load place name ∷ rest) (Stopped (and_source s.sources name []) (fault.Failed (length s.sources)))
  -- it cannot be cut into tokens
  uncut : (s : State) (place : Place) (name : List ℕ) (rest : List Due) (text : List ℕ) (at : ℕ) (kind : LexKind) → IsDue s.sources name
      → IsContent held name text → IsVerdict text (Refused at kind)
      → Walk held s (Load place name ∷ rest) (Stopped (and_source s.sources name text) (fault.Lex (length s.sources) (lex_fault.At at kind)))
  -- it is no file of the language
  no_file : (s : State) (place : Place) (name : List ℕ) (rest : List Due) (text : List ℕ) (at : ℕ) (f : SyntaxFault) → IsDue s.sources name
      → IsContent held name text → IsNoFile s.language text at f
      → Walk held s (Load place name ∷ rest) (Stopped (and_source s.sources name text) (fault.Syntax (length s.sources) at f))
  -- it is walked in the place of its import
  enters : (s : State) (place : Place) (name : List ℕ) (rest : List Due) (e : Ending) (text : List ℕ) (t : Tree) → IsDue s.sources name
      → IsContent held name text → IsFile s.language text t
      → Walk held (with_source s name text) (all_of (length s.sources) t ++ rest) e → Walk held s (Load place name ∷ rest) e
  -- Running out of memory may stop a walk anywhere, also in a load or after it.
  short : (s : State) (rest : List Due) → Walk held s rest (Stopped s.sources fault.Memory)
  short_in_load : (s : State) (place : Place) (name : List ℕ) (rest : List Due) → IsDue s.sources name
      → Walk held s (Load place name ∷ rest) (Stopped (and_source s.sources name []) fault.Memory)
  short_after_load : (s : State) (place : Place) (name : List ℕ) (rest : List Due) (text : List ℕ) → IsDue s.sources name → IsContent held name text
      → Walk held s (Load place name ∷ rest) (Stopped (and_source s.sources name text) fault.Memory)

-- A walk begins with the main file alone, and no names.
abbrev pub start : Language → List Source → State
start language main = record { language = language; sources = main; ended = []; known = nothing }

-- The whole walk is done, and each tag that was used has its body.
pub record IsResolved (language : Language) (held : Option (List ℕ → Option (List ℕ))) (main : List Source) (t : Tree) (s : State) : Type 0 where
  pub walk : Walk held (start language main) (all_of 0 t) (Done s)
  pub whole : first_undefined s.known s.known.uses ≡ None

-- The whole walk is done, and the first tag after pointers that has no body of its kind is there.
pub record IsUndefined (language : Language) (held : Option (List ℕ → Option (List ℕ))) (main : List Source) (t : Tree) (sources : List Source)
    (place : Place) : Type 0 where
  pub state : State
  pub walk : Walk held (start language main) (all_of 0 t) (Done state)
  pub sources_are : sources ≡ state.sources
  pub first : first_undefined state.known state.known.uses ≡ Some place

abbrev pub IsUndefinedFault : Language → Option (List ℕ → Option (List ℕ)) → List Source → Tree → List Source → NameFault → Type 0
IsUndefinedFault language held main t sources (fault.Unknown place) = IsUndefined language held main t sources place
IsUndefinedFault language held main t sources _ = ⊥

-- The first fault: of the walk, else of a tag after pointers.
abbrev pub IsRefused : Language → Option (List ℕ → Option (List ℕ)) → List Source → Tree → List Source → NameFault → Type 0
IsRefused language held main t sources f =
    Walk held (start language main) (all_of 0 t) (Stopped sources f) ⊎ IsUndefinedFault language held main t sources f

-- The names that were asked for since are those of the files after the main one whose load a walk begins, in its order, up to where it stops.
pub record AsksAlong (language : Language) (held : Option (List ℕ → Option (List ℕ))) (main : List Source) (t : Tree)
    (before after : List (List ℕ)) : Type 0 where
  pub reached : List Source
  pub walk : Walk held (start language main) (all_of 0 t) (Stopped reached fault.Memory)
  pub asked : after ≡ before ++ names_of (drop (length main) reached)
