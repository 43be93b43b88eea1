-- For the code: how an import's file is loaded. No definition of the language stands here.
use Rattle.std.specs.Prelude.{◌≡◌, ℕ, ◌≤◌, ◌<◌, List, [], ◌∷◌, length, Option}
use Rattle.nd_base.specs.declared.octets.Place.{Place}
use Rattle.nd_base.specs.declared.outside.FileFault.{FileFault}
use Rattle.nd_base.specs.declared.outside.FileFault.TheVariants as file_fault
use Rattle.nd_base.specs.Over.{IsContent}
use Rattle.idl_lexer.specs.Verdict.{Lexed, place_of, IsVerdict, Refused}
use Rattle.idl_lexer.specs.declared.tokens.LexFault.TheVariants as lex_fault
use Rattle.idl_grammar.specs.declared.fault.SyntaxFault.{SyntaxFault}
use Rattle.idl_grammar.specs.declared.language.Language.{Language}
use Rattle.idl_grammar.specs.declared.fault.SyntaxFault.TheVariants as syntax
use Rattle.idl_scope.specs.declared.name_fault.NameFault.{NameFault}
use Rattle.idl_scope.specs.declared.name_fault.NameFault.TheVariants as fault
use Rattle.idl_scope.specs.Known.{Ended}
use Rattle.idl_names.specs.Walk.{IsFile, IsNoFile, Source, and_source, State, Due, Load, Stopped, Walk, IsDue}

-- how the text of a file is at fault, unless memory was wanting
abbrev pub IsFaultOf : Language → ℕ → List ℕ → NameFault → Type 0
IsFaultOf language file text fault.Memory = Unit {0}
IsFaultOf language file text (fault.Lex n (lex_fault.At at kind)) = (n ≡ file) × IsVerdict text (Refused at kind)
IsFaultOf language file text (fault.Syntax n at f) = (n ≡ file) × IsNoFile language text at f
IsFaultOf language file text _ = ⊥

-- the token of a fault is one of the text, or its end
abbrev pub IsOfText : Lexed → SyntaxFault → Type 0
IsOfText l syntax.Memory = Unit {0}
IsOfText l (syntax.Syntax k) = k ≤ length l.tokens
IsOfText l (syntax.Deep k) = k < length l.tokens
IsOfText l (syntax.Banned k) = k < length l.tokens

-- a parser's fault, as it is reported of a file
abbrev pub told_syntax : ℕ → Lexed → SyntaxFault → NameFault
told_syntax file l syntax.Memory = fault.Memory
told_syntax file l (syntax.Syntax k) = fault.Syntax file (place_of l k) (syntax.Syntax k)
told_syntax file l (syntax.Deep k) = fault.Syntax file (place_of l k) (syntax.Deep k)
told_syntax file l (syntax.Banned k) = fault.Syntax file (place_of l k) (syntax.Banned k)

-- a text was added under a name, and is this file
pub record IsRead (language : Language) (before : List Source) (name text : List ℕ) (after : List Source) (e : Ended) : Type 0 where
  pub is_file : IsFile language text e.tree
  pub number : e.file ≡ length before
  pub sources : after ≡ and_source before name text

-- the fault of a load, as it is reported of a file
abbrev pub told_load : ℕ → FileFault → NameFault
told_load file file_fault.Absent = fault.Absent file
told_load file file_fault.Failed = fault.Failed file
told_load file file_fault.Memory = fault.Memory

-- a file was loaded under a name
pub record IsLoaded (language : Language) (held : Option (List ℕ → Option (List ℕ))) (before : List Source) (name : List ℕ) (after : List Source)
    (e : Ended) : Type 0 where
  pub text : List ℕ
  pub content : IsContent held name text
  pub read : IsRead language before name text after e

-- a walk stops at the import of this name
abbrev pub IsLoadFault : Language → Option (List ℕ → Option (List ℕ)) → List Source → (name : List ℕ) → List Source → NameFault → Type 0
IsLoadFault language held before name after f =
    (s : State) (place : Place) (rest : List Due) → s.language ≡ language → s.sources ≡ before → IsDue before name
    → Walk held s (Load place name ∷ rest) (Stopped after f)
