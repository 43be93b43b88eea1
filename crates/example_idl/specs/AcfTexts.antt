-- Attribute configuration files with files of IDL, and which rule they are reported to break.
use Rattle.std.specs.Prelude.{ℕ, Bool, true, false, List, [], ◌∷◌, ◌++◌, map, Option, Some, None, codes, Result, Ok, Err}
use Rattle.std.specs.List.{flat_map}
use Rattle.idl_grammar.specs.ReadPhrases.{Fault}
use Rattle.idl_grammar.specs.Tree.{Tree}
use Rattle.acf_reader.specs.Symbols.{lexemes}
use Rattle.acf_reader.specs.Grammar.{Acf}
use Rattle.acf_reader.specs.Answers.{acf_answer}
use Rattle.idl_rule_definitions.specs.Nodes.{World}
use Rattle.idl_rule_definitions.specs.Alone.{alone, with_import}
use Rattle.idl_rule_definitions.specs.Texts.{cut, no_rule}
use Rattle.idl_rule_definitions.specs.Rules.{Breach, breach}
use Rattle.example_idl.specs.Listings.{tree_of, base_file, directory_file}
use Rattle.idl_check.specs.AcfRules.{acf_file, first_of_all}

abbrev pub acf_of : List ℕ → Result Acf Fault
acf_of text = acf_answer (lexemes (cut text))

abbrev pub told_in : World → Result Acf Fault → Option (Option Breach)
told_in w (Ok f) = Some (first_of_all w (Some f))
told_in w (Err e) = None

abbrev pub told_of_trees : Result Tree Fault → Result Acf Fault → Option (Option Breach)
told_of_trees (Ok t) f = told_in (alone t) f
told_of_trees (Err e) f = None

-- the rule that is reported of a text of IDL and an attribute configuration file, or that none is; nothing where one is no file
abbrev pub told_with : List ℕ → List ℕ → Option (Option Breach)
told_with text acf = told_of_trees (tree_of text) (acf_of acf)

abbrev pub told_beside : Result Tree Fault → Result Tree Fault → Result Acf Fault → Option (Option Breach)
told_beside (Ok imported) (Ok main) f = told_in (with_import imported main) f
told_beside _ _ f = None

-- the fortieth rule, at an octet of the attribute configuration file
abbrev pub acf_rule_at : ℕ → Option (Option Breach)
acf_rule_at at = Some (Some (breach 40 (record { file = acf_file; at = at })))

-- an attribute configuration file, with what is reported of it
pub record AcfExample : Type 0 where
  pub text : List ℕ
  pub told : Option (Option Breach)

abbrev pub refused_at : List ℕ → ℕ → AcfExample
refused_at text at = record { text = text; told = acf_rule_at at }

abbrev pub accepted : List ℕ → AcfExample
accepted text = record { text = text; told = no_rule }

-- ## The directory

abbrev pub directory_acf : List ℕ
directory_acf = codes "[explicit_handle] interface dir { put([heap] e); }"

abbrev pub other_acf : List ℕ
other_acf = codes "interface other { }"

abbrev pub told_of_directory : List ℕ → Option (Option Breach)
told_of_directory acf = told_beside (tree_of base_file) (tree_of directory_file) (acf_of acf)

-- ## Names

abbrev pub small_idl : List ℕ
small_idl = codes "[local] interface t { const long C = 1; typedef struct s { long a; } n; void f([in] n a, [in] n b); }"

-- the same, where it breaks the rule that each parameter has in or out
abbrev pub broken_idl : List ℕ
broken_idl = codes "[local] interface t { void f(long a); }"

abbrev pub acf_names : List AcfExample
acf_names =
    accepted (codes "interface t { }")
    ∷ refused_at (codes "interface T { }") 0
    ∷ accepted (codes "[implicit_handle(n h), code, code] interface t { }")
    ∷ refused_at (codes "[implicit_handle(s h)] interface t { }") 0
    ∷ refused_at (codes "[code, implicit_handle(C h)] interface t { }") 0
    ∷ accepted (codes "interface t { typedef [heap] n, n; }")
    ∷ refused_at (codes "interface t { typedef [heap] n, s; }") 14
    ∷ refused_at (codes "interface t { f(); typedef [heap] C; }") 19
    ∷ accepted (codes "interface t { include \"x.h\"; f(b, a, a); f(); }")
    ∷ refused_at (codes "interface t { f(a); [code] g(a); }") 20
    ∷ refused_at (codes "interface t { n(); }") 14
    ∷ refused_at (codes "interface t { f(a, [heap] c); }") 19
    ∷ refused_at (codes "interface t { f(a, c); g(); }") 19
    ∷ []

-- ## Places

-- an attribute, and whether it may be at the interface, at a type, at an operation, at a parameter
pub record AcfAttribute : Type 0 where
  pub text : List ℕ
  pub of_interface : Bool
  pub of_type : Bool
  pub of_operation : Bool
  pub of_parameter : Bool

abbrev may_stand : List ℕ → Bool → Bool → Bool → Bool → AcfAttribute
may_stand text i t o p = record { text = text; of_interface = i; of_type = t; of_operation = o; of_parameter = p }

abbrev pub acf_attributes : List AcfAttribute
acf_attributes =
    may_stand (codes "auto_handle") true false false false
    ∷ may_stand (codes "explicit_handle") true false true false
    ∷ may_stand (codes "implicit_handle(handle_t h)") true false false false
    ∷ may_stand (codes "code") true false true false
    ∷ may_stand (codes "nocode") true false true false
    ∷ may_stand (codes "in_line") true true false true
    ∷ may_stand (codes "out_of_line") true true false true
    ∷ may_stand (codes "enable_allocate") true false true false
    ∷ may_stand (codes "heap") false true false true
    ∷ may_stand (codes "comm_status") false false true true
    ∷ may_stand (codes "fault_status") false false true true
    ∷ []

abbrev judged : Bool → List ℕ → ℕ → AcfExample
judged true text at = accepted text
judged false text at = refused_at text at

-- one file for each place
abbrev pub at_each_place : AcfAttribute → List AcfExample
at_each_place a =
    judged a.of_interface (codes "[" ++ a.text ++ codes "] interface t { }") 0
    ∷ judged a.of_type (codes "interface t { typedef [" ++ a.text ++ codes "] n; }") 14
    ∷ judged a.of_operation (codes "interface t { [" ++ a.text ++ codes "] f(); }") 14
    ∷ judged a.of_parameter (codes "interface t { f([" ++ a.text ++ codes "] a); }") 16
    ∷ []

abbrev pub acf_places : List AcfExample
acf_places = flat_map at_each_place acf_attributes
