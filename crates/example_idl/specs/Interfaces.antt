-- Texts, and the interfaces that they mean.
use Rattle.std.specs.Prelude.{ℕ, pos, false, List, [], ◌∷◌, ◌++◌, Option, Some, None, codes, Result, Ok, Err}
use Rattle.idl_grammar.specs.ReadPhrases.{Fault}
use Rattle.nd_types.specs.declared.types.TypeId.{TypeId}
use Rattle.nd_types.specs.declared.types.TypeDef.TheVariants.{Enum, Struct, Array, Text, Union, Pointer}
use Rattle.nd_types.specs.declared.types.Field.{Field}
use Rattle.nd_types.specs.declared.types.Arm.{Arm}
use Rattle.nd_types.specs.declared.types.AttrVar.{AttrVar}
use Rattle.nd_types.specs.declared.types.Attr.{Attr}
use Rattle.nd_types.specs.declared.types.Attr.TheVariants as attr
use Rattle.nd_types.specs.declared.types.Class.TheVariants as class
use Rattle.nd_types.specs.declared.types.Param.{Param}
use Rattle.nd_types.specs.declared.types.Way.{Way}
use Rattle.nd_types.specs.declared.types.Way.TheVariants as way
use Rattle.nd_types.specs.declared.TheConstants.{HANDLE}
use Rattle.nd_types.specs.Kinds.{basic_types}
use Rattle.idl_grammar.specs.declared.language.Language.TheVariants.{C706}
use Rattle.idl_grammar.specs.Text.{lexemes}
use Rattle.idl_grammar.specs.Tree.{Tree}
use Rattle.idl_grammar.specs.Answers.{file_answer}
use Rattle.idl_rule_definitions.specs.Alone.{alone}
use Rattle.idl_rule_definitions.specs.Texts.{cut}
use Rattle.nd_types.specs.Meant.{Meant}
use Rattle.idl_rule_definitions.specs.Meaning.{meaning}

abbrev pub meant_of_tree : Result Tree Fault → List Meant
meant_of_tree (Ok t) = meaning (alone t)
meant_of_tree (Err f) = []

-- what a text means that is a file without imports
abbrev pub meant_of : List ℕ → List Meant
meant_of text = meant_of_tree (file_answer 64 129 (lexemes C706 (cut text)))

abbrev number : ℕ → TypeId
number t = record { 0 = t }

abbrev var : Attr → ℕ → AttrVar
var a index = record { attr = a; var = index; star = false }

abbrev field : List ℕ → ℕ → List AttrVar → Field
field name t vars = record { name = name; «of» = number t; vars = vars }

abbrev arm : ℕ → Option (List ℕ) → Option TypeId → Arm
arm label name t = record { label = pos label; name = name; «of» = t }

abbrev param : Way → List ℕ → ℕ → List AttrVar → Param
param way name t vars = record { field = field name t vars; way = way }

-- a struct that ends with a conformant array
abbrev pub sum_text : List ℕ
sum_text = codes "[local, version(1.0)] interface t { typedef struct { short n; [size_is(n)] hyper a[*]; } s; void sum([in] s *p); }"

abbrev pub sum_meant : Meant
sum_meant = record {
  name = codes "t";
  uuid = None;
  major = 1;
  minor = 0;
  types =
      basic_types
      ++ Struct (field (codes "n") 5 [] ∷ field (codes "a") 13 (var attr.Size 0 ∷ []) ∷ [])
      ∷ Array (number 9) None false
      ∷ Pointer class.Ref (number 12) ∷ [];
  operations = record { name = codes "sum"; params = param way.In (codes "p") 14 [] ∷ []; result = None } ∷ [];
}

-- enumerators, a union whose tag is a member, a text, and pointers that lead back
abbrev pub directory_text : List ℕ
directory_text =
    codes "[local, version(2.1), pointer_default(unique)] interface dir { typedef enum { FILE_KIND, FOLDER_KIND = 4 } kind_t; "
    ++ codes "typedef [switch_type(kind_t)] union { [case(FILE_KIND)] unsigned long size; [case(FOLDER_KIND)] ; } detail_t; "
    ++ codes "typedef struct entry { kind_t kind; [switch_is(kind)] detail_t detail; [string] char name[16]; [ptr] struct entry *parent; "
    ++ codes "struct entry *next; } entry; unsigned long list([in, string] char *path, [out] entry *first); "
    ++ codes "void put([in] handle_t h, [in, unique] entry *e, [in] unsigned long n, [in, size_is(n)] byte data[*]); }"

abbrev pub directory_meant : Meant
directory_meant = record {
  name = codes "dir";
  uuid = None;
  major = 2;
  minor = 1;
  types =
      basic_types
      ++ Enum (pos 0 ∷ pos 4 ∷ [])
      ∷ Union (number 12) false (arm 0 (Some (codes "size")) (Some (number 8)) ∷ arm 4 None None ∷ []) None
      ∷ Struct (
      field (codes "kind") 12 []
      ∷ field (codes "detail") 13 (var attr.Switch 0 ∷ [])
      ∷ field (codes "name") 15 []
      ∷ field (codes "parent") 16 []
      ∷ field (codes "next") 17 []
      ∷ []
      )
      ∷ Text (number 1) (Some 16)
      ∷ Pointer class.Full (number 14)
      ∷ Pointer class.Unique (number 14)
      ∷ Text (number 1) None
      ∷ Pointer class.Ref (number 18)
      ∷ Pointer class.Ref (number 14)
      ∷ Array (number 2) None false ∷ [];
  operations =
      record {
        name = codes "list";
        params = param way.In (codes "path") 19 [] ∷ param way.Out (codes "first") 20 [] ∷ [];
        result = Some (number 8);
      }
      ∷ record {
        name = codes "put";
        params =
            param way.In (codes "h") HANDLE.0 []
            ∷ param way.In (codes "e") 17 []
            ∷ param way.In (codes "n") 8 []
            ∷ param way.In (codes "data") 21 (var attr.Size 2 ∷ []) ∷ [];
        result = None;
      } ∷ [];
}
