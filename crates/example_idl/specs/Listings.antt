-- Texts, and how the interfaces are listed that they mean.
use Rattle.std.specs.Prelude.{ℕ, List, [], ◌∷◌, ◌++◌, map, codes, Result, Ok, Err}
use Rattle.idl_grammar.specs.ReadPhrases.{Fault}
use Rattle.idl_grammar.specs.declared.language.Language.TheVariants.{C706}
use Rattle.idl_grammar.specs.Text.{lexemes}
use Rattle.idl_grammar.specs.Tree.{Tree}
use Rattle.idl_grammar.specs.Answers.{file_answer}
use Rattle.idl_rule_definitions.specs.Alone.{with_import}
use Rattle.idl_rule_definitions.specs.Texts.{cut}
use Rattle.nd_types.specs.Meant.{Meant}
use Rattle.idl_rule_definitions.specs.Meaning.{meaning}
use Rattle.example_idl.specs.Interfaces.{meant_of}
use Rattle.idl_listing.specs.Listing.{listing}

-- how what a text means is listed; nothing where it is no file
abbrev pub listing_of : List ℕ → List (List ℕ)
listing_of text = map listing (meant_of text)

-- ## A file that imports another

abbrev pub tree_of : List ℕ → Result Tree Fault
tree_of text = file_answer 64 129 (lexemes C706 (cut text))

abbrev pub meant_of_trees : Result Tree Fault → Result Tree Fault → List Meant
meant_of_trees (Ok imported) (Ok main) = meaning (with_import imported main)
meant_of_trees _ _ = []

abbrev pub listing_beside : List ℕ → List ℕ → List (List ℕ)
listing_beside imported main = map listing (meant_of_trees (tree_of imported) (tree_of main))

abbrev pub lines : List (List ℕ) → List ℕ
lines [] = []
lines (l ∷ ls) = l ++ codes "\n" ++ lines ls

-- ## A struct that ends with a conformant array

abbrev pub sum_file : List ℕ
sum_file = lines (
    codes "[uuid(11111111-2222-3333-4444-555555555555), version(1.0)] interface t {"
    ∷ codes "typedef struct { short n; [size_is(n)] hyper a[*]; } s; void sum([in] s *p);"
    ∷ codes "}"
    ∷ []
    )

abbrev pub sum_listing : List ℕ
sum_listing = lines (
    codes "interface t version 1.0 uuid 11111111-2222-3333-4444-555555555555"
    ∷ codes "type 12 struct align 8 hoists"
    ∷ codes "member n 5"
    ∷ codes "member a 13 size_is n"
    ∷ codes "type 13 conf 9 align 8 hoists"
    ∷ codes "type 14 ref 12 align 4"
    ∷ codes "op 0 sum"
    ∷ codes "in p 14"
    ∷ []
    )

-- ## A directory: an import, enumerators, a union, texts, and pointers that lead back

abbrev pub base_file : List ℕ
base_file = lines (
    codes "[uuid(0a0b0c0d-0102-0304-0506-0708090a0b0c), version(1.0)]"
    ∷ codes "interface base {"
    ∷ codes "  const long NAME_MAX = 16;"
    ∷ codes "  typedef enum { FILE_KIND, FOLDER_KIND = 4 } kind_t;"
    ∷ codes "}"
    ∷ []
    )

abbrev pub directory_file : List ℕ
directory_file = lines (
    codes "[uuid(00112233-4455-6677-8899-aabbccddeeff), version(2.1),"
    ∷ codes " pointer_default(unique)]"
    ∷ codes "interface dir {"
    ∷ codes "  import \"base.idl\";"
    ∷ codes "  typedef [switch_type(kind_t)] union {"
    ∷ codes "    [case(FILE_KIND)] unsigned long size;"
    ∷ codes "    [case(FOLDER_KIND)] ;"
    ∷ codes "  } detail_t;"
    ∷ codes "  typedef struct entry {"
    ∷ codes "    kind_t kind;"
    ∷ codes "    [switch_is(kind)] detail_t detail;"
    ∷ codes "    [string] char name[NAME_MAX];"
    ∷ codes "    [ptr] struct entry *parent;"
    ∷ codes "    struct entry *next;"
    ∷ codes "  } entry;"
    ∷ codes "  unsigned long list([in, string] char *path, [out] entry *first);"
    ∷ codes "  void put([in] handle_t h, [in, unique] entry *e,"
    ∷ codes "           [in] unsigned long n, [in, size_is(n)] byte data[*]);"
    ∷ codes "}"
    ∷ []
    )

abbrev pub directory_listing : List ℕ
directory_listing = lines (
    codes "interface dir version 2.1 uuid 00112233-4455-6677-8899-aabbccddeeff"
    ∷ codes "type 12 enum 0 4 align 2"
    ∷ codes "type 13 union 12 align 4"
    ∷ codes "arm 0 size 8"
    ∷ codes "arm 4 - void"
    ∷ codes "type 14 struct align 4"
    ∷ codes "member kind 12"
    ∷ codes "member detail 13 switch_is kind"
    ∷ codes "member name 15"
    ∷ codes "member parent 16"
    ∷ codes "member next 17"
    ∷ codes "type 15 text 1 16 align 4"
    ∷ codes "type 16 ptr 14 align 4"
    ∷ codes "type 17 unique 14 align 4"
    ∷ codes "type 18 conftext 1 align 4 hoists"
    ∷ codes "type 19 ref 18 align 4"
    ∷ codes "type 20 ref 14 align 4"
    ∷ codes "type 21 conf 2 align 1 hoists"
    ∷ codes "op 0 list"
    ∷ codes "in path 19"
    ∷ codes "out first 20"
    ∷ codes "out return 8"
    ∷ codes "op 1 put"
    ∷ codes "in e 17"
    ∷ codes "in n 8"
    ∷ codes "in data 21 size_is n"
    ∷ []
    )

-- ## The other forms: no uuid and no version, arrays of two dimensions and varying ones, a default before another arm, pipes after all else, a
-- pipe after a reference pointer, `*`, and a parameter on both sides

abbrev pub forms_file : List ℕ
forms_file = lines (
    codes "[local] interface forms {"
    ∷ codes "typedef long grid[2][3];"
    ∷ codes "typedef struct { short n; short m; [length_is(m), first_is(n)] long a[4]; } window;"
    ∷ codes "typedef struct { long n; long m; [max_is(n), last_is(m)] char b[*]; } growing;"
    ∷ codes "typedef union switch (boolean k) { case FALSE: long a; default: ; case TRUE: char c; } choice;"
    ∷ codes "typedef pipe short shorts;"
    ∷ codes "typedef [context_handle] void *ctx;"
    ∷ codes "long f([in] shorts *p, [in, size_is(*n)] byte data[*], [in] long *n, [in] ctx c,"
    ∷ codes "[in, out, unique] choice *u, [out] shorts q, [out] grid g);"
    ∷ codes "void g();"
    ∷ codes "}"
    ∷ []
    )

abbrev pub forms_listing : List ℕ
forms_listing = lines (
    codes "interface forms version 0.0 uuid -"
    ∷ codes "type 12 fixed 7 3 align 4"
    ∷ codes "type 13 fixed 12 2 align 4"
    ∷ codes "type 14 struct align 4"
    ∷ codes "member n 5"
    ∷ codes "member m 5"
    ∷ codes "member a 15 first_is n length_is m"
    ∷ codes "type 15 vary 7 4 align 4"
    ∷ codes "type 16 struct align 4 hoists"
    ∷ codes "member n 7"
    ∷ codes "member m 7"
    ∷ codes "member b 17 max_is n last_is m"
    ∷ codes "type 17 confvary 1 align 4 hoists"
    ∷ codes "type 18 union 0 align 4"
    ∷ codes "arm 0 a 7"
    ∷ codes "arm 1 c 1"
    ∷ codes "default - void"
    ∷ codes "type 19 pipe 5 align 4"
    ∷ codes "type 20 ref 19 align 4"
    ∷ codes "type 21 conf 2 align 1 hoists"
    ∷ codes "type 22 ref 7 align 4"
    ∷ codes "type 23 unique 18 align 4"
    ∷ codes "op 0 f"
    ∷ codes "in data 21 size_is *n"
    ∷ codes "in n 22"
    ∷ codes "in c 11"
    ∷ codes "in u 23"
    ∷ codes "in p 19"
    ∷ codes "out u 23"
    ∷ codes "out g 13"
    ∷ codes "out return 7"
    ∷ codes "out q 19"
    ∷ codes "op 1 g"
    ∷ []
    )
