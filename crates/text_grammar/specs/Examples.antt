-- Worked examples: settings with names, texts, and the graphs that the texts are read as. Each table begins with the basic types, so
-- its own types are numbered from 12 on.
use Rattle.std.specs.Prelude.{ℕ, ℤ, pos, negsuc, true, false, List, [], ◌∷◌, ◌++◌, None, Some, codes}
use Rattle.nd_types.specs.declared.types.TypeDef.{TypeDef}
use Rattle.nd_types.specs.declared.types.TypeDef.TheVariants as def
use Rattle.nd_types.specs.declared.types.Field.{Field}
use Rattle.nd_types.specs.declared.types.Param.{Param}
use Rattle.nd_types.specs.declared.types.Arm.{Arm}
use Rattle.nd_types.specs.declared.types.Class.TheVariants.{Unique, Full}
use Rattle.nd_types.specs.declared.types.Side.TheVariants as side
use Rattle.nd_types.specs.declared.types.Way.TheVariants as way
use Rattle.nd_types.specs.Kinds.{basic_types}
use Rattle.nd_value.specs.declared.value.Graph.{Graph}
use Rattle.nd_value.specs.Tree as tree
use Rattle.nd_value.specs.Tree.{Tree, Trees, node, none, more}
use Rattle.nd_value.specs.Setting.{Setting}
use Rattle.nd_value.specs.WorkedFit.{add, one_two_three}
use Rattle.nd_grammar.specs.ExampleParts.{id, num, pointer_to, null, one, two, struct_of, cell}

abbrev member : List ℕ → ℕ → Field
member name t = record { name = name; of = id t; vars = [] }

abbrev input : List ℕ → ℕ → Param
input name t = record { field = member name t; way = way.In }

-- the request of an operation
abbrev request_of : List ℕ → List TypeDef → List Param → Setting
request_of name types params =
    record { table = basic_types ++ types; op = record { name = name; params = params; result = None }; side = side.In; given = None }

-- ## Three numbers: void add([in] long a, [in] short b, [in] hyper c)

abbrev pub adding : Setting
adding = record { table = basic_types; op = add; side = side.In; given = None }

abbrev pub adding_text : List ℕ
adding_text = codes "values 2\nop add in\na = 1\nb = 2\nc = 3\n"

abbrev pub three_numbers : Graph
three_numbers = record { roots = one_two_three; cells = [] }

-- ## A ring: struct node { long v; [ptr] struct node *next; } (12, the pointer 13), void ring([in, ptr] node *p)

abbrev pub ring : Setting
ring =
    request_of (codes "ring") (def.Struct (member (codes "v") 7 ∷ member (codes "next") 13 ∷ []) ∷ def.Pointer Full (id 12) ∷ [])
    (input (codes "p") 13 ∷ [])

abbrev pub ring_text : List ℕ
ring_text = codes "values 2\nop ring in\np = @1\n@1 = {v = 7, next = @2}\n@2 = {v = 8, next = @1}\n"

abbrev pub ring_of_two : Graph
ring_of_two = record {
  roots = pointer_to 1 ∷ [];
  cells = cell 12 (struct_of (two (num (pos 7)) (pointer_to 2))) ∷ cell 12 (struct_of (two (num (pos 8)) (pointer_to 1))) ∷ [];
}

-- ## A context handle: void use([in] ctx c)

abbrev pub using : Setting
using = request_of (codes "use") [] (input (codes "c") 11 ∷ [])

abbrev pub using_text : List ℕ
using_text = codes "values 1\nop use in\nc = ctx(7, 00112233-4455-6677-8899-AABBCCDDEEFF)\n"

abbrev pub a_handle : Graph
a_handle = record {
  roots = node (tree.Context 7 (0 ∷ 17 ∷ 34 ∷ 51 ∷ 68 ∷ 85 ∷ 102 ∷ 119 ∷ 136 ∷ 153 ∷ 170 ∷ 187 ∷ 204 ∷ 221 ∷ 238 ∷ 255 ∷ [])) none ∷ [];
  cells = [];
}

-- ## A directory: enum kind_t (12), union detail_t (13), struct entry (14), char name[16] (15), a full and a unique pointer to an entry
-- (16, 17), byte data[*] (18); void put([in, unique] entry *e, [in] unsigned long n, [in, size_is(n)] byte data[*])

abbrev folder : Arm
folder = record { label = pos 4; name = None; of = None }

abbrev file : Arm
file = record { label = pos 0; name = Some (codes "size"); of = Some (id 8) }

abbrev pub putting : Setting
putting =
    request_of (codes "put")
    (def.Enum (pos 0 ∷ pos 4 ∷ []) ∷ def.Union (id 12) false (file ∷ folder ∷ []) None
    ∷ def.Struct
    (member (codes "kind") 12 ∷ member (codes "detail") 13 ∷ member (codes "name") 15 ∷ member (codes "parent") 16 ∷ member (codes "next") 17
    ∷ [])
    ∷ def.Text (id 1) (Some 16) ∷ def.Pointer Full (id 14) ∷ def.Pointer Unique (id 14) ∷ def.Array (id 2) None false ∷ [])
    (input (codes "e") 17 ∷ input (codes "n") 8 ∷ input (codes "data") 18 ∷ [])

-- the lines of its cells, which are the same in both versions
abbrev putting_cells : List ℕ
putting_cells =
    codes "@1 = {kind = 4, detail = 4:void, name = \"etc\", parent = @2, next = @3}\n"
    ++ codes "@2 = {kind = 4, detail = 4:void, name = \"/\", parent = @2, next = null}\n"
    ++ codes "@3 = {kind = 0, detail = 0:1024, name = \"a\", parent = @2, next = null}\n"

-- the text in version 2
abbrev pub putting_text : List ℕ
putting_text = codes "values 2\nop put in\ne = @1\nn = 2\ndata = x\"abcd\"\n" ++ putting_cells

-- the same graph as a text of version 1
abbrev pub putting_text_one : List ℕ
putting_text_one = codes "values 1\nop put in\ne = @1\nn = 2\ndata = [171, 205]\n" ++ putting_cells

abbrev entry_of : ℤ → Trees → List ℕ → Tree → Tree → Tree
entry_of kind arm name parent next =
    struct_of (more (num kind) (more (node (tree.Union kind) arm) (more (node (tree.Text 16 name) none) (two parent next))))

abbrev pub three_entries : Graph
three_entries = record {
  roots = pointer_to 1 ∷ num (pos 2) ∷ node (tree.Arr 2 0) (two (num (pos 171)) (num (pos 205))) ∷ [];
  cells =
      cell 14 (entry_of (pos 4) none (codes "etc") (pointer_to 2) (pointer_to 3))
      ∷ cell 14 (entry_of (pos 4) none (codes "/") (pointer_to 2) null)
      ∷ cell 14 (entry_of (pos 0) (one (num (pos 1024))) (codes "a") (pointer_to 2) null) ∷ [];
}

-- ## Arrays of all kinds: short a[2] (12), short b[*] of varying length (13), short c[4] of varying length (14), char d[*] as text (15)

abbrev pub listing : Setting
listing =
    request_of (codes "list")
    (def.Array (id 5) (Some 2) false ∷ def.Array (id 5) None true ∷ def.Array (id 5) (Some 4) true ∷ def.Text (id 1) None ∷ [])
    (input (codes "a") 12 ∷ input (codes "b") 13 ∷ input (codes "c") 14 ∷ input (codes "d") 15 ∷ [])

-- the fixed array has too few items, which a graph may have: its maximum count is its bound
abbrev pub listing_text : List ℕ
listing_text = codes "values 1 op list in a=[-1] b=5:1:[] c=1:[2,3] d=9:\"h\\x49\\\"\\\\\""

abbrev pub four_lists : Graph
four_lists = record {
  roots =
      node (tree.Arr 2 0) (one (node (tree.Num (negsuc 0)) none)) ∷ node (tree.Arr 5 1) none ∷ node (tree.Arr 4 1) (two (num (pos 2)) (num (pos 3)))
      ∷ node (tree.Text 9 (codes "hI\"\\")) none ∷ [];
  cells = [];
}

-- ## Bytes in every form of list: byte a[2][2] (12 of 13), byte b[*] of varying length (14), byte c[4] of varying length (15)

abbrev pub bytes : Setting
bytes =
    request_of (codes "bytes")
    (def.Array (id 13) (Some 2) false ∷ def.Array (id 2) (Some 2) false ∷ def.Array (id 2) None true ∷ def.Array (id 2) (Some 4) true ∷ [])
    (input (codes "a") 12 ∷ input (codes "b") 14 ∷ input (codes "c") 15 ∷ [])

abbrev pub bytes_text : List ℕ
bytes_text = codes "values 2 op bytes in a=[x\"0001\",x\"fF7a\"] b=5:1:x\"\" c=1:x\"02\""

abbrev byte_list : ℕ → ℕ → Trees → Tree
byte_list max offset ks = node (tree.Arr max offset) ks

abbrev pub four_byte_lists : Graph
four_byte_lists = record {
  roots =
      node (tree.Arr 2 0) (two (byte_list 2 0 (two (num (pos 0)) (num (pos 1)))) (byte_list 2 0 (two (num (pos 255)) (num (pos 122)))))
      ∷ byte_list 5 1 none ∷ byte_list 4 1 (one (num (pos 2))) ∷ [];
  cells = [];
}
