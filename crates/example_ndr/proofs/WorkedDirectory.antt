-- A worked example of everything together: the entry of a directory, its parent and the next one.
use Rattle.std.proofs.Common.{ℕ, ℤ, false, List, [], ◌∷◌, Option, Some, None, refl}
use Rattle.std.specs.Prelude.{pos}
use Rattle.nd_base.specs.declared.octets.Order.TheVariants.{Little}
use Rattle.nd_types.specs.declared.types.TypeDef.TheVariants as def
use Rattle.nd_types.specs.declared.types.Attr.TheVariants as attr
use Rattle.nd_types.specs.declared.types.Class.TheVariants.{Ref, Unique, Full}
use Rattle.nd_types.specs.Table.{Table}
use Rattle.nd_types.specs.Layout.{align_of, hoists}
use Rattle.nd_types.specs.Roots.{roots_of}
use Rattle.nd_value.specs.declared.value.Graph.{Graph}
use Rattle.nd_value.specs.Tree as tree
use Rattle.nd_value.specs.Tree.{Trees, node, none, more, Referent}
use Rattle.nd_value.specs.Setting.{Setting}
use Rattle.nd_grammar.specs.Stream.{Represents, Chosen}
use Rattle.nd_grammar.specs.ExampleParts.{request, param, governed, field, attribute, arm, empty_arm, id, num, pointer_to, one, two, three, struct_of, cell, four}
use Rattle.example_ndr.proofs.Check.{represents_so, chosen_so}

-- 12: enum kind { FILE = 0, FOLDER = 4 }; 13: a union switched by it, case FILE: unsigned long size; case FOLDER: nothing;
-- 14: struct entry { kind k; [switch_is(k)] u detail; [string] char name[16]; [ptr] entry *parent; [unique] entry *next; };
-- 15 its text; 16 and 17 its pointers; 21: byte[*]
abbrev pub directory_types : Table
directory_types =
    def.Enum (pos 0 ∷ pos 4 ∷ [])
    ∷ def.Union (id 12) false (arm (pos 0) 8 ∷ empty_arm (pos 4) ∷ []) None
    ∷ def.Struct (field 12 [] ∷ field 13 (attribute attr.Switch 0) ∷ field 15 [] ∷ field 16 [] ∷ field 17 [] ∷ [])
    ∷ def.Text (id 1) (Some 16) ∷ def.Pointer Full (id 14) ∷ def.Pointer Unique (id 14) ∷ def.Text (id 1) None
    ∷ def.Pointer Ref (id 18) ∷ def.Pointer Ref (id 14) ∷ def.Array (id 2) None false ∷ []

-- void put(handle_t h, [unique] entry *e, unsigned long n, [size_is(n)] byte data[*])
abbrev pub put : Setting
put = request directory_types (param 4294967295 ∷ param 17 ∷ param 8 ∷ governed 21 (attribute attr.Size 2) ∷ [])

abbrev pub entry : ℤ → Trees → List ℕ → ℕ → Option ℕ → Referent
entry kind detail name parent next =
    cell 14
    (struct_of (more (num kind) (more (node (tree.Union kind) detail) (three (node (tree.Text 16 name) none) (pointer_to parent) (node (tree.Ptr next) none)))))

-- a folder "etc", its parent "/" (which is its own), and next a file "a" of 1,024 octets in "/"
abbrev pub put_graph : Graph
put_graph = record {
  roots = pointer_to 1 ∷ num (pos 2) ∷ node (tree.Arr 2 0) (two (num (pos 0xAB)) (num (pos 0xCD))) ∷ [];
  cells =
      entry (pos 4) none (101 ∷ 116 ∷ 99 ∷ []) 2 (Some 3) ∷ entry (pos 4) none (47 ∷ []) 2 None
      ∷ entry (pos 0) (one (num (pos 1024))) (97 ∷ []) 2 None ∷ [];
}

abbrev pub put_octets : List ℕ
put_octets =
    four 1
    (4 ∷ 0 ∷ 4 ∷ 0 ∷ four 0 (four 4 (101 ∷ 116 ∷ 99 ∷ 0 ∷ four 2 (four 3
    (4 ∷ 0 ∷ 4 ∷ 0 ∷ four 0 (four 2 (47 ∷ 0 ∷ 0 ∷ 0 ∷ four 2 (four 0
    (0 ∷ 0 ∷ 0 ∷ 0 ∷ 0 ∷ 4 ∷ 0 ∷ 0 ∷ four 0 (four 2 (97 ∷ 0 ∷ 0 ∷ 0 ∷ four 2 (four 0
    (four 2 (four 2 (0xAB ∷ 0xCD ∷ [])))))))))))))))

pub directory_entry : Represents put Little put_octets put_graph
unfolding align_of hoists roots_of
directory_entry = represents_so put Little put_octets put_graph [] 30 refl tt refl refl refl refl

pub directory_entry_written : Chosen put Little 1 put_graph put_octets
unfolding align_of hoists roots_of
directory_entry_written = chosen_so put Little 1 put_graph put_octets 30 refl refl
