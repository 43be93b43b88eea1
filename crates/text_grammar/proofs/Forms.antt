-- The forms of nodes that a text can name: one constructor for each.
use Rattle.std.proofs.Common.{◌≡◌, ℕ, ℤ, Bool, true, false, not, ◌&&◌, eqb, List, length, Option, Some, None, sym, subst}
use Rattle.std.specs.List.{list_all}
use Rattle.std.proofs.lemmas.Bool.{and_parts, eqb-true, not-true as not_false}
use Rattle.nd_types.specs.declared.types.TypeId.{TypeId}
use Rattle.nd_types.specs.declared.types.TypeDef.{TypeDef}
use Rattle.nd_types.specs.declared.types.TypeDef.TheVariants as def
use Rattle.nd_types.specs.declared.types.Primitive.{Primitive}
use Rattle.nd_types.specs.declared.types.Class.{Class}
use Rattle.nd_types.specs.declared.types.Field.{Field}
use Rattle.nd_types.specs.declared.types.Arm.{Arm}
use Rattle.nd_types.specs.Table.{Table, type_at, selected}
use Rattle.nd_value.specs.Tree as tree
use Rattle.nd_value.specs.Tree.{Trees, none, count, Label}
use Rattle.nd_value.specs.Nodes.{selected_types}
use Rattle.nd_value.specs.Misfit.{is_octet, is_count}
use Rattle.text_grammar.specs.declared.version.Version.{Version}
use Rattle.text_grammar.specs.Reads.{has_offset, has_maximum, may_be_elements, has_text_form}

pub data Form (v : Version) (table : Table) : Option TypeDef → Label → Trees → Type 0 where
  a_number : (p : Primitive) (z : ℤ) → Form v table (Some (def.Prim p)) (tree.Num z) none
  an_enum : (values : List ℤ) (z : ℤ) → Form v table (Some (def.Enum values)) (tree.Num z) none
  a_struct : (members : List Field) (ks : Trees) → count ks ≡ length members → Form v table (Some (def.Struct members)) tree.Rec ks
  an_array : (elem : TypeId) (bound : Option ℕ) (varying : Bool) (max offset : ℕ) (ks : Trees)
      → has_maximum bound varying max ks ≡ true → has_offset varying offset ≡ true → may_be_elements v (type_at table elem.0) ks ≡ true
      → Form v table (Some (def.Array elem bound varying)) (tree.Arr max offset) ks
  a_bound_text : (elem : TypeId) (bound : ℕ) (octets : List ℕ) → list_all is_octet octets ≡ true → Form v table (Some (def.Text elem (Some bound))) (tree.Text bound octets) none
  a_text : (elem : TypeId) (max : ℕ) (octets : List ℕ) → is_count max ≡ true → list_all is_octet octets ≡ true → Form v table (Some (def.Text elem None)) (tree.Text max octets) none
  a_union : (tag : TypeId) (encapsulated : Bool) (arms : List Arm) (default : Option Arm) (z : ℤ) (ks : Trees) → count ks ≡ length (selected_types (selected arms default z))
      → Form v table (Some (def.Union tag encapsulated arms default)) (tree.Union z) ks
  a_null : (class : Class) (to : TypeId) → Form v table (Some (def.Pointer class to)) (tree.Ptr None) none
  a_pointer : (class : Class) (to : TypeId) (c : ℕ) → eqb c 0 ≡ false → is_count c ≡ true → Form v table (Some (def.Pointer class to)) (tree.Ptr (Some c)) none
  a_context : (attributes : ℕ) (id : List ℕ) → is_count attributes ≡ true → length id ≡ 16 → list_all is_octet id ≡ true → Form v table (Some def.Context) (tree.Context attributes id) none
  a_pipe : (elem : TypeId) (ks : Trees) → may_be_elements v (type_at table elem.0) ks ≡ true → Form v table (Some (def.Pipe elem)) tree.Pipe ks

pub form_of : (v : Version) (table : Table) (d : Option TypeDef) (l : Label) (ks : Trees) → has_text_form v table d l ks ≡ true → Form v table d l ks
form_of v table (Some (def.Prim p)) (tree.Num z) none h = a_number p z
form_of v table (Some (def.Enum values)) (tree.Num z) none h = an_enum values z
form_of v table (Some (def.Struct members)) tree.Rec ks h = a_struct members ks (eqb-true (count ks) (length members) h)
form_of v table (Some (def.Array elem bound varying)) (tree.Arr max offset) ks h =
    let p = and_parts (has_maximum bound varying max ks) (has_offset varying offset && may_be_elements v (type_at table elem.0) ks) h in
    let q = and_parts (has_offset varying offset) (may_be_elements v (type_at table elem.0) ks) p.1 in
    an_array elem bound varying max offset ks p.0 q.0 q.1
form_of v table (Some (def.Text elem (Some bound))) (tree.Text max octets) none h =
    let p = and_parts (eqb max bound) (list_all is_octet octets) h in
    subst (λ m. Form v table (Some (def.Text elem (Some bound))) (tree.Text m octets) none) (sym (eqb-true max bound p.0)) (a_bound_text elem bound octets p.1)
form_of v table (Some (def.Text elem None)) (tree.Text max octets) none h =
    let p = and_parts (is_count max) (list_all is_octet octets) h in
    a_text elem max octets p.0 p.1
form_of v table (Some (def.Union tag encapsulated arms default)) (tree.Union z) ks h =
    a_union tag encapsulated arms default z ks (eqb-true (count ks) (length (selected_types (selected arms default z))) h)
form_of v table (Some (def.Pointer class to)) (tree.Ptr None) none h = a_null class to
form_of v table (Some (def.Pointer class to)) (tree.Ptr (Some c)) none h =
    let p = and_parts (not (eqb c 0)) (is_count c) h in
    a_pointer class to c (not_false (eqb c 0) p.0) p.1
form_of v table (Some def.Context) (tree.Context attributes id) none h =
    let p = and_parts (is_count attributes) (eqb (length id) 16 && list_all is_octet id) h in
    let q = and_parts (eqb (length id) 16) (list_all is_octet id) p.1 in
    a_context attributes id p.0 (eqb-true (length id) 16 q.0) q.1
form_of v table (Some (def.Pipe elem)) tree.Pipe ks h = a_pipe elem ks h
form_of v table d l ks h = cc
