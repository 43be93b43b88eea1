-- The pointers of a home while its value is being read: those of the children that were read come first; and how agreements join those of a struct's
-- own members.
use Rattle.std.proofs.Common.{◌≡◌, ℕ, ◌+◌, suc, Bool, List, [], ◌∷◌, ◌++◌, length, Option, Some, ap, sym, ◌∙◌, arith, append_assoc, flat_map}
use Rattle.std.proofs.lemmas.List.{append-nil}
use Rattle.std.proofs.lemmas.Grind.{flat_map-append}
use Rattle.std.specs.Prelude.{ℤ, map, replicate}
use Rattle.nd_types.specs.declared.types.TypeId.{TypeId}
use Rattle.nd_types.specs.declared.types.Field.{Field}
use Rattle.nd_types.specs.declared.types.Arm.{Arm}
use Rattle.nd_types.specs.declared.types.Class.{Class}
use Rattle.nd_types.specs.declared.types.Primitive.{Primitive}
use Rattle.nd_types.specs.declared.types.TypeDef.{TypeDef}
use Rattle.nd_types.specs.declared.types.TypeDef.TheVariants as def
use Rattle.nd_types.specs.Table.{Table, type_at, selected}
use Rattle.nd_value.specs.declared.item.Home.{Home}
use Rattle.nd_value.specs.Tree as tree
use Rattle.nd_value.specs.Tree.{Tree, Trees, node, none, more, joined, Label, count, node_count, is_pointer, cell_in}
use Rattle.nd_value.specs.Agreement.{Agreement, member_agreements}
use Rattle.nd_value.specs.Deferral.{pointer, pointer_by}
use Rattle.nd_value.specs.Nodes.{TypedNode, nodes_of, child_types, child_agreements, selected_types}
use Rattle.ndr_decoder_laws.specs.reader.Around.{pointers, governed_pointers}

module _ (table : Table) where
  -- the nodes of children, and of those that are read after them
  pub nodes_joined : (us ts : List ℕ) (n : ℕ) (xs ys : Trees) → length us ≡ count xs
      → nodes_of table (us ++ ts) [] n (joined xs ys) ≡ nodes_of table us [] n xs ++ nodes_of table ts [] (n + node_count xs) ys
  nodes_joined [] ts n none ys e = let z : n ≡ n + 0 = omega arith in ap (λ k. nodes_of table ts [] k ys) z
  nodes_joined (u ∷ us) ts n none ys e = absurd (omega (arith, e))
  nodes_joined [] ts n (more x xs) ys e = absurd (omega (arith, e))
  nodes_joined (u ∷ us) ts n (more (node l ks) xs) ys e =
      let inner : List TypedNode = nodes_of table (child_types (type_at table u) l ks) (child_agreements (type_at table u) ks) (n + 1) ks in
      let first : TypedNode = record { node = n; of = u; agreements = []; label = l; kids = ks } in
      let m : n + 1 + node_count ks + node_count xs ≡ n + suc (node_count ks + node_count xs) = omega arith in
      ap (λ zs. first ∷ (inner ++ zs))
      (nodes_joined us ts (n + 1 + node_count ks) xs ys (omega (arith, e))
      ∙ ap (λ k. nodes_of table us [] (n + 1 + node_count ks) xs ++ nodes_of table ts [] k ys) m)
      ∙ ap (λ zs. first ∷ zs) (sym (append_assoc inner (nodes_of table us [] (n + 1 + node_count ks) xs) (nodes_of table ts [] (n + suc (node_count ks + node_count xs)) ys)))

  -- the same with agreements, as many as there are children before
  pub governed_joined : (us ts : List ℕ) (vs ws : List (List Agreement)) (n : ℕ) (xs ys : Trees) → length us ≡ count xs → length vs ≡ count xs
      → nodes_of table (us ++ ts) (vs ++ ws) n (joined xs ys) ≡ nodes_of table us vs n xs ++ nodes_of table ts ws (n + node_count xs) ys
  governed_joined [] ts [] ws n none ys e d = let z : n ≡ n + 0 = omega arith in ap (λ k. nodes_of table ts ws k ys) z
  governed_joined [] ts (v ∷ vs) ws n none ys e d = absurd (omega (arith, d))
  governed_joined (u ∷ us) ts vs ws n none ys e d = absurd (omega (arith, e))
  governed_joined [] ts vs ws n (more x xs) ys e d = absurd (omega (arith, e))
  governed_joined (u ∷ us) ts [] ws n (more x xs) ys e d = absurd (omega (arith, d))
  governed_joined (u ∷ us) ts (v ∷ vs) ws n (more (node l ks) xs) ys e d =
      let inner : List TypedNode = nodes_of table (child_types (type_at table u) l ks) (child_agreements (type_at table u) ks) (n + 1) ks in
      let first : TypedNode = record { node = n; of = u; agreements = v; label = l; kids = ks } in
      let m : n + 1 + node_count ks + node_count xs ≡ n + suc (node_count ks + node_count xs) = omega arith in
      ap (λ zs. first ∷ (inner ++ zs))
      (governed_joined us ts vs ws (n + 1 + node_count ks) xs ys (omega (arith, e)) (omega (arith, d))
      ∙ ap (λ k. nodes_of table us vs (n + 1 + node_count ks) xs ++ nodes_of table ts ws k ys) m)
      ∙ ap (λ zs. first ∷ zs) (sym (append_assoc inner (nodes_of table us vs (n + 1 + node_count ks) xs) (nodes_of table ts ws (n + suc (node_count ks + node_count xs)) ys)))

module _ (table : Table) (h : Home) where
  -- a child more
  pub pointers_moved : (us : List ℕ) (t n : ℕ) (xs : Trees) (v : Tree) → length us ≡ count xs
      → pointers table h (us ++ t ∷ []) n (joined xs (more v none)) ≡ pointers table h us n xs ++ pointers table h (t ∷ []) (n + node_count xs) (more v none)
  pointers_moved us t n xs v e =
      ap (flat_map (pointer table h)) (nodes_joined table us (t ∷ []) n xs (more v none) e)
      ∙ flat_map-append (pointer table h) (nodes_of table us [] n xs) (nodes_of table (t ∷ []) [] (n + node_count xs) (more v none))

  -- The pointers of children, of which one is governed by these agreements: those before it, its own if it is one, those within it and after it. So
  -- agreements that join it change the one pending entry that is its own, and none if it is no pointer.
  pub governed_at : (us ts : List ℕ) (vs ws : List (List Agreement)) (w : List Agreement) (t n : ℕ) (xs ys : Trees) (l : Label) (ks : Trees)
      → length us ≡ count xs → length vs ≡ count xs
      → governed_pointers table h (us ++ t ∷ ts) (vs ++ w ∷ ws) n (joined xs (more (node l ks) ys))
      ≡ governed_pointers table h us vs n xs
      ++ (pointer_by (type_at table t) (is_pointer l) (cell_in l) h (n + node_count xs) w
      ++ flat_map (pointer table h)
      (nodes_of table (child_types (type_at table t) l ks) (child_agreements (type_at table t) ks) (n + node_count xs + 1) ks
      ++ nodes_of table ts ws (n + node_count xs + 1 + node_count ks) ys))
  governed_at us ts vs ws w t n xs ys l ks e d =
      ap (flat_map (pointer table h)) (governed_joined table us (t ∷ ts) vs (w ∷ ws) n xs (more (node l ks) ys) e d)
      ∙ flat_map-append (pointer table h) (nodes_of table us vs n xs) (nodes_of table (t ∷ ts) (w ∷ ws) (n + node_count xs) (more (node l ks) ys))

  -- a node whose children are these: its own pointer, and theirs
  pub pointers_node : (d : Option TypeDef) (t n : ℕ) (l : Label) (ks : Trees) → type_at table t ≡ d
      → pointers table h (t ∷ []) n (more (node l ks) none)
      ≡ pointer_by d (is_pointer l) (cell_in l) h n [] ++ governed_pointers table h (child_types d l ks) (child_agreements d ks) (n + 1) ks
  pointers_node d t n l ks e =
      ap (λ o. pointer_by o (is_pointer l) (cell_in l) h n [] ++ flat_map (pointer table h) (nodes_of table (child_types o l ks) (child_agreements o ks) (n + 1) ks ++ [])) e
      ∙ ap (λ zs. pointer_by d (is_pointer l) (cell_in l) h n [] ++ flat_map (pointer table h) zs)
      (append-nil (nodes_of table (child_types d l ks) (child_agreements d ks) (n + 1) ks))

  -- numbers, texts and context handles have none
  pub of_number : (t n : ℕ) (p : Primitive) (z : ℤ) → type_at table t ≡ Some (def.Prim p) → pointers table h (t ∷ []) n (more (node (tree.Num z) none) none) ≡ []
  of_number t n p z e = pointers_node (Some (def.Prim p)) t n (tree.Num z) none e

  pub of_enumerated : (t n : ℕ) (values : List ℤ) (z : ℤ) → type_at table t ≡ Some (def.Enum values) → pointers table h (t ∷ []) n (more (node (tree.Num z) none) none) ≡ []
  of_enumerated t n values z e = pointers_node (Some (def.Enum values)) t n (tree.Num z) none e

  pub of_text : (t n max : ℕ) (os : List ℕ) (elem : TypeId) (bound : Option ℕ) → type_at table t ≡ Some (def.Text elem bound)
      → pointers table h (t ∷ []) n (more (node (tree.Text max os) none) none) ≡ []
  of_text t n max os elem bound e = pointers_node (Some (def.Text elem bound)) t n (tree.Text max os) none e

  pub of_context : (t n a : ℕ) (id : List ℕ) → type_at table t ≡ Some def.Context → pointers table h (t ∷ []) n (more (node (tree.Context a id) none) none) ≡ []
  of_context t n a id e = pointers_node (Some def.Context) t n (tree.Context a id) none e

  -- a struct has those of its members, with their agreements; an array those of its elements, a union those of its arm; a pointer is one
  pub of_struct : (t n : ℕ) (members : List Field) (ks : Trees) → type_at table t ≡ Some (def.Struct members)
      → pointers table h (t ∷ []) n (more (node tree.Rec ks) none)
      ≡ governed_pointers table h (map (λ f. f.of.0) members) (map (λ f. member_agreements ks f.vars) members) (n + 1) ks
  of_struct t n members ks e = pointers_node (Some (def.Struct members)) t n tree.Rec ks e

  pub of_array : (t n max offset : ℕ) (elem : TypeId) (bound : Option ℕ) (varying : Bool) (ks : Trees) → type_at table t ≡ Some (def.Array elem bound varying)
      → pointers table h (t ∷ []) n (more (node (tree.Arr max offset) ks) none) ≡ pointers table h (replicate (count ks) elem.0) (n + 1) ks
  of_array t n max offset elem bound varying ks e = pointers_node (Some (def.Array elem bound varying)) t n (tree.Arr max offset) ks e

  pub of_union : (t n : ℕ) (z : ℤ) (tag : TypeId) (encapsulated : Bool) (arms : List Arm) (default : Option Arm) (ks : Trees)
      → type_at table t ≡ Some (def.Union tag encapsulated arms default)
      → pointers table h (t ∷ []) n (more (node (tree.Union z) ks) none) ≡ pointers table h (selected_types (selected arms default z)) (n + 1) ks
  of_union t n z tag encapsulated arms default ks e = pointers_node (Some (def.Union tag encapsulated arms default)) t n (tree.Union z) ks e

  pub of_pointer : (t n : ℕ) (class : Class) (to : TypeId) (c : Option ℕ) → type_at table t ≡ Some (def.Pointer class to)
      → pointers table h (t ∷ []) n (more (node (tree.Ptr c) none) none)
      ≡ record { home = h; node = n; class = class; to = to.0; cell = c; agreements = [] } ∷ []
  of_pointer t n class to c e = pointers_node (Some (def.Pointer class to)) t n (tree.Ptr c) none e
