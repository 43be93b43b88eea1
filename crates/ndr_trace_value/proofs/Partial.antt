-- Values of a partial graph: each node has as many children as its type says, an unread one none.
-- `t` is a type's number, `l` a label, `ks` are its children, `ags` agreements, `d` is a type.
use Rattle.std.proofs.Common.{◌≡◌, inl, inr, ◌∙◌, ℕ, ◌+◌, true, false, List, [], ◌∷◌, ◌++◌, length, Option, Some, None, refl, sym, ap, subst, arith}
use Rattle.std.specs.List.{list_all}
use Rattle.std.proofs.lemmas.Bool.{and_parts}
use Rattle.nd_types.specs.declared.types.TypeDef.{TypeDef}
use Rattle.nd_types.specs.declared.types.TypeDef.TheVariants as def
use Rattle.nd_types.specs.Table.{Table, type_at}
use Rattle.nd_value.specs.declared.value.Graph.{Graph}
use Rattle.nd_value.specs.Agreement.{Agreement}
use Rattle.nd_value.specs.Misfit.{has_shape, is_partial_node}
use Rattle.nd_value.specs.Nodes.{TypedNode, child_agreements, child_types, first_agreements, nodes_of, rest_agreements}
use Rattle.nd_value.specs.Tree as tree
use Rattle.nd_value.specs.Tree.{Label, Trees, count, more, node, node_count, none}
use Rattle.nd_value.proofs.NodeFacts.{IsReadOrNot, read_node}
use Rattle.nd_grammar.proofs.next.HoistedMaxes.{no_children}
use Rattle.text_printer.specs.Walks.{Begins}
use Rattle.text_printer.proofs.Sound.{all_parts}

unread_shape : (d : Option TypeDef) (ks : Trees) → has_shape d tree.Unread ks ≡ false
unread_shape (Some (def.Prim p)) ks = refl
unread_shape (Some (def.Enum values)) ks = refl
unread_shape (Some (def.Struct members)) ks = refl
unread_shape (Some (def.Array elem bound varying)) ks = refl
unread_shape (Some (def.Text elem bound)) ks = refl
unread_shape (Some (def.Union tag encapsulated arms default)) ks = refl
unread_shape (Some (def.Pointer class to)) ks = refl
unread_shape (Some def.Context) ks = refl
unread_shape (Some (def.Pipe elem)) ks = refl
unread_shape None ks = refl

module _ (table : Table) (g : Graph) where
  abbrev typed : ℕ → ℕ → List Agreement → Label → Trees → TypedNode
  typed n t agreements l ks = record { node = n; of = t; agreements = agreements; label = l; kids = ks }

  -- an unread node has no children
  unread_kids : (n t : ℕ) (agreements : List Agreement) (ks : Trees) → is_partial_node table g (typed n t agreements tree.Unread ks) ≡ true
      → count ks ≡ length (child_types (type_at table t) tree.Unread ks)
  unread_kids n t agreements none e = sym (ap length (no_children (type_at table t) none))
  unread_kids n t agreements (more v ts) e =
      let (e1, i) = and_parts _ _ e in
      let (e2, h) = and_parts _ _ e1 in
      let (e3, f) = and_parts _ _ e2 in
      let (e4, d) = and_parts _ _ e3 in
      let (e5, c) = and_parts _ _ e4 in
      let (a, b) = and_parts _ _ e5 in
      let z : true ≡ false = sym a ∙ unread_shape (type_at table t) (more v ts) in
      cc

  node_kids : (n t : ℕ) (agreements : List Agreement) (l : Label) (ks : Trees) → is_partial_node table g (typed n t agreements l ks) ≡ true
      → count ks ≡ length (child_types (type_at table t) l ks)
  node_kids n t agreements l ks e = go (read_node table g (typed n t agreements l ks) e)
    where
      go : IsReadOrNot table g t l ks → count ks ≡ length (child_types (type_at table t) l ks)
      go (inr r) = r.children
      go (inl u) =
          subst (λ x. count ks ≡ length (child_types (type_at table t) x ks)) (sym u)
          (unread_kids n t agreements ks (subst (λ x. is_partial_node table g (typed n t agreements x ks) ≡ true) u e))

  -- values of a partial graph come one after the other, each node with as many children as its type says
  pub partial_begins : (types : List ℕ) (ags : List (List Agreement)) (n : ℕ) (ts : Trees) → list_all (is_partial_node table g) (nodes_of table types ags n ts) ≡ true
      → count ts ≡ length types → Begins table types ts
  partial_begins [] ags n none h e = tt
  partial_begins (t ∷ types) ags n none h e = cc
  partial_begins [] ags n (more t ts) h e = tt
  partial_begins (t ∷ types) ags n (more (node l ks) ts) h e =
      let d = type_at table t in
      let inner = nodes_of table (child_types d l ks) (child_agreements d ks) (n + 1) ks in
      let outer = nodes_of table types (rest_agreements ags) (n + 1 + node_count ks) ts in
      let (a, b) = and_parts (is_partial_node table g (typed n t (first_agreements ags) l ks)) (list_all (is_partial_node table g) (inner ++ outer)) h in
      let c = all_parts (is_partial_node table g) inner outer b in
      let k = node_kids n t (first_agreements ags) l ks a in
      let m : count ts ≡ length types = omega (arith, e) in
      ((k, partial_begins (child_types d l ks) (child_agreements d ks) (n + 1) ks c.0 k), partial_begins types (rest_agreements ags) (n + 1 + node_count ks) ts c.1 m)
