-- What is known of the nodes of a graph that conforms, or of a partial one.
use Rattle.std.proofs.Common.{◌≡◌, ℕ, ◌+◌, zero, suc, true, false, List, [], ◌∷◌, length, Option, Some, None, refl, sym, inl, inr, ◌⊎◌, arith, subst}
use Rattle.std.specs.List.{AllByRecursion, slice_get}
use Rattle.std.proofs.lemmas.Bool.{eqb-true, and_parts}
use Rattle.std.proofs.lemmas.Option.{same_Some}
use Rattle.nd_types.specs.declared.types.TypeDef.{TypeDef}
use Rattle.nd_types.specs.declared.types.TypeDef.TheVariants as def
use Rattle.nd_types.specs.Table.{Table, type_at}
use Rattle.nd_types.specs.Roots.{Root}
use Rattle.nd_value.specs.declared.value.Graph.{Graph}
use Rattle.nd_value.specs.declared.item.Home.TheVariants as home
use Rattle.nd_value.specs.Tree as tree
use Rattle.nd_value.specs.Tree.{Tree, Trees, node, none, more, Label, Referent, count, node_count, cell_in}
use Rattle.nd_value.specs.Agreement.{Agreement, root_agreements}
use Rattle.nd_value.specs.Setting.{Setting, root_list, root_at, or_unread, cell_of_number, cell_home}
use Rattle.nd_value.specs.Nodes.{TypedNode, nodes_of, child_types, child_agreements, rest_agreements}
use Rattle.nd_value.specs.Conforms.{HomeNode, in_home, all_nodes, root_nodes, cell_nodes}
use Rattle.nd_value.specs.Misfit.{has_shape, has_counts, names_cell, names_pointee, has_machine_values}
use Rattle.nd_value.proofs.Apart.{all_left, all_right, all_map}
use Rattle.nd_value.proofs.Orderly.{PointerFits, pointee_of_cell}
use Rattle.nd_value.proofs.NodeFacts.{IsReadOrNot, IsSound, pointer_of_read}
use Rattle.nd_grammar.proofs.next.Matching.{CountsKnown, PointeeKnown, NodeKnown, Known}

counts_known : (d : Option TypeDef) (l : Label) (ks : Trees) → has_counts d l ks ≡ true → CountsKnown d l ks
counts_known (Some (def.Array e b false)) (tree.Arr m o) ks h =
    let (x, y) = and_parts _ _ h in
    let (u, v) = and_parts _ _ x in
    (eqb-true o 0 v, eqb-true (count ks) m y)
counts_known _ _ ks h = tt

unread_counts : (d : Option TypeDef) (ks : Trees) → CountsKnown d tree.Unread ks
unread_counts (Some (def.Array e b false)) ks = tt
unread_counts (Some (def.Array e b true)) ks = tt
unread_counts None ks = tt
unread_counts (Some _) ks = tt

pointee_known : (g : Graph) (d : Option TypeDef) (l : Label) → names_cell g l ≡ true → names_pointee g d l ≡ true → PointeeKnown g d (cell_in l)
pointee_known g (Some (def.Pointer k to)) (tree.Ptr None) a b = tt
pointee_known g (Some (def.Pointer k to)) (tree.Ptr (Some c)) a b = pointee_of_cell g k to c a b
pointee_known g (Some (def.Pointer k to)) _ a b = tt
pointee_known g _ l a b = tt

-- a node that is read or not, and whose values are the program's
pub record IsSoundNode (table : Table) (g : Graph) (of : ℕ) (l : Label) (ks : Trees) : Type 0 where
  pub machine : has_machine_values l ≡ true
  pub read : IsReadOrNot table g of l ks

node_known : (table : Table) (g : Graph) (of : ℕ) (l : Label) (ks : Trees) → IsSoundNode table g of l ks → NodeKnown g (type_at table of) l ks
node_known table g of l ks s =
    let p : PointerFits table g of l = pointer_of_read table g of l ks s.read in
    record {
      counts = known_counts s.read;
      no_null = p.no_null;
      pointee = pointee_known g (type_at table of) l p.cell p.pointee;
      machine = s.machine;
      shape = shape s.read;
    }
  where
    known_counts : IsReadOrNot table g of l ks → CountsKnown (type_at table of) l ks
    known_counts (inl e) = subst (λ u. CountsKnown (type_at table of) u ks) (sym e) (unread_counts (type_at table of) ks)
    known_counts (inr r) = counts_known (type_at table of) l ks r.counts

    shape : IsReadOrNot table g of l ks → (l ≡ tree.Unread) ⊎ ((has_shape (type_at table of) l ks ≡ true) × (has_counts (type_at table of) l ks ≡ true))
    shape (inl e) = inl e
    shape (inr r) = inr (r.shape, r.counts)

children_of : (table : Table) (g : Graph) (of : ℕ) (l : Label) (ks : Trees) → IsReadOrNot table g of l ks → (l ≡ tree.Unread → ⊥)
    → count ks ≡ length (child_types (type_at table of) l ks)
children_of table g of l ks (inl e) n = absurd (n e)
children_of table g of l ks (inr r) n = r.children

module _ (table : Table) (g : Graph) where
  abbrev pub SoundNode : TypedNode → Type 0
  SoundNode x = IsSoundNode table g x.of x.label x.kids

  pub known_nodes : (types : List ℕ) (ags : List (List Agreement)) (n : ℕ) (ts : Trees) → count ts ≡ length types
      → AllByRecursion SoundNode (nodes_of table types ags n ts) → Known g table types ts
  known_nodes [] ags n none e a = tt
  known_nodes [] ags n (more t ts) e a = cc
  known_nodes (t ∷ types) ags n none e a = cc
  known_nodes (t ∷ types) ags n (more (node l ks) ts) e a =
      let d : Option TypeDef = type_at table t in
      let rest : List TypedNode = nodes_of table types (rest_agreements ags) (n + 1 + node_count ks) ts in
      let kids : List TypedNode = nodes_of table (child_types d l ks) (child_agreements d ks) (n + 1) ks in
      let e' : count ts ≡ length types = omega arith in (
        node_known table g t l ks a.0,
        (λ unread_not. known_nodes (child_types d l ks) (child_agreements d ks) (n + 1) ks (children_of table g t l ks a.0.read unread_not)
            (all_left SoundNode kids rest a.1)),
        known_nodes types (rest_agreements ags) (n + 1 + node_count ks) ts e' (all_right SoundNode kids rest a.1),
      )

  abbrev pub SoundHomeNode : HomeNode → Type 0
  SoundHomeNode x = IsSoundNode table g x.typed.of x.typed.label x.typed.kids

  pub known_cell_value : (n : ℕ) (xs : List Referent) → AllByRecursion SoundHomeNode (cell_nodes table n xs)
      → (i : ℕ) (x : Referent) → slice_get xs i ≡ Some x → Known g table (x.of ∷ []) (more x.val none)
  known_cell_value n [] a i x e = cc
  known_cell_value n (y ∷ ys) a zero x e =
      let s : y ≡ x = same_Some _ _ e in
      subst (λ u. Known g table (u.of ∷ []) (more u.val none)) s
      (known_nodes (y.of ∷ []) [] 0 (more y.val none) refl (all_map SoundHomeNode (in_home (cell_home n)) _ (all_left SoundHomeNode _ (cell_nodes table (n + 1) ys) a)))
  known_cell_value n (y ∷ ys) a (suc i) x e = known_cell_value (n + 1) ys (all_right SoundHomeNode _ (cell_nodes table (n + 1) ys) a) i x e

module _ (w : Setting) (g : Graph) where
  known_root_value : (n : ℕ) (rs : List Root) (vs : List Tree) → length vs ≡ length rs → AllByRecursion (SoundHomeNode w.table g) (root_nodes w g n rs vs)
      → (i : ℕ) (r : Root) → slice_get rs i ≡ Some r → Known g w.table (r.of ∷ []) (more (or_unread (slice_get vs i)) none)
  known_root_value n [] vs e a i r f = cc
  known_root_value n (q ∷ rs) [] e a i r f = cc
  known_root_value n (q ∷ rs) (v ∷ vs) e a zero r f =
      let s : q ≡ r = same_Some _ _ f in
      subst (λ u. Known g w.table (u.of ∷ []) (more v none)) s
      (known_nodes w.table g (q.of ∷ []) (root_agreements w g q.vars ∷ []) 0 (more v none) refl
      (all_map (SoundHomeNode w.table g) (in_home (home.Root n)) _ (all_left (SoundHomeNode w.table g) _ (root_nodes w g (n + 1) rs vs) a)))
  known_root_value n (q ∷ rs) (v ∷ vs) e a (suc i) r f =
      let e' : length vs ≡ length rs = omega arith in
      known_root_value (n + 1) rs vs e' (all_right (SoundHomeNode w.table g) _ (root_nodes w g (n + 1) rs vs) a) i r f

  module _ (s : IsSound w g) where
    both_facts : (xs : List HomeNode) → AllByRecursion (λ x. has_machine_values x.typed.label ≡ true) xs
        → AllByRecursion (λ x. IsReadOrNot w.table g x.typed.of x.typed.label x.typed.kids) xs → AllByRecursion (SoundHomeNode w.table g) xs
    both_facts [] a b = tt
    both_facts (x ∷ xs) a b = (record { machine = a.0; read = b.0 }, both_facts xs a.1 b.1)

    sound_nodes : AllByRecursion (SoundHomeNode w.table g) (all_nodes w g)
    sound_nodes = both_facts (all_nodes w g) s.machine_values s.read

    -- every cell is known
    pub known_cells : (c : ℕ) (x : Referent) → cell_of_number g c ≡ Some x → Known g w.table (x.of ∷ []) (more x.val none)
    known_cells zero x e = cc
    known_cells (suc i) x e =
        known_cell_value w.table g 1 g.cells (all_right (SoundHomeNode w.table g) (root_nodes w g 0 (root_list w) g.roots) _ sound_nodes) i x e

    -- every root is known
    pub known_roots : (i : ℕ) (r : Root) → slice_get (root_list w) i ≡ Some r → Known g w.table (r.of ∷ []) (more (root_at g i) none)
    known_roots i r e =
        known_root_value 0 (root_list w) g.roots s.all_roots (all_left (SoundHomeNode w.table g) _ (cell_nodes w.table 1 g.cells) sound_nodes) i r e
