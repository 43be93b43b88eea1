-- What the order of deferral needs of a graph, and what it says of the pointers of a home.
use Rattle.std.proofs.Common.{◌≡◌, ℕ, ◌+◌, ◌<◌, ◌≤◌, zero, suc, Bool, true, false, List, [], ◌∷◌, ◌++◌, length, Option, Some, None, refl, ap, ap₂, sym, ◌∙◌, inl, inr, ◌⊎◌, arith, subst}
use Rattle.std.specs.Prelude.{eqb, leb, not, ◌&&◌, ◌||◌, map, flat_map}
use Rattle.std.specs.List.{slice_get, AllByRecursion, list_all}
use Rattle.std.proofs.lemmas.Bool.{eqb-true, leb-true, eqb-false, not-true, and_parts}
use Rattle.std.proofs.lemmas.Option.{same_Some, slice_get-get_or}
use Rattle.std.proofs.Common.{get_or}
use Rattle.nd_types.specs.declared.types.TypeDef.{TypeDef}
use Rattle.nd_types.specs.declared.types.TypeId.{TypeId}
use Rattle.std.proofs.lemmas.Grind.{flat_map-append}
use Rattle.nd_types.specs.declared.types.TypeDef.TheVariants as def
use Rattle.nd_types.specs.declared.types.Class.{Class}
use Rattle.nd_types.specs.declared.types.Class.TheVariants.{Ref, Unique, Full}
use Rattle.nd_types.specs.Table.{Table, type_at}
use Rattle.nd_types.specs.Roots.{Root}
use Rattle.nd_value.specs.declared.value.Graph.{Graph}
use Rattle.nd_value.specs.declared.item.Home.{Home}
use Rattle.nd_value.specs.declared.item.Home.TheVariants as home
use Rattle.nd_value.specs.Tree as tree
use Rattle.nd_value.specs.Tree.{Tree, Trees, node, none, more, Label, Referent, is_pointer, cell_in, node_count}
use Rattle.nd_value.specs.Agreement.{Agreement, root_agreements}
use Rattle.nd_value.specs.Setting.{Setting, root_list, cell_of_number, cell_home}
use Rattle.nd_value.specs.Nodes.{TypedNode, nodes_of, child_types, child_agreements, first_agreements, rest_agreements, governed_nodes, home_nodes}
use Rattle.nd_value.specs.Deferral.{Pending, pointer, pointer_by, home_pointers}
use Rattle.nd_value.specs.Conforms.{HomeNode, in_home, root_nodes, cell_nodes, all_nodes, all_pointers, AllEarlier, ShareOnlyIfFull}
use Rattle.nd_value.specs.Misfit.{is_no_null_ref, names_cell, names_pointee, has_type}
use Rattle.nd_value.proofs.Apart.{all_append, all_left, all_right, all_map, all_flat}

-- a node's pointer is no null reference, and names a cell of its referent's type
pub record PointerFits (table : Table) (g : Graph) (of : ℕ) (l : Label) : Type 0 where
  pub no_null : is_no_null_ref (type_at table of) l ≡ true
  pub cell : names_cell g l ≡ true
  pub pointee : names_pointee g (type_at table of) l ≡ true

pub record Orderly (w : Setting) (g : Graph) : Type 0 where
  pub all_roots : length g.roots ≡ length (root_list w)
  pub fit : AllByRecursion (λ x. PointerFits w.table g x.typed.of x.typed.label) (all_nodes w g)
  pub unshared : AllEarlier ShareOnlyIfFull (all_pointers w g)

-- a pointer's cell is one of the graph, of its referent's type
abbrev pub Pointee : Graph → Pending → Type 0
Pointee g p = (c : ℕ) → p.cell ≡ Some c → (x : Referent) × (cell_of_number g c ≡ Some x) × (x.of ≡ p.to)

module _ (g : Graph) where
  cell_there : (c : ℕ) → names_cell g (tree.Ptr (Some c)) ≡ true → (x : Referent) × (cell_of_number g c ≡ Some x)
  cell_there zero e = absurd (eqb-false zero zero (not-true _ (and_parts (not (eqb 0 0)) (leb 0 (length g.cells)) e).0) refl)
  cell_there (suc i) e =
      let h : suc i ≤ length g.cells = leb-true _ _ (and_parts (not (eqb (suc i) 0)) (leb (suc i) (length g.cells)) e).1 in
      (get_or g.cells i (record { of = 0; val = node tree.Unread none }), slice_get-get_or g.cells i _ h)

  its_type : (o : Option Referent) (x : Referent) (t : ℕ) → o ≡ Some x → has_type o t ≡ true → x.of ≡ t
  its_type None x t e h = cc
  its_type (Some y) x t e h = ap (λ u. u.of) (sym (same_Some _ _ e)) ∙ eqb-true y.of t h

  pub pointee_of_cell : (k : Class) (to : TypeId) (c : ℕ) → names_cell g (tree.Ptr (Some c)) ≡ true
      → names_pointee g (Some (def.Pointer k to)) (tree.Ptr (Some c)) ≡ true → (x : Referent) × (cell_of_number g c ≡ Some x) × (x.of ≡ to.0)
  pointee_of_cell k to c e f =
      let (x, s) = cell_there c e in
      (x, s, its_type (cell_of_number g c) x to.0 s f)

  pointee_at : (d : Option TypeDef) (l : Label) (h : Home) (n : ℕ) (ags : List Agreement) → names_cell g l ≡ true → names_pointee g d l ≡ true
      → AllByRecursion (Pointee g) (pointer_by d (is_pointer l) (cell_in l) h n ags)
  pointee_at (Some (def.Pointer k to)) (tree.Ptr None) h n ags e f = ((λ c s. cc), tt)
  pointee_at (Some (def.Pointer k to)) (tree.Ptr (Some b)) h n ags e f = (
    (λ c s.
        let (x, i, j) = pointee_of_cell k to b e f in
        (x, ap (cell_of_number g) (sym (same_Some _ _ s)) ∙ i, j)),
    tt,
  )
  pointee_at (Some (def.Pointer k to)) _ h n ags e f = tt
  pointee_at _ l h n ags e f = tt

  -- the pointers of nodes that fit, whatever agreements govern them
  pub pointees : (table : Table) (h : Home) (types : List ℕ) (ags ags' : List (List Agreement)) (n : ℕ) (ts : Trees)
      → AllByRecursion (λ x. PointerFits table g x.of x.label) (nodes_of table types ags n ts)
      → AllByRecursion (Pointee g) (flat_map (pointer table h) (nodes_of table types ags' n ts))
  pointees table h types ags ags' n none a = tt
  pointees table h [] ags ags' n (more t ts) a = tt
  pointees table h (t ∷ types) ags ags' n (more (node l ks) ts) a =
      let d : Option TypeDef = type_at table t in
      let kids : List TypedNode = nodes_of table (child_types d l ks) (child_agreements d ks) (n + 1) ks in
      let rest : List TypedNode = nodes_of table types (rest_agreements ags) (n + 1 + node_count ks) ts in
      let rest' : List TypedNode = nodes_of table types (rest_agreements ags') (n + 1 + node_count ks) ts in
      all_append (Pointee g) _ _ (pointee_at d l h n (first_agreements ags') a.0.cell a.0.pointee)
      (subst (AllByRecursion (Pointee g)) (sym (flat_map-append (pointer table h) kids rest'))
      (all_append (Pointee g) (flat_map (pointer table h) kids) (flat_map (pointer table h) rest')
      (pointees table h (child_types d l ks) (child_agreements d ks) (child_agreements d ks) (n + 1) ks (all_left _ kids rest a.1))
      (pointees table h types (rest_agreements ags) (rest_agreements ags') (n + 1 + node_count ks) ts (all_right _ kids rest a.1))))

  abbrev pub Fits : Table → HomeNode → Type 0
  Fits table x = PointerFits table g x.typed.of x.typed.label

  -- the pointers of a cell
  pub cell_pointees : (table : Table) (n : ℕ) (xs : List Referent) (i : ℕ) (x : Referent) → slice_get xs i ≡ Some x
      → AllByRecursion (Fits table) (cell_nodes table n xs) → (h : Home) → AllByRecursion (Pointee g) (home_pointers table h x.of x.val)
  cell_pointees table n [] i x e a h = cc
  cell_pointees table n (y ∷ ys) zero x e a h =
      let s : y ≡ x = same_Some _ _ e in
      subst (λ u. AllByRecursion (Pointee g) (home_pointers table h u.of u.val)) s
      (pointees table h (y.of ∷ []) [] [] 0 (more y.val none) (all_map (Fits table) (in_home (cell_home n)) _ (all_left _ _ _ a)))
  cell_pointees table n (y ∷ ys) (suc i) x e a h = cell_pointees table (n + 1) ys i x e (all_right _ _ _ a) h
