-- What the nodes of a graph that conforms, and of a partial graph, keep to.
use Rattle.std.proofs.Common.{◌≡◌, ℕ, Bool, true, false, List, [], ◌∷◌, length, Option, Some, None, refl, sym, ◌∙◌, inl, inr, ◌⊎◌, subst}
use Rattle.std.specs.Prelude.{eqb, ◌&&◌}
use Rattle.std.specs.List.{AllByRecursion, list_all}
use Rattle.std.proofs.lemmas.Bool.{eqb-true, and_parts}
use Rattle.std.proofs.lemmas.List.{length-replicate}
use Rattle.nd_types.specs.declared.types.TypeDef.{TypeDef}
use Rattle.nd_types.specs.declared.types.TypeDef.TheVariants as def
use Rattle.nd_types.specs.declared.types.Arm.{Arm}
use Rattle.nd_types.specs.declared.types.Class.TheVariants.{Ref, Unique, Full}
use Rattle.nd_types.specs.Table.{Table, type_at, is_value, fits_octets, selected}
use Rattle.nd_value.specs.declared.value.Graph.{Graph}
use Rattle.nd_value.specs.declared.misfit.MisfitReason.{MisfitReason}
use Rattle.nd_value.specs.Tree as tree
use Rattle.nd_value.specs.Tree.{Trees, node, none, Label, count}
use Rattle.nd_value.specs.Setting.{Setting, root_list}
use Rattle.nd_value.specs.Nodes.{TypedNode, child_types, selected_types}
use Rattle.nd_value.specs.Conforms.{all_nodes, all_pointers, Conforms, IsPartial, AllEarlier, ShareOnlyIfFull}
use Rattle.nd_value.specs.Misfit.{misfit_of, unless, is_partial_node, has_shape, has_range, is_no_null_ref, names_cell, names_pointee, has_counts, is_within, has_no_zero, has_arm, has_machine_values}
use Rattle.nd_value.specs.Misfit.{selects, arm_fits}
use Rattle.nd_value.proofs.Apart.{all_weaker}
use Rattle.nd_value.proofs.Orderly.{Orderly, PointerFits}
use Rattle.nd_lemmas.proofs.Lists.{length_map as length_mapped}

pub all_of_list : {X : Type 0} (f : X → Bool) (xs : List X) → list_all f xs ≡ true → AllByRecursion (λ x. f x ≡ true) xs
all_of_list f [] e = tt
all_of_list f (x ∷ xs) e = let (a, b) = and_parts (f x) (list_all f xs) e in (a, all_of_list f xs b)

pub unless_none : (b : Bool) (r : MisfitReason) (o : Option MisfitReason) → unless b r o ≡ None → (b ≡ true) × (o ≡ None)
unless_none true r o e = (refl, e)
unless_none false r o e = cc

-- a node that has no misfit by itself
pub record IsFit (table : Table) (g : Graph) (of : ℕ) (l : Label) (ks : Trees) : Type 0 where
  pub shape : has_shape (type_at table of) l ks ≡ true
  pub range : has_range is_value table (type_at table of) l ≡ true
  pub no_null : is_no_null_ref (type_at table of) l ≡ true
  pub cell : names_cell g l ≡ true
  pub pointee : names_pointee g (type_at table of) l ≡ true
  pub counts : has_counts (type_at table of) l ks ≡ true
  pub within : is_within l ks ≡ true
  pub no_zero : has_no_zero l ≡ true
  pub arm : has_arm (type_at table of) l ≡ true

pub fit_node : (table : Table) (g : Graph) (x : TypedNode) → misfit_of table g x ≡ None → IsFit table g x.of x.label x.kids
fit_node table g x e =
    let (a, e1) = unless_none _ _ _ e in
    let (b, e2) = unless_none _ _ _ e1 in
    let (c, e3) = unless_none _ _ _ e2 in
    let (d, e4) = unless_none _ _ _ e3 in
    let (f, e5) = unless_none _ _ _ e4 in
    let (h, e6) = unless_none _ _ _ e5 in
    let (i, e7) = unless_none _ _ _ e6 in
    let (j, e8) = unless_none _ _ _ e7 in
    let (k, l) = and_parts _ _ h in
    record { shape = a; range = b; no_null = c; cell = d; pointee = f; counts = k; within = l; no_zero = i; arm = j }

-- a node that is read in part: it is unread, or has the form of its type
pub record IsRead (table : Table) (g : Graph) (of : ℕ) (l : Label) (ks : Trees) : Type 0 where
  pub shape : has_shape (type_at table of) l ks ≡ true
  pub children : count ks ≡ length (child_types (type_at table of) l ks)
  pub no_null : is_no_null_ref (type_at table of) l ≡ true
  pub cell : names_cell g l ≡ true
  pub pointee : names_pointee g (type_at table of) l ≡ true
  pub counts : has_counts (type_at table of) l ks ≡ true

abbrev pub IsReadOrNot : Table → Graph → ℕ → Label → Trees → Type 0
IsReadOrNot table g of l ks = (l ≡ tree.Unread) ⊎ IsRead table g of l ks

pub record ReadBefore (table : Table) (g : Graph) (of : ℕ) (l : Label) (ks : Trees) : Type 0 where
  pub all : (has_shape (type_at table of) l ks && eqb (count ks) (length (child_types (type_at table of) l ks)) && has_range fits_octets table (type_at table of) l
      && is_no_null_ref (type_at table of) l && names_cell g l && names_pointee g (type_at table of) l && has_counts (type_at table of) l ks) ≡ true

read_all : (table : Table) (g : Graph) (of : ℕ) (l : Label) (ks : Trees) → ReadBefore table g of l ks → IsRead table g of l ks
read_all table g of l ks r =
    let (e1, i) = and_parts _ _ r.all in
    let (e2, h) = and_parts _ _ e1 in
    let (e3, f) = and_parts _ _ e2 in
    let (e4, d) = and_parts _ _ e3 in
    let (e5, c) = and_parts _ _ e4 in
    let (a, b) = and_parts _ _ e5 in
    record { shape = a; children = eqb-true _ _ b; no_null = d; cell = f; pointee = h; counts = i }

pub read_node : (table : Table) (g : Graph) (x : TypedNode) → is_partial_node table g x ≡ true → IsReadOrNot table g x.of x.label x.kids
read_node table g x e = by_label x.label x.kids e
  where
    by_label : (l : Label) (ks : Trees) → is_partial_node table g (record { node = x.node; of = x.of; agreements = x.agreements; label = l; kids = ks }) ≡ true
        → IsReadOrNot table g x.of l ks
    by_label tree.Unread ks e = inl refl
    by_label (tree.Num z) ks e = inr (read_all table g x.of (tree.Num z) ks (record { all = e }))
    by_label tree.Rec ks e = inr (read_all table g x.of tree.Rec ks (record { all = e }))
    by_label (tree.Arr m o) ks e = inr (read_all table g x.of (tree.Arr m o) ks (record { all = e }))
    by_label (tree.Text m os) ks e = inr (read_all table g x.of (tree.Text m os) ks (record { all = e }))
    by_label (tree.Union v) ks e = inr (read_all table g x.of (tree.Union v) ks (record { all = e }))
    by_label (tree.Ptr c) ks e = inr (read_all table g x.of (tree.Ptr c) ks (record { all = e }))
    by_label (tree.Context a i) ks e = inr (read_all table g x.of (tree.Context a i) ks (record { all = e }))
    by_label tree.Pipe ks e = inr (read_all table g x.of tree.Pipe ks (record { all = e }))

arm_children : (o : Option Arm) (ks : Trees) → selects o ≡ true → arm_fits o ks ≡ true → count ks ≡ length (selected_types o)
arm_children None ks a b = cc
arm_children (Some x) ks a b = eqb-true _ _ b

-- a node without misfit has as many children as their types
pub fit_children : (d : Option TypeDef) (l : Label) (ks : Trees) → has_shape d l ks ≡ true → has_arm d l ≡ true → count ks ≡ length (child_types d l ks)
fit_children (Some (def.Prim p)) (tree.Num z) none a b = refl
fit_children (Some (def.Enum vs)) (tree.Num z) none a b = refl
fit_children (Some (def.Struct ms)) tree.Rec ks a b = eqb-true _ _ a ∙ sym (length_mapped (λ f. f.of.0) ms)
fit_children (Some (def.Array e n v)) (tree.Arr m o) ks a b = sym (length-replicate (count ks) e.0)
fit_children (Some (def.Text e n)) (tree.Text m os) none a b = refl
fit_children (Some (def.Union tag enc arms default)) (tree.Union v) ks a b = arm_children (selected arms default v) ks b a
fit_children (Some (def.Pointer k to)) (tree.Ptr c) none a b = refl
fit_children (Some def.Context) (tree.Context x i) none a b = refl
fit_children (Some (def.Pipe e)) tree.Pipe ks a b = sym (length-replicate (count ks) e.0)
fit_children _ _ ks a b = cc

pub fit_is_read : (table : Table) (g : Graph) (of : ℕ) (l : Label) (ks : Trees) → IsFit table g of l ks → IsRead table g of l ks
fit_is_read table g of l ks f = record {
  shape = f.shape;
  children = fit_children (type_at table of) l ks f.shape f.arm;
  no_null = f.no_null;
  cell = f.cell;
  pointee = f.pointee;
  counts = f.counts;
}

pub unread_no_null : (d : Option TypeDef) → is_no_null_ref d tree.Unread ≡ true
unread_no_null (Some (def.Pointer Ref to)) = refl
unread_no_null (Some (def.Pointer Unique to)) = refl
unread_no_null (Some (def.Pointer Full to)) = refl
unread_no_null None = refl
unread_no_null (Some _) = refl

unread_pointee : (g : Graph) (d : Option TypeDef) → names_pointee g d tree.Unread ≡ true
unread_pointee g (Some (def.Pointer k to)) = refl
unread_pointee g None = refl
unread_pointee g (Some _) = refl

pub pointer_of_read : (table : Table) (g : Graph) (of : ℕ) (l : Label) (ks : Trees) → IsReadOrNot table g of l ks → PointerFits table g of l
pointer_of_read table g of l ks (inr r) = record { no_null = r.no_null; cell = r.cell; pointee = r.pointee }
pointer_of_read table g of l ks (inl e) =
    subst (PointerFits table g of) (sym e)
    (record { no_null = unread_no_null (type_at table of); cell = refl; pointee = unread_pointee g (type_at table of) })

-- What the laws need of a graph, conforming or partial: its roots, its nodes and its pointers.
pub record IsSound (w : Setting) (g : Graph) : Type 0 where
  pub all_roots : length g.roots ≡ length (root_list w)
  pub machine_values : AllByRecursion (λ x. has_machine_values x.typed.label ≡ true) (all_nodes w g)
  pub read : AllByRecursion (λ x. IsReadOrNot w.table g x.typed.of x.typed.label x.typed.kids) (all_nodes w g)
  pub unshared : AllEarlier ShareOnlyIfFull (all_pointers w g)

pub sound_conforming : (w : Setting) (g : Graph) → Conforms w g → IsSound w g
sound_conforming w g c = record {
  all_roots = c.all_roots;
  machine_values = all_of_list _ _ c.machine_values;
  read = all_weaker _ _ (λ x e. inr (fit_is_read w.table g x.typed.of x.typed.label x.typed.kids (fit_node w.table g x.typed e))) (all_nodes w g) c.local;
  unshared = c.unshared;
}

pub sound_partial : (w : Setting) (g : Graph) → IsPartial w g → IsSound w g
sound_partial w g c = record {
  all_roots = c.all_roots;
  machine_values = all_of_list _ _ c.machine_values;
  read = all_weaker _ _ (λ x e. read_node w.table g x.typed e) (all_nodes w g) (all_of_list _ _ c.local);
  unshared = c.unshared;
}

pub orderly : (w : Setting) (g : Graph) → IsSound w g → Orderly w g
orderly w g s = record {
  all_roots = s.all_roots;
  fit = all_weaker _ _ (λ x r. pointer_of_read w.table g x.typed.of x.typed.label x.typed.kids r) (all_nodes w g) s.read;
  unshared = s.unshared;
}
