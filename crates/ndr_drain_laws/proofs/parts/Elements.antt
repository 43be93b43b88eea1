-- The nodes of the elements of a pipe, in the pipe and by themselves.
use Rattle.std.proofs.Common.{◌≡◌, ◌≤◌, ◌∙◌, ap, ap₂, subst, refl, ℕ, ◌+◌, zero, suc, Bool, true, ◌&&◌, List, [], ◌∷◌, length, replicate, Option, Some, None, arith}
use Rattle.std.specs.Prelude.{not, eqb, leb}
use Rattle.std.specs.List.{AllByRecursion, list_all}
use Rattle.nd_types.specs.declared.types.TypeDef.{TypeDef}
use Rattle.nd_types.specs.declared.types.TypeDef.TheVariants as def
use Rattle.nd_types.specs.Table.{Table, type_at, is_value}
use Rattle.nd_value.specs.declared.misfit.MisfitReason.{MisfitReason}
use Rattle.nd_value.specs.declared.misfit.MisfitReason.TheVariants as misfit
use Rattle.nd_value.specs.declared.value.Graph.{Graph}
use Rattle.nd_value.specs.Agreement.{Agreement}
use Rattle.nd_value.specs.Tree as tree
use Rattle.nd_value.specs.Tree.{Tree, Trees, node, none, more, count, node_count, trees, Label}
use Rattle.nd_value.specs.Nodes.{TypedNode, child_types, child_agreements, rest_agreements, nodes_of, home_nodes}
use Rattle.nd_value.specs.Conforms.{AgreesAt, subject_by, IsAgreed}
use Rattle.nd_value.specs.Misfit.{misfit_of, misfit_by, unless, has_shape, has_range, is_no_null_ref, names_cell, names_pointee, has_type, has_machine_values, has_counts, is_within, has_no_zero}
use Rattle.nd_value.specs.Misfit.{has_arm}
use Rattle.nd_value.specs.Setting.{cell_of_number, cell_tree}
use Rattle.nd_value.proofs.Apart.{all_append, all_left, all_right}
use Rattle.std.proofs.lemmas.Bool.{and_parts, leb-true}
use Rattle.ndr_drain_laws.specs.parts.Parts.{IsElement, no_graph}
use Rattle.nd_value.proofs.NodeFacts.{unless_none as if_true}

-- ## A node in a graph with cells

abbrev pub NamesNone : Label → Type 0
NamesNone l = (c : ℕ) → l ≡ tree.Ptr (Some c) → ⊥

not_there : (c : ℕ) → names_cell no_graph (tree.Ptr (Some c)) ≡ true → ⊥
not_there zero e = let z : zero ≡ suc zero = cc in absurd (omega (arith, z))
not_there (suc c) e =
    let (p, q) = and_parts (not (eqb (suc c) 0)) (leb (suc c) 0) e in
    let z : suc c ≤ 0 = leb-true (suc c) 0 q in
    absurd (omega (arith, z))

pub names_none_by : (l : Label) → names_cell no_graph l ≡ true → NamesNone l
names_none_by l m c k = not_there c (subst (λ l. names_cell no_graph l ≡ true) k m)

names_none : (table : Table) (x : TypedNode) → misfit_of table no_graph x ≡ None → NamesNone x.label
names_none table x e =
    let d : Option TypeDef = type_at table x.of in
    let (a, ea) = if_true (has_shape d x.label x.kids) misfit.Shape _ e in
    let (b, eb) = if_true (has_range is_value table d x.label) misfit.Range _ ea in
    let (n, en) = if_true (is_no_null_ref d x.label) misfit.NullRef _ eb in
    let (m, em) = if_true (names_cell no_graph x.label) misfit.NoCell _ en in
    names_none_by x.label m

abbrev misfit_with : Table → Option TypeDef → Label → Trees → Bool → Bool → Option MisfitReason
misfit_with table d l ks x y =
    unless (has_shape d l ks) misfit.Shape
    (unless (has_range is_value table d l) misfit.Range
    (unless (is_no_null_ref d l) misfit.NullRef
    (unless x misfit.NoCell
    (unless y misfit.CellType
    (unless (has_counts d l ks && is_within l ks) misfit.Bound
    (unless (has_no_zero l) misfit.Zero
    (unless (has_arm d l) misfit.NoArm None)))))))

-- a node that names no cell is judged alike in all graphs
pub cell_alike : (g h : Graph) (l : Label) → NamesNone l → names_cell g l ≡ names_cell h l
cell_alike g h (tree.Ptr (Some c)) e = absurd (e c refl)
cell_alike g h _ e = refl

pub pointee_alike : (g h : Graph) (d : Option TypeDef) (l : Label) → NamesNone l → names_pointee g d l ≡ names_pointee h d l
pointee_alike g h (Some (def.Pointer k to)) (tree.Ptr (Some c)) e = absurd (e c refl)
pointee_alike g h _ _ e = refl

pub alone_misfit : (table : Table) (g h : Graph) (x : TypedNode) → NamesNone x.label → misfit_of table g x ≡ misfit_of table h x
alone_misfit table g h x e =
    let d : Option TypeDef = type_at table x.of in
    ap₂ (misfit_with table d x.label x.kids) (cell_alike g h x.label e) (pointee_alike g h d x.label e)

subject_alike : (g h : Graph) (x : TypedNode) (l : Label) → NamesNone l → subject_by g x l ≡ subject_by h x l
subject_alike g h x (tree.Ptr (Some c)) e = absurd (e c refl)
subject_alike g h x _ e = refl

pub alone_agrees : (g h : Graph) (x : TypedNode) → NamesNone x.label → AgreesAt g x → AgreesAt h x
alone_agrees g h x e a = subst (AllByRecursion (λ t. AllByRecursion (IsAgreed t) x.agreements)) (subject_alike g h x x.label e) a

-- ## Nodes in a graph with the same cells

module _ (g h : Graph) (same : (c : ℕ) → cell_of_number g c ≡ cell_of_number h c) (as_many : length g.cells ≡ length h.cells) where
  pub cell_same : (l : Label) → names_cell g l ≡ names_cell h l
  cell_same (tree.Ptr (Some c)) = ap (λ n. not (eqb c 0) && leb c n) as_many
  cell_same _ = refl

  pub pointee_same : (d : Option TypeDef) (l : Label) → names_pointee g d l ≡ names_pointee h d l
  pointee_same (Some (def.Pointer k to)) (tree.Ptr (Some c)) = ap (λ o. has_type o to.0) (same c)
  pointee_same _ _ = refl

  pub same_misfit : (table : Table) (x : TypedNode) → misfit_of table g x ≡ misfit_of table h x
  same_misfit table x =
      let d : Option TypeDef = type_at table x.of in
      ap₂ (misfit_with table d x.label x.kids) (cell_same x.label) (pointee_same d x.label)

  subject_same : (x : TypedNode) (l : Label) → subject_by g x l ≡ subject_by h x l
  subject_same x (tree.Ptr (Some c)) = ap (λ o. cell_tree o ∷ []) (same c)
  subject_same x _ = refl

  pub same_agrees : (x : TypedNode) → AgreesAt g x → AgreesAt h x
  same_agrees x a = subst (AllByRecursion (λ t. AllByRecursion (IsAgreed t) x.agreements)) (subject_same x x.label) a

-- ## The nodes of elements

-- what is true of a node whatever its number
module _ (table : Table) (R : ℕ → List Agreement → Label → Trees → Type 0) where
  abbrev Holds : TypedNode → Type 0
  Holds x = R x.of x.agreements x.label x.kids

  renumbered : (types : List ℕ) (ags : List (List Agreement)) (n m : ℕ) (ts : Trees) → AllByRecursion Holds (nodes_of table types ags n ts) → AllByRecursion Holds (nodes_of table types ags m ts)
  renumbered types ags n m none a = tt
  renumbered [] ags n m (more t ts) a = tt
  renumbered (t ∷ types) ags n m (more (node l ks) ts) a =
      let K : ℕ → List TypedNode = λ k. nodes_of table (child_types (type_at table t) l ks) (child_agreements (type_at table t) ks) (k + 1) ks in
      let L : ℕ → List TypedNode = λ k. nodes_of table types (rest_agreements ags) (k + 1 + node_count ks) ts in (
        a.0,
        all_append Holds (K m) (L m)
            (renumbered (child_types (type_at table t) l ks) (child_agreements (type_at table t) ks) (n + 1) (m + 1) ks (all_left Holds (K n) (L n) a.1))
            (renumbered types (rest_agreements ags) (n + 1 + node_count ks) (m + 1 + node_count ks) ts (all_right Holds (K n) (L n) a.1)),
      )

  -- the nodes of elements, one after the other, from any number on
  pub in_pipe : (t n : ℕ) (vs : List Tree) → AllByRecursion (λ v. AllByRecursion Holds (home_nodes table t v)) vs
      → AllByRecursion Holds (nodes_of table (replicate (count (trees vs)) t) [] n (trees vs))
  in_pipe t n [] a = tt
  in_pipe t n (node l ks ∷ vs) a =
      let K : ℕ → List TypedNode = λ k. nodes_of table (child_types (type_at table t) l ks) (child_agreements (type_at table t) ks) (k + 1) ks in
      let L : List TypedNode = nodes_of table (replicate (count (trees vs)) t) [] (n + 1 + node_count ks) (trees vs) in (
        a.0.0,
        all_append Holds (K n) L
            (renumbered (child_types (type_at table t) l ks) (child_agreements (type_at table t) ks) 1 (n + 1) ks (all_left Holds (K 0) [] a.0.1))
            (in_pipe t (n + 1 + node_count ks) vs a.1),
      )

-- A node names no cell: it fits and agrees in every graph, whatever its number.
pub record IsAlone (table : Table) (of : ℕ) (ags : List Agreement) (l : Label) (ks : Trees) : Type 0 where
  pub machine_values : has_machine_values l ≡ true
  pub fits : (g : Graph) → misfit_by table g (type_at table of) l ks ≡ None
  pub agrees : (g : Graph) (n : ℕ) → AgreesAt g (record { node = n; of = of; agreements = ags; label = l; kids = ks })

abbrev pub Alone : Table → TypedNode → Type 0
Alone table x = IsAlone table x.of x.agreements x.label x.kids

numbered : (g : Graph) (x y : TypedNode) → x.kids ≡ y.kids → (l : Label) → subject_by g x l ≡ subject_by g y l
numbered g x y e (tree.Ptr None) = refl
numbered g x y e (tree.Ptr (Some c)) = refl
numbered g x y e (tree.Num z) = ap (λ ks. node (tree.Num z) ks ∷ []) e
numbered g x y e tree.Rec = ap (λ ks. node tree.Rec ks ∷ []) e
numbered g x y e (tree.Arr m o) = ap (λ ks. node (tree.Arr m o) ks ∷ []) e
numbered g x y e (tree.Text m os) = ap (λ ks. node (tree.Text m os) ks ∷ []) e
numbered g x y e (tree.Union v) = ap (λ ks. node (tree.Union v) ks ∷ []) e
numbered g x y e (tree.Context a i) = ap (λ ks. node (tree.Context a i) ks ∷ []) e
numbered g x y e tree.Pipe = ap (λ ks. node tree.Pipe ks ∷ []) e
numbered g x y e tree.Unread = ap (λ ks. node tree.Unread ks ∷ []) e

alone_at : (table : Table) (x : TypedNode) → has_machine_values x.label ≡ true → misfit_of table no_graph x ≡ None → AgreesAt no_graph x → Alone table x
alone_at table x m f a =
    let e : NamesNone x.label = names_none table x f in
    record {
      machine_values = m;
      fits = λ g. alone_misfit table g no_graph x e ∙ f;
      agrees = λ g n. subst (AllByRecursion (λ t. AllByRecursion (IsAgreed t) x.agreements))
          (numbered g x (record { node = n; of = x.of; agreements = x.agreements; label = x.label; kids = x.kids }) refl x.label) (alone_agrees no_graph g x e a);
    }

pub all_alone : (table : Table) (xs : List TypedNode) → list_all (λ x. has_machine_values x.label) xs ≡ true → AllByRecursion (λ x. misfit_of table no_graph x ≡ None) xs
    → AllByRecursion (AgreesAt no_graph) xs → AllByRecursion (Alone table) xs
all_alone table [] m f a = tt
all_alone table (x ∷ xs) m f a =
    let (p, q) = and_parts (has_machine_values x.label) (list_all (λ x. has_machine_values x.label) xs) m in
    (alone_at table x p f.0 a.0, all_alone table xs q f.1 a.1)

pub element_alone : (table : Table) (t : ℕ) (v : Tree) → IsElement table t v → AllByRecursion (Alone table) (home_nodes table t v)
element_alone table t v e = all_alone table (home_nodes table t v) e.machine_values e.local e.agreed
