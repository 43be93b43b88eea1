-- What the passes over a graph of a plain operation find: no pointers, no attributes, no cell that is reached.
use Rattle.std.proofs.Common.{◌≡◌, ℕ, ◌+◌, ◌^◌, ◌<◌, ◌≤◌, zero, suc, Bool, true, List, [], ◌∷◌, ◌++◌, length, Option, Some, None, refl, ap, ap₂, sym, ◌∙◌, arith, subst, map}
use Rattle.std.specs.Prelude.{flat_map}
use Rattle.std.specs.List.{AllByRecursion, list_all, slice_get}
use Rattle.std.proofs.lemmas.Bool.{and_parts}
use Rattle.nd_types.specs.declared.interface.Interface.{Interface}
use Rattle.nd_types.specs.declared.types.TypeDef.{TypeDef}
use Rattle.nd_types.specs.declared.types.TypeDef.TheVariants as def
use Rattle.nd_types.specs.declared.types.Operation.{Operation}
use Rattle.nd_types.specs.declared.types.Side.{Side}
use Rattle.nd_types.specs.Table.{Table, type_at}
use Rattle.nd_types.specs.Roots.{Root, roots_of, NamedRoot, named_root, named_roots}
use Rattle.nd_types.specs.declared.types.Primitive.{Primitive}
use Rattle.nd_types.specs.Numbers.{has_number_roots, IsPrimitiveRoot}
use Rattle.std.proofs.lemmas.Option.{same_Some}
use Rattle.nd_types.proofs.LegalLaws.{passes_at}
use Rattle.nd_types.proofs.NumberRoots.{primitive_roots}
use Rattle.example_ndr.specs.Simple.{is_simple}
use Rattle.nd_value.specs.declared.value.Graph.{Graph}
use Rattle.nd_value.specs.declared.item.Home.{Home}
use Rattle.nd_value.specs.declared.item.Home.TheVariants as home
use Rattle.nd_value.specs.declared.misfit.MisfitReason.{MisfitReason}
use Rattle.nd_value.specs.Tree as tree
use Rattle.nd_value.specs.Tree.{Tree, Trees, node, none, more, Label, Referent}
use Rattle.nd_value.specs.Agreement.{Agreement, root_agreements}
use Rattle.nd_value.specs.Setting.{Setting, root_list, cell_home, Among}
use Rattle.nd_value.specs.Nodes.{TypedNode, child_types, child_agreements, first_agreements, nodes_of, governed_nodes, home_nodes}
use Rattle.nd_value.specs.Deferral.{Pending, pointer_by, pointer, home_pointers}
use Rattle.nd_value.specs.Conforms.{HomeNode, in_home, root_nodes, cell_nodes, all_nodes, all_pointers, root_pointers, cell_pointers, Conforms, HasFewNodes, Reached, by_root, by_cell, subject}
use Rattle.nd_value.specs.Conforms.{MisfitAt, first_local, first_shared, IsFirstUnreached, disagreement_of, first_disagreeing, IsFirstMisfit, is_local, is_unreached}
use Rattle.nd_value.specs.Misfit.{misfit_of, has_shape, has_machine_values}
use Rattle.nd_value.specs.Fitting.{setting_of}
use Rattle.nd_value.proofs.NodeFacts.{fit_node}
use Rattle.nd_value.proofs.Misfits.{all_left, all_both, all_weaker, Without, first-none, none-local, passed_conforms}
use Rattle.nd_lemmas.proofs.Lists.{list_all_from}
use Rattle.nd_value.proofs.DeferralExists.{no_nodes as none_typed}

no_pointer_by : (d : Option TypeDef) → is_simple d ≡ true → (b : Bool) (c : Option ℕ) (h : Home) (n : ℕ) (ags : List Agreement) → pointer_by d b c h n ags ≡ []
no_pointer_by (Some (def.Pointer k to)) e b c h n ags = cc
no_pointer_by _ e b c h n ags = refl

no_children : (d : Option TypeDef) → is_simple d ≡ true → (l : Label) (ks : Trees) → child_types d l ks ≡ []
no_children (Some (def.Struct members)) e l ks = cc
no_children (Some (def.Array elem bound varying)) e l ks = cc
no_children (Some (def.Union tag encapsulated arms default)) e l ks = cc
no_children (Some (def.Pipe elem)) e l ks = cc
no_children _ e l ks = refl

-- no agreements
abbrev Ungoverned : HomeNode → Type 0
Ungoverned x = x.typed.agreements ≡ []

-- a node of a simple type is alone in its home
module _ (table : Table) (t : ℕ) (simple : is_simple (type_at table t) ≡ true) where
  no_kids : (n : ℕ) (l : Label) (ks : Trees) (ags : List (List Agreement)) → nodes_of table (child_types (type_at table t) l ks) ags n ks ≡ []
  no_kids n l ks ags = ap (λ types. nodes_of table types ags n ks) (no_children (type_at table t) simple l ks) ∙ none_typed table ags n ks

  abbrev lone : List (List Agreement) → Label → Trees → TypedNode
  lone ags l ks = record { node = 0; of = t; agreements = first_agreements ags; label = l; kids = ks }

  alone : (ags : List (List Agreement)) (l : Label) (ks : Trees) → nodes_of table (t ∷ []) ags 0 (more (node l ks) none) ≡ lone ags l ks ∷ []
  alone ags l ks = ap (λ (xs : List TypedNode). lone ags l ks ∷ (xs ++ [])) (no_kids 1 l ks (child_agreements (type_at table t) ks))

  no_pointers : (h : Home) (v : Tree) → home_pointers table h t v ≡ []
  no_pointers h (node l ks) =
      ap (flat_map (pointer table h)) (alone [] l ks)
      ∙ ap (λ (xs : List Pending). xs ++ []) (no_pointer_by (type_at table t) simple _ _ h 0 [])

  ungoverned : (h : Home) (ags : List (List Agreement)) (v : Tree) → first_agreements ags ≡ []
      → AllByRecursion Ungoverned (map (in_home h) (nodes_of table (t ∷ []) ags 0 (more v none)))
  ungoverned h ags (node l ks) e =
      subst (λ (xs : List TypedNode). AllByRecursion Ungoverned (map (in_home h) xs)) (sym (alone ags l ks)) (e, tt)

-- of a primitive
prim_simple : (table : Table) (r : Root) → IsPrimitiveRoot table r → is_simple (type_at table r.of) ≡ true
prim_simple table r h = ap is_simple h.type

no_root_pointers : (table : Table) (i : ℕ) (rs : List Root) (vs : List Tree) → AllByRecursion (IsPrimitiveRoot table) rs → root_pointers table i rs vs ≡ []
no_root_pointers table i [] vs h = refl
no_root_pointers table i (r ∷ rs) [] h = refl
no_root_pointers table i (r ∷ rs) (v ∷ vs) h =
    ap₂ (λ a b. a ++ b) (no_pointers table r.of (prim_simple table r h.0) (home.Root i) v) (no_root_pointers table (i + 1) rs vs h.1)

abbrev IsSimpleCell : Table → Referent → Type 0
IsSimpleCell table x = is_simple (type_at table x.of) ≡ true

no_cell_pointers : (table : Table) (c : ℕ) (xs : List Referent) → AllByRecursion (IsSimpleCell table) xs → cell_pointers table c xs ≡ []
no_cell_pointers table c [] h = refl
no_cell_pointers table c (x ∷ xs) h = ap₂ (λ a b. a ++ b) (no_pointers table x.of h.0 (cell_home c) x.val) (no_cell_pointers table (c + 1) xs h.1)

value_of_type : (d : Option TypeDef) (p : Primitive) → d ≡ Some (def.Prim p) → (l : Label) (ks : Trees) → has_shape d l ks ≡ true → has_machine_values l ≡ true
value_of_type d p e l ks h = by l (ap (λ x. has_shape x l ks) (sym e) ∙ h) where
  by : (m : Label) → has_shape (Some (def.Prim p)) m ks ≡ true → has_machine_values m ≡ true
  by (tree.Num z) h = refl
  by m h = cc

module _ (w : Setting) (g : Graph) (simple : AllByRecursion (IsSimpleCell w.table) g.cells) (plain : AllByRecursion (IsPrimitiveRoot w.table) (root_list w)) where
  pub no_pointers_at_all : all_pointers w g ≡ []
  no_pointers_at_all =
      ap₂ (λ a b. a ++ b) (no_root_pointers w.table 0 (root_list w) g.roots plain) (no_cell_pointers w.table 1 g.cells simple)

  pub no_reach : {c : ℕ} → Reached w g c → ⊥
  no_reach (by_root p m e) = subst (λ xs. Among xs p) (no_root_pointers w.table 0 (root_list w) g.roots plain) m
  no_reach (by_cell x p r q m e) = no_reach r

  -- the first cell is not reached
  pub first_unreached : 0 < length g.cells → IsFirstUnreached w g 1
  first_unreached some = record { is_cell = (omega arith, omega (arith, some)); unreached = λ r. no_reach r; earlier = λ d low high. absurd (omega (arith, low, high)) }

  roots_ungoverned : (i : ℕ) (rs : List Root) (vs : List Tree) → AllByRecursion (IsPrimitiveRoot w.table) rs → AllByRecursion Ungoverned (root_nodes w g i rs vs)
  roots_ungoverned i [] vs h = tt
  roots_ungoverned i (r ∷ rs) [] h = tt
  roots_ungoverned i (r ∷ rs) (v ∷ vs) h =
      all_both Ungoverned (map (in_home (home.Root i)) (governed_nodes w.table r.of (root_agreements w g r.vars) v)) (root_nodes w g (i + 1) rs vs)
      (ungoverned w.table r.of (prim_simple w.table r h.0) (home.Root i) (root_agreements w g r.vars ∷ []) v (ap (root_agreements w g) h.0.no_attributes))
      (roots_ungoverned (i + 1) rs vs h.1)

  cells_ungoverned : (c : ℕ) (xs : List Referent) → AllByRecursion (IsSimpleCell w.table) xs → AllByRecursion Ungoverned (cell_nodes w.table c xs)
  cells_ungoverned c [] h = tt
  cells_ungoverned c (x ∷ xs) h =
      all_both Ungoverned (map (in_home (cell_home c)) (home_nodes w.table x.of x.val)) (cell_nodes w.table (c + 1) xs)
      (ungoverned w.table x.of h.0 (cell_home c) [] x.val refl) (cells_ungoverned (c + 1) xs h.1)

  abbrev agreement_test : TypedNode → Option MisfitReason
  agreement_test x = disagreement_of (subject g x) x.agreements

  no_agreements : (ts : List Tree) → disagreement_of ts [] ≡ None
  no_agreements [] = refl
  no_agreements (t ∷ ts) = refl

  -- nothing disagrees
  pub none_disagree : first_disagreeing w g ≡ None
  none_disagree =
      first-none agreement_test (all_nodes w g)
      (all_weaker Ungoverned (Without agreement_test)
      (λ x e. ap (disagreement_of (subject g x.typed)) e ∙ no_agreements (subject g x.typed)) (all_nodes w g)
      (all_both Ungoverned (root_nodes w g 0 (root_list w) g.roots) (cell_nodes w.table 1 g.cells)
      (roots_ungoverned 0 (root_list w) g.roots plain) (cells_ungoverned 1 g.cells simple)))

  abbrev HasValue : HomeNode → Type 0
  HasValue x = has_machine_values x.typed.label ≡ true

  abbrev IsFine : HomeNode → Type 0
  IsFine x = misfit_of w.table g x.typed ≡ None

  root_values : (i : ℕ) (rs : List Root) (vs : List Tree) → AllByRecursion (IsPrimitiveRoot w.table) rs
      → AllByRecursion IsFine (root_nodes w g i rs vs) → AllByRecursion HasValue (root_nodes w g i rs vs)
  root_values i [] vs h a = tt
  root_values i (r ∷ rs) [] h a = tt
  root_values i (r ∷ rs) (node l ks ∷ vs) h a =
      let ags : List Agreement = root_agreements w g r.vars in
      let kids : List TypedNode = nodes_of w.table (child_types (type_at w.table r.of) l ks) (child_agreements (type_at w.table r.of) ks) 1 ks in
      let rest : List HomeNode = root_nodes w g (i + 1) rs vs in
      let alone : map (in_home (home.Root i)) (kids ++ []) ≡ [] =
      ap (λ xs. map (in_home (home.Root i)) (xs ++ [])) (no_kids w.table r.of (prim_simple w.table r h.0) 1 l ks (child_agreements (type_at w.table r.of) ks)) in
      let later : AllByRecursion IsFine rest = subst (λ xs. AllByRecursion IsFine (xs ++ rest)) alone a.1 in (
        value_of_type (type_at w.table r.of) h.0.prim h.0.type l ks (fit_node w.table g (record { node = 0; of = r.of; agreements = ags; label = l; kids = ks }) a.0).shape,
        subst (λ xs. AllByRecursion HasValue (xs ++ rest)) (sym alone) (root_values (i + 1) rs vs h.1 later),
      )

  -- the numbers of roots are values of the program
  pub plain_values : length g.cells ≡ 0 → first_local w g ≡ None
      → list_all (λ (x : HomeNode). has_machine_values x.typed.label) (all_nodes w g) ≡ true
  plain_values none_left e =
      list_all_from (λ (x : HomeNode). has_machine_values x.typed.label) (all_nodes w g)
      (all_both HasValue (root_nodes w g 0 (root_list w) g.roots) (cell_nodes w.table 1 g.cells)
      (root_values 0 (root_list w) g.roots plain
      (all_left IsFine (root_nodes w g 0 (root_list w) g.roots) (cell_nodes w.table 1 g.cells) (none-local w g e).1))
      (no_cell_nodes g.cells none_left))
    where
      no_cell_nodes : (xs : List Referent) → length xs ≡ 0 → AllByRecursion HasValue (cell_nodes w.table 1 xs)
      no_cell_nodes [] e = tt
      no_cell_nodes (x ∷ xs) e = absurd (omega (arith, e))

  no_cells : (xs : List Referent) → ((c : ℕ) → 0 < c → c ≤ length xs → Reached w g c) → length xs ≡ 0
  no_cells [] h = refl
  no_cells (x ∷ xs) h = absurd (no_reach (h 1 (omega arith) (omega arith)))

  -- what passes conforms
  pub plain_passed : first_local w g ≡ None → first_shared [] (all_pointers w g) ≡ None
      → ((c : ℕ) → 0 < c → c ≤ length g.cells → Reached w g c) → first_disagreeing w g ≡ None
      → length g.cells < 2 ^ 32 → HasFewNodes g → Conforms w g
  plain_passed a b r d few nodes = passed_conforms w g a b r d (plain_values (no_cells g.cells r) a) few nodes

  -- what has no first misfit conforms
  pub plain_exact : ((m : MisfitAt) → ¬ IsFirstMisfit w g m) → length g.cells < 2 ^ 32 → HasFewNodes g → Conforms w g
  plain_exact h few nodes = by_local (first_local w g) refl
    where
      by_cells : first_local w g ≡ None → (xs : List Referent) → g.cells ≡ xs → Conforms w g
      by_cells a [] e =
          plain_passed a (ap (first_shared []) no_pointers_at_all) (λ c low high. absurd (omega (arith, low, high, ap length e))) none_disagree few nodes
      by_cells a (x ∷ xs) e =
          absurd (h _ (is_unreached 1 a (ap (first_shared []) no_pointers_at_all) (first_unreached (omega (arith, ap length e)))))

      by_local : (o : Option MisfitAt) → first_local w g ≡ o → Conforms w g
      by_local (Some m) e = absurd (h m (is_local m e))
      by_local None e = by_cells e g.cells refl

-- ## Sides of legal interfaces whose roots are numbers

pub number_side : (i : Interface) (op : ℕ) (o : Operation) (s : Side) → has_number_roots i.types s o ≡ true → slice_get i.operations op ≡ Some o
    → AllByRecursion (IsPrimitiveRoot i.types) (root_list (setting_of i o s))
number_side i op o s e there = primitive_roots i.types i.operations op o i.legal there s e

pub simple_cells : (table : Table) (xs : List Referent) → list_all (λ (c : Referent). is_simple (type_at table c.of)) xs ≡ true → AllByRecursion (IsSimpleCell table) xs
simple_cells table [] e = tt
simple_cells table (x ∷ xs) e =
    let parts = and_parts (is_simple (type_at table x.of)) (list_all (λ (c : Referent). is_simple (type_at table c.of)) xs) e in
    (parts.0, simple_cells table xs parts.1)

-- the type of a root by its place
named_simple : (table : Table) (o : Operation) (rs : List Root) (k : ℕ) (x : NamedRoot) → AllByRecursion (IsPrimitiveRoot table) rs
    → slice_get (map (named_root o) rs) k ≡ Some x → is_simple (type_at table x.of) ≡ true
named_simple table o [] k x h e = cc
named_simple table o (r ∷ rs) zero x h e =
    let same : named_root o r ≡ x = same_Some _ _ e in
    ap (λ (y : NamedRoot). is_simple (type_at table y.of)) (sym same) ∙ prim_simple table r h.0
named_simple table o (r ∷ rs) (suc k) x h e = named_simple table o rs k x h.1 e

pub root_simple : (i : Interface) (op : ℕ) (o : Operation) (s : Side) (k : ℕ) (x : NamedRoot) → has_number_roots i.types s o ≡ true
    → slice_get i.operations op ≡ Some o → slice_get (named_roots i.types s o) k ≡ Some x → is_simple (type_at i.types x.of) ≡ true
root_simple i op o s k x e there at = named_simple i.types o (roots_of i.types s o) k x (number_side i op o s e there) at

-- the type of a cell by its place
pub cell_simple : (table : Table) (xs : List Referent) (k : ℕ) (x : Referent) → list_all (λ (c : Referent). is_simple (type_at table c.of)) xs ≡ true
    → slice_get xs k ≡ Some x → is_simple (type_at table x.of) ≡ true
cell_simple table xs k x e at = passes_at (λ (c : Referent). is_simple (type_at table c.of)) xs k x e at
