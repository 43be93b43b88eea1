-- A graph conforms under the one of two tied tables as it does under the other.
use Rattle.std.proofs.Common.{arith, ◌≡◌, ℕ, ◌+◌, ◌<◌, ◌≤◌, ◌^◌, zero, suc, Bool, true, false, not, ◌&&◌, eqb, List, [], ◌∷◌, ◌++◌, Option, Some, None, refl, ap, ap₂, sym, ◌∙◌, subst, map, length}
use Rattle.std.proofs.Common.{inl, inr, ◌⊎◌}
use Rattle.std.specs.Prelude.{flat_map, slice_get}
use Rattle.std.specs.List.{AllByRecursion, list_all}
use Rattle.std.proofs.lemmas.Bool.{eqb-true}
use Rattle.std.proofs.lemmas.Option.{same_Some}
use Rattle.nd_types.specs.declared.types.TypeDef.{TypeDef}
use Rattle.nd_types.specs.declared.types.TypeDef.TheVariants as def
use Rattle.nd_types.specs.declared.types.Operation.{Operation}
use Rattle.nd_types.specs.declared.types.Side.{Side}
use Rattle.nd_types.specs.declared.types.Class.TheVariants.{Full}
use Rattle.nd_types.specs.Table.{Table, type_at, is_value}
use Rattle.nd_types.specs.Roots.{Root, roots_of}
use Rattle.nd_value.specs.declared.value.Graph.{Graph}
use Rattle.nd_value.specs.declared.misfit.MisfitReason.{MisfitReason}
use Rattle.nd_value.specs.declared.item.Home.{Home}
use Rattle.nd_value.specs.declared.item.Home.TheVariants as home
use Rattle.nd_value.specs.Tree as tree
use Rattle.nd_value.specs.Tree.{Tree, Trees, node, none, more, Label, Referent, is_pointer, cell_in}
use Rattle.nd_value.specs.Agreement.{Agreement, root_agreements}
use Rattle.nd_value.specs.Setting.{Setting, root_list, cell_of_number, cell_at, cell_home, Among}
use Rattle.nd_value.specs.Nodes.{TypedNode, governed_nodes, home_nodes}
use Rattle.nd_value.specs.Deferral.{Pending, pointer, pointer_by, home_pointers}
use Rattle.nd_value.specs.Conforms.{HomeNode, in_home, root_nodes, cell_nodes, all_nodes, root_pointers, cell_pointers, all_pointers, Conforms, ShareOnlyIfFull, AllEarlier, Reached, by_root, by_cell}
use Rattle.nd_value.specs.Conforms.{subject_by, AgreesAt, IsAgreed, FewNodes, HasFewNodes}
use Rattle.nd_value.specs.declared.misfit.MisfitReason.TheVariants as misfit
use Rattle.nd_value.specs.Misfit.{misfit_of, has_machine_values, names_pointee, has_type, unless, has_shape, has_range, is_no_null_ref, names_cell, has_counts, is_within, has_no_zero, has_arm}
use Rattle.idl_compat.specs.Comparison.{OneByOne}
use Rattle.idl_compat.proofs.Tied.{IsTied, one_append}
use Rattle.idl_compat.proofs.Nodes.{AlikeNode, alike_node, AlikePending, alike_pending, governed_alike, home_alike, pointers_alike}
use Rattle.idl_compat.proofs.Roots.{AlikeRoot, alike_root}
use Rattle.idl_compat.proofs.Streams.{under, graph_of, agreements_same}
use Rattle.idl_compat.proofs.Fitting.{AlikeCell, alike_cell, as_many, cell_same, misfit_alike, BothFound, slices_alike}

-- ## Lists

all_alike : {X Y : Type 0} (Rel : X → Y → Type 0) (P : X → Type 0) (Q : Y → Type 0) → ((x : X) (y : Y) → Rel x y → P x → Q y) → (xs : List X) (ys : List Y)
    → OneByOne Rel xs ys → AllByRecursion P xs → AllByRecursion Q ys
all_alike Rel P Q f [] [] a b = tt
all_alike Rel P Q f [] (y ∷ ys) a b = absurd a
all_alike Rel P Q f (x ∷ xs) [] a b = absurd a
all_alike Rel P Q f (x ∷ xs) (y ∷ ys) a b = (f x y a.0 b.0, all_alike Rel P Q f xs ys a.1 b.1)

tests_alike : {X Y : Type 0} (Rel : X → Y → Type 0) (f : X → Bool) (g : Y → Bool) → ((x : X) (y : Y) → Rel x y → f x ≡ g y) → (xs : List X) (ys : List Y)
    → OneByOne Rel xs ys → list_all f xs ≡ list_all g ys
tests_alike Rel f g e [] [] a = refl
tests_alike Rel f g e [] (y ∷ ys) a = absurd a
tests_alike Rel f g e (x ∷ xs) [] a = absurd a
tests_alike Rel f g e (x ∷ xs) (y ∷ ys) a = ap₂ (λ b c. b && c) (e x y a.0) (tests_alike Rel f g e xs ys a.1)

mapped : {X Y U V : Type 0} (P : X → Y → Type 0) (Q : U → V → Type 0) (f : X → U) (g : Y → V) → ((x : X) (y : Y) → P x y → Q (f x) (g y)) → (xs : List X) (ys : List Y)
    → OneByOne P xs ys → OneByOne Q (map f xs) (map g ys)
mapped P Q f g k [] [] a = tt
mapped P Q f g k [] (y ∷ ys) a = absurd a
mapped P Q f g k (x ∷ xs) [] a = absurd a
mapped P Q f g k (x ∷ xs) (y ∷ ys) a = (k x y a.0, mapped P Q f g k xs ys a.1)

among_alike : {X Y : Type 0} (P : X → Y → Type 0) (xs : List X) (ys : List Y) → OneByOne P xs ys → (x : X) → Among xs x → (y : Y) × Among ys y × P x y
among_alike P [] ys a x m = absurd m
among_alike P (z ∷ xs) [] a x m = absurd a
among_alike P (z ∷ xs) (y ∷ ys) a x (inl e) = (y, inl refl, subst (λ v. P v y) (sym e) a.0)
among_alike P (z ∷ xs) (y ∷ ys) a x (inr m) = let (v, n, p) = among_alike P xs ys a.1 x m in (v, inr n, p)

all_among : {X : Type 0} (P : X → Type 0) (xs : List X) → AllByRecursion P xs → (x : X) → Among xs x → P x
all_among P [] a x m = absurd m
all_among P (y ∷ ys) a x (inl e) = subst P (sym e) a.0
all_among P (y ∷ ys) a x (inr m) = all_among P ys a.1 x m

all_left : {X : Type 0} (P : X → Type 0) (xs ys : List X) → AllByRecursion P (xs ++ ys) → AllByRecursion P xs
all_left P [] ys h = tt
all_left P (x ∷ xs) ys h = (h.0, all_left P xs ys h.1)

all_right : {X : Type 0} (P : X → Type 0) (xs ys : List X) → AllByRecursion P (xs ++ ys) → AllByRecursion P ys
all_right P [] ys h = h
all_right P (x ∷ xs) ys h = all_right P xs ys h.1

all_both : {X : Type 0} (P : X → Type 0) (xs ys : List X) → AllByRecursion P xs → AllByRecursion P ys → AllByRecursion P (xs ++ ys)
all_both P [] ys a b = b
all_both P (x ∷ xs) ys a b = (a.0, all_both P xs ys a.1 b)

all_flat : {X Y : Type 0} (P : X → Type 0) (Q : Y → Type 0) (f : X → List Y) → ((x : X) → P x → AllByRecursion Q (f x)) → (xs : List X)
    → AllByRecursion P xs → AllByRecursion Q (flat_map f xs)
all_flat P Q f k [] a = tt
all_flat P Q f k (x ∷ xs) a = all_both Q (f x) (flat_map f xs) (k x a.0) (all_flat P Q f k xs a.1)

all_mapped : {X Y : Type 0} (P : Y → Type 0) (f : X → Y) (xs : List X) → AllByRecursion P (map f xs) → AllByRecursion (λ x. P (f x)) xs
all_mapped P f [] a = tt
all_mapped P f (x ∷ xs) a = (a.0, all_mapped P f xs a.1)

-- ## Pointers, and the types of cells that are reached

pendings_share : (R : ℕ → ℕ → Type 0) (p q p' q' : Pending) → AlikePending R p p' → AlikePending R q q' → ShareOnlyIfFull p q → ShareOnlyIfFull p' q'
pendings_share R _ _ _ _ (alike_pending h n class t u cell ags r) (alike_pending h' n' class' t' u' cell' ags' r') m = m

earlier_alike : (R : ℕ → ℕ → Type 0) (ps qs : List Pending) → OneByOne (AlikePending R) ps qs → AllEarlier ShareOnlyIfFull ps → AllEarlier ShareOnlyIfFull qs
earlier_alike R [] [] a b = tt
earlier_alike R [] (y ∷ ys) a b = absurd a
earlier_alike R (x ∷ xs) [] a b = absurd a
earlier_alike R (x ∷ xs) (y ∷ ys) a b =
    (all_alike (AlikePending R) (ShareOnlyIfFull x) (ShareOnlyIfFull y) (λ p q k m. pendings_share R x p y q a.0 k m) xs ys a.1 b.0, earlier_alike R xs ys a.1 b.1)

cells_same : (R : ℕ → ℕ → Type 0) (p q : Pending) → AlikePending R p q → p.cell ≡ q.cell
cells_same R _ _ (alike_pending h n class t u cell ags r) = refl

to_related : (R : ℕ → ℕ → Type 0) (p q : Pending) → AlikePending R p q → R p.to q.to
to_related R _ _ (alike_pending h n class t u cell ags r) = r

module _ (R : ℕ → ℕ → Type 0) (old new : Table) (k : IsTied R old new) where
  pub root_pointers_alike : (i : ℕ) (rs rs' : List Root) → OneByOne (AlikeRoot R) rs rs' → (vs : List Tree)
      → OneByOne (AlikePending R) (root_pointers old i rs vs) (root_pointers new i rs' vs)
  root_pointers_alike i [] [] a vs = tt
  root_pointers_alike i [] (y ∷ ys) a vs = absurd a
  root_pointers_alike i (x ∷ xs) [] a vs = absurd a
  root_pointers_alike i (x ∷ xs) (y ∷ ys) a [] = tt
  root_pointers_alike i (x ∷ xs) (y ∷ ys) a (v ∷ vs) =
      one_append (AlikePending R) (home_pointers old (home.Root i) x.of v) (home_pointers new (home.Root i) y.of v) (root_pointers old (i + 1) xs vs) (root_pointers new (i + 1) ys vs)
      (by x y a.0) (root_pointers_alike (i + 1) xs ys a.1 vs)
    where
      by : (x y : Root) → AlikeRoot R x y → OneByOne (AlikePending R) (home_pointers old (home.Root i) x.of v) (home_pointers new (home.Root i) y.of v)
      by _ _ (alike_root t u p vars b r) = pointers_alike R old new k (home.Root i) t u r v

  pub cell_pointers_alike : (c : ℕ) (xs ys : List Referent) → OneByOne (AlikeCell R) xs ys → OneByOne (AlikePending R) (cell_pointers old c xs) (cell_pointers new c ys)
  cell_pointers_alike c [] [] a = tt
  cell_pointers_alike c [] (y ∷ ys) a = absurd a
  cell_pointers_alike c (x ∷ xs) [] a = absurd a
  cell_pointers_alike c (x ∷ xs) (y ∷ ys) a =
      one_append (AlikePending R) (home_pointers old (cell_home c) x.of x.val) (home_pointers new (cell_home c) y.of y.val) (cell_pointers old (c + 1) xs) (cell_pointers new (c + 1) ys)
      (by x y a.0) (cell_pointers_alike (c + 1) xs ys a.1)
    where
      by : (x y : Referent) → AlikeCell R x y → OneByOne (AlikePending R) (home_pointers old (cell_home c) x.of x.val) (home_pointers new (cell_home c) y.of y.val)
      by _ _ (alike_cell t u v r) = pointers_alike R old new k (cell_home c) t u r v

-- the cell that a pointer names is of its referent's type
abbrev IsPointee : Graph → Pending → Type 0
IsPointee g p = (c : ℕ) (x : Referent) → p.cell ≡ Some c → cell_of_number g c ≡ Some x → x.of ≡ p.to

fifth : (a b c d e : Bool) (r1 r2 r3 r4 r5 : MisfitReason) (m : Option MisfitReason) → unless a r1 (unless b r2 (unless c r3 (unless d r4 (unless e r5 m)))) ≡ None → e ≡ true
fifth true true true true true r1 r2 r3 r4 r5 m h = refl
fifth true true true true false r1 r2 r3 r4 r5 m h = cc
fifth true true true false e r1 r2 r3 r4 r5 m h = cc
fifth true true false d e r1 r2 r3 r4 r5 m h = cc
fifth true false c d e r1 r2 r3 r4 r5 m h = cc
fifth false b c d e r1 r2 r3 r4 r5 m h = cc

by_type : (x : Option Referent) (y : Referent) (t : ℕ) → has_type x t ≡ true → x ≡ Some y → y.of ≡ t
by_type None y t e f = cc
by_type (Some x) y t e f = eqb-true y.of t (subst (λ v. eqb v.of t ≡ true) (same_Some x y f) e)

pointer_right : (g : Graph) (d : Option TypeDef) (l : Label) (h : Home) (n : ℕ) (ags : List Agreement) → names_pointee g d l ≡ true
    → AllByRecursion (IsPointee g) (pointer_by d (is_pointer l) (cell_in l) h n ags)
pointer_right g (Some (def.Pointer class to)) (tree.Ptr (Some c)) h n ags e =
    ((λ b x eb ex. by_type (cell_of_number g c) x to.0 e (subst (λ u. cell_of_number g u ≡ Some x) (sym (same_Some c b eb)) ex)), tt)
pointer_right g (Some (def.Pointer class to)) (tree.Ptr None) h n ags e = ((λ b x eb ex. cc), tt)
pointer_right g (Some (def.Pointer class to)) (tree.Num z) h n ags e = tt
pointer_right g (Some (def.Pointer class to)) _ h n ags e = tt
pointer_right g None l h n ags e = tt
pointer_right g (Some (def.Prim p)) l h n ags e = tt
pointer_right g (Some _) l h n ags e = tt

module _ (table : Table) (g : Graph) where
  -- a node has no misfit
  abbrev HasNone : TypedNode → Type 0
  HasNone x = misfit_of table g x ≡ None

  names_right : (x : TypedNode) → HasNone x → names_pointee g (type_at table x.of) x.label ≡ true
  names_right x e =
      let d : Option TypeDef = type_at table x.of in
      fifth (has_shape d x.label x.kids) (has_range is_value table d x.label) (is_no_null_ref d x.label) (names_cell g x.label) (names_pointee g d x.label)
      misfit.Shape misfit.Range misfit.NullRef misfit.NoCell misfit.CellType
      (unless (has_counts d x.label x.kids && is_within x.label x.kids) misfit.Bound (unless (has_no_zero x.label) misfit.Zero (unless (has_arm d x.label) misfit.NoArm None))) e

  home_right : (h : Home) (xs : List TypedNode) → AllByRecursion HasNone xs → AllByRecursion (IsPointee g) (flat_map (pointer table h) xs)
  home_right h xs a = all_flat HasNone (IsPointee g) (pointer table h) (λ x e. pointer_right g (type_at table x.of) x.label h x.node x.agreements (names_right x e)) xs a

  ungoverned : (t : ℕ) (ags : List Agreement) (v : Tree) → AllByRecursion HasNone (governed_nodes table t ags v) → AllByRecursion HasNone (home_nodes table t v)
  ungoverned t ags (node l ks) a = a

  cell_right : (c : ℕ) (xs : List Referent) (i : ℕ) (x : Referent) → AllByRecursion (λ y. HasNone y.typed) (cell_nodes table c xs) → slice_get xs i ≡ Some x
      → AllByRecursion HasNone (home_nodes table x.of x.val)
  cell_right c [] i x a at = cc
  cell_right c (y ∷ ys) zero x a at =
      subst (λ z. AllByRecursion HasNone (home_nodes table z.of z.val)) (same_Some y x at)
      (all_mapped (λ z. HasNone z.typed) (in_home (cell_home c)) (home_nodes table y.of y.val)
      (all_left (λ z. HasNone z.typed) (map (in_home (cell_home c)) (home_nodes table y.of y.val)) (cell_nodes table (c + 1) ys) a))
  cell_right c (y ∷ ys) (suc i) x a at =
      cell_right (c + 1) ys i x (all_right (λ z. HasNone z.typed) (map (in_home (cell_home c)) (home_nodes table y.of y.val)) (cell_nodes table (c + 1) ys) a) at

roots_right : (w : Setting) (g : Graph) (i : ℕ) (rs : List Root) (vs : List Tree) → AllByRecursion (λ y. HasNone w.table g y.typed) (root_nodes w g i rs vs)
    → AllByRecursion (IsPointee g) (root_pointers w.table i rs vs)
roots_right w g i [] vs a = tt
roots_right w g i (r ∷ rs) [] a = tt
roots_right w g i (r ∷ rs) (v ∷ vs) a =
    let P : HomeNode → Type 0 = λ y. HasNone w.table g y.typed in
    let own : List HomeNode = map (in_home (home.Root i)) (governed_nodes w.table r.of (root_agreements w g r.vars) v) in
    all_both (IsPointee g) (home_pointers w.table (home.Root i) r.of v) (root_pointers w.table (i + 1) rs vs)
    (home_right w.table g (home.Root i) (home_nodes w.table r.of v) (ungoverned w.table g r.of (root_agreements w g r.vars) v
    (all_mapped P (in_home (home.Root i)) (governed_nodes w.table r.of (root_agreements w g r.vars) v) (all_left P own (root_nodes w g (i + 1) rs vs) a))))
    (roots_right w g (i + 1) rs vs (all_right P own (root_nodes w g (i + 1) rs vs) a))

below : {X : Type 0} (xs : List X) (i : ℕ) (x : X) → slice_get xs i ≡ Some x → i < length xs
below [] i x e = cc
below (y ∷ ys) zero x e = omega arith
below (y ∷ ys) (suc i) x e = let b = below ys i x e in omega (arith, b)

module _ (R : ℕ → ℕ → Type 0) (old new : Table) (k : IsTied R old new) (o q : Operation) (s : Side)
    (rooted : OneByOne (AlikeRoot R) (roots_of old s o) (roots_of new s q)) (g : Graph) where
  abbrev w : Setting
  w = under old o s

  -- a cell that is reached is of a type that has a partner
  reached_typed : AllByRecursion (λ x. HasNone old g x.typed) (all_nodes w g) → {c : ℕ} → Reached w g c → (x : Referent) → cell_of_number g c ≡ Some x → (u : ℕ) × R x.of u
  reached_typed loc {c} (by_root p a e) x at =
      let (p', m, r) = among_alike (AlikePending R) (root_pointers old 0 (roots_of old s o) g.roots) (root_pointers new 0 (roots_of new s q) g.roots)
      (root_pointers_alike R old new k 0 (roots_of old s o) (roots_of new s q) rooted g.roots) p a in
      let right = roots_right w g 0 (roots_of old s o) g.roots (all_left (λ y. HasNone old g y.typed) (root_nodes w g 0 (roots_of old s o) g.roots) (cell_nodes old 1 g.cells) loc) in
      let is : x.of ≡ p.to = all_among (IsPointee g) (root_pointers old 0 (roots_of old s o) g.roots) right p a c x e at in
      (p'.to, subst (λ t. R t p'.to) (sym is) (to_related R p p' r))
  reached_typed loc {c} (by_cell {b = zero} y p rb yat a e) x at = cc
  reached_typed loc {c} (by_cell {b = suc i} y p rb yat a e) x at =
      let (u, r) = reached_typed loc rb y yat in
      let h : Home = cell_home (suc i) in
      let (p', m, r') = among_alike (AlikePending R) (home_pointers old h y.of y.val) (home_pointers new h u y.val) (pointers_alike R old new k h y.of u r y.val) p a in
      let nodes = cell_right old g 1 g.cells i y (all_right (λ z. HasNone old g z.typed) (root_nodes w g 0 (roots_of old s o) g.roots) (cell_nodes old 1 g.cells) loc) yat in
      let is : x.of ≡ p.to = all_among (IsPointee g) (home_pointers old h y.of y.val) (home_right old g h (home_nodes old y.of y.val) nodes) p a c x e at in
      (p'.to, subst (λ t. R t p'.to) (sym is) (to_related R p p' r'))

  -- of a graph that conforms each cell is of a type that has a partner
  pub cells_typed : Conforms w g → (i : ℕ) (x : Referent) → slice_get g.cells i ≡ Some x → (u : ℕ) × R x.of u
  cells_typed c i x at =
      let l : i < length g.cells = below g.cells i x at in
      reached_typed c.local (c.reached (suc i) (omega arith) (omega (arith, l))) x at

-- ## The whole graph

module _ (R : ℕ → ℕ → Type 0) (old new : Table) (k : IsTied R old new) (o q : Operation) (s : Side)
    (rooted : OneByOne (AlikeRoot R) (roots_of old s o) (roots_of new s q))
    (roots : List Tree) (cells cells' : List Referent) (cs : OneByOne (AlikeCell R) cells cells') where
  abbrev w1 : Setting
  w1 = under old o s

  abbrev w2 : Setting
  w2 = under new q s

  abbrev g1 : Graph
  g1 = graph_of roots cells

  abbrev g2 : Graph
  g2 = graph_of roots cells'

  same_cells : (c : ℕ) → cell_at g1 c ≡ cell_at g2 c
  same_cells c = cell_same R old new k roots cells cells' cs c

  abbrev InBoth : HomeNode → HomeNode → Type 0
  InBoth x y = AlikeNode R x.typed y.typed

  root_nodes_alike : (i : ℕ) (rs rs' : List Root) → OneByOne (AlikeRoot R) rs rs' → (vs : List Tree) → OneByOne InBoth (root_nodes w1 g1 i rs vs) (root_nodes w2 g2 i rs' vs)
  root_nodes_alike i [] [] a vs = tt
  root_nodes_alike i [] (y ∷ ys) a vs = absurd a
  root_nodes_alike i (x ∷ xs) [] a vs = absurd a
  root_nodes_alike i (x ∷ xs) (y ∷ ys) a [] = tt
  root_nodes_alike i (x ∷ xs) (y ∷ ys) a (v ∷ vs) =
      one_append InBoth (map (in_home (home.Root i)) (governed_nodes old x.of (root_agreements w1 g1 x.vars) v))
      (map (in_home (home.Root i)) (governed_nodes new y.of (root_agreements w2 g2 y.vars) v))
      (root_nodes w1 g1 (i + 1) xs vs) (root_nodes w2 g2 (i + 1) ys vs)
      (mapped (AlikeNode R) InBoth (in_home (home.Root i)) (in_home (home.Root i)) (λ m n r. r) (governed_nodes old x.of (root_agreements w1 g1 x.vars) v)
      (governed_nodes new y.of (root_agreements w2 g2 y.vars) v) (by x y a.0))
      (root_nodes_alike (i + 1) xs ys a.1 vs)
    where
      by : (x y : Root) → AlikeRoot R x y → OneByOne (AlikeNode R) (governed_nodes old x.of (root_agreements w1 g1 x.vars) v) (governed_nodes new y.of (root_agreements w2 g2 y.vars) v)
      by _ _ (alike_root t u p vars b r) =
          subst (λ ags. OneByOne (AlikeNode R) (governed_nodes old t (root_agreements w1 g1 vars) v) (governed_nodes new u ags v))
          (agreements_same R old new k o q s rooted roots cells cells' same_cells vars) (governed_alike R old new k t u r (root_agreements w1 g1 vars) v)

  cell_nodes_alike : (c : ℕ) (xs ys : List Referent) → OneByOne (AlikeCell R) xs ys → OneByOne InBoth (cell_nodes old c xs) (cell_nodes new c ys)
  cell_nodes_alike c [] [] a = tt
  cell_nodes_alike c [] (y ∷ ys) a = absurd a
  cell_nodes_alike c (x ∷ xs) [] a = absurd a
  cell_nodes_alike c (x ∷ xs) (y ∷ ys) a =
      one_append InBoth (map (in_home (cell_home c)) (home_nodes old x.of x.val)) (map (in_home (cell_home c)) (home_nodes new y.of y.val)) (cell_nodes old (c + 1) xs) (cell_nodes new (c + 1) ys)
      (mapped (AlikeNode R) InBoth (in_home (cell_home c)) (in_home (cell_home c)) (λ m n r. r) (home_nodes old x.of x.val) (home_nodes new y.of y.val) (by x y a.0))
      (cell_nodes_alike (c + 1) xs ys a.1)
    where
      by : (x y : Referent) → AlikeCell R x y → OneByOne (AlikeNode R) (home_nodes old x.of x.val) (home_nodes new y.of y.val)
      by _ _ (alike_cell t u v r) = home_alike R old new k t u r v

  nodes_alike : OneByOne InBoth (all_nodes w1 g1) (all_nodes w2 g2)
  nodes_alike =
      one_append InBoth (root_nodes w1 g1 0 (roots_of old s o) roots) (root_nodes w2 g2 0 (roots_of new s q) roots) (cell_nodes old 1 cells) (cell_nodes new 1 cells')
      (root_nodes_alike 0 (roots_of old s o) (roots_of new s q) rooted roots) (cell_nodes_alike 1 cells cells' cs)

  all_pointers_alike : OneByOne (AlikePending R) (all_pointers w1 g1) (all_pointers w2 g2)
  all_pointers_alike =
      one_append (AlikePending R) (root_pointers old 0 (roots_of old s o) roots) (root_pointers new 0 (roots_of new s q) roots) (cell_pointers old 1 cells) (cell_pointers new 1 cells')
      (root_pointers_alike R old new k 0 (roots_of old s o) (roots_of new s q) rooted roots) (cell_pointers_alike R old new k 1 cells cells' cs)

  reached_alike : {c : ℕ} → Reached w1 g1 c → Reached w2 g2 c
  reached_alike {c} (by_root p a e) =
      let (p', m, r) = among_alike (AlikePending R) (root_pointers old 0 (roots_of old s o) roots) (root_pointers new 0 (roots_of new s q) roots)
      (root_pointers_alike R old new k 0 (roots_of old s o) (roots_of new s q) rooted roots) p a in
      by_root p' m (sym (cells_same R p p' r) ∙ e)
  reached_alike {c} (by_cell {b = zero} x p rb at a e) = cc
  reached_alike {c} (by_cell {b = suc i} x p rb at a e) =
      by (reached_alike rb) x at a (slice_get cells' i) refl (subst (λ z. BothFound (AlikeCell R) z (slice_get cells' i)) at (slices_alike (AlikeCell R) cells cells' cs i))
    where
      found : (x y : Referent) → AlikeCell R x y → Among (home_pointers old (cell_home (suc i)) x.of x.val) p
          → (p' : Pending) × Among (home_pointers new (cell_home (suc i)) y.of y.val) p' × AlikePending R p p'
      found _ _ (alike_cell t u v r) a =
          among_alike (AlikePending R) (home_pointers old (cell_home (suc i)) t v) (home_pointers new (cell_home (suc i)) u v) (pointers_alike R old new k (cell_home (suc i)) t u r v) p a

      by : Reached w2 g2 (suc i) → (x : Referent) → slice_get cells i ≡ Some x → Among (home_pointers old (cell_home (suc i)) x.of x.val) p → (z : Option Referent) → slice_get cells' i ≡ z
          → BothFound (AlikeCell R) (Some x) z → Reached w2 g2 c
      by ih x at a None at' r = absurd r
      by ih x at a (Some y) at' r =
          let (p', m, r') = found x y r a in
          by_cell y p' ih at' m (sym (cells_same R p p' r') ∙ e)

  subject_same : (x y : TypedNode) → AlikeNode R x y → subject_by g1 x x.label ≡ subject_by g2 y y.label
  subject_same _ _ (alike_node n t u ags (tree.Ptr None) ks r) = refl
  subject_same _ _ (alike_node n t u ags (tree.Ptr (Some c)) ks r) = ap (λ v. v ∷ []) (same_cells c)
  subject_same _ _ (alike_node n t u ags (tree.Num z) ks r) = refl
  subject_same _ _ (alike_node n t u ags tree.Rec ks r) = refl
  subject_same _ _ (alike_node n t u ags (tree.Arr mx off) ks r) = refl
  subject_same _ _ (alike_node n t u ags (tree.Text mx os) ks r) = refl
  subject_same _ _ (alike_node n t u ags (tree.Union v) ks r) = refl
  subject_same _ _ (alike_node n t u ags (tree.Context x i) ks r) = refl
  subject_same _ _ (alike_node n t u ags tree.Pipe ks r) = refl
  subject_same _ _ (alike_node n t u ags tree.Unread ks r) = refl

  same_agreements : (x y : TypedNode) → AlikeNode R x y → x.agreements ≡ y.agreements
  same_agreements _ _ (alike_node n t u ags l ks r) = refl

  agrees_alike : (x y : TypedNode) → AlikeNode R x y → AgreesAt g1 x → AgreesAt g2 y
  agrees_alike x y r a =
      subst (λ ts. AllByRecursion (λ t. AllByRecursion (IsAgreed t) y.agreements) ts) (subject_same x y r)
      (subst (λ ags. AllByRecursion (λ t. AllByRecursion (IsAgreed t) ags) (subject_by g1 x x.label)) (same_agreements x y r) a)

  fits_alike : (x y : TypedNode) → AlikeNode R x y → misfit_of old g1 x ≡ None → misfit_of new g2 y ≡ None
  fits_alike _ _ (alike_node n t u ags l ks r) e = sym (misfit_alike R old new k roots cells cells' cs (k.alike t u r) l ks) ∙ e

  machine_alike : (x y : TypedNode) → AlikeNode R x y → has_machine_values x.label ≡ has_machine_values y.label
  machine_alike _ _ (alike_node n t u ags l ks r) = refl

  values_same : (xs ys : List Referent) → OneByOne (AlikeCell R) xs ys → map (λ c. c.val) xs ≡ map (λ c. c.val) ys
  values_same [] [] a = refl
  values_same [] (y ∷ ys) a = absurd a
  values_same (x ∷ xs) [] a = absurd a
  values_same (x ∷ xs) (y ∷ ys) a = ap₂ (λ u v. u ∷ v) (by x y a.0) (values_same xs ys a.1)
    where
      by : (x y : Referent) → AlikeCell R x y → x.val ≡ y.val
      by _ _ (alike_cell t u v r) = refl

  pub conforms_alike : Conforms w1 g1 → Conforms w2 g2
  conforms_alike c =
      record {
        all_roots = c.all_roots ∙ as_many (AlikeRoot R) (roots_of old s o) (roots_of new s q) rooted;
        machine_values =
            sym (tests_alike InBoth (λ x. has_machine_values x.typed.label) (λ x. has_machine_values x.typed.label) (λ x y r. machine_alike x.typed y.typed r) (all_nodes w1 g1)
            (all_nodes w2 g2) nodes_alike) ∙ c.machine_values;
        local = all_alike InBoth (λ x. misfit_of old g1 x.typed ≡ None) (λ x. misfit_of new g2 x.typed ≡ None) (λ x y r e. fits_alike x.typed y.typed r e) (all_nodes w1 g1)
            (all_nodes w2 g2) nodes_alike c.local;
        unshared = earlier_alike R (all_pointers w1 g1) (all_pointers w2 g2) all_pointers_alike c.unshared;
        reached = λ b some few. reached_alike (c.reached b some (subst (λ n. b < n + 1) (sym (as_many (AlikeCell R) cells cells' cs)) few));
        agreed = all_alike InBoth (λ x. AgreesAt g1 x.typed) (λ x. AgreesAt g2 x.typed) (λ x y r e. agrees_alike x.typed y.typed r e) (all_nodes w1 g1) (all_nodes w2 g2) nodes_alike c.agreed;
        few_cells = subst (λ n. n < 2 ^ 32) (as_many (AlikeCell R) cells cells' cs) c.few_cells;
        few_nodes = subst (λ vs. FewNodes (roots ++ vs)) (values_same cells cells' cs) c.few_nodes;
      }
