-- Two graphs in the order of deferral: the cells of both that stand, pair by pair.
use Rattle.std.proofs.Common.{◌≡◌, ℕ, List, [], ◌∷◌, ◌++◌, Option, Some, None, refl, ap, sym, ◌∙◌, inl, inr, ◌⊎◌, subst}
use Rattle.std.specs.Prelude.{map}
use Rattle.nd_types.specs.declared.types.Attr.{Attr}
use Rattle.nd_types.specs.declared.types.Class.{Class}
use Rattle.nd_types.specs.declared.types.Class.TheVariants.{Ref, Unique, Full}
use Rattle.nd_types.specs.Table.{Table}
use Rattle.nd_value.specs.declared.value.Graph.{Graph}
use Rattle.nd_value.specs.declared.item.Home.{Home}
use Rattle.nd_value.specs.Tree as tree
use Rattle.nd_value.specs.Tree.{Tree, Trees, node, none, more, count, node_count, Label, Referent, is_pointer, cell_in}
use Rattle.nd_value.specs.Agreement.{found_in}
use Rattle.std.specs.List.{AllByRecursion, slice_get}
use Rattle.nd_value.specs.Setting.{Setting, Among, cell_at, cell_of_number, root_at, root_list}
use Rattle.nd_value.specs.Deferral.{Pending, home_pointers, Due, due_root, due_referent, root_cell, root_type, Placed_cells, IsPlaced, IsPlacedFull, AreFree}
use Rattle.nd_value.specs.Deferral.{Standing}
use Rattle.nd_grammar.proofs.next.NextPending.{PointersMatch, AllPointers, nodes_match}
use Rattle.nd_types.specs.Roots.{Root}
use Rattle.nd_value.specs.Conforms.{all_pointers}
use Rattle.nd_value.proofs.Apart.{all_append, all_weaker}
use Rattle.nd_grammar.proofs.next.Next.{Pair, IsApart, OneToOne, HomesMeet, homes_grown, Readings}
use Rattle.nd_grammar.proofs.next.Matching.{bare, CellsMatch, Matched, Known, matched_count, found_same}
use Rattle.nd_grammar.proofs.next.Carried.{InMap, AllInMap, carried}

abbrev pub firsts : List Pair → Placed_cells
firsts [] = []
firsts (x ∷ xs) = (x.class, x.left) ∷ firsts xs

abbrev pub seconds : List Pair → Placed_cells
seconds [] = []
seconds (x ∷ xs) = (x.class, x.right) ∷ seconds xs

pub firsts_append : (xs ys : List Pair) → firsts (xs ++ ys) ≡ firsts xs ++ firsts ys
firsts_append [] ys = refl
firsts_append (x ∷ xs) ys = ap (λ u. (x.class, x.left) ∷ u) (firsts_append xs ys)

pub seconds_append : (xs ys : List Pair) → seconds (xs ++ ys) ≡ seconds xs ++ seconds ys
seconds_append [] ys = refl
seconds_append (x ∷ xs) ys = ap (λ u. (x.class, x.right) ∷ u) (seconds_append xs ys)

-- a pair of cells that do not stand is apart from those that do
pub free_apart : (z : Pair) (xs : List Pair) → ¬ IsPlaced (firsts xs) z.left → ¬ IsPlaced (seconds xs) z.right → AllByRecursion (IsApart z) xs
free_apart z [] a b = tt
free_apart z (x ∷ xs) a b = (((λ e. a (inl e)), (λ e. b (inl e))), free_apart z xs (λ h. a (inr h)) (λ h. b (inr h)))

pub one_to_one : (ps xs : List Pair) → OneToOne ps → AreFree (firsts ps) (firsts xs) → AreFree (seconds ps) (seconds xs) → OneToOne xs → OneToOne (ps ++ xs)
one_to_one [] xs o a b one = one
one_to_one (z ∷ ps) xs o a b one = (all_append (IsApart z) ps xs o.0 (free_apart z xs a.0 b.0), one_to_one ps xs o.1 a.1 b.1 one)

abbrev pub SameTop : Tree → Tree → Type 0
SameTop (node l ks) (node l' ks') = (bare l ≡ bare l') × (count ks ≡ count ks')

pub found_top : (t t' : Tree) → SameTop t t' → (a : Attr) → found_in a t ≡ found_in a t'
found_top (node l ks) (node l' ks') s a = found_same l l' s.0 a ks ks' s.1

pub top_of : (C : Class → Option ℕ → Option ℕ → Type 0) (table : Table) (t : ℕ) (v v' : Tree) → Matched C table (t ∷ []) (more v none) (more v' none) → SameTop v v'
top_of C table t (node l ks) (node l' ks') m = (m.0.same, matched_count C table _ ks ks' m.1)

module _ (two : Readings) (w : Setting) (g g' : Graph) where
  abbrev Numbers : Class → Option ℕ → Option ℕ → Type 0
  Numbers = CellsMatch two.left two.right

  -- the two cells are known and match, and where they were placed for full pointers they have one number
  pub record PairFits (x : Pair) : Type 0 where
    pub number : x.class ≡ Full → two.left x.left ≡ two.right x.right
    pub known : Known g w.table (x.of ∷ []) (more (cell_at g x.left) none)
    pub known' : Known g' w.table (x.of ∷ []) (more (cell_at g' x.right) none)
    pub matched : Matched (CellsMatch two.left two.right) w.table (x.of ∷ []) (more (cell_at g x.left) none) (more (cell_at g' x.right) none)
    pub left_cell : (c : Referent) × (cell_of_number g x.left ≡ Some c) × (c.of ≡ x.of)
    pub right_cell : (c : Referent) × (cell_of_number g' x.right ≡ Some c) × (c.of ≡ x.of)

  -- Two cells are named alike: by pointers of one class, at one node of homes that correspond; and full pointers have one number.
  pub record AreNamed (xs : List Pair) (c d : ℕ) : Type 0 where
    pub left : Pending
    pub right : Pending
    pub in_left : Among (all_pointers w g) left
    pub in_right : Among (all_pointers w g') right
    pub left_cell : left.cell ≡ Some c
    pub right_cell : right.cell ≡ Some d
    pub class : left.class ≡ right.class
    pub node : left.node ≡ right.node
    pub homes : HomesMeet xs left.home right.home
    pub number : left.class ≡ Full → two.left c ≡ two.right d

  pub named_grown : (new xs : List Pair) (c d : ℕ) → AreNamed xs c d → AreNamed (new ++ xs) c d
  named_grown new xs c d a = record {
    left = a.left;
    right = a.right;
    in_left = a.in_left;
    in_right = a.in_right;
    left_cell = a.left_cell;
    right_cell = a.right_cell;
    class = a.class;
    node = a.node;
    homes = homes_grown new xs a.left.home a.right.home a.homes;
    number = a.number;
  }

  abbrev pub IsNamedPair : List Pair → Pair → Type 0
  IsNamedPair xs z = AreNamed xs z.left z.right

  -- The pairs are a one-to-one map of cells, and the cells of each are named alike.
  pub record IsMap (xs : List Pair) : Type 0 where
    pub one : OneToOne xs
    pub named : AllByRecursion (λ z. AreNamed xs z.left z.right) xs

  pub no_pairs : IsMap []
  no_pairs = record { one = tt; named = tt }

  -- more pairs are put to a map
  pub map_grown : (new xs : List Pair) → OneToOne (new ++ xs) → AllByRecursion (λ z. AreNamed (new ++ xs) z.left z.right) new → IsMap xs → IsMap (new ++ xs)
  map_grown new xs one named m = record {
    one = one;
    named =
        all_append (IsNamedPair (new ++ xs)) new xs named
        (all_weaker (IsNamedPair xs) (IsNamedPair (new ++ xs)) (λ z a. named_grown new xs z.left z.right a) xs m.named);
  }

  -- what is due of both graphs: pointers of theirs, in homes that correspond
  pub record ArePointers (xs : List Pair) (p q : Pending) : Type 0 where
    pub in_left : Among (all_pointers w g) p
    pub in_right : Among (all_pointers w g') q
    pub homes : HomesMeet xs p.home q.home

  abbrev pub AreDue : List Pair → List Due → List Due → Type 0
  AreDue xs (due_root i ∷ ts) (due_root j ∷ ts') = ((r : Root) × (slice_get (root_list w) i ≡ Some r)) × AreDue xs ts ts'
  AreDue xs (due_referent p ∷ ts) (due_referent q ∷ ts') = ArePointers xs p q × AreDue xs ts ts'
  AreDue xs [] [] = Unit {0}
  AreDue xs _ _ = ⊥

  pub due_grown : (new xs : List Pair) (ts ts' : List Due) → AreDue xs ts ts' → AreDue (new ++ xs) ts ts'
  due_grown new xs [] [] a = tt
  due_grown new xs [] (t' ∷ ts') a = absurd a
  due_grown new xs (due_root i ∷ ts) [] a = absurd a
  due_grown new xs (due_referent p ∷ ts) [] a = absurd a
  due_grown new xs (due_root i ∷ ts) (due_referent q ∷ ts') a = absurd a
  due_grown new xs (due_referent p ∷ ts) (due_root j ∷ ts') a = absurd a
  due_grown new xs (due_root i ∷ ts) (due_root j ∷ ts') a = (a.0, due_grown new xs ts ts' a.1)
  due_grown new xs (due_referent p ∷ ts) (due_referent q ∷ ts') a =
      (record { in_left = a.0.in_left; in_right = a.0.in_right; homes = homes_grown new xs p.home q.home a.0.homes }, due_grown new xs ts ts' a.1)

  -- the pointers of two homes that correspond are due before what waited
  pub home_due : (xs : List Pair) (h h' : Home) → HomesMeet xs h h' → (ps qs : List Pending) (ts ts' : List Due) → AllPointers Numbers g g' ps qs
      → AllByRecursion (λ p. p.home ≡ h) ps → AllByRecursion (λ q. q.home ≡ h') qs
      → ((p : Pending) → Among ps p → Among (all_pointers w g) p) → ((q : Pending) → Among qs q → Among (all_pointers w g') q)
      → AreDue xs ts ts' → AreDue xs (map due_referent ps ++ ts) (map due_referent qs ++ ts')
  home_due xs h h' meet [] [] ts ts' a b b' c c' d = d
  home_due xs h h' meet [] (q ∷ qs) ts ts' a b b' c c' d = absurd a
  home_due xs h h' meet (p ∷ ps) [] ts ts' a b b' c c' d = absurd a
  home_due xs h h' meet (p ∷ ps) (q ∷ qs) ts ts' a b b' c c' d = (
    record {
      in_left = c p (inl refl);
      in_right = c' q (inl refl);
      homes = subst (λ u. HomesMeet xs u q.home) (sym b.0) (subst (λ u. HomesMeet xs h u) (sym b'.0) meet);
    },
    home_due xs h h' meet ps qs ts ts' a.1 b.1 b'.1 (λ u m. c u (inr m)) (λ u m. c' u (inr m)) d,
  )

  -- the two cells are carried by a map
  abbrev pub IsClosed : List Pair → Pair → Type 0
  IsClosed ys x = Matched (InMap ys) w.table (x.of ∷ []) (more (cell_at g x.left) none) (more (cell_at g' x.right) none)

  -- the i-th roots are carried by a map
  pub record RootCarried (ys : List Pair) (i : ℕ) : Type 0 where
    pub carried_by : Matched (InMap ys) w.table (root_type (slice_get (root_list w) i) ∷ []) (more (root_at g i) none) (more (root_at g' i) none)

  -- what was due is carried by a map
  abbrev pub AllCarried : List Pair → List Due → List Due → Type 0
  AllCarried ys [] [] = Unit {0}
  AllCarried ys (due_root i ∷ ts) (due_root j ∷ ts') = RootCarried ys i × AllCarried ys ts ts'
  AllCarried ys (due_referent p ∷ ts) (due_referent q ∷ ts') = InMap ys p.class p.cell q.cell × AllCarried ys ts ts'
  AllCarried ys _ _ = ⊥

  -- What is known once all that was due stands: the map has grown, it is a map of cells that are named alike, its cells match and are carried by it.
  pub record Stands (xs : List Pair) (due due' : List Due) (ys : List Pair) : Type 0 where
    pub new : List Pair
    pub all : ys ≡ new ++ xs
    pub one : IsMap ys
    pub fit : AllByRecursion PairFits ys
    pub closed : AllByRecursion (IsClosed ys) new
    pub carried_due : AllCarried ys due due'

  -- What two roots have in common: their type, what is known of them, and the pair of cells where they stand in cells.
  pub record RootsAlike (i : ℕ) (x y : Standing) : Type 0 where
    pub of : x.of ≡ y.of
    pub known : Known g w.table (x.of ∷ []) (more x.val none)
    pub known' : Known g' w.table (x.of ∷ []) (more y.val none)
    pub pairs : List Pair
    pub one : OneToOne pairs
    pub lefts : root_cell x.home ≡ firsts pairs
    pub rights : root_cell y.home ≡ seconds pairs
    pub meet : (xs : List Pair) → HomesMeet (pairs ++ xs) x.home y.home
    pub named : (xs : List Pair) → AllByRecursion (λ z. AreNamed xs z.left z.right) pairs
    pub fit : Matched (CellsMatch two.left two.right) w.table (x.of ∷ []) (more x.val none) (more y.val none) → AllByRecursion PairFits pairs
    pub closed : (ys : List Pair) → Matched (InMap ys) w.table (x.of ∷ []) (more x.val none) (more y.val none) → AllByRecursion (IsClosed ys) pairs
    pub whole : (ys : List Pair) → ((z : Pair) → Among pairs z → Among ys z)
        → Matched (InMap ys) w.table (x.of ∷ []) (more x.val none) (more y.val none) → RootCarried ys i

  abbrev pub IsUnreadTree : Tree → Type 0
  IsUnreadTree (node l ks) = l ≡ tree.Unread

  -- two roots stand alike, or one of them is not read
  abbrev pub RootsMeet : ℕ → Standing → Standing → Type 0
  RootsMeet i x y = IsUnreadTree x.val ⊎ (IsUnreadTree y.val ⊎ RootsAlike i x y)

  -- the partner of a cell that full pointers meet again
  pub partner : (xs : List Pair) → AllByRecursion PairFits xs → (c : ℕ) → IsPlacedFull (firsts xs) c
      → (z : Pair) × Among xs z × (z.left ≡ c) × (two.left c ≡ two.right z.right) × SameTop (cell_at g c) (cell_at g' z.right) × IsPlacedFull (seconds xs) z.right
  partner [] m c h = absurd h
  partner (x ∷ xs) m c (inl e) = (
    x,
    inl refl,
    sym e.1,
    ap two.left e.1 ∙ m.0.number e.0,
    subst (λ u. SameTop (cell_at g u) (cell_at g' x.right)) (sym e.1) (top_of Numbers w.table x.of (cell_at g x.left) (cell_at g' x.right) m.0.matched),
    inl (e.0, refl),
  )
  partner (x ∷ xs) m c (inr h) = let (z, a, l, e, s, i) = partner xs m.1 c h in (z, inr a, l, e, s, inr i)

  pub partner' : (xs : List Pair) → AllByRecursion PairFits xs → (d : ℕ) → IsPlacedFull (seconds xs) d
      → (c : ℕ) × (two.left c ≡ two.right d) × IsPlacedFull (firsts xs) c
  partner' [] m d h = absurd h
  partner' (x ∷ xs) m d (inl e) = (x.left, m.0.number e.0 ∙ ap two.right (sym e.1), inl (e.0, refl))
  partner' (x ∷ xs) m d (inr h) = let (c, e, i) = partner' xs m.1 d h in (c, e, inr i)

  pub no_right : (k : Class) (c : ℕ) → Numbers k None (Some c) → ⊥
  no_right Full c m = m
  no_right Ref c m = m
  no_right Unique c m = m

  pub no_left : (k : Class) (c : ℕ) → Numbers k (Some c) None → ⊥
  no_left Full c m = m
  no_left Ref c m = m
  no_left Unique c m = m

  pub full_match : (k : Class) (c d : ℕ) → k ≡ Full → Numbers k (Some c) (Some d) → two.left c ≡ two.right d
  full_match Full c d e m = m
  full_match Ref c d e m = cc
  full_match Unique c d e m = cc

  pub cells_of : (p q : Pending) (o o' : Option ℕ) → PointersMatch Numbers g g' p q → p.cell ≡ o → q.cell ≡ o' → Numbers p.class o o'
  cells_of p q o o' m e f = subst (λ x. Numbers p.class x o') e (subst (λ x. Numbers p.class p.cell x) f m.cells)

  pub in_map : (ys : List Pair) (p q : Pending) (o o' : Option ℕ) → p.cell ≡ o → q.cell ≡ o' → InMap ys p.class o o' → InMap ys p.class p.cell q.cell
  in_map ys p q o o' e f m = subst (λ x. InMap ys p.class x q.cell) (sym e) (subst (λ x. InMap ys p.class o x) (sym f) m)

  -- the pointers of a home are carried, and so is what was due after them
  pub carried_parts : (ys : List Pair) (ps qs : List Pending) (ts ts' : List Due) → AllPointers Numbers g g' ps qs
      → AllCarried ys (map due_referent ps ++ ts) (map due_referent qs ++ ts') → AllInMap ys ps qs × AllCarried ys ts ts'
  carried_parts ys [] [] ts ts' a b = (tt, b)
  carried_parts ys [] (q ∷ qs) ts ts' a b = absurd a
  carried_parts ys (p ∷ ps) [] ts ts' a b = absurd a
  carried_parts ys (p ∷ ps) (q ∷ qs) ts ts' a b = let (x, y) = carried_parts ys ps qs ts ts' a.1 b.1 in ((b.0, x), y)

  pub home_match : (h h' : Home) (t : ℕ) (v v' : Tree) → Known g w.table (t ∷ []) (more v none) → Known g' w.table (t ∷ []) (more v' none)
      → Matched Numbers w.table (t ∷ []) (more v none) (more v' none) → AllPointers Numbers g g' (home_pointers w.table h t v) (home_pointers w.table h' t v')
  home_match h h' t v v' a b m = nodes_match Numbers g g' w.table h h' (t ∷ []) [] 0 (more v none) (more v' none) a b m

  pub home_carried : (ys : List Pair) (h h' : Home) (t : ℕ) (v v' : Tree) → Known g w.table (t ∷ []) (more v none)
      → Matched Numbers w.table (t ∷ []) (more v none) (more v' none) → AllInMap ys (home_pointers w.table h t v) (home_pointers w.table h' t v')
      → Matched (InMap ys) w.table (t ∷ []) (more v none) (more v' none)
  home_carried ys h h' t v v' a m p = carried Numbers g g' w.table h h' ys (t ∷ []) (more v none) (more v' none) a m [] [] 0 0 p
