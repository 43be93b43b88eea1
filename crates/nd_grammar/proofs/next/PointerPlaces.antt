-- Where the pointers of a graph stand: one at each node of a home.
use Rattle.std.proofs.Common.{◌≡◌, ℕ, ◌+◌, ◌<◌, ◌≤◌, zero, suc, Bool, true, false, List, [], ◌∷◌, ◌++◌, length, Option, Some, None, refl, ap, sym, ◌∙◌, inl, inr, ◌⊎◌, arith, subst, get_or}
use Rattle.std.specs.Prelude.{flat_map}
use Rattle.std.specs.List.{AllByRecursion, slice_get}
use Rattle.std.proofs.lemmas.Grind.{flat_map-append}
use Rattle.std.proofs.lemmas.Option.{same_Some, slice_get-get_or, slice_get_within}
use Rattle.nd_types.specs.declared.types.TypeDef.{TypeDef}
use Rattle.nd_types.specs.declared.types.TypeDef.TheVariants as def
use Rattle.nd_types.specs.declared.types.Class.TheVariants.{Ref}
use Rattle.nd_types.specs.Table.{Table, type_at}
use Rattle.nd_types.specs.Roots.{Root}
use Rattle.nd_value.specs.declared.value.Graph.{Graph}
use Rattle.nd_value.specs.declared.item.Home.{Home}
use Rattle.nd_value.specs.declared.item.Home.TheVariants as home
use Rattle.nd_value.specs.Tree as tree
use Rattle.nd_value.specs.Tree.{Tree, Trees, node, none, more, Label, Referent, node_count, is_pointer, cell_in}
use Rattle.nd_value.specs.Agreement.{Agreement}
use Rattle.nd_value.specs.Setting.{Setting, Among, root_list, root_at, or_unread, unread, cell_at, cell_tree, cell_of_number, cell_home}
use Rattle.nd_value.specs.Nodes.{TypedNode, nodes_of, child_types, child_agreements, first_agreements, rest_agreements}
use Rattle.nd_value.specs.Deferral.{Pending, pointer, pointer_by, home_pointers, direct, Standing, standing_by, standing_root, root_type}
use Rattle.nd_value.specs.Conforms.{root_nodes, all_nodes, root_pointers, cell_pointers, all_pointers, AllEarlier}
use Rattle.nd_value.specs.Misfit.{is_no_null_ref, names_cell, names_pointee}
use Rattle.nd_value.proofs.Apart.{all_append, all_left, all_right, all_weaker, all_among, among_left, among_right}
use Rattle.nd_value.proofs.Orderly.{PointerFits, pointee_of_cell}
use Rattle.nd_value.proofs.DeferralExists.{direct_is}
use Rattle.nd_value.proofs.NodeFacts.{IsSound, orderly}

module _ {X : Type 0} (R : X → X → Type 0) where
  pub earlier_append : (xs ys : List X) → AllEarlier R xs → AllEarlier R ys → AllByRecursion (λ x. AllByRecursion (R x) ys) xs → AllEarlier R (xs ++ ys)
  earlier_append [] ys a b c = b
  earlier_append (x ∷ xs) ys a b c = (all_append (R x) xs ys a.0 c.0, earlier_append xs ys a.1 b c.1)

  -- two members are one, or they are related
  pub among_two : ((x y : X) → R x y → R y x) → (xs : List X) → AllEarlier R xs → (x y : X) → Among xs x → Among xs y → (x ≡ y) ⊎ R x y
  among_two turned [] a x y m n = absurd m
  among_two turned (z ∷ zs) a x y (inl e) (inl f) = inl (e ∙ sym f)
  among_two turned (z ∷ zs) a x y (inl e) (inr n) = inr (subst (λ u. R u y) (sym e) (all_among (R z) zs y n a.0))
  among_two turned (z ∷ zs) a x y (inr m) (inl f) = inr (turned y x (subst (λ u. R u x) (sym f) (all_among (R z) zs x m a.0)))
  among_two turned (z ∷ zs) a x y (inr m) (inr n) = among_two turned zs a.1 x y m n

-- two pointers stand at different nodes
abbrev pub IsElsewhere : Pending → Pending → Type 0
IsElsewhere p q = p.home ≡ q.home → p.node ≡ q.node → ⊥

-- a pointer is at one of the nodes from one number up to another
abbrev pub IsWithin : ℕ → ℕ → Pending → Type 0
IsWithin low high p = (low ≤ p.node) × (p.node < high)

-- all of some pointers stand apart from all of others
abbrev AreElsewhere : List Pending → List Pending → Type 0
AreElsewhere ps qs = AllByRecursion (λ p. AllByRecursion (IsElsewhere p) qs) ps

module _ (P Q : Pending → Type 0) (disjoint : (p q : Pending) → P p → Q q → IsElsewhere p q) where
  elsewhere : (ps qs : List Pending) → AllByRecursion P ps → AllByRecursion Q qs → AreElsewhere ps qs
  elsewhere [] qs a b = tt
  elsewhere (p ∷ ps) qs a b = (all_weaker Q (IsElsewhere p) (λ q r. disjoint p q a.0 r) qs b, elsewhere ps qs a.1 b)

its_home : (d : Option TypeDef) (b : Bool) (c : Option ℕ) (h : Home) (n : ℕ) (ags : List Agreement) → AllByRecursion (λ p. p.home ≡ h) (pointer_by d b c h n ags)
its_home (Some (def.Pointer k to)) true c h n ags = (refl, tt)
its_home (Some (def.Pointer k to)) false c h n ags = tt
its_home _ b c h n ags = tt

its_node : (d : Option TypeDef) (b : Bool) (c : Option ℕ) (h : Home) (n : ℕ) (ags : List Agreement) → AllByRecursion (λ p. p.node ≡ n) (pointer_by d b c h n ags)
its_node (Some (def.Pointer k to)) true c h n ags = (refl, tt)
its_node (Some (def.Pointer k to)) false c h n ags = tt
its_node _ b c h n ags = tt

alone : (d : Option TypeDef) (b : Bool) (c : Option ℕ) (h : Home) (n : ℕ) (ags : List Agreement) → AllEarlier IsElsewhere (pointer_by d b c h n ags)
alone (Some (def.Pointer k to)) true c h n ags = (tt, tt)
alone (Some (def.Pointer k to)) false c h n ags = tt
alone _ b c h n ags = tt

module _ (table : Table) (h : Home) where
  abbrev f : TypedNode → List Pending
  f = pointer table h

  -- the pointers of a home stand in it
  homes_of : (xs : List TypedNode) → AllByRecursion (λ p. p.home ≡ h) (flat_map (pointer table h) xs)
  homes_of [] = tt
  homes_of (x ∷ xs) =
      all_append (λ p. p.home ≡ h) (pointer table h x) (flat_map (pointer table h) xs)
      (its_home (type_at table x.of) (is_pointer x.label) (cell_in x.label) h x.node x.agreements) (homes_of xs)

  pub in_home : (t : ℕ) (v : Tree) → AllByRecursion (λ p. p.home ≡ h) (home_pointers table h t v)
  in_home t v = homes_of (nodes_of table (t ∷ []) [] 0 (more v none))

  wider : (a b a' b' : ℕ) (ps : List Pending) → a' ≤ a → b ≤ b' → AllByRecursion (IsWithin a b) ps → AllByRecursion (IsWithin a' b') ps
  wider a b a' b' ps l r all = all_weaker (IsWithin a b) (IsWithin a' b') (λ p w. (let (x, y) = w in (omega arith, omega arith))) ps all

  nodes_within : (types : List ℕ) (ags : List (List Agreement)) (n : ℕ) (ts : Trees)
      → AllByRecursion (IsWithin n (n + node_count ts)) (flat_map (pointer table h) (nodes_of table types ags n ts))
  nodes_within types ags n none = tt
  nodes_within [] ags n (more t ts) = tt
  nodes_within (t ∷ types) ags n (more (node l ks) ts) =
      let d : Option TypeDef = type_at table t in
      let kids : List TypedNode = nodes_of table (child_types d l ks) (child_agreements d ks) (n + 1) ks in
      let rest : List TypedNode = nodes_of table types (rest_agreements ags) (n + 1 + node_count ks) ts in
      let own : List Pending = pointer_by d (is_pointer l) (cell_in l) h n (first_agreements ags) in
      let all : ℕ = n + suc (node_count ks + node_count ts) in
      all_append (IsWithin n all) own (flat_map f (kids ++ rest))
      (all_weaker (λ p. p.node ≡ n) (IsWithin n all) (λ p e. (omega arith, omega arith)) own (its_node d (is_pointer l) (cell_in l) h n (first_agreements ags)))
      (subst (AllByRecursion (IsWithin n all)) (sym (flat_map-append f kids rest))
      (all_append (IsWithin n all) (flat_map f kids) (flat_map f rest)
      (wider (n + 1) (n + 1 + node_count ks) n all (flat_map f kids) (omega arith) (omega arith) (nodes_within (child_types d l ks) (child_agreements d ks) (n + 1) ks))
      (wider (n + 1 + node_count ks) (n + 1 + node_count ks + node_count ts) n all (flat_map f rest) (omega arith) (omega arith)
      (nodes_within types (rest_agreements ags) (n + 1 + node_count ks) ts))))

  lower : (a b c d : ℕ) (ps qs : List Pending) → b ≤ c → AllByRecursion (IsWithin a b) ps → AllByRecursion (IsWithin c d) qs → AreElsewhere ps qs
  lower a b c d ps qs l x y = elsewhere (IsWithin a b) (IsWithin c d) (λ p q u v e n. absurd (omega (arith, u.1, v.0))) ps qs x y

  nodes_apart : (types : List ℕ) (ags : List (List Agreement)) (n : ℕ) (ts : Trees) → AllEarlier IsElsewhere (flat_map (pointer table h) (nodes_of table types ags n ts))
  nodes_apart types ags n none = tt
  nodes_apart [] ags n (more t ts) = tt
  nodes_apart (t ∷ types) ags n (more (node l ks) ts) =
      let d : Option TypeDef = type_at table t in
      let kids : List TypedNode = nodes_of table (child_types d l ks) (child_agreements d ks) (n + 1) ks in
      let rest : List TypedNode = nodes_of table types (rest_agreements ags) (n + 1 + node_count ks) ts in
      let own : List Pending = pointer_by d (is_pointer l) (cell_in l) h n (first_agreements ags) in
      let in_own : AllByRecursion (IsWithin n (n + 1)) own =
      all_weaker (λ p. p.node ≡ n) (IsWithin n (n + 1)) (λ p e. (omega arith, omega arith)) own (its_node d (is_pointer l) (cell_in l) h n (first_agreements ags)) in
      let in_kids : AllByRecursion (IsWithin (n + 1) (n + 1 + node_count ks)) (flat_map f kids) = nodes_within (child_types d l ks) (child_agreements d ks) (n + 1) ks in
      let in_rest : AllByRecursion (IsWithin (n + 1 + node_count ks) (n + 1 + node_count ks + node_count ts)) (flat_map f rest) =
      nodes_within types (rest_agreements ags) (n + 1 + node_count ks) ts in
      let all : ℕ = n + 1 + node_count ks + node_count ts in
      let behind : AllByRecursion (IsWithin (n + 1) all) (flat_map f kids ++ flat_map f rest) =
      all_append (IsWithin (n + 1) all) (flat_map f kids) (flat_map f rest)
      (wider (n + 1) (n + 1 + node_count ks) (n + 1) all (flat_map f kids) (omega arith) (omega arith) in_kids)
      (wider (n + 1 + node_count ks) all (n + 1) all (flat_map f rest) (omega arith) (omega arith) in_rest) in
      let both : AllEarlier IsElsewhere (flat_map f kids ++ flat_map f rest) =
      earlier_append IsElsewhere (flat_map f kids) (flat_map f rest)
      (nodes_apart (child_types d l ks) (child_agreements d ks) (n + 1) ks)
      (nodes_apart types (rest_agreements ags) (n + 1 + node_count ks) ts)
      (lower (n + 1) (n + 1 + node_count ks) (n + 1 + node_count ks) all (flat_map f kids) (flat_map f rest) (omega arith) in_kids in_rest) in
      subst (λ u. AllEarlier IsElsewhere (own ++ u)) (sym (flat_map-append f kids rest))
      (earlier_append IsElsewhere own (flat_map f kids ++ flat_map f rest) (alone d (is_pointer l) (cell_in l) h n (first_agreements ags)) both
      (lower n (n + 1) (n + 1) all own (flat_map f kids ++ flat_map f rest) (omega arith) in_own behind))

-- a root from a number on, a cell from a number on
abbrev IsRootFrom : ℕ → Home → Type 0
IsRootFrom n (home.Root i) = n ≤ i
IsRootFrom n (home.Cell c) = ⊥

abbrev IsCellFrom : ℕ → Home → Type 0
IsCellFrom n (home.Root i) = ⊥
IsCellFrom n (home.Cell c) = n ≤ c.0

root_later : (n : ℕ) (h : Home) → IsRootFrom (n + 1) h → IsRootFrom n h
root_later n (home.Root i) r = omega arith
root_later n (home.Cell c) r = r

cell_later : (n : ℕ) (h : Home) → IsCellFrom (n + 1) h → IsCellFrom n h
cell_later n (home.Root i) r = r
cell_later n (home.Cell c) r = omega arith

no_later_root : (n : ℕ) → IsRootFrom (n + 1) (home.Root n) → ⊥
no_later_root n r = omega arith

no_later_cell : (n : ℕ) → IsCellFrom (n + 1) (cell_home n) → ⊥
no_later_cell n r = omega arith

no_root : (h h' : Home) → IsRootFrom 0 h → IsCellFrom 1 h' → h ≡ h' → ⊥
no_root (home.Root i) (home.Root j) a b e = b
no_root (home.Root i) (home.Cell c) a b e = cc
no_root (home.Cell c) h' a b e = a

module _ (table : Table) where
  roots_from : (n : ℕ) (rs : List Root) (vs : List Tree) → AllByRecursion (λ p. IsRootFrom n p.home) (root_pointers table n rs vs)
  roots_from n [] vs = tt
  roots_from n (r ∷ rs) [] = tt
  roots_from n (r ∷ rs) (v ∷ vs) =
      all_append (λ p. IsRootFrom n p.home) (home_pointers table (home.Root n) r.of v) (root_pointers table (n + 1) rs vs)
      (all_weaker (λ p. p.home ≡ home.Root n) (λ p. IsRootFrom n p.home) (λ p e. subst (IsRootFrom n) (sym e) (omega arith)) _ (in_home table (home.Root n) r.of v))
      (all_weaker (λ p. IsRootFrom (n + 1) p.home) (λ p. IsRootFrom n p.home) (λ p a. root_later n p.home a) _ (roots_from (n + 1) rs vs))

  cells_from : (n : ℕ) (xs : List Referent) → AllByRecursion (λ p. IsCellFrom n p.home) (cell_pointers table n xs)
  cells_from n [] = tt
  cells_from n (x ∷ xs) =
      all_append (λ p. IsCellFrom n p.home) (home_pointers table (cell_home n) x.of x.val) (cell_pointers table (n + 1) xs)
      (all_weaker (λ p. p.home ≡ cell_home n) (λ p. IsCellFrom n p.home) (λ p e. subst (IsCellFrom n) (sym e) (omega arith)) _ (in_home table (cell_home n) x.of x.val))
      (all_weaker (λ p. IsCellFrom (n + 1) p.home) (λ p. IsCellFrom n p.home) (λ p a. cell_later n p.home a) _ (cells_from (n + 1) xs))

  roots_apart : (n : ℕ) (rs : List Root) (vs : List Tree) → AllEarlier IsElsewhere (root_pointers table n rs vs)
  roots_apart n [] vs = tt
  roots_apart n (r ∷ rs) [] = tt
  roots_apart n (r ∷ rs) (v ∷ vs) =
      earlier_append IsElsewhere (home_pointers table (home.Root n) r.of v) (root_pointers table (n + 1) rs vs)
      (nodes_apart table (home.Root n) (r.of ∷ []) [] 0 (more v none)) (roots_apart (n + 1) rs vs)
      (elsewhere (λ p. p.home ≡ home.Root n) (λ p. IsRootFrom (n + 1) p.home)
      (λ p q a b e k. no_later_root n (subst (IsRootFrom (n + 1)) (sym e ∙ a) b)) _ _ (in_home table (home.Root n) r.of v) (roots_from (n + 1) rs vs))

  cells_apart : (n : ℕ) (xs : List Referent) → AllEarlier IsElsewhere (cell_pointers table n xs)
  cells_apart n [] = tt
  cells_apart n (x ∷ xs) =
      earlier_append IsElsewhere (home_pointers table (cell_home n) x.of x.val) (cell_pointers table (n + 1) xs)
      (nodes_apart table (cell_home n) (x.of ∷ []) [] 0 (more x.val none)) (cells_apart (n + 1) xs)
      (elsewhere (λ p. p.home ≡ cell_home n) (λ p. IsCellFrom (n + 1) p.home)
      (λ p q a b e k. no_later_cell n (subst (IsCellFrom (n + 1)) (sym e ∙ a) b)) _ _ (in_home table (cell_home n) x.of x.val) (cells_from (n + 1) xs))

  -- the pointers of a root, and of a cell
  root_among : (n : ℕ) (rs : List Root) (vs : List Tree) → length vs ≡ length rs → (i : ℕ) (r : Root) → slice_get rs i ≡ Some r
      → (p : Pending) → Among (home_pointers table (home.Root (n + i)) r.of (or_unread (slice_get vs i))) p → Among (root_pointers table n rs vs) p
  root_among n [] vs h i r e p a = cc
  root_among n (q ∷ rs) [] h i r e p a = cc
  root_among n (q ∷ rs) (v ∷ vs) h zero r e p a =
      let z : n + 0 ≡ n = omega arith in
      among_left (home_pointers table (home.Root n) q.of v) (root_pointers table (n + 1) rs vs) p
      (subst (λ u. Among (home_pointers table (home.Root n) u.of v) p) (sym (same_Some _ _ e)) (subst (λ u. Among (home_pointers table (home.Root u) r.of v) p) z a))
  root_among n (q ∷ rs) (v ∷ vs) h (suc i) r e p a =
      let z : n + suc i ≡ n + 1 + i = omega arith in
      let k : length vs ≡ length rs = omega arith in
      among_right (home_pointers table (home.Root n) q.of v) (root_pointers table (n + 1) rs vs) p
      (root_among (n + 1) rs vs k i r e p (subst (λ u. Among (home_pointers table (home.Root u) r.of (or_unread (slice_get vs i))) p) z a))

  cell_among : (n : ℕ) (xs : List Referent) (i : ℕ) (x : Referent) → slice_get xs i ≡ Some x
      → (p : Pending) → Among (home_pointers table (cell_home (n + i)) x.of x.val) p → Among (cell_pointers table n xs) p
  cell_among n [] i x e p a = cc
  cell_among n (y ∷ ys) zero x e p a =
      let z : n + 0 ≡ n = omega arith in
      among_left (home_pointers table (cell_home n) y.of y.val) (cell_pointers table (n + 1) ys) p
      (subst (λ u. Among (home_pointers table (cell_home n) u.of u.val) p) (sym (same_Some _ _ e)) (subst (λ u. Among (home_pointers table (cell_home u) x.of x.val) p) z a))
  cell_among n (y ∷ ys) (suc i) x e p a =
      let z : n + suc i ≡ n + 1 + i = omega arith in
      among_right (home_pointers table (cell_home n) y.of y.val) (cell_pointers table (n + 1) ys) p
      (cell_among (n + 1) ys i x e p (subst (λ u. Among (home_pointers table (cell_home u) x.of x.val) p) z a))

module _ (w : Setting) (g : Graph) where
  -- no two pointers of a graph stand at one node
  all_apart : AllEarlier IsElsewhere (all_pointers w g)
  all_apart =
      earlier_append IsElsewhere (root_pointers w.table 0 (root_list w) g.roots) (cell_pointers w.table 1 g.cells)
      (roots_apart w.table 0 (root_list w) g.roots) (cells_apart w.table 1 g.cells)
      (elsewhere (λ p. IsRootFrom 0 p.home) (λ p. IsCellFrom 1 p.home) (λ p q a b e k. no_root p.home q.home a b e) _ _
      (roots_from w.table 0 (root_list w) g.roots) (cells_from w.table 1 g.cells))

  one_or_elsewhere : (p q : Pending) → (p ≡ q) ⊎ IsElsewhere p q → p.home ≡ q.home → p.node ≡ q.node → p ≡ q
  one_or_elsewhere p q (inl s) e n = s
  one_or_elsewhere p q (inr f) e n = absurd (f e n)

  -- pointers at one node are one
  pub one_at_node : (p q : Pending) → Among (all_pointers w g) p → Among (all_pointers w g) q → p.home ≡ q.home → p.node ≡ q.node → p ≡ q
  one_at_node p q a b e n =
      one_or_elsewhere p q (among_two IsElsewhere (λ x y f h k. f (sym h) (sym k)) (all_pointers w g) all_apart p q a b) e n

  -- the pointers of a root's value
  pub in_root : length g.roots ≡ length (root_list w) → (i : ℕ) (r : Root) → slice_get (root_list w) i ≡ Some r
      → (p : Pending) → Among (home_pointers w.table (home.Root i) r.of (root_at g i)) p → Among (all_pointers w g) p
  in_root h i r e p a =
      let z : 0 + i ≡ i = omega arith in
      among_left (root_pointers w.table 0 (root_list w) g.roots) (cell_pointers w.table 1 g.cells) p
      (root_among w.table 0 (root_list w) g.roots h i r e p (subst (λ u. Among (home_pointers w.table (home.Root u) r.of (root_at g i)) p) (sym z) a))

  -- the pointers of the cell that a pointer names
  pub in_cell : (c t : ℕ) → (x : Referent) × (cell_of_number g c ≡ Some x) × (x.of ≡ t)
      → (p : Pending) → Among (home_pointers w.table (cell_home c) t (cell_at g c)) p → Among (all_pointers w g) p
  in_cell zero t (x, e, f) p a = cc
  in_cell (suc i) t (x, e, f) p a =
      let z : 1 + i ≡ suc i = omega arith in
      among_right (root_pointers w.table 0 (root_list w) g.roots) (cell_pointers w.table 1 g.cells) p
      (cell_among w.table 1 g.cells i x e p (subst (λ u. Among (home_pointers w.table (cell_home u) x.of x.val) p) (sym z)
      (subst (λ u. Among (home_pointers w.table (cell_home (suc i)) x.of u) p) (ap cell_tree e)
      (subst (λ u. Among (home_pointers w.table (cell_home (suc i)) u (cell_at g (suc i))) p) (sym f) a))))

-- a root below the number of roots is there
pub root_there : (w : Setting) (i : ℕ) → i < length (root_list w) → (r : Root) × (slice_get (root_list w) i ≡ Some r)
root_there w i h = (get_or (root_list w) i (record { of = 0; param = None; vars = []; is_pipe = false }), slice_get-get_or (root_list w) i _ h)

module _ (w : Setting) (g : Graph) (s : IsSound w g) where
  fits : AllByRecursion (λ x. PointerFits w.table g x.typed.of x.typed.label) (all_nodes w g)
  fits = (orderly w g s).fit

  abbrev StandsIn : Standing → Type 0
  StandsIn x = (p : Pending) → Among (home_pointers w.table x.home x.of x.val) p → Among (all_pointers w g) p

  by_label : (i t : ℕ) (l : Label) (ks : Trees) → is_no_null_ref (type_at w.table t) l ≡ true → names_cell g l ≡ true → names_pointee g (type_at w.table t) l ≡ true
      → ((p : Pending) → Among (home_pointers w.table (home.Root i) t (node l ks)) p → Among (all_pointers w g) p)
      → (o : Option (ℕ × ℕ)) → direct (type_at w.table t) (node l ks) ≡ o → StandsIn (standing_by g i t (node l ks) o)
  by_label i t l ks a b c inside None e = inside
  by_label i t l ks a b c inside (Some (q, u)) e =
      let (to, ed, el, eu) = direct_is (type_at w.table t) l ks q u e a in
      let b' = subst (λ k. names_cell g k ≡ true) el b in
      let c' : names_pointee g (Some (def.Pointer Ref to)) (tree.Ptr (Some q)) ≡ true = subst (λ k. names_pointee g k (tree.Ptr (Some q)) ≡ true) ed
      (subst (λ k. names_pointee g (type_at w.table t) k ≡ true) el c) in
      let (x, ex, et) = pointee_of_cell g Ref to q b' c' in
      in_cell w g q u (x, ex, et ∙ sym eu)

  root_fits : (n : ℕ) (rs : List Root) (vs : List Tree) → AllByRecursion (λ x. PointerFits w.table g x.typed.of x.typed.label) (root_nodes w g n rs vs)
      → (i : ℕ) (r : Root) (l : Label) (ks : Trees) → slice_get rs i ≡ Some r → slice_get vs i ≡ Some (node l ks) → PointerFits w.table g r.of l
  root_fits n [] vs a i r l ks e f = cc
  root_fits n (q ∷ rs) [] a i r l ks e f = cc
  root_fits n (q ∷ rs) (node k js ∷ vs) a zero r l ks e f =
      let z : node k js ≡ node l ks = same_Some _ _ f in
      let y : k ≡ l = cc in
      subst (λ u. PointerFits w.table g u.of l) (same_Some _ _ e) (subst (PointerFits w.table g q.of) y a.0)
  root_fits n (q ∷ rs) (v ∷ vs) a (suc i) r l ks e f = root_fits (n + 1) rs vs (all_right _ _ (root_nodes w g (n + 1) rs vs) a) i r l ks e f

  -- the pointers of what stands for a root
  pub in_standing : (i : ℕ) (r : Root) → slice_get (root_list w) i ≡ Some r
      → (p : Pending) → Among (home_pointers w.table (standing_root w g i).home (standing_root w g i).of (standing_root w g i).val) p → Among (all_pointers w g) p
  in_standing i r e =
      subst (λ t. StandsIn (standing_by g i t (root_at g i) (direct (type_at w.table t) (root_at g i)))) (sym (ap root_type e)) (go (root_at g i) refl)
    where
      go : (v : Tree) → root_at g i ≡ v → StandsIn (standing_by g i r.of v (direct (type_at w.table r.of) v))
      go (node l ks) f =
          let h = slice_get_within (root_list w) i r e in
          let k : i < length g.roots = omega (arith, s.all_roots) in
          let there = slice_get-get_or g.roots i unread k in
          let same : slice_get g.roots i ≡ Some (node l ks) = there ∙ ap Some (sym (ap or_unread there) ∙ f) in
          let fit : PointerFits w.table g r.of l = root_fits 0 (root_list w) g.roots (all_left _ (root_nodes w g 0 (root_list w) g.roots) _ fits) i r l ks e same in
          by_label i r.of l ks fit.no_null fit.cell fit.pointee
          (λ p a. in_root w g s.all_roots i r e p (subst (λ u. Among (home_pointers w.table (home.Root i) r.of u) p) (sym f) a)) (direct (type_at w.table r.of) (node l ks)) refl
