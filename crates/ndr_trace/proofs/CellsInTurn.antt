-- Along the steps of deferral each cell is named for the first time as the next one, and again by full pointers alone.
-- `w` is a setting, `g` a partial graph, `p` and `q` are pointers, `ps` the pointers of a home, `seen` those that were passed, `n` is how many cells
-- these name, `full` are the cells that the full ones among them name, `m` is how many cells there are, `done` are the cells that stand, `rs` the roots
-- that do, `us` are steps.
use Rattle.std.proofs.Common.{◌≡◌, ◌⊎◌, inl, inr, ◌∙◌, ℕ, zero, suc, ◌+◌, ◌<◌, ◌≤◌, true, false, List, [], ◌∷◌, ◌++◌, length, Option, Some, None, refl, sym, ap, ap₂, subst, append_assoc, arith}
use Rattle.std.proofs.Common.{flat_map, map}
use Rattle.std.specs.List.{AllByRecursion, slice_get}
use Rattle.std.proofs.lemmas.Option.{same_Some}
use Rattle.std.proofs.lemmas.List.{map-append}
use Rattle.nd_types.specs.declared.types.Class.{Class}
use Rattle.nd_types.specs.declared.types.Class.TheVariants.{Full, Ref}
use Rattle.nd_types.specs.declared.types.TypeDef.TheVariants as def
use Rattle.nd_types.specs.declared.types.TypeId.{TypeId}
use Rattle.nd_types.specs.Roots.{Root}
use Rattle.nd_types.specs.Table.{type_at}
use Rattle.nd_value.specs.declared.item.Home.{Home}
use Rattle.nd_value.specs.declared.item.Home.TheVariants as home
use Rattle.nd_value.specs.declared.value.Graph.{Graph}
use Rattle.nd_value.specs.Canon.{named, named_cells, own_cell, step_names as step_cells, target}
use Rattle.nd_value.specs.Conforms.{AllEarlier, ShareOnlyIfFull, all_pointers, cell_pointers, root_pointers}
use Rattle.nd_value.specs.Deferral.{Deferral, Due, IsPlaced, Pending as Pointer, Placed_cells, Standing, Step, at_null, at_referent, at_root, at_standing, due_of, due_referent, due_root}
use Rattle.nd_value.specs.Deferral.{home_pointers}
use Rattle.nd_value.specs.Deferral.{AreFree, direct, due_roots, none_due, pointer, pointer_by, referent_stands, root_cell, root_stands, root_type, standing_by, standing_cell, standing_root}
use Rattle.nd_value.specs.Deferral.{stands_already}
use Rattle.nd_value.specs.Setting.{Among, Setting, cell_at, cell_home, cell_of_number, cell_tree, or_unread, root_at, root_list}
use Rattle.nd_value.specs.Tree as tree
use Rattle.nd_value.specs.Tree.{Referent, Tree, Trees, node}
use Rattle.nd_value.proofs.Apart.{all_among, all_left, among_left, among_right}
use Rattle.nd_value.proofs.NodeFacts.{IsSound}
use Rattle.nd_grammar.proofs.next.PointerPlaces.{among_two, in_cell, in_home, in_root, in_standing, root_there}
use Rattle.nd_grammar.proofs.next.StreamPointers.{is_good}
use Rattle.ndr_trace_value.specs.Counting.{Counts}
use Rattle.ndr_trace.specs.Homes.{direct_names, names_all, standing_names, step_names}
use Rattle.ndr_trace_value.specs.Naming.{InTurn, full_one, names_of}

turned : (p q : Pointer) → ShareOnlyIfFull p q → ShareOnlyIfFull q p
turned p q s c e f = let r = s c f e in (r.1, r.0)

abbrev cells : Placed_cells → List ℕ
cells names = map (λ (d : Class × ℕ). d.1) names

-- ## The cells of names

names_cells : (ps : List Pointer) → cells (names_all ps) ≡ flat_map (λ p. target p.cell) ps
names_cells [] = refl
names_cells (p ∷ ps) = map-append (λ (d : Class × ℕ). d.1) (names_of p.class p.cell) (names_all ps) ∙ ap₂ (λ xs ys. xs ++ ys) (one p.cell) (names_cells ps)
  where
    one : (o : Option ℕ) → cells (names_of p.class o) ≡ target o
    one None = refl
    one (Some c) = refl

direct_cells : (h : Home) → cells (direct_names h) ≡ own_cell h
direct_cells (home.Root i) = refl
direct_cells (home.Cell c) = refl

pub steps_cells : (w : Setting) (g : Graph) (us : List Step) → map (λ (d : Class × ℕ). d.1) (flat_map (step_names w g) us) ≡ named_cells w g us
steps_cells w g [] = refl
steps_cells w g (u ∷ us) =
    map-append (λ (d : Class × ℕ). d.1) (step_names w g u) (flat_map (step_names w g) us) ∙ ap₂ (λ xs ys. xs ++ ys) (one u) (steps_cells w g us)
  where
    one : (u : Step) → cells (step_names w g u) ≡ step_cells w g u
    one (root_stands i) =
        map-append (λ (d : Class × ℕ). d.1) (direct_names (standing_root w g i).home) (standing_names w (standing_root w g i))
        ∙ ap₂ (λ xs ys. xs ++ ys) (direct_cells (standing_root w g i).home)
        (names_cells (home_pointers w.table (standing_root w g i).home (standing_root w g i).of (standing_root w g i).val))
    one (referent_stands p c) = names_cells (home_pointers w.table (standing_cell g p c).home (standing_cell g p c).of (standing_cell g p c).val)
    one (stands_already p c) = refl

-- ## Pointers that were passed

module _ (all : List Pointer) (apart : AllEarlier ShareOnlyIfFull all) (m : ℕ) where
  pub record Seen (n : ℕ) (full : List ℕ) (seen : List Pointer) : Type 0 where
    pub each : (c : ℕ) → 0 < c → c ≤ n → (q : Pointer) × Among seen q × (q.cell ≡ Some c)
    pub fulls : (q : Pointer) (c : ℕ) → Among seen q → q.cell ≡ Some c → q.class ≡ Full → Among full c

  -- one pointer more, which shares its cell with an earlier one only if both are full
  one_more : (n : ℕ) (full : List ℕ) (seen : List Pointer) (p : Pointer) (ns : Placed_cells) → Seen n full seen → ((q : Pointer) → Among seen q → ShareOnlyIfFull q p)
      → Counts n (map (λ (d : Class × ℕ). d.1) (names_of p.class p.cell ++ ns)) m
      → ((n' : ℕ) (full' : List ℕ) → Seen n' full' (p ∷ seen) → Counts n' (map (λ (d : Class × ℕ). d.1) ns) m → InTurn n' full' ns)
      → InTurn n full (names_of p.class p.cell ++ ns)
  one_more n full seen p ns s share counts later = go p.cell refl counts
    where
      go : (o : Option ℕ) → p.cell ≡ o → Counts n (map (λ (d : Class × ℕ). d.1) (names_of p.class o ++ ns)) m → InTurn n full (names_of p.class o ++ ns)
      go None e counts =
          later n full
          (record {
            each = λ c low high. let (q, a, f) = s.each c low high in (q, inr a, f);
            fulls = λ q c a f k. null q c a f k;
          }) counts
        where
          null : (q : Pointer) (c : ℕ) → (q ≡ p) ⊎ Among seen q → q.cell ≡ Some c → q.class ≡ Full → Among full c
          null q c (inl h) f k = let z : None ≡ Some c = sym e ∙ ap (λ (x : Pointer). x.cell) (sym h) ∙ f in cc
          null q c (inr a) f k = s.fulls q c a f k
      go (Some c) e (inl (low, high, counts)) =
          let (q, a, f) = s.each c low high in
          let (full_q, full_p) = share q a c f e in
          let known = s.fulls q c a f full_q in
          inr (
            full_p,
            known,
            later n full
                (record {
                  each = λ d l h. let (x, b, f') = s.each d l h in (x, inr b, f');
                  fulls = λ x d b f' k. again x d b f' k known;
                }) counts,
          )
        where
          again : (x : Pointer) (d : ℕ) → (x ≡ p) ⊎ Among seen x → x.cell ≡ Some d → x.class ≡ Full → Among full c → Among full d
          again x d (inl h) f' k known = subst (Among full) (same_Some _ _ (sym e ∙ ap (λ (y : Pointer). y.cell) (sym h) ∙ f')) known
          again x d (inr b) f' k known = s.fulls x d b f' k
      go (Some c) e (inr (next, counts)) =
          inl (
            next,
            later (suc n) (full_one p.class c ++ full)
                (record {
                  each = λ d l h. whichever d l h (below d n);
                  fulls = λ x d b f' k. fuller x d b f' k;
                }) counts,
          )
        where
          below : (d n : ℕ) → (d ≤ n) ⊎ (n < d)
          below zero n = inl (omega arith)
          below (suc d) zero = inr (omega arith)
          below (suc d) (suc n) = step (below d n)
            where
              step : (d ≤ n) ⊎ (n < d) → (suc d ≤ suc n) ⊎ (suc n < suc d)
              step (inl x) = inl (omega (arith, x))
              step (inr x) = inr (omega (arith, x))

          whichever : (d : ℕ) → 0 < d → d ≤ suc n → (d ≤ n) ⊎ (n < d) → (q : Pointer) × Among (p ∷ seen) q × (q.cell ≡ Some d)
          whichever d l h (inl b) = let (x, a, f') = s.each d l b in (x, inr a, f')
          whichever d l h (inr b) =
              let same : c ≡ d = omega (arith, next, h, b) in
              (p, inl refl, e ∙ ap Some same)

          fuller : (x : Pointer) (d : ℕ) → (x ≡ p) ⊎ Among seen x → x.cell ≡ Some d → x.class ≡ Full → Among (full_one p.class c ++ full) d
          fuller x d (inr b) f' k = among_right (full_one p.class c) full d (s.fulls x d b f' k)
          fuller x d (inl h) f' k =
              let is_full : p.class ≡ Full = ap (λ (y : Pointer). y.class) (sym h) ∙ k in
              let same : d ≡ c = same_Some _ _ (sym f' ∙ ap (λ (y : Pointer). y.cell) h ∙ e) in
              subst (λ k. Among (full_one k c ++ full) d) (sym is_full) (inl same)

  -- the pointers of a home
  many_more : (ps : List Pointer) (n : ℕ) (full : List ℕ) (seen : List Pointer) (ns : Placed_cells) → Seen n full seen
      → ((q p : Pointer) → Among seen q → Among ps p → ShareOnlyIfFull q p) → AllEarlier ShareOnlyIfFull ps
      → Counts n (map (λ (d : Class × ℕ). d.1) (names_all ps ++ ns)) m
      → ((n' : ℕ) (full' : List ℕ) (seen' : List Pointer) → Seen n' full' seen' → ((q : Pointer) → Among seen' q → Among seen q ⊎ Among ps q)
      → Counts n' (map (λ (d : Class × ℕ). d.1) ns) m → InTurn n' full' ns)
      → InTurn n full (names_all ps ++ ns)
  many_more [] n full seen ns s share earlier counts later = later n full seen s (λ q a. inl a) counts
  many_more (p ∷ ps) n full seen ns s share earlier counts later =
      subst (λ xs. InTurn n full xs) (sym (append_assoc (names_of p.class p.cell) (names_all ps) ns))
      (one_more n full seen p (names_all ps ++ ns) s (λ q a. share q p a (inl refl))
      (subst (λ xs. Counts n (map (λ (d : Class × ℕ). d.1) xs) m) (append_assoc (names_of p.class p.cell) (names_all ps) ns) counts)
      (λ n' full' s' counts'.
      many_more ps n' full' (p ∷ seen) ns s' (λ q r a b. shared q r a b) earlier.1 counts'
      (λ n'' full'' seen'' s'' from counts''. later n'' full'' seen'' s'' (λ q a. wherever q (from q a)) counts'')))
    where
      shared : (q r : Pointer) → (q ≡ p) ⊎ Among seen q → Among ps r → ShareOnlyIfFull q r
      shared q r (inl h) b = subst (λ x. ShareOnlyIfFull x r) (sym h) (all_among (ShareOnlyIfFull p) ps r b earlier.0)
      shared q r (inr a) b = share q r a (inr b)

      wherever : (q : Pointer) → ((q ≡ p) ⊎ Among seen q) ⊎ Among ps q → Among seen q ⊎ ((q ≡ p) ⊎ Among ps q)
      wherever q (inl (inl h)) = inr (inl h)
      wherever q (inl (inr a)) = inl a
      wherever q (inr a) = inr (inr a)

-- ## The pointers of one home

earlier_parts : (xs ys : List Pointer) → AllEarlier ShareOnlyIfFull (xs ++ ys) → AllEarlier ShareOnlyIfFull xs × AllEarlier ShareOnlyIfFull ys
earlier_parts [] ys a = (tt, a)
earlier_parts (x ∷ xs) ys a = let (b, c) = earlier_parts xs ys a.1 in ((all_left (ShareOnlyIfFull x) xs ys a.0, b), c)

cell_apart : (w : Setting) (n : ℕ) (xs : List Referent) (i : ℕ) (x : Referent) → slice_get xs i ≡ Some x → AllEarlier ShareOnlyIfFull (cell_pointers w.table n xs)
    → AllEarlier ShareOnlyIfFull (home_pointers w.table (cell_home (n + i)) x.of x.val)
cell_apart w n [] i x e a = cc
cell_apart w n (y ∷ ys) zero x e a =
    let z : n ≡ n + 0 = omega arith in
    let own : List Pointer = home_pointers w.table (cell_home n) y.of y.val in
    let b = (earlier_parts own (cell_pointers w.table (n + 1) ys) a).0 in
    subst (λ k. AllEarlier ShareOnlyIfFull (home_pointers w.table (cell_home k) x.of x.val)) z
    (subst (λ (u : Referent). AllEarlier ShareOnlyIfFull (home_pointers w.table (cell_home n) u.of u.val)) (same_Some _ _ e) b)
cell_apart w n (y ∷ ys) (suc i) x e a =
    let z : n + 1 + i ≡ n + suc i = omega arith in
    let own : List Pointer = home_pointers w.table (cell_home n) y.of y.val in
    subst (λ k. AllEarlier ShareOnlyIfFull (home_pointers w.table (cell_home k) x.of x.val)) z
    (cell_apart w (n + 1) ys i x e (earlier_parts own (cell_pointers w.table (n + 1) ys) a).1)

root_apart : (w : Setting) (n : ℕ) (rs : List Root) (vs : List Tree) (i : ℕ) (r : Root) → length vs ≡ length rs → slice_get rs i ≡ Some r
    → AllEarlier ShareOnlyIfFull (root_pointers w.table n rs vs) → AllEarlier ShareOnlyIfFull (home_pointers w.table (home.Root (n + i)) r.of (or_unread (slice_get vs i)))
root_apart w n [] vs i r l e a = cc
root_apart w n (q ∷ rs) [] i r l e a = cc
root_apart w n (q ∷ rs) (v ∷ vs) zero r l e a =
    let z : n ≡ n + 0 = omega arith in
    let own : List Pointer = home_pointers w.table (home.Root n) q.of v in
    let b = (earlier_parts own (root_pointers w.table (n + 1) rs vs) a).0 in
    subst (λ k. AllEarlier ShareOnlyIfFull (home_pointers w.table (home.Root k) r.of v)) z
    (subst (λ (u : Root). AllEarlier ShareOnlyIfFull (home_pointers w.table (home.Root n) u.of v)) (same_Some _ _ e) b)
root_apart w n (q ∷ rs) (v ∷ vs) (suc i) r l e a =
    let z : n + 1 + i ≡ n + suc i = omega arith in
    let l' : length vs ≡ length rs = omega (arith, l) in
    let own : List Pointer = home_pointers w.table (home.Root n) q.of v in
    subst (λ k. AllEarlier ShareOnlyIfFull (home_pointers w.table (home.Root k) r.of (or_unread (slice_get vs i)))) z
    (root_apart w (n + 1) rs vs i r l' e (earlier_parts own (root_pointers w.table (n + 1) rs vs) a).1)

-- ## Along the steps

-- a home at which the steps were
abbrev IsDone : Placed_cells → List ℕ → Home → Type 0
IsDone done rs (home.Root i) = Among rs i
IsDone done rs (home.Cell c) = IsPlaced done c.0

-- no root that is due was due before
abbrev pub AreFresh : List ℕ → List Due → Type 0
AreFresh rs [] = Unit {0}
AreFresh rs (due_root i ∷ due) = (Among rs i → ⊥) × AreFresh (i ∷ rs) due
AreFresh rs (due_referent p ∷ due) = AreFresh rs due

fresh_more : (rs : List ℕ) (ps : List Pointer) (due : List Due) → AreFresh rs due → AreFresh rs (map due_referent ps ++ due)
fresh_more rs [] due f = f
fresh_more rs (p ∷ ps) due f = fresh_more rs ps due f

pub later_roots : (i n : ℕ) (rs : List ℕ) → ((j : ℕ) → Among rs j → j < i) → AreFresh rs (due_roots i n)
later_roots i zero rs f = tt
later_roots i (suc n) rs f = ((λ a. let l = f i a in absurd (omega (arith, l))), later_roots (suc i) n (i ∷ rs) (λ j a. below j a))
  where
    below : (j : ℕ) → (j ≡ i) ⊎ Among rs j → j < suc i
    below j (inl e) = omega (arith, e)
    below j (inr a) = let l = f j a in omega (arith, l)

module _ (w : Setting) (g : Graph) (s : IsSound w g) where
  -- what is due of a graph: a root that is there, or one of its pointers
  abbrev pub Mine : Due → Type 0
  Mine (due_root i) = (r : Root) × (slice_get (root_list w) i ≡ Some r)
  Mine (due_referent p) = Among (all_pointers w g) p

  pub mine_more : (ps : List Pointer) (due : List Due) → ((p : Pointer) → Among ps p → Among (all_pointers w g) p) → AllByRecursion Mine due
      → AllByRecursion Mine (map due_referent ps ++ due)
  mine_more [] due f a = a
  mine_more (p ∷ ps) due f a = (f p (inl refl), mine_more ps due (λ q b. f q (inr b)) a)

  pub roots_mine : (i n : ℕ) → i + n ≤ length (root_list w) → AllByRecursion Mine (due_roots i n)
  roots_mine i zero h = tt
  roots_mine i (suc n) h = (root_there w i (omega (arith, h)), roots_mine (suc i) n (omega (arith, h)))

  -- what is known of a top-level reference pointer
  abbrev pub KnownDirect : Type 0
  KnownDirect =
      (i : ℕ) (r : Root) → slice_get (root_list w) i ≡ Some r → (c t : ℕ) → direct (type_at w.table r.of) (root_at g i) ≡ Some (c, t)
      → (to : TypeId) × (type_at w.table r.of ≡ Some (def.Pointer Ref to)) × ((ks : Trees) × (root_at g i ≡ node (tree.Ptr (Some c)) ks)) × (t ≡ to.0)

  pub standing_is : (i : ℕ) (r : Root) → slice_get (root_list w) i ≡ Some r → (o : Option (ℕ × ℕ)) → direct (type_at w.table r.of) (root_at g i) ≡ o
      → standing_root w g i ≡ standing_by g i r.of (root_at g i) o
  standing_is i r e o f =
      ap (λ t. standing_by g i t (root_at g i) (direct (type_at w.table t) (root_at g i))) (ap root_type e) ∙ ap (standing_by g i r.of (root_at g i)) f

  -- the pointer of such a root
  pub direct_mine : (i : ℕ) (r : Root) → slice_get (root_list w) i ≡ Some r → (to : TypeId) → type_at w.table r.of ≡ Some (def.Pointer Ref to) → (c : ℕ) (ks : Trees)
      → root_at g i ≡ node (tree.Ptr (Some c)) ks
      → Among (all_pointers w g) (record { home = home.Root i; node = 0; class = Ref; to = to.0; cell = Some c; agreements = [] })
  direct_mine i r e to d c ks f =
      in_root w g s.all_roots i r e (record { home = home.Root i; node = 0; class = Ref; to = to.0; cell = Some c; agreements = [] })
      (subst (λ v. Among (home_pointers w.table (home.Root i) r.of v) (record { home = home.Root i; node = 0; class = Ref; to = to.0; cell = Some c; agreements = [] })) (sym f)
      (among_left (pointer w.table (home.Root i) (record { node = 0; of = r.of; agreements = []; label = tree.Ptr (Some c); kids = ks })) _ _
      (subst (λ u. Among (pointer_by u true (Some c) (home.Root i) 0 []) (record { home = home.Root i; node = 0; class = Ref; to = to.0; cell = Some c; agreements = [] })) (sym d) (inl refl))))

module _ (w : Setting) (g : Graph) (s : IsSound w g) (m : ℕ) where
  -- what is known of the pointers that were passed
  pub record Passed (done : Placed_cells) (rs : List ℕ) (seen : List Pointer) : Type 0 where
    pub mine : (q : Pointer) → Among seen q → Among (all_pointers w g) q
    pub homes : (q : Pointer) → Among seen q → IsDone done rs q.home

  -- a pointer of a home that was not done shares its cell with those that were passed only if both are full
  shares : (done : Placed_cells) (rs : List ℕ) (seen : List Pointer) → Passed done rs seen → (h : Home) → (IsDone done rs h → ⊥) → (q p : Pointer) → Among seen q
      → Among (all_pointers w g) p → p.home ≡ h → ShareOnlyIfFull q p
  shares done rs seen a h new q p b c e = by (among_two ShareOnlyIfFull turned (all_pointers w g) s.unshared q p (a.mine q b) c)
    where
      by : (q ≡ p) ⊎ ShareOnlyIfFull q p → ShareOnlyIfFull q p
      by (inl same) = absurd (new (subst (IsDone done rs) (ap (λ (x : Pointer). x.home) same ∙ e) (a.homes q b)))
      by (inr f) = f

  more_placed : (done : Placed_cells) (rs : List ℕ) (d : Class × ℕ) (h : Home) → IsDone done rs h → IsDone (d ∷ done) rs h
  more_placed done rs d (home.Root i) a = a
  more_placed done rs d (home.Cell c) a = inr a

  more_roots : (done : Placed_cells) (rs : List ℕ) (i : ℕ) (h : Home) → IsDone done rs h → IsDone done (i ∷ rs) h
  more_roots done rs i (home.Root j) a = inr a
  more_roots done rs i (home.Cell c) a = a

  -- the names of a home that was not done, and then those of the steps after it
  one_home : (done done' : Placed_cells) (rs rs' : List ℕ) (seen : List Pointer) (h : Home) (t : ℕ) (v : Tree) (n : ℕ) (full : List ℕ) (ns : Placed_cells)
      → Passed done rs seen → Seen (all_pointers w g) s.unshared m n full seen → (IsDone done rs h → ⊥) → IsDone done' rs' h
      → ((k : Home) → IsDone done rs k → IsDone done' rs' k) → ((p : Pointer) → Among (home_pointers w.table h t v) p → Among (all_pointers w g) p)
      → AllEarlier ShareOnlyIfFull (home_pointers w.table h t v) → Counts n (map (λ (d : Class × ℕ). d.1) (names_all (home_pointers w.table h t v) ++ ns)) m
      → ((n' : ℕ) (full' : List ℕ) (seen' : List Pointer) → Passed done' rs' seen' → Seen (all_pointers w g) s.unshared m n' full' seen'
      → Counts n' (map (λ (d : Class × ℕ). d.1) ns) m → InTurn n' full' ns)
      → InTurn n full (names_all (home_pointers w.table h t v) ++ ns)
  one_home done done' rs rs' seen h t v n full ns a b new now wider inside apart counts later =
      many_more (all_pointers w g) s.unshared m (home_pointers w.table h t v) n full seen ns b
      (λ q p x y. shares done rs seen a h new q p x (inside p y) (all_among (λ p. p.home ≡ h) (home_pointers w.table h t v) p y (in_home w.table h t v))) apart counts
      (λ n' full' seen' b' from counts'.
      later n' full' seen'
      (record {
        mine = λ q x. of_both q (from q x);
        homes = λ q x. home_of q (from q x);
      }) b' counts')
    where
      of_both : (q : Pointer) → Among seen q ⊎ Among (home_pointers w.table h t v) q → Among (all_pointers w g) q
      of_both q (inl x) = a.mine q x
      of_both q (inr y) = inside q y

      home_of : (q : Pointer) → Among seen q ⊎ Among (home_pointers w.table h t v) q → IsDone done' rs' q.home
      home_of q (inl x) = wider q.home (a.homes q x)
      home_of q (inr y) = subst (IsDone done' rs') (sym (all_among (λ p. p.home ≡ h) (home_pointers w.table h t v) q y (in_home w.table h t v))) now

  home_apart : (c t : ℕ) → (x : Referent) × (cell_of_number g c ≡ Some x) × (x.of ≡ t) → AllEarlier ShareOnlyIfFull (home_pointers w.table (cell_home c) t (cell_at g c))
  home_apart zero t (x, e, f) = cc
  home_apart (suc i) t (x, e, f) =
      let z : 1 + i ≡ suc i = omega arith in
      let all = (earlier_parts (root_pointers w.table 0 (root_list w) g.roots) (cell_pointers w.table 1 g.cells) s.unshared).1 in
      subst (λ u. AllEarlier ShareOnlyIfFull (home_pointers w.table (cell_home (suc i)) u (cell_at g (suc i)))) f
      (subst (λ v. AllEarlier ShareOnlyIfFull (home_pointers w.table (cell_home (suc i)) x.of v)) (sym (ap cell_tree e))
      (subst (λ k. AllEarlier ShareOnlyIfFull (home_pointers w.table (cell_home k) x.of x.val)) z (cell_apart w 1 g.cells i x e all)))

  own_apart : (i : ℕ) (r : Root) → slice_get (root_list w) i ≡ Some r → AllEarlier ShareOnlyIfFull (home_pointers w.table (home.Root i) r.of (root_at g i))
  own_apart i r e =
      let z : 0 + i ≡ i = omega arith in
      subst (λ k. AllEarlier ShareOnlyIfFull (home_pointers w.table (home.Root k) r.of (root_at g i))) z
      (root_apart w 0 (root_list w) g.roots i r s.all_roots e (earlier_parts (root_pointers w.table 0 (root_list w) g.roots) (cell_pointers w.table 1 g.cells) s.unshared).0)

  module _ (known : KnownDirect w g s) where
    abbrev RootGoal : Placed_cells → List ℕ → ℕ → List ℕ → ℕ → Placed_cells → Standing → Type 0
    RootGoal done rs n full i ns x =
        AreFree (root_cell x.home) done → ((p : Pointer) → Among (home_pointers w.table x.home x.of x.val) p → Among (all_pointers w g) p)
        → Counts n (map (λ (d : Class × ℕ). d.1) ((direct_names x.home ++ standing_names w x) ++ ns)) m
        → ((n' : ℕ) (full' : List ℕ) (seen' : List Pointer) → Passed (root_cell x.home ++ done) (i ∷ rs) seen'
        → Seen (all_pointers w g) s.unshared m n' full' seen' → Counts n' (map (λ (d : Class × ℕ). d.1) ns) m → InTurn n' full' ns)
        → InTurn n full ((direct_names x.home ++ standing_names w x) ++ ns)

    pub turns : {done : Placed_cells} {due : List Due} {us : List Step} → Deferral w g done due us → (rs : List ℕ) (n : ℕ) (full : List ℕ) (seen : List Pointer) → AreFresh rs due
        → AllByRecursion (Mine w g s) due → Passed done rs seen → Seen (all_pointers w g) s.unshared m n full seen
        → Counts n (map (λ (d : Class × ℕ). d.1) (flat_map (step_names w g) us)) m → InTurn n full (flat_map (step_names w g) us)
    turns none_due rs n full seen f a b c counts = tt
    turns (at_null e d) rs n full seen f a b c counts = turns d rs n full seen f a.1 b c counts
    turns (at_standing cell e k h d) rs n full seen f a b c counts = turns d rs n full seen f a.1 b c counts
    turns (at_referent {done = done} {p = p} {due = due} {steps = us} cell e new d) rs n full seen f a b c counts =
        let typed = (is_good w g s p a.0).typed cell e in
        let inside = in_cell w g cell p.to typed in
        one_home done ((p.class, cell) ∷ done) rs rs seen (cell_home cell) p.to (cell_at g cell) n full (flat_map (step_names w g) us) b c new (inl refl)
        (more_placed done rs (p.class, cell)) inside (home_apart cell p.to typed) counts
        (λ n' full' seen' b' c' counts'.
        turns d rs n' full' seen' (fresh_more rs (home_pointers w.table (cell_home cell) p.to (cell_at g cell)) due f)
        (mine_more w g s (home_pointers w.table (cell_home cell) p.to (cell_at g cell)) due inside a.1) b' c' counts')
    turns (at_root {done = done} {i = i} {due = due} {steps = us} free d) rs n full seen f a b c counts =
        let x : Standing = standing_root w g i in
        let inside = in_standing w g s i a.0.0 a.0.1 in
        at_a_root done rs seen n full i a.0.0 a.0.1 (flat_map (step_names w g) us) b c f.0 free inside counts
        (λ n' full' seen' b' c' counts'.
        turns d (i ∷ rs) n' full' seen' (fresh_more (i ∷ rs) (home_pointers w.table x.home x.of x.val) due f.1)
        (mine_more w g s (home_pointers w.table x.home x.of x.val) due inside a.1) b' c' counts')
      where
        at_a_root : (done : Placed_cells) (rs : List ℕ) (seen : List Pointer) (n : ℕ) (full : List ℕ) (i : ℕ) (r : Root) → slice_get (root_list w) i ≡ Some r → (ns : Placed_cells)
            → Passed done rs seen → Seen (all_pointers w g) s.unshared m n full seen → (Among rs i → ⊥) → AreFree (root_cell (standing_root w g i).home) done
            → ((p : Pointer) → Among (home_pointers w.table (standing_root w g i).home (standing_root w g i).of (standing_root w g i).val) p → Among (all_pointers w g) p)
            → Counts n (map (λ (d : Class × ℕ). d.1) ((direct_names (standing_root w g i).home ++ standing_names w (standing_root w g i)) ++ ns)) m
            → ((n' : ℕ) (full' : List ℕ) (seen' : List Pointer) → Passed (root_cell (standing_root w g i).home ++ done) (i ∷ rs) seen'
            → Seen (all_pointers w g) s.unshared m n' full' seen' → Counts n' (map (λ (d : Class × ℕ). d.1) ns) m → InTurn n' full' ns)
            → InTurn n full ((direct_names (standing_root w g i).home ++ standing_names w (standing_root w g i)) ++ ns)
        at_a_root done rs seen n full i r e ns b c new free inside counts later = by (direct (type_at w.table r.of) (root_at g i)) refl
          where
            by : (o : Option (ℕ × ℕ)) → direct (type_at w.table r.of) (root_at g i) ≡ o
                → InTurn n full ((direct_names (standing_root w g i).home ++ standing_names w (standing_root w g i)) ++ ns)
            by None f = subst (RootGoal done rs n full i ns) (sym (standing_is w g s i r e None f)) here free inside counts later
              where
                here : RootGoal done rs n full i ns (record { home = home.Root i; of = r.of; val = root_at g i })
                here free inside counts later =
                    one_home done done rs (i ∷ rs) seen (home.Root i) r.of (root_at g i) n full ns b c new (inl refl) (more_roots done rs i) inside (own_apart i r e) counts later
            by (Some (cell, t)) f = subst (RootGoal done rs n full i ns) (sym (standing_is w g s i r e (Some (cell, t)) f)) here free inside counts later
              where
                either_mine : (p : Pointer) → Among (all_pointers w g) p → (q : Pointer) → (q ≡ p) ⊎ Among seen q → Among (all_pointers w g) q
                either_mine p mine q (inl h) = subst (Among (all_pointers w g)) (sym h) mine
                either_mine p mine q (inr x) = b.mine q x

                either_home : (p : Pointer) → p.home ≡ home.Root i → (q : Pointer) → (q ≡ p) ⊎ Among seen q → IsDone done (i ∷ rs) q.home
                either_home p k q (inl h) = subst (IsDone done (i ∷ rs)) (sym (ap (λ (x : Pointer). x.home) h ∙ k)) (inl refl)
                either_home p k q (inr x) = more_roots done rs i q.home (b.homes q x)

                here : RootGoal done rs n full i ns (record { home = cell_home cell; of = t; val = cell_at g cell })
                here free inside counts later =
                    let (to, d, (ks, v), ty) = known i r e cell t f in
                    let p : Pointer = record { home = home.Root i; node = 0; class = Ref; to = to.0; cell = Some cell; agreements = [] } in
                    let mine = direct_mine w g s i r e to d cell ks v in
                    let typed = (is_good w g s p mine).typed cell refl in
                    one_more (all_pointers w g) s.unshared m n full seen p (standing_names w (record { home = cell_home cell; of = t; val = cell_at g cell }) ++ ns) c
                    (λ q x. shares done rs seen b (home.Root i) new q p x mine refl) counts
                    (λ n' full' c' counts'.
                    one_home done ((Ref, cell) ∷ done) (i ∷ rs) (i ∷ rs) (p ∷ seen) (cell_home cell) t (cell_at g cell) n' full' ns
                    (record {
                      mine = λ q x. either_mine p mine q x;
                      homes = λ q x. either_home p refl q x;
                    }) c' free.0 (inl refl) (more_placed done (i ∷ rs) (Ref, cell)) inside
                    (subst (λ u. AllEarlier ShareOnlyIfFull (home_pointers w.table (cell_home cell) u (cell_at g cell))) (sym ty) (home_apart cell to.0 typed)) counts' later)
