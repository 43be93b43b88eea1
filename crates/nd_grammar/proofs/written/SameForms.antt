-- For graphs that are the same up to the numbers of their cells, the same octets are written.
use Rattle.std.proofs.Common.{◌≡◌, ℕ, ◌+◌, ◌<◌, ◌≤◌, zero, suc, Bool, true, false, List, [], ◌∷◌, ◌++◌, length, Option, Some, None, refl, ap, ap₂, sym, ◌∙◌, inl, inr, ◌⊎◌, arith, subst, replicate}
use Rattle.std.proofs.Common.{drop}
use Rattle.std.specs.Prelude.{map, flat_map, eqb, cond}
use Rattle.std.specs.List.{AllByRecursion, slice_get}
use Rattle.std.proofs.lemmas.Bool.{eqb-true, eqb-false, eq-eqb}
use Rattle.std.proofs.lemmas.Option.{same_Some, slice_get-get_or}
use Rattle.nd_base.specs.declared.octets.Order.{Order}
use Rattle.nd_types.specs.declared.types.TypeDef.{TypeDef}
use Rattle.nd_types.specs.declared.types.TypeId.{TypeId}
use Rattle.nd_types.specs.declared.types.TypeDef.TheVariants as def
use Rattle.nd_types.specs.declared.types.Class.{Class}
use Rattle.nd_types.specs.declared.types.Class.TheVariants.{Ref, Unique, Full}
use Rattle.nd_types.specs.Table.{Table, type_at}
use Rattle.nd_types.specs.Roots.{Root}
use Rattle.nd_value.specs.declared.value.Graph.{Graph}
use Rattle.nd_value.specs.declared.item.Home.{Home}
use Rattle.nd_value.specs.declared.item.Home.TheVariants as home
use Rattle.nd_value.specs.Tree as tree
use Rattle.nd_value.specs.Tree.{Tree, Trees, node, none, more, Label, Referent, trees, count, node_count, take_trees, drop_trees}
use Rattle.nd_value.specs.Setting.{Setting, Among, root_list, root_at, or_unread, cell_home, cell_at, cell_tree}
use Rattle.nd_value.specs.Nodes.{nodes_of}
use Rattle.nd_value.specs.Deferral.{Pending, pointer, home_pointers, Due, due_root, due_referent, due_roots, before_pipes, Step, Deferral, none_due, at_root, at_null, at_standing, at_referent}
use Rattle.nd_value.specs.Deferral.{IsPlaced, Placed_cells, Standing, standing_root, standing_by, standing_cell, direct, root_type, due_of, root_cell}
use Rattle.nd_value.specs.Canon.{named, own_cell, named_cells, has, number_from, canonical_number, Same, renumbered, renumbered_label}
use Rattle.nd_value.specs.Conforms.{Conforms}
use Rattle.nd_value.specs.Misfit.{is_no_null_ref}
use Rattle.nd_value.proofs.Apart.{all_append, among_left, among_right}
use Rattle.nd_value.proofs.DeferralLaws.{full_stands}
use Rattle.nd_value.proofs.Waiting.{not_equal}
use Rattle.nd_grammar.specs.LegalSide.{IsLegalSide}
use Rattle.nd_grammar.specs.Entry.{Entry, size_at, tests, in_place}
use Rattle.nd_grammar.specs.Stream.{step_entries, standing_entries, step_tests, root_tests, chunk_entries, chunks, pipe_entries, pipes_entries, kids_of, Chosen, octets_of, octets_from, pipe_cuts}
use Rattle.nd_grammar.specs.Stream.{cut_of}
use Rattle.nd_grammar.proofs.conforming.GoodStream.{PendingGood, StandsGood, DueGood, standing_due, pending_cell, root_good}
use Rattle.nd_grammar.proofs.LegalSides.{laid_out}
use Rattle.nd_grammar.proofs.next.Mapped.{no_pointers}
use Rattle.nd_grammar.proofs.next.NextStream.{IsPipeRoot, FitsPipes}
use Rattle.nd_grammar.proofs.reader.ReaderTests.{IsTest, root_tests_are}
use Rattle.nd_grammar.proofs.ChosenRepresents.{w_roots, own_by, own_within, cell_within, none_inside, dues, steps_within, of_named, all_members}
use Rattle.nd_grammar.proofs.written.WritableTrees.{WritableTrees}
use Rattle.nd_grammar.proofs.RenumberedEntries.{count_same, take_same, drop_same, carried, PendLike, AllPend, pointers_alike, named_same, AllSame, same_append, same_octets, OneNumber, in_place_alike}
use Rattle.nd_grammar.proofs.RenumberedEntries.{whole_alike}

-- tests are not written
skip_tests : (order : Order) (nums : ℕ → ℕ) (ts qs : List Entry) → AllByRecursion IsTest ts → (at : ℕ) → octets_from order nums at (ts ++ qs) ≡ octets_from order nums at qs
skip_tests order nums [] qs a at = refl
skip_tests order nums (t ∷ ts) qs a at =
    let (q, x, y, e) = a.0 in
    let z : size_at at t.kind ≡ 0 = ap (size_at at) e in
    let z' : at + size_at at t.kind ≡ at = omega arith in
    ap₂ (λ o s. o ++ octets_from order nums s (ts ++ qs)) (ap (octets_of order nums at) e) z' ∙ skip_tests order nums ts qs a.1 at

skip_behind : (order : Order) (nums : ℕ → ℕ) (fs ts qs : List Entry) → AllByRecursion IsTest ts → (at : ℕ) → octets_from order nums at ((fs ++ ts) ++ qs) ≡ octets_from order nums at (fs ++ qs)
skip_behind order nums [] ts qs a at = skip_tests order nums ts qs a at
skip_behind order nums (f ∷ fs) ts qs a at = ap (λ u. octets_of order nums at f.kind ++ u) (skip_behind order nums fs ts qs a (at + size_at at f.kind))

module _ (m : ℕ → ℕ) where
  -- a value with its cells renumbered
  abbrev pub TreeLike : Tree → Tree → Type 0
  TreeLike v u = more u none ≡ renumbered m (more v none)

  abbrev pub AllLike : List Tree → List Tree → Type 0
  AllLike [] [] = Unit {0}
  AllLike (v ∷ vs) (u ∷ us) = TreeLike v u × AllLike vs us
  AllLike _ _ = ⊥

  abbrev pub first : Tree → Trees → Tree
  first d none = d
  first d (more t ts) = t

  abbrev rest : Trees → Trees
  rest none = none
  rest (more t ts) = ts

  all_like : (vs us : List Tree) → renumbered m (trees vs) ≡ trees us → AllLike vs us
  all_like [] [] e = tt
  all_like [] (u ∷ us) e = cc
  all_like (node l ks ∷ vs) [] e = cc
  all_like (node l ks ∷ vs) (u ∷ us) e = (ap (λ t. more t none) (ap (first u) (sym e)), all_like vs us (ap rest e))

  like_at : (vs us : List Tree) → AllLike vs us → (i : ℕ) → TreeLike (or_unread (slice_get vs i)) (or_unread (slice_get us i))
  like_at [] [] a i = refl
  like_at [] (u ∷ us) a i = absurd a
  like_at (v ∷ vs) [] a i = absurd a
  like_at (v ∷ vs) (u ∷ us) a zero = a.0
  like_at (v ∷ vs) (u ∷ us) a (suc i) = like_at vs us a.1 i

  like_drop : (k : ℕ) (vs us : List Tree) → AllLike vs us → AllLike (drop k vs) (drop k us)
  like_drop zero vs us a = a
  like_drop (suc k) [] [] a = tt
  like_drop (suc k) [] (u ∷ us) a = absurd a
  like_drop (suc k) (v ∷ vs) [] a = absurd a
  like_drop (suc k) (v ∷ vs) (u ∷ us) a = like_drop k vs us a.1

  -- cells that stand, renumbered
  abbrev pub moved : Placed_cells → Placed_cells
  moved [] = []
  moved (d ∷ ds) = (d.0, m d.1) ∷ moved ds

  moved_append : (xs ys : Placed_cells) → moved (xs ++ ys) ≡ moved xs ++ moved ys
  moved_append [] ys = refl
  moved_append (x ∷ xs) ys = ap (λ u. (x.0, m x.1) ∷ u) (moved_append xs ys)

  moved_placed : (done : Placed_cells) (c : ℕ) → IsPlaced done c → IsPlaced (moved done) (m c)
  moved_placed [] c h = absurd h
  moved_placed (d ∷ ds) c (inl e) = inl (ap m e)
  moved_placed (d ∷ ds) c (inr h) = inr (moved_placed ds c h)

  -- numbers by the order of naming
  module _ (In : ℕ → Type 0) (apart : (a b : ℕ) → In a → In b → m a ≡ m b → a ≡ b) where
    eqb_same : (a b : ℕ) → In a → In b → eqb (m a) (m b) ≡ eqb a b
    eqb_same a b x y = go (eqb a b) refl
      where
        go : (t : Bool) → eqb a b ≡ t → eqb (m a) (m b) ≡ t
        go true e = eq-eqb (m a) (m b) (ap m (eqb-true a b e))
        go false e = not_equal (m a) (m b) (λ f. eqb-false a b e (apart a b x y f))

    has_same : (xs : List ℕ) (c : ℕ) → AllByRecursion In xs → In c → has (map m xs) (m c) ≡ has xs c
    has_same [] c a x = refl
    has_same (y ∷ xs) c a x = ap₂ (λ u v. cond u true v) (eqb_same c y x a.0) (has_same xs c a.1 x)

    abbrev turn : Bool → Bool → ℕ → ℕ → ℕ → ℕ
    turn b e n p q = elim b [ true ↦ p | false ↦ elim e [ true ↦ n | false ↦ q ] ]

    from_same : (n : ℕ) (seen ds : List ℕ) (c : ℕ) → AllByRecursion In seen → AllByRecursion In ds → In c → number_from n (map m seen) (map m ds) (m c) ≡ number_from n seen ds c
    from_same n seen [] c a b x = refl
    from_same n seen (d ∷ ds) c a b x =
        let p : number_from n (map m seen) (map m ds) (m c) ≡ number_from n seen ds c = from_same n seen ds c a b.1 x in
        let q : number_from (n + 1) (map m (d ∷ seen)) (map m ds) (m c) ≡ number_from (n + 1) (d ∷ seen) ds c = from_same (n + 1) (d ∷ seen) ds c (b.0, a) b.1 x in
        ap₂ (λ u v. turn u v n (number_from n (map m seen) (map m ds) (m c)) (number_from (n + 1) (map m (d ∷ seen)) (map m ds) (m c))) (has_same seen d a b.0) (eqb_same c d x b.0)
        ∙ ap₂ (λ u v. turn (has seen d) (eqb c d) n u v) p q

    pub canon_same : (ds : List ℕ) (c : ℕ) → AllByRecursion In ds → In c → canonical_number (map m ds) (m c) ≡ canonical_number ds c
    canon_same ds c a x = from_same 1 [] ds c tt a x

  map_joined : (xs ys : List ℕ) → map m (xs ++ ys) ≡ map m xs ++ map m ys
  map_joined [] ys = refl
  map_joined (x ∷ xs) ys = ap (λ u. m x ∷ u) (map_joined xs ys)

  abbrev pub moved_pair : Option (ℕ × ℕ) → Option (ℕ × ℕ)
  moved_pair None = None
  moved_pair (Some p) = Some (m p.0, p.1)

  direct_like : (d : Option TypeDef) (l : Label) (ks : Trees) → is_no_null_ref d l ≡ true
      → direct d (node (renumbered_label m l) (renumbered m ks)) ≡ moved_pair (direct d (node l ks))
  direct_like (Some (def.Pointer Ref to)) (tree.Ptr (Some c)) ks h = refl
  direct_like (Some (def.Pointer Ref to)) (tree.Ptr None) ks h = cc
  direct_like (Some (def.Pointer Ref to)) (tree.Num z) ks h = refl
  direct_like (Some (def.Pointer Ref to)) _ ks h = refl
  direct_like (Some (def.Pointer Unique to)) l ks h = refl
  direct_like (Some (def.Pointer Full to)) l ks h = refl
  direct_like None l ks h = refl
  direct_like (Some (def.Prim q)) l ks h = refl
  direct_like (Some _) l ks h = refl

  abbrev pub DueLike : Due → Due → Type 0
  DueLike (due_root i) (due_root j) = i ≡ j
  DueLike (due_referent p) (due_referent q) = PendLike m p q
  DueLike _ _ = ⊥

  abbrev pub AllDue : List Due → List Due → Type 0
  AllDue [] [] = Unit {0}
  AllDue (d ∷ ds) (e ∷ es) = DueLike d e × AllDue ds es
  AllDue _ _ = ⊥

  then_due : (ps qs : List Pending) (ds es : List Due) → AllPend m ps qs → AllDue ds es → AllDue (map due_referent ps ++ ds) (map due_referent qs ++ es)
  then_due [] [] ds es a b = b
  then_due [] (q ∷ qs) ds es a b = absurd a
  then_due (p ∷ ps) [] ds es a b = absurd a
  then_due (p ∷ ps) (q ∷ qs) ds es a b = (a.0, then_due ps qs ds es a.1 b)

  same_roots : (i n : ℕ) → AllDue (due_roots i n) (due_roots i n)
  same_roots i zero = tt
  same_roots i (suc n) = (refl, same_roots (suc i) n)

  -- a value that stands, renumbered
  pub record StandLike (x y : Standing) : Type 0 where
    pub of : y.of ≡ x.of
    pub val : more y.val none ≡ renumbered m (more x.val none)
    pub own : own_cell y.home ≡ map m (own_cell x.home)
    pub root : root_cell y.home ≡ moved (root_cell x.home)

  module _ (table : Table) where
    stand_pend : (x y : Standing) → StandLike x y → AllPend m (home_pointers table x.home x.of x.val) (home_pointers table y.home y.of y.val)
    stand_pend x y s =
        subst (λ u. AllPend m (home_pointers table x.home x.of x.val) (flat_map (pointer table y.home) (nodes_of table (u ∷ []) [] 0 (more y.val none)))) (sym s.of)
        (subst (λ u. AllPend m (home_pointers table x.home x.of x.val) (flat_map (pointer table y.home) (nodes_of table (x.of ∷ []) [] 0 u))) (sym s.val)
        (pointers_alike m table x.home y.home (x.of ∷ []) [] 0 0 (more x.val none)))

    stand_named : (x y : Standing) → StandLike x y → named table y ≡ map m (named table x)
    stand_named x y s = named_same m (home_pointers table x.home x.of x.val) (home_pointers table y.home y.of y.val) (stand_pend x y s)

    module _ (order : Order) (nums nums' : ℕ → ℕ) where
      stand_same : (x y : Standing) → StandLike x y → ((c : ℕ) → Among (named table x) c → nums' (m c) ≡ nums c) → AllSame m order nums nums' (standing_entries table x) (standing_entries table y)
      stand_same x y s f =
          subst (λ u. AllSame m order nums nums' (standing_entries table x) (standing_entries table (record { home = y.home; of = u; val = y.val }))) (sym s.of)
          (whole_alike m order nums nums' table x.home y.home x.of x.val y.val s.val
          (all_members (OneNumber m order nums nums') (home_pointers table x.home x.of x.val) (λ p a c e. f c (of_named (home_pointers table x.home x.of x.val) c p a e))))

      some_tests : (h h' : Home) (v v' : Tree) (n n' : ℕ) (p q : Pending) → PendLike m p q → AllSame m order nums nums' (tests h n v p.agreements) (tests h' n' v' q.agreements)
      some_tests h h' v v' n n' p q k = subst (λ u. AllSame m order nums nums' (tests h n v p.agreements) (tests h' n' v' u)) (sym k.agreements) (go p.agreements)
        where
          go : (ags : List _) → AllSame m order nums nums' (tests h n v ags) (tests h' n' v' ags)
          go [] = tt
          go (a ∷ ags) = ((λ at. (refl, refl)), go ags)

module _ (w : Setting) (side : IsLegalSide w) (g h : Graph) (c : Conforms w g) (s : Same g h) where
  abbrev m : ℕ → ℕ
  m = s.image

  abbrev In : ℕ → Type 0
  In k = (0 < k) × (k ≤ length g.cells)

  apart : (a b : ℕ) → In a → In b → m a ≡ m b → a ≡ b
  apart a b x y e = s.one_to_one a b x.0 x.1 y.0 y.1 e

  roots_like : AllLike m g.roots h.roots
  roots_like = all_like m g.roots h.roots s.roots

  -- the value of a cell
  value_like : (k : ℕ) → In k → TreeLike m (cell_at g k) (cell_at h (m k))
  value_like zero x = absurd (omega arith)
  value_like (suc i) x = by_image (m (suc i)) refl
    where
      by_image : (q : ℕ) → m (suc i) ≡ q → more (cell_at h q) none ≡ renumbered m (more (cell_at g (suc i)) none)
      by_image zero e = let z = (s.within (suc i) (omega arith) x.1).0 in absurd (omega arith)
      by_image (suc j) e =
          let r = s.within (suc i) (omega arith) x.1 in
          let lg : i < length g.cells = omega arith in
          let lh : j < length h.cells = omega (arith, r.1, e, s.as_many) in
          let d : Referent = record { of = 0; val = node tree.Unread none } in
          let eg = slice_get-get_or g.cells i d lg in
          let eh = slice_get-get_or h.cells j d lh in
          let k = (s.cells i j _ _ eg e eh).1 in
          ap (λ u. more u none) (ap cell_tree eh) ∙ sym k ∙ ap (λ u. renumbered m (more u none)) (sym (ap cell_tree eg))

  -- what stands for a root
  by_direct : (i t : ℕ) (l : Label) (ks : Trees) (u : Tree) → TreeLike m (node l ks) u → WritableTrees w.table g (t ∷ []) (more (node l ks) none) → (o : Option (ℕ × ℕ))
      → direct (type_at w.table t) (node l ks) ≡ o → (o' : Option (ℕ × ℕ)) → direct (type_at w.table t) u ≡ o' → StandLike m (standing_by g i t (node l ks) o) (standing_by h i t u o')
  by_direct i t l ks u v a o e o' e' = go o o' e (sym e' ∙ ap (λ z. direct (type_at w.table t) z) same ∙ direct_like m (type_at w.table t) l ks a.0.fit.no_null ∙ ap (moved_pair m) e)
    where
      same : u ≡ node (renumbered_label m l) (renumbered m ks)
      same = ap (first m u) v

      go : (o o' : Option (ℕ × ℕ)) → direct (type_at w.table t) (node l ks) ≡ o → o' ≡ moved_pair m o → StandLike m (standing_by g i t (node l ks) o) (standing_by h i t u o')
      go None None e f = record { of = refl; val = v; own = refl; root = refl }
      go None (Some q) e f = cc
      go (Some p) None e f = cc
      go (Some p) (Some q) e f =
          let x : In p.0 = own_by w side g c i t l ks a (Some (p.0, p.1)) e p.0 (inl refl) in
          let k : q ≡ (m p.0, p.1) = same_Some _ _ f in
          subst (λ z. StandLike m (standing_by g i t (node l ks) (Some p)) (standing_by h i t u (Some z))) (sym k) (record { of = refl; val = value_like p.0 x; own = refl; root = refl })

  by_tree : (i t : ℕ) (v u : Tree) → TreeLike m v u → WritableTrees w.table g (t ∷ []) (more v none)
      → StandLike m (standing_by g i t v (direct (type_at w.table t) v)) (standing_by h i t u (direct (type_at w.table t) u))
  by_tree i t (node l ks) u v a = by_direct i t l ks u v a (direct (type_at w.table t) (node l ks)) refl (direct (type_at w.table t) u) refl

  root_like : (i : ℕ) (r : Root) → slice_get (root_list w) i ≡ Some r → StandLike m (standing_root w g i) (standing_root w h i)
  root_like i r e =
      subst (λ t. StandLike m (standing_by g i t (root_at g i) (direct (type_at w.table t) (root_at g i))) (standing_by h i t (root_at h i) (direct (type_at w.table t) (root_at h i))))
      (sym (ap root_type e))
      (by_tree i r.of (root_at g i) (root_at h i) (like_at m g.roots h.roots roots_like i) (w_roots w side g c i r e))

  cell_like : (p q : Pending) → PendLike m p q → (k : ℕ) → In k → StandLike m (standing_cell g p k) (standing_cell h q (m k))
  cell_like p q l k x = record { of = l.to; val = value_like k x; own = refl; root = refl }

  abbrev D : Due → Type 0
  D = DueGood w (none_inside w side g c) g

  -- two orders of deferral, step by step
  pub record Alike (us vs : List Step) : Type 0 where
    pub named : named_cells w h vs ≡ map s.image (named_cells w g us)
    pub same : (order : Order) (nums nums' : ℕ → ℕ) → ((k : ℕ) → Among (named_cells w g us) k → nums' (s.image k) ≡ nums k)
        → AllSame s.image order nums nums' (flat_map (step_entries w g) us) (flat_map (step_entries w h) vs)

  none_some : {X : Type 0} (p q : Pending) (k : ℕ) → PendLike m p q → p.cell ≡ None → q.cell ≡ Some k → X
  none_some p q k l e f = go (l.cell ∙ ap (carried m) e)
    where
      go : {X : Type 0} → q.cell ≡ None → X
      go z = cc

  some_none : {X : Type 0} (p q : Pending) (k : ℕ) → PendLike m p q → p.cell ≡ Some k → q.cell ≡ None → X
  some_none p q k l e f = go (l.cell ∙ ap (carried m) e)
    where
      go : {X : Type 0} → q.cell ≡ Some (m k) → X
      go z = cc

  its_image : (p q : Pending) (k k' : ℕ) → PendLike m p q → p.cell ≡ Some k → q.cell ≡ Some k' → k' ≡ m k
  its_image p q k k' l e f = same_Some k' (m k) (sym f ∙ l.cell ∙ ap (carried m) e)

  cell_in : (p : Pending) → PendingGood w (none_inside w side g c) g p → (k : ℕ) → p.cell ≡ Some k → In k
  cell_in p a k e = let (x, ex, et) = a.pointee k e in cell_within w side g c k x ex

  unmoved : (done : Placed_cells) → ((k : ℕ) → IsPlaced done k → In k) → (k : ℕ) → In k → IsPlaced (moved m done) (m k) → IsPlaced done k
  unmoved [] f k x p = absurd p
  unmoved (d ∷ ds) f k x (inl e) = inl (apart k d.1 x (f d.1 (inl refl)) e)
  unmoved (d ∷ ds) f k x (inr p) = inr (unmoved ds (λ q r. f q (inr r)) k x p)

  own_in : (i : ℕ) (r : Root) → slice_get (root_list w) i ≡ Some r → (k : ℕ) → IsPlaced (root_cell (standing_root w g i).home) k → Among (own_cell (standing_root w g i).home) k
  own_in i r e k = go (standing_root w g i).home
    where
      go : (x : Home) → IsPlaced (root_cell x) k → Among (own_cell x) k
      go (home.Root j) a = absurd a
      go (home.Cell b) (inl f) = inl f
      go (home.Cell b) (inr a) = absurd a

  placed_split : (xs ys : Placed_cells) (k : ℕ) → IsPlaced (xs ++ ys) k → IsPlaced xs k ⊎ IsPlaced ys k
  placed_split [] ys k a = inr a
  placed_split (x ∷ xs) ys k (inl e) = inl (inl e)
  placed_split (x ∷ xs) ys k (inr a) = go (placed_split xs ys k a)
    where
      go : IsPlaced xs k ⊎ IsPlaced ys k → IsPlaced (x ∷ xs) k ⊎ IsPlaced ys k
      go (inl b) = inl (inl_of b)
        where
          inl_of : IsPlaced xs k → IsPlaced (x ∷ xs) k
          inl_of b = inr b
      go (inr b) = inr b

  either_in : (k : ℕ) {A B : Type 0} → A ⊎ B → (A → In k) → (B → In k) → In k
  either_in k (inl a) f z = f a
  either_in k (inr b) f z = z b

  joined : (xs ys zs us vs ws : List ℕ) → us ≡ map m xs → vs ≡ map m ys → ws ≡ map m zs → (us ++ vs) ++ ws ≡ map m ((xs ++ ys) ++ zs)
  joined xs ys zs us vs ws a b e =
      ap₂ (λ p q. p ++ q) (ap₂ (λ p q. p ++ q) a b ∙ sym (map_joined m xs ys)) e ∙ sym (map_joined m (xs ++ ys) zs)

  own_root : (i : ℕ) (r : Root) → slice_get (root_list w) i ≡ Some r → (k : ℕ) → Among (own_cell (standing_root w g i).home) k → In k
  own_root i r e k a = own_within w side g c i r e k a

  also : (done : Placed_cells) (q : Class) (k : ℕ) → In k → ((j : ℕ) → IsPlaced done j → In j) → (j : ℕ) → IsPlaced ((q, k) ∷ done) j → In j
  also done q k x f j (inl e) = subst In (sym e) x
  also done q k x f j (inr a) = f j a

  pub orders_alike : {done : Placed_cells} {due : List Due} {us : List Step} → Deferral w g done due us → {done' : Placed_cells} {due' : List Due} {vs : List Step} → Deferral w h done' due' vs
      → done' ≡ moved s.image done → AllDue s.image due due' → AllByRecursion (DueGood w (none_inside w side g c) g) due → ((k : ℕ) → IsPlaced done k → In k) → Alike us vs
  orders_alike none_due none_due e a d f = record { named = refl; same = λ order nums nums' k. tt }
  orders_alike none_due (at_root fr b) e a d f = absurd a
  orders_alike none_due (at_null q b) e a d f = absurd a
  orders_alike none_due (at_standing k q u p b) e a d f = absurd a
  orders_alike none_due (at_referent k q n b) e a d f = absurd a
  orders_alike (at_root fr b) none_due e a d f = absurd a
  orders_alike (at_root fr b) (at_null q z) e a d f = absurd a.0
  orders_alike (at_root fr b) (at_standing k q u p z) e a d f = absurd a.0
  orders_alike (at_root fr b) (at_referent k q n z) e a d f = absurd a.0
  orders_alike (at_root {done = done} {i = i} {due = due} {steps = us} fr b) (at_root {done = done'} {i = j} {due = due'} {steps = vs} fr' b') e a d f =
      let (r, er, pr) = d.0 in
      let x : Standing = standing_root w g i in
      let sl : StandLike m x (standing_root w h i) = root_like i r er in
      let y : Standing = standing_root w h j in
      let sj : StandLike m x y = subst (λ k. StandLike m x (standing_root w h k)) a.0 sl in
      let sg : StandsGood w (none_inside w side g c) g x = root_good w (none_inside w side g c) g c i r er pr in
      let ps : List Pending = home_pointers w.table x.home x.of x.val in
      let qs : List Pending = home_pointers w.table y.home y.of y.val in
      let k : Alike us vs =
      orders_alike b b' (ap₂ (λ u v. u ++ v) sj.root e ∙ sym (moved_append m (root_cell x.home) done)) (then_due m ps qs due due' (stand_pend m w.table x y sj) a.1)
      (all_append D (due_of w.table x) due (standing_due w (none_inside w side g c) g x sg) d.1)
      (λ q z. either_in q (placed_split (root_cell x.home) done q z) (λ t. own_root i r er q (own_in i r er q t)) (λ t. f q t)) in
      record {
        named = joined (own_cell x.home) (named w.table x) (named_cells w g us) (own_cell y.home) (named w.table y) (named_cells w h vs) sj.own (stand_named m w.table x y sj) k.named;
        same = λ order nums nums' z.
            same_append m order nums nums' (standing_entries w.table x) (standing_entries w.table y) (flat_map (step_entries w g) us) (flat_map (step_entries w h) vs)
            (stand_same m w.table order nums nums' x y sj (λ q t. z q (among_left (own_cell x.home ++ named w.table x) (named_cells w g us) q (among_right (own_cell x.home) (named w.table x) q t))))
            (k.same order nums nums' (λ q t. z q (among_right (own_cell x.home ++ named w.table x) (named_cells w g us) q t)));
      }
  orders_alike (at_null q b) none_due e a d f = absurd a
  orders_alike (at_null q b) (at_root fr z) e a d f = absurd a.0
  orders_alike (at_null q b) (at_null q' b') e a d f = orders_alike b b' e a.1 d.1 f
  orders_alike (at_null {p = p} q b) (at_standing {p = p'} k q' u t z) e a d f = none_some p p' k a.0 q q'
  orders_alike (at_null {p = p} q b) (at_referent {p = p'} k q' n z) e a d f = none_some p p' k a.0 q q'
  orders_alike (at_standing k q u t b) none_due e a d f = absurd a
  orders_alike (at_standing k q u t b) (at_root fr z) e a d f = absurd a.0
  orders_alike (at_standing {p = p} k q u t b) (at_null {p = p'} q' z) e a d f = some_none p p' k a.0 q q'
  orders_alike (at_standing {done = done} {p = p} {steps = us} k q u t b) (at_standing {p = p'} {steps = vs} k' q' u' t' b') e a d f =
      let r : Alike us vs = orders_alike b b' e a.1 d.1 f in
      record {
        named = r.named;
        same = λ order nums nums' z.
            same_append m order nums nums' (step_tests g p k) (step_tests h p' k') (flat_map (step_entries w g) us) (flat_map (step_entries w h) vs)
            (some_tests m w.table order nums nums' (cell_home k) (cell_home k') (cell_at g k) (cell_at h k') 0 0 p p' a.0) (r.same order nums nums' z);
      }
  orders_alike (at_standing {done = done} {p = p} k q u t b) (at_referent {done = done'} {p = p'} k' q' n z) e a d f =
      let i : k' ≡ m k = its_image p p' k k' a.0 q q' in
      absurd (n (subst (λ x. IsPlaced x k') (sym e) (subst (IsPlaced (moved m done)) (sym i) (moved_placed m done k (full_stands done k t)))))
  orders_alike (at_referent k q n b) none_due e a d f = absurd a
  orders_alike (at_referent k q n b) (at_root fr z) e a d f = absurd a.0
  orders_alike (at_referent {p = p} k q n b) (at_null {p = p'} q' z) e a d f = some_none p p' k a.0 q q'
  orders_alike (at_referent {done = done} {p = p} k q n b) (at_standing {done = done'} {p = p'} k' q' u t z) e a d f =
      let i : k' ≡ m k = its_image p p' k k' a.0 q q' in
      let x : In k = cell_in p d.0 k q in
      absurd (n (unmoved done f k x (subst (IsPlaced (moved m done)) i (subst (λ y. IsPlaced y k') e (full_stands done' k' t)))))
  orders_alike (at_referent {done = done} {p = p} {due = due} {steps = us} k q n b) (at_referent {done = done'} {p = p'} {due = due'} {steps = vs} k' q' n' b') e a d f =
      let i : k' ≡ m k = its_image p p' k k' a.0 q q' in
      let x : In k = cell_in p d.0 k q in
      let sx : Standing = standing_cell g p k in
      let sy : Standing = standing_cell h p' k' in
      let sl : StandLike m sx sy = subst (λ z. StandLike m sx (standing_cell h p' z)) (sym i) (cell_like p p' a.0 k x) in
      let sg : StandsGood w (none_inside w side g c) g sx = pending_cell w (none_inside w side g c) g c p d.0 k q in
      let ps : List Pending = home_pointers w.table sx.home sx.of sx.val in
      let qs : List Pending = home_pointers w.table sy.home sy.of sy.val in
      let r : Alike us vs =
      orders_alike b b' (ap₂ (λ u v. u ∷ v) (ap₂ (λ u v. (u, v)) a.0.class i) e) (then_due m ps qs due due' (stand_pend m w.table sx sy sl) a.1)
      (all_append D (due_of w.table sx) due (standing_due w (none_inside w side g c) g sx sg) d.1) (also done p.class k x f) in
      record {
        named = ap₂ (λ u v. u ++ v) (stand_named m w.table sx sy sl) r.named ∙ sym (map_joined m (named w.table sx) (named_cells w g us));
        same = λ order nums nums' z.
            same_append m order nums nums' (standing_entries w.table sx ++ step_tests g p k) (standing_entries w.table sy ++ step_tests h p' k') (flat_map (step_entries w g) us)
            (flat_map (step_entries w h) vs)
            (same_append m order nums nums' (standing_entries w.table sx) (standing_entries w.table sy) (step_tests g p k) (step_tests h p' k')
            (stand_same m w.table order nums nums' sx sy sl (λ y t. z y (among_left (named w.table sx) (named_cells w g us) y t)))
            (some_tests m w.table order nums nums' (cell_home k) (cell_home k') (cell_at g k) (cell_at h k') 0 0 p p' a.0))
            (r.same order nums nums' (λ y t. z y (among_right (named w.table sx) (named_cells w g us) y t)));
      }

  -- pipes
  module _ (order : Order) (nums nums' : ℕ → ℕ) where
    abbrev Same_entries : List Entry → List Entry → Type 0
    Same_entries = AllSame s.image order nums nums'

    elements_fit : (t : ℕ) (x : TypeId) → type_at w.table t ≡ Some (def.Pipe x) → (k : ℕ) → AllByRecursion (FitsPipes w.table) (replicate k x.0)
    elements_fit t x e zero = tt
    elements_fit t x e (suc k) = ((laid_out w side).elements t x e, elements_fit t x e k)

    chunks_alike : (h1 h2 : Home) (t : ℕ) (x : TypeId) → type_at w.table t ≡ Some (def.Pipe x) → (n n' : ℕ) (cut : List ℕ) (ts : Trees)
        → AllSame s.image order nums nums' (chunks w.table h1 x.0 n cut ts) (chunks w.table h2 x.0 n' cut (renumbered s.image ts))
    chunks_alike h1 h2 t x e n n' [] ts = ((λ at. (refl, refl)), ((λ at. (refl, refl)), tt))
    chunks_alike h1 h2 t x e n n' (k ∷ cut) ts =
        let T : Trees = take_trees k ts in
        let U : Trees = take_trees k (renumbered s.image ts) in
        let no_p : flat_map (pointer w.table h1) (nodes_of w.table (replicate k x.0) [] n T) ≡ [] = no_pointers w.table h1 (replicate k x.0) [] n T (elements_fit t x e k) in
        let a : Same_entries (in_place w.table h1 (replicate k x.0) n T) (in_place w.table h2 (replicate k x.0) n' (renumbered s.image T)) =
        in_place_alike s.image order nums nums' w.table h1 h2 (replicate k x.0) [] n n' T (subst (AllByRecursion (OneNumber s.image order nums nums')) (sym no_p) tt) in
        let a' : Same_entries (in_place w.table h1 (replicate k x.0) n T) (in_place w.table h2 (replicate k x.0) n' U) =
        subst (λ u. Same_entries (in_place w.table h1 (replicate k x.0) n T) (in_place w.table h2 (replicate k x.0) n' u)) (sym (take_same s.image k ts)) a in
        let b = chunks_alike h1 h2 t x e (n + node_count T) (n' + node_count U) cut (drop_trees k ts) in
        let b' : Same_entries (chunks w.table h1 x.0 (n + node_count T) cut (drop_trees k ts)) (chunks w.table h2 x.0 (n' + node_count U) cut (drop_trees k (renumbered s.image ts))) =
        subst (λ u. Same_entries (chunks w.table h1 x.0 (n + node_count T) cut (drop_trees k ts)) (chunks w.table h2 x.0 (n' + node_count U) cut u)) (sym (drop_same s.image k ts)) b in
        same_append s.image order nums nums' (chunk_entries w.table h1 x.0 n k T) (chunk_entries w.table h2 x.0 n' k U) _ _ ((λ at. (refl, refl)), ((λ at. (refl, refl)), a')) b'

    pipe_alike : (h1 h2 : Home) (r : Root) (l : Label) (ks : Trees) (cut : List ℕ) → IsPipeRoot w.table r
        → AllSame s.image order nums nums' (pipe_entries w.table h1 (type_at w.table r.of) cut (node l ks))
        (pipe_entries w.table h2 (type_at w.table r.of) cut (node (renumbered_label s.image l) (renumbered s.image ks)))
    pipe_alike h1 h2 r l ks cut q =
        subst (λ d. Same_entries (pipe_entries w.table h1 d cut (node l ks)) (pipe_entries w.table h2 d cut (node (renumbered_label s.image l) (renumbered s.image ks)))) (sym q.type_is) (by_label l)
      where
        by_label : (l : Label)
            → AllSame s.image order nums nums' (pipe_entries w.table h1 (Some (def.Pipe q.elem)) cut (node l ks))
            (pipe_entries w.table h2 (Some (def.Pipe q.elem)) cut (node (renumbered_label s.image l) (renumbered s.image ks)))
        by_label tree.Pipe = chunks_alike h1 h2 r.of q.elem q.type_is 1 1 cut ks
        by_label (tree.Ptr None) = ((λ at. (refl, refl)), tt)
        by_label (tree.Ptr (Some k)) = ((λ at. (refl, refl)), tt)
        by_label (tree.Num z) = ((λ at. (refl, refl)), tt)
        by_label tree.Rec = ((λ at. (refl, refl)), tt)
        by_label (tree.Arr x y) = ((λ at. (refl, refl)), tt)
        by_label (tree.Text x y) = ((λ at. (refl, refl)), tt)
        by_label (tree.Union x) = ((λ at. (refl, refl)), tt)
        by_label (tree.Context x y) = ((λ at. (refl, refl)), tt)
        by_label tree.Unread = ((λ at. (refl, refl)), tt)

    pipes_alike : (i : ℕ) (rs : List Root) (vs us : List Tree) (chunk : ℕ) → AllByRecursion (IsPipeRoot w.table) rs → AllLike s.image vs us
        → AllSame s.image order nums nums' (pipes_entries w.table i rs vs (pipe_cuts chunk vs)) (pipes_entries w.table i rs us (pipe_cuts chunk us))
    pipes_alike i [] vs us chunk p a = none_there vs us
      where
        none_there : (vs us : List Tree) → AllSame s.image order nums nums' (pipes_entries w.table i [] vs (pipe_cuts chunk vs)) (pipes_entries w.table i [] us (pipe_cuts chunk us))
        none_there vs us = tt
    pipes_alike i (r ∷ rs) [] [] chunk p a = tt
    pipes_alike i (r ∷ rs) [] (u ∷ us) chunk p a = absurd a
    pipes_alike i (r ∷ rs) (v ∷ vs) [] chunk p a = absurd a
    pipes_alike i (r ∷ rs) (node l ks ∷ vs) (u ∷ us) chunk p a =
        let u' : Tree = node (renumbered_label s.image l) (renumbered s.image ks) in
        let e : u ≡ u' = ap (first m u) a.0 in
        let cut : List ℕ = cut_of chunk (count ks) in
        let x : Same_entries (pipe_entries w.table (home.Root i) (type_at w.table r.of) cut (node l ks))
        (pipe_entries w.table (home.Root i) (type_at w.table r.of) (cut_of chunk (count (renumbered s.image ks))) u') =
        subst (λ k. Same_entries (pipe_entries w.table (home.Root i) (type_at w.table r.of) cut (node l ks)) (pipe_entries w.table (home.Root i) (type_at w.table r.of) (cut_of chunk k) u'))
        (sym (count_same s.image ks))
        (pipe_alike (home.Root i) (home.Root i) r l ks cut p.0) in
        let x' : Same_entries (pipe_entries w.table (home.Root i) (type_at w.table r.of) cut (node l ks))
        (pipe_entries w.table (home.Root i) (type_at w.table r.of) (cut_of chunk (count (kids_of u))) u) =
        subst (λ y. Same_entries (pipe_entries w.table (home.Root i) (type_at w.table r.of) cut (node l ks))
        (pipe_entries w.table (home.Root i) (type_at w.table r.of) (cut_of chunk (count (kids_of y))) y)) (sym e) x in
        same_append s.image order nums nums' (pipe_entries w.table (home.Root i) (type_at w.table r.of) cut (node l ks))
        (pipe_entries w.table (home.Root i) (type_at w.table r.of) (cut_of chunk (count (kids_of u))) u) _ _ x'
        (pipes_alike (i + 1) rs vs us chunk p.1 a.1)

  -- The same octets are written.
  pub same_written : (order : Order) (chunk : ℕ) (octets octets' : List ℕ) → Chosen w order chunk g octets → Chosen w order chunk h octets' → octets ≡ octets'
  same_written order chunk octets octets' o u =
      let k : ℕ = before_pipes (root_list w) in
      let all : Alike o.steps u.steps = orders_alike o.deferral u.deferral refl (same_roots m 0 k) (dues w side g c) (λ q a. absurd a) in
      let ds : List ℕ = named_cells w g o.steps in
      let in_all : AllByRecursion In ds = all_members In ds (λ d a. steps_within w side g c o.deferral (dues w side g c) d a) in
      let nums : ℕ → ℕ = canonical_number ds in
      let nums' : ℕ → ℕ = canonical_number (named_cells w h u.steps) in
      let numbers : (q : ℕ) → Among ds q → nums' (s.image q) ≡ nums q =
      λ q a. ap (λ l. canonical_number l (s.image q)) all.named ∙ canon_same m In apart ds q in_all (steps_within w side g c o.deferral (dues w side g c) q a) in
      let F : List Entry = flat_map (step_entries w g) o.steps in
      let F' : List Entry = flat_map (step_entries w h) u.steps in
      let T : List Entry = root_tests w g 0 (root_list w) g.roots in
      let T' : List Entry = root_tests w h 0 (root_list w) h.roots in
      let Q : List Entry = pipes_entries w.table k (drop k (root_list w)) (drop k g.roots) (pipe_cuts chunk (drop k g.roots)) in
      let Q' : List Entry = pipes_entries w.table k (drop k (root_list w)) (drop k h.roots) (pipe_cuts chunk (drop k h.roots)) in
      let a : AllSame s.image order nums nums' (F ++ Q) (F' ++ Q') =
      same_append s.image order nums nums' F F' Q Q' (all.same order nums nums' numbers)
      (pipes_alike order nums nums' k (drop k (root_list w)) (drop k g.roots) (drop k h.roots) chunk (laid_out w side).pipes (like_drop m k g.roots h.roots roots_like)) in
      o.written
      ∙ skip_behind order nums F T Q (root_tests_are w g 0 (root_list w) g.roots) 0
      ∙ same_octets s.image order nums nums' (F ++ Q) (F' ++ Q') a 0
      ∙ sym (skip_behind order nums' F' T' Q' (root_tests_are w h 0 (root_list w) h.roots) 0)
      ∙ sym u.written
