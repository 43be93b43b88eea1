-- Where octets spell the first entries of two streams, one map of cells carries the cells that stand and those that numbers name.
use Rattle.std.proofs.Common.{◌≡◌, ℕ, Bool, true, false, List, [], ◌∷◌, ◌++◌, Option, Some, None, refl, ap, ap₂, sym, ◌∙◌, inl, inr, ◌⊎◌, subst}
use Rattle.std.specs.Prelude.{map, eqb}
use Rattle.std.specs.List.{AllByRecursion}
use Rattle.std.proofs.lemmas.Bool.{eqb-true, eqb-false}
use Rattle.std.proofs.lemmas.Option.{same_Some}
use Rattle.nd_types.specs.declared.types.Class.{Class}
use Rattle.nd_types.specs.Number.{unsigned}
use Rattle.nd_value.specs.declared.value.Graph.{Graph}
use Rattle.nd_value.specs.declared.item.Home.{Home}
use Rattle.nd_value.specs.declared.item.Home.TheVariants as home
use Rattle.nd_value.specs.Setting.{Setting, Among}
use Rattle.nd_value.specs.Deferral.{Pending}
use Rattle.nd_value.specs.Conforms.{all_pointers, ShareOnlyIfFull}
use Rattle.nd_value.proofs.Apart.{all_append, all_among, among_left, among_right}
use Rattle.nd_value.proofs.NodeFacts.{IsSound}
use Rattle.nd_grammar.specs.Entry.{Kind, EntryAt, Number}
use Rattle.nd_grammar.specs.Stream.{IsRendered, Spells, piece}
use Rattle.nd_grammar.specs.NextMark.{form, IsOneToOne, HomesCorrespond, AllCorrespond, named_cell, CellsCorrespond, AllNameAlike}
use Rattle.nd_grammar.proofs.next.StreamPointers.{NumberOf, KindHasPointer, HasPointer, is_good}
use Rattle.nd_grammar.proofs.next.Matching.{CellsMatch}
use Rattle.nd_grammar.proofs.next.Next.{Pair, HomesMeet, Readings}
use Rattle.nd_grammar.proofs.next.NextInPlace.{NoNull, cells_match}
use Rattle.nd_grammar.proofs.next.PointerPlaces.{among_two, one_at_node}
use Rattle.nd_grammar.proofs.next.RefusedAlike.{SeenAlike, AllSeenAlike, one_home, one_home_back, piece_alike}
use Rattle.nd_grammar.proofs.next.Standings.{AreNamed, IsMap, no_left, no_right, full_match}

abbrev pub cells_of : List Pair → List (ℕ × ℕ)
cells_of xs = map (λ z. (z.left, z.right)) xs

pub among_cells : (xs : List Pair) (z : Pair) → Among xs z → Among (cells_of xs) (z.left, z.right)
among_cells [] z a = absurd a
among_cells (x ∷ xs) z (inl e) = inl (ap (λ u. (u.left, u.right)) e)
among_cells (x ∷ xs) z (inr a) = inr (among_cells xs z a)

turned : (p q : Pending) → ShareOnlyIfFull p q → ShareOnlyIfFull q p
turned p q m c e f = let r = m c f e in (r.1, r.0)

-- whether a kind is a pointer's number
abbrev is_number : Kind → Bool
is_number (Number k to c) = true
is_number _ = false

number_form : (x : Kind) → is_number (form x) ≡ is_number x
number_form (Number k to c) = refl
number_form _ = refl

abbrev NumberView : Kind → Type 0
NumberView x = ((k : Class) × (to : ℕ) × (c : Option ℕ) × (x ≡ Number k to c)) ⊎ ((is_number x ≡ false) × (named_cell x ≡ None))

number_view : (x : Kind) → NumberView x
number_view (Number k to c) = inl (k, to, c, refl)
number_view _ = inr (refl, refl)

-- a list of pairs has one with a left cell, or none
find_left : (c : ℕ) (cells : List (ℕ × ℕ)) → ((y : ℕ × ℕ) × Among cells y × (c ≡ y.0)) ⊎ AllByRecursion (λ y. c ≡ y.0 → ⊥) cells
find_left c [] = inr tt
find_left c (x ∷ xs) = go (eqb c x.0) refl (find_left c xs)
  where
    go : (b : Bool) → eqb c x.0 ≡ b → ((y : ℕ × ℕ) × Among xs y × (c ≡ y.0)) ⊎ AllByRecursion (λ y. c ≡ y.0 → ⊥) xs
        → ((y : ℕ × ℕ) × Among (x ∷ xs) y × (c ≡ y.0)) ⊎ AllByRecursion (λ y. c ≡ y.0 → ⊥) (x ∷ xs)
    go true e r = inl (x, inl refl, eqb-true c x.0 e)
    go false e (inl (y, a, f)) = inl (y, inr a, f)
    go false e (inr r) = inr ((λ f. eqb-false c x.0 e f), r)

module _ (two : Readings) (w : Setting) (g h : Graph) (s : IsSound w g) (s' : IsSound w h) (zs : List Pair) (m : IsMap two w g h zs) where
  abbrev IsNamed : ℕ × ℕ → Type 0
  IsNamed u = AreNamed two w g h zs u.0 u.1

  -- pairs whose cells are named alike have one right cell where they have one left cell, and the other way round
  same_right : (u v : ℕ × ℕ) → IsNamed u → IsNamed v → u.0 ≡ v.0 → u.1 ≡ v.1
  same_right u v a b e = go (among_two ShareOnlyIfFull turned (all_pointers w g) s.unshared a.left b.left a.in_left b.in_left)
    where
      go : (a.left ≡ b.left) ⊎ ShareOnlyIfFull a.left b.left → u.1 ≡ v.1
      go (inr f) =
          let (x, y) = f u.0 a.left_cell (b.left_cell ∙ ap Some (sym e)) in
          two.right_one u.1 v.1 (sym (a.number x) ∙ ap two.left e ∙ b.number y)
      go (inl f) =
          let at_home : a.right.home ≡ b.right.home = one_home zs m.one a.left.home a.right.home b.right.home a.homes
          (subst (λ p. HomesMeet zs p.home b.right.home) (sym f) b.homes) in
          let at_node : a.right.node ≡ b.right.node = sym a.node ∙ ap (λ p. p.node) f ∙ b.node in
          let same : a.right ≡ b.right = one_at_node w h a.right b.right a.in_right b.in_right at_home at_node in
          same_Some _ _ (sym a.right_cell ∙ ap (λ p. p.cell) same ∙ b.right_cell)

  same_left : (u v : ℕ × ℕ) → IsNamed u → IsNamed v → u.1 ≡ v.1 → u.0 ≡ v.0
  same_left u v a b e = go (among_two ShareOnlyIfFull turned (all_pointers w h) s'.unshared a.right b.right a.in_right b.in_right)
    where
      go : (a.right ≡ b.right) ⊎ ShareOnlyIfFull a.right b.right → u.0 ≡ v.0
      go (inr f) =
          let (x, y) = f u.1 a.right_cell (b.right_cell ∙ ap Some (sym e)) in
          two.left_one u.0 v.0 (a.number (a.class ∙ x) ∙ ap two.right e ∙ sym (b.number (b.class ∙ y)))
      go (inl f) =
          let at_home : a.left.home ≡ b.left.home = one_home_back zs m.one a.left.home b.left.home a.right.home a.homes
          (subst (λ p. HomesMeet zs b.left.home p.home) (sym f) b.homes) in
          let at_node : a.left.node ≡ b.left.node = a.node ∙ ap (λ p. p.node) f ∙ sym b.node in
          let same : a.left ≡ b.left = one_at_node w g a.left b.left a.in_left b.in_left at_home at_node in
          same_Some _ _ (sym a.left_cell ∙ ap (λ p. p.cell) same ∙ b.left_cell)

  -- pairs whose cells are named alike are all in a one-to-one map
  abbrev InOneMap : List (ℕ × ℕ) → Type 0
  InOneMap us = (cells : List (ℕ × ℕ)) × IsOneToOne cells × AllByRecursion IsNamed cells × ((u : ℕ × ℕ) → Among us u → Among cells u)

  apart_from : (x : ℕ × ℕ) → IsNamed x → (cells : List (ℕ × ℕ)) → AllByRecursion IsNamed cells → AllByRecursion (λ y. x.0 ≡ y.0 → ⊥) cells
      → AllByRecursion (λ y. (x.0 ≡ y.0 → ⊥) × (x.1 ≡ y.1 → ⊥)) cells
  apart_from x a [] b f = tt
  apart_from x a (y ∷ ys) b f = ((f.0, (λ e. f.0 (same_left x y a b.0 e))), apart_from x a ys b.1 f.1)

  one_map : (us : List (ℕ × ℕ)) → AllByRecursion IsNamed us → InOneMap us
  one_map [] a = ([], tt, tt, λ u b. b)
  one_map (x ∷ xs) a = let (cells, one, named, all) = one_map xs a.1 in go cells one named all (find_left x.0 cells)
    where
      go : (cells : List (ℕ × ℕ)) → IsOneToOne cells → AllByRecursion IsNamed cells → ((u : ℕ × ℕ) → Among xs u → Among cells u)
          → ((y : ℕ × ℕ) × Among cells y × (x.0 ≡ y.0)) ⊎ AllByRecursion (λ y. x.0 ≡ y.0 → ⊥) cells → InOneMap (x ∷ xs)
      go cells one named all (inr f) = (x ∷ cells, (apart_from x a.0 cells named f, one), (a.0, named), among)
        where
          among : (u : ℕ × ℕ) → Among (x ∷ xs) u → Among (x ∷ cells) u
          among u (inl e) = inl e
          among u (inr b) = inr (all u b)
      go cells one named all (inl (y, b, e)) = (cells, one, named, among)
        where
          same : y ≡ x
          same = sym (ap₂ (λ p q. (p, q)) e (same_right x y a.0 (all_among IsNamed cells y b named) e))

          among : (u : ℕ × ℕ) → Among (x ∷ xs) u → Among cells u
          among u (inl f) = subst (Among cells) (same ∙ sym f) b
          among u (inr c) = all u c

  -- the cells that two numbers name: null together, or named alike
  abbrev NameAlike : Option ℕ → Option ℕ → Type 0
  NameAlike None None = Unit {0}
  NameAlike (Some c) (Some d) = AreNamed two w g h zs c d
  NameAlike _ _ = ⊥

  abbrev Left : EntryAt → Type 0
  Left = IsRendered two.order two.left two.octets

  abbrev Right : EntryAt → Type 0
  Right = IsRendered two.order two.right two.octets

  module _ (x y : Home) (n n' : ℕ) (meet : HomesMeet zs x y) (at_node : n ≡ n') where
    by_cells : (k : Class) (c d : Option ℕ) → NumberOf (all_pointers w g) x n k c → NumberOf (all_pointers w h) y n' k d → CellsMatch two.left two.right k c d → NameAlike c d
    by_cells k None None p q r = tt
    by_cells k None (Some d) p q r = absurd (no_right two w g h k d r)
    by_cells k (Some c) None p q r = absurd (no_left two w g h k c r)
    by_cells k (Some c) (Some d) p q r = record {
      left = p.its;
      right = q.its;
      in_left = p.among;
      in_right = q.among;
      left_cell = p.cell;
      right_cell = q.cell;
      class = p.class ∙ sym q.class;
      node = p.node ∙ at_node ∙ sym q.node;
      homes = subst (λ u. HomesMeet zs u q.its.home) (sym p.home) (subst (λ u. HomesMeet zs x u) (sym q.home) meet);
      number = λ e. full_match two w g h k c d (sym p.class ∙ e) r;
    }

    not_null : (k : Class) (c : Option ℕ) (p : NumberOf (all_pointers w g) x n k c) → NoNull k c
    not_null k c p = subst (λ u. NoNull u c) p.class (subst (λ u. NoNull p.its.class u) p.cell (is_good w g s p.its p.among).no_null)

    not_null' : (k : Class) (c : Option ℕ) (p : NumberOf (all_pointers w h) y n' k c) → NoNull k c
    not_null' k c p = subst (λ u. NoNull u c) p.class (subst (λ u. NoNull p.its.class u) p.cell (is_good w h s' p.its p.among).no_null)

    by_numbers : (k k' : Class) (to to' : ℕ) (c d : Option ℕ) → form (Number k to c) ≡ form (Number k' to' d)
        → KindHasPointer (all_pointers w g) x n (Number k to c) → KindHasPointer (all_pointers w h) y n' (Number k' to' d)
        → (os : List ℕ) → Spells two.order two.left (Number k to c) os → Spells two.order two.right (Number k' to' d) os → NameAlike c d
    by_numbers k k' to to' c d e p q os a b =
        let same : k ≡ k' = cc in
        let q' : NumberOf (all_pointers w h) y n' k d = subst (λ u. NumberOf (all_pointers w h) y n' u d) (sym same) q in
        let b' : Spells two.order two.right (Number k to d) os = subst (λ u. Spells two.order two.right (Number u to d) os) (sym same) b in
        by_cells k c d p q' (cells_match two.left two.right two.left_low two.right_low k c d (unsigned two.order os) (not_null k c p) (not_null' k d q') a b')

    by_kinds : (kx ky : Kind) → form kx ≡ form ky → KindHasPointer (all_pointers w g) x n kx → KindHasPointer (all_pointers w h) y n' ky
        → (os : List ℕ) → Spells two.order two.left kx os → Spells two.order two.right ky os → NumberView kx → NumberView ky → NameAlike (named_cell kx) (named_cell ky)
    by_kinds kx ky e p q os a b (inr u) (inr v) =
        subst (λ o. NameAlike o (named_cell ky)) (sym u.1) (subst (λ o. NameAlike None o) (sym v.1) tt)
    by_kinds kx ky e p q os a b (inl (k, to, c, u)) (inr v) =
        let f : true ≡ false = sym (ap is_number u) ∙ sym (number_form kx) ∙ ap is_number e ∙ number_form ky ∙ v.0 in absurd (cc)
    by_kinds kx ky e p q os a b (inr u) (inl (k, to, c, v)) =
        let f : false ≡ true = sym u.0 ∙ sym (number_form kx) ∙ ap is_number e ∙ number_form ky ∙ ap is_number v in absurd (cc)
    by_kinds kx ky e p q os a b (inl (k, to, c, u)) (inl (k', to', d, v)) =
        subst (λ o. NameAlike (named_cell o) (named_cell ky)) (sym u) (subst (λ o. NameAlike c (named_cell o)) (sym v)
        (by_numbers k k' to to' c d (sym (ap form u) ∙ e ∙ ap form v)
        (subst (KindHasPointer (all_pointers w g) x n) u p) (subst (KindHasPointer (all_pointers w h) y n') v q) os
        (subst (λ o. Spells two.order two.left o os) u a) (subst (λ o. Spells two.order two.right o os) v b)))

  abbrev LeftHas : EntryAt → Type 0
  LeftHas x = HasPointer (all_pointers w g) x.entry

  abbrev RightHas : EntryAt → Type 0
  RightHas x = HasPointer (all_pointers w h) x.entry

  entry_named : (x y : EntryAt) → SeenAlike zs x y → Left x → Right y → LeftHas x → RightHas y → NameAlike (named_cell x.entry.kind) (named_cell y.entry.kind)
  entry_named x y a l r p q =
      by_kinds x.entry.home y.entry.home x.entry.node y.entry.node a.homes a.alike.0 x.entry.kind y.entry.kind a.alike.1 p q
      (piece two.octets x.at x.entry.kind) l.1
      (subst (Spells two.order two.right y.entry.kind) (sym (piece_alike two.order two.octets zs m.one x y a)) r.1)
      (number_view x.entry.kind) (number_view y.entry.kind)

  abbrev pair_of : Option ℕ → Option ℕ → List (ℕ × ℕ)
  pair_of (Some c) (Some d) = (c, d) ∷ []
  pair_of _ _ = []

  -- the pairs of cells that the numbers name
  abbrev named_pairs : List EntryAt → List EntryAt → List (ℕ × ℕ)
  named_pairs (x ∷ xs) (y ∷ ys) = pair_of (named_cell x.entry.kind) (named_cell y.entry.kind) ++ named_pairs xs ys
  named_pairs _ _ = []

  pair_named : (c d : Option ℕ) → NameAlike c d → AllByRecursion IsNamed (pair_of c d)
  pair_named None None a = tt
  pair_named None (Some d) a = tt
  pair_named (Some c) None a = tt
  pair_named (Some c) (Some d) a = (a, tt)

  pair_in : (cells : List (ℕ × ℕ)) (c d : Option ℕ) → NameAlike c d → ((u : ℕ × ℕ) → Among (pair_of c d) u → Among cells u) → CellsCorrespond cells c d
  pair_in cells None None a f = tt
  pair_in cells None (Some d) a f = a
  pair_in cells (Some c) None a f = a
  pair_in cells (Some c) (Some d) a f = f (c, d) (inl refl)

  abbrev AllNamed : List EntryAt → List EntryAt → Type 0
  AllNamed (x ∷ xs) (y ∷ ys) = NameAlike (named_cell x.entry.kind) (named_cell y.entry.kind) × AllNamed xs ys
  AllNamed [] [] = Unit {0}
  AllNamed _ _ = ⊥

  all_named : (xs ys : List EntryAt) → AllSeenAlike zs xs ys → AllByRecursion Left xs → AllByRecursion Right ys → AllByRecursion LeftHas xs → AllByRecursion RightHas ys
      → AllNamed xs ys
  all_named [] [] a l r p q = tt
  all_named [] (y ∷ ys) a l r p q = absurd a
  all_named (x ∷ xs) [] a l r p q = absurd a
  all_named (x ∷ xs) (y ∷ ys) a l r p q = (entry_named x y a.0 l.0 r.0 p.0 q.0, all_named xs ys a.1 l.1 r.1 p.1 q.1)

  pairs_named : (xs ys : List EntryAt) → AllNamed xs ys → AllByRecursion IsNamed (named_pairs xs ys)
  pairs_named [] [] a = tt
  pairs_named [] (y ∷ ys) a = absurd a
  pairs_named (x ∷ xs) [] a = absurd a
  pairs_named (x ∷ xs) (y ∷ ys) a =
      all_append IsNamed (pair_of (named_cell x.entry.kind) (named_cell y.entry.kind)) (named_pairs xs ys)
      (pair_named (named_cell x.entry.kind) (named_cell y.entry.kind) a.0) (pairs_named xs ys a.1)

  name_alike : (cells : List (ℕ × ℕ)) (xs ys : List EntryAt) → AllNamed xs ys → ((u : ℕ × ℕ) → Among (named_pairs xs ys) u → Among cells u) → AllNameAlike cells xs ys
  name_alike cells [] [] a f = tt
  name_alike cells [] (y ∷ ys) a f = absurd a
  name_alike cells (x ∷ xs) [] a f = absurd a
  name_alike cells (x ∷ xs) (y ∷ ys) a f =
      let own : List (ℕ × ℕ) = pair_of (named_cell x.entry.kind) (named_cell y.entry.kind) in (
        pair_in cells (named_cell x.entry.kind) (named_cell y.entry.kind) a.0 (λ u b. f u (among_left own (named_pairs xs ys) u b)),
        name_alike cells xs ys a.1 (λ u b. f u (among_right own (named_pairs xs ys) u b)),
      )

  standing_named : (xs : List Pair) → AllByRecursion (λ z. AreNamed two w g h zs z.left z.right) xs → AllByRecursion IsNamed (cells_of xs)
  standing_named [] a = tt
  standing_named (x ∷ xs) a = (a.0, standing_named xs a.1)

  home_in : (cells : List (ℕ × ℕ)) → ((z : Pair) → Among zs z → Among cells (z.left, z.right)) → (x y : Home) → HomesMeet zs x y → HomesCorrespond cells x y
  home_in cells f (home.Root i) (home.Root j) e = e
  home_in cells f (home.Cell c) (home.Cell d) (z, a, l, r) = subst (Among cells) (ap₂ (λ p q. (p, q)) l r) (f z a)
  home_in cells f (home.Root i) (home.Cell d) e = absurd e
  home_in cells f (home.Cell c) (home.Root j) e = absurd e

  homes_in : (cells : List (ℕ × ℕ)) → ((z : Pair) → Among zs z → Among cells (z.left, z.right)) → (xs ys : List EntryAt) → AllSeenAlike zs xs ys → AllCorrespond cells xs ys
  homes_in cells f [] [] a = tt
  homes_in cells f [] (y ∷ ys) a = absurd a
  homes_in cells f (x ∷ xs) [] a = absurd a
  homes_in cells f (x ∷ xs) (y ∷ ys) a = (home_in cells f x.entry.home y.entry.home a.0.homes, a.0.alike.0, homes_in cells f xs ys a.1)

  -- one map carries the homes of the entries and the cells that their numbers name
  pub one_map_of_all : (xs ys : List EntryAt) → AllSeenAlike zs xs ys → AllByRecursion Left xs → AllByRecursion Right ys
      → AllByRecursion (λ x. HasPointer (all_pointers w g) x.entry) xs → AllByRecursion (λ y. HasPointer (all_pointers w h) y.entry) ys
      → (cells : List (ℕ × ℕ)) × IsOneToOne cells × AllCorrespond cells xs ys × AllNameAlike cells xs ys
  one_map_of_all xs ys a l r p q =
      let names : AllNamed xs ys = all_named xs ys a l r p q in
      let us : List (ℕ × ℕ) = named_pairs xs ys in
      let (cells, one, named, all) = one_map (cells_of zs ++ us)
      (all_append IsNamed (cells_of zs) us (standing_named zs m.named) (pairs_named xs ys names)) in (
        cells,
        one,
        homes_in cells (λ z b. all (z.left, z.right) (among_left (cells_of zs) us (z.left, z.right) (among_cells zs z b))) xs ys a,
        name_alike cells xs ys names (λ u b. all u (among_right (cells_of zs) us u b)),
      )
