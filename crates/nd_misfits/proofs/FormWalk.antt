-- How a walk goes through the nodes of values that have the form of their types.
use Rattle.std.proofs.Common.{◌≡◌, ℕ, ◌+◌, ◌≤◌, zero, suc, true, List, [], ◌∷◌, drop, Some, refl, ap, sym, ◌∙◌, arith, subst}
use Rattle.std.specs.List.{slice_get}
use Rattle.std.proofs.lemmas.Bool.{and_parts, and_from}
use Rattle.std.proofs.lemmas.Option.{same_Some}
use Rattle.nd_types.specs.Table.{Table, type_at, fits_octets}
use Rattle.nd_value.specs.Tree.{Tree, Trees, Label, node, none, more, trees, node_count}
use Rattle.nd_value.specs.Nodes.{child_types}
use Rattle.nd_value.specs.Misfit.{has_shape, has_range, has_arm}
use Rattle.nd_misfits.specs.Searched.{label_in, kids_in}
use Rattle.nd_misfits.specs.Pointers.{are_formed}
use Rattle.nd_lemmas.proofs.Lists.{drop_next as drop-get}

pub split_count : (v : Tree) (vs : List Tree) → node_count (trees (v ∷ vs)) ≡ node_count (more v none) + node_count (trees vs)
split_count (node l ks) vs = omega arith

-- the number after the nodes so far, and the nodes that are left
abbrev pub Counted : List Tree → ℕ → ℕ → ℕ → Type 0
Counted vs start i now = now + node_count (trees (drop i vs)) ≡ start + node_count (trees vs)

module _ (vs : List Tree) (start i now : ℕ) (v : Tree) (there : slice_get vs i ≡ Some v) (w : Counted vs start i now) where
  parts : now + (node_count (more v none) + node_count (trees (drop (i + 1) vs))) ≡ start + node_count (trees vs)
  parts = ap (λ k. now + k) (sym (ap (λ us. node_count (trees us)) (drop-get vs i v there) ∙ split_count v (drop (i + 1) vs))) ∙ w

  -- the next value fits among the nodes that are numbered
  pub next_few : now + node_count (more v none) ≤ start + node_count (trees vs)
  next_few = omega (arith, parts)

  pub next_counted : (m : ℕ) → m ≡ now + node_count (more v none) → Counted vs start (i + 1) m
  next_counted m e = omega (arith, parts, e)

pub next_smaller : (vs : List Tree) (i : ℕ) (v : Tree) → slice_get vs i ≡ Some v → node_count (more v none) ≤ node_count (trees vs)
next_smaller [] i v e = cc
next_smaller (u ∷ us) zero v e = let s : node_count (more u none) ≡ node_count (more v none) = ap (λ x. node_count (more x none)) (same_Some u v e) in omega (arith, s, split_count u us)
next_smaller (u ∷ us) (suc i) v e = omega (arith, next_smaller us i v e, split_count u us)

module _ (table : Table) where
  -- a node that has the form of its type
  pub record HasForm (t : ℕ) (l : Label) (ks : Trees) : Type 0 where
    pub shape : has_shape (type_at table t) l ks ≡ true
    pub range : has_range fits_octets table (type_at table t) l ≡ true
    pub arm : has_arm (type_at table t) l ≡ true
    pub kids : are_formed table (child_types (type_at table t) l ks) ks ≡ true

  split_formed : (t : ℕ) (types : List ℕ) (l : Label) (ks vs : Trees) → are_formed table (t ∷ types) (more (node l ks) vs) ≡ true
      → HasForm t l ks × (are_formed table types vs ≡ true)
  split_formed t types l ks vs h =
      let (a, h1) = and_parts _ _ h in
      let (b, h2) = and_parts _ _ h1 in
      let (c, h3) = and_parts _ _ h2 in
      let (d, e) = and_parts _ _ h3 in
      (record { shape = a; range = b; arm = c; kids = d }, e)

  pub first_formed : (t : ℕ) (types : List ℕ) (l : Label) (ks vs : Trees) → are_formed table (t ∷ types) (more (node l ks) vs) ≡ true → HasForm t l ks
  first_formed t types l ks vs h = (split_formed t types l ks vs h).0

  pub rest_formed : (t : ℕ) (types : List ℕ) (v : Tree) (vs : Trees) → are_formed table (t ∷ types) (more v vs) ≡ true → are_formed table types vs ≡ true
  rest_formed t types (node l ks) vs h = (split_formed t types l ks vs h).1

  pub from_form : (t : ℕ) (types : List ℕ) (l : Label) (ks vs : Trees) → HasForm t l ks → are_formed table types vs ≡ true
      → are_formed table (t ∷ types) (more (node l ks) vs) ≡ true
  from_form t types l ks vs f e = and_from _ _ f.shape (and_from _ _ f.range (and_from _ _ f.arm (and_from _ _ f.kids e)))

  pub alone_formed : (t : ℕ) (types : List ℕ) (v : Tree) (vs : Trees) → are_formed table (t ∷ types) (more v vs) ≡ true
      → are_formed table (t ∷ []) (more v none) ≡ true
  alone_formed t types (node l ks) vs h = from_form t [] l ks none (first_formed t types l ks vs h) refl

  -- one of values of these types
  pub formed_at : (types : List ℕ) (vs : List Tree) (i t : ℕ) (v : Tree) → are_formed table types (trees vs) ≡ true
      → slice_get types i ≡ Some t → slice_get vs i ≡ Some v → are_formed table (t ∷ []) (more v none) ≡ true
  formed_at [] vs i t v h e f = cc
  formed_at (u ∷ us) [] i t v h e f = cc
  formed_at (u ∷ us) (x ∷ xs) zero t v h e f =
      subst (λ w. are_formed table (w ∷ []) (more v none) ≡ true) (same_Some u t e)
      (subst (λ w. are_formed table (u ∷ []) (more w none) ≡ true) (same_Some x v f) (alone_formed u us x (trees xs) h))
  formed_at (u ∷ us) (x ∷ xs) (suc i) t v h e f = formed_at us xs i t v (rest_formed u us x (trees xs) h) e f

  -- a value whose node has the form of its type
  pub tree_formed : (t : ℕ) (v : Tree) → are_formed table (t ∷ []) (more v none) ≡ true → HasForm t (label_in v) (kids_in v)
  tree_formed t (node l ks) h = first_formed t [] l ks none h
