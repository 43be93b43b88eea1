-- A graph that is its own canonical form is so with other pipes, if these name no cells.
use Rattle.std.proofs.Common.{◌≡◌, ◌<◌, ◌≤◌, ◌∙◌, ap, ap₂, refl, ℕ, zero, suc, List, [], ◌∷◌, ◌++◌, length, take, replicate, Option, Some, None, arith}
use Rattle.std.specs.Prelude.{map}
use Rattle.std.specs.List.{AllByRecursion, slice_get}
use Rattle.nd_types.specs.Table.{type_at}
use Rattle.nd_value.specs.declared.value.Graph.{Graph}
use Rattle.nd_value.specs.Canon.{IsCanon, canonical_number, named, named_cells, own_cell, Same, renumbered, renumbered_label}
use Rattle.nd_value.specs.Deferral.{Deferral, none_due, at_root, at_null, at_standing, at_referent, Due, due_referent, Pending, Step, Placed_cells, before_pipes, direct, due_roots, home_pointers}
use Rattle.nd_value.specs.Deferral.{root_type, standing_by, standing_cell, standing_root}
use Rattle.nd_value.specs.Setting.{Setting, cell_at, cell_home, or_unread, root_at, root_list}
use Rattle.nd_value.specs.Tree.{Tree, more, node, trees}
use Rattle.ndr_drain_laws.specs.parts.Parts.{empty_pipe, with_pipes}
use Rattle.ndr_drain_laws.proofs.parts.Heads.{IsEarly, early_roots, same_deferral}

pub take_first : {X : Type 0} (us vs : List X) (n : ℕ) → length us ≡ n → take n (us ++ vs) ≡ us
take_first [] vs zero e = refl
take_first [] vs (suc n) e = cc
take_first (u ∷ us) vs zero e = cc
take_first (u ∷ us) vs (suc n) e = ap (λ xs. u ∷ xs) (take_first us vs n (omega (arith, e)))

-- pipes without elements name no cells
pub empty_still : (n : ℕ) (m : ℕ → ℕ) → renumbered m (trees (replicate n empty_pipe)) ≡ trees (replicate n empty_pipe)
empty_still zero m = refl
empty_still (suc n) m = ap (more empty_pipe) (empty_still n m)

-- trees that a map of cells leaves, up to others that it leaves
first_still : (m : ℕ → ℕ) (n : ℕ) (us pipes : List Tree) → renumbered m (trees us) ≡ trees us → renumbered m (trees pipes) ≡ trees pipes
    → renumbered m (trees (take n us ++ pipes)) ≡ trees (take n us ++ pipes)
first_still m zero us pipes e f = f
first_still m (suc n) [] pipes e f = f
first_still m (suc n) (node l ks ∷ us) pipes e f =
    let a : node (renumbered_label m l) (renumbered m ks) ≡ node l ks = cc in
    let b : renumbered m (trees us) ≡ trees us = cc in
    ap₂ more a (first_still m n us pipes b f)

early_take : (n i : ℕ) (us vs : List Tree) → i < n → n ≤ length us → slice_get us i ≡ slice_get (take n us ++ vs) i
early_take zero i us vs h l = absurd (omega (arith, h))
early_take (suc n) i [] vs h l = absurd (omega (arith, l))
early_take (suc n) zero (u ∷ us) vs h l = refl
early_take (suc n) (suc i) (u ∷ us) vs h l = early_take n i us vs (omega (arith, h)) (omega (arith, l))

early_map : (n : ℕ) (ps : List Pending) (due : List Due) → AllByRecursion (IsEarly n) due → AllByRecursion (IsEarly n) (map due_referent ps ++ due)
early_map n [] due a = a
early_map n (p ∷ ps) due a = (tt, early_map n ps due a)

module _ (w : Setting) (g : Graph) (pipes : List Tree) (still : (m : ℕ → ℕ) → renumbered m (trees pipes) ≡ trees pipes) (few : before_pipes (root_list w) ≤ length g.roots) where
  abbrev n : ℕ
  n = before_pipes (root_list w)

  abbrev k : Graph
  k = with_pipes w g pipes

  cells : (c : ℕ) → cell_at g c ≡ cell_at k c
  cells zero = refl
  cells (suc i) = refl

  roots : (i : ℕ) → i < n → root_at g i ≡ root_at k i
  roots i h = ap or_unread (early_take n i g.roots pipes h few)

  by_same : (i t : ℕ) (v : Tree) (o : Option (ℕ × ℕ)) → standing_by g i t v o ≡ standing_by k i t v o
  by_same i t v None = refl
  by_same i t v (Some d) = ap (λ u. record { home = cell_home d.0; of = d.1; val = u }) (cells d.0)

  root_same : (i : ℕ) → i < n → standing_root w g i ≡ standing_root w k i
  root_same i h =
      let t : ℕ = root_type (slice_get (root_list w) i) in
      ap (λ v. standing_by g i t v (direct (type_at w.table t) v)) (roots i h) ∙ by_same i t (root_at k i) (direct (type_at w.table t) (root_at k i))

  cell_same : (p : Pending) (c : ℕ) → standing_cell g p c ≡ standing_cell k p c
  cell_same p c = ap (λ u. record { home = cell_home c; of = p.to; val = u }) (cells c)

  -- the cells are named in the same order
  same_names : {done : Placed_cells} {due : List Due} {steps : List Step} → AllByRecursion (IsEarly n) due → Deferral w g done due steps → named_cells w g steps ≡ named_cells w k steps
  same_names a none_due = refl
  same_names a (at_root {i = i} {due = due} f d) =
      ap₂ (λ x y. (own_cell x.home ++ named w.table x) ++ y) (root_same i a.0)
      (same_names (early_map n (home_pointers w.table (standing_root w g i).home (standing_root w g i).of (standing_root w g i).val) due a.1) d)
  same_names a (at_null e d) = same_names a.1 d
  same_names a (at_standing c e f p d) = same_names a.1 d
  same_names a (at_referent {p = p} {due = due} c e f d) =
      ap₂ (λ x y. named w.table x ++ y) (cell_same p c)
      (same_names (early_map n (home_pointers w.table (standing_cell g p c).home (standing_cell g p c).of (standing_cell g p c).val) due a.1) d)

  pub canonical_pipes : IsCanon w g g → IsCanon w k k
  canonical_pipes c =
      let early : AllByRecursion (IsEarly n) (due_roots 0 n) = early_roots n 0 n (omega arith) in
      let s : Same g g = c.same in
      let same : Same k k = record {
        image = s.image;
        as_many = refl;
        within = s.within;
        one_to_one = s.one_to_one;
        elsewhere = s.elsewhere;
        roots = first_still s.image n g.roots pipes s.roots (still s.image);
        cells = s.cells;
      } in
      record {
        steps = c.steps;
        deferral = same_deferral w g k n cells roots early c.deferral;
        same = same;
        numbered = λ d lo hi. c.numbered d lo hi ∙ ap (λ u. canonical_number u d) (same_names early c.deferral);
      }
