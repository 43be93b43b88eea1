-- The head of a stream is the same whatever is in the pipes.
use Rattle.std.proofs.Common.{◌≡◌, ◌<◌, ◌≤◌, ◌∙◌, ap, ap₂, subst, refl, ℕ, ◌+◌, zero, suc, List, [], ◌∷◌, ◌++◌, map, flat_map, Option, Some, None, arith}
use Rattle.std.specs.List.{AllByRecursion, slice_get}
use Rattle.nd_types.specs.Table.{type_at}
use Rattle.nd_value.specs.declared.value.Graph.{Graph}
use Rattle.nd_value.specs.Tree.{Tree}
use Rattle.nd_value.specs.Setting.{Setting, root_list, root_at, cell_at, cell_home}
use Rattle.nd_value.specs.Deferral.{Deferral, none_due, at_root, at_null, at_standing, at_referent, Due, due_root, due_referent, due_roots, due_of, Step, standing_root, standing_cell, standing_by}
use Rattle.nd_value.specs.Deferral.{direct, root_type, root_cell, Placed_cells, AreFree, Pending, home_pointers}
use Rattle.nd_grammar.specs.Entry.{tests}
use Rattle.nd_grammar.specs.Stream.{step_entries, standing_entries, step_tests}

-- a root that is due is before the pipes
abbrev pub IsEarly : ℕ → Due → Type 0
IsEarly n (due_root i) = i < n
IsEarly n (due_referent p) = Unit {0}

early_map : (n : ℕ) (ps : List Pending) (due : List Due) → AllByRecursion (IsEarly n) due → AllByRecursion (IsEarly n) (map due_referent ps ++ due)
early_map n [] due a = a
early_map n (p ∷ ps) due a = (tt, early_map n ps due a)

pub early_roots : (n i k : ℕ) → i + k ≤ n → AllByRecursion (IsEarly n) (due_roots i k)
early_roots n i zero h = tt
early_roots n i (suc k) h = (omega (arith, h), early_roots n (suc i) k (omega (arith, h)))

module _ (w : Setting) (g g' : Graph) (n : ℕ) (cells : (c : ℕ) → cell_at g c ≡ cell_at g' c) (roots : (i : ℕ) → i < n → root_at g i ≡ root_at g' i) where
  by_same : (i t : ℕ) (v : Tree) (o : Option (ℕ × ℕ)) → standing_by g i t v o ≡ standing_by g' i t v o
  by_same i t v None = refl
  by_same i t v (Some d) = ap (λ u. record { home = cell_home d.0; of = d.1; val = u }) (cells d.0)

  root_same : (i : ℕ) → i < n → standing_root w g i ≡ standing_root w g' i
  root_same i h =
      let t : ℕ = root_type (slice_get (root_list w) i) in
      ap (λ v. standing_by g i t v (direct (type_at w.table t) v)) (roots i h) ∙ by_same i t (root_at g' i) (direct (type_at w.table t) (root_at g' i))

  cell_same : (p : Pending) (c : ℕ) → standing_cell g p c ≡ standing_cell g' p c
  cell_same p c = ap (λ u. record { home = cell_home c; of = p.to; val = u }) (cells c)

  tests_alike : (p : Pending) (c : ℕ) → step_tests g p c ≡ step_tests g' p c
  tests_alike p c = ap (λ u. tests (cell_home c) 0 u p.agreements) (cells c)

  -- the order of deferral is the same
  pub same_deferral : {done : Placed_cells} {due : List Due} {steps : List Step} → AllByRecursion (IsEarly n) due → Deferral w g done due steps → Deferral w g' done due steps
  same_deferral a none_due = none_due
  same_deferral {done = done} a (at_root {i = i} {due = due} {steps = steps} f d) =
      let e : standing_root w g i ≡ standing_root w g' i = root_same i a.0 in
      at_root (subst (λ x. AreFree (root_cell x.home) done) e f)
      (subst (λ x. Deferral w g' (root_cell x.home ++ done) (due_of w.table x ++ due) steps) e
      (same_deferral (early_map n (home_pointers w.table (standing_root w g i).home (standing_root w g i).of (standing_root w g i).val) due a.1) d))
  same_deferral a (at_null e d) = at_null e (same_deferral a.1 d)
  same_deferral a (at_standing c e f p d) = at_standing c e f p (same_deferral a.1 d)
  same_deferral {done = done} a (at_referent {p = p} {due = due} {steps = steps} c e f d) =
      at_referent c e f (subst (λ x. Deferral w g' ((p.class, c) ∷ done) (due_of w.table x ++ due) steps) (cell_same p c)
      (same_deferral (early_map n (home_pointers w.table (standing_cell g p c).home (standing_cell g p c).of (standing_cell g p c).val) due a.1) d))

  -- and so are the entries of its steps
  pub same_steps : {done : Placed_cells} {due : List Due} {steps : List Step} → AllByRecursion (IsEarly n) due → Deferral w g done due steps
      → flat_map (step_entries w g) steps ≡ flat_map (step_entries w g') steps
  same_steps a none_due = refl
  same_steps a (at_root {i = i} {due = due} f d) =
      ap₂ (λ x y. standing_entries w.table x ++ y) (root_same i a.0)
      (same_steps (early_map n (home_pointers w.table (standing_root w g i).home (standing_root w g i).of (standing_root w g i).val) due a.1) d)
  same_steps a (at_null e d) = same_steps a.1 d
  same_steps a (at_standing {p = p} c e f q d) = ap₂ (λ x y. x ++ y) (tests_alike p c) (same_steps a.1 d)
  same_steps a (at_referent {p = p} {due = due} c e f d) =
      ap₂ (λ x y. x ++ y) (ap₂ (λ x y. standing_entries w.table x ++ y) (cell_same p c) (tests_alike p c))
      (same_steps (early_map n (home_pointers w.table (standing_cell g p c).home (standing_cell g p c).of (standing_cell g p c).val) due a.1) d)
