-- A graph of values of the program without a first misfit conforms: which cells are reached can be decided.
-- `w` is a setting, `g` a graph, `p` a pointer, `b` and `c` are numbers of cells, `x` is a cell, `m` a misfit.
use Rattle.std.proofs.Common.{◌≡◌, ℕ, ◌<◌, ◌≤◌, ◌^◌, zero, suc, Bool, true, false, ◌||◌, eqb, ◌≢◌, List, [], ◌∷◌, length, Option, Some, None, refl, ap, sym, ◌∙◌, subst, inl, inr, ◌⊎◌, arith}
use Rattle.std.specs.List.{list_all, slice_get}
use Rattle.std.proofs.lemmas.Bool.{eqb-true, eq-eqb, or_cases}
use Rattle.std.proofs.lemmas.Bool.Decides.{eqb_tells}
use Rattle.nd_value.specs.declared.value.Graph.{Graph}
use Rattle.nd_value.specs.Tree.{Referent}
use Rattle.nd_value.specs.Setting.{Setting, Among, root_list, cell_home, cell_of_number}
use Rattle.nd_value.specs.Deferral.{Pending, home_pointers}
use Rattle.nd_value.specs.Conforms.{all_nodes, all_pointers, root_pointers, Conforms, HasFewNodes, Reached, by_root, by_cell, MisfitAt, first_local, first_shared, first_disagreeing, IsFirstUnreached}
use Rattle.nd_value.specs.Conforms.{IsFirstMisfit, is_local, is_shared, is_unreached, is_disagreeing}
use Rattle.nd_value.specs.Misfit.{has_machine_values}
use Rattle.nd_value.proofs.Misfits.{passed_conforms}
use Rattle.example_ndr.proofs.Levels.{level, gone, level_on, gone_from, last_level, in_last, IsLast}

-- one of the pointers names the cell
abbrev is_cell : Option ℕ → ℕ → Bool
is_cell None c = false
is_cell (Some d) c = eqb d c

abbrev names : List Pending → ℕ → Bool
names [] c = false
names (p ∷ ps) c = is_cell p.cell c || names ps c

names_there : (ps : List Pending) (p : Pending) (c : ℕ) → Among ps p → p.cell ≡ Some c → names ps c ≡ true
names_there [] p c a e = absurd a
names_there (q ∷ ps) p c (inl s) e =
    let named : is_cell q.cell c ≡ true = ap (λ o. is_cell o c) (ap (λ (r : Pending). r.cell) (sym s) ∙ e) ∙ eq-eqb c c refl in
    ap (λ b. b || names ps c) named
names_there (q ∷ ps) p c (inr a) e = go (is_cell q.cell c) (names_there ps p c a e)
  where
    go : (b : Bool) → names ps c ≡ true → (b || names ps c) ≡ true
    go true h = refl
    go false h = h

cell_is : (o : Option ℕ) (c : ℕ) → is_cell o c ≡ true → o ≡ Some c
cell_is None c h = cc
cell_is (Some d) c h = ap Some (eqb-true d c h)

names_has : (ps : List Pending) (c : ℕ) → names ps c ≡ true → (p : Pending) × Among ps p × (p.cell ≡ Some c)
names_has [] c h = cc
names_has (q ∷ ps) c h = go (or_cases (is_cell q.cell c) (names ps c) h) (names_has ps c)
  where
    go : (is_cell q.cell c ≡ true) ⊎ (names ps c ≡ true) → (names ps c ≡ true → (p : Pending) × Among ps p × (p.cell ≡ Some c))
        → (p : Pending) × Among (q ∷ ps) p × (p.cell ≡ Some c)
    go (inl m) rest = (q, inl refl, cell_is q.cell c m)
    go (inr m) rest = let (p, a, e) = rest m in (p, inr a, e)

below : (xs : List Referent) (x : Referent) (j : ℕ) → slice_get xs j ≡ Some x → j < length xs
below [] x j h = cc
below (y ∷ xs) x zero h = omega arith
below (y ∷ xs) x (suc j) h = let r = below xs x j h in omega (arith, r)

cell_below : (g : Graph) (b : ℕ) (x : Referent) → cell_of_number g b ≡ Some x → (0 < b) × (b ≤ length g.cells)
cell_below g zero x e = cc
cell_below g (suc i) x e = (omega arith, (let r = below g.cells x i e in omega (arith, r)))

module _ (w : Setting) (g : Graph) where
  abbrev starts : ℕ → Bool
  starts c = names (root_pointers w.table 0 (root_list w) g.roots) c

  abbrev goes_by : Option Referent → ℕ → ℕ → Bool
  goes_by None b c = false
  goes_by (Some x) b c = names (home_pointers w.table (cell_home b) x.of x.val) c

  abbrev goes : ℕ → ℕ → Bool
  goes b c = goes_by (cell_of_number g b) b c

  abbrev reached_at : ℕ → ℕ → Bool
  reached_at = level starts goes (length g.cells)

  level_of : {c : ℕ} → Reached w g c → (l : ℕ) × (reached_at l c ≡ true)
  level_of (by_root {c = c} p a e) = (0, names_there (root_pointers w.table 0 (root_list w) g.roots) p c a e)
  level_of (by_cell {b = b} {c = c} x p r there a e) =
      let (l, h) = level_of r in
      let (low, high) = cell_below g b x there in
      let edge : goes b c ≡ true = ap (λ o. goes_by o b c) there ∙ names_there (home_pointers w.table (cell_home b) x.of x.val) p c a e in
      (suc l, level_on starts goes (length g.cells) l b c low high h edge)

  reached_by : (l c : ℕ) → reached_at l c ≡ true → Reached w g c
  reached_by zero c h = let (p, a, e) = names_has (root_pointers w.table 0 (root_list w) g.roots) c h in by_root p a e
  reached_by (suc l) c h = go (or_cases (reached_at l c) (gone starts goes (length g.cells) (reached_at l) c (length g.cells)) h) (reached_by l)
    where
      edge : (b : ℕ) (o : Option Referent) → cell_of_number g b ≡ o → Reached w g b → goes_by o b c ≡ true → Reached w g c
      edge b None there r y = cc
      edge b (Some u) there r y =
          let (p, a, e) = names_has (home_pointers w.table (cell_home b) u.of u.val) c y in
          by_cell u p r there a e

      go : (reached_at l c ≡ true) ⊎ (gone starts goes (length g.cells) (reached_at l) c (length g.cells) ≡ true)
          → ((b : ℕ) → reached_at l b ≡ true → Reached w g b) → Reached w g c
      go (inl m) before = before c m
      go (inr m) before =
          let (b, low, high, x, y) = gone_from starts goes (length g.cells) (reached_at l) c (length g.cells) m in
          edge b (cell_of_number g b) refl (before b x) y

  decided : (c : ℕ) → 0 < c → c ≤ length g.cells → Reached w g c ⊎ ¬ Reached w g c
  decided c low high = let (k, last) = last_level starts goes (length g.cells) in go k last (reached_at k c) refl
    where
      go : (k : ℕ) → IsLast starts goes (length g.cells) k → (b : Bool) → reached_at k c ≡ b → Reached w g c ⊎ ¬ Reached w g c
      go k last true e = inl (reached_by k c e)
      go k last false e =
          inr (λ r.
          let (l, h) = level_of r in
          let t : false ≡ true = sym e ∙ in_last starts goes (length g.cells) k last l c low high h in
          cc)

  abbrev AllTo : ℕ → Type 0
  AllTo n = (c : ℕ) → 0 < c → c ≤ n → Reached w g c

  all_or_first : (n : ℕ) → n ≤ length g.cells → AllTo n ⊎ ((c : ℕ) × IsFirstUnreached w g c)
  all_or_first zero few = inl (λ c low high. absurd (omega (arith, low, high)))
  all_or_first (suc n) few = go (all_or_first n (omega (arith, few)))
    where
      last : AllTo n → Reached w g (suc n) ⊎ ¬ Reached w g (suc n) → AllTo (suc n) ⊎ ((c : ℕ) × IsFirstUnreached w g c)
      last all (inl r) = inl to
        where
          to : AllTo (suc n)
          to c low high = by (eqb_tells c (suc n))
            where
              by : ((eqb c (suc n) ≡ true) × (c ≡ suc n)) ⊎ ((eqb c (suc n) ≡ false) × (c ≢ suc n)) → Reached w g c
              by (inl e) = subst (Reached w g) (sym e.1) r
              by (inr e) = all c low (omega (arith, high, e.1))
      last all (inr r) = inr (suc n, record { is_cell = (omega arith, few); unreached = r; earlier = λ d low high. all d low (omega (arith, high)) })

      go : AllTo n ⊎ ((c : ℕ) × IsFirstUnreached w g c) → AllTo (suc n) ⊎ ((c : ℕ) × IsFirstUnreached w g c)
      go (inl all) = last all (decided (suc n) (omega arith) few)
      go (inr first) = inr first

  module _ (none : (m : MisfitAt) → ¬ IsFirstMisfit w g m) where
    none_of : (o : Option MisfitAt) → ((m : MisfitAt) → o ≡ Some m → IsFirstMisfit w g m) → o ≡ None
    none_of None h = refl
    none_of (Some m) h = absurd (none m (h m refl))

    no_local : first_local w g ≡ None
    no_local = none_of (first_local w g) is_local

    no_shared : first_shared [] (all_pointers w g) ≡ None
    no_shared = none_of (first_shared [] (all_pointers w g)) (λ m e. is_shared m no_local e)

    all_reached : AllTo (length g.cells)
    all_reached = go (all_or_first (length g.cells) (omega arith))
      where
        go : AllTo (length g.cells) ⊎ ((c : ℕ) × IsFirstUnreached w g c) → AllTo (length g.cells)
        go (inl all) = all
        go (inr first) = absurd (none _ (is_unreached first.0 no_local no_shared first.1))

    no_disagreeing : first_disagreeing w g ≡ None
    no_disagreeing = none_of (first_disagreeing w g) (λ m e. is_disagreeing m no_local no_shared all_reached e)

    without : list_all (λ x. has_machine_values x.typed.label) (all_nodes w g) ≡ true → length g.cells < 2 ^ 32 → HasFewNodes g → Conforms w g
    without values few nodes = passed_conforms w g no_local no_shared all_reached no_disagreeing values few nodes

pub conforms_without_misfit : (w : Setting) (g : Graph) → ((m : MisfitAt) → ¬ IsFirstMisfit w g m)
    → list_all (λ x. has_machine_values x.typed.label) (all_nodes w g) ≡ true → length g.cells < 2 ^ 32 → HasFewNodes g → Conforms w g
conforms_without_misfit w g none values few nodes = without w g none values few nodes
