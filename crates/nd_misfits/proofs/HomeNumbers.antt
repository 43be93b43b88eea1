-- The roots of a graph as variables, and that their numbers are small.
use Rattle.std.proofs.Common.{◌≡◌, ℕ, ◌+◌, ◌<◌, zero, suc, Bool, true, false, List, [], ◌∷◌, length, get_or, Some, None, refl, ap, sym, ◌∙◌, arith, subst, map}
use Rattle.std.specs.List.{slice_get, list_all, AllByRecursion}
use Rattle.std.proofs.lemmas.Bool.{and_parts}
use Rattle.std.specs.Cmp.Derive.{both_true}
use Rattle.nd_types.specs.Legal.{has_small_values}
use Rattle.nd_types.specs.Table.{Table}
use Rattle.nd_types.specs.Roots.{NamedRoot, named_root}
use Rattle.nd_value.specs.declared.value.Graph.{Graph}
use Rattle.nd_value.specs.declared.item.Home.TheVariants as home
use Rattle.nd_value.specs.Tree as tree
use Rattle.nd_value.specs.Tree.{Tree, node, Referent}
use Rattle.nd_value.specs.Agreement.{number_of, starred}
use Rattle.nd_value.specs.Setting.{Setting, root_list, cell_tree, cell_at}
use Rattle.nd_value.specs.Conforms.{HasFewNodes, or_later, first_local, first_disagreeing}
use Rattle.nd_value.specs.Passes.{first_in_home, first_in_roots, first_in_cells}
use Rattle.nd_value.proofs.LocalPass.{local_first}
use Rattle.nd_value.proofs.Misfits.{neither}
use Rattle.nd_misfits.specs.declared.homes.HomeValue.{HomeValue}
use Rattle.nd_misfits.specs.declared.numbers.ParamNumber.{ParamNumber}
use Rattle.nd_misfits.specs.declared.numbers.RootNumber.{RootNumber}
use Rattle.nd_misfits.specs.HomeList.{HomeTree, home_tree, root_homes, cell_homes}
use Rattle.nd_misfits.specs.Pointers.{IsWalkable}
use Rattle.nd_misfits.specs.Disagreeing.{is_small_or_none, disagreeing_homes}
use Rattle.nd_misfits.specs.Numbers.{number_at, no_number, numbers_of, given_numbers, is_param, number_among, home_number, AreNumbers, is_small_number, are_small_roots, are_small_numbers}
use Rattle.nd_misfits.proofs.SmallNumbers.{small_alone}
use Rattle.nd_misfits.proofs.Numbered.{are_numbers}
use Rattle.nd_misfits.proofs.Disagreements.{homes_append, disagreeing_first}
use Rattle.nd_misfits.proofs.Walkable.{walkable_roots, walkable_cells}

module _ (table : Table) (g : Graph) (j : ℕ) (other : ParamNumber) where
  homes_among : (i : ℕ) (rs : List NamedRoot) (vs : List Tree) → first_in_roots table g i rs vs ≡ None
      → number_among (map (home_number g) (root_homes i rs vs)) j other ≡ number_among (numbers_of g rs vs) j other
  homes_among i [] [] e = refl
  homes_among i [] (v ∷ vs) e = cc
  homes_among i (r ∷ rs) [] e = cc
  homes_among i (r ∷ rs) (v ∷ vs) e =
      let (a, b) = neither (first_in_home table g (home.Root i) r.of v) (first_in_roots table g (i + 1) rs vs) e in
      ap (λ n. elim (is_param r.param j) [ true ↦ number_at g v | false ↦ n ]) (homes_among (i + 1) rs vs b)

-- a cell holds a small number, if it holds one
cell_small : (table : Table) (limit c : ℕ) (xs : List Referent) (i : ℕ) → AllByRecursion (IsWalkable table limit) (cell_homes c xs)
    → is_small_or_none (number_of (cell_tree (slice_get xs i))) ≡ true
cell_small table limit c [] i h = refl
cell_small table limit c (x ∷ xs) zero h = small_alone table x.of x.val h.0.formed
cell_small table limit c (x ∷ xs) (suc i) h = cell_small table limit (c + 1) xs i h.1

module _ (table : Table) (limit : ℕ) (g : Graph) (cells : AllByRecursion (IsWalkable table limit) (cell_homes 1 g.cells)) where
  numbered_small : (c : ℕ) → is_small_or_none (number_of (cell_at g c)) ≡ true
  numbered_small zero = refl
  numbered_small (suc i) = cell_small table limit 1 g.cells i cells

  referent_small : (t : Tree) → is_small_or_none (starred g true t) ≡ true
  referent_small (node (tree.Ptr (Some c)) ks) = numbered_small c
  referent_small (node (tree.Ptr None) ks) = refl
  referent_small (node (tree.Num z) ks) = refl
  referent_small (node tree.Rec ks) = refl
  referent_small (node (tree.Arr m o) ks) = refl
  referent_small (node (tree.Text m o) ks) = refl
  referent_small (node (tree.Union v) ks) = refl
  referent_small (node (tree.Context a i) ks) = refl
  referent_small (node tree.Pipe ks) = refl
  referent_small (node tree.Unread ks) = refl

  homes_small : (hs : List HomeTree) → AllByRecursion (IsWalkable table limit) hs → are_small_roots (map (home_number g) hs) ≡ true
  homes_small [] h = refl
  homes_small (x ∷ hs) h =
      both_true
      (both_true (small_alone table x.of x.val h.0.formed) (referent_small x.val))
      (homes_small hs h.1)

  -- the same of the roots alone
  none_small : (rs : List NamedRoot) → are_small_roots (numbers_of g rs []) ≡ true
  none_small [] = refl
  none_small (r ∷ rs) = none_small rs

  pub roots_small : (i : ℕ) (rs : List NamedRoot) (vs : List Tree) → AllByRecursion (IsWalkable table limit) (root_homes i rs vs)
      → are_small_roots (numbers_of g rs vs) ≡ true
  roots_small i [] vs h = refl
  roots_small i (r ∷ rs) [] h = none_small rs
  roots_small i (r ∷ rs) (v ∷ vs) h = both_true (both_true (small_alone table r.of v h.0.formed) (referent_small v)) (roots_small (i + 1) rs vs h.1)

-- a number among roots is small where theirs are, and another one
among_small : (rs : List RootNumber) (j : ℕ) (other : ParamNumber) → are_small_roots rs ≡ true → is_small_number other ≡ true
    → is_small_number (number_among rs j other) ≡ true
among_small [] j other h k = k
among_small (r ∷ rs) j other h k =
    let (a, b) = and_parts (is_small_number r.number) (are_small_roots rs) h in
    go (is_param r.param j) a (among_small rs j other b k)
  where
    go : (b : Bool) → is_small_number r.number ≡ true → is_small_number (number_among rs j other) ≡ true
        → is_small_number (elim b [ true ↦ r.number | false ↦ number_among rs j other ]) ≡ true
    go true a c = a
    go false a c = c

by_place : (ns : List ParamNumber) → ((j : ℕ) → j < length ns → is_small_number (get_or ns j no_number) ≡ true) → are_small_numbers ns ≡ true
by_place [] h = refl
by_place (n ∷ ns) h =
    both_true (h 0 (omega arith)) (by_place ns (λ j l. h (suc j) (omega (arith, l))))

mapped : (g : Graph) (homes : List HomeValue) → map (λ (h : HomeValue). home_number g (home_tree h)) homes ≡ map (home_number g) (map home_tree homes)
mapped g [] = refl
mapped g (h ∷ hs) = ap (λ ns. home_number g (home_tree h) ∷ ns) (mapped g hs)

-- A graph in which the first pass has found no misfit: its roots, and the numbers of its parameters.
module _ (w : Setting) (g : Graph) (legal : list_all has_small_values w.table ≡ true) (few : HasFewNodes g) (local : first_local w g ≡ None)
    (homes : List HomeValue) (all : map home_tree homes ≡ root_homes 0 (map (named_root w.op) (root_list w)) g.roots) where
  abbrev roots : List NamedRoot
  roots = map (named_root w.op) (root_list w)

  -- its roots can be gone over
  pub roots_walkable : AllByRecursion (IsWalkable w.table (length g.cells + 1)) (map home_tree homes)
  roots_walkable = subst (AllByRecursion (IsWalkable w.table (length g.cells + 1))) (sym all) (walkable_roots w g legal few local)

  -- the fourth pass goes over them, and then over the cells
  pub homes_disagree : or_later (disagreeing_homes w g (map home_tree homes)) (disagreeing_homes w g (cell_homes 1 g.cells)) ≡ first_disagreeing w g
  homes_disagree =
      ap (λ hs. or_later (disagreeing_homes w g hs) (disagreeing_homes w g (cell_homes 1 g.cells))) all
      ∙ sym (homes_append w g (root_homes 0 roots g.roots) (cell_homes 1 g.cells)) ∙ sym (disagreeing_first w g)

  module _ (own given : List RootNumber) (numbers : List ParamNumber) (owns : own ≡ map (λ (h : HomeValue). home_number g (home_tree h)) homes)
      (many : length numbers ≡ length w.op.params)
      (placed : (j : ℕ) → j < length numbers → get_or numbers j no_number ≡ number_among own j (number_among given j no_number)) where
    own_homes : own ≡ map (home_number g) (root_homes 0 roots g.roots)
    own_homes = owns ∙ mapped g homes ∙ ap (map (home_number g)) all

    own_small : are_small_roots own ≡ true
    own_small =
        subst (λ ns. are_small_roots ns ≡ true) (sym own_homes)
        (homes_small w.table (length g.cells + 1) g (walkable_cells w g legal few local) (root_homes 0 roots g.roots) (walkable_roots w g legal few local))

    own_among : (j : ℕ) (other : ParamNumber) → number_among own j other ≡ number_among (numbers_of g roots g.roots) j other
    own_among j other =
        let none_local = neither (first_in_roots w.table g 0 roots g.roots) (first_in_cells w.table g 1 g.cells) (sym (local_first w g) ∙ local) in
        ap (λ ns. number_among ns j other) own_homes ∙ homes_among w.table g j other 0 roots g.roots none_local.0

    -- the numbers by the places of the parameters are small, where those of the request are
    pub numbers_small : are_small_roots given ≡ true → are_small_numbers numbers ≡ true
    numbers_small h =
        by_place numbers
        (λ j l.
        subst (λ n. is_small_number n ≡ true) (sym (placed j l))
        (among_small own j (number_among given j no_number) own_small (among_small given j no_number h refl)))

    -- and they are the values of variables
    pub numbers_known : given ≡ given_numbers w.table w.op w.given → AreNumbers w g numbers
    numbers_known e =
        are_numbers w g numbers many
        (λ j l.
        placed j (omega (arith, l, many)) ∙ own_among j (number_among given j no_number)
        ∙ ap (λ ns. number_among (numbers_of g roots g.roots) j (number_among ns j no_number)) e)
