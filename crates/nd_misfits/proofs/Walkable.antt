-- Where the first pass finds no misfit, the later passes can go over each home.
use Rattle.std.proofs.Common.{◌≡◌, ℕ, ◌+◌, ◌^◌, ◌<◌, ◌≤◌, zero, suc, true, not, List, [], ◌∷◌, ◌++◌, length, Option, Some, None, refl, sym, ◌∙◌, arith, map}
use Rattle.std.specs.Prelude.{eqb, leb}
use Rattle.std.specs.List.{list_all, AllByRecursion}
use Rattle.std.proofs.lemmas.Bool.{and_parts, leb-true}
use Rattle.nd_types.specs.declared.types.TypeDef.{TypeDef}
use Rattle.nd_types.specs.declared.types.TypeDef.TheVariants as def
use Rattle.nd_types.specs.Legal.{has_small_values}
use Rattle.nd_types.specs.Table.{Table, type_at}
use Rattle.nd_types.specs.Roots.{NamedRoot, named_root}
use Rattle.nd_value.specs.declared.value.Graph.{Graph}
use Rattle.nd_value.specs.declared.item.Home.{Home}
use Rattle.nd_value.specs.declared.item.Home.TheVariants as home
use Rattle.nd_value.specs.declared.misfit.MisfitReason.{MisfitReason}
use Rattle.nd_value.specs.declared.misfit.NodeMisfit.{NodeMisfit}
use Rattle.nd_value.specs.Tree as tree
use Rattle.nd_value.specs.Tree.{Tree, Trees, Label, node, none, more, count, node_count, Referent}
use Rattle.nd_value.specs.Setting.{Setting, root_list, cell_home}
use Rattle.nd_value.specs.Nodes.{child_types}
use Rattle.nd_value.specs.Misfit.{misfit_by, names_cell}
use Rattle.nd_value.specs.Conforms.{FewNodes, HasFewNodes, first_local}
use Rattle.nd_value.specs.Passes.{or_next, at_number, first_in, at_home, first_in_home, first_in_roots, first_in_cells}
use Rattle.nd_misfits.specs.HomeList.{root_homes, cell_homes, homes_of}
use Rattle.nd_misfits.specs.Pointers.{are_formed, named_here, pointers_in, NamesBelow, IsWalkable}
use Rattle.nd_value.proofs.LocalPass.{local_first}
use Rattle.nd_value.proofs.Misfits.{all_left, all_right, all_both, neither}
use Rattle.nd_value.proofs.NodeFacts.{IsFit, fit_node, fit_children}
use Rattle.nd_value.proofs.ValueRanges.{range_fits}
use Rattle.nd_misfits.proofs.FormWalk.{HasForm, from_form}

next_none : (a b : Option NodeMisfit) → or_next a b ≡ None → (a ≡ None) × (b ≡ None)
next_none None b e = (refl, e)
next_none (Some m) b e = cc

number_none : (n : ℕ) (o : Option MisfitReason) → at_number n o ≡ None → o ≡ None
number_none n None e = refl
number_none n (Some r) e = cc

pub home_none : (h : Home) (o : Option NodeMisfit) → at_home h o ≡ None → o ≡ None
home_none h None e = refl
home_none h (Some m) e = cc

pub positive : (c : ℕ) → not (eqb c 0) ≡ true → 0 < c
positive zero e = cc
positive (suc c) e = omega arith

module _ (table : Table) (g : Graph) where
  -- what holds of values in which no node has a misfit
  pub record Fits (t : ℕ) (types : List ℕ) (n : ℕ) (l : Label) (ks vs : Trees) : Type 0 where
    pub own : IsFit table g t l ks
    pub inside : first_in table g (child_types (type_at table t) l ks) (n + 1) ks ≡ None
    pub behind : first_in table g types (n + 1 + node_count ks) vs ≡ None

  pub fits : (t : ℕ) (types : List ℕ) (n : ℕ) (l : Label) (ks vs : Trees) → first_in table g (t ∷ types) n (more (node l ks) vs) ≡ None → Fits t types n l ks vs
  fits t types n l ks vs e =
      let (a, e1) = next_none (at_number n (misfit_by table g (type_at table t) l ks)) _ e in
      let (b, c) = next_none (first_in table g (child_types (type_at table t) l ks) (n + 1) ks) _ e1 in
      record {
        own = fit_node table g (record { node = n; of = t; agreements = []; label = l; kids = ks }) (number_none n _ a);
        inside = b;
        behind = c;
      }

  cell_within : (h : Home) (n : ℕ) (l : Label) (d : Option TypeDef) → names_cell g l ≡ true
      → AllByRecursion (NamesBelow (length g.cells + 1)) (named_here l d h n)
  cell_within h n (tree.Ptr None) (Some (def.Pointer class to)) e = tt
  cell_within h n (tree.Ptr (Some c)) (Some (def.Pointer class to)) e =
      let (some, high) = and_parts (not (eqb c 0)) (leb c (length g.cells)) e in
      let low : c ≤ length g.cells = leb-true c (length g.cells) high in
      ((positive c some, omega (arith, low)), tt)
  cell_within h n (tree.Ptr c) _ e = tt
  cell_within h n _ d e = tt

  named_within : (h : Home) (types : List ℕ) (n : ℕ) (vs : Trees) → first_in table g types n vs ≡ None
      → AllByRecursion (NamesBelow (length g.cells + 1)) (pointers_in table h types n vs)
  named_within h types n none e = tt
  named_within h [] n (more v vs) e = tt
  named_within h (t ∷ types) n (more (node l ks) vs) e =
      let f : Fits t types n l ks vs = fits t types n l ks vs e in
      all_both (NamesBelow (length g.cells + 1)) (named_here l (type_at table t) h n)
      (pointers_in table h (child_types (type_at table t) l ks) (n + 1) ks ++ pointers_in table h types (n + 1 + node_count ks) vs)
      (cell_within h n l (type_at table t) f.own.cell)
      (all_both (NamesBelow (length g.cells + 1)) (pointers_in table h (child_types (type_at table t) l ks) (n + 1) ks) (pointers_in table h types (n + 1 + node_count ks) vs)
      (named_within h (child_types (type_at table t) l ks) (n + 1) ks f.inside) (named_within h types (n + 1 + node_count ks) vs f.behind))

  module _ (small : list_all has_small_values table ≡ true) where
    values_formed : (types : List ℕ) (n : ℕ) (vs : Trees) → count vs ≡ length types → first_in table g types n vs ≡ None → are_formed table types vs ≡ true
    values_formed types n none k e = refl
    values_formed [] n (more v vs) k e = cc
    values_formed (t ∷ types) n (more (node l ks) vs) k e =
        let f : Fits t types n l ks vs = fits t types n l ks vs e in
        let form : HasForm table t l ks =
        record {
          shape = f.own.shape;
          range = range_fits table small t (type_at table t) refl l f.own.range;
          arm = f.own.arm;
          kids = values_formed (child_types (type_at table t) l ks) (n + 1) ks (fit_children (type_at table t) l ks f.own.shape f.own.arm) f.inside;
        } in
        from_form table t types l ks vs form (values_formed types (n + 1 + node_count ks) vs (omega (arith, k)) f.behind)

    one_walkable : (h : Home) (t : ℕ) (param : Option ℕ) (v : Tree) → node_count (more v none) < 2 ^ 32 → first_in_home table g h t v ≡ None
        → IsWalkable table (length g.cells + 1) (record { home = h; of = t; param = param; val = v })
    one_walkable h t param v few e =
        let f = home_none h _ e in
        record {
          few = few;
          formed = values_formed (t ∷ []) 0 (more v none) refl f;
          named = named_within h (t ∷ []) 0 (more v none) f;
        }

    pub roots_walkable : (i : ℕ) (rs : List NamedRoot) (vs : List Tree) → FewNodes vs → first_in_roots table g i rs vs ≡ None
        → AllByRecursion (IsWalkable table (length g.cells + 1)) (root_homes i rs vs)
    roots_walkable i [] [] few e = tt
    roots_walkable i [] (v ∷ vs) few e = tt
    roots_walkable i (r ∷ rs) [] few e = tt
    roots_walkable i (r ∷ rs) (v ∷ vs) few e =
        let (a, b) = neither (first_in_home table g (home.Root i) r.of v) (first_in_roots table g (i + 1) rs vs) e in
        (one_walkable (home.Root i) r.of r.param v few.0 a, roots_walkable (i + 1) rs vs few.1 b)

    pub cells_walkable : (c : ℕ) (xs : List Referent) → FewNodes (map (λ (x : Referent). x.val) xs) → first_in_cells table g c xs ≡ None
        → AllByRecursion (IsWalkable table (length g.cells + 1)) (cell_homes c xs)
    cells_walkable c [] few e = tt
    cells_walkable c (x ∷ xs) few e =
        let (a, b) = neither (first_in_home table g (cell_home c) x.of x.val) (first_in_cells table g (c + 1) xs) e in
        (one_walkable (cell_home c) x.of None x.val few.0 a, cells_walkable (c + 1) xs few.1 b)

module _ (w : Setting) (g : Graph) (small : list_all has_small_values w.table ≡ true) (few : HasFewNodes g) (local : first_local w g ≡ None) where
  abbrev roots : List NamedRoot
  roots = map (named_root w.op) (root_list w)

  both : (first_in_roots w.table g 0 roots g.roots ≡ None) × (first_in_cells w.table g 1 g.cells ≡ None)
  both = neither (first_in_roots w.table g 0 roots g.roots) (first_in_cells w.table g 1 g.cells) (sym (local_first w g) ∙ local)

  pub walkable_roots : AllByRecursion (IsWalkable w.table (length g.cells + 1)) (root_homes 0 roots g.roots)
  walkable_roots = roots_walkable w.table g small 0 roots g.roots (all_left (λ (t : Tree). node_count (more t none) < 2 ^ 32) g.roots (map (λ (x : Referent). x.val) g.cells) few) both.0

  pub walkable_cells : AllByRecursion (IsWalkable w.table (length g.cells + 1)) (cell_homes 1 g.cells)
  walkable_cells = cells_walkable w.table g small 1 g.cells (all_right (λ (t : Tree). node_count (more t none) < 2 ^ 32) g.roots (map (λ (x : Referent). x.val) g.cells) few) both.1

  -- each home of a graph in which the first pass has found no misfit
  pub walkable : AllByRecursion (IsWalkable w.table (length g.cells + 1)) (homes_of roots g)
  walkable = all_both (IsWalkable w.table (length g.cells + 1)) (root_homes 0 roots g.roots) (cell_homes 1 g.cells) walkable_roots walkable_cells
