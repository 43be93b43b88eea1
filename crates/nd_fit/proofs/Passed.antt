-- What the search for unreached cells asks of a graph, from the first pass: where that finds no misfit, there are as many roots as the side
-- has, each value has the form of its type, and each pointer names a cell that is there.
-- `w` is a setting, `g` a graph, `l` a label, `ks` and `vs` are values, `rs` roots, `xs` cells, `i` is a root's place, `c` a cell's number.
use Rattle.std.proofs.Common.{◌≡◌, ℕ, ◌+◌, ◌^◌, ◌<◌, ◌≤◌, suc, true, not, List, [], ◌∷◌, ◌++◌, length, Some, None, refl, ap, sym, ◌∙◌, subst, arith, map}
use Rattle.std.specs.Prelude.{eqb, leb, nat_le}
use Rattle.std.specs.List.{list_all, slice_get, AllByRecursion}
use Rattle.std.proofs.lemmas.Bool.{and_parts, leb-true}
use Rattle.nd_types.specs.declared.TheConstants.{PARAM_LIMIT}
use Rattle.nd_types.specs.declared.interface.Interface.{Interface}
use Rattle.nd_types.specs.declared.types.Operation.{Operation}
use Rattle.nd_types.specs.declared.types.Side.{Side}
use Rattle.nd_types.specs.Legal.{has_small_values}
use Rattle.nd_types.specs.Table.{Table, type_at}
use Rattle.nd_types.specs.Roots.{Root, NamedRoot, named_root}
use Rattle.nd_value.specs.declared.value.Graph.{Graph}
use Rattle.nd_value.specs.declared.value.CellId.{CellId}
use Rattle.nd_value.specs.declared.item.Home.TheVariants as home
use Rattle.nd_value.specs.Tree as tree
use Rattle.nd_value.specs.Tree.{Tree, Trees, Label, Referent, node, none, more, count, node_count, cell_in}
use Rattle.nd_value.specs.Setting.{Setting, root_list, cell_home}
use Rattle.nd_value.specs.Nodes.{child_types}
use Rattle.nd_value.specs.Misfit.{names_cell}
use Rattle.nd_value.specs.Canon.{target}
use Rattle.nd_value.specs.Names.{cells_in, named_by, AreThere, HasNames}
use Rattle.nd_value.specs.Conforms.{HasFewNodes, IsFirstUnreached, first_local}
use Rattle.nd_value.specs.Fitting.{setting_beside}
use Rattle.nd_value.specs.Passes.{first_in, first_in_home, first_in_roots, first_in_cells, AreReached}
use Rattle.nd_value.proofs.FewRoots.{few_named_roots}
use Rattle.nd_value.proofs.LocalPass.{local_first}
use Rattle.nd_value.proofs.Misfits.{all_both, neither}
use Rattle.nd_value.proofs.NodeFacts.{fit_children}
use Rattle.nd_misfits.specs.HomeList.{root_homes, cell_homes}
use Rattle.nd_misfits.specs.Pointers.{IsWalkable}
use Rattle.nd_misfits.proofs.Walkable.{Fits, fits, home_none, positive, walkable_roots, walkable_cells}
use Rattle.nd_fit.specs.Reach.{TellsReach, RootsFormed, CellsFormed}
use Rattle.nd_fit.proofs.Bridge.{cells_both}
use Rattle.nd_fit.proofs.Reaching.{all_reached, first_unreached}

module _ (table : Table) (g : Graph) where
  abbrev IsThere : ℕ → Type 0
  IsThere c = (0 < c) × (c ≤ length g.cells)

  label_there : (l : Label) → names_cell g l ≡ true → AllByRecursion IsThere (target (cell_in l))
  label_there (tree.Ptr None) e = tt
  label_there (tree.Ptr (Some c)) e =
      let (some, high) = and_parts (not (eqb c 0)) (leb c (length g.cells)) e in
      let low : c ≤ length g.cells = leb-true c (length g.cells) high in
      ((positive c some, low), tt)
  label_there (tree.Num z) e = tt
  label_there tree.Rec e = tt
  label_there (tree.Arr max offset) e = tt
  label_there (tree.Text max octets) e = tt
  label_there (tree.Union v) e = tt
  label_there (tree.Context a x) e = tt
  label_there tree.Pipe e = tt
  label_there tree.Unread e = tt

  values_there : (types : List ℕ) (n : ℕ) (vs : Trees) → count vs ≡ length types → first_in table g types n vs ≡ None → AllByRecursion IsThere (cells_in vs)
  values_there types n none k e = tt
  values_there [] n (more v vs) k e = cc
  values_there (t ∷ types) n (more (node l ks) vs) k e =
      let f : Fits table g t types n l ks vs = fits table g t types n l ks vs e in
      subst (AllByRecursion IsThere) (sym (cells_both l ks vs))
      (all_both IsThere (target (cell_in l)) (cells_in ks ++ cells_in vs) (label_there l f.own.cell)
      (all_both IsThere (cells_in ks) (cells_in vs)
      (values_there (child_types (type_at table t) l ks) (n + 1) ks (fit_children (type_at table t) l ks f.own.shape f.own.arm) f.inside)
      (values_there types (n + 1 + node_count ks) vs (omega (arith, k)) f.behind)))

  roots_there : (i : ℕ) (rs : List NamedRoot) (vs : List Tree) → first_in_roots table g i rs vs ≡ None
      → AllByRecursion (λ (t : Tree). AreThere (length g.cells) (named_by t)) vs
  roots_there i [] [] e = tt
  roots_there i [] (v ∷ vs) e = cc
  roots_there i (r ∷ rs) [] e = tt
  roots_there i (r ∷ rs) (v ∷ vs) e =
      let (a, b) = neither (first_in_home table g (home.Root i) r.of v) (first_in_roots table g (i + 1) rs vs) e in
      (values_there (r.of ∷ []) 0 (more v none) refl (home_none (home.Root i) _ a), roots_there (i + 1) rs vs b)

  cells_there : (c : ℕ) (xs : List Referent) → first_in_cells table g c xs ≡ None
      → AllByRecursion (λ (x : Referent). AreThere (length g.cells) (named_by x.val)) xs
  cells_there c [] e = tt
  cells_there c (x ∷ xs) e =
      let (a, b) = neither (first_in_home table g (cell_home c) x.of x.val) (first_in_cells table g (c + 1) xs) e in
      (values_there (x.of ∷ []) 0 (more x.val none) refl (home_none (cell_home c) _ a), cells_there (c + 1) xs b)

  roots_counted : (i : ℕ) (rs : List NamedRoot) (vs : List Tree) → first_in_roots table g i rs vs ≡ None → length vs ≡ length rs
  roots_counted i [] [] e = refl
  roots_counted i [] (v ∷ vs) e = cc
  roots_counted i (r ∷ rs) [] e = cc
  roots_counted i (r ∷ rs) (v ∷ vs) e =
      let (a, b) = neither (first_in_home table g (home.Root i) r.of v) (first_in_roots table g (i + 1) rs vs) e in
      ap suc (roots_counted (i + 1) rs vs b)

  roots_formed : (o : Operation) (limit i : ℕ) (rs : List Root) (vs : List Tree) → first_in_roots table g i (map (named_root o) rs) vs ≡ None
      → AllByRecursion (IsWalkable table limit) (root_homes i (map (named_root o) rs) vs) → RootsFormed table rs vs
  roots_formed o limit i [] [] e h = tt
  roots_formed o limit i [] (v ∷ vs) e h = cc
  roots_formed o limit i (r ∷ rs) [] e h = cc
  roots_formed o limit i (r ∷ rs) (v ∷ vs) e h =
      let (a, b) = neither (first_in_home table g (home.Root i) r.of v) (first_in_roots table g (i + 1) (map (named_root o) rs) vs) e in
      (h.0.formed, roots_formed o limit (i + 1) rs vs b h.1)

cells_formed : (table : Table) (limit c : ℕ) (xs : List Referent) → AllByRecursion (IsWalkable table limit) (cell_homes c xs) → CellsFormed table xs
cells_formed table limit c [] h = tt
cells_formed table limit c (x ∷ xs) h = (h.0.formed, cells_formed table limit (c + 1) xs h.1)

module _ (w : Setting) (g : Graph) (local : first_local w g ≡ None) where
  abbrev roots : List NamedRoot
  roots = map (named_root w.op) (root_list w)

  both : (first_in_roots w.table g 0 roots g.roots ≡ None) × (first_in_cells w.table g 1 g.cells ≡ None)
  both = neither (first_in_roots w.table g 0 roots g.roots) (first_in_cells w.table g 1 g.cells) (sym (local_first w g) ∙ local)

  pub passed_names : HasNames g
  passed_names = record { roots = roots_there w.table g 0 roots g.roots both.0; cells = cells_there w.table g 1 g.cells both.1 }

  pub passed_roots : length g.roots ≡ length roots
  passed_roots = roots_counted w.table g 0 roots g.roots both.0

  module _ (small : list_all has_small_values w.table ≡ true) (few : HasFewNodes g) where
    passed_formed : RootsFormed w.table (root_list w) g.roots
    passed_formed = roots_formed w.table g w.op (length g.cells + 1) 0 (root_list w) g.roots both.0 (walkable_roots w g small few local)

    passed_cells : CellsFormed w.table g.cells
    passed_cells = cells_formed w.table (length g.cells + 1) 1 g.cells (walkable_cells w g small few local)

    -- all cells are reached
    pub passed_reached : TellsReach g None → AreReached w g
    passed_reached h = all_reached w g passed_formed passed_cells h

    -- the first cell that is not
    pub passed_unreached : (c : CellId) → TellsReach g (Some c) → IsFirstUnreached w g c.0
    passed_unreached c h = first_unreached w g passed_formed passed_cells c h

-- the roots are few
pub passed_few : (i : Interface) (op : ℕ) (o : Operation) (s : Side) (g : Graph) → list_all (λ (p : Operation). nat_le (length p.params) PARAM_LIMIT) i.operations ≡ true
    → slice_get i.operations op ≡ Some o → first_local (setting_beside i o s None) g ≡ None → length g.roots < 2 ^ 32
passed_few i op o s g legal there local =
    let roots : List NamedRoot = map (named_root o) (root_list (setting_beside i o s None)) in
    let same : length g.roots ≡ length roots = passed_roots (setting_beside i o s None) g local in
    let few : length roots ≤ 257 = few_named_roots i.types i.operations op s o legal there in
    omega (arith, same, few)
