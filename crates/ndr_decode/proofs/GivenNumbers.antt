-- The numbers that roots of a request are, or that are in the cells that they name, can be kept: the request conforms.
-- `t` is a type's number, `u` a value, `z` the number that it is.
use Rattle.std.proofs.Common.{◌≡◌, ℕ, ℤ, ◌+◌, zero, suc, Bool, true, false, List, [], ◌∷◌, length, map, Option, Some, None, refl, ap, sym, ◌∙◌, subst, arith}
use Rattle.std.specs.Prelude.{IfSome}
use Rattle.std.specs.List.{AllByRecursion, list_all, slice_get}
use Rattle.std.proofs.lemmas.Option.{same_Some}
use Rattle.nd_types.specs.Legal.{has_small_values}
use Rattle.nd_types.specs.Roots.{Root}
use Rattle.nd_types.specs.Table.{type_at}
use Rattle.nd_value.specs.declared.item.Home.{Home}
use Rattle.nd_value.specs.declared.item.Home.TheVariants as home
use Rattle.nd_value.specs.declared.value.Graph.{Graph}
use Rattle.nd_value.specs.Agreement.{Agreement, number_of, root_agreements, starred}
use Rattle.nd_value.specs.Conforms.{Conforms, HomeNode, cell_nodes, in_home, root_nodes}
use Rattle.nd_value.specs.Fitting.{Fitting, IsFit, setting_beside}
use Rattle.nd_value.specs.Misfit.{misfit_of}
use Rattle.nd_value.specs.Nodes.{first_agreements, nodes_of}
use Rattle.nd_value.specs.Setting.{Setting, cell_at, cell_home, cell_tree, or_unread, root_at, root_list}
use Rattle.nd_value.specs.Tree as tree
use Rattle.nd_value.specs.Tree.{Label, Referent, Tree, Trees, more, node, none}
use Rattle.nd_value.proofs.Apart.{all_left, all_right}
use Rattle.nd_value.proofs.NodeFacts.{fit_node}
use Rattle.nd_value.proofs.NodeFacts as facts
use Rattle.nd_value.proofs.ValueRanges.{range_fits}
use Rattle.nd_flat.specs.FlatForm.{IsKeepableNumber}
use Rattle.ndr_decode.proofs.Numbers.{in_its_range}

module _ (w : Setting) (small : list_all has_small_values w.table ≡ true) (g : Graph) (k : Conforms w g) where
  abbrev IsFitNode : HomeNode → Type 0
  IsFitNode x = misfit_of w.table g x.typed ≡ None

  first_keepable : (t : ℕ) (l : Label) (ks : Trees) → facts.IsFit w.table g t l ks → (z : ℤ) → number_of (node l ks) ≡ Some z → IsKeepableNumber z
  first_keepable t (tree.Num y) ks f z is =
      subst IsKeepableNumber (same_Some y z is) (in_its_range w.table (type_at w.table t) y (range_fits w.table small t (type_at w.table t) refl (tree.Num y) f.range))
  first_keepable t _ ks f z is = (let n : None ≡ Some z = is in cc)

  value_keepable : (h : Home) (t : ℕ) (ags : List (List Agreement)) (u : Tree) → AllByRecursion IsFitNode (map (in_home h) (nodes_of w.table (t ∷ []) ags 0 (more u none)))
      → (z : ℤ) → number_of u ≡ Some z → IsKeepableNumber z
  value_keepable h t ags (node l ks) a z is =
      first_keepable t l ks (fit_node w.table g (record { node = 0; of = t; agreements = first_agreements ags; label = l; kids = ks }) a.0) z is

  root_keepable : (i : ℕ) (rs : List Root) (vs : List Tree) → length vs ≡ length rs → AllByRecursion IsFitNode (root_nodes w g i rs vs) → (v : ℕ) (z : ℤ)
      → number_of (or_unread (slice_get vs v)) ≡ Some z → IsKeepableNumber z
  root_keepable i rs [] e a zero z is = (let n : None ≡ Some z = is in cc)
  root_keepable i rs [] e a (suc v) z is = (let n : None ≡ Some z = is in cc)
  root_keepable i [] (u ∷ vs) e a v z is = absurd (omega (arith, e))
  root_keepable i (r ∷ rs) (u ∷ vs) e a zero z is =
      let own : List (List Agreement) = root_agreements w g r.vars ∷ [] in
      value_keepable (home.Root i) r.of own u
      (all_left IsFitNode (map (in_home (home.Root i)) (nodes_of w.table (r.of ∷ []) own 0 (more u none))) (root_nodes w g (i + 1) rs vs) a) z is
  root_keepable i (r ∷ rs) (u ∷ vs) e a (suc v) z is =
      let own : List (List Agreement) = root_agreements w g r.vars ∷ [] in
      root_keepable (i + 1) rs vs (omega (arith, e))
      (all_right IsFitNode (map (in_home (home.Root i)) (nodes_of w.table (r.of ∷ []) own 0 (more u none))) (root_nodes w g (i + 1) rs vs) a) v z is

  cell_keepable : (c : ℕ) (xs : List Referent) → AllByRecursion IsFitNode (cell_nodes w.table c xs) → (i : ℕ) (z : ℤ) → number_of (cell_tree (slice_get xs i)) ≡ Some z
      → IsKeepableNumber z
  cell_keepable c [] a zero z is = (let n : None ≡ Some z = is in cc)
  cell_keepable c [] a (suc i) z is = (let n : None ≡ Some z = is in cc)
  cell_keepable c (x ∷ xs) a zero z is =
      value_keepable (cell_home c) x.of [] x.val
      (all_left IsFitNode (map (in_home (cell_home c)) (nodes_of w.table (x.of ∷ []) [] 0 (more x.val none))) (cell_nodes w.table (c + 1) xs) a) z is
  cell_keepable c (x ∷ xs) a (suc i) z is =
      cell_keepable (c + 1) xs
      (all_right IsFitNode (map (in_home (cell_home c)) (nodes_of w.table (x.of ∷ []) [] 0 (more x.val none))) (cell_nodes w.table (c + 1) xs) a) i z is

  abbrev roots_of : List HomeNode
  roots_of = root_nodes w g 0 (root_list w) g.roots

  abbrev cells_of : List HomeNode
  cells_of = cell_nodes w.table 1 g.cells

  named_keepable : (c : ℕ) (z : ℤ) → number_of (cell_at g c) ≡ Some z → IsKeepableNumber z
  named_keepable zero z is = (let n : None ≡ Some z = is in cc)
  named_keepable (suc i) z is = cell_keepable 1 g.cells (all_right IsFitNode roots_of cells_of k.local) i z is

  starred_keepable : (star : Bool) (u : Tree) (z : ℤ) → (number_of u ≡ Some z → IsKeepableNumber z) → starred g star u ≡ Some z → IsKeepableNumber z
  starred_keepable false u z own is = own is
  starred_keepable true (node (tree.Ptr (Some c)) ks) z own is = named_keepable c z is
  starred_keepable true _ z own is = (let n : None ≡ Some z = is in cc)

  number_kept : (star : Bool) (v : ℕ) (z : ℤ) → starred g star (root_at g v) ≡ Some z → IsKeepableNumber z
  number_kept star v z is =
      starred_keepable star (root_at g v) z (root_keepable 0 (root_list w) g.roots k.all_roots (all_left IsFitNode roots_of cells_of k.local) v z) is

-- the numbers of a fit
pub fit_keepable : (f : Fitting) → IsFit f → (star : Bool) (v : ℕ) (z : ℤ) → starred f.graph star (root_at f.graph v) ≡ Some z → IsKeepableNumber z
fit_keepable f k star v z is = number_kept (setting_beside f.interface k.operation f.side f.given) f.interface.legal.enumerators f.graph k.conforms star v z is

pub if_keepable : (f : Fitting) (g : Graph) (o : Option ℤ) (star : Bool) (v : ℕ) → IsFit f → g ≡ f.graph → o ≡ starred g star (root_at g v) → IfSome o IsKeepableNumber
if_keepable f g o star v k e is = go o (is ∙ ap (λ (u : Graph). starred u star (root_at u v)) e)
  where
    go : (o : Option ℤ) → o ≡ starred f.graph star (root_at f.graph v) → IfSome o IsKeepableNumber
    go None h = tt
    go (Some z) h = fit_keepable f k star v z (sym h)
