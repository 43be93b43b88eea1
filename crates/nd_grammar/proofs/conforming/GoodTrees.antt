-- The nodes of a conforming graph, tree by tree.
use Rattle.std.proofs.Common.{◌≡◌, ℕ, ◌+◌, ◌≤◌, zero, suc, List, [], ◌∷◌, length, Option, Some, None, refl, arith, subst, replicate}
use Rattle.std.specs.List.{AllByRecursion, slice_get}
use Rattle.std.proofs.lemmas.Option.{same_Some}
use Rattle.nd_types.specs.declared.types.TypeDef.{TypeDef}
use Rattle.nd_types.specs.Table.{Table, type_at}
use Rattle.nd_types.specs.Roots.{Root}
use Rattle.nd_value.specs.declared.value.Graph.{Graph}
use Rattle.nd_value.specs.declared.item.Home.TheVariants as home
use Rattle.nd_value.specs.Tree as tree
use Rattle.nd_value.specs.Tree.{Tree, Trees, node, none, more, Label, Referent, count, node_count, take_trees, drop_trees}
use Rattle.nd_value.specs.Agreement.{Agreement, root_agreements}
use Rattle.nd_value.specs.Setting.{Setting, root_list, root_at, or_unread, cell_of_number, cell_home}
use Rattle.nd_value.specs.Nodes.{TypedNode, nodes_of, child_types, child_agreements, first_agreements, rest_agreements}
use Rattle.nd_value.specs.Conforms.{HomeNode, in_home, all_nodes, root_nodes, cell_nodes, Conforms, AgreesAt}
use Rattle.nd_value.specs.Misfit.{misfit_of}
use Rattle.nd_value.proofs.Apart.{all_left, all_right, all_map}
use Rattle.nd_value.proofs.NodeFacts.{IsFit, fit_node, fit_children}

-- a node that fits by itself, and whose agreements hold
pub record IsGoodNode (table : Table) (g : Graph) (x : TypedNode) : Type 0 where
  pub fit : IsFit table g x.of x.label x.kids
  pub agrees : AgreesAt g x

-- the agreements of a node hold, wherever it stands
abbrev pub Agrees : Graph → Label → Trees → List Agreement → Type 0
Agrees g l ks ags = AgreesAt g (record { node = 0; of = 0; agreements = ags; label = l; kids = ks })

agrees_by : (g : Graph) (n t : ℕ) (ags : List Agreement) (l : Label) (ks : Trees)
    → AgreesAt g (record { node = n; of = t; agreements = ags; label = l; kids = ks }) → Agrees g l ks ags
agrees_by g n t ags (tree.Ptr None) ks a = a
agrees_by g n t ags (tree.Ptr (Some c)) ks a = a
agrees_by g n t ags (tree.Num z) ks a = a
agrees_by g n t ags _ ks a = a

module _ (table : Table) (g : Graph) where
  -- trees of these types, whose nodes fit and agree
  abbrev pub GoodTrees : List ℕ → List (List Agreement) → Trees → Type 0
  GoodTrees [] ags none = Unit {0}
  GoodTrees (t ∷ types) ags (more (node l ks) ts) =
      IsFit table g t l ks × Agrees g l ks (first_agreements ags)
      × GoodTrees (child_types (type_at table t) l ks) (child_agreements (type_at table t) ks) ks
      × GoodTrees types (rest_agreements ags) ts
  GoodTrees _ ags _ = ⊥

  pub good_trees : (types : List ℕ) (ags : List (List Agreement)) (n : ℕ) (ts : Trees) → count ts ≡ length types
      → AllByRecursion (IsGoodNode table g) (nodes_of table types ags n ts) → GoodTrees types ags ts
  good_trees [] ags n none e a = tt
  good_trees [] ags n (more t ts) e a = cc
  good_trees (t ∷ types) ags n none e a = cc
  good_trees (t ∷ types) ags n (more (node l ks) ts) e a =
      let d : Option TypeDef = type_at table t in
      let rest : List TypedNode = nodes_of table types (rest_agreements ags) (n + 1 + node_count ks) ts in
      let kids : List TypedNode = nodes_of table (child_types d l ks) (child_agreements d ks) (n + 1) ks in
      let e' : count ts ≡ length types = omega arith in (
        a.0.fit,
        agrees_by g n t (first_agreements ags) l ks a.0.agrees,
        good_trees (child_types d l ks) (child_agreements d ks) (n + 1) ks (fit_children d l ks a.0.fit.shape a.0.fit.arm) (all_left (IsGoodNode table g) kids rest a.1),
        good_trees types (rest_agreements ags) (n + 1 + node_count ks) ts e' (all_right (IsGoodNode table g) kids rest a.1),
      )

  abbrev pub GoodHomeNode : HomeNode → Type 0
  GoodHomeNode x = IsGoodNode table g x.typed

  good_cell : (n : ℕ) (xs : List Referent) → AllByRecursion GoodHomeNode (cell_nodes table n xs)
      → (i : ℕ) (x : Referent) → slice_get xs i ≡ Some x → GoodTrees (x.of ∷ []) [] (more x.val none)
  good_cell n [] a i x e = cc
  good_cell n (y ∷ ys) a zero x e =
      subst (λ u. GoodTrees (u.of ∷ []) [] (more u.val none)) (same_Some _ _ e)
      (good_trees (y.of ∷ []) [] 0 (more y.val none) refl (all_map GoodHomeNode (in_home (cell_home n)) _ (all_left GoodHomeNode _ (cell_nodes table (n + 1) ys) a)))
  good_cell n (y ∷ ys) a (suc i) x e = good_cell (n + 1) ys (all_right GoodHomeNode _ (cell_nodes table (n + 1) ys) a) i x e

  -- many of one type, parted
  pub good_take : (e k : ℕ) (ts : Trees) → k ≤ count ts → GoodTrees (replicate (count ts) e) [] ts → GoodTrees (replicate k e) [] (take_trees k ts)
  good_take e zero ts h a = tt
  good_take e (suc k) none h a = absurd (omega arith)
  good_take e (suc k) (more (node l ks) ts) h a = (a.0, a.1, a.2, good_take e k ts (omega arith) a.3)

  pub good_drop : (e k : ℕ) (ts : Trees) → GoodTrees (replicate (count ts) e) [] ts → GoodTrees (replicate (count (drop_trees k ts)) e) [] (drop_trees k ts)
  good_drop e zero ts a = a
  good_drop e (suc k) none a = tt
  good_drop e (suc k) (more (node l ks) ts) a = good_drop e k ts a.3

module _ (w : Setting) (g : Graph) where
  good_root : (n : ℕ) (rs : List Root) (vs : List Tree) → length vs ≡ length rs → AllByRecursion (GoodHomeNode w.table g) (root_nodes w g n rs vs)
      → (i : ℕ) (r : Root) → slice_get rs i ≡ Some r → GoodTrees w.table g (r.of ∷ []) (root_agreements w g r.vars ∷ []) (more (or_unread (slice_get vs i)) none)
  good_root n [] vs e a i r f = cc
  good_root n (q ∷ rs) [] e a i r f = cc
  good_root n (q ∷ rs) (v ∷ vs) e a zero r f =
      subst (λ u. GoodTrees w.table g (u.of ∷ []) (root_agreements w g u.vars ∷ []) (more v none)) (same_Some _ _ f)
      (good_trees w.table g (q.of ∷ []) (root_agreements w g q.vars ∷ []) 0 (more v none) refl
      (all_map (GoodHomeNode w.table g) (in_home (home.Root n)) _ (all_left (GoodHomeNode w.table g) _ (root_nodes w g (n + 1) rs vs) a)))
  good_root n (q ∷ rs) (v ∷ vs) e a (suc i) r f =
      let e' : length vs ≡ length rs = omega arith in
      good_root (n + 1) rs vs e' (all_right (GoodHomeNode w.table g) _ (root_nodes w g (n + 1) rs vs) a) i r f

  module _ (c : Conforms w g) where
    both_facts : (xs : List HomeNode) → AllByRecursion (λ x. misfit_of w.table g x.typed ≡ None) xs → AllByRecursion (λ x. AgreesAt g x.typed) xs
        → AllByRecursion (GoodHomeNode w.table g) xs
    both_facts [] a b = tt
    both_facts (x ∷ xs) a b = (record { fit = fit_node w.table g x.typed a.0; agrees = b.0 }, both_facts xs a.1 b.1)

    good_nodes : AllByRecursion (GoodHomeNode w.table g) (all_nodes w g)
    good_nodes = both_facts (all_nodes w g) c.local c.agreed

    pub good_cells : (k : ℕ) (x : Referent) → cell_of_number g k ≡ Some x → GoodTrees w.table g (x.of ∷ []) [] (more x.val none)
    good_cells zero x e = cc
    good_cells (suc i) x e = good_cell w.table g 1 g.cells (all_right (GoodHomeNode w.table g) (root_nodes w g 0 (root_list w) g.roots) _ good_nodes) i x e

    pub good_roots : (i : ℕ) (r : Root) → slice_get (root_list w) i ≡ Some r
        → GoodTrees w.table g (r.of ∷ []) (root_agreements w g r.vars ∷ []) (more (root_at g i) none)
    good_roots i r e = good_root 0 (root_list w) g.roots c.all_roots (all_left (GoodHomeNode w.table g) _ (cell_nodes w.table 1 g.cells) good_nodes) i r e
