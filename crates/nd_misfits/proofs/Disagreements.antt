-- The fourth pass, as it goes over the homes of a graph, finds the first disagreement.
use Rattle.std.proofs.Common.{◌≡◌, ℕ, ◌+◌, ◌<◌, get_or, drop, List, [], ◌∷◌, ◌++◌, length, Option, Some, None, refl, ap, ap₂, sym, ◌∙◌, map}
use Rattle.std.specs.List.{slice_get, AllByRecursion}
use Rattle.std.proofs.lemmas.List.{map-append, drop_more}
use Rattle.nd_types.specs.Table.{Table, type_at}
use Rattle.nd_types.specs.Roots.{Root, named_root}
use Rattle.nd_value.specs.declared.value.Graph.{Graph}
use Rattle.nd_value.specs.declared.item.Home.{Home}
use Rattle.nd_value.specs.declared.item.Home.TheVariants as home
use Rattle.nd_value.specs.declared.misfit.MisfitReason.{MisfitReason}
use Rattle.nd_value.specs.declared.misfit.NodeMisfit.{NodeMisfit}
use Rattle.nd_value.specs.Tree as tree
use Rattle.nd_value.specs.Tree.{Tree, Trees, Label, node, none, more, node_count, Referent}
use Rattle.nd_value.specs.Agreement.{Agreement, root_agreements}
use Rattle.nd_value.specs.Setting.{Setting, root_list, cell_home}
use Rattle.nd_value.specs.Nodes.{TypedNode, child_types, child_agreements, first_agreements, rest_agreements, nodes_of, governed_nodes, home_nodes}
use Rattle.nd_value.specs.Conforms.{HomeNode, in_home, root_nodes, cell_nodes, subject, or_later, first_node, disagreement_of, first_disagreeing}
use Rattle.nd_value.specs.Passes.{or_next, at_number, at_home}
use Rattle.nd_value.proofs.LocalPass.{or_later-assoc, at_home-or, at_home-number, first-append}
use Rattle.nd_misfits.specs.declared.homes.HomeValue.{HomeValue}
use Rattle.nd_misfits.specs.HomeList.{HomeTree, home_tree, root_homes, home_of_cell, cell_homes, homes_of}
use Rattle.nd_misfits.specs.Disagreeing.{subject_of, disagreeing_in, home_vars, own_disagreement, disagreeing_home, disagreeing_homes}
use Rattle.nd_misfits.proofs.AgreementWalk.{one_more, or_next-none}
use Rattle.nd_misfits.proofs.HomeWalk.{cell_more}
use Rattle.nd_misfits.proofs.Numbered.{IsOfParam, roots_own}

subject_same : (g : Graph) (n t : ℕ) (a : List Agreement) (l : Label) (ks : Trees)
    → subject g (record { node = n; of = t; agreements = a; label = l; kids = ks }) ≡ subject_of g l ks
subject_same g n t a (tree.Ptr None) ks = refl
subject_same g n t a (tree.Ptr (Some c)) ks = refl
subject_same g n t a (tree.Num z) ks = refl
subject_same g n t a tree.Rec ks = refl
subject_same g n t a (tree.Arr m o) ks = refl
subject_same g n t a (tree.Text m o) ks = refl
subject_same g n t a (tree.Union v) ks = refl
subject_same g n t a (tree.Context b i) ks = refl
subject_same g n t a tree.Pipe ks = refl
subject_same g n t a tree.Unread ks = refl

abbrev test : Graph → TypedNode → Option MisfitReason
test g x = disagreement_of (subject g x) x.agreements

module _ (table : Table) (g : Graph) where
  nodes_first : (h : Home) (types : List ℕ) (ags : List (List Agreement)) (n : ℕ) (ts : Trees)
      → first_node (test g) (map (in_home h) (nodes_of table types ags n ts)) ≡ at_home h (disagreeing_in table g types ags n ts)
  nodes_first h types ags n none = refl
  nodes_first h [] ags n (more t ts) = refl
  nodes_first h (t ∷ types) ags n (more (node l ks) ts) =
      let x : TypedNode = record { node = n; of = t; agreements = first_agreements ags; label = l; kids = ks } in
      let kids : List TypedNode = nodes_of table (child_types (type_at table t) l ks) (child_agreements (type_at table t) ks) (n + 1) ks in
      let rest : List TypedNode = nodes_of table types (rest_agreements ags) (n + 1 + node_count ks) ts in
      let a : Option NodeMisfit = at_number n (disagreement_of (subject_of g l ks) (first_agreements ags)) in
      let b : Option NodeMisfit = disagreeing_in table g (child_types (type_at table t) l ks) (child_agreements (type_at table t) ks) (n + 1) ks in
      let c : Option NodeMisfit = disagreeing_in table g types (rest_agreements ags) (n + 1 + node_count ks) ts in
      let later : first_node (test g) (map (in_home h) (kids ++ rest)) ≡ or_later (at_home h b) (at_home h c) =
      ap (first_node (test g)) (map-append (in_home h) kids rest) ∙ first-append (test g) (map (in_home h) kids) (map (in_home h) rest)
      ∙ ap₂ or_later (nodes_first h (child_types (type_at table t) l ks) (child_agreements (type_at table t) ks) (n + 1) ks)
      (nodes_first h types (rest_agreements ags) (n + 1 + node_count ks) ts) in
      ap₂ or_later
      (at_home-number h x (test g x) ∙ ap (λ ss. at_home h (at_number n (disagreement_of ss (first_agreements ags)))) (subject_same g n t (first_agreements ags) l ks)) later
      ∙ ap (or_later (at_home h a)) (sym (at_home-or h b c))
      ∙ sym (at_home-or h a (or_next b c))

module _ (w : Setting) (g : Graph) where
  ungoverned : (h : Home) (t : ℕ) (v : Tree) → at_home h (disagreeing_in w.table g (t ∷ []) [] 0 (more v none)) ≡ at_home h (disagreeing_in w.table g (t ∷ []) ([] ∷ []) 0 (more v none))
  ungoverned h t (node l ks) = refl

  cells_first : (c : ℕ) (xs : List Referent) → first_node (test g) (cell_nodes w.table c xs) ≡ disagreeing_homes w g (cell_homes c xs)
  cells_first c [] = refl
  cells_first c (x ∷ xs) =
      first-append (test g) (map (in_home (cell_home c)) (home_nodes w.table x.of x.val)) (cell_nodes w.table (c + 1) xs)
      ∙ ap₂ or_later (nodes_first w.table g (cell_home c) (x.of ∷ []) [] 0 (more x.val none) ∙ ungoverned (cell_home c) x.of x.val) (cells_first (c + 1) xs)

  roots_first : (i : ℕ) (rs : List Root) (vs : List Tree) → AllByRecursion (IsOfParam w.op) rs
      → first_node (test g) (root_nodes w g i rs vs) ≡ disagreeing_homes w g (root_homes i (map (named_root w.op) rs) vs)
  roots_first i [] [] a = refl
  roots_first i [] (v ∷ vs) a = refl
  roots_first i (r ∷ rs) [] a = refl
  roots_first i (r ∷ rs) (v ∷ vs) a =
      let xs : List HomeNode = map (in_home (home.Root i)) (governed_nodes w.table r.of (root_agreements w g r.vars) v) in
      first-append (test g) xs (root_nodes w g (i + 1) rs vs)
      ∙ ap₂ or_later
      (nodes_first w.table g (home.Root i) (r.of ∷ []) (root_agreements w g r.vars ∷ []) 0 (more v none)
      ∙ ap (λ us. at_home (home.Root i) (disagreeing_in w.table g (r.of ∷ []) (root_agreements w g us ∷ []) 0 (more v none))) (sym a.0.0))
      (roots_first (i + 1) rs vs a.1)

  pub homes_append : (xs ys : List HomeTree) → disagreeing_homes w g (xs ++ ys) ≡ or_later (disagreeing_homes w g xs) (disagreeing_homes w g ys)
  homes_append [] ys = refl
  homes_append (x ∷ xs) ys =
      ap (or_later (disagreeing_home w g x)) (homes_append xs ys)
      ∙ sym (or_later-assoc (disagreeing_home w g x) (disagreeing_homes w g xs) (disagreeing_homes w g ys))

  -- the first disagreement is the first of the roots, else of the cells
  pub disagreeing_first : first_disagreeing w g ≡ disagreeing_homes w g (homes_of (map (named_root w.op) (root_list w)) g)
  disagreeing_first =
      let rs : List HomeTree = root_homes 0 (map (named_root w.op) (root_list w)) g.roots in
      let cs : List HomeTree = cell_homes 1 g.cells in
      first-append (test g) (root_nodes w g 0 (root_list w) g.roots) (cell_nodes w.table 1 g.cells)
      ∙ ap₂ or_later (roots_first 0 (root_list w) g.roots (roots_own w.table w.side w.op)) (cells_first 1 g.cells)
      ∙ sym (homes_append rs cs)

  module _ (h : HomeTree) where
    split : disagreeing_home w g h
        ≡ at_home h.home (or_next (at_number 0 (own_disagreement w g h)) (disagreeing_in w.table g (h.of ∷ []) [] 0 (more h.val none)))
    split =
        ap (at_home h.home)
        (one_more w.table g h.of [] (root_agreements w g (home_vars w.op h.param) ∷ []) 0 h.val none
        ∙ ap (or_next (at_number 0 (own_disagreement w g h))) (or_next-none (disagreeing_in w.table g (h.of ∷ []) [] 0 (more h.val none))))

    -- the home's own value disagrees
    pub home_own : (r : MisfitReason) → own_disagreement w g h ≡ Some r → disagreeing_home w g h ≡ Some (record { home = h.home; node = 0; reason = r })
    home_own r e = split ∙ ap (λ o. at_home h.home (or_next (at_number 0 o) (disagreeing_in w.table g (h.of ∷ []) [] 0 (more h.val none)))) e

    -- a value within it does
    pub home_inside : (m : NodeMisfit) → own_disagreement w g h ≡ None → disagreeing_in w.table g (h.of ∷ []) [] 0 (more h.val none) ≡ Some m
        → disagreeing_home w g h ≡ Some (record { home = h.home; node = m.node; reason = m.reason })
    home_inside m e f =
        split ∙ ap (λ o. at_home h.home (or_next (at_number 0 o) (disagreeing_in w.table g (h.of ∷ []) [] 0 (more h.val none)))) e ∙ ap (at_home h.home) f

    -- none does
    pub home_agrees : own_disagreement w g h ≡ None → disagreeing_in w.table g (h.of ∷ []) [] 0 (more h.val none) ≡ None → disagreeing_home w g h ≡ None
    home_agrees e f =
        split ∙ ap (λ o. at_home h.home (or_next (at_number 0 o) (disagreeing_in w.table g (h.of ∷ []) [] 0 (more h.val none)))) e ∙ ap (at_home h.home) f

  -- the homes that are left
  pub homes_left : (hs : List HomeValue) (i : ℕ) (x : HomeValue) → x ≡ get_or hs i x → i < length hs
      → disagreeing_homes w g (map home_tree (drop i hs)) ≡ or_later (disagreeing_home w g (home_tree x)) (disagreeing_homes w g (map home_tree (drop (i + 1) hs)))
  homes_left hs i x e h =
      ap (λ xs. disagreeing_homes w g (map home_tree xs)) (drop_more hs i x h)
      ∙ ap (λ (y : HomeValue). disagreeing_homes w g (map home_tree (y ∷ drop (i + 1) hs))) (sym e)

  -- the cells that are left, the first of which is given twice
  pub cells_left : (xs : List Referent) (i : ℕ) (x : Referent) (h : HomeTree) → home_of_cell (i + 1) x ≡ h → slice_get xs i ≡ Some x
      → disagreeing_homes w g (cell_homes (i + 1) (drop i xs))
      ≡ or_later (disagreeing_home w g h) (disagreeing_homes w g (cell_homes (i + 1 + 1) (drop (i + 1) xs)))
  cells_left xs i x h e there =
      ap (disagreeing_homes w g) (cell_more xs i x there)
      ∙ ap (λ (k : HomeTree). or_later (disagreeing_home w g k) (disagreeing_homes w g (cell_homes (i + 1 + 1) (drop (i + 1) xs)))) e
