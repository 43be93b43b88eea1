-- The local pass, as it goes over a graph, finds the first local misfit.
use Rattle.std.proofs.Common.{◌≡◌, ℕ, ◌+◌, ◌<◌, ◌≤◌, suc, eqb, List, [], ◌∷◌, ◌++◌, length, drop, get_or, Option, Some, None, refl, ap, ap₂, sym, ◌∙◌, arith, subst, cond, map}
use Rattle.std.specs.List.{slice_get}
use Rattle.std.proofs.lemmas.Bool.{ne_eqb, eq-eqb, lt-ltb, le-ltb, cond-true, cond-false}
use Rattle.std.proofs.lemmas.List.{map-append}
use Rattle.std.proofs.lemmas.Option.{slice_get-get_or}
use Rattle.nd_types.specs.Table.{Table, type_at}
use Rattle.nd_types.specs.Roots.{Root, NamedRoot, named_root}
use Rattle.nd_value.specs.declared.value.Graph.{Graph}
use Rattle.nd_value.specs.declared.item.Home.{Home}
use Rattle.nd_value.specs.declared.item.Home.TheVariants as home
use Rattle.nd_value.specs.declared.misfit.MisfitReason.{MisfitReason}
use Rattle.nd_value.specs.declared.misfit.MisfitReason.TheVariants as misfit
use Rattle.nd_value.specs.declared.misfit.Misfit.{Misfit}
use Rattle.nd_value.specs.declared.misfit.Misfit.TheVariants as answer
use Rattle.nd_value.specs.declared.misfit.NodeMisfit.{NodeMisfit}
use Rattle.nd_value.specs.Tree.{Tree, Trees, node, none, more, node_count, Referent}
use Rattle.nd_value.specs.Agreement.{Agreement, root_agreements}
use Rattle.nd_value.specs.Setting.{Setting, root_list, cell_home}
use Rattle.nd_value.specs.Nodes.{TypedNode, child_types, child_agreements, first_agreements, rest_agreements, nodes_of, governed_nodes, home_nodes}
use Rattle.nd_value.specs.Conforms.{HomeNode, in_home, root_nodes, cell_nodes, MisfitAt, or_later, at_node, first_node, root_count, first_local}
use Rattle.nd_value.specs.Misfit.{misfit_of}
use Rattle.nd_value.specs.Passes.{Tells, or_next, at_number, first_in, at_home, first_in_home, first_in_roots, first_in_cells}
use Rattle.nd_lemmas.proofs.Lists.{drop_next as drop-get, drop_past as drop-past}

pub or_later-assoc : (a b c : Option MisfitAt) → or_later (or_later a b) c ≡ or_later a (or_later b c)
or_later-assoc None b c = refl
or_later-assoc (Some m) b c = refl

pub at_home-or : (h : Home) (a b : Option NodeMisfit) → at_home h (or_next a b) ≡ or_later (at_home h a) (at_home h b)
at_home-or h None b = refl
at_home-or h (Some m) b = refl

pub at_home-number : (h : Home) (x : TypedNode) (o : Option MisfitReason) → at_node (in_home h x) o ≡ at_home h (at_number x.node o)
at_home-number h x None = refl
at_home-number h x (Some r) = refl

pub first-append : (test : TypedNode → Option MisfitReason) (xs ys : List HomeNode) → first_node test (xs ++ ys) ≡ or_later (first_node test xs) (first_node test ys)
first-append test [] ys = refl
first-append test (x ∷ xs) ys =
    ap (or_later (at_node x (test x.typed))) (first-append test xs ys)
    ∙ sym (or_later-assoc (at_node x (test x.typed)) (first_node test xs) (first_node test ys))

-- the misfits that are due for a wrong number of roots
pub count_same : (has due : ℕ) → has ≡ due → root_count has due ≡ None
count_same has due e = cond-true (eqb has due) None _ (eq-eqb has due e)

abbrev shape_at : ℕ → Option MisfitAt
shape_at i = Some (record { home = home.Root i; node = 0; reason = misfit.Shape })

count_missing : (has due : ℕ) → has < due → root_count has due ≡ shape_at has
count_missing has due lt =
    cond-false (eqb has due) None _ (ne_eqb has due (λ e. omega (arith, e, lt))) ∙ ap (λ b. shape_at (cond b has due)) (lt-ltb has due lt)

count_surplus : (has due : ℕ) → due < has → root_count has due ≡ shape_at due
count_surplus has due gt =
    cond-false (eqb has due) None _ (ne_eqb has due (λ e. omega (arith, e, gt))) ∙ ap (λ b. shape_at (cond b has due)) (le-ltb has due (omega (arith, gt)))

module _ (table : Table) (g : Graph) where
  abbrev test : TypedNode → Option MisfitReason
  test x = misfit_of table g x

  -- the nodes of a home, whatever agreements govern them
  nodes_first : (h : Home) (types : List ℕ) (ags : List (List Agreement)) (n : ℕ) (ts : Trees)
      → first_node test (map (in_home h) (nodes_of table types ags n ts)) ≡ at_home h (first_in table g types n ts)
  nodes_first h types ags n none = refl
  nodes_first h [] ags n (more t ts) = refl
  nodes_first h (t ∷ types) ags n (more (node l ks) ts) =
      let x : TypedNode = record { node = n; of = t; agreements = first_agreements ags; label = l; kids = ks } in
      let kids : List TypedNode = nodes_of table (child_types (type_at table t) l ks) (child_agreements (type_at table t) ks) (n + 1) ks in
      let rest : List TypedNode = nodes_of table types (rest_agreements ags) (n + 1 + node_count ks) ts in
      let a : Option NodeMisfit = at_number n (misfit_of table g x) in
      let b : Option NodeMisfit = first_in table g (child_types (type_at table t) l ks) (n + 1) ks in
      let c : Option NodeMisfit = first_in table g types (n + 1 + node_count ks) ts in
      let later : first_node test (map (in_home h) (kids ++ rest)) ≡ or_later (at_home h b) (at_home h c) =
      ap (first_node test) (map-append (in_home h) kids rest) ∙ first-append test (map (in_home h) kids) (map (in_home h) rest)
      ∙ ap₂ or_later (nodes_first h (child_types (type_at table t) l ks) (child_agreements (type_at table t) ks) (n + 1) ks)
      (nodes_first h types (rest_agreements ags) (n + 1 + node_count ks) ts) in
      ap₂ or_later (at_home-number h x (misfit_of table g x)) later
      ∙ ap (or_later (at_home h a)) (sym (at_home-or h b c))
      ∙ sym (at_home-or h a (or_next b c))

  pub cells_first : (c : ℕ) (xs : List Referent) → first_node test (cell_nodes table c xs) ≡ first_in_cells table g c xs
  cells_first c [] = refl
  cells_first c (x ∷ xs) =
      first-append test (map (in_home (cell_home c)) (home_nodes table x.of x.val)) (cell_nodes table (c + 1) xs)
      ∙ ap₂ or_later (nodes_first (cell_home c) (x.of ∷ []) [] 0 (more x.val none)) (cells_first (c + 1) xs)

module _ (w : Setting) (g : Graph) where
  pub roots_first : (i : ℕ) (rs : List Root) (vs : List Tree)
      → or_later (first_node (misfit_of w.table g) (root_nodes w g i rs vs)) (root_count (i + length vs) (i + length rs))
      ≡ first_in_roots w.table g i (map (named_root w.op) rs) vs
  roots_first i [] [] = count_same (i + 0) (i + 0) refl
  roots_first i [] (v ∷ vs) = count_surplus (i + suc (length vs)) (i + 0) (omega arith) ∙ ap shape_at (omega arith)
  roots_first i (r ∷ rs) [] = count_missing (i + 0) (i + suc (length rs)) (omega arith) ∙ ap shape_at (omega arith)
  roots_first i (r ∷ rs) (v ∷ vs) =
      let xs : List HomeNode = map (in_home (home.Root i)) (governed_nodes w.table r.of (root_agreements w g r.vars) v) in
      let ys : List HomeNode = root_nodes w g (i + 1) rs vs in
      let m : i + suc (length vs) ≡ i + 1 + length vs = omega arith in
      let n : i + suc (length rs) ≡ i + 1 + length rs = omega arith in
      ap₂ or_later (first-append (misfit_of w.table g) xs ys) (ap₂ root_count m n)
      ∙ or_later-assoc (first_node (misfit_of w.table g) xs) (first_node (misfit_of w.table g) ys) (root_count (i + 1 + length vs) (i + 1 + length rs))
      ∙ ap₂ or_later (nodes_first w.table g (home.Root i) (r.of ∷ []) (root_agreements w g r.vars ∷ []) 0 (more v none)) (roots_first (i + 1) rs vs)

  -- the first local misfit is the first of the roots, else of the cells
  pub local_first : first_local w g ≡ or_later (first_in_roots w.table g 0 (map (named_root w.op) (root_list w)) g.roots) (first_in_cells w.table g 1 g.cells)
  local_first =
      let a : Option MisfitAt = first_node (misfit_of w.table g) (root_nodes w g 0 (root_list w) g.roots) in
      let b : Option MisfitAt = root_count (length g.roots) (length (root_list w)) in
      let c : Option MisfitAt = first_node (misfit_of w.table g) (cell_nodes w.table 1 g.cells) in
      let m : length g.roots ≡ 0 + length g.roots = omega arith in
      let n : length (root_list w) ≡ 0 + length (root_list w) = omega arith in
      sym (or_later-assoc a b c)
      ∙ ap₂ or_later (ap (or_later a) (ap₂ root_count m n) ∙ roots_first 0 (root_list w) g.roots) (cells_first w.table g 1 g.cells)

module _ (table : Table) (g : Graph) where
  -- one root further
  pub root_next : (rs : List NamedRoot) (vs : List Tree) (i : ℕ) (r : NamedRoot) (v : Tree) → slice_get rs i ≡ Some r → slice_get vs i ≡ Some v
      → first_in_roots table g i (drop i rs) (drop i vs)
      ≡ or_later (first_in_home table g (home.Root i) r.of v) (first_in_roots table g (i + 1) (drop (i + 1) rs) (drop (i + 1) vs))
  root_next rs vs i r v e f = ap₂ (first_in_roots table g i) (drop-get rs i r e) (drop-get vs i v f)

  -- a root that is missing
  pub root_missing : (rs : List NamedRoot) (vs : List Tree) (i : ℕ) (r : NamedRoot) → slice_get rs i ≡ Some r → length vs ≤ i
      → first_in_roots table g i (drop i rs) (drop i vs) ≡ shape_at i
  root_missing rs vs i r e h = ap₂ (first_in_roots table g i) (drop-get rs i r e) (drop-past vs i h)

  -- a root that is too many
  pub root_surplus : (rs : List NamedRoot) (vs : List Tree) (i : ℕ) (v : Tree) → length rs ≤ i → slice_get vs i ≡ Some v
      → first_in_roots table g i (drop i rs) (drop i vs) ≡ shape_at i
  root_surplus rs vs i v h f = ap₂ (first_in_roots table g i) (drop-past rs i h) (drop-get vs i v f)

  -- no root is left
  pub roots_end : (rs : List NamedRoot) (vs : List Tree) (i : ℕ) → length rs ≤ i → length vs ≤ i
      → first_in_roots table g i (drop i rs) (drop i vs) ≡ None
  roots_end rs vs i h f = ap₂ (first_in_roots table g i) (drop-past rs i h) (drop-past vs i f)

  -- one cell further
  pub cell_next : (xs : List Referent) (i : ℕ) (x : Referent) → slice_get xs i ≡ Some x
      → first_in_cells table g (i + 1) (drop i xs)
      ≡ or_later (first_in_home table g (cell_home (i + 1)) x.of x.val) (first_in_cells table g (i + 1 + 1) (drop (i + 1) xs))
  cell_next xs i x e = ap (first_in_cells table g (i + 1)) (drop-get xs i x e)

-- what is reported of the first is reported of both
pub tells_first : (o a b : Option MisfitAt) (e : Misfit) → o ≡ or_later a b → Tells a e → Tells o e
tells_first o a b answer.Memory s h = tt
tells_first o a b (answer.At k n r) s h = s ∙ ap (λ x. or_later x b) h

-- what is reported of the later is reported of both, where the first has none
pub tells_later : (o a b : Option MisfitAt) (e : Misfit) → o ≡ or_later a b → a ≡ None → Tells b e → Tells o e
tells_later o a b answer.Memory s n h = tt
tells_later o a b (answer.At k i r) s n h = s ∙ ap (λ x. or_later x b) n ∙ h

-- a wrong root is reported
pub told_shape : (o : Option MisfitAt) (i : ℕ) (e : Misfit) → e ≡ answer.At (home.Root i) 0 misfit.Shape → o ≡ shape_at i → Tells o e
told_shape o i e s h = subst (Tells o) (sym s) h

-- where the first has none, both have what the later has
pub later_left : (o a b : Option MisfitAt) → o ≡ or_later a b → a ≡ None → o ≡ b
later_left o a b s h = s ∙ ap (λ x. or_later x b) h

-- a root that a walk gives is the next of the walk
pub given_root : (rs : List NamedRoot) (i n : ℕ) (r : NamedRoot) → i ≡ n → (n < length rs) × (r ≡ get_or rs n r) → slice_get rs i ≡ Some r
given_root rs i n r e h = ap (slice_get rs) e ∙ slice_get-get_or rs n r h.0 ∙ ap Some (sym h.1)
