-- The interface of the list is legal, and the list has few nodes.
use Rattle.std.proofs.Common.{◌≡◌, ℕ, ◌+◌, ◌<◌, ◌^◌, List, [], ◌∷◌, ◌++◌, map, Option, refl, ap, sym, ◌∙◌, subst, arith, lit≤, lit<}
use Rattle.nd_types.specs.Layout.{hoists}
use Rattle.nd_types.specs.Legal.{IsLegal, is_shallow, element_count, fits_pipes}
use Rattle.nd_value.specs.Tree as tree
use Rattle.nd_value.specs.Tree.{Tree, Referent, node, none, more, node_count, trees}
use Rattle.nd_value.specs.Conforms.{FewNodes}
use Rattle.bench_graph.specs.List.{list_types, list_operations, IsNode, AreNodes, AreLeaves, to_first, number, array, one_leaf}

pub legal : IsLegal list_types list_operations
unfolding hoists is_shallow element_count fits_pipes
legal = record {
  basic = refl;
  no_later_basic = refl;
  types_known = refl;
  params_known = refl;
  results_known = refl;
  nesting = refl;
  members = refl;
  enumerators = refl;
  bounds = refl;
  elements = refl;
  dimensions = refl;
  array_elements = refl;
  text_elements = refl;
  pipe_elements = refl;
  hoisting_members = refl;
  hoisting_arms = refl;
  pipes = refl;
  contexts = refl;
  tags = refl;
  labels = refl;
  distinct_labels = refl;
  switched_types = refl;
  referents = refl;
  ordered = refl;
  variables = refl;
  sized = refl;
  one_size = refl;
  varying = refl;
  one_length = refl;
  count_variables = refl;
  switched = refl;
  switches = refl;
  switch_variables = refl;
  handles = refl;
  out_pointers = refl;
  out_types = refl;
  results = refl;
  part_names = refl;
  operation_names = refl;
  few_types = lit≤ tt;
  few_operations = lit≤ tt;
  few_params = refl;
  few_parts = lit≤ tt;
}

-- a node more
pub more_nodes : (xs : List Referent) (x : Referent) → AreNodes xs → IsNode x → AreNodes (xs ++ x ∷ [])
more_nodes [] x h n = (n, tt)
more_nodes (y ∷ xs) x h n = (h.0, more_nodes xs x h.1 n)

few_cells : (xs : List Referent) → AreNodes xs → FewNodes (map (λ c. c.val) xs)
few_cells [] h = tt
few_cells (x ∷ xs) h = (let e : node_count (more x.val none) ≡ 3 = h.0 in omega (arith, e), few_cells xs h.1)

-- a list of nodes by a pointer to the first has few nodes
pub few_nodes : (rs : List Tree) (xs : List Referent) → rs ≡ to_first ∷ [] → AreNodes xs → FewNodes (rs ++ map (λ x. x.val) xs)
few_nodes rs xs e h = subst (λ ts. FewNodes (ts ++ map (λ x. x.val) xs)) (sym e) (lit< tt, few_cells xs h)

-- a pointer more
pub more_leaves : (ts : List Tree) (n : ℕ) (c : Option ℕ) → AreLeaves ts n → AreLeaves (ts ++ node (tree.Ptr c) none ∷ []) (n + 1)
more_leaves ts n c e = counted ts ∙ ap (λ k. k + 1) e
  where
    counted : (ts : List Tree) → node_count (trees (ts ++ node (tree.Ptr c) none ∷ [])) ≡ node_count (trees ts) + 1
    counted [] = refl
    counted (node l ks ∷ ts) =
        let h : node_count (trees (ts ++ node (tree.Ptr c) none ∷ [])) ≡ node_count (trees ts) + 1 = counted ts in
        omega (arith, h)

-- a number, and an array of pointers to one cell
pub few_leaves : (rs : List Tree) (xs : List Referent) (ts : List Tree) (n : ℕ) → AreLeaves ts n → n < 2 ^ 31
    → rs ≡ number n ∷ array n ts ∷ [] → xs ≡ one_leaf ∷ [] → FewNodes (rs ++ map (λ x. x.val) xs)
few_leaves rs xs ts n e few roots cells =
    subst (λ us. FewNodes (us ++ map (λ x. x.val) xs)) (sym roots)
    (subst (λ ys. FewNodes ((number n ∷ array n ts ∷ []) ++ map (λ x. x.val) ys)) (sym cells) (lit< tt, (omega (arith, e, few), (lit< tt, tt))))
