-- The graphs of the rows are small.
use Rattle.std.proofs.Common.{◌≡◌, ℕ, [], ◌∷◌, sym, subst, lit<}
use Rattle.nd_value.specs.declared.value.Graph.{Graph}
use Rattle.test_graph.specs.Built.{pair_graph}
use Rattle.test_graph.specs.Graphs as rows
use Rattle.test_graph.specs.Graphs.{graph, pointer_to, IsSmall}

pub null_small : (g : Graph) → g ≡ graph (rows.null ∷ []) [] → IsSmall g
null_small g e = subst IsSmall (sym e) (record { few_cells = lit< tt; few_nodes = (lit< tt, tt) })

pub without_cells_small : (g : Graph) → g ≡ graph (pointer_to 1 ∷ []) [] → IsSmall g
without_cells_small g e = subst IsSmall (sym e) (record { few_cells = lit< tt; few_nodes = (lit< tt, tt) })

pub ring_of_one_small : (g : Graph) → g ≡ rows.ring_of_one → IsSmall g
ring_of_one_small g e = subst IsSmall (sym e) (record { few_cells = lit< tt; few_nodes = (lit< tt, (lit< tt, tt)) })

pub ring_of_two_small : (g : Graph) → g ≡ rows.ring_of_two → IsSmall g
ring_of_two_small g e = subst IsSmall (sym e) (record { few_cells = lit< tt; few_nodes = (lit< tt, (lit< tt, (lit< tt, tt))) })

pub ring_swapped_small : (g : Graph) → g ≡ rows.ring_swapped → IsSmall g
ring_swapped_small g e = subst IsSmall (sym e) (record { few_cells = lit< tt; few_nodes = (lit< tt, (lit< tt, (lit< tt, tt))) })

pub ring_and_leaf_small : (g : Graph) → g ≡ rows.ring_and_leaf → IsSmall g
ring_and_leaf_small g e = subst IsSmall (sym e) (record { few_cells = lit< tt; few_nodes = (lit< tt, (lit< tt, (lit< tt, tt))) })

pub pair_small : (g : Graph) → g ≡ pair_graph → IsSmall g
pair_small g e = subst IsSmall (sym e) (record { few_cells = lit< tt; few_nodes = (lit< tt, (lit< tt, (lit< tt, (lit< tt, (lit< tt, tt))))) })

pub apart_small : (g : Graph) → g ≡ rows.apart → IsSmall g
apart_small g e = subst IsSmall (sym e) (record { few_cells = lit< tt; few_nodes = (lit< tt, (lit< tt, (lit< tt, (lit< tt, tt)))) })

pub shared_small : (g : Graph) → g ≡ rows.shared → IsSmall g
shared_small g e = subst IsSmall (sym e) (record { few_cells = lit< tt; few_nodes = (lit< tt, (lit< tt, (lit< tt, tt))) })

pub miscounted_small : (g : Graph) → g ≡ rows.miscounted → IsSmall g
miscounted_small g e = subst IsSmall (sym e) (record { few_cells = lit< tt; few_nodes = (lit< tt, (lit< tt, tt)) })

pub zero_within_small : (g : Graph) → g ≡ rows.zero_within → IsSmall g
zero_within_small g e = subst IsSmall (sym e) (record { few_cells = lit< tt; few_nodes = (lit< tt, (lit< tt, tt)) })

pub two_back_small : (g : Graph) → g ≡ rows.two_back → IsSmall g
two_back_small g e = subst IsSmall (sym e) (record { few_cells = lit< tt; few_nodes = (lit< tt, tt) })

pub one_back_small : (n : ℕ) (g : Graph) → g ≡ rows.one_back n → IsSmall g
one_back_small n g e = subst IsSmall (sym e) (record { few_cells = lit< tt; few_nodes = (lit< tt, (lit< tt, (lit< tt, tt))) })

pub asked_small : (n : ℕ) (g : Graph) → g ≡ rows.asked n → IsSmall g
asked_small n g e = subst IsSmall (sym e) (record { few_cells = lit< tt; few_nodes = (lit< tt, tt) })

pub asked_by_pointer_small : (n : ℕ) (g : Graph) → g ≡ rows.asked_by_pointer n → IsSmall g
asked_by_pointer_small n g e = subst IsSmall (sym e) (record { few_cells = lit< tt; few_nodes = (lit< tt, (lit< tt, tt)) })
