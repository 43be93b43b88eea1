-- Each graph that conforms has one canonical form.
-- `w` is a setting, `g` a graph that conforms, `s` is how far the search for the order of its cells has come, `h` and `k` are canonical forms.
use Rattle.std.proofs.Common.{◌≡◌, ℕ, ◌+◌, ◌<◌, zero, suc, false, List, [], ◌∷◌, length, replicate, refl, ap, ◌∙◌, arith}
use Rattle.nd_value.specs.declared.value.Graph.{Graph}
use Rattle.nd_value.specs.declared.item.Home.{Home}
use Rattle.nd_value.specs.Canon.{IsCanon, canonical_number, named_cells}
use Rattle.nd_value.specs.Conforms.{Conforms}
use Rattle.nd_value.specs.Setting.{Setting}
use Rattle.nd_value.proofs.DeferralBridge.{deferral_is}
use Rattle.nd_value.proofs.NodeFacts.{sound_conforming}
use Rattle.nd_value.proofs.SameCells.{same_itself}
use Rattle.nd_flat.specs.Renumbered.{renumbered_graph}
use Rattle.nd_grammar.specs.LegalSide.{IsLegalSide}
use Rattle.nd_graph.specs.Naming.{root_homes}
use Rattle.nd_graph.specs.Order.{IsOrder, Ordering, numbering, visited}
use Rattle.nd_graph.proofs.Alike.{one_naming}
use Rattle.nd_graph.proofs.Complete.{all_named, has_names}
use Rattle.nd_graph.proofs.Ordered.{Ordered, ordered_end, ordered_start, visit_less, visit_step, visits_left}
use Rattle.nd_graph.proofs.Renumbered.{same_by_order}
use Rattle.nd_graph.proofs.NamingOrder.{named_in_order}
use Rattle.nd_graph.proofs.OneCanonical.{one_canonical}

-- the numbers of the cells by the cells, and the cells by their numbers
record HasOrder (g : Graph) : Type 0 where
  pub numbers : List ℕ
  pub cells : List ℕ
  pub is : IsOrder g numbers cells

module _ (w : Setting) (g : Graph) (c : Conforms w g) where
  -- the search comes to its end in so many visits
  search_from : (n : ℕ) (s : Ordering) → visits_left g s < n → Ordered g s → HasOrder g
  search_from zero s few o = absurd (omega (arith, few))
  search_from (suc n) s few o = by s.due refl (λ t less o. search_from n t less o)
    where
      by : (due : List Home) → s.due ≡ due → ((t : Ordering) → visits_left g t < n → Ordered g t → HasOrder g) → HasOrder g
      by [] e later = record { numbers = s.named.numbers; cells = s.named.cells; is = ordered_end g s (all_named w g c) e o }
      by (h ∷ rest) e later =
          let less = visit_less g s rest h e o in
          later (visited g h (record { named = s.named; stands = s.stands; due = rest })) (omega (arith, few, less)) (visit_step g (has_names w g c) s rest h e o)

  abbrev begins : Ordering
  begins = record {
    named = numbering (replicate {A = ℕ} (length g.cells + 1) 0) [];
    stands = replicate (length g.cells) false;
    due = root_homes 0 (length g.roots);
  }

  has_order : HasOrder g
  has_order = search_from (suc (visits_left g begins)) begins (omega arith) (ordered_start g begins (length g.cells) refl refl refl refl refl)

  module _ (side : IsLegalSide w) where
    pub canonical_exists : (h : Graph) × IsCanon w g h
    canonical_exists =
        let order : HasOrder g = has_order in
        let o : IsOrder g order.numbers order.cells = order.is in
        let (steps, deferral) = deferral_is w g (sound_conforming w g c) in
        let names : o.names ≡ named_cells w g steps = one_naming g o.named (named_in_order w side g c steps deferral) in
        let (same, numbered) = same_by_order g order.numbers order.cells o (has_names w g c) in (
          renumbered_graph order.numbers order.cells g,
          record {
            steps = steps;
            deferral = deferral;
            same = same;
            numbered = λ n lo hi. numbered n lo hi ∙ ap (λ ns. canonical_number ns n) names;
          },
        )

    pub canonical_alone : (h k : Graph) → IsCanon w g h → IsCanon w g k → h ≡ k
    canonical_alone h k o u = one_canonical w side g g h k c (same_itself g) o u
