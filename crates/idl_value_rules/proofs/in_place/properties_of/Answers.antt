use Rattle.std.proofs.Common.{◌≡◌, ◌∙◌, ℕ, zero, suc, ◌<◌, List, [], ◌∷◌, ◌++◌, replicate, refl, ap, sym, subst}
use Rattle.idl_cycles.specs.declared.graph.rounds.Rule.{Rule}
use Rattle.idl_cycles.specs.declared.graph.rounds.Rule.TheVariants.{All}
use Rattle.idl_cycles.specs.Graph.{rule_at}
use Rattle.idl_declared_types.specs.InPlace.{hoists_rule, barred_rule, AreRules}
use Rattle.idl_value_rules.proofs.Bridges.{hoists_at, barred_at, nests_at, all_rules}
use Rattle.idl_value_rules.proofs.in_place.properties_of.Goals as goal

one_more : (n : ℕ) → replicate n All ++ All ∷ [] ≡ replicate (suc n) All
one_more zero = refl
one_more (suc n) = ap (λ l. All ∷ l) (one_more n)

pub returns : goal.returns
returns c s n is size =
    let ks = c.args.types.now.kinds in
    let count = c.args.count in
    let places = c.in_ok-graph.ensures s n is size in
    let hoisting = subst (λ (l : List Rule). AreRules hoists_rule ks count l) (sym c.as_slice.ensures.value) (c.in_ok-hoists.ensures size) in
    let barring = subst (λ (l : List Rule). AreRules barred_rule ks count l) (sym c.as_slice-3.ensures.value) (c.in_ok-barred.ensures size) in
    let alls : c.as_slice-2.result.now ≡ replicate (suc count) All =
    c.as_slice-2.ensures.value ∙ c.in-Ok.ensures.items ∙ ap (λ l. l ++ All ∷ []) (c.in_ok-nests.ensures.items_if_clones_equal (λ x e. e)) ∙ one_more count in
    let nesting : (node : ℕ) → node < suc count → rule_at c.as_slice-2.result.now node ≡ All = λ node h. ap (λ l. rule_at l node) alls ∙ all_rules count node h in
    record {
      hoists = λ node h. c.in_ok-properties.ensures.exact node ∙ hoists_at s ks count c.in_ok-graph.graph places c.as_slice.result.now hoisting node h;
      nests = λ node h. c.in_ok-properties-2.ensures.exact node ∙ nests_at s ks count c.in_ok-graph.graph places c.as_slice-2.result.now nesting node h;
      barred = λ node h. c.in_ok-properties-3.ensures.exact node ∙ barred_at s ks count c.in_ok-graph.graph places c.as_slice-3.result.now barring node h;
    }
