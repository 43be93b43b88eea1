-- How the passes come to the answer.
use Rattle.std.proofs.Common.{◌≡◌, ◌∙◌, ℕ, List, [], ◌∷◌, ◌++◌, map, Option, Some, None, Result, Ok, Err, refl, ap, sym, subst}
use Rattle.std.specs.Result.{IsErrAnd}
use Rattle.nd_types.specs.declared.interface.Interface.{Interface}
use Rattle.idl_rule_definitions.specs.declared.fault.RuleFault.{RuleFault}
use Rattle.idl_rule_definitions.specs.declared.fault.RuleFault.TheVariants as faults
use Rattle.idl_rule_definitions.specs.Answers.{Answers}
use Rattle.std.specs.List.{flat_map}
use Rattle.idl_scope.specs.Known.{Known}
use Rattle.idl_rule_definitions.specs.Nodes.{World, Node, nodes, file_nodes, place_in}
use Rattle.idl_rule_definitions.specs.Types.{Names}
use Rattle.idl_rule_definitions.specs.Scene.{Scene, Scoped, scoped_from, names_behind, scene_of}
use Rattle.idl_rule_definitions.specs.Rules.{Breach, breach, breaches, breaches_in, first_of, first_broken, IsLeast}
use Rattle.idl_rule_definitions.specs.DeclarationRules.{too_many}
use Rattle.idl_rule_definitions.specs.Noted.{noted, of_lists, of_others}
use Rattle.idl_constructs.specs.ListBreaches.{list_breaches}
use Rattle.idl_rule_definitions.specs.OtherBreaches.{other_breaches}
use Rattle.idl_rule_definitions.proofs.Order.{least}
use Rattle.idl_rule_definitions.proofs.Noted.{noted_more, noted_all, or_else, in_two}
use Rattle.idl_constructs.proofs.Split.{lists_in, others_in}
use Rattle.idl_rule_definitions.specs.declared.rule.TheConstants as Rule

nodes_of : (known : Known) (names : Names) (ns : List Node) → map (λ n. n.node) (scoped_from known names ns) ≡ ns
nodes_of known names [] = refl
nodes_of known names (n ∷ ns) = ap (λ l. n ∷ l) (nodes_of known (names_behind known names n) ns)

pub scene_nodes : (w : World) → map (λ n. n.node) (scene_of w).nodes ≡ nodes w
unfolding scene_of
scene_nodes w = nodes_of w.known [] (nodes w)

-- what the rules on lists tell of all nodes is the first of their breaches
pub lists_told : (w : World) (ns : List Node) → ns ≡ nodes w → noted w None (list_breaches ns) ≡ first_of w (of_lists (breaches w))
unfolding breaches
lists_told w ns is = noted_all w (list_breaches ns) ∙ ap (λ l. first_of w (list_breaches l)) (is ∙ sym (scene_nodes w)) ∙ ap (first_of w) (sym (lists_in (scene_of w)))

-- a rule on lists that is reported is the first of all
pub told_by_lists : (w : World) (ns : List Node) (b : Breach) → ns ≡ nodes w → Some b ≡ noted w None (list_breaches ns) → first_broken w ≡ Some b
told_by_lists w ns b is told =
    in_two w (breaches w) ∙ ap (λ o. or_else o (first_of w (of_others (breaches w)))) (sym (told ∙ lists_told w ns is))

-- where no rule on lists is reported, the others tell the first of all
pub told_by_others : (w : World) (ns : List Node) (before last : Option Breach) → ns ≡ nodes w → None ≡ noted w None (list_breaches ns)
    → before ≡ noted w None (other_breaches (scene_of w)) → last ≡ noted w before (map (λ c. breach Rule.COUNTS (place_in c c.at)) (too_many (scene_of w))) → last ≡ first_broken w
unfolding breaches
told_by_others w ns before last is none others counts =
    let rest = map (λ c. breach Rule.COUNTS (place_in c c.at)) (too_many (scene_of w)) in
    counts ∙ ap (λ o. noted w o rest) others ∙ sym (noted_more w None (other_breaches (scene_of w)) rest) ∙ noted_all w (other_breaches (scene_of w) ++ rest)
    ∙ ap (first_of w) (sym (others_in (scene_of w)))
    ∙ sym (in_two w (breaches w) ∙ ap (λ o. or_else o (first_of w (of_others (breaches w)))) (sym (none ∙ lists_told w ns is)))

-- no rule is broken where none is reported
pub none_broken : (w : World) → first_broken w ≡ None → breaches w ≡ []
none_broken w none = subst (λ o. IsLeast w (breaches w) o) none (least w (breaches w))

-- ## The same over the program's nodes

pub nodes_are : (w : World) → flat_map file_nodes w.files ≡ nodes w
unfolding nodes
nodes_are w = refl

pub told_over : (w : World) (s : Scene) (ns : List Node) (last : Option Breach) → s ≡ scene_of w → ns ≡ nodes w → None ≡ noted w None (list_breaches ns)
    → last ≡ noted w (noted w None (other_breaches s)) (map (λ c. breach Rule.COUNTS (place_in c c.at)) (too_many s)) → last ≡ first_broken w
told_over w s ns last same is none told =
    told_by_others w ns (noted w None (other_breaches (scene_of w))) last is none refl
    (told ∙ ap (λ t. noted w (noted w None (other_breaches t)) (map (λ c. breach Rule.COUNTS (place_in c c.at)) (too_many t))) same)

-- running out of memory is an answer
pub memory_answers : (w : World) (r : Result Interface RuleFault) → IsErrAnd r (λ e. e ≡ faults.Memory) → Answers w r
memory_answers w (Ok i) h = absurd h
memory_answers w (Err f) h = subst (λ (e : RuleFault). Answers w (Err e)) (sym h) tt
