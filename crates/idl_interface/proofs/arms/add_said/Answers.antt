use Rattle.std.proofs.Common.{◌∙◌, ◌++◌, map, sym, ap}
use Rattle.std.proofs.lemmas.Result.{on_ok_weaker}
use Rattle.idl_grammar.specs.Tree as tree
use Rattle.idl_grammar.specs.Seen.{seen_expr, seen_kind}
use Rattle.idl_scope.specs.Seen.{known_in}
use Rattle.idl_rule_definitions.specs.Nodes.{labels_said}
use Rattle.idl_rule_definitions.specs.DeclarationRules.{label_value}
use Rattle.idl_interface.proofs.Making.{case_said}
use Rattle.idl_interface.proofs.arms.add_said.Goals as goal

pub returns-in-Case : goal.returns-in-Case
returns-in-Case c =
    let k = known_in c.args.scope.now in
    let at = c.args.attribute.now.at in
    let before = c.args.labels.now.items in
    on_ok_weaker c.add_values.result
    (λ e. e ∙ (ap (λ l. before ++ l) (case_said k at (map seen_expr c.as_slice.result.now))
    ∙ (ap (λ es. before ++ map (label_value k) (labels_said at (tree.Case (map seen_expr es)))) c.as_slice.ensures.value
    ∙ ap (λ x. before ++ map (label_value k) (labels_said at (seen_kind x))) (sym c.in-Case.is))))
    c.add_values.ensures
