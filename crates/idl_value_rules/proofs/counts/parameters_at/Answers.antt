use Rattle.std.proofs.Common.{◌∙◌, option_map, ap}
use Rattle.idl_rule_definitions.specs.Noted.{noted}
use Rattle.idl_rule_definitions.specs.Found.{seen_breach}
use Rattle.idl_value_rules.proofs.CountedNodes.{parameters_are}
use Rattle.idl_value_rules.proofs.counts.parameters_at.Goals as goal

pub returns-in-Some-clause-first : goal.returns-in-Some-clause-first
returns-in-Some-clause-first c w files =
    c.parameters_of.ensures.first w files
    ∙ ap (λ l. noted w (option_map seen_breach c.args.finder.now.first) l)
    (parameters_are c.args.nodes.now.lists.items c.args.limit c.args.node.now c.in-Operation.it c.in-Operation.parameters c.in-Some.list.now c.in-Operation.is c.in-Some.ensures)
