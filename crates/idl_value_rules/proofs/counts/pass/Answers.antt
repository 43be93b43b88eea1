use Rattle.std.proofs.Common.{◌∙◌, option_map, ap}
use Rattle.idl_rule_definitions.specs.Nodes.{place_in}
use Rattle.idl_rule_definitions.specs.Noted.{noted, if_broken}
use Rattle.idl_rule_definitions.specs.Found.{seen_breach}
use Rattle.idl_constructs.specs.SeenNodes.{seen_construct}
use Rattle.idl_value_rules.proofs.Passes.{passed}
use Rattle.idl_value_rules.proofs.counts.pass.Goals as goal

pub returns-clause-first : goal.returns-clause-first
returns-clause-first c w files =
    let k = seen_construct c.args.construct.now in
    c.note.ensures.first w files
    ∙ ap (λ p. noted w (option_map seen_breach c.args.finder.now.first) (if_broken 39 p c.is_among.result)) c.place.ensures
    ∙ ap (λ b. noted w (option_map seen_breach c.args.finder.now.first) (if_broken 39 (place_in k k.at) b)) c.is_among.ensures
    ∙ passed w k c.args.count c.args.due (option_map seen_breach c.args.finder.now.first)
