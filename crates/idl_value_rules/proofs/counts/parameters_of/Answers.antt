use Rattle.std.proofs.Common.{◌∙◌, option_map, length, sym, ap}
use Rattle.std.proofs.lemmas.Bool.{ltb-true, ltb-false}
use Rattle.idl_rule_definitions.specs.Found.{seen_breach}
use Rattle.idl_rule_definitions.specs.Noted.{noted}
use Rattle.idl_constructs.specs.SeenNodes.{seen_construct}
use Rattle.idl_value_rules.specs.SeenCounts.{one_too_many}
use Rattle.idl_value_rules.proofs.Passes.{one_past, past_end}
use Rattle.idl_value_rules.proofs.counts.parameters_of.Goals as goal

pub returns-in-Some-clause-first : goal.returns-in-Some-clause-first
returns-in-Some-clause-first c w files =
    c.note_one.ensures.first w files
    ∙ ap (noted w (option_map seen_breach c.args.finder.now.first))
    (one_past (λ p. one_too_many (seen_construct p.construct)) c.args.list.now c.args.limit c.in-Some.first.now
    (ltb-true c.args.limit (length c.args.list.now) (sym c.in-Some.ensures.lookup.0)) c.in-Some.ensures.lookup.1)

pub returns-in_default-clause-first : goal.returns-in_default-clause-first
returns-in_default-clause-first c w files =
    ap (noted w (option_map seen_breach c.args.finder.now.first))
    (past_end (λ p. one_too_many (seen_construct p.construct)) c.args.list.now c.args.limit (ltb-false c.args.limit (length c.args.list.now) (sym c.in_default.ensures.lookup.0)))
