use Rattle.std.proofs.Common.{◌∙◌, option_map, length, sym, ap}
use Rattle.std.proofs.lemmas.Bool.{ltb-true, ltb-false}
use Rattle.idl_rule_definitions.specs.Found.{seen_breach}
use Rattle.idl_rule_definitions.specs.Noted.{noted}
use Rattle.idl_rule_definitions.specs.Rules.{breach}
use Rattle.idl_value_rules.proofs.Passes.{one_past, past_end}
use Rattle.idl_value_rules.proofs.counts.types.Goals as goal
use Rattle.idl_rule_definitions.specs.declared.rule.TheConstants as Rule

pub returns-in-Some-clause-first : goal.returns-in-Some-clause-first
returns-in-Some-clause-first c w files =
    c.note.ensures.first w files
    ∙ ap (noted w (option_map seen_breach c.args.finder.now.first))
    (one_past (λ o. breach Rule.COUNTS o.place) c.args.own.now c.args.limit c.in-Some.first.now
    (ltb-true c.args.limit (length c.args.own.now) (sym c.in-Some.ensures.lookup.0)) c.in-Some.ensures.lookup.1)

pub returns-in_default-clause-first : goal.returns-in_default-clause-first
returns-in_default-clause-first c w files =
    ap (noted w (option_map seen_breach c.args.finder.now.first))
    (past_end (λ o. breach Rule.COUNTS o.place) c.args.own.now c.args.limit (ltb-false c.args.limit (length c.args.own.now) (sym c.in_default.ensures.lookup.0)))
