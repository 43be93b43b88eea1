use Rattle.std.proofs.Common.{◌∙◌, true, option_map, ap}
use Rattle.idl_rule_definitions.specs.Noted.{noted, if_broken}
use Rattle.idl_rule_definitions.specs.Found.{seen_breach}
use Rattle.idl_value_rules.proofs.counts.note_one.Goals as goal

pub returns-clause-first : goal.returns-clause-first
returns-clause-first c w files = c.note.ensures.first w files ∙ ap (λ p. noted w (option_map seen_breach c.args.finder.now.first) (if_broken 39 p true)) c.place.ensures
