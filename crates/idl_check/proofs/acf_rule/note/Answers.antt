use Rattle.std.proofs.Common.{◌∙◌, ap, option_map}
use Rattle.idl_rule_definitions.specs.Found.{seen_breach}
use Rattle.idl_rule_definitions.specs.Noted.{noted, if_broken}
use Rattle.idl_check.proofs.AcfNotes.{if_acf_broken}
use Rattle.idl_check.proofs.acf_rule.note.Goals as goal

pub returns-clause-first : goal.returns-clause-first
returns-clause-first c w files =
    c.note.ensures.first w files
    ∙ ap (λ l. noted w (option_map seen_breach c.args.finder.now.first) l) (ap (λ p. if_broken 40 p c.args.broken) c.place.ensures ∙ if_acf_broken c.args.at c.args.broken)
