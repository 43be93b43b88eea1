use Rattle.std.proofs.Common.{◌∙◌, map, option_map, refl, ap, sym}
use Rattle.idl_rule_definitions.specs.Noted.{noted}
use Rattle.idl_rule_definitions.specs.Found.{seen_breach}
use Rattle.idl_constructs.specs.SeenNodes.{seen_construct, seen_result}
use Rattle.idl_value_rules.specs.SeenCounts.{numbered, one_too_many, parts_at}
use Rattle.idl_value_rules.proofs.CountedNodes.{member_alike}
use Rattle.idl_value_rules.proofs.counts.part.Goals as goal

pub returns-in-Result-clause-first : goal.returns-in-Result-clause-first
returns-in-Result-clause-first c w files =
    let k = seen_construct c.in-Result.it.construct in
    c.member-in-Result.ensures.first w files
    ∙ ap (noted w (option_map seen_breach c.args.finder.now.first))
    (member_alike k.position c.args.due k (seen_result c.in-Result.it).construct refl ∙ sym (ap (λ n. map one_too_many (numbered c.args.due (parts_at n))) c.in-Result.is))
