use Rattle.std.proofs.Common.{◌≡◌, ◌∙◌, ap, ap₂, sym, subst, ◌++◌, option_map}
use Rattle.idl_rule_definitions.specs.Nodes.{Construct, place_in}
use Rattle.idl_rule_definitions.specs.Rules.{broken_in}
use Rattle.idl_rule_definitions.specs.Noted.{noted, if_broken}
use Rattle.idl_rule_definitions.specs.Found.{seen_breach}
use Rattle.idl_constructs.specs.SeenNodes.{seen_construct}
use Rattle.idl_rule_definitions.proofs.Noted.{noted_more}
use Rattle.idl_constructs.proofs.ListNotes.{if_broken_is}
use Rattle.idl_rules.proofs.asked.note.Goals as goal

pub returns-clause-next : goal.returns-clause-next
returns-clause-next c w first before co is_broken files is_construct is before_is =
    let rule = c.args.rule in
    c.note.ensures.first w files
    ∙ ap₂ (λ p b. noted w (option_map seen_breach c.args.finder.now.first) (if_broken rule p b)) c.place.ensures is
    ∙ ap (λ l. noted w (option_map seen_breach c.args.finder.now.first) l) (if_broken_is (seen_construct c.args.construct.now) rule c.args.construct.now.at is_broken)
    ∙ ap (λ d. noted w (option_map seen_breach c.args.finder.now.first) (broken_in d rule is_broken)) is_construct
    ∙ ap (λ o. noted w o (broken_in co rule is_broken)) before_is
    ∙ sym (noted_more w first before (broken_in co rule is_broken))
