use Rattle.std.proofs.Common.{◌≡◌, ◌∙◌, map, option_map, refl, ap, sym}
use Rattle.idl_scope.specs.Seen.{seen_files, known_in}
use Rattle.idl_rule_definitions.specs.Checked.{world_of}
use Rattle.idl_rule_definitions.specs.DeclarationRules as rules
use Rattle.idl_rule_definitions.specs.Found.{seen_breach}
use Rattle.idl_rule_definitions.specs.Noted.{noted}
use Rattle.idl_rule_definitions.specs.OtherBreaches.{other_breaches}
use Rattle.idl_value_rules.specs.SeenCounts.{one_too_many}
use Rattle.idl_declared_types.specs.SeenTypes.{scene_seen}
use Rattle.idl_rules.proofs.checking.other_breach.Goals as goal

pub returns : goal.returns
returns c typed numbered =
    let w = world_of c.args.scope.now in
    let s = scene_seen (known_in c.args.scope.now) c.args.nodes.now in
    let first = ap seen_files (sym c.new-finder.ensures.files) in
    let second = ap seen_files (sym (c.in_ok-other_rules.ensures.files ∙ c.new-finder.ensures.files)) in
    ap (option_map seen_breach) c.first.ensures
    ∙ c.too_many.ensures.first w (known_in c.args.scope.now) c.args.types.now.kinds second numbered
    ∙ ap (λ o. noted w o (map one_too_many (rules.too_many s)))
    (c.in_ok-other_rules.ensures.first w s first refl typed (c.in_ok-marks.ensures s c.args.nodes.now typed)
    ∙ ap (λ o. noted w (option_map seen_breach o) (other_breaches s)) c.new-finder.ensures.none)
