use Rattle.std.proofs.Common.{◌∙◌, ◌-◌, map, length, option_map, ap, sym}
use Rattle.std.specs.List.{flat_map}
use Rattle.nd_types.specs.declared.TheConstants.{TYPE_LIMIT, OPERATION_LIMIT, PARAM_LIMIT, MEMBER_LIMIT}
use Rattle.nd_types.specs.Kinds.{basic_types}
use Rattle.idl_scope.specs.Seen.{seen_files}
use Rattle.idl_rule_definitions.specs.DeclarationRules.{first_past}
use Rattle.idl_rule_definitions.specs.Rules.{breach}
use Rattle.idl_rule_definitions.specs.Noted.{noted}
use Rattle.idl_rule_definitions.specs.Found.{seen_breach}
use Rattle.idl_value_rules.specs.SeenCounts.{one_too_many, operations_at, parts_at}
use Rattle.idl_value_rules.proofs.CountedNodes.{all_too_many}
use Rattle.idl_value_rules.proofs.counts.too_many.Goals as goal
use Rattle.idl_rule_definitions.specs.declared.rule.TheConstants as Rule

pub returns-clause-first : goal.returns-clause-first
returns-clause-first c w known ks files are =
    let after-types = files ∙ ap seen_files (sym c.types.ensures.files) in
    let after-operations = after-types ∙ ap seen_files (sym c.operations.ensures.files) in
    let after-parameters = after-operations ∙ ap seen_files (sym c.parameters.ensures.files) in
    all_too_many w known ks c.args.nodes.now c.args.numbers.now (TYPE_LIMIT - length basic_types) OPERATION_LIMIT PARAM_LIMIT MEMBER_LIMIT
    (option_map seen_breach c.args.finder.now.first) (option_map seen_breach c.types.new.finder.first) (option_map seen_breach c.operations.new.finder.first)
    (option_map seen_breach c.parameters.new.finder.first) (option_map seen_breach c.parts.new.finder.first) are
    (c.types.ensures.first w files
    ∙ ap (λ l. noted w (option_map seen_breach c.args.finder.now.first) (map (λ o. breach Rule.COUNTS o.place) (first_past (TYPE_LIMIT - length basic_types) l))) c.as_slice.ensures.value)
    (c.operations.ensures.first w after-types
    ∙ ap (λ l. noted w (option_map seen_breach c.types.new.finder.first) (map one_too_many (first_past OPERATION_LIMIT (flat_map operations_at l)))) c.as_slice-2.ensures.value)
    (c.parameters.ensures.first w after-operations)
    (c.parts.ensures.first w after-parameters
    ∙ ap (λ l. noted w (option_map seen_breach c.parameters.new.finder.first) (map one_too_many (first_past MEMBER_LIMIT (flat_map parts_at l)))) c.as_slice-3.ensures.value)
