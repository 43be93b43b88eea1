use Rattle.std.proofs.Common.{◌≡◌, map, drop}
use Rattle.idl_grammar.specs.Seen.{seen_attribute}
use Rattle.idl_rule_definitions.specs.Attributes.{switch_type_in}
use Rattle.idl_constructs.proofs.attributes.switch_type_in.Given as goal

-- what is left says what all say
abbrev pub invariant-loop-attribute : goal.invariant-loop-attribute
invariant-loop-attribute l = switch_type_in (map seen_attribute (drop l.attribute-index l.list)) ≡ switch_type_in (map seen_attribute l.list)
