use Rattle.std.proofs.Common.{◌≡◌, map, drop}
use Rattle.idl_grammar.specs.Seen.{seen_attribute}
use Rattle.idl_rule_definitions.specs.Attributes.{first_said}
use Rattle.idl_rule_definitions.specs.Meaning.{major_said}
use Rattle.idl_interface.proofs.header.first_major.Given as goal

-- what is left says what all say
abbrev pub invariant-loop-attribute : goal.invariant-loop-attribute
invariant-loop-attribute l = first_said major_said (map seen_attribute (drop l.attribute-index l.list)) ≡ first_said major_said (map seen_attribute l.list)
