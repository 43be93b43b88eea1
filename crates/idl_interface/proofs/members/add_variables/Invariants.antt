use Rattle.std.proofs.Common.{◌≡◌, ◌++◌, map, drop}
use Rattle.idl_grammar.specs.Seen.{seen_attribute}
use Rattle.idl_rule_definitions.specs.Attributes.{variable_word}
use Rattle.idl_interface.specs.Made.{vars_by}
use Rattle.idl_interface.proofs.members.add_variables.Given as goal

-- what is there, with what is left
abbrev pub invariant-loop-attribute : goal.invariant-loop-attribute
invariant-loop-attribute l =
    l.variables ++ vars_by l.table (map seen_attribute (drop l.attribute-index l.attributes)) (variable_word l.word) l.attr
    ≡ l.initial.variables ++ vars_by l.table (map seen_attribute l.attributes) (variable_word l.word) l.attr
