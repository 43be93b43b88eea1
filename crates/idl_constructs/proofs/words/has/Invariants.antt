use Rattle.std.proofs.Common.{◌≡◌, map}
use Rattle.idl_grammar.specs.Seen.{seen_attribute}
use Rattle.idl_rule_definitions.specs.Attributes.{is_word, has}
use Rattle.idl_constructs.specs.Spelled.{spelled}
use Rattle.idl_constructs.proofs.AnyFrom.{any_from}
use Rattle.idl_constructs.proofs.words.has.Given as goal

-- the word is among the attributes that are left, or nowhere
abbrev pub invariant-loop-attribute : goal.invariant-loop-attribute
invariant-loop-attribute l = any_from seen_attribute (is_word (spelled l.word)) l.attributes l.attribute-index ≡ has (spelled l.word) (map seen_attribute l.attributes)
