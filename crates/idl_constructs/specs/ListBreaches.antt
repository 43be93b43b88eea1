-- For the code: what nodes break of the rules on attributes as they stand in lists, 1 to 4.
use Rattle.std.specs.Prelude.{◌≡◌, ℕ, Bool, List, [], ◌∷◌, ◌++◌}
use Rattle.std.specs.List.{flat_map, list_any}
use Rattle.std.specs.Str.{bytes_eq}
use Rattle.idl_grammar.specs.Tree.{Attribute}
use Rattle.idl_constructs.specs.declared.words.Word.{Word}
use Rattle.idl_constructs.specs.Spelled.{spelled}
use Rattle.idl_rule_definitions.specs.Attributes.{has}
use Rattle.idl_rule_definitions.specs.Nodes.{Construct, Node, HeaderNode, AttributeNode}
use Rattle.idl_rule_definitions.specs.Rules.{Breach, broken_at}
use Rattle.idl_rule_definitions.specs.DeclarationRules.{is_out_of_place, is_repeated, lacks_uuid_and_local, is_large_version}
use Rattle.idl_rule_definitions.specs.declared.rule.TheConstants as Rule

abbrev pub attribute_breaches : Construct → List Attribute → Attribute → List Breach
attribute_breaches c before a =
    broken_at c Rule.ATTRIBUTES_IN_PLACE a.at (is_out_of_place c.position a) ++ broken_at c Rule.NO_WORD_TWICE a.at (is_repeated before a)
    ++ broken_at c Rule.VERSION_NUMBERS a.at (is_large_version a)

-- those of a node
abbrev pub list_breaches_at : Node → List Breach
list_breaches_at (HeaderNode c at) = broken_at c Rule.UUID_OR_LOCAL at (lacks_uuid_and_local c)
list_breaches_at (AttributeNode c before a) = attribute_breaches c before a
list_breaches_at _ = []

abbrev pub list_breaches : List Node → List Breach
list_breaches nodes = flat_map list_breaches_at nodes

-- a word is one of these
abbrev pub is_among : List ℕ → List Word → Bool
is_among word words = list_any (λ w. bytes_eq word (spelled w)) words

-- these are the words of attributes
abbrev pub AreWords : List Word → List Attribute → Type 0
AreWords words attributes = (word : List ℕ) → is_among word words ≡ has word attributes
