-- For the code: sets of values, labels by their values, and what breaks the rule on them. A default has no value.
use Rattle.std.specs.Prelude.{◌≡◌, ℤ, Bool, true, not, ◌||◌, List, [], ◌∷◌, ◌++◌, map, Option, Some, None}
use Rattle.std.specs.List.{list_any}
use Rattle.idl_declared_types.specs.declared.labels.Valued.{Valued}
use Rattle.idl_grammar.specs.Tree.{Enumerator}
use Rattle.idl_scope.specs.Known.{Known}
use Rattle.idl_rule_definitions.specs.Nodes.{number_of, Construct, ArmLabel}
use Rattle.idl_rule_definitions.specs.Rules.{Breach, broken_at}
use Rattle.idl_rule_definitions.specs.DeclarationRules.{same_value, label_value}
use Rattle.idl_rule_definitions.specs.declared.rule.TheConstants as Rule

abbrev pub valued : Known → ArmLabel → Valued
valued known l = record { at = l.at; value = label_value known l }

-- a value is among these
abbrev pub is_among : Option ℤ → List (Option ℤ) → Bool
is_among v values = list_any (λ x. same_value x v) values

-- a set has just these values
abbrev pub Holds : List (Option ℤ) → List (Option ℤ) → Type 0
Holds set values = (v : Option ℤ) → is_among v set ≡ is_among v values

-- the values of enumerators
abbrev pub values_of : Known → List Enumerator → List (Option ℤ)
values_of known es = map (λ e. number_of known e.name.octets) es

abbrev pub accepts_value : (ℤ → Bool) → Option ℤ → Bool
accepts_value test None = true
accepts_value test (Some z) = test z

-- labels after these values, where a label has to pass a test
abbrev pub value_breaches : (ℤ → Bool) → Construct → List (Option ℤ) → List Valued → List Breach
value_breaches test c before [] = []
value_breaches test c before (v ∷ vs) =
    broken_at c Rule.LABELS v.at (not (accepts_value test v.value) || is_among v.value before) ++ value_breaches test c (before ++ v.value ∷ []) vs
