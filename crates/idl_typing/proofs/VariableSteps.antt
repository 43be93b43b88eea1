-- The variables of attributes, one attribute after another.
use Rattle.std.proofs.Common.{◌≡◌, ℕ, zero, suc, ◌+◌, Bool, true, false, not, ◌||◌, List, [], ◌∷◌, ◌++◌, map, drop, Option, Some, None, slice_get, option_map, refl, sym, ap, ◌∙◌, arith}
use Rattle.std.specs.List.{list_any}
use Rattle.idl_grammar.specs.declared.attributes.Variable.{Variable}
use Rattle.idl_grammar.specs.Tree.{Attribute}
use Rattle.idl_scope.specs.Known.{Known}
use Rattle.idl_rule_definitions.specs.Attributes.{sizes, lengths, switch_is_word, variable_said}
use Rattle.idl_rule_definitions.specs.Nodes.{Declared}
use Rattle.idl_rule_definitions.specs.Types.{IdlType, Names}
use Rattle.idl_rule_definitions.specs.Scene.{use_of}
use Rattle.idl_rule_definitions.specs.VariableRules.{Listed, listed_from, variable_if, variables, is_right_variable, passes_listed, is_integer, may_be_switched, has_wrong_variable}
use Rattle.idl_declared_types.specs.SeenTypes.{bare, has_wrong_switch_variable}
use Rattle.idl_typing.specs.Lookups.{passes_it, fails_in}
use Rattle.idl_typing.proofs.Agreed.{any_same}
use Rattle.idl_typing.proofs.LookupSteps.{variables_next}

right_is : (known : Known) (names : Names) (list : List Declared) (index : ℕ) (d : Declared) (test : IdlType → Bool) (v : Variable)
    → is_right_variable (bare known) (use_of known names list index d) test v ≡ passes_it known names test v.star (option_map (λ (l : Listed). l.it) (listed_from 0 list v.name.octets))
right_is known names list index d test v = by (listed_from 0 list v.name.octets)
  where
    by : (o : Option Listed) → passes_listed (bare known) (use_of known names list index d) test v.star o ≡ passes_it known names test v.star (option_map (λ (l : Listed). l.it) o)
    by None = refl
    by (Some l) = refl

pub wrong_is : (known : Known) (names : Names) (list : List Declared) (index : ℕ) (d : Declared)
    → has_wrong_variable (bare known) (use_of known names list index d) ≡ list_any (fails_in known names is_integer list) (variables (sizes ++ lengths) d.construct.attributes)
wrong_is known names list index d =
    any_same (λ v. not (is_right_variable (bare known) (use_of known names list index d) is_integer v)) (fails_in known names is_integer list)
    (variables (sizes ++ lengths) d.construct.attributes) (λ v. ap not (right_is known names list index d is_integer v))

pub wrong_switch_is : (known : Known) (names : Names) (list : List Declared) (index : ℕ) (d : Declared)
    → has_wrong_switch_variable (bare known) (use_of known names list index d) ≡ list_any (fails_in known names may_be_switched list) (variables (switch_is_word ∷ []) d.construct.attributes)
wrong_switch_is known names list index d =
    any_same (λ v. not (is_right_variable (bare known) (use_of known names list index d) may_be_switched v)) (fails_in known names may_be_switched list)
    (variables (switch_is_word ∷ []) d.construct.attributes) (λ v. ap not (right_is known names list index d may_be_switched v))

module _ {B : Type 0} (f : Variable → Bool) (words : List (List ℕ)) (seen : B → Attribute) (xs : List B) (i : ℕ) (x : B) (whole : Bool) (here : slice_get xs i ≡ Some x)
    (same : whole ≡ list_any f (variables words (map seen (drop i xs)))) where
  pub none_says : list_any f (variable_if words (variable_said (seen x).kind)) ≡ false → whole ≡ list_any f (variables words (map seen (drop (i + 1) xs)))
  none_says h =
      let next : suc i ≡ i + 1 = omega arith in
      same ∙ variables_next f words seen xs i x here ∙ ap (λ b. b || list_any f (variables words (map seen (drop (suc i) xs)))) h
      ∙ ap (λ j. list_any f (variables words (map seen (drop j xs)))) next

  pub one_says : list_any f (variable_if words (variable_said (seen x).kind)) ≡ true → whole ≡ true
  one_says h = same ∙ variables_next f words seen xs i x here ∙ ap (λ b. b || list_any f (variables words (map seen (drop (suc i) xs)))) h
