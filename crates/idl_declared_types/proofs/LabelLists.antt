-- The labels of the items that are left of the program's vectors, with their values.
use Rattle.std.proofs.Common.{◌≡◌, ℕ, List, [], ◌∷◌, ◌++◌, map, Some, refl}
use Rattle.std.specs.List.{flat_map}
use Rattle.std.proofs.lemmas.List.{map-append}
use Rattle.idl_grammar.specs.declared.expressions.Expr as expressions
use Rattle.idl_grammar.specs.declared.attributes.Attribute as attributes
use Rattle.idl_grammar.specs.declared.types.Label as labels
use Rattle.idl_grammar.specs.declared.types.Case.{Case}
use Rattle.idl_grammar.specs.declared.types.Arm.{Arm}
use Rattle.idl_grammar.specs.Reading.{cases_of, arms_of}
use Rattle.idl_grammar.specs.Seen.{seen_expr, seen_label, seen_attribute, seen_arm, seen_case}
use Rattle.idl_scope.specs.Known.{Known}
use Rattle.idl_declared_types.specs.declared.labels.Valued.{Valued}
use Rattle.idl_rule_definitions.specs.Nodes.{arm_label, labels_said, labels_in, arm_attributes, arms_of_cases, arms_of_arms}
use Rattle.idl_declared_types.specs.LabelValues.{valued}

abbrev pub each_label : Known → List labels.Label → List Valued
each_label known xs = map (valued known) (map arm_label (map seen_label xs))

abbrev pub one_label : Known → labels.Label → List Valued
one_label known x = valued known (arm_label (seen_label x)) ∷ []

pub each_cons : (known : Known) (x : labels.Label) (more : List labels.Label) → each_label known (x ∷ more) ≡ one_label known x ++ each_label known more
each_cons known x more = refl

abbrev pub each_value : Known → ℕ → List expressions.Expr → List Valued
each_value known at xs = map (valued known) (map (λ e. record { at = at; value = Some e }) (map seen_expr xs))

abbrev pub one_value : Known → ℕ → expressions.Expr → List Valued
one_value known at x = valued known (record { at = at; value = Some (seen_expr x) }) ∷ []

pub values_cons : (known : Known) (at : ℕ) (x : expressions.Expr) (more : List expressions.Expr) → each_value known at (x ∷ more) ≡ one_value known at x ++ each_value known at more
values_cons known at x more = refl

abbrev pub all_said : Known → List attributes.Attribute → List Valued
all_said known xs = map (valued known) (labels_in (map seen_attribute xs))

abbrev pub one_said : Known → attributes.Attribute → List Valued
one_said known x = map (valued known) (labels_said x.at (seen_attribute x).kind)

pub said_cons : (known : Known) (x : attributes.Attribute) (more : List attributes.Attribute) → all_said known (x ∷ more) ≡ one_said known x ++ all_said known more
said_cons known x more = map-append (valued known) (labels_said x.at (seen_attribute x).kind) (labels_in (map seen_attribute more))

abbrev pub of_cases : Known → List Case → List Valued
of_cases known xs = map (valued known) (flat_map (λ a. a.labels) (arms_of_cases (cases_of (map seen_case xs))))

abbrev pub of_case : Known → Case → List Valued
of_case known x = each_label known x.labels.items

pub cases_cons : (known : Known) (x : Case) (more : List Case) → of_cases known (x ∷ more) ≡ of_case known x ++ of_cases known more
cases_cons known x more = map-append (valued known) (map arm_label (map seen_label x.labels.items)) (flat_map (λ a. a.labels) (arms_of_cases (cases_of (map seen_case more))))

abbrev pub of_arms : Known → List Arm → List Valued
of_arms known xs = map (valued known) (flat_map (λ a. a.labels) (arms_of_arms (arms_of (map seen_arm xs))))

abbrev pub of_arm : Known → Arm → List Valued
of_arm known x = map (valued known) (labels_in (arm_attributes (seen_arm x)))

pub arms_cons : (known : Known) (x : Arm) (more : List Arm) → of_arms known (x ∷ more) ≡ of_arm known x ++ of_arms known more
arms_cons known x more = map-append (valued known) (labels_in (arm_attributes (seen_arm x))) (flat_map (λ a. a.labels) (arms_of_arms (arms_of (map seen_arm more))))
