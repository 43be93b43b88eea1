-- How many labels the items of the program's vectors have.
use Rattle.std.proofs.Common.{◌≡◌, ◌∙◌, ℕ, ◌+◌, List, ◌∷◌, map, length, ap, length-append}
use Rattle.std.proofs.lemmas.List.{length-map}
use Rattle.std.specs.List.{flat_map}
use Rattle.idl_grammar.specs.declared.attributes.Attribute as attributes
use Rattle.idl_grammar.specs.declared.types.Case.{Case}
use Rattle.idl_grammar.specs.declared.types.Arm.{Arm}
use Rattle.idl_grammar.specs.Reading.{cases_of, arms_of}
use Rattle.idl_grammar.specs.Seen.{seen_label, seen_attribute, seen_arm, seen_case}
use Rattle.idl_rule_definitions.specs.Nodes.{arm_label, labels_said, labels_in, arm_attributes, arms_of_cases, arms_of_arms}

abbrev pub in_attributes : List attributes.Attribute → ℕ
in_attributes xs = length (labels_in (map seen_attribute xs))

abbrev pub in_attribute : attributes.Attribute → ℕ
in_attribute x = length (labels_said x.at (seen_attribute x).kind)

pub attributes_cons : (x : attributes.Attribute) (more : List attributes.Attribute) → in_attributes (x ∷ more) ≡ in_attribute x + in_attributes more
attributes_cons x more = length-append (labels_said x.at (seen_attribute x).kind) (labels_in (map seen_attribute more))

abbrev pub in_cases : List Case → ℕ
in_cases xs = length (flat_map (λ a. a.labels) (arms_of_cases (cases_of (map seen_case xs))))

abbrev pub in_case : Case → ℕ
in_case x = length x.labels.items

pub cases_cons : (x : Case) (more : List Case) → in_cases (x ∷ more) ≡ in_case x + in_cases more
cases_cons x more =
    length-append (map arm_label (map seen_label x.labels.items)) (flat_map (λ a. a.labels) (arms_of_cases (cases_of (map seen_case more))))
    ∙ ap (λ n. n + in_cases more) (length-map (map seen_label x.labels.items) arm_label ∙ length-map x.labels.items seen_label)

abbrev pub in_arms : List Arm → ℕ
in_arms xs = length (flat_map (λ a. a.labels) (arms_of_arms (arms_of (map seen_arm xs))))

abbrev pub in_arm : Arm → ℕ
in_arm x = length (labels_in (arm_attributes (seen_arm x)))

pub arms_cons : (x : Arm) (more : List Arm) → in_arms (x ∷ more) ≡ in_arm x + in_arms more
arms_cons x more = length-append (labels_in (arm_attributes (seen_arm x))) (flat_map (λ a. a.labels) (arms_of_arms (arms_of (map seen_arm more))))
