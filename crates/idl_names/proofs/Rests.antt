-- The steps of the items that are left of the program's vectors, where they depend on the items before.
use Rattle.std.proofs.Common.{◌≡◌, ℕ, ◌+◌, ◌<◌, ◌≤◌, refl, ap, sym, ◌∙◌, ◌&&◌, List, [], ◌∷◌, ◌++◌, length, get_or, drop, append_assoc, append-nil, map, Option, Some, option_map}
use Rattle.std.specs.List.{flat_map, list_all}
use Rattle.std.proofs.lemmas.List.{drop_more, drop_all}
use Rattle.idl_grammar.specs.declared.words.Spelling.{Spelling}
use Rattle.idl_grammar.specs.declared.types.Enumerator.{Enumerator}
use Rattle.idl_grammar.specs.declared.types.Member.{Member}
use Rattle.idl_grammar.specs.declared.types.Case.{Case}
use Rattle.idl_grammar.specs.declared.types.Arm.{Arm}
use Rattle.idl_grammar.specs.declared.declarators.Declarator.{Declarator}
use Rattle.idl_grammar.specs.declared.files.Parameter.{Parameter}
use Rattle.idl_grammar.specs.Reading.{members_of, cases_of, arms_of}
use Rattle.idl_grammar.specs.Seen as seen
use Rattle.idl_scope.specs.Steps.{Step, Declare}
use Rattle.idl_scope.specs.Steps as steps

-- ## Enumerators, after the one before them

abbrev pub enumerators_from : Option Spelling → List Enumerator → List Step
enumerators_from previous xs = steps.enumerator_steps previous (map seen.seen_enumerator xs)

abbrev pub one_enumerator : Option Spelling → Enumerator → List Step
one_enumerator previous x = Declare x.name ∷ steps.value_step previous x.name (option_map seen.seen_expr x.value) ∷ []

abbrev pub after_enumerator : Option Spelling → Enumerator → Option Spelling
after_enumerator previous x = Some x.name

pub enumerators_cons : (s : Option Spelling) (x : Enumerator) (more : List Enumerator) → enumerators_from s (x ∷ more) ≡ one_enumerator s x ++ enumerators_from (after_enumerator s x) more
enumerators_cons s x more = refl

-- ## Members and parameters, after those of their list

abbrev pub listed_from : List Spelling → List Declarator → List Step
listed_from before xs = steps.enlisted_steps before (map seen.seen_declarator xs)

abbrev pub one_listed : List Spelling → Declarator → List Step
one_listed before x = steps.listed_steps before (seen.seen_declarator x)

abbrev pub after_listed : List Spelling → Declarator → List Spelling
after_listed before x = before ++ x.name ∷ []

pub listed_cons : (s : List Spelling) (x : Declarator) (more : List Declarator) → listed_from s (x ∷ more) ≡ one_listed s x ++ listed_from (after_listed s x) more
listed_cons s x more = refl

abbrev pub names_of : List Declarator → List Spelling
names_of xs = map steps.declared_name (map seen.seen_declarator xs)

-- one more in the list
pub names_more : (xs : List Declarator) (i : ℕ) (x : Declarator) (before after : List Spelling) → i < length xs → x ≡ get_or xs i x → after ≡ before ++ x.name ∷ []
    → after ++ names_of (drop (i + 1) xs) ≡ before ++ names_of (drop i xs)
names_more xs i x before after below is e =
    ap (λ s. s ++ names_of (drop (i + 1) xs)) e
    ∙ (append_assoc before (x.name ∷ []) (names_of (drop (i + 1) xs)) ∙ ap (λ l. before ++ names_of l) (sym (drop_more xs i x below ∙ ap (λ y. y ∷ drop (i + 1) xs) (sym is))))

pub names_end : (xs : List Declarator) (i : ℕ) (before : List Spelling) → length xs ≤ i → before ++ names_of (drop i xs) ≡ before
names_end xs i before past = ap (λ l. before ++ names_of l) (drop_all i xs past) ∙ append-nil before

abbrev pub members_from : List Spelling → List Member → List Step
members_from before xs = steps.member_steps before (members_of (map seen.seen_member xs))

abbrev pub one_member : List Spelling → Member → List Step
one_member before x =
    steps.optional_attribute_steps (option_map seen.seen_attributes x.attributes)
    ++ steps.type_steps (list_all steps.is_pointer (map seen.seen_declarator x.declarators.items)) (seen.seen_type x.of)
    ++ steps.enlisted_steps before (map seen.seen_declarator x.declarators.items)

abbrev pub after_member : List Spelling → Member → List Spelling
after_member before x = before ++ names_of x.declarators.items

pub members_cons : (s : List Spelling) (x : Member) (more : List Member) → members_from s (x ∷ more) ≡ one_member s x ++ members_from (after_member s x) more
members_cons s x more = refl

abbrev pub parameters_from : List Spelling → List Parameter → List Step
parameters_from before xs = steps.parameter_steps before (map seen.seen_parameter xs)

abbrev pub one_parameter : List Spelling → Parameter → List Step
one_parameter before x = steps.one_parameter_steps before (seen.seen_parameter x)

abbrev pub after_parameter : List Spelling → Parameter → List Spelling
after_parameter before x = before ++ x.declarator.name ∷ []

pub parameters_cons : (s : List Spelling) (x : Parameter) (more : List Parameter) → parameters_from s (x ∷ more) ≡ one_parameter s x ++ parameters_from (after_parameter s x) more
parameters_cons s x more = refl

-- ## Pointers

pub all_seen : (xs : List Declarator) → list_all (λ x. steps.is_pointer (seen.seen_declarator x)) xs ≡ list_all steps.is_pointer (map seen.seen_declarator xs)
all_seen [] = refl
all_seen (x ∷ xs) = ap (λ b. steps.is_pointer (seen.seen_declarator x) && b) (all_seen xs)

-- ## Cases and arms, which depend on none before: a number that stays stands for these

abbrev pub cases_from : ℕ → List Case → List Step
cases_from none xs = steps.case_steps (cases_of (map seen.seen_case xs))

abbrev pub one_case : ℕ → Case → List Step
one_case none x = flat_map steps.label_steps (map seen.seen_label x.labels.items) ++ steps.arm_steps (seen.seen_arm x.arm)

abbrev pub after_case : ℕ → Case → ℕ
after_case none x = none

pub cases_cons : (s : ℕ) (x : Case) (more : List Case) → cases_from s (x ∷ more) ≡ one_case s x ++ cases_from (after_case s x) more
cases_cons s x more = refl

abbrev pub arms_from : ℕ → List Arm → List Step
arms_from none xs = steps.arms_steps (arms_of (map seen.seen_arm xs))

abbrev pub one_arm : ℕ → Arm → List Step
one_arm none x = steps.arm_steps (seen.seen_arm x)

abbrev pub after_arm : ℕ → Arm → ℕ
after_arm none x = none

pub arms_cons : (s : ℕ) (x : Arm) (more : List Arm) → arms_from s (x ∷ more) ≡ one_arm s x ++ arms_from (after_arm s x) more
arms_cons s x more = refl
