-- What the program makes of members, parameters and arms.
use Rattle.std.proofs.Common.{◌≡◌, ℕ, List, [], ◌∷◌, ◌++◌, map, Option, Some, None, option_map, ℤ, ◌+◌, ◌<◌, length, get_or, drop, append_assoc, refl, sym, ap, ◌∙◌}
use Rattle.std.specs.List.{flat_map}
use Rattle.std.specs.Prelude.{codes}
use Rattle.std.proofs.lemmas.List.{map-append, drop_more}
use Rattle.nd_types.specs.declared.types.TypeId.{TypeId}
use Rattle.nd_types.specs.declared.types.AttrVar.{AttrVar}
use Rattle.nd_types.specs.declared.types.Attr.{Attr}
use Rattle.nd_types.specs.declared.types.Attr.TheVariants as attr
use Rattle.nd_types.specs.declared.types.Arm as nd
use Rattle.idl_interface.specs.declared.arms.ValuedArm as made
use Rattle.idl_grammar.specs.declared.attributes.Attribute as program
use Rattle.idl_grammar.specs.declared.types.Label as program_label
use Rattle.idl_grammar.specs.declared.types.Case.{Case}
use Rattle.idl_grammar.specs.declared.types.Arm.{Arm}
use Rattle.idl_grammar.specs.declared.attributes.Variable.{Variable}
use Rattle.idl_grammar.specs.Tree.{Attribute, Expr, Label}
use Rattle.idl_grammar.specs.Tree as tree
use Rattle.idl_grammar.specs.Reading.{cases_of, arms_of}
use Rattle.idl_grammar.specs.Seen.{seen_attribute, seen_kind, seen_label, seen_case, seen_arm}
use Rattle.idl_scope.specs.Known.{Known}
use Rattle.idl_rule_definitions.specs.Nodes.{Declared, labels_in, labels_said, arm_label, arms_of_cases, arms_of_arms, value_in}
use Rattle.idl_rule_definitions.specs.DeclarationRules.{label_value}
use Rattle.idl_rule_definitions.specs.VariableRules.{Listed, listed_from, variables}
use Rattle.idl_rule_definitions.specs.Meaning.{index_in, attr_var, field_vars, way_of}
use Rattle.idl_interface.specs.Made.{AreListed, index_or, attr_var_by, field_vars_by, field_by, field_with, parameter_by, parameter_with, each_with, ValuedArm, valued, seen_valued, value_said}
use Rattle.idl_interface.specs.Made.{type_for, types_past, arm_with, arms_with}

-- ## Members and parameters

index_same : (o : Option Listed) → index_or (option_map (λ d. d.index) o) ≡ index_in o
index_same None = refl
index_same (Some d) = refl

variable_same : (list : List Declared) (t : List (List ℕ × ℕ)) → AreListed list t → (a : Attr) (v : Variable) → attr_var_by t a v ≡ attr_var list a v
variable_same list t h a v =
    ap (λ n. record { attr = a; var = n; star = v.star }) (ap index_or (h.index v.name.octets) ∙ index_same (listed_from 0 list v.name.octets))

each_variable : (list : List Declared) (t : List (List ℕ × ℕ)) → AreListed list t → (a : Attr) (vs : List Variable) → map (attr_var_by t a) vs ≡ map (attr_var list a) vs
each_variable list t h a [] = refl
each_variable list t h a (v ∷ vs) = ap (λ x. x ∷ map (attr_var_by t a) vs) (variable_same list t h a v) ∙ ap (λ l. attr_var list a v ∷ l) (each_variable list t h a vs)

join : {a b c d : List AttrVar} → a ≡ b → c ≡ d → a ++ c ≡ b ++ d
join {a} {b} {c} {d} p q = ap (λ x. x ++ c) p ∙ ap (λ x. b ++ x) q

variables_same : (list : List Declared) (t : List (List ℕ × ℕ)) → AreListed list t → (xs : List Attribute) → field_vars_by t xs ≡ field_vars list xs
variables_same list t h xs =
    let s = each_variable list t h attr.Size (variables (codes "size_is" ∷ []) xs) in
    let m = each_variable list t h attr.Max (variables (codes "max_is" ∷ []) xs) in
    let f = each_variable list t h attr.First (variables (codes "first_is" ∷ []) xs) in
    let l = each_variable list t h attr.Length (variables (codes "length_is" ∷ []) xs) in
    let z = each_variable list t h attr.Last (variables (codes "last_is" ∷ []) xs) in
    let w = each_variable list t h attr.Switch (variables (codes "switch_is" ∷ []) xs) in
    join (join (join (join (join s m) f) l) z) w

pub fields_same : (list : List Declared) (t : List (List ℕ × ℕ)) → AreListed list t → (ds : List Declared) (ts : List TypeId) → each_with (field_by t) ds ts ≡ each_with (field_with list) ds ts
fields_same list t h [] ts = refl
fields_same list t h (d ∷ ds) [] = refl
fields_same list t h (d ∷ ds) (i ∷ is) =
    ap (λ v. record { name = d.declarator.name.octets; of = i; vars = v } ∷ each_with (field_by t) ds is) (variables_same list t h d.construct.attributes)
    ∙ ap (λ l. field_with list d i ∷ l) (fields_same list t h ds is)

pub parameters_same : (list : List Declared) (t : List (List ℕ × ℕ)) → AreListed list t → (ds : List Declared) (ts : List TypeId)
    → each_with (parameter_by t) ds ts ≡ each_with (parameter_with list) ds ts
parameters_same list t h [] ts = refl
parameters_same list t h (d ∷ ds) [] = refl
parameters_same list t h (d ∷ ds) (i ∷ is) =
    ap (λ v. record { field = record { name = d.declarator.name.octets; of = i; vars = v }; way = way_of d } ∷ each_with (parameter_by t) ds is) (variables_same list t h d.construct.attributes)
    ∙ ap (λ l. parameter_with list d i ∷ l) (parameters_same list t h ds is)

-- ## Labels

abbrev pub labels_left : Known → List program.Attribute → List (Option ℤ)
labels_left k xs = map (label_value k) (labels_in (map seen_attribute xs))

abbrev pub labels_one : Known → program.Attribute → List (Option ℤ)
labels_one k a = map (label_value k) (labels_said a.at (seen_kind a.kind))

pub labels_cons : (k : Known) (a : program.Attribute) (more : List program.Attribute) → labels_left k (a ∷ more) ≡ labels_one k a ++ labels_left k more
labels_cons k a more = map-append (label_value k) (labels_said a.at (seen_kind a.kind)) (labels_in (map seen_attribute more))

pub case_said : (k : Known) (at : ℕ) (es : List Expr) → map (λ e. Some (value_in k e)) es ≡ map (label_value k) (labels_said at (tree.Case es))
case_said k at [] = refl
case_said k at (e ∷ es) = ap (λ l. Some (value_in k e) ∷ l) (case_said k at es)

abbrev pub values_left : Known → List program_label.Label → List (Option ℤ)
values_left k xs = map (value_said k) (map seen_label xs)

abbrev pub value_one : Known → program_label.Label → List (Option ℤ)
value_one k l = value_said k (seen_label l) ∷ []

pub values_cons : (k : Known) (l : program_label.Label) (more : List program_label.Label) → values_left k (l ∷ more) ≡ value_one k l ++ values_left k more
values_cons k l more = refl

value_same : (k : Known) (l : Label) → value_said k l ≡ label_value k (arm_label l)
value_same k (tree.Value at e) = refl
value_same k (tree.Default at) = refl

pub values_same : (k : Known) (ls : List Label) → map (value_said k) ls ≡ map (label_value k) (map arm_label ls)
values_same k [] = refl
values_same k (l ∷ ls) = ap (λ v. v ∷ map (value_said k) ls) (value_same k l) ∙ ap (λ vs. label_value k (arm_label l) ∷ vs) (values_same k ls)

-- ## Arms

abbrev pub cases_left : Known → List Case → List ValuedArm
cases_left k xs = map (valued k) (arms_of_cases (cases_of (map seen_case xs)))

abbrev pub arms_left : Known → List Arm → List ValuedArm
arms_left k xs = map (valued k) (arms_of_arms (arms_of (map seen_arm xs)))

-- one more arm
pub arms_step : (xs : List made.ValuedArm) (i : ℕ) (x : made.ValuedArm) → i < length xs → x ≡ get_or xs i x
    → (done next : List nd.Arm) (rest past : List TypeId) → next ≡ done ++ flat_map (arm_with (seen_valued x).name (type_for (seen_valued x).name rest)) x.labels.items
    → past ≡ types_past (seen_valued x).name rest → (all : List nd.Arm) → done ++ arms_with (map seen_valued (drop i xs)) rest ≡ all
    → next ++ arms_with (map seen_valued (drop (i + 1) xs)) past ≡ all
arms_step xs i x below is done next rest past e p all before =
    let part = flat_map (arm_with (seen_valued x).name (type_for (seen_valued x).name rest)) x.labels.items in
    let more = map seen_valued (drop (i + 1) xs) in
    ap (λ l. l ++ arms_with more past) e
    ∙ (ap (λ t. (done ++ part) ++ arms_with more t) p
    ∙ (append_assoc done part (arms_with more (types_past (seen_valued x).name rest))
    ∙ (sym (ap (λ l. done ++ arms_with (map seen_valued l) rest) (drop_more xs i x below ∙ ap (λ y. y ∷ drop (i + 1) xs) (sym is))) ∙ before)))
