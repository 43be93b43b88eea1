-- What is declared, and the nodes, of the items that are left of the program's vectors.
use Rattle.std.proofs.Common.{◌≡◌, ℕ, ◌+◌, ◌<◌, Bool, refl, sym, ap, ◌∙◌, drop, get_or, length-append, List, [], ◌∷◌, ◌++◌, length, map, append_assoc, option_map}
use Rattle.std.specs.List.{flat_map}
use Rattle.std.proofs.lemmas.List.{drop_more, length-map}
use Rattle.idl_grammar.specs.declared.types.Member.{Member}
use Rattle.idl_grammar.specs.declared.types.Case.{Case}
use Rattle.idl_grammar.specs.declared.types.Arm.{Arm}
use Rattle.idl_grammar.specs.declared.declarators.Declarator.{Declarator}
use Rattle.idl_grammar.specs.declared.files.Parameter.{Parameter}
use Rattle.idl_grammar.specs.declared.files.Export.{Export}
use Rattle.idl_grammar.specs.Reading.{members_of, cases_of, arms_of}
use Rattle.idl_grammar.specs.Tree.{TypeSpec}
use Rattle.idl_grammar.specs.Seen as seen
use Rattle.idl_rule_definitions.specs.Nodes.{Construct, Declared, Node}
use Rattle.idl_rule_definitions.specs.Nodes as nodes
use Rattle.idl_rule_definitions.specs.Scene.{arm_declared}
use Rattle.idl_constructs.specs.Growing.{one_member_nodes, one_parameter_nodes}

-- ## What is declared

abbrev pub each_declared : Construct → TypeSpec → List Declarator → List Declared
each_declared c type xs = map (nodes.declared c type) (map seen.seen_declarator xs)

abbrev pub one_declared : Construct → TypeSpec → Declarator → List Declared
one_declared c type x = nodes.declared c type (seen.seen_declarator x) ∷ []

pub each_cons : (c : Construct) (type : TypeSpec) (x : Declarator) (more : List Declarator) → each_declared c type (x ∷ more) ≡ one_declared c type x ++ each_declared c type more
each_cons c type x more = refl

abbrev pub in_member : Construct → Member → Construct
in_member c x = nodes.inside c nodes.InMember x.at (option_map seen.seen_attributes x.attributes)

abbrev pub members_declared : Construct → List Member → List Declared
members_declared c xs = nodes.declared_members c (members_of (map seen.seen_member xs))

abbrev pub member_declared : Construct → Member → List Declared
member_declared c x = each_declared (in_member c x) (seen.seen_type x.of) x.declarators.items

pub members_declared_cons : (c : Construct) (x : Member) (more : List Member) → members_declared c (x ∷ more) ≡ member_declared c x ++ members_declared c more
members_declared_cons c x more = refl

abbrev pub in_parameter : Construct → Parameter → Construct
in_parameter c x = nodes.inside c nodes.InParameter x.at (option_map seen.seen_attributes x.attributes)

abbrev pub parameters_declared : Construct → List Parameter → List Declared
parameters_declared c xs = nodes.declared_parameters c (map seen.seen_parameter xs)

abbrev pub parameter_declared : Construct → Parameter → List Declared
parameter_declared c x = nodes.declared (in_parameter c x) (seen.seen_type x.of) (seen.seen_declarator x.declarator) ∷ []

pub parameters_declared_cons : (c : Construct) (x : Parameter) (more : List Parameter) → parameters_declared c (x ∷ more) ≡ parameter_declared c x ++ parameters_declared c more
parameters_declared_cons c x more = refl

abbrev pub cases_declared : Construct → List Case → List Declared
cases_declared c xs = flat_map (λ a. arm_declared c a.position a.arm) (nodes.arms_of_cases (cases_of (map seen.seen_case xs)))

abbrev pub case_declared : Construct → Case → List Declared
case_declared c x = arm_declared c nodes.InArm (seen.seen_arm x.arm)

pub cases_declared_cons : (c : Construct) (x : Case) (more : List Case) → cases_declared c (x ∷ more) ≡ case_declared c x ++ cases_declared c more
cases_declared_cons c x more = refl

abbrev pub arms_declared : Construct → List Arm → List Declared
arms_declared c xs = flat_map (λ a. arm_declared c a.position a.arm) (nodes.arms_of_arms (arms_of (map seen.seen_arm xs)))

abbrev pub cased_declared : Construct → Arm → List Declared
cased_declared c x = arm_declared c nodes.InCasedArm (seen.seen_arm x)

pub arms_declared_cons : (c : Construct) (x : Arm) (more : List Arm) → arms_declared c (x ∷ more) ≡ cased_declared c x ++ arms_declared c more
arms_declared_cons c x more = refl

-- ## Nodes

abbrev pub declarators_from : Construct → TypeSpec → List Declared → ℕ → List Declarator → List Node
declarators_from c type all s xs = nodes.declarator_nodes all s (each_declared c type xs)

abbrev pub one_declarator : Construct → TypeSpec → List Declared → ℕ → Declarator → List Node
one_declarator c type all s x = nodes.DeclaratorNode all s (nodes.declared c type (seen.seen_declarator x)) ∷ []

abbrev pub one_more : {X : Type 0} → X → ℕ
one_more x = 1

pub declarators_cons : (c : Construct) (type : TypeSpec) (all : List Declared) (s : ℕ) (x : Declarator) (more : List Declarator)
    → declarators_from c type all s (x ∷ more) ≡ one_declarator c type all s x ++ declarators_from c type all (s + one_more x) more
declarators_cons c type all s x more = refl

abbrev pub members_from : Construct → List Declared → ℕ → List Member → List Node
members_from c all s xs = nodes.member_nodes c all s (members_of (map seen.seen_member xs))

abbrev pub one_member : Construct → List Declared → ℕ → Member → List Node
one_member c all s x = one_member_nodes c s (seen.seen_member x) all

abbrev pub count_of : Member → ℕ
count_of x = length (map seen.seen_declarator x.declarators.items)

pub members_cons : (c : Construct) (all : List Declared) (s : ℕ) (x : Member) (more : List Member)
    → members_from c all s (x ∷ more) ≡ one_member c all s x ++ members_from c all (s + count_of x) more
members_cons c all s x more = refl

pub members_counted : (c : Construct) (xs : List Member) (i : ℕ) (x : Member) → i < length xs → x ≡ get_or xs i x
    → length (members_declared c (drop i xs)) ≡ count_of x + length (members_declared c (drop (i + 1) xs))
members_counted c xs i x below is =
    let rest = members_declared c (drop (i + 1) xs) in
    ap (λ l. length (members_declared c l)) (drop_more xs i x below ∙ ap (λ y. y ∷ drop (i + 1) xs) (sym is))
    ∙ (length-append (member_declared c x) rest
    ∙ ap (λ n. n + length rest) (length-map (map seen.seen_declarator x.declarators.items) (nodes.declared (in_member c x) (seen.seen_type x.of))))

abbrev pub cases_from : Construct → List Case → List Node
cases_from c xs = nodes.case_nodes c (cases_of (map seen.seen_case xs))

abbrev pub one_case : Construct → Case → List Node
one_case c x = nodes.arm_nodes c nodes.InArm (seen.seen_arm x.arm)

pub cases_cons : (c : Construct) (x : Case) (more : List Case) → cases_from c (x ∷ more) ≡ one_case c x ++ cases_from c more
cases_cons c x more = refl

abbrev pub arms_from : Construct → List Arm → List Node
arms_from c xs = nodes.arms_nodes c (arms_of (map seen.seen_arm xs))

abbrev pub one_arm : Construct → Arm → List Node
one_arm c x = nodes.arm_nodes c nodes.InCasedArm (seen.seen_arm x)

pub arms_cons : (c : Construct) (x : Arm) (more : List Arm) → arms_from c (x ∷ more) ≡ one_arm c x ++ arms_from c more
arms_cons c x more = refl

abbrev pub parameters_from : Construct → List Declared → ℕ → List Parameter → List Node
parameters_from c all s xs = nodes.parameter_nodes c all s (map seen.seen_parameter xs)

abbrev pub one_parameter : Construct → List Declared → ℕ → Parameter → List Node
one_parameter c all s x = one_parameter_nodes c s (seen.seen_parameter x) all

pub parameters_cons : (c : Construct) (all : List Declared) (s : ℕ) (x : Parameter) (more : List Parameter)
    → parameters_from c all s (x ∷ more) ≡ one_parameter c all s x ++ parameters_from c all (s + one_more x) more
parameters_cons c all s x more = regroup (nodes.attribute_nodes (in_parameter c x)) (nodes.type_nodes (in_parameter c x) (seen.seen_type x.of))
    (nodes.DeclaratorNode all s (nodes.declared (in_parameter c x) (seen.seen_type x.of) (seen.seen_declarator x.declarator))) (parameters_from c all (s + 1) more)
  where
    regroup : (a b : List Node) (x : Node) (l : List Node) → a ++ b ++ x ∷ l ≡ (a ++ b ++ (x ∷ [])) ++ l
    regroup a b x l = simp append_assoc

abbrev pub typedefs_from : Construct → Bool → TypeSpec → List Declarator → List Node
typedefs_from c pipe type xs = map (nodes.typedef_node c pipe type) (map seen.seen_declarator xs)

abbrev pub one_typedef : Construct → Bool → TypeSpec → Declarator → List Node
one_typedef c pipe type x = nodes.typedef_node c pipe type (seen.seen_declarator x) ∷ []

pub typedefs_cons : (c : Construct) (pipe : Bool) (type : TypeSpec) (x : Declarator) (more : List Declarator)
    → typedefs_from c pipe type (x ∷ more) ≡ one_typedef c pipe type x ++ typedefs_from c pipe type more
typedefs_cons c pipe type x more = refl

abbrev pub exports_from : Bool → Construct → List Export → List Node
exports_from is_main header xs = flat_map (nodes.export_nodes is_main header) (map seen.seen_export xs)

abbrev pub one_export : Bool → Construct → Export → List Node
one_export is_main header x = nodes.export_nodes is_main header (seen.seen_export x)

pub exports_cons : (is_main : Bool) (header : Construct) (x : Export) (more : List Export) → exports_from is_main header (x ∷ more) ≡ one_export is_main header x ++ exports_from is_main header more
exports_cons is_main header x more = refl
