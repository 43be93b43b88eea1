-- Where each node passes a test, so do the members of each struct and the parameters of each operation, with the names that are known at the struct or operation.
use Rattle.std.proofs.Common.{◌≡◌, ℕ, ◌+◌, Bool, true, false, not, ◌&&◌, List, [], ◌∷◌, ◌++◌, map, length, Option, Some, None, refl, sym, ap, arith, ◌∙◌, subst, append_assoc, append-nil}
use Rattle.std.specs.List.{list_all, flat_map}
use Rattle.std.specs.Prelude.{eqb}
use Rattle.std.proofs.lemmas.List.Folds.{list_all-append, list_all-map}
use Rattle.idl_grammar.specs.declared.words.Spelling.{Spelling}
use Rattle.idl_grammar.specs.declared.types.SwitchType.{SwitchType}
use Rattle.idl_grammar.specs.Tree.{Attribute, Declarator, Enumerator, Parameter, Export, TypeSpec, Members, Cases, Arms, Arm}
use Rattle.idl_grammar.specs.Tree as tree
use Rattle.idl_scope.specs.Known.{Ended, Known}
use Rattle.idl_scope.specs.Steps.{parameters_of}
use Rattle.idl_rule_definitions.specs.Nodes.{World, Construct, Position, InTypedef, InTaggedType, InMember, InParameter, InArm, InCasedArm, InOperation, Declared, declared, inside, declared_members}
use Rattle.idl_rule_definitions.specs.Nodes.{parameter_construct, declared_parameters, attribute_nodes, attribute_nodes_from, switch_node, switch_nodes, declarator_nodes, ArmLabel, labels_of}
use Rattle.idl_rule_definitions.specs.Nodes.{label_nodes, type_nodes, member_nodes, case_nodes, arms_nodes, arm_nodes, parameter_nodes, typedef_node, result_of, operation_nodes, export_nodes}
use Rattle.idl_rule_definitions.specs.Nodes.{header_of, file_nodes, nodes, Node, HeaderNode, AttributeNode, SwitchNode, TagNode, BodyNode, EnumeratorNode, LabelNode, EmptyArmNode, DeclaratorNode}
use Rattle.idl_rule_definitions.specs.Nodes.{ConstantNode, TypeNode, OperationNode}
use Rattle.idl_rule_definitions.specs.Attributes.{switch_type_in}
use Rattle.idl_rule_definitions.specs.Types.{Names, type_of}
use Rattle.idl_rule_definitions.specs.Scene.{Scoped, is_typedef, names_behind, scoped_from, scene_of}
use Rattle.idl_rule_definitions.specs.TypeRules.{is_operation}
use Rattle.std.proofs.lemmas.Bool.{and_parts as both_of, and_from}
use Rattle.nd_lemmas.proofs.Lists.{join_all}

-- ## What passes

-- a test of a node, with the names that are known there
abbrev pub Test : Type 0
Test = Names → Node → Bool

-- a member, or a parameter
abbrev pub stands_in : Bool → Position → Bool
stands_in true InParameter = true
stands_in false InMember = true
stands_in _ _ = false

-- a member or parameter with its attributes
abbrev pub one_passes : Test → Names → Bool → List Declared → ℕ → Declared → Bool
one_passes q names is_param list index d =
    q names (DeclaratorNode list index d) && (list_all (q names) (attribute_nodes d.construct) && stands_in is_param d.construct.position)

-- members or parameters of a list, from this index on
abbrev pub they_pass : Test → Names → Bool → List Declared → ℕ → List Declared → Bool
they_pass q names is_param list index [] = true
they_pass q names is_param list index (d ∷ ds) = one_passes q names is_param list index d && they_pass q names is_param list (index + 1) ds

-- the members of a struct
abbrev pub body_passes : Test → Names → Construct → TypeSpec → Bool
body_passes q names c (tree.Struct at tag ms) = they_pass q names false (declared_members c ms) 0 (declared_members c ms)
body_passes q names c _ = true

-- the members of a struct, or the parameters and the result of an operation
abbrev pub node_passes : Test → Names → Node → Bool
node_passes q names (BodyNode c body) = body_passes q names c body
node_passes q names (OperationNode c name ps result) =
    they_pass q names true ps 0 ps && (q names (DeclaratorNode [] 0 (result_of c result name)) && is_operation c.position)
node_passes q names _ = true

-- ## Lists of tests

pub split_all : {X : Type 0} (p : X → Bool) (xs ys : List X) → list_all p (xs ++ ys) ≡ true → (list_all p xs ≡ true) × (list_all p ys ≡ true)
split_all p xs ys h = both_of (list_all p xs) (list_all p ys) (sym (list_all-append p xs ys) ∙ h)

-- ## Members and parameters

-- the members of one line, in front of those of the others
line : (q : Test) (names : Names) (list : List Declared) (c : Construct) (type : TypeSpec) → stands_in false c.position ≡ true → list_all (q names) (attribute_nodes c) ≡ true
    → (ds : List Declarator) (index : ℕ) (rest : List Declared) → list_all (q names) (declarator_nodes list index (map (declared c type) ds)) ≡ true
    → they_pass q names false list (index + length ds) rest ≡ true → they_pass q names false list index (map (declared c type) ds ++ rest) ≡ true
line q names list c type p a [] index rest h i =
    let e : index + 0 ≡ index = omega (arith) in
    subst (λ n. they_pass q names false list n rest ≡ true) e i
line q names list c type p a (d ∷ ds) index rest h i =
    let e : index + length (d ∷ ds) ≡ (index + 1) + length ds = omega (arith) in
    let x = both_of (q names (DeclaratorNode list index (declared c type d))) (list_all (q names) (declarator_nodes list (index + 1) (map (declared c type) ds))) h in
    and_from (one_passes q names false list index (declared c type d)) (they_pass q names false list (index + 1) (map (declared c type) ds ++ rest))
    (and_from (q names (DeclaratorNode list index (declared c type d))) (list_all (q names) (attribute_nodes c) && stands_in false c.position) x.0
    (and_from (list_all (q names) (attribute_nodes c)) (stands_in false c.position) a p))
    (line q names list c type p a ds (index + 1) rest x.1 (subst (λ n. they_pass q names false list n rest ≡ true) e i))

-- what is in a line of members
record Line (p : Node → Bool) (c : Construct) (type : TypeSpec) (list : List Declared) (index : ℕ) (ds : List Declarator) (more : List Node) : Type 0 where
  attributes : list_all p (attribute_nodes c) ≡ true
  types : list_all p (type_nodes c type) ≡ true
  declarators : list_all p (declarator_nodes list index (map (declared c type) ds)) ≡ true
  others : list_all p more ≡ true

parts_of_line : (p : Node → Bool) (c : Construct) (type : TypeSpec) (list : List Declared) (index : ℕ) (ds : List Declarator) (more : List Node)
    → list_all p (attribute_nodes c ++ type_nodes c type ++ declarator_nodes list index (map (declared c type) ds) ++ more) ≡ true → Line p c type list index ds more
parts_of_line p c type list index ds more h =
    let x = split_all p (attribute_nodes c ++ type_nodes c type ++ declarator_nodes list index (map (declared c type) ds)) more h in
    let y = split_all p (attribute_nodes c ++ type_nodes c type) (declarator_nodes list index (map (declared c type) ds)) x.0 in
    let z = split_all p (attribute_nodes c) (type_nodes c type) y.0 in
    record { attributes = z.0; types = z.1; declarators = y.1; others = x.1 }

line_of_parts : (p : Node → Bool) (c : Construct) (type : TypeSpec) (list : List Declared) (index : ℕ) (ds : List Declarator) (more : List Node) → Line p c type list index ds more
    → list_all p (attribute_nodes c ++ type_nodes c type ++ declarator_nodes list index (map (declared c type) ds) ++ more) ≡ true
line_of_parts p c type list index ds more l =
    join_all p (attribute_nodes c ++ type_nodes c type ++ declarator_nodes list index (map (declared c type) ds)) more
    (join_all p (attribute_nodes c ++ type_nodes c type) (declarator_nodes list index (map (declared c type) ds))
    (join_all p (attribute_nodes c) (type_nodes c type) l.attributes l.types) l.declarators) l.others

members_stand : (q : Test) (names : Names) (c : Construct) (list : List Declared) (index : ℕ) (ms : Members) → list_all (q names) (member_nodes c list index ms) ≡ true
    → they_pass q names false list index (declared_members c ms) ≡ true
members_stand q names c list index tree.no_members h = refl
members_stand q names c list index (tree.next_member at a type ds others) h =
    let l = parts_of_line (q names) (inside c InMember at a) type list index ds (member_nodes c list (index + length ds) others) h in
    line q names list (inside c InMember at a) type refl l.attributes ds index (declared_members c others) l.declarators
    (members_stand q names c list (index + length ds) others l.others)

parameters_stand : (q : Test) (names : Names) (c : Construct) (list : List Declared) (index : ℕ) (ps : List Parameter) → list_all (q names) (parameter_nodes c list index ps) ≡ true
    → they_pass q names true list index (declared_parameters c ps) ≡ true
parameters_stand q names c list index [] h = refl
parameters_stand q names c list index (p ∷ ps) h =
    let here = parameter_construct c p in
    let d = declared here p.type p.declarator in
    let x = split_all (q names) (attribute_nodes here ++ type_nodes here p.type) (DeclaratorNode list index d ∷ parameter_nodes c list (index + 1) ps) h in
    let y = split_all (q names) (attribute_nodes here) (type_nodes here p.type) x.0 in
    let z = both_of (q names (DeclaratorNode list index d)) (list_all (q names) (parameter_nodes c list (index + 1) ps)) x.1 in
    and_from (one_passes q names true list index d) (they_pass q names true list (index + 1) (declared_parameters c ps))
    (and_from (q names (DeclaratorNode list index d)) (list_all (q names) (attribute_nodes here) && true) z.0 (and_from (list_all (q names) (attribute_nodes here)) true y.0 refl))
    (parameters_stand q names c list (index + 1) ps z.1)

-- ## Nodes without members and parameters

attributes_pass : (q : Test) (names : Names) (c : Construct) (before list : List Attribute) → list_all (node_passes q names) (attribute_nodes_from c before list) ≡ true
attributes_pass q names c before [] = refl
attributes_pass q names c before (a ∷ more) = attributes_pass q names c (before ++ a ∷ []) more

labels_pass : (q : Test) (names : Names) (c : Construct) (body : TypeSpec) (before ls : List ArmLabel) → list_all (node_passes q names) (label_nodes c body before ls) ≡ true
labels_pass q names c body before [] = refl
labels_pass q names c body before (l ∷ ls) = labels_pass q names c body (before ++ l ∷ []) ls

enumerators_pass : (q : Test) (names : Names) (c : Construct) (es : List Enumerator) → list_all (node_passes q names) (map (λ e. EnumeratorNode c e.name) es) ≡ true
enumerators_pass q names c [] = refl
enumerators_pass q names c (e ∷ es) = enumerators_pass q names c es

declarators_pass : (q : Test) (names : Names) (list : List Declared) (index : ℕ) (ds : List Declared) → list_all (node_passes q names) (declarator_nodes list index ds) ≡ true
declarators_pass q names list index [] = refl
declarators_pass q names list index (d ∷ ds) = declarators_pass q names list (index + 1) ds

-- ## Types

mutual
  types_pass : (q : Test) (names : Names) (c : Construct) (t : TypeSpec) → list_all (q names) (type_nodes c t) ≡ true → list_all (node_passes q names) (type_nodes c t) ≡ true
  types_pass q names c (tree.Simple s) h = refl
  types_pass q names c (tree.Name n) h = refl
  types_pass q names c (tree.Tag at kind tag) h = refl
  types_pass q names c (tree.Struct at tag ms) h =
      let x = both_of (q names (BodyNode c (tree.Struct at tag ms))) (list_all (q names) (member_nodes c (declared_members c ms) 0 ms)) h in
      and_from (body_passes q names c (tree.Struct at tag ms)) (list_all (node_passes q names) (member_nodes c (declared_members c ms) 0 ms))
      (members_stand q names c (declared_members c ms) 0 ms x.1) (members_pass q names c (declared_members c ms) 0 ms x.1)
  types_pass q names c (tree.EncapsulatedUnion at tag d name cases) h =
      let u = tree.EncapsulatedUnion at tag d name cases in
      let front = BodyNode c u ∷ SwitchNode c d.of ∷ label_nodes c u [] (labels_of u) in
      let x = split_all (q names) front (case_nodes c cases) h in
      join_all (node_passes q names) front (case_nodes c cases) (labels_pass q names c u [] (labels_of u)) (cases_pass q names c cases x.1)
  types_pass q names c (tree.NonEncapsulatedUnion at tag arms) h =
      let u = tree.NonEncapsulatedUnion at tag arms in
      let front = BodyNode c u ∷ label_nodes c u [] (labels_of u) in
      let x = split_all (q names) front (arms_nodes c arms) h in
      join_all (node_passes q names) front (arms_nodes c arms) (labels_pass q names c u [] (labels_of u)) (arms_pass q names c arms x.1)
  types_pass q names c (tree.Enum at tag es) h = enumerators_pass q names c es

  members_pass : (q : Test) (names : Names) (c : Construct) (list : List Declared) (index : ℕ) (ms : Members) → list_all (q names) (member_nodes c list index ms) ≡ true
      → list_all (node_passes q names) (member_nodes c list index ms) ≡ true
  members_pass q names c list index tree.no_members h = refl
  members_pass q names c list index (tree.next_member at a type ds others) h =
      let here = inside c InMember at a in
      let l = parts_of_line (q names) here type list index ds (member_nodes c list (index + length ds) others) h in
      line_of_parts (node_passes q names) here type list index ds (member_nodes c list (index + length ds) others)
      (record {
        attributes = attributes_pass q names here [] here.attributes;
        types = types_pass q names here type l.types;
        declarators = declarators_pass q names list index (map (declared here type) ds);
        others = members_pass q names c list (index + length ds) others l.others;
      })

  cases_pass : (q : Test) (names : Names) (c : Construct) (cases : Cases) → list_all (q names) (case_nodes c cases) ≡ true → list_all (node_passes q names) (case_nodes c cases) ≡ true
  cases_pass q names c tree.no_cases h = refl
  cases_pass q names c (tree.next_case labels arm others) h =
      let x = split_all (q names) (arm_nodes c InArm arm) (case_nodes c others) h in
      join_all (node_passes q names) (arm_nodes c InArm arm) (case_nodes c others) (arm_passes q names c InArm arm x.0) (cases_pass q names c others x.1)

  arms_pass : (q : Test) (names : Names) (c : Construct) (arms : Arms) → list_all (q names) (arms_nodes c arms) ≡ true → list_all (node_passes q names) (arms_nodes c arms) ≡ true
  arms_pass q names c tree.no_arms h = refl
  arms_pass q names c (tree.next_arm arm others) h =
      let x = split_all (q names) (arm_nodes c InCasedArm arm) (arms_nodes c others) h in
      join_all (node_passes q names) (arm_nodes c InCasedArm arm) (arms_nodes c others) (arm_passes q names c InCasedArm arm x.0) (arms_pass q names c others x.1)

  arm_passes : (q : Test) (names : Names) (c : Construct) (position : Position) (arm : Arm) → list_all (q names) (arm_nodes c position arm) ≡ true
      → list_all (node_passes q names) (arm_nodes c position arm) ≡ true
  arm_passes q names c position (tree.Empty at a) h =
      let here = inside c position at a in
      join_all (node_passes q names) (attribute_nodes here) (EmptyArmNode here ∷ []) (attributes_pass q names here [] here.attributes) refl
  arm_passes q names c position (tree.Typed at a type d) h =
      let here = inside c position at a in
      let end = DeclaratorNode [] 0 (declared here type d) ∷ [] in
      let x = split_all (q names) (attribute_nodes here ++ type_nodes here type) end h in
      let y = split_all (q names) (attribute_nodes here) (type_nodes here type) x.0 in
      join_all (node_passes q names) (attribute_nodes here ++ type_nodes here type) end
      (join_all (node_passes q names) (attribute_nodes here) (type_nodes here type) (attributes_pass q names here [] here.attributes) (types_pass q names here type y.1)) refl

parameters_pass : (q : Test) (names : Names) (c : Construct) (list : List Declared) (index : ℕ) (ps : List Parameter) → list_all (q names) (parameter_nodes c list index ps) ≡ true
    → list_all (node_passes q names) (parameter_nodes c list index ps) ≡ true
parameters_pass q names c list index [] h = refl
parameters_pass q names c list index (p ∷ ps) h =
    let here = parameter_construct c p in
    let d = declared here p.type p.declarator in
    let x = split_all (q names) (attribute_nodes here ++ type_nodes here p.type) (DeclaratorNode list index d ∷ parameter_nodes c list (index + 1) ps) h in
    let y = split_all (q names) (attribute_nodes here) (type_nodes here p.type) x.0 in
    let z = both_of (q names (DeclaratorNode list index d)) (list_all (q names) (parameter_nodes c list (index + 1) ps)) x.1 in
    join_all (node_passes q names) (attribute_nodes here ++ type_nodes here p.type) (DeclaratorNode list index d ∷ parameter_nodes c list (index + 1) ps)
    (join_all (node_passes q names) (attribute_nodes here) (type_nodes here p.type) (attributes_pass q names here [] here.attributes) (types_pass q names here p.type y.1))
    (parameters_pass q names c list (index + 1) ps z.1)

operation_passes : (q : Test) (names : Names) (c : Construct) (result : TypeSpec) (name : Spelling) (ps : List Parameter) → is_operation c.position ≡ true
    → list_all (q names) (operation_nodes c result name ps) ≡ true → list_all (node_passes q names) (operation_nodes c result name ps) ≡ true
operation_passes q names c result name ps o h =
    let list = declared_parameters c ps in
    let r = DeclaratorNode [] 0 (result_of c result name) in
    let end = OperationNode c name list result ∷ [] in
    let x = split_all (q names) (attribute_nodes c ++ type_nodes c result ++ r ∷ parameter_nodes c list 0 ps) end h in
    let y = split_all (q names) (attribute_nodes c ++ type_nodes c result) (r ∷ parameter_nodes c list 0 ps) x.0 in
    let z = split_all (q names) (attribute_nodes c) (type_nodes c result) y.0 in
    let w = both_of (q names r) (list_all (q names) (parameter_nodes c list 0 ps)) y.1 in
    join_all (node_passes q names) (attribute_nodes c ++ type_nodes c result ++ r ∷ parameter_nodes c list 0 ps) end
    (join_all (node_passes q names) (attribute_nodes c ++ type_nodes c result) (r ∷ parameter_nodes c list 0 ps)
    (join_all (node_passes q names) (attribute_nodes c) (type_nodes c result) (attributes_pass q names c [] c.attributes) (types_pass q names c result z.1))
    (parameters_pass q names c list 0 ps w.1))
    (and_from (node_passes q names (OperationNode c name list result)) true
    (and_from (they_pass q names true list 0 list) (q names r && is_operation c.position) (parameters_stand q names c list 0 ps w.1)
    (and_from (q names r) (is_operation c.position) w.0 o)) refl)

-- ## Nodes with the names that are known there

abbrev all_scoped : Test → List Scoped → Bool
all_scoped q ns = list_all (λ n. q n.names n.node) ns

-- Nodes after which it goes on: where what follows them passes, they and it pass.
abbrev GoesOn : Known → Test → List Node → Type 0
GoesOn known q ns =
    (names : Names) (more : List Node)
    → ((after : Names) → all_scoped q (scoped_from known after more) ≡ true → all_scoped (node_passes q) (scoped_from known after more) ≡ true)
    → all_scoped q (scoped_from known names (ns ++ more)) ≡ true → all_scoped (node_passes q) (scoped_from known names (ns ++ more)) ≡ true

-- a node that declares no name
abbrev is_quiet : Node → Bool
is_quiet (DeclaratorNode list index d) = not (is_typedef d.construct.position)
is_quiet _ = true

abbrev scoped_at : Names → Node → Scoped
scoped_at names n = record { names = names; node = n }

quiet_or_not : (known : Known) (names : Names) (list : List Declared) (index : ℕ) (d : Declared) (b : Bool) → is_typedef d.construct.position ≡ b → not b ≡ true
    → names_behind known names (DeclaratorNode list index d) ≡ names
quiet_or_not known names list index d true e h = absurd (let f : false ≡ true = h in cc)
quiet_or_not known names list index d false e h =
    ap (λ b. elim b [ true ↦ names ++ (d.declarator.name.octets, type_of known names d) ∷ [] | false ↦ names ]) e

quiet_keeps : (known : Known) (names : Names) (n : Node) → is_quiet n ≡ true → names_behind known names n ≡ names
quiet_keeps known names (DeclaratorNode list index d) h = quiet_or_not known names list index d (is_typedef d.construct.position) refl h
quiet_keeps known names (HeaderNode c at) h = refl
quiet_keeps known names (AttributeNode c before a) h = refl
quiet_keeps known names (SwitchNode c t) h = refl
quiet_keeps known names (TagNode c kind tag) h = refl
quiet_keeps known names (BodyNode c body) h = refl
quiet_keeps known names (EnumeratorNode c name) h = refl
quiet_keeps known names (LabelNode c body before l) h = refl
quiet_keeps known names (EmptyArmNode c) h = refl
quiet_keeps known names (ConstantNode c t star value) h = refl
quiet_keeps known names (TypeNode c t) h = refl
quiet_keeps known names (OperationNode c name ps result) h = refl

quiet_is : (known : Known) (names : Names) (ns more : List Node) → list_all is_quiet ns ≡ true
    → scoped_from known names (ns ++ more) ≡ map (scoped_at names) ns ++ scoped_from known names more
quiet_is known names [] more h = refl
quiet_is known names (n ∷ ns) more h =
    let x = both_of (is_quiet n) (list_all is_quiet ns) h in
    ap (λ after. scoped_at names n ∷ scoped_from known after (ns ++ more)) (quiet_keeps known names n x.0) ∙ ap (λ l. scoped_at names n ∷ l) (quiet_is known names ns more x.1)

quiet_goes_on : (known : Known) (q : Test) (ns : List Node) → list_all is_quiet ns ≡ true
    → ((names : Names) → list_all (q names) ns ≡ true → list_all (node_passes q names) ns ≡ true) → GoesOn known q ns
quiet_goes_on known q ns e pass names more next h =
    let i = subst (λ l. all_scoped q l ≡ true) (quiet_is known names ns more e) h in
    let x = split_all (λ n. q n.names n.node) (map (scoped_at names) ns) (scoped_from known names more) i in
    let y = pass names (sym (list_all-map (λ n. q n.names n.node) (scoped_at names) ns) ∙ x.0) in
    subst (λ l. all_scoped (node_passes q) l ≡ true) (sym (quiet_is known names ns more e))
    (join_all (λ n. node_passes q n.names n.node) (map (scoped_at names) ns) (scoped_from known names more)
    (list_all-map (λ n. node_passes q n.names n.node) (scoped_at names) ns ∙ y) (next names x.1))

both_go_on : (known : Known) (q : Test) (xs ys : List Node) → GoesOn known q xs → GoesOn known q ys → GoesOn known q (xs ++ ys)
both_go_on known q xs ys f g names more next h =
    subst (λ l. all_scoped (node_passes q) (scoped_from known names l) ≡ true) (sym (append_assoc xs ys more))
    (f names (ys ++ more) (λ after i. g after more next i)
    (subst (λ l. all_scoped q (scoped_from known names l) ≡ true) (append_assoc xs ys more) h))

none_goes_on : (known : Known) (q : Test) → GoesOn known q []
none_goes_on known q names more next h = next names h

-- ## Quiet lists

quiet_attributes : (c : Construct) (before list : List Attribute) → list_all is_quiet (attribute_nodes_from c before list) ≡ true
quiet_attributes c before [] = refl
quiet_attributes c before (a ∷ more) = quiet_attributes c (before ++ a ∷ []) more

quiet_labels : (c : Construct) (body : TypeSpec) (before ls : List ArmLabel) → list_all is_quiet (label_nodes c body before ls) ≡ true
quiet_labels c body before [] = refl
quiet_labels c body before (l ∷ ls) = quiet_labels c body (before ++ l ∷ []) ls

quiet_enumerators : (c : Construct) (es : List Enumerator) → list_all is_quiet (map (λ e. EnumeratorNode c e.name) es) ≡ true
quiet_enumerators c [] = refl
quiet_enumerators c (e ∷ es) = quiet_enumerators c es

quiet_line : (c : Construct) (type : TypeSpec) → is_typedef c.position ≡ false → (list : List Declared) (index : ℕ) (ds : List Declarator)
    → list_all is_quiet (declarator_nodes list index (map (declared c type) ds)) ≡ true
quiet_line c type e list index [] = refl
quiet_line c type e list index (d ∷ ds) =
    and_from (not (is_typedef c.position)) (list_all is_quiet (declarator_nodes list (index + 1) (map (declared c type) ds))) (ap not e) (quiet_line c type e list (index + 1) ds)

quiet_switches : (c : Construct) (o : Option SwitchType) → list_all is_quiet (switch_node c o) ≡ true
quiet_switches c None = refl
quiet_switches c (Some t) = refl

mutual
  quiet_types : (c : Construct) (t : TypeSpec) → list_all is_quiet (type_nodes c t) ≡ true
  quiet_types c (tree.Simple s) = refl
  quiet_types c (tree.Name n) = refl
  quiet_types c (tree.Tag at kind tag) = refl
  quiet_types c (tree.Struct at tag ms) = quiet_members c (declared_members c ms) 0 ms
  quiet_types c (tree.EncapsulatedUnion at tag d name cases) =
      let u = tree.EncapsulatedUnion at tag d name cases in
      join_all is_quiet (BodyNode c u ∷ SwitchNode c d.of ∷ label_nodes c u [] (labels_of u)) (case_nodes c cases) (quiet_labels c u [] (labels_of u)) (quiet_cases c cases)
  quiet_types c (tree.NonEncapsulatedUnion at tag arms) =
      let u = tree.NonEncapsulatedUnion at tag arms in
      join_all is_quiet (BodyNode c u ∷ label_nodes c u [] (labels_of u)) (arms_nodes c arms) (quiet_labels c u [] (labels_of u)) (quiet_arms c arms)
  quiet_types c (tree.Enum at tag es) = quiet_enumerators c es

  quiet_members : (c : Construct) (list : List Declared) (index : ℕ) (ms : Members) → list_all is_quiet (member_nodes c list index ms) ≡ true
  quiet_members c list index tree.no_members = refl
  quiet_members c list index (tree.next_member at a type ds others) =
      let here = inside c InMember at a in
      line_of_parts is_quiet here type list index ds (member_nodes c list (index + length ds) others)
      (record {
        attributes = quiet_attributes here [] here.attributes;
        types = quiet_types here type;
        declarators = quiet_line here type refl list index ds;
        others = quiet_members c list (index + length ds) others;
      })

  quiet_cases : (c : Construct) (cases : Cases) → list_all is_quiet (case_nodes c cases) ≡ true
  quiet_cases c tree.no_cases = refl
  quiet_cases c (tree.next_case labels arm others) = join_all is_quiet (arm_nodes c InArm arm) (case_nodes c others) (quiet_arm c InArm refl arm) (quiet_cases c others)

  quiet_arms : (c : Construct) (arms : Arms) → list_all is_quiet (arms_nodes c arms) ≡ true
  quiet_arms c tree.no_arms = refl
  quiet_arms c (tree.next_arm arm others) = join_all is_quiet (arm_nodes c InCasedArm arm) (arms_nodes c others) (quiet_arm c InCasedArm refl arm) (quiet_arms c others)

  quiet_arm : (c : Construct) (position : Position) → is_typedef position ≡ false → (arm : Arm) → list_all is_quiet (arm_nodes c position arm) ≡ true
  quiet_arm c position e (tree.Empty at a) =
      let here = inside c position at a in
      join_all is_quiet (attribute_nodes here) (EmptyArmNode here ∷ []) (quiet_attributes here [] here.attributes) refl
  quiet_arm c position e (tree.Typed at a type d) =
      let here = inside c position at a in
      join_all is_quiet (attribute_nodes here ++ type_nodes here type) (DeclaratorNode [] 0 (declared here type d) ∷ [])
      (join_all is_quiet (attribute_nodes here) (type_nodes here type) (quiet_attributes here [] here.attributes) (quiet_types here type))
      (and_from (not (is_typedef position)) true (ap not e) refl)

quiet_parameters : (c : Construct) (list : List Declared) (index : ℕ) (ps : List Parameter) → list_all is_quiet (parameter_nodes c list index ps) ≡ true
quiet_parameters c list index [] = refl
quiet_parameters c list index (p ∷ ps) =
    let here = parameter_construct c p in
    join_all is_quiet (attribute_nodes here ++ type_nodes here p.type) (DeclaratorNode list index (declared here p.type p.declarator) ∷ parameter_nodes c list (index + 1) ps)
    (join_all is_quiet (attribute_nodes here) (type_nodes here p.type) (quiet_attributes here [] here.attributes) (quiet_types here p.type)) (quiet_parameters c list (index + 1) ps)

quiet_operation : (c : Construct) (result : TypeSpec) (name : Spelling) (ps : List Parameter) → is_typedef c.position ≡ false → list_all is_quiet (operation_nodes c result name ps) ≡ true
quiet_operation c result name ps e =
    let list = declared_parameters c ps in
    let r = DeclaratorNode [] 0 (result_of c result name) in
    join_all is_quiet (attribute_nodes c ++ type_nodes c result ++ r ∷ parameter_nodes c list 0 ps) (OperationNode c name list result ∷ [])
    (join_all is_quiet (attribute_nodes c ++ type_nodes c result) (r ∷ parameter_nodes c list 0 ps)
    (join_all is_quiet (attribute_nodes c) (type_nodes c result) (quiet_attributes c [] c.attributes) (quiet_types c result))
    (and_from (not (is_typedef c.position)) (list_all is_quiet (parameter_nodes c list 0 ps)) (ap not e) (quiet_parameters c list 0 ps))) refl

-- ## Files

switches_pass : (q : Test) (names : Names) (c : Construct) (o : Option SwitchType) → list_all (node_passes q names) (switch_node c o) ≡ true
switches_pass q names c None = refl
switches_pass q names c (Some t) = refl

typedefs_go_on : (known : Known) (q : Test) (c : Construct) (pipe : Bool) (type : TypeSpec) (ds : List Declarator) → GoesOn known q (map (typedef_node c pipe type) ds)
typedefs_go_on known q c pipe type [] names more next h = next names h
typedefs_go_on known q c pipe type (d ∷ ds) names more next h =
    let n = typedef_node c pipe type d in
    let after = names_behind known names n in
    let x = both_of (q names n) (all_scoped q (scoped_from known after (map (typedef_node c pipe type) ds ++ more))) h in
    typedefs_go_on known q c pipe type ds after more next x.1

attributes_go_on : (known : Known) (q : Test) (c : Construct) → GoesOn known q (attribute_nodes c)
attributes_go_on known q c = quiet_goes_on known q (attribute_nodes c) (quiet_attributes c [] c.attributes) (λ names h. attributes_pass q names c [] c.attributes)

switches_go_on : (known : Known) (q : Test) (c : Construct) → GoesOn known q (switch_nodes c)
switches_go_on known q c =
    quiet_goes_on known q (switch_nodes c) (quiet_switches c (switch_type_in c.attributes)) (λ names h. switches_pass q names c (switch_type_in c.attributes))

types_go_on : (known : Known) (q : Test) (c : Construct) (t : TypeSpec) → GoesOn known q (type_nodes c t)
types_go_on known q c t = quiet_goes_on known q (type_nodes c t) (quiet_types c t) (λ names h. types_pass q names c t h)

export_goes_on : (known : Known) (q : Test) (is_main : Bool) (header : Construct) (e : Export) → GoesOn known q (export_nodes is_main header e)
export_goes_on known q is_main header (tree.Typedef at a pipe type ds) =
    let c = inside header InTypedef at a in
    both_go_on known q (attribute_nodes c ++ switch_nodes c ++ type_nodes c type) (map (typedef_node c pipe type) ds)
    (both_go_on known q (attribute_nodes c ++ switch_nodes c) (type_nodes c type)
    (both_go_on known q (attribute_nodes c) (switch_nodes c) (attributes_go_on known q c) (switches_go_on known q c)) (types_go_on known q c type))
    (typedefs_go_on known q c pipe type ds)
export_goes_on known q is_main header (tree.Const at type star name value) =
    quiet_goes_on known q (ConstantNode (inside header InTypedef at None) type star value ∷ []) refl (λ names h. refl)
export_goes_on known q is_main header (tree.Tagged at a type) =
    let c = inside header InTaggedType at a in
    both_go_on known q (attribute_nodes c ++ switch_nodes c ++ type_nodes c type) (TypeNode c type ∷ [])
    (both_go_on known q (attribute_nodes c ++ switch_nodes c) (type_nodes c type)
    (both_go_on known q (attribute_nodes c) (switch_nodes c) (attributes_go_on known q c) (switches_go_on known q c)) (types_go_on known q c type))
    (quiet_goes_on known q (TypeNode c type ∷ []) refl (λ names h. refl))
export_goes_on known q true header (tree.Operation at a result name ps) =
    let c = inside header InOperation at a in
    quiet_goes_on known q (operation_nodes c result name (parameters_of ps)) (quiet_operation c result name (parameters_of ps) refl)
    (λ names h. operation_passes q names c result name (parameters_of ps) refl h)
export_goes_on known q false header (tree.Operation at a result name ps) = none_goes_on known q

exports_go_on : (known : Known) (q : Test) (is_main : Bool) (header : Construct) (es : List Export) → GoesOn known q (flat_map (export_nodes is_main header) es)
exports_go_on known q is_main header [] = none_goes_on known q
exports_go_on known q is_main header (e ∷ es) =
    both_go_on known q (export_nodes is_main header e) (flat_map (export_nodes is_main header) es) (export_goes_on known q is_main header e) (exports_go_on known q is_main header es)

file_goes_on : (known : Known) (q : Test) (f : Ended) → GoesOn known q (file_nodes f)
file_goes_on known q f =
    let c = header_of f in
    both_go_on known q (HeaderNode c f.tree.attributes.at ∷ attribute_nodes c) (flat_map (export_nodes (eqb f.file 0) c) f.tree.exports)
    (both_go_on known q (HeaderNode c f.tree.attributes.at ∷ []) (attribute_nodes c) (quiet_goes_on known q (HeaderNode c f.tree.attributes.at ∷ []) refl (λ names h. refl))
    (attributes_go_on known q c))
    (exports_go_on known q (eqb f.file 0) c f.tree.exports)

files_go_on : (known : Known) (q : Test) (fs : List Ended) → GoesOn known q (flat_map file_nodes fs)
files_go_on known q [] = none_goes_on known q
files_go_on known q (f ∷ fs) = both_go_on known q (file_nodes f) (flat_map file_nodes fs) (file_goes_on known q f) (files_go_on known q fs)

-- where each node of the files passes, so do all members and parameters
pub members_and_parameters_pass : (w : World) (q : Test) → list_all (λ n. q n.names n.node) (scene_of w).nodes ≡ true
    → list_all (λ n. node_passes q n.names n.node) (scene_of w).nodes ≡ true
unfolding scene_of nodes
members_and_parameters_pass w q h =
    let ns = flat_map file_nodes w.files in
    subst (λ l. all_scoped (node_passes q) (scoped_from w.known [] l) ≡ true) (append-nil ns)
    (files_go_on w.known q w.files [] [] (λ after i. refl) (subst (λ l. all_scoped q (scoped_from w.known [] l) ≡ true) (sym (append-nil ns)) h))
