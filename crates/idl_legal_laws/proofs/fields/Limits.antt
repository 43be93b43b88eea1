-- Where no rule is broken, there are not too many operations, parameters, members and arms.
use Rattle.std.proofs.Common.{◌≡◌, ℕ, ◌+◌, ◌≤◌, Bool, true, false, not, ◌||◌, ◌&&◌, List, [], ◌∷◌, ◌++◌, map, length, Option, Some, None, ℤ, refl, sym, ap, arith, ◌∙◌, subst}
use Rattle.std.specs.Prelude.{nat_le, sum_by, eqb}
use Rattle.std.specs.List.{list_all, list_any, flat_map}
use Rattle.std.proofs.lemmas.List.{length-map}
use Rattle.std.proofs.lemmas.List.Sums.{sum_by-cons}
use Rattle.std.proofs.lemmas.Bool.Decides.{nat_tests}
use Rattle.nd_base.specs.declared.octets.Place.{Place}
use Rattle.nd_types.specs.declared.types.TypeId.{TypeId}
use Rattle.nd_types.specs.declared.types.TypeDef.TheVariants as def
use Rattle.nd_types.specs.declared.types.Arm as arm
use Rattle.nd_types.specs.declared.types.Field.{Field}
use Rattle.nd_types.specs.declared.TheConstants.{OPERATION_LIMIT, PARAM_LIMIT, MEMBER_LIMIT}
use Rattle.nd_types.specs.Kinds.{basic_types}
use Rattle.nd_types.specs.Legal.{part_count}
use Rattle.idl_grammar.specs.declared.words.Spelling.{Spelling}
use Rattle.idl_grammar.specs.declared.types.SwitchType.{SwitchType}
use Rattle.idl_grammar.specs.Tree.{Attribute, Declarator, Enumerator, Parameter, Export, TypeSpec, Members, Cases, Arms, Arm}
use Rattle.idl_grammar.specs.Tree as tree
use Rattle.idl_scope.specs.Known.{Ended, Known}
use Rattle.idl_scope.specs.Steps.{parameters_of}
use Rattle.idl_rule_definitions.specs.Nodes.{World, Construct, Position, InTypedef, InTaggedType, InMember, InArm, InCasedArm, InOperation, Declared, declared, inside, declared_members}
use Rattle.idl_rule_definitions.specs.Nodes.{parameter_construct, declared_parameters, attribute_nodes, attribute_nodes_from, switch_node, switch_nodes, declarator_nodes, ArmLabel, LabelledArm}
use Rattle.idl_rule_definitions.specs.Nodes.{arms_of, labels_of, label_nodes, type_nodes, member_nodes, case_nodes, arms_nodes, arm_nodes, parameter_nodes, typedef_node, result_of, operation_nodes}
use Rattle.idl_rule_definitions.specs.Nodes.{export_nodes, header_of, file_nodes, nodes, Node, HeaderNode, AttributeNode, SwitchNode, TagNode, BodyNode, EnumeratorNode, LabelNode, EmptyArmNode}
use Rattle.idl_rule_definitions.specs.Nodes.{DeclaratorNode, ConstantNode, TypeNode, OperationNode}
use Rattle.idl_rule_definitions.specs.Attributes.{switch_type_in}
use Rattle.idl_rule_definitions.specs.Types.{IdlType, Void, Handle, ContextHandle, Basic, Struct, Union, Enum, Array, Text, Pointer, Pipe, Names}
use Rattle.idl_rule_definitions.specs.Scene.{Scoped, Scene, scoped_from, scene_of, names_behind, Body, body_by, body_among, bodies, body_of, place_of, same_place, type_of_body}
use Rattle.idl_rule_definitions.specs.Rules.{breaches_in}
use Rattle.idl_rule_definitions.specs.DeclarationRules.{label_value, first_past, operation_in, parameters_in, part_in, types_too_many, operations_too_many, parameters_too_many, parts_too_many}
use Rattle.idl_rule_definitions.specs.Numbering.{Needed, needed_types, own_types, first_needed, has_own_number, same_type}
use Rattle.idl_rule_definitions.specs.Meaning.{parameter, definition, types_of, operations_of, struct_of, defined_by, defined_at, body_if, is_struct, is_union, is_enum}
use Rattle.idl_rule_definitions.specs.Meaning as meaning
use Rattle.idl_legal_laws.proofs.Kept.{neither}
use Rattle.idl_rule_definitions.proofs.Equal.{type_is}
use Rattle.std.proofs.lemmas.Bool.{or_right as right, and_parts as both_of, and_from}
use Rattle.nd_lemmas.proofs.Lists.{join_all}
use Rattle.idl_legal_laws.proofs.Few.{none_too_many, few, joined}

-- ## Operations and parameters

one_operation : (s : Scene) (names : Names) (n : Node) → length (meaning.operation_in s names n) ≡ length (operation_in n)
one_operation s names (OperationNode c name ps result) = refl
one_operation s names (HeaderNode c at) = refl
one_operation s names (AttributeNode c before a) = refl
one_operation s names (SwitchNode c t) = refl
one_operation s names (TagNode c kind tag) = refl
one_operation s names (BodyNode c body) = refl
one_operation s names (EnumeratorNode c name) = refl
one_operation s names (LabelNode c body before l) = refl
one_operation s names (EmptyArmNode c) = refl
one_operation s names (DeclaratorNode list index d) = refl
one_operation s names (ConstantNode c t star value) = refl
one_operation s names (TypeNode c t) = refl

as_many : (s : Scene) (ns : List Scoped) → length (flat_map (λ n. meaning.operation_in s n.names n.node) ns) ≡ length (flat_map (λ n. operation_in n.node) ns)
as_many s [] = refl
as_many s (n ∷ ns) =
    let a = joined (meaning.operation_in s n.names n.node) (flat_map (λ m. meaning.operation_in s m.names m.node) ns) in
    let b = joined (operation_in n.node) (flat_map (λ m. operation_in m.node) ns) in
    let e = one_operation s n.names n.node in
    let f = as_many s ns in
    omega (arith, a, b, e, f)

-- the three limits that are not on types
record Limits (s : Scene) : Type 0 where
  operations : operations_too_many s ≡ []
  params : parameters_too_many s ≡ []
  parts : parts_too_many s ≡ []

limits : (s : Scene) → breaches_in s ≡ [] → Limits s
limits s h =
    let a = neither (types_too_many s ++ operations_too_many s ++ parameters_too_many s) (parts_too_many s) (none_too_many s h) in
    let b = neither (types_too_many s ++ operations_too_many s) (parameters_too_many s) a.0 in
    let c = neither (types_too_many s) (operations_too_many s) b.0 in
    record { operations = c.1; params = b.1; parts = a.1 }

pub few_operations : (s : Scene) → breaches_in s ≡ [] → length (operations_of s) ≤ OPERATION_LIMIT
few_operations s h =
    let a = few OPERATION_LIMIT (flat_map (λ n. operation_in n.node) s.nodes) (limits s h).operations in
    let b = as_many s s.nodes in
    omega (arith, a, b)

pub nat_le_from : (m n : ℕ) → m ≤ n → nat_le m n ≡ true
nat_le_from m n h = grind (arith, nat_tests, h)

operation_params : (s : Scene) (limit : ℕ) (names : Names) (n : Node) → first_past limit (parameters_in n) ≡ [] → list_all (λ o. nat_le (length o.params) limit) (meaning.operation_in s names n) ≡ true
operation_params s limit names (OperationNode c name ps result) h =
    let a = few limit (map (λ p. p.construct) ps) h in
    let b = length-map ps (λ p. p.construct) in
    let e = length-map ps (parameter s names ps) in
    and_from (nat_le (length (map (parameter s names ps) ps)) limit) true (nat_le_from (length (map (parameter s names ps) ps)) limit (omega (arith, a, b, e))) refl
operation_params s limit names (HeaderNode c at) h = refl
operation_params s limit names (AttributeNode c before a) h = refl
operation_params s limit names (SwitchNode c t) h = refl
operation_params s limit names (TagNode c kind tag) h = refl
operation_params s limit names (BodyNode c body) h = refl
operation_params s limit names (EnumeratorNode c name) h = refl
operation_params s limit names (LabelNode c body before l) h = refl
operation_params s limit names (EmptyArmNode c) h = refl
operation_params s limit names (DeclaratorNode list index d) h = refl
operation_params s limit names (ConstantNode c t star value) h = refl
operation_params s limit names (TypeNode c t) h = refl

all_params : (s : Scene) (limit : ℕ) (ns : List Scoped) → flat_map (λ n. first_past limit (parameters_in n.node)) ns ≡ []
    → list_all (λ o. nat_le (length o.params) limit) (flat_map (λ n. meaning.operation_in s n.names n.node) ns) ≡ true
all_params s limit [] h = refl
all_params s limit (n ∷ ns) h =
    let x = neither (first_past limit (parameters_in n.node)) (flat_map (λ m. first_past limit (parameters_in m.node)) ns) h in
    join_all (λ o. nat_le (length o.params) limit) (meaning.operation_in s n.names n.node) (flat_map (λ m. meaning.operation_in s m.names m.node) ns)
    (operation_params s limit n.names n.node x.0) (all_params s limit ns x.1)

pub few_params : (s : Scene) → breaches_in s ≡ [] → list_all (λ o. nat_le (length o.params) PARAM_LIMIT) (operations_of s) ≡ true
few_params s h = all_params s PARAM_LIMIT s.nodes (limits s h).params

-- ## Sums

abbrev total : {X : Type 0} → (X → ℕ) → List X → ℕ
total f [] = 0
total f (x ∷ xs) = f x + total f xs

total_is : {X : Type 0} (f : X → ℕ) (xs : List X) → sum_by f xs ≡ total f xs
total_is f [] = refl
total_is f (x ∷ xs) = sum_by-cons f x xs ∙ ap (λ n. f x + n) (total_is f xs)

total_joined : {X : Type 0} (f : X → ℕ) (xs ys : List X) → total f (xs ++ ys) ≡ total f xs + total f ys
total_joined f [] ys = omega (arith)
total_joined f (x ∷ xs) ys = let e = total_joined f xs ys in omega (arith, e)

total_mapped : {X Y : Type 0} (f : Y → ℕ) (g : X → Y) (xs : List X) → total f (map g xs) ≡ total (λ x. f (g x)) xs
total_mapped f g [] = refl
total_mapped f g (x ∷ xs) = ap (λ n. f (g x) + n) (total_mapped f g xs)

total_of_sums : {X : Type 0} (f g : X → ℕ) (xs : List X) → total (λ x. f x + g x) xs ≡ total f xs + total g xs
total_of_sums f g [] = omega (arith)
total_of_sums f g (x ∷ xs) = let e = total_of_sums f g xs in omega (arith, e)

total_less : {X : Type 0} (f g : X → ℕ) → ((x : X) → f x ≤ g x) → (xs : List X) → total f xs ≤ total g xs
total_less f g h [] = omega (arith)
total_less f g h (x ∷ xs) = let a = h x in let e = total_less f g h xs in omega (arith, a, e)

total_none : {X : Type 0} (f : X → ℕ) → ((x : X) → f x ≡ 0) → (xs : List X) → total f xs ≡ 0
total_none f h [] = refl
total_none f h (x ∷ xs) = let a = h x in let e = total_none f h xs in omega (arith, a, e)

length_of : {X Y : Type 0} (f : X → List Y) (xs : List X) → length (flat_map f xs) ≡ total (λ x. length (f x)) xs
length_of f [] = refl
length_of f (x ∷ xs) = let a = joined (f x) (flat_map f xs) in let e = length_of f xs in omega (arith, a, e)

total_flat : {X Y : Type 0} (g : Y → ℕ) (f : X → List Y) (xs : List X) → total g (flat_map f xs) ≡ total (λ x. total g (f x)) xs
total_flat g f [] = refl
total_flat g f (x ∷ xs) = let a = total_joined g (f x) (flat_map f xs) in let e = total_flat g f xs in omega (arith, a, e)

-- ## The parts of bodies stand among the nodes

-- the members of a struct, or the labels of a union
abbrev body_size : Construct → TypeSpec → ℕ
body_size c (tree.Struct at tag ms) = length (declared_members c ms)
body_size c body = length (labels_of body)

abbrev size_of : Node → ℕ
size_of (BodyNode c body) = body_size c body
size_of _ = 0

abbrev parts_at : Node → ℕ
parts_at n = length (part_in n)

-- the bodies among these nodes have no more parts than stand among them
abbrev Balanced : List Node → Type 0
Balanced ns = total size_of ns ≤ total parts_at ns

both_balanced : (xs ys : List Node) → Balanced xs → Balanced ys → Balanced (xs ++ ys)
both_balanced xs ys h i =
    let a = total_joined size_of xs ys in
    let b = total_joined parts_at xs ys in
    omega (arith, a, b, h, i)

no_size : (ns : List Node) → total size_of ns ≡ 0 → Balanced ns
no_size ns h = omega (arith, h)

attributes_balanced : (c : Construct) (before list : List Attribute) → total size_of (attribute_nodes_from c before list) ≡ 0
attributes_balanced c before [] = refl
attributes_balanced c before (a ∷ more) = let e = attributes_balanced c (before ++ a ∷ []) more in omega (arith, e)

enumerators_balanced : (c : Construct) (es : List Enumerator) → total size_of (map (λ e. EnumeratorNode c e.name) es) ≡ 0
enumerators_balanced c [] = refl
enumerators_balanced c (e ∷ es) = let f = enumerators_balanced c es in omega (arith, f)

labels_count : (c : Construct) (body : TypeSpec) (before ls : List ArmLabel) → (total parts_at (label_nodes c body before ls) ≡ length ls) × (total size_of (label_nodes c body before ls) ≡ 0)
labels_count c body before [] = (refl, refl)
labels_count c body before (l ∷ ls) =
    let e = labels_count c body (before ++ l ∷ []) ls in
    let f = e.0 in
    let g = e.1 in
    (omega (arith, f), omega (arith, g))

line_counts : (c : Construct) (type : TypeSpec) → c.position ≡ InMember → (list : List Declared) (index : ℕ) (ds : List Declarator)
    → (total parts_at (declarator_nodes list index (map (declared c type) ds)) ≡ length ds) × (total size_of (declarator_nodes list index (map (declared c type) ds)) ≡ 0)
line_counts c type p list index [] = (refl, refl)
line_counts c type p list index (d ∷ ds) =
    let e = line_counts c type p list (index + 1) ds in
    let f = e.0 in
    let g = e.1 in
    let one : parts_at (DeclaratorNode list index (declared c type d)) ≡ 1 = member_counts c.position p in
    (omega (arith, f, one), omega (arith, g))
  where
    member_counts : (position : Position) → position ≡ InMember → parts_at (DeclaratorNode list index (declared (record c { position = position }) type d)) ≡ 1
    member_counts position e = ap (λ q. parts_at (DeclaratorNode list index (declared (record c { position = q }) type d))) e

attributes_ok : (c : Construct) → Balanced (attribute_nodes c)
attributes_ok c = no_size (attribute_nodes c) (attributes_balanced c [] c.attributes)

-- the nodes of one line
abbrev line_nodes : Construct → TypeSpec → List Declared → ℕ → List Declarator → List Node
line_nodes c type list index ds = attribute_nodes c ++ type_nodes c type ++ declarator_nodes list index (map (declared c type) ds)

line_holds : (c : Construct) (type : TypeSpec) → c.position ≡ InMember → (list : List Declared) (index : ℕ) (ds : List Declarator) → Balanced (type_nodes c type)
    → length ds + total size_of (line_nodes c type list index ds) ≤ total parts_at (line_nodes c type list index ds)
line_holds c type p list index ds t =
    let declarators = declarator_nodes list index (map (declared c type) ds) in
    let a = both_balanced (attribute_nodes c) (type_nodes c type) (attributes_ok c) t in
    let b = line_counts c type p list index ds in
    let x = b.0 in
    let y = b.1 in
    let e = total_joined size_of (attribute_nodes c ++ type_nodes c type) declarators in
    let f = total_joined parts_at (attribute_nodes c ++ type_nodes c type) declarators in
    omega (arith, a, x, y, e, f)

-- a union with its labels, in front of its arms
labels_balanced : (c : Construct) (body : TypeSpec) (more : List Node) → Balanced more
    → length (labels_of body) + total size_of (label_nodes c body [] (labels_of body) ++ more) ≤ total parts_at (label_nodes c body [] (labels_of body) ++ more)
labels_balanced c body more h =
    let ls = label_nodes c body [] (labels_of body) in
    let a = labels_count c body [] (labels_of body) in
    let x = a.0 in
    let y = a.1 in
    let e = total_joined size_of ls more in
    let f = total_joined parts_at ls more in
    omega (arith, h, x, y, e, f)

mutual
  types_balanced : (c : Construct) (t : TypeSpec) → Balanced (type_nodes c t)
  types_balanced c (tree.Simple s) = omega (arith)
  types_balanced c (tree.Name n) = omega (arith)
  types_balanced c (tree.Tag at kind tag) = omega (arith)
  types_balanced c (tree.Struct at tag ms) = let e = members_balanced c (declared_members c ms) 0 ms in omega (arith, e)
  types_balanced c (tree.EncapsulatedUnion at tag d name cases) =
      let e = labels_balanced c (tree.EncapsulatedUnion at tag d name cases) (case_nodes c cases) (cases_balanced c cases) in omega (arith, e)
  types_balanced c (tree.NonEncapsulatedUnion at tag arms) =
      let e = labels_balanced c (tree.NonEncapsulatedUnion at tag arms) (arms_nodes c arms) (arms_balanced c arms) in omega (arith, e)
  types_balanced c (tree.Enum at tag es) = let e = enumerators_balanced c es in omega (arith, e)

  members_balanced : (c : Construct) (list : List Declared) (index : ℕ) (ms : Members)
      → length (declared_members c ms) + total size_of (member_nodes c list index ms) ≤ total parts_at (member_nodes c list index ms)
  members_balanced c list index tree.no_members = omega (arith)
  members_balanced c list index (tree.next_member at a type ds others) =
      let here = inside c InMember at a in
      let l = line_holds here type refl list index ds (types_balanced here type) in
      let i = members_balanced c list (index + length ds) others in
      let e = total_joined size_of (line_nodes here type list index ds) (member_nodes c list (index + length ds) others) in
      let f = total_joined parts_at (line_nodes here type list index ds) (member_nodes c list (index + length ds) others) in
      let g = joined (map (declared here type) ds) (declared_members c others) in
      let h = length-map ds (declared here type) in
      omega (arith, l, i, e, f, g, h)

  cases_balanced : (c : Construct) (cases : Cases) → Balanced (case_nodes c cases)
  cases_balanced c tree.no_cases = omega (arith)
  cases_balanced c (tree.next_case labels arm others) = both_balanced (arm_nodes c InArm arm) (case_nodes c others) (arm_balanced c InArm arm) (cases_balanced c others)

  arms_balanced : (c : Construct) (arms : Arms) → Balanced (arms_nodes c arms)
  arms_balanced c tree.no_arms = omega (arith)
  arms_balanced c (tree.next_arm arm others) = both_balanced (arm_nodes c InCasedArm arm) (arms_nodes c others) (arm_balanced c InCasedArm arm) (arms_balanced c others)

  arm_balanced : (c : Construct) (position : Position) (arm : Arm) → Balanced (arm_nodes c position arm)
  arm_balanced c position (tree.Empty at a) =
      let here = inside c position at a in
      both_balanced (attribute_nodes here) (EmptyArmNode here ∷ []) (attributes_ok here) (omega (arith))
  arm_balanced c position (tree.Typed at a type d) =
      let here = inside c position at a in
      both_balanced (attribute_nodes here ++ type_nodes here type) (DeclaratorNode [] 0 (declared here type d) ∷ [])
      (both_balanced (attribute_nodes here) (type_nodes here type) (attributes_ok here) (types_balanced here type)) (no_size (DeclaratorNode [] 0 (declared here type d) ∷ []) refl)

parameters_balanced : (c : Construct) (list : List Declared) (index : ℕ) (ps : List Parameter) → Balanced (parameter_nodes c list index ps)
parameters_balanced c list index [] = omega (arith)
parameters_balanced c list index (p ∷ ps) =
    let here = parameter_construct c p in
    let d = DeclaratorNode list index (declared here p.type p.declarator) in
    both_balanced (attribute_nodes here ++ type_nodes here p.type) (d ∷ parameter_nodes c list (index + 1) ps)
    (both_balanced (attribute_nodes here) (type_nodes here p.type) (attributes_ok here) (types_balanced here p.type))
    (both_balanced (d ∷ []) (parameter_nodes c list (index + 1) ps) (no_size (d ∷ []) refl) (parameters_balanced c list (index + 1) ps))

operation_balanced : (c : Construct) (result : TypeSpec) (name : Spelling) (ps : List Parameter) → Balanced (operation_nodes c result name ps)
operation_balanced c result name ps =
    let list = declared_parameters c ps in
    let r = DeclaratorNode [] 0 (result_of c result name) in
    both_balanced (attribute_nodes c ++ type_nodes c result ++ r ∷ parameter_nodes c list 0 ps) (OperationNode c name list result ∷ [])
    (both_balanced (attribute_nodes c ++ type_nodes c result) (r ∷ parameter_nodes c list 0 ps)
    (both_balanced (attribute_nodes c) (type_nodes c result) (attributes_ok c) (types_balanced c result))
    (both_balanced (r ∷ []) (parameter_nodes c list 0 ps) (no_size (r ∷ []) refl) (parameters_balanced c list 0 ps)))
    (no_size (OperationNode c name list result ∷ []) refl)

typedefs_balanced : (c : Construct) (pipe : Bool) (type : TypeSpec) (ds : List Declarator) → Balanced (map (typedef_node c pipe type) ds)
typedefs_balanced c pipe type [] = omega (arith)
typedefs_balanced c pipe type (d ∷ ds) =
    both_balanced (typedef_node c pipe type d ∷ []) (map (typedef_node c pipe type) ds) (no_size (typedef_node c pipe type d ∷ []) refl) (typedefs_balanced c pipe type ds)

switch_balanced : (c : Construct) (o : Option SwitchType) → Balanced (switch_node c o)
switch_balanced c None = omega (arith)
switch_balanced c (Some t) = omega (arith)

export_balanced : (is_main : Bool) (header : Construct) (e : Export) → Balanced (export_nodes is_main header e)
export_balanced is_main header (tree.Typedef at a pipe type ds) =
    let c = inside header InTypedef at a in
    both_balanced (attribute_nodes c ++ switch_nodes c ++ type_nodes c type) (map (typedef_node c pipe type) ds)
    (both_balanced (attribute_nodes c ++ switch_nodes c) (type_nodes c type)
    (both_balanced (attribute_nodes c) (switch_nodes c) (attributes_ok c) (switch_balanced c (switch_type_in c.attributes))) (types_balanced c type))
    (typedefs_balanced c pipe type ds)
export_balanced is_main header (tree.Const at type star name value) = omega (arith)
export_balanced is_main header (tree.Tagged at a type) =
    let c = inside header InTaggedType at a in
    both_balanced (attribute_nodes c ++ switch_nodes c ++ type_nodes c type) (TypeNode c type ∷ [])
    (both_balanced (attribute_nodes c ++ switch_nodes c) (type_nodes c type)
    (both_balanced (attribute_nodes c) (switch_nodes c) (attributes_ok c) (switch_balanced c (switch_type_in c.attributes))) (types_balanced c type))
    (omega (arith))
export_balanced true header (tree.Operation at a result name ps) = operation_balanced (inside header InOperation at a) result name (parameters_of ps)
export_balanced false header (tree.Operation at a result name ps) = omega (arith)

exports_balanced : (is_main : Bool) (header : Construct) (es : List Export) → Balanced (flat_map (export_nodes is_main header) es)
exports_balanced is_main header [] = omega (arith)
exports_balanced is_main header (e ∷ es) =
    both_balanced (export_nodes is_main header e) (flat_map (export_nodes is_main header) es) (export_balanced is_main header e) (exports_balanced is_main header es)

file_balanced : (f : Ended) → Balanced (file_nodes f)
file_balanced f =
    let c = header_of f in
    both_balanced (HeaderNode c f.tree.attributes.at ∷ attribute_nodes c) (flat_map (export_nodes (eqb f.file 0) c) f.tree.exports)
    (both_balanced (HeaderNode c f.tree.attributes.at ∷ []) (attribute_nodes c) (omega (arith)) (attributes_ok c))
    (exports_balanced (eqb f.file 0) c f.tree.exports)

files_balanced : (fs : List Ended) → Balanced (flat_map file_nodes fs)
files_balanced [] = omega (arith)
files_balanced (f ∷ fs) = both_balanced (file_nodes f) (flat_map file_nodes fs) (file_balanced f) (files_balanced fs)

-- ## The parts of a body in the table

abbrev option_count : {X : Type 0} → Option X → ℕ
option_count None = 0
option_count (Some x) = 1

first_counts : (l : List arm.Arm) → option_count (meaning.first_arm l) ≤ length l
first_counts [] = omega (arith)
first_counts (a ∷ more) = omega (arith)

one_arm : (s : Scene) (b : Body) (a : LabelledArm) (v : Option ℤ) → length (meaning.arm_by s b a v) + length (meaning.default_by s b a v) ≡ 1
one_arm s b a None = refl
one_arm s b a (Some z) = refl

arm_count : (s : Scene) (b : Body) (a : LabelledArm) (ls : List ArmLabel)
    → length (flat_map (λ l. meaning.arm_by s b a (label_value s.known l)) ls) + length (flat_map (λ l. meaning.default_by s b a (label_value s.known l)) ls) ≡ length ls
arm_count s b a [] = omega (arith)
arm_count s b a (l ∷ ls) =
    let v = label_value s.known l in
    let e = one_arm s b a v in
    let f = joined (meaning.arm_by s b a v) (flat_map (λ m. meaning.arm_by s b a (label_value s.known m)) ls) in
    let g = joined (meaning.default_by s b a v) (flat_map (λ m. meaning.default_by s b a (label_value s.known m)) ls) in
    let i = arm_count s b a ls in
    omega (arith, e, f, g, i)

abbrev arms_for : Scene → Body → LabelledArm → List arm.Arm
arms_for s b a = flat_map (λ l. meaning.arm_by s b a (label_value s.known l)) a.labels

abbrev defaults_for : Scene → Body → LabelledArm → List arm.Arm
defaults_for s b a = flat_map (λ l. meaning.default_by s b a (label_value s.known l)) a.labels

arms_count : (s : Scene) (b : Body) (list : List LabelledArm) → length (flat_map (arms_for s b) list) + length (flat_map (defaults_for s b) list) ≡ length (flat_map (λ a. a.labels) list)
arms_count s b [] = omega (arith)
arms_count s b (a ∷ more) =
    let e = arm_count s b a a.labels in
    let f = joined (arms_for s b a) (flat_map (arms_for s b) more) in
    let g = joined (defaults_for s b a) (flat_map (defaults_for s b) more) in
    let h = joined a.labels (flat_map (λ x. x.labels) more) in
    let i = arms_count s b more in
    omega (arith, e, f, g, h, i)

union_count : (t : TypeId) (e : Bool) (arms : List arm.Arm) (d : Option arm.Arm) → part_count (def.Union t e arms d) ≤ length arms + option_count d
union_count t e arms None = omega (arith)
union_count t e arms (Some a) = omega (arith)

struct_count : (fs : List Field) → part_count (struct_of fs) ≤ length fs
struct_count [] = omega (arith)
struct_count (f ∷ fs) = omega (arith)

union_parts : (s : Scene) (b : Body) (t : TypeId) (e : Bool) → part_count (def.Union t e (meaning.labelled_arms s b) (meaning.default_arm s b)) ≤ length (labels_of b.body)
union_parts s b t e =
    let x = union_count t e (meaning.labelled_arms s b) (meaning.default_arm s b) in
    let y = first_counts (flat_map (defaults_for s b) (arms_of b.body)) in
    let z = arms_count s b (arms_of b.body) in
    omega (arith, x, y, z)

body_parts : (s : Scene) (c : Construct) (names : Names) (body : TypeSpec) → part_count (defined_by s (record { construct = c; names = names; body = body }) body) ≤ body_size c body
body_parts s c names (tree.Struct at tag ms) =
    let list = declared_members c ms in
    let x = struct_count (map (meaning.field s names list) list) in
    let y = length-map list (meaning.field s names list) in
    omega (arith, x, y)
body_parts s c names (tree.EncapsulatedUnion at tag d name cases) = union_parts s (record { construct = c; names = names; body = tree.EncapsulatedUnion at tag d name cases }) (record { 0 = 0 }) true
body_parts s c names (tree.NonEncapsulatedUnion at tag arms) = union_parts s (record { construct = c; names = names; body = tree.NonEncapsulatedUnion at tag arms }) (record { 0 = 0 }) false
body_parts s c names (tree.Enum at tag es) = omega (arith)
body_parts s c names (tree.Simple t) = omega (arith)
body_parts s c names (tree.Name n) = omega (arith)
body_parts s c names (tree.Tag at kind tag) = omega (arith)

-- the parts of a body in the table
abbrev parts_in : Scene → Body → ℕ
parts_in s b = part_count (defined_by s b b.body)

node_parts : (s : Scene) (names : Names) (n : Node) → total (parts_in s) (body_by names n) ≤ size_of n
node_parts s names (BodyNode c body) = let e = body_parts s c names body in omega (arith, e)
node_parts s names (OperationNode c name ps result) = omega (arith)
node_parts s names (HeaderNode c at) = omega (arith)
node_parts s names (AttributeNode c before a) = omega (arith)
node_parts s names (SwitchNode c t) = omega (arith)
node_parts s names (TagNode c kind tag) = omega (arith)
node_parts s names (EnumeratorNode c name) = omega (arith)
node_parts s names (LabelNode c body before l) = omega (arith)
node_parts s names (EmptyArmNode c) = omega (arith)
node_parts s names (DeclaratorNode list index d) = omega (arith)
node_parts s names (ConstantNode c t star value) = omega (arith)
node_parts s names (TypeNode c t) = omega (arith)

total_scoped : (known : Known) (f : Node → ℕ) (names : Names) (ns : List Node) → total (λ n. f n.node) (scoped_from known names ns) ≡ total f ns
total_scoped known f names [] = refl
total_scoped known f names (n ∷ ns) = ap (λ k. f n + k) (total_scoped known f (names_behind known names n) ns)

-- ## One body for each type

abbrev weight_if : Bool → ℕ → ℕ
weight_if true n = n
weight_if false n = 0

-- what a body has of a type's parts
abbrev share : Scene → IdlType → Body → ℕ
share s t b = weight_if (same_type (type_of_body b) t) (parts_in s b)

-- a kind of tags
abbrev OneShares : Scene → (TypeSpec → Bool) → (Place → IdlType) → Type 0
OneShares s test kind = (b : Body) (place : Place) → same_place (place_of b) place ≡ true → part_count (defined_at s (body_if test (Some b))) ≤ share s (kind place) b

same_shares : (s : Scene) (t : IdlType) (b : Body) → same_type (type_of_body b) t ≡ true → parts_in s b ≤ share s t b
same_shares s t b h = let e = ap (λ z. weight_if z (parts_in s b)) h in omega (arith, e)

struct_shares : (s : Scene) (c : Construct) (names : Names) (body : TypeSpec) (place : Place) → same_place (place_of (record { construct = c; names = names; body = body })) place ≡ true
    → part_count (defined_at s (body_if is_struct (Some (record { construct = c; names = names; body = body })))) ≤ share s (Struct place) (record { construct = c; names = names; body = body })
struct_shares s c names (tree.Struct at tag ms) place h = same_shares s (Struct place) (record { construct = c; names = names; body = tree.Struct at tag ms }) h
struct_shares s c names _ place h = omega (arith)

union_shares : (s : Scene) (c : Construct) (names : Names) (body : TypeSpec) (place : Place) → same_place (place_of (record { construct = c; names = names; body = body })) place ≡ true
    → part_count (defined_at s (body_if is_union (Some (record { construct = c; names = names; body = body })))) ≤ share s (Union place) (record { construct = c; names = names; body = body })
union_shares s c names (tree.EncapsulatedUnion at tag d name cases) place h =
    same_shares s (Union place) (record { construct = c; names = names; body = tree.EncapsulatedUnion at tag d name cases }) h
union_shares s c names (tree.NonEncapsulatedUnion at tag arms) place h =
    same_shares s (Union place) (record { construct = c; names = names; body = tree.NonEncapsulatedUnion at tag arms }) h
union_shares s c names _ place h = omega (arith)

shares_by : (s : Scene) (test : TypeSpec → Bool) (kind : Place → IdlType) → OneShares s test kind → (place : Place) (b : Body) (bs : List Body) (same : Bool) → same_place (place_of b) place ≡ same
    → part_count (defined_at s (body_if test (body_among bs place))) ≤ total (share s (kind place)) bs
    → part_count (defined_at s (body_if test (elim same [ true ↦ Some b | false ↦ body_among bs place ]))) ≤ share s (kind place) b + total (share s (kind place)) bs
shares_by s test kind one place b bs true e h = let x = one b place e in omega (arith, x)
shares_by s test kind one place b bs false e h = omega (arith, h)

found_shares : (s : Scene) (test : TypeSpec → Bool) (kind : Place → IdlType) → OneShares s test kind → (place : Place) (bs : List Body)
    → part_count (defined_at s (body_if test (body_among bs place))) ≤ total (share s (kind place)) bs
found_shares s test kind one place [] = omega (arith)
found_shares s test kind one place (b ∷ bs) = shares_by s test kind one place b bs (same_place (place_of b) place) refl (found_shares s test kind one place bs)

enum_parts : (s : Scene) (c : Construct) (names : Names) (body : TypeSpec) → part_count (defined_at s (body_if is_enum (Some (record { construct = c; names = names; body = body })))) ≡ 0
enum_parts s c names (tree.Enum at tag es) = refl
enum_parts s c names _ = refl

enum_found : (s : Scene) (o : Option Body) → part_count (defined_at s (body_if is_enum o)) ≡ 0
enum_found s None = refl
enum_found s (Some b) = enum_parts s b.construct b.names b.body

type_shares : (s : Scene) (t : IdlType) → part_count (definition s t) ≤ total (share s t) (bodies s)
type_shares s (Struct p) = found_shares s is_struct (λ q. Struct q) (λ b place h. struct_shares s b.construct b.names b.body place h) p (bodies s)
type_shares s (Union p) = found_shares s is_union (λ q. Union q) (λ b place h. union_shares s b.construct b.names b.body place h) p (bodies s)
type_shares s (Enum p) = let e = enum_found s (body_of s p) in omega (arith, e)
type_shares s (Array t m v) = omega (arith)
type_shares s (Text t m) = omega (arith)
type_shares s (Pointer c t) = omega (arith)
type_shares s (Pipe t) = omega (arith)
type_shares s (Basic p) = omega (arith)
type_shares s Void = omega (arith)
type_shares s Handle = omega (arith)
type_shares s ContextHandle = omega (arith)

-- ## Each type once

abbrev weigh : IdlType → ℕ → List Needed → ℕ
weigh u k ns = total (λ n. weight_if (same_type u n.type) k) ns

not_same : (u : IdlType) (k : ℕ) (before : List IdlType) (n : Needed) (own : Bool) → list_any (same_type u) before ≡ true → (own && not (list_any (same_type n.type) before)) ≡ true
    → (c : Bool) → same_type u n.type ≡ c → weight_if c k ≡ 0
not_same u k before n own h i false e = refl
not_same u k before n own h i true e =
    let x = both_of own (not (list_any (same_type n.type) before)) i in
    let y : list_any (same_type n.type) before ≡ true = subst (λ t. list_any (same_type t) before ≡ true) (type_is u n.type e) h in
    absurd (let f : false ≡ true = sym (ap not y) ∙ x.1 in cc)

gone_by : (u : IdlType) (k : ℕ) (before : List IdlType) (n : Needed) (kept passed : List Needed) → list_any (same_type u) before ≡ true → (b : Bool)
    → (has_own_number n.type && not (list_any (same_type n.type) before)) ≡ b → weigh u k kept ≡ 0 → weigh u k passed ≡ 0 → weigh u k (elim b [ true ↦ n ∷ kept | false ↦ passed ]) ≡ 0
gone_by u k before n kept passed h true e i j =
    let x = not_same u k before n (has_own_number n.type) h e (same_type u n.type) refl in
    omega (arith, x, i)
gone_by u k before n kept passed h false e i j = j

gone : (u : IdlType) (k : ℕ) (before : List IdlType) (ns : List Needed) → list_any (same_type u) before ≡ true → weigh u k (first_needed before ns) ≡ 0
gone u k before [] h = refl
gone u k before (n ∷ ns) h =
    gone_by u k before n (first_needed (n.type ∷ before) ns) (first_needed before ns) h (has_own_number n.type && not (list_any (same_type n.type) before)) refl
    (gone u k (n.type ∷ before) ns (right (same_type u n.type) (list_any (same_type u) before) h)) (gone u k before ns h)

once_here : (u : IdlType) (k : ℕ) (n : Needed) (kept : List Needed) (c : Bool) → same_type u n.type ≡ c → (c ≡ true → weigh u k kept ≡ 0) → weigh u k kept ≤ k
    → weight_if c k + weigh u k kept ≤ k
once_here u k n kept true e f h = let x = f refl in omega (arith, x)
once_here u k n kept false e f h = omega (arith, h)

once_by : (u : IdlType) (k : ℕ) (n : Needed) (kept passed : List Needed) (b : Bool) → (same_type u n.type ≡ true → weigh u k kept ≡ 0) → weigh u k kept ≤ k → weigh u k passed ≤ k
    → weigh u k (elim b [ true ↦ n ∷ kept | false ↦ passed ]) ≤ k
once_by u k n kept passed true f h i = once_here u k n kept (same_type u n.type) refl f h
once_by u k n kept passed false f h i = i

once : (u : IdlType) (k : ℕ) (before : List IdlType) (ns : List Needed) → weigh u k (first_needed before ns) ≤ k
once u k before [] = omega (arith)
once u k before (n ∷ ns) =
    once_by u k n (first_needed (n.type ∷ before) ns) (first_needed before ns) (has_own_number n.type && not (list_any (same_type n.type) before))
    (λ e. gone u k (n.type ∷ before) ns (ap (λ b. b || list_any (same_type u) before) e)) (once u k (n.type ∷ before) ns) (once u k before ns)

bodies_once : (s : Scene) (ns : List Needed) (bs : List Body) → total (λ n. total (share s n.type) bs) (first_needed [] ns) ≤ total (parts_in s) bs
bodies_once s ns [] = let e = total_none (λ (n : Needed). 0) (λ n. refl) (first_needed [] ns) in omega (arith, e)
bodies_once s ns (b ∷ bs) =
    let x = total_of_sums (λ n. share s n.type b) (λ n. total (share s n.type) bs) (first_needed [] ns) in
    let y = once (type_of_body b) (parts_in s b) [] ns in
    let z = bodies_once s ns bs in
    omega (arith, x, y, z)

-- ## Members and arms in all

table_parts : (s : Scene) → sum_by part_count (types_of s) ≤ total (parts_in s) (bodies s)
unfolding own_types
table_parts s =
    let own = own_types s in
    let a = total_is part_count (types_of s) in
    let b = total_joined part_count basic_types (map (λ n. definition s n.type) own) in
    let c = total_mapped part_count (λ (n : Needed). definition s n.type) own in
    let d = total_less (λ (n : Needed). part_count (definition s n.type)) (λ n. total (share s n.type) (bodies s)) (λ n. type_shares s n.type) own in
    let e = bodies_once s (needed_types s) (bodies s) in
    omega (arith, a, b, c, d, e)

scene_parts : (w : World) → total (parts_in (scene_of w)) (bodies (scene_of w)) ≤ length (flat_map (λ n. part_in n.node) (scene_of w).nodes)
unfolding scene_of nodes
scene_parts w =
    let s = scene_of w in
    let ns = flat_map file_nodes w.files in
    let a = total_flat (parts_in s) (λ (n : Scoped). body_by n.names n.node) s.nodes in
    let b = total_less (λ (n : Scoped). total (parts_in s) (body_by n.names n.node)) (λ n. size_of n.node) (λ n. node_parts s n.names n.node) s.nodes in
    let c = total_scoped w.known size_of [] ns in
    let d = total_scoped w.known parts_at [] ns in
    let e = length_of (λ (n : Scoped). part_in n.node) s.nodes in
    let f = files_balanced w.files in
    omega (arith, a, b, c, d, e, f)

pub few_parts : (w : World) → breaches_in (scene_of w) ≡ [] → sum_by part_count (types_of (scene_of w)) ≤ MEMBER_LIMIT
few_parts w h =
    let a = table_parts (scene_of w) in
    let b = scene_parts w in
    let c = few MEMBER_LIMIT (flat_map (λ n. part_in n.node) (scene_of w).nodes) (limits (scene_of w) h).parts in
    omega (arith, a, b, c)
