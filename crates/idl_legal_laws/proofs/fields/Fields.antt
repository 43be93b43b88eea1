-- From members and parameters where they stand to the fields of the table and of the operations.
use Rattle.std.proofs.Common.{◌≡◌, ℕ, ◌+◌, Bool, true, false, ◌&&◌, List, [], ◌∷◌, ◌++◌, map, Option, Some, None, refl, ap, ◌∙◌}
use Rattle.std.specs.List.{list_all, flat_map, enumerate_from}
use Rattle.nd_base.specs.declared.octets.Place.{Place}
use Rattle.nd_types.specs.declared.types.Field.{Field}
use Rattle.nd_types.specs.declared.types.Param.{Param}
use Rattle.nd_types.specs.declared.types.Operation.{Operation}
use Rattle.nd_types.specs.Kinds.{basic_types}
use Rattle.nd_types.specs.Fields.{FieldAt, fields_at, members_of, param_fields, all_fields}
use Rattle.nd_types.specs.Legal.{all_params}
use Rattle.idl_grammar.specs.declared.words.Spelling.{Spelling}
use Rattle.idl_grammar.specs.Tree.{TypeSpec}
use Rattle.idl_grammar.specs.Tree as tree
use Rattle.idl_rule_definitions.specs.Nodes.{World, Construct, Declared, declared_members, result_of, Node, HeaderNode, AttributeNode, SwitchNode, TagNode, BodyNode, EnumeratorNode, LabelNode}
use Rattle.idl_rule_definitions.specs.Nodes.{EmptyArmNode, DeclaratorNode, ConstantNode, TypeNode, OperationNode}
use Rattle.idl_rule_definitions.specs.Types.{IdlType, Void, Handle, ContextHandle, Basic, Struct, Union, Enum, Array, Text, Pointer, Pipe, Names}
use Rattle.idl_rule_definitions.specs.Scene.{Scoped, Scene, scene_of, Body, body_by, body_among, body_of, place_of, same_place}
use Rattle.idl_rule_definitions.specs.Rules.{breaches}
use Rattle.idl_rule_definitions.specs.TypeRules.{is_operation}
use Rattle.idl_rule_definitions.specs.Numbering.{Needed, own_types}
use Rattle.idl_rule_definitions.specs.Meaning.{field, parameter, operation_in, operations_of, definition, types_of, struct_of, defined_by, defined_at, body_if, is_struct, is_union, is_enum}
use Rattle.idl_legal_laws.proofs.fields.FromNodes.{they_pass, one_passes, body_passes, node_passes}
use Rattle.std.proofs.lemmas.Bool.{and_parts as both_of, and_from}
use Rattle.nd_lemmas.proofs.Lists.{join_all}
use Rattle.idl_legal_laws.proofs.fields.Standing.{node_keeps, all_keep, Stands, stands}

-- ## Facts

-- a field of a list where it stands
abbrev pub field_here : Scene → Names → Bool → List Declared → ℕ → Declared → FieldAt
field_here s names is_param list index d = record { siblings = map (field s names list) list; index = index; is_param = is_param; field = field s names list d }

-- A fact of fields: it holds of each member and parameter where it stands, in a list in which all stand.
abbrev pub OfFields : Scene → (FieldAt → Bool) → Type 0
OfFields s test =
    (names : Names) (is_param : Bool) (list : List Declared) → they_pass (node_keeps s) names is_param list 0 list ≡ true
    → (index : ℕ) (d : Declared) → Stands s names is_param list index d → test (field_here s names is_param list index d) ≡ true

abbrev pub OfParams : Scene → (Param → Bool) → Type 0
OfParams s test = (names : Names) (list : List Declared) (index : ℕ) (d : Declared) → Stands s names true list index d → test (parameter s names list d) ≡ true

-- ## Lists of fields

they_are : (s : Scene) (test : FieldAt → Bool) → OfFields s test → (names : Names) (is_param : Bool) (list : List Declared) → they_pass (node_keeps s) names is_param list 0 list ≡ true
    → (index : ℕ) (ds : List Declared) → they_pass (node_keeps s) names is_param list index ds ≡ true
    → list_all test (map (λ e. record { siblings = map (field s names list) list; index = e.0; is_param = is_param; field = e.1 }) (enumerate_from index (map (field s names list) ds))) ≡ true
they_are s test fact names is_param list whole index [] h = refl
they_are s test fact names is_param list whole index (d ∷ ds) h =
    let x = both_of (one_passes (node_keeps s) names is_param list index d) (they_pass (node_keeps s) names is_param list (index + 1) ds) h in
    and_from (test (field_here s names is_param list index d))
    (list_all test (map (λ e. record { siblings = map (field s names list) list; index = e.0; is_param = is_param; field = e.1 }) (enumerate_from (index + 1) (map (field s names list) ds))))
    (fact names is_param list whole index d (stands s names is_param list index d x.0)) (they_are s test fact names is_param list whole (index + 1) ds x.1)

list_is : (s : Scene) (test : FieldAt → Bool) → OfFields s test → (names : Names) (is_param : Bool) (list : List Declared) → they_pass (node_keeps s) names is_param list 0 list ≡ true
    → list_all test (fields_at is_param (map (field s names list) list)) ≡ true
list_is s test fact names is_param list h = they_are s test fact names is_param list h 0 list h

-- ## Members

pub members_are : (fs : List Field) → members_of (struct_of fs) ≡ fs
members_are [] = refl
members_are (f ∷ fs) = refl

by_body : (s : Scene) (test : FieldAt → Bool) → OfFields s test → (c : Construct) (names : Names) (body : TypeSpec) → body_passes (node_keeps s) names c body ≡ true
    → list_all test (fields_at false (members_of (defined_by s (record { construct = c; names = names; body = body }) body))) ≡ true
by_body s test fact c names (tree.Struct at tag ms) h =
    let list = declared_members c ms in
    ap (λ fs. list_all test (fields_at false fs)) (members_are (map (field s names list) list)) ∙ list_is s test fact names false list h
by_body s test fact c names (tree.EncapsulatedUnion at tag d name cases) h = refl
by_body s test fact c names (tree.NonEncapsulatedUnion at tag arms) h = refl
by_body s test fact c names (tree.Enum at tag es) h = refl
by_body s test fact c names (tree.Simple t) h = refl
by_body s test fact c names (tree.Name n) h = refl
by_body s test fact c names (tree.Tag at kind tag) h = refl

-- a body that was found passes
abbrev found_passes : Scene → Option Body → Bool
found_passes s None = true
found_passes s (Some b) = body_passes (node_keeps s) b.names b.construct b.body

by_found : (s : Scene) (test : FieldAt → Bool) → OfFields s test → (o : Option Body) → found_passes s o ≡ true → list_all test (fields_at false (members_of (defined_at s o))) ≡ true
by_found s test fact None h = refl
by_found s test fact (Some b) h = by_body s test fact b.construct b.names b.body h

either_passes : (s : Scene) (o p : Option Body) (b : Bool) → found_passes s o ≡ true → found_passes s p ≡ true → found_passes s (elim b [ true ↦ o | false ↦ p ]) ≡ true
either_passes s o p true h i = h
either_passes s o p false h i = i

found_at : (s : Scene) (place : Place) (names : Names) (node : Node) (ns : List Scoped) → node_passes (node_keeps s) names node ≡ true
    → found_passes s (body_among (flat_map (λ n. body_by n.names n.node) ns) place) ≡ true
    → found_passes s (body_among (body_by names node ++ flat_map (λ n. body_by n.names n.node) ns) place) ≡ true
found_at s place names (BodyNode c body) ns h i =
    let b : Body = record { construct = c; names = names; body = body } in
    either_passes s (Some b) (body_among (flat_map (λ n. body_by n.names n.node) ns) place) (same_place (place_of b) place) h i
found_at s place names (HeaderNode c at) ns h i = i
found_at s place names (AttributeNode c before a) ns h i = i
found_at s place names (SwitchNode c t) ns h i = i
found_at s place names (TagNode c kind tag) ns h i = i
found_at s place names (EnumeratorNode c name) ns h i = i
found_at s place names (LabelNode c body before l) ns h i = i
found_at s place names (EmptyArmNode c) ns h i = i
found_at s place names (DeclaratorNode list index d) ns h i = i
found_at s place names (ConstantNode c t star value) ns h i = i
found_at s place names (TypeNode c t) ns h i = i
found_at s place names (OperationNode c name ps result) ns h i = i

found : (s : Scene) (place : Place) (ns : List Scoped) → list_all (λ n. node_passes (node_keeps s) n.names n.node) ns ≡ true
    → found_passes s (body_among (flat_map (λ n. body_by n.names n.node) ns) place) ≡ true
found s place [] h = refl
found s place (n ∷ ns) h =
    let x = both_of (node_passes (node_keeps s) n.names n.node) (list_all (λ m. node_passes (node_keeps s) m.names m.node) ns) h in
    found_at s place n.names n.node ns x.0 (found s place ns x.1)

of_kind : (s : Scene) (test : TypeSpec → Bool) (o : Option Body) → found_passes s o ≡ true → found_passes s (body_if test o) ≡ true
of_kind s test None h = refl
of_kind s test (Some b) h = either_passes s (Some b) None (test b.body) h refl

-- the members of a type in the table
by_type : (s : Scene) (test : FieldAt → Bool) → OfFields s test → list_all (λ n. node_passes (node_keeps s) n.names n.node) s.nodes ≡ true
    → (t : IdlType) → list_all test (fields_at false (members_of (definition s t))) ≡ true
by_type s test fact h (Struct p) = by_found s test fact (body_if is_struct (body_of s p)) (of_kind s is_struct (body_of s p) (found s p s.nodes h))
by_type s test fact h (Union p) = by_found s test fact (body_if is_union (body_of s p)) (of_kind s is_union (body_of s p) (found s p s.nodes h))
by_type s test fact h (Enum p) = by_found s test fact (body_if is_enum (body_of s p)) (of_kind s is_enum (body_of s p) (found s p s.nodes h))
by_type s test fact h (Array t m v) = refl
by_type s test fact h (Text t m) = refl
by_type s test fact h (Pointer c t) = refl
by_type s test fact h (Pipe t) = refl
by_type s test fact h (Basic p) = refl
by_type s test fact h Void = refl
by_type s test fact h Handle = refl
by_type s test fact h ContextHandle = refl

by_types : (s : Scene) (test : FieldAt → Bool) → OfFields s test → list_all (λ n. node_passes (node_keeps s) n.names n.node) s.nodes ≡ true
    → (ns : List Needed) → list_all (λ d. list_all test (fields_at false (members_of d))) (map (λ n. definition s n.type) ns) ≡ true
by_types s test fact h [] = refl
by_types s test fact h (n ∷ ns) =
    and_from (list_all test (fields_at false (members_of (definition s n.type)))) (list_all (λ d. list_all test (fields_at false (members_of d))) (map (λ m. definition s m.type) ns))
    (by_type s test fact h n.type) (by_types s test fact h ns)

-- ## Operations

-- What holds of each operation, with what is known of its parameters and its result.
abbrev pub OfOperations : Scene → (Operation → Bool) → Type 0
OfOperations s test =
    (c : Construct) (names : Names) (name : Spelling) (ps : List Declared) (result : TypeSpec) → they_pass (node_keeps s) names true ps 0 ps ≡ true
    → node_keeps s names (DeclaratorNode [] 0 (result_of c result name)) ≡ true → is_operation c.position ≡ true
    → list_all test (operation_in s names (OperationNode c name ps result)) ≡ true

by_node : (s : Scene) (test : Operation → Bool) → OfOperations s test → (names : Names) (node : Node) → node_passes (node_keeps s) names node ≡ true
    → list_all test (operation_in s names node) ≡ true
by_node s test fact names (OperationNode c name ps result) h =
    let r = node_keeps s names (DeclaratorNode [] 0 (result_of c result name)) in
    let x = both_of (they_pass (node_keeps s) names true ps 0 ps) (r && is_operation c.position) h in
    let y = both_of r (is_operation c.position) x.1 in
    fact c names name ps result x.0 y.0 y.1
by_node s test fact names (HeaderNode c at) h = refl
by_node s test fact names (AttributeNode c before a) h = refl
by_node s test fact names (SwitchNode c t) h = refl
by_node s test fact names (TagNode c kind tag) h = refl
by_node s test fact names (BodyNode c body) h = refl
by_node s test fact names (EnumeratorNode c name) h = refl
by_node s test fact names (LabelNode c body before l) h = refl
by_node s test fact names (EmptyArmNode c) h = refl
by_node s test fact names (DeclaratorNode list index d) h = refl
by_node s test fact names (ConstantNode c t star value) h = refl
by_node s test fact names (TypeNode c t) h = refl

by_nodes : (s : Scene) (test : Operation → Bool) → OfOperations s test → (ns : List Scoped) → list_all (λ n. node_passes (node_keeps s) n.names n.node) ns ≡ true
    → list_all test (flat_map (λ n. operation_in s n.names n.node) ns) ≡ true
by_nodes s test fact [] h = refl
by_nodes s test fact (n ∷ ns) h =
    let x = both_of (node_passes (node_keeps s) n.names n.node) (list_all (λ m. node_passes (node_keeps s) m.names m.node) ns) h in
    join_all test (operation_in s n.names n.node) (flat_map (λ m. operation_in s m.names m.node) ns) (by_node s test fact n.names n.node x.0) (by_nodes s test fact ns x.1)

pub all_operations : (w : World) → breaches w ≡ [] → (test : Operation → Bool) → OfOperations (scene_of w) test → list_all test (operations_of (scene_of w)) ≡ true
all_operations w h test fact = by_nodes (scene_of w) test fact (scene_of w).nodes (all_keep w h)

-- ## Parameters

params_are : (s : Scene) (names : Names) (list ps : List Declared) → map (λ p. p.field) (map (parameter s names list) ps) ≡ map (field s names list) ps
params_are s names list [] = refl
params_are s names list (p ∷ ps) = ap (λ fs. field s names list p ∷ fs) (params_are s names list ps)

operation_fields : (s : Scene) (test : FieldAt → Bool) → OfFields s test → OfOperations s (λ o. list_all test (fields_at true (param_fields o)))
operation_fields s test fact c names name ps result h r o =
    and_from (list_all test (fields_at true (map (λ p. p.field) (map (parameter s names ps) ps)))) true
    (ap (λ fs. list_all test (fields_at true fs)) (params_are s names ps ps) ∙ list_is s test fact names true ps h) refl

they_are_params : (s : Scene) (test : Param → Bool) → OfParams s test → (names : Names) (list : List Declared) (index : ℕ) (ds : List Declared)
    → they_pass (node_keeps s) names true list index ds ≡ true → list_all test (map (parameter s names list) ds) ≡ true
they_are_params s test fact names list index [] h = refl
they_are_params s test fact names list index (d ∷ ds) h =
    let x = both_of (one_passes (node_keeps s) names true list index d) (they_pass (node_keeps s) names true list (index + 1) ds) h in
    and_from (test (parameter s names list d)) (list_all test (map (parameter s names list) ds))
    (fact names list index d (stands s names true list index d x.0)) (they_are_params s test fact names list (index + 1) ds x.1)

operation_params : (s : Scene) (test : Param → Bool) → OfParams s test → OfOperations s (λ o. list_all test o.params)
operation_params s test fact c names name ps result h r o =
    and_from (list_all test (map (parameter s names ps) ps)) true (they_are_params s test fact names ps 0 ps h) refl

-- where the files break no rule, a fact of members and parameters where they stand holds of all fields
pub every_field : (w : World) → breaches w ≡ [] → (test : FieldAt → Bool) → OfFields (scene_of w) test → all_fields test (types_of (scene_of w)) (operations_of (scene_of w)) ≡ true
every_field w h test fact =
    let s = scene_of w in
    and_from (list_all (λ d. list_all test (fields_at false (members_of d))) (types_of s)) (list_all (λ o. list_all test (fields_at true (param_fields o))) (operations_of s))
    (join_all (λ d. list_all test (fields_at false (members_of d))) basic_types (map (λ n. definition s n.type) (own_types s)) refl (by_types s test fact (all_keep w h) (own_types s)))
    (all_operations w h (λ o. list_all test (fields_at true (param_fields o))) (operation_fields s test fact))

pub every_param : (w : World) → breaches w ≡ [] → (test : Param → Bool) → OfParams (scene_of w) test → all_params test (operations_of (scene_of w)) ≡ true
every_param w h test fact = all_operations w h (λ o. list_all test o.params) (operation_params (scene_of w) test fact)
