-- What the program makes of the operations of a scene.
use Rattle.std.proofs.Common.{◌≡◌, ℕ, ◌+◌, ◌<◌, ◌≤◌, inl, inr, length, get_or, drop, arith, List, [], ◌∷◌, ◌++◌, map, Bool, true, false, Option, Some, None, Vec, refl, sym, ap, ◌∙◌}
use Rattle.std.specs.List.{flat_map, slice_get}
use Rattle.std.proofs.lemmas.Option.{same_Some, slice_get_within, slice_get_cases, slice_get_read}
use Rattle.std.proofs.lemmas.List.{map-append}
use Rattle.nd_types.specs.declared.types.Operation.{Operation}
use Rattle.idl_declared_types.specs.declared.kinds.Kind.{Kind}
use Rattle.idl_constructs.specs.declared.nodes.Nodes.{Nodes}
use Rattle.idl_constructs.specs.declared.nodes.Returned.{Returned}
use Rattle.idl_constructs.specs.declared.nodes.Declared as declared
use Rattle.idl_constructs.specs.declared.nodes.Node as program_node
use Rattle.idl_constructs.specs.declared.nodes.Node.TheVariants as node
use Rattle.idl_declared_types.specs.declared.numbering.Numbers.{Numbers}
use Rattle.idl_declared_types.specs.declared.types.OperationTypes.{OperationTypes}
use Rattle.idl_declared_types.specs.declared.types.Types.{Types}
use Rattle.idl_constructs.proofs.Gathering.{gather, gathered}
use Rattle.idl_rule_definitions.specs.Nodes.{Declared, Node, HeaderNode, AttributeNode, SwitchNode, TagNode, BodyNode, EnumeratorNode, LabelNode, EmptyArmNode, DeclaratorNode, ConstantNode, TypeNode}
use Rattle.idl_rule_definitions.specs.Nodes.{OperationNode}
use Rattle.idl_rule_definitions.specs.Types.{Names, type_of}
use Rattle.idl_rule_definitions.specs.Scene.{Scene, Scoped}
use Rattle.idl_declared_types.specs.Kinds.{type_at}
use Rattle.idl_constructs.specs.SeenNodes.{list_at}
use Rattle.idl_declared_types.specs.SeenTypes.{names_at}
use Rattle.idl_declared_types.specs.SeenNumbers.{AreNumbers}
use Rattle.idl_declared_types.specs.SeenOperations.{Called, called, called_by, called_at, is_operation_node, IsOperation, HasOperations}
use Rattle.idl_rule_definitions.specs.Meaning.{number, parameter, operation_in, operations_of, result_number}
use Rattle.idl_interface.specs.Made.{ids_of, each_with, parameter_with, operation_made}
use Rattle.idl_interface.proofs.Defining.{ids_are}

each_parameter : (s : Scene) (names : Names) (list ds : List Declared)
    → each_with (parameter_with list) ds (map (number s) (map (type_of s.known names) ds)) ≡ map (parameter s names list) ds
each_parameter s names list [] = refl
each_parameter s names list (d ∷ ds) = ap (λ ps. parameter s names list d ∷ ps) (each_parameter s names list ds)

-- what is made of an operation
abbrev pub made_of : Scene → List Kind → Numbers → Returned → List Declared → OperationTypes → Operation
made_of s ks t it list noted = record {
  name = it.name.now.octets;
  params = each_with (parameter_with list) list (ids_of ks t noted.parameters.items);
  result = result_number s (type_at ks noted.result);
}

pub made_is : (s : Scene) (n : Nodes) (ks : List Kind) (t : Numbers) (o : Called) (it : Returned) (number : ℕ) (list : List Declared) (noted : OperationTypes)
    → AreNumbers s ks t → IsOperation s n ks o noted → slice_get n.items.items noted.node ≡ Some (node.Operation it number) → list ≡ list_at n.lists.items number
    → made_of s ks t it list noted ≡ operation_made s o
made_is s n ks t o it index list noted numbers h there same =
    let here = same_Some _ _ (sym (ap (called_at n.lists.items (names_at s.known n noted.node)) there) ∙ h.node) in
    let list_is : list ≡ o.parameters = same ∙ ap (λ x. x.parameters) here in
    let name_is : it.name.now.octets ≡ o.name.octets = ap (λ x. x.name.octets) here in
    let ids = ids_are s ks t numbers noted.parameters.items ∙ ap (map (number s)) h.parameters in
    ap (λ x. record { name = x; params = each_with (parameter_with list) list (ids_of ks t noted.parameters.items); result = result_number s (type_at ks noted.result) }) name_is
    ∙ (ap (λ x. record { name = o.name.octets; params = each_with (parameter_with x) x (ids_of ks t noted.parameters.items); result = result_number s (type_at ks noted.result) }) list_is
    ∙ (ap (λ x. record { name = o.name.octets; params = each_with (parameter_with o.parameters) o.parameters x; result = result_number s (type_at ks noted.result) }) ids
    ∙ (ap (λ x. record { name = o.name.octets; params = x; result = result_number s (type_at ks noted.result) }) (each_parameter s o.names o.parameters o.parameters)
    ∙ ap (λ x. record { name = o.name.octets; params = map (parameter s o.names o.parameters) o.parameters; result = result_number s x }) h.result)))

one_operation : (s : Scene) (names : Names) (n : Node) → operation_in s names n ≡ map (operation_made s) (called_by names n)
one_operation s names (HeaderNode c at) = refl
one_operation s names (AttributeNode c before a) = refl
one_operation s names (SwitchNode c t) = refl
one_operation s names (TagNode c kind tag) = refl
one_operation s names (BodyNode c b) = refl
one_operation s names (EnumeratorNode c name) = refl
one_operation s names (LabelNode c b before l) = refl
one_operation s names (EmptyArmNode c) = refl
one_operation s names (DeclaratorNode list index d) = refl
one_operation s names (ConstantNode c t star v) = refl
one_operation s names (TypeNode c t) = refl
one_operation s names (OperationNode c name ps result) = refl

each_operation : (s : Scene) (ns : List Scoped) → flat_map (λ n. operation_in s n.names n.node) ns ≡ map (operation_made s) (flat_map (λ n. called_by n.names n.node) ns)
each_operation s [] = refl
each_operation s (n ∷ ns) =
    ap (λ x. x ++ flat_map (λ n. operation_in s n.names n.node) ns) (one_operation s n.names n.node)
    ∙ (ap (λ x. map (operation_made s) (called_by n.names n.node) ++ x) (each_operation s ns)
    ∙ sym (map-append (operation_made s) (called_by n.names n.node) (flat_map (λ n. called_by n.names n.node) ns)))

pub operations_are : (s : Scene) → operations_of s ≡ map (operation_made s) (called s)
operations_are s = each_operation s s.nodes

abbrev made_one : Scene → Called → List Operation
made_one s o = operation_made s o ∷ []

made_cons : (s : Scene) (o : Called) (more : List Called) → map (operation_made s) (o ∷ more) ≡ made_one s o ++ map (operation_made s) more
made_cons s o more = refl

step_with : (s : Scene) (i : ℕ) (o : Called) → i < length (called s) → slice_get (called s) i ≡ Some o → get_or (called s) i o ≡ o
    → (done next : List Operation) → next ≡ done ++ operation_made s o ∷ [] → (all : List Operation) → done ++ map (operation_made s) (drop i (called s)) ≡ all
    → next ++ map (operation_made s) (drop (i + 1) (called s)) ≡ all
step_with s i o below at is done next e all before =
    gather (map (operation_made s)) (made_one s) (made_cons s) (called s) all done next i o below (sym is) e before

is_operation_by : {A : Type 0} (lists : List (Vec declared.Declared A)) (names : Names) (o : Called) (x : Option program_node.Node) → called_at lists names x ≡ Some o → is_operation_node x ≡ true
is_operation_by lists names o (Some (node.Operation it parameters)) h = refl
is_operation_by lists names o _ h = absurd (cc)

-- what is noted of an operation names its node
pub noted_is_operation : (s : Scene) (n : Nodes) (t : Types) (xs : List OperationTypes) (i : ℕ) (noted : OperationTypes) → HasOperations s n t → xs ≡ t.operations.items
    → i < length xs → noted ≡ get_or xs i noted → is_operation_node (slice_get n.items.items noted.node) ≡ true
noted_is_operation s n t xs i noted h same below is =
    let there : slice_get t.operations.items i ≡ Some noted = ap (λ l. slice_get l i) (sym same) ∙ slice_get_read xs (length xs) i noted refl below is in
    let within : i < length t.operations.items = slice_get_within t.operations.items i noted there in
    elim (slice_get_cases (called s) i).1 [
      | inl w ↦ is_operation_by n.lists.items (names_at s.known n noted.node) w.0 (slice_get n.items.items noted.node) (h.operation i w.0 noted w.2 there).node
      | inr w ↦ absurd (omega (arith, w.0, h.count, within))
    ]

other_node : (x : program_node.Node) → ((it : _) (p : _) → x ≡ node.Operation it p → ⊥) → is_operation_node (Some x) ≡ false
other_node (node.Operation it p) h = absurd (h it p refl)
other_node _ h = refl

pub has_node : (o : Option program_node.Node) → is_operation_node o ≡ true → o ≡ None → ⊥
has_node o h none = let f : false ≡ true = sym (ap is_operation_node none) ∙ h in cc

pub has_operation_node : (o : Option program_node.Node) (x : program_node.Node) → is_operation_node o ≡ true → o ≡ Some x → ((it : _) (p : _) → x ≡ node.Operation it p → ⊥) → ⊥
has_operation_node o x h there other = let f : false ≡ true = sym (other_node x other) ∙ ap is_operation_node (sym there) ∙ h in cc

-- one more operation
pub operations_step : (s : Scene) (n : Nodes) (t : Types) (xs : List OperationTypes) (i : ℕ) (noted : OperationTypes) → HasOperations s n t → xs ≡ t.operations.items
    → i < length xs → noted ≡ get_or xs i noted → (made : Operation) → ((o : Called) → IsOperation s n t.kinds o noted → made ≡ operation_made s o)
    → (done next : List Operation) → next ≡ done ++ made ∷ [] → (all : List Operation) → done ++ map (operation_made s) (drop i (called s)) ≡ all
    → next ++ map (operation_made s) (drop (i + 1) (called s)) ≡ all
operations_step s n t xs i noted h same below is made by done next e all before =
    let there : slice_get t.operations.items i ≡ Some noted = ap (λ l. slice_get l i) (sym same) ∙ slice_get_read xs (length xs) i noted refl below is in
    let within : i < length t.operations.items = slice_get_within t.operations.items i noted there in
    elim (slice_get_cases (called s) i).1 [
      | inl w ↦ step_with s i w.0 w.1 w.2 w.3 done next (e ∙ ap (λ m. done ++ m ∷ []) (by w.0 (h.operation i w.0 noted w.2 there))) all before
      | inr w ↦ absurd (omega (arith, w.0, h.count, within))
    ]

pub operations_end : (s : Scene) (n : Nodes) (t : Types) (xs : List OperationTypes) (i : ℕ) → HasOperations s n t → xs ≡ t.operations.items → length xs ≤ i
    → (done : List Operation) → done ++ map (operation_made s) (drop i (called s)) ≡ map (operation_made s) (called s) → done ≡ operations_of s
operations_end s n t xs i h same past done before =
    let all : length (called s) ≤ i = omega (arith, h.count, ap length same) in
    gathered (map (operation_made s)) (made_one s) (made_cons s) (called s) (map (operation_made s) (called s)) done i all refl before ∙ sym (operations_are s)
