-- What is noted of operations, and of the tags of unions.
use Rattle.std.specs.Prelude.{◌≡◌, ℕ, Bool, true, false, List, [], ◌∷◌, map, length, Option, Some, None, option_map, Vec}
use Rattle.std.specs.List.{flat_map, slice_get}
use Rattle.idl_grammar.specs.declared.words.Spelling.{Spelling}
use Rattle.idl_grammar.specs.Tree.{TypeSpec}
use Rattle.idl_grammar.specs.Seen.{seen_type}
use Rattle.idl_constructs.specs.declared.nodes.Declared as declared
use Rattle.idl_constructs.specs.declared.nodes.Node as program_node
use Rattle.idl_constructs.specs.declared.nodes.Node.TheVariants as node
use Rattle.idl_constructs.specs.declared.nodes.Nodes as program_nodes
use Rattle.idl_declared_types.specs.declared.kinds.Kind.{Kind}
use Rattle.idl_declared_types.specs.declared.types.BodyTypes.{BodyTypes}
use Rattle.idl_declared_types.specs.declared.types.OperationTypes.{OperationTypes}
use Rattle.idl_declared_types.specs.declared.types.Types as program_types
use Rattle.idl_rule_definitions.specs.Nodes.{Construct, Declared, Node, OperationNode, result_of}
use Rattle.idl_rule_definitions.specs.Types.{Names, type_of}
use Rattle.idl_rule_definitions.specs.Scene.{Scene, Body, bodies, tag_type}
use Rattle.idl_constructs.specs.SeenNodes.{seen_construct, list_at}
use Rattle.idl_declared_types.specs.SeenTypes.{names_at}
use Rattle.idl_declared_types.specs.Kinds.{type_at}

-- ## Tags

-- the type of the tag of each union is noted
pub record HasTags (s : Scene) (t : program_types.Types) : Type 0 where
  pub tag : (i : ℕ) (body : Body) (b : BodyTypes) → slice_get (bodies s) i ≡ Some body → slice_get t.bodies.items i ≡ Some b
      → option_map (type_at t.kinds) b.tag ≡ tag_type body.construct body.names body.body

-- ## Operations

-- an operation, with the names that are known there
pub record Called : Type 0 where
  pub names : Names
  pub construct : Construct
  pub name : Spelling
  pub parameters : List Declared
  pub result : TypeSpec

abbrev pub called_by : Names → Node → List Called
called_by names (OperationNode c name parameters result) =
    record { names = names; construct = c; name = name; parameters = parameters; result = result } ∷ []
called_by names _ = []

-- all operations
abbrev pub called : Scene → List Called
called s = flat_map (λ n. called_by n.names n.node) s.nodes

-- the operation that a node of the program is
abbrev pub called_at : {A : Type 0} → List (Vec declared.Declared A) → Names → Option program_node.Node → Option Called
called_at lists names (Some (node.Operation it parameters)) =
    Some (record {
      names = names;
      construct = seen_construct it.construct;
      name = it.name.now;
      parameters = list_at lists parameters;
      result = seen_type it.of.now;
    })
called_at lists names _ = None

-- the node of an operation
abbrev pub is_operation_node : Option program_node.Node → Bool
is_operation_node (Some (node.Operation it parameters)) = true
is_operation_node _ = false

-- what is noted of an operation
pub record IsOperation (s : Scene) (n : program_nodes.Nodes) (ks : List Kind) (o : Called) (t : OperationTypes) : Type 0 where
  pub parameters : map (type_at ks) t.parameters.items ≡ map (type_of s.known o.names) o.parameters
  pub result : type_at ks t.result ≡ type_of s.known o.names (result_of o.construct o.result o.name)
  -- the node of the program that it is
  pub node : called_at n.lists.items (names_at s.known n t.node) (slice_get n.items.items t.node) ≡ Some o

-- what is noted of all operations
pub record HasOperations (s : Scene) (n : program_nodes.Nodes) (t : program_types.Types) : Type 0 where
  pub count : length t.operations.items ≡ length (called s)
  pub operation : (i : ℕ) (o : Called) (noted : OperationTypes) → slice_get (called s) i ≡ Some o → slice_get t.operations.items i ≡ Some noted
      → IsOperation s n t.kinds o noted
