-- The nodes of the program as those of the rules.
use Rattle.std.specs.Prelude.{ℕ, List, [], ◌∷◌, map, Option, Some, None, option_map, Vec}
use Rattle.std.specs.List.{flat_map, slice_get}
use Rattle.std.specs.declared.alloc.Global.{Global}
use Rattle.idl_grammar.specs.Seen.{seen_attribute, seen_declarator, seen_enumerator, seen_type, seen_init}
use Rattle.idl_constructs.specs.declared.nodes.Position.{Position}
use Rattle.idl_constructs.specs.declared.nodes.Position.TheVariants as position
use Rattle.idl_constructs.specs.declared.nodes.Construct as program
use Rattle.idl_constructs.specs.declared.nodes.Declared as declared
use Rattle.idl_constructs.specs.declared.nodes.Returned as returned
use Rattle.idl_constructs.specs.declared.nodes.Node as program_node
use Rattle.idl_constructs.specs.declared.nodes.Node.TheVariants as node
use Rattle.idl_constructs.specs.declared.nodes.Nodes as program_nodes
use Rattle.idl_rule_definitions.specs.Nodes as rules
use Rattle.idl_rule_definitions.specs.Nodes.{Construct, Declared, Node}

abbrev pub seen_position : Position → rules.Position
seen_position position.Header = rules.InHeader
seen_position position.Typedef = rules.InTypedef
seen_position position.TaggedType = rules.InTaggedType
seen_position position.Member = rules.InMember
seen_position position.Parameter = rules.InParameter
seen_position position.Arm = rules.InArm
seen_position position.CasedArm = rules.InCasedArm
seen_position position.Operation = rules.InOperation

abbrev pub seen_construct : program.Construct → Construct
seen_construct c =
    record { file = c.file; position = seen_position c.position; at = c.at; attributes = map seen_attribute c.attributes.now; default = c.default }

abbrev pub seen_declared : declared.Declared → Declared
seen_declared d =
    record { construct = seen_construct d.construct; is_pipe = d.pipe; type = seen_type d.of.now; declarator = seen_declarator d.declarator.now }

-- the result of an operation
abbrev pub seen_result : returned.Returned → Declared
seen_result r = rules.result_of (seen_construct r.construct) (seen_type r.of.now) r.name.now

-- the list of a number, where there is one
abbrev pub list_found : {A : Type 0} → List (Vec declared.Declared A) → ℕ → Option (List Declared)
list_found lists n = option_map (λ v. map seen_declared v.items) (slice_get lists n)

abbrev pub or_empty : Option (List Declared) → List Declared
or_empty (Some list) = list
or_empty None = []

-- a list by its number
abbrev pub list_at : {A : Type 0} → List (Vec declared.Declared A) → ℕ → List Declared
list_at lists n = or_empty (list_found lists n)

-- the nodes for which one of the program stands
abbrev pub seen_node : {A : Type 0} → List (Vec declared.Declared A) → program_node.Node → List Node
seen_node lists (node.Header c) = rules.HeaderNode (seen_construct c) c.at ∷ []
seen_node lists (node.Attributes c) = rules.attribute_nodes (seen_construct c)
seen_node lists (node.Switch c of) = rules.SwitchNode (seen_construct c) of.now ∷ []
seen_node lists (node.Tag c kind tag) = rules.TagNode (seen_construct c) kind tag.now ∷ []
seen_node lists (node.Body c body) = rules.BodyNode (seen_construct c) (seen_type body.now) ∷ []
seen_node lists (node.Enumerators c list) = map (λ e. rules.EnumeratorNode (seen_construct c) e.name) (map seen_enumerator list.now)
seen_node lists (node.Labels c body) = rules.label_nodes (seen_construct c) (seen_type body.now) [] (rules.labels_of (seen_type body.now))
seen_node lists (node.EmptyArm c) = rules.EmptyArmNode (seen_construct c) ∷ []
seen_node lists (node.Declarator list index it) = rules.DeclaratorNode (list_at lists list) index (seen_declared it) ∷ []
seen_node lists (node.Result it) = rules.DeclaratorNode [] 0 (seen_result it) ∷ []
seen_node lists (node.Constant c of star value) = rules.ConstantNode (seen_construct c) of star (seen_init value.now) ∷ []
seen_node lists (node.Type c of) = rules.TypeNode (seen_construct c) (seen_type of.now) ∷ []
seen_node lists (node.Operation it parameters) =
    rules.OperationNode (seen_construct it.construct) it.name.now (list_at lists parameters) (seen_type it.of.now) ∷ []

abbrev pub seen_nodes : program_nodes.Nodes → List Node
seen_nodes n = flat_map (seen_node n.lists.items) n.items.items
