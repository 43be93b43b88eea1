-- How the nodes of the program grow: nodes and lists are only ever put after those that stand, so that the number of a list stands for it for ever.
use Rattle.std.specs.Prelude.{◌≡◌, ℕ, List, [], ◌∷◌, ◌++◌, map, Some, Vec}
use Rattle.std.specs.List.{flat_map}
use Rattle.std.specs.declared.alloc.Global.{Global}
use Rattle.idl_grammar.specs.Tree as tree
use Rattle.idl_grammar.specs.Reading.{MemberParts}
use Rattle.idl_constructs.specs.declared.nodes.Declared as declared
use Rattle.idl_constructs.specs.declared.nodes.Node as program_node
use Rattle.idl_constructs.specs.declared.nodes.Nodes as program_nodes
use Rattle.idl_rule_definitions.specs.Nodes.{Construct, Declared, declared, Node, inside, InMember, attribute_nodes, type_nodes, declarator_nodes}
use Rattle.idl_rule_definitions.specs.Nodes.{parameter_construct, DeclaratorNode}
use Rattle.idl_constructs.specs.SeenNodes.{list_found, list_at, seen_node}

-- Each list keeps its number.
pub record Keeps (lists later : List (Vec declared.Declared Global)) : Type 0 where
  pub kept : (n : ℕ) (list : List Declared) → list_found lists n ≡ Some list → list_found later n ≡ Some list

-- A node was added, and no list.
pub record Pushes (old new : program_nodes.Nodes) (node : program_node.Node) : Type 0 where
  pub items : new.items.items ≡ old.items.items ++ node ∷ []
  pub lists : new.lists.items ≡ old.lists.items

-- Nodes were added that are seen as this part, whatever lists are added later.
pub record Adds (old new : program_nodes.Nodes) (part : List Node) : Type 0 where
  pub lists : Keeps old.lists.items new.lists.items
  pub nodes : (later : List (Vec declared.Declared Global)) → Keeps new.lists.items later → list_at later 0 ≡ []
      → flat_map (seen_node later) new.items.items ≡ flat_map (seen_node later) old.items.items ++ part

-- Nodes were added that are seen as this part of the list of this number.
abbrev pub AddsOf : program_nodes.Nodes → program_nodes.Nodes → ℕ → (List Declared → List Node) → Type 0
AddsOf old new number part = (all : List Declared) → list_found old.lists.items number ≡ Some all → Adds old new (part all)

-- the nodes of members that have one type, before those of their declarators
abbrev pub member_front : Construct → MemberParts → List Node
member_front c m = attribute_nodes (inside c InMember m.0 m.1.0) ++ type_nodes (inside c InMember m.0 m.1.0) m.1.1.0

-- those of their declarators, from this index of their list on
abbrev pub member_rest : Construct → ℕ → MemberParts → List Declared → List Node
member_rest c index m list = declarator_nodes list index (map (declared (inside c InMember m.0 m.1.0) m.1.1.0) m.1.1.1)

abbrev pub one_member_nodes : Construct → ℕ → MemberParts → List Declared → List Node
one_member_nodes c index m list = member_front c m ++ member_rest c index m list

-- the nodes of a parameter of this index of its list
abbrev pub one_parameter_nodes : Construct → ℕ → tree.Parameter → List Declared → List Node
one_parameter_nodes c index p list =
    attribute_nodes (parameter_construct c p) ++ type_nodes (parameter_construct c p) p.type
    ++ DeclaratorNode list index (declared (parameter_construct c p) p.type p.declarator) ∷ []
