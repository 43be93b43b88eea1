-- The trace of refused octets: the lines of the items before the fault, the path of what is refused and, at a failed agreement, its variable.
use Rattle.std.specs.Prelude.{◌≡◌, ℕ, ◌+◌, ◌<◌, zero, suc, ℤ, List, [], ◌∷◌, ◌++◌, Option, Some, None, codes}
use Rattle.std.specs.List.{slice_get}
use Rattle.nd_base.specs.declared.octets.Order.{Order}
use Rattle.nd_types.specs.declared.types.Attr.{Attr}
use Rattle.nd_types.specs.declared.types.AttrVar.{AttrVar}
use Rattle.nd_types.specs.declared.types.Class.TheVariants.{Full}
use Rattle.nd_types.specs.declared.types.Field.{Field}
use Rattle.nd_types.specs.declared.types.TypeDef.TheVariants as def
use Rattle.nd_types.specs.Roots.{Root}
use Rattle.nd_types.specs.Table.{type_at}
use Rattle.nd_value.specs.declared.item.Home.{Home}
use Rattle.nd_value.specs.declared.item.Home.TheVariants as home
use Rattle.nd_value.specs.declared.value.Graph.{Graph}
use Rattle.nd_value.specs.Agreement.{number_in, wanted_by, variable}
use Rattle.nd_value.specs.Deferral.{Pending}
use Rattle.nd_value.specs.Nodes.{TypedNode, home_nodes}
use Rattle.nd_value.specs.Conforms.{all_pointers}
use Rattle.nd_value.specs.Setting.{Among, Setting, cell_home, root_list}
use Rattle.nd_value.specs.Tree.{Trees, more, node, node_count, none}
use Rattle.nd_grammar.specs.declared.reason.Reason.{Reason}
use Rattle.nd_grammar.specs.Entry.{Entry, Kind, Test}
use Rattle.nd_grammar.specs.Refusal.{Bad}
use Rattle.nd_grammar.specs.Items.{items}
use Rattle.ndr_decoder_laws.specs.verdict.InOrder.{HasOwnNumbers}
use Rattle.text_grammar.specs.Paths.{home_types, home_value, member_path}
use Rattle.text_grammar.specs.Written.{parameter_name}
use Rattle.ndr_explain.specs.Explained.{explanation_over, home_paths, path_in}

-- ## The variable of an agreement that does not hold

-- It is the parameter or the member that states what a count or an arm is to be.
-- `w` is a setting, `g` a partial graph, `m` the entry of the agreement, `a` its attribute, `wanted` the number that is stated, `at` the number
-- of a root, `h` a home, `n` a node's number, `p` a pointer or the path of a struct, `c` a cell, `i` the number of a member, `q` the text that
-- is shown.

-- ### Parameters

-- An attribute of a root states the number by its variable, which has this name. The variable may travel in the request alone.
pub record IsStated (w : Setting) (g : Graph) (root : Root) (a : Attr) (wanted : ℤ) (q : List ℕ) : Type 0 where
  pub by : AttrVar
  pub among : Among root.vars by
  pub attr_is : by.attr ≡ a
  pub value : ℤ
  pub value_is : variable w g by ≡ Some value
  pub wanted_is : wanted ≡ wanted_by a value
  pub name : q ≡ parameter_name (slice_get w.op.params by.var)

-- the agreement speaks of a root's own value
abbrev pub IsOfRoot : Entry → ℕ → Type 0
IsOfRoot m at = (m.home ≡ home.Root at) × (m.node ≡ 0)

-- ### Members

abbrev pub field_name : Option Field → List ℕ
field_name None = []
field_name (Some f) = f.name

-- the path of a member by its number
abbrev pub numbered_path : List ℕ → List Field → ℕ → List ℕ
numbered_path p members i = member_path p (field_name (slice_get members i))

-- the node of a member by its number, where n is that of the struct, or of the last node before these members
abbrev pub member_node : ℕ → ℕ → Trees → ℕ
member_node n zero ts = n + 1
member_node n (suc i) none = n + 1
member_node n (suc i) (more (node l ks) ts) = member_node (n + 1 + node_count ks) i ts

-- A node is a member of a struct, and an attribute of the member states the number by another member, which has this path.
pub record OfMember (w : Setting) (g : Graph) (h : Home) (n : ℕ) (a : Attr) (wanted : ℤ) (q : List ℕ) : Type 0 where
  pub of : ℕ
  pub home_is : home_types w g h ≡ of ∷ []
  pub struct : TypedNode
  pub in_home : Among (home_nodes w.table of (home_value g h)) struct
  pub members : List Field
  pub is_struct : type_at w.table struct.of ≡ Some (def.Struct members)
  pub index : ℕ
  pub field : Field
  pub there : slice_get members index ≡ Some field
  pub place : n ≡ member_node struct.node index struct.kids
  pub by : AttrVar
  pub among : Among field.vars by
  pub attr_is : by.attr ≡ a
  pub value : ℤ
  pub value_is : number_in struct.kids by.var ≡ Some value
  pub wanted_is : wanted ≡ wanted_by a value
  pub path : q ≡ numbered_path (path_in (home_paths w g h) struct.node) members by.var

-- ### Referents

-- A reference or unique pointer names this cell: then no other pointer does.
pub record NamesAlone (w : Setting) (g : Graph) (p : Pending) (c : ℕ) : Type 0 where
  pub among : Among (all_pointers w g) p
  pub cell : p.cell ≡ Some c
  pub unshared : p.class ≡ Full → ⊥

-- the agreement speaks of the referent of such a pointer
abbrev pub IsOfReferent : Setting → Graph → Entry → Pending → Type 0
IsOfReferent w g m p = (c : ℕ) × NamesAlone w g p c × (m.home ≡ cell_home c) × (m.node ≡ 0)

-- the pointer is the value of a root
abbrev pub IsAtRoot : Pending → ℕ → Type 0
IsAtRoot p at = (p.home ≡ home.Root at) × (p.node ≡ 0)

-- ### The variable

-- What is shown of the variable: its name if the agreement speaks of a parameter, its path if it speaks of a member, each by itself or through a
-- reference or unique pointer. Full pointers may share a referent; nothing is said of those.
pub record IsVariable (w : Setting) (g : Graph) (m : Entry) (a : Attr) (wanted : ℤ) (q : List ℕ) : Type 0 where
  pub own : (at : ℕ) (root : Root) → slice_get (root_list w) at ≡ Some root → IsOfRoot m at → IsStated w g root a wanted q
  pub member : 0 < m.node → OfMember w g m.home m.node a wanted q
  pub referent : (p : Pending) → IsOfReferent w g m p → 0 < p.node → OfMember w g p.home p.node a wanted q
  pub root_referent : (p : Pending) → IsOfReferent w g m p → (at : ℕ) (root : Root) → slice_get (root_list w) at ≡ Some root → IsAtRoot p at
      → IsStated w g root a wanted q

-- ## The trace of refused octets

-- It has the lines of the items before the fault, as an explanation has them, where each gap shows its octets if they are not all zero; and the path
-- of the entry that is refused or lacks octets.
-- `w` is a setting, `g` a partial graph, `m` an entry.

abbrev pub entry_path : Setting → Graph → Entry → List ℕ
entry_path w g m = path_in (home_paths w g m.home) m.node

-- what follows the path of an agreement: its variable
abbrev pub IsVariableOf : Setting → Graph → Entry → Kind → List ℕ → Type 0
IsVariableOf w g m (Test a wanted found) q = IsVariable w g m a wanted q
IsVariableOf w g m _ q = Unit {0}

-- The path of the entry that is refused. At a failed agreement, whose entry is at the value that disagrees, a blank and the variable follow.
abbrev pub IsShownPath : Setting → Graph → Entry → Kind → List ℕ → Type 0
IsShownPath w g m (Test a wanted found) path =
    (variable : List ℕ) × IsVariable w g m a wanted variable × (path ≡ entry_path w g m ++ (codes " " ++ variable))
IsShownPath w g m _ path = path ≡ entry_path w g m

-- The octets are refused, and this is their trace, by a partial graph: a line for each item before the fault, and the path of what is refused.
pub record IsTraceOf (w : Setting) (order : Order) (octets : List ℕ) (place : ℕ) (why : Reason) (bad : Bad w order octets place why)
    (lines path : List ℕ) : Type 0 where
  pub lines_are : lines ≡ explanation_over w bad.partial octets (items order octets bad.earlier)
  pub path_is : IsShownPath w bad.partial bad.here.entry bad.here.entry.kind path

-- The octets are refused at this place and for this reason, and this is their trace: by a partial graph whose cells are numbered in the order of
-- the stream.
pub record IsTrace (w : Setting) (order : Order) (octets : List ℕ) (place : ℕ) (why : Reason) (lines path : List ℕ) : Type 0 where
  pub bad : Bad w order octets place why
  pub numbered : HasOwnNumbers bad.partial bad.entries
  pub trace : IsTraceOf w order octets place why bad lines path
