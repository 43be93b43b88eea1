-- The rule on attribute configuration files (C706, section 4.3), and the answer with such a file.
use Rattle.std.specs.Prelude.{◌≡◌, ℕ, suc, Bool, true, false, not, ◌||◌, List, [], ◌∷◌, ◌++◌, Option, Some, None, Result, Ok, Err}
use Rattle.std.specs.List.{list_any, flat_map}
use Rattle.std.specs.Str.{bytes_eq}
use Rattle.nd_types.specs.declared.interface.Interface.{Interface}
use Rattle.nd_types.specs.Meant.{meant_by}
use Rattle.idl_grammar.specs.declared.words.Spelling.{Spelling}
use Rattle.idl_grammar.specs.Tree.{Export, Tree}
use Rattle.idl_grammar.specs.Tree as idl
use Rattle.acf_reader.specs.declared.tree.HandleType.{HandleType}
use Rattle.acf_reader.specs.declared.tree.HandleType.TheVariants as handle
use Rattle.acf_reader.specs.declared.tree.AttributeKind.{AttributeKind}
use Rattle.acf_reader.specs.declared.tree.AttributeKind.TheVariants.{AutoHandle, ExplicitHandle, ImplicitHandle, Code, NoCode, InLine, OutOfLine}
use Rattle.acf_reader.specs.declared.tree.AttributeKind.TheVariants.{EnableAllocate, Heap, CommStatus, FaultStatus}
use Rattle.acf_reader.specs.declared.tree.Attribute.{Attribute}
use Rattle.acf_reader.specs.Grammar.{Attributes, Parameter, BodyElement, Include, Types, Operation, Acf}
use Rattle.idl_scope.specs.Known.{Known, meaning_in, is_type, found}
use Rattle.idl_scope.specs.Steps.{parameters_of}
use Rattle.idl_rule_definitions.specs.declared.fault.RuleFault.{RuleFault}
use Rattle.idl_rule_definitions.specs.declared.fault.RuleFault.TheVariants as fault
use Rattle.idl_rule_definitions.specs.Nodes.{World}
use Rattle.idl_rule_definitions.specs.Meaning.{main_among, meaning}
use Rattle.idl_rule_definitions.specs.Rules.{Breach, breach, breaches, first_of}
use Rattle.idl_check.specs.declared.acf_places.Spot.{Spot}
use Rattle.idl_check.specs.declared.acf_places.Spot.TheVariants as spot

-- ## The rule

-- It is the fortieth: the interface, types, operations and parameters of such a file are names of the IDL, and its attributes are in their places.
-- It is reported where the file, the element of its body or the parameter begins in which it is broken.
-- `f` is an attribute configuration file, `e` an element of its body, `a` an attribute, `p` a parameter in it, `q` one in the IDL.

-- ### Places of attributes (C706, sections 4.3.1 to 4.3.8; which attribute stands where in this project is its own choice)

abbrev pub is_of_interface : AttributeKind → Bool
is_of_interface AutoHandle = true
is_of_interface ExplicitHandle = true
is_of_interface (ImplicitHandle of name) = true
is_of_interface Code = true
is_of_interface NoCode = true
is_of_interface InLine = true
is_of_interface OutOfLine = true
is_of_interface EnableAllocate = true
is_of_interface _ = false

abbrev pub is_of_type : AttributeKind → Bool
is_of_type InLine = true
is_of_type OutOfLine = true
is_of_type Heap = true
is_of_type _ = false

abbrev pub is_of_operation : AttributeKind → Bool
is_of_operation ExplicitHandle = true
is_of_operation Code = true
is_of_operation NoCode = true
is_of_operation EnableAllocate = true
is_of_operation CommStatus = true
is_of_operation FaultStatus = true
is_of_operation _ = false

abbrev pub is_of_parameter : AttributeKind → Bool
is_of_parameter InLine = true
is_of_parameter OutOfLine = true
is_of_parameter Heap = true
is_of_parameter CommStatus = true
is_of_parameter FaultStatus = true
is_of_parameter _ = false

abbrev pub attribute_list : Option Attributes → List Attribute
attribute_list None = []
attribute_list (Some a) = a.list

-- an attribute of a list does not stand in its place
abbrev pub is_misplaced : (AttributeKind → Bool) → List Attribute → Bool
is_misplaced belongs list = list_any (λ a. not (belongs a.kind)) list

-- ### Names of the IDL

abbrev pub is_no_type : Known → Spelling → Bool
is_no_type known name = not (is_type (meaning_in known name.octets))

abbrev pub handle_is_no_type : Known → HandleType → Bool
handle_is_no_type known handle.Handle = false
handle_is_no_type known (handle.Name name) = is_no_type known name

-- an implicit handle has a type that is none of the IDL
abbrev pub has_unknown_handle : Known → AttributeKind → Bool
has_unknown_handle known (ImplicitHandle of name) = handle_is_no_type known of
has_unknown_handle known _ = false

abbrev pub parameters_if : Bool → List idl.Parameter → Option (List idl.Parameter)
parameters_if true ps = Some ps
parameters_if false ps = None

-- the parameters of an operation that a declaration declares under this name
abbrev pub declared_parameters : Spelling → Export → Option (List idl.Parameter)
declared_parameters name (idl.Operation at a result n ps) = parameters_if (bytes_eq name.octets n.octets) (parameters_of ps)
declared_parameters name _ = None

-- the parameters of the operation of this name, where there is one
abbrev pub parameters_found : Spelling → List Export → Option (List idl.Parameter)
parameters_found name [] = None
parameters_found name (e ∷ es) = elim (declared_parameters name e) [ Some ps ↦ Some ps | None ↦ parameters_found name es ]

abbrev pub is_no_parameter : List idl.Parameter → Spelling → Bool
is_no_parameter ps name = not (list_any (λ q. bytes_eq name.octets q.declarator.name.octets) ps)

-- ### Breaches

-- the number by which an attribute configuration file is reported; no file of IDL has it
abbrev pub acf_file : ℕ
acf_file = 65535

abbrev pub broken_at : ℕ → Bool → List Breach
broken_at at true = breach 40 (record { file = acf_file; at = at }) ∷ []
broken_at at false = []

-- of a parameter, where the operation has these
abbrev pub breaches_of_parameter : List idl.Parameter → Parameter → List Breach
breaches_of_parameter ps p = broken_at p.at (is_misplaced is_of_parameter (attribute_list p.attributes) || is_no_parameter ps p.name)

-- of an operation; where the IDL has none of its name its parameters are not asked for
abbrev pub breaches_of_operation : ℕ → List Attribute → List Parameter → Option (List idl.Parameter) → List Breach
breaches_of_operation at attributes parameters None = broken_at at true
breaches_of_operation at attributes parameters (Some ps) =
    broken_at at (is_misplaced is_of_operation attributes) ++ flat_map (breaches_of_parameter ps) parameters

abbrev pub breaches_of_element : Known → Tree → BodyElement → List Breach
breaches_of_element known main (Include at files) = []
breaches_of_element known main (Types at a names) = broken_at at (is_misplaced is_of_type a.list || list_any (is_no_type known) names)
breaches_of_element known main (Operation at a name ps) = breaches_of_operation at (attribute_list a) ps (parameters_found name main.exports)

-- of the attributes and the name of the interface
abbrev pub breaks_header : Known → Tree → Acf → Bool
breaks_header known main f =
    not (bytes_eq f.name.octets main.name.octets)
    || (is_misplaced is_of_interface (attribute_list f.attributes) || list_any (λ a. has_unknown_handle known a.kind) (attribute_list f.attributes))

abbrev pub breaches_beside : Known → Acf → Tree → List Breach
breaches_beside known f main = broken_at f.at (breaks_header known main f) ++ flat_map (breaches_of_element known main) f.body

-- where the rule is broken; nowhere if there is no such file
unfoldable pub acf_breaches : World → Option Acf → List Breach
acf_breaches w None = []
acf_breaches w (Some f) = flat_map (breaches_beside w.known f) (main_among w.files)

-- ### All rules

-- all rules that are broken, each where it is
abbrev pub all_breaches : World → Option Acf → List Breach
all_breaches w acf = breaches w ++ acf_breaches w acf

-- the rule that is reported, and where: as the others are, with the fortieth after them
abbrev pub first_of_all : World → Option Acf → Option Breach
first_of_all w acf = first_of w (all_breaches w acf)

-- the one, or the other where there is none
abbrev pub or_else : Option Breach → Option Breach → Option Breach
or_else None other = other
or_else (Some b) other = Some b

-- ## For the code: places in one function, operations by name, and the answer with an attribute configuration file

-- whether an attribute may stand in a place
abbrev pub belongs : Spot → AttributeKind → Bool
belongs spot.Interface = is_of_interface
belongs spot.Type = is_of_type
belongs spot.Operation = is_of_operation
belongs spot.Parameter = is_of_parameter

-- the name of a declaration, where it is an operation
abbrev pub operation_name : Export → Option Spelling
operation_name (idl.Operation at a result n ps) = Some n
operation_name _ = None

-- the parameters of a declaration, where it is an operation
abbrev pub parameters_in : Option Export → Option (List idl.Parameter)
parameters_in (Some (idl.Operation at a result n ps)) = Some (parameters_of ps)
parameters_in _ = None

-- the number of a declaration that is an operation of this name, or else the number that is given
abbrev pub number_if : List ℕ → ℕ → Option Spelling → Option ℕ → Option ℕ
number_if name i None rest = rest
number_if name i (Some n) rest = elim (bytes_eq name n.octets) [ true ↦ Some i | false ↦ rest ]

-- the number of the first operation of a name among declarations, of which the first has the number `i`
abbrev pub number_of : List ℕ → ℕ → List Export → Option ℕ
number_of name i [] = None
number_of name i (e ∷ es) = number_if name i (operation_name e) (number_of name (suc i) es)

-- a table of the operations among declarations, of which the first has the number `i`
pub record AreOperations (i : ℕ) (exports : List Export) (table : List (List ℕ × ℕ)) : Type 0 where
  pub found : (name : List ℕ) → found name table ≡ number_of name i exports

-- Files that keep all rules with an attribute configuration file, if there is one, and their interface.
pub record IsMeaningBeside (w : World) (acf : Option Acf) (i : Interface) : Type 0 where
  pub keeps : first_of_all w acf ≡ None
  pub means : meaning w ≡ meant_by i ∷ []

-- A rule is reported exactly where it is the first broken one, the fortieth after all others.
abbrev pub AnswersBeside : World → Option Acf → Result Interface RuleFault → Type 0
AnswersBeside w acf (Ok i) = IsMeaningBeside w acf i
AnswersBeside w acf (Err fault.Memory) = Unit {0}
AnswersBeside w acf (Err (fault.Broken rule place)) = first_of_all w acf ≡ Some (breach rule place)
