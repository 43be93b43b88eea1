-- The names of lists of members and parameters, each with its place in its list.
use Rattle.std.specs.Prelude.{◌≡◌, ℕ, Bool, true, false, not, List, Option, Some, None, option_map, Vec}
use Rattle.std.specs.List.{slice_get}
use Rattle.idl_scope.specs.Known.{found, Known}
use Rattle.idl_constructs.specs.declared.nodes.Declared as declared
use Rattle.idl_grammar.specs.declared.attributes.Variable.{Variable}
use Rattle.idl_typing.specs.declared.variables.Wanted.{Wanted}
use Rattle.idl_typing.specs.declared.variables.Wanted.TheVariants as wanted
use Rattle.idl_rule_definitions.specs.Nodes.{Declared}
use Rattle.idl_constructs.specs.SeenNodes.{list_at}
use Rattle.idl_rule_definitions.specs.DeclarationRules.{is_parameter}
use Rattle.idl_rule_definitions.specs.Types.{IdlType, Enum, Names, type_of}
use Rattle.idl_rule_definitions.specs.VariableRules.{listed_from, is_other, is_integer, may_be_switched, passes}

abbrev pub found_in : List ℕ → Option (List (List ℕ × ℕ)) → Option ℕ
found_in name (Some table) = found name table
found_in name None = None

-- the place of a name in the list of a number
abbrev pub found_at : List (List (List ℕ × ℕ)) → ℕ → List ℕ → Option ℕ
found_at tables list name = found_in name (slice_get tables list)

-- the tables say of each list what it says itself
abbrev pub AreTables : {A : Type 0} → List (List (List ℕ × ℕ)) → List (Vec declared.Declared A) → Type 0
AreTables tables lists = (list : ℕ) (name : List ℕ) → found_at tables list name ≡ option_map (λ l. l.index) (listed_from 0 (list_at lists list) name)

-- the variable is no other of the list
abbrev pub no_other : List Declared → ℕ → Variable → Bool
no_other list index v = not (is_other index (listed_from 0 list v.name.octets))

abbrev pub wanted_test : Wanted → IdlType → Bool
wanted_test wanted.Integer t = is_integer t
wanted_test wanted.Switch t = may_be_switched t

abbrev pub is_enumerated : IdlType → Bool
is_enumerated (Enum place) = true
is_enumerated _ = false

-- a member or parameter, where there is one, is of a type that passes
abbrev pub passes_it : Known → Names → (IdlType → Bool) → Bool → Option Declared → Bool
passes_it known names test star None = true
passes_it known names test star (Some d) = passes test (is_parameter d.construct.position) star (type_of known names d)

-- the variable, where the list has it, is of a type that does not pass
abbrev pub fails_in : Known → Names → (IdlType → Bool) → List Declared → Variable → Bool
fails_in known names test list v = not (passes_it known names test v.star (option_map (λ l. l.it) (listed_from 0 list v.name.octets)))
