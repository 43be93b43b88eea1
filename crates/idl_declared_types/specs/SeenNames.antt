-- The names of types as the program keeps them: each with the number of its type.
use Rattle.std.specs.Prelude.{◌≡◌, ℕ, Bool, true, false, nat_lt, List, [], ◌∷◌, ◌++◌, map, is_some}
use Rattle.idl_scope.specs.Known.{found}
use Rattle.std.specs.List.{list_all}
use Rattle.idl_declared_types.specs.declared.kinds.Kind.{Kind}
use Rattle.idl_constructs.specs.declared.nodes.Node.{Node}
use Rattle.idl_constructs.specs.declared.nodes.Node.TheVariants as node
use Rattle.idl_rule_definitions.specs.Nodes.{Position, InTypedef}
use Rattle.idl_constructs.specs.SeenNodes.{seen_position}
use Rattle.idl_rule_definitions.specs.Types.{Names}
use Rattle.idl_declared_types.specs.Kinds.{type_at}

abbrev pub seen_names : List Kind → List (List ℕ × ℕ) → Names
seen_names ks names = map (λ e. (e.0, type_at ks e.1)) names

-- numbers of some of the first n types
abbrev pub are_below : ℕ → List ℕ → Bool
are_below n numbers = list_all (λ k. nat_lt k n) numbers

-- each of them has one of the first n types
abbrev pub are_within : ℕ → List (List ℕ × ℕ) → Bool
are_within n names = list_all (λ e. nat_lt e.1 n) names

-- one more; a name that is there already keeps its type
abbrev pub and_name : List (List ℕ × ℕ) → List ℕ → ℕ → List (List ℕ × ℕ)
and_name names name of = elim (is_some (found name names)) [ true ↦ names | false ↦ names ++ (name, of) ∷ [] ]

-- what the program keeps says of each name what these names say
abbrev pub Agree : Names → List Kind → List (List ℕ × ℕ) → Type 0
Agree names ks table = (name : List ℕ) → found name names ≡ found name (seen_names ks table)

-- the same of a typedef
abbrev pub declared_in : List (List ℕ × ℕ) → Position → List ℕ → ℕ → List (List ℕ × ℕ)
declared_in names InTypedef name of = and_name names name of
declared_in names _ name of = names

-- the same of a node, of which this number is the type
abbrev pub names_with : List (List ℕ × ℕ) → Node → ℕ → List (List ℕ × ℕ)
names_with names (node.Declarator list index it) of = declared_in names (seen_position it.construct.position) it.declarator.now.name.octets of
names_with names (node.Result it) of = declared_in names (seen_position it.construct.position) it.name.now.octets of
names_with names _ of = names
