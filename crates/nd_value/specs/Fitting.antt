-- What a fit is seen as: a graph that conforms to an operation's side, under an interface, beside a request or beside none.
-- `f` is a fitting, `i` an interface, `o` an operation, `s` a side, `q` the graph of a request.
use Rattle.std.specs.Prelude.{◌≡◌, ℕ, List, Option, Some, None, refl}
use Rattle.std.specs.List.{slice_get}
use Rattle.std.specs.Coded.{Coded, code_by, coded×, coded_list, coded_ℕ, coded_option}
use Rattle.nd_types.specs.declared.interface.Interface.{Interface}
use Rattle.nd_types.specs.declared.types.Operation.{Operation}
use Rattle.nd_types.specs.declared.types.Side.{Side}
use Rattle.nd_types.specs.declared.types.Side.TheVariants.{In, Out}
use Rattle.nd_types.specs.contracts.types.Side as side
use Rattle.nd_types.specs.contracts.interface.Interface as interface
use Rattle.nd_value.specs.declared.value.Graph.{Graph}
use Rattle.nd_value.specs.Setting.{Setting}
use Rattle.nd_value.specs.Conforms.{Conforms}
use Rattle.nd_value.specs.Tree.{Tree, Referent, tree_code, referent_code}

-- an operation's side under an interface, beside a request or beside none
abbrev pub setting_beside : Interface → Operation → Side → Option Graph → Setting
setting_beside i o s q = record { table = i.types; op = o; side = s; given = q }

-- the same beside no request
abbrev pub setting_of : Interface → Operation → Side → Setting
setting_of i o s = setting_beside i o s None

-- A graph, the number of an operation, a side, their interface, and the graph of the request beside which it is judged, if there
-- is one.
pub record Fitting : Type 0 where
  pub graph : Graph
  pub op : ℕ
  pub side : Side
  pub interface : Interface
  pub given : Option Graph

-- A request beside which a graph is judged: outputs alone are judged beside one, and it conforms to the inputs of the operation.
pub record IsGivenRequest (i : Interface) (o : Operation) (s : Side) (q : Graph) : Type 0 where
  pub judged : s ≡ Out
  pub inputs : Conforms (setting_of i o In) q

-- the same, if one is given
abbrev pub IsGiven : Interface → Operation → Side → Option Graph → Type 0
IsGiven i o s None = Unit {0}
IsGiven i o s (Some q) = IsGivenRequest i o s q

-- the graph conforms to that operation's side, and what is given is a request of that operation
pub record IsFit (f : Fitting) : Type 0 where
  pub operation : Operation
  pub is_there : slice_get f.interface.operations f.op ≡ Some operation
  pub conforms : Conforms (setting_beside f.interface operation f.side f.given) f.graph
  pub request : IsGiven f.interface operation f.side f.given

-- one graph is told from another by its roots and cells
abbrev pub graph_code : Coded Graph
graph_code =
    code_by (List Tree × List Referent) (coded× (coded_list tree_code) (coded_list referent_code)) (λ g. (g.roots, g.cells))
    (λ p. record { roots = p.0; cells = p.1 }) (λ _. refl)

-- one fitting is told from another by its parts
abbrev pub fitting_code : Coded Fitting
fitting_code =
    code_by (Graph × (ℕ × (Side × (Interface × Option Graph))))
    (coded× graph_code (coded× coded_ℕ (coded× side.the_row.coded (coded× interface.the_row.coded (coded_option graph_code)))))
    (λ f. (f.graph, (f.op, (f.side, (f.interface, f.given)))))
    (λ p. record { graph = p.0; op = p.1.0; side = p.1.1.0; interface = p.1.1.1.0; given = p.1.1.1.1 })
    (λ _. refl)
