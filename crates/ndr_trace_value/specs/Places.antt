-- Which members of structs the nodes of a home are, and the variables of their attributes.
-- `table` are the types, `w` is a setting, `g` a partial graph, `h` a home, `m` and `n` are numbers of nodes, `t` is a type's number, `l` a label,
-- `ks` are its children, `places` says which members values are, `x` which one a value is, `k` is the kind of an item, `p` the path of a struct or
-- of its member.
use Rattle.std.specs.Prelude.{◌≡◌, ◌+◌, ◌-◌, ◌==◌, ℕ, true, false, List, [], ◌∷◌, length, nat_lt, take, Option, None, Some}
use Rattle.std.specs.List.{slice_get}
use Rattle.nd_types.specs.declared.types.AttrVar.{AttrVar}
use Rattle.nd_types.specs.declared.types.Field.{Field}
use Rattle.nd_types.specs.Table.{Table, type_at}
use Rattle.nd_value.specs.declared.item.Home.{Home}
use Rattle.nd_value.specs.declared.item.ItemKind.{ItemKind}
use Rattle.nd_value.specs.declared.value.Graph.{Graph}
use Rattle.nd_value.specs.Nodes.{child_types}
use Rattle.nd_value.specs.Setting.{Setting}
use Rattle.nd_value.specs.Tree.{Label, Trees, more, node, node_count, none}
use Rattle.text_grammar.specs.Paths.{home_types, home_value}
use Rattle.ndr_explain.specs.Cursors.{Place, child_places}
use Rattle.ndr_trace_value.specs.Attributes.{first_of}
use Rattle.ndr_trace_value.specs.Traces.{field_name, numbered_path}

-- ## Members

-- the children of a node of this type, with this label
abbrev pub kid_places : Table → ℕ → Label → Trees → List Place
kid_places table t l ks = child_places (type_at table t) (child_types (type_at table t) l ks)

-- which member the node m is, among those of values of these types, which are numbered depth first and from n on
abbrev pub place_at : Table → List ℕ → List Place → ℕ → Trees → ℕ → Place
place_at table (t ∷ types) (x ∷ places) n (more (node l ks) ts) m =
    elim (m == n) [
      | true ↦ x
      | false ↦ elim (nat_lt m (n + 1 + node_count ks)) [
        | true ↦ place_at table (child_types (type_at table t) l ks) (kid_places table t l ks) (n + 1) ks m
        | false ↦ place_at table types places (n + 1 + node_count ks) ts m
      ]
    ]
place_at table _ _ n _ m = None

-- the same of a node of a home, whose own value is no member
abbrev pub home_place : Setting → Graph → Home → ℕ → Place
home_place w g h n = place_at w.table (home_types w g h) (None ∷ []) 0 (more (home_value g h) none) n

-- The nodes of values of these types are these members, by what f says of each node's number.
abbrev pub ArePlaced : (ℕ → Place) → Table → List ℕ → List Place → ℕ → Trees → Type 0
ArePlaced f table (t ∷ types) (x ∷ places) n (more (node l ks) ts) =
    (f n ≡ x) × ArePlaced f table (child_types (type_at table t) l ks) (kid_places table t l ks) (n + 1) ks
    × ArePlaced f table types places (n + 1 + node_count ks) ts
ArePlaced f table (t ∷ types) [] n (more v ts) = ⊥
ArePlaced f table _ _ n _ = Unit {0}

-- ## The variables of their attributes

-- the path of a struct from that of a member of this name
abbrev pub without_step : List ℕ → List ℕ → List ℕ
without_step p name = take (length p - length name - 1) p

abbrev pub outer_path : List ℕ → Place → List ℕ
outer_path p None = p
outer_path p (Some (members, i)) = without_step p (field_name (slice_get members i))

-- the path of an attribute's variable, in the struct of this path; nothing if there is no attribute
abbrev pub stated_beside : List ℕ → List Field → Option AttrVar → List ℕ
stated_beside p members None = []
stated_beside p members (Some by) = numbered_path p members by.var

abbrev pub field_variable : ItemKind → List ℕ → List Field → Option Field → List ℕ
field_variable k p members None = []
field_variable k p members (Some f) = stated_beside p members (first_of k f.vars)

-- the same of the attribute of a member that speaks of an item of this kind, by the path of the struct
abbrev pub place_variable : ItemKind → List ℕ → Place → List ℕ
place_variable k p None = []
place_variable k p (Some (members, i)) = field_variable k p members (slice_get members i)

-- and by the path of the member
abbrev pub member_variable : ItemKind → List ℕ → Place → List ℕ
member_variable k p x = place_variable k (outer_path p x) x
