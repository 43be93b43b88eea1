-- The attributes of parameters, by the items that they speak of.
-- `a` is an attribute, `k` the kind of an item, `vs` are the attributes of a parameter, `o` is an operation, `log` a log, `s` what is sought in it,
-- `from` says where a pointer is, if it is known, and `f` is that, `kept` is a path that was kept, `q` the text that is shown.
use Rattle.std.specs.Prelude.{◌≡◌, ℕ, Bool, true, false, List, [], ◌∷◌, Option, None, Some}
use Rattle.std.specs.List.{slice_get}
use denote.Enum.Bare.{sameb}
use Rattle.nd_types.specs.declared.types.Attr.{Attr}
use Rattle.nd_types.specs.declared.types.Attr.TheVariants as attr
use Rattle.nd_types.specs.declared.types.AttrVar.{AttrVar}
use Rattle.nd_types.specs.declared.types.Operation.{Operation}
use Rattle.nd_types.specs.declared.types.Param.{Param}
use Rattle.nd_types.specs.Roots.{NamedRoot, named_roots}
use Rattle.nd_value.specs.declared.item.Home.{Home}
use Rattle.nd_value.specs.declared.item.Home.TheVariants as home
use Rattle.nd_value.specs.declared.item.Item.{Item}
use Rattle.nd_value.specs.declared.item.ItemKind.{ItemKind}
use Rattle.nd_value.specs.declared.item.ItemKind.TheVariants as kind
use Rattle.nd_value.specs.contracts.item.ItemKind as row
use Rattle.text_grammar.specs.Written.{parameter_name}
use Rattle.ndr_trace_value.specs.declared.pointers.PointerSpot.{PointerSpot}
use Rattle.ndr_trace_value.specs.declared.progress.Ground.{Ground}
use Rattle.ndr_trace_value.specs.declared.search.Sought.{Sought}

-- the item that an attribute speaks of
abbrev pub spoken : Attr → ItemKind
spoken attr.Size = kind.Max
spoken attr.Max = kind.Max
spoken attr.First = kind.Offset
spoken attr.Length = kind.Actual
spoken attr.Last = kind.Actual
spoken attr.Switch = kind.Tag

-- an attribute speaks of an item of this kind
abbrev pub speaks : Attr → ItemKind → Bool
speaks a k = sameb row.the_type (spoken a) k

-- the first attribute that speaks of an item of this kind
abbrev pub first_of : ItemKind → List AttrVar → Option AttrVar
first_of k [] = None
first_of k (v ∷ vs) = elim (speaks v.attr k) [ true ↦ Some v | false ↦ first_of k vs ]

-- the same of a parameter, of a root by its parameter, and of a home, if it is a root's
abbrev pub param_attribute : ItemKind → Option Param → Option AttrVar
param_attribute k None = None
param_attribute k (Some p) = first_of k p.field.vars

abbrev pub number_attribute : Operation → ItemKind → Option ℕ → Option AttrVar
number_attribute o k None = None
number_attribute o k (Some i) = param_attribute k (slice_get o.params i)

abbrev pub root_attribute : Operation → ItemKind → Option NamedRoot → Option AttrVar
root_attribute o k None = None
root_attribute o k (Some r) = number_attribute o k r.param

abbrev pub home_attribute : Operation → ItemKind → List NamedRoot → Home → Option AttrVar
home_attribute o k roots (home.Root i) = root_attribute o k (slice_get roots i)
home_attribute o k roots (home.Cell c) = None

-- If the item that is sought is at a parameter's own value, this is the name of the variable of the attribute that speaks of it.
abbrev pub IsOwnName : Ground → Sought → List ℕ → Type 0
IsOwnName u s q = (o : Operation) → slice_get u.interface.now.operations u.op ≡ Some o → s.node ≡ 0
    → (by : AttrVar) → home_attribute o s.kind (named_roots u.interface.now.types u.side o) s.home ≡ Some by
    → q ≡ parameter_name (slice_get o.params by.var)

-- If it is not, and the walk kept the path of a variable, this is shown.
abbrev pub IsKeptName : Ground → Sought → List ℕ → List ℕ → Type 0
IsKeptName u s kept q = (o : Operation) → slice_get u.interface.now.operations u.op ≡ Some o
    → (s.node ≡ 0 → home_attribute o s.kind (named_roots u.interface.now.types u.side o) s.home ≡ None) → (kept ≡ [] → ⊥) → q ≡ kept

-- The same of the attribute of a parameter that is a pointer, if the walk kept where this pointer is, and no path: it names the home of what is
-- sought.
abbrev pub IsPointedName : Ground → Sought → Option PointerSpot → List ℕ → List ℕ → Type 0
IsPointedName u s from kept q = (o : Operation) → slice_get u.interface.now.operations u.op ≡ Some o
    → home_attribute o s.kind (named_roots u.interface.now.types u.side o) s.home ≡ None → kept ≡ []
    → (f : PointerSpot) → from ≡ Some f → f.node ≡ 0
    → (by : AttrVar) → home_attribute o s.kind (named_roots u.interface.now.types u.side o) f.home ≡ Some by
    → q ≡ parameter_name (slice_get o.params by.var)

-- And that of the attribute of a member that is a pointer, if the walk kept its path.
abbrev pub IsPointedPath : Ground → Sought → Option PointerSpot → List ℕ → List ℕ → Type 0
IsPointedPath u s from kept q = (o : Operation) → slice_get u.interface.now.operations u.op ≡ Some o
    → home_attribute o s.kind (named_roots u.interface.now.types u.side o) s.home ≡ None → kept ≡ []
    → (f : PointerSpot) → from ≡ Some f → (f.node ≡ 0 → ⊥) → (f.variable ≡ [] → ⊥) → q ≡ f.variable

-- what is sought is an item of the log
abbrev pub IsItemOf : List Item → Sought → Type 0
IsItemOf log s = (i : Item) × (slice_get log s.item ≡ Some i) × (i.kind ≡ s.kind) × (i.home ≡ s.home) × (i.node ≡ s.node)
