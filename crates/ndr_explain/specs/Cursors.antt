-- Where a cursor is among the nodes of a home.
-- `L` is a level, `Ls` are levels, the innermost first; `p` is a path; `t` is a type's number, `c` a cursor, `w` the values that are left
-- of a home from the node at which it is, `m` and `n` are numbers of nodes.
use Rattle.std.specs.Prelude.{◌≡◌, ℕ, ℤ, zero, suc, ◌+◌, ◌-◌, ◌<◌, ◌≤◌, List, [], ◌∷◌, ◌++◌, drop, length, map, replicate, reverse, Option, None}
use Rattle.std.specs.Prelude.{Some, decimal, codes}
use Rattle.std.specs.List.{slice_get}
use Rattle.nd_types.specs.declared.interface.Interface.{Interface}
use Rattle.nd_types.specs.declared.types.Operation.{Operation}
use Rattle.nd_types.specs.declared.types.Arm.{Arm}
use Rattle.nd_types.specs.declared.types.Field.{Field}
use Rattle.nd_types.specs.declared.types.TypeDef.{TypeDef}
use Rattle.nd_types.specs.declared.types.TypeDef.TheVariants as def
use Rattle.nd_types.specs.declared.types.TypeId.{TypeId}
use Rattle.nd_types.specs.Table.{Table, type_at, selected}
use Rattle.nd_types.specs.Roots.{NamedRoot}
use Rattle.nd_value.specs.declared.value.Graph.{Graph}
use Rattle.nd_value.specs.declared.item.Home.{Home}
use Rattle.nd_value.specs.declared.item.ItemKind.{ItemKind}
use Rattle.nd_value.specs.declared.item.ItemKind.TheVariants as kind
use Rattle.nd_value.specs.Fitting.{Fitting, setting_beside}
use Rattle.nd_value.specs.Setting.{Setting}
use Rattle.nd_value.specs.Tree.{Trees, Flat, Label, count, flat}
use Rattle.nd_value.specs.Nodes.{child_types}
use Rattle.nd_flat.specs.FlatForm.{flat_seen}
use Rattle.text_grammar.specs.Paths.{member_path, element_path, child_paths, node_paths, home_name}
use Rattle.text_printer.specs.Walks.{Begins}
use Rattle.ndr_explain.specs.declared.levels.Level.{Level}
use Rattle.ndr_explain.specs.declared.levels.Level.TheVariants as level
use Rattle.ndr_explain.specs.declared.levels.Levels.{Levels}
use Rattle.ndr_explain.specs.declared.cursor.Cursor.{Cursor}
use Rattle.ndr_explain.specs.declared.names.HomeName.{HomeName}
use Rattle.ndr_explain.specs.declared.names.HomeName.TheVariants as named
use Rattle.ndr_explain.specs.declared.located.Located.{Located}
use Rattle.ndr_explain.specs.Explained.{home_paths, home_flats, path_in, label_in, string_shown, context_shown}

-- ## Levels

-- so many elements from an index on
abbrev pub index_paths : List ℕ → ℕ → ℕ → List (List ℕ)
index_paths p i zero = []
index_paths p i (suc n) = element_path p i ∷ index_paths p (i + 1) n

-- the types of the child at which a level is, and of those after it
abbrev pub level_types : Level → List ℕ
level_types (level.Whole of) = of.0 ∷ []
level_types (level.Arm of name) = of.0 ∷ []
level_types (level.Members members at) = map (λ f. f.of.0) (drop at members.now)
level_types (level.Elements of offset at size) = replicate (size - at) of.0

-- their paths, where p is that of their parent
abbrev pub level_paths : List ℕ → Level → List (List ℕ)
level_paths p (level.Whole of) = p ∷ []
level_paths p (level.Arm of name) = member_path p name.now ∷ []
level_paths p (level.Members members at) = map (λ f. member_path p f.name) (drop at members.now)
level_paths p (level.Elements of offset at size) = index_paths p (offset + at) (size - at)

abbrev pub field_path : List ℕ → Option Field → List ℕ
field_path p None = p
field_path p (Some f) = member_path p f.name

-- the path of the child at which a level is
abbrev pub child_path : List ℕ → Level → List ℕ
child_path p (level.Whole of) = p
child_path p (level.Arm of name) = member_path p name.now
child_path p (level.Members members at) = field_path p (slice_get members.now at)
child_path p (level.Elements of offset at size) = element_path p (offset + at)

-- the path of the child at which the innermost of levels is, where p is the name of their home
abbrev pub path_to : List ℕ → List Level → List ℕ
path_to p [] = p
path_to p (L ∷ Ls) = child_path (path_to p Ls) L

-- the types and the paths of the values after the children at which levels are
abbrev pub types_after : List Level → List ℕ
types_after [] = []
types_after (L ∷ Ls) = drop 1 (level_types L) ++ types_after Ls

abbrev pub paths_after : List ℕ → List Level → List (List ℕ)
paths_after p [] = []
paths_after p (L ∷ Ls) = drop 1 (level_paths (path_to p Ls) L) ++ paths_after p Ls

-- the same from the child on at which the innermost level is
abbrev pub types_from : Level → List Level → List ℕ
types_from L Ls = level_types L ++ types_after Ls

abbrev pub paths_from : List ℕ → Level → List Level → List (List ℕ)
paths_from p L Ls = level_paths (path_to p Ls) L ++ paths_after p Ls

-- the types and the paths of a level, if there is one
abbrev pub inner_types : Option Level → List ℕ
inner_types None = []
inner_types (Some L) = level_types L

abbrev pub inner_paths : List ℕ → Option Level → List (List ℕ)
inner_paths p None = []
inner_paths p (Some L) = level_paths p L

-- a level, if there is one, has a child at which it is
abbrev pub HasChild : Option Level → Type 0
HasChild None = Unit {0}
HasChild (Some L) = 0 < length (level_types L)

-- a level from whose child on there are these types and paths; none where there are no types
abbrev pub IsLevelOf : List ℕ → (List ℕ → List (List ℕ)) → Option Level → Type 0
IsLevelOf types paths None = types ≡ []
IsLevelOf types paths (Some L) = ((0 < length (level_types L)) × (level_types L ≡ types)) × ((p : List ℕ) → level_paths p L ≡ paths p)

-- the level of the children of a node of this type, with this label and so many children
abbrev pub IsChildLevel : Table → ℕ → Flat → Option Level → Type 0
IsChildLevel table t f result =
    (ks : Trees) → count ks ≡ f.1 → IsLevelOf (child_types (type_at table t) f.0 ks) (λ p. child_paths (type_at table t) f.0 p ks) result

-- levels from whose innermost child on there are these types and paths; none are left where there are no types
abbrev pub AreLevelsOf : List ℕ → (List ℕ → List (List ℕ)) → Option Levels → Type 0
AreLevelsOf types paths None = types ≡ []
AreLevelsOf types paths (Some s) =
    ((0 < length (level_types s.top)) × (types_from s.top (reverse s.below.items) ≡ types))
    × ((p : List ℕ) → paths_from p s.top (reverse s.below.items) ≡ paths p)

-- ## Members

-- which of some members a value is, if it is a member of a struct
abbrev pub Place : Type 0
Place = Option (List Field × ℕ)

-- the members from one on, as many as there are types
abbrev pub member_places : List Field → ℕ → List ℕ → List Place
member_places members i [] = []
member_places members i (t ∷ types) = Some (members, i) ∷ member_places members (i + 1) types

-- values of these types that are no members
abbrev pub no_places : List ℕ → List Place
no_places [] = []
no_places (t ∷ types) = None ∷ no_places types

-- the children of a node of this type, which have these types
abbrev pub child_places : Option TypeDef → List ℕ → List Place
child_places (Some (def.Struct members)) types = member_places members 0 types
child_places _ types = no_places types

-- the child at which a level is
abbrev pub level_place : Level → Place
level_place (level.Members members at) = Some (members.now, at)
level_place _ = None

-- that child and those after it
abbrev pub level_places : Level → List Place
level_places (level.Whole of) = no_places (level_types (level.Whole of))
level_places (level.Arm of name) = no_places (level_types (level.Arm of name))
level_places (level.Members members at) = member_places members.now at (level_types (level.Members members at))
level_places (level.Elements of offset at size) = no_places (level_types (level.Elements of offset at size))

-- the values after the children at which levels are
abbrev pub places_after : List Level → List Place
places_after [] = []
places_after (L ∷ Ls) = drop 1 (level_places L) ++ places_after Ls

-- the same from the child on at which the innermost level is
abbrev pub places_from : Level → List Level → List Place
places_from L Ls = level_places L ++ places_after Ls

-- the same of a level, or of levels, if there are any
abbrev pub inner_places : Option Level → List Place
inner_places None = []
inner_places (Some L) = level_places L

abbrev pub next_places : Option Levels → List Place
next_places None = []
next_places (Some s) = places_from s.top (reverse s.below.items)

-- ## The parts of a type that has children

-- the types and the paths of so many elements, where there is a type of elements
abbrev pub elem_types : Option ℕ → ℕ → List ℕ
elem_types None n = []
elem_types (Some t) n = replicate n t

abbrev pub elem_paths : Option ℕ → List ℕ → ℕ → ℕ → List (List ℕ)
elem_paths None p offset n = []
elem_paths (Some t) p offset n = index_paths p offset n

-- the type of the elements of an array, and of a pipe
abbrev pub array_element : Option TypeDef → Option ℕ
array_element (Some (def.Array elem bound varying)) = Some elem.0
array_element _ = None

abbrev pub pipe_element : Option TypeDef → Option ℕ
pipe_element (Some (def.Pipe elem)) = Some elem.0
pipe_element _ = None

-- the arm that a tag selects, of a type that is a union
abbrev pub union_arm : Option TypeDef → ℤ → Option Arm
union_arm (Some (def.Union tag encapsulated arms default)) z = selected arms default z
union_arm _ z = None

-- the path of the value of an arm: with the arm's name, if it has one
abbrev pub arm_path : List ℕ → Option (List ℕ) → List ℕ
arm_path p None = p
arm_path p (Some name) = member_path p name

-- the same where there is an arm that has a value
abbrev pub valued_path : List ℕ → Option (List ℕ) → Option TypeId → List (List ℕ)
valued_path p name None = []
valued_path p name (Some t) = arm_path p name ∷ []

abbrev pub armed_paths : List ℕ → Option Arm → List (List ℕ)
armed_paths p None = []
armed_paths p (Some a) = valued_path p a.name a.of

-- ## Cursors

-- The cursor is at a node of a home: `name` is the home's name, `paths` are the numbers and paths of all its nodes, `flats` the nodes.
pub record IsAt (table : Table) (name : List ℕ) (paths : List (ℕ × List ℕ)) (flats : List Flat) (c : Cursor) : Type 0 where
  pub left : Trees
  pub stepped : flat left ≡ flat_seen c.seen ∷ flat c.walk
  pub some : 0 < length (level_types c.top)
  pub begins : Begins table (types_from c.top (reverse c.below.items)) left
  pub all : count left ≡ length (types_from c.top (reverse c.below.items))
  pub paths_are : (m : ℕ) → c.node ≤ m
      → path_in paths m
      ≡ path_in (node_paths table (types_from c.top (reverse c.below.items)) (paths_from name c.top (reverse c.below.items)) c.node left) m
  pub flats_are : drop c.node flats ≡ flat left

-- A home has no node from this number on: no path, except the name of the home itself, and no text or context handle to show.
pub record IsPast (paths : List (ℕ × List ℕ)) (flats : List Flat) (n : ℕ) : Type 0 where
  pub no_path : (m : ℕ) → n ≤ m → 0 < m → path_in paths m ≡ []
  pub no_text : (m : ℕ) → n ≤ m → string_shown (label_in flats m) ≡ []
  pub no_context : (m : ℕ) → n ≤ m → context_shown (label_in flats m) ≡ []

-- a cursor at this node, or none where there is no such node
abbrev pub Reaches : Table → List ℕ → List (ℕ × List ℕ) → List Flat → ℕ → Option Cursor → Type 0
Reaches table name paths flats n None = IsPast paths flats n
Reaches table name paths flats n (Some c) = IsAt table name paths flats c × (c.node ≡ n)

-- ## Homes

-- the word of a root; of one past those of the side it is `root`
abbrev pub root_word : Option NamedRoot → List ℕ
root_word (Some r) = r.name
root_word None = codes "root"

-- the words of a home's name
abbrev pub name_text : HomeName → List ℕ
name_text (named.Word word) = word.now
name_text (named.Cell c) = 64 ∷ decimal c.0

-- what the values of a fit are read under
pub record IsSettingOf (i : Interface) (f : Fitting) (w : Setting) : Type 0 where
  pub operation : Operation
  pub is_there : slice_get i.operations f.op ≡ Some operation
  pub is : w ≡ setting_beside i operation f.side f.given

-- a cursor at a node of this home, with the home's name
pub record IsIn (w : Setting) (g : Graph) (f : Located) : Type 0 where
  pub name_is : name_text f.name ≡ home_name w f.home
  pub at_node : IsAt w.table (home_name w f.home) (home_paths w g f.home) (home_flats g f.home) f.cursor

-- the last place that was looked for, if any
abbrev pub IsLast : Setting → Graph → Option Located → Type 0
IsLast w g None = Unit {0}
IsLast w g (Some f) = IsIn w g f

-- a cursor at this node of this home, or none where there is no such node
abbrev pub IsFound : Setting → Graph → Home → ℕ → Option Located → Type 0
IsFound w g h n None = IsPast (home_paths w g h) (home_flats g h) n
IsFound w g h n (Some f) = (IsIn w g f × (f.home ≡ h)) × (f.cursor.node ≡ n)

-- a cursor at the first node of this home, or none where the home is not there
abbrev pub IsBegun : Setting → Graph → Home → Option Cursor → Type 0
IsBegun w g h result = Reaches w.table (home_name w h) (home_paths w g h) (home_flats g h) 0 result

-- an item that is no gap
abbrev pub IsNoGap : ItemKind → Type 0
IsNoGap kind.Gap = ⊥
IsNoGap _ = Unit {0}

-- the label of a node that was found
abbrev pub found_label : Option Located → Option Label
found_label None = None
found_label (Some f) = Some (flat_seen f.cursor.seen).0
