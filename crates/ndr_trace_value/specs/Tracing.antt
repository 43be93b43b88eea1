-- What a walk over the items of a log comes to.
-- `k` are the octets with the partial graph in which they are refused, `u` what the walk is given, `p` how far it came, `s` where a node is, `ms`
-- are the entries that are due, agreements apart.
use Rattle.std.specs.Prelude.{◌≡◌, ◌⊎◌, ◌<◌, ◌≤◌, ◌+◌, ◌-◌, ◌^◌, ℕ, ℤ, pos, Bool, true, false, List, [], ◌∷◌, ◌++◌, drop, length, reverse, take}
use Rattle.std.specs.Prelude.{IsSome, Option, None, Some, ◌==◌, nat_lt, option_map}
use Rattle.std.specs.List.{slice_get}
use Rattle.nd_base.specs.declared.octets.Order.{Order}
use Rattle.nd_types.specs.Number.{AreOctets}
use Rattle.nd_value.specs.declared.item.Home.{Home}
use Rattle.nd_value.specs.declared.item.Item.{Item}
use Rattle.nd_value.specs.declared.item.ItemKind.{ItemKind}
use Rattle.nd_value.specs.declared.item.ItemKind.TheVariants as item
use Rattle.nd_value.specs.declared.value.Graph.{Graph}
use Rattle.nd_value.specs.Deferral.{Pending as Pointer}
use Rattle.nd_value.specs.Setting.{Setting, cell_home}
use Rattle.nd_value.specs.Tree as tree
use Rattle.nd_value.specs.Tree.{Label}
use Rattle.nd_grammar.specs.Entry.{Actual, Align, Chunk, Context, Entry, EntryAt, Kind, Max, Num, Number, Offset, Tag, Test, Text, Unread, end_to_end}
use Rattle.nd_grammar.specs.Stream.{IsNumber, IsNumbering}
use Rattle.ndr_prim.specs.Context.{attributes_of, identifier_of}
use Rattle.text_grammar.specs.Paths.{home_types}
use Rattle.text_grammar.specs.Written.{quoted_text}
use Rattle.text_printer.specs.Texts.{context_text}
use Rattle.ndr_explain.specs.Cursors.{Place, level_place, name_text, path_to}
use Rattle.ndr_explain.specs.Explained.{context_shown, explanation_over, home_flats, home_paths, label_in, path_in, string_shown}
use Rattle.ndr_trace_value.specs.Due.{Stops}
use Rattle.ndr_trace_value.specs.Untested.{is_test}
use Rattle.ndr_trace_value.specs.declared.pointers.PointerSpot.{PointerSpot}
use Rattle.ndr_trace_value.specs.declared.progress.Ground.{Ground}
use Rattle.ndr_trace_value.specs.declared.progress.Progress.{Progress}
use Rattle.ndr_trace_value.specs.declared.progress.Spot.{Spot}
use Rattle.ndr_trace_value.specs.declared.search.Sought.{Sought}
use Rattle.ndr_trace_value.specs.LastMembers.{counted_path, counted_variable, whole_types}
use Rattle.ndr_trace_value.specs.Places.{home_place, member_variable}
use Rattle.ndr_trace_value.specs.Traces.{entry_path, NamesAlone}

-- Octets that are refused at an entry of the stream of a partial graph, and the log of the items before it.
pub record Known : Type 0 where
  pub setting : Setting
  pub graph : Graph
  pub order : Order
  pub fetched : List ℕ
  pub numbering : ℕ → ℕ
  -- the cells that full pointers of the whole stream name
  pub full : List ℕ
  pub here : EntryAt
  pub log : List Item
  -- the index in the log of the count or tag that a failed agreement speaks of
  pub sought : Option ℕ

-- the kind of the item that is sought
abbrev pub kind_in : List Item → Option ℕ → Option ItemKind
kind_in log None = None
kind_in log (Some j) = option_map (λ (i : Item). i.kind) (slice_get log j)

-- what a walk is given: these octets, and maybe others after them, with their log
pub record IsGround (k : Known) (u : Ground) : Type 0 where
  pub more : List ℕ
  pub octets : u.octets.now ≡ k.fetched ++ more
  pub items : u.items.now.items ≡ k.log
  pub order : u.order ≡ k.order
  pub table : u.interface.now.types ≡ k.setting.table
  -- an agreement is sought exactly where one fails
  pub sought : IsSome u.sought → is_test k.here.entry.kind ≡ true
  pub seeks : is_test k.here.entry.kind ≡ true → IsSome u.sought
  pub sought_is : option_map (λ s. s.item) u.sought ≡ k.sought
  pub kind_is : option_map (λ s. s.kind) u.sought ≡ kind_in k.log k.sought
  pub no_gap : (j : ℕ) → k.sought ≡ Some j → (i : Item) → slice_get k.log j ≡ Some i → i.kind ≡ item.Gap → ⊥
  pub are_octets : AreOctets k.fetched
  -- within the limit of a stream there are no more
  pub few : length u.items.now.items < 2 ^ 32
  pub is_numbering : IsNumbering k.numbering k.full

-- the path of the value that has the count or tag which an item is
abbrev pub sought_path : Known → Option Item → List ℕ
sought_path k None = []
sought_path k (Some i) =
    counted_path k.setting.table i.kind (home_types k.setting k.graph i.home) (path_in (home_paths k.setting k.graph i.home) i.node)

-- the path of the variable that states the count or tag which an item is, if a member of a struct has it
abbrev pub sought_variable : Known → Option Item → List ℕ
sought_variable k None = []
sought_variable k (Some i) =
    counted_variable k.setting.table i.kind (home_types k.setting k.graph i.home) (path_in (home_paths k.setting k.graph i.home) i.node)
    (home_place k.setting k.graph i.home i.node)

-- what is kept of the item that is sought, once it is among the first items of the log
abbrev pub kept_by : (Option Item → List ℕ) → List Item → Option ℕ → ℕ → List ℕ
kept_by its log None n = []
kept_by its log (Some j) n = elim (nat_lt j n) [ true ↦ its (slice_get log j) | false ↦ [] ]

abbrev pub kept : Known → ℕ → List ℕ
kept k n = kept_by (sought_path k) k.log k.sought n

abbrev pub kept_variable : Known → ℕ → List ℕ
kept_variable k n = kept_by (sought_variable k) k.log k.sought n

-- the path of the variable of an attribute that speaks of an item of this kind, of the member with this path
abbrev pub kind_variable : Option ItemKind → List ℕ → Place → List ℕ
kind_variable None p x = []
kind_variable (Some m) p x = member_variable m p x

-- the same of what is sought, where a pointer is
abbrev pub pointer_variable : Known → Home → ℕ → List ℕ
pointer_variable k h n = kind_variable (kind_in k.log k.sought) (path_in (home_paths k.setting k.graph h) n) (home_place k.setting k.graph h n)

abbrev pub spot_of : Known → Home → ℕ → PointerSpot
spot_of k h n = record { home = h; node = n; variable = pointer_variable k h n }

-- Where a walk is at the value of a cell that a pointer names alone, it is known where the pointer is.
abbrev pub IsFrom : Known → Home → Option PointerSpot → Type 0
IsFrom k h from =
    (p : Pointer) (c : ℕ) → NamesAlone k.setting k.graph p c → h ≡ cell_home c → from ≡ Some (spot_of k p.home p.node)

-- the same of the home of what is sought, once it is among the first items of the log
abbrev pub KeptFrom : Known → ℕ → Option PointerSpot → Type 0
KeptFrom k n from = (j : ℕ) (i : Item) → k.sought ≡ Some j → slice_get k.log j ≡ Some i → j < n → IsFrom k i.home from

-- the item of this index is at a place
abbrev pub IsAt : List Item → ℕ → ℕ → Type 0
IsAt log n place = (i : Item) × (slice_get log n ≡ Some i) × (i.at ≡ place)

-- the next item is the one that is sought
abbrev pub is_sought : Option Sought → ℕ → Bool
is_sought None n = false
is_sought (Some s) n = s.item == n

abbrev pub either_path : Bool → List ℕ → List ℕ → List ℕ
either_path true p q = p
either_path false p q = q

abbrev pub either_from : Bool → Option PointerSpot → Option PointerSpot → Option PointerSpot
either_from true p q = p
either_from false p q = q

-- The items so far have their lines, and then these entries are due.
pub record IsTracing (k : Known) (p : Progress) (ms : List Entry) : Type 0 where
  pub within : p.next ≤ length k.log
  pub lines : p.lines ≡ explanation_over k.setting k.graph k.fetched (take p.next k.log)
  pub path : p.path ≡ kept k p.next
  pub variable : p.variable ≡ kept_variable k p.next
  pub from : KeptFrom k p.next p.from
  pub due : Stops k.order k.fetched k.numbering k.here (end_to_end p.at ms) (drop p.next k.log)

-- All items have their lines, and the path is that of the entry at which reading stopped; if it stopped at an agreement, that of the value which has
-- the count or tag that is sought.
pub record IsEnded (k : Known) (p : Progress) : Type 0 where
  pub lines : p.lines ≡ explanation_over k.setting k.graph k.fetched k.log
  pub path : ((is_test k.here.entry.kind ≡ true) × (p.path ≡ kept k (length k.log)))
      ⊎ ((is_test k.here.entry.kind ≡ false) × (p.path ≡ entry_path k.setting k.graph k.here.entry))
  pub variable : p.variable ≡ kept_variable k (length k.log)
  pub from : KeptFrom k (length k.log) p.from

-- The levels of a node have the path of its number, which is n, and say which member of a struct it is. If a pointer names its home alone, it is
-- known where this pointer is.
pub record IsSpot (k : Known) (s : Spot) (n : ℕ) : Type 0 where
  pub path : path_to (name_text s.name) (s.top ∷ reverse s.below.now.items) ≡ path_in (home_paths k.setting k.graph s.home) n
  pub place : level_place s.top ≡ home_place k.setting k.graph s.home n
  pub from : IsFrom k s.home s.from.now

-- an entry of a node
abbrev pub entry_at : Spot → ℕ → Kind → Entry
entry_at s n x = record { home = s.home; node = n; kind = x }

-- ## Items

-- a kind that is an item wherever it is
abbrev pub IsItem : Kind → Type 0
IsItem (Align n) = ⊥
IsItem (Test a wanted found) = ⊥
IsItem Unread = ⊥
IsItem _ = Unit {0}

-- a count
abbrev pub IsCount : Kind → Type 0
IsCount (Max v) = Unit {0}
IsCount (Offset t v) = Unit {0}
IsCount (Actual t offset limit v) = Unit {0}
IsCount (Chunk v) = Unit {0}
IsCount (Number class to cell) = Unit {0}
IsCount _ = ⊥

-- a count, as an item holds it
abbrev pub IsCounted : ℤ → ℕ → Type 0
IsCounted z v = (z ≡ pos v) × (v < 2 ^ 32)

-- the number that an item holds is that of its entry, of a pointer one that its cell may have
abbrev pub Holds : Known → Kind → ℤ → Type 0
Holds k (Max v) z = IsCounted z v
Holds k (Offset t v) z = IsCounted z v
Holds k (Actual t offset limit v) z = IsCounted z v
Holds k (Chunk v) z = IsCounted z v
Holds k (Number class to cell) z = (n : ℕ) × (IsCounted z n × IsNumber k.numbering class cell n)
Holds k (Num p values v) z = z ≡ v
Holds k (Tag p values arms default v) z = z ≡ v
Holds k _ z = Unit {0}

-- the same of a count
abbrev pub HoldsCount : Known → Kind → ℕ → Type 0
HoldsCount k (Max v) n = n ≡ v
HoldsCount k (Offset t v) n = n ≡ v
HoldsCount k (Actual t offset limit v) n = n ≡ v
HoldsCount k (Chunk v) n = n ≡ v
HoldsCount k (Number class to cell) n = IsNumber k.numbering class cell n
HoldsCount k _ n = Unit {0}

-- the node of a text or a context handle is what its entry says
abbrev pub HasLabel : Known → Home → ℕ → Kind → Type 0
HasLabel k h n (Text octets) = (max : ℕ) × (label_in (home_flats k.graph h) n ≡ Some (tree.Text max octets))
HasLabel k h n (Context attributes id) = label_in (home_flats k.graph h) n ≡ Some (tree.Context attributes id)
HasLabel k h n _ = Unit {0}

-- where a maximum count is due, the walk is at the home's own value
abbrev pub IsInFront : Known → Spot → Kind → Type 0
IsInFront k s (Max v) = whole_types s.top ≡ home_types k.setting k.graph s.home
IsInFront k s _ = Unit {0}

-- What a label shows of an item that is a text or a context handle is what its octets hold.
abbrev pub IsShown : Ground → Item → ItemKind → Option Label → Type 0
IsShown u i item.Text l = (0 < i.len) × (i.at + i.len ≤ length u.octets.now)
    × (string_shown l ≡ quoted_text (take (i.len - 1) (drop i.at u.octets.now)))
IsShown u i item.Context l = (i.at + 20 ≤ length u.octets.now)
    × (context_shown l
    ≡ context_text (attributes_of u.order (take 20 (drop i.at u.octets.now))) (identifier_of u.order (take 20 (drop i.at u.octets.now))))
IsShown u i _ l = Unit {0}
