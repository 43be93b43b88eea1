-- What a state of the decoder means to the plain reader: from this state on, whatever octets follow those that were fetched, it comes to the same as
-- from the beginning of the home.
-- `fetched` are the octets so far, `own` the type of the home `h`, `target` what the plain reader gives for the home, by all octets, `limit` how many
-- values nest in place: 32, and one more within a pipe. `noted` are the items of the entries so far, `direct` is how many roots that are reference
-- pointers have their referents so far.
use Rattle.std.specs.Prelude.{◌≡◌, ◌≤◌, ◌<◌, ℕ, ◌+◌, ◌-◌, zero, suc, ℤ, true, false, not, ◌==◌, List, [], ◌∷◌, ◌++◌, length, map, Option, Some, None}
use Rattle.std.specs.List.{AllByRecursion, slice_get}
use Rattle.nd_base.specs.declared.octets.Order.{Order}
use Rattle.nd_base.specs.declared.TheConstants.{STREAM_LIMIT}
use Rattle.nd_types.specs.declared.types.Attr.{Attr}
use Rattle.nd_value.specs.declared.item.Home.{Home}
use Rattle.nd_value.specs.declared.item.Item.{Item}
use Rattle.nd_value.specs.Deferral.{Pending, home_pointers}
use Rattle.nd_value.specs.Tree as tree
use Rattle.nd_value.specs.Tree.{Tree, Trees, node, none, more, Flat, flat, Label}
use Rattle.nd_grammar.specs.Entry.{EntryAt, size_at}
use Rattle.nd_grammar.specs.Items.{items}
use Rattle.nd_grammar.specs.Reader.{Names, Read, numbered, tree_nodes}
use Rattle.nd_types.specs.Table.{Table, width}
use Rattle.nd_types.specs.Number.{value_of_octets}
use Rattle.nd_grammar.specs.Refusal.{is_enumerator, is_other, tested_at}
use Rattle.ndr_decoder_laws.specs.verdict.CellsSeen.{CellsSeen}
use Rattle.ndr_code.specs.declared.instr.Instr.{Instr}
use Rattle.ndr_code.specs.Code.{whole_at}
use Rattle.ndr_refs.specs.declared.referents.Known.{Known}
use Rattle.ndr_refs.specs.Known.{known}
use Rattle.ndr_decoder_laws.specs.reader.Around.{Around, going, stopped, finish, nodes_around, pointers, pointers_around}
use Rattle.ndr_decoder_laws.specs.reader.Points.{Point, TagForm, hoisting, counting, offset_read as at_offset, text_offset, text_counted, tagged}
use Rattle.ndr_decoder_laws.specs.reader.Points.{between, checking, has, read_at, held, nodes_at, pointers_at, NumberedAt, TiedAt}
use Rattle.ndr_decoder_laws.specs.declared.frame.Frame.{Frame}
use Rattle.ndr_decoder_laws.specs.declared.frame.Frame.TheVariants as frame
use Rattle.ndr_decoder_laws.specs.steps.Spots.{Spot, InsideAt, FitsAt}
use Rattle.ndr_decoder_laws.specs.declared.first.First.{First}
use Rattle.ndr_decoder_laws.specs.declared.first.Member.{Member}
use Rattle.ndr_decoder_laws.specs.steps.Steps.{State, Outcome, goes, refused, whole, Owed, Phase, Place, Want, no_octets, gap_of, item_of, begun}
use Rattle.ndr_decoder_laws.specs.steps.Steps.{gap_read, offset_read, count_read, no_place, offset_before, counts_at, place_of, place_in, first_of}

-- a pending referent as the decoder keeps it
abbrev pub owed : Table → Pending → Owed
owed table p = record { class = p.class; to = p.to; run = whole_at table p.to; cell = p.cell; agreements = p.agreements }

-- ## The members of open structs

-- members of these types, from a node on: their first nodes, and how many pointers come before each
abbrev pub members_of : Table → Home → ℕ → List ℕ → ℕ → Trees → List Member
members_of table h pending types n none = []
members_of table h pending [] n (more t ts) = []
members_of table h pending (u ∷ us) n (more t ts) =
    record { node = n; pending = pending }
    ∷ members_of table h (pending + length (pointers table h (u ∷ []) n (more t none))) us (n + tree_nodes t) ts

abbrev pub read_members : Table → Home → Label → Around → List Around → List Member
read_members table h tree.Rec f fs = members_of table h (length (pointers_around table h fs)) f.before (f.node + 1) f.done
read_members table h l f fs = []

-- the member that is being read
abbrev pub open_member : Table → Home → Label → Around → List Around → List Member
open_member table h tree.Rec f fs = record { node = f.next; pending = length (pointers_around table h (f ∷ fs)) } ∷ []
open_member table h l f fs = []

abbrev pub members_around : Table → Home → List Around → List Member
members_around table h [] = []
members_around table h (f ∷ fs) = members_around table h fs ++ (read_members table h f.label f fs ++ open_member table h f.label f fs)

abbrev pub members_at : Table → Home → Point → List Around → List Member
members_at table h (between f) fs = members_around table h fs ++ read_members table h f.label f fs
members_at table h (checking f so_far tests) fs = members_around table h fs ++ read_members table h f.label f fs
members_at table h _ fs = members_around table h fs

-- the frame of a struct says where its members begin
abbrev pub BeginsAt : ℕ → Frame → Type 0
BeginsAt n (frame.Record back first) = first ≡ n
BeginsAt n _ = Unit {0}

abbrev pub Begin : Table → Home → Frame → List Frame → List Around → Type 0
Begin table h top stack [] = Unit {0}
Begin table h top [] (f ∷ fs) = ⊥
Begin table h top (outer ∷ under) (f ∷ fs) = BeginsAt (length (members_around table h fs)) top × Begin table h outer under fs

abbrev pub BeginStruct : Table → Home → Frame → List Frame → List Around → Type 0
BeginStruct table h top [] fs = ⊥
BeginStruct table h top (outer ∷ under) fs = BeginsAt (length (members_around table h fs)) top × Begin table h outer under fs

abbrev pub BeginAt : Table → Home → Point → Frame → List Frame → List Around → Type 0
BeginAt table h (between f) top stack fs = BeginStruct table h top stack fs
BeginAt table h (checking f so_far tests) top stack fs = BeginStruct table h top stack fs
BeginAt table h _ top stack fs = Begin table h top stack fs

-- ## Registers

abbrev pub phase_at : Point → Phase
phase_at (counting t) = gap_read
phase_at (at_offset t d max elem o) = offset_read o
phase_at (text_offset t max) = offset_read 0
phase_at (text_counted t max c) = count_read c
phase_at _ = begun

-- a maximum count has no place before it is read; the tag that was read is kept
abbrev pub HasRegisters : Point → State → Type 0
HasRegisters (hoisting t) s = s.max_at ≡ None
HasRegisters (counting t) s = s.max_at ≡ None
HasRegisters (tagged t d form arms default z) s = (s.tag ≡ z) × (s.carrier ≡ form.prim)
HasRegisters _ s = Unit {0}

-- The octets that were fetched last are those of a tag of this value, which is an enumerator if its type is enumerated, and ends within the limit of
-- a stream.
pub record HeldTag (order : Order) (fetched : List ℕ) (at : ℕ) (form : TagForm) (z : ℤ) : Type 0 where
  pub before : List ℕ
  pub os : List ℕ
  pub all : fetched ≡ before ++ os
  pub reached : length before ≡ at
  pub size : length os ≡ width form.prim
  pub value : value_of_octets order form.prim os ≡ z
  pub listed : is_enumerator form.values z ≡ true
  pub short : at + width form.prim ≤ STREAM_LIMIT

abbrev pub Holds : Order → List ℕ → ℕ → Point → Type 0
Holds order fetched at (tagged t d form arms default z) = HeldTag order fetched at form z
Holds order fetched at _ = Unit {0}

-- where the counts are of the node that is being read, where a part of them was read
abbrev pub half_at : Point → ℕ → List Place
half_at (at_offset t d max elem o) at = offset_before at ∷ []
half_at (text_offset t max) at = offset_before at ∷ []
half_at (text_counted t max c) at = counts_at (at - 4) ∷ []
half_at _ at = []

abbrev pub place_at : List Place → ℕ → Place
place_at [] n = no_place
place_at (p ∷ ps) zero = p
place_at (p ∷ ps) (suc n) = no_place

-- How many members have no first node yet: the one that is due in the innermost struct.
abbrev pub due_member : Frame → ℕ
due_member (frame.Record back first) = 1
due_member _ = 0

abbrev pub unread_at : Point → Frame → ℕ
unread_at (between f) top = 0
unread_at (checking f so_far tests) top = 0
unread_at (has t v) top = 0
unread_at _ top = due_member top

-- What is kept of a node is right: it is what that node says, and the place of its count or tag is where agreements find it.
pub record Kept (h : Home) (seen : List EntryAt) (max_at : Option ℕ) (nodes : List Flat) (n : ℕ) (x : First) : Type 0 where
  pub is : Flat
  pub place : Option ℕ
  pub there : slice_get nodes n ≡ Some is
  pub kept : x ≡ first_of is place
  pub found : (a : Attr) → tested_at seen a h n ≡ place_of a max_at (place_in x)

-- the home's own first node is kept, where it was read
abbrev pub OwnIn : List Around → Type 0 → Type 0
OwnIn [] kept = Unit {0}
OwnIn (f ∷ fs) kept = kept

abbrev pub OwnAt : Point → List Around → Type 0 → Type 0
OwnAt (between f) fs kept = kept
OwnAt (checking f so_far tests) fs kept = kept
OwnAt (has t v) fs kept = kept
OwnAt _ fs kept = OwnIn fs kept

-- Numbers of full pointers: the table has for each what the plain reader's names and its search through earlier entries say.
abbrev pub IsKnownAs : Order → List ℕ → List EntryAt → Names → ℕ → Option Known → Type 0
IsKnownAs order octets seen names v None = (numbered names.numbers v ≡ None) × ((to : ℕ) → is_other order octets seen v to ≡ false)
IsKnownAs order octets seen names v (Some k) =
    (numbered names.numbers v ≡ Some k.cell.0) × ((to : ℕ) → is_other order octets seen v to ≡ not (k.of.0 == to))

-- ## Cells

-- The cells, of which there are `n`: those that the entries seen named, and the referents of `direct` roots that are reference pointers. The numbers
-- that are known are of cells among them.
pub record HasCells (seen : List EntryAt) (numbers : List (ℕ × Known)) (n direct : ℕ) : Type 0 where
  pub named : CellsSeen seen n direct
  pub there : AllByRecursion (λ (x : ℕ × Known). x.1.cell.0 ≤ n) numbers

-- ## The state

-- What the state keeps of the entries seen: the types of the cells and the numbers of full pointers. All of them lie within the octets fetched, and
-- their items are those noted. Of nodes from number `n` on they have no count or tag but these.
pub record Told (noted : List Item) (direct : ℕ) (order : Order) (fetched : List ℕ) (h : Home) (seen : List EntryAt) (names : Names) (cells : List ℕ)
    (numbers : List (ℕ × Known)) (max_at : Option ℕ) (n : ℕ) (half : List Place) : Type 0 where
  pub cells_are : cells ≡ map (λ c. c.of) names.cells
  pub cells_named : HasCells seen numbers (length cells) direct
  pub numbers_are : (v : ℕ) → 0 < v → IsKnownAs order fetched seen names v (known v numbers)
  pub ahead : (a : Attr) (j : ℕ) → tested_at seen a h (n + j) ≡ place_of a max_at (place_at half j)
  pub noted_are : items order fetched seen ≡ noted
  pub lie_within : AllByRecursion (λ (x : EntryAt). x.at + size_at x.at x.entry.kind ≤ length fetched) seen

pub record Good (order : Order) (fetched : List ℕ) (code : List Instr) (table : Table) (h : Home) (own limit : ℕ) (noted : List Item) (direct : ℕ)
    (target : List ℕ → Read) (s : State) : Type 0 where
  pub depth : ℕ
  pub fs : List Around
  pub point : Point
  pub seen : List EntryAt
  pub names : Names
  pub deep : depth + length fs ≡ limit
  -- where the code and the stack are
  pub spot : Spot code table h s.max depth s.pc point
  pub phase : s.phase ≡ phase_at point
  pub registers : HasRegisters point s
  pub inside : InsideAt code table point s.top s.stack fs
  pub begin : BeginAt table h point s.top s.stack fs
  pub fits : FitsAt code table depth point fs
  pub tied : TiedAt own point fs
  -- what was read
  pub nodes : s.nodes ≡ nodes_at point fs
  pub numbered : NumberedAt point fs
  pub members : s.members ≡ members_at table h point fs
  pub pending : s.fresh ≡ map (owed table) (pointers_at table h point fs)
  -- what is kept of first nodes
  pub many : length s.firsts + unread_at point s.top ≡ length s.members
  pub kept : (i : ℕ) (m : Member) (x : First) → slice_get s.members i ≡ Some m → slice_get s.firsts i ≡ Some x → Kept h seen s.max_at s.nodes m.node x
  pub first : OwnAt point fs ((x : First) × (s.own ≡ Some x) × Kept h seen s.max_at s.nodes 0 x)
  -- the octets fetched end where the state is, but for a tag that is not passed yet
  pub reached : length fetched ≡ s.at + held point
  pub holds : Holds order fetched s.at point
  pub told : Told noted direct order fetched h seen names s.cells s.numbers s.max_at (length s.nodes) (half_at point s.at)
  -- whatever follows, the plain reader comes from here to what it comes to from the beginning
  pub rest : (later : List ℕ)
      → finish order (fetched ++ later) table h s.max depth fs
      (read_at order (fetched ++ later) table h s.max depth point (length (nodes_around fs)) (going s.at seen) names)
      ≡ target (fetched ++ later)

-- The home's value is whole: this is what the plain reader gives, whatever follows.
pub record Whole (order : Order) (fetched : List ℕ) (table : Table) (h : Home) (own : ℕ) (noted : List Item) (direct : ℕ) (target : List ℕ → Read)
    (s : State) : Type 0 where
  pub v : Tree
  pub seen : List EntryAt
  pub names : Names
  pub nodes : s.nodes ≡ flat (more v none)
  pub pending : s.fresh ≡ map (owed table) (home_pointers table h own v)
  pub first : (x : First) × (s.own ≡ Some x) × Kept h seen s.max_at s.nodes 0 x
  pub reached : length fetched ≡ s.at
  pub told : Told noted direct order fetched h seen names s.cells s.numbers s.max_at (length s.nodes) []
  pub is : (later : List ℕ) → record { tree = v; progress = going s.at seen; names = names } ≡ target (fetched ++ later)

-- What a step comes to, at this place and after these entries, is right, with these items noted after it: a refusal is that of the plain reader,
-- whatever follows.
abbrev pub IsRight : Order → List ℕ → List Instr → Table → Home → ℕ → ℕ → List Item → ℕ → (List ℕ → Read) → ℕ → List EntryAt → Outcome → Type 0
IsRight order fetched code table h own limit noted direct target at seen (goes s) = Good order fetched code table h own limit noted direct target s
IsRight order fetched code table h own limit noted direct target at seen (refused place why) =
    (later : List ℕ) → (target (fetched ++ later)).progress ≡ stopped at seen (place, why)
IsRight order fetched code table h own limit noted direct target at seen (whole s) = Whole order fetched table h own noted direct target s

-- The octets that a step wants, where they are all there: so many, and of an item not past the limit of a stream.
abbrev pub HasOctets : Want → List ℕ → ℕ → Type 0
HasOctets no_octets os at = os ≡ []
HasOctets (gap_of n) os at = length os ≡ n
HasOctets (item_of n) os at = (length os ≡ n) × (at + n ≤ STREAM_LIMIT)

-- Fewer octets than a step wants, which the source ended after; an item not past the limit.
abbrev pub IsCut : Want → List ℕ → ℕ → Type 0
IsCut no_octets os at = ⊥
IsCut (gap_of n) os at = length os < n
IsCut (item_of n) os at = (length os < n) × (at + n ≤ STREAM_LIMIT)

-- An item that would end past the limit of a stream.
abbrev pub IsTooLong : Want → ℕ → Type 0
IsTooLong no_octets at = ⊥
IsTooLong (gap_of n) at = ⊥
IsTooLong (item_of n) at = STREAM_LIMIT < at + n

-- The state at the beginning of a home's value: nothing of it was read, and no entry so far is of it.
pub record IsBegun (noted : List Item) (direct : ℕ) (order : Order) (fetched : List ℕ) (h : Home) (seen : List EntryAt) (names : Names)
    (s : State) : Type 0 where
  pub phase : s.phase ≡ begun
  pub max : s.max ≡ 0
  pub max_at : s.max_at ≡ None
  pub top : s.top ≡ frame.Home
  pub stack : s.stack ≡ []
  pub nodes : s.nodes ≡ []
  pub members : s.members ≡ []
  pub firsts : s.firsts ≡ []
  pub fresh : s.fresh ≡ []
  pub reached : length fetched ≡ s.at
  pub told : Told noted direct order fetched h seen names s.cells s.numbers s.max_at (length s.nodes) []
