-- When octets are the fragments of a call, and where they are refused; what is joined of a source; and the fragments that stub data are split into.
use Rattle.std.specs.Prelude.{◌≡◌, ◌⊎◌, ℕ, ◌+◌, ◌-◌, ◌<◌, ◌^◌, zero, suc, Bool, true, false, if◌then◌else◌, nat_le, List, [], ◌∷◌, ◌++◌, length, take}
use Rattle.std.specs.Prelude.{drop, Option, Some, None, ⊤}
use Rattle.std.specs.Io.KnownBytes.{Consumes, IsAtEnd}
use Rattle.nd_base.specs.declared.octets.Order.{Order}
use Rattle.nd_base.specs.declared.octets.Order.TheVariants.{Big, Little}
use Rattle.nd_base.specs.Over.{SourceOver, HasRisen}
use Rattle.nd_types.specs.Number.{spelling}
use Rattle.rpc_pdu.specs.declared.pdu.Wanted.{Wanted}
use Rattle.rpc_pdu.specs.declared.pdu.Wanted.TheVariants.{Request, Response}
use Rattle.rpc_pdu.specs.declared.pdu.Opening.{Opening}
use Rattle.rpc_pdu.specs.declared.pdu.PduReason.{PduReason}
use Rattle.rpc_pdu.specs.declared.pdu.Joined.{Joined}
use Rattle.rpc_pdu.specs.declared.pdu.PduFault.{PduFault}
use Rattle.rpc_pdu.specs.declared.pdu.PduFault.TheVariants as fault
use Rattle.rpc_pdu.specs.declared.pdu.PduReason.TheVariants as why
use Rattle.rpc_pdu.specs.declared.header.CommonFields.{CommonFields}
use Rattle.rpc_pdu.specs.declared.pdu.Head.{Head}
use Rattle.rpc_pdu.specs.declared.pdu.Head.TheVariants as head
use Rattle.rpc_pdu.specs.Checks.{is_last, fragment_length, opening_of, Before, nothing, after, opened, refusal, short_at, order_of, call_id}
use Rattle.rpc_pdu.specs.Checks.{header_length, operation_in, Check, first_failing, common_checks, whole_by, type_of}

-- ## Fragments of a call

-- these octets are one whole fragment, which no check refuses
pub record IsFragment (want : Wanted) (s : Before) (os : List ℕ) : Type 0 where
  pub accepted : refusal want s os ≡ None
  pub whole : length os ≡ fragment_length os

-- These octets are whole fragments end to end, none of which is refused or has the last flag; and this stands before the next.
pub data AreEarlier (want : Wanted) : List ℕ → Before → Type 0 where
  none_earlier : AreEarlier want [] nothing
  one_more : (octets : List ℕ) (s : Before) (os : List ℕ) → AreEarlier want octets s → IsFragment want s os → is_last os ≡ false
      → AreEarlier want (octets ++ os) (after want s os)

-- Octets are the fragments of a call: whole fragments end to end, none of which is refused, with the last flag on the last alone. The order is that
-- of the first fragment's label, the call its call id, and the operation number that of a request. The stub data are those of the fragments in order.
pub record Fragments (octets : List ℕ) (want : Wanted) (order : Order) (call : ℕ) (opnum : Option ℕ) (stub : List ℕ) : Type 0 where
  pub earlier : List ℕ
  pub before : Before
  pub are_earlier : AreEarlier want earlier before
  pub last : List ℕ
  pub end_to_end : octets ≡ earlier ++ last
  pub is_fragment : IsFragment want before last
  pub is_last : is_last last ≡ true
  pub states : opened before.opening (opening_of want last) ≡ (record { order = order; call = call; opnum = opnum })
  pub stub_is : stub ≡ (after want before last).stub

-- a request has an operation number, and a response has none
abbrev pub HasNumber : Wanted → Option ℕ → Type 0
HasNumber Request opnum = (n : ℕ) × (opnum ≡ Some n)
HasNumber Response opnum = opnum ≡ None

-- Octets are refused at a place: first come whole fragments, none of which is refused or is the last, and in what follows them the first check that
-- fails is this.
pub record BadPdu (want : Wanted) (octets : List ℕ) (place : ℕ) (why : PduReason) : Type 0 where
  pub earlier : List ℕ
  pub before : Before
  pub are_earlier : AreEarlier want earlier before
  pub rest : List ℕ
  pub end_to_end : octets ≡ earlier ++ rest
  pub refused : refusal want before rest ≡ Some (place, why)

-- octets begin with the fragments of a call
pub record BeginsWithCall (want : Wanted) (octets : List ℕ) : Type 0 where
  pub call_octets : List ℕ
  pub rest : List ℕ
  pub order : Order
  pub call : ℕ
  pub opnum : Option ℕ
  pub stub : List ℕ
  pub split : octets ≡ call_octets ++ rest
  pub fragments : Fragments call_octets want order call opnum stub

-- Two calls are of the same octets, and say the same.
pub record SameCall (octets other : List ℕ) (order order' : Order) (call call' : ℕ) (opnum opnum' : Option ℕ) (stub stub' : List ℕ) : Type 0 where
  pub octets_same : octets ≡ other
  pub order_same : order ≡ order'
  pub call_same : call ≡ call'
  pub opnum_same : opnum ≡ opnum'
  pub stub_same : stub ≡ stub'

-- ## What is joined of a source, and why it is refused

-- `s` is the source over the call.

-- Octets were taken that are the fragments of a call, and no others.
pub record IsJoined (want : Wanted) (s : SourceOver) (j : Joined) : Type 0 where
  pub octets : List ℕ
  pub taken : Consumes s.left s.left_now octets
  pub count : length octets ≡ j.taken
  pub fragments : Fragments octets want j.order j.call j.opnum j.stub

-- the source has ended, and has nothing left
pub record HasEnded (s : SourceOver) : Type 0 where
  pub ended : s.ended_now ≡ true
  pub none_left : IsAtEnd s.left_now

-- whether more octets could have come: only octets that are too short are refused at the end
abbrev pub IsEnd : SourceOver → PduReason → Type 0
IsEnd s why.Short = HasEnded s
IsEnd s _ = ⊤

-- How many octets of the fragment that is refused are taken: those by which it is refused, which are the header that all PDUs have, or its whole
-- header. If it is too short, all that there are.
abbrev pub taken_to : Wanted → PduReason → List ℕ → ℕ
taken_to want why.Short os = length os
taken_to want why.OtherOperation os = header_length want os
taken_to want why.EmptyPiece os = header_length want os
taken_to want why.StubLong os = header_length want os
taken_to want _ os = 16

-- Octets were taken that are refused, whatever follows them; or they are too short, and nothing follows. They end with those by which the last
-- fragment is refused.
pub record IsRefused (want : Wanted) (s : SourceOver) (place : ℕ) (why : PduReason) : Type 0 where
  pub octets : List ℕ
  pub taken : Consumes s.left s.left_now octets
  pub bad : BadPdu want octets place why
  pub ends : length bad.rest ≡ taken_to want why bad.rest
  pub end : IsEnd s why

-- The source failed. The octets that were taken before are not refused: they only end too early.
pub record IsUnread (want : Wanted) (s : SourceOver) : Type 0 where
  pub octets : List ℕ
  pub taken : Consumes s.left s.left_now octets
  pub short : BadPdu want octets (length octets) why.Short
  pub failed : HasRisen s.faults

-- why fragments are not joined; running out of memory needs no cause
abbrev pub IsJoinCause : Wanted → SourceOver → PduFault → Type 0
IsJoinCause want s fault.Memory = ⊤
IsJoinCause want s fault.ReadFault = IsUnread want s
IsJoinCause want s (fault.Bad place why) = IsRefused want s place why

-- ### One fragment

-- so many octets were taken
pub record IsTaken (s : SourceOver) (count : ℕ) (os : List ℕ) : Type 0 where
  pub taken : Consumes s.left s.left_now os
  pub all : length os ≡ count

-- fewer octets came than were wanted at a place
pub record IsCut (s : SourceOver) (at count place : ℕ) (w : PduReason) : Type 0 where
  pub os : List ℕ
  pub taken : Consumes s.left s.left_now os
  pub fewer : length os < count
  pub there : place ≡ at + length os
  pub short : w ≡ why.Short
  pub end : HasEnded s

-- the source failed before as many octets came as were wanted
pub record IsFailed (s : SourceOver) (count : ℕ) : Type 0 where
  pub os : List ℕ
  pub taken : Consumes s.left s.left_now os
  pub fewer : length os < count
  pub failed : HasRisen s.faults

abbrev pub IsTakeCause : SourceOver → ℕ → ℕ → PduFault → Type 0
IsTakeCause s at count fault.Memory = ⊤
IsTakeCause s at count fault.ReadFault = IsFailed s count
IsTakeCause s at count (fault.Bad place why) = IsCut s at count place why

-- what the first 16 octets of a fragment state, of which no check fails
pub record IsSeen (want : Wanted) (b : Before) (head : List ℕ) (c : CommonFields) : Type 0 where
  pub passed : first_failing (common_checks want b head) ≡ None
  pub order : c.order ≡ order_of head
  pub call : c.call ≡ call_id head
  pub wide : c.fragment_length ≡ fragment_length head
  pub header : c.header_length ≡ header_length want head
  pub last : c.last ≡ is_last head

-- the check that failed is answered
abbrev pub IsBadBy : Option (ℕ × PduReason) → PduFault → Type 0
IsBadBy r (fault.Bad place why) = r ≡ Some (place, why)
IsBadBy r _ = ⊥

-- the checks of the whole header, by its common fields and the octets after them
abbrev pub rest_checks : Wanted → Option Opening → ℕ → ℕ → CommonFields → List ℕ → List Check
rest_checks want opening at so_far c rest =
    whole_by opening at so_far (operation_in want (short_at c.order 6 rest)) (c.fragment_length - c.header_length) c.last

-- what the first fragment states, which may be this one
abbrev pub IsStated : Option Opening → Option ℕ → CommonFields → Opening → Type 0
IsStated opening operation c o = o ≡ opened opening (record { order = c.order; call = c.call; opnum = operation })

-- one fragment was taken, and this stands after it
pub record IsWholeFragment (want : Wanted) (b : Before) (s : SourceOver) (next : Before) (last : Bool) : Type 0 where
  pub os : List ℕ
  pub taken : Consumes s.left s.left_now os
  pub fragment : IsFragment want b os
  pub last_is : is_last os ≡ last
  pub after_is : after want b os ≡ next

-- octets were taken which are refused as a fragment
pub record IsBadFragment (want : Wanted) (b : Before) (s : SourceOver) (place : ℕ) (why : PduReason) : Type 0 where
  pub os : List ℕ
  pub taken : Consumes s.left s.left_now os
  pub refused : refusal want b os ≡ Some (place, why)
  pub ends : length os ≡ taken_to want why os
  pub end : IsEnd s why

-- the source failed before a whole fragment came, and what came is not refused
pub record IsCutFragment (want : Wanted) (b : Before) (s : SourceOver) : Type 0 where
  pub os : List ℕ
  pub taken : Consumes s.left s.left_now os
  pub short : refusal want b os ≡ Some (b.at + length os, why.Short)
  pub failed : HasRisen s.faults

abbrev pub IsFragmentCause : Wanted → Before → SourceOver → PduFault → Type 0
IsFragmentCause want b s fault.Memory = ⊤
IsFragmentCause want b s fault.ReadFault = IsCutFragment want b s
IsFragmentCause want b s (fault.Bad place why) = IsBadFragment want b s place why

-- ## The fragments that stub data are split into

abbrev pub want_of : Head → Wanted
want_of (head.Request opnum) = Request
want_of head.Response = Response

abbrev pub opnum_of : Head → Option ℕ
opnum_of (head.Request opnum) = Some opnum
opnum_of head.Response = None

-- the operation number of a request fits its field
abbrev pub HeadFits : Head → Type 0
HeadFits (head.Request opnum) = opnum < 2 ^ 16
HeadFits head.Response = Unit {0}

-- the format label of an order, ASCII and IEEE
abbrev pub label_octets : Order → List ℕ
label_octets Big = 0 ∷ 0 ∷ 0 ∷ 0 ∷ []
label_octets Little = 16 ∷ 0 ∷ 0 ∷ 0 ∷ []

-- the flags: first is 1, last is 2
abbrev pub flags_for : Bool → Bool → ℕ
flags_for first last = (if first then 1 else 0) + (if last then 2 else 0)

-- the operation number of a request; the cancel count and the reserved octet of a response
abbrev pub head_octets : Order → Head → List ℕ
head_octets order (head.Request opnum) = spelling order 2 opnum
head_octets order head.Response = 0 ∷ 0 ∷ []

-- the header of a fragment: its flags, its length, and the allocation hint
abbrev pub header : Order → Head → ℕ → ℕ → ℕ → ℕ → List ℕ
header order head call flags wide hint =
    5 ∷ 0 ∷ type_of (want_of head) ∷ flags ∷ (label_octets order
    ++ (spelling order 2 wide
    ++ (0 ∷ 0 ∷ (spelling order 4 call
    ++ (spelling order 4 hint
    ++ (0 ∷ 0 ∷ head_octets order head))))))

-- one fragment of stub data of which there are `hint` octets in all
abbrev pub fragment : Order → Head → ℕ → ℕ → Bool → Bool → List ℕ → List ℕ
fragment order head call hint first last part = header order head call (flags_for first last) (24 + length part) hint ++ part

-- The fragments of stub data that have so many octets each; the last has the rest. At most so many are made.
abbrev pub pieces_from : ℕ → Order → Head → ℕ → ℕ → ℕ → Bool → List ℕ → List ℕ
pieces_from zero order head call hint size first stub = []
pieces_from (suc fuel) order head call hint size first stub =
    elim (nat_le (length stub) size) [
      | true ↦ fragment order head call hint first true stub
      | false ↦ fragment order head call hint first false (take size stub) ++ pieces_from fuel order head call hint size false (drop size stub)
    ]

-- the fragments of stub data, each with at most `max` octets
abbrev pub Pieces : Order → Head → ℕ → ℕ → List ℕ → List ℕ
Pieces order head call max stub = pieces_from (suc (length stub)) order head call (length stub) (max - 24) true stub
