-- The fields of a PDU of a request or a response (C706 12.6), and the checks of a fragment.
use Rattle.std.specs.Prelude.{ℕ, ◌+◌, ◌-◌, zero, suc, Bool, true, false, not, ◌&&◌, ◌==◌, nat_lt, List, [], ◌∷◌, ◌++◌, length, take, drop, Option}
use Rattle.std.specs.Prelude.{Some, None, slice_index, bit_and, Result, Ok, Err}
use Rattle.nd_base.specs.declared.octets.Order.{Order}
use Rattle.nd_base.specs.declared.octets.Order.TheVariants.{Big, Little}
use Rattle.nd_base.specs.declared.TheConstants.{STREAM_LIMIT}
use Rattle.nd_types.specs.Number.{unsigned}
use Rattle.ndr_prim.specs.declared.label.LabelFault.{LabelFault}
use Rattle.ndr_prim.specs.Label.{order_of_label}
use Rattle.rpc_pdu.specs.declared.pdu.Wanted.{Wanted}
use Rattle.rpc_pdu.specs.declared.pdu.Wanted.TheVariants.{Request, Response}
use Rattle.rpc_pdu.specs.declared.pdu.Opening.{Opening}
use Rattle.rpc_pdu.specs.declared.pdu.PduReason.{PduReason}
use Rattle.rpc_pdu.specs.declared.pdu.PduReason.TheVariants as why

-- ## The fields of a PDU

-- `os` are octets that begin with the PDU, and may go on after it.

-- the unsigned short and the unsigned long that begin at an octet
abbrev pub short_at : Order → ℕ → List ℕ → ℕ
short_at order k os = unsigned order (slice_index os k ∷ slice_index os (k + 1) ∷ [])

abbrev pub long_at : Order → ℕ → List ℕ → ℕ
long_at order k os = unsigned order (slice_index os k ∷ slice_index os (k + 1) ∷ slice_index os (k + 2) ∷ slice_index os (k + 3) ∷ [])

-- ### The header that all PDUs have: 16 octets

abbrev pub version : List ℕ → ℕ
version os = slice_index os 0

abbrev pub pdu_type : List ℕ → ℕ
pdu_type os = slice_index os 2

abbrev pub flags : List ℕ → ℕ
flags os = slice_index os 3

-- whether these flags have a flag
abbrev pub has : ℕ → ℕ → Bool
has flag fs = not (bit_and fs flag == 0)

-- the flags of the first fragment, of the last, and of a request that has an object UUID
abbrev pub is_first : List ℕ → Bool
is_first os = has 1 (flags os)

abbrev pub is_last : List ℕ → Bool
is_last os = has 2 (flags os)

abbrev pub has_object : List ℕ → Bool
has_object os = has 128 (flags os)

-- the format label, and the order of octets that it states; where it is refused, this order is asked of no one
abbrev pub label : List ℕ → List ℕ
label os = slice_index os 4 ∷ slice_index os 5 ∷ slice_index os 6 ∷ slice_index os 7 ∷ []

abbrev pub stated : Result Order LabelFault → Order
stated (Ok order) = order
stated (Err fault) = Little

abbrev pub order_of : List ℕ → Order
order_of os = stated (order_of_label (label os))

-- how many octets the fragment has, and its authentication data
abbrev pub fragment_length : List ℕ → ℕ
fragment_length os = short_at (order_of os) 8 os

abbrev pub authentication_length : List ℕ → ℕ
authentication_length os = short_at (order_of os) 10 os

abbrev pub call_id : List ℕ → ℕ
call_id os = long_at (order_of os) 12 os

-- ### What requests and responses have besides

-- the type of a PDU
abbrev pub type_of : Wanted → ℕ
type_of Request = 0
type_of Response = 2

-- how many octets the header has: a request may have an object UUID
abbrev pub header_by : Wanted → Bool → ℕ
header_by Request true = 40
header_by Request false = 24
header_by Response object = 24

abbrev pub header_length : Wanted → List ℕ → ℕ
header_length want os = header_by want (has_object os)

-- the operation number: a request has one
abbrev pub operation_in : Wanted → ℕ → Option ℕ
operation_in Request n = Some n
operation_in Response n = None

abbrev pub operation_of : Wanted → List ℕ → Option ℕ
operation_of want os = operation_in want (short_at (order_of os) 22 os)

-- how many octets of stub data the fragment has, and these
abbrev pub part_length : Wanted → List ℕ → ℕ
part_length want os = fragment_length os - header_length want os

abbrev pub part_of : Wanted → List ℕ → List ℕ
part_of want os = take (part_length want os) (drop (header_length want os) os)

-- what the first fragment states for all of a call
abbrev pub opening_of : Wanted → List ℕ → Opening
opening_of want os = record { order = order_of os; call = call_id os; opnum = operation_of want os }

-- ## The checks of a fragment, in their order

-- `s` is what stands before the fragment, `os` are the octets from its first on, to the end of the stream.

-- What stands before a fragment: what the first fragment states, if there is one, the octets and the stub data so far.
pub record Before : Type 0 where
  pub opening : Option Opening
  pub at : ℕ
  pub stub : List ℕ

-- before the first
abbrev pub nothing : Before
nothing = record { opening = None; at = 0; stub = [] }

abbrev pub before : Option Opening → ℕ → List ℕ → Before
before opening at stub = record { opening = opening; at = at; stub = stub }

-- what is stated is that of the first fragment
abbrev pub opened : Option Opening → Opening → Opening
opened None own = own
opened (Some first) own = first

-- what stands before the next
abbrev pub after : Wanted → Before → List ℕ → Before
after want s os = record {
  opening = Some (opened s.opening (opening_of want os));
  at = s.at + fragment_length os;
  stub = s.stub ++ part_of want os;
}

-- one check: whether it fails, and the place and reason that are answered then
pub record Check : Type 0 where
  pub fails : Bool
  pub place : ℕ
  pub why : PduReason

abbrev pub check : Bool → ℕ → PduReason → Check
check fails place why = record { fails = fails; place = place; why = why }

abbrev pub first_failing : List Check → Option (ℕ × PduReason)
first_failing [] = None
first_failing (c ∷ cs) = elim c.fails [ true ↦ Some (c.place, c.why) | false ↦ first_failing cs ]

abbrev pub is_refused : Result Order LabelFault → Bool
is_refused (Ok order) = false
is_refused (Err fault) = true

abbrev pub same_order : Order → Order → Bool
same_order Big Big = true
same_order Little Little = true
same_order Big Little = false
same_order Little Big = false

-- whether a flag of a first fragment is where it should not be, or is not where it should be
abbrev pub wrong_first : Option Opening → Bool → Bool
wrong_first None first = not first
wrong_first (Some o) first = first

-- whether a fragment states something else than the first
abbrev pub other_order : Option Opening → Order → Bool
other_order None order = false
other_order (Some o) order = not (same_order o.order order)

abbrev pub other_call : Option Opening → ℕ → Bool
other_call None call = false
other_call (Some o) call = not (o.call == call)

abbrev pub differ : Option ℕ → Option ℕ → Bool
differ (Some n) (Some m) = not (n == m)
differ _ _ = false

abbrev pub other_operation : Option Opening → Option ℕ → Bool
other_operation None operation = false
other_operation (Some o) operation = differ o.opnum operation

-- all octets that a header or fragment of this length has are there
abbrev pub is_short : Before → ℕ → List ℕ → Check
is_short s wide os = check (nat_lt (length os) wide) (s.at + length os) why.Short

-- the checks of the header that all PDUs have
abbrev pub common_checks : Wanted → Before → List ℕ → List Check
common_checks want s os =
    check (not (version os == 5)) s.at why.Version
    ∷ check (not (pdu_type os == type_of want)) (s.at + 2) why.Kind
    ∷ check (wrong_first s.opening (is_first os)) (s.at + 3) why.Flags
    ∷ check (is_refused (order_of_label (label os))) (s.at + 4) why.Label
    ∷ check (other_order s.opening (order_of os)) (s.at + 4) why.OtherOrder
    ∷ check (nat_lt (fragment_length os) (header_length want os)) (s.at + 8) why.Length
    ∷ check (not (authentication_length os == 0)) (s.at + 10) why.Auth
    ∷ check (other_call s.opening (call_id os)) (s.at + 12) why.OtherCall
    ∷ []

-- the checks of the whole header: by how many octets the stub data have so far, the operation number, how many octets of stub data the fragment
-- has, and whether it is the last
abbrev pub whole_by : Option Opening → ℕ → ℕ → Option ℕ → ℕ → Bool → List Check
whole_by opening at so_far operation part last =
    check (other_operation opening operation) (at + 22) why.OtherOperation
    ∷ check (part == 0 && not last) (at + 8) why.EmptyPiece
    ∷ check (nat_lt STREAM_LIMIT (so_far + part)) (at + 8) why.StubLong
    ∷ []

abbrev pub whole_checks : Wanted → Before → List ℕ → List Check
whole_checks want s os = whole_by s.opening s.at (length s.stub) (operation_of want os) (part_length want os) (is_last os)

-- all checks
abbrev pub checks : Wanted → Before → List ℕ → List Check
checks want s os =
    is_short s 16 os
    ∷ (common_checks want s os
    ++ (is_short s (header_length want os) os
    ∷ (whole_checks want s os
    ++ (is_short s (fragment_length os) os
    ∷ []))))

-- the place and reason of the first check that fails
abbrev pub refusal : Wanted → Before → List ℕ → Option (ℕ × PduReason)
refusal want s os = first_failing (checks want s os)
