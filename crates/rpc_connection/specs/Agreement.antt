-- What a bind or alter-context and its answer agree on (C706 12.6.4.1 to 12.6.4.4): presentation contexts, by their numbers.
use Rattle.std.specs.Prelude.{ℕ, ◌+◌, ◌-◌, ◌*◌, ◌/◌, zero, suc, Bool, true, false, ◌&&◌, ◌||◌, ◌==◌, List, [], ◌∷◌, ◌++◌, take}
use Rattle.std.specs.Prelude.{drop, reverse, slice_index, Option, Some, None, nat_lt}
use Rattle.nd_base.specs.declared.octets.Order.{Order}
use Rattle.nd_base.specs.declared.octets.Order.TheVariants.{Big, Little}
use Rattle.rpc_pdu.specs.Checks.{order_of, short_at, long_at, fragment_length, authentication_length}

-- an interface or a transfer syntax: its UUID, as octets in the order in which it is written, and its version
pub record Syntax : Type 0 where
  pub uuid : List ℕ
  pub version : ℕ

abbrev pub slice : ℕ → ℕ → List ℕ → List ℕ
slice at n os = take n (drop at os)

-- a UUID in a PDU: a long and two shorts in its order of octets, and eight octets
abbrev pub uuid_at : Order → ℕ → List ℕ → List ℕ
uuid_at Big at os = slice at 16 os
uuid_at Little at os = reverse (slice at 4 os) ++ (reverse (slice (at + 4) 2 os) ++ (reverse (slice (at + 6) 2 os) ++ slice (at + 8) 8 os))

abbrev pub syntax_at : ℕ → List ℕ → Syntax
syntax_at at os = record { uuid = uuid_at (order_of os) at os; version = long_at (order_of os) (at + 16) os }

-- NDR, version 2
abbrev pub ndr : Syntax
ndr = record { uuid = 138 ∷ 136 ∷ 93 ∷ 4 ∷ 28 ∷ 235 ∷ 17 ∷ 201 ∷ 159 ∷ 232 ∷ 8 ∷ 0 ∷ 43 ∷ 16 ∷ 72 ∷ 96 ∷ []; version = 2 }

-- this many syntaxes, one after the other
abbrev pub syntaxes : ℕ → ℕ → List ℕ → List Syntax
syntaxes zero at os = []
syntaxes (suc n) at os = syntax_at at os ∷ syntaxes n (at + 20) os

-- ## What is asked

-- a context: its number, the interface, and the transfer syntaxes that are offered for it
pub record Asked : Type 0 where
  pub context : ℕ
  pub interface : Syntax
  pub offered : List Syntax

-- where the body of a PDU ends, before a security trailer
abbrev pub body_by : Bool → ℕ → ℕ → ℕ
body_by true wide auth = wide
body_by false wide auth = wide - (auth + 8)

abbrev pub body_end : List ℕ → ℕ
body_end os = body_by (authentication_length os == 0) (fragment_length os) (authentication_length os)

abbrev pub context_size : ℕ → List ℕ → ℕ
context_size at os = 24 + 20 * slice_index os (at + 2)

-- This many contexts from a place on. None if the body ends before one of them does.
abbrev pub asked_by : Bool → Asked → Option (List Asked) → Option (List Asked)
asked_by true a rest = None
asked_by false a None = None
asked_by false a (Some rest) = Some (a ∷ rest)

abbrev pub asked_from : ℕ → ℕ → List ℕ → Option (List Asked)
asked_from zero at os = Some []
asked_from (suc n) at os =
    asked_by (nat_lt (body_end os) (at + context_size at os))
    (record { context = short_at (order_of os) at os; interface = syntax_at (at + 4) os; offered = syntaxes (slice_index os (at + 2)) (at + 24) os })
    (asked_from n (at + context_size at os) os)

-- the contexts of a bind or alter-context, of which octet 24 says how many there are
abbrev pub asked : List ℕ → Option (List Asked)
asked os = asked_from (slice_index os 24) 28 os

-- ## What is answered

-- acceptance is 0
pub record Answered : Type 0 where
  pub result : ℕ
  pub transfer : Syntax

abbrev pub answered_from : ℕ → ℕ → List ℕ → List Answered
answered_from zero at os = []
answered_from (suc n) at os = record { result = short_at (order_of os) at os; transfer = syntax_at (at + 4) os } ∷ answered_from n (at + 24) os

-- where the results begin: after an address with its length at 24, at the next multiple of 4
abbrev pub results_at : List ℕ → ℕ
results_at os = (26 + short_at (order_of os) 24 os + 3) / 4 * 4

abbrev pub answered_by : Bool → List Answered → Option (List Answered)
answered_by true rs = None
answered_by false rs = Some rs

abbrev pub answered : List ℕ → Option (List Answered)
answered os =
    answered_by (nat_lt (body_end os) (results_at os + 4 + 24 * slice_index os (results_at os)))
    (answered_from (slice_index os (results_at os)) (results_at os + 4) os)

-- ## What both agree on

pub record Agreed : Type 0 where
  pub context : ℕ
  pub interface : Syntax
  pub transfer : Syntax

abbrev pub same_octets : List ℕ → List ℕ → Bool
same_octets [] [] = true
same_octets [] (b ∷ bs) = false
same_octets (a ∷ others) [] = false
same_octets (a ∷ others) (b ∷ bs) = (a == b) && same_octets others bs

abbrev pub same_syntax : Syntax → Syntax → Bool
same_syntax a b = same_octets a.uuid b.uuid && a.version == b.version

abbrev pub is_among : Syntax → List Syntax → Bool
is_among a [] = false
is_among a (b ∷ bs) = elim (same_syntax a b) [ true ↦ true | false ↦ is_among a bs ]

-- the k-th result answers the k-th context, and only a syntax that was offered is agreed on
abbrev pub agree_by : Bool → Asked → Syntax → List Agreed → List Agreed
agree_by true a t rest = record { context = a.context; interface = a.interface; transfer = t } ∷ rest
agree_by false a t rest = rest

abbrev pub agree : List Asked → List Answered → List Agreed
agree [] rs = []
agree (a ∷ qs) [] = []
agree (a ∷ qs) (r ∷ rs) = agree_by (r.result == 0 && is_among r.transfer a.offered) a r.transfer (agree qs rs)

abbrev pub agreed_by : Option (List Asked) → Option (List Answered) → List Agreed
agreed_by (Some qs) (Some rs) = agree qs rs
agreed_by None rs = []
agreed_by (Some qs) None = []

-- a bind, type 11, is answered by a bind_ack, 12; an alter-context, 14, by its response, 15
abbrev pub answers : ℕ → ℕ → Bool
answers question answer = (question == 11 && answer == 12) || (question == 14 && answer == 15)

abbrev pub agreed_if : Bool → List Agreed → List Agreed
agreed_if true both = both
agreed_if false both = []

abbrev pub agreed : List ℕ → List ℕ → List Agreed
agreed question answer =
    agreed_if (answers (slice_index question 2) (slice_index answer 2)) (agreed_by (asked question) (answered answer))

-- the first agreement on a context
abbrev pub found : ℕ → List Agreed → Option Agreed
found c [] = None
found c (a ∷ rest) = elim (a.context == c) [ true ↦ Some a | false ↦ found c rest ]
