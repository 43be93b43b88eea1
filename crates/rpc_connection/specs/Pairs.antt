-- Which answer belongs to which question: under each call id the k-th answer to the k-th question, up to an orphaned PDU.
use Rattle.std.specs.Prelude.{◌≡◌, ℕ, zero, suc, Bool, true, false, not, ◌&&◌, ◌==◌, bit_and, List, [], ◌∷◌, ◌++◌, Option, Some, None, slice_index}
use Rattle.rpc_stream.specs.declared.call.Peer.{Peer}
use Rattle.rpc_stream.specs.declared.call.Peer.TheVariants.{Client, Server}
use Rattle.rpc_stream.specs.declared.call.Pdu.{Pdu}
use Rattle.rpc_stream.specs.declared.call.Ended.{Ended}
use Rattle.rpc_stream.specs.declared.call.Ended.TheVariants.{Complete, CutOff, Stopped, Stray}
use Rattle.rpc_stream.specs.Calls.{Open, ended_all, open_after, of_id, calls_of}

-- ## Questions and answers of one id

-- a request that wants no answer has the flag 64 on its first fragment
abbrev pub wants_none : List Pdu → Bool
wants_none [] = true
wants_none (p ∷ ps) = (slice_index p.octets 2 == 0) && not (bit_and (slice_index p.octets 3) 64 == 0)

-- what ended on the client's side is a question or not; and an orphaned PDU may stop it
pub data Ask : Type 0 where
  asks : Ask
  asks_none : Ask
  asks_last : Ask
  stops : Ask

abbrev pub ask_by : Bool → Ask
ask_by true = asks_none
ask_by false = asks

abbrev pub stop_by : Bool → Ask
stop_by true = stops
stop_by false = asks_last

abbrev pub ask_of : Ended → Ask
ask_of (Complete g) = ask_by (wants_none g)
ask_of (CutOff g) = ask_by (wants_none g)
ask_of (Stopped g p) = stop_by (wants_none g)
ask_of (Stray p) = asks_none

-- what ended on the server's side is an answer, unless it is a Stray
abbrev pub without_strays : List Ended → List Ended
without_strays [] = []
without_strays (Complete g ∷ es) = Complete g ∷ without_strays es
without_strays (CutOff g ∷ es) = CutOff g ∷ without_strays es
without_strays (Stopped g p ∷ es) = Stopped g p ∷ without_strays es
without_strays (Stray p ∷ es) = without_strays es

-- the call that is open is the last of its id, and counts as cut off
abbrev pub left_over : Open → List Ended
left_over None = []
left_over (Some g) = CutOff g ∷ []

abbrev pub all_of : List Pdu → List Ended
all_of own = ended_all None own ++ left_over (open_after None own)

abbrev pub replies : List Pdu → List Ended
replies own = without_strays (all_of own)

-- the PDUs of an id that are parts of calls
abbrev pub own_of : Peer → ℕ → List Pdu → List Pdu
own_of side c ps = of_id c (calls_of side ps)

-- ## Pairs

pub record Exchange : Type 0 where
  pub question : Option Ended
  pub reply : Option Ended

abbrev pub exchange : Option Ended → Option Ended → Exchange
exchange q r = record { question = q; reply = r }

abbrev pub head : List Ended → Option Ended
head [] = None
head (e ∷ es) = Some e

abbrev pub tail : List Ended → List Ended
tail [] = []
tail (e ∷ es) = es

abbrev pub asked_alone : List Ended → List Exchange
asked_alone [] = []
asked_alone (q ∷ qs) =
    elim (ask_of q) [
      | asks ↦ exchange (Some q) None ∷ asked_alone qs
      | asks_none ↦ asked_alone qs
      | asks_last ↦ exchange (Some q) None ∷ asked_alone qs
      | stops ↦ asked_alone qs
    ]

abbrev pub answered_alone : List Ended → List Exchange
answered_alone [] = []
answered_alone (r ∷ rs) = exchange None (Some r) ∷ answered_alone rs

-- A question that an orphaned PDU Stopped may be answered or not: what follows it under its id is not paired.
abbrev pub paired : List Ended → List Ended → List Exchange
paired [] rs = answered_alone rs
paired (q ∷ qs) rs =
    elim (ask_of q) [
      | asks ↦ exchange (Some q) (head rs) ∷ paired qs (tail rs)
      | asks_none ↦ paired qs rs
      | asks_last ↦ exchange (Some q) (head rs) ∷ (asked_alone qs ++ answered_alone (tail rs))
      | stops ↦ asked_alone qs ++ answered_alone rs
    ]

abbrev pub exchanges : ℕ → List Pdu → List Pdu → List Exchange
exchanges c client server = paired (all_of (own_of Client c client)) (replies (own_of Server c server))

-- the number among the questions of an id of the next one, after what ended; none after an orphaned PDU
abbrev pub next_number : List Ended → ℕ → Option ℕ
next_number [] k = Some k
next_number (q ∷ qs) k =
    elim (ask_of q) [
      | asks ↦ next_number qs (suc k)
      | asks_none ↦ next_number qs k
      | asks_last ↦ None
      | stops ↦ None
    ]
