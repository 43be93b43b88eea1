-- The calls among the PDUs of one side (C706 12.6). A client's calls are requests, which an orphaned PDU may stop, and binds and alter-contexts. A
-- server's are responses, which a fault may stop, and the answers to binds and alter-contexts. A fragment belongs to the open call of its call id.
use Rattle.std.specs.Prelude.{◌≡◌, ℕ, ◌+◌, ◌%◌, ◌^◌, length, Bool, true, false, not, ◌&&◌, ◌||◌, ◌==◌, nat_lt, bit_and, List}
use Rattle.std.specs.Prelude.{[], ◌∷◌, ◌++◌, Option, Some, None, slice_index}
use Rattle.rpc_stream.specs.declared.call.Peer.{Peer}
use Rattle.rpc_stream.specs.declared.call.Peer.TheVariants.{Client, Server}
use Rattle.rpc_stream.specs.declared.call.Pdu.{Pdu}
use Rattle.rpc_stream.specs.declared.call.Part.{Part}
use Rattle.rpc_stream.specs.declared.call.Part.TheVariants.{Sole, Opening, Middle, Closing, Stopping}
use Rattle.rpc_stream.specs.declared.call.Ended.{Ended}
use Rattle.rpc_stream.specs.declared.call.Ended.TheVariants.{Complete, CutOff, Stopped, Stray}
use Rattle.rpc_stream.specs.Pdus.{call_of}

-- ## The PDUs of a stream

-- with the place of each, where the first begins at `at`
abbrev pub placed : ℕ → List (List ℕ) → List Pdu
placed at [] = []
placed at (p ∷ ps) = record { at = at; octets = p } ∷ placed ((at + length p) % 2 ^ 64) ps

abbrev pub id_of : Pdu → ℕ
id_of p = call_of p.octets

-- ## What a PDU is to its call

abbrev pub part_by : Bool → Bool → Bool → Bool → Part
part_by true alone first last = Stopping
part_by false true first last = Sole
part_by false false true true = Sole
part_by false false true false = Opening
part_by false false false true = Closing
part_by false false false false = Middle

-- PDU types: orphaned is 19, fault is 3; binds, alter-contexts and their answers are 11 to 15, and have no fragments. Flags: the first fragment has
-- 1, the last has 2.
abbrev pub part_at : ℕ → ℕ → Part
part_at kind flags =
    part_by (kind == 19 || kind == 3) (nat_lt 10 kind && nat_lt kind 16) (not (bit_and flags 1 == 0)) (not (bit_and flags 2 == 0))

abbrev pub part_of : Pdu → Part
part_of p = part_at (slice_index p.octets 2) (slice_index p.octets 3)

-- ## The calls of one id

-- the fragments so far of the call that is open, if one is
abbrev pub Open : Type 0
Open = Option (List Pdu)

abbrev pub next_by : Open → Part → Pdu → Open
next_by None Sole p = None
next_by None Opening p = Some (p ∷ [])
next_by None Middle p = None
next_by None Closing p = None
next_by None Stopping p = None
next_by (Some g) Sole p = None
next_by (Some g) Opening p = Some (p ∷ [])
next_by (Some g) Middle p = Some (g ++ (p ∷ []))
next_by (Some g) Closing p = None
next_by (Some g) Stopping p = None

abbrev pub ended_by : Open → Part → Pdu → List Ended
ended_by None Sole p = Complete (p ∷ []) ∷ []
ended_by None Opening p = []
ended_by None Middle p = Stray p ∷ []
ended_by None Closing p = Stray p ∷ []
ended_by None Stopping p = Stopped [] p ∷ []
ended_by (Some g) Sole p = CutOff g ∷ (Complete (p ∷ []) ∷ [])
ended_by (Some g) Opening p = CutOff g ∷ []
ended_by (Some g) Middle p = []
ended_by (Some g) Closing p = Complete (g ++ (p ∷ [])) ∷ []
ended_by (Some g) Stopping p = Stopped g p ∷ []

abbrev pub next : Open → Pdu → Open
next s p = next_by s (part_of p) p

abbrev pub ended : Open → Pdu → List Ended
ended s p = ended_by s (part_of p) p

abbrev pub ended_all : Open → List Pdu → List Ended
ended_all s [] = []
ended_all s (p ∷ ps) = ended s p ++ ended_all (next s p) ps

abbrev pub open_after : Open → List Pdu → Open
open_after s [] = s
open_after s (p ∷ ps) = open_after (next s p) ps

-- ## The calls of all ids at once

-- the open call of each id
abbrev pub Ids : Type 0
Ids = ℕ → Open

abbrev pub nothing_open : ℕ → Open
nothing_open c = None

abbrev pub put_by : Bool → Open → Open → Open
put_by true s t = s
put_by false s t = t

abbrev pub put : Ids → ℕ → Open → ℕ → Open
put m d s c = put_by (d == c) s (m c)

-- what ends with each PDU, with the PDU's call id
abbrev pub run : Ids → List Pdu → List (ℕ × List Ended)
run m [] = []
run m (p ∷ ps) = (id_of p, ended (m (id_of p)) p) ∷ run (put m (id_of p) (next (m (id_of p)) p)) ps

-- what ends under one id
abbrev pub pick_by : Bool → List Ended → List Ended → List Ended
pick_by true es rest = es ++ rest
pick_by false es rest = rest

abbrev pub ended_of : ℕ → List (ℕ × List Ended) → List Ended
ended_of c [] = []
ended_of c (e ∷ es) = pick_by (e.0 == c) e.1 (ended_of c es)

-- the PDUs of one id, in order
abbrev pub keep_by : Bool → Pdu → List Pdu → List Pdu
keep_by true p ps = p ∷ ps
keep_by false p ps = ps

abbrev pub of_id : ℕ → List Pdu → List Pdu
of_id c [] = []
of_id c (p ∷ ps) = keep_by (id_of p == c) p (of_id c ps)

-- ## Which PDUs are parts of calls

-- whether PDUs of this type are parts of a side's calls. Not so: auth3, shutdown, cancel, and types that the other side sends.
abbrev pub in_calls : Peer → ℕ → Bool
in_calls Client kind = kind == 0 || (kind == 11 || (kind == 14 || kind == 19))
in_calls Server kind = kind == 2 || (kind == 3 || (kind == 12 || (kind == 13 || kind == 15)))

abbrev pub calls_of : Peer → List Pdu → List Pdu
calls_of side [] = []
calls_of side (p ∷ ps) = keep_by (in_calls side (slice_index p.octets 2)) p (calls_of side ps)

abbrev pub others_of : Peer → List Pdu → List Pdu
others_of side [] = []
others_of side (p ∷ ps) = keep_by (not (in_calls side (slice_index p.octets 2))) p (others_of side ps)

-- ## Interleaving

-- a list consists of two others, each in its order
pub data Woven : List Pdu → List Pdu → List Pdu → Type 0 where
  none_woven : Woven [] [] []
  from_left : (p : Pdu) (ls rs ps : List Pdu) → Woven ls rs ps → Woven (p ∷ ls) rs (p ∷ ps)
  from_right : (p : Pdu) (ls rs ps : List Pdu) → Woven ls rs ps → Woven ls (p ∷ rs) (p ∷ ps)

-- all PDUs, and none, have this call id
abbrev pub AllHave : ℕ → List Pdu → Type 0
AllHave c [] = Unit {0}
AllHave c (p ∷ ps) = ((id_of p == c) ≡ true) × AllHave c ps

abbrev pub NoneHas : ℕ → List Pdu → Type 0
NoneHas c [] = Unit {0}
NoneHas c (p ∷ ps) = ((id_of p == c) ≡ false) × NoneHas c ps

-- ## Which PDUs are reported

abbrev pub reported : Ended → List Pdu
reported (Complete g) = g
reported (CutOff g) = g
reported (Stopped g p) = g ++ (p ∷ [])
reported (Stray p) = p ∷ []

abbrev pub reported_all : List Ended → List Pdu
reported_all [] = []
reported_all (e ∷ es) = reported e ++ reported_all es

abbrev pub still_open : Open → List Pdu
still_open None = []
still_open (Some g) = g
