-- What a side keeps of its open calls, and what it reports of each PDU, within limits.
use Rattle.std.specs.Prelude.{ℕ, ◌+◌, ◌-◌, ◌≤◌, ◌==◌, suc, Bool, true, false, ◌&&◌, nat_le, List, [], ◌∷◌, ◌++◌, length, Some, None, slice_index}
use Rattle.rpc_stream.specs.declared.call.Peer.{Peer}
use Rattle.rpc_stream.specs.declared.call.Pdu.{Pdu}
use Rattle.rpc_stream.specs.declared.call.Part.{Part}
use Rattle.rpc_stream.specs.declared.call.Part.TheVariants.{Sole, Opening, Middle, Closing, Stopping}
use Rattle.rpc_stream.specs.declared.call.Ended.{Ended}
use Rattle.rpc_stream.specs.declared.call.Ended.TheVariants.{Complete, CutOff, Stopped, Stray}
use Rattle.rpc_stream.specs.Calls.{id_of, part_of, Open, Ids, nothing_open, put, in_calls, pick_by}
use Rattle.rpc_side.specs.declared.report.Limits.{Limits}
use Rattle.rpc_side.specs.declared.report.Limit.TheVariants.{Calls, Octets}
use Rattle.rpc_side.specs.declared.report.Report.{Report}
use Rattle.rpc_side.specs.declared.report.Report.TheVariants.{CallEnded, Passed, Other}

-- how many octets fragments have
abbrev pub size : List Pdu → ℕ
size [] = 0
size (p ∷ ps) = length p.octets + size ps

-- The open calls by their ids, how many they are, and how many octets their fragments have.
pub record Kept : Type 0 where
  pub by_id : Ids
  pub calls : ℕ
  pub octets : ℕ

abbrev pub nothing_kept : Kept
nothing_kept = record { by_id = nothing_open; calls = 0; octets = 0 }

-- what is kept after a PDU, and what is reported of it
pub record Step : Type 0 where
  pub kept : Kept
  pub reports : List Report

abbrev pub step_to : Kept → List Report → Step
step_to k rs = record { kept = k; reports = rs }

-- ## What is kept

-- the call of an id ended
abbrev pub without : ℕ → List Pdu → Kept → Kept
without c g k = record { by_id = put k.by_id c None; calls = k.calls - 1; octets = k.octets - size g }

-- its first fragment came
abbrev pub begun : ℕ → Pdu → Kept → Kept
begun c p k = record { by_id = put k.by_id c (Some (p ∷ [])); calls = suc k.calls; octets = k.octets + length p.octets }

-- another fragment came
abbrev pub grown : ℕ → List Pdu → Pdu → Kept → Kept
grown c g p k = record { by_id = put k.by_id c (Some (g ++ (p ∷ []))); calls = k.calls; octets = k.octets + length p.octets }

-- ## One PDU

-- the fragment can be kept with those of its call, and with those of all open calls
abbrev pub fits : Limits → List Pdu → Pdu → Kept → Bool
fits limits g p k = nat_le (length p.octets) (limits.octets - k.octets) && nat_le (length p.octets) (limits.octets - size g)

-- a first fragment begins a call, if one more may be open and the fragment fits
abbrev pub begin_by : Bool → Bool → ℕ → Pdu → Kept → Step
begin_by true fitting c p k = step_to k (Passed c Calls [] p ∷ [])
begin_by false true c p k = step_to (begun c p k) []
begin_by false false c p k = step_to k (Passed c Octets [] p ∷ [])

abbrev pub begin_call : Limits → ℕ → Pdu → Kept → Step
begin_call limits c p k = begin_by (nat_le limits.calls k.calls) (fits limits [] p k) c p k

-- a fragment is added to a call, if it fits
abbrev pub grow_by : Bool → ℕ → List Pdu → Pdu → Kept → Step
grow_by true c g p k = step_to (grown c g p k) []
grow_by false c g p k = step_to (without c g k) (Passed c Octets g p ∷ [])

abbrev pub after_report : Report → Step → Step
after_report r s = step_to s.kept (r ∷ s.reports)

-- The call `c` has these fragments, or is not open, and this PDU of it comes.
abbrev pub step_by : Limits → ℕ → Open → Part → Pdu → Kept → Step
step_by limits c None Sole p k = step_to k (CallEnded c (Complete (p ∷ [])) ∷ [])
step_by limits c None Opening p k = begin_call limits c p k
step_by limits c None Middle p k = step_to k (CallEnded c (Stray p) ∷ [])
step_by limits c None Closing p k = step_to k (CallEnded c (Stray p) ∷ [])
step_by limits c None Stopping p k = step_to k (CallEnded c (Stopped [] p) ∷ [])
step_by limits c (Some g) Sole p k = step_to (without c g k) (CallEnded c (CutOff g) ∷ (CallEnded c (Complete (p ∷ [])) ∷ []))
step_by limits c (Some g) Opening p k = after_report (CallEnded c (CutOff g)) (begin_call limits c p (without c g k))
step_by limits c (Some g) Middle p k = grow_by (fits limits g p k) c g p k
step_by limits c (Some g) Closing p k = step_to (without c g k) (CallEnded c (Complete (g ++ (p ∷ []))) ∷ [])
step_by limits c (Some g) Stopping p k = step_to (without c g k) (CallEnded c (Stopped g p) ∷ [])

abbrev pub step_call : Limits → Pdu → Kept → Step
step_call limits p k = step_by limits (id_of p) (k.by_id (id_of p)) (part_of p) p k

abbrev pub step_if : Bool → Limits → Pdu → Kept → Step
step_if true limits p k = step_call limits p k
step_if false limits p k = step_to k (Other p ∷ [])

abbrev pub step : Peer → Limits → Pdu → Kept → Step
step peer limits p k = step_if (in_calls peer (slice_index p.octets 2)) limits p k

-- ## All PDUs

abbrev pub kept_after : Peer → Limits → Kept → List Pdu → Kept
kept_after peer limits k [] = k
kept_after peer limits k (p ∷ ps) = kept_after peer limits (step peer limits p k).kept ps

abbrev pub reports_of : Peer → Limits → Kept → List Pdu → List Report
reports_of peer limits k [] = []
reports_of peer limits k (p ∷ ps) = (step peer limits p k).reports ++ reports_of peer limits (step peer limits p k).kept ps

-- ## Within the limits

pub record IsWithin (limits : Limits) (k : Kept) : Type 0 where
  pub calls : k.calls ≤ limits.calls
  pub octets : k.octets ≤ limits.octets

-- no limit was passed
abbrev pub NonePassed : List Report → Type 0
NonePassed [] = Unit {0}
NonePassed (CallEnded c how ∷ rs) = NonePassed rs
NonePassed (Passed c limit g p ∷ rs) = ⊥
NonePassed (Other p ∷ rs) = NonePassed rs

-- how calls of an id ended
abbrev pub ended_under : ℕ → List Report → List Ended
ended_under c [] = []
ended_under c (CallEnded d how ∷ rs) = pick_by (d == c) (how ∷ []) (ended_under c rs)
ended_under c (Passed d limit g p ∷ rs) = ended_under c rs
ended_under c (Other p ∷ rs) = ended_under c rs

-- the PDUs that are parts of no calls
abbrev pub other_pdus : List Report → List Pdu
other_pdus [] = []
other_pdus (CallEnded c how ∷ rs) = other_pdus rs
other_pdus (Passed c limit g p ∷ rs) = other_pdus rs
other_pdus (Other p ∷ rs) = p ∷ other_pdus rs
