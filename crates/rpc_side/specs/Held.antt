-- How the code holds what a side keeps.
use Rattle.std.specs.Prelude.{◌≡◌, ℕ, nat_eq, List, [], ◌∷◌, ◌++◌, Option, Some, None, option_map}
use Rattle.indexmap.specs.IndexMap.{IndexMap, get, index_map_len}
use Rattle.rpc_stream.specs.declared.call.Pdu.{Pdu}
use Rattle.rpc_side.specs.declared.calls.OpenCall.{OpenCall}
use Rattle.rpc_side.specs.declared.calls.OpenCalls.{OpenCalls}
use Rattle.rpc_side.specs.declared.report.Report.{Report}
use Rattle.rpc_side.specs.declared.report.Reports.{Reports}
use Rattle.rpc_side.specs.declared.report.Reports.TheVariants.{Nothing, One, Two}
use Rattle.rpc_side.specs.Kept.{Kept, size, without, grown, Step}

-- how many octets the fragments of an open call have
abbrev pub octets_at : {S : Type 0} → IndexMap ℕ OpenCall S → ℕ → Option ℕ
octets_at entries c = option_map (λ v. v.octets) (get nat_eq entries c)

abbrev pub open_call : List Pdu → OpenCall
open_call g = record { fragments = g; octets = size g }

-- the list has the open calls that are kept
pub record Keeps (t : OpenCalls) (k : Kept) : Type 0 where
  pub each : (c : ℕ) → get nat_eq t.entries c ≡ option_map open_call (k.by_id c)
  pub count : index_map_len t.entries ≡ k.calls
  pub octets : t.octets ≡ k.octets

-- the fragments of a call were taken out, if it was open
abbrev pub let_go : ℕ → Option (List Pdu) → Kept → Kept
let_go c None k = k
let_go c (Some g) k = without c g k

pub record TakesOut (k : Kept) (c : ℕ) (taken : Option (List Pdu)) (t : OpenCalls) : Type 0 where
  pub was : k.by_id c ≡ taken
  pub kept : Keeps t (let_go c taken k)

-- a fragment was added to an open call
pub record Grows (k : Kept) (c : ℕ) (p : Pdu) (t : OpenCalls) : Type 0 where
  pub fragments : List Pdu
  pub was : k.by_id c ≡ Some fragments
  pub kept : Keeps t (grown c fragments p k)

-- the last fragment was added to an open call, and its fragments were taken out
pub record Closes (k : Kept) (c : ℕ) (p : Pdu) (taken : List Pdu) (t : OpenCalls) : Type 0 where
  pub fragments : List Pdu
  pub was : k.by_id c ≡ Some fragments
  pub taken_is : taken ≡ fragments ++ (p ∷ [])
  pub kept : Keeps t (without c fragments k)

-- the reports in order
abbrev pub listed : Reports → List Report
listed Nothing = []
listed (One report) = report ∷ []
listed (Two report other) = report ∷ (other ∷ [])

-- the report that waits
abbrev pub due_of : Option Report → List Report
due_of None = []
due_of (Some report) = report ∷ []

-- a step was made
pub record IsStep (s : Step) (r : Reports) (t : OpenCalls) : Type 0 where
  pub kept : Keeps t s.kept
  pub reports : listed r ≡ s.reports
