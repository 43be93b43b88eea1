-- A side of whose stream these octets have come, and of which these reports were handed out.
use Rattle.std.specs.Prelude.{◌≡◌, ℕ, ◌+◌, ◌%◌, ◌^◌, List, [], ◌∷◌, ◌++◌, length, Option, Some, None}
use Rattle.rpc_stream.specs.declared.stated.First.TheVariants.{Whole}
use Rattle.rpc_stream.specs.Pdus.{first_of, joined, AllPdus, Cut}
use Rattle.rpc_stream.specs.Calls.{placed}
use Rattle.rpc_side.specs.declared.report.Report.{Report}
use Rattle.rpc_side.specs.declared.side.Side.{Side}
use Rattle.rpc_side.specs.Kept.{nothing_kept, kept_after, reports_of}
use Rattle.rpc_side.specs.Held.{Keeps, due_of}

-- where the PDU after these begins, if the first of them begins at `at`
abbrev pub place_after : ℕ → List (List ℕ) → ℕ
place_after at [] = at
place_after at (p ∷ ps) = place_after ((at + length p) % 2 ^ 64) ps

-- The stream is PDUs, of each of which a step was made, and then what is pending: a part of a PDU, one PDU, or what is refused.
pub record Stands (stream : List ℕ) (handed : List Report) (s : Side) : Type 0 where
  pub pdus : List (List ℕ)
  pub whole : stream ≡ joined pdus ++ s.cutter
  pub each : AllPdus pdus
  pub most_one : (n : ℕ) → first_of s.cutter ≡ Whole n → n ≡ length s.cutter
  pub at : s.at ≡ place_after 0 pdus
  pub kept : Keeps s.calls (kept_after s.peer s.limits nothing_kept (placed 0 pdus))
  pub reported : handed ++ due_of s.due ≡ reports_of s.peer s.limits nothing_kept (placed 0 pdus)

-- All reports of the stream were handed out, and the rest of its cut is pending.
pub record IsThrough (stream : List ℕ) (handed : List Report) (s : Side) : Type 0 where
  pub stands : Stands stream handed s
  pub pdus : List (List ℕ)
  pub cut : Cut stream pdus s.cutter
  pub all : handed ≡ reports_of s.peer s.limits nothing_kept (placed 0 pdus)

-- the next report is handed out, or there is none
abbrev pub Goes : List ℕ → List Report → Option Report → Side → Type 0
Goes stream handed (Some r) s = Stands stream (handed ++ (r ∷ [])) s
Goes stream handed None s = IsThrough stream handed s
