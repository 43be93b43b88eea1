-- Reading fragments one after the other, from any octets: what is found, or where they are refused.
use Rattle.std.specs.Prelude.{ℕ, ◌+◌, suc, zero, Bool, true, false, List, [], ◌++◌, length, drop, Option, Some, None}
use Rattle.rpc_pdu.specs.declared.pdu.Wanted.{Wanted}
use Rattle.rpc_pdu.specs.declared.pdu.PduReason.{PduReason}
use Rattle.rpc_pdu.specs.declared.pdu.PduReason.TheVariants as why
use Rattle.rpc_pdu.specs.Checks.{is_last, fragment_length, Before, nothing, after, refusal}

pub data Verdict : Type 0 where
  found : Before → Verdict
  refused_at : ℕ → PduReason → Verdict

-- Reads at most so many fragments. Each has at least 24 octets, so there are fewer than there are octets.
abbrev pub read_from : Wanted → ℕ → Before → List ℕ → Verdict
read_from want zero s os = refused_at (s.at + length os) why.Short
read_from want (suc fuel) s os =
    elim (refusal want s os) [
      | Some r ↦ refused_at r.0 r.1
      | None ↦ elim (is_last os) [
        | true ↦ found (after want s os)
        | false ↦ read_from want fuel (after want s os) (drop (fragment_length os) os)
      ]
    ]

abbrev pub read : Wanted → List ℕ → Verdict
read want octets = read_from want (suc (length octets)) nothing octets
