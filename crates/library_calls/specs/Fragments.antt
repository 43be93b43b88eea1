-- The fragments that octets in memory begin with, and why they are refused. `octets` are all that are given.
use Rattle.std.specs.Prelude.{◌≡◌, ℕ, List, ◌++◌, length, ⊤}
use Rattle.rpc_pdu.specs.declared.pdu.Joined.{Joined}
use Rattle.rpc_pdu.specs.declared.pdu.Wanted.{Wanted}
use Rattle.rpc_pdu.specs.Fragments as pdu
use Rattle.command_refusals.specs.declared.refusal.FragmentsFault.TheVariants.{Refused}
use Rattle.command_refusals.specs.declared.refusal.Refusal.{Refusal}
use Rattle.command_refusals.specs.declared.refusal.Refusal.TheVariants.{Memory, BadPdu}

-- So many octets at the front are the fragments of a call.
pub record IsJoinedOf (want : Wanted) (octets : List ℕ) (j : Joined) : Type 0 where
  pub front : List ℕ
  pub rest : List ℕ
  pub parts : octets ≡ front ++ rest
  pub taken_is : length front ≡ j.taken
  pub fragments : pdu.Fragments front want j.order j.call j.opnum j.stub

-- why fragments are refused: the first check that fails; running out of memory needs no cause
abbrev pub IsFragmentsCause : Wanted → List ℕ → Refusal → Type 0
IsFragmentsCause want octets Memory = ⊤
IsFragmentsCause want octets (BadPdu place (Refused why)) = pdu.BadPdu want octets place why
IsFragmentsCause want octets _ = ⊥
