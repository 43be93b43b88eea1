-- What a turn may take for granted: at the state before it, and of the octets that came.
-- `m` is the machine before the turn.
use Rattle.std.proofs.Common.{◌≡◌, ◌<◌, ◌+◌, ◌^◌, List, length, Some, sym, ◌∙◌, subst, arith}
use Rattle.std.specs.Prelude.{slice_get}
use Rattle.std.proofs.lemmas.Option.{same_Some}
use Rattle.ndr_code.specs.declared.instr.Instr.{Instr}
use Rattle.ndr_decoder_laws.specs.steps.Steps.{State, IsInner}
use Rattle.ndr_decoder_laws.specs.runs.Reaching.{IsSafe}
use Rattle.ndr_decoder_state.specs.Seen.{state_of}
use Rattle.ndr_decoder_state.specs.declared.machine.Machine.{Machine}
use Rattle.ndr_decoder_value.proofs.Noting.{cell_count}

pub inner_here : (code : List Instr) (s : State) (i : Instr) → IsSafe code s → slice_get code s.pc ≡ Some i → IsInner i
inner_here code s i safe there = subst IsInner (same_Some safe.i i (sym safe.there ∙ there)) safe.inner

pub count_fits : (code : List Instr) (m : Machine) → IsSafe code (state_of m) → m.count + 4096 < 2 ^ 32
count_fits code m safe =
    let few : length m.builder.nodes + 8192 < 2 ^ 32 = safe.few_nodes in
    let counted : m.count ≡ length m.builder.nodes = m.counted in
    omega (arith, few, counted)

pub cells_fit : (code : List Instr) (m : Machine) → IsSafe code (state_of m) → m.cells + 1 < 2 ^ 32
cells_fit code m safe =
    let few : length (state_of m).cells + 1 < 2 ^ 32 = safe.few_cells in
    let counted : length (state_of m).cells ≡ m.cells = cell_count m in
    omega (arith, few, counted)
