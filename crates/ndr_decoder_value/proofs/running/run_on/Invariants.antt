use Rattle.std.proofs.Common.{◌≡◌, ◌≤◌}
use Rattle.nd_base.specs.Over.{source_over}
use Rattle.ndr_decoder_state.specs.Notes.{notes_seen}
use Rattle.ndr_decoder_state.specs.Seen.{state_of, outside}
use Rattle.ndr_decoder_value.specs.Reaching.{Moves}
use Rattle.ndr_decoder_value.proofs.running.run_on.Given as goal

abbrev pub invariant-loop-turn : goal.invariant-loop-turn
invariant-loop-turn g l =
    Moves l.values l.order l.code l.initial.machine.home (state_of l.initial.machine)
    (source_over g.S.Source.seen l.initial.source l.source)
    (notes_seen l.initial.items l.items (g.L.Ledger.number l.initial.steps) (g.L.Ledger.number l.steps) l.initial.machine.cells l.machine.cells) (state_of l.machine)
    × ((outside l.machine ≡ outside l.initial.machine) × ((g.S.Source.seen l.initial.source).faults ≤ (g.S.Source.seen l.source).faults))
