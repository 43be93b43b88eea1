use Rattle.std.proofs.Common.{length, ap, sym, ◌∙◌}
use Rattle.nd_flat.specs.Building.{Building}
use Rattle.ndr_decoder_stream.proofs.Opened.{closed_length}
use Rattle.ndr_decoder_stream.proofs.opening.fill.Goals as goal

pub invariant_of-machine-clause-numbered : goal.invariant_of-machine-clause-numbered
invariant_of-machine-clause-numbered c =
    c.args.machine.now.numbered ∙ sym (closed_length c.args.machine.now.builder) ∙ ap (λ (b : Building). length b.graph.cells) (sym c.fill.ensures)
