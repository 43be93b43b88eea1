use Rattle.std.proofs.Common.{length, ap, sym, ◌∙◌}
use Rattle.nd_flat.specs.Building.{Building}
use Rattle.ndr_decoder_stream.proofs.Opened.{closed_length}
use Rattle.ndr_decoder_stream.proofs.opening.add_root.Goals as goal

pub invariant_of-machine-2-clause-numbered : goal.invariant_of-machine-2-clause-numbered
invariant_of-machine-2-clause-numbered c =
    c.args.machine.now.numbered ∙ sym (closed_length c.args.machine.now.builder) ∙ ap (λ (b : Building). length b.graph.cells) (sym c.in_ok-root.ensures.ok)
