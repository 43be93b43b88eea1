use Rattle.std.proofs.Common.{◌+◌, ◌∙◌, ap, arith}
use Rattle.ndr_decoder_stream.proofs.Opened.{opened_length, reference_built}
use Rattle.ndr_decoder_stream.proofs.opening.add_reference.Goals as goal

pub reserve-requires : goal.reserve-requires
reserve-requires g c =
    let e = opened_length c.args.machine.now.builder c.add_root.new.machine.builder c.in_ok-add_root.ensures.builder in
    let l = c.requires.few_cells in
    record { few = omega (arith, e, l) }

pub returns-clause-cell : goal.returns-clause-cell
returns-clause-cell g c =
    c.in_ok-cell.ensures.cell ∙ ap (λ n. n + 1) (opened_length c.args.machine.now.builder c.add_root.new.machine.builder c.in_ok-add_root.ensures.builder)

pub returns-clause-builder : goal.returns-clause-builder
returns-clause-builder g c =
    reference_built c.args.machine.now.builder c.add_root.new.machine.builder _ _ _ c.in_ok-cell.cell.0 c.args.to.0 c.in_ok-add_root.ensures.builder c.in_ok-cell.ensures.ok c.in_ok-add.ensures.ok
    c.fill.ensures
