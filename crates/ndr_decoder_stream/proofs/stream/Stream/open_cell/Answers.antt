use Rattle.std.proofs.Common.{◌∙◌}
use Rattle.nd_flat.specs.Building.{closed}
use Rattle.nd_value.specs.Setting.{cell_home}
use Rattle.ndr_decoder_state.specs.Seen.{state_of}
use Rattle.ndr_decoder_stream.specs.Seen.{between_of}
use Rattle.ndr_decoder_stream.proofs.Begun.{opened_types, opens_by}
use Rattle.ndr_decoder_stream.proofs.Opened.{closed_types}
use Rattle.ndr_decoder_stream.proofs.stream.Stream.open_cell.Goals as goal

pub returns-clause-opens : goal.returns-clause-opens
returns-clause-opens c =
    let b = c.args.self.now.machine.builder in
    opens_by c.args.run (between_of c.args.self.now) _ (state_of c.fill.new.machine) _ c.start.ensures.is c.fill.ensures.at
    (opened_types b c.fill.new.machine.builder (cell_home c.args.cell.0) (closed b) c.fill.ensures.builder ∙ closed_types b)
    c.fill.ensures.referents
