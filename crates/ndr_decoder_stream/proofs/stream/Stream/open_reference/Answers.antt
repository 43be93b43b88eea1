use Rattle.ndr_decoder_state.specs.Seen.{state_of}
use Rattle.ndr_decoder_stream.specs.Seen.{between_of}
use Rattle.ndr_decoder_stream.proofs.Begun.{opens_by, reference_types}
use Rattle.ndr_decoder_stream.proofs.stream.Stream.open_reference.Goals as goal

pub returns-clause-opens : goal.returns-clause-opens
returns-clause-opens g c =
    opens_by c.args.run (between_of c.args.self.now) _ (state_of c.add_reference.new.machine) _ c.start.ensures.is c.in_ok-cell.ensures.at
    (reference_types c.args.self.now.machine.builder c.add_reference.new.machine.builder c.in_ok-cell.cell.0 c.args.to.0 c.in_ok-cell.ensures.builder)
    c.in_ok-cell.ensures.referents
