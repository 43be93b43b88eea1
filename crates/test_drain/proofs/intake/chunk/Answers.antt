use Rattle.ndr_drain_reader.specs.Seen.{intake_seen}
use Rattle.test_drain.proofs.Calls.{after_chunk}
use Rattle.test_drain.proofs.intake.chunk.Goals as goal

pub returns-clause-reading : goal.returns-clause-reading
returns-clause-reading c =
    after_chunk _ _ (intake_seen c.args.intake.now) (intake_seen c.chunk.new.self) c.in_ok-elements.elements c.requires.ready.known c.in_ok-elements.ensures.read c.requires.reading
