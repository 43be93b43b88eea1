use Rattle.std.proofs.Common.{◌≡◌, ◌≤◌, ◌-◌}
use Rattle.nd_base.specs.declared.TheConstants.{STREAM_LIMIT}
use Rattle.nd_base.specs.Over.{source_over}
use Rattle.nd_grammar.specs.decoded.Verdict.{decoding_seen}
use Rattle.ndr_pipe.specs.Ends.{ends_over}
use Rattle.ndr_drain_reader.specs.Ready.{IsReady}
use Rattle.ndr_drain_reader.specs.Seen.{intake_seen, moved_to}
use Rattle.ndr_drain.specs.Turns.{IsUnderWay, OfSetting}
use Rattle.ndr_drain.proofs.chunks.drain_pipes.Given as goal

abbrev pub invariant-pipes : goal.invariant-pipes
invariant-pipes g l = record {
  way : OfSetting (intake_seen l.initial.intake) (λ w. IsUnderWay w (intake_seen l.initial.intake) (intake_seen l.intake)
      (source_over g.S.Source.seen l.initial.source l.source) (ends_over g.E.PipeEnd.seen l.initial.ends l.ends)
      (decoding_seen l.initial.items l.items (g.L.Ledger.number l.initial.steps) (g.L.Ledger.number l.steps)));
  ready : IsReady l.intake;
  is : intake_seen l.intake ≡ moved_to (intake_seen l.intake).spot (intake_seen l.intake).left (intake_seen l.initial.intake);
  later : (g.S.Source.seen l.initial.source).faults ≤ (g.S.Source.seen l.source).faults;
}

abbrev pub decreases-pipes : goal.decreases-pipes
decreases-pipes g l = STREAM_LIMIT - (intake_seen l.intake).spot.place
