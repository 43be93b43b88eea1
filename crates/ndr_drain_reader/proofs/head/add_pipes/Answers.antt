use Rattle.ndr_drain_reader.proofs.AddedPipes.{none_added, one_added}
use Rattle.ndr_drain_reader.proofs.head.add_pipes.Goals as goal

pub loop-pipe-init : goal.loop-pipe-init
loop-pipe-init c = none_added c.args.builder.now c.requires.whole

pub root-requires : goal.root-requires
root-requires c = c.loop-pipe.invariant.whole

pub loop-pipe-preserved : goal.loop-pipe-preserved
loop-pipe-preserved c =
    one_added c.loop-pipe._pipe c.args.builder.now c.loop-pipe.builder c.root.new.self c.add.new.self c.loop-pipe.invariant c.in_ok-root.ensures.ok c.in_ok-add.ensures.ok
