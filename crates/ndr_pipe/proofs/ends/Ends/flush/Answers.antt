use Rattle.std.proofs.Common.{refl}
use Rattle.ndr_pipe.specs.Ends.{ends_seen}
use Rattle.ndr_pipe.proofs.OneEnd.{flushes_at, open_within}
use Rattle.ndr_pipe.proofs.ends.Ends.flush.Goals as goal

pub returns : goal.returns
returns g c =
    let before = ends_seen g.E.PipeEnd.seen c.args.self.now in
    let there = open_within g.E.PipeEnd.seen c.args.self.now.items.items before c.args.at refl c.requires in
    flushes_at g.E.PipeEnd.seen c.args.self.now.items.items before c.args.at c.index_mut.result.now c.flush.new.self c.flush.result
    refl there c.index_mut.ensures.value c.flush.ensures
