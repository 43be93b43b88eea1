use Rattle.std.proofs.Common.{option_map, length}
use Rattle.nd_base.specs.Over.{source_over}
use Rattle.nd_value.specs.Fitting.{setting_beside}
use Rattle.ndr_pipe.specs.Ends.{ends_over, ends_seen}
use Rattle.ndr_drain.specs.Drained.{pipe_count}
use Rattle.command_drain.proofs.Steps.{taken_is, enough_of, read_fault_is, bad_is, failed_is, too_few_is, memory_is}
use Rattle.command_drain.proofs.draining.drain.Goals as goal

pub returns-in-Ok-clause-taken : goal.returns-in-Ok-clause-taken
returns-in-Ok-clause-taken g c o there =
    let q = option_map (λ f. f.now.graph) c.args.given in
    let w = setting_beside c.args.interface.now o c.args.side q in
    let d = c.in-Ok.drained in
    taken_is (source_over g.S.Source.seen c.args.input.now c.drain_over.new.source) (ends_over g.E.PipeEnd.seen c.args.ends.now c.drain_over.new.ends) w
    c.args.order _ d.taken d.fit.graph (enough_of (pipe_count w) (length (ends_seen g.E.PipeEnd.seen c.args.ends.now)) (c.in-Ok.ensures.enough o there)) (c.in-Ok.ensures.drained o there)

pub returns-in-Err-Memory-clause-refused : goal.returns-in-Err-Memory-clause-refused
returns-in-Err-Memory-clause-refused g c o there = memory_is _ _ _ _ _ _ c.in-Err-Memory.field-0-is (c.in-Err-Memory.ensures.cause o there)

pub returns-in-Err-ReadFault-clause-refused : goal.returns-in-Err-ReadFault-clause-refused
returns-in-Err-ReadFault-clause-refused g c o there =
    read_fault_is _ _ _ _ _ _ c.in-Err-ReadFault.field-0-is (c.in-Err-ReadFault.ensures.enough o there) (c.in-Err-ReadFault.ensures.cause o there)

pub returns-in-Err-Bad-clause-refused : goal.returns-in-Err-Bad-clause-refused
returns-in-Err-Bad-clause-refused g c o there =
    bad_is _ _ _ _ _ _ _ _ c.in-Err-Bad.field-0-is (c.in-Err-Bad.ensures.enough o there) (c.in-Err-Bad.ensures.cause o there)

pub returns-in-Err-EndFailed-clause-refused : goal.returns-in-Err-EndFailed-clause-refused
returns-in-Err-EndFailed-clause-refused g c o there =
    failed_is _ _ _ _ _ _ _ c.in-Err-EndFailed.field-0-is (c.in-Err-EndFailed.ensures.enough o there) (c.in-Err-EndFailed.ensures.cause o there)

pub returns-clause-refused : goal.returns-clause-refused
returns-clause-refused g c o there = too_few_is _ _ _ _ _ _ _ _ c.in-Err-TooFewEnds.field-0-is (c.in-Err-TooFewEnds.ensures.cause o there)
