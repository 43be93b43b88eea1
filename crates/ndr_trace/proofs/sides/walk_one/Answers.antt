use Rattle.std.proofs.Common.{◌+◌}
use Rattle.ndr_trace_value.specs.declared.progress.Halt.TheVariants as halts
use Rattle.ndr_trace_value.specs.Naming.{names_in}
use Rattle.ndr_trace.specs.Sides.{pipes_due}
use Rattle.ndr_trace_value.proofs.Passing.{err_as}
use Rattle.ndr_trace.proofs.SideWalks.{after_pipe, after_root, next_pipe, next_root}
use Rattle.ndr_trace.proofs.sides.walk_one.Goals as goal

pub returns-in_err-walk_pipe-clause-ends : goal.returns-in_err-walk_pipe-clause-ends
returns-in_err-walk_pipe-clause-ends c k u s r a e =
    let p = next_pipe k s c.args.walker.now c.args.at c.args.root r c.if-root.true a in
    c.in_err-walk_pipe.ensures.ends k u s r p.cut p.cuts_all (pipes_due k (c.args.at + 1) p.later) (names_in (pipes_due k (c.args.at + 1) p.later)) p.tracing p.naming
    (err_as c.from_residual.result c.in_err-walk_pipe.field-0.0 halts.Here c.from_residual.ensures.1 e)

pub returns-then-root-clause-goes : goal.returns-then-root-clause-goes
returns-then-root-clause-goes c k u s r a =
    let p = next_pipe k s c.args.walker.now c.args.at c.args.root r c.if-root.true a in
    let walked = c.in_ok-walk_pipe.ensures.goes k u s r p.cut p.cuts_all (pipes_due k (c.args.at + 1) p.later) (names_in (pipes_due k (c.args.at + 1) p.later)) p.tracing p.naming in
    after_pipe k c.args.walker.now c.walk_pipe.new.walker c.args.at c.args.root p walked.0 walked.1

pub returns-in_err-walk_root-clause-ends : goal.returns-in_err-walk_root-clause-ends
returns-in_err-walk_root-clause-ends c k u s r a e =
    let (cuts, b, l, w) = next_root k c.args.walker.now c.args.at c.args.root r c.if-root.false a in
    c.in_err-walk_root.ensures.ends k u s r _ _ _ b.none_pending w (err_as c.from_residual-in_err-walk_root.result c.in_err-walk_root.field-0.0 halts.Here c.from_residual-in_err-walk_root.ensures.1 e)

pub returns-clause-goes : goal.returns-clause-goes
returns-clause-goes c k u s r a =
    let (cuts, b, l, w) = next_root k c.args.walker.now c.args.at c.args.root r c.if-root.false a in
    let walked = c.in_ok-walk_root.ensures.goes k u s r _ _ _ b.none_pending w in
    after_root k c.args.walker.now c.walk_root.new.walker c.args.at cuts b l walked.0 walked.1
