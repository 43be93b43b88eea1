use Rattle.std.proofs.Common.{arith}
use Rattle.nd_value.specs.Seen.{tree_of}
use Rattle.ndr_pipe.specs.Ends.{ends_seen}
use Rattle.ndr_drain.specs.Drained.{lines}
use Rattle.ndr_drain.proofs.Giving.{at_start, line_given, line_cut, no_line_due, failed_at_end, handed_on, is_there}
use Rattle.ndr_drain.proofs.lines.give_lines.Goals as goal

pub loop-at-init : goal.loop-at-init
loop-at-init g c =
    at_start (ends_seen g.E.PipeEnd.seen c.args.ends.now) c.args.which (lines c.args.interface.now.types c.args.of.0 c.args.vals.now) c.requires.open

pub unreachable-requires : goal.unreachable-requires
unreachable-requires g c = is_there c.args.vals.now c.loop-at.at c.len-at-end.result c.loop-at-test.true c.len-at-end.ensures c.in_default.ensures.none

pub returns-in_err-give_line : goal.returns-in_err-give_line
returns-in_err-give_line g c =
    let before = ends_seen g.E.PipeEnd.seen c.args.ends.now in
    let table = c.args.interface.now.types in
    handed_on before (ends_seen g.E.PipeEnd.seen c.give_line.new.ends) c.args.which (lines table c.args.of.0 c.args.vals.now)
    c.from_residual.result c.in_err-give_line.field-0.0 c.from_residual.ensures.1
    (line_cut table c.args.of.0 c.args.vals.now c.loop-at.at (tree_of c.in-Some.val.now) before (ends_seen g.E.PipeEnd.seen c.loop-at.ends)
    (ends_seen g.E.PipeEnd.seen c.give_line.new.ends) c.args.which (lines table c.args.of.0 c.args.vals.now) c.in_err-give_line.field-0.0
    c.loop-at.invariant c.in-Some.ensures.some c.in_err-give_line.ensures)

pub loop-at-preserved : goal.loop-at-preserved
loop-at-preserved g c =
    let table = c.args.interface.now.types in
    line_given table c.args.of.0 c.args.vals.now c.loop-at.at (tree_of c.in-Some.val.now) (ends_seen g.E.PipeEnd.seen c.args.ends.now)
    (ends_seen g.E.PipeEnd.seen c.loop-at.ends) (ends_seen g.E.PipeEnd.seen c.give_line.new.ends) c.args.which (lines table c.args.of.0 c.args.vals.now)
    c.loop-at.invariant c.in-Some.ensures.some c.in_ok-give_line.ensures

pub returns-in-Err : goal.returns-in-Err
returns-in-Err g c =
    let before = ends_seen g.E.PipeEnd.seen c.args.ends.now in
    let given = ends_seen g.E.PipeEnd.seen c.loop-at.ends in
    let octets = lines c.args.interface.now.types c.args.of.0 c.args.vals.now in
    failed_at_end before given (ends_seen g.E.PipeEnd.seen c.flush.new.self) c.args.which octets
    (no_line_due c.args.interface.now.types c.args.of.0 c.args.vals.now c.loop-at.at before given c.args.which octets c.loop-at.invariant
    (omega (arith, c.loop-at-test.false, c.loop-at.auto.at-end, c.len-at-end.ensures)))
    c.in-Err.ensures
