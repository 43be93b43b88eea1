use Rattle.nd_value.specs.Seen.{tree_of}
use Rattle.ndr_pipe.specs.Ends.{ends_seen}
use Rattle.ndr_drain.specs.Drained.{line_of}
use Rattle.ndr_drain.proofs.Giving.{nothing_given}
use Rattle.ndr_drain.proofs.lines.give_line.Goals as goal

pub returns-in_default : goal.returns-in_default
returns-in_default g c =
    (0, nothing_given c.args.which (line_of c.args.interface.now.types c.args.of.0 (tree_of c.args.val.now)) (ends_seen g.E.PipeEnd.seen c.args.ends.now))

pub returns-then-is_err : goal.returns-then-is_err
returns-then-is_err g c =
    (0, nothing_given c.args.which (line_of c.args.interface.now.types c.args.of.0 (tree_of c.args.val.now)) (ends_seen g.E.PipeEnd.seen c.args.ends.now))
