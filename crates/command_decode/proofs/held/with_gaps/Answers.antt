use Rattle.command_decode.proofs.Gaps.{no_line, one_line}
use Rattle.command_decode.proofs.held.with_gaps.Goals as goal

pub returns-then-gaps-eq0 : goal.returns-then-gaps-eq0
returns-then-gaps-eq0 c = no_line c.args.lines c.args.gaps c.if-gaps-eq0.true

pub returns : goal.returns
returns c =
    one_line c.args.lines c.append.new.self c.append_number.new.lines c.append-2.new.self c.args.gaps c.if-gaps-eq0.false c.in_ok-append.ensures.ok c.in_ok-append_number.ensures
    c.in_ok-append-2.ensures.ok
