use Rattle.ndr_code.proofs.SideLines as lines
use Rattle.ndr_code.proofs.laws.lines_of_sides.Goals as goal

pub returns : goal.returns
returns c =
    record {
      start = lines.start_at;
      root = lines.root_line_at;
      checks = lines.checks_line_at;
      pipe = lines.pipe_line_at;
    }
