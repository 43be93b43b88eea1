use Rattle.ndr_code.proofs.SideRuns as sides
use Rattle.ndr_code.proofs.laws.runs_of_sides.Goals as goal

pub returns : goal.returns
returns c =
    record {
      side = sides.side_code_at;
      root = sides.root_run_at;
      checks = sides.checks_run_at;
      pipe = sides.pipe_run_at;
    }
