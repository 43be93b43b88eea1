use Rattle.ndr_code.proofs.TypeRuns as types
use Rattle.ndr_code.proofs.laws.runs_of_types.Goals as goal

pub returns : goal.returns
returns c =
    record {
      place = types.place_run_at;
      hoisted = types.hoist_run_at;
      whole = types.whole_run_at;
      same = types.whole_is_place;
    }
