use Rattle.ndr_decode.proofs.Together.{run_passes, run_stops}
use Rattle.ndr_decode.proofs.laws.trials_are_tests.Goals as goal

pub returns : goal.returns
returns c = record {
  pass = λ w side order fetched noted direct b s before pipes ag is rest all seen kp e.
      run_passes w side order fetched noted direct b s before pipes ag is rest all seen kp e;
  stop = λ w side order fetched noted direct b s before pipes ag is rest all h seen kp why e.
      run_stops w side order fetched noted direct b s before pipes ag is rest all h seen kp why e;
}
