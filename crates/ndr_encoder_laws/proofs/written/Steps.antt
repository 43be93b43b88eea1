-- One step of a run.
use Rattle.std.proofs.Common.{◌≡◌, ℕ, suc, List, [], Some, None, ap, refl}
use Rattle.std.specs.List.{slice_get}
use Rattle.nd_value.specs.Tree.{Flat}
use Rattle.ndr_code.specs.declared.instr.Instr.{Instr}
use Rattle.ndr_encoder_laws.specs.declared.frames.Frame.{Frame}
use Rattle.ndr_encoder_laws.specs.written.Run.{stepped, run}

pub run_step : (code : List Instr) (m k n pc : ℕ) (frames : List Frame) (fs : List Flat) (i : Instr) → slice_get code pc ≡ Some i
    → run code m k (suc n) pc frames fs ≡ stepped (run code m k n) code m k pc frames fs (Some i)
unfolding run
run_step code m k n pc frames fs i h = ap (stepped (run code m k n) code m k pc frames fs) h

pub run_zero : (code : List Instr) (m k pc : ℕ) (frames : List Frame) (fs : List Flat) → run code m k 0 pc frames fs ≡ []
unfolding run
run_zero code m k pc frames fs = refl

pub run_none : (code : List Instr) (m k n pc : ℕ) (frames : List Frame) (fs : List Flat) → slice_get code pc ≡ None → run code m k (suc n) pc frames fs ≡ []
unfolding run
run_none code m k n pc frames fs h = ap (stepped (run code m k n) code m k pc frames fs) h
