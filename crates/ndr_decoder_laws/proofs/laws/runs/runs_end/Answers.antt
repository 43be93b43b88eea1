use Rattle.ndr_decoder_laws.proofs.runs.EndRuns.{whole_end, refused_end, cut_end, long_end, needed_along, needed_then}
use Rattle.ndr_decoder_laws.proofs.laws.runs.runs_end.Goals as goal

pub returns : goal.returns
returns c = record {
  whole = whole_end;
  refused = refused_end;
  cut = cut_end;
  long = long_end;
  needed =
      λ values order code table h own limit direct target planned before earlier s0 g0 fetched noted s r. needed_along values order code table h own limit direct target planned before earlier s0 g0 r;
  needed_then = λ values order code table h own limit direct target planned before earlier s0 g0 fetched noted s r i there os came.
      needed_then values order code table h own limit direct target planned before earlier s0 g0 fetched noted s r i there os came
      (needed_along values order code table h own limit direct target planned before earlier s0 g0 r);
}
