use Rattle.ndr_decoder_laws.proofs.stream.HomeFaults as law
use Rattle.ndr_decoder_laws.proofs.laws.stream.homes_have_faults.Goals as goal

pub returns : goal.returns
returns c = record {
  refused = λ x w order fetched all needed target added a refuses needs noted n place why at seen stop e cells.
      law.home_refused x w order fetched all needed target added a refuses needs noted n place why at seen stop e cells;
  cut_off = λ x w order fetched all needed target added a goes noted n seen after e f cells. law.home_cut x w order fetched all needed target added a goes noted n seen after e f cells;
}
