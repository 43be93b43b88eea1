use Rattle.ndr_encode.proofs.Lengths.{chosen_length}
use Rattle.ndr_encode.proofs.laws.octets_end_with_entries.Goals as goal

pub returns : goal.returns
returns c w side g conforms order chunk octets chosen = chosen_length w side g conforms order chunk octets chosen chosen.steps chosen.deferral
