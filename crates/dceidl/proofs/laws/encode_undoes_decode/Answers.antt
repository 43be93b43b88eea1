use Rattle.nd_value.specs.Fitting.{setting_beside}
use Rattle.ndr_drain.proofs.Begun.{legal_side as legal_side_beside}
use Rattle.dceidl.proofs.RoundTrip.{reads_back, chosen_again, represented_again, octets_back}
use Rattle.dceidl.proofs.laws.encode_undoes_decode.Goals as goal

pub returns-clause-reads : goal.returns-clause-reads
returns-clause-reads c i n o s q order octets text there d short =
    reads_back (setting_beside i o s q) (legal_side_beside i n o s q there) order octets text d short

pub returns-clause-chosen : goal.returns-clause-chosen
returns-clause-chosen c i n o s q order other chunk octets text made there d e =
    chosen_again (setting_beside i o s q) (legal_side_beside i n o s q there) order octets text d other chunk made e

pub returns-clause-represents : goal.returns-clause-represents
returns-clause-represents c i n o s q order other chunk octets text made there some d e =
    represented_again (setting_beside i o s q) (legal_side_beside i n o s q there) order octets text d other chunk made e some

pub returns-clause-back : goal.returns-clause-back
returns-clause-back c i n o s q order chunk octets text made there d e chosen =
    octets_back (setting_beside i o s q) (legal_side_beside i n o s q there) order octets text d chunk made e chosen
