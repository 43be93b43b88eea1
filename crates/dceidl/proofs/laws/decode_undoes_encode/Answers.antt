use Rattle.nd_value.specs.Fitting.{setting_beside}
use Rattle.ndr_drain.proofs.Begun.{legal_side as legal_side_beside}
use Rattle.dceidl.proofs.RoundTrip.{represented, same_graph, same_text, same_migration}
use Rattle.dceidl.proofs.laws.decode_undoes_encode.Goals as goal

pub returns-clause-represents : goal.returns-clause-represents
returns-clause-represents c i n o s q order chunk text octets there some e =
    represented (setting_beside i o s q) (legal_side_beside i n o s q there) order chunk text octets e some

pub returns-clause-back : goal.returns-clause-back
returns-clause-back c i n o s q order chunk text octets made there some e d =
    same_graph (setting_beside i o s q) (legal_side_beside i n o s q there) order chunk text octets e some made d

pub returns-clause-printed : goal.returns-clause-printed
returns-clause-printed c i n o s q order chunk text octets made other there some e d printed =
    same_text (setting_beside i o s q) (legal_side_beside i n o s q there) order chunk text octets e c.same_texts.ensures some made other d printed

pub returns-clause-migrated : goal.returns-clause-migrated
returns-clause-migrated c i n o s q order chunk text octets made other there some e d m =
    same_migration (setting_beside i o s q) (legal_side_beside i n o s q there) order chunk text octets e c.same_texts.ensures some made other d m
