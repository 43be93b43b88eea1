use Rattle.ndr_code.proofs.SideLines as lines
use Rattle.ndr_code.proofs.laws.lists_of_enumerated_types.Goals as goal

pub returns : goal.returns
returns c =
    record {
      listed = lines.type_listed;
      unlisted = lines.primitive_unlisted;
      in_order = lines.lists_in_order;
    }
