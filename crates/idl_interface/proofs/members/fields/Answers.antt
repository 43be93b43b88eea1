use Rattle.std.proofs.Common.{◌∙◌, map}
use Rattle.idl_constructs.specs.SeenNodes.{seen_declared}
use Rattle.idl_interface.proofs.Making.{fields_same}
use Rattle.idl_interface.proofs.members.fields.Goals as goal

pub returns-clause-made : goal.returns-clause-made
returns-clause-made c =
    let list = map seen_declared c.args.list.now in
    c.in_ok-fields.ensures.made ∙ fields_same list c.in_ok-table.table c.in_ok-table.ensures list c.args.types.now
