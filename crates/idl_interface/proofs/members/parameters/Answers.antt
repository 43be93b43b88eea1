use Rattle.std.proofs.Common.{◌∙◌, map}
use Rattle.idl_constructs.specs.SeenNodes.{seen_declared}
use Rattle.idl_interface.proofs.Making.{parameters_same}
use Rattle.idl_interface.proofs.members.parameters.Goals as goal

pub returns-clause-made : goal.returns-clause-made
returns-clause-made c =
    let list = map seen_declared c.args.list.now in
    c.in_ok-parameters.ensures.made ∙ parameters_same list c.in_ok-table.table c.in_ok-table.ensures list c.args.types.now
