use Rattle.nd_flat.specs.declared.records.KeptRecords.{KeptRecords}
use Rattle.nd_flat.proofs.RowWalks.{enters_row, enters_records, some_kept}
use Rattle.nd_flat.proofs.node.enter.Goals as goal

pub returns-in-Row-clause-row : goal.returns-in-Row-clause-row
returns-in-Row-clause-row c =
    (enters_row c.args.octets.now c.without_first-rest.result c.args.records.now c.args.node.now c.in-Row.row c.in-Row.is c.without_first-rest.ensures c.requires.within c.requires.no_records).0

pub returns-in-Row-clause-nodes : goal.returns-in-Row-clause-nodes
returns-in-Row-clause-nodes c =
    (enters_row c.args.octets.now c.without_first-rest.result c.args.records.now c.args.node.now c.in-Row.row c.in-Row.is c.without_first-rest.ensures c.requires.within c.requires.no_records).1

pub begun-rest-requires : goal.begun-rest-requires
begun-rest-requires c =
    let k : KeptRecords = record { order = c.in-Records.order; members = c.in-Records.members; count = c.in-Records.count; from = c.in-Records.from } in
    record { some = some_kept c.args.octets.now c.args.node.now k c.in-Records.is c.requires.within }

pub returns-in-Records-clause-records : goal.returns-in-Records-clause-records
returns-in-Records-clause-records c =
    let k : KeptRecords = record { order = c.in-Records.order; members = c.in-Records.members; count = c.in-Records.count; from = c.in-Records.from } in
    (enters_records c.args.octets.now c.args.left.now c.begun-rest.result c.args.node.now k c.in-Records.is c.begun-rest.ensures c.requires.within c.requires.no_row).0

pub returns-in-Records-clause-nodes : goal.returns-in-Records-clause-nodes
returns-in-Records-clause-nodes c =
    let k : KeptRecords = record { order = c.in-Records.order; members = c.in-Records.members; count = c.in-Records.count; from = c.in-Records.from } in
    (enters_records c.args.octets.now c.args.left.now c.begun-rest.result c.args.node.now k c.in-Records.is c.begun-rest.ensures c.requires.within c.requires.no_row).1
