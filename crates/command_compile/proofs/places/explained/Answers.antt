use Rattle.std.proofs.Common.{rules, ◌≡◌, true}
use Rattle.command_compile.proofs.Explained.{explained_place}
use Rattle.command_compile.proofs.places.explained.Goals as goal

pub returns-in-Ok : goal.returns-in-Ok
returns-in-Ok c =
    let is : c.is_of_operation.result ≡ true = search rules in
    explained_place c.args.older.now c.args.newer.now c.in-Ok.text c.in-Ok.ensures c.args.refusal c.is_of_operation.result c.is_of_operation.ensures is
