use Rattle.std.proofs.Common.{rules, ◌≡◌, ◌+◌, length}
use Rattle.ndr_encode.proofs.NamedCells.{turned_one}
use Rattle.ndr_encode.proofs.numbering.settle.Goals as goal

pub returns-then-added-eq1-clause-names : goal.returns-then-added-eq1-clause-names
returns-then-added-eq1-clause-names c =
    let one : length c.args.names.now.items ≡ c.args.before + 1 = search rules in turned_one c.args.names.now.items c.args.before one
