use Rattle.std.proofs.Common.{◌<◌, length, arith}
use Rattle.library_answers.proofs.Places.{roots_counted}
use Rattle.library_answers.proofs.parts.count_roots.Goals as goal

pub returns-clause-counted : goal.returns-clause-counted
returns-clause-counted c ok =
    let j = c.interface-interface.result.now in
    let low : c.args.operation < length j.operations = omega arith in
    roots_counted c.args.compiled.now j c.args.operation c.args.side c.in-Some.side c.root_count.result c.root_count.ensures low c.in-Some.ensures c.interface-interface.ensures
