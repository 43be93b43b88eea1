use Rattle.std.proofs.Common.{◌<◌, length, arith}
use Rattle.library_answers.proofs.Named.{root_is, no_root}
use Rattle.library_answers.proofs.types.find_root.Goals as goal

pub returns-in-None-clause-absent : goal.returns-in-None-clause-absent
returns-in-None-clause-absent c absent =
    let j = c.interface-interface.result.now in
    let low : c.args.operation < length j.operations = omega arith in
    no_root c.args.compiled.now j c.args.operation c.args.side c.args.name.now c.in-Some.side c.in-None.ensures.none low c.in-Some.ensures c.interface-interface.ensures

pub returns-in-Some-root_named-clause-found : goal.returns-in-Some-root_named-clause-found
returns-in-Some-root_named-clause-found c ok =
    let j = c.interface-interface.result.now in
    let low : c.args.operation < length j.operations = omega arith in
    root_is c.args.compiled.now j c.args.operation c.args.side c.args.name.now c.in-Some.side c.in-Some-root_named.found c.set_named.new.at c.set_named.new.of
    c.in-Some-root_named.ensures.some low c.in-Some.ensures c.set_named.ensures.at c.set_named.ensures.of c.interface-interface.ensures
