use Rattle.std.proofs.Common.{◌≤◌, ap, sym, ◌∙◌, arith}
use Rattle.nd_value.specs.Tree.{Trees, none, more, flat}
use Rattle.ndr_encoder_laws.specs.turns.Turned.{STEPS}
use Rattle.ndr_encoder_laws.specs.chosen.Written.{value_at}
use Rattle.ndr_encoder_output.specs.Structs.{struct_pieces, STRUCT_STEPS}
use Rattle.ndr_encoder_value.proofs.Going.{able_from, moves_from}
use Rattle.ndr_encoder_value.proofs.homes.write_known.Goals as goal

pub write_plain_struct-requires-clause-whole : goal.write_plain_struct-requires-clause-whole
write_plain_struct-requires-clause-whole g c = let (code, m, k, known, able) = c.requires.able in (c.in-Some.ensures code known).whole

pub write_plain_struct-requires-clause-able : goal.write_plain_struct-requires-clause-able
write_plain_struct-requires-clause-able g c =
    let (code, m, k, known, able) = c.requires.able in
    let enough : STRUCT_STEPS ≤ STEPS = omega arith in
    let tree : Trees = more (value_at c.args.fit.now.graph c.args.turn.home) none in
    let writes = (c.in-Some.ensures code known).writes m k STEPS (flat tree) enough in
    able_from g.O.Output.can g.O.Output.whole c.args.out.now _ _ (writes ∙ ap (λ t. struct_pieces c.in-Some.of.now (flat t)) (sym c.plain_walk.ensures.walk)) able

pub returns-clause-written : goal.returns-clause-written
returns-clause-written g c = λ done code m k known.
    let enough : STRUCT_STEPS ≤ STEPS = omega arith in
    let tree : Trees = more (value_at c.args.fit.now.graph c.args.turn.home) none in
    let writes = (c.in-Some.ensures code known).writes m k STEPS (flat tree) enough in
    moves_from g.O.Output.can g.O.Output.whole c.args.out.now c.write_plain_struct.new.out _ _ _ (writes ∙ ap (λ t. struct_pieces c.in-Some.of.now (flat t)) (sym c.plain_walk.ensures.walk))
    c.in_ok-write_plain_struct.ensures.written
