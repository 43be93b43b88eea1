use Rattle.std.proofs.Common.{◌≤◌, ap, sym, ◌∙◌, arith}
use Rattle.nd_value.specs.Tree.{Trees, none, more, flat}
use Rattle.ndr_encoder_laws.specs.turns.Turned.{STEPS}
use Rattle.ndr_encoder_laws.specs.chosen.Written.{value_at}
use Rattle.ndr_encoder_output.specs.Structs.{struct_pieces, STRUCT_STEPS}
use Rattle.ndr_encoder_value.proofs.Standing.{able_same, moves_same}
use Rattle.ndr_encoder_value.proofs.homes.write_other.Goals as goal

pub write_struct-requires-clause-whole : goal.write_struct-requires-clause-whole
write_struct-requires-clause-whole g c = (c.in-Some.ensures c.args.code.now c.learn.ensures).whole

pub write_struct-requires-clause-able : goal.write_struct-requires-clause-able
write_struct-requires-clause-able g c =
    let enough : STRUCT_STEPS ≤ STEPS = omega arith in
    let stays = c.in_ok-write_array.ensures.stays c.if-branch.false in
    let tree : Trees = more (value_at c.args.fit.now.graph c.args.turn.home) none in
    let writes = (c.in-Some.ensures c.args.code.now c.learn.ensures).writes c.args.max c.args.chunk STEPS (flat tree) enough in
    able_same g.O.Output.can g.O.Output.whole c.args.out.now c.write_array.new.out _ _ stays.0
    (writes ∙ ap (λ t. struct_pieces c.in-Some.of.now (flat t)) (sym (stays.1 ∙ c.walk-walk.ensures.walk))) c.requires.able

pub returns-in-Some-clause-written : goal.returns-in-Some-clause-written
returns-in-Some-clause-written g c =
    let enough : STRUCT_STEPS ≤ STEPS = omega arith in
    let stays = c.in_ok-write_array.ensures.stays c.if-branch.false in
    let tree : Trees = more (value_at c.args.fit.now.graph c.args.turn.home) none in
    let writes = (c.in-Some.ensures c.args.code.now c.learn.ensures).writes c.args.max c.args.chunk STEPS (flat tree) enough in
    moves_same g.O.Output.can g.O.Output.whole c.args.out.now c.write_array.new.out c.write_struct.new.out _ _ _ stays.0
    (writes ∙ ap (λ t. struct_pieces c.in-Some.of.now (flat t)) (sym (stays.1 ∙ c.walk-walk.ensures.walk))) c.in_ok-write_struct.ensures.written
