use Rattle.nd_value.specs.Tree.{flat}
use Rattle.ndr_encoder_value.proofs.Following.{home_pieces}
use Rattle.ndr_encoder_value.proofs.Going.{able_from, moves_from}
use Rattle.ndr_encoder_value.proofs.struct_arrays.write_array.Goals as goal

pub is_element_run-requires : goal.is_element_run-requires
is_element_run-requires g c = record { whole = (c.in-Some-struct_at.ensures c.args.code.now c.learn.ensures).whole }

pub write_counted-requires-clause-whole : goal.write_counted-requires-clause-whole
write_counted-requires-clause-whole g c = (c.in-Some-struct_at.ensures c.args.code.now c.learn.ensures).whole

pub write_counted-requires-clause-able : goal.write_counted-requires-clause-able
write_counted-requires-clause-able g c =
    let whole = (c.in-Some-struct_at.ensures c.args.code.now c.learn.ensures).whole in
    able_from g.O.Output.can g.O.Output.whole _ _ _
    (home_pieces c.args.code.now c.args.start c.in-Some.run' c.in-Some-struct_at.of.now c.in-Some.ensures (c.is_element_run.ensures c.if-not-is_element_run.false) whole c.is_octet.ensures
    c.args.max c.requires.able.0 c.requires.able.1 c.requires.able.2 c.next_count-count.result (flat c.args.walk.now) (flat c.next_count-count.new.walk)
    c.next_count-count.ensures.few c.next_count-count.ensures.count c.next_count-count.ensures.rest) c.requires.able.3

pub returns-clause-written : goal.returns-clause-written
returns-clause-written g c = λ done k n h.
    let whole = (c.in-Some-struct_at.ensures c.args.code.now c.learn.ensures).whole in
    moves_from g.O.Output.can g.O.Output.whole _ _ _ _ _
    (home_pieces c.args.code.now c.args.start c.in-Some.run' c.in-Some-struct_at.of.now c.in-Some.ensures (c.is_element_run.ensures c.if-not-is_element_run.false) whole c.is_octet.ensures
    c.args.max k n h c.next_count-count.result (flat c.args.walk.now) (flat c.next_count-count.new.walk)
    c.next_count-count.ensures.few c.next_count-count.ensures.count c.next_count-count.ensures.rest) c.in_ok-write_counted.ensures.written
