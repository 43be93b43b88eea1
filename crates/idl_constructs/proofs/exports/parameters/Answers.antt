use Rattle.std.proofs.Common.{◌+◌, refl, arith}
use Rattle.idl_constructs.specs.SeenNodes.{seen_construct}
use Rattle.idl_constructs.proofs.Adding.{turn_of, over_of}
use Rattle.idl_constructs.proofs.Rests as rests
use Rattle.idl_constructs.proofs.exports.parameters.Goals as goal

pub loop-one-preserved : goal.loop-one-preserved
loop-one-preserved c =
    let k = seen_construct c.args.construct.now in
    let l = c.loop-one in
    record {
      next = omega (arith, l.invariant.next);
      adds = λ end rest. l.invariant.adds end
          (turn_of (rests.parameters_from k) (rests.one_parameter k) rests.one_more (rests.parameters_cons k) c.args.parameters.now l.nodes c.parameter.new.nodes c.args.list l.index (l.index + 1)
          l.one-index c.one-item.result (omega arith) c.one-item.is refl c.in_ok-parameter.ensures end rest);
    }

pub returns : goal.returns
returns c =
    let k = seen_construct c.args.construct.now in
    let l = c.loop-one in
    l.invariant.adds l.nodes
    (over_of (rests.parameters_from k) (rests.one_parameter k) rests.one_more (rests.parameters_cons k) c.args.parameters.now l.nodes c.args.list l.index l.one-index (omega arith) (λ all. refl))
