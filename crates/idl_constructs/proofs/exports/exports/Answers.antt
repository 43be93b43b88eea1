use Rattle.std.proofs.Common.{refl, arith}
use Rattle.idl_constructs.specs.SeenNodes.{seen_construct}
use Rattle.idl_constructs.proofs.Adding.{turn, over}
use Rattle.idl_constructs.proofs.Rests as rests
use Rattle.idl_constructs.proofs.exports.exports.Goals as goal

pub loop-one-preserved : goal.loop-one-preserved
loop-one-preserved c =
    let k = seen_construct c.args.header.now in
    let l = c.loop-one in
    λ end rest. l.invariant end
    (turn (rests.exports_from c.args.is_main k) (rests.one_export c.args.is_main k) (rests.exports_cons c.args.is_main k) c.args.exports.now l.nodes c.export.new.nodes l.one-index c.one-item.result
    (omega arith) c.one-item.is
    c.in_ok-export.ensures end rest)

pub returns : goal.returns
returns c =
    let k = seen_construct c.args.header.now in
    let l = c.loop-one in
    l.invariant l.nodes (over (rests.exports_from c.args.is_main k) (rests.one_export c.args.is_main k) (rests.exports_cons c.args.is_main k) c.args.exports.now l.nodes l.one-index (omega arith) refl)
