use Rattle.std.proofs.Common.{refl, arith}
use Rattle.idl_grammar.specs.Seen.{seen_type}
use Rattle.idl_constructs.specs.SeenNodes.{seen_construct}
use Rattle.idl_constructs.proofs.Adding.{turn, over}
use Rattle.idl_constructs.proofs.Rests as rests
use Rattle.idl_constructs.proofs.exports.typedefs.Goals as goal

pub loop-declarator-preserved : goal.loop-declarator-preserved
loop-declarator-preserved c =
    let k = seen_construct c.args.construct.now in
    let t = seen_type c.args.of.now in
    let l = c.loop-declarator in
    λ end rest. l.invariant end
    (turn (rests.typedefs_from k c.args.pipe t) (rests.one_typedef k c.args.pipe t)
    (rests.typedefs_cons k c.args.pipe t) c.args.declarators.now l.nodes c.unlisted.new.nodes l.declarator-index c.declarator-item.result (omega arith) c.declarator-item.is
    c.in_ok-unlisted.ensures end rest)

pub returns : goal.returns
returns c =
    let k = seen_construct c.args.construct.now in
    let t = seen_type c.args.of.now in
    let l = c.loop-declarator in
    l.invariant l.nodes
    (over (rests.typedefs_from k c.args.pipe t) (rests.one_typedef k c.args.pipe t) (rests.typedefs_cons k c.args.pipe t) c.args.declarators.now l.nodes l.declarator-index (omega arith) refl)
