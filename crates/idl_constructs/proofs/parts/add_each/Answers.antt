use Rattle.std.proofs.Common.{◌∙◌, ◌++◌, [], ◌∷◌, map, refl, ap, arith}
use Rattle.idl_grammar.specs.Seen.{seen_type}
use Rattle.idl_constructs.specs.SeenNodes.{seen_construct, seen_declared}
use Rattle.idl_constructs.proofs.Gathering.{gather, gathered}
use Rattle.idl_constructs.proofs.Rests as rests
use Rattle.idl_constructs.proofs.parts.add_each.Goals as goal

pub loop-declarator-preserved : goal.loop-declarator-preserved
loop-declarator-preserved c =
    let k = seen_construct c.args.construct.now in
    let t = seen_type c.args.of.now in
    gather (rests.each_declared k t) (rests.one_declared k t) (rests.each_cons k t) c.args.declarators.now (map seen_declared c.args.list.now.items ++ rests.each_declared k t c.args.declarators.now)
    (map seen_declared c.loop-declarator.list.items) (map seen_declared c.add.new.list.items) c.loop-declarator.declarator-index c.declarator-item.result (omega arith) c.declarator-item.is
    (c.in_ok-add.ensures ∙ ap (λ d. map seen_declared c.loop-declarator.list.items ++ d ∷ []) c.declared.ensures) c.loop-declarator.invariant

pub returns : goal.returns
returns c =
    let k = seen_construct c.args.construct.now in
    let t = seen_type c.args.of.now in
    gathered (rests.each_declared k t) (rests.one_declared k t) (rests.each_cons k t) c.args.declarators.now (map seen_declared c.args.list.now.items ++ rests.each_declared k t c.args.declarators.now)
    (map seen_declared c.loop-declarator.list.items) c.loop-declarator.declarator-index (omega arith) refl c.loop-declarator.invariant
