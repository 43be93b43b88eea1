use Rattle.std.proofs.Common.{◌∙◌, ◌++◌, [], ◌∷◌, map, refl, ap, arith}
use Rattle.idl_grammar.specs.Seen.{seen_type, seen_declarator}
use Rattle.idl_rule_definitions.specs.Nodes.{declared}
use Rattle.idl_constructs.specs.SeenNodes.{seen_construct, seen_declared}
use Rattle.idl_constructs.proofs.Gathering.{gather, gathered}
use Rattle.idl_constructs.proofs.Rests as rests
use Rattle.idl_constructs.proofs.parts.parameters_declared.Goals as goal

pub loop-parameter-preserved : goal.loop-parameter-preserved
loop-parameter-preserved c =
    let k = seen_construct c.args.construct.now in
    let xs = c.args.parameters.now in
    let x = c.parameter-item.result in
    let before = map seen_declared c.loop-parameter.list.items in
    gather (rests.parameters_declared k) (rests.parameter_declared k) (rests.parameters_declared_cons k) xs (rests.parameters_declared k xs)
    before (map seen_declared c.add.new.list.items) c.loop-parameter.parameter-index x (omega arith) c.parameter-item.is
    (c.in_ok-add.ensures
    ∙ (ap (λ d. before ++ d ∷ []) c.declared.ensures
    ∙ ap (λ i. before ++ declared i (seen_type x.of) (seen_declarator x.declarator) ∷ []) c.inside-inner.ensures)) c.loop-parameter.invariant

pub returns : goal.returns
returns c =
    let k = seen_construct c.args.construct.now in
    let xs = c.args.parameters.now in
    gathered (rests.parameters_declared k) (rests.parameter_declared k) (rests.parameters_declared_cons k) xs (rests.parameters_declared k xs)
    (map seen_declared c.loop-parameter.list.items) c.loop-parameter.parameter-index (omega arith) refl c.loop-parameter.invariant
