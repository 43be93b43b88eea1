use Rattle.std.proofs.Common.{◌+◌, [], ◌∷◌, refl, subst, arith}
use Rattle.std.proofs.lemmas.List.{length-map}
use Rattle.idl_grammar.specs.Seen.{seen_type, seen_declarator}
use Rattle.idl_rule_definitions.specs.Nodes.{Declared, DeclaratorNode}
use Rattle.idl_constructs.specs.SeenNodes.{seen_construct}
use Rattle.idl_constructs.specs.Growing.{AddsOf}
use Rattle.idl_constructs.proofs.Adding.{turn_of, over_of}
use Rattle.idl_constructs.proofs.Rests as rests
use Rattle.idl_constructs.proofs.walk.declarators.Goals as goal

pub loop-declarator-preserved : goal.loop-declarator-preserved
loop-declarator-preserved c =
    let k = seen_construct c.args.construct.now in
    let t = seen_type c.args.of.now in
    let l = c.loop-declarator in
    record {
      next = omega (arith, l.invariant.next);
      adds = λ end rest. l.invariant.adds end
          (turn_of (rests.declarators_from k t) (rests.one_declarator k t) rests.one_more (rests.declarators_cons k t) c.args.declarators.now l.nodes c.listed.new.nodes c.args.list l.index
          (l.index + 1)
          l.declarator-index c.declarator-item.result (omega arith) c.declarator-item.is refl
          (subst (λ (d : Declared). AddsOf l.nodes c.listed.new.nodes c.args.list (λ all. DeclaratorNode all l.index d ∷ [])) c.declared.ensures c.in_ok-listed.ensures) end rest);
    }

pub returns-clause-next : goal.returns-clause-next
returns-clause-next c = omega (arith, c.loop-declarator.invariant.next, length-map c.args.declarators.now seen_declarator)

pub returns-clause-adds : goal.returns-clause-adds
returns-clause-adds c =
    let k = seen_construct c.args.construct.now in
    let t = seen_type c.args.of.now in
    let l = c.loop-declarator in
    l.invariant.adds l.nodes
    (over_of (rests.declarators_from k t) (rests.one_declarator k t) rests.one_more (rests.declarators_cons k t) c.args.declarators.now l.nodes c.args.list l.index l.declarator-index (omega arith)
    (λ all. refl))
