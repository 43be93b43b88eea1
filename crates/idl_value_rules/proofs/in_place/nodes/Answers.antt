use Rattle.std.proofs.Common.{◌∙◌, ◌+◌, [], refl, ap, sym, subst, arith, map, List, ℕ, ◌≡◌, take}
use Rattle.std.proofs.lemmas.List.{take_all}
use Rattle.idl_declared_types.specs.Kinds.{type_at}
use Rattle.idl_declared_types.specs.InPlace.{AreHeld}
use Rattle.idl_declared_types.proofs.Held.{held_more}
use Rattle.idl_value_rules.proofs.in_place.nodes.Goals as goal

pub loop-number-init : goal.loop-number-init
loop-number-init c ks size = subst (λ (l : List ℕ). AreHeld ks c.args.count l []) (sym c.new-held.ensures.items) (record { seen = refl; within = refl })

pub loop-number-preserved : goal.loop-number-preserved
loop-number-preserved c ks size =
    subst (λ (l : List ℕ). AreHeld ks c.args.count l (map (type_at ks) (take (c.loop-number.number-index + 1) c.args.numbers.now))) (sym c.in-Ok.ensures.items)
    (held_more ks c.args.count c.loop-number.held.items c.args.numbers.now c.loop-number.number-index 0 c.node.result c.loop-number-test.true
    (c.loop-number.invariant ks size) (c.node.ensures.same ks size) c.node.ensures.within)

pub returns : goal.returns
returns c ks size =
    subst (λ (l : List ℕ). AreHeld ks c.args.count c.loop-number.held.items (map (type_at ks) l)) (take_all c.loop-number.number-index c.args.numbers.now (omega arith))
    (c.loop-number.invariant ks size)
