use Rattle.nd_types.specs.Roots.{root_value}
use Rattle.ndr_drain.proofs.ElementTypes.{after_pipe, after_value}
use Rattle.ndr_drain.proofs.elements.element_types.Goals as goal

pub loop-root-preserved-then-not-root : goal.loop-root-preserved-then-not-root
loop-root-preserved-then-not-root c =
    after_value c.args.interface.now.types root_value c.loop-root.yielded c.in-Some.root c.loop-root.types.items c.loop-root.invariant c.if-not-root.true

pub loop-root-preserved : goal.loop-root-preserved
loop-root-preserved c =
    after_pipe c.args.interface.now.types root_value c.loop-root.yielded c.in-Some.root c.loop-root.types.items c.push.new.self.items c.element_type.result c.loop-root.invariant
    c.if-not-root.false c.in-Ok.ensures.items c.element_type.ensures
