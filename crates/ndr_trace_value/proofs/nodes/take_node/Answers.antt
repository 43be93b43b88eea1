use Rattle.std.proofs.Common.{◌≡◌, ◌+◌, ◌≤◌, ◌++◌, ◌^◌, ap, reverse, refl, sym, subst, arith}
use Rattle.nd_value.specs.Tree.{Flat}
use Rattle.nd_types.specs.Table.{type_at}
use Rattle.ndr_explain.specs.Cursors.{IsChildLevel, child_places, inner_places, inner_types}
use Rattle.ndr_trace_value.specs.declared.progress.Halt.TheVariants as halts
use Rattle.ndr_trace_value.specs.declared.progress.Progress.{Progress}
use Rattle.ndr_trace_value.specs.Naming.{IsNaming, names_in}
use Rattle.ndr_trace_value.specs.Tracing.{IsTracing}
use Rattle.ndr_trace_value.specs.Walking.{flat_shape, own_due}
use Rattle.ndr_trace_value.proofs.Left.{goes_down, takes_on}
use Rattle.ndr_trace_value.proofs.LevelWalk.{ended_there, node_passed, node_stopped, paid_around, ready_after, visits_around}
use Rattle.ndr_trace_value.proofs.Passing.{err_as}
use Rattle.ndr_trace_value.proofs.nodes.take_node.Goals as goal

pub returns-clause-goes : goal.returns-clause-goes
returns-clause-goes c k u from n left there rest tr names nm =
    node_passed k _ c.args.max c.args.levels.top (reverse c.args.levels.below.items) n c.type_of-of.result.0 (c.type_of-of.ensures c.requires.some) c.requires.some rest names
    c.args.walker.now c.seen_node.new.walker (flat_shape c.in_ok-shape.shape)
    (visits_around k c.args.ground.now u _ c.args.max c.type_of-of.result.0 n c.args.walker.now c.reach.new.walker c.seen_node.new.walker c.own_items.new.progress
    c.own_items.new.cells (flat_shape c.in_ok-shape.shape) c.reach.ensures.same c.in_ok-reach.ensures.ready (c.in_ok-shape.ensures.goes k u n) c.seen_node.ensures.same)
    refl refl from c.children-inner.result
    (subst (λ table. IsChildLevel table c.type_of-of.result.0 (flat_shape c.in_ok-shape.shape) c.children-inner.result) u.table
    (subst (λ (f : Flat). IsChildLevel c.args.ground.now.interface.now.types c.type_of-of.result.0 f c.children-inner.result) c.as_seen-seen.ensures.is c.children-inner.ensures.is))
    (subst (λ table. inner_places c.children-inner.result ≡ child_places (type_at table c.type_of-of.result.0) (inner_types c.children-inner.result)) u.table
    c.children-inner.ensures.places)
    c.in_ok-next.next c.in_ok-next.ensures.is c.in_ok-next.ensures.places left there tr nm

pub returns-in_err-reach-clause-ends : goal.returns-in_err-reach-clause-ends
returns-in_err-reach-clause-ends c k u from n left there rest tr names nm e =
    ended_there k c.args.ground.now u c.args.walker.now.progress c.reach.new.walker.progress _ c.reach.ensures.same.0 tr
    (c.in_err-reach.ensures.ends (err_as c.from_residual.result c.in_err-reach.field-0.0 halts.Here c.from_residual.ensures.1 e))

pub returns-in_err-shape-clause-ends : goal.returns-in_err-shape-clause-ends
returns-in_err-shape-clause-ends c k u from n left there rest tr names nm e =
    let same = c.reach.ensures.same in
    let ready = ready_after k c.args.ground.now u c.args.walker.now.progress c.reach.new.walker.progress same.0 c.in_ok-reach.ensures.ready in
    node_stopped k _ c.args.max c.args.levels.top (reverse c.args.levels.below.items) n c.type_of-of.result.0 (c.type_of-of.ensures c.requires.some) c.requires.some rest names
    c.args.walker.now
    (λ l ks node later tr1 others nm1.
    c.in_err-shape.ensures.ends k u n l ks node ready later (subst (λ p. IsTracing k p (own_due k c.args.home n c.type_of-of.result.0 l ks ++ later)) (sym same.0) tr1) others
    (subst (λ a. IsNaming k a (names_in (own_due k c.args.home n c.type_of-of.result.0 l ks) ++ others)) (sym same.1) nm1)
    (err_as c.from_residual-in_err-shape.result c.in_err-shape.field-0.0 halts.Here c.from_residual-in_err-shape.ensures.1 e)) refl refl from left there tr nm

pub returns-clause-paid : goal.returns-clause-paid
returns-clause-paid c =
    paid_around c.args.walker.now.progress c.reach.new.walker.progress c.own_items.new.progress c.seen_node.new.walker.progress c.args.walker.now.cells
    c.reach.new.walker.cells c.own_items.new.cells c.seen_node.new.walker.cells c.reach.ensures.same.0 c.reach.ensures.same.1 c.seen_node.ensures.same.0
    c.seen_node.ensures.same.1 c.in_ok-shape.ensures.paid

pub returns-clause-down : goal.returns-clause-down
returns-clause-down c =
    let i = c.args.ground.now.interface.now in
    let few : (flat_shape c.in_ok-shape.shape).1 ≤ 2 ^ 32 = omega (arith, c.as_seen-seen.ensures.few) in
    goes_down i.types i.operations i.legal c.args.levels c.args.levels.top (reverse c.args.levels.below.items) refl refl c.type_of-of.result.0 (c.type_of-of.ensures c.requires.some)
    (flat_shape c.in_ok-shape.shape) few c.children-inner.result
    (subst (λ (f : Flat). IsChildLevel i.types c.type_of-of.result.0 f c.children-inner.result) c.as_seen-seen.ensures.is c.children-inner.ensures.is) _ c.in_ok-next.next
    c.in_ok-next.ensures.is

pub returns-clause-taken : goal.returns-clause-taken
returns-clause-taken c =
    let i = c.args.ground.now.interface.now in
    let before : c.reach.new.walker.progress.next ≡ c.args.walker.now.progress.next = ap (λ (p : Progress). p.next) c.reach.ensures.same.0 in
    let after : c.seen_node.new.walker.progress.next ≡ c.own_items.new.progress.next = ap (λ (p : Progress). p.next) c.seen_node.ensures.same.0 in
    let taken =
    takes_on i.types i.operations i.legal c.args.levels c.args.levels.top (reverse c.args.levels.below.items) refl refl c.type_of-of.result.0 (c.type_of-of.ensures c.requires.some)
    (flat_shape c.in_ok-shape.shape) c.children-inner.result
    (subst (λ (f : Flat). IsChildLevel i.types c.type_of-of.result.0 f c.children-inner.result) c.as_seen-seen.ensures.is c.children-inner.ensures.is) _ c.in_ok-next.next
    c.in_ok-next.ensures.is c.reach.new.walker.progress c.own_items.new.progress c.in_ok-shape.ensures.taken in
    omega (arith, before, after, taken)
