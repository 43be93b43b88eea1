use Rattle.std.proofs.Common.{rules, ◌≡◌, ◌+◌, ◌≤◌, ◌∙◌, None, Some, reverse, sym, append-nil, ap, arith, le_refl, subst}
use Rattle.ndr_explain.specs.Cursors.{level_paths, level_places, level_types, name_text, paths_from, places_from, types_from}
use Rattle.ndr_trace_value.specs.declared.progress.Halt.TheVariants as halts
use Rattle.ndr_trace_value.specs.Left.{GoesDown, items_left, least_items, total}
use Rattle.ndr_trace_value.specs.Walking.{ComesTo, values_due}
use Rattle.ndr_trace_value.proofs.LevelWalk.{begins_walk, one_turn, paid_on}
use Rattle.ndr_trace_value.proofs.Passing.{err_as}
use Rattle.ndr_trace_value.proofs.nodes.walk_level.Goals as goal

pub loop-next-init : goal.loop-next-init
loop-next-init c = record {
  some = c.requires.some;
  here = λ k u from n left there rest tr names nm.
      begins_walk k c.args.home c.args.max (name_text c.args.name) (level_types c.args.first) (level_paths (name_text c.args.name) c.args.first) (level_places c.args.first)
      (record { top = c.args.first; below = c.new.result })
      (sym (append-nil (level_types c.args.first)) ∙ ap (λ Ls. types_from c.args.first (reverse Ls)) (sym c.new.ensures.items))
      (sym (append-nil (level_paths (name_text c.args.name) c.args.first)) ∙ ap (λ Ls. paths_from (name_text c.args.name) c.args.first (reverse Ls)) (sym c.new.ensures.items))
      (sym (append-nil (level_places c.args.first)) ∙ ap (λ Ls. places_from c.args.first (reverse Ls)) (sym c.new.ensures.items))
      c.requires.some n left there rest names c.args.walker.now tr nm;
  paid = (le_refl _, le_refl _);
  taken =
      let f = least_items c.args.ground.now.interface.now.types in
      let same : total f (level_types c.args.first) ≡ total f (types_from c.args.first (reverse c.new.result.items)) =
      ap (total f) (sym (append-nil (level_types c.args.first)) ∙ ap (λ Ls. types_from c.args.first (reverse Ls)) (sym c.new.ensures.items)) in
      omega (arith, same);
}

pub take_node-requires : goal.take_node-requires
take_node-requires c = record { some = c.loop-next.invariant.some }

pub loop-next-smaller : goal.loop-next-smaller
loop-next-smaller c = (subst (GoesDown c.args.ground.now.interface.now.types c.loop-next.levels) c.in-Some.is c.in_ok-next.ensures.down).1

pub loop-next-preserved : goal.loop-next-preserved
loop-next-preserved c = record {
  some = (subst (GoesDown c.args.ground.now.interface.now.types c.loop-next.levels) c.in-Some.is c.in_ok-next.ensures.down).0;
  here = λ k u from n left there rest tr names nm.
      let g = c.loop-next.invariant.here k u from n left there rest tr names nm in
      let due = values_due k c.args.home (level_types c.args.first) n left in
      subst (λ r. ComesTo k c.args.home c.args.max (name_text c.args.name) due rest names c.args.walker.now c.take_node.new.walker r) c.in-Some.is
      (one_turn k c.args.home c.args.max (name_text c.args.name) due rest names c.args.walker.now c.loop-next.walker c.take_node.new.walker c.loop-next.levels g
      c.in_ok-next.field-0 (c.in_ok-next.ensures.goes k u from g.node g.left g.there rest g.tracing names g.named.naming));
  paid = paid_on c.args.walker.now c.loop-next.walker c.take_node.new.walker c.loop-next.invariant.paid c.in_ok-next.ensures.paid;
  taken =
      let so_far = c.loop-next.invariant.taken in
      let one = subst (λ r. items_left c.args.ground.now.interface.now.types (Some c.loop-next.levels) + c.loop-next.walker.progress.next
      ≤ items_left c.args.ground.now.interface.now.types r + c.take_node.new.walker.progress.next) c.in-Some.is c.in_ok-next.ensures.taken in
      omega (arith, so_far, one);
}

pub returns-clause-goes : goal.returns-clause-goes
returns-clause-goes c k u from n left there rest tr names nm =
    let g = c.loop-next.invariant.here k u from n left there rest tr names nm in
    let due = values_due k c.args.home (level_types c.args.first) n left in
    let over : c.in_ok-next.field-0 ≡ None = search rules in
    subst (λ r. ComesTo k c.args.home c.args.max (name_text c.args.name) due rest names c.args.walker.now c.take_node.new.walker r) over
    (one_turn k c.args.home c.args.max (name_text c.args.name) due rest names c.args.walker.now c.loop-next.walker c.take_node.new.walker c.loop-next.levels g
    c.in_ok-next.field-0 (c.in_ok-next.ensures.goes k u from g.node g.left g.there rest g.tracing names g.named.naming))

pub returns-in_err-next-clause-ends : goal.returns-in_err-next-clause-ends
returns-in_err-next-clause-ends c k u from n left there rest tr names nm e =
    let g = c.loop-next.invariant.here k u from n left there rest tr names nm in
    c.in_err-next.ensures.ends k u from g.node g.left g.there rest g.tracing names g.named.naming
    (err_as c.from_residual.result c.in_err-next.field-0.0 halts.Here c.from_residual.ensures.1 e)

pub returns-clause-paid : goal.returns-clause-paid
returns-clause-paid c = paid_on c.args.walker.now c.loop-next.walker c.take_node.new.walker c.loop-next.invariant.paid c.in_ok-next.ensures.paid

pub returns-clause-taken : goal.returns-clause-taken
returns-clause-taken c =
    let so_far = c.loop-next.invariant.taken in
    let over : c.in_ok-next.field-0 ≡ None = search rules in
    let one = subst (λ r. items_left c.args.ground.now.interface.now.types (Some c.loop-next.levels) + c.loop-next.walker.progress.next
    ≤ items_left c.args.ground.now.interface.now.types r + c.take_node.new.walker.progress.next) over c.in_ok-next.ensures.taken in
    omega (arith, so_far, one)
