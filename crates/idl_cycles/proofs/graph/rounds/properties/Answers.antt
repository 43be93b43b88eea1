use Rattle.std.proofs.Common.{◌≡◌, false, length, get_or, ap, ◌∙◌, rules}
use Rattle.std.proofs.lemmas.List.{with_items_is}
use Rattle.idl_cycles.specs.Graph.{parts_at, rule_at, has_by}
use Rattle.idl_cycles.specs.GraphRounds.{value_in}
use Rattle.idl_cycles.proofs.GraphRounds.{within_more}
use Rattle.idl_cycles.proofs.graph.rounds.properties.Goals as goal

pub loop-preserved : goal.loop-preserved
loop-preserved c =
    let same : length c.round.new.next ≡ c.loop.next.len = search rules in
    let long : length c.round.new.next ≡ length c.args.rules.now = search rules in
    let x : c.swap.new.x.items ≡ c.round.new.next = ap (λ v. v.items) c.swap.ensures.x_after ∙ with_items_is c.loop.next c.round.new.next same in
    let y : c.swap.new.y.items ≡ c.loop.values.items = ap (λ v. v.items) c.swap.ensures.y_after in (
      ap length x ∙ long,
      ap length y ∙ c.loop.invariant.0,
      λ node. ap (λ xs. get_or xs node false) x ∙ within_more c.loop.counter c.args.graph.now c.args.rules.now c.loop.values.items c.loop.invariant.2 c.round.new.next
          (λ k. c.round.ensures k ∙ ap (λ vs. has_by (rule_at c.args.rules.now k) (value_in vs) (parts_at c.args.graph.now k)) c.deref.ensures.value) node,
    )
