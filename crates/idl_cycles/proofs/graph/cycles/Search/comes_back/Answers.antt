use Rattle.std.proofs.Common.{ℕ, List, subst, sym, ap, ◌∙◌, arith}
use Rattle.std.specs.List.{list_any}
use Rattle.std.specs.Prelude.{eqb}
use Rattle.idl_cycles.specs.GraphCycles.{Comes}
use Rattle.idl_cycles.proofs.GraphSearching.{search_begins, search_more, search_comes_back, search_ends, queue_is_short, place_within, place_past}
use Rattle.idl_cycles.proofs.graph.cycles.Search.comes_back.Goals as goal

pub loop-head-init : goal.loop-head-init
loop-head-init c =
    search_begins c.args.graph.now c.args.start c.args.number c.args.self.now.seen.items _ _ _ c.requires c.clear.ensures.items c.in_ok-come_to.ensures

pub returns-in_default-clause-exact : goal.returns-in_default-clause-exact
returns-in_default-clause-exact c =
    sym (search_ends c.args.graph.now c.args.start c.args.number c.loop-head.head _ _ c.loop-head.invariant (place_past c.loop-head.self.queue.items c.loop-head.head c.in_default.ensures))

pub returns-then-is_among-clause-exact : goal.returns-then-is_among-clause-exact
returns-then-is_among-clause-exact c =
    let at = place_within c.loop-head.self.queue.items c.loop-head.head c.in-Some.node c.in-Some.ensures in
    sym (search_comes_back c.args.graph.now c.args.start c.args.number c.loop-head.head c.in-Some.node _ _ c.loop-head.invariant at.0 at.1
    (sym (c.if-is_among.ensures ∙ ap (list_any (λ p. eqb p c.args.start)) c.parts-parts.ensures)))

pub loop-head-preserved : goal.loop-head-preserved
loop-head-preserved c =
    let at = place_within c.loop-head.self.queue.items c.loop-head.head c.in-Some.node c.in-Some.ensures in
    let P : List ℕ → Type 0 = λ parts. Comes c.args.number parts c.loop-head.self.seen.items c.loop-head.self.queue.items c.come_to_all.new.self.seen.items c.come_to_all.new.self.queue.items in
    search_more c.args.graph.now c.args.start c.args.number c.loop-head.head c.in-Some.node c.loop-head.self.seen.items c.loop-head.self.queue.items _ _ c.loop-head.invariant at.0 at.1
    (sym (c.if-is_among.ensures ∙ ap (list_any (λ p. eqb p c.args.start)) c.parts-parts.ensures))
    (subst P c.parts-parts.ensures c.in_ok-come_to_all.ensures)

pub returns-clause-exact : goal.returns-clause-exact
returns-clause-exact c =
    sym (search_ends c.args.graph.now c.args.start c.args.number c.loop-head.head _ _ c.loop-head.invariant
    (omega (arith, queue_is_short c.args.graph.now c.args.start c.args.number c.loop-head.head c.loop-head.self.seen.items c.loop-head.self.queue.items c.loop-head.invariant)))
