use Rattle.std.proofs.Common.{rules, ◌≡◌, ◌<◌, ℕ, List, [], ◌∷◌, replicate, reverse, false, ap, sym, ◌∙◌, subst}
use Rattle.nd_value.specs.declared.item.Home.{Home}
use Rattle.nd_graph.specs.Naming.{root_homes}
use Rattle.nd_graph.specs.Order.{Ordering, ordering}
use Rattle.nd_graph.proofs.Ordered.{Ordered, ordered_start, ordered_end, visit_step, visit_less, visits_left, next_named}
use Rattle.nd_graph.proofs.Walks.{popped}
use Rattle.nd_graph.proofs.order.order_of.Goals as goal

pub loop-home-init : goal.loop-home-init
loop-home-init c = record {
  ordered =
      ordered_start c.args.graph.now (ordering c.in_ok-order.order.numbers.items c.in_ok-order.order.cells.items c.in_ok-stands.stands.items c.in_ok-due.due.items) _
      c.cell_count.ensures c.in_ok-order.ensures.numbers c.in_ok-order.ensures.cells
      (c.in_ok-stands.ensures ∙ ap (λ (k : ℕ). replicate k false) (c.cell_count-2.ensures ∙ sym c.cell_count.ensures))
      (c.in_ok-due.ensures ∙ ap (root_homes 0) c.root_count.ensures);
  met = c.new-met.ensures.items;
}

pub visit-requires-clause-numbers : goal.visit-requires-clause-numbers
visit-requires-clause-numbers c =
    next_named c.args.graph.now c.requires.names
    (ordering c.loop-home.order.numbers.items c.loop-home.order.cells.items c.loop-home.stands.items c.loop-home.due.items) (reverse c.pop.new.self.items)
    c.requires.few_cells c.in-Some.home c.loop-home.invariant.ordered

pub loop-home-smaller : goal.loop-home-smaller
loop-home-smaller c =
    let s : Ordering = ordering c.loop-home.order.numbers.items c.loop-home.order.cells.items c.loop-home.stands.items c.loop-home.due.items in
    let next : s.due ≡ c.in-Some.home ∷ reverse c.pop.new.self.items = popped c.loop-home.due.items c.pop.new.self.items c.in-Some.home c.in-Some.ensures.items in
    subst (λ (u : Ordering). visits_left c.args.graph.now u < visits_left c.args.graph.now s) (sym c.in_ok-visit.ensures.visited)
    (visit_less c.args.graph.now s (reverse c.pop.new.self.items) c.in-Some.home next c.loop-home.invariant.ordered)

pub loop-home-preserved : goal.loop-home-preserved
loop-home-preserved c =
    let s : Ordering = ordering c.loop-home.order.numbers.items c.loop-home.order.cells.items c.loop-home.stands.items c.loop-home.due.items in
    let next : s.due ≡ c.in-Some.home ∷ reverse c.pop.new.self.items = popped c.loop-home.due.items c.pop.new.self.items c.in-Some.home c.in-Some.ensures.items in
    record {
      ordered =
          subst (Ordered c.args.graph.now) (sym c.in_ok-visit.ensures.visited)
          (visit_step c.args.graph.now c.requires.names s (reverse c.pop.new.self.items) c.in-Some.home next c.loop-home.invariant.ordered);
      met = c.in_ok-visit.ensures.met;
    }

pub returns : goal.returns
returns c =
    let none_left : c.loop-home.due.items ≡ [] = search rules in
    ordered_end c.args.graph.now (ordering c.loop-home.order.numbers.items c.loop-home.order.cells.items c.loop-home.stands.items c.loop-home.due.items) c.requires.all
    (ap (λ (hs : List Home). reverse hs) none_left) c.loop-home.invariant.ordered
