use Rattle.std.proofs.Common.{rules, ◌≡◌, [], ◌∷◌, true, false, get_or, length, ap, ◌∙◌}
use Rattle.ndr_encode.specs.Search.{unplaced, pending_names}
use Rattle.ndr_encode.proofs.Searching.{pend_popped, skip_one, stop_at, first_within, rest_within}
use Rattle.ndr_encode.proofs.search.next_unplaced.Goals as goal

pub bounds-placed-named : goal.bounds-placed-named
bounds-placed-named c =
    first_within (length c.args.placed.now) (pending_names c.loop-named.pending.items) (pending_names c.pop.new.self.items) (c.in-Some.named.cell.0, c.in-Some.named.run)
    (pend_popped c.loop-named.pending.items c.pop.new.self.items c.in-Some.named c.in-Some.ensures.items) c.loop-named.invariant.within

pub returns-then-not-placed-named-clause-some : goal.returns-then-not-placed-named-clause-some
returns-then-not-placed-named-clause-some c =
    let h : get_or c.args.placed.now c.in-Some.named.cell.0 false ≡ false = search rules in
    c.loop-named.invariant.rest
    ∙ stop_at c.args.placed.now (pending_names c.loop-named.pending.items) (pending_names c.pop.new.self.items) (c.in-Some.named.cell.0, c.in-Some.named.run)
    (pend_popped c.loop-named.pending.items c.pop.new.self.items c.in-Some.named c.in-Some.ensures.items) h

pub loop-named-preserved : goal.loop-named-preserved
loop-named-preserved c =
    let h : get_or c.args.placed.now c.in-Some.named.cell.0 false ≡ true = search rules in
    let p : pending_names c.loop-named.pending.items ≡ (c.in-Some.named.cell.0, c.in-Some.named.run) ∷ pending_names c.pop.new.self.items =
    pend_popped c.loop-named.pending.items c.pop.new.self.items c.in-Some.named c.in-Some.ensures.items in
    record {
      rest =
          c.loop-named.invariant.rest
          ∙ skip_one c.args.placed.now (pending_names c.loop-named.pending.items) (pending_names c.pop.new.self.items) (c.in-Some.named.cell.0, c.in-Some.named.run) p h;
      within =
          rest_within (length c.args.placed.now) (pending_names c.loop-named.pending.items) (pending_names c.pop.new.self.items) (c.in-Some.named.cell.0, c.in-Some.named.run) p
          c.loop-named.invariant.within;
    }

pub returns-clause-none : goal.returns-clause-none
returns-clause-none c =
    let none_left : c.loop-named.pending.items ≡ [] = search rules in
    c.loop-named.invariant.rest ∙ ap (λ ds. unplaced c.args.placed.now (pending_names ds)) none_left
