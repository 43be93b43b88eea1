use Rattle.std.proofs.Common.{ap₂, ◌∙◌, ◌≡◌, ◌+◌, suc, subst, length, List, Bool, ℕ, arith}
use Rattle.nd_fit.specs.Reach.{searched, note_roots, TellsMark}
use Rattle.nd_fit.proofs.Searches.{roots_searched, told_reach}
use Rattle.nd_fit.proofs.reach.unreached.Goals as goal

pub from_cells-requires-clause-begun : goal.from_cells-requires-clause-begun
from_cells-requires-clause-begun c =
    let n : c.cell_count.result + 1 ≡ suc (length c.args.graph.now.cells) = let e = c.cell_count.ensures in omega (arith, e) in
    roots_searched c.args.graph.now c.requires.names (searched c.from_roots.new.marks.items c.from_roots.new.queue.items) (c.cell_count.result + 1) n
    (c.in_ok-from_roots.ensures
    ∙ ap₂ (λ (m : List Bool) (q : List ℕ). note_roots c.args.graph.now.roots (searched m q)) c.in_ok-marks.ensures c.new-queue.ensures.items)

pub returns : goal.returns
returns c =
    let m =
    subst (λ (n : ℕ). TellsMark n c.from_cells.new.marks.items c.first_unmarked.result) c.cell_count-2.ensures
    (subst (λ (ms : List Bool). TellsMark c.cell_count-2.result ms c.first_unmarked.result) c.deref.ensures.value c.first_unmarked.ensures) in
    told_reach c.args.graph.now c.requires.names (searched c.from_cells.new.marks.items c.from_cells.new.queue.items) c.in_ok-from_cells.ensures c.first_unmarked.result m
