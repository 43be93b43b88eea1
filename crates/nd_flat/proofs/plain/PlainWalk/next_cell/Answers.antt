use Rattle.nd_flat.proofs.NamedCells.{names_first, one_less}
use Rattle.nd_flat.proofs.plain.PlainWalk.next_cell.Goals as goal

pub returns-in-Some-clause-some : goal.returns-in-Some-clause-some
returns-in-Some-clause-some c = names_first c.args.self.now c.pointer.new.self _ _ c.in-Some.ensures.some

pub returns-in-Some-clause-less : goal.returns-in-Some-clause-less
returns-in-Some-clause-less c = one_less c.args.self.now c.pointer.new.self _ c.in-Some.ensures.some
