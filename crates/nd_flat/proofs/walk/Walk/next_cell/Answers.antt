use Rattle.std.proofs.Common.{◌∙◌}
use Rattle.nd_flat.specs.FlatForm.{flat_seen}
use Rattle.nd_flat.proofs.NamedCells.{cell_next, cell_less, no_cell_left, both_less}
use Rattle.nd_flat.proofs.walk.Walk.next_cell.Goals as goal

pub returns-in-Some-clause-some : goal.returns-in-Some-clause-some
returns-in-Some-clause-some c =
    cell_next c.args.self.now c.skip_records.new.self c.step.new.self c.in-Some.seen c.named_cell.result
    (c.skip_row.ensures.cells ∙ c.skip_records.ensures.cells) c.in-Some.ensures.some c.named_cell.ensures

pub returns-in-Some-clause-less : goal.returns-in-Some-clause-less
returns-in-Some-clause-less c =
    cell_less c.args.self.now c.skip_records.new.self c.step.new.self (flat_seen c.in-Some.seen)
    (both_less c.args.self.now c.skip_row.new.self c.skip_records.new.self c.skip_row.ensures.less c.skip_records.ensures.less) c.in-Some.ensures.some

pub returns-in-None-clause-none : goal.returns-in-None-clause-none
returns-in-None-clause-none c = no_cell_left c.args.self.now c.skip_records.new.self (c.skip_row.ensures.cells ∙ c.skip_records.ensures.cells) c.in-None.ensures.none
