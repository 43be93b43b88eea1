use Rattle.std.proofs.Common.{Err, subst}
use Rattle.ndr_refs.specs.Known.{IsMet}
use Rattle.ndr_trace_value.proofs.NamedCells.{met, one_type}
use Rattle.ndr_trace_value.proofs.cells.full_cell.Goals as goal

pub returns-in-Ok-clause-names : goal.returns-in-Ok-clause-names
returns-in-Ok-clause-names c k x names i num fine =
    met k c.args.cells.now c.args.to.0 c.args.number names x (record { 0 = c.saturating_add.result }) c.in-Ok.cell
    (record { count = c.max-cells.result; numbers = c.meet.new.self; pending = c.args.cells.now.pending; stands = c.args.cells.now.stands }) i num fine c.if-number-eq0.false
    c.saturating_add.ensures c.in-Ok.ensures c.max-cells.ensures

pub returns-in-Err-OtherType-clause-names : goal.returns-in-Err-OtherType-clause-names
returns-in-Err-OtherType-clause-names c k x names i num fine =
    absurd (one_type k c.args.cells.now c.args.to.0 c.args.number names x (record { 0 = c.saturating_add.result }) c.meet.new.self c.in-Err-OtherType.field-0-0 c.in-Err-OtherType.field-0-1 i num fine
    c.if-number-eq0.false
    (subst (λ e. IsMet c.args.number c.args.to (record { 0 = c.saturating_add.result }) c.args.cells.now.numbers (Err e) c.meet.new.self) c.in-Err-OtherType.field-0-is c.in-Err-OtherType.ensures))
