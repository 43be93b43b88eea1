use Rattle.std.proofs.Common.{◌≡◌, Some, [], ◌∷◌, pos, ap, ◌∙◌, arith}
use Rattle.nd_value.specs.Tree as tree
use Rattle.ndr_decoder_laws.specs.steps.Steps.{State, past, begun, with_node}
use Rattle.nd_value.specs.declared.item.ItemKind.TheVariants as item
use Rattle.ndr_decoder_laws.specs.steps.StepItems.{next_item}
use Rattle.ndr_decoder_state.specs.Seen.{state_of}
use Rattle.ndr_decoder_value.specs.Parts.{actual_read}
use Rattle.ndr_decoder_value.proofs.Noting.{same_cells, goes_same, stopped_before}
use Rattle.ndr_decoder_value.proofs.Counting.{actual_stopped, actual_ended}
use Rattle.ndr_decoder_value.proofs.arrays.actual.Goals as goal

pub returns-in_err-count_read-clause-noted : goal.returns-in_err-count_read-clause-noted
returns-in_err-count_read-clause-noted g c =
    let m = c.args.machine.now in
    stopped_before (actual_read c.args.offset c.args.count c.args.limit c.args.run (state_of m)) (next_item m.home (state_of m) item.Actual 4 (pos c.args.count) ∷ [])
    c.args.items.now c.count_read.new.items (g.L.Ledger.number c.args.steps.now) (g.L.Ledger.number c.count_read.new.steps) m.cells c.count_read.new.machine.cells
    c.from_residual.result c.in_err-count_read.field-0.0
    c.from_residual.ensures.1 c.in_err-count_read.ensures.memory c.in_err-count_read.ensures.unnoted (ap g.L.Ledger.number c.in_err-count_read.ensures.idle)

pub returns-in_err-add-clause-noted : goal.returns-in_err-add-clause-noted
returns-in_err-add-clause-noted g c =
    let m = c.args.machine.now in
    let read : state_of c.count_read.new.machine ≡ past 4 begun (state_of m) = goes_same _ _ c.in_ok-count_read.ensures.does in
    let same : c.count_read.new.machine.cells ≡ m.cells = same_cells m c.count_read.new.machine (ap (λ (s : State). s.cells) read) in
    let noted = c.in_ok-count_read.ensures.noted in
    actual_stopped m c.args.offset c.args.count c.args.limit c.args.run (omega arith) c.args.items.now c.count_read.new.items (g.L.Ledger.number c.args.steps.now)
    (g.L.Ledger.number c.count_read.new.steps) c.add.new.self.cells
    c.from_residual-in_err-add.result c.in_err-add.field-0.0 c.from_residual-in_err-add.ensures.1 c.in_err-add.ensures.memory noted.0 (omega (arith, noted.1, same))

pub returns-clause-noted : goal.returns-clause-noted
returns-clause-noted g c =
    let m = c.args.machine.now in
    let read : state_of c.count_read.new.machine ≡ past 4 begun (state_of m) = goes_same _ _ c.in_ok-count_read.ensures.does in
    let same : c.count_read.new.machine.cells ≡ m.cells = same_cells m c.count_read.new.machine (ap (λ (s : State). s.cells) read) in
    let noted = c.in_ok-count_read.ensures.noted in
    let node = λ (s : State). with_node (tree.Arr c.args.limit c.args.offset, c.args.count) (Some m.at) s in
    actual_ended m c.args.offset c.args.count c.args.limit c.args.run (omega arith) c.begin_elements.new.machine (state_of c.add.new.self)
    c.args.items.now c.count_read.new.items (g.L.Ledger.number c.args.steps.now) (g.L.Ledger.number c.count_read.new.steps) c.begin_elements.result
    (c.in_ok-add.ensures.ok ∙ ap node read) c.begin_elements.ensures.does
    noted.0 (omega (arith, noted.1, same))
