use Rattle.std.proofs.Common.{◌∙◌, ℕ, List, None, ap, sym, pos, take, drop}
use Rattle.nd_grammar.specs.Reader.{identifier}
use Rattle.nd_value.specs.Tree as tree
use Rattle.nd_value.specs.declared.item.ItemKind.TheVariants as item
use Rattle.nd_types.specs.Number.{unsigned}
use Rattle.ndr_decoder_laws.specs.steps.StepItems.{next_item}
use Rattle.ndr_decoder_laws.specs.steps.Steps.{State, goes, done_after, with_node}
use Rattle.ndr_decoder_state.specs.Seen.{state_of}
use Rattle.ndr_decoder_value.proofs.Noting.{cell_count, same_cells, one_noted, stopped_after}
use Rattle.ndr_decoder_value.proofs.numbers.context.Goals as goal

pub returns-clause-does : goal.returns-clause-does
returns-clause-does g c =
    let os : List ℕ = c.args.octets.now in
    let hs : List ℕ = c.copy_from_slice.new.self in
    let s = state_of c.args.machine.now in
    ap (λ (xs : List ℕ). goes (done_after 20 (with_node (tree.Context (unsigned c.args.order (take 4 xs)) (identifier c.args.order os (drop 4 xs)), 0) None s))) (sym c.copy_from_slice.ensures.after)
    ∙ ap (λ (a : ℕ). goes (done_after 20 (with_node (tree.Context a (identifier c.args.order os (drop 4 hs)), 0) None s))) (sym c.read_context-attributes.ensures.attributes)
    ∙ ap (λ (i : List ℕ). goes (done_after 20 (with_node (tree.Context c.read_context-attributes.result.0 i, 0) None s))) (sym c.read_context-attributes.ensures.identifier)
    ∙ ap (λ (q : State). goes (done_after 20 q)) (sym c.in_ok-add.ensures.ok)
    ∙ ap goes (sym c.pass.ensures.is)

pub returns-in_err-add-clause-noted : goal.returns-in_err-add-clause-noted
returns-in_err-add-clause-noted g c =
    let os : List ℕ = c.args.octets.now in
    let m = c.args.machine.now in
    stopped_after (next_item m.home (state_of m) item.Context 20 (pos 0))
    (done_after 20 (with_node (tree.Context (unsigned c.args.order (take 4 os)) (identifier c.args.order os (drop 4 os)), 0) None (state_of m)))
    c.args.items.now c.note.new.items (g.L.Ledger.number c.args.steps.now) (g.L.Ledger.number c.note.new.steps) m.cells c.add.new.self.cells
    c.from_residual-in_err-add.result c.in_err-add.field-0.0 c.from_residual-in_err-add.ensures.1 c.in_err-add.ensures.memory
    c.in_ok-note.ensures.ok c.in_ok-note.ensures.ticks (cell_count m)

pub returns-clause-noted : goal.returns-clause-noted
returns-clause-noted g c =
    let m = c.args.machine.now in
    one_noted (next_item m.home (state_of m) item.Context 20 (pos 0)) c.args.items.now c.note.new.items
    (g.L.Ledger.number c.args.steps.now) (g.L.Ledger.number c.note.new.steps) m.cells c.pass.new.self.cells c.in_ok-note.ensures.ok c.in_ok-note.ensures.ticks
    (same_cells m c.pass.new.self (ap (λ (s : State). s.cells) (c.pass.ensures.is ∙ ap (done_after 20) c.in_ok-add.ensures.ok)))
