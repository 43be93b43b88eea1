use Rattle.std.proofs.Common.{List, ℕ, None, Ok, ap, refl, subst, sym}
use Rattle.nd_base.specs.declared.octets.Order.{Order}
use Rattle.nd_value.specs.Tree as tree
use Rattle.ndr_code.specs.declared.instr.Instr.{Instr}
use Rattle.ndr_code.specs.declared.instr.Instr.TheVariants as op
use Rattle.ndr_code.specs.declared.lists.EnumList.{EnumList}
use Rattle.ndr_decoder_laws.specs.steps.Steps.{State, check_in, goes, step, with_node}
use Rattle.ndr_decoder_laws.specs.steps.StepItems.{step_items}
use Rattle.ndr_decoder_state.specs.Notes.{Noted, notes_seen}
use Rattle.ndr_decoder_state.specs.Seen.{state_of}
use Rattle.ndr_decoder_value.proofs.Handing.{call_leaves, check_leaves, close_leaves, elements_leave, quiet}
use Rattle.ndr_decoder_value.proofs.steps.act.Goals as goal

pub returns-in-Void-clause-noted : goal.returns-in-Void-clause-noted
returns-in-Void-clause-noted g c =
    λ (values : List EnumList) (order : Order) (os : List ℕ).
    let m = c.args.machine.now in
    let s : State = state_of m in
    let n = g.L.Ledger.number c.args.steps.now in
    subst
    (λ (i : Instr). Noted {T = Unit {0}} (step values order os i s) (step_items order m.home os i s) (notes_seen c.args.items.now c.args.items.now n n m.cells c.skip.new.self.cells) (Ok tt))
    (sym c.in-Void.is) (quiet (step values order os op.Void s) c.args.items.now n m c.skip.new.self (Ok tt) refl (ap goes (sym c.skip.ensures.is)))

pub returns-in-Record-clause-noted : goal.returns-in-Record-clause-noted
returns-in-Record-clause-noted g c =
    λ (values : List EnumList) (order : Order) (os : List ℕ).
    let m = c.args.machine.now in
    let s : State = state_of m in
    let n = g.L.Ledger.number c.args.steps.now in
    subst
    (λ (i : Instr). Noted {T = Unit {0}} (step values order os i s) (step_items order m.home os i s) (notes_seen c.args.items.now c.args.items.now n n m.cells c.record.new.self.cells) c.record.result)
    (sym c.in-Record.is) (quiet (step values order os (op.Record c.in-Record.members) s) c.args.items.now n m c.record.new.self c.record.result refl c.record.ensures.does)

pub returns-in-Close-clause-noted : goal.returns-in-Close-clause-noted
returns-in-Close-clause-noted g c =
    λ (values : List EnumList) (order : Order) (os : List ℕ).
    let m = c.args.machine.now in
    let s : State = state_of m in
    let n = g.L.Ledger.number c.args.steps.now in
    subst
    (λ (i : Instr). Noted {T = Unit {0}} (step values order os i s) (step_items order m.home os i s) (notes_seen c.args.items.now c.args.items.now n n m.cells c.close.new.self.cells) (Ok tt))
    (sym c.in-Close.is) (quiet (step values order os op.Close s) c.args.items.now n m c.close.new.self (Ok tt) (close_leaves m.top s) (ap goes (sym c.close.ensures.is)))

pub returns-in-Fixed-clause-noted : goal.returns-in-Fixed-clause-noted
returns-in-Fixed-clause-noted g c =
    λ (values : List EnumList) (order : Order) (os : List ℕ).
    let m = c.args.machine.now in
    let s : State = state_of m in
    let n = g.L.Ledger.number c.args.steps.now in
    subst
    (λ (i : Instr). Noted {T = Unit {0}} (step values order os i s) (step_items order m.home os i s)
    (notes_seen c.args.items.now c.args.items.now n n m.cells c.array.new.machine.cells) c.array.result)
    (sym c.in-Fixed.is)
    (quiet (step values order os (op.Fixed c.in-Fixed.count c.in-Fixed.run') s) c.args.items.now n m c.array.new.machine c.array.result
    (elements_leave c.in-Fixed.count c.in-Fixed.run' (with_node (tree.Arr c.in-Fixed.count 0, c.in-Fixed.count) None s)) c.array.ensures.does)

pub returns-in-Conf-clause-noted : goal.returns-in-Conf-clause-noted
returns-in-Conf-clause-noted g c =
    λ (values : List EnumList) (order : Order) (os : List ℕ).
    let m = c.args.machine.now in
    let s : State = state_of m in
    let n = g.L.Ledger.number c.args.steps.now in
    subst
    (λ (i : Instr). Noted {T = Unit {0}} (step values order os i s) (step_items order m.home os i s)
    (notes_seen c.args.items.now c.args.items.now n n m.cells c.array-in-Conf.new.machine.cells) c.array-in-Conf.result)
    (sym c.in-Conf.is)
    (quiet (step values order os (op.Conf c.in-Conf.run') s) c.args.items.now n m c.array-in-Conf.new.machine c.array-in-Conf.result
    (elements_leave m.max c.in-Conf.run' (with_node (tree.Arr m.max 0, m.max) None s)) c.array-in-Conf.ensures.does)

pub returns-in-Check-clause-noted : goal.returns-in-Check-clause-noted
returns-in-Check-clause-noted g c =
    λ (values : List EnumList) (order : Order) (os : List ℕ).
    let m = c.args.machine.now in
    let s : State = state_of m in
    let n = g.L.Ledger.number c.args.steps.now in
    subst
    (λ (i : Instr). Noted {T = Unit {0}} (step values order os i s) (step_items order m.home os i s)
    (notes_seen c.args.items.now c.args.items.now n n m.cells c.check.new.machine.cells) c.check.result)
    (sym c.in-Check.is)
    (quiet (check_in m.top c.in-Check.attr c.in-Check.field c.in-Check.var s) c.args.items.now n m c.check.new.machine c.check.result
    (check_leaves m.top c.in-Check.attr c.in-Check.field c.in-Check.var s) c.check.ensures.does)

pub returns-in-Call-clause-noted : goal.returns-in-Call-clause-noted
returns-in-Call-clause-noted g c =
    λ (values : List EnumList) (order : Order) (os : List ℕ).
    let m = c.args.machine.now in
    let s : State = state_of m in
    let n = g.L.Ledger.number c.args.steps.now in
    subst
    (λ (i : Instr). Noted {T = Unit {0}} (step values order os i s) (step_items order m.home os i s) (notes_seen c.args.items.now c.args.items.now n n m.cells c.call.new.self.cells) c.call.result)
    (sym c.in-Call.is) (quiet (step values order os (op.Call c.in-Call.run') s) c.args.items.now n m c.call.new.self c.call.result (call_leaves m.top c.in-Call.run' s) c.call.ensures.does)
