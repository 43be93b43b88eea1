use Rattle.std.proofs.Common.{◌≡◌, ◌+◌, ◌∙◌, arith, refl, ap}
use Rattle.ndr_decoder_state.specs.Seen.{state_of}
use Rattle.ndr_decoder_fast.specs.Structs.{pointer_read}
use Rattle.std.specs.Prelude.{false}
use Rattle.ndr_decoder_fast.proofs.Owing.{cells_counted, cells_idle, new_is, next_cell, outside_stays, reserved_is, with_builder}
use Rattle.ndr_decoder_fast.proofs.forms.name_new.Goals as goal

pub returns-clause-ok : goal.returns-clause-ok
returns-clause-ok g c =
    let m = c.args.machine.now in
    let s = state_of m in
    new_is s (with_builder c.reserve.new.self s) (state_of c.owe.new.machine) c.args.class c.args.to c.args.run c.in_ok-cell.cell
    (reserved_is s m.builder c.reserve.new.self c.args.to.0 c.in_ok-cell.ensures.ok refl refl) (next_cell m c.in_ok-cell.cell.0 c.in_ok-cell.ensures.cell)
    c.in_ok-owe.ensures.ok

pub returns-clause-outside : goal.returns-clause-outside
returns-clause-outside g c =
    let m = c.args.machine.now in
    c.in_ok-owe.ensures.outside ∙ outside_stays m.home m.builder c.reserve.new.self c.args.to.0 c.in_ok-cell.ensures.ok

pub returns-clause-counted : goal.returns-clause-counted
returns-clause-counted g c =
    let m = c.args.machine.now in
    let s = state_of m in
    let is : state_of c.owe.new.machine ≡ pointer_read c.args.class c.args.to c.args.run false s =
    new_is s (with_builder c.reserve.new.self s) (state_of c.owe.new.machine) c.args.class c.args.to c.args.run c.in_ok-cell.cell
    (reserved_is s m.builder c.reserve.new.self c.args.to.0 c.in_ok-cell.ensures.ok refl refl) (next_cell m c.in_ok-cell.cell.0 c.in_ok-cell.ensures.cell)
    c.in_ok-owe.ensures.ok in
    let more : g.L.Ledger.number c.reserve.new.steps ≡ g.L.Ledger.number c.args.steps.now + 1 = c.in_ok-cell.ensures.tick in
    cells_counted s (state_of c.owe.new.machine) c.args.class c.args.to c.args.run (g.L.Ledger.number c.args.steps.now) (g.L.Ledger.number c.reserve.new.steps) is more

pub returns-in_err-cell-clause-idle : goal.returns-in_err-cell-clause-idle
returns-in_err-cell-clause-idle g c =
    let same : g.L.Ledger.number c.reserve.new.steps ≡ g.L.Ledger.number c.args.steps.now = ap g.L.Ledger.number c.in_err-cell.ensures.idle in
    cells_idle (state_of c.args.machine.now) c.args.class c.args.to c.args.run (g.L.Ledger.number c.args.steps.now) (g.L.Ledger.number c.reserve.new.steps) (omega (arith, same)) c.from_residual.result

pub returns-in_err-owe-clause-idle : goal.returns-in_err-owe-clause-idle
returns-in_err-owe-clause-idle g c =
    let more : g.L.Ledger.number c.reserve.new.steps ≡ g.L.Ledger.number c.args.steps.now + 1 = c.in_ok-cell.ensures.tick in
    cells_idle (state_of c.args.machine.now) c.args.class c.args.to c.args.run (g.L.Ledger.number c.args.steps.now) (g.L.Ledger.number c.reserve.new.steps)
    (omega (arith, more)) c.from_residual-in_err-owe.result
