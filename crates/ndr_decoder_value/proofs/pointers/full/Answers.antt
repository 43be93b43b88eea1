use Rattle.std.proofs.Common.{ap, subst, sym, ◌+◌, ◌<◌, ◌≤◌, ℕ, length}
use Rattle.ndr_decoder_laws.specs.steps.Steps.{Outcome}
use Rattle.ndr_decoder_state.specs.Notes.{Noted, notes_seen}
use Rattle.ndr_decoder_state.specs.Seen.{state_of, Does}
use Rattle.ndr_decoder_value.specs.Notes.{pointer_items}
use Rattle.ndr_decoder_value.proofs.Meeting.{met_new, met_known, full_new, full_known}
use Rattle.ndr_decoder_value.proofs.Noting.{cell_count}
use Rattle.ndr_decoder_value.proofs.pointers.full.Goals as goal

pub returns-then-known-len-clause-does : goal.returns-then-known-len-clause-does
returns-then-known-len-clause-does g c =
    let m = c.args.machine.now in
    let t = c.args.to in
    let grown : length m.referents < length c.meet.new.self =
    subst (λ (n : ℕ). n < length c.meet.new.self) c.len-known.ensures (subst (λ (n : ℕ). c.len-known.result < n) c.len.ensures c.if-known-len.true) in
    subst (λ (o : Outcome). Does o c.name_new.result (state_of c.name_new.new.machine))
    (sym
    (full_new t.class t.to t.run c.args.number (record { 0 = m.cells + 1 }) c.meet.new.self (state_of m) c.requires.class c.if-number-eq0.false
    (ap (λ (n : ℕ). n + 1) (sym (cell_count m))) (met_new c.args.number t.to (record { 0 = m.cells + 1 }) c.in-Ok.cell m.referents c.meet.new.self c.in-Ok.ensures grown)))
    c.name_new.ensures.does

pub returns-then-known-len-clause-noted : goal.returns-then-known-len-clause-noted
returns-then-known-len-clause-noted g c =
    let m = c.args.machine.now in
    let t = c.args.to in
    let grown : length m.referents < length c.meet.new.self =
    subst (λ (n : ℕ). n < length c.meet.new.self) c.len-known.ensures (subst (λ (n : ℕ). c.len-known.result < n) c.len.ensures c.if-known-len.true) in
    subst (λ (o : Outcome). Noted o (pointer_items c.args.number m.home (state_of m))
    (notes_seen c.args.items.now c.name_new.new.items (g.L.Ledger.number c.args.steps.now) (g.L.Ledger.number c.name_new.new.steps) m.cells c.name_new.new.machine.cells) c.name_new.result)
    (sym
    (full_new t.class t.to t.run c.args.number (record { 0 = m.cells + 1 }) c.meet.new.self (state_of m) c.requires.class c.if-number-eq0.false
    (ap (λ (n : ℕ). n + 1) (sym (cell_count m))) (met_new c.args.number t.to (record { 0 = m.cells + 1 }) c.in-Ok.cell m.referents c.meet.new.self c.in-Ok.ensures grown)))
    c.name_new.ensures.noted

pub returns-else-known-len-clause-does : goal.returns-else-known-len-clause-does
returns-else-known-len-clause-does g c =
    let m = c.args.machine.now in
    let t = c.args.to in
    let kept : length c.meet.new.self ≤ length m.referents =
    subst (λ (n : ℕ). length c.meet.new.self ≤ n) c.len-known.ensures (subst (λ (n : ℕ). n ≤ c.len-known.result) c.len.ensures c.if-known-len.false) in
    subst (λ (o : Outcome). Does o c.name-in-Ok.result (state_of c.name-in-Ok.new.machine))
    (sym
    (full_known t.class t.to t.run c.args.number c.in-Ok.cell c.meet.new.self (state_of m) c.requires.class c.if-number-eq0.false
    (met_known c.args.number t.to (record { 0 = m.cells + 1 }) c.in-Ok.cell m.referents c.meet.new.self c.in-Ok.ensures kept)))
    c.name-in-Ok.ensures.does

pub returns-else-known-len-clause-noted : goal.returns-else-known-len-clause-noted
returns-else-known-len-clause-noted g c =
    let m = c.args.machine.now in
    let t = c.args.to in
    let kept : length c.meet.new.self ≤ length m.referents =
    subst (λ (n : ℕ). length c.meet.new.self ≤ n) c.len-known.ensures (subst (λ (n : ℕ). n ≤ c.len-known.result) c.len.ensures c.if-known-len.false) in
    subst (λ (o : Outcome). Noted o (pointer_items c.args.number m.home (state_of m))
    (notes_seen c.args.items.now c.name-in-Ok.new.items (g.L.Ledger.number c.args.steps.now) (g.L.Ledger.number c.name-in-Ok.new.steps) m.cells c.name-in-Ok.new.machine.cells) c.name-in-Ok.result)
    (sym
    (full_known t.class t.to t.run c.args.number c.in-Ok.cell c.meet.new.self (state_of m) c.requires.class c.if-number-eq0.false
    (met_known c.args.number t.to (record { 0 = m.cells + 1 }) c.in-Ok.cell m.referents c.meet.new.self c.in-Ok.ensures kept)))
    c.name-in-Ok.ensures.noted
