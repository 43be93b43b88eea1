use Rattle.std.proofs.Common.{◌+◌, ◌-◌, ◌*◌, refl, sym, ◌∙◌, rules, arith}
use Rattle.std.proofs.lemmas.Int.{to_z-of_z}
use mir.Val.{SFits, of_z, to_z}
use mir.Syntax.{w128}
use Rattle.ndr_decoder_state.specs.Seen.{state_of}
use Rattle.ndr_decoder_value.proofs.RowItems.{first_noted, number_noted, row_counted, row_noted}
use Rattle.ndr_decoder_value.proofs.rows.note_row.Goals as goal

pub returns-then-len-kept-clause-noted : goal.returns-then-len-kept-clause-noted
returns-then-len-kept-clause-noted g c =
    let m = c.args.machine.now in
    let os = c.args.octets.now in
    let steps = g.L.Ledger.number c.args.steps.now in
    let one = g.L.Ledger.number c.note_ahead.new.steps in
    let fits : SFits w128 c.read_num.result = search rules in
    row_noted c.args.order c.args.prim m.home m.at m.count os c.args.count c.args.count c.args.items.now c.note_ahead.new.items
    steps (g.L.Ledger.number c.count_more.new.steps) refl
    (row_counted c.args.order c.args.prim m.home m.at m.count os c.args.count (c.args.count - 1) c.args.items.now c.note_ahead.new.items
    steps one (g.L.Ledger.number c.count_more.new.steps) (omega (arith, c.requires.some)) (sym c.len.ensures ∙ c.if-len-kept.true ∙ c.len-kept.ensures) c.count_more.ensures
    (first_noted c.args.order c.args.prim m.home m.at m.count os (state_of m) c.width_of-wide.result c.read_num.result (to_z w128 (of_z w128 c.read_num.result))
    c.args.items.now c.note_ahead.new.items steps one refl (sym m.counted) c.width_of-wide.ensures.value c.read_num.ensures (to_z-of_z w128 c.read_num.result fits)
    c.in_ok-note_ahead.ensures.ok c.in_ok-note_ahead.ensures.ticks))

pub loop-i-preserved : goal.loop-i-preserved
loop-i-preserved g c =
    let m = c.args.machine.now in
    let wide = c.width_of-wide.result in
    let i = c.loop-i.i in
    let fits : SFits w128 c.read_num-value.result = search rules in
    number_noted c.args.order c.args.prim m.home m.at m.count c.args.octets.now (state_of m) i wide (i * wide + wide) c.read_num-value.result
    (to_z w128 (of_z w128 c.read_num-value.result)) c.args.items.now c.loop-i.items c.note_ahead-in-loop-i.new.items
    (g.L.Ledger.number c.args.steps.now) (g.L.Ledger.number c.loop-i.steps) (g.L.Ledger.number c.note_ahead-in-loop-i.new.steps)
    refl (sym m.counted) c.width_of-wide.ensures.value refl c.read_num-value.ensures (to_z-of_z w128 c.read_num-value.result fits)
    c.in_ok-note_ahead-2.ensures.ok c.in_ok-note_ahead-2.ensures.ticks c.loop-i.invariant
