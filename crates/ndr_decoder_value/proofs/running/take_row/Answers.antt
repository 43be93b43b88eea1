use Rattle.std.proofs.Common.{◌≡◌, ◌<◌, ◌≤◌, ◌*◌, ◌/◌, ◌+◌, ◌^◌, [], length, take, Ok, Err, sym, ap, ◌∙◌, subst, arith}
use Rattle.nd_base.specs.Over.{source_over}
use Rattle.nd_types.specs.Number.{AreOctets}
use Rattle.nd_types.specs.Table.{width}
use Rattle.ndr_code.specs.declared.instr.Instr.TheVariants as op
use Rattle.ndr_decoder_laws.specs.steps.Steps.{goes, item_of}
use Rattle.ndr_code.specs.Fields.{prim_of}
use Rattle.ndr_decoder_laws.specs.runs.Reaching.{begins}
use Rattle.ndr_decoder_laws.specs.runs.Rows.{row_read}
use Rattle.ndr_decoder_state.specs.Seen.{state_of, Does}
use Rattle.ndr_decoder_state.specs.Notes.{notes_seen}
use Rattle.ndr_decoder_value.specs.Notes.{RowNoted}
use Rattle.ndr_decoder_value.specs.Reaching.{Fetches}
use Rattle.ndr_decoder_value.proofs.Taking.{count_fits}
use Rattle.ndr_decoder_fast.proofs.ElementsTaken.{address_fits}
use Rattle.ndr_decoder_value.proofs.RowTaken.{row_came, row_fewer, row_size, few_numbers, row_cut, row_cut_memory, row_memory, row_taken}
use Rattle.ndr_decoder_value.proofs.running.take_row.Goals as goal

pub note_whole-requires-clause-few : goal.note_whole-requires-clause-few
note_whole-requires-clause-few g c =
    let m = c.args.machine.now in
    let source = source_over g.S.Source.seen c.args.source.now c.item.new.source in
    let fewer : length c.item.new.self < c.args.count * width (prim_of c.args.of.0) =
    row_fewer c.args.of c.args.count m.at c.width_of.result c.prim_of-prim.result source c.item.new.self c.item.result c.in-Err.fault c.prim_of-prim.ensures c.width_of.ensures.value
    c.width_of.ensures.some (omega (arith, c.requires.many)) (sym c.fetched-came.ensures ∙ c.in-Err.is) c.item.ensures.fault in
    let size : length c.octets-in-Err.result.now ≡ length c.item.new.self = ap length c.octets-in-Err.ensures in
    let piece : c.args.count * width (prim_of c.args.of.0) ≤ 4096 = c.requires.piece in
    let few : m.count + 4096 < 2 ^ 32 = count_fits c.args.code.now m (c.requires.safe [] [] (state_of m) begins) in
    omega (arith, fewer, size, piece, few)

pub returns-in_err-note_whole-clause-turns : goal.returns-in_err-note_whole-clause-turns
returns-in_err-note_whole-clause-turns g c =
    let m = c.args.machine.now in
    let o = c.args.order in
    let e = c.in_err-note_whole.field-0.0 in
    let source = source_over g.S.Source.seen c.args.source.now c.item.new.source in
    let notes = notes_seen c.args.items.now c.note_whole.new.items (g.L.Ledger.number c.args.steps.now) (g.L.Ledger.number c.note_whole.new.steps) m.cells m.cells in
    let fewer : length c.item.new.self < c.args.count * width (prim_of c.args.of.0) =
    row_fewer c.args.of c.args.count m.at c.width_of.result c.prim_of-prim.result source c.item.new.self c.item.result c.in-Err.fault c.prim_of-prim.ensures c.width_of.ensures.value
    c.width_of.ensures.some (omega (arith, c.requires.many)) (sym c.fetched-came.ensures ∙ c.in-Err.is) c.item.ensures.fault in
    row_cut_memory c.args.values.now o c.args.code.now m.home m c.args.of c.args.count c.requires.here c.requires.row c.requires.aligned c.requires.within source c.item.new.self
    (subst AreOctets c.octets.ensures c.are_octets.ensures) c.item.ensures.octets notes (state_of m) e c.from_residual.result c.requires.safe fewer
    c.in_err-note_whole.ensures.memory c.from_residual.ensures.1
    (subst (λ a. RowNoted o a m.home m.at m.count (length c.item.new.self / width a) (take (length c.item.new.self / width a * width a) c.item.new.self) notes (Err e)) c.prim_of-prim.ensures
    (subst (λ xs. RowNoted o c.prim_of-prim.result m.home m.at m.count (length xs / width c.prim_of-prim.result)
    (take (length xs / width c.prim_of-prim.result * width c.prim_of-prim.result) xs) notes (Err e)) c.octets-in-Err.ensures c.in_err-note_whole.ensures.noted))

pub returns-in-Err-clause-turns : goal.returns-in-Err-clause-turns
returns-in-Err-clause-turns g c =
    let m = c.args.machine.now in
    let o = c.args.order in
    let u = c.in_ok-note_whole.field-0 in
    let source = source_over g.S.Source.seen c.args.source.now c.item.new.source in
    let notes = notes_seen c.args.items.now c.note_whole.new.items (g.L.Ledger.number c.args.steps.now) (g.L.Ledger.number c.note_whole.new.steps) m.cells m.cells in
    let is = sym c.fetched-came.ensures ∙ c.in-Err.is in
    let fewer : length c.item.new.self < c.args.count * width (prim_of c.args.of.0) =
    row_fewer c.args.of c.args.count m.at c.width_of.result c.prim_of-prim.result source c.item.new.self c.item.result c.in-Err.fault c.prim_of-prim.ensures c.width_of.ensures.value
    c.width_of.ensures.some (omega (arith, c.requires.many)) is c.item.ensures.fault in
    row_cut c.args.values.now o c.args.code.now m.home m c.args.of c.args.count c.requires.here c.requires.row c.requires.aligned c.requires.within source c.item.new.self
    (subst AreOctets c.octets.ensures c.are_octets.ensures) c.item.ensures.octets notes (state_of m) u c.in-Err.fault fewer
    (subst (Fetches (item_of (c.args.count * width (prim_of c.args.of.0))) m.at source c.item.new.self) is
    (row_came c.args.of c.args.count m.at c.width_of.result c.prim_of-prim.result source c.item.new.self c.item.result c.prim_of-prim.ensures c.width_of.ensures.value
    c.requires.piece c.item.ensures.all c.item.ensures.within c.item.ensures.too_long c.item.ensures.fault))
    (subst (λ a. RowNoted o a m.home m.at m.count (length c.item.new.self / width a) (take (length c.item.new.self / width a * width a) c.item.new.self) notes (Ok u)) c.prim_of-prim.ensures
    (subst (λ xs. RowNoted o c.prim_of-prim.result m.home m.at m.count (length xs / width c.prim_of-prim.result)
    (take (length xs / width c.prim_of-prim.result * width c.prim_of-prim.result) xs) notes (Ok u)) c.octets-in-Err.ensures c.in_ok-note_whole.ensures.noted))

pub read_row-requires-clause-code : goal.read_row-requires-clause-code
read_row-requires-clause-code g c = address_fits c.args.code.now c.args.machine.now.pc (op.Num c.args.of) c.requires.here c.requires.short

pub read_row-requires-clause-few : goal.read_row-requires-clause-few
read_row-requires-clause-few g c =
    let m = c.args.machine.now in
    let small : c.args.count ≤ 4096 = few_numbers (prim_of c.args.of.0) c.args.count c.requires.piece in
    let few : m.count + 4096 < 2 ^ 32 = count_fits c.args.code.now m (c.requires.safe [] [] (state_of m) begins) in
    omega (arith, small, few)

pub returns-in_err-read_row-clause-turns : goal.returns-in_err-read_row-clause-turns
returns-in_err-read_row-clause-turns g c =
    let m = c.args.machine.now in
    let o = c.args.order in
    let e = c.in_err-read_row.field-0.0 in
    let source = source_over g.S.Source.seen c.args.source.now c.item.new.source in
    let notes = notes_seen c.args.items.now c.read_row.new.items (g.L.Ledger.number c.args.steps.now) (g.L.Ledger.number c.read_row.new.steps) m.cells c.read_row.new.machine.cells in
    let all : length c.item.new.self ≡ c.args.count * width (prim_of c.args.of.0) =
    row_size c.args.of c.args.count c.width_of.result c.prim_of-prim.result c.item.new.self c.item.result c.in_default.field-0 c.prim_of-prim.ensures c.width_of.ensures.value
    (sym c.fetched-came.ensures ∙ c.in_default.is) c.item.ensures.all in
    row_memory c.args.values.now o c.args.code.now m.home m c.args.of c.args.count c.requires.here c.requires.row c.requires.aligned c.requires.within source c.item.new.self
    (subst AreOctets c.octets.ensures c.are_octets.ensures) c.item.ensures.octets notes (state_of c.read_row.new.machine) e c.from_residual-in_err-read_row.result
    (row_read o c.prim_of-prim.result c.args.count c.octets-2.result.now (state_of m)) c.requires.safe all c.in_err-read_row.ensures.does c.from_residual-in_err-read_row.ensures.1
    (subst (λ a. RowNoted o a m.home m.at m.count c.args.count c.item.new.self notes (Err e)) c.prim_of-prim.ensures
    (subst (λ xs. RowNoted o c.prim_of-prim.result m.home m.at m.count c.args.count xs notes (Err e)) c.octets-2.ensures c.in_err-read_row.ensures.noted))

pub returns-clause-turns : goal.returns-clause-turns
returns-clause-turns g c =
    let m = c.args.machine.now in
    let o = c.args.order in
    let u = c.in_ok-read_row.field-0 in
    let s1 = state_of c.read_row.new.machine in
    let source = source_over g.S.Source.seen c.args.source.now c.item.new.source in
    let notes = notes_seen c.args.items.now c.read_row.new.items (g.L.Ledger.number c.args.steps.now) (g.L.Ledger.number c.read_row.new.steps) m.cells c.read_row.new.machine.cells in
    let all : length c.item.new.self ≡ c.args.count * width (prim_of c.args.of.0) =
    row_size c.args.of c.args.count c.width_of.result c.prim_of-prim.result c.item.new.self c.item.result c.in_default.field-0 c.prim_of-prim.ensures c.width_of.ensures.value
    (sym c.fetched-came.ensures ∙ c.in_default.is) c.item.ensures.all in
    row_taken c.args.values.now o c.args.code.now m.home m c.args.of c.args.count c.requires.here c.requires.row c.requires.aligned c.requires.within source c.item.new.self
    (subst AreOctets c.octets.ensures c.are_octets.ensures) c.item.ensures.octets notes s1 u c.requires.many all
    (subst (λ a. Does (goes (row_read o a c.args.count c.item.new.self (state_of m))) (Ok u) s1) c.prim_of-prim.ensures
    (subst (λ xs. Does (goes (row_read o c.prim_of-prim.result c.args.count xs (state_of m))) (Ok u) s1) c.octets-2.ensures c.in_ok-read_row.ensures.does))
    (subst (λ a. RowNoted o a m.home m.at m.count c.args.count c.item.new.self notes (Ok u)) c.prim_of-prim.ensures
    (subst (λ xs. RowNoted o c.prim_of-prim.result m.home m.at m.count c.args.count xs notes (Ok u)) c.octets-2.ensures c.in_ok-read_row.ensures.noted))
