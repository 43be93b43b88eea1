use Rattle.std.proofs.Common.{◌≡◌, ◌∙◌, ◌++◌, refl, ap}
use Rattle.std.proofs.lemmas.Result.{err_from_is_err_and}
use Rattle.nd_base.specs.Over.{source_over}
use Rattle.command_call.specs.Called.{call_line}
use Rattle.command_call.proofs.Calls.{operation_there, unjoined, no_end, no_number, bad_stub, called_is}
use Rattle.command_call.proofs.calling.print_call.Goals as goal

pub returns-in_err-joined-clause-refused : goal.returns-in_err-joined-clause-refused
returns-in_err-joined-clause-refused g c =
    let p = err_from_is_err_and c.from_residual.result c.from_residual.ensures.1 in
    let s = source_over g.S.Source.seen c.args.input.now c.joined_fragments.new.input in
    rw (p.1, p.2) (unjoined s c.args.interface.now c.args.op _ c.in_err-joined.ensures.refused)

pub returns-in_err-end-clause-refused : goal.returns-in_err-end-clause-refused
returns-in_err-end-clause-refused g c =
    let p = err_from_is_err_and c.from_residual-in_err-end.result c.from_residual-in_err-end.ensures.1 in
    let s = source_over g.S.Source.seen c.args.input.now c.joined_fragments.new.input in
    let t = source_over g.S.Source.seen c.joined_fragments.new.input c.end.new.input in
    rw (p.1, p.2) (no_end s t c.args.interface.now c.args.op c.in_ok-joined.joined c.in_ok-joined.ensures.joined refl c.in_ok-joined.ensures.later refl _
    c.in_err-end.ensures.refused)

pub returns-in_err-number-clause-refused : goal.returns-in_err-number-clause-refused
returns-in_err-number-clause-refused g c =
    let p = err_from_is_err_and c.from_residual-in_err-number.result c.from_residual-in_err-number.ensures.1 in
    let s = source_over g.S.Source.seen c.args.input.now c.joined_fragments.new.input in
    let t = source_over g.S.Source.seen c.joined_fragments.new.input c.end.new.input in
    rw (p.1, p.2) (no_number s t c.args.interface.now c.args.op c.in_ok-joined.joined c.in_ok-joined.ensures.joined refl c.in_ok-end.ensures.ended _
    c.in_err-number.ensures.refused)

pub returns-in_err-text-clause-refused : goal.returns-in_err-text-clause-refused
returns-in_err-text-clause-refused g c =
    let p = err_from_is_err_and c.from_residual-in_err-text.result c.from_residual-in_err-text.ensures.1 in
    let s = source_over g.S.Source.seen c.args.input.now c.joined_fragments.new.input in
    let t = source_over g.S.Source.seen c.joined_fragments.new.input c.end.new.input in
    let there = operation_there c.args.interface.now c.in_ok-number.number c.in_ok-number.ensures.known in
    rw (p.1, p.2) (bad_stub s t c.args.interface.now c.args.op c.in_ok-joined.joined c.in_ok-joined.ensures.joined refl c.in_ok-end.ensures.ended
    c.in_ok-number.number c.in_ok-number.ensures.number there.0 there.1 _ (c.in_err-text.ensures.refused there.0 there.1))

pub returns-clause-printed : goal.returns-clause-printed
returns-clause-printed g c =
    let s = source_over g.S.Source.seen c.args.input.now c.joined_fragments.new.input in
    let t = source_over g.S.Source.seen c.joined_fragments.new.input c.end.new.input in
    let there = operation_there c.args.interface.now c.in_ok-number.number c.in_ok-number.ensures.known in
    called_is s t c.args.interface.now c.args.op c.in_ok-joined.joined c.in_ok-joined.ensures.joined refl c.in_ok-end.ensures.ended
    c.in_ok-number.number c.in_ok-number.ensures.number there.0 there.1 c.in_ok-text.text _ (c.in_ok-text.ensures.printed there.0 there.1)
    (c.in_ok-with_call_line.ensures ∙ ap (λ l. call_line c.in_ok-joined.joined.call ++ l) c.as_slice.ensures)
