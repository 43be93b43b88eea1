use Rattle.std.proofs.Common.{◌∙◌, sym, ap, refl, arith, option_map, None}
use Rattle.idl_scope.specs.Known.{walked}
use Rattle.idl_names.proofs.Rests as rests
use Rattle.idl_names.proofs.Walked.{turn, turn_fault, turns_end, told_fault}
use Rattle.idl_names.proofs.types.enumerators.Goals as goal

pub loop-one-preserved : goal.loop-one-preserved
loop-one-preserved c =
    turn rests.enumerators_from rests.one_enumerator rests.after_enumerator rests.enumerators_cons c.deref-one-items.result.now c.args.file c.loop-one.names c.enumerator.new.names
    (option_map (λ s. s.now) c.loop-one.previous) c.loop-one.one-index c.one-item.result (omega arith) c.one-item.is c.in_ok-enumerator.ensures
    ∙ c.loop-one.invariant

pub returns-in_err-enumerator : goal.returns-in_err-enumerator
returns-in_err-enumerator c =
    turn_fault rests.enumerators_from rests.one_enumerator rests.after_enumerator rests.enumerators_cons c.deref-one-items.result.now c.args.file c.loop-one.names c.enumerator.new.names
    (option_map (λ s. s.now) c.loop-one.previous) c.loop-one.one-index c.one-item.result c.from_residual.result c.in_err-enumerator.field-0.0
    (walked c.args.file c.args.names.now (rests.enumerators_from None c.args.list.now.items)) (omega arith) c.one-item.is
    (c.loop-one.invariant ∙ ap (λ xs. walked c.args.file c.args.names.now (rests.enumerators_from None xs)) c.deref-one-items.ensures.value)
    (told_fault c.from_residual.result c.in_err-enumerator.field-0.0 c.from_residual.ensures.1) c.in_err-enumerator.ensures

pub returns : goal.returns
returns c =
    ap (λ xs. walked c.args.file c.args.names.now (rests.enumerators_from None xs)) (sym c.deref-one-items.ensures.value)
    ∙ (sym c.loop-one.invariant
    ∙ turns_end rests.enumerators_from rests.one_enumerator rests.after_enumerator rests.enumerators_cons c.deref-one-items.result.now c.args.file c.loop-one.names
    (option_map (λ s. s.now) c.loop-one.previous) c.loop-one.one-index (omega arith) refl)
