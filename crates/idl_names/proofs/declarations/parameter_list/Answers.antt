use Rattle.std.proofs.Common.{◌∙◌, ◌+◌, [], sym, ap, refl, arith, drop}
use Rattle.idl_scope.specs.Kept.{listed}
use Rattle.idl_scope.specs.Known.{walked}
use Rattle.idl_names.proofs.Rests as rests
use Rattle.idl_names.proofs.Walked.{turn, turn_fault, turns_end, told_fault}
use Rattle.idl_names.proofs.declarations.parameter_list.Goals as goal

pub loop-one-preserved : goal.loop-one-preserved
loop-one-preserved c =
    ap (λ s. walked c.args.file c.parameter.new.names (rests.parameters_from s (drop (c.loop-one.one-index + 1) c.deref-one-items.result.now))) c.in_ok-parameter.ensures.more
    ∙ (turn rests.parameters_from rests.one_parameter rests.after_parameter rests.parameters_cons c.deref-one-items.result.now c.args.file c.loop-one.names c.parameter.new.names
    (listed c.loop-one.before) c.loop-one.one-index c.one-item.result (omega arith) c.one-item.is c.in_ok-parameter.ensures.right
    ∙ c.loop-one.invariant)

pub returns-in_err-parameter : goal.returns-in_err-parameter
returns-in_err-parameter c =
    turn_fault rests.parameters_from rests.one_parameter rests.after_parameter rests.parameters_cons c.deref-one-items.result.now c.args.file c.loop-one.names c.parameter.new.names
    (listed c.loop-one.before) c.loop-one.one-index c.one-item.result c.from_residual.result c.in_err-parameter.field-0.0
    (walked c.args.file c.args.names.now (rests.parameters_from [] c.args.list.now.items)) (omega arith) c.one-item.is
    (c.loop-one.invariant ∙ ap (λ xs. walked c.args.file c.args.names.now (rests.parameters_from [] xs)) c.deref-one-items.ensures.value)
    (told_fault c.from_residual.result c.in_err-parameter.field-0.0 c.from_residual.ensures.1) c.in_err-parameter.ensures.right

pub returns : goal.returns
returns c =
    ap (λ xs. walked c.args.file c.args.names.now (rests.parameters_from [] xs)) (sym c.deref-one-items.ensures.value)
    ∙ (sym c.loop-one.invariant
    ∙ turns_end rests.parameters_from rests.one_parameter rests.after_parameter rests.parameters_cons c.deref-one-items.result.now c.args.file c.loop-one.names
    (listed c.loop-one.before) c.loop-one.one-index (omega arith) refl)
