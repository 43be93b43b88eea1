use Rattle.std.proofs.Common.{◌∷◌, refl}
use Rattle.nd_value.specs.Deferral.{due_root}
use Rattle.ndr_trace_value.specs.declared.progress.Halt.TheVariants as halts
use Rattle.ndr_trace_value.proofs.Passing.{err_as}
use Rattle.ndr_trace.proofs.Referents.{emptied}
use Rattle.ndr_trace.proofs.homes.walk_root.Goals as goal

pub returns-in_err-walk_own-clause-ends : goal.returns-in_err-walk_own-clause-ends
returns-in_err-walk_own-clause-ends c k u s r due rest names empty a e =
    c.in_err-walk_own.ensures.ends k u s r due rest names empty (emptied k (due_root c.args.at ∷ due) rest names c.args.walker.now _ a empty empty refl refl refl refl)
    (err_as c.from_residual.result c.in_err-walk_own.field-0.0 halts.Here c.from_residual.ensures.1 e)

pub returns-in_err-walk_referents-clause-ends : goal.returns-in_err-walk_referents-clause-ends
returns-in_err-walk_referents-clause-ends c k u s r due rest names empty a e =
    c.in_err-walk_referents.ensures.ends k u s due rest names
    (c.in_ok-walk_own.ensures.goes k u s r due rest names empty (emptied k (due_root c.args.at ∷ due) rest names c.args.walker.now _ a empty empty refl refl refl refl))
    (err_as c.from_residual-in_err-walk_referents.result c.in_err-walk_referents.field-0.0 halts.Here c.from_residual-in_err-walk_referents.ensures.1 e)

pub returns-clause-goes : goal.returns-clause-goes
returns-clause-goes c k u s r due rest names empty a =
    c.in_ok-walk_referents.ensures.goes k u s due rest names
    (c.in_ok-walk_own.ensures.goes k u s r due rest names empty (emptied k (due_root c.args.at ∷ due) rest names c.args.walker.now _ a empty empty refl refl refl refl))
