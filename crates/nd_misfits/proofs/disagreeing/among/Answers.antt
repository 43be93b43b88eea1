use Rattle.std.proofs.Common.{◌∙◌, arith}
use Rattle.std.proofs.lemmas.Result.{err_from_is_err_and}
use Rattle.nd_value.proofs.LocalPass.{tells_first}
use Rattle.nd_misfits.proofs.HomeWalk.{walkable_home}
use Rattle.nd_misfits.proofs.Disagreements.{homes_left}
use Rattle.nd_misfits.proofs.disagreeing.among.Goals as goal

pub one-requires-clause-walkable : goal.one-requires-clause-walkable
one-requires-clause-walkable c =
    walkable_home c.args.types.now _ c.args.homes.now c.loop-at.at _ c.index-homes-at.is (omega (arith, c.loop-at-test.true)) c.requires.walkable

pub returns-in_err-one-clause-first : goal.returns-in_err-one-clause-first
returns-in_err-one-clause-first c =
    let p = err_from_is_err_and c.from_residual.result c.from_residual.ensures.1 in
    rw (p.1, p.2)
    (λ w table op are.
    tells_first _ _ _ _
    (c.loop-at.invariant w table op are ∙ homes_left w c.args.graph.now c.args.homes.now c.loop-at.at _ c.index-homes-at.is (omega (arith, c.loop-at-test.true)))
    (c.in_err-one.ensures.first w table op are))
