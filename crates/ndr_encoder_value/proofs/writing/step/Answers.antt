use Rattle.std.proofs.Common.{refl, sym, ◌∙◌}
use Rattle.nd_value.specs.Tree.{flat}
use Rattle.ndr_encoder_laws.specs.written.Run.{run}
use Rattle.ndr_encoder_laws.proofs.written.Steps.{run_step}
use Rattle.ndr_encoder_value.proofs.Going.{nothing, able_from, moves_from}
use Rattle.ndr_encoder_value.proofs.writing.step.Goals as goal

pub one-requires-clause-able : goal.one-requires-clause-able
one-requires-clause-able g c =
    let n = c.requires.0 in (
      run c.args.run.now.code.now c.args.run.now.max c.args.run.now.chunk n,
      c.args.pc.now,
      refl,
      able_from g.O.Output.can g.O.Output.whole _ _ _
          (run_step c.args.run.now.code.now c.args.run.now.max c.args.run.now.chunk n c.args.pc.now c.args.frames.now (flat c.args.walk.now) c.in-Some.instr
          (sym c.instr_at.ensures.value ∙ c.in-Some.is)) c.requires.1,
    )

pub returns-in-None-clause-moved : goal.returns-in-None-clause-moved
returns-in-None-clause-moved g c = λ n. nothing g.O.Output.can g.O.Output.whole c.args.run.now.code.now c.args.run.now.max c.args.run.now.chunk _ _ _ _ n (sym c.in-None.is ∙ c.instr_at.ensures.value)

pub returns-in_ok-on-in-Some-clause-moved : goal.returns-in_ok-on-in-Some-clause-moved
returns-in_ok-on-in-Some-clause-moved g c = λ n.
    moves_from g.O.Output.can g.O.Output.whole _ _ _ _ _
    (run_step c.args.run.now.code.now c.args.run.now.max c.args.run.now.chunk n c.args.pc.now c.args.frames.now (flat c.args.walk.now) c.in-Some.instr
    (sym c.instr_at.ensures.value ∙ c.in-Some.is))
    (c.in_ok-on-in-Some.ensures.moved (run c.args.run.now.code.now c.args.run.now.max c.args.run.now.chunk n) c.args.pc.now refl)
