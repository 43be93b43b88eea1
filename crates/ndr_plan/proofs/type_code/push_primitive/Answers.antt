use Rattle.std.proofs.Common.{◌∙◌, ap, [], ◌∷◌, ◌++◌, append_assoc}
use Rattle.ndr_code.specs.declared.instr.Instr.TheVariants as op
use Rattle.ndr_code.specs.Code.{id, gap_run}
use Rattle.ndr_plan.proofs.type_code.push_primitive.Goals as goal

pub returns : goal.returns
returns c =
    c.in_ok-append.ensures.ok ∙ ap (λ xs. xs ++ (op.Num (id c.args.of.0) ∷ op.Ret ∷ [])) c.in_ok-push_gap.ensures
    ∙ append_assoc c.args.code.now (gap_run c.args.align) (op.Num (id c.args.of.0) ∷ op.Ret ∷ [])
