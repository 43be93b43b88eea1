use Rattle.std.proofs.Common.{◌∙◌, ap, [], ◌∷◌, ◌++◌}
use Rattle.ndr_code.specs.declared.lists.PlanLine.TheVariants as line
use Rattle.ndr_plan.proofs.SidesAdded.{side_coded, side_listed}
use Rattle.ndr_plan.proofs.side_code.Parts.push_side.Goals as goal

pub returns : goal.returns
returns c here =
    let side = c.args.side.now in
    let i = side.interface.now in
    let o = side.operation.now in
    let p = c.args.self.now in
    let values = c.in_ok-push_roots.ensures in
    let pipes = c.in_ok-push_pipes.ensures in
    let checks = c.in-Ok-push.ensures.ok ∙ ap (λ k. c.push_roots.new.self.entries ++ (line.Checks side.op side.side k ∷ [])) (c.in_ok-narrow-2.ensures ∙ c.len-2.ensures) in
    record {
      code_is = side_coded i.types i.operations side.op o side.side p.code _ _ _ values.code_is c.in_ok-push_checks.ensures pipes.code_is;
      entries_are =
          side_listed i.types i.operations side.op o side.side p.code _ _ _ values.code_is c.in_ok-push_checks.ensures pipes.code_is here
          p.entries _ _ _ values.entries_are checks pipes.entries_are;
      sides_are = pipes.sides_are ∙ values.sides_are ∙ c.in-Ok.ensures.ok ∙ ap (λ k. p.sides ++ (k ∷ [])) (c.in_ok-narrow.ensures ∙ c.len.ensures);
    }
