use Rattle.std.proofs.Common.{◌∙◌, ap, ap₂, [], ◌∷◌, ◌++◌, length, append_assoc}
use Rattle.nd_types.specs.declared.types.Side.TheVariants as side
use Rattle.ndr_code.specs.Code.{side_code, side_lines}
use Rattle.ndr_plan.proofs.SidesAdded.{response_at}
use Rattle.ndr_plan.proofs.making.push_operation.Goals as goal

pub returns : goal.returns
returns c here =
    let i = c.args.interface.now in
    let n = c.args.op in
    let o = c.args.operation.now in
    let p = c.args.parts.now in
    let first = c.in_ok-push_side.ensures here in
    let second = c.in_ok-push_side-2.ensures (response_at i.types i.operations n o p.code _ here first.code_is) in
    let asked = side_lines i.types i.operations n o side.In in
    record {
      code_is =
          second.code_is ∙ ap (λ xs. xs ++ side_code i.types o side.Out) first.code_is
          ∙ append_assoc p.code (side_code i.types o side.In) (side_code i.types o side.Out);
      entries_are =
          second.entries_are ∙ ap (λ xs. xs ++ side_lines i.types i.operations n o side.Out) first.entries_are
          ∙ append_assoc p.entries asked (side_lines i.types i.operations n o side.Out);
      sides_are =
          second.sides_are ∙ ap₂ (λ xs k. xs ++ (k ∷ [])) first.sides_are (ap length first.entries_are)
          ∙ append_assoc p.sides (length p.entries ∷ []) (length (p.entries ++ asked) ∷ []);
    }
