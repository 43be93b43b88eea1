use Rattle.std.proofs.Common.{◌∙◌, ap, ap₂, [], ◌∷◌, ◌++◌, append_assoc}
use mathlib.Core.Path.{fun_ext}
use Rattle.nd_types.specs.declared.types.Side.TheVariants as side
use Rattle.nd_types.specs.Roots.{roots_of, root_index, named_roots}
use Rattle.ndr_code.specs.declared.instr.Instr.TheVariants as op
use Rattle.ndr_code.specs.Code.{root_checks}
use Rattle.ndr_plan.specs.Numbers.{number_in}
use Rattle.ndr_plan.specs.Checks.{check_by, checks_by}
use Rattle.ndr_plan.proofs.OwnParams.{roots_own, same_checks}
use Rattle.ndr_plan.proofs.side_checks.push_checks.Goals as goal

pub returns : goal.returns
returns c =
    let C = c.args.code.now in
    let of = c.args.side.now in
    let o = of.operation.now in
    let here = roots_of of.interface.now.types of.side o in
    let asked = roots_of of.interface.now.types side.In o in
    let named = named_roots of.interface.now.types of.side o in
    let by_number =
    ap₂ (λ h g. C ++ checks_by (check_by of.side h g) o 0 named)
    (fun_ext {f = number_in c.in_ok-root_numbers.field-0.items.items} {g = λ j. root_index here j 0} c.in_ok-root_numbers.ensures)
    (fun_ext {f = number_in c.in_ok-root_numbers-2.field-0.items.items} {g = λ j. root_index asked j 0} c.in_ok-root_numbers-2.ensures) in
    c.in_ok-append.ensures.ok
    ∙ ap (λ xs. xs ++ (op.Ret ∷ []))
    (c.in_ok-push_roots.ensures ∙ by_number ∙ ap (λ xs. C ++ xs) (same_checks of.side o here asked 0 here (roots_own of.interface.now.types of.side o)))
    ∙ append_assoc C (root_checks of.side here asked 0 here) (op.Ret ∷ [])
