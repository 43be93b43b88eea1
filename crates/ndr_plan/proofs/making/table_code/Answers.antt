use Rattle.std.proofs.Common.{◌∙◌, ap, ◌++◌}
use Rattle.ndr_code.specs.Code.{type_runs}
use Rattle.ndr_plan.specs.Addresses.{place_in, whole_in}
use Rattle.ndr_plan.proofs.Addressed.{runs_are}
use Rattle.ndr_plan.proofs.making.table_code.Goals as goal

pub returns : goal.returns
returns c =
    let table = c.args.interface.now.types in
    let a = c.args.addresses.now in
    runs_are table a c.requires _ (c.in_ok-push_types.ensures ∙ ap (λ xs. xs ++ type_runs (place_in a) (whole_in a) table 0 table) c.in_ok-code.ensures)
