use Rattle.std.proofs.Common.{◌≡◌, ◌∙◌, ◌<◌, ◌^◌, length, sym, None, Some, Option, subst, true, slice_get}
use Rattle.std.proofs.lemmas.Result.{err_from_is_err_and}
use Rattle.nd_types.specs.declared.types.Operation.{Operation}
use Rattle.nd_value.specs.declared.value.Graph.{Graph}
use Rattle.nd_value.specs.Conforms.{HasFewNodes, first_local}
use Rattle.nd_value.specs.Fitting.{setting_beside}
use Rattle.nd_value.specs.Passes.{AreReached}
use Rattle.nd_lemmas.proofs.Lists.{item_at}
use Rattle.nd_value.proofs.Misfits.{passed_conforms}
use Rattle.nd_misfits.specs.Numbers.{are_small_roots}
use Rattle.nd_fit.proofs.Told.{told_local, told_shared, told_unreached_in, told_disagreeing, told_memory}
use Rattle.nd_fit.proofs.ProgramValues.{passed_kept, program_values}
use Rattle.nd_fit.proofs.Inputs.{of_request}
use Rattle.nd_fit.proofs.fitting.passes.Goals as goal

pub flattened-requires-clause-keepable : goal.flattened-requires-clause-keepable
flattened-requires-clause-keepable c =
    let i = c.args.interface.now in
    let (o, there) = item_at i.operations c.args.op c.requires.known in
    passed_kept (setting_beside i o c.args.side None) c.args.graph.now i.legal.enumerators c.requires.few_nodes (c.in_ok-local_misfit.ensures.none o None there)
    c.in_ok-local_misfit.ensures.machine

pub unreached_cell-requires-clause-few_cells : goal.unreached_cell-requires-clause-few_cells
unreached_cell-requires-clause-few_cells c = subst (λ (g : Graph). length g.cells < 2 ^ 32) (sym c.in_ok-flat.ensures) c.requires.few_cells

pub unreached_cell-requires-clause-few_nodes : goal.unreached_cell-requires-clause-few_nodes
unreached_cell-requires-clause-few_nodes c = subst HasFewNodes (sym c.in_ok-flat.ensures) c.requires.few_nodes

pub unreached_cell-requires-clause-local : goal.unreached_cell-requires-clause-local
unreached_cell-requires-clause-local c =
    subst (λ (g : Graph). (o : Operation) (q : Option Graph) → slice_get c.args.interface.now.operations c.args.op ≡ Some o
    → first_local (setting_beside c.args.interface.now o c.args.side q) g ≡ None) (sym c.in_ok-flat.ensures) c.in_ok-local_misfit.ensures.none

pub given_numbers-requires-clause-request : goal.given_numbers-requires-clause-request
given_numbers-requires-clause-request c = of_request c.args.interface.now c.args.op c.args.side _ c.requires.request

pub disagreeing_attribute-requires-clause-small : goal.disagreeing_attribute-requires-clause-small
disagreeing_attribute-requires-clause-small c = subst (λ ns. are_small_roots ns ≡ true) (sym c.as_slice.ensures.value) c.in_ok-numbers.ensures.small

pub returns-in_err-local_misfit-clause-misfit : goal.returns-in_err-local_misfit-clause-misfit
returns-in_err-local_misfit-clause-misfit c =
    let p = err_from_is_err_and c.from_residual.result c.from_residual.ensures.1 in
    rw (p.1, p.2) (λ o there. told_local (setting_beside c.args.interface.now o c.args.side _) c.args.graph.now _ (c.in_err-local_misfit.ensures.first o _ there))

pub returns-in_err-shared_cell-clause-misfit : goal.returns-in_err-shared_cell-clause-misfit
returns-in_err-shared_cell-clause-misfit c =
    let p = err_from_is_err_and c.from_residual-in_err-shared_cell.result c.from_residual-in_err-shared_cell.ensures.1 in
    rw (p.1, p.2) (λ o there.
    told_shared (setting_beside c.args.interface.now o c.args.side _) c.args.graph.now _ (c.in_ok-local_misfit.ensures.none o _ there)
    (c.in_err-shared_cell.ensures.first o None there))

pub returns-in_err-flat-clause-misfit : goal.returns-in_err-flat-clause-misfit
returns-in_err-flat-clause-misfit c =
    let p = err_from_is_err_and c.from_residual-in_err-flat.result c.from_residual-in_err-flat.ensures.1 in
    rw (p.1) (λ o there. told_memory (setting_beside c.args.interface.now o c.args.side _) c.args.graph.now _ p.2)

pub returns-in_err-unreached_cell-clause-misfit : goal.returns-in_err-unreached_cell-clause-misfit
returns-in_err-unreached_cell-clause-misfit c =
    let p = err_from_is_err_and c.from_residual-in_err-unreached_cell.result c.from_residual-in_err-unreached_cell.ensures.1 in
    rw (p.1, p.2) (λ o there.
    let w = setting_beside c.args.interface.now o c.args.side _ in
    told_unreached_in w c.args.graph.now _ _ c.in_ok-flat.ensures (c.in_ok-local_misfit.ensures.none o _ there) (c.in_ok-shared_cell.ensures.none o None there)
    (c.in_err-unreached_cell.ensures.first o _ there))

pub returns-in_err-numbers-clause-misfit : goal.returns-in_err-numbers-clause-misfit
returns-in_err-numbers-clause-misfit c =
    let p = err_from_is_err_and c.from_residual-in_err-numbers.result c.from_residual-in_err-numbers.ensures.1 in
    rw (p.1) (λ o there. told_memory (setting_beside c.args.interface.now o c.args.side _) c.args.graph.now _ p.2)

pub returns-in_err-disagreeing_attribute-clause-misfit : goal.returns-in_err-disagreeing_attribute-clause-misfit
returns-in_err-disagreeing_attribute-clause-misfit c =
    let p = err_from_is_err_and c.from_residual-in_err-disagreeing_attribute.result c.from_residual-in_err-disagreeing_attribute.ensures.1 in
    rw (p.1, p.2) (λ o there.
    let w = setting_beside c.args.interface.now o c.args.side _ in
    told_disagreeing w c.args.graph.now _ (c.in_ok-local_misfit.ensures.none o _ there) (c.in_ok-shared_cell.ensures.none o None there)
    (subst (λ (g : Graph). AreReached w g) c.in_ok-flat.ensures (c.in_ok-unreached_cell.ensures.none o _ there))
    (c.in_err-disagreeing_attribute.ensures.first o _ there (c.as_slice.ensures.value ∙ c.in_ok-numbers.ensures.numbers o there)))

pub returns-clause-conforms : goal.returns-clause-conforms
returns-clause-conforms c o there =
    let w = setting_beside c.args.interface.now o c.args.side _ in
    passed_conforms w c.args.graph.now (c.in_ok-local_misfit.ensures.none o _ there) (c.in_ok-shared_cell.ensures.none o None there)
    (subst (λ (g : Graph). AreReached w g) c.in_ok-flat.ensures (c.in_ok-unreached_cell.ensures.none o _ there))
    (c.in_ok-disagreeing_attribute.ensures.none o _ there (c.as_slice.ensures.value ∙ c.in_ok-numbers.ensures.numbers o there))
    (program_values w c.args.graph.now c.in_ok-local_misfit.ensures.machine) c.requires.few_cells c.requires.few_nodes
