use Rattle.std.proofs.Common.{◌∙◌, sym, ap, option_map}
use Rattle.idl_check.proofs.AcfOperations.{operation_put, other_named}
use Rattle.idl_check.proofs.acf_names.add_operation.Goals as goal

-- the declaration is an operation
pub returns-in-Some : goal.returns-in-Some
returns-in-Some c = λ left are.
    operation_put c.args.number left _ _ _ c.in-Some.name.now c.as_slice.result.now c.put.result (sym (ap (option_map (λ n. n.now)) c.in-Some.is) ∙ c.operation_name.ensures)
    c.as_slice.ensures c.put.ensures are

-- it is none
pub returns-in-None : goal.returns-in-None
returns-in-None c = λ left are. other_named c.args.number left _ _ (sym (ap (option_map (λ n. n.now)) c.in-None.is) ∙ c.operation_name.ensures) are
