use Rattle.std.proofs.Common.{◌≡◌, sym, subst}
use Rattle.idl_scope.specs.declared.name_fault.NameFault.{NameFault}
use Rattle.idl_names.specs.Loads.{IsFaultOf}
use Rattle.idl_names.proofs.Loads.{fault_within, told_is}
use Rattle.idl_names.proofs.Going.{at_error}
use Rattle.idl_names.proofs.loading.tree_of.Goals as goal

pub syntax_fault-requires : goal.syntax_fault-requires
syntax_fault-requires c = fault_within c.args.language c.in_ok-tokens.tokens c.in-Err.fault c.in-Err.ensures.answer

pub returns-in_err-tokens-clause-fault : goal.returns-in_err-tokens-clause-fault
returns-in_err-tokens-clause-fault c =
    at_error c.from_residual.result c.in_err-tokens.field-0.0 (IsFaultOf c.args.language c.args.file c.args.text.now) c.from_residual.ensures.1
    (c.in_err-tokens.ensures.fault c.args.language)

pub returns-clause-fault : goal.returns-clause-fault
returns-clause-fault c =
    subst (λ (f : NameFault). IsFaultOf c.args.language c.args.file c.args.text.now f) (sym c.syntax_fault.ensures)
    (told_is c.args.language c.in_ok-tokens.tokens c.args.text.now c.args.file c.in-Err.fault c.in_ok-tokens.ensures.text c.in_ok-tokens.ensures.tokens c.in-Err.ensures.answer)
