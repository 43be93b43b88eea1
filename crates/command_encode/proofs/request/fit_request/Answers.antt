use Rattle.std.proofs.Common.{◌≤◌, length, sym, subst, arith}
use Rattle.nd_base.specs.declared.TheConstants.{FILE_LIMIT}
use Rattle.command_encode.specs.Encoded.{IsTextCause}
use Rattle.command_encode.proofs.request.fit_request.Goals as goal

pub returns-in-Err-clause-refused : goal.returns-in-Err-clause-refused
returns-in-Err-clause-refused c o w there own =
    let within : length c.args.text.now ≤ FILE_LIMIT = omega (arith, c.if-text.false) in
    c.of_request.ensures w c.args.text.now within (subst (λ u. IsTextCause u c.args.text.now c.in-Err.refusal) (sym own) (c.in-Err.ensures.refused o there))
