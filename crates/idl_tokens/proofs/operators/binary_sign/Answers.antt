use Rattle.std.proofs.Common.{◌≡◌, ◌∙◌, sym, true, false, Some, ap}
use Rattle.idl_grammar.specs.Text.{symbol_at}
use Rattle.idl_grammar.specs.Expressions.{level, many_operators, binary_operators}
use Rattle.idl_tokens.specs.Found.{found}
use Rattle.idl_tokens.proofs.Signs.{binary_sign_is}
use Rattle.idl_tokens.proofs.operators.binary_sign.Goals as goal

pub returns-clause-gives : goal.returns-clause-gives
returns-clause-gives c =
    let h : found binary_operators (symbol_at c.args.parser.now c.args.at) ≡ Some c.in-Some.operator = cc in
    let e : level c.in-Some.operator ≡ c.args.wanted = cc in
    let few : many_operators c.args.start c.args.parser.now c.args.at ≡ false = cc in
    rw (c.octet.ensures, c.past.ensures) (binary_sign_is c.args.wanted c.args.start c.args.parser.now c.args.at c.in-Some.operator h e few)
