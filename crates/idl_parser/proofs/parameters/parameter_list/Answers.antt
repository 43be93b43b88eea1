use Rattle.std.proofs.Common.{◌≡◌}
use Rattle.idl_grammar.specs.Symbols as symbol
use Rattle.idl_grammar.specs.Reading.{parameter_read, more_parameters_read}
use Rattle.idl_grammar.specs.Seen.{seen_parameter}
use Rattle.idl_tokens.proofs.Lists.{first_and_others}
use Rattle.idl_parser.proofs.parameters.parameter_list.Goals as goal

pub returns-clause-gives : goal.returns-clause-gives
unfolding more_parameters_read
returns-clause-gives c =
    rw (first_and_others symbol.Comma c.args.parser.now (parameter_read c.args.fuel c.args.nesting c.args.parser.now c.args.depth) c.args.at
    (seen_parameter c.in_ok-first.first) c.in_ok-first.next c.in_ok-first.ensures.gives)
    c.parameters_from.ensures.gives
