use Rattle.idl_lexer.proofs.OneVerdict.{only_answer}
use Rattle.idl_lexer.proofs.lexing.lex.Goals as goal

pub returns-clause-only : goal.returns-clause-only
returns-clause-only c = only_answer c.args.text.now c.lex_within.result c.lex_within.ensures.tokens c.lex_within.ensures.fault
