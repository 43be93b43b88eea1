use Rattle.std.proofs.Common.{◌∙◌, ◌-◌, length, take, drop}
use Rattle.text_grammar.proofs.Scanned.{word_first}
use Rattle.text_parser.proofs.FirstTokens.{rest_is}
use Rattle.text_parser.proofs.lexeme.word.Goals as goal

pub returns : goal.returns
returns c =
    let text = c.args.text.now in
    let end = c.run_end-end.result in
    word_first text (take end text) (take (length text - end) (drop end text)) c.requires c.run_end-end.ensures.run (rest_is end text ∙ c.run_end-end.ensures.after)
