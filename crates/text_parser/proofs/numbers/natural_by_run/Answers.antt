use Rattle.std.proofs.Common.{◌∙◌, ◌-◌, sym, length, take, drop}
use Rattle.text_grammar.proofs.Scanned.{natural_some}
use Rattle.text_parser.proofs.FirstTokens.{natural_none, rest_is}
use Rattle.text_parser.proofs.numbers.natural_by_run.Goals as goal

pub returns-in-Some : goal.returns-in-Some
returns-in-Some c =
    let text = c.args.text.now in
    let end = c.run_end-end.result in
    natural_some text (take end text) (take (length text - end) (drop end text)) c.in-Some.value c.run_end-end.ensures.run
    (rest_is end text ∙ c.run_end-end.ensures.after) (sym c.in-Some.ensures)

pub returns-in-None : goal.returns-in-None
returns-in-None c =
    natural_none c.args.text.now (take c.run_end-end.result c.args.text.now) c.run_end-end.ensures.run (sym c.in-None.ensures)
