use Rattle.text_parser.proofs.Shown.{no_bytes, bytes_first}
use Rattle.text_parser.proofs.lexeme.quoted_bytes.Goals as goal

pub returns-in-None : goal.returns-in-None
returns-in-None c = no_bytes c.args.version c.args.text.now c.args.body.now c.requires.two c.requires.begins c.in-None.ensures

pub returns-in-Some : goal.returns-in-Some
returns-in-Some c =
    let s = c.in-Some.ensures in
    (s.0, s.1, bytes_first c.args.version c.args.text.now c.args.body.now s.0 c.in-Some.rest.now c.requires.two c.requires.begins s.1)
