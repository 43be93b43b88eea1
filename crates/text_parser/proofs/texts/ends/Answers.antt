use Rattle.std.proofs.Common.{◌≡◌, Bool, [], sym, subst}
use Rattle.std.specs.Bool.{MatchBool}
use Rattle.text_grammar.specs.Tokens.{skip}
use Rattle.text_parser.proofs.CellParts.{end_shown}
use Rattle.text_parser.proofs.texts.ends.Goals as goal

pub returns : goal.returns
returns c =
    subst (λ (b : Bool). MatchBool b (skip c.args.text.now ≡ []) (skip c.args.text.now ≡ [] → ⊥)) (sym c.is_end.ensures)
    (end_shown c.args.version c.args.text.now c.scan.result.rest.now c.scan.result.lexeme c.scan.ensures.comes)
