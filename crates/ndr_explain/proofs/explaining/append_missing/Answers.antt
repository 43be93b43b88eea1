use Rattle.std.proofs.Common.{◌++◌, sym, ap, ◌∙◌, arith}
use Rattle.text_grammar.specs.Paths.{home_name}
use Rattle.ndr_explain.proofs.Lines.{own_path}
use Rattle.ndr_explain.proofs.explaining.append_missing.Goals as goal

pub returns : goal.returns
returns c w s past =
    let x = c.args.item.now in
    let g = c.args.fit.now.graph in
    c.in_ok-append_home.ensures
    ∙ ap (λ p. c.args.text.now ++ p) (c.home_name.ensures w s ∙ sym (own_path w g x.home x.node (omega arith)))
