use Rattle.std.proofs.Common.{rules, ◌++◌, ℤ, codes, ap, ◌∙◌}
use Rattle.std.specs.Fmt.{signed_decimal}
use Rattle.std.proofs.lemmas.Int.{to_z-of_z}
use mir.Val.{SFits}
use mir.Syntax.{w128}
use Rattle.text_grammar.specs.Paths.{home_name}
use Rattle.ndr_explain.proofs.Lines.{three}
use Rattle.ndr_explain.proofs.explaining.append_own.Goals as goal

pub returns : goal.returns
returns c w s =
    let x = c.args.item.now in
    let z : ℤ = x.value in
    let fits : SFits w128 z = search rules in
    three c.args.text.now c.append_home.new.text c.append.new.self c.append_number.new.text (home_name w x.home) (codes " ") (signed_decimal x.value)
    (c.in_ok-append_home.ensures ∙ ap (λ n. c.args.text.now ++ n) (c.home_name.ensures w s)) c.in_ok-append.ensures.ok
    (c.in_ok-append_number.ensures ∙ ap (λ y. c.append.new.self ++ signed_decimal y) (to_z-of_z w128 z fits))
