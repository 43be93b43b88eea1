use Rattle.std.proofs.Common.{◌≡◌, ◌+◌, ◌-◌, ◌*◌, ◌/◌, ◌++◌, length, take, drop, ap, ◌∙◌, arith}
use Rattle.std.proofs.lemmas.Result.{on_ok_weaker}
use Rattle.text_grammar.specs.Written.{hex_text}
use Rattle.text_printer.proofs.Characters.{eight_more, eights_over}
use Rattle.text_printer.proofs.digits.append_hexes.Goals as goal

pub loop-at-preserved : goal.loop-at-preserved
loop-at-preserved c =
    let os = c.args.octets.now in
    let i = c.loop-at.at in
    let eight : 8 * i + 8 - 8 * i ≡ 8 = omega arith in
    eight_more os i c.args.text.now c.loop-at.text c.append_eight.new.text c.loop-at.invariant
    (c.in_ok-append_eight.ensures ∙ ap (λ k. c.loop-at.text ++ hex_text (take k (drop (8 * i) os))) eight)

pub returns : goal.returns
returns c =
    let os = c.args.octets.now in
    let same : 8 * (length os / 8) ≡ 8 * c.loop-at.at = omega (arith, c.loop-at-test.false, c.loop-at.auto.at-end) in
    on_ok_weaker c.append_few.result
    (λ e. eights_over os (8 * c.loop-at.at) (8 * (length os / 8)) c.args.text.now c.loop-at.text c.append_few.new.text same c.loop-at.invariant e)
    c.append_few.ensures
