use Rattle.std.proofs.Common.{◌∙◌, ap, sym, drop, map, ◌++◌, arith}
use Rattle.std.proofs.Common.{◌+◌, [], ◌∷◌, rules}
use Rattle.std.proofs.lemmas.Int.{to_z-of_z}
use mir.Val.{SFits}
use mir.Syntax.{w128}
use Rattle.std.specs.Fmt.{signed_decimal}
use Rattle.idl_listing.specs.Listing.{behind}
use Rattle.idl_listing.proofs.ListedLines.{word_more, word_end}
use Rattle.idl_listing.proofs.type_lines.values.Goals as goal

pub loop-at-preserved : goal.loop-at-preserved
loop-at-preserved c =
    let l = c.loop-at in
    let fits : SFits w128 c.in-Some.value.now = search rules in
    ap (λ t. t ++ behind (map signed_decimal (drop (l.at + 1) c.args.values.now))) (c.in_ok-signed.ensures ∙ ap (λ z. l.text ++ behind (signed_decimal z ∷ [])) (to_z-of_z w128 _ fits))
    ∙ word_more signed_decimal c.args.values.now l.at c.in-Some.value.now l.text c.in-Some.ensures.some ∙ l.invariant

pub returns : goal.returns
returns c =
    let l = c.loop-at in
    sym (word_end signed_decimal c.args.values.now l.at l.text (omega (arith, c.len-at-end.ensures, c.loop-at-test.false))) ∙ l.invariant
