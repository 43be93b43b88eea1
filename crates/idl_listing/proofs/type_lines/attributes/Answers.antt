use Rattle.std.proofs.Common.{◌∙◌, ap, sym, drop, ◌++◌, arith}
use Rattle.std.proofs.Common.{◌+◌, [], ◌∷◌}
use Rattle.std.specs.List.{flat_map}
use Rattle.idl_listing.specs.Listing.{behind, attr_word, attr_words, star}
use Rattle.idl_listing.proofs.ListedLines.{words_more, words_end}
use Rattle.idl_listing.proofs.type_lines.attributes.Goals as goal

pub loop-at-preserved : goal.loop-at-preserved
loop-at-preserved c =
    let l = c.loop-at in
    ap (λ t. t ++ behind (flat_map (attr_words c.args.members.now) (drop (l.at + 1) c.args.vars.now)))
    (c.in_ok-attribute.ensures ∙ ap (λ n. l.text ++ behind (attr_word c.in-Some.var.now.attr ∷ (star c.in-Some.var.now.star ++ n) ∷ [])) c.member_name.ensures)
    ∙ words_more (attr_words c.args.members.now) c.args.vars.now l.at c.in-Some.var.now l.text c.in-Some.ensures.some ∙ l.invariant

pub returns : goal.returns
returns c =
    let l = c.loop-at in
    sym (words_end (attr_words c.args.members.now) c.args.vars.now l.at l.text (omega (arith, c.len-at-end.ensures, c.loop-at-test.false))) ∙ l.invariant
