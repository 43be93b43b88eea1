use Rattle.std.proofs.Common.{◌∙◌, ◌+◌, [], ◌∷◌, ◌++◌, ap, sym, drop, arith}
use Rattle.std.specs.List.{flat_map}
use Rattle.nd_types.specs.Fields.{param_fields}
use Rattle.idl_listing.specs.Listing.{behind, attr_word, attr_words, star}
use Rattle.idl_listing.proofs.ListedLines.{words_more, words_end}
use Rattle.idl_listing.proofs.operation_lines.attributes.Goals as goal

pub loop-at-preserved : goal.loop-at-preserved
loop-at-preserved c =
    let l = c.loop-at in
    let v = c.in-Some.var.now in
    let f = attr_words (param_fields c.args.operation.now) in
    let vars = c.args.vars.now in
    ap (λ t. t ++ behind (flat_map f (drop (l.at + 1) vars)))
    (c.in_ok-attribute.ensures ∙ ap (λ n. l.text ++ behind (attr_word v.attr ∷ (star v.star ++ n) ∷ [])) c.param_name.ensures)
    ∙ words_more f vars l.at v l.text c.in-Some.ensures.some
    ∙ l.invariant

pub returns : goal.returns
returns c =
    let l = c.loop-at in
    let f = attr_words (param_fields c.args.operation.now) in
    sym (words_end f c.args.vars.now l.at l.text (omega (arith, c.len-at-end.ensures, c.loop-at-test.false))) ∙ l.invariant
