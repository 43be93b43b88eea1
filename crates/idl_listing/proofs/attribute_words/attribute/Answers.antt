use Rattle.std.proofs.Common.{◌≡◌, ◌∙◌, ap, [], ◌∷◌, ◌++◌}
use Rattle.idl_listing.specs.Listing.{behind, attr_word, star}
use Rattle.idl_listing.proofs.WordByWord.{then_words, goes_on}
use Rattle.idl_listing.proofs.attribute_words.attribute.Goals as goal

-- the word, then the variable with its star
pub returns : goal.returns
returns c =
    let t = c.args.text.now in
    let word = attr_word c.args.var.attr in
    let before = star c.args.var.star in
    let e : c.word.new.text ≡ t ++ behind (word ∷ []) = c.in_ok-word.ensures ∙ ap (λ w. t ++ behind (w ∷ [])) c.attr_word.ensures in
    c.in_ok-append.ensures.ok
    ∙ ap (λ u. u ++ c.args.name.now) (c.in_ok-word-2.ensures ∙ ap (λ w. c.word.new.text ++ behind (w ∷ [])) c.star.ensures)
    ∙ goes_on c.word.new.text before c.args.name.now
    ∙ then_words t c.word.new.text (word ∷ []) ((before ++ c.args.name.now) ∷ []) e
