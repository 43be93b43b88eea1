use Rattle.std.proofs.Common.{◌∙◌, ap, [], ◌∷◌, ◌++◌, codes, decimal}
use Rattle.idl_listing.specs.Listing.{behind}
use Rattle.idl_listing.proofs.WordByWord.{first_word, then_words, then_end}
use Rattle.idl_listing.proofs.operation_lines.name_line.Goals as goal

pub returns : goal.returns
returns c =
    let t = c.args.text.now in
    let o = c.args.operation.now in
    let first = codes "op" in
    let base = t ++ first in
    let e0 = c.in_ok-append.ensures.ok ∙ first_word t first in
    let e1 = c.in_ok-number.ensures ∙ then_words base _ [] (decimal c.args.index ∷ []) e0 in
    let e2 = c.in_ok-word.ensures ∙ ap (λ w. c.number.new.text ++ behind (w ∷ [])) c.as_slice.ensures.same ∙ then_words base _ (decimal c.args.index ∷ []) (o.name ∷ []) e1 in
    c.in_ok-append-2.ensures.ok ∙ then_end t first _ (decimal c.args.index ∷ o.name ∷ []) e2
