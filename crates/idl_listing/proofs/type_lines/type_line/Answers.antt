use Rattle.std.proofs.Common.{◌∙◌, ap, [], ◌∷◌, ◌++◌, codes, decimal}
use Rattle.nd_types.specs.Layout.{align_of, hoists}
use Rattle.idl_listing.specs.Listing.{behind, word_if, form}
use Rattle.idl_listing.proofs.WordByWord.{first_word, then_words, then_end}
use Rattle.idl_listing.proofs.WordLists.{type_words}
use Rattle.idl_listing.proofs.type_lines.type_line.Goals as goal

pub returns : goal.returns
returns c =
    let t = c.args.text.now in
    let types = c.args.interface.now.types in
    let of = c.args.of.0 in
    let d = c.args.definition.now in
    let first = codes "type" in
    let base = t ++ first in
    let e0 = c.in_ok-append.ensures.ok ∙ first_word t first in
    let e1 = c.in_ok-number.ensures ∙ then_words base _ [] (decimal of ∷ []) e0 in
    let e2 = c.in_ok-form.ensures ∙ then_words base _ (decimal of ∷ []) (form d) e1 in
    let e3 = c.in_ok-word.ensures ∙ then_words base _ (decimal of ∷ form d) (codes "align" ∷ []) e2 in
    let e4 =
    c.in_ok-number-2.ensures ∙ ap (λ n. c.word.new.text ++ behind (decimal n ∷ [])) (c.from.ensures ∙ c.align.ensures)
    ∙ then_words base _ (decimal of ∷ form d ++ codes "align" ∷ []) (decimal (align_of types of) ∷ []) e3 in
    let e5 =
    c.in_ok-word_if.ensures ∙ ap (λ b. c.number-2.new.text ++ behind (word_if b (codes "hoists"))) c.hoists.ensures
    ∙ then_words base _ (decimal of ∷ form d ++ codes "align" ∷ [] ++ decimal (align_of types of) ∷ []) (word_if (hoists types of) (codes "hoists")) e4 in
    c.in_ok-append-2.ensures.ok
    ∙ then_end t first _ (decimal of ∷ form d ++ codes "align" ∷ [] ++ decimal (align_of types of) ∷ [] ++ word_if (hoists types of) (codes "hoists")) e5
    ∙ type_words t (form d) (word_if (hoists types of) (codes "hoists")) (decimal of) (decimal (align_of types of))
