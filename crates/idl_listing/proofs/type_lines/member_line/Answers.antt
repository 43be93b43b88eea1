use Rattle.std.proofs.Common.{◌∙◌, ap, [], ◌∷◌, ◌++◌, codes, decimal}
use Rattle.idl_listing.specs.Listing.{behind, attrs_words}
use Rattle.idl_listing.proofs.WordByWord.{first_word, then_words, then_end}
use Rattle.idl_listing.proofs.type_lines.member_line.Goals as goal

pub returns : goal.returns
returns c =
    let t = c.args.text.now in
    let m = c.args.member.now in
    let first = codes "member" in
    let base = t ++ first in
    let e0 = c.in_ok-append.ensures.ok ∙ first_word t first in
    let e1 = c.in_ok-word.ensures ∙ ap (λ w. c.append.new.self ++ behind (w ∷ [])) c.as_slice.ensures.same ∙ then_words base _ [] (m.name ∷ []) e0 in
    let e2 = c.in_ok-number.ensures ∙ then_words base _ (m.name ∷ []) (decimal m.of.0 ∷ []) e1 in
    let e3 = c.in_ok-attributes.ensures ∙ then_words base _ (m.name ∷ decimal m.of.0 ∷ []) (attrs_words c.args.members.now m.vars) e2 in
    c.in_ok-append-2.ensures.ok ∙ then_end t first _ (m.name ∷ decimal m.of.0 ∷ attrs_words c.args.members.now m.vars) e3
