use Rattle.std.proofs.Common.{◌∙◌, ap, [], ◌∷◌, ◌++◌, codes}
use Rattle.idl_listing.specs.Listing.{behind, version_word, uuid_word}
use Rattle.idl_listing.proofs.WordByWord.{first_word, then_words, then_end}
use Rattle.idl_listing.proofs.header_line.header_line.Goals as goal

pub returns : goal.returns
returns c =
    let t = c.args.text.now in
    let i = c.args.interface.now in
    let first = codes "interface" in
    let base = t ++ first in
    let e0 = c.in_ok-append.ensures.ok ∙ first_word t first in
    let e1 = c.in_ok-word.ensures ∙ ap (λ w. c.append.new.self ++ behind (w ∷ [])) c.as_slice.ensures.same ∙ then_words base _ [] (i.name ∷ []) e0 in
    let e2 = c.in_ok-word-2.ensures ∙ then_words base _ (i.name ∷ []) (codes "version" ∷ []) e1 in
    let e3 = c.in_ok-version_word.ensures ∙ then_words base _ (i.name ∷ codes "version" ∷ []) (version_word i.major i.minor ∷ []) e2 in
    let e4 = c.in_ok-word-3.ensures ∙ then_words base _ (i.name ∷ codes "version" ∷ version_word i.major i.minor ∷ []) (codes "uuid" ∷ []) e3 in
    let e5 = c.in_ok-uuid_word.ensures ∙ then_words base _ (i.name ∷ codes "version" ∷ version_word i.major i.minor ∷ codes "uuid" ∷ []) (uuid_word i.uuid ∷ []) e4 in
    c.in_ok-append-2.ensures.ok
    ∙ then_end t first _ (i.name ∷ codes "version" ∷ version_word i.major i.minor ∷ codes "uuid" ∷ uuid_word i.uuid ∷ []) e5
