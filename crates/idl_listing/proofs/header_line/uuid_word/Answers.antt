use Rattle.std.proofs.Common.{◌∙◌, ap, sym, [], ◌∷◌, ◌++◌}
use Rattle.idl_listing.specs.Listing.{uuid_text, uuid_word, behind}
use Rattle.idl_listing.proofs.WordByWord.{one_behind}
use Rattle.idl_listing.proofs.header_line.uuid_word.Goals as goal

pub returns-in_ok-uuid_digits-in-Some : goal.returns-in_ok-uuid_digits-in-Some
returns-in_ok-uuid_digits-in-Some c =
    let t = c.args.text.now in
    c.in_ok-uuid_digits-in-Some.ensures ∙ ap (λ u. u ++ uuid_text c.in-Some.uuid) c.in_ok-append-in-Some.ensures.ok
    ∙ one_behind t (uuid_text c.in-Some.uuid)
    ∙ ap (λ u. t ++ behind (uuid_word u ∷ [])) (sym c.in-Some.is)
