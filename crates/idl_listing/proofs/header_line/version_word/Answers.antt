use Rattle.std.proofs.Common.{◌∙◌, ap, ap₂, [], ◌∷◌, ◌++◌, codes, decimal}
use Rattle.idl_listing.specs.Listing.{behind}
use Rattle.idl_listing.proofs.WordByWord.{goes_on}
use Rattle.idl_listing.proofs.header_line.version_word.Goals as goal

pub returns : goal.returns
returns c =
    let t = c.args.text.now in
    let major = decimal c.args.major in
    let e1 = c.in_ok-number.ensures ∙ ap (λ n. t ++ behind (decimal n ∷ [])) c.from.ensures in
    let e2 = c.in_ok-append.ensures.ok ∙ ap (λ u. u ++ codes ".") e1 ∙ goes_on t major (codes ".") in
    c.in_ok-append-2.ensures.ok
    ∙ ap₂ (λ u v. u ++ v) e2 (c.as_bytes.ensures.value ∙ c.format.ensures.text)
    ∙ goes_on t (major ++ codes ".") (decimal c.args.minor)
