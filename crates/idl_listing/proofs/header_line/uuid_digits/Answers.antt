use Rattle.std.proofs.Common.{◌∙◌, codes}
use Rattle.idl_listing.proofs.WordByWord.{then_piece}
use Rattle.idl_listing.proofs.header_line.uuid_digits.Goals as goal

-- nine pieces, one after the other
pub returns : goal.returns
returns c =
    let t = c.args.text.now in
    let p1 = c.in_ok-hex_digits.ensures in
    let p2 = c.in_ok-append.ensures.ok ∙ then_piece t _ _ (codes "-") p1 in
    let p3 = c.in_ok-hex_digits-2.ensures ∙ then_piece t _ _ _ p2 in
    let p4 = c.in_ok-append-2.ensures.ok ∙ then_piece t _ _ (codes "-") p3 in
    let p5 = c.in_ok-hex_digits-3.ensures ∙ then_piece t _ _ _ p4 in
    let p6 = c.in_ok-append-3.ensures.ok ∙ then_piece t _ _ (codes "-") p5 in
    let p7 = c.in_ok-hex_digits-4.ensures ∙ then_piece t _ _ _ p6 in
    let p8 = c.in_ok-append-4.ensures.ok ∙ then_piece t _ _ (codes "-") p7 in
    c.in_ok-hex_digits-5.ensures ∙ then_piece t _ _ _ p8
