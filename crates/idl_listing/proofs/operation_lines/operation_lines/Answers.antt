use Rattle.std.proofs.Common.{◌∙◌}
use Rattle.idl_listing.proofs.WordByWord.{then_piece}
use Rattle.idl_listing.proofs.operation_lines.operation_lines.Goals as goal

pub returns : goal.returns
returns c =
    let t = c.args.text.now in
    let e1 = c.in_ok-name_line.ensures in
    let e2 = c.in_ok-side_lines.ensures ∙ then_piece t _ _ _ e1 in
    c.in_ok-side_lines-2.ensures ∙ then_piece t _ _ _ e2
