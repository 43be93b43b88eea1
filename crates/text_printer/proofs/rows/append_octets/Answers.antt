use Rattle.std.proofs.Common.{arith}
use Rattle.std.proofs.lemmas.Result.{on_ok_weaker}
use Rattle.text_printer.proofs.RowTexts.{octets_written}
use Rattle.text_printer.proofs.rows.append_octets.Goals as goal

pub returns : goal.returns
returns c =
    on_ok_weaker c.append_hexes.result
    (λ e o. octets_written o c.args.octets.now c.args.text.now c.append_hexes.new.text (λ i. omega (arith, c.type_inv.octets i)) e)
    c.append_hexes.ensures
