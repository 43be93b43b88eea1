use Rattle.std.proofs.lemmas.Result.{on_ok_weaker}
use Rattle.text_printer.proofs.RowTexts.{row_of_bytes}
use Rattle.text_printer.proofs.rows.append_row.Goals as goal

pub returns-in-Byte : goal.returns-in-Byte
returns-in-Byte c =
    let r = c.args.row.now in
    on_ok_weaker c.append_octets.result
    (λ e. row_of_bytes r.order r.of r.count r.octets.now c.args.text.now c.append_octets.new.text c.in-Byte.is c.requires (e r.order))
    c.append_octets.ensures
