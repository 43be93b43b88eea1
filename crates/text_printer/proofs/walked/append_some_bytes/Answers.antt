use Rattle.nd_flat.specs.FlatForm.{row_numbers}
use Rattle.nd_flat.proofs.RowLaws.{length_row_values}
use Rattle.text_printer.proofs.RowTexts.{row_digits}
use Rattle.text_printer.proofs.walked.append_some_bytes.Goals as goal

pub returns-in-Some-clause-text : goal.returns-in-Some-clause-text
returns-in-Some-clause-text c =
    let r = c.in-Some.row in
    row_digits r.count (row_numbers r) c.args.text.now c.append_row.new.text c.args.walk.now c.row.new.self (length_row_values r.order r.of r.count r.octets.now)
    c.in-Some.ensures.some c.in_ok-append_row.ensures
