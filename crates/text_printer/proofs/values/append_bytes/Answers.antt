use Rattle.std.proofs.Common.{◌+◌, drop}
use Rattle.nd_value.specs.Tree.{trees}
use Rattle.nd_value.specs.Seen.{tree_of}
use Rattle.text_printer.specs.Texts.{byte_of, bytes_text}
use Rattle.text_printer.proofs.Listing.{comes_on, byte_next}
use Rattle.text_printer.proofs.values.append_bytes.Goals as goal

pub loop-at-preserved : goal.loop-at-preserved
loop-at-preserved c =
    let vs = c.args.vals.now in
    let i = c.loop-at.at in
    let v = tree_of c.in-Some.val.now in
    comes_on c.loop-at.text c.append_byte_of.new.text (byte_of v) _ (bytes_text (trees (drop (i + 1) vs))) c.args.text.now (bytes_text (trees vs)) c.loop-at.invariant
    (byte_next vs i v c.in-Some.ensures.some) c.in_ok-append_byte_of.ensures
