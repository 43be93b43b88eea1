use Rattle.std.proofs.Common.{drop}
use Rattle.nd_value.specs.Tree.{trees}
use Rattle.text_printer.specs.Texts.{bytes_text}
use Rattle.text_printer.proofs.Listing.{Comes}
use Rattle.text_printer.proofs.values.append_bytes.Given as goal

abbrev pub invariant-loop-at : goal.invariant-loop-at
invariant-loop-at l = Comes l.text (bytes_text (trees (drop l.at l.vals))) l.initial.text (bytes_text (trees l.vals))
