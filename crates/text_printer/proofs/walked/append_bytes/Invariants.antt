use Rattle.std.proofs.Common.{◌≤◌}
use Rattle.text_printer.specs.Walks.{WritesBytes}
use Rattle.text_printer.proofs.walked.append_bytes.Given as goal

abbrev pub invariant-loop-turn : goal.invariant-loop-turn
invariant-loop-turn l = record {
  turns : l._turn ≤ l.done;
  most : l.done ≤ l.count;
  written : WritesBytes l.done l.initial.text l.initial.walk l.text l.walk;
}
