use Rattle.std.proofs.Common.{◌≡◌, ◌≤◌, ◌++◌, take, slice_range, flat_map}
use Rattle.text_grammar.specs.Written.{escaped}
use Rattle.text_printer.proofs.quoting.append_escaped.Given as goal

abbrev pub invariant-loop-at : goal.invariant-loop-at
invariant-loop-at l = record {
  within : l.from ≤ l.at;
  plain : flat_map escaped (slice_range l.octets l.from l.at) ≡ slice_range l.octets l.from l.at;
  written : l.text ≡ l.initial.text ++ flat_map escaped (take l.from l.octets);
}
