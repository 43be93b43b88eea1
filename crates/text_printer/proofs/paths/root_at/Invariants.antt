use Rattle.std.proofs.Common.{◌≡◌, ◌≤◌, length}
use Rattle.text_printer.proofs.paths.root_at.Given as goal

abbrev pub invariant-loop-root : goal.invariant-loop-root
invariant-loop-root l = record { counted : l.place ≡ length l.yielded; before : l.place ≤ l.at }
