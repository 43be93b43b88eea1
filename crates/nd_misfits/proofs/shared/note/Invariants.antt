use Rattle.std.proofs.Common.{◌≡◌, ◌++◌, List, length, drop}
use Rattle.nd_misfits.specs.declared.pointers.CellPointer.{CellPointer}
use Rattle.nd_misfits.specs.Pointers.{first_clash}
use Rattle.nd_misfits.proofs.shared.note.Given as goal

abbrev pub invariant-loop-at : goal.invariant-loop-at
invariant-loop-at l = record {
  length : length l.names.items ≡ length l.fn.names.items;
  left : (rest : List CellPointer) → first_clash l.fn.names.items (l.found ++ rest) ≡ first_clash l.names.items (drop l.at l.found ++ rest);
}
