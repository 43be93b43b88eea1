use Rattle.std.proofs.Common.{◌≡◌, ◌++◌, List, length, drop, map}
use Rattle.nd_misfits.specs.declared.pointers.CellPointer.{CellPointer}
use Rattle.nd_misfits.specs.HomeList.{home_tree}
use Rattle.nd_misfits.specs.Pointers.{first_clash, pointers_of_homes}
use Rattle.nd_misfits.proofs.shared.among.Given as goal

abbrev pub invariant-loop-at : goal.invariant-loop-at
invariant-loop-at l = record {
  length : length l.names.items ≡ length l.fn.names.items;
  left : (rest : List CellPointer) → first_clash l.fn.names.items (pointers_of_homes l.types (map home_tree l.homes) ++ rest)
      ≡ first_clash l.names.items (pointers_of_homes l.types (map home_tree (drop l.at l.homes)) ++ rest);
}
