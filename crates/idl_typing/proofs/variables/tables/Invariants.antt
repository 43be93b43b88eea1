use Rattle.std.proofs.Common.{◌≡◌, take, length}
use Rattle.idl_typing.specs.Lookups.{AreTables}
use Rattle.idl_typing.proofs.variables.tables.Given as goal

abbrev pub invariant-loop-list : goal.invariant-loop-list
invariant-loop-list l = record {
  count : length l.tables.items ≡ l.list-index;
  are : AreTables l.tables.items (take l.list-index l.nodes.lists.items);
}
