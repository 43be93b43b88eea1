use Rattle.std.proofs.Common.{◌≤◌, ◌-◌, List, ℕ}
use Rattle.nd_value.specs.Tree.{Flat}
use Rattle.ndr_explain.specs.Cursors.{IsAt}
use Rattle.ndr_explain.proofs.cursor.reach.Given as goal

abbrev pub invariant-loop-cursor : goal.invariant-loop-cursor
invariant-loop-cursor l = record {
  within : l.cursor.node ≤ l.node;
  here : (name : List ℕ) (paths : List (ℕ × List ℕ)) (flats : List Flat) → IsAt l.types name paths flats l.fn.cursor → IsAt l.types name paths flats l.cursor;
}

abbrev pub decreases-loop-cursor : goal.decreases-loop-cursor
decreases-loop-cursor l = l.node - l.cursor.node
