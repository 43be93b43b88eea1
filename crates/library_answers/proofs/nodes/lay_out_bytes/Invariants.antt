use Rattle.std.proofs.Common.{◌≡◌, ◌≤◌, length, map, take, drop}
use Rattle.library_answers.specs.Nodes.{low_octet}
use Rattle.library_answers.proofs.nodes.lay_out_bytes.Given as goal

abbrev pub invariant-loop-at : goal.invariant-loop-at
invariant-loop-at l = record {
  within : l.at ≤ length l.numbers;
  room : length l.numbers ≤ length l.out;
  front : take l.at l.out ≡ map low_octet (take l.at l.numbers);
  rest : drop l.at l.out ≡ drop l.at l.fn.out;
}
