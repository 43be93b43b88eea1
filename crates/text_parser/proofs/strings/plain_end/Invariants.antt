use Rattle.std.proofs.Common.{◌≡◌, ◌≤◌, ◌-◌, ◌++◌, length, take, drop}
use Rattle.text_parser.specs.Quick.{plain_run, after_plain}
use Rattle.text_parser.proofs.strings.plain_end.Given as goal

-- the octets so far stand for themselves, and the others are as in the text
abbrev pub invariant-loop-end : goal.invariant-loop-end
invariant-loop-end l =
    (l.end ≤ length l.text) × (take l.end l.text ++ plain_run (drop l.end l.text) ≡ plain_run l.text) × (after_plain (drop l.end l.text) ≡ after_plain l.text)

abbrev pub decreases-loop-end : goal.decreases-loop-end
decreases-loop-end l = length l.text - l.end
