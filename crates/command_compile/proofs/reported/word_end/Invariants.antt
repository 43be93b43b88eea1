use Rattle.std.proofs.Common.{◌≡◌, ◌≤◌, ◌-◌, ◌++◌, length, take, drop}
use Rattle.std.specs.Prelude.{take_while}
use Rattle.nd_base.specs.Text as classes
use Rattle.command_compile.proofs.reported.word_end.Given as goal

-- the octets so far are of the word, and the others are as in the text
abbrev pub invariant-loop-end : goal.invariant-loop-end
invariant-loop-end l =
    (l.end ≤ length l.text) × (take l.end l.text ++ take_while classes.is_word_octet (drop l.end l.text) ≡ take_while classes.is_word_octet l.text)

abbrev pub decreases-loop-end : goal.decreases-loop-end
decreases-loop-end l = length l.text - l.end
