use Rattle.std.proofs.Common.{◌≡◌, ◌≤◌, ◌-◌, ◌++◌, length, take, drop}
use Rattle.text_grammar.specs.Runs.{run, after_run}
use Rattle.text_parser.proofs.octets.run_end.Given as goal

-- the octets so far are of the run, and the others are as in the text
abbrev pub invariant-loop-end : goal.invariant-loop-end
invariant-loop-end l =
    (l.end ≤ length l.text) × (take l.end l.text ++ run (drop l.end l.text) ≡ run l.text) × (after_run (drop l.end l.text) ≡ after_run l.text)

abbrev pub decreases-loop-end : goal.decreases-loop-end
decreases-loop-end l = length l.text - l.end
