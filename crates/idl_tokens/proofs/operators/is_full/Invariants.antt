use Rattle.std.proofs.Common.{◌≡◌, ◌≤◌}
use Rattle.idl_grammar.specs.Expressions.{operators}
use Rattle.idl_tokens.proofs.operators.is_full.Given as goal

-- the operators so far
abbrev pub invariant-loop-place : goal.invariant-loop-place
invariant-loop-place l = (l.count ≡ operators l.parser l.start l.place) × (l.count ≤ l.place)
