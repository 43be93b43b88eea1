use Rattle.std.proofs.Common.{◌≡◌, ◌≤◌, ◌+◌, drop}
use Rattle.nd_base.specs.Text.{position}
use Rattle.nd_base.proofs.text.position.Given as goal

-- the position after all octets is that after the others from here on
abbrev pub invariant-loop-octet : goal.invariant-loop-octet
invariant-loop-octet l =
    (position l.line l.column (drop l.octet-index l.octets) ≡ position 1 1 l.octets) × (l.line ≤ l.octet-index + 1) × (l.column ≤ l.octet-index + 1)
