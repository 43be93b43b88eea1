use Rattle.std.proofs.Common.{◌≡◌, ◌+◌, drop}
use Rattle.command_why.specs.Explained.{shared}
use Rattle.command_why.proofs.near.shared.Given as goal

-- so many octets are shared, and what the names share after them
abbrev pub invariant-loop-count : goal.invariant-loop-count
invariant-loop-count l = shared l.one l.other ≡ l.count + shared (drop l.count l.one) (drop l.count l.other)
