-- Counts that rise.
use Rattle.std.proofs.Common.{ℕ, ◌≤◌, arith}
use Rattle.nd_base.specs.Over.{Rose}

-- a count that rose later has risen
pub rose_later : (before mid now : ℕ) → before ≤ mid → Rose mid now → Rose before now
rose_later before mid now low rose = omega (arith, low, rose)
