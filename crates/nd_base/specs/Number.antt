-- Numbers that only contracts see.
use Rattle.std.specs.Prelude.{ℕ, ◌+◌}
use Rattle.nd_base.specs.declared.number.Step.{Step}
use Rattle.nd_base.specs.declared.number.Step.TheVariants.{Zero, After}

-- the number that a step stands for
abbrev pub number_of : Step → ℕ
number_of Zero = 0
number_of (After before) = before.value + 1
