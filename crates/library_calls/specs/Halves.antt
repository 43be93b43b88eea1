-- The number that two halves of 64 bits make.
use Rattle.std.specs.Prelude.{ℕ, ◌+◌, ◌*◌, ◌^◌}
use Rattle.library_calls.specs.declared.wide.Wide.{Wide}

abbrev pub joined_halves : Wide → ℕ
joined_halves w = w.high * 2 ^ 64 + w.low
