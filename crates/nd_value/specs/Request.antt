-- The fit of a request, beside which a response is judged.
-- `i` is an interface, `n` the number of an operation, `s` a side, `f` a fit.
use Rattle.std.specs.Prelude.{◌≡◌, ℕ, Option, Some, None}
use Rattle.nd_types.specs.declared.interface.Interface.{Interface}
use Rattle.nd_types.specs.declared.types.Side.{Side}
use Rattle.nd_types.specs.declared.types.Side.TheVariants.{In, Out}
use Rattle.nd_value.specs.Fitting.{Fitting, IsFit}

-- A fit of the inputs of this operation, where outputs are judged.
pub record IsRequest (i : Interface) (n : ℕ) (s : Side) (f : Fitting) : Type 0 where
  pub interface : f.interface ≡ i
  pub op : f.op ≡ n
  pub side : f.side ≡ In
  pub judged : s ≡ Out

-- the same, if a fit is given
abbrev pub IsRequestOf : Interface → ℕ → Side → Option Fitting → Type 0
IsRequestOf i n s None = Unit {0}
IsRequestOf i n s (Some f) = IsRequest i n s f

-- if a fit is given, it conforms
abbrev pub ConformsIfGiven : Option Fitting → Type 0
ConformsIfGiven None = Unit {0}
ConformsIfGiven (Some f) = IsFit f
