-- For the code: values as 128 bits hold them. No definition of the language stands here.
use Rattle.std.specs.Prelude.{ℕ, ℤ, pos, negsuc, if◌then◌else◌, nat_le, Option, Some, None}
use Rattle.idl_scope.specs.declared.fault.ConstFault.TheVariants.{OutOfRange}
use Rattle.idl_scope.specs.Value.{Outcome, fails, in_range}

-- an operator's value, where 128 bits hold it
abbrev pub checked : ℕ → Option ℤ → Outcome
checked at (Some z) = in_range at z
checked at None = fails OutOfRange at

-- how many places a shift is by, where it is by 0 to 63
abbrev pub places_of : ℤ → Option ℕ
places_of (pos k) = if nat_le k 63 then Some k else None
places_of (negsuc k) = None
