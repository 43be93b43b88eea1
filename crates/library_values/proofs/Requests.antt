-- A request with which a response is judged.
use Rattle.std.proofs.Common.{◌≡◌, ℕ, refl}
use Rattle.nd_types.specs.declared.interface.Interface.{Interface}
use Rattle.nd_types.specs.declared.types.Side.TheVariants.{In, Out}
use Rattle.nd_value.specs.Fitting.{Fitting}
use Rattle.nd_value.specs.Request.{IsRequest}

-- a fit of inputs is a request of its operation
pub request_is : (i : Interface) (n : ℕ) (f : Fitting) → f.interface ≡ i → f.op ≡ n → f.side ≡ In → IsRequest i n Out f
request_is i n f interface op side = record { interface = interface; op = op; side = side; judged = refl }
