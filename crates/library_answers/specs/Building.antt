-- What values are built of listings, and why none are; the types of cells.
-- `operation` and `side` are numbers, `q` is the request of a response, `l` a listing, `c` the number of a cell.
use Rattle.std.specs.Prelude.{◌≡◌, ◌≤◌, ◌<◌, ℕ, ◌-◌, Bool, ◌&&◌, nat_lt, nat_le, length, Some, None, slice_get}
use Rattle.nd_types.specs.declared.interface.Interface.{Interface}
use Rattle.nd_types.specs.declared.types.Operation.{Operation}
use Rattle.nd_types.specs.declared.types.Side.TheVariants.{Out}
use Rattle.nd_value.specs.declared.value.Graph.{Graph}
use Rattle.nd_value.specs.Fitting.{Fitting, setting_beside}
use Rattle.nd_flat.specs.Building.{referent_type}
use Rattle.command_refusals.specs.declared.refusal.Refusal.{Refusal}
use Rattle.command_refusals.specs.declared.refusal.Refusal.TheVariants.{Memory}
use Rattle.library_values.specs.Decoded.{IsOf}
use Rattle.library_nodes.specs.declared.listing.Listing.{Listing}
use Rattle.library_nodes.specs.Built.{Says, IsWrong, IsSaidBadly}
use Rattle.library_answers.specs.Answers.{OfSide}

-- the listing says the values, which are of that side, beside no request
abbrev pub IsBuild : Interface → ℕ → ℕ → Listing → Fitting → Type 0
IsBuild i operation side l v = OfSide i operation side (λ o s. Says (setting_beside i o s None) l v.graph × IsOf i operation s None v)

-- it says values that are refused, and memory is not the reason
abbrev pub IsBuildRefusal : Interface → ℕ → ℕ → Listing → Refusal → Type 0
IsBuildRefusal i operation side l e = (e ≡ Memory → ⊥) × OfSide i operation side (λ o s. IsSaidBadly (setting_beside i o s None) l e)

-- it says none, and this is the number of its first node that is wrong
abbrev pub IsWrongNode : Interface → ℕ → ℕ → Listing → ℕ → Type 0
IsWrongNode i operation side l node = OfSide i operation side (λ o s. IsWrong (setting_beside i o s None) l node)

-- the same of the response to a request
abbrev pub IsBuiltReply : Fitting → Listing → Fitting → Type 0
IsBuiltReply q l v =
    ((o : Operation) → slice_get q.interface.operations q.op ≡ Some o → Says (setting_beside q.interface o Out (Some q.graph)) l v.graph)
    × IsOf q.interface q.op Out (Some q.graph) v

abbrev pub IsBuiltReplyRefusal : Fitting → Listing → Refusal → Type 0
IsBuiltReplyRefusal q l e =
    (e ≡ Memory → ⊥)
    × ((o : Operation) → slice_get q.interface.operations q.op ≡ Some o → IsSaidBadly (setting_beside q.interface o Out (Some q.graph)) l e)

abbrev pub IsWrongReplyNode : Fitting → Listing → ℕ → Type 0
IsWrongReplyNode q l node =
    (o : Operation) → slice_get q.interface.operations q.op ≡ Some o → IsWrong (setting_beside q.interface o Out (Some q.graph)) l node

-- there is a cell of that number, from 1
abbrev pub has_cell : Graph → ℕ → Bool
has_cell g c = nat_lt 0 c && nat_le c (length g.cells)

-- there is, and this is its type
pub record IsCellType (g : Graph) (c t : ℕ) : Type 0 where
  pub some : 0 < c
  pub within : c ≤ length g.cells
  pub type_is : t ≡ referent_type (slice_get g.cells (c - 1))
