-- Who an interface is, as programs in C see it.
-- `i` is an interface, `x` is what is said of it.
use Rattle.std.specs.Prelude.{◌≡◌, ℕ, length, Option, Some, None}
use Rattle.nd_types.specs.declared.interface.Interface.{Interface}
use Rattle.library_calls.specs.Halves.{joined_halves}
use Rattle.library_answers.specs.declared.identity.Identity.{Identity}

-- 1 for a UUID, 0 for none
abbrev pub has_uuid : Option ℕ → ℕ
has_uuid (Some uuid) = 1
has_uuid None = 0

-- the number of a UUID; 0 for none
abbrev pub uuid_number : Option ℕ → ℕ
uuid_number (Some uuid) = uuid
uuid_number None = 0

-- this is said of the interface
pub record IsIdentity (i : Interface) (x : Identity) : Type 0 where
  pub has_uuid_is : x.has_uuid ≡ has_uuid i.uuid
  pub major : x.major ≡ i.major
  pub minor : x.minor ≡ i.minor
  pub types : x.types ≡ length i.types
  pub uuid : joined_halves x.uuid ≡ uuid_number i.uuid
