-- The names that belong to a refusal.
use Rattle.std.specs.Prelude.{ℕ, List, []}
use Rattle.command_refusals.specs.declared.refusal.CompatFault.TheVariants.{Differs}
use Rattle.command_refusals.specs.declared.refusal.IdlReason.TheVariants.{Banned, Unknown, Twice}
use Rattle.command_refusals.specs.declared.refusal.Refusal.{Refusal}
use Rattle.command_refusals.specs.declared.refusal.Refusal.TheVariants.{Absent, BadIdl, BadValue, NotCompatible}

-- the file that is refused or absent
abbrev pub file_of : Refusal → List ℕ
file_of (Absent file) = file
file_of (BadIdl file line column why) = file
file_of _ = []

-- a word or name that a file has; the path of a value; an operation
abbrev pub name_of : Refusal → List ℕ
name_of (BadIdl file line column (Banned word)) = word
name_of (BadIdl file line column (Unknown name)) = name
name_of (BadIdl file line column (Twice name)) = name
name_of (BadValue path why) = path
name_of (NotCompatible (Differs name)) = name
name_of _ = []
