-- Why a file was not loaded.
use Rattle.std.specs.Prelude.{◌≡◌, ℕ, List, ⊤}
use Rattle.nd_base.specs.Over.{IsMissing, FilesOver, HasRisen}
use Rattle.command_refusals.specs.declared.refusal.Refusal.{Refusal}
use Rattle.command_refusals.specs.declared.refusal.Refusal.TheVariants.{Memory, Absent, FileFailed}

-- why the file of a name was not loaded; running out of memory needs no cause
abbrev pub IsLoadCause : FilesOver → List ℕ → Refusal → Type 0
IsLoadCause f name (Absent file) = (file ≡ name) × HasRisen f.absences × IsMissing f.held name
IsLoadCause f name (FileFailed file) = (file ≡ name) × HasRisen f.faults
IsLoadCause f name Memory = ⊤
IsLoadCause f name _ = ⊥
