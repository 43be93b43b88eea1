-- Files that are held, what they mean, and what must come of two versions of an interface that are held.
use Rattle.std.specs.Prelude.{◌≡◌, ◌⊎◌, ℕ, false, List, [], Option, Some, None, option_map, ⊤}
use Rattle.idl_grammar.specs.Files.{Idl}
use Rattle.nd_base.specs.Over.{loaded, FilesOver, IsContent}
use Rattle.nd_types.specs.declared.interface.Interface.{Interface}
use Rattle.idl_compat.specs.declared.pairs.TypePair.{TypePair}
use Rattle.idl_compat.specs.declared.compared.Compared.TheVariants.{Yes}
use Rattle.idl_compat.specs.Comparison.{IsCompared}
use Rattle.command_line.specs.Words.{Command, Compat}
use Rattle.command_refusals.specs.declared.refusal.Refusal.{Refusal}
use Rattle.command_refusals.specs.declared.refusal.Refusal.TheVariants.{BadIdl, NotCompatible}
use Rattle.command_refusals.specs.declared.refusal.CompatFault.TheVariants.{Differs}
use Rattle.command_refusals.specs.Lines.{line_of, status_of}
use Rattle.command_streams.specs.declared.outcome.Outcome.{Outcome}
use Rattle.command_streams.specs.declared.outcome.Outcome.TheVariants.{Done, Refused, Reported, Wanting}
use Rattle.command_compile.specs.Compiled.{FileNames}
use Rattle.command_compile.specs.Idl.{Means, IsIdlFault, IsDueFile}
use Rattle.command_compile.specs.Compat.{IsDifferent, IsCompatible, IsCompatCause, IsBeside, IsPlaceWritten}

-- ## Files that are held, and what they mean

-- the contents of files are known, and under this name this content is held, as far as a load gives it
abbrev pub IsHeld : FilesOver → List ℕ → List ℕ → Type 0
IsHeld f name file = (held : List ℕ → Option (List ℕ)) × (f.held ≡ Some held) × (option_map loaded (held name) ≡ Some file)

-- The main file is held, and the files mean this interface.
pub record IsHeldInterface (f : FilesOver) (named : FileNames) (i : Interface) : Type 0 where
  pub file : List ℕ
  pub held : IsHeld f named.idl.name file
  pub means : Means f.held named.idl file named.acf i

-- the main file is held, and the files are refused in this way
abbrev pub MustBeNoIdl : FilesOver → Idl → Option (List ℕ) → Refusal → Type 0
MustBeNoIdl f idl acf (BadIdl file line column why) =
    (text : List ℕ) × IsHeld f idl.name text × IsIdlFault f.held idl text acf (BadIdl file line column why)
MustBeNoIdl f idl acf _ = ⊥

-- ## When two versions must be found compatible, and when they must be refused

-- No load fails. `f` are files over a run, `old` and `new` the names of the files of the versions, `i` and `j` the interfaces.

-- The files of both are held and mean interfaces, and the second has all operations of the first.
pub record CanBeCompared (f : FilesOver) (old new : FileNames) : Type 0 where
  pub older : Interface
  pub newer : Interface
  pub first : IsHeldInterface f old older
  pub second : IsHeldInterface f new newer
  pub pairs : List TypePair
  pub compared : IsCompared older newer (Yes pairs)

-- The files of both are held and mean interfaces.
pub record AreHeld (f : FilesOver) (old new : FileNames) (i j : Interface) : Type 0 where
  pub first : IsHeldInterface f old i
  pub second : IsHeldInterface f new j

-- The files of the first are refused; or they mean an interface, and those of the second are refused; or both mean interfaces, and their comparison
-- answers this reason.
abbrev pub MustBeIncomparable : FilesOver → FileNames → FileNames → Refusal → Type 0
MustBeIncomparable f old new (BadIdl file line column why) =
    MustBeNoIdl f old.idl old.acf (BadIdl file line column why)
    ⊎ ((i : Interface) × IsHeldInterface f old i × MustBeNoIdl f new.idl new.acf (BadIdl file line column why))
MustBeIncomparable f old new (NotCompatible why) = (i : Interface) × (j : Interface) × AreHeld f old new i j × IsDifferent i j why
MustBeIncomparable f old new _ = ⊥

-- the file of a name is due once the files of the first mean an interface: it is one of the second
abbrev pub IsDueSecond : Option (List ℕ → Option (List ℕ)) → FileNames → FileNames → List ℕ → Type 0
IsDueSecond held old new name =
    (text : List ℕ) × (i : Interface) × IsContent held old.idl.name text × Means held old.idl text old.acf i × IsDueFile held new.idl new.acf name

-- a command does not ask for the first place at which versions differ
abbrev pub HasNoPlace : Command → Type 0
HasNoPlace (Compat old old_acf new new_acf why) = why ≡ false
HasNoPlace c = ⊤

-- What the comparison of two versions comes to, if the first place at which they differ is asked for: it is written exactly where an operation
-- differs.
abbrev pub IsComparedOutcome : FilesOver → FileNames → FileNames → Outcome → Type 0
IsComparedOutcome f old new (Done made) = IsCompatible f old new made
IsComparedOutcome f old new (Refused status line) =
    (r : Refusal) × IsCompatCause f old new r × IsBeside f old new r None × (status ≡ status_of r) × (line ≡ line_of [] [] r)
IsComparedOutcome f old new (Reported text status line) =
    (name : List ℕ) × IsPlaceWritten f old new name text × (status ≡ 1) × (line ≡ line_of [] [] (NotCompatible (Differs name)))
IsComparedOutcome f old new Wanting = (r : Refusal) × IsCompatCause f old new r
