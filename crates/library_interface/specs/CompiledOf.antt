-- What files in memory mean, and why they mean no interface.
-- `held` is what is held under each name, `idl` the main file as it is named, `acf` that of the attribute configuration file, if one is named.
use Rattle.std.specs.Prelude.{ℕ, List, Option, Some, ⊤}
use Rattle.idl_grammar.specs.Files.{Idl}
use Rattle.nd_base.specs.Over.{IsContent, IsMissing}
use Rattle.nd_types.specs.declared.interface.Interface.{Interface}
use Rattle.library_interface.specs.declared.file.File.{File}
use Rattle.library_interface.specs.Named.{HasBadName}
use Rattle.command_compile.specs.Idl.{Means, IsIdlFault, IsDueFile}
use Rattle.command_refusals.specs.declared.refusal.Refusal.{Refusal}
use Rattle.command_refusals.specs.declared.refusal.Refusal.TheVariants.{Memory, Absent, BadIdl}
use Rattle.library_interface.specs.declared.fault.CompileFault.{CompileFault}
use Rattle.library_interface.specs.declared.fault.CompileFault.TheVariants.{BadName, Refused}

-- The files mean this interface.
pub record IsCompiledOf (held : List ℕ → Option (List ℕ)) (idl : Idl) (acf : Option (List ℕ)) (i : Interface) : Type 0 where
  pub file : List ℕ
  pub loaded : IsContent (Some held) idl.name file
  pub means : Means (Some held) idl file acf i

-- why the files mean no interface: one that is due is not among them, or one of them is refused; running out of memory needs no cause
abbrev pub IsCompileCause : (List ℕ → Option (List ℕ)) → Idl → Option (List ℕ) → Refusal → Type 0
IsCompileCause held idl acf (Absent file) = IsDueFile (Some held) idl acf file × IsMissing (Some held) file
IsCompileCause held idl acf Memory = ⊤
IsCompileCause held idl acf (BadIdl file line column why) =
    (text : List ℕ) × IsContent (Some held) idl.name text × IsIdlFault (Some held) idl text acf (BadIdl file line column why)
IsCompileCause held idl acf _ = ⊥

-- why files that a caller lends are not compiled: the name of one is not UTF-8, or they mean no interface
abbrev pub IsCompileFault : List File → (List ℕ → Option (List ℕ)) → Idl → Option (List ℕ) → CompileFault → Type 0
IsCompileFault files held idl acf BadName = HasBadName files
IsCompileFault files held idl acf (Refused why) = IsCompileCause held idl acf why
