-- Which files a command may ask for, what these mean, and why they mean no interface.
use Rattle.std.specs.Prelude.{◌≡◌, ◌⊎◌, ℕ, List, [], ◌++◌, take, Option, Some, None, slice_get, option_to_list, ⊤}
use Rattle.idl_grammar.specs.Files.{Idl}
use Rattle.nd_base.specs.Over.{IsContent, FilesOver, AreUntouched, IsMissing, HasRisen}
use Rattle.nd_types.specs.declared.interface.Interface.{Interface}
use Rattle.nd_types.specs.Meant.{meant_by}
use Rattle.idl_listing.specs.Listing.{listing}
use Rattle.ndr_code.specs.Code.{code_of, entries_of, values_of}
use Rattle.ndr_plan.specs.Listing as plan
use Rattle.idl_names.specs.Walk.{Source, names_of}
use Rattle.command_refusals.specs.declared.refusal.Refusal.{Refusal}
use Rattle.command_refusals.specs.declared.refusal.Refusal.TheVariants.{Memory, Absent, FileFailed, BadIdl}
use Rattle.command_compile.specs.Idl.{IsDueImport, IsDueAcf, Means, IsIdlFault, IsDueAfter, IsDueFile}

-- ## Which files a command may ask for, and when: each when it is due, and once

-- `held` tells the contents of files, `idl` is the main file as it is named, `acf` that of the attribute configuration file, if one is named.

-- the files of a command: a file of IDL, and an attribute configuration file if one is named
pub record FileNames : Type 0 where
  pub idl : Idl
  pub acf : Option (List ℕ)

-- An import is due once exactly these files were asked for: the walk, with their loads begun, comes to it.
pub record IsNextImport (held : Option (List ℕ → Option (List ℕ))) (idl : Idl) (text : List ℕ) (earlier : List (List ℕ))
    (name : List ℕ) : Type 0 where
  pub due : IsDueImport held idl text name
  pub earlier_are : earlier ≡ names_of due.sources

-- The attribute configuration file is due once exactly these files were asked for: all names are resolved with them.
pub record IsNextAcf (held : Option (List ℕ → Option (List ℕ))) (idl : Idl) (text : List ℕ) (acf : Option (List ℕ)) (earlier : List (List ℕ))
    (name : List ℕ) : Type 0 where
  pub due : IsDueAcf held idl text acf name
  pub earlier_are : earlier ≡ names_of due.state.sources

-- The file of a name is due once exactly these files were asked for, in this order: the main file is the first; then, by the text of that, an import
-- or the attribute configuration file.
abbrev pub IsNext : Option (List ℕ → Option (List ℕ)) → Idl → Option (List ℕ) → List (List ℕ) → List ℕ → Type 0
IsNext held idl acf earlier name =
    ((earlier ≡ []) × (name ≡ idl.name))
    ⊎ ((text : List ℕ) × IsContent held idl.name text × (IsNextImport held idl text earlier name ⊎ IsNextAcf held idl text acf earlier name))

-- These files are asked for, in this order, and each is due when it is asked for.
pub record AreAsked (held : Option (List ℕ → Option (List ℕ))) (idl : Idl) (acf : Option (List ℕ)) (names : List (List ℕ)) : Type 0 where
  -- the main file is asked for
  pub main : slice_get names 0 ≡ Some idl.name
  -- each file is due once those before it were asked for, and no other
  pub due : (n : ℕ) (name : List ℕ) → slice_get names n ≡ Some name → IsNext held idl acf (take n names) name

-- all files that are due: those with which the names are resolved, then the attribute configuration file
abbrev pub all_due : List Source → Option (List ℕ) → List (List ℕ)
all_due sources acf = names_of sources ++ option_to_list acf

-- the files that are asked for: none if a command speaks of none
abbrev pub AsksFiles : FilesOver → Option FileNames → Type 0
AsksFiles f None = AreUntouched f
AsksFiles f (Some named) = (names : List (List ℕ)) × (f.asked_now ≡ f.asked ++ names) × AreAsked f.held named.idl named.acf names

-- ## What the files of a command mean, and why they mean no interface

-- All files were loaded, and they mean this interface. `acf` is the name of the attribute configuration file, if one is named.
pub record IsCompiled (f : FilesOver) (idl : Idl) (acf : Option (List ℕ)) (i : Interface) : Type 0 where
  pub file : List ℕ
  pub loaded : IsContent f.held idl.name file
  pub means : Means f.held idl file acf i
  -- every file that is due was asked for, once, and no other
  pub all_asked : f.asked_now ≡ f.asked ++ all_due means.state.sources acf

-- The files mean an interface, and this is its listing.
pub record IsListed (f : FilesOver) (idl : Idl) (acf : Option (List ℕ)) (made : List ℕ) : Type 0 where
  pub interface : Interface
  pub compiled : IsCompiled f idl acf interface
  pub made_is : made ≡ listing (meant_by interface)

-- The files mean an interface, and this is the listing of its plan.
pub record IsPlanned (f : FilesOver) (idl : Idl) (acf : Option (List ℕ)) (made : List ℕ) : Type 0 where
  pub interface : Interface
  pub compiled : IsCompiled f idl acf interface
  pub made_is : made
      ≡ plan.listing (code_of interface.types interface.operations) (values_of interface.types) (entries_of interface.types interface.operations)

-- Why a main file that was loaded means no interface with the files after it: a load comes first that is absent or fails, or one of the files is
-- refused. (Running out of memory needs no cause.)
abbrev pub IsTextCause : FilesOver → Idl → List ℕ → Option (List ℕ) → Refusal → Type 0
IsTextCause f idl text acf (Absent file) = HasRisen f.absences × IsDueAfter f.held idl text acf file × IsMissing f.held file
IsTextCause f idl text acf (FileFailed file) = HasRisen f.faults × IsDueAfter f.held idl text acf file
IsTextCause f idl text acf Memory = ⊤
IsTextCause f idl text acf (BadIdl file line column why) = IsIdlFault f.held idl text acf (BadIdl file line column why)
IsTextCause f idl text acf _ = ⊥

-- Why the files mean no interface: a load comes first that is absent or fails, or one of the files is refused. (Running out of memory
-- needs no cause.)
abbrev pub IsIdlCause : FilesOver → Idl → Option (List ℕ) → Refusal → Type 0
IsIdlCause f idl acf (Absent file) = HasRisen f.absences × IsDueFile f.held idl acf file × IsMissing f.held file
IsIdlCause f idl acf (FileFailed file) = HasRisen f.faults × IsDueFile f.held idl acf file
IsIdlCause f idl acf Memory = ⊤
IsIdlCause f idl acf (BadIdl file line column why) =
    (text : List ℕ) × IsContent f.held idl.name text × IsIdlFault f.held idl text acf (BadIdl file line column why)
IsIdlCause f idl acf _ = ⊥
