-- What files that a program lends are compiled to, and why they are refused.
-- `idl` is the main file as it is named, `acf` the name of the attribute configuration file, or its number.
use Rattle.std.specs.Prelude.{◌≡◌, ℕ, zero, suc, List, Option, None, option_map, slice_get, IsSomeAnd}
use Rattle.idl_grammar.specs.declared.language.Language.{Language}
use Rattle.idl_grammar.specs.Files.{Idl}
use Rattle.nd_types.specs.declared.interface.Interface.{Interface}
use Rattle.library_interface.specs.declared.file.File.{File}
use Rattle.library_interface.specs.Named.{named_after}
use Rattle.command_refusals.specs.declared.refusal.Refusal.{Refusal}
use Rattle.command_refusals.specs.declared.refusal.Refusal.TheVariants.{Memory}
use Rattle.library_interface.specs.CompiledOf.{IsCompiledOf, IsCompileCause}

-- the files mean the interface
abbrev pub IsCompile : List File → Idl → Option (List ℕ) → Interface → Type 0
IsCompile files idl acf i = IsCompiledOf (λ name. named_after files name None) idl acf i

-- the files are refused, and memory is not the reason
abbrev pub IsCompileRefusal : List File → Idl → Option (List ℕ) → Refusal → Type 0
IsCompileRefusal files idl acf e = (e ≡ Memory → ⊥) × IsCompileCause (λ name. named_after files name None) idl acf e

-- ## By the numbers of files

abbrev pub name_of_file : List File → ℕ → Option (List ℕ)
name_of_file files k = option_map (λ f. f.name.now) (slice_get files k)

-- the name of the attribute configuration file of a number, of which 0 means none
abbrev pub acf_name : List File → ℕ → Option (List ℕ)
acf_name files zero = None
acf_name files (suc k) = name_of_file files (suc k)

-- the first file, with what it imports, means the interface in a language
abbrev pub IsFilesCompile : Language → List File → ℕ → Interface → Type 0
IsFilesCompile language files acf i =
    IsSomeAnd (name_of_file files 0) (λ name. IsCompile files (record { name = name; language = language }) (acf_name files acf) i)

-- it is refused, and memory is not the reason
abbrev pub IsFilesRefusal : Language → List File → ℕ → Refusal → Type 0
IsFilesRefusal language files acf e =
    IsSomeAnd (name_of_file files 0) (λ name. IsCompileRefusal files (record { name = name; language = language }) (acf_name files acf) e)
