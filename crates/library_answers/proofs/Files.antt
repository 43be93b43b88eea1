-- What is answered of files, from what the calls below answer.
use Rattle.std.proofs.Common.{◌≡◌, ◌∙◌, ℕ, zero, suc, List, Option, Some, None, IsSomeAnd, option_map, IsUtf8, refl, sym, subst}
use Rattle.std.specs.List.{slice_get}
use Rattle.std.proofs.lemmas.Option.{same_Some}
use Rattle.idl_grammar.specs.declared.language.Language.{Language}
use Rattle.idl_grammar.specs.Files.{Idl}
use Rattle.nd_types.specs.declared.interface.Interface.{Interface}
use Rattle.library_interface.specs.declared.file.File.{File}
use Rattle.library_interface.specs.Named.{named_after, HasBadName}
use Rattle.command_refusals.specs.declared.refusal.Refusal.{Refusal}
use Rattle.command_refusals.specs.declared.refusal.Refusal.TheVariants.{Memory}
use Rattle.library_handles.specs.declared.held.Held.{Held}
use Rattle.library_interface.specs.CompiledOf.{IsCompileCause}
use Rattle.library_answers.specs.Answers.{interface_in, refusal_in}
use Rattle.library_answers.specs.Compiling.{IsCompile, IsCompileRefusal, IsFilesCompile, IsFilesRefusal, name_of_file, acf_name}
use Rattle.library_answers.proofs.Numbered.{there_and}

bad_there : (files : List File) (k : ℕ) (name : List ℕ) (x : Option File) → slice_get files k ≡ x → option_map (λ (f : File). f.name.now) x ≡ Some name
    → (IsUtf8 name → ⊥) → HasBadName files
bad_there files k name None there named bad = cc
bad_there files k name (Some f) there named bad =
    record { place = k; file = f; there = there; not_text = λ utf8. bad (subst (λ (n : List ℕ). IsUtf8 n) (same_Some _ _ named) utf8) }

-- the name of this file is not UTF-8
pub bad_name : (files : List File) (k : ℕ) (name : List ℕ) → name_of_file files k ≡ Some name → (IsUtf8 name → ⊥) → HasBadName files
bad_name files k name named bad = bad_there files k name (slice_get files k) refl named bad

-- ## By the names of files

pub compiled_is : (files : List File) (idl : Idl) (acf : Option (List ℕ)) (made : Interface) (held : Option Held) → IsCompile files idl acf made
    → interface_in held ≡ Some made → IsSomeAnd (interface_in held) (λ i. IsCompile files idl acf i)
compiled_is files idl acf made held compiled filled = there_and (interface_in held) made (λ i. IsCompile files idl acf i) filled compiled

pub compile_refused : (files : List File) (idl : Idl) (acf : Option (List ℕ)) (e : Refusal) (held : Option Held)
    → IsCompileCause (λ name. named_after files name None) idl acf e
    → (e ≡ Memory → ⊥) → refusal_in held ≡ Some e → IsSomeAnd (refusal_in held) (λ x. IsCompileRefusal files idl acf x)
compile_refused files idl acf e held cause reason filled = there_and (refusal_in held) e (λ x. IsCompileRefusal files idl acf x) filled (reason, cause)

-- ## By their numbers

also : {T : Type 0} (o : Option T) (P Q : T → Type 0) → ((x : T) → P x → Q x) → IsSomeAnd o P → IsSomeAnd o Q
also None P Q more holds = holds
also (Some x) P Q more holds = more x holds

beside_none : (files : List File) (acf : ℕ) → acf ≡ 0 → acf_name files acf ≡ None
beside_none files zero is = refl
beside_none files (suc k) is = cc

beside_one : (files : List File) (acf : ℕ) (name : List ℕ) → (acf ≡ 0 → ⊥) → name_of_file files acf ≡ Some name → acf_name files acf ≡ Some name
beside_one files zero name some named = absurd (some refl)
beside_one files (suc k) name some named = named

module _ (language : Language) (files : List File) (acf : ℕ) (name : List ℕ) (held : Option Held) (main : name_of_file files 0 ≡ Some name) where
  abbrev idl : Idl
  idl = record { name = name; language = language }

  by_names : (other : Option (List ℕ)) → acf_name files acf ≡ other → (i : Interface) → IsCompile files idl other i → IsFilesCompile language files acf i
  by_names other is i compiled =
      there_and (name_of_file files 0) name (λ n. IsCompile files (record { name = n; language = language }) (acf_name files acf) i) main (subst (λ a. IsCompile files idl a i) (sym is) compiled)

  refused_by_names : (other : Option (List ℕ)) → acf_name files acf ≡ other → (e : Refusal) → IsCompileRefusal files idl other e → IsFilesRefusal language files acf e
  refused_by_names other is e refused =
      there_and (name_of_file files 0) name (λ n. IsCompileRefusal files (record { name = n; language = language }) (acf_name files acf) e) main
      (subst (λ a. IsCompileRefusal files idl a e) (sym is) refused)

  pub compiled_alone : acf ≡ 0 → IsSomeAnd (interface_in held) (λ i. IsCompile files idl None i) → IsSomeAnd (interface_in held) (λ i. IsFilesCompile language files acf i)
  compiled_alone alone holds =
      also (interface_in held) (λ i. IsCompile files idl None i) (λ i. IsFilesCompile language files acf i) (by_names None (beside_none files acf alone)) holds

  pub compiled_beside : (other : List ℕ) → (acf ≡ 0 → ⊥) → name_of_file files acf ≡ Some other → IsSomeAnd (interface_in held) (λ i. IsCompile files idl (Some other) i)
      → IsSomeAnd (interface_in held) (λ i. IsFilesCompile language files acf i)
  compiled_beside other some named holds =
      also (interface_in held) (λ i. IsCompile files idl (Some other) i) (λ i. IsFilesCompile language files acf i)
      (by_names (Some other) (beside_one files acf other some named)) holds

  pub refused_alone : acf ≡ 0 → IsSomeAnd (refusal_in held) (λ e. IsCompileRefusal files idl None e) → IsSomeAnd (refusal_in held) (λ e. IsFilesRefusal language files acf e)
  refused_alone alone holds =
      also (refusal_in held) (λ e. IsCompileRefusal files idl None e) (λ e. IsFilesRefusal language files acf e) (refused_by_names None (beside_none files acf alone)) holds

  pub refused_beside : (other : List ℕ) → (acf ≡ 0 → ⊥) → name_of_file files acf ≡ Some other
      → IsSomeAnd (refusal_in held) (λ e. IsCompileRefusal files idl (Some other) e) → IsSomeAnd (refusal_in held) (λ e. IsFilesRefusal language files acf e)
  refused_beside other some named holds =
      also (refusal_in held) (λ e. IsCompileRefusal files idl (Some other) e) (λ e. IsFilesRefusal language files acf e)
      (refused_by_names (Some other) (beside_one files acf other some named)) holds

-- what a function that compiles names
pub ruleset compiling = (compiled_alone, compiled_beside, refused_alone, refused_beside)
