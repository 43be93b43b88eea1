-- What is found under a name among files that a caller lends.
use Rattle.std.specs.Prelude.{◌≡◌, ℕ, List, [], ◌∷◌, Option, Some, IsUtf8}
use Rattle.std.specs.List.{slice_get}
use Rattle.nd_base.specs.InMemory.{with_file}
use Rattle.library_interface.specs.declared.file.File.{File}

-- the text of the last of these files that has the name, or else what was found before
abbrev pub named_after : List File → List ℕ → Option (List ℕ) → Option (List ℕ)
named_after [] name found = found
named_after (f ∷ fs) name found = named_after fs name (with_file f.name.now f.text.now (λ _. found) name)

-- the name of one of these files is not UTF-8
pub record HasBadName (files : List File) : Type 0 where
  pub place : ℕ
  pub file : File
  pub there : slice_get files place ≡ Some file
  pub not_text : IsUtf8 file.name.now → ⊥
