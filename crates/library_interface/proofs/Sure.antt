-- Files that are added, and loads, none of which is to fail.
use Rattle.std.proofs.Common.{◌≡◌, ◌∙◌, ℕ, zero, suc, ◌+◌, List, [], ◌∷◌, ◌↔◌, arith, drop}
use Rattle.std.proofs.Common.{Option, None, Some, option_map, Result, Ok, Err, IsErrOf, IsErrAnd, IsTrue, IsUtf8, refl, ap, ap₂, sym, subst}
use Rattle.std.proofs.lemmas.Option.{same_Some}
use Rattle.std.specs.List.{slice_get}
use Rattle.nd_base.specs.Calls.{failing_calls, fails_next, CallMade}
use Rattle.nd_base.specs.Over.{Rose}
use Rattle.nd_base.specs.InMemory.{with_file}
use Rattle.nd_base.specs.declared.calls.Calls.{Calls}
use Rattle.nd_base.specs.declared.outside.FileFault.{FileFault}
use Rattle.nd_base.specs.declared.outside.FileFault.TheVariants.{Failed}
use Rattle.library_interface.specs.declared.lend_fault.LendFault.{LendFault}
use Rattle.library_interface.specs.declared.lend_fault.LendFault.TheVariants.{BadName}
use Rattle.library_interface.specs.declared.file.File.{File}
use Rattle.library_interface.specs.Named.{named_after, HasBadName}

-- ## Loads

-- a call fails only where it is to fail
pub never_failed : (result : Result (List ℕ) FileFault) (c : Calls) (before now : ℕ) → failing_calls c ≡ [] → IsErrOf result Failed ↔ IsTrue (fails_next c)
    → IsErrOf result Failed → Rose before now
never_failed result c before now none exactly failed = let never = rw none at (exactly.0 failed) in cc

-- after a call as before it
pub stays_sure : (before after : Calls) → failing_calls before ≡ [] → CallMade before after → failing_calls after ≡ []
stays_sure before after none made = made.same_list ∙ none

-- ## Files

-- a file by its name and its text
found_as : (x : Option File) (name text : List ℕ) → option_map (λ (f : File). f.name.now) x ≡ Some name → option_map (λ (f : File). f.text.now) x ≡ Some text
    → (f : File) × (x ≡ Some f) × (f.name.now ≡ name) × (f.text.now ≡ text)
found_as None name text named written = cc
found_as (Some f) name text named written = (f, refl, same_Some _ _ named, same_Some _ _ written)

after_one : (files : List File) (i : ℕ) (f : File) (other : List ℕ) (c : Option (List ℕ)) → slice_get files i ≡ Some f
    → named_after (drop i files) other c ≡ named_after (drop (suc i) files) other (with_file f.name.now f.text.now (λ _. c) other)
after_one [] i f other c is = cc
after_one (g ∷ files) zero f other c is = ap (λ (h : File). named_after files other (with_file h.name.now h.text.now (λ _. c) other)) (same_Some _ _ is)
after_one (g ∷ files) (suc i) f other c is = after_one files i f other c is

-- one file more, of those that are left
pub one_more : (files : List File) (i : ℕ) (name text : List ℕ) (before after found : List ℕ → Option (List ℕ))
    → option_map (λ (f : File). f.name.now) (slice_get files i) ≡ Some name → option_map (λ (f : File). f.text.now) (slice_get files i) ≡ Some text
    → ((other : List ℕ) → after other ≡ with_file name text (λ _. before other) other) → ((other : List ℕ) → named_after (drop i files) other (before other) ≡ found other)
    → (other : List ℕ) → named_after (drop (i + 1) files) other (after other) ≡ found other
one_more files i name text before after found named written added so_far other =
    let f = found_as (slice_get files i) name text named written in
    let next : i + 1 ≡ suc i = omega arith in
    ap (λ k. named_after (drop k files) other (after other)) next
    ∙ ap (λ c. named_after (drop (suc i) files) other c)
    (added other ∙ ap₂ (λ n t. with_file n t (λ _. before other) other) (sym f.2) (sym f.3))
    ∙ sym (after_one files i f.0 other (before other) f.1) ∙ so_far other

-- the name of a file is not UTF-8
pub bad_later : {A : Type 0} (files : List File) (i : ℕ) (name text : List ℕ) (r : Result A LendFault) (e : LendFault)
    → option_map (λ (f : File). f.name.now) (slice_get files i) ≡ Some name → option_map (λ (f : File). f.text.now) (slice_get files i) ≡ Some text
    → IsErrAnd r (λ y. y ≡ e) → (e ≡ BadName → IsUtf8 name → ⊥) → IsErrOf r BadName → HasBadName files
bad_later files i name text (Ok x) e named written same bad failed = absurd same
bad_later files i name text (Err y) e named written same bad failed =
    let f = found_as (slice_get files i) name text named written in
    let that : e ≡ BadName = cc in
    record { place = i; file = f.0; there = f.1; not_text = λ utf8. bad that (subst (λ (n : List ℕ). IsUtf8 n) f.2 utf8) }

-- ## Names that are not UTF-8

past_first : (g : File) (files : List File) → IsUtf8 g.name.now → (k : ℕ) (f : File) → slice_get (g ∷ files) k ≡ Some f → (IsUtf8 f.name.now → ⊥) → HasBadName files
past_first g files good zero f there bad = absurd (bad (subst (λ (h : File). IsUtf8 h.name.now) (same_Some _ _ there) good))
past_first g files good (suc k) f there bad = record { place = k; file = f; there = there; not_text = bad }

past_good : (files : List File) (i : ℕ) (f : File) → slice_get files i ≡ Some f → IsUtf8 f.name.now → HasBadName (drop i files) → HasBadName (drop (suc i) files)
past_good [] i f is good bad = cc
past_good (g ∷ files) zero f is good bad =
    past_first g files (subst (λ (h : File). IsUtf8 h.name.now) (sym (same_Some _ _ is)) good) bad.place bad.file bad.there bad.not_text
past_good (g ∷ files) (suc i) f is good bad = past_good files i f is good bad

-- a name that is not UTF-8 is left where the one that was taken is
pub bad_left : (files : List File) (i : ℕ) (name text : List ℕ) → option_map (λ (f : File). f.name.now) (slice_get files i) ≡ Some name
    → option_map (λ (f : File). f.text.now) (slice_get files i) ≡ Some text → IsUtf8 name → HasBadName (drop i files) → HasBadName (drop (i + 1) files)
bad_left files i name text named written good bad =
    let f = found_as (slice_get files i) name text named written in
    let next : i + 1 ≡ suc i = omega arith in
    subst (λ (k : ℕ). HasBadName (drop k files)) (sym next) (past_good files i f.0 f.1 (subst (λ (n : List ℕ). IsUtf8 n) (sym f.2) good) bad)

named_file : (files : List File) (i : ℕ) (name : List ℕ) (x : Option File) → slice_get files i ≡ x → option_map (λ (f : File). f.name.now) x ≡ Some name
    → (f : File) × (slice_get files i ≡ Some f) × (f.name.now ≡ name)
named_file files i name None there named = cc
named_file files i name (Some f) there named = (f, there, same_Some _ _ named)

-- the same of a name that was looked at alone
pub name_left : (files : List File) (i : ℕ) (name : List ℕ) → option_map (λ (f : File). f.name.now) (slice_get files i) ≡ Some name → IsUtf8 name → HasBadName (drop i files)
    → HasBadName (drop (i + 1) files)
name_left files i name named good bad =
    let f = named_file files i name (slice_get files i) refl named in
    let next : i + 1 ≡ suc i = omega arith in
    subst (λ (k : ℕ). HasBadName (drop k files)) (sym next) (past_good files i f.0 f.1 (subst (λ (n : List ℕ). IsUtf8 n) (sym f.2) good) bad)

pub bad_named : (files : List File) (i : ℕ) (name : List ℕ) → option_map (λ (f : File). f.name.now) (slice_get files i) ≡ Some name → (IsUtf8 name → ⊥) → HasBadName files
bad_named files i name named bad =
    let f = named_file files i name (slice_get files i) refl named in
    record { place = i; file = f.0; there = f.1; not_text = λ utf8. bad (subst (λ (n : List ℕ). IsUtf8 n) f.2 utf8) }

none_there : (k : ℕ) (f : File) → slice_get [] k ≡ Some f → ⊥
none_there k f is = cc

pub none_bad : (files : List File) → files ≡ [] → HasBadName files → ⊥
none_bad [] over bad = none_there bad.place bad.file bad.there
none_bad (f ∷ files) over bad = cc

-- ## All files

-- what is held after all files were added, where nothing was held before
pub held_of : (files : List File) (before after : List ℕ → Option (List ℕ)) → ((name : List ℕ) → before name ≡ None)
    → ((name : List ℕ) → after name ≡ named_after files name (before name)) → (name : List ℕ) → after name ≡ named_after files name None
held_of files before after none all name = all name ∙ ap (λ c. named_after files name c) (none name)
