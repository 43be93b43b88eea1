-- What the comparison of two versions of an interface makes of their files, and why it is refused.
-- `f` are files over a call, `old` and `new` the names of the files of the versions, `i` and `j` the interfaces, `mid` the names that had been asked
-- for between the two.
use Rattle.std.specs.Prelude.{◌≡◌, ◌⊎◌, ℕ, Bool, true, false, List, [], ◌∷◌, length, Option, Some, None, codes, decimal, option_map, ⊤}
use Rattle.std.specs.List.{slice_get}
use Rattle.nd_base.specs.Over.{FilesOver}
use Rattle.nd_base.specs.Text.{joined}
use Rattle.nd_types.specs.declared.interface.Interface.{Interface}
use Rattle.nd_types.specs.declared.types.Operation.{Operation}
use Rattle.idl_compat.specs.declared.pairs.TypePair.{TypePair}
use Rattle.idl_compat.specs.declared.compared.Compared.{Compared}
use Rattle.idl_compat.specs.declared.compared.Compared.TheVariants as compared
use Rattle.idl_compat.specs.Comparison.{IsCompared}
use Rattle.command_refusals.specs.declared.refusal.Refusal.{Refusal}
use Rattle.command_refusals.specs.declared.refusal.Refusal.TheVariants.{Memory, NotCompatible}
use Rattle.command_refusals.specs.declared.refusal.CompatFault.{CompatFault}
use Rattle.command_refusals.specs.declared.refusal.CompatFault.TheVariants as fault
use Rattle.idl_compat_place.specs.declared.places.Difference.{Difference}
use Rattle.idl_compat_place.specs.Differences.{IsFirstDifference}
use Rattle.idl_compat_place.specs.Lines.{difference_lines}
use Rattle.command_compile.specs.declared.places.Incompatible.{Incompatible}
use Rattle.command_compile.specs.Compiled.{AsksFiles, FileNames, IsCompiled, IsIdlCause}

-- ## Two files, one after the other

-- files over the first part of a call, up to where these names had been asked for
abbrev pub first_part : FilesOver → List (List ℕ) → FilesOver
first_part f mid = record { held = f.held; asked = f.asked; asked_now = mid; absences = f.absences; faults = f.faults }

-- and over the rest of it
abbrev pub second_part : FilesOver → List (List ℕ) → FilesOver
second_part f mid = record { held = f.held; asked = mid; asked_now = f.asked_now; absences = f.absences; faults = f.faults }

-- Each of the two files means an interface. The files of the second were asked for after those of the first.
pub record AreCompiled (f : FilesOver) (old new : FileNames) (i j : Interface) : Type 0 where
  pub mid : List (List ℕ)
  pub first : IsCompiled (first_part f mid) old.idl old.acf i
  pub second : IsCompiled (second_part f mid) new.idl new.acf j

-- The first file means an interface, and this holds of the rest of the call.
pub record AfterFirst (f : FilesOver) (old : FileNames) (P : FilesOver → Type 0) : Type 0 where
  pub mid : List (List ℕ)
  pub interface : Interface
  pub first : IsCompiled (first_part f mid) old.idl old.acf interface
  pub rest : P (second_part f mid)

-- the files of the first are asked for; then, where they mean an interface, those of the second
abbrev pub AsksBoth : FilesOver → FileNames → FileNames → Type 0
AsksBoth f old new = AsksFiles f (Some old) ⊎ AfterFirst f old (λ g. AsksFiles g (Some new))

-- why they mean no two interfaces: the files of the first are refused; or they mean an interface, and those of the second are refused
abbrev pub IsFilesCause : FilesOver → FileNames → FileNames → Refusal → Type 0
IsFilesCause f old new r = IsIdlCause f old.idl old.acf r ⊎ AfterFirst f old (λ g. IsIdlCause g new.idl new.acf r)

-- ## The comparison

-- the line of an interface that has all operations of an older one: how many these are
abbrev pub compatible_line : Interface → List ℕ
compatible_line i = joined (codes "compatible " ∷ decimal (length i.operations) ∷ codes "\n" ∷ [])

-- the reason that a comparison answers; an operation that differs is reported by its name in the older interface
abbrev pub fault_of : Interface → Compared → Option CompatFault
fault_of i (compared.Yes m) = None
fault_of i compared.OtherUuid = Some fault.OtherUuid
fault_of i (compared.OtherMajor a b) = Some (fault.OtherMajor a b)
fault_of i (compared.OlderMinor a b) = Some (fault.OlderMinor a b)
fault_of i (compared.Fewer a b) = Some (fault.Fewer a b)
fault_of i (compared.Differs k) = option_map (λ (o : Operation). fault.Differs o.name) (slice_get i.operations k)

-- the second interface has all operations of the first, by some pairs of types, and this is the line
abbrev pub IsAnswer : Interface → Interface → List ℕ → Type 0
IsAnswer i j made = ((m : List TypePair) × IsCompared i j (compared.Yes m)) × (made ≡ compatible_line i)

-- the comparison answers this reason
abbrev pub IsDifferent : Interface → Interface → CompatFault → Type 0
IsDifferent i j why = (c : Compared) × IsCompared i j c × (fault_of i c ≡ Some why)

-- why there is no line; running out of memory needs no cause
abbrev pub IsRefusal : Interface → Interface → Refusal → Type 0
IsRefusal i j Memory = ⊤
IsRefusal i j (NotCompatible why) = IsDifferent i j why
IsRefusal i j _ = ⊥

-- the refusal of an operation by its number
abbrev pub IsDifference : Interface → ℕ → Refusal → Type 0
IsDifference i k Memory = ⊤
IsDifference i k (NotCompatible why) = fault_of i (compared.Differs k) ≡ Some why
IsDifference i k _ = ⊥

-- ## The files

-- The files mean two interfaces, of which the second has all operations of the first, and this line was made.
pub record IsCompatible (f : FilesOver) (old new : FileNames) (made : List ℕ) : Type 0 where
  pub older : Interface
  pub newer : Interface
  pub compiled : AreCompiled f old new older newer
  pub answer : IsAnswer older newer made

-- The files mean two interfaces, and their comparison answers this reason.
pub record IsNotCompatible (f : FilesOver) (old new : FileNames) (why : CompatFault) : Type 0 where
  pub older : Interface
  pub newer : Interface
  pub compiled : AreCompiled f old new older newer
  pub different : IsDifferent older newer why

-- why the files are refused; running out of memory needs no cause
abbrev pub IsCompatCause : FilesOver → FileNames → FileNames → Refusal → Type 0
IsCompatCause f old new Memory = ⊤
IsCompatCause f old new (NotCompatible why) = IsNotCompatible f old new why
IsCompatCause f old new r = IsFilesCause f old new r

-- ## What is written beside a refusal

-- The files mean two interfaces, the operation of this name is the first that differs, and this text has the first place at which it does.
pub record IsPlaceWritten (f : FilesOver) (old new : FileNames) (name text : List ℕ) : Type 0 where
  pub older : Interface
  pub newer : Interface
  pub compiled : AreCompiled f old new older newer
  pub different : IsDifferent older newer (fault.Differs name)
  pub difference : Difference
  pub first : IsFirstDifference older newer difference
  pub text_is : text ≡ difference_lines older newer difference

-- beside the refusal of an operation that differs its first place, and nothing beside any other
abbrev pub IsBeside : FilesOver → FileNames → FileNames → Refusal → Option (List ℕ) → Type 0
IsBeside f old new (NotCompatible (fault.Differs name)) (Some text) = IsPlaceWritten f old new name text
IsBeside f old new (NotCompatible (fault.Differs name)) None = ⊥
IsBeside f old new r None = ⊤
IsBeside f old new r (Some text) = ⊥

-- why versions are not compatible, and what is written beside it
pub record IsIncompatible (f : FilesOver) (old new : FileNames) (r : Incompatible) : Type 0 where
  pub cause : IsCompatCause f old new r.refusal
  pub beside : IsBeside f old new r.refusal r.place

-- the lines of the first difference of two interfaces
abbrev pub IsPlaceText : Interface → Interface → List ℕ → Type 0
IsPlaceText i j text = (d : Difference) × IsFirstDifference i j d × (text ≡ difference_lines i j d)

-- the refusal of an operation that differs with its first place, and any other as it is; or memory ran out
abbrev pub IsExplained : Interface → Interface → Refusal → Incompatible → Type 0
IsExplained i j (NotCompatible (fault.Differs name)) r =
    ((r.refusal ≡ NotCompatible (fault.Differs name)) × ((text : List ℕ) × (r.place ≡ Some text) × IsPlaceText i j text))
    ⊎ ((r.refusal ≡ Memory) × (r.place ≡ None))
IsExplained i j q r = (r.refusal ≡ q) × (r.place ≡ None)

-- whether a refusal is that of an operation that differs
abbrev pub IsOfOperation : Refusal → Bool → Type 0
IsOfOperation (NotCompatible (fault.Differs name)) b = b ≡ true
IsOfOperation r b = b ≡ false
