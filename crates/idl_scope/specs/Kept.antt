-- The tables of the program as what is known, and when an answer of the program on steps is right.
use Rattle.std.specs.Prelude.{◌≡◌, ℕ, Bool, true, false, List, map, Result, Ok, Err}
use Rattle.nd_base.specs.declared.octets.Place.{Place}
use Rattle.idl_grammar.specs.declared.words.Spelling.{Spelling}
use Rattle.idl_scope.specs.declared.meaning.Meaning.{Meaning}
use Rattle.idl_scope.specs.declared.tag.TagDefinition.{TagDefinition}
use Rattle.idl_scope.specs.declared.tag.TagUse.{TagUse}
use Rattle.idl_scope.specs.declared.name_fault.NameFault.{NameFault}
use Rattle.idl_scope.specs.declared.name_fault.NameFault.TheVariants as fault
use Rattle.idl_scope.specs.Known.{Known}

abbrev pub known_of : List (List ℕ × Place) → List (List ℕ × Meaning) → List (List ℕ × TagDefinition) → List TagUse → Known
known_of places meanings tags uses = record { places = places; meanings = meanings; tags = tags; uses = uses }

-- the members or parameters of a list, by their names and octets
abbrev pub spelled : List ℕ × ℕ → Spelling
spelled e = record { at = e.1; octets = e.0 }

abbrev pub listed : List (List ℕ × ℕ) → List Spelling
listed entries = map spelled entries

abbrev pub is_memory : NameFault → Bool
is_memory fault.Memory = true
is_memory _ = false

-- What was answered on steps is right, unless memory was wanting: all are passed, and this is known; or this is the first fault.
abbrev pub IsRight : {A : Type 0} → Known → Result A NameFault → Result Known NameFault → Type 0
IsRight after (Ok a) r = r ≡ Ok after
IsRight after (Err f) r = is_memory f ≡ false → r ≡ Err f
