-- What each main file comes to, with what it imports.
use Rattle.std.specs.Prelude.{◌≡◌, ℕ, true, List, Option}
use Rattle.idl_grammar.specs.declared.language.Language.{Language}
use Rattle.idl_grammar.specs.Tree.{Tree}
use Rattle.idl_scope.specs.declared.name_fault.NameFault.{NameFault}
use Rattle.idl_names.specs.Decided.{is_decided}
use Rattle.idl_names.specs.Walk.{Source, State, Stopped, IsResolved, IsRefused}

-- The names of the files are resolved, or there is a first fault of the files, neither by running out of memory nor by a failed load.
pub data Comes (language : Language) (held : Option (List ℕ → Option (List ℕ))) (main : List Source) (t : Tree) : Type 0 where
  ToNames : (s : State) → IsResolved language held main t s → Comes language held main t
  ToFault : (sources : List Source) (f : NameFault) → is_decided (Stopped sources f) ≡ true → IsRefused language held main t sources f
      → Comes language held main t
