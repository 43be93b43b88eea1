use Rattle.std.proofs.Common.{ℕ, List, ◌++◌, take}
use Rattle.ndr_encoder_output.specs.Counting.{names_of}
use Rattle.ndr_encoder_laws.specs.turns.Turned.{cells_of}
use Rattle.ndr_encode.specs.Search.{IsNumbered, AreWithin}
use Rattle.ndr_encode.proofs.numbering.number_all.Given as goal

abbrev pub invariant-loop-each : goal.invariant-loop-each
invariant-loop-each l =
    (n : ℕ) (names : List ℕ) → AreWithin n (cells_of (names_of l.cells)) → IsNumbered n names l.initial.numbers.items l.initial.named
    → IsNumbered n (names ++ cells_of (names_of (take l.each-index l.cells))) l.numbers.items l.named
