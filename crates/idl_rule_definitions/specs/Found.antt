-- For the code: a breach as the rules have it, and where a file stands.
use Rattle.std.specs.Prelude.{ℕ, Bool, false, ◌==◌, List, Option, Some, None, slice_get}
use Rattle.idl_scope.specs.Known.{Ended}
use Rattle.idl_rule_definitions.specs.declared.finder.Breach as program
use Rattle.idl_rule_definitions.specs.Rules.{Breach}

abbrev pub seen_breach : program.Breach → Breach
seen_breach b = record { rule = b.rule; place = b.place }

abbrev is_file : ℕ → Option Ended → Bool
is_file file None = false
is_file file (Some f) = f.file == file

-- the file that is number `at` of the list has this number of its own
abbrev pub is_file_at : List Ended → ℕ → ℕ → Bool
is_file_at files at file = is_file file (slice_get files at)
