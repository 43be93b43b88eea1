use Rattle.std.proofs.Common.{◌≡◌, ◌≢◌, ℕ, suc, ◌+◌, ◌-◌, ◌<◌, ◌≤◌, List, [], ◌∷◌, ◌++◌, map, option_map, length, arith, sym, ap, true, false}
use Rattle.idl_grammar.specs.Text.{symbol_at, is, is_in}
use Rattle.idl_grammar.specs.ReadPhrases.{behind_read, separated_read, some_read, list_read}
use Rattle.idl_grammar.proofs.Gathered.{Gathered}
use Rattle.idl_grammar.specs.Symbols as symbol
use Rattle.idl_grammar.specs.Reading.{enumerator_read}
use Rattle.idl_grammar.specs.Seen.{seen_enumerator}
use Rattle.idl_declarations.proofs.enums.enumerator_list.Given as goal

-- what is gathered so far
abbrev pub invariant-loop-list : goal.invariant-loop-list
invariant-loop-list l =
    Gathered (λ a. is_in (symbol.Comma ∷ []) a.symbol) (behind_read symbol.Comma l.parser (enumerator_read l.nesting l.parser l.depth)) l.parser
    (separated_read symbol.Comma l.parser (enumerator_read l.nesting l.parser l.depth) l.at) (map seen_enumerator l.list.items) l.here × (l.at < l.here)

abbrev pub decreases-loop-list : goal.decreases-loop-list
decreases-loop-list l = length l.parser - l.here
