use Rattle.std.proofs.Common.{◌≡◌, ◌≢◌, ℕ, suc, ◌+◌, ◌-◌, ◌<◌, ◌≤◌, List, [], ◌∷◌, ◌++◌, map, option_map, length, arith, sym, ap, true, false}
use Rattle.idl_grammar.specs.Text.{symbol_at, is, is_in}
use Rattle.idl_grammar.specs.ReadPhrases.{behind_read, separated_read, some_read, list_read}
use Rattle.idl_grammar.proofs.Gathered.{Gathered}
use Rattle.idl_grammar.specs.Symbols as symbol
use Rattle.idl_grammar.specs.ReadExpressions.{spelled_read, placed_read, outer_read}
use Rattle.idl_tokens.proofs.parser.Parser.strings.Given as goal

-- what is gathered so far
abbrev pub invariant-loop-list : goal.invariant-loop-list
invariant-loop-list l =
    Gathered (λ a. is_in (symbol.Comma ∷ []) a.symbol) (behind_read symbol.Comma l.self (spelled_read symbol.Quoted l.self)) l.self
    (separated_read symbol.Comma l.self (spelled_read symbol.Quoted l.self) l.at) l.list.items l.here × (l.at < l.here)

abbrev pub decreases-loop-list : goal.decreases-loop-list
decreases-loop-list l = length l.self - l.here
