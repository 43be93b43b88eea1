use Rattle.std.proofs.Common.{◌≡◌, drop, map}
use Rattle.idl_grammar.specs.Text.{symbol_among}
use Rattle.idl_tokens.specs.Lexemes.{seen_entry}
use Rattle.idl_tokens.proofs.lexemes.among.Given as goal

-- what the table gives is what its entries from here on give
abbrev pub invariant-loop-entry : goal.invariant-loop-entry
invariant-loop-entry l = symbol_among (map seen_entry l.table) l.otherwise l.octets ≡ symbol_among (map seen_entry (drop l.entry-index l.table)) l.otherwise l.octets
