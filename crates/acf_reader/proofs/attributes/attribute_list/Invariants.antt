use Rattle.std.proofs.Common.{◌-◌, ◌<◌, [], ◌∷◌, length}
use Rattle.idl_grammar.specs.Text.{is_in}
use Rattle.idl_grammar.specs.ReadPhrases.{behind_read, separated_read}
use Rattle.idl_grammar.proofs.Gathered.{Gathered}
use Rattle.idl_grammar.specs.Symbols as symbol
use Rattle.acf_reader.specs.Reading.{attribute_read}
use Rattle.acf_reader.proofs.attributes.attribute_list.Given as goal

-- what is gathered so far
abbrev pub invariant-loop-list : goal.invariant-loop-list
invariant-loop-list l =
    Gathered (λ a. is_in (symbol.Comma ∷ []) a.symbol) (behind_read symbol.Comma l.parser (attribute_read l.parser l.depth)) l.parser
    (separated_read symbol.Comma l.parser (attribute_read l.parser l.depth) l.at) l.list.items l.here × (l.at < l.here)

abbrev pub decreases-loop-list : goal.decreases-loop-list
decreases-loop-list l = length l.parser - l.here
