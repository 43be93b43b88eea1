use Rattle.std.proofs.Common.{◌-◌, ◌≤◌, map, length}
use Rattle.idl_grammar.specs.Text.{is_in}
use Rattle.idl_grammar.specs.ReadPhrases.{list_read}
use Rattle.idl_grammar.proofs.Gathered.{Gathered}
use Rattle.acf_reader.specs.Reading.{element_read, element_firsts}
use Rattle.acf_reader.specs.Seen.{seen_element}
use Rattle.acf_reader.proofs.body.body.Given as goal

-- what is gathered so far
abbrev pub invariant-loop-list : goal.invariant-loop-list
invariant-loop-list l =
    Gathered (λ a. is_in (element_firsts) a.symbol) (element_read l.parser l.depth) l.parser (list_read (element_firsts) l.parser (element_read l.parser l.depth) l.at)
    (map seen_element l.list.items) l.here × (l.at ≤ l.here)

abbrev pub decreases-loop-list : goal.decreases-loop-list
decreases-loop-list l = length l.parser - l.here
