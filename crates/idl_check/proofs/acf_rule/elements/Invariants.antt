use Rattle.std.proofs.Common.{◌≡◌, map, option_map}
use Rattle.std.specs.List.{flat_map}
use Rattle.idl_grammar.specs.Tree as idl
use Rattle.idl_grammar.specs.Seen as of_idl
use Rattle.idl_scope.specs.Seen.{seen_files, known_in}
use Rattle.acf_reader.specs.Seen.{seen_element}
use Rattle.idl_rule_definitions.specs.Nodes.{World}
use Rattle.idl_rule_definitions.specs.Noted.{noted}
use Rattle.idl_rule_definitions.specs.Found.{seen_breach}
use Rattle.idl_check.specs.AcfRules.{breaches_of_element}
use Rattle.idl_check.proofs.AcfNotes.{noted_from}
use Rattle.idl_check.proofs.acf_rule.elements.Given as goal

-- with those that are left it comes to what all come to
abbrev pub invariant-loop-one : goal.invariant-loop-one
invariant-loop-one l =
    (l.finder.files.now ≡ l.fn.finder.files.now)
    × ((w : World) (main : idl.Tree) → w.files ≡ seen_files l.fn.finder.files.now → main.exports ≡ map of_idl.seen_export l.operations.exports.now
    → noted_from seen_element (breaches_of_element (known_in l.scope) main) l.body w (option_map seen_breach l.finder.first) l.one-index
    ≡ noted w (option_map seen_breach l.fn.finder.first) (flat_map (breaches_of_element (known_in l.scope) main) (map seen_element l.body)))
