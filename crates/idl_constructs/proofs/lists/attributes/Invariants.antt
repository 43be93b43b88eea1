use Rattle.std.proofs.Common.{◌≡◌, map, take, option_map}
use Rattle.idl_scope.specs.Seen.{seen_files}
use Rattle.idl_grammar.specs.Seen.{seen_attribute}
use Rattle.idl_rule_definitions.specs.Nodes.{World, attribute_nodes}
use Rattle.idl_constructs.specs.SeenNodes.{seen_construct}
use Rattle.idl_rule_definitions.specs.Noted.{noted}
use Rattle.idl_rule_definitions.specs.Found.{seen_breach}
use Rattle.idl_constructs.specs.ListBreaches.{list_breaches, AreWords}
use Rattle.idl_constructs.proofs.ListNotes.{left}
use Rattle.idl_constructs.proofs.lists.attributes.Given as goal

-- The words are those of the attributes before, and with those that are left it comes to what all come to.
abbrev pub invariant-loop-one : goal.invariant-loop-one
invariant-loop-one l =
    (l.finder.files.now ≡ l.fn.finder.files.now)
    × AreWords l.words.items (map seen_attribute (take l.one-index l.one-items))
    × ((w : World) → w.files ≡ seen_files l.fn.finder.files.now
    → noted w (option_map seen_breach l.finder.first) (left (seen_construct l.construct) l.one-items l.one-index)
    ≡ noted w (option_map seen_breach l.fn.finder.first) (list_breaches (attribute_nodes (seen_construct l.fn.construct))))
