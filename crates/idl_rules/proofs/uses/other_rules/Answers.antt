use Rattle.std.proofs.Common.{◌≡◌, ◌∙◌, option_map, ap, sym}
use Rattle.idl_scope.specs.Seen.{seen_files}
use Rattle.idl_rule_definitions.specs.Found.{seen_breach}
use Rattle.idl_rules.proofs.CycleNotes.{both_noted}
use Rattle.idl_rules.proofs.uses.other_rules.Goals as goal

pub returns-clause-first : goal.returns-clause-first
returns-clause-first c w s files is types are =
    both_noted w s (option_map seen_breach c.args.finder.now.first) (option_map seen_breach c.note_cycles.new.finder.first) _
    (c.in_ok-note_cycles.ensures.first w s files is types)
    (c.in_ok-each_node.ensures.first w s (files ∙ ap seen_files (sym c.in_ok-note_cycles.ensures.files)) is types are)
