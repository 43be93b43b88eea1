use Rattle.std.proofs.Common.{◌∙◌, sym, ap, map, option_map}
use Rattle.std.specs.List.{flat_map}
use Rattle.idl_grammar.specs.Seen as of_idl
use Rattle.idl_scope.specs.Seen.{seen_files}
use Rattle.acf_reader.specs.Seen.{seen_parameter}
use Rattle.idl_rule_definitions.specs.Noted.{noted}
use Rattle.idl_rule_definitions.specs.Found.{seen_breach}
use Rattle.idl_check.specs.AcfRules.{broken_at, is_of_operation, is_misplaced, breaches_of_parameter, breaches_of_operation}
use Rattle.idl_check.proofs.AcfNotes.{then_noted}
use Rattle.idl_check.proofs.acf_rule.operation.Goals as goal

-- the operation, then its parameters
pub returns-in-Some-clause-files : goal.returns-in-Some-clause-files
returns-in-Some-clause-files c = c.parameters.ensures.files ∙ c.note-in-Some.ensures.files

pub returns-in-Some-clause-first : goal.returns-in-Some-clause-first
returns-in-Some-clause-first c w files =
    let start = option_map seen_breach c.args.finder.now.first in
    let list = map seen_parameter c.args.list.now in
    then_noted w start (option_map seen_breach c.note-in-Some.new.finder.first) (option_map seen_breach c.parameters.new.finder.first)
    (broken_at c.args.at (is_misplaced is_of_operation c.args.attributes.now))
    (flat_map (breaches_of_parameter (map of_idl.seen_parameter c.in-Some.found.now)) list)
    (c.note-in-Some.ensures.first w files ∙ ap (λ b. noted w start (broken_at c.args.at b)) c.is_misplaced.ensures)
    (c.parameters.ensures.first w (files ∙ ap seen_files (sym c.note-in-Some.ensures.files)))
    ∙ ap (λ o. noted w start (breaches_of_operation c.args.at c.args.attributes.now list (option_map (λ ps. map of_idl.seen_parameter ps.now) o))) (sym c.in-Some.is)
