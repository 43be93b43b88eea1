use Rattle.std.proofs.Common.{◌≡◌, ◌∙◌, refl, sym, ap, map, option_map, Some, None, ◌++◌, append-nil}
use Rattle.std.specs.List.{flat_map}
use Rattle.idl_grammar.specs.Seen as of_idl
use Rattle.idl_scope.specs.Seen.{seen_files, known_in}
use Rattle.acf_reader.specs.Seen.{seen_element, seen_acf}
use Rattle.idl_rule_definitions.specs.Checked.{world_of}
use Rattle.idl_rule_definitions.specs.Found.{seen_breach}
use Rattle.idl_rule_definitions.specs.Noted.{noted}
use Rattle.idl_check.specs.AcfRules.{broken_at, breaches_of_element}
use Rattle.idl_check.proofs.AcfWhole.{acf_noted}
use Rattle.idl_check.proofs.acf_rule.acf_breach.Goals as goal

pub returns : goal.returns
returns c =
    let w = world_of c.args.scope.now in
    let main = of_idl.seen_tree c.main_tree-main.result.now in
    ap (option_map seen_breach) c.first.ensures
    ∙ acf_noted w (seen_acf c.args.acf.now) main c.main_tree-main.ensures _ _ _
    (ap (option_map seen_breach) c.new-finder.ensures.none)
    (c.note.ensures.first w (ap seen_files (sym c.new-finder.ensures.files))
    ∙ ap (λ b. noted w (option_map seen_breach c.new-finder.result.first) (broken_at c.args.acf.now.at b)) c.breaks_header.ensures)
    (c.elements.ensures.first w main (ap seen_files (sym (c.note.ensures.files ∙ c.new-finder.ensures.files)))
    (ap (map of_idl.seen_export) (sym (c.in_ok-operations.ensures ∙ c.as_slice.ensures.value)))
    ∙ ap (λ l. noted w (option_map seen_breach c.note.new.finder.first) (flat_map (breaches_of_element w.known main) (map seen_element l))) c.as_slice-2.ensures.value)
