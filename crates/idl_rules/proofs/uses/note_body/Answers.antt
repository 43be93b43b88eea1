use Rattle.std.proofs.Common.{◌≡◌, ◌∙◌, [], ◌++◌, option_map, refl, ap, ap₂, sym}
use Rattle.idl_scope.specs.Seen.{seen_files}
use Rattle.idl_rule_definitions.specs.Found.{seen_breach}
use Rattle.idl_rule_definitions.specs.Rules.{broken_in}
use Rattle.idl_rule_definitions.specs.TypeRules.{is_too_deep, is_deep_body}
use Rattle.idl_rule_definitions.specs.DeclarationRules.{lacks_switch_type}
use Rattle.idl_rules.proofs.uses.note_body.Goals as goal
use Rattle.idl_rule_definitions.specs.declared.rule.TheConstants as Rule

pub returns-clause-first : goal.returns-clause-first
returns-clause-first c w s b files are is_construct is_body is_type =
    let start = option_map seen_breach c.args.finder.now.first in
    let co = b.construct in
    let n1 = c.note.ensures.next w start [] co (is_deep_body s b) files is_construct ((c.mark.ensures.is s are).too_deep ∙ ap (is_too_deep s) is_type) refl in
    let f1 = files ∙ ap seen_files (sym c.note.ensures.files) in
    let b1 = [] ++ broken_in co Rule.NESTING (is_deep_body s b) in
    c.note-2.ensures.next w start b1 co (lacks_switch_type b.construct b.body) f1 is_construct (c.lacks_switch_type.ensures ∙ ap₂ lacks_switch_type is_construct is_body) n1
