use Rattle.std.proofs.Common.{◌≡◌, ◌∙◌, [], ◌++◌, option_map, refl, ap, ap₂, sym}
use Rattle.idl_scope.specs.Seen.{seen_files}
use Rattle.idl_rule_definitions.specs.Found.{seen_breach}
use Rattle.idl_rule_definitions.specs.Rules.{broken_in}
use Rattle.idl_constructs.specs.SeenNodes.{seen_construct}
use Rattle.idl_rule_definitions.specs.DeclarationRules.{is_wrongly_cased, has_class, has_string}
use Rattle.idl_rules.proofs.uses.note_empty_arm.Goals as goal
use Rattle.idl_rule_definitions.specs.declared.rule.TheConstants as Rule

pub returns-clause-first : goal.returns-clause-first
returns-clause-first c w files =
    let start = option_map seen_breach c.args.finder.now.first in
    let co = seen_construct c.args.construct.now in
    let n1 = c.note.ensures.next w start [] co (is_wrongly_cased co) files refl (c.is_wrongly_cased.ensures) refl in
    let f1 = files ∙ ap seen_files (sym c.note.ensures.files) in
    let b1 = [] ++ broken_in co Rule.CASES (is_wrongly_cased co) in
    let n2 = c.note-2.ensures.next w start b1 co (has_class co) f1 refl (c.has_class.ensures) n1 in
    let f2 = f1 ∙ ap seen_files (sym c.note-2.ensures.files) in
    let b2 = b1 ++ broken_in co Rule.CLASSES_ON_POINTERS (has_class co) in
    c.note-3.ensures.next w start b2 co (has_string co) f2 refl (c.has.ensures) n2
