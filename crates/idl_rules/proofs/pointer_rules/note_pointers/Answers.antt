use Rattle.std.proofs.Common.{◌≡◌, ◌∙◌, ◌++◌, ap, sym}
use Rattle.idl_scope.specs.Seen.{seen_files}
use Rattle.idl_rule_definitions.specs.Rules.{broken_in}
use Rattle.idl_rule_definitions.specs.DeclarationRules.{lacks_direction}
use Rattle.idl_rule_definitions.specs.TypeRules.{is_wrong_result, has_class_without_pointer, holds_pointer_without_class, holds_pointer_to_reference, is_nullable_out, is_wrong_out}
use Rattle.idl_rules.proofs.AskedUses.{asked_is}
use Rattle.idl_rules.proofs.pointer_rules.note_pointers.Goals as goal
use Rattle.idl_rule_definitions.specs.declared.rule.TheConstants as Rule

pub returns-clause-next : goal.returns-clause-next
returns-clause-next c w s u first before files are h start =
    let e = asked_is s c.args.judge.now.kinds.now u c.args.asked.now h in
    let n1 = c.note.ensures.next w first before u.construct (has_class_without_pointer u) files h.construct
    (c.has_class_without_pointer-misplaced.ensures u ∙ ap has_class_without_pointer e) start in
    let f1 = files ∙ ap seen_files (sym c.note.ensures.files) in
    let b1 = before ++ broken_in u.construct Rule.CLASSES_ON_POINTERS (has_class_without_pointer u) in
    let n2 = c.note-2.ensures.next w first b1 u.construct (holds_pointer_without_class u) f1 h.construct ((c.mark-declared.ensures.is s are).holds_classless ∙ ap holds_pointer_without_class e) n1 in
    let f2 = f1 ∙ ap seen_files (sym c.note-2.ensures.files) in
    let b2 = b1 ++ broken_in u.construct Rule.CLASS_OF_EACH_POINTER (holds_pointer_without_class u) in
    let n3 = c.note-3.ensures.next w first b2 u.construct (holds_pointer_to_reference u) f2 h.construct ((c.mark-of.ensures.is s are).holds_reference_behind ∙ ap holds_pointer_to_reference e) n2 in
    let f3 = f2 ∙ ap seen_files (sym c.note-3.ensures.files) in
    let b3 = b2 ++ broken_in u.construct Rule.NO_POINTER_TO_REFERENCE (holds_pointer_to_reference u) in
    let n4 = c.note-4.ensures.next w first b3 u.construct (is_nullable_out u) f3 h.construct (c.is_nullable_out-nullable.ensures u ∙ ap is_nullable_out e) n3 in
    let f4 = f3 ∙ ap seen_files (sym c.note-4.ensures.files) in
    let b4 = b3 ++ broken_in u.construct Rule.OUT_POINTERS (is_nullable_out u) in
    let n5 = c.note-5.ensures.next w first b4 u.construct (lacks_direction u.construct) f4 h.construct (c.lacks_direction-undirected.ensures ∙ ap lacks_direction h.construct) n4 in
    let f5 = f4 ∙ ap seen_files (sym c.note-5.ensures.files) in
    let b5 = b4 ++ broken_in u.construct Rule.DIRECTIONS (lacks_direction u.construct) in
    let n6 = c.note-6.ensures.next w first b5 u.construct (is_wrong_out u) f5 h.construct (c.is_wrong_out-wrong_out.ensures u ∙ ap is_wrong_out e) n5 in
    let f6 = f5 ∙ ap seen_files (sym c.note-6.ensures.files) in
    let b6 = b5 ++ broken_in u.construct Rule.OUT_PARAMETERS (is_wrong_out u) in
    c.note-7.ensures.next w first b6 u.construct (is_wrong_result u) f6 h.construct (c.is_wrong_result-wrong_result.ensures u ∙ ap is_wrong_result e) n6
