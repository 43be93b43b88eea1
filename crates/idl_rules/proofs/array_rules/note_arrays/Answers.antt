use Rattle.std.proofs.Common.{◌≡◌, ◌∙◌, ◌++◌, ap, sym}
use Rattle.idl_scope.specs.Seen.{seen_files}
use Rattle.idl_rule_definitions.specs.Rules.{broken_in}
use Rattle.idl_rule_definitions.specs.DeclarationRules.{has_lower_bounds}
use Rattle.idl_rule_definitions.specs.TypeRules.{has_wrong_counts, has_wrong_dimensions, has_wrong_elements, hoists_before_last, is_hoisting_arm, holds_wrong_pipe}
use Rattle.idl_rules.proofs.AskedUses.{asked_is}
use Rattle.idl_rules.proofs.array_rules.note_arrays.Goals as goal
use Rattle.idl_rule_definitions.specs.declared.rule.TheConstants as Rule

pub returns-clause-next : goal.returns-clause-next
returns-clause-next c w s u first before files are h start =
    let e = asked_is s c.args.judge.now.kinds.now u c.args.asked.now h in
    let n1 = c.note.ensures.next w first before u.construct (has_wrong_counts u) files h.construct ((c.mark.ensures.is s are).holds_wrong_count ∙ ap has_wrong_counts e) start in
    let f1 = files ∙ ap seen_files (sym c.note.ensures.files) in
    let b1 = before ++ broken_in u.construct Rule.ELEMENTS (has_wrong_counts u) in
    let n2 = c.note-2.ensures.next w first b1 u.construct (has_lower_bounds s.known u.it) f1 h.construct (h.lower_bounds) n1 in
    let f2 = f1 ∙ ap seen_files (sym c.note-2.ensures.files) in
    let b2 = b1 ++ broken_in u.construct Rule.LOWER_BOUNDS (has_lower_bounds s.known u.it) in
    let n3 = c.note-3.ensures.next w first b2 u.construct (has_wrong_dimensions u) f2 h.construct (c.has_wrong_dimensions.ensures s u are ∙ ap has_wrong_dimensions e) n2 in
    let f3 = f2 ∙ ap seen_files (sym c.note-3.ensures.files) in
    let b3 = b2 ++ broken_in u.construct Rule.SEVERAL_DIMENSIONS (has_wrong_dimensions u) in
    let n4 = c.note-4.ensures.next w first b3 u.construct (has_wrong_elements s u) f3 h.construct ((c.mark-of.ensures.is s are).holds_wrong_element ∙ ap (has_wrong_elements s) e) n3 in
    let f4 = f3 ∙ ap seen_files (sym c.note-4.ensures.files) in
    let b4 = b3 ++ broken_in u.construct Rule.ELEMENTS_OF_ARRAYS (has_wrong_elements s u) in
    let n5 = c.note-5.ensures.next w first b4 u.construct (hoists_before_last s u) f4 h.construct (c.hoists_before_last.ensures s u are h.followed ∙ ap (hoists_before_last s) e) n4 in
    let f5 = f4 ∙ ap seen_files (sym c.note-5.ensures.files) in
    let b5 = b4 ++ broken_in u.construct Rule.MEMBERS_THAT_HOIST (hoists_before_last s u) in
    let n6 = c.note-6.ensures.next w first b5 u.construct (is_hoisting_arm s u) f5 h.construct (c.is_hoisting_arm.ensures s u are ∙ ap (is_hoisting_arm s) e) n5 in
    let f6 = f5 ∙ ap seen_files (sym c.note-6.ensures.files) in
    let b6 = b5 ++ broken_in u.construct Rule.ARMS_THAT_HOIST (is_hoisting_arm s u) in
    c.note-7.ensures.next w first b6 u.construct (holds_wrong_pipe s u) f6 h.construct ((c.mark-of.ensures.is s are).holds_wrong_pipe ∙ ap (holds_wrong_pipe s) e) n6
