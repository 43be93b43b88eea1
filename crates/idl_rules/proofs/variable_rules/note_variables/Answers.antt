use Rattle.std.proofs.Common.{◌≡◌, ◌∙◌, ◌++◌, ap, sym}
use Rattle.idl_scope.specs.Seen.{seen_files}
use Rattle.idl_rule_definitions.specs.Rules.{broken_in}
use Rattle.idl_rule_definitions.specs.VariableRules.{is_wrong_text, is_wrongly_sized, is_wrongly_varying, has_no_variable, has_wrong_variable}
use Rattle.idl_rules.proofs.AskedUses.{asked_is}
use Rattle.idl_rules.proofs.variable_rules.note_variables.Goals as goal
use Rattle.idl_rule_definitions.specs.declared.rule.TheConstants as Rule

pub returns-clause-next : goal.returns-clause-next
returns-clause-next c w s u first before files are h start =
    let e = asked_is s c.args.judge.now.kinds.now u c.args.asked.now h in
    let n1 = c.note.ensures.next w first before u.construct (is_wrong_text u) files h.construct (c.is_wrong_text.ensures u ∙ ap is_wrong_text e) start in
    let f1 = files ∙ ap seen_files (sym c.note.ensures.files) in
    let b1 = before ++ broken_in u.construct Rule.TEXTS (is_wrong_text u) in
    let n2 = c.note-2.ensures.next w first b1 u.construct (is_wrongly_sized u) f1 h.construct (c.is_wrongly_sized.ensures u ∙ ap is_wrongly_sized e) n1 in
    let f2 = f1 ∙ ap seen_files (sym c.note-2.ensures.files) in
    let b2 = b1 ++ broken_in u.construct Rule.SIZES (is_wrongly_sized u) in
    let n3 = c.note-3.ensures.next w first b2 u.construct (is_wrongly_varying u) f2 h.construct (c.is_wrongly_varying.ensures u ∙ ap is_wrongly_varying e) n2 in
    let f3 = f2 ∙ ap seen_files (sym c.note-3.ensures.files) in
    let b3 = b2 ++ broken_in u.construct Rule.LENGTHS (is_wrongly_varying u) in
    let n4 = c.note-4.ensures.next w first b3 u.construct (has_no_variable u) f3 h.construct (h.no_variable) n3 in
    let f4 = f3 ∙ ap seen_files (sym c.note-4.ensures.files) in
    let b4 = b3 ++ broken_in u.construct Rule.VARIABLES (has_no_variable u) in
    c.note-5.ensures.next w first b4 u.construct (has_wrong_variable s u) f4 h.construct (h.typed.wrong_variable) n4
