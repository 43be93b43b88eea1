use Rattle.std.proofs.Common.{◌≡◌, ◌∙◌, ◌++◌, ap, sym}
use Rattle.idl_scope.specs.Seen.{seen_files}
use Rattle.idl_rule_definitions.specs.Rules.{broken_in}
use Rattle.idl_rule_definitions.specs.DeclarationRules.{is_wrongly_cased}
use Rattle.idl_rule_definitions.specs.VariableRules.{holds_nonencapsulated_union, has_wrong_switch}
use Rattle.idl_rules.proofs.AskedUses.{asked_is}
use Rattle.idl_rules.proofs.variable_rules.note_unions.Goals as goal
use Rattle.idl_rule_definitions.specs.declared.rule.TheConstants as Rule

pub returns-clause-next : goal.returns-clause-next
returns-clause-next c w s u first before files are h start =
    let e = asked_is s c.args.judge.now.kinds.now u c.args.asked.now h in
    let n1 = c.note.ensures.next w first before u.construct (is_wrongly_cased u.construct) files h.construct (c.is_wrongly_cased.ensures ∙ ap is_wrongly_cased h.construct) start in
    let f1 = files ∙ ap seen_files (sym c.note.ensures.files) in
    let b1 = before ++ broken_in u.construct Rule.CASES (is_wrongly_cased u.construct) in
    let n2 =
    c.note-2.ensures.next w first b1 u.construct (holds_nonencapsulated_union s u) f1 h.construct ((c.without_union.ensures s u are).nonencapsulated ∙ ap (holds_nonencapsulated_union s) e) n1 in
    let f2 = f1 ∙ ap seen_files (sym c.note-2.ensures.files) in
    let b2 = b1 ++ broken_in u.construct Rule.USES_OF_UNIONS (holds_nonencapsulated_union s u) in
    c.note-3.ensures.next w first b2 u.construct (has_wrong_switch s u) f2 h.construct (c.has_wrong_switch.ensures s u are h) n2
