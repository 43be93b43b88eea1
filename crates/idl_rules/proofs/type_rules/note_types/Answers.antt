use Rattle.std.proofs.Common.{◌≡◌, ◌∙◌, ◌++◌, ap, sym}
use Rattle.idl_scope.specs.Seen.{seen_files}
use Rattle.idl_rule_definitions.specs.Rules.{broken_in}
use Rattle.idl_rule_definitions.specs.TypeRules.{holds_void, holds_handle, holds_pipe, is_no_context_handle, holds_context_handle, holds_deep_array}
use Rattle.idl_rules.proofs.AskedUses.{asked_is}
use Rattle.idl_rules.proofs.type_rules.note_types.Goals as goal
use Rattle.idl_rule_definitions.specs.declared.rule.TheConstants as Rule

pub returns-clause-next : goal.returns-clause-next
returns-clause-next c w s u first before files are h start =
    let e = asked_is s c.args.judge.now.kinds.now u c.args.asked.now h in
    let n1 = c.note.ensures.next w first before u.construct (holds_void u) files h.construct ((c.without_void.ensures s are).void ∙ ap holds_void e) start in
    let f1 = files ∙ ap seen_files (sym c.note.ensures.files) in
    let b1 = before ++ broken_in u.construct Rule.VOID (holds_void u) in
    let n2 = c.note-2.ensures.next w first b1 u.construct (holds_handle u) f1 h.construct ((c.without_handle.ensures s are).handle ∙ ap holds_handle e) n1 in
    let f2 = f1 ∙ ap seen_files (sym c.note-2.ensures.files) in
    let b2 = b1 ++ broken_in u.construct Rule.HANDLE (holds_handle u) in
    let n3 = c.note-3.ensures.next w first b2 u.construct (holds_pipe u) f2 h.construct ((c.without_pipe-within.ensures s are).pipe ∙ ap holds_pipe e) n2 in
    let f3 = f2 ∙ ap seen_files (sym c.note-3.ensures.files) in
    let b3 = b2 ++ broken_in u.construct Rule.PIPES (holds_pipe u) in
    let n4 = c.note-4.ensures.next w first b3 u.construct (is_no_context_handle u) f3 h.construct (c.is_no_context_handle.ensures u ∙ ap is_no_context_handle e) n3 in
    let f4 = f3 ∙ ap seen_files (sym c.note-4.ensures.files) in
    let b4 = b3 ++ broken_in u.construct Rule.CONTEXT_HANDLE (is_no_context_handle u) in
    let n5 = c.note-5.ensures.next w first b4 u.construct (holds_context_handle u) f4 h.construct ((c.without_pipe-within.ensures s are).context ∙ ap holds_context_handle e) n4 in
    let f5 = f4 ∙ ap seen_files (sym c.note-5.ensures.files) in
    let b5 = b4 ++ broken_in u.construct Rule.CONTEXT_HANDLES (holds_context_handle u) in
    c.note-6.ensures.next w first b5 u.construct (holds_deep_array s u) f5 h.construct ((c.mark.ensures.is s are).holds_deep_array ∙ ap (holds_deep_array s) e) n5
