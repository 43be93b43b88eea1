use Rattle.std.proofs.Common.{◌≡◌, ◌∙◌, [], ◌++◌, option_map, refl, ap, ap₂, sym}
use Rattle.idl_scope.specs.Seen.{seen_files}
use Rattle.idl_rule_definitions.specs.Found.{seen_breach}
use Rattle.idl_rule_definitions.specs.Rules.{broken_in}
use Rattle.idl_declared_types.specs.Kinds.{type_at}
use Rattle.idl_constructs.specs.SeenNodes.{seen_construct}
use Rattle.idl_rule_definitions.specs.Types.{is_void, is_handle, is_pipe, is_context}
use Rattle.idl_rule_definitions.specs.TypeRules.{in_tag}
use Rattle.idl_rule_definitions.specs.VariableRules.{may_not_be_switched}
use Rattle.idl_rules.proofs.uses.note_switch.Goals as goal
use Rattle.idl_rule_definitions.specs.declared.rule.TheConstants as Rule

pub returns-clause-first : goal.returns-clause-first
returns-clause-first c w s files are =
    let start = option_map seen_breach c.args.finder.now.first in
    let co = seen_construct c.args.construct.now in
    let n1 = c.note.ensures.next w start [] co (in_tag is_void (type_at c.args.judge.now.kinds.now c.args.of)) files refl ((c.mark-mark.ensures.is s are).holds_void) refl in
    let f1 = files ∙ ap seen_files (sym c.note.ensures.files) in
    let b1 = [] ++ broken_in co Rule.VOID (in_tag is_void (type_at c.args.judge.now.kinds.now c.args.of)) in
    let n2 = c.note-2.ensures.next w start b1 co (in_tag is_handle (type_at c.args.judge.now.kinds.now c.args.of)) f1 refl ((c.mark-mark.ensures.is s are).holds_handle) n1 in
    let f2 = f1 ∙ ap seen_files (sym c.note-2.ensures.files) in
    let b2 = b1 ++ broken_in co Rule.HANDLE (in_tag is_handle (type_at c.args.judge.now.kinds.now c.args.of)) in
    let n3 = c.note-3.ensures.next w start b2 co (in_tag is_pipe (type_at c.args.judge.now.kinds.now c.args.of)) f2 refl ((c.mark-mark.ensures.is s are).holds_pipe) n2 in
    let f3 = f2 ∙ ap seen_files (sym c.note-3.ensures.files) in
    let b3 = b2 ++ broken_in co Rule.PIPES (in_tag is_pipe (type_at c.args.judge.now.kinds.now c.args.of)) in
    let n4 = c.note-4.ensures.next w start b3 co (in_tag is_context (type_at c.args.judge.now.kinds.now c.args.of)) f3 refl ((c.mark-mark.ensures.is s are).holds_context) n3 in
    let f4 = f3 ∙ ap seen_files (sym c.note-4.ensures.files) in
    let b4 = b3 ++ broken_in co Rule.CONTEXT_HANDLES (in_tag is_context (type_at c.args.judge.now.kinds.now c.args.of)) in
    c.note-5.ensures.next w start b4 co (may_not_be_switched (type_at c.args.judge.now.kinds.now c.args.of)) f4 refl (c.may_not_be_switched.ensures) n4
