use Rattle.std.proofs.Common.{◌≡◌, true, length}
use Rattle.idl_scope.specs.Seen.{known_in}
use Rattle.idl_declared_types.specs.SeenNames.{seen_names, are_within}
use Rattle.idl_constructs.specs.SeenNodes.{seen_declared, list_at}
use Rattle.idl_declared_types.proofs.NameLists.{are_within-keeps}
use Rattle.idl_typing.proofs.NotedTypes.{listed_is}
use Rattle.idl_typing.proofs.types.note_listed.Goals as goal

pub has_wrong_switch_variable-requires-clause-within : goal.has_wrong_switch_variable-requires-clause-within
has_wrong_switch_variable-requires-clause-within c = are_within-keeps c.args.kinds.now c.has_wrong_variable.new.kinds c.args.names.now c.in_ok-wrong_variable.ensures.keeps c.requires.within

pub note_declared-requires : goal.note_declared-requires
note_declared-requires c =
    let once = are_within-keeps c.args.kinds.now c.has_wrong_variable.new.kinds c.args.names.now c.in_ok-wrong_variable.ensures.keeps c.requires.within in
    are_within-keeps c.has_wrong_variable.new.kinds c.has_wrong_switch_variable.new.kinds c.args.names.now c.in_ok-wrong_switch_variable.ensures.keeps once

pub returns-clause-typed : goal.returns-clause-typed
returns-clause-typed c =
    listed_is (known_in c.args.scope.now) c.args.names.now c.args.kinds.now c.has_wrong_variable.new.kinds c.has_wrong_switch_variable.new.kinds c.note_declared.new.kinds
    (list_at c.args.nodes.now.lists.items c.args.slot.list)
    (seen_declared c.args.it.now) c.args.slot.index c.has_no_variable-no_variable.result c.in_ok-wrong_variable.wrong_variable c.in_ok-wrong_switch_variable.wrong_switch_variable
    c.in_ok-noted.noted.declared_as c.in_ok-noted.noted.of c.requires.within c.in_ok-wrong_variable.ensures.keeps c.in_ok-wrong_switch_variable.ensures.keeps
    (c.has_no_variable-no_variable.ensures (known_in c.args.scope.now)
    (seen_names c.args.kinds.now c.args.names.now)) c.in_ok-wrong_variable.ensures.wrong c.in_ok-wrong_switch_variable.ensures.wrong c.in_ok-noted.ensures.declared_as c.in_ok-noted.ensures.of
