use Rattle.std.proofs.Common.{◌≡◌, List, map, ap, ◌∙◌}
use Rattle.idl_scope.specs.Seen.{known_in}
use Rattle.idl_rule_definitions.specs.Types.{type_of}
use Rattle.idl_declared_types.specs.SeenNames.{seen_names}
use Rattle.idl_constructs.specs.SeenNodes.{seen_declared}
use Rattle.idl_declared_types.proofs.NameLists.{are_within-keeps, seen_names-keeps}
use Rattle.idl_typing.proofs.ReadOperations.{tag_still}
use Rattle.idl_typing.proofs.types.body_types.Goals as goal

pub part_types-requires : goal.part_types-requires
part_types-requires c = are_within-keeps c.args.kinds.now c.tag_number.new.kinds c.args.names.now c.in_ok-tag.ensures.keeps c.requires

pub returns-clause-parts : goal.returns-clause-parts
returns-clause-parts c =
    let known = known_in c.args.scope.now in
    let names = seen_names c.args.kinds.now c.args.names.now in
    let same = seen_names-keeps c.args.kinds.now c.tag_number.new.kinds c.args.names.now c.in_ok-tag.ensures.keeps c.requires in
    c.in_ok-parts.ensures.types ∙ ap (λ n. map (type_of known n) (map seen_declared c.deref.result.now)) same
    ∙ ap (λ ds. map (type_of known names) (map seen_declared ds)) c.deref.ensures.value ∙ ap (map (type_of known names)) c.in_ok-declared.ensures

pub returns-clause-tag : goal.returns-clause-tag
returns-clause-tag c =
    (tag_still c.tag_number.new.kinds c.part_types.new.kinds c.in_ok-tag.tag c.in_ok-parts.ensures.keeps c.in_ok-tag.ensures.within).0 ∙ c.in_ok-tag.ensures.tag

pub returns-clause-tag_within : goal.returns-clause-tag_within
returns-clause-tag_within c = (tag_still c.tag_number.new.kinds c.part_types.new.kinds c.in_ok-tag.tag c.in_ok-parts.ensures.keeps c.in_ok-tag.ensures.within).1
