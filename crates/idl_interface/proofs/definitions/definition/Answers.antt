use Rattle.std.proofs.Common.{◌∙◌, sym, ap}
use Rattle.nd_types.specs.Legal.{has_small_bound}
use Rattle.idl_declared_types.specs.Kinds.{type_by, seen_types}
use Rattle.idl_interface.specs.Made.{has_few_parts, scene_in}
use Rattle.idl_rule_definitions.specs.Meaning.{bound, definition}
use Rattle.idl_interface.proofs.Defining.{narrow_bound}
use Rattle.idl_interface.proofs.definitions.definition.Goals as goal

pub struct_at-requires-clause-few : goal.struct_at-requires-clause-few
struct_at-requires-clause-few c =
    let p = c.args.program.now in
    ap (λ k. has_few_parts (definition (scene_in p) (type_by (seen_types p.types.now.kinds) k))) (sym c.in-Struct.is)
    ∙ ap (λ t. has_few_parts (definition (scene_in p) t)) c.kind.ensures.seen
    ∙ c.requires.few

pub array-requires-clause-bound : goal.array-requires-clause-bound
array-requires-clause-bound c =
    let p = c.args.program.now in
    narrow_bound (bound c.in-Array.count) (ap (λ k. has_small_bound (definition (scene_in p) (type_by (seen_types p.types.now.kinds) k))) (sym c.in-Array.is)
    ∙ ap (λ t. has_small_bound (definition (scene_in p) t)) c.kind.ensures.seen
    ∙ c.requires.bound)

pub text-requires-clause-bound : goal.text-requires-clause-bound
text-requires-clause-bound c =
    let p = c.args.program.now in
    narrow_bound (bound c.in-Text.count) (ap (λ k. has_small_bound (definition (scene_in p) (type_by (seen_types p.types.now.kinds) k))) (sym c.in-Text.is)
    ∙ ap (λ t. has_small_bound (definition (scene_in p) t)) c.kind.ensures.seen
    ∙ c.requires.bound)
