use Rattle.std.proofs.Common.{◌≡◌, ℕ, ◌+◌, List, [], ◌∷◌, ◌++◌, length, Some, slice_get, sym, ap, ◌∙◌, refl, subst}
use Rattle.std.proofs.lemmas.Option.{slice_get_read}
use Rattle.nd_base.specs.declared.octets.Place.{Place}
use Rattle.idl_scope.specs.Seen.{known_in}
use Rattle.idl_declared_types.specs.declared.types.BodyTypes.{BodyTypes}
use Rattle.idl_declared_types.specs.declared.types.OperationTypes.{OperationTypes}
use Rattle.idl_declared_types.specs.declared.types.Typed.{Typed}
use Rattle.idl_declared_types.specs.SeenNames.{seen_names}
use Rattle.idl_declared_types.specs.SeenTypes.{names_at}
use Rattle.idl_typing.specs.ReadTypes.{NamesRead, TypedRead, BodiesRead, TagsRead, OperationsRead, bodies_front, called_front}
use Rattle.idl_declared_types.proofs.NameLists.{are_within-keeps}
use Rattle.idl_typing.proofs.ReadSteps.{typed_same, typed_read_keeps, typed_read_next, names_read_keeps, names_read_next}
use Rattle.idl_typing.proofs.ReadBodies.{bodies_read_keeps}
use Rattle.idl_typing.proofs.ReadOperations.{tags_keeps, operations_keeps}
use Rattle.idl_typing.proofs.types.read_node.Goals as goal

pub read_operation-requires-clause-names : goal.read_operation-requires-clause-names
read_operation-requires-clause-names c =
    names_read_keeps
    (known_in c.args.scope.now) c.args.nodes.now c.args.index c.args.types.now.kinds c.read_body.new.types.kinds c.args.names.now c.in_ok-read_body.ensures.keeps c.requires.read.names_read

pub read_operation-requires-clause-operations : goal.read_operation-requires-clause-operations
read_operation-requires-clause-operations c =
    let n = c.args.nodes.now in
    let known = known_in c.args.scope.now in
    let ks = c.read_body.new.types.kinds in
    subst (λ (l : List OperationTypes). OperationsRead known n c.args.index ks l) (sym (ap (λ v. v.items) c.in_ok-read_body.ensures.operations))
    (operations_keeps known n (called_front known n c.args.index) c.args.types.now.kinds ks c.args.types.now.operations.items c.in_ok-read_body.ensures.keeps c.requires.read.operations_read)

pub noted-requires-clause-within : goal.noted-requires-clause-within
noted-requires-clause-within c =
    are_within-keeps c.read_body.new.types.kinds c.read_operation.new.types.kinds c.args.names.now c.in_ok-read_operation.ensures.keeps
    (are_within-keeps c.args.types.now.kinds c.read_body.new.types.kinds c.args.names.now c.in_ok-read_body.ensures.keeps c.requires.read.names_read.within)

pub returns : goal.returns
returns c =
    let n = c.args.nodes.now in
    let known = known_in c.args.scope.now in
    let i = c.args.index in
    let it = c.index-node.result.now in
    let t = c.in_ok-noted.noted in
    let first = c.args.types.now.kinds in
    let second = c.read_body.new.types.kinds in
    let third = c.read_operation.new.types.kinds in
    let last = c.noted.new.kinds in
    let one = c.in_ok-read_body.ensures.keeps in
    let two = c.in_ok-read_operation.ensures.keeps in
    let three = c.in_ok-noted.ensures.keeps in
    let here = slice_get_read n.items.items (length n.items.items) i it refl c.requires.within c.index-node.ensures in
    let names = names_read_keeps known n i second third c.args.names.now two (names_read_keeps known n i first second c.args.names.now one c.requires.read.names_read) in
    let typed = typed_same known (seen_names third c.args.names.now) (names_at known n i) last n.lists.items it t (λ x. sym (names.agree x)) c.in_ok-noted.ensures.typed in
    let next = names_read_next known n i last c.args.names.now it t (names_read_keeps known n i third last c.args.names.now three names) here typed c.in_ok-noted.ensures.within.1 in
    let was = c.args.types.now.typed.items in
    let noted = typed_read_keeps known n i third last was three (typed_read_keeps known n i second third was two (typed_read_keeps known n i first second was one c.requires.read.typed_read)) in
    let more = typed_read_next known n i last was it t noted here typed c.in_ok-noted.ensures.within in
    let items = c.in-Ok.ensures.items ∙ ap (λ v. v.items ++ t ∷ []) (c.in_ok-read_operation.ensures.typed ∙ c.in_ok-read_body.ensures.typed) in
    let front = bodies_front known n (i + 1) in
    let bodies = c.read_body.new.types.bodies.items in
    let places = c.read_body.new.types.by_place in
    let bodies_same = ap (λ v. v.items) c.in_ok-read_operation.ensures.bodies in
    let over = bodies_read_keeps known n front third last bodies places three (bodies_read_keeps known n front second third bodies places two c.in_ok-read_body.ensures.bodies) in
    let tags = tags_keeps front third last bodies three (tags_keeps front second third bodies two c.in_ok-read_body.ensures.tags) in
    record {
      names_read = subst (λ (l : List (List ℕ × ℕ)). NamesRead known n (i + 1) last l) (sym c.in_ok-declare_node.ensures) next;
      typed_read = subst (λ (l : List Typed). TypedRead known n (i + 1) last l) (sym items) more;
      bodies_read = subst (λ (l : List BodyTypes). BodiesRead known n (i + 1) last l c.read_operation.new.types.by_place) (sym bodies_same)
          (subst (λ (p : List (Place × ℕ)). BodiesRead known n (i + 1) last bodies p) (sym c.in_ok-read_operation.ensures.by_place) over);
      tags_read = subst (λ (l : List BodyTypes). TagsRead known n (i + 1) last l) (sym bodies_same) tags;
      operations_read = operations_keeps known n (called_front known n (i + 1)) third last c.read_operation.new.types.operations.items three c.in_ok-read_operation.ensures.operations;
    }
