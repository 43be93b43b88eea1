use Rattle.std.proofs.Common.{◌≡◌, ℕ, ◌+◌, List, map, length, Some, slice_get, sym, ap, ◌∙◌, refl, subst}
use Rattle.std.proofs.lemmas.Option.{slice_get_read}
use Rattle.idl_grammar.specs.Seen.{seen_type}
use Rattle.idl_scope.specs.Seen.{known_in}
use Rattle.idl_declared_types.specs.declared.types.OperationTypes.{OperationTypes}
use Rattle.idl_rule_definitions.specs.Types.{type_of, written_type}
use Rattle.idl_declared_types.specs.SeenNames.{seen_names}
use Rattle.idl_constructs.specs.SeenNodes.{seen_construct, seen_result, list_at}
use Rattle.idl_declared_types.specs.SeenTypes.{names_at, bare}
use Rattle.idl_declared_types.specs.SeenOperations.{Called, called_at, IsOperation}
use Rattle.idl_typing.specs.ReadTypes.{OperationsRead}
use Rattle.idl_declared_types.proofs.KindLists.{type_at-stands}
use Rattle.idl_declared_types.proofs.NameLists.{are_within-keeps, seen_names-keeps, within_stands}
use Rattle.idl_typing.proofs.NotedTypes.{without_attributes}
use Rattle.idl_typing.proofs.PartTypes.{types-keeps, below-le}
use Rattle.idl_typing.proofs.Agreed.{types_same, type_same}
use Rattle.idl_typing.proofs.ReadOperations.{operations_next, operations_none, operations_keeps, not_operation}
use Rattle.idl_typing.proofs.types.read_operation.Goals as goal

pub returns-in_default : goal.returns-in_default
returns-in_default c =
    let n = c.args.nodes.now in
    let known = known_in c.args.scope.now in
    let here = slice_get_read n.items.items (length n.items.items) c.args.index c.index.result.now refl c.requires.within c.index.ensures in
    record {
      operations = operations_none known n c.args.index c.args.types.now.kinds c.args.types.now.operations.items c.index.result.now here
          (not_operation n.lists.items (names_at known n c.args.index) c.index.result.now c.in_default.not-Operation) c.requires.operations;
      typed = refl;
      bodies = refl;
      by_place = refl;
      keeps = λ k t h. h;
    }

pub written-requires : goal.written-requires
written-requires c = are_within-keeps c.args.types.now.kinds c.parameter_types.new.kinds c.args.names.now c.in_ok-parameters.ensures.keeps c.requires.names.within

pub returns-clause-operations : goal.returns-clause-operations
returns-clause-operations c =
    let n = c.args.nodes.now in
    let known = known_in c.args.scope.now in
    let i = c.args.index in
    let lists = n.lists.items in
    let first = c.args.types.now.kinds in
    let second = c.parameter_types.new.kinds in
    let ks = c.written.new.kinds in
    let it = c.in-Operation.it in
    let file = it.construct.file in
    let of = seen_type it.of.now in
    let t : OperationTypes = record { node = i; parameters = c.in_ok-parameters.parameters; result = c.in_ok-result.result } in
    let names = names_at known n i in
    let seen = seen_names first c.args.names.now in
    let list = list_at lists c.in-Operation.list in
    let same = seen_names-keeps first second c.args.names.now c.in_ok-parameters.ensures.keeps c.requires.names.within in
    let here = slice_get_read n.items.items (length n.items.items) i c.index.result.now refl c.requires.within c.index.ensures in
    let o : Called = record { names = names; construct = seen_construct it.construct; name = it.name.now; parameters = list; result = of } in
    let at : called_at lists names (Some c.index.result.now) ≡ Some o = ap (λ x. called_at lists names (Some x)) c.in-Operation.is in
    let is : IsOperation (bare known) n ks o t = record {
      parameters = types-keeps second ks c.in_ok-parameters.parameters.items c.in_ok-result.ensures.keeps c.in_ok-parameters.ensures.within
          ∙ c.in_ok-parameters.ensures.types ∙ types_same known seen names list (λ x. sym (c.requires.names.agree x));
      result = type_at-stands ks c.in_ok-result.result (written_type known (seen_names second c.args.names.now) file of) c.in_ok-result.ensures.stands
          ∙ ap (λ m. written_type known m file of) same ∙ sym (without_attributes (written_type known seen file of))
          ∙ type_same known seen names (seen_result it) (λ x. sym (c.requires.names.agree x));
      node = ap (λ x. called_at lists names x) here ∙ at;
    } in
    let before = operations_keeps known n _ second ks c.args.types.now.operations.items c.in_ok-result.ensures.keeps
    (operations_keeps known n _ first second c.args.types.now.operations.items c.in_ok-parameters.ensures.keeps c.requires.operations) in
    let within = below-le second ks c.in_ok-parameters.parameters.items c.in_ok-result.ensures.keeps c.in_ok-parameters.ensures.within in
    let below = within_stands ks c.in_ok-result.result _ c.in_ok-result.ensures.stands in
    let next = operations_next known n i ks c.args.types.now.operations.items c.index.result.now o t here at before is within below in
    subst (λ (l : List OperationTypes). OperationsRead known n (i + 1) ks l) (sym c.in-Ok.ensures.items) next
