use Rattle.std.proofs.Common.{◌≡◌, true, List, [], ◌∷◌, ◌++◌, length, map, take, refl, sym, ap, ◌∙◌}
use Rattle.std.proofs.lemmas.Option.{slice_get_read}
use Rattle.idl_scope.specs.Seen.{known_in}
use Rattle.idl_rule_definitions.specs.Types.{type_of}
use Rattle.idl_declared_types.specs.Kinds.{type_at}
use Rattle.idl_declared_types.specs.SeenNames.{seen_names, are_within, are_below}
use Rattle.idl_constructs.specs.SeenNodes.{seen_declared}
use Rattle.idl_declared_types.proofs.NameLists.{are_within-keeps, seen_names-keeps}
use Rattle.idl_typing.proofs.PartTypes.{below-le, below-push, part_next}
use Rattle.idl_typing.proofs.types.part_types.Goals as goal

pub note_declared-requires : goal.note_declared-requires
note_declared-requires c = are_within-keeps c.args.kinds.now c.loop-part.kinds c.args.names.now c.loop-part.invariant.keeps c.requires

pub loop-part-preserved : goal.loop-part-preserved
loop-part-preserved c =
    let old = c.loop-part.kinds in
    let new = c.note_declared.new.kinds in
    let numbers = c.loop-part.numbers.items in
    let k = c.in_ok-noted.noted.of in
    let push = c.in-Ok.ensures.items in
    let keeps = c.in_ok-noted.ensures.keeps in
    let known = known_in c.args.scope.now in
    let f = type_of known (seen_names c.args.kinds.now c.args.names.now) in
    let names = seen_names-keeps c.args.kinds.now old c.args.names.now c.loop-part.invariant.keeps c.requires in
    let here = slice_get_read c.args.parts.now (length c.args.parts.now) c.loop-part.part-index c.part-item.result refl c.loop-part-test.true c.part-item.is in
    let type : type_at new k ≡ f (seen_declared c.part-item.result) = c.in_ok-noted.ensures.of ∙ ap (λ n. type_of known n (seen_declared c.part-item.result)) names in
    record {
      keeps = λ n t h. keeps n t (c.loop-part.invariant.keeps n t h);
      within = ap (are_below (length new)) push ∙ below-push (length new) numbers k (below-le old new numbers keeps c.loop-part.invariant.within) c.in_ok-noted.ensures.within.1;
      is = ap (map (type_at new)) push
          ∙ part_next old new numbers f seen_declared c.args.parts.now c.loop-part.part-index c.part-item.result k keeps c.loop-part.invariant.within c.loop-part.invariant.is here type;
    }
