use Rattle.std.proofs.Common.{◌∙◌, ap, sym, [], ◌∷◌, ◌++◌, map, append-nil}
use Rattle.std.specs.List.{flat_map}
use Rattle.std.proofs.lemmas.List.{map-append, flat_map_more}
use Rattle.std.proofs.lemmas.Option.{slice_get_within}
use Rattle.std.proofs.lemmas.Iterator.Consumers.{YieldsList-from_first, YieldsList-end}
use Rattle.nd_types.specs.Roots.{root_value, named_roots}
use Rattle.idl_listing.specs.Worded.{named_line}
use Rattle.idl_listing.proofs.ListedRoots.{side_by_walk}
use Rattle.idl_listing.proofs.operation_lines.side_lines.Goals as goal

pub params-root-items-requires : goal.params-root-items-requires
params-root-items-requires c = slice_get_within c.args.interface.now.operations c.args.number c.args.operation.now c.requires

pub loop-root-init : goal.loop-root-init
loop-root-init c = sym (append-nil c.args.text.now)

pub loop-root-preserved : goal.loop-root-preserved
loop-root-preserved c =
    let l = c.loop-root in
    let f = named_line c.args.operation.now c.args.side in
    let r = c.in-Some.root in
    c.in_ok-root_line.ensures ∙ ap (λ u. u ++ f (root_value r)) l.invariant
    ∙ flat_map_more f c.args.text.now (map root_value l.yielded) (root_value r)
    ∙ ap (λ rs. c.args.text.now ++ flat_map f rs) (sym (map-append root_value l.yielded (r ∷ [])))

pub returns : goal.returns
returns c =
    let l = c.loop-root in
    let i = c.args.interface.now in
    let o = c.args.operation.now in
    let s = c.args.side in
    let f = named_line o s in
    let all = named_roots i.types s o in
    let walk = YieldsList-from_first root_value (λ w. w) all (c.into_iter-root-iterator.ensures.into_iter_gives ∙ c.params-root-items.ensures o c.requires) in
    let end = YieldsList-end walk l.yielded _ l.yielded_by _ _ c.in-None.is c.next.ensures.steps in
    l.invariant ∙ ap (λ rs. c.args.text.now ++ flat_map f rs) end.0
    ∙ ap (λ ls. c.args.text.now ++ ls) (sym (side_by_walk i.types o s))
