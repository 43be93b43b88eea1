use Rattle.std.proofs.Common.{◌≡◌, ◌∙◌, ℕ, List, length, map, Some, option_map, refl, sym, ap, subst, arith}
use Rattle.std.proofs.lemmas.Result.{err_from_is_err_and}
use Rattle.std.proofs.lemmas.List.{length_push}
use Rattle.std.proofs.lemmas.Option.{slice_get-map}
use Rattle.std.proofs.lemmas.Iterator.Consumers.{YieldsList-from_first, YieldsList-turn, YieldsList-end}
use Rattle.nd_types.specs.Roots.{NamedRoot, named_roots, root_value}
use Rattle.nd_value.proofs.LocalPass.{given_root}
use Rattle.nd_value.specs.Seen.{tree_of}
use Rattle.nd_lemmas.proofs.Lists.{length_map}
use Rattle.library_nodes.proofs.Lists.{Came, none_came, next_came, all_came, stops_at}
use Rattle.library_nodes.proofs.homes.root_values.Goals as goal

pub loop-root-init : goal.loop-root-init
loop-root-init c =
    λ o there.
    none_came c.args.interface.now.types (map (λ (r : NamedRoot). r.of) (named_roots c.args.interface.now.types c.args.side o)) c.args.reader.now c.new-vals.result c.new-vals.ensures

pub returns-in_err-val : goal.returns-in_err-val
returns-in_err-val c =
    let p = err_from_is_err_and c.from_residual.result c.from_residual.ensures.1 in
    rw (p.1, p.2) (λ o there.
    let i = c.args.interface.now in
    let all = named_roots i.types c.args.side o in
    let walk = YieldsList-from_first root_value (λ w. w) all (c.into_iter-root-iterator.ensures.into_iter_gives ∙ c.params-root-items.ensures o there) in
    let turn = YieldsList-turn walk c.loop-root.yielded _ c.loop-root.yielded_by _ _ c.in-Some.root c.in-Some.is c.next.ensures.steps in
    let root = given_root all _ _ (root_value c.in-Some.root) refl turn in
    stops_at i.types (map (λ (r : NamedRoot). r.of) all) (length c.loop-root.yielded) c.in-Some.root.of.0 c.args.reader.now c.loop-root.reader c.loop-root.vals c.in_err-val.field-0.0
    (slice_get-map (λ (r : NamedRoot). r.of) all (length c.loop-root.yielded) ∙ ap (option_map (λ (r : NamedRoot). r.of)) root) (c.loop-root.invariant o there) c.in_err-val.ensures)

pub loop-root-preserved : goal.loop-root-preserved
loop-root-preserved c =
    λ o there.
    let i = c.args.interface.now in
    let all = named_roots i.types c.args.side o in
    let walk = YieldsList-from_first root_value (λ w. w) all (c.into_iter-root-iterator.ensures.into_iter_gives ∙ c.params-root-items.ensures o there) in
    let turn = YieldsList-turn walk c.loop-root.yielded _ c.loop-root.yielded_by _ _ c.in-Some.root c.in-Some.is c.next.ensures.steps in
    let root = given_root all _ _ (root_value c.in-Some.root) refl turn in
    subst (λ (n : ℕ). Came i.types (map (λ (r : NamedRoot). r.of) all) n c.args.reader.now c.push.new.self c.value.new.reader) (sym (length_push c.loop-root.yielded c.in-Some.root))
    (next_came i.types (map (λ (r : NamedRoot). r.of) all) (length c.loop-root.yielded) c.in-Some.root.of.0 c.args.reader.now c.loop-root.reader c.value.new.reader c.loop-root.vals
    c.push.new.self (tree_of c.in_ok-val.val)
    (slice_get-map (λ (r : NamedRoot). r.of) all (length c.loop-root.yielded) ∙ ap (option_map (λ (r : NamedRoot). r.of)) root) (c.loop-root.invariant o there) c.in_ok-val.ensures
    c.in-Ok.ensures.ok)

pub returns : goal.returns
returns c =
    λ o there.
    let i = c.args.interface.now in
    let all = named_roots i.types c.args.side o in
    let walk = YieldsList-from_first root_value (λ w. w) all (c.into_iter-root-iterator.ensures.into_iter_gives ∙ c.params-root-items.ensures o there) in
    let end = YieldsList-end walk c.loop-root.yielded _ c.loop-root.yielded_by _ _ c.in-None.is c.next.ensures.steps in
    all_came i.types (map (λ (r : NamedRoot). r.of) all) (length c.loop-root.yielded) c.args.reader.now c.loop-root.reader c.loop-root.vals
    (omega (arith, length_map (λ (r : NamedRoot). r.of) all, end.1)) (c.loop-root.invariant o there)
