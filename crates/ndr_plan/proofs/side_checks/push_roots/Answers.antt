use Rattle.std.proofs.Common.{◌∙◌, ◌≡◌, ◌+◌, ap, ap₂, sym, [], ◌∷◌, ◌++◌, map, length, append-nil, append_assoc, arith, refl}
use Rattle.std.specs.List.{flat_map}
use Rattle.std.proofs.lemmas.List.{map-append}
use Rattle.std.proofs.lemmas.Option.{slice_get_within}
use Rattle.std.proofs.lemmas.Iterator.Consumers.{YieldsList-from_first, YieldsList-end}
use Rattle.nd_types.specs.Roots.{root_value, named_roots}
use Rattle.ndr_plan.specs.Numbers.{number_in}
use Rattle.ndr_plan.specs.Checks.{check_by, checks_by, vars_at}
use Rattle.ndr_plan.proofs.Walked.{checks_more, one_longer}
use Rattle.ndr_plan.proofs.side_checks.push_roots.Goals as goal

pub params-root-items-requires : goal.params-root-items-requires
params-root-items-requires c =
    let side = c.args.side.now in
    slice_get_within side.interface.now.operations side.op side.operation.now side.known

pub loop-root-init : goal.loop-root-init
loop-root-init c = (sym (append-nil c.args.code.now), refl)

pub loop-root-preserved : goal.loop-root-preserved
loop-root-preserved c =
    let l = c.loop-root in
    let C = c.args.code.now in
    let ns = c.args.numbers.now in
    let o = c.args.side.now.operation.now in
    let check = check_by c.args.side.now.side (number_in ns.here.items.items) (number_in ns.asked.items.items) in
    let ys = map root_value l.yielded in
    let r = root_value c.in-Some.root in
    let z : length ys ≡ 0 + length ys = omega arith in (
      c.in_ok-push_root.ensures ∙ ap₂ (λ t k. t ++ flat_map (check k) (vars_at o r.param)) l.invariant.0 (l.invariant.1 ∙ z)
          ∙ append_assoc C (checks_by check o 0 ys) (flat_map (check (0 + length ys)) (vars_at o r.param))
          ∙ ap (λ xs. C ++ xs) (checks_more check o 0 ys r)
          ∙ ap (λ rs. C ++ checks_by check o 0 rs) (sym (map-append root_value l.yielded (c.in-Some.root ∷ []))),
      c.in_ok-field.ensures ∙ ap (λ k. k + 1) l.invariant.1 ∙ one_longer root_value l.yielded c.in-Some.root,
    )

pub returns : goal.returns
returns c =
    let l = c.loop-root in
    let side = c.args.side.now in
    let i = side.interface.now in
    let o = side.operation.now in
    let ns = c.args.numbers.now in
    let check = check_by side.side (number_in ns.here.items.items) (number_in ns.asked.items.items) in
    let all = named_roots i.types side.side o in
    let walk = YieldsList-from_first root_value (λ w. w) all (c.into_iter-root-iterator.ensures.into_iter_gives ∙ c.params-root-items.ensures o side.known) in
    let end = YieldsList-end walk l.yielded _ l.yielded_by _ _ c.in-None.is c.next.ensures.steps in
    l.invariant.0 ∙ ap (λ rs. c.args.code.now ++ checks_by check o 0 rs) end.0
