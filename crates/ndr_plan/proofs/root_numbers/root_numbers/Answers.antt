use Rattle.std.proofs.Common.{◌∙◌, ◌≡◌, ℕ, ◌+◌, ap, ap₂, sym, [], ◌∷◌, map, length, arith, refl, Option, None, replicate}
use Rattle.std.proofs.lemmas.List.{map-append}
use Rattle.std.proofs.lemmas.Option.{slice_get_within}
use Rattle.std.proofs.lemmas.Iterator.Consumers.{YieldsList-from_first, YieldsList-end}
use Rattle.nd_types.specs.Roots.{root_value, named_roots}
use Rattle.ndr_plan.specs.Numbers.{numbered, all_numbered, number_in}
use Rattle.ndr_plan.proofs.Walked.{numbers_more, one_longer}
use Rattle.ndr_plan.proofs.Numbering.{are_numbers}
use Rattle.ndr_plan.proofs.root_numbers.root_numbers.Goals as goal

pub params-root-items-requires : goal.params-root-items-requires
params-root-items-requires c =
    let of = c.args.of.now in
    slice_get_within of.interface.now.operations of.op of.operation.now of.known

pub loop-root-init : goal.loop-root-init
loop-root-init c = (c.in_ok-numbers.ensures ∙ ap (λ n. replicate {A = Option ℕ} n None) c.len.ensures, refl)

pub loop-root-preserved : goal.loop-root-preserved
loop-root-preserved c =
    let l = c.loop-root in
    let none = replicate {A = Option ℕ} (length c.args.of.now.operation.now.params) None in
    let ys = map root_value l.yielded in
    let r = root_value c.in-Some.root in
    let z : length ys ≡ 0 + length ys = omega arith in (
      c.put.ensures ∙ ap₂ (λ items k. numbered items r.param k) l.invariant.0 (l.invariant.1 ∙ z)
          ∙ numbers_more none 0 ys r ∙ ap (all_numbered none 0) (sym (map-append root_value l.yielded (c.in-Some.root ∷ []))),
      c.in_ok-number.ensures ∙ ap (λ k. k + 1) l.invariant.1 ∙ one_longer root_value l.yielded c.in-Some.root,
    )

pub returns : goal.returns
returns c =
    let l = c.loop-root in
    let of = c.args.of.now in
    let i = of.interface.now in
    let o = of.operation.now in
    let none = replicate {A = Option ℕ} (length o.params) None in
    let all = named_roots i.types c.args.side o in
    let walk = YieldsList-from_first root_value (λ w. w) all (c.into_iter-root-iterator.ensures.into_iter_gives ∙ c.params-root-items.ensures o of.known) in
    let end = YieldsList-end walk l.yielded _ l.yielded_by _ _ c.in-None.is c.next.ensures.steps in
    let items = l.invariant.0 ∙ ap (all_numbered none 0) end.0 in
    λ j. ap (λ xs. number_in xs j) items ∙ are_numbers i.types c.args.side o j
