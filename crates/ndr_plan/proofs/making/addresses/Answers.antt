use Rattle.std.proofs.Common.{◌∙◌, ◌≤◌, ◌++◌, ap, ap₂, refl, map, length, arith, append_assoc}
use Rattle.std.specs.List.{enumerate_from}
use Rattle.std.proofs.lemmas.List.{take_all}
use Rattle.nd_types.specs.Layout.{hoists}
use Rattle.ndr_code.specs.Code.{whole_run, place_run, no_address}
use Rattle.ndr_plan.specs.declared.addresses.Addresses.{Addresses}
use Rattle.ndr_plan.proofs.Addressed.{address_at, code_before, code_more, whole_here, place_here, kept_more, whole_past, are_addresses, nowhere_run}
use Rattle.ndr_plan.proofs.making.addresses.Goals as goal

pub loop-at-init : goal.loop-at-init
loop-at-init c = (c.in_ok-code.ensures, c.in_ok-items.ensures.items)

pub loop-at-preserved : goal.loop-at-preserved
loop-at-preserved c =
    let l = c.loop-at in
    let table = c.args.interface.now.types in
    let d = c.in-Some.definition.now in
    let is = c.in-Some.ensures.some in
    let nowhere : Addresses = record { items = c.new.result; end = 0 } in
    let before = code_before table l.at in
    let whole = whole_run (hoists table l.at) 0 in
    let own = c.in_ok-push_whole.ensures ∙ ap₂ (λ xs b. xs ++ whole_run b 0) l.invariant.0 c.hoists.ensures in (
      c.in_ok-push_place.ensures ∙ ap₂ (λ xs ys. xs ++ ys) own (nowhere_run nowhere c.new.ensures.items refl table l.at d)
          ∙ append_assoc before whole (place_run no_address no_address table l.at d) ∙ code_more table l.at d is,
      kept_more table l.at d l.items.items _ _ _ is l.invariant.1 c.in-Ok.ensures.items
          (c.in_ok-whole.ensures ∙ c.len-in-loop-at.ensures ∙ ap length l.invariant.0 ∙ whole_here table l.at)
          (c.in_ok-place.ensures ∙ c.len-in-loop-at-2.ensures ∙ ap length own ∙ place_here table l.at),
    )

pub returns : goal.returns
returns c =
    let l = c.loop-at in
    let table = c.args.interface.now.types in
    let past : length table ≤ l.at = omega (arith, c.len-at-end.ensures, c.loop-at-test.false) in
    are_addresses table _ (l.invariant.1 ∙ ap (λ ds. map (address_at table) (enumerate_from 0 ds)) (take_all l.at table past))
    (c.in_ok-end.ensures ∙ c.len-2.ensures ∙ ap length l.invariant.0 ∙ whole_here table l.at ∙ whole_past table l.at past)
