use Rattle.std.proofs.Common.{◌∙◌, length, get_or, map, None, refl, sym, ap, arith}
use Rattle.std.proofs.lemmas.Option.{same_Some}
use Rattle.std.proofs.lemmas.Result.{IfErr-weaker, on_ok_weaker}
use Rattle.nd_types.specs.declared.types.Operation.{Operation}
use Rattle.nd_value.specs.Fitting.{setting_beside}
use Rattle.nd_misfits.specs.declared.homes.HomeValue.{HomeValue}
use Rattle.nd_misfits.specs.HomeList.{home_tree}
use Rattle.nd_misfits.specs.Numbers.{home_number, no_number}
use Rattle.nd_misfits.proofs.Sharing.{tells_same}
use Rattle.nd_misfits.proofs.Walkable.{walkable_cells}
use Rattle.nd_misfits.proofs.HomeNumbers.{roots_walkable, homes_disagree, numbers_small, numbers_known}
use Rattle.nd_misfits.proofs.disagreeing.disagreeing_attribute.Goals as goal

pub among_all-requires-clause-walkable : goal.among_all-requires-clause-walkable
among_all-requires-clause-walkable c =
    let i = c.args.interface.now in
    let o = c.in-Some.operation.now in
    let there = c.in-Some.ensures.some in
    roots_walkable (setting_beside i o c.args.side None) c.args.graph.now i.legal.enumerators c.requires.few_nodes (c.requires.local o None there) _
    (ap (map home_tree) c.as_slice-4.ensures.value ∙ c.in_ok-roots.ensures o there)

pub among_all-requires-clause-cells : goal.among_all-requires-clause-cells
among_all-requires-clause-cells c =
    let i = c.args.interface.now in
    let o = c.in-Some.operation.now in
    let there = c.in-Some.ensures.some in
    walkable_cells (setting_beside i o c.args.side None) c.args.graph.now i.legal.enumerators c.requires.few_nodes (c.requires.local o None there)

pub among_all-requires-clause-small : goal.among_all-requires-clause-small
among_all-requires-clause-small c =
    let i = c.args.interface.now in
    let g = c.args.graph.now in
    let o = c.in-Some.operation.now in
    let there = c.in-Some.ensures.some in
    let all = ap (map home_tree) c.as_slice-4.ensures.value ∙ c.in_ok-roots.ensures o there in
    let owns = c.as_slice-2.ensures.value ∙ c.in_ok-own.ensures ∙ ap (map (λ (h : HomeValue). home_number g (home_tree h))) (c.as_slice.ensures.value ∙ sym c.as_slice-4.ensures.value) in
    let counted = ap length c.as_slice-3.ensures.value ∙ c.in_ok-numbers.ensures.length in
    numbers_small (setting_beside i o c.args.side None) g i.legal.enumerators c.requires.few_nodes (c.requires.local o None there) _ all _ c.args.given.now _ owns (counted ∙ c.len.ensures)
    (λ j l. ap (λ ns. get_or ns j no_number) c.as_slice-3.ensures.value ∙ c.in_ok-numbers.ensures.numbers j (omega (arith, l, counted))) c.requires.small

pub returns-clause-none : goal.returns-clause-none
returns-clause-none c =
    on_ok_weaker c.among_all.result
    (λ none o q there given.
    let i = c.args.interface.now in
    let g = c.args.graph.now in
    let w = setting_beside i o c.args.side q in
    let same = same_Some _ _ (sym c.in-Some.ensures.some ∙ there) in
    let all = ap (map home_tree) c.as_slice-4.ensures.value ∙ c.in_ok-roots.ensures o there in
    let owns = c.as_slice-2.ensures.value ∙ c.in_ok-own.ensures ∙ ap (map (λ (h : HomeValue). home_number g (home_tree h))) (c.as_slice.ensures.value ∙ sym c.as_slice-4.ensures.value) in
    let counted = ap length c.as_slice-3.ensures.value ∙ c.in_ok-numbers.ensures.length in
    sym (homes_disagree w g i.legal.enumerators c.requires.few_nodes (c.requires.local o q there) _ all)
    ∙ none w refl (sym same)
    (numbers_known w g i.legal.enumerators c.requires.few_nodes (c.requires.local o q there) _ all _ c.args.given.now _ owns
    (counted ∙ c.len.ensures ∙ ap (λ (p : Operation). length p.params) same)
    (λ j l. ap (λ ns. get_or ns j no_number) c.as_slice-3.ensures.value ∙ c.in_ok-numbers.ensures.numbers j (omega (arith, l, counted))) given))
    c.among_all.ensures.none

pub returns-clause-first : goal.returns-clause-first
returns-clause-first c =
    IfErr-weaker c.among_all.result _ _
    (λ e told o q there given.
    let i = c.args.interface.now in
    let g = c.args.graph.now in
    let w = setting_beside i o c.args.side q in
    let same = same_Some _ _ (sym c.in-Some.ensures.some ∙ there) in
    let all = ap (map home_tree) c.as_slice-4.ensures.value ∙ c.in_ok-roots.ensures o there in
    let owns = c.as_slice-2.ensures.value ∙ c.in_ok-own.ensures ∙ ap (map (λ (h : HomeValue). home_number g (home_tree h))) (c.as_slice.ensures.value ∙ sym c.as_slice-4.ensures.value) in
    let counted = ap length c.as_slice-3.ensures.value ∙ c.in_ok-numbers.ensures.length in
    tells_same _ _ e (sym (homes_disagree w g i.legal.enumerators c.requires.few_nodes (c.requires.local o q there) _ all))
    (told w refl (sym same)
    (numbers_known w g i.legal.enumerators c.requires.few_nodes (c.requires.local o q there) _ all _ c.args.given.now _ owns
    (counted ∙ c.len.ensures ∙ ap (λ (p : Operation). length p.params) same)
    (λ j l. ap (λ ns. get_or ns j no_number) c.as_slice-3.ensures.value ∙ c.in_ok-numbers.ensures.numbers j (omega (arith, l, counted))) given)))
    c.among_all.ensures.first
