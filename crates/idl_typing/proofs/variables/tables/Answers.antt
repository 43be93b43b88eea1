use Rattle.std.proofs.Common.{◌≡◌, ℕ, ◌+◌, ◌<◌, List, [], ◌∷◌, ◌++◌, map, take, length, Some, slice_get, refl, sym, ap, ◌∙◌, subst, arith, Vec}
use Rattle.std.specs.declared.alloc.Global.{Global}
use Rattle.std.proofs.lemmas.Option.{slice_get_read}
use Rattle.std.proofs.lemmas.List.{length-append, length-take}
use Rattle.idl_constructs.specs.declared.nodes.Declared.{Declared}
use Rattle.idl_constructs.specs.SeenNodes.{seen_declared}
use Rattle.idl_rule_definitions.specs.VariableRules.{listed_from}
use Rattle.idl_typing.specs.Lookups.{AreTables}
use Rattle.nd_lemmas.proofs.Lists.{take_next}
use Rattle.idl_typing.proofs.LookupSteps.{index_of, tables_push}
use Rattle.idl_typing.proofs.variables.tables.Goals as goal

pub loop-list-preserved : goal.loop-list-preserved
loop-list-preserved c =
    let ls = c.args.nodes.now.lists.items in
    let seen = c.deref-list-items.result.now in
    let i = c.loop-list.list-index in
    let l = c.list-item.result in
    let t = c.in_ok-table.table in
    let same : seen ≡ ls = c.deref-list-items.ensures.value in
    let here : slice_get ls i ≡ Some l = ap (λ x. slice_get x i) (sym same) ∙ slice_get_read seen (length seen) i l refl c.loop-list-test.true c.list-item.is in
    let below : i < length ls = omega (arith, c.loop-list-test.true, ap length same) in
    let long : length c.loop-list.tables.items ≡ length (take i ls) = omega (arith, c.loop-list.invariant.count, length-take i ls) in
    let more = tables_push c.loop-list.tables.items (take i ls) t l long c.loop-list.invariant.are
    (λ x. c.in_ok-table.ensures x ∙ ap (λ ds. index_of (listed_from 0 (map seen_declared ds) x)) c.deref.ensures.value) in
    record {
      count = ap length c.in-Ok.ensures.items ∙ length-append c.loop-list.tables.items (t ∷ []) ∙ ap (λ n. n + 1) c.loop-list.invariant.count;
      are = subst (λ (ts : List (List (List ℕ × ℕ))). AreTables ts (take (i + 1) ls)) (sym c.in-Ok.ensures.items)
          (subst (λ (m : List (Vec Declared Global)). AreTables (c.loop-list.tables.items ++ t ∷ []) m) (sym (take_next ls i l here)) more);
    }
