use Rattle.std.proofs.Common.{◌∙◌, ◌-◌, ◌<◌, sym, ap, map, option_map, length, subst, arith, Some}
use Rattle.std.proofs.lemmas.List.{length-map}
use Rattle.std.proofs.lemmas.Option.{slice_get-map, slice_get-get_or}
use Rattle.idl_grammar.specs.Seen.{seen_export}
use Rattle.idl_check.proofs.AcfOperations.{one_before}
use Rattle.idl_check.proofs.acf_names.operations_of.Goals as goal

pub loop-at-preserved : goal.loop-at-preserved
loop-at-preserved c =
    let all = c.args.exports.now in
    let k = c.loop-at.at - 1 in
    let below : k < length all = omega (arith, c.loop-at-test.true, c.loop-at.auto.at) in
    let there = slice_get-map seen_export all k ∙ ap (option_map seen_export) (slice_get-get_or all k c.index-exports-at.result below ∙ ap (λ x. Some x) (sym c.index-exports-at.is)) in
    one_before (map seen_export all) k c.loop-at.at (seen_export c.index-exports-at.result) c.loop-at.numbers c.add_operation.new.numbers
    (subst (λ n. k < n) (sym (length-map all seen_export)) below) there
    (omega (arith, c.loop-at-test.true)) c.loop-at.invariant c.in_ok-add_operation.ensures
