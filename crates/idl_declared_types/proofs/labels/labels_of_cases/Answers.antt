use Rattle.std.proofs.Common.{◌∙◌, ◌++◌, refl, ap, arith}
use Rattle.idl_scope.specs.Seen.{known_in}
use Rattle.idl_constructs.proofs.Gathering.{gather, gathered}
use Rattle.idl_declared_types.proofs.LabelLists as lists
use Rattle.idl_declared_types.proofs.labels.labels_of_cases.Goals as goal

pub loop-case-preserved : goal.loop-case-preserved
loop-case-preserved c =
    let known = known_in c.args.scope.now in
    let xs = c.deref-case-items.result.now in
    gather (lists.of_cases known) (lists.of_case known) (lists.cases_cons known) xs (lists.of_cases known xs)
    c.loop-case.list.items c.add_labels.new.list.items c.loop-case.case-index c.case-item.result (omega arith) c.case-item.is
    (c.in_ok-add_labels.ensures ∙ ap (λ l. c.loop-case.list.items ++ lists.each_label known l) c.as_slice.ensures.value) c.loop-case.invariant

pub returns : goal.returns
returns c =
    let known = known_in c.args.scope.now in
    let xs = c.deref-case-items.result.now in
    gathered (lists.of_cases known) (lists.of_case known) (lists.cases_cons known) xs (lists.of_cases known xs) c.loop-case.list.items c.loop-case.case-index (omega arith) refl c.loop-case.invariant
    ∙ ap (lists.of_cases known) c.deref-case-items.ensures.value
