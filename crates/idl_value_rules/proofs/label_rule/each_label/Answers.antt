use Rattle.std.proofs.Common.{◌∙◌, ap, sym, refl, arith}
use Rattle.idl_scope.specs.Seen.{seen_files}
use Rattle.idl_constructs.specs.SeenNodes.{seen_construct}
use Rattle.idl_declared_types.specs.LabelValues.{is_among}
use Rattle.idl_value_rules.specs.AcceptedLabels.{accepts}
use Rattle.idl_declared_types.proofs.LabelTags.{holds_copy, values_before, copy_noted, no_label_left}
use Rattle.idl_value_rules.proofs.label_rule.each_label.Goals as goal

pub loop-one-init : goal.loop-one-init
loop-one-init c = (refl, (λ v. ap (is_among v) c.new-before.ensures), (λ w files. refl))

pub returns-in_err-label-clause-files : goal.returns-in_err-label-clause-files
returns-in_err-label-clause-files c = c.label.ensures.files ∙ c.loop-one.invariant.0

pub loop-one-preserved : goal.loop-one-preserved
loop-one-preserved c =
    let xs = c.args.list.now in
    let i = c.loop-one.one-index in (
      c.in_ok-label.ensures.files ∙ c.loop-one.invariant.0,
      holds_copy (λ v. v.value) xs i _ c.label.new.before c.loop-one-test.true (c.in_ok-label.ensures.holds (values_before xs i) c.loop-one.invariant.1),
      (λ w files. copy_noted w (accepts c.args.accepted.now) (seen_construct c.args.construct.now) xs i _ _ _ _ c.loop-one-test.true
          (c.in_ok-label.ensures.first w (values_before xs i) (files ∙ ap seen_files (sym c.loop-one.invariant.0)) c.loop-one.invariant.1)
          (c.loop-one.invariant.2 w files)),
    )

pub returns-clause-files : goal.returns-clause-files
returns-clause-files c = c.loop-one.invariant.0

pub returns-clause-first : goal.returns-clause-first
returns-clause-first c w files =
    no_label_left w (accepts c.args.accepted.now) (seen_construct c.args.construct.now) c.args.list.now c.loop-one.one-index _ _ (omega arith) (c.loop-one.invariant.2 w files)
