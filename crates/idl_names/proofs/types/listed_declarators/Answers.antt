use Rattle.std.proofs.Common.{◌∙◌, ◌+◌, sym, ap, refl, arith, drop}
use Rattle.idl_scope.specs.Kept.{listed}
use Rattle.idl_scope.specs.Known.{walked}
use Rattle.idl_names.proofs.Rests as rests
use Rattle.idl_names.proofs.Walked.{turn, turn_fault, turns_end, told_fault}
use Rattle.idl_names.proofs.types.listed_declarators.Goals as goal

pub loop-declarator-preserved : goal.loop-declarator-preserved
loop-declarator-preserved c =
    let xs = c.args.declarators.now in
    let i = c.loop-declarator.declarator-index in
    let x = c.declarator-item.result in
    record {
      right =
          ap (λ s. walked c.args.file c.args.names.now (rests.listed_from s (drop (i + 1) xs))) c.in_ok-listed_declarator.ensures.more
          ∙ (turn rests.listed_from rests.one_listed rests.after_listed rests.listed_cons c.args.declarators.now c.args.file c.args.names.now c.args.names.now (listed c.loop-declarator.list) i x
          (omega arith) c.declarator-item.is c.in_ok-listed_declarator.ensures.told
          ∙ c.loop-declarator.invariant.right);
      more = rests.names_more xs i x (listed c.loop-declarator.list) (listed c.listed_declarator.new.list) (omega arith) c.declarator-item.is c.in_ok-listed_declarator.ensures.more
          ∙ c.loop-declarator.invariant.more;
    }

pub returns-in_err-listed_declarator-clause-right : goal.returns-in_err-listed_declarator-clause-right
returns-in_err-listed_declarator-clause-right c =
    turn_fault rests.listed_from rests.one_listed rests.after_listed rests.listed_cons c.args.declarators.now c.args.file c.args.names.now c.args.names.now
    (listed c.loop-declarator.list) c.loop-declarator.declarator-index c.declarator-item.result c.from_residual.result c.in_err-listed_declarator.field-0.0
    (walked c.args.file c.args.names.now (rests.listed_from (listed c.args.list.now) c.args.declarators.now)) (omega arith) c.declarator-item.is
    c.loop-declarator.invariant.right
    (told_fault c.from_residual.result c.in_err-listed_declarator.field-0.0 c.from_residual.ensures.1) c.in_err-listed_declarator.ensures.told

pub returns-clause-right : goal.returns-clause-right
returns-clause-right c =
    sym c.loop-declarator.invariant.right
    ∙ turns_end rests.listed_from rests.one_listed rests.after_listed rests.listed_cons c.args.declarators.now c.args.file c.args.names.now
    (listed c.loop-declarator.list) c.loop-declarator.declarator-index (omega arith) refl

pub returns-clause-more : goal.returns-clause-more
returns-clause-more c = sym (rests.names_end c.args.declarators.now c.loop-declarator.declarator-index (listed c.loop-declarator.list) (omega arith)) ∙ c.loop-declarator.invariant.more
