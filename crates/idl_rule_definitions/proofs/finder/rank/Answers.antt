use Rattle.std.proofs.Common.{refl, sym, ◌∙◌, arith, ap}
use Rattle.idl_scope.specs.Seen.{seen_files}
use Rattle.idl_rule_definitions.proofs.Ranks.{found_at, not_at, nowhere}
use Rattle.idl_rule_definitions.proofs.finder.rank.Goals as goal

pub loop-at-init : goal.loop-at-init
loop-at-init c = omega arith

pub returns-then-is_at : goal.returns-then-is_at
returns-then-is_at c = found_at (seen_files c.args.files.now) c.args.file c.loop-at.at c.loop-at.invariant (sym c.is_at.ensures ∙ c.if-is_at.true)

pub loop-at-preserved : goal.loop-at-preserved
loop-at-preserved c =
    let e = c.len-at-end.ensures in
    not_at (seen_files c.args.files.now) c.args.file c.loop-at.at (omega (arith, e)) c.loop-at.invariant (sym c.is_at.ensures ∙ c.if-is_at.false)

pub returns : goal.returns
returns c =
    let e = c.len-at-end.ensures in
    c.len.ensures ∙ nowhere (seen_files c.args.files.now) c.args.file c.loop-at.at (omega (arith, e)) c.loop-at.invariant
