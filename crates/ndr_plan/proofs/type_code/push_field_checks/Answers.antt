use Rattle.std.proofs.Common.{◌∙◌, ◌+◌, ◌++◌, ap, sym, map, drop, arith}
use Rattle.ndr_code.specs.declared.instr.Instr.TheVariants as op
use Rattle.nd_types.specs.declared.types.AttrVar.{AttrVar}
use Rattle.ndr_plan.proofs.Pushed.{map_more, map_end}
use Rattle.ndr_plan.proofs.type_code.push_field_checks.Goals as goal

pub loop-at-preserved : goal.loop-at-preserved
loop-at-preserved c =
    let l = c.loop-at in
    let xs = c.args.vars.now in
    ap (λ t. t ++ map (λ (a : AttrVar). op.Check a.attr c.args.field a.var a.star) (drop (l.at + 1) xs)) (c.in_ok-append.ensures.ok)
    ∙ map_more (λ (a : AttrVar). op.Check a.attr c.args.field a.var a.star) xs l.at c.in-Some.var.now l.code c.in-Some.ensures.some ∙ l.invariant

pub returns : goal.returns
returns c =
    let l = c.loop-at in
    sym (map_end (λ (a : AttrVar). op.Check a.attr c.args.field a.var a.star) c.args.vars.now l.at l.code (omega (arith, c.len-at-end.ensures, c.loop-at-test.false))) ∙ l.invariant
