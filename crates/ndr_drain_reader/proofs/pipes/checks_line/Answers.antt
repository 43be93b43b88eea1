use Rattle.std.proofs.Common.{◌≤◌, ◌+◌, length, ap, sym, ◌∙◌, subst, arith}
use Rattle.nd_types.specs.Roots.{roots_of}
use Rattle.nd_value.specs.Deferral.{before_pipes}
use Rattle.ndr_drain_reader.proofs.SidePipes.{checks_found, checks_passed, checks_there, up_begins}
use Rattle.ndr_drain_reader.proofs.pipes.checks_line.Goals as goal

pub loop-number-init : goal.loop-number-init
loop-number-init c = λ o there. up_begins c.args.plan.now c.args.op c.args.side o there c.args.first (c.requires.first o there)

pub returns-then-is_checks-clause-at : goal.returns-then-is_checks-clause-at
returns-then-is_checks-clause-at c o there =
    checks_found c.args.plan.now c.args.op c.args.side c.as_slice-lines.result.now c.loop-number.number c.index-lines-number.result c.is_checks.result c.as_slice-lines.ensures c.loop-number-test.true
    c.index-lines-number.is c.is_checks.ensures c.if-is_checks.true c.loop-number.invariant o there
    ∙ ap (λ k. k + before_pipes (roots_of c.args.plan.now.tie.types c.args.side o)) (sym (c.requires.first o there))

pub loop-number-preserved : goal.loop-number-preserved
loop-number-preserved c =
    checks_passed c.args.plan.now c.args.op c.args.side c.as_slice-lines.result.now c.loop-number.number c.index-lines-number.result c.is_checks.result c.as_slice-lines.ensures c.loop-number-test.true
    c.index-lines-number.is c.is_checks.ensures c.if-is_checks.false c.loop-number.invariant

pub unreachable-requires : goal.unreachable-requires
unreachable-requires c =
    checks_there c.args.plan.now c.args.op c.args.side c.loop-number.number c.requires.known c.loop-number.invariant
    (subst (λ ls. length ls ≤ c.loop-number.number) c.as_slice-lines.ensures (let past = c.loop-number-test.false in omega (arith, past)))
