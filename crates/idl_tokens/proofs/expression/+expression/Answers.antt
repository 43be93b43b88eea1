use Rattle.std.proofs.Common.{◌≡◌, ◌≢◌, ℕ, suc, ◌+◌, ◌-◌, ◌<◌, ◌≤◌, arith, length, sym, ◌∙◌, ap, Ok, true, false}
use Rattle.std.proofs.lemmas.Result.{err_from_is_err_and}
use Rattle.idl_grammar.specs.Text.{symbol_at}
use Rattle.idl_grammar.specs.Expressions.{symbol_level}
use Rattle.idl_grammar.specs.ReadExpressions.{expr_read}
use Rattle.idl_grammar.specs.Seen.{seen_expr}
use Rattle.idl_tokens.proofs.Unfolds.{Behind, level_begins, stops, fails_operation, goes_on}
use Rattle.idl_tokens.proofs.expression.+expression.Goals as goal

pub binary-loop-left-init : goal.binary-loop-left-init
binary-loop-left-init t c = record {
  fuel = suc (length c.args.parser.now);
  enough = omega arith;
  after = c.in_ok-left.ensures.within.0;
  within = c.in_ok-left.ensures.within.1;
  is = level_begins c.args.start c.args.parser.now (expr_read c.args.nesting c.args.inside c.args.start c.args.parser.now false c.args.depth) c.args.rank c.args.at
      (seen_expr c.in_ok-left.left) c.in_ok-left.here (omega arith) c.requires.rank c.in_ok-left.ensures.gives;
}

pub binary-returns-in_err-operation-clause-gives : goal.binary-returns-in_err-operation-clause-gives
binary-returns-in_err-operation-clause-gives t c =
    let p = err_from_is_err_and c.from_residual-in_err-operation.result c.from_residual-in_err-operation.ensures.1 in
    let h : symbol_level (symbol_at c.args.parser.now c.loop-left.here) ≡ 11 - c.args.rank = cc in
    rw (p.1, p.2) (fails_operation c.args.start c.args.parser.now (expr_read c.args.nesting c.args.inside c.args.start c.args.parser.now false c.args.depth) c.args.rank c.args.at
    (seen_expr c.loop-left.left) c.loop-left.here c.loop-left.invariant h c.in_err-operation.field-0.0 c.in_err-operation.ensures.gives)

pub binary-loop-left-smaller : goal.binary-loop-left-smaller
binary-loop-left-smaller t c = omega (arith, c.in_ok-operation.ensures.within)

pub binary-loop-left-preserved : goal.binary-loop-left-preserved
binary-loop-left-preserved t c =
    let h : symbol_level (symbol_at c.args.parser.now c.loop-left.here) ≡ 11 - c.args.rank = cc in
    rw (c.in_ok-new.ensures.ok, c.in_ok-new-2.ensures.ok)
    (goes_on c.args.start c.args.parser.now (expr_read c.args.nesting c.args.inside c.args.start c.args.parser.now false c.args.depth) c.args.rank c.args.at
    (seen_expr c.loop-left.left) c.loop-left.here c.loop-left.invariant h c.in_ok-operation.operation.at c.in_ok-operation.operation.operator
    (seen_expr c.in_ok-operation.operation.right) c.in_ok-operation.next c.in_ok-operation.ensures.gives
    c.in_ok-operation.ensures.within.0 c.in_ok-operation.ensures.within.1)

pub binary-returns-clause-gives : goal.binary-returns-clause-gives
binary-returns-clause-gives t c =
    let h : symbol_level (symbol_at c.args.parser.now c.loop-left.here) ≢ 11 - c.args.rank = λ e. c.loop-left-test.false (cc) in
    stops c.args.start c.args.parser.now (expr_read c.args.nesting c.args.inside c.args.start c.args.parser.now false c.args.depth) c.args.rank c.args.at
    (seen_expr c.loop-left.left) c.loop-left.here c.loop-left.invariant h
