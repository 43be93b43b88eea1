use Rattle.std.proofs.Common.{◌∙◌, List, [], ◌∷◌, ◌++◌, ap, arith}
use Rattle.std.proofs.lemmas.Result.{err_from_is_err_and}
use Rattle.nd_value.specs.Tree.{Tree}
use Rattle.nd_value.specs.Seen.{tree_of}
use Rattle.text_parser.proofs.ListParts.{halts_at_first, first_came, next_halts, one_came}
use Rattle.text_parser.proofs.values.numerals.Goals as goal

pub returns-in_err-val-clause-err : goal.returns-in_err-val-clause-err
returns-in_err-val-clause-err c =
    let p = err_from_is_err_and c.from_residual.result c.from_residual.ensures.1 in
    rw (p.1, p.2)
    (λ ns. halts_at_first c.args.under.version c.args.under.types.now c.args.elem.0 c.args.text.now c.requires.more ns c.in_err-val.field-0.0
    (c.in_err-val.ensures.err c.args.elem.0 ns c.requires.numbers))

pub loop-next-init : goal.loop-next-init
loop-next-init c =
    λ ns. first_came c.args.under.version c.args.under.types.now c.args.elem.0 ns ns c.args.text.now c.in_ok-val.after.now c.push.new.self
    (tree_of c.in_ok-val.val) c.requires.more (c.in-Ok.ensures.ok ∙ ap (λ (l : List Tree). l ++ tree_of c.in_ok-val.val ∷ []) c.new-vals.ensures)
    (c.in_ok-val.ensures.ok c.args.elem.0 ns c.requires.numbers)

pub returns-in_err-val-2-clause-err : goal.returns-in_err-val-2-clause-err
returns-in_err-val-2-clause-err c =
    let p = err_from_is_err_and c.from_residual-in_err-val-2.result c.from_residual-in_err-val-2.ensures.1 in
    rw (p.1, p.2)
    (λ ns. next_halts c.args.under.version c.args.under.types.now c.args.elem.0 ns ns c.args.text.now c.loop-next.rest.now c.in-Some.next.now c.loop-next.vals
    (c.loop-next.invariant ns) c.in-Some.ensures.some c.in_err-val-2.field-0.0 (c.in_err-val-2.ensures.err c.args.elem.0 ns c.requires.numbers))

pub loop-next-preserved : goal.loop-next-preserved
loop-next-preserved c =
    λ ns. one_came c.args.under.version c.args.under.types.now c.args.elem.0 ns ns c.args.text.now c.loop-next.rest.now c.in-Some.next.now c.loop-next.vals
    (c.loop-next.invariant ns) c.in-Some.ensures.some ns c.in_ok-val-2.after.now c.push-in-Some.new.self
    (tree_of c.in_ok-val-2.val) (c.in_ok-val-2.ensures.ok c.args.elem.0 ns c.requires.numbers) c.in-Ok-push.ensures.ok

pub loop-next-smaller : goal.loop-next-smaller
loop-next-smaller c =
    omega (arith, c.in-Some.ensures.less, (c.in_ok-val-2.ensures.ok c.args.elem.0 [] c.requires.numbers).few)
