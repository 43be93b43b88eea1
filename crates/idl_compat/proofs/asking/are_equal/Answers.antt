use Rattle.std.proofs.Common.{rules, arith, ◌≡◌, ℕ, ◌<◌, length, sym, ◌∙◌}
use Rattle.std.specs.Prelude.{slice_get}
use Rattle.idl_compat.proofs.AskingLaws.{same_lists}
use Rattle.idl_compat.proofs.asking.are_equal.Goals as goal

pub returns-clause-equal : goal.returns-clause-equal
returns-clause-equal c = λ _.
    let many : length c.args.vars.now ≡ length c.args.others.now = search rules in
    let all : (j : ℕ) → j < length c.args.vars.now → slice_get c.args.vars.now j ≡ slice_get c.args.others.now j =
    λ j l. c.loop-at.invariant j (omega (arith, l, c.loop-at.auto.at-end, c.len-at-end.ensures, c.loop-at-test.false)) in
    same_lists c.args.vars.now c.args.others.now many all
