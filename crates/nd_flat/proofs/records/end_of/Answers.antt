use Rattle.std.proofs.Common.{sym, subst, ◌<◌, ◌≤◌, ◌+◌, ◌^◌, length, arith}
use Rattle.nd_flat.proofs.RecordLaws.{end_last, end_below}
use Rattle.nd_flat.proofs.records.end_of.Goals as goal

pub returns-clause-few : goal.returns-clause-few
returns-clause-few c =
    let over : length c.args.prims.now ≤ c.loop-prim.prim-index = let h = c.loop-prim-test.false in omega (arith, h) in
    subst (λ n. n < 2 ^ 12 + 1) (sym (end_last c.args.prims.now c.loop-prim.prim-index c.loop-prim.end over c.loop-prim.invariant)) (end_below c.args.prims.now c.requires.few)
