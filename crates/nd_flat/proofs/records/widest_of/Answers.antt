use Rattle.std.proofs.Common.{sym, subst, ◌<◌, ◌≤◌, length, arith}
use Rattle.nd_flat.proofs.RecordLaws.{widest_last, widest_some, widest_most}
use Rattle.nd_flat.proofs.records.widest_of.Goals as goal

pub returns-clause-some : goal.returns-clause-some
returns-clause-some c =
    let over : length c.args.prims.now ≤ c.loop-prim.prim-index = let h = c.loop-prim-test.false in omega (arith, h) in
    subst (λ n. 0 < n) (sym (widest_last c.args.prims.now c.loop-prim.prim-index c.loop-prim.widest over c.loop-prim.invariant)) (widest_some c.args.prims.now)

pub returns-clause-most : goal.returns-clause-most
returns-clause-most c =
    let over : length c.args.prims.now ≤ c.loop-prim.prim-index = let h = c.loop-prim-test.false in omega (arith, h) in
    subst (λ n. n ≤ 8) (sym (widest_last c.args.prims.now c.loop-prim.prim-index c.loop-prim.widest over c.loop-prim.invariant)) (widest_most c.args.prims.now)
