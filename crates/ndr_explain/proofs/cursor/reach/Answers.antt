use Rattle.std.proofs.Common.{◌+◌, ◌<◌, ◌≡◌, Option, subst, arith}
use Rattle.std.specs.Prelude.{IfSome}
use Rattle.ndr_explain.specs.declared.cursor.Cursor.{Cursor}
use Rattle.ndr_explain.proofs.Places.{past_later, reaches_none, reaches_some}
use Rattle.ndr_explain.proofs.cursor.reach.Goals as goal

pub returns-in_default : goal.returns-in_default
returns-in_default c name paths flats a =
    let n = c.loop-cursor.cursor.node in
    past_later paths flats (n + 1) c.args.node (omega arith)
    (reaches_none c.args.types.now name paths flats (n + 1) _ c.in_default.is (c.in_ok-next.ensures.is name paths flats (c.loop-cursor.invariant.here name paths flats a)))

pub returns : goal.returns
returns c name paths flats a = (c.loop-cursor.invariant.here name paths flats a, omega (arith, c.loop-cursor.invariant.within))

pub loop-cursor-preserved : goal.loop-cursor-preserved
loop-cursor-preserved c =
    let n = c.loop-cursor.cursor.node in
    let later : c.in-Some.next.node ≡ n + 1 = subst (λ (r : Option Cursor). IfSome r (λ x. x.node ≡ n + 1)) c.in-Some.is c.in_ok-next.ensures.next in
    let below : n < c.args.node = c.loop-cursor-test.true in
    record {
      within = omega (arith, later, below);
      here = λ name paths flats a. (
          reaches_some c.args.types.now name paths flats (n + 1) c.in_ok-next.field-0 c.in-Some.next c.in-Some.is
          (c.in_ok-next.ensures.is name paths flats (c.loop-cursor.invariant.here name paths flats a))).0;
    }
