use Rattle.std.proofs.Common.{◌≡◌, ◌+◌, ◌∷◌, [], ◌++◌, arith, sym, subst}
use Rattle.ndr_encoder_output.specs.Structs.{members_of, HasBegun}
use Rattle.ndr_encoder_output.proofs.Following.{is_struct, one_more}
use Rattle.ndr_encoder_output.proofs.members.struct_of.Goals as goal

pub returns-then-ends : goal.returns-then-ends
returns-then-ends c =
    let few : c.loop-turn.of.count ≡ c.loop-turn._turn = c.loop-turn.invariant.count in
    let turns = c.loop-turn-test.true in
    is_struct c.args.code.now c.args.start c.loop-turn.at c.loop-turn.of c.loop-turn.invariant.begun (c.ends.ensures c.if-ends.true) c.loop-turn.invariant.whole (omega (arith, few, turns))

pub loop-turn-preserved : goal.loop-turn-preserved
loop-turn-preserved c =
    let few : c.loop-turn.of.count ≡ c.loop-turn._turn = c.loop-turn.invariant.count in
    let more = c.with-of.ensures.count in
    let begun : HasBegun c.args.code.now c.args.start (c.loop-turn.at + 1) c.loop-turn.of.align (members_of c.loop-turn.of ++ c.in-Some-member_at.member ∷ []) =
    one_more c.args.code.now c.args.start c.loop-turn.at c.loop-turn.of.align (members_of c.loop-turn.of) c.in-Some-member_at.member c.loop-turn.invariant.begun c.in-Some-member_at.ensures.member in
    record {
      begun =
          subst (λ xs. HasBegun c.args.code.now c.args.start (c.loop-turn.at + 1) c.with-of.result.align xs) (sym c.with-of.ensures.members)
          (subst (λ a. HasBegun c.args.code.now c.args.start (c.loop-turn.at + 1) a (members_of c.loop-turn.of ++ c.in-Some-member_at.member ∷ [])) (sym c.with-of.ensures.align) begun);
      whole = c.with-of.ensures.whole;
      count = omega (arith, few, more);
    }

pub returns-then-ends-2 : goal.returns-then-ends-2
returns-then-ends-2 c =
    let few : c.loop-turn.of.count ≡ c.loop-turn._turn = c.loop-turn.invariant.count in
    let turns = c.loop-turn.auto._turn-end in
    is_struct c.args.code.now c.args.start c.loop-turn.at c.loop-turn.of c.loop-turn.invariant.begun (c.ends-2.ensures c.if-ends-2.true) c.loop-turn.invariant.whole (omega (arith, few, turns))
