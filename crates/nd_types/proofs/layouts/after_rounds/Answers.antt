use Rattle.std.proofs.Common.{◌∙◌, ap, sym}
use Rattle.std.proofs.Math.Numerals.{add-one}
use Rattle.nd_types.specs.Rounds.{round, layouts_after}
use Rattle.nd_types.proofs.Rounds.{stopped}
use Rattle.nd_types.proofs.layouts.after_rounds.Goals as goal

pub loop-round-preserved : goal.loop-round-preserved
loop-round-preserved c =
    c.in_ok-next.ensures ∙ ap (round c.args.types.now) (c.deref.ensures.value ∙ c.loop-round.invariant)
    ∙ ap (λ k. layouts_after k c.args.types.now) (sym (add-one c.loop-round._round))

pub returns-then-are_equal : goal.returns-then-are_equal
returns-then-are_equal c =
    let same = sym c.deref-in-loop-round.ensures.value ∙ c.are_equal.ensures c.if-are_equal.true ∙ c.deref-in-loop-round-2.ensures.value in
    let made = c.in_ok-next.ensures ∙ ap (round c.args.types.now) c.deref.ensures.value in
    stopped c.args.types.now c.loop-round._round c.args.rounds c.loop-round.layouts.items c.loop-round.invariant (sym made ∙ same)
    c.loop-round.auto._round-end
