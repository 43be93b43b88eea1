use Rattle.std.proofs.Common.{◌≡◌, ◌∙◌, length, refl, sym, ap, rules}
use Rattle.ndr_code.specs.declared.instr.Instr.TheVariants as op
use Rattle.ndr_decoder_laws.specs.steps.Steps.{done_after}
use Rattle.ndr_decoder_state.specs.Seen.{state_of}
use Rattle.ndr_decoder_fast.proofs.OneStep.{nothing_taken, gap_taken}
use Rattle.ndr_decoder_fast.proofs.alone.take_gap.Goals as goal

pub returns-then-gap-gt-MOST-clause-takes : goal.returns-then-gap-gt-MOST-clause-takes
returns-then-gap-gt-MOST-clause-takes g c order steps =
    nothing_taken order (g.S.Source.seen c.args.source.now).left (g.S.Source.seen c.args.source.now).left (g.S.Source.seen c.args.source.now).ended (g.S.Source.seen c.args.source.now).faults
    (g.S.Source.seen c.args.source.now).faults steps steps (state_of c.args.machine.now) (state_of c.args.machine.now) (op.Align c.args.to) refl refl refl

pub returns-then-not-at_hand-clause-takes : goal.returns-then-not-at_hand-clause-takes
returns-then-not-at_hand-clause-takes g c order steps =
    nothing_taken order (g.S.Source.seen c.args.source.now).left (g.S.Source.seen c.at_hand.new.source).left (g.S.Source.seen c.at_hand.new.source).ended (g.S.Source.seen c.args.source.now).faults
    (g.S.Source.seen c.at_hand.new.source).faults steps steps (state_of c.args.machine.now) (state_of c.args.machine.now) (op.Align c.args.to) refl (c.if-not-at_hand.ensures.nothing refl) refl

pub returns-clause-takes : goal.returns-clause-takes
returns-clause-takes g c order steps =
    let m = c.args.machine.now in
    let size : length c.at_hand.new.octets ≡ c.gap_to-gap.result = search rules in
    gap_taken order (g.S.Source.seen c.args.source.now).left (g.S.Source.seen c.at_hand.new.source).left (g.S.Source.seen c.at_hand.new.source).ended (g.S.Source.seen c.args.source.now).faults
    (g.S.Source.seen c.at_hand.new.source).faults steps steps (state_of m) (state_of c.pass.new.self) c.args.to c.at_hand.new.octets (c.if-not-at_hand.ensures.came refl)
    (size ∙ c.gap_to-gap.ensures.is) (c.pass.ensures.is ∙ ap (λ k. done_after k (state_of m)) (sym size)) refl
