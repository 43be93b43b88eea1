use Rattle.std.proofs.Common.{◌≤◌, ◌<◌, ◌∙◌, ◌∷◌, [], List, length, map, ap, sym, arith}
use Rattle.std.proofs.lemmas.List.{length-map}
use Rattle.ndr_decoder_laws.specs.steps.Steps as steps
use Rattle.ndr_decoder_laws.specs.steps.Steps.{goes, next, with_fresh}
use Rattle.ndr_decoder_state.specs.Seen.{state_of, agreement_of, owed_of}
use Rattle.ndr_decoder_value.proofs.Pending.{all_within, still_within, joined_past, joined_there}
use Rattle.ndr_decoder_value.proofs.checks.join.Goals as goal

pub returns-then-pending-as_slice-clause-does : goal.returns-then-pending-as_slice-clause-does
returns-then-pending-as_slice-clause-does c =
    let m = c.args.machine.now in
    let past : length (map (owed_of m.wanted.items) m.fresh.items) ≤ c.args.pending =
    omega (arith, length-map m.fresh.items (owed_of m.wanted.items), ap length c.as_slice.ensures.value, c.if-pending-as_slice.true) in
    ap (λ (l : List steps.Owed). goes (next (with_fresh l (state_of m))))
    (joined_past (agreement_of c.args.wanted ∷ []) (map (owed_of m.wanted.items) m.fresh.items) c.args.pending past)
    ∙ ap goes (sym c.skip.ensures.is)

pub invariant_of-machine : goal.invariant_of-machine
invariant_of-machine c = record {
  keepable = c.args.machine.now.keepable;
  small = c.args.machine.now.small;
  spans = all_within c.args.machine.now.wanted.items c.with_one.new.kept.items c.args.machine.now.fresh.items c.in_err-joined.ensures.grown c.args.machine.now.spans;
  counted = c.args.machine.now.counted;
  numbered = c.args.machine.now.numbered;
}

pub invariant_of-machine-2 : goal.invariant_of-machine-2
invariant_of-machine-2 c =
    let m = c.args.machine.now in
    record {
      keepable = m.keepable;
      small = m.small;
      spans =
          still_within m.wanted.items c.with_one.new.kept.items m.fresh.items c.args.pending c.in_ok-joined.joined c.in_ok-joined.ensures.grown m.spans
          c.in_ok-joined.ensures.inside;
      counted = m.counted;
      numbered = m.numbered;
    }

pub returns-clause-does : goal.returns-clause-does
returns-clause-does c =
    let m = c.args.machine.now in
    let there : c.args.pending < length m.fresh.items = omega (arith, ap length c.as_slice.ensures.value, c.if-pending-as_slice.false) in
    ap (λ (l : List steps.Owed). goes (next (with_fresh l (state_of m))))
    (sym (joined_there m.wanted.items c.with_one.new.kept.items c.args.wanted m.fresh.items c.args.pending c.index-owed.result.now c.in_ok-joined.joined
    c.in_ok-joined.ensures.grown m.spans there c.index-owed.ensures c.in_ok-joined.ensures.is))
    ∙ ap goes (sym c.skip-2.ensures.is)
