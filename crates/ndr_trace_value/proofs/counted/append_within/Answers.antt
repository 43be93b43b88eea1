use Rattle.std.proofs.Common.{◌≡◌, ◌∙◌, ◌+◌, ◌-◌, suc, ap, sym, arith}
use Rattle.std.specs.Prelude.{option_map}
use Rattle.ndr_trace_value.specs.LastMembers.{last_within}
use Rattle.ndr_trace_value.proofs.LastSteps.{ends_there, one_down}
use Rattle.ndr_trace_value.proofs.counted.append_within.Goals as goal

pub loop-level-init : goal.loop-level-init
loop-level-init c = ap (λ n. last_within n c.args.types.now c.args.of.0 c.args.text.now) (let z : c.args.depth ≡ c.args.depth - 0 = omega arith in z)

pub loop-level-preserved : goal.loop-level-preserved
loop-level-preserved c =
    let low = c.loop-level-test.true in
    let n : c.args.depth - c.loop-level._level ≡ suc (c.args.depth - (c.loop-level._level + 1)) = omega (arith, low) in
    c.loop-level.invariant
    ∙ one_down c.args.types.now (c.args.depth - c.loop-level._level) (c.args.depth - (c.loop-level._level + 1)) c.loop-level.at.0 c.in-Some.last.now c.loop-level.text
    c.append_member.new.text n (sym c.last_in.ensures ∙ ap (option_map (λ f. f.now)) c.in-Some.is) c.in_ok-append_member.ensures

pub returns-in_default : goal.returns-in_default
returns-in_default c =
    sym (c.loop-level.invariant
    ∙ ends_there c.args.types.now (c.args.depth - c.loop-level._level) c.loop-level.at.0 c.loop-level.text
    (sym c.last_in.ensures ∙ ap (option_map (λ f. f.now)) c.in_default.is))

pub returns : goal.returns
returns c =
    let past = c.loop-level-test.false in
    let within = c.loop-level.auto._level-end in
    let none : c.args.depth - c.loop-level._level ≡ 0 = omega (arith, past, within) in
    sym (c.loop-level.invariant ∙ ap (λ n. last_within n c.args.types.now c.loop-level.at.0 c.loop-level.text) none)
