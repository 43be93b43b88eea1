use Rattle.std.proofs.Common.{◌≡◌, ◌∙◌, ◌+◌, ◌-◌, suc, ap, sym, arith}
use Rattle.std.specs.Prelude.{option_map}
use Rattle.ndr_trace_value.specs.LastMembers.{variable_within}
use Rattle.ndr_trace_value.proofs.LastVariables.{no_last, no_struct, variable_down, variable_found}
use Rattle.ndr_trace_value.proofs.counted.variable_within.Goals as goal

pub loop-level-init : goal.loop-level-init
loop-level-init c =
    ap (λ n. variable_within n c.args.types.now c.args.of.0 c.args.path.now) (let z : c.args.depth ≡ c.args.depth - 0 = omega arith in z)
    ∙ ap (variable_within (c.args.depth - 0) c.args.types.now c.args.of.0) (sym c.in_ok-text.ensures)

pub loop-level-preserved : goal.loop-level-preserved
loop-level-preserved c =
    let low = c.loop-level-test.true in
    let n : c.args.depth - c.loop-level._level ≡ suc (c.args.depth - (c.loop-level._level + 1)) = omega (arith, low) in
    c.loop-level.invariant
    ∙ variable_down c.args.types.now (c.args.depth - c.loop-level._level) (c.args.depth - (c.loop-level._level + 1)) c.loop-level.at.0 c.in-Some.members.now
    c.in-Some-last_of.last.now c.loop-level.text c.append_member.new.text n (sym c.members_in.ensures ∙ ap (option_map (λ m. m.now)) c.in-Some.is)
    (sym c.last_of.ensures ∙ ap (option_map (λ f. f.now)) c.in-Some-last_of.is) (sym c.attribute.ensures ∙ c.in_default-attribute.is) c.in_ok-append_member.ensures

pub returns-in_default : goal.returns-in_default
returns-in_default c =
    c.new.ensures
    ∙ sym (c.loop-level.invariant
    ∙ no_struct c.args.types.now (c.args.depth - c.loop-level._level) c.loop-level.at.0 c.loop-level.text
    (sym c.members_in.ensures ∙ ap (option_map (λ m. m.now)) c.in_default.is))

pub returns-in_default-last_of : goal.returns-in_default-last_of
returns-in_default-last_of c =
    c.new-in_default-last_of.ensures
    ∙ sym (c.loop-level.invariant
    ∙ no_last c.args.types.now (c.args.depth - c.loop-level._level) c.loop-level.at.0 c.in-Some.members.now c.loop-level.text
    (sym c.members_in.ensures ∙ ap (option_map (λ m. m.now)) c.in-Some.is) (sym c.last_of.ensures ∙ ap (option_map (λ f. f.now)) c.in_default-last_of.is))

pub returns-in-Some-attribute : goal.returns-in-Some-attribute
returns-in-Some-attribute c =
    let low = c.loop-level-test.true in
    let n : c.args.depth - c.loop-level._level ≡ suc (c.args.depth - (c.loop-level._level + 1)) = omega (arith, low) in
    sym (c.loop-level.invariant
    ∙ variable_found c.args.types.now (c.args.depth - c.loop-level._level) (c.args.depth - (c.loop-level._level + 1)) c.loop-level.at.0 c.in-Some.members.now
    c.in-Some-last_of.last.now c.in-Some-attribute.by c.loop-level.text c.append_numbered.new.text n
    (sym c.members_in.ensures ∙ ap (option_map (λ m. m.now)) c.in-Some.is) (sym c.last_of.ensures ∙ ap (option_map (λ f. f.now)) c.in-Some-last_of.is)
    (sym c.attribute.ensures ∙ c.in-Some-attribute.is) c.in_ok-append_numbered.ensures)

pub returns : goal.returns
returns c =
    c.new-2.ensures
    ∙ sym (c.loop-level.invariant
    ∙ ap (λ n. variable_within n c.args.types.now c.loop-level.at.0 c.loop-level.text)
    (let over = c.loop-level-test.false in let z : c.args.depth - c.loop-level._level ≡ 0 = omega (arith, over) in z))
