use mir.Val.{SFits}
use mir.Syntax.{w128}
use Rattle.std.proofs.Common.{rules, ◌≡◌, ℤ, Bool, false, [], ap, sym, ◌∙◌, arith}
use Rattle.std.proofs.lemmas.Int.{to_z-of_z}
use Rattle.std.specs.Prelude.{if◌then◌else◌}
use Rattle.std.specs.Ordering.{int_eq}
use Rattle.ndr_decoder_laws.specs.steps.StepItems.{tag_items}
use Rattle.ndr_decoder_laws.specs.steps.Steps.{State}
use Rattle.ndr_decoder_state.specs.Seen.{state_of}
use Rattle.ndr_decoder_state.specs.Notes.{all_noted, ticks}
use Rattle.ndr_decoder_value.proofs.Noting.{same_cells}
use Rattle.nd_lemmas.proofs.Integers.{other_from as other_number}
use Rattle.ndr_decoder_value.proofs.steps.try_arm.Goals as goal

pub returns-then-label-machine-clause-noted : goal.returns-then-label-machine-clause-noted
returns-then-label-machine-clause-noted g c =
    let m = c.args.machine.now in
    let tagged = tag_items m.home (state_of m) in
    let fits : SFits w128 c.args.label = search rules in
    let other : int_eq c.args.label m.tag ≡ false =
    ap (λ (z : ℤ). int_eq z m.tag) (sym (to_z-of_z w128 c.args.label fits)) ∙ other_number c.args.label m.tag fits c.if-label-machine.true in
    let none : ticks (if int_eq c.args.label m.tag then tagged else []) ≡ 0 = ap (λ (b : Bool). ticks (if b then tagged else [])) other in
    let cells = same_cells m c.skip.new.self (ap (λ (s : State). s.cells) c.skip.ensures.is) in
    (sym (ap (λ (b : Bool). all_noted (if b then tagged else []) c.args.items.now) other), omega (arith, none, cells))
