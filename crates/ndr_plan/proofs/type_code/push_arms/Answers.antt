use Rattle.std.proofs.Common.{◌∙◌, ◌+◌, ◌++◌, [], ◌∷◌, ap, sym, map, drop, arith, rules}
use Rattle.std.proofs.lemmas.Int.{to_z-of_z}
use mir.Val.{SFits}
use mir.Syntax.{w128}
use Rattle.ndr_code.specs.declared.instr.Instr.TheVariants as op
use Rattle.ndr_plan.specs.Addresses.{place_in}
use Rattle.nd_types.specs.declared.types.Arm.{Arm}
use Rattle.ndr_code.specs.Code.{arm_run}
use Rattle.ndr_plan.proofs.Pushed.{map_more, map_end}
use Rattle.ndr_plan.proofs.type_code.push_arms.Goals as goal

pub loop-at-preserved : goal.loop-at-preserved
loop-at-preserved c =
    let l = c.loop-at in
    let xs = c.args.arms.now in
    let fits : SFits w128 c.in-Some.arm.now.label = search rules in
    ap (λ t. t ++ map (λ (a : Arm). op.Arm a.label (arm_run (place_in c.args.addresses.now) a.of)) (drop (l.at + 1) xs))
    (c.in_ok-append.ensures.ok ∙ ap (λ z. l.code ++ op.Arm z c.arm_run.result ∷ []) (to_z-of_z w128 _ fits)
    ∙ ap (λ r. l.code ++ op.Arm c.in-Some.arm.now.label r ∷ []) c.arm_run.ensures)
    ∙ map_more (λ (a : Arm). op.Arm a.label (arm_run (place_in c.args.addresses.now) a.of)) xs l.at c.in-Some.arm.now l.code c.in-Some.ensures.some ∙ l.invariant

pub returns : goal.returns
returns c =
    let l = c.loop-at in
    sym (map_end (λ (a : Arm). op.Arm a.label (arm_run (place_in c.args.addresses.now) a.of)) c.args.arms.now l.at l.code (omega (arith, c.len-at-end.ensures, c.loop-at-test.false))) ∙ l.invariant
