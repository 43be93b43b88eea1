use Rattle.std.proofs.Common.{rules, ◌≡◌, ◌-◌, ◌<◌, ◌++◌, Some, drop, ap, ◌∙◌}
use Rattle.std.specs.Prelude.{slice_get}
use Rattle.idl_compat_place.specs.Differences.{child_of}
use Rattle.idl_compat_place.specs.Lines.{found, step_text, path_text}
use Rattle.idl_compat_place.proofs.Paths.{path_turn, led_turn}
use Rattle.idl_compat_place.proofs.lines.path_text.Goals as goal

pub loop-at-preserved : goal.loop-at-preserved
loop-at-preserved c =
    let l = c.loop-at in
    let types = c.args.types.now in
    let n = c.in-Some.step.now in
    let some : 0 < l.at = search rules in
    let is : slice_get c.args.steps.now (l.at - 1) ≡ Some n = search rules in
    let written : c.append.new.self ≡ l.text ++ step_text (found types l.of) n = search rules in
    let leads : c.step_type-of.result ≡ child_of (found types l.of) n = search rules in (
      path_turn types c.args.of l.of c.args.steps.now l.at n some is l.text c.append.new.self l.invariant.0 l.invariant.1 written,
      led_turn types c.args.of l.of c.args.steps.now l.at n some is c.step_type-of.result l.invariant.1 leads,
    )

pub returns : goal.returns
returns c =
    let l = c.loop-at in
    let zero : l.at ≡ 0 = search rules in
    l.invariant.0 ∙ ap (λ i. path_text c.args.types.now c.args.of (drop i c.args.steps.now)) zero
