use Rattle.std.proofs.Common.{◌∙◌, ◌+◌, ◌++◌, ap, sym, drop, arith, append_assoc}
use Rattle.nd_types.specs.Layout.{hoists}
use Rattle.ndr_code.specs.Code.{whole_run, place_run, type_runs}
use Rattle.ndr_plan.specs.Addresses.{place_in, whole_in}
use Rattle.ndr_plan.proofs.Pushed.{types_more, types_end}
use Rattle.ndr_plan.proofs.making.push_types.Goals as goal

pub loop-at-preserved : goal.loop-at-preserved
loop-at-preserved c =
    let l = c.loop-at in
    let table = c.args.interface.now.types in
    let place = place_in c.args.addresses.now in
    let whole = whole_in c.args.addresses.now in
    let d = c.in-Some.definition.now in
    let own = c.in_ok-push_whole.ensures ∙ ap (λ b. l.code ++ whole_run b c.place.result) c.hoists.ensures ∙ ap (λ r. l.code ++ whole_run (hoists table l.at) r) c.place.ensures in
    ap (λ t. t ++ type_runs place whole table (l.at + 1) (drop (l.at + 1) table))
    (c.in_ok-push_place.ensures ∙ ap (λ t. t ++ place_run place whole table l.at d) own
    ∙ append_assoc l.code (whole_run (hoists table l.at) (place l.at)) (place_run place whole table l.at d))
    ∙ types_more place whole table table l.at d l.code c.in-Some.ensures.some ∙ l.invariant

pub returns : goal.returns
returns c =
    let l = c.loop-at in
    let a = c.args.addresses.now in
    let table = c.args.interface.now.types in
    sym (types_end (place_in a) (whole_in a) table table l.at l.code (omega (arith, c.len-at-end.ensures, c.loop-at-test.false))) ∙ l.invariant
