use Rattle.std.proofs.Common.{◌∙◌, ◌+◌, ◌++◌, [], ◌∷◌, ap, sym, map, drop, arith}
use Rattle.ndr_code.specs.declared.instr.Instr.TheVariants as op
use Rattle.ndr_plan.specs.Addresses.{place_in}
use Rattle.nd_types.specs.declared.types.Field.{Field}
use Rattle.ndr_plan.proofs.Pushed.{map_more, map_end}
use Rattle.ndr_plan.proofs.type_code.push_calls.Goals as goal

pub loop-at-preserved : goal.loop-at-preserved
loop-at-preserved c =
    let l = c.loop-at in
    let xs = c.args.members.now in
    ap (λ t. t ++ map (λ (f : Field). op.Call (place_in c.args.addresses.now f.of.0)) (drop (l.at + 1) xs)) (c.in_ok-append.ensures.ok ∙ ap (λ r. l.code ++ op.Call r ∷ []) c.place.ensures)
    ∙ map_more (λ (f : Field). op.Call (place_in c.args.addresses.now f.of.0)) xs l.at c.in-Some.member.now l.code c.in-Some.ensures.some ∙ l.invariant

pub returns : goal.returns
returns c =
    let l = c.loop-at in
    sym (map_end (λ (f : Field). op.Call (place_in c.args.addresses.now f.of.0)) c.args.members.now l.at l.code (omega (arith, c.len-at-end.ensures, c.loop-at-test.false))) ∙ l.invariant
