use Rattle.std.proofs.Common.{◌≡◌, Some, slice_get, refl, sym, ap, ◌∙◌, arith}
use Rattle.std.proofs.lemmas.Option.{slice_get_read}
use Rattle.idl_declared_types.proofs.NeededNodes.{reaches_next, reaches_all}
use Rattle.idl_declared_types.proofs.numbering.of_types.Goals as goal

pub loop-at-preserved : goal.loop-at-preserved
loop-at-preserved c known are =
    let node : slice_get c.args.nodes.now.items.items c.loop-at.at ≡ Some c.in-Some-Some.node.now =
    ap (λ l. slice_get l c.loop-at.at) (sym c.deref.ensures.value)
    ∙ slice_get_read c.deref.result.now _ c.loop-at.at c.in-Some-Some.node.now refl c.in-Some-Some.ensures.lookup.3.0 c.in-Some-Some.ensures.lookup.1 in
    let typed : slice_get c.args.types.now.typed.items c.loop-at.at ≡ Some c.in-Some-Some.typed.now =
    ap (λ l. slice_get l c.loop-at.at) (sym c.deref-in-loop-at.ensures.value)
    ∙ slice_get_read c.deref-in-loop-at.result.now _ c.loop-at.at c.in-Some-Some.typed.now refl c.in-Some-Some.ensures'.lookup.3.0 c.in-Some-Some.ensures'.lookup.1 in
    reaches_next known c.args.nodes.now c.args.types.now c.loop-at.at _ _ c.loop-at.numbers c.need_by.new.self are node typed c.in_ok-need_by.ensures (c.loop-at.invariant known are)

pub returns : goal.returns
returns c known are =
    reaches_all known c.args.nodes.now c.args.types.now.kinds c.loop-at.at c.loop-at.numbers (omega (arith, c.loop-at-test.false, c.len-at-end.ensures)) (c.loop-at.invariant known are)
