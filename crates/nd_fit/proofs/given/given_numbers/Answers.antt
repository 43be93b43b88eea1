use Rattle.std.proofs.Common.{◌≡◌, true, subst, sym}
use Rattle.std.proofs.lemmas.Result.{IfOk-weaker}
use Rattle.nd_types.specs.declared.types.Side.TheVariants as side
use Rattle.nd_types.specs.Roots.{named_roots}
use Rattle.nd_value.specs.declared.value.Graph.{Graph}
use Rattle.nd_lemmas.proofs.Lists.{item_at}
use Rattle.nd_misfits.specs.Numbers.{numbers_of, are_small_roots}
use Rattle.nd_fit.proofs.Inputs.{small_inputs}
use Rattle.nd_fit.proofs.given.given_numbers.Goals as goal

pub returns-in-Some-clause-small : goal.returns-in-Some-clause-small
returns-in-Some-clause-small c =
    let i = c.args.interface.now in
    let f = c.in-Some.fit.now in
    let (o, there) = item_at i.operations c.args.op c.requires.known in
    let request = rw c.in-Some.is at c.requires.request in
    let small =
    subst (λ (g : Graph). are_small_roots (numbers_of g (named_roots i.types side.In o) g.roots) ≡ true) (sym c.flat.ensures.graph)
    (small_inputs i c.args.op o f there c.flat.ensures.conforms request) in
    IfOk-weaker c.inputs.result _ _ (λ numbers is. subst (λ ns. are_small_roots ns ≡ true) (sym (is o there)) small) c.inputs.ensures
