use Rattle.std.proofs.Common.{ap, sym, ◌∙◌, ◌∷◌, rules}
use Rattle.std.proofs.lemmas.Int.{to_z-of_z}
use mir.Val.{SFits}
use mir.Syntax.{w128}
use Rattle.nd_value.specs.Tree.{flat, unflat}
use Rattle.nd_flat.specs.FlatForm.{num_flat, flats}
use Rattle.nd_flat.proofs.RowWalks.{takes_plain}
use Rattle.nd_flat.proofs.plain.PlainWalk.number.Goals as goal

pub invariant_of-self : goal.invariant_of-self
invariant_of-self c =
    let s = c.self.inside in
    let g = takes_plain s.octets.now s.nodes.now c.in_ok-first.first.now c.in_ok-first.rest.now (num_flat c.in_ok-number.number) c.in_ok-first.ensures.cases.0
    (c.in_ok-number.ensures s.octets.now) c.self.invariant in
    g.parts

pub returns-clause-some : goal.returns-clause-some
returns-clause-some c =
    let s = c.self.inside in
    let z = c.in_ok-number.number in
    let fits : SFits w128 z = search rules in
    let g = takes_plain s.octets.now s.nodes.now c.in_ok-first.first.now c.in_ok-first.rest.now (num_flat z) c.in_ok-first.ensures.cases.0 (c.in_ok-number.ensures s.octets.now) c.self.invariant in
    ap flat (sym c.self.view_is) ∙ g.nodes
    ∙ ap (λ y. num_flat y ∷ flat (unflat (flats s.octets.now c.in_ok-first.rest.now))) (sym (to_z-of_z w128 z fits))
