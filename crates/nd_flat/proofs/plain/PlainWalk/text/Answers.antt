use Rattle.std.proofs.Common.{ap, sym, subst, ◌∙◌, ◌∷◌, List}
use Rattle.nd_value.specs.Tree.{flat}
use Rattle.nd_value.specs.Tree as tree
use Rattle.nd_flat.specs.declared.node.Node.{Node}
use Rattle.nd_flat.specs.FlatForm.{HaveOctets}
use Rattle.nd_flat.proofs.RowWalks.{takes_plain}
use Rattle.nd_flat.proofs.plain.PlainWalk.text.Goals as goal

pub text_in-requires : goal.text_in-requires
text_in-requires c =
    let s = c.self.inside in
    record { within = (subst (λ (ns : List Node). HaveOctets s.octets.now ns) c.in_ok-first.ensures.cases.0 c.self.invariant.texts).0 }

pub invariant_of-self : goal.invariant_of-self
invariant_of-self c =
    let s = c.self.inside in
    let t = c.in_ok-text.text in
    let g = takes_plain s.octets.now s.nodes.now c.in_ok-first.first.now c.in_ok-first.rest.now (tree.Text t.0 t.1.now, 0) c.in_ok-first.ensures.cases.0
    c.in_ok-text.ensures c.self.invariant in
    g.parts

pub returns-clause-some : goal.returns-clause-some
returns-clause-some c =
    let s = c.self.inside in
    let t = c.in_ok-text.text in
    let g = takes_plain s.octets.now s.nodes.now c.in_ok-first.first.now c.in_ok-first.rest.now (tree.Text t.0 t.1.now, 0) c.in_ok-first.ensures.cases.0 c.in_ok-text.ensures c.self.invariant in
    ap flat (sym c.self.view_is) ∙ g.nodes
