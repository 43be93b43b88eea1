use Rattle.std.proofs.Common.{ap, sym, ◌∙◌}
use Rattle.nd_value.specs.Tree.{flat}
use Rattle.nd_value.specs.Tree as tree
use Rattle.nd_flat.proofs.RowWalks.{takes_plain}
use Rattle.nd_flat.proofs.plain.PlainWalk.members.Goals as goal

pub invariant_of-self : goal.invariant_of-self
invariant_of-self c =
    let s = c.self.inside in
    let g = takes_plain s.octets.now s.nodes.now c.in_ok-first.first.now c.in_ok-first.rest.now (tree.Rec, c.in_ok-members.members) c.in_ok-first.ensures.cases.0
    (c.in_ok-members.ensures s.octets.now) c.self.invariant in
    g.parts

pub returns-clause-some : goal.returns-clause-some
returns-clause-some c =
    let s = c.self.inside in
    let g = takes_plain s.octets.now s.nodes.now c.in_ok-first.first.now c.in_ok-first.rest.now (tree.Rec, c.in_ok-members.members) c.in_ok-first.ensures.cases.0
    (c.in_ok-members.ensures s.octets.now) c.self.invariant in
    ap flat (sym c.self.view_is) ∙ g.nodes
