use Rattle.std.proofs.Common.{◌≡◌, ◌∙◌, ◌<◌, length, get_or}
use Rattle.nd_types.specs.Roots.{root_value}
use Rattle.nd_types.proofs.WalkLaws.{params_left-found}
use Rattle.nd_types.proofs.walk.SideRoots.next_param.Goals as goal

pub returns-in-loop-at : goal.returns-in-loop-at
returns-in-loop-at c =
    let o = c.args.self.now.operation.now in
    let p = c.index-params-at.result in
    let there : c.loop-at.at < length o.params = rw c.as_slice-params.ensures at c.loop-at-test.true in
    let is : p ≡ get_or o.params c.loop-at.at p = rw c.as_slice-params.ensures at c.index-params-at.is in
    c.loop-at.invariant
    ∙ params_left-found c.args.self.now.types.now c.args.self.now.side o c.args.pipes c.loop-at.at p there is
    (root_value c.in-Some.root) c.in-Some.ensures c.if-root-pipes.true
