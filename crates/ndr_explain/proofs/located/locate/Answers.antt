use Rattle.std.proofs.Common.{Option, ap, subst}
use Rattle.std.specs.Prelude.{IfOk}
use Rattle.nd_value.specs.declared.item.Home.{Home}
use Rattle.nd_value.specs.Setting.{Setting}
use Rattle.ndr_explain.specs.declared.located.Located.{Located}
use Rattle.ndr_explain.specs.Cursors.{IsLast, IsFound}
use Rattle.ndr_explain.proofs.located.locate.Goals as goal

pub returns-in-Some : goal.returns-in-Some
returns-in-Some c w s last =
    let g = c.args.fit.now.graph in
    subst (λ (h : Home). IfOk c.go_on.result (IsFound w g h c.args.node)) c.in-Some.ensures.same
    (c.go_on.ensures w (ap (λ (v : Setting). v.table) s.is) g (subst (λ (r : Option Located). IsLast w g r) c.in-Some.ensures.is last))

pub returns-in-None : goal.returns-in-None
returns-in-None c w s last = c.start_over.ensures w s
