use Rattle.std.proofs.Common.{◌≤◌, ◌++◌, length, refl, ap, arith}
use Rattle.nd_value.specs.Fitting.{setting_beside}
use Rattle.ndr_explain.specs.Explained.{explanation_over}
use Rattle.ndr_explain.proofs.Lines.{line_next, lines_over}
use Rattle.ndr_explain.proofs.explaining.explain_over.Goals as goal

pub loop-at-init : goal.loop-at-init
loop-at-init c w s = (ap (λ t. t ++ explanation_over w c.args.fit.now.graph c.args.octets.now c.args.items.now.items) c.new-text.ensures, tt)

pub loop-at-preserved : goal.loop-at-preserved
loop-at-preserved c w s =
    let g = c.args.fit.now.graph in
    let h = c.loop-at.invariant w s in
    let k = c.in_ok-last.ensures w s h.1 in
    (line_next w g c.args.octets.now c.args.items.now.items c.loop-at.at c.in-Some.item.now c.loop-at.text c.append_item.new.text c.in-Some.ensures.some k.0 h.0, k.1)

pub returns : goal.returns
returns c o there =
    let i = c.args.interface.now in
    let f = c.args.fit.now in
    let w = setting_beside i o f.side f.given in
    let xs = c.args.items.now.items in
    let over : length xs ≤ c.loop-at.at = omega arith in
    lines_over w f.graph c.args.octets.now xs c.loop-at.at c.loop-at.text over (c.loop-at.invariant w (record { operation = o; is_there = there; is = refl })).0
