use Rattle.std.proofs.Common.{◌<◌, ◌≤◌, length, map, option_map, ap, sym, ◌∙◌, arith}
use Rattle.std.specs.List.{slice_get}
use Rattle.nd_types.specs.declared.types.Side.{Side}
use Rattle.nd_types.specs.Roots.{named_root, root_value}
use Rattle.nd_value.specs.declared.value.Graph.{Graph}
use Rattle.nd_value.specs.Fitting.{setting_beside}
use Rattle.nd_value.specs.Setting.{Setting, root_list, root_at}
use Rattle.nd_value.specs.Tree.{more, none}
use Rattle.ndr_explain.proofs.HomeNodes.{op_known, fit_is, root_past, root_missing, first_root}
use Rattle.ndr_explain.proofs.located.first_of_root.Goals as goal

pub returns-then-at-root_count-clause-is : goal.returns-then-at-root_count-clause-is
returns-then-at-root_count-clause-is c v s =
    let f = c.args.fit.now in
    let g = f.graph in
    let past : length g.roots ≤ c.args.at =
    (let e = c.if-at-root_count.true in
    let k = c.root_count.ensures in
    let m = ap (λ (h : Graph). length h.roots) c.flat-graph.ensures.graph in
    omega (arith, e, k, m)) in
    root_past v g c.args.at (fit_is c.args.interface.now f v s c.requires.tied c.flat-graph.ensures.conforms) past

pub root_at-requires : goal.root_at-requires
root_at-requires c = op_known c.args.interface.now c.args.fit.now c.op.result c.op.ensures c.requires.tied c.flat-graph.ensures.conforms

pub returns-in_default-clause-is : goal.returns-in_default-clause-is
returns-in_default-clause-is c v s =
    let i = c.args.interface.now in
    let f = c.args.fit.now in
    let side = ap (λ (v : Setting). slice_get (map (named_root v.op) (root_list v)) c.args.at) (ap (λ (d : Side). setting_beside i s.operation d f.given) c.side.ensures ∙ sym s.is) in
    root_missing v f.graph c.args.at (fit_is i f v s c.requires.tied c.flat-graph.ensures.conforms)
    (sym (ap (option_map root_value) c.in_default.is) ∙ c.root_at.ensures s.operation (ap (slice_get i.operations) c.op.ensures ∙ s.is_there) ∙ side)

pub returns-clause-is : goal.returns-clause-is
returns-clause-is c v s =
    let i = c.args.interface.now in
    let f = c.args.fit.now in
    let g = f.graph in
    let same = c.flat-graph.ensures.graph in
    let side = ap (λ (v : Setting). slice_get (map (named_root v.op) (root_list v)) c.args.at) (ap (λ (d : Side). setting_beside i s.operation d f.given) c.side.ensures ∙ sym s.is) in
    let within : c.args.at < length g.roots =
    (let e = c.if-at-root_count.false in
    let k = c.root_count.ensures in
    let m = ap (λ (h : Graph). length h.roots) same in
    omega (arith, e, k, m)) in
    first_root v g c.args.at (root_value c.in-Some.root) c.root_walk.result c.begin.result (fit_is i f v s c.requires.tied c.flat-graph.ensures.conforms) within
    (sym (ap (option_map root_value) c.in-Some.is) ∙ c.root_at.ensures s.operation (ap (slice_get i.operations) c.op.ensures ∙ s.is_there) ∙ side)
    (c.root_walk.ensures ∙ ap (λ (h : Graph). more (root_at h c.args.at) none) same) c.begin.ensures.is
