use Rattle.std.proofs.Common.{◌≡◌, length, ◌∙◌, ap, ◌++◌, ◌∷◌, [], rules}
use Rattle.idl_cycles.proofs.GraphRows.{rows_stay, rows_more}
use Rattle.idl_cycles.proofs.graph.Graph.push.Goals as goal

pub returns-in_default-clause-err : goal.returns-in_default-clause-err
returns-in_default-clause-err c =
    rows_stay c.self.inside.parts.items c.args.parts.now _ c.self.inside.spans.items _ c.in_ok-extend_from_slice.ensures.items c.in_default.ensures.items c.self.invariant ∙ c.self.view_is

pub returns-clause-ok : goal.returns-clause-ok
returns-clause-ok c =
    let start : c.len-start.result ≡ length c.self.inside.parts.items = search rules in
    let end : c.len-end.result ≡ length c.extend_from_slice.new.self.items = search rules in
    rows_more c.self.inside.parts.items c.args.parts.now _ c.self.inside.spans.items _ _ c.in_ok-extend_from_slice.ensures.items c.in-Ok.ensures.items start end c.self.invariant
    ∙ ap (λ g. g ++ c.args.parts.now ∷ []) c.self.view_is
