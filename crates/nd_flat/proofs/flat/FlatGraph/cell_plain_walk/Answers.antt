use Rattle.std.proofs.Common.{ap, ap₂, ◌∙◌, ◌+◌, ◌-◌, ◌<◌, suc, subst, sym, refl, take, drop, length, List, ℕ}
use Rattle.nd_value.specs.declared.value.Graph.{Graph}
use Rattle.nd_value.specs.Setting.{cell_at, cell_home}
use Rattle.nd_value.specs.Tree.{unflat, more, none}
use Rattle.nd_flat.specs.declared.node.Node.{Node}
use Rattle.nd_flat.specs.FlatForm.{WalkParts, flats, no_row}
use Rattle.nd_flat.specs.Records.{no_records}
use Rattle.nd_flat.specs.Store.{HasSpan, seen_graph}
use Rattle.nd_flat.proofs.Kept.{walk_parts, walk_seen, has_span, part_is, place_span, cell_there}
use Rattle.nd_flat.proofs.flat.FlatGraph.cell_plain_walk.Goals as goal

pub over-requires : goal.over-requires
over-requires c =
    let s = c.self.inside in
    let h = cell_home (suc c.args.at) in
    let there : HasSpan s.roots.items s.cells.items h =
    has_span s.octets s.nodes.items s.roots.items s.cells.items h
    (cell_there c.args.at (seen_graph s.octets s.nodes.items s.roots.items s.cells.items) (subst (λ (g : Graph). c.args.at < length g.cells) (sym c.self.view_is) c.requires)) in
    let e = part_is s.nodes.items s.roots.items s.cells.items h c.as_slice-nodes.result.now s.roots.items c.as_slice.result.now c.cell_span-span.result
    c.as_slice-nodes.ensures.value refl c.as_slice.ensures.value (c.cell_span-span.ensures ∙ place_span s.roots.items c.as_slice.result.now c.args.at) in
    subst (λ (os : List ℕ). WalkParts os no_row no_records
    (take (c.cell_span-span.result.from + c.cell_span-span.result.len - c.cell_span-span.result.from) (drop c.cell_span-span.result.from c.as_slice-nodes.result.now))) (sym c.as_slice-2.ensures)
    (subst (λ (ns : List Node). WalkParts s.octets no_row no_records ns) (sym e) (walk_parts s.octets s.nodes.items s.roots.items s.cells.items h c.self.invariant there))

pub returns : goal.returns
returns c =
    let s = c.self.inside in
    let h = cell_home (suc c.args.at) in
    let there : HasSpan s.roots.items s.cells.items h =
    has_span s.octets s.nodes.items s.roots.items s.cells.items h
    (cell_there c.args.at (seen_graph s.octets s.nodes.items s.roots.items s.cells.items) (subst (λ (g : Graph). c.args.at < length g.cells) (sym c.self.view_is) c.requires)) in
    let e = part_is s.nodes.items s.roots.items s.cells.items h c.as_slice-nodes.result.now s.roots.items c.as_slice.result.now c.cell_span-span.result
    c.as_slice-nodes.ensures.value refl c.as_slice.ensures.value (c.cell_span-span.ensures ∙ place_span s.roots.items c.as_slice.result.now c.args.at) in
    c.over.ensures
    ∙ ap₂ (λ (os : List ℕ) (ns : List Node). unflat (flats os ns)) c.as_slice-2.ensures e
    ∙ walk_seen s.octets s.nodes.items s.roots.items s.cells.items h c.self.invariant there
    ∙ ap (λ (g : Graph). more (cell_at g (suc c.args.at)) none) c.self.view_is
