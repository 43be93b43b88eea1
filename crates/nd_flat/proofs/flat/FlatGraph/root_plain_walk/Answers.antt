use Rattle.std.proofs.Common.{ap, ap₂, ◌∙◌, ◌+◌, ◌-◌, ◌<◌, subst, sym, refl, take, drop, length, List, ℕ}
use Rattle.nd_value.specs.declared.value.Graph.{Graph}
use Rattle.nd_value.specs.declared.item.Home.TheVariants as home
use Rattle.nd_value.specs.Setting.{root_at}
use Rattle.nd_value.specs.Tree.{unflat, more, none}
use Rattle.nd_flat.specs.declared.node.Node.{Node}
use Rattle.nd_flat.specs.FlatForm.{WalkParts, flats, no_row}
use Rattle.nd_flat.specs.Records.{no_records}
use Rattle.nd_flat.specs.Store.{HasSpan}
use Rattle.nd_flat.proofs.Kept.{walk_parts, walk_seen, has_span, part_is}
use Rattle.nd_flat.proofs.flat.FlatGraph.root_plain_walk.Goals as goal

pub over-requires : goal.over-requires
over-requires c =
    let s = c.self.inside in
    let h = home.Root c.args.at in
    let there : HasSpan s.roots.items s.cells.items h =
    has_span s.octets s.nodes.items s.roots.items s.cells.items h (subst (λ (g : Graph). c.args.at < length g.roots) (sym c.self.view_is) c.requires) in
    let e = part_is s.nodes.items s.roots.items s.cells.items h c.as_slice-nodes.result.now c.as_slice.result.now s.cells.items c.root_span-span.result
    c.as_slice-nodes.ensures.value c.as_slice.ensures refl c.root_span-span.ensures in
    subst (λ (os : List ℕ). WalkParts os no_row no_records
    (take (c.root_span-span.result.from + c.root_span-span.result.len - c.root_span-span.result.from) (drop c.root_span-span.result.from c.as_slice-nodes.result.now))) (sym c.as_slice-2.ensures)
    (subst (λ (ns : List Node). WalkParts s.octets no_row no_records ns) (sym e) (walk_parts s.octets s.nodes.items s.roots.items s.cells.items h c.self.invariant there))

pub returns : goal.returns
returns c =
    let s = c.self.inside in
    let h = home.Root c.args.at in
    let there : HasSpan s.roots.items s.cells.items h =
    has_span s.octets s.nodes.items s.roots.items s.cells.items h (subst (λ (g : Graph). c.args.at < length g.roots) (sym c.self.view_is) c.requires) in
    let e = part_is s.nodes.items s.roots.items s.cells.items h c.as_slice-nodes.result.now c.as_slice.result.now s.cells.items c.root_span-span.result
    c.as_slice-nodes.ensures.value c.as_slice.ensures refl c.root_span-span.ensures in
    c.over.ensures
    ∙ ap₂ (λ (os : List ℕ) (ns : List Node). unflat (flats os ns)) c.as_slice-2.ensures e
    ∙ walk_seen s.octets s.nodes.items s.roots.items s.cells.items h c.self.invariant there
    ∙ ap (λ (g : Graph). more (root_at g c.args.at) none) c.self.view_is
