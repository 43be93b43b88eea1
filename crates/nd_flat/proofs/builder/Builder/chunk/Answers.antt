use Rattle.std.proofs.Common.{ap, ◌∙◌, subst, sym, drop, List}
use Rattle.nd_flat.specs.declared.node.Node.{Node}
use Rattle.nd_flat.specs.Building.{Building, IsPipe, with_nodes, raised}
use Rattle.nd_flat.specs.Store.{IsPipeAt, IsBuilt, seen_builder}
use Rattle.nd_flat.specs.FlatForm.{HasOctets}
use Rattle.nd_flat.proofs.Frames.{all_drop}
use Rattle.nd_flat.proofs.Raising.{pipe_at, chunk_seen, chunk_built}
use Rattle.nd_flat.proofs.builder.Builder.chunk.Goals as goal

pub raise-requires : goal.raise-requires
raise-requires c =
    pipe_at c.self.inside.octets c.args.more (drop c.self.inside.from c.self.inside.nodes.items)
    (all_drop (HasOctets c.self.inside.octets) c.self.inside.from c.self.inside.nodes.items c.self.invariant.texts)
    (subst (λ (b : Building). IsPipe c.args.more b.nodes) (sym c.self.view_is) c.requires)

pub invariant_of-self : goal.invariant_of-self
invariant_of-self c =
    let s = c.self.inside in
    let p : IsPipeAt c.args.more (drop s.from s.nodes.items) =
    pipe_at s.octets c.args.more (drop s.from s.nodes.items) (all_drop (HasOctets s.octets) s.from s.nodes.items c.self.invariant.texts)
    (subst (λ (b : Building). IsPipe c.args.more b.nodes) (sym c.self.view_is) c.requires) in
    subst (λ (ns : List Node). IsBuilt s.octets ns s.from s.roots.items s.cells.items s.home) (sym c.raise.ensures)
    (chunk_built s.octets s.nodes.items s.from s.roots.items s.cells.items s.home c.self.invariant c.args.more p)

pub returns : goal.returns
returns c =
    let s = c.self.inside in
    let p : IsPipeAt c.args.more (drop s.from s.nodes.items) =
    pipe_at s.octets c.args.more (drop s.from s.nodes.items) (all_drop (HasOctets s.octets) s.from s.nodes.items c.self.invariant.texts)
    (subst (λ (b : Building). IsPipe c.args.more b.nodes) (sym c.self.view_is) c.requires) in
    ap (λ (ns : List Node). seen_builder s.octets ns s.from s.roots.items s.cells.items s.home s.op s.side s.tie s.given) c.raise.ensures
    ∙ chunk_seen s.octets s.nodes.items s.from s.roots.items s.cells.items s.home c.self.invariant c.args.more p s.op s.side s.tie s.given
    ∙ ap (λ (b : Building). with_nodes (raised c.args.more b.nodes) b) c.self.view_is
