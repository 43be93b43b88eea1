use Rattle.std.proofs.Common.{ap, ◌∙◌, ◌++◌, ◌∷◌, [], List, ℕ, subst, sym}
use Rattle.nd_flat.specs.declared.node.Node.{Node}
use Rattle.nd_flat.specs.FlatForm.{HasOctets, seen_nodes, flat_seen, text_kept}
use Rattle.nd_flat.specs.Building.{Building, with_node}
use Rattle.nd_flat.specs.Store.{IsBuilt, seen_builder}
use Rattle.nd_flat.proofs.Closing.{add_seen, add_built, grown_seen, grown_built, when_err}
use Rattle.nd_flat.proofs.builder.Builder.add.Goals as goal

pub returns-in_err-kept-clause-err : goal.returns-in_err-kept-clause-err
returns-in_err-kept-clause-err c =
    let s = c.self.inside in
    when_err c.from_residual.result _
    (ap (λ (os : List ℕ). seen_builder os s.nodes.items s.from s.roots.items s.cells.items s.home s.op s.side s.tie s.given) c.in_err-kept.ensures.err ∙ c.self.view_is)

pub invariant_of-self-in_default : goal.invariant_of-self-in_default
invariant_of-self-in_default c =
    let s = c.self.inside in
    subst (λ (ns : List Node). IsBuilt c.kept_node.new.octets ns s.from s.roots.items s.cells.items s.home) (sym c.in_default.ensures.err)
    (subst (λ (os : List ℕ). IsBuilt os s.nodes.items s.from s.roots.items s.cells.items s.home) (sym c.in_ok-kept.ensures.octets)
    (grown_built s.octets s.nodes.items s.from s.roots.items s.cells.items s.home s.op s.side s.tie s.given c.self.invariant (text_kept (flat_seen c.args.node.now).0)))

pub returns-in_default-clause-err : goal.returns-in_default-clause-err
returns-in_default-clause-err c =
    let s = c.self.inside in
    ap (λ (ns : List Node). seen_builder c.kept_node.new.octets ns s.from s.roots.items s.cells.items s.home s.op s.side s.tie s.given) c.in_default.ensures.err
    ∙ ap (λ (os : List ℕ). seen_builder os s.nodes.items s.from s.roots.items s.cells.items s.home s.op s.side s.tie s.given) c.in_ok-kept.ensures.octets
    ∙ grown_seen s.octets s.nodes.items s.from s.roots.items s.cells.items s.home s.op s.side s.tie s.given c.self.invariant (text_kept (flat_seen c.args.node.now).0)
    ∙ c.self.view_is

pub invariant_of-self-2 : goal.invariant_of-self-2
invariant_of-self-2 c =
    let s = c.self.inside in
    let os : List ℕ = s.octets ++ text_kept (flat_seen c.args.node.now).0 in
    subst (λ (ns : List Node). IsBuilt c.kept_node.new.octets ns s.from s.roots.items s.cells.items s.home) (sym c.in-Ok.ensures.ok)
    (subst (λ (os : List ℕ). IsBuilt os (s.nodes.items ++ c.in_ok-kept.kept ∷ []) s.from s.roots.items s.cells.items s.home) (sym c.in_ok-kept.ensures.octets)
    (add_built s.octets s.nodes.items s.from s.roots.items s.cells.items s.home s.op s.side s.tie s.given c.self.invariant (text_kept (flat_seen c.args.node.now).0)
    c.in_ok-kept.kept (subst (λ (os : List ℕ). HasOctets os c.in_ok-kept.kept) c.in_ok-kept.ensures.octets c.in_ok-kept.ensures.within)))

pub returns-clause-ok : goal.returns-clause-ok
returns-clause-ok c =
    let s = c.self.inside in
    ap (λ (ns : List Node). seen_builder c.kept_node.new.octets ns s.from s.roots.items s.cells.items s.home s.op s.side s.tie s.given) c.in-Ok.ensures.ok
    ∙ ap (λ (os : List ℕ). seen_builder os (s.nodes.items ++ c.in_ok-kept.kept ∷ []) s.from s.roots.items s.cells.items s.home s.op s.side s.tie s.given) c.in_ok-kept.ensures.octets
    ∙ add_seen s.octets s.nodes.items s.from s.roots.items s.cells.items s.home s.op s.side s.tie s.given c.self.invariant (text_kept (flat_seen c.args.node.now).0)
    c.in_ok-kept.kept (flat_seen c.args.node.now ∷ []) (ap (λ (os : List ℕ). seen_nodes os c.in_ok-kept.kept) (sym c.in_ok-kept.ensures.octets) ∙ c.in_ok-kept.ensures.node)
    ∙ ap (λ (b : Building). with_node (flat_seen c.args.node.now) b) c.self.view_is
