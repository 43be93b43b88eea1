use Rattle.std.proofs.Common.{ap, ◌∙◌, ◌≡◌, ◌++◌, ◌∷◌, [], subst, sym, length}
use Rattle.nd_value.specs.declared.item.Home.TheVariants as home
use Rattle.nd_flat.specs.Building.{Building, CanClose, opened, with_root, closed}
use Rattle.nd_flat.specs.Store.{closed_roots, closed_cells, no_span}
use Rattle.nd_flat.proofs.Closing.{last_span, root_built_as, root_seen_as}
use Rattle.nd_flat.proofs.builder.Builder.root.Goals as goal

pub invariant_of-self-2 : goal.invariant_of-self-2
invariant_of-self-2 c =
    let s = c.self.inside in
    let e = c.as_slice-to.ensures.value in
    let er : c.close.new.roots.items ≡ closed_roots s.home (last_span s.nodes.items s.from) (s.roots.items ++ no_span ∷ []) =
    c.close.ensures.roots ∙ ap (λ zs. closed_roots s.home (last_span zs s.from) c.push.new.self.items) e
    ∙ ap (closed_roots s.home (last_span s.nodes.items s.from)) c.in-Ok.ensures.ok in
    let ec : c.close.new.cells.items ≡ closed_cells s.home (last_span s.nodes.items s.from) s.cells.items =
    c.close.ensures.cells ∙ ap (λ zs. closed_cells s.home (last_span zs s.from) s.cells.items) e in
    root_built_as s.octets s.nodes.items s.from s.roots.items s.cells.items s.home s.op s.side s.tie s.given c.self.invariant
    c.as_slice-to.result.now c.as_slice-next.result.now c.close.new.roots.items c.close.new.cells.items e c.as_slice-next.ensures er ec
    (subst CanClose (sym c.self.view_is) c.requires)

pub returns-clause-ok : goal.returns-clause-ok
returns-clause-ok c =
    let s = c.self.inside in
    let e = c.as_slice-to.ensures.value in
    let er : c.close.new.roots.items ≡ closed_roots s.home (last_span s.nodes.items s.from) (s.roots.items ++ no_span ∷ []) =
    c.close.ensures.roots ∙ ap (λ zs. closed_roots s.home (last_span zs s.from) c.push.new.self.items) e
    ∙ ap (closed_roots s.home (last_span s.nodes.items s.from)) c.in-Ok.ensures.ok in
    let ec : c.close.new.cells.items ≡ closed_cells s.home (last_span s.nodes.items s.from) s.cells.items =
    c.close.ensures.cells ∙ ap (λ zs. closed_cells s.home (last_span zs s.from) s.cells.items) e in
    root_seen_as s.octets s.nodes.items s.from s.roots.items s.cells.items s.home s.op s.side s.tie s.given c.self.invariant
    c.as_slice-to.result.now c.as_slice-next.result.now c.close.new.roots.items c.close.new.cells.items e c.as_slice-next.ensures er ec
    ∙ ap (λ (b : Building). opened (home.Root (length b.graph.roots)) (with_root (closed b)) b) c.self.view_is
