use Rattle.std.proofs.Common.{ap, ◌∙◌, ◌≡◌, subst, sym}
use Rattle.nd_flat.specs.Building.{Building, CanClose, HasNoUnread, closed}
use Rattle.nd_flat.specs.Store.{closed_roots, closed_cells}
use Rattle.nd_flat.proofs.Closing.{last_span, kept_graph, kept_read}
use Rattle.nd_flat.proofs.builder.Builder.into_graph.Goals as goal

pub invariant_of-result : goal.invariant_of-result
invariant_of-result c =
    let s = c.self.inside in
    let e = c.as_slice-to.ensures.value in
    let er : c.close.new.roots.items ≡ closed_roots s.home (last_span s.nodes.items s.from) s.roots.items =
    c.close.ensures.roots ∙ ap (λ zs. closed_roots s.home (last_span zs s.from) s.roots.items) e in
    let ec : c.close.new.cells.items ≡ closed_cells s.home (last_span s.nodes.items s.from) s.cells.items =
    c.close.ensures.cells ∙ ap (λ zs. closed_cells s.home (last_span zs s.from) s.cells.items) e in
    kept_read s.octets s.nodes.items s.from s.roots.items s.cells.items s.home s.op s.side s.tie s.given c.self.invariant
    c.close.new.roots.items c.close.new.cells.items er ec (subst CanClose (sym c.self.view_is) c.requires.whole)
    (subst (λ (b : Building). HasNoUnread (closed b)) (sym c.self.view_is) c.requires.read)

pub returns : goal.returns
returns c =
    let s = c.self.inside in
    let e = c.as_slice-to.ensures.value in
    let er : c.close.new.roots.items ≡ closed_roots s.home (last_span s.nodes.items s.from) s.roots.items =
    c.close.ensures.roots ∙ ap (λ zs. closed_roots s.home (last_span zs s.from) s.roots.items) e in
    let ec : c.close.new.cells.items ≡ closed_cells s.home (last_span s.nodes.items s.from) s.cells.items =
    c.close.ensures.cells ∙ ap (λ zs. closed_cells s.home (last_span zs s.from) s.cells.items) e in
    kept_graph s.octets s.nodes.items s.from s.roots.items s.cells.items s.home s.op s.side s.tie s.given c.self.invariant
    c.close.new.roots.items c.close.new.cells.items er ec
    ∙ ap closed c.self.view_is
