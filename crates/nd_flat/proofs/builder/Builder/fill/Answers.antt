use Rattle.std.proofs.Common.{ap, ◌∙◌, ◌≡◌, ◌≤◌, subst, sym, length}
use Rattle.nd_value.specs.Setting.{cell_home}
use Rattle.nd_flat.specs.Building.{Building, CanClose, opened, closed}
use Rattle.nd_flat.specs.Store.{closed_roots, closed_cells}
use Rattle.nd_flat.proofs.Closing.{last_span, fill_built_as, fill_seen_as}
use Rattle.nd_flat.proofs.builder.Builder.fill.Goals as goal

pub invariant_of-self : goal.invariant_of-self
invariant_of-self c =
    let s = c.self.inside in
    let e = c.as_slice-to.ensures.value in
    let er : c.close.new.roots.items ≡ closed_roots s.home (last_span s.nodes.items s.from) s.roots.items =
    c.close.ensures.roots ∙ ap (λ zs. closed_roots s.home (last_span zs s.from) s.roots.items) e in
    let ec : c.close.new.cells.items ≡ closed_cells s.home (last_span s.nodes.items s.from) s.cells.items =
    c.close.ensures.cells ∙ ap (λ zs. closed_cells s.home (last_span zs s.from) s.cells.items) e in
    fill_built_as s.octets s.nodes.items s.from s.roots.items s.cells.items s.home s.op s.side s.tie s.given c.self.invariant
    c.as_slice-to.result.now c.close.new.roots.items c.close.new.cells.items c.args.cell.0 e er ec c.requires.there.0
    (subst (λ (b : Building). c.args.cell.0 ≤ length b.graph.cells) (sym c.self.view_is) c.requires.there.1)
    (subst CanClose (sym c.self.view_is) c.requires.whole)

pub returns : goal.returns
returns c =
    let s = c.self.inside in
    let e = c.as_slice-to.ensures.value in
    let er : c.close.new.roots.items ≡ closed_roots s.home (last_span s.nodes.items s.from) s.roots.items =
    c.close.ensures.roots ∙ ap (λ zs. closed_roots s.home (last_span zs s.from) s.roots.items) e in
    let ec : c.close.new.cells.items ≡ closed_cells s.home (last_span s.nodes.items s.from) s.cells.items =
    c.close.ensures.cells ∙ ap (λ zs. closed_cells s.home (last_span zs s.from) s.cells.items) e in
    fill_seen_as s.octets s.nodes.items s.from s.roots.items s.cells.items s.home s.op s.side s.tie s.given c.self.invariant
    c.as_slice-to.result.now c.close.new.roots.items c.close.new.cells.items c.args.cell.0 e er ec c.requires.there.0
    ∙ ap (λ (b : Building). opened (cell_home c.args.cell.0) (closed b) b) c.self.view_is
