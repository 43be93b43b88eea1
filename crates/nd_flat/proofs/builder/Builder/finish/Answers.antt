use Rattle.std.proofs.Common.{ap, ◌∙◌, ◌≡◌, subst, sym}
use Rattle.nd_value.specs.Fitting.{IsFit}
use Rattle.nd_flat.specs.Building.{Building, CanClose, fitting}
use Rattle.nd_flat.specs.Store.{closed_roots, closed_cells}
use Rattle.nd_flat.proofs.Closing.{last_span, finished, finished_kept}
use Rattle.nd_flat.proofs.builder.Builder.finish.Goals as goal

pub invariant_of-graph : goal.invariant_of-graph
invariant_of-graph c =
    let s = c.self.inside in
    let e = c.as_slice-to.ensures.value in
    let er : c.close.new.roots.items ≡ closed_roots s.home (last_span s.nodes.items s.from) s.roots.items =
    c.close.ensures.roots ∙ ap (λ zs. closed_roots s.home (last_span zs s.from) s.roots.items) e in
    let ec : c.close.new.cells.items ≡ closed_cells s.home (last_span s.nodes.items s.from) s.cells.items =
    c.close.ensures.cells ∙ ap (λ zs. closed_cells s.home (last_span zs s.from) s.cells.items) e in
    finished_kept s.octets s.nodes.items s.from s.roots.items s.cells.items s.home s.op s.side s.tie s.given c.self.invariant
    c.close.new.roots.items c.close.new.cells.items er ec (subst CanClose (sym c.self.view_is) c.requires.whole)
    (subst (λ (b : Building). IsFit (fitting b)) (sym c.self.view_is) c.requires.fits)

pub of-requires : goal.of-requires
of-requires c =
    let s = c.self.inside in
    let e = c.as_slice-to.ensures.value in
    let er : c.close.new.roots.items ≡ closed_roots s.home (last_span s.nodes.items s.from) s.roots.items =
    c.close.ensures.roots ∙ ap (λ zs. closed_roots s.home (last_span zs s.from) s.roots.items) e in
    let ec : c.close.new.cells.items ≡ closed_cells s.home (last_span s.nodes.items s.from) s.cells.items =
    c.close.ensures.cells ∙ ap (λ zs. closed_cells s.home (last_span zs s.from) s.cells.items) e in
    subst IsFit
    (sym (finished s.octets s.nodes.items s.from s.roots.items s.cells.items s.home s.op s.side s.tie s.given c.self.invariant
    c.close.new.roots.items c.close.new.cells.items er ec))
    (subst (λ (b : Building). IsFit (fitting b)) (sym c.self.view_is) c.requires.fits)

pub returns : goal.returns
returns c =
    let s = c.self.inside in
    let e = c.as_slice-to.ensures.value in
    let er : c.close.new.roots.items ≡ closed_roots s.home (last_span s.nodes.items s.from) s.roots.items =
    c.close.ensures.roots ∙ ap (λ zs. closed_roots s.home (last_span zs s.from) s.roots.items) e in
    let ec : c.close.new.cells.items ≡ closed_cells s.home (last_span s.nodes.items s.from) s.cells.items =
    c.close.ensures.cells ∙ ap (λ zs. closed_cells s.home (last_span zs s.from) s.cells.items) e in
    c.of.ensures
    ∙ finished s.octets s.nodes.items s.from s.roots.items s.cells.items s.home s.op s.side s.tie s.given c.self.invariant
    c.close.new.roots.items c.close.new.cells.items er ec
    ∙ ap fitting c.self.view_is
