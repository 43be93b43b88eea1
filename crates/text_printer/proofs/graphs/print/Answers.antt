use Rattle.std.proofs.Common.{ap, ◌∙◌, sym}
use Rattle.std.specs.List.{slice_get}
use Rattle.std.proofs.lemmas.Option.{same_Some}
use Rattle.text_printer.proofs.Canonical.{canonical_text, canonical_begins, begin_alike, put_together}
use Rattle.text_printer.proofs.graphs.print.Goals as goal

pub returns : goal.returns
returns c o there =
    let i = c.args.interface.now in
    let f = c.args.fit.now in
    let n = c.in_ok-numbered.numbered in
    let found = ap (slice_get i.operations) c.op-op.ensures ∙ there in
    let same = same_Some _ _ (sym c.in-Some.ensures.some ∙ found) in
    let begins = begin_alike i.types o _ f.side c.flat-graph.result.now n.graph c.side-side.ensures c.flat-graph.ensures.graph
    (canonical_begins f n i o c.flat-conforming.ensures.conforms c.flat-graph.ensures.conforms c.in_ok-numbered.ensures c.requires.tied there) in
    canonical_text f n i o c.append_cells.new.text c.flat-conforming.ensures.conforms c.flat-graph.ensures.conforms c.in_ok-numbered.ensures c.requires.tied there
    (put_together i.types o _ o.name _ f.side c.flat-graph.result.now n.graph c.new-text.result c.append_head.new.text c.append_roots.new.text c.append_cells.new.text
    c.new-text.ensures c.in_ok-append_head.ensures (c.in_ok-append_roots.ensures o found begins.0) (c.in_ok-append_cells.ensures begins.1)
    (c.as_slice.ensures.same ∙ ap (λ p. p.name) same) c.side-side.ensures c.flat-graph.ensures.graph)
