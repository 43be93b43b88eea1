use Rattle.std.proofs.Common.{◌≡◌, ◌∙◌, refl, sym, subst}
use Rattle.std.proofs.lemmas.Result.{err_from_is_err_and}
use Rattle.nd_value.specs.Fitting.{setting_of}
use Rattle.library_nodes.specs.Left.{Left}
use Rattle.library_nodes.specs.Steps.{Stops, AreOf}
use Rattle.library_nodes.specs.Built.{root_types}
use Rattle.library_nodes.proofs.Graphs.{roots_stop, cells_stop, end_stops, graph_read}
use Rattle.library_nodes.proofs.homes.homes.Goals as goal

pub returns-in_err-roots : goal.returns-in_err-roots
returns-in_err-roots c =
    let p = err_from_is_err_and c.from_residual.result c.from_residual.ensures.1 in
    rw (p.1, p.2) (λ o there.
    let w = setting_of c.args.interface.now o c.args.side in
    roots_stop w c.args.listing.now c.in_err-roots.field-0.0
    (subst (λ (k : Left). Stops w.table (root_types w) k c.in_err-roots.field-0.0) c.of-reader.ensures (c.in_err-roots.ensures o there)))

pub returns-in_err-cells : goal.returns-in_err-cells
returns-in_err-cells c =
    let p = err_from_is_err_and c.from_residual-in_err-cells.result c.from_residual-in_err-cells.ensures.1 in
    rw (p.1, p.2) (λ o there.
    let w = setting_of c.args.interface.now o c.args.side in
    cells_stop w c.args.listing.now c.root_values.new.reader c.in_ok-roots.roots c.in_err-cells.field-0.0
    (subst (λ (k : Left). AreOf w.table (root_types w) k c.in_ok-roots.roots c.root_values.new.reader) c.of-reader.ensures (c.in_ok-roots.ensures o there)) c.in_err-cells.ensures)

pub returns-then-not-is_over : goal.returns-then-not-is_over
returns-then-not-is_over c =
    λ o there.
    let w = setting_of c.args.interface.now o c.args.side in
    end_stops w c.args.listing.now c.root_values.new.reader c.cell_values.new.reader c.in_ok-roots.roots c.in_ok-cells.cells c.next_wrong.result
    (subst (λ (k : Left). AreOf w.table (root_types w) k c.in_ok-roots.roots c.root_values.new.reader) c.of-reader.ensures (c.in_ok-roots.ensures o there)) c.in_ok-cells.ensures
    (c.is_over.ensures.more c.if-not-is_over.true) c.next_wrong.ensures

pub returns : goal.returns
returns c =
    λ o there.
    let w = setting_of c.args.interface.now o c.args.side in
    graph_read w c.args.listing.now c.root_values.new.reader c.cell_values.new.reader c.in_ok-roots.roots c.in_ok-cells.cells _
    (subst (λ (k : Left). AreOf w.table (root_types w) k c.in_ok-roots.roots c.root_values.new.reader) c.of-reader.ensures (c.in_ok-roots.ensures o there)) c.in_ok-cells.ensures
    (c.is_over.ensures.over c.if-not-is_over.false) refl refl
