use Rattle.std.proofs.Common.{◌≡◌, ◌∙◌, false, sym}
use Rattle.nd_value.specs.Fitting.{setting_of, setting_beside}
use Rattle.nd_lemmas.proofs.Lists.{item_at as item_there}
use Rattle.library_nodes.specs.Built.{has_too_many}
use Rattle.library_nodes.proofs.Graphs.{few_cells, few_nodes}
use Rattle.library_nodes.proofs.homes.graph_of.Goals as goal

pub returns-then-has_too_many-clause-refused : goal.returns-then-has_too_many-clause-refused
returns-then-has_too_many-clause-refused c = λ o q there. sym c.has_too_many.ensures ∙ c.if-has_too_many.true

pub returns-in-Ok-clause-few_cells : goal.returns-in-Ok-clause-few_cells
returns-in-Ok-clause-few_cells c =
    let (o, there) = item_there c.args.interface.now.operations c.args.op c.requires.known in
    few_cells (setting_of c.args.interface.now o c.args.side) c.args.listing.now c.in-Ok.graph (sym c.has_too_many.ensures ∙ c.if-has_too_many.false) (c.in-Ok.ensures o there)

pub returns-in-Ok-clause-few_nodes : goal.returns-in-Ok-clause-few_nodes
returns-in-Ok-clause-few_nodes c =
    let (o, there) = item_there c.args.interface.now.operations c.args.op c.requires.known in
    few_nodes (setting_of c.args.interface.now o c.args.side) c.args.listing.now c.in-Ok.graph (sym c.has_too_many.ensures ∙ c.if-has_too_many.false) (c.in-Ok.ensures o there)

pub returns-in-Ok-clause-few : goal.returns-in-Ok-clause-few
returns-in-Ok-clause-few c = sym c.has_too_many.ensures ∙ c.if-has_too_many.false

pub returns-in-Err-clause-refused : goal.returns-in-Err-clause-refused
returns-in-Err-clause-refused c = λ o q there. c.fault_of.ensures (setting_beside c.args.interface.now o c.args.side q) (c.in-Err.ensures o there)
