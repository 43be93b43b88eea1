use Rattle.std.proofs.Common.{option_map}
use Rattle.nd_value.specs.Fitting.{setting_beside}
use Rattle.ndr_pipe.specs.Ends.{ends_over}
use Rattle.dceidl.proofs.Labels.{labelled_made, labelled_refused}
use Rattle.dceidl.proofs.reading.read_labelled.Goals as goal

pub returns-clause-done : goal.returns-clause-done
returns-clause-done g c o there =
    labelled_made _ _ _ _ _ _ _ _ c.in_ok-order.ensures.later c.in_ok-order.order c.in_ok-order.ensures.label c.args.how (ends_over g.E.PipeEnd.seen c.args.ends.now c.read_values.new.ends)
    (setting_beside c.args.ready.now.interface o c.args.ready.now.side (option_map (λ f. f.now.graph) c.args.given)) c.read_values.result (c.read_values.ensures.done o there)

pub returns-clause-refused : goal.returns-clause-refused
returns-clause-refused g c o there =
    labelled_refused _ _ _ _ _ _ _ _ c.in_ok-order.ensures.later c.in_ok-order.order c.in_ok-order.ensures.label c.args.how (ends_over g.E.PipeEnd.seen c.args.ends.now c.read_values.new.ends)
    (setting_beside c.args.ready.now.interface o c.args.ready.now.side (option_map (λ f. f.now.graph) c.args.given)) c.read_values.result (c.read_values.ensures.refused o there)
