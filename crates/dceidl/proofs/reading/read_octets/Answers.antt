use Rattle.std.proofs.Common.{option_map, ap}
use Rattle.nd_value.specs.Fitting.{setting_beside}
use Rattle.command_line.specs.declared.command.OrderWord.TheVariants.{Fixed, Label}
use Rattle.command_line.specs.declared.command.Task.TheVariants.{Read}
use Rattle.dceidl.proofs.Causes.{made_by, refused_by}
use Rattle.dceidl.proofs.Labels.{fixed_made, fixed_refused}
use Rattle.dceidl.proofs.reading.read_octets.Goals as goal

pub returns-in-Fixed-clause-done : goal.returns-in-Fixed-clause-done
returns-in-Fixed-clause-done g c o there =
    made_by _ _ (Read c.args.how c.args.order) (Read c.args.how (Fixed c.in-Fixed.named))
    (setting_beside c.args.ready.now.interface o c.args.ready.now.side (option_map (λ f. f.now.graph) c.args.given)) (ap (λ k. Read c.args.how k) c.in-Fixed.is) _
    (fixed_made _ _ _ c.args.how c.in-Fixed.named c.read_values.result (c.read_values.ensures.done o there))

pub returns-in-Fixed-clause-refused : goal.returns-in-Fixed-clause-refused
returns-in-Fixed-clause-refused g c o there =
    refused_by _ _ (Read c.args.how c.args.order) (Read c.args.how (Fixed c.in-Fixed.named))
    (setting_beside c.args.ready.now.interface o c.args.ready.now.side (option_map (λ f. f.now.graph) c.args.given)) (ap (λ k. Read c.args.how k) c.in-Fixed.is) _
    (fixed_refused _ _ _ c.args.how c.in-Fixed.named c.read_values.result (c.read_values.ensures.refused o there))

pub returns-in-Label-clause-done : goal.returns-in-Label-clause-done
returns-in-Label-clause-done g c o there =
    made_by _ _ (Read c.args.how c.args.order) (Read c.args.how Label) (setting_beside c.args.ready.now.interface o c.args.ready.now.side (option_map (λ f. f.now.graph) c.args.given))
    (ap (λ k. Read c.args.how k) c.in-Label.is) _ (c.read_labelled.ensures.done o there)

pub returns-in-Label-clause-refused : goal.returns-in-Label-clause-refused
returns-in-Label-clause-refused g c o there =
    refused_by _ _ (Read c.args.how c.args.order) (Read c.args.how Label) (setting_beside c.args.ready.now.interface o c.args.ready.now.side (option_map (λ f. f.now.graph) c.args.given))
    (ap (λ k. Read c.args.how k) c.in-Label.is) _ (c.read_labelled.ensures.refused o there)
