use Rattle.std.proofs.Common.{option_map}
use Rattle.nd_value.specs.Fitting.{setting_beside}
use Rattle.command_line.specs.declared.command.Task.TheVariants.{Read, Encode, Migrate}
use Rattle.dceidl.proofs.Causes.{made_by, refused_by}
use Rattle.dceidl.proofs.perform.perform_task.Goals as goal

pub returns-in-Read-clause-done : goal.returns-in-Read-clause-done
returns-in-Read-clause-done g c o there =
    made_by _ _ c.args.task (Read c.in-Read.how c.in-Read.order) (setting_beside c.args.ready.now.interface o c.args.ready.now.side (option_map (λ f. f.now.graph) c.args.given)) c.in-Read.is _
    (c.read_octets.ensures.done o there)

pub returns-in-Read-clause-refused : goal.returns-in-Read-clause-refused
returns-in-Read-clause-refused g c o there =
    refused_by _ _ c.args.task (Read c.in-Read.how c.in-Read.order) (setting_beside c.args.ready.now.interface o c.args.ready.now.side (option_map (λ f. f.now.graph) c.args.given)) c.in-Read.is _
    (c.read_octets.ensures.refused o there)

pub returns-in-Encode-clause-done : goal.returns-in-Encode-clause-done
returns-in-Encode-clause-done g c o there =
    made_by _ _ c.args.task (Encode c.in-Encode.order c.in-Encode.chunk)
    (setting_beside c.args.ready.now.interface o c.args.ready.now.side (option_map (λ f. f.now.graph) c.args.given)) c.in-Encode.is _ (c.encode_input.ensures.done o there)

pub returns-in-Migrate-clause-done : goal.returns-in-Migrate-clause-done
returns-in-Migrate-clause-done g c o there =
    made_by _ _ c.args.task Migrate (setting_beside c.args.ready.now.interface o c.args.ready.now.side (option_map (λ f. f.now.graph) c.args.given)) c.in-Migrate.is _
    (c.migrate_input.ensures.done o there)
