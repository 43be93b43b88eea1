use Rattle.std.proofs.Common.{◌<◌, length, sym, subst, option_map}
use Rattle.nd_types.specs.declared.interface.Interface.{Interface}
use Rattle.nd_value.specs.Request.{IsRequestOf}
use Rattle.library_values.proofs.logging.log_beside.Goals as goal

pub log_lent-requires-clause-known : goal.log_lent-requires-clause-known
log_lent-requires-clause-known c = subst (λ (i : Interface). c.args.op < length i.operations) (sym c.plan.ensures) c.requires.known

pub log_lent-requires-clause-request : goal.log_lent-requires-clause-request
log_lent-requires-clause-request c =
    subst (λ (i : Interface). IsRequestOf i c.args.op c.args.side (option_map (λ f. f.now) c.args.given)) (sym c.plan.ensures) c.requires.request

pub returns-clause-logged : goal.returns-clause-logged
returns-clause-logged c o there = c.log_lent.ensures.logged c.args.compiled.now o c.plan.ensures there

pub returns-clause-refused : goal.returns-clause-refused
returns-clause-refused c o there = c.log_lent.ensures.refused c.args.compiled.now o c.plan.ensures there
