use Rattle.std.proofs.Common.{subst}
use Rattle.nd_value.specs.Fitting.{setting_beside}
use Rattle.nd_value.specs.Conforms.{IsMisfit}
use Rattle.command_encode.proofs.Fitted.{misfit_is}
use Rattle.command_encode.proofs.fitting.value_refused.Goals as goal

pub returns-in-Ok : goal.returns-in-Ok
returns-in-Ok c o q there first =
    misfit_is c.args.interface.now o c.args.side q c.args.graph.now c.in-At.home c.in-At.node c.in-At.reason c.in-Ok.path
    (subst (IsMisfit (setting_beside c.args.interface.now o c.args.side q) c.args.graph.now) c.in-At.is first)
    (c.in-Ok.ensures o there)
