use Rattle.std.proofs.Common.{◌≡◌, Some, sym, subst}
use Rattle.nd_types.specs.declared.types.Side.TheVariants.{Out}
use Rattle.nd_value.specs.Fitting.{Fitting, IsFit, setting_beside}
use Rattle.library_nodes.specs.declared.fault.BuildFault.{BuildFault}
use Rattle.library_nodes.specs.Built.{IsBuildCause}
use Rattle.library_answers.proofs.building.build_reply.Goals as goal

pub returns-in-Err-TooMany-clause-argument : goal.returns-in-Err-TooMany-clause-argument
returns-in-Err-TooMany-clause-argument c argument side =
    let q = c.args.given.now in
    let f : IsFit q = subst (λ (g : Fitting). IsFit g) c.fit.ensures c.flat-conforming.ensures.conforms in
    subst (λ (e : BuildFault). IsBuildCause (setting_beside q.interface f.operation Out (Some q.graph)) c.args.listing.now e) c.in-Err-TooMany.field-0-is
    (c.in-Err-TooMany.ensures.refused f.operation f.is_there)
