use Rattle.std.proofs.Common.{Some, ap}
use Rattle.command_sample.specs.Interface.{take}
use Rattle.command_sample.proofs.Decodes.{same_is, never_fault}
use Rattle.command_sample.proofs.Fits.{take_is}
use Rattle.command_sample.proofs.decoded.decoded.Goals as goal

pub returns-in-Ok : goal.returns-in-Ok
returns-in-Ok c seed n are =
    same_is c.args.plan.now.tie c.requires.interface seed n c.args.octets are _ _ _ _
    (c.in-Ok.ensures.decoded take (take_is c.args.plan.now.tie c.requires.interface)) (ap (λ os. Some os) c.new-source.ensures.left)

pub unreachable-requires-in-Err-Bad : goal.unreachable-requires-in-Err-Bad
unreachable-requires-in-Err-Bad c =
    let p = c.requires.of in
    never_fault c.args.plan.now.tie c.requires.interface p.0 p.1 c.args.octets p.2 _ _ c.in-Err-Bad.field-0 c.in-Err-Bad.field-0-0 c.in-Err-Bad.field-0-1 c.in-Err-Bad.field-0-is
    (c.in-Err-Bad.ensures.fault take (take_is c.args.plan.now.tie c.requires.interface)) (ap (λ os. Some os) c.new-source.ensures.left)
