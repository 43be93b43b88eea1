use Rattle.std.proofs.Common.{Some, ap}
use Rattle.nd_base.specs.Lent.{lent_left, lent_ended}
use Rattle.nd_base.specs.Over.{SourceOver, source_over}
use Rattle.library_calls.proofs.Lent.{joined_is, refused_is}
use Rattle.library_calls.proofs.joining.join_lent.Goals as goal

pub returns-in-Ok-clause-joined : goal.returns-in-Ok-clause-joined
returns-in-Ok-clause-joined c = joined_is c.args.want c.args.octets.now _ _ (ap (λ os. Some os) c.new-source.ensures.left) c.in-Ok.ensures.joined

pub returns-in-Err-Bad-clause-refused : goal.returns-in-Err-Bad-clause-refused
returns-in-Err-Bad-clause-refused c =
    let s : SourceOver = source_over (λ x. record { left = Some (lent_left x); ended = lent_ended x; faults = 0 }) c.new-source.result c.join.new.source in
    refused_is c.args.want c.args.octets.now s _ _ _ (ap (λ os. Some os) c.new-source.ensures.left) c.in-Err-Bad.field-0-is c.in-Err-Bad.ensures.refused
