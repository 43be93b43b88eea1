use Rattle.std.proofs.Common.{Some, IfOk, IfErr, ap, subst}
use Rattle.nd_base.specs.Over.{source_over}
use Rattle.nd_base.specs.contracts.plain.PlainSourceSource.TheImpl.{ghosts}
use Rattle.nd_value.specs.Fitting.{setting_of}
use Rattle.command_decode.specs.Decoded.{IsDecoding}
use Rattle.command_call.specs.Called.{IsStubCause}
use Rattle.command_call.proofs.Calls.{if_ok, stub_printed, stub_refused_by, no_rise}
use Rattle.command_call.proofs.calling.print_stub.Goals as goal

pub returns-clause-printed : goal.returns-clause-printed
returns-clause-printed c o there =
    subst (λ k. IfOk c.print_octets.result (IsDecoding (setting_of c.args.interface.now o k) c.args.order c.args.stub)) c.side.ensures
    (if_ok c.print_octets.result _ _ (λ text h. stub_printed _ c.args.stub _ c.args.order text (ap (λ os. Some os) c.new-source.ensures.left) h)
    (c.print_octets.ensures.printed o there))

pub returns-clause-refused : goal.returns-clause-refused
returns-clause-refused c o there =
    subst (λ k. IfErr c.print_octets.result (IsStubCause c.args.stub (setting_of c.args.interface.now o k) c.args.order)) c.side.ensures
    (stub_refused_by c.print_octets.result (source_over ghosts.seen c.new-source.result c.print_octets.new.input) c.args.stub _ c.args.order
    (c.print_octets.ensures.refused o there)
    (record { left = ap (λ os. Some os) c.new-source.ensures.left; reads = no_rise }))
