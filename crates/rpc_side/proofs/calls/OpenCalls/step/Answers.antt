use Rattle.std.proofs.Common.{◌∙◌, ap, slice_index}
use Rattle.rpc_stream.specs.declared.call.Part.TheVariants.{Sole, Opening, Middle, Closing, Stopping}
use Rattle.rpc_stream.specs.Pdus.{call_of}
use Rattle.rpc_stream.specs.Calls.{part_at, in_calls}
use Rattle.rpc_side.proofs.Stepping.{stepped, stepped_ok, stepped_any}
use Rattle.rpc_side.proofs.calls.OpenCalls.step.Goals as goal

pub returns-in-Sole-clause-stepped : goal.returns-in-Sole-clause-stepped
returns-in-Sole-clause-stepped c =
    stepped_any c.args.peer c.args.limits c.args.pdu c.call_id-call.result Sole c.args.self.now c.sole.new.self c.sole.result
    (c.if-not-is_in_calls.ensures ∙ ap (λ os. in_calls c.args.peer (slice_index os 2)) c.as_slice-octets.ensures)
    (c.call_id-call.ensures ∙ ap call_of c.as_slice-octets.ensures)
    (c.in-Sole.ensures ∙ ap (λ os. part_at (slice_index os 2) (slice_index os 3)) c.as_slice-octets.ensures) c.sole.ensures.stepped

pub returns-in-Opening-clause-stepped : goal.returns-in-Opening-clause-stepped
returns-in-Opening-clause-stepped c =
    stepped_ok c.args.peer c.args.limits c.args.pdu c.call_id-call.result Opening c.args.self.now c.opening.new.self c.opening.result
    (c.if-not-is_in_calls.ensures ∙ ap (λ os. in_calls c.args.peer (slice_index os 2)) c.as_slice-octets.ensures)
    (c.call_id-call.ensures ∙ ap call_of c.as_slice-octets.ensures)
    (c.in-Opening.ensures ∙ ap (λ os. part_at (slice_index os 2) (slice_index os 3)) c.as_slice-octets.ensures) c.opening.ensures.stepped

pub returns-in-Middle-clause-stepped : goal.returns-in-Middle-clause-stepped
returns-in-Middle-clause-stepped c =
    stepped_ok c.args.peer c.args.limits c.args.pdu c.call_id-call.result Middle c.args.self.now c.middle.new.self c.middle.result
    (c.if-not-is_in_calls.ensures ∙ ap (λ os. in_calls c.args.peer (slice_index os 2)) c.as_slice-octets.ensures)
    (c.call_id-call.ensures ∙ ap call_of c.as_slice-octets.ensures)
    (c.in-Middle.ensures ∙ ap (λ os. part_at (slice_index os 2) (slice_index os 3)) c.as_slice-octets.ensures) c.middle.ensures.stepped

pub returns-in-Closing-clause-stepped : goal.returns-in-Closing-clause-stepped
returns-in-Closing-clause-stepped c =
    stepped_any c.args.peer c.args.limits c.args.pdu c.call_id-call.result Closing c.args.self.now c.closing.new.self c.closing.result
    (c.if-not-is_in_calls.ensures ∙ ap (λ os. in_calls c.args.peer (slice_index os 2)) c.as_slice-octets.ensures)
    (c.call_id-call.ensures ∙ ap call_of c.as_slice-octets.ensures)
    (c.in-Closing.ensures ∙ ap (λ os. part_at (slice_index os 2) (slice_index os 3)) c.as_slice-octets.ensures) c.closing.ensures.stepped

pub returns-in-Stopping-clause-stepped : goal.returns-in-Stopping-clause-stepped
returns-in-Stopping-clause-stepped c =
    stepped c.args.peer c.args.limits c.args.pdu c.call_id-call.result Stopping c.args.self.now c.stopping.new.self c.stopping.result
    (c.if-not-is_in_calls.ensures ∙ ap (λ os. in_calls c.args.peer (slice_index os 2)) c.as_slice-octets.ensures)
    (c.call_id-call.ensures ∙ ap call_of c.as_slice-octets.ensures)
    (c.in-Stopping.ensures ∙ ap (λ os. part_at (slice_index os 2) (slice_index os 3)) c.as_slice-octets.ensures) (λ k keeps. c.stopping.ensures c.args.limits k keeps)
