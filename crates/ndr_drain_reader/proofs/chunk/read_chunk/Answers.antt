use Rattle.std.proofs.Common.{◌≡◌, ◌-◌, ◌+◌, Some, refl, sym, subst, arith}
use Rattle.std.specs.List.{slice_get}
use Rattle.nd_base.specs.Over.{source_over}
use Rattle.nd_types.specs.declared.types.Operation.{Operation}
use Rattle.nd_value.specs.Tree.{node_count, trees}
use Rattle.ndr_decoder_state.specs.declared.fault.DecodeFault.{DecodeFault}
use Rattle.ndr_decoder_state.specs.declared.fault.DecodeFault.TheVariants as fault
use Rattle.nd_grammar.specs.decoded.Verdict.{decoding_seen}
use Rattle.ndr_decode.proofs.Decodes.{handed_on}
use Rattle.ndr_decode.proofs.Standing.{idle_log, idle_source}
use Rattle.ndr_drain_reader.specs.Calls.{IsChunkCause}
use Rattle.ndr_drain_reader.specs.Seen.{intake_seen, setting_in}
use Rattle.ndr_drain_reader.proofs.Chunked.{answered, at_chunk, can_close, ended, few_after, its_pipe, many, no_unread, nothing_read, same_elements, within_limit}
use Rattle.ndr_drain_reader.proofs.Places.{operation_of}
use Rattle.ndr_drain_reader.proofs.Runs.{some_is}
use Rattle.ndr_drain_reader.proofs.chunk.read_chunk.Goals as goal

pub take_chunk-requires : goal.take_chunk-requires
take_chunk-requires g c = let (o, there) =
    operation_of c.args.intake.now c.requires.ready in
    record { at = (at_chunk c.args.intake.now c.requires.ready c.requires.pipe o there c.next_run-elem.result c.next_run-elem.ensures c.in_ok-machine.machine c.in_ok-machine.ensures.opened) }

pub returns-in_err-machine-clause-cause : goal.returns-in_err-machine-clause-cause
returns-in_err-machine-clause-cause g c =
    handed_on
    (λ (e : DecodeFault). (o : Operation) → slice_get c.args.intake.now.plan.now.tie.operations c.args.intake.now.op ≡ Some o
    → IsChunkCause (setting_in (intake_seen c.args.intake.now) o) (intake_seen c.args.intake.now)
    (idle_source (g.S.Source.seen c.args.source.now).left (g.S.Source.seen c.args.source.now).ended (source_over g.S.Source.seen c.args.source.now c.args.source.now).faults)
    (idle_log c.args.items.now (g.L.Ledger.number c.args.steps.now)) e) c.from_residual.result c.in_err-machine.field-0.0 c.from_residual.ensures.1
    (subst (λ (e : DecodeFault). (o : Operation) → slice_get c.args.intake.now.plan.now.tie.operations c.args.intake.now.op ≡ Some o
    → IsChunkCause (setting_in (intake_seen c.args.intake.now) o) (intake_seen c.args.intake.now)
    (idle_source (g.S.Source.seen c.args.source.now).left (g.S.Source.seen c.args.source.now).ended (source_over g.S.Source.seen c.args.source.now c.args.source.now).faults)
    (idle_log c.args.items.now (g.L.Ledger.number c.args.steps.now)) e) (sym c.in_err-machine.ensures.memory)
    (λ o there. nothing_read c.args.intake.now c.requires.ready c.requires.pipe o there (g.S.Source.seen c.args.source.now).left (g.S.Source.seen c.args.source.now).ended
    (source_over g.S.Source.seen c.args.source.now c.args.source.now).faults c.args.items.now (g.L.Ledger.number c.args.steps.now)))

pub returns-in_err-count-clause-cause : goal.returns-in_err-count-clause-cause
returns-in_err-count-clause-cause g c =
    handed_on
    (λ (e : DecodeFault). (o : Operation) → slice_get c.args.intake.now.plan.now.tie.operations c.args.intake.now.op ≡ Some o
    → IsChunkCause (setting_in (intake_seen c.args.intake.now) o) (intake_seen c.args.intake.now)
    (source_over g.S.Source.seen c.args.source.now c.take_chunk.new.source)
    (decoding_seen c.args.items.now c.take_chunk.new.items (g.L.Ledger.number c.args.steps.now)
    (g.L.Ledger.number c.take_chunk.new.steps)) e) c.from_residual-in_err-count.result c.in_err-count.field-0.0 c.from_residual-in_err-count.ensures.1
    (λ o there. c.in_err-count.ensures.takes
    (at_chunk c.args.intake.now c.requires.ready c.requires.pipe o there c.next_run-elem.result c.next_run-elem.ensures c.in_ok-machine.machine c.in_ok-machine.ensures.opened) refl)

pub pass_end-requires-clause-within : goal.pass_end-requires-clause-within
pass_end-requires-clause-within g c = let (o, there) =
    operation_of c.args.intake.now c.requires.ready in
    within_limit c.args.intake.now c.requires.ready c.requires.pipe o there (source_over g.S.Source.seen c.args.source.now c.take_chunk.new.source)
    (decoding_seen c.args.items.now c.take_chunk.new.items (g.L.Ledger.number c.args.steps.now) (g.L.Ledger.number c.take_chunk.new.steps)) c.take_chunk.new.machine c.in_ok-count.count
    (c.in_ok-count.ensures.takes
    (at_chunk c.args.intake.now c.requires.ready c.requires.pipe o there c.next_run-elem.result c.next_run-elem.ensures c.in_ok-machine.machine c.in_ok-machine.ensures.opened) refl)

pub returns-then-count-eq0-clause-read : goal.returns-then-count-eq0-clause-read
returns-then-count-eq0-clause-read g c o there =
    ended c.args.intake.now c.requires.ready c.requires.pipe o there (source_over g.S.Source.seen c.args.source.now c.take_chunk.new.source)
    (decoding_seen c.args.items.now c.take_chunk.new.items (g.L.Ledger.number c.args.steps.now) (g.L.Ledger.number c.take_chunk.new.steps)) c.take_chunk.new.machine c.in_ok-count.count
    (c.in_ok-count.ensures.takes
    (at_chunk c.args.intake.now c.requires.ready c.requires.pipe o there c.next_run-elem.result c.next_run-elem.ensures c.in_ok-machine.machine c.in_ok-machine.ensures.opened) refl)
    c.if-count-eq0.true (intake_seen c.pass_end.new.intake) c.pass_end.ensures.seen

pub elements_of-requires-clause-whole : goal.elements_of-requires-clause-whole
elements_of-requires-clause-whole g c = let (o, there) = operation_of c.args.intake.now c.requires.ready in let x =
    (c.in_ok-count.ensures.takes
    (at_chunk c.args.intake.now c.requires.ready c.requires.pipe o there c.next_run-elem.result c.next_run-elem.ensures c.in_ok-machine.machine c.in_ok-machine.ensures.opened) refl) in
    can_close x.elements c.take_chunk.new.machine x.built

pub elements_of-requires-clause-read : goal.elements_of-requires-clause-read
elements_of-requires-clause-read g c = let (o, there) = operation_of c.args.intake.now c.requires.ready in let x =
    (c.in_ok-count.ensures.takes
    (at_chunk c.args.intake.now c.requires.ready c.requires.pipe o there c.next_run-elem.result c.next_run-elem.ensures c.in_ok-machine.machine c.in_ok-machine.ensures.opened) refl) in
    no_unread x.elements c.take_chunk.new.machine x.built

pub elements_of-requires-clause-pipe : goal.elements_of-requires-clause-pipe
elements_of-requires-clause-pipe g c = let (o, there) = operation_of c.args.intake.now c.requires.ready in let x =
    (c.in_ok-count.ensures.takes
    (at_chunk c.args.intake.now c.requires.ready c.requires.pipe o there c.next_run-elem.result c.next_run-elem.ensures c.in_ok-machine.machine c.in_ok-machine.ensures.opened) refl) in
    its_pipe x.elements c.take_chunk.new.machine x.built

pub returns-in_err-vals-clause-cause : goal.returns-in_err-vals-clause-cause
returns-in_err-vals-clause-cause g c =
    handed_on
    (λ (e : DecodeFault). (o : Operation) → slice_get c.args.intake.now.plan.now.tie.operations c.args.intake.now.op ≡ Some o
    → IsChunkCause (setting_in (intake_seen c.args.intake.now) o) (intake_seen c.args.intake.now)
    (source_over g.S.Source.seen c.args.source.now c.take_chunk.new.source)
    (decoding_seen c.args.items.now c.take_chunk.new.items (g.L.Ledger.number c.args.steps.now)
    (g.L.Ledger.number c.take_chunk.new.steps)) e) c.from_residual-in_err-vals.result fault.Memory c.from_residual-in_err-vals.ensures.1
    (λ o there. let x =
    (c.in_ok-count.ensures.takes
    (at_chunk c.args.intake.now c.requires.ready c.requires.pipe o there c.next_run-elem.result c.next_run-elem.ensures c.in_ok-machine.machine c.in_ok-machine.ensures.opened) refl) in x.cut)

pub overflow_sub-nodes : goal.overflow_sub-nodes
overflow_sub-nodes g c = let (o, there) = operation_of c.args.intake.now c.requires.ready in let x =
    (c.in_ok-count.ensures.takes
    (at_chunk c.args.intake.now c.requires.ready c.requires.pipe o there c.next_run-elem.result c.next_run-elem.ensures c.in_ok-machine.machine c.in_ok-machine.ensures.opened) refl) in
    let m : c.take_chunk.new.machine.count ≡ 1 + node_count (trees x.elements) = many x.elements c.take_chunk.new.machine x.built in omega (arith, m)

pub pass_elements-requires-clause-within : goal.pass_elements-requires-clause-within
pass_elements-requires-clause-within g c = let (o, there) =
    operation_of c.args.intake.now c.requires.ready in
    within_limit c.args.intake.now c.requires.ready c.requires.pipe o there (source_over g.S.Source.seen c.args.source.now c.take_chunk.new.source)
    (decoding_seen c.args.items.now c.take_chunk.new.items (g.L.Ledger.number c.args.steps.now) (g.L.Ledger.number c.take_chunk.new.steps)) c.take_chunk.new.machine c.in_ok-count.count
    (c.in_ok-count.ensures.takes
    (at_chunk c.args.intake.now c.requires.ready c.requires.pipe o there c.next_run-elem.result c.next_run-elem.ensures c.in_ok-machine.machine c.in_ok-machine.ensures.opened) refl)

pub pass_elements-requires-clause-few : goal.pass_elements-requires-clause-few
pass_elements-requires-clause-few g c = let (o, there) =
    operation_of c.args.intake.now c.requires.ready in
    few_after c.args.intake.now c.requires.ready c.requires.pipe o there (source_over g.S.Source.seen c.args.source.now c.take_chunk.new.source)
    (decoding_seen c.args.items.now c.take_chunk.new.items (g.L.Ledger.number c.args.steps.now) (g.L.Ledger.number c.take_chunk.new.steps)) c.take_chunk.new.machine c.in_ok-count.count
    (c.in_ok-count.ensures.takes
    (at_chunk c.args.intake.now c.requires.ready c.requires.pipe o there c.next_run-elem.result c.next_run-elem.ensures c.in_ok-machine.machine c.in_ok-machine.ensures.opened) refl)
    (c.in_ok-count.count - 1) (some_is c.in_ok-count.count c.if-count-eq0.false)

pub returns-clause-read : goal.returns-clause-read
returns-clause-read g c o there =
    let x = (c.in_ok-count.ensures.takes
    (at_chunk c.args.intake.now c.requires.ready c.requires.pipe o there c.next_run-elem.result c.next_run-elem.ensures c.in_ok-machine.machine c.in_ok-machine.ensures.opened) refl) in
    answered c.args.intake.now c.requires.ready c.requires.pipe o there (source_over g.S.Source.seen c.args.source.now c.take_chunk.new.source)
    (decoding_seen c.args.items.now c.take_chunk.new.items (g.L.Ledger.number c.args.steps.now) (g.L.Ledger.number c.take_chunk.new.steps)) c.take_chunk.new.machine c.in_ok-count.count
    (c.in_ok-count.ensures.takes
    (at_chunk c.args.intake.now c.requires.ready c.requires.pipe o there c.next_run-elem.result c.next_run-elem.ensures c.in_ok-machine.machine c.in_ok-machine.ensures.opened) refl)
    (c.in_ok-count.count - 1) (some_is c.in_ok-count.count c.if-count-eq0.false) c.in_ok-vals.vals
    (same_elements x.elements c.take_chunk.new.machine x.built c.in_ok-vals.vals c.in_ok-vals.ensures) (intake_seen c.pass_elements.new.intake) c.pass_elements.ensures.seen
