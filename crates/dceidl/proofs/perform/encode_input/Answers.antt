use Rattle.std.proofs.Common.{option_map, sym, subst}
use Rattle.nd_base.specs.Over.{source_over}
use Rattle.nd_value.specs.Fitting.{setting_beside}
use Rattle.text_grammar.specs.declared.TheConstants.{TEXT_LIMIT}
use Rattle.command_streams.specs.Input.{AreRead}
use Rattle.dceidl.proofs.Causes.{encoded, encoding_refused}
use Rattle.dceidl.proofs.perform.encode_input.Goals as goal

pub returns-clause-done : goal.returns-clause-done
returns-clause-done g c o there =
    let s = source_over g.S.Source.seen c.args.input.now c.read_input.new.input in
    encoded s (setting_beside c.args.ready.now.interface o c.args.ready.now.side (option_map (λ f. f.now.graph) c.args.given)) c.as_slice.result.now
    (subst (AreRead s TEXT_LIMIT) (sym c.as_slice.ensures)
    (record { taken = c.in_ok-text.ensures.octets; few = c.in_ok-text.ensures.few; whole = c.in_ok-text.ensures.whole; none_left = c.in_ok-text.ensures.none_left }))
    c.args.order c.args.chunk c.encode.result (c.encode.ensures.done o there)

pub returns-clause-refused : goal.returns-clause-refused
returns-clause-refused g c o there =
    let s = source_over g.S.Source.seen c.args.input.now c.read_input.new.input in
    encoding_refused s (setting_beside c.args.ready.now.interface o c.args.ready.now.side (option_map (λ f. f.now.graph) c.args.given)) c.as_slice.result.now
    (subst (AreRead s TEXT_LIMIT) (sym c.as_slice.ensures)
    (record { taken = c.in_ok-text.ensures.octets; few = c.in_ok-text.ensures.few; whole = c.in_ok-text.ensures.whole; none_left = c.in_ok-text.ensures.none_left }))
    c.args.chunk c.encode.result (c.encode.ensures.refused o there)
