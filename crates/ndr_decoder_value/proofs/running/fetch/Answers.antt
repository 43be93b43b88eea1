use Rattle.std.proofs.Common.{sym, subst}
use Rattle.nd_base.specs.Over.{source_over}
use Rattle.ndr_decoder_laws.specs.steps.Steps.{wants}
use Rattle.ndr_decoder_state.specs.Seen.{state_of}
use Rattle.ndr_decoder_value.specs.Reaching.{Fetches}
use Rattle.ndr_decoder_value.proofs.Fetching.{item_fetched}
use Rattle.ndr_decoder_value.proofs.running.fetch.Goals as goal

pub returns-in-Item-clause-fetched : goal.returns-in-Item-clause-fetched
returns-in-Item-clause-fetched g c =
    let m = c.args.machine.now in
    let source = source_over g.S.Source.seen c.args.source.now c.item.new.source in
    subst (Fetches (wants c.args.values.now c.args.instr (state_of m)) m.at source c.item.new.self) (sym c.fetched-in-Item.ensures)
    (item_fetched (wants c.args.values.now c.args.instr (state_of m)) c.in-Item.count m.at source c.item.new.self c.item.result c.in-Item.ensures.wants c.item.ensures.all
    c.item.ensures.within c.item.ensures.too_long c.item.ensures.fault)
