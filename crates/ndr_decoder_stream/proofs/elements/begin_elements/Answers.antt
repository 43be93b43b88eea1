use Rattle.std.proofs.Common.{ap, sym, ◌∙◌, ◌+◌, ◌≤◌, length}
use Rattle.nd_flat.specs.Building.{Building}
use Rattle.ndr_decoder_state.specs.declared.machine.Owed.{Owed}
use Rattle.ndr_decoder_state.specs.Small.{IsSmall}
use Rattle.ndr_decoder_stream.proofs.Opened.{raised_length}
use Rattle.nd_lemmas.proofs.Lists.{all_of_none}
use Rattle.ndr_decoder_stream.proofs.elements.begin_elements.Goals as goal

pub invariant_of-machine-2 : goal.invariant_of-machine-2
invariant_of-machine-2 c = record {
  keepable = c.args.machine.now.keepable;
  small = all_of_none IsSmall c.clear-3.new.self.items c.clear-3.ensures.items;
  spans = all_of_none (λ (o : Owed). o.from + o.len ≤ length c.args.machine.now.wanted.items) c.clear-4.new.self.items c.clear-4.ensures.items;
  counted = c.args.machine.now.counted ∙ raised_length c.args.count c.args.machine.now.builder.nodes ∙ ap (λ (b : Building). length b.nodes) (sym c.chunk.ensures);
  numbered = c.args.machine.now.numbered ∙ ap (λ (b : Building). length b.graph.cells) (sym c.chunk.ensures);
}
