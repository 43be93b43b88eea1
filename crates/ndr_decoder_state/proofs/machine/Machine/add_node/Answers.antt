use Rattle.std.proofs.Common.{ap, sym, ◌∙◌, length}
use Rattle.nd_flat.specs.Building.{Building}
use Rattle.ndr_decoder_state.proofs.machine.Machine.add_node.Goals as goal

pub invariant_of-self : goal.invariant_of-self
invariant_of-self c = record {
  keepable = c.args.self.now.keepable;
  small = c.args.self.now.small;
  spans = c.args.self.now.spans;
  counted = c.args.self.now.counted ∙ ap (λ (b : Building). length b.nodes) (sym c.in_err-add.ensures.err);
  numbered = c.args.self.now.numbered ∙ ap (λ (b : Building). length b.graph.cells) (sym c.in_err-add.ensures.err);
}
