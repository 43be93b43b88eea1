use Rattle.std.proofs.Common.{ap, sym, ◌∙◌, length}
use Rattle.nd_flat.specs.Building.{Building}
use Rattle.ndr_decoder_stream.proofs.Opened.{opened_length}
use Rattle.ndr_decoder_stream.proofs.elements.open_pipe.Goals as goal

pub invariant_of-machine-2 : goal.invariant_of-machine-2
invariant_of-machine-2 c = record {
  keepable = c.args.machine.now.keepable;
  small = c.args.machine.now.small;
  spans = c.args.machine.now.spans;
  counted = sym (ap (λ (b : Building). length b.nodes) c.in_ok-root.ensures.ok);
  numbered = c.args.machine.now.numbered ∙ sym (opened_length c.args.machine.now.builder c.root.new.self c.in_ok-root.ensures.ok);
}

pub invariant_of-machine-in-Break-branch-2 : goal.invariant_of-machine-in-Break-branch-2
invariant_of-machine-in-Break-branch-2 c = record {
  keepable = c.start.new.self.keepable;
  small = c.start.new.self.small;
  spans = c.start.new.self.spans;
  counted = c.start.new.self.counted ∙ ap (λ (b : Building). length b.nodes) (sym c.in_err-add.ensures.err);
  numbered = c.start.new.self.numbered ∙ ap (λ (b : Building). length b.graph.cells) (sym c.in_err-add.ensures.err);
}
