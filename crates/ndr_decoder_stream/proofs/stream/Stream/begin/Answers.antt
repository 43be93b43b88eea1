use Rattle.std.proofs.Common.{ap, ◌∙◌, map}
use Rattle.nd_value.specs.declared.value.Graph.{Graph}
use Rattle.nd_flat.specs.Building.{Building, closed}
use Rattle.ndr_decoder_stream.specs.Seen.{pending_in}
use Rattle.ndr_decoder_stream.proofs.Begun.{can_close_none, closed_none}
use Rattle.ndr_decoder_stream.proofs.stream.Stream.begin.Goals as goal

pub returns-clause-begins : goal.returns-clause-begins
returns-clause-begins c = record {
  at = c.new-machine.ensures.at;
  pending = ap (pending_in c.new.result.items) c.new-2.ensures.items;
  cells = ap (λ (b : Building). map (λ x. x.of) b.graph.cells) c.new-machine.ensures.builder ∙ ap (λ (g : Graph). map (λ x. x.of) g.cells) c.requires.empty;
  numbers = c.new-machine.ensures.referents;
  roots = c.new-3.ensures.items;
  read = c.new-4.ensures;
  graph = ap closed c.new-machine.ensures.builder ∙ closed_none c.args.builder c.requires.no_home ∙ c.requires.empty;
}

pub returns-clause-whole : goal.returns-clause-whole
returns-clause-whole c = can_close_none c.args.builder _ c.new-machine.ensures.builder c.requires.no_home

pub returns-clause-builder : goal.returns-clause-builder
returns-clause-builder c = c.new-machine.ensures.builder
