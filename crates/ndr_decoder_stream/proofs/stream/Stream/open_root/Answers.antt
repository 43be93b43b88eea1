use Rattle.std.proofs.Common.{length, ◌∙◌}
use Rattle.nd_flat.specs.Building.{closed, with_root}
use Rattle.nd_value.specs.declared.item.Home.TheVariants as home
use Rattle.ndr_decoder_state.specs.Seen.{state_of}
use Rattle.ndr_decoder_stream.specs.Seen.{between_of}
use Rattle.ndr_decoder_stream.proofs.Begun.{opened_types, opens_by}
use Rattle.ndr_decoder_stream.proofs.Opened.{closed_types}
use Rattle.ndr_decoder_stream.proofs.stream.Stream.open_root.Goals as goal

pub returns-clause-opens : goal.returns-clause-opens
returns-clause-opens c =
    let b = c.args.self.now.machine.builder in
    opens_by c.args.run (between_of c.args.self.now) _ (state_of c.add_root.new.machine) _ c.start.ensures.is c.in_ok-add_root.ensures.at
    (opened_types b c.add_root.new.machine.builder (home.Root (length b.graph.roots)) (with_root (closed b)) c.in_ok-add_root.ensures.builder ∙ closed_types b)
    c.in_ok-add_root.ensures.referents
