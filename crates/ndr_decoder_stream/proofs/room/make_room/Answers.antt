use Rattle.std.proofs.Common.{length, refl, ap, sym, ◌∙◌}
use Rattle.nd_flat.specs.Building.{Building}
use Rattle.ndr_decoder_stream.proofs.room.make_room.Goals as goal

pub invariant_of-machine-clause-counted : goal.invariant_of-machine-clause-counted
invariant_of-machine-clause-counted c = c.args.machine.now.counted ∙ ap (λ (b : Building). length b.nodes) (sym (c.make_room_for_octets.ensures ∙ c.make_room.ensures))

pub invariant_of-machine-clause-numbered : goal.invariant_of-machine-clause-numbered
invariant_of-machine-clause-numbered c = c.args.machine.now.numbered ∙ ap (λ (b : Building). length b.graph.cells) (sym (c.make_room_for_octets.ensures ∙ c.make_room.ensures))

pub returns-clause-machine : goal.returns-clause-machine
returns-clause-machine c = record { at = refl; builder = c.make_room_for_octets.ensures ∙ c.make_room.ensures; referents = refl; fresh = refl; wanted = refl }
