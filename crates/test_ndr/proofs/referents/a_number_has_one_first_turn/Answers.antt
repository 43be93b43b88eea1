use Rattle.std.proofs.Common.{ap, ◌∙◌}
use Rattle.ndr_refs.specs.Naming.{cell_of}
use Rattle.ndr_refs.proofs.Naming.{as_before, has_met, is_known}
use Rattle.test_ndr.proofs.referents.a_number_has_one_first_turn.Goals as goal

pub turn-first-requires : goal.turn-first-requires
turn-first-requires c d = record {
  known =
      is_known 1 d.meet.new.self d.in-Ok.cell
      (has_met 1 (record { 0 = 7 }) (record { 0 = 1 }) d.in-Ok.cell d.new-referents.result d.meet.new.self d.in-Ok.ensures).here;
}

pub turn-later-requires : goal.turn-later-requires
turn-later-requires c d = record {
  known =
      is_known 1 d.turn-first.new.self d.in-Ok.cell
      (ap (cell_of 1) d.turn-first.ensures.represented ∙ as_before 1 d.meet.new.self 1
      ∙ (has_met 1 (record { 0 = 7 }) (record { 0 = 1 }) d.in-Ok.cell d.new-referents.result d.meet.new.self d.in-Ok.ensures).here);
}
