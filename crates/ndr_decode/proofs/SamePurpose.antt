-- What a graph is for stays as it is while a home is read.
-- `b` is what was built before the home, `m` the machine when the home is open and `n` after its value, `d` what is built after the home was kept.
use Rattle.std.proofs.Common.{◌≡◌, ap, ◌∙◌}
use Rattle.nd_value.specs.declared.item.Home.{Home}
use Rattle.nd_value.specs.declared.value.Graph.{Graph}
use Rattle.nd_flat.specs.Building.{Building, opened}
use Rattle.ndr_decoder_state.specs.declared.machine.Machine.{Machine}
use Rattle.ndr_decoder_state.specs.Seen.{Outside, outside}
use Rattle.ndr_decode.specs.Streaming.{Purpose}

abbrev pub purpose_in : Building → Purpose
purpose_in b = record { op = b.op; side = b.side; interface = b.interface; given = b.given }

abbrev purpose_left : Outside → Purpose
purpose_left u = record { op = u.op; side = u.side; interface = u.interface; given = u.given }

pub same_purpose : (h : Home) (g : Graph) (b d : Building) (m n : Machine) → m.builder ≡ opened h g b → outside n ≡ outside m → d ≡ n.builder → purpose_in d ≡ purpose_in b
same_purpose h g b d m n opens out kept =
    ap (λ (u : Building). purpose_in u) kept ∙ ap (λ (u : Outside). purpose_left u) out ∙ ap (λ (u : Building). purpose_in u) opens
