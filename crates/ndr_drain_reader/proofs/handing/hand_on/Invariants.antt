use Rattle.std.proofs.Common.{◌≡◌, map, take}
use Rattle.nd_grammar.specs.decoded.Verdict.{with_items}
use Rattle.ndr_drain_laws.specs.reader.PartReader.{moved_item}
use Rattle.ndr_drain_reader.proofs.handing.hand_on.Given as goal

abbrev pub invariant-loop-at : goal.invariant-loop-at
invariant-loop-at l = l.items ≡ with_items (map (moved_item l.before) (take l.at l.own.items)) l.initial.items
