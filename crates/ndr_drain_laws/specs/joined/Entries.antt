-- The entries of a head and of chunks that were read, at their places in the stream.
-- `w` is a setting, `g` the graph of the head, `s` a spot, `p` a chunk as it was read, `before` are the octets before it.
use Rattle.std.specs.Prelude.{ℕ, List, [], ◌∷◌, ◌++◌, length}
use Rattle.nd_base.specs.declared.octets.Order.{Order}
use Rattle.nd_value.specs.declared.item.Item.{Item}
use Rattle.nd_value.specs.declared.value.Graph.{Graph}
use Rattle.nd_value.specs.Deferral.{Step}
use Rattle.nd_value.specs.Setting.{Setting}
use Rattle.nd_grammar.specs.Entry.{EntryAt, end_to_end}
use Rattle.nd_grammar.specs.Stream.{head_entries}
use Rattle.ndr_drain_laws.specs.parts.Parts.{Part, Spot, after, first_spot, part_entries, part_items}

-- the entries of chunks, one after the other from a spot on
abbrev pub parts_at : Setting → Spot → List Part → List EntryAt
parts_at w s [] = []
parts_at w s (p ∷ ps) = end_to_end s.place (part_entries w s (length p.elements) p.elements) ++ parts_at w (after s p) ps

-- the entries of a head, by these steps of deferral, and of the chunks after it
abbrev pub entries_to : Setting → Graph → List Step → List ℕ → List Part → List EntryAt
entries_to w g steps head parts = end_to_end 0 (head_entries w g steps) ++ parts_at w (first_spot w head) parts

-- the items of chunks, one after the other from a spot on
abbrev pub parts_items : Setting → Order → List ℕ → Spot → List Part → List Item
parts_items w order before s [] = []
parts_items w order before s (p ∷ ps) =
    part_items w order (before ++ p.octets) s p.elements ++ parts_items w order (before ++ p.octets) (after s p) ps
