-- A listing is its three parts.
use Rattle.std.proofs.Common.{◌≡◌, ◌∙◌, ℕ, List, [], ◌++◌, ap}
use Rattle.std.specs.List.{flat_map, enumerate_from}
use Rattle.nd_types.specs.Meant.{Meant}
use Rattle.idl_listing.specs.Listing.{header_line, type_lines, own_types, operation_lines, listing}

pub whole : (m : Meant) (none header types all : List ℕ) → none ≡ [] → header ≡ none ++ header_line m
    → types ≡ header ++ flat_map (type_lines m.types) (own_types m.types)
    → all ≡ types ++ flat_map (operation_lines m.types) (enumerate_from 0 m.operations) → all ≡ listing m
unfolding listing
whole m none header types all e f g h =
    h ∙ ap (λ t. t ++ flat_map (operation_lines m.types) (enumerate_from 0 m.operations))
    (g ∙ ap (λ t. t ++ flat_map (type_lines m.types) (own_types m.types)) (f ∙ ap (λ t. t ++ header_line m) e))
