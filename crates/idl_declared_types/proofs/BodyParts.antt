-- The parts of a body that is found by its place.
use Rattle.std.proofs.Common.{◌≡◌, ◌∙◌, ◌⊎◌, inl, inr, ℕ, ◌<◌, ◌≤◌, List, [], map, length, get_or, Option, Some, None, false, slice_get, refl, ap, sym, arith}
use Rattle.std.specs.Option.{option_and_then}
use Rattle.std.proofs.lemmas.Option.{slice_get_cases, slice_get_past, slice_get_read}
use Rattle.nd_base.specs.declared.octets.Place.{Place}
use Rattle.idl_constructs.specs.declared.nodes.Nodes as program_nodes
use Rattle.idl_declared_types.specs.declared.types.BodyTypes.{BodyTypes}
use Rattle.idl_declared_types.specs.declared.types.Types as program_types
use Rattle.idl_rule_definitions.specs.Types.{IdlType}
use Rattle.idl_rule_definitions.specs.Scene.{Scene, Body, bodies, body_of, parts_of, parts_of_found, is_found_nonencapsulated}
use Rattle.idl_declared_types.specs.Kinds.{type_at}
use Rattle.idl_declared_types.specs.Places.{found_place}
use Rattle.idl_declared_types.specs.SeenTypes.{IsTypes}
use Rattle.idl_declared_types.specs.InPlace.{parts_in_place}

by_place : (s : Scene) (place : Place) (o : Option Body) → body_of s place ≡ o → parts_in_place s place ≡ parts_of_found s.known o
by_place s place o e = ap (parts_of_found s.known) e

pub parts_found : (s : Scene) (n : program_nodes.Nodes) (t : program_types.Types) → IsTypes s n t → (place : Place) (j : ℕ) (b : BodyTypes)
    → found_place place t.by_place ≡ Some j → j < length t.bodies.items → b ≡ get_or t.bodies.items j b
    → map (type_at t.kinds) b.parts.items ≡ parts_in_place s place
parts_found s n t is place j b found below same = by (slice_get_cases (bodies s) j).1 where
  here : slice_get t.bodies.items j ≡ Some b
  here = slice_get_read t.bodies.items (length t.bodies.items) j b refl below same

  by : ((x : Body) × (j < length (bodies s)) × (slice_get (bodies s) j ≡ Some x) × (get_or (bodies s) j x ≡ x)) ⊎ ((length (bodies s) ≤ j) × (slice_get (bodies s) j ≡ None))
      → map (type_at t.kinds) b.parts.items ≡ parts_in_place s place
  by (inl (x, within, there, _)) =
      (is.body j x b there here).parts
      ∙ sym (by_place s place (Some x) (is.first place ∙ ap (option_and_then (λ i. slice_get (bodies s) i)) found ∙ there))
  by (inr past) = let e = is.body_count in let p = past.0 in absurd (omega (arith, below, e, p))

pub parts_missed : (s : Scene) (n : program_nodes.Nodes) (t : program_types.Types) → IsTypes s n t → (place : Place) (j : ℕ)
    → found_place place t.by_place ≡ Some j → length t.bodies.items ≤ j → [] ≡ parts_in_place s place
parts_missed s n t is place j found past =
    let e = is.body_count in
    sym (by_place s place None (is.first place ∙ ap (option_and_then (λ i. slice_get (bodies s) i)) found ∙ slice_get_past (bodies s) j (omega (arith, past, e))))

pub union_found : (s : Scene) (n : program_nodes.Nodes) (t : program_types.Types) → IsTypes s n t → (place : Place) (j : ℕ) (b : BodyTypes)
    → found_place place t.by_place ≡ Some j → j < length t.bodies.items → b ≡ get_or t.bodies.items j b
    → b.nonencapsulated ≡ is_found_nonencapsulated (body_of s place)
union_found s n t is place j b found below same = by (slice_get_cases (bodies s) j).1 where
  here : slice_get t.bodies.items j ≡ Some b
  here = slice_get_read t.bodies.items (length t.bodies.items) j b refl below same

  by : ((x : Body) × (j < length (bodies s)) × (slice_get (bodies s) j ≡ Some x) × (get_or (bodies s) j x ≡ x)) ⊎ ((length (bodies s) ≤ j) × (slice_get (bodies s) j ≡ None))
      → b.nonencapsulated ≡ is_found_nonencapsulated (body_of s place)
  by (inl (x, within, there, _)) =
      (is.body j x b there here).nonencapsulated
      ∙ sym (ap is_found_nonencapsulated (is.first place ∙ ap (option_and_then (λ i. slice_get (bodies s) i)) found ∙ there))
  by (inr past) = let e = is.body_count in let p = past.0 in absurd (omega (arith, below, e, p))

pub union_missed : (s : Scene) (n : program_nodes.Nodes) (t : program_types.Types) → IsTypes s n t → (place : Place) (j : ℕ)
    → found_place place t.by_place ≡ Some j → length t.bodies.items ≤ j → false ≡ is_found_nonencapsulated (body_of s place)
union_missed s n t is place j found past =
    let e = is.body_count in
    sym (ap is_found_nonencapsulated (is.first place ∙ ap (option_and_then (λ i. slice_get (bodies s) i)) found ∙ slice_get_past (bodies s) j (omega (arith, past, e))))
