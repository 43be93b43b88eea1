-- Where no rule is broken, there are not too many types and operations.
use Rattle.std.proofs.Common.{◌≡◌, ℕ, ◌+◌, ◌-◌, ◌≤◌, List, [], ◌∷◌, ◌++◌, map, length, refl, sym, ap, arith, ◌∙◌}
use Rattle.std.specs.Prelude.{take, drop}
use Rattle.std.specs.List.{flat_map}
use Rattle.std.proofs.lemmas.List.{length-drop}
use Rattle.nd_types.specs.declared.TheConstants.{TYPE_LIMIT}
use Rattle.nd_types.specs.Kinds.{basic_types}
use Rattle.idl_rule_definitions.specs.Nodes.{place_in}
use Rattle.idl_rule_definitions.specs.Scene.{Scene}
use Rattle.idl_rule_definitions.specs.Rules.{breach, breaches_at, breaches_in}
use Rattle.idl_rule_definitions.specs.DeclarationRules.{first_past, too_many, types_too_many, operations_too_many, parameters_too_many, parts_too_many}
use Rattle.idl_rule_definitions.specs.Numbering.{own_types}
use Rattle.idl_rule_definitions.specs.Meaning.{definition, types_of}
use Rattle.idl_legal_laws.proofs.Kept.{neither}
use Rattle.idl_rule_definitions.specs.declared.rule.TheConstants as Rule
use Rattle.nd_lemmas.proofs.Lists.{length_map as mapped}

none_mapped : {X Y : Type 0} (f : X → Y) (xs : List X) → map f xs ≡ [] → xs ≡ []
none_mapped f [] h = refl
none_mapped f (x ∷ xs) h = absurd (let e : f x ∷ map f xs ≡ [] = h in cc)

none_taken : {X : Type 0} (xs : List X) → take 1 xs ≡ [] → xs ≡ []
none_taken [] h = refl
none_taken (x ∷ xs) h = absurd (let e : x ∷ [] ≡ [] = h in cc)

pub few : {X : Type 0} (n : ℕ) (xs : List X) → first_past n xs ≡ [] → length xs ≤ n
few n xs h = let e : length xs - n ≡ 0 = sym (length-drop n xs) ∙ ap length (none_taken (drop n xs) h) in omega (arith, e)

pub none_too_many : (s : Scene) → breaches_in s ≡ [] → too_many s ≡ []
none_too_many s h =
    none_mapped (λ c. breach Rule.COUNTS (place_in c c.at)) (too_many s)
    (neither (flat_map (λ n. breaches_at s n.names n.node) s.nodes) (map (λ c. breach Rule.COUNTS (place_in c c.at)) (too_many s)) h).1

pub joined : {X : Type 0} (xs ys : List X) → length (xs ++ ys) ≡ length xs + length ys
joined [] ys = omega (arith)
joined (x ∷ xs) ys = let e = joined xs ys in omega (arith, e)

pub few_types : (s : Scene) → breaches_in s ≡ [] → length (types_of s) ≤ TYPE_LIMIT
few_types s h =
    let a = neither (types_too_many s ++ operations_too_many s ++ parameters_too_many s) (parts_too_many s) (none_too_many s h) in
    let b = neither (types_too_many s ++ operations_too_many s) (parameters_too_many s) a.0 in
    let c = neither (types_too_many s) (operations_too_many s) b.0 in
    let d : length (map (λ n. n.construct) (own_types s)) ≤ TYPE_LIMIT - length basic_types = few (TYPE_LIMIT - length basic_types) (map (λ n. n.construct) (own_types s)) c.0 in
    let e = mapped (λ n. n.construct) (own_types s) in
    let f = mapped (λ n. definition s n.type) (own_types s) in
    let g = joined basic_types (map (λ n. definition s n.type) (own_types s)) in
    omega (arith, d, e, f, g)
