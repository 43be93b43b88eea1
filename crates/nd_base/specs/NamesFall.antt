-- Each step of a list of names makes it larger.
use Rattle.std.specs.Prelude.{ℕ, ◌+◌, ◌≤◌, List, [], ◌∷◌, ◌++◌}
use Rattle.std.proofs.Common.{arith, length-append}
use Rattle.nd_base.specs.declared.asked.Last.{Last}
use Rattle.nd_base.specs.declared.asked.Last.TheVariants.{Nothing, Name, Octet}
use Rattle.nd_base.specs.declared.asked.Names.TheDeep as deep
use Rattle.nd_base.specs.declared.asked.Names.TheInside as inside
use Rattle.nd_base.specs.NameLists.{with_octet, octets_and_names}
use Rattle.nd_base.specs.Asked.{names_of}

octet_more : (octet : ℕ) (names : List (List ℕ)) → octets_and_names names + 1 ≤ octets_and_names (with_octet octet names)
octet_more octet [] = omega arith
octet_more octet (name ∷ []) = omega (arith, length-append name (octet ∷ []))
octet_more octet (name ∷ next ∷ names) = omega (arith, octet_more octet (next ∷ names))

name_more : (names : List (List ℕ)) → octets_and_names names + 1 ≤ octets_and_names (names ++ [] ∷ [])
name_more [] = omega arith
name_more (name ∷ names) = omega (arith, name_more names)

pub names_fall : (a : inside.Inside) → deep.deep-Names a ≤ octets_and_names (names_of a.last)
names_fall a = go a.last
  where
    go : (l : Last) → deep.deep-Names (record { last = l }) ≤ octets_and_names (names_of l)
    go Nothing = omega arith
    go (Name before) = omega (arith, name_more before.value)
    go (Octet before octet) = omega (arith, octet_more octet before.value)
