-- What is noted of things one by one, each of which stands for some nodes.
use Rattle.std.proofs.Common.{◌≡◌, ◌∙◌, ℕ, ◌+◌, ◌<◌, ◌≤◌, List, [], ◌∷◌, ◌++◌, Option, drop, length, get_or, refl, ap, sym}
use Rattle.std.specs.List.{flat_map}
use Rattle.std.proofs.lemmas.List.{drop_more, drop_all}
use Rattle.std.proofs.lemmas.List.Concat.{flat_map-cons}
use Rattle.std.proofs.lemmas.Grind.{flat_map-append}
use Rattle.idl_rule_definitions.specs.Nodes.{World}
use Rattle.idl_rule_definitions.specs.Rules.{Breach}
use Rattle.idl_rule_definitions.specs.Noted.{noted}
use Rattle.idl_rule_definitions.proofs.Noted.{noted_more}

module _ {X Y : Type 0} (see : X → List Y) (of : Y → List Breach) (xs : List X) where
  -- the breaches of those that are left
  abbrev pub left : ℕ → List Breach
  left i = flat_map of (flat_map see (drop i xs))

  pub left_is : (i : ℕ) (x : X) → i < length xs → x ≡ get_or xs i x → left i ≡ flat_map of (see x) ++ left (i + 1)
  left_is i x below is =
      ap (λ l. flat_map of (flat_map see l)) (drop_more xs i x below ∙ ap (λ y. y ∷ drop (i + 1) xs) (sym is))
      ∙ ap (flat_map of) (flat_map-cons see x (drop (i + 1) xs))
      ∙ flat_map-append of (see x) (flat_map see (drop (i + 1) xs))

  -- one is noted, and the others are left
  pub one_noted : (w : World) (i : ℕ) (x : X) (first next all : Option Breach) → i < length xs → x ≡ get_or xs i x → next ≡ noted w first (flat_map of (see x))
      → noted w first (left i) ≡ all → noted w next (left (i + 1)) ≡ all
  one_noted w i x first next all below is e h =
      ap (λ o. noted w o (left (i + 1))) e
      ∙ sym (ap (λ l. noted w first l) (left_is i x below is) ∙ noted_more w first (flat_map of (see x)) (left (i + 1)))
      ∙ h

  pub none_left : (w : World) (i : ℕ) (first all : Option Breach) → length xs ≤ i → noted w first (left i) ≡ all → first ≡ all
  none_left w i first all past h = sym (ap (λ l. noted w first (flat_map of (flat_map see l))) (drop_all i xs past)) ∙ h
