-- What is noted of an attribute configuration file, part by part.
use Rattle.std.proofs.Common.{◌≡◌, ◌∙◌, ℕ, ◌+◌, ◌<◌, ◌≤◌, Bool, true, false, List, [], ◌∷◌, ◌++◌, Option, Some, None, refl, ap, sym, map, drop, length, get_or, append-nil}
use Rattle.std.specs.List.{flat_map}
use Rattle.std.proofs.lemmas.List.{drop_more, drop_all}
use Rattle.idl_grammar.specs.Tree as idl
use Rattle.acf_reader.specs.declared.tree.Attribute.{Attribute}
use Rattle.acf_reader.specs.Grammar.{Parameter}
use Rattle.idl_rule_definitions.specs.Nodes.{World}
use Rattle.idl_rule_definitions.specs.Rules.{Breach}
use Rattle.idl_rule_definitions.specs.Noted.{noted, if_broken}
use Rattle.idl_check.specs.AcfRules.{acf_file, broken_at, breaches_of_operation}
use Rattle.idl_rule_definitions.proofs.Noted.{noted_more}

pub if_acf_broken : (at : ℕ) (b : Bool) → if_broken 40 (record { file = acf_file; at = at }) b ≡ broken_at at b
if_acf_broken at true = refl
if_acf_broken at false = refl

-- one part after another
pub then_noted : (w : World) (first second third : Option Breach) (xs ys : List Breach) → second ≡ noted w first xs → third ≡ noted w second ys → third ≡ noted w first (xs ++ ys)
then_noted w first second third xs ys e f = f ∙ ap (λ o. noted w o ys) e ∙ sym (noted_more w first xs ys)

-- the same of equal parts
pub operation_is : (at : ℕ) {a b : List Attribute} {ps qs : List Parameter} {found other : Option (List idl.Parameter)} → a ≡ b → ps ≡ qs → found ≡ other
    → breaches_of_operation at a ps found ≡ breaches_of_operation at b qs other
operation_is at {a = a} {b = b} {ps = ps} {qs = qs} {found = found} {other = other} e f g =
    ap (λ x. breaches_of_operation at x ps found) e ∙ ap (λ x. breaches_of_operation at b x found) f ∙ ap (breaches_of_operation at b qs) g

module _ {X Y : Type 0} (see : X → Y) (breaches : Y → List Breach) (xs : List X) where
  -- what is noted of those that are left
  abbrev pub noted_from : World → Option Breach → ℕ → Option Breach
  noted_from w first i = noted w first (flat_map breaches (map see (drop i xs)))

  pub one_part : (w : World) (first next : Option Breach) (i : ℕ) (x : X) → i < length xs → x ≡ get_or xs i x → next ≡ noted w first (breaches (see x))
      → noted_from w next (i + 1) ≡ noted_from w first i
  one_part w first next i x below is e =
      ap (λ o. noted w o (flat_map breaches (map see (drop (i + 1) xs)))) e
      ∙ sym (noted_more w first (breaches (see x)) (flat_map breaches (map see (drop (i + 1) xs))))
      ∙ ap (λ l. noted w first (flat_map breaches (map see l))) (ap (λ y. y ∷ drop (i + 1) xs) is ∙ sym (drop_more xs i x below))

  pub no_part : (w : World) (first : Option Breach) (i : ℕ) → length xs ≤ i → noted_from w first i ≡ first
  no_part w first i past = ap (λ l. noted w first (flat_map breaches (map see l))) (drop_all i xs past)
