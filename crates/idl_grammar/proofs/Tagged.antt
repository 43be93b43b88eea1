-- A word, and a tag with a body or without one, or a body alone.
use Rattle.std.proofs.Common.{◌≡◌, ℕ, ◌≤◌, Bool, true, false, List, [], ◌∷◌, cond, length, refl, ap, ◌∙◌, ◌⊎◌, inl, inr, Option, Some, None, Ok}
use Rattle.idl_grammar.specs.Text.{Text, symbol_at, is, is_in, Rel, optional, ◌⊗◌, ◌∣◌}
use Rattle.idl_grammar.specs.ReadPhrases.{Read, and_then, turned, choice_read, option_read}
use Rattle.idl_grammar.proofs.Exact.{Exact, HasPhrase, pair_exact}
use Rattle.idl_grammar.proofs.Parts.{pair_has, optional_has}
use Rattle.idl_grammar.proofs.Sequences.{stops, Begins, disjoint, subset, pair_begins, option_exact, choice_exact, choice_has, fewer_stops}
use Rattle.idl_grammar.specs.declared.words.Spelling.{Spelling}
use Rattle.idl_grammar.specs.Expressions.{names, placed, ident}
use Rattle.idl_grammar.specs.Tree.{TypeSpec}
use Rattle.idl_grammar.specs.ReadExpressions.{placed_read, ident_read}
use Rattle.idl_grammar.specs.Reading.{branch_read, bind_read, tagged_read}
use Rattle.idl_grammar.proofs.Combine.{branch_is, bind_is, bind_alike, turned_twice, placed_exact, placed_begins, ident_exact, ident_has, ident_begins}
use Rattle.idl_grammar.proofs.TypeParts.{type_ends}

abbrev pub Tagging : Type 0 → Type 0
Tagging B = (Spelling × Option B) ⊎ B

module _ {B : Type 0} (alone : ℕ → Spelling → TypeSpec) (full : ℕ → Option Spelling → B → TypeSpec) where
  -- what is made of a tag, and a body where it stands
  abbrev pub with_tag : ℕ → Spelling → Option B → TypeSpec
  with_tag at tag None = alone at tag
  with_tag at tag (Some b) = full at (Some tag) b

  abbrev pub tagging_of : ℕ → Tagging B → TypeSpec
  tagging_of at (inl q) = with_tag at q.0 q.1
  tagging_of at (inr b) = full at None b

  abbrev pub tagged_of : ℕ × Tagging B → TypeSpec
  tagged_of p = tagging_of p.0 p.1

  option_case : (at : ℕ) (tag : Spelling) (b : Bool) (r : Read B) (m : ℕ)
      → turned (with_tag at tag) (cond b (turned Some r) (Ok (None, m))) ≡ cond b (turned (full at (Some tag)) r) (Ok (alone at tag, m))
  option_case at tag true r m = turned_twice Some (with_tag at tag) r
  option_case at tag false r m = refl

  module _ (firsts : List ℕ) (t : Text) (body : ℕ → Read B) where
    abbrev pub tagging_read : ℕ → Read (Tagging B)
    tagging_read m = choice_read (names false) t m (and_then (ident_read false t m) (λ tag o. option_read firsts t body o)) (body m)

    -- the parts, and what is made of them at once
    tagging_is : (at m : ℕ) → turned (tagging_of at) (tagging_read m) ≡ tagged_read firsts t (alone at) (λ tag o. turned (full at tag) (body o)) m
    tagging_is at m =
        branch_is (tagging_of at) (names false) t m (and_then (ident_read false t m) (λ tag o. option_read firsts t body o)) (body m)
        ∙ ap (λ (r : Read TypeSpec). branch_read (names false) t m r (turned (full at None) (body m)))
        (bind_is (with_tag at) (ident_read false t m) (λ tag o. option_read firsts t body o)
        ∙ bind_alike (ident_read false t m) _ _ (λ tag o. option_case at tag (is_in firsts (symbol_at t o)) (body o) o))

    pub tagged_is : (s i : ℕ) → turned tagged_of (and_then (placed_read s t i) (λ at m. tagging_read m))
        ≡ bind_read (placed_read s t i) (λ at m. tagged_read firsts t (alone at) (λ tag o. turned (full at tag) (body o)) m)
    tagged_is s i = bind_is tagging_of (placed_read s t i) (λ at m. tagging_read m) ∙ bind_alike (placed_read s t i) _ _ tagging_is

-- ## the phrases

module _ {B : Type 0} (P : Rel B) (firsts : List ℕ) (P_begins : Begins P firsts) (P_has : HasPhrase P) (ending : subset firsts type_ends ≡ true) (no_names : disjoint firsts (names false) ≡ true) where
  abbrev pub tagging : Rel (Tagging B)
  tagging = (ident false ⊗ optional P) ∣ P

  abbrev pub tagged : ℕ → Rel (ℕ × Tagging B)
  tagged s = placed s ⊗ tagging

  tag_begins : Begins (ident false ⊗ optional P) (names false)
  tag_begins = pair_begins (ident false) (optional P) (names false) (ident_begins false)

  tagging_has : HasPhrase tagging
  tagging_has = choice_has (ident false ⊗ optional P) P (pair_has _ _ (ident_has false) (optional_has P))

  pub tagged_begins : (s : ℕ) → is 0 s ≡ false → Begins (tagged s) (s ∷ [])
  tagged_begins s real = pair_begins (placed s) tagging (s ∷ []) (placed_begins s real)

  pub tagged_exact : (s : ℕ) → is 0 s ≡ false → (t : Text) (i : ℕ) → i ≤ length t → (body : ℕ → Read B) → ((m : ℕ) → m ≤ length t → Exact P (stops []) t m (body m))
      → Exact (tagged s) (stops type_ends) t i (and_then (placed_read s t i) (λ at m. choice_read (names false) t m (and_then (ident_read false t m) (λ tag o. option_read firsts t body o)) (body m)))
  tagged_exact s real t i in_text body exact =
      pair_exact (placed s) tagging (stops []) (stops type_ends) (λ lifted x m j b ph stop. refl) tagging_has t i (placed_read s t i) _ (placed_exact s real (stops []) t i in_text)
      (λ at m found.
      choice_exact (ident false ⊗ optional P) P (names false) firsts tag_begins P_begins no_names (stops type_ends) t m _ (body m)
      (λ h.
      pair_exact (ident false) (optional P) (stops []) (stops type_ends) (λ lifted x m j b ph stop. refl) (optional_has P) t m (ident_read false t m) (λ tag o. option_read firsts t body o)
      (ident_exact false (stops []) t m found.within)
      (λ tag o found_tag. option_exact P firsts [] type_ends t o P_begins ending refl found_tag.within body (exact o found_tag.within)))
      (fewer_stops P [] type_ends t m refl (body m) (exact m found.within)))
