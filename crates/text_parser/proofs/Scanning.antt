-- Scans of strings and bytes, item by item.
use Rattle.std.proofs.Common.{◌≡◌, ℕ, Bool, true, false, cond, eqb, List, [], ◌∷◌, ◌++◌, Option, Some, None, option_map, MatchOption, refl, sym, ap, ap₂, subst, ◌∙◌, append_assoc, append-nil}
use Rattle.std.proofs.lemmas.Option.{same_Some}
use Rattle.std.proofs.lemmas.Bool.{eqb-true}
use Rattle.text_grammar.specs.Tokens.{IsQuoted}
use Rattle.text_grammar.specs.Runs.{after_quote}
use Rattle.text_grammar.proofs.Quoted.{First, TakesNoQuote}

no_quote : (rest : List ℕ) → after_quote rest ≡ None → (after : List ℕ) → rest ≡ 34 ∷ after → ⊥
no_quote rest e after is = let h : Some after ≡ None = sym (ap after_quote is) ∙ e in cc

a_quote : (rest after : List ℕ) → after_quote rest ≡ Some after → rest ≡ 34 ∷ after
a_quote [] after e = cc
a_quote (c ∷ cs) after e = by (eqb c 34) refl e where
  by : (b : Bool) → eqb c 34 ≡ b → cond b (Some cs) None ≡ Some after → c ∷ cs ≡ 34 ∷ after
  by true h e = ap₂ (λ x (l : List ℕ). x ∷ l) (eqb-true c 34 h) (same_Some _ _ e)
  by false h e = cc

-- what is quoted in a text, and what follows it
abbrev pub HasQuoted : First → List ℕ → List ℕ → Type 0
HasQuoted first body rest = (octets : List ℕ) × IsQuoted first body octets rest

-- the scan has come so far: what is quoted there is quoted from the start on, and the other way round, with these octets before
pub record Reaches (first : First) (body sofar rest : List ℕ) : Type 0 where
  pub forth : (octets after : List ℕ) → IsQuoted first rest octets after → IsQuoted first body (sofar ++ octets) after
  pub back : (octets after : List ℕ) → IsQuoted first body octets after → (os : List ℕ) × IsQuoted first rest os after × (octets ≡ sofar ++ os)

pub begun : (first : First) (body : List ℕ) → Reaches first body [] body
begun first body = record { forth = λ octets after s. s; back = λ octets after s. (octets, s, refl) }

module _ (first : First) (safe : TakesNoQuote first) (body : List ℕ) where
  pub one_more : (sofar rest after : List ℕ) (b : ℕ) → Reaches first body sofar rest → first rest ≡ Some (b, after) → Reaches first body (sofar ++ b ∷ []) after
  one_more sofar rest after b r e = record {
    forth = λ octets end s. subst (λ (l : List ℕ). IsQuoted first body l end) (sym (append_assoc sofar (b ∷ []) octets)) (r.forth (b ∷ octets) end (after, e, s));
    back = λ octets end s. let h = r.back octets end s in by h.0 octets end h.1 h.2;
  } where
    by : (os octets end : List ℕ) → IsQuoted first rest os end → octets ≡ sofar ++ os → (ps : List ℕ) × IsQuoted first after ps end × (octets ≡ (sofar ++ b ∷ []) ++ ps)
    by [] octets end s is = absurd (safe end (b, after) (ap first (sym s) ∙ e))
    by (c ∷ cs) octets end s is =
        let same : (b, after) ≡ (c, s.0) = same_Some _ _ (sym e ∙ s.1) in
        let head : b ≡ c = ap (λ x. x.0) same in
        let tail : after ≡ s.0 = ap (λ x. x.1) same in (
          cs,
          subst (λ (l : List ℕ). IsQuoted first l cs end) (sym tail) s.2,
          is ∙ ap (λ (x : ℕ). sofar ++ x ∷ cs) (sym head) ∙ sym (append_assoc sofar (b ∷ []) cs),
        )

  -- neither an item nor the closing quote comes
  pub unclosed : (sofar rest : List ℕ) → Reaches first body sofar rest → first rest ≡ None → after_quote rest ≡ None → (octets end : List ℕ) → IsQuoted first body octets end → ⊥
  unclosed sofar rest r none other octets end s = let h = r.back octets end s in by h.0 h.1 where
    by : (os : List ℕ) → IsQuoted first rest os end → ⊥
    by [] s = no_quote rest other end s
    by (b ∷ bs) s = let e : None ≡ Some (b, s.0) = sym none ∙ s.1 in cc

  -- the closing quote comes
  pub closes : (sofar rest after : List ℕ) → Reaches first body sofar rest → after_quote rest ≡ Some after → HasQuoted first body after
  closes sofar rest after r e = (sofar ++ [], r.forth [] after (a_quote rest after e))

  -- no item comes, so these are all octets
  pub whole : (sofar rest : List ℕ) → Reaches first body sofar rest → first rest ≡ None → (octets end : List ℕ) → IsQuoted first body octets end → sofar ≡ octets
  whole sofar rest r none octets end s = let h = r.back octets end s in by h.0 h.1 h.2 where
    by : (os : List ℕ) → IsQuoted first rest os end → octets ≡ sofar ++ os → sofar ≡ octets
    by [] s is = sym (is ∙ append-nil sofar)
    by (b ∷ bs) s is = let e : None ≡ Some (b, s.0) = sym none ∙ s.1 in cc

-- what an answer says by its view
pub match_option : {X Y : Type 0} (view : X → Y) (r : Option X) (P : Type 0) (Q : Y → Type 0) → (option_map view r ≡ None → P) → ((y : Y) → option_map view r ≡ Some y → Q y)
    → MatchOption r P (λ x. Q (view x))
match_option view None P Q p q = p refl
match_option view (Some x) P Q p q = q (view x) refl

-- a scan has come so far, by some octets
pub record HasReached (first : First) (body rest : List ℕ) : Type 0 where
  pub octets : List ℕ
  pub reaches : Reaches first body octets rest
