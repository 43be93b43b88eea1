-- The cells that pointers have named, as a map keeps them.
use Rattle.std.proofs.Common.{◌≡◌, ◌≤◌, ◌<◌, ℕ, Bool, true, false, eqb, cond, List, [], ◌∷◌, ◌++◌, Option, Some, None, option_map, refl, sym, ap, subst, ◌∙◌, arith}
use Rattle.std.proofs.lemmas.Bool.{eq-eqb, eqb-true, both_ways, false_from_ne_true}
use Rattle.std.specs.Map.{lookup}
use Rattle.nd_types.specs.declared.types.TypeId.{TypeId}
use Rattle.text_grammar.specs.Dues.{named_type, with_name}
use Rattle.text_parser.specs.NamedCells.{backwards, found, Agrees, HasNoneAfter}

pub backwards_more : (es : List (ℕ × TypeId)) (c : ℕ) (t : TypeId) → backwards (es ++ (c, t) ∷ []) ≡ (c, t.0) ∷ backwards es
backwards_more [] c t = refl
backwards_more (e ∷ es) c t = ap (λ (l : List (ℕ × ℕ)). l ++ (e.0, e.1.0) ∷ []) (backwards_more es c t)

-- a cell that has no entry gets one
lookup_new : (es : List (ℕ × TypeId)) (c q : ℕ) (t : TypeId) → lookup (eqb q) es ≡ None → eqb q c ≡ true → lookup (eqb q) (es ++ (c, t) ∷ []) ≡ Some t
lookup_new [] c q t h e = ap (λ b. cond {A = Option TypeId} b (Some t) None) e
lookup_new (x ∷ es) c q t h e = by (eqb q x.0) h (λ k. lookup_new es c q t k e) where
  by : (b : Bool) → cond {A = Option TypeId} b (Some x.1) (lookup (eqb q) es) ≡ None → (lookup (eqb q) es ≡ None → lookup (eqb q) (es ++ (c, t) ∷ []) ≡ Some t)
      → cond {A = Option TypeId} b (Some x.1) (lookup (eqb q) (es ++ (c, t) ∷ [])) ≡ Some t
  by true h again = cc
  by false h again = again h

lookup_old : (es : List (ℕ × TypeId)) (c q : ℕ) (t : TypeId) → eqb q c ≡ false → lookup (eqb q) (es ++ (c, t) ∷ []) ≡ lookup (eqb q) es
lookup_old [] c q t e = ap (λ b. cond {A = Option TypeId} b (Some t) None) e
lookup_old (x ∷ es) c q t e = ap (λ r. cond {A = Option TypeId} (eqb q x.0) (Some x.1) r) (lookup_old es c q t e)

pub is_new : (es : List (ℕ × TypeId)) (c : ℕ) → Agrees es → named_type (backwards es) c ≡ None → lookup (eqb c) es ≡ None
is_new es c a n = by (lookup (eqb c) es) (a c ∙ n) where
  by : (o : Option TypeId) → option_map (λ t. t.0) o ≡ None → o ≡ None
  by None e = refl
  by (Some t) e = cc

pub agrees_more : (es : List (ℕ × TypeId)) (c : ℕ) (t : TypeId) → Agrees es → lookup (eqb c) es ≡ None → Agrees (es ++ (c, t) ∷ [])
agrees_more es c t a n q = by (eqb c q) refl ∙ ap (λ (l : List (ℕ × ℕ)). named_type l q) (sym (backwards_more es c t)) where
  by : (b : Bool) → eqb c q ≡ b → found (es ++ (c, t) ∷ []) q ≡ elim (eqb c q) [ true ↦ Some t.0 | false ↦ named_type (backwards es) q ]
  by true e =
      let same : c ≡ q = eqb-true c q e in
      ap (option_map (λ (u : TypeId). u.0)) (lookup_new es c q t (subst (λ (x : ℕ). lookup (eqb x) es ≡ None) same n) (eq-eqb q c (sym same)))
      ∙ sym (ap (λ b. elim b [ true ↦ Some t.0 | false ↦ named_type (backwards es) q ]) e)
  by false e =
      let other : eqb q c ≡ false = false_from_ne_true (eqb q c) (λ k. both_ways (eqb c q) e (eq-eqb c q (sym (eqb-true q c k)))) in
      ap (option_map (λ (u : TypeId). u.0)) (lookup_old es c q t other) ∙ a q
      ∙ sym (ap (λ b. elim b [ true ↦ Some t.0 | false ↦ named_type (backwards es) q ]) e)

pub none_more : (es : List (ℕ × TypeId)) (c m n : ℕ) (t : TypeId) → HasNoneAfter es m → m ≤ n → c ≤ n → HasNoneAfter (es ++ (c, t) ∷ []) n
none_more es c m n t none more new = λ q after. ap (option_map (λ (u : TypeId). u.0)) (lookup_old es c q t (other q after)) ∙ none q (omega (arith, more, after)) where
  other : (q : ℕ) → n < q → eqb q c ≡ false
  other q after = false_from_ne_true (eqb q c) (λ k. omega (arith, eqb-true q c k, new, after))

-- ## One pointer

pub known_name : (ns : List (ℕ × ℕ)) (c t u : ℕ) → named_type ns c ≡ Some u → ns ≡ with_name ns c t
known_name ns c t u h = sym (ap (λ (o : Option ℕ). elim o [ None ↦ (c, t) ∷ ns | Some w ↦ ns ]) h)
