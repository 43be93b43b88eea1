-- Declarators are read exactly.
use Rattle.std.proofs.Common.{◌≡◌, ℕ, ◌+◌, ◌≤◌, true, false, List, [], ◌∷◌, length, refl, sym, ap, subst, arith, ◌∙◌, ◌⊎◌, inl, inr, Option, Some, None}
use Rattle.std.proofs.lemmas.Bool.{eqb-true}
use Rattle.idl_grammar.specs.Text.{Text, symbol_at, is_in, Lifted, Rel, mark, many, optional, made, ◌⊗◌, ◌⊳◌, ◌∣◌}
use Rattle.idl_grammar.specs.ReadPhrases.{mark_read, list_read, behind_read}
use Rattle.idl_grammar.proofs.Exact.{Exact, HasPhrase, Part, pair_exact, turned_exact}
use Rattle.idl_grammar.proofs.Parts.{marked, mark_exact, mark_has, pair_has, turned_has, optional_has, many_has}
use Rattle.idl_grammar.proofs.Sequences.{stops, Begins, subset, disjoint, meets_or, meets_first, skip_exact, skip_begins, pair_begins, or_pair_begins, option_exact, option_begins, list_exact}
use Rattle.idl_grammar.proofs.Sequences.{list_begins, separated_exact, separated_has, separated_begins, bracketed_exact, bracketed_begins, made_exact, made_begins}
use Rattle.idl_grammar.specs.declared.words.Spelling.{Spelling}
use Rattle.idl_grammar.specs.Symbols as symbol
use Rattle.idl_grammar.specs.Expressions.{names, placed, ident, outer}
use Rattle.idl_grammar.specs.Tree as tree
use Rattle.idl_grammar.specs.Tree.{Expr, Bound, Declarator}
use Rattle.idl_grammar.specs.ReadExpressions.{placed_read, ident_read, outer_read}
use Rattle.idl_grammar.specs.Grammar.{bound, dimension, declarator, declarators}
use Rattle.idl_grammar.specs.Reading.{unless_read, upper_read, range_of, range_read, bound_read, dimension_read, declarator_of, declarator_read, declarators_read}
use Rattle.idl_grammar.proofs.Combine.{changed_exact, branch_exact, mark_begins, placed_exact, placed_begins, either, either_exact, either_begins, ident_exact, ident_has, ident_begins, before}
use Rattle.idl_grammar.proofs.Combine.{unless_exact, before_meets}
use Rattle.idl_grammar.proofs.OuterExact.{expr_firsts, expr_ends, outer_exact, outer_begins}
use Rattle.idl_grammar.proofs.AttributesExact.{star_not_name}

-- ## bounds

-- what goes on with a bound
unfoldable pub bound_ends : List ℕ
bound_ends = symbol.DotDot ∷ expr_ends

-- what a bound begins with
unfoldable pub bound_firsts : List ℕ
bound_firsts = symbol.Star ∷ expr_firsts false

star_apart : disjoint (expr_firsts false) (symbol.Star ∷ []) ≡ true
unfolding expr_firsts names
star_apart = refl

dots_apart : disjoint (symbol.DotDot ∷ []) expr_ends ≡ true
unfolding expr_ends
dots_apart = refl

dots_end : subset (symbol.DotDot ∷ []) bound_ends ≡ true
unfolding bound_ends
dots_end = refl

exprs_end : subset expr_ends bound_ends ≡ true
unfolding bound_ends expr_ends
exprs_end = refl

star_first : subset (symbol.Star ∷ []) bound_firsts ≡ true
unfolding bound_firsts
star_first = refl

exprs_first : subset (expr_firsts false) bound_firsts ≡ true
unfolding bound_firsts expr_firsts names
exprs_first = refl

bound_closes : is_in bound_ends symbol.CloseSquare ≡ false
unfolding bound_ends expr_ends
bound_closes = refl

bound_no_close : is_in bound_firsts symbol.CloseSquare ≡ false
unfolding bound_firsts expr_firsts names
bound_no_close = refl

module _ (depth : ℕ) where
  abbrev upper : Rel (Option Expr)
  upper None = mark symbol.Star
  upper (Some e) = outer false depth e

  abbrev upper_of : Unit {0} ⊎ Expr → Option Expr
  upper_of (inl u) = None
  upper_of (inr e) = Some e

  upper_forth : (lifted : Lifted) (x : Text) (i j : ℕ) (a : Unit {0} ⊎ Expr) → (marked symbol.Star ∣ outer false depth) a lifted x i j → upper (upper_of a) lifted x i j
  upper_forth lifted x i j (inl u) ph = ph
  upper_forth lifted x i j (inr e) ph = ph

  upper_back : (lifted : Lifted) (x : Text) (i j : ℕ) (c : Option Expr) → upper c lifted x i j → Part (marked symbol.Star ∣ outer false depth) upper upper_of lifted x i j c
  upper_back lifted x i j None ph = record { part = inl tt; is = refl; phrase = ph }
  upper_back lifted x i j (Some e) ph = record { part = inr e; is = refl; phrase = ph }

  upper_has : HasPhrase upper
  upper_has = turned_has (marked symbol.Star) upper (λ u. None) (λ lifted x i j a ph. ph) (mark_has symbol.Star refl)

  abbrev range_parts : Rel (Expr × Option (Option Expr))
  range_parts = outer false depth ⊗ optional (symbol.DotDot ⊳ upper)

  abbrev ranges : Rel Bound
  ranges = made range_of range_parts

  abbrev stars : Rel Bound
  stars = made (λ (u : Unit {0}). tree.Star) (marked symbol.Star)

  bound_forth : (lifted : Lifted) (x : Text) (i j : ℕ) (c : Bound) → either stars ranges c lifted x i j → bound depth c lifted x i j
  unfolding bound
  bound_forth lifted x i j c (inl ph) = subst (λ (v : Bound). bound depth v lifted x i j) (sym ph.1) ph.2
  bound_forth lifted x i j c (inr ph) = subst (λ (v : Bound). bound depth v lifted x i j) (sym ph.1) (by_case ph.0 ph.2) where
    by_case : (p : Expr × Option (Option Expr)) → range_parts p lifted x i j → bound depth (range_of p) lifted x i j
    by_case (e, None) q = subst (λ (k : ℕ). outer false depth e lifted x i k) (sym q.2) q.1
    by_case (e, Some None) q = q
    by_case (e, Some (Some f)) q = q

  bound_back : (lifted : Lifted) (x : Text) (i j : ℕ) (c : Bound) → bound depth c lifted x i j → either stars ranges c lifted x i j
  unfolding bound
  bound_back lifted x i j tree.Star ph = inl (tt, refl, ph)
  bound_back lifted x i j (tree.Count e) ph = inr ((e, None), refl, (j, ph, refl))
  bound_back lifted x i j (tree.From e) ph = inr ((e, Some None), refl, ph)
  bound_back lifted x i j (tree.Between e f) ph = inr ((e, Some (Some f)), refl, ph)

  stars_begin : Begins stars (symbol.Star ∷ [])
  stars_begin = made_begins (λ (u : Unit {0}). tree.Star) (marked symbol.Star) (symbol.Star ∷ []) (mark_begins symbol.Star refl)

  ranges_begin : Begins ranges (expr_firsts false)
  ranges_begin = made_begins range_of range_parts (expr_firsts false) (pair_begins (outer false depth) (optional (symbol.DotDot ⊳ upper)) (expr_firsts false) (outer_begins false depth))

  pub bound_begins : Begins (bound depth) bound_firsts
  bound_begins lifted x i j c ph =
      either_begins stars ranges (symbol.Star ∷ []) (expr_firsts false) stars_begin ranges_begin star_apart bound_firsts star_first exprs_first lifted x i j c (bound_back lifted x i j c ph)

  module _ (nesting : ℕ) (enough : 129 ≤ nesting) (shallow : depth ≤ 64) (t : Text) where
    upper_exact : (i : ℕ) → i ≤ length t → Exact upper (stops expr_ends) t i (upper_read nesting t depth i)
    unfolding upper_read
    upper_exact i in_text =
        branch_exact (marked symbol.Star) (outer false depth) upper upper_of (symbol.Star ∷ []) (expr_firsts false) (mark_begins symbol.Star refl)
        (outer_begins false depth) star_apart upper_forth upper_back
        (stops expr_ends) t i (mark_read symbol.Star t i) (outer_read nesting false t depth i) (λ h. mark_exact symbol.Star refl (stops expr_ends) t i in_text)
        (outer_exact nesting false t depth i enough shallow in_text)

    range_exact : (i : ℕ) → i ≤ length t → Exact ranges (stops bound_ends) t i (range_read nesting t depth i)
    unfolding range_read
    range_exact i in_text =
        made_exact range_of range_parts (stops bound_ends) t i _
        (pair_exact (outer false depth) (optional (symbol.DotDot ⊳ upper)) (stops expr_ends) (stops bound_ends)
        (meets_or (optional (symbol.DotDot ⊳ upper)) (symbol.DotDot ∷ []) expr_ends bound_ends
        (option_begins (symbol.DotDot ⊳ upper) (symbol.DotDot ∷ []) (skip_begins symbol.DotDot upper)) dots_apart exprs_end)
        (optional_has (symbol.DotDot ⊳ upper)) t i (outer_read nesting false t depth i) _ (outer_exact nesting false t depth i enough shallow in_text)
        (λ e m found.
        option_exact (symbol.DotDot ⊳ upper) (symbol.DotDot ∷ []) expr_ends bound_ends t m (skip_begins symbol.DotDot upper) dots_end exprs_end found.within
        (behind_read symbol.DotDot t (upper_read nesting t depth))
        (skip_exact symbol.DotDot upper (stops expr_ends) t m refl found.within upper_has (upper_read nesting t depth) (λ o after in_o. upper_exact o in_o))))

    pub bound_exact : (i : ℕ) → i ≤ length t → Exact (bound depth) (stops bound_ends) t i (bound_read nesting t depth i)
    unfolding bound_read
    bound_exact i in_text =
        changed_exact (either stars ranges) (bound depth) bound_forth (stops bound_ends) t i (λ lifted x e c j ph stop. bound_back lifted x i j c ph) _
        (either_exact stars ranges (symbol.Star ∷ []) (expr_firsts false) stars_begin ranges_begin star_apart (stops bound_ends) t i _ _
        (λ h. made_exact (λ (u : Unit {0}). tree.Star) (marked symbol.Star) (stops bound_ends) t i (mark_read symbol.Star t i) (mark_exact symbol.Star refl (stops bound_ends) t i in_text))
        (range_exact i in_text))

-- ## dimensions

module _ (nesting : ℕ) (enough : 129 ≤ nesting) (t : Text) (depth : ℕ) where
  pub dimension_exact : (i : ℕ) → i ≤ length t → Exact (dimension depth) (stops []) t i (dimension_read nesting t depth i)
  unfolding dimension dimension_read
  dimension_exact i in_text =
      bracketed_exact depth symbol.OpenSquare symbol.CloseSquare (optional (bound (depth + 1))) refl refl
      (before (bound (depth + 1)) bound_firsts (bound_begins (depth + 1)) symbol.CloseSquare bound_no_close) (stops []) t i in_text
      (before_meets symbol.CloseSquare) (optional_has (bound (depth + 1))) (unless_read symbol.CloseSquare t (bound_read nesting t (depth + 1)))
      (λ room m after in_m.
      unless_exact (bound (depth + 1)) bound_firsts (bound_begins (depth + 1)) symbol.CloseSquare bound_no_close (stops bound_ends)
      (λ x j stop. ap (λ (s : ℕ). is_in bound_ends s) (eqb-true (symbol_at x j) symbol.CloseSquare stop) ∙ bound_closes) t m in_m (bound_read nesting t (depth + 1))
      (bound_exact (depth + 1) nesting enough (omega arith) t m in_m))

pub dimension_begins : (depth : ℕ) → Begins (dimension depth) (symbol.OpenSquare ∷ [])
unfolding dimension
dimension_begins depth = bracketed_begins depth symbol.OpenSquare symbol.CloseSquare (optional (bound (depth + 1))) refl refl

-- ## declarators

abbrev declarator_parts : ℕ → Rel (List ℕ × (Spelling × List (Option Bound)))
declarator_parts depth = many (placed symbol.Star) ⊗ (ident false ⊗ many (dimension depth))

pub declarator_has : (depth : ℕ) → HasPhrase (declarator depth)
unfolding declarator
declarator_has depth =
    turned_has (declarator_parts depth) (declarator depth) declarator_of (λ lifted x i j a ph. ph)
    (pair_has _ _ (many_has (placed symbol.Star)) (pair_has _ _ (ident_has false) (many_has (dimension depth))))

-- what a declarator begins with
unfoldable pub declarator_firsts : List ℕ
declarator_firsts = symbol.Star ∷ names false

pub star_declares : subset (symbol.Star ∷ []) declarator_firsts ≡ true
unfolding declarator_firsts
star_declares = refl

pub name_declares : subset (names false) declarator_firsts ≡ true
unfolding declarator_firsts names
name_declares = refl

pub declarator_begins : (depth : ℕ) → Begins (declarator depth) declarator_firsts
unfolding declarator
declarator_begins depth lifted x i j c ph =
    or_pair_begins (many (placed symbol.Star)) (ident false ⊗ many (dimension depth)) (symbol.Star ∷ []) (names false) declarator_firsts
    (list_begins (placed symbol.Star) (symbol.Star ∷ []) (placed_begins symbol.Star refl))
    (pair_begins (ident false) (many (dimension depth)) (names false) (ident_begins false)) star_declares name_declares
    lifted x i j (c.stars, (c.name, c.dimensions)) ph

-- what goes on with a declarator, and with a list of them
abbrev pub declarator_ends : List ℕ
declarator_ends = symbol.OpenSquare ∷ []

abbrev pub declarators_ends : List ℕ
declarators_ends = symbol.Comma ∷ symbol.OpenSquare ∷ []

pub declarators_has : (depth : ℕ) → HasPhrase (declarators depth)
unfolding declarators
declarators_has depth = separated_has symbol.Comma (declarator depth) (declarator_has depth)

pub declarators_begin : (depth : ℕ) → Begins (declarators depth) declarator_firsts
unfolding declarators
declarators_begin depth = separated_begins symbol.Comma (declarator depth) declarator_firsts (declarator_begins depth)

module _ (nesting : ℕ) (enough : 129 ≤ nesting) (t : Text) (depth : ℕ) where
  pub declarator_exact : (i : ℕ) → i ≤ length t → Exact (declarator depth) (stops declarator_ends) t i (declarator_read nesting t depth i)
  unfolding declarator declarator_read
  declarator_exact i in_text =
      turned_exact (declarator_parts depth) (declarator depth) declarator_of (λ lifted x i j a ph. ph) (stops declarator_ends) t i
      (λ lifted x e c j ph stop. record { part = (c.stars, (c.name, c.dimensions)); is = refl; phrase = ph }) _
      (pair_exact (many (placed symbol.Star)) (ident false ⊗ many (dimension depth)) (stops (symbol.Star ∷ [])) (stops declarator_ends)
      (meets_first (ident false ⊗ many (dimension depth)) (names false) (symbol.Star ∷ []) (stops declarator_ends)
      (pair_begins (ident false) (many (dimension depth)) (names false) (ident_begins false)) (star_not_name false))
      (pair_has _ _ (ident_has false) (many_has (dimension depth))) t i (list_read (symbol.Star ∷ []) t (placed_read symbol.Star t) i) _
      (list_exact (placed symbol.Star) (symbol.Star ∷ []) [] (symbol.Star ∷ []) (placed_begins symbol.Star refl) refl refl refl refl t i (placed_read symbol.Star t)
      (λ m based in_m. placed_exact symbol.Star refl (stops []) t m in_m) i (omega arith) in_text)
      (λ s m found.
      pair_exact (ident false) (many (dimension depth)) (stops []) (stops declarator_ends) (λ lifted x m j b ph stop. refl) (many_has (dimension depth)) t m (ident_read false t m) _
      (ident_exact false (stops []) t m found.within)
      (λ name o found_name.
      list_exact (dimension depth) (symbol.OpenSquare ∷ []) [] declarator_ends (dimension_begins depth) refl refl refl refl t o (dimension_read nesting t depth)
      (λ q based in_q. dimension_exact nesting enough t depth q in_q) o (omega arith) found_name.within)))

  pub declarators_exact : (i : ℕ) → i ≤ length t → Exact (declarators depth) (stops declarators_ends) t i (declarators_read nesting t depth i)
  unfolding declarators declarators_read
  declarators_exact i in_text =
      separated_exact symbol.Comma (declarator depth) declarator_ends declarators_ends (declarator_has depth) refl refl refl refl t i (declarator_read nesting t depth)
      (λ m based in_m. declarator_exact m in_m) i (omega arith) in_text
