-- The first of broken rules is one of them, and none comes before it.
use Rattle.std.proofs.Common.{◌≡◌, ℕ, Bool, true, false, ◌||◌, ◌&&◌, List, [], ◌∷◌, Option, Some, None, refl, sym, ap, arith, subst}
use Rattle.std.specs.Prelude.{eqb, ltb}
use Rattle.std.specs.List.{list_any}
use Rattle.std.proofs.lemmas.Bool.Decides.{nat_tests}
use Rattle.idl_rule_definitions.specs.Nodes.{World}
use Rattle.idl_rule_definitions.specs.Rules.{Breach, comes_before, same_breach, rank, earlier, first_of, IsFirstOf, IsLeast}
use Rattle.std.proofs.lemmas.Bool.{or_parts as neither, or_right as second}

-- three numbers, compared one after the other
abbrev before : ℕ → ℕ → ℕ → ℕ → ℕ → ℕ → Bool
before r k p s l q = ltb r s || eqb r s && (ltb k l || eqb k l && ltb p q)

not_itself : (r k p : ℕ) → before r k p r k p ≡ false
not_itself r k p = grind (arith, nat_tests)

one_way : (r k p s l q : ℕ) → before r k p s l q ≡ true → before s l q r k p ≡ false
one_way r k p s l q h = grind (arith, nat_tests, h)

passed_on : (r k p s l q t m o : ℕ) → before r k p s l q ≡ false → before s l q t m o ≡ false → before r k p t m o ≡ false
passed_on r k p s l q t m o h i = grind (arith, nat_tests, h, i)

pub behind_not : (w : World) (a b : Breach) → comes_before w a b ≡ true → comes_before w b a ≡ false
behind_not w a b h = one_way a.rule (rank w a.place.file) a.place.at b.rule (rank w b.place.file) b.place.at h

pub not_before_itself : (w : World) (a : Breach) → comes_before w a a ≡ false
not_before_itself w a = not_itself a.rule (rank w a.place.file) a.place.at

pub not_before_next : (w : World) (a b c : Breach) → comes_before w a b ≡ false → comes_before w b c ≡ false → comes_before w a c ≡ false
not_before_next w a b c h i =
    passed_on a.rule (rank w a.place.file) a.place.at b.rule (rank w b.place.file) b.place.at c.rule (rank w c.place.file) c.place.at h i

same_itself : (a : Breach) → same_breach a a ≡ true
same_itself a = grind (arith, nat_tests)

pub none : (a b : Bool) → a ≡ false → b ≡ false → (a || b) ≡ false
none false b h i = i
none true b h i = absurd (let e : true ≡ false = h in cc)

-- where none comes before one, and that not before another, none comes before the other
none_before : (w : World) (bs : List Breach) (c a : Breach) → list_any (λ x. comes_before w x c) bs ≡ false → comes_before w c a ≡ false → list_any (λ x. comes_before w x a) bs ≡ false
none_before w [] c a h i = refl
none_before w (b ∷ bs) c a h i =
    let parts = neither (comes_before w b c) (list_any (λ x. comes_before w x c) bs) h in
    none (comes_before w b a) (list_any (λ x. comes_before w x a) bs) (not_before_next w b c a parts.0 i) (none_before w bs c a parts.1 i)

-- one more in front of others of which the first is known
by_order : (w : World) (a : Breach) (rest : List Breach) (c : Breach) → IsFirstOf w rest c → (t : Bool) → comes_before w c a ≡ t
    → IsFirstOf w (a ∷ rest) (elim t [ true ↦ c | false ↦ a ])
by_order w a rest c h true e = record {
  broken = second (same_breach c a) (list_any (same_breach c) rest) h.broken;
  first = none (comes_before w a c) (list_any (λ x. comes_before w x c) rest) (behind_not w c a e) h.first;
}
by_order w a rest c h false e = record {
  broken = ap (λ t. t || list_any (same_breach a) rest) (same_itself a);
  first = none (comes_before w a a) (list_any (λ x. comes_before w x a) rest) (not_before_itself w a) (none_before w rest c a h.first e);
}

alone : (w : World) (a : Breach) → IsFirstOf w (a ∷ []) a
alone w a = record {
  broken = ap (λ t. t || false) (same_itself a);
  first = none (comes_before w a a) false (not_before_itself w a) refl;
}

step : (w : World) (a : Breach) (rest : List Breach) (o : Option Breach) → IsLeast w rest o → IsLeast w (a ∷ rest) (Some (earlier w a o))
step w a rest None h = subst (λ bs. IsFirstOf w (a ∷ bs) a) (sym h) (alone w a)
step w a rest (Some c) h = by_order w a rest c h (comes_before w c a) refl

pub least : (w : World) (bs : List Breach) → IsLeast w bs (first_of w bs)
least w [] = refl
least w (a ∷ rest) = step w a rest (first_of w rest) (least w rest)
