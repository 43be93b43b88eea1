-- The cells that a walk meets, and the homes that become due.
-- `old` and `new` are what is left of a walk before and after, `xs` the cells that a node names, `s` and `r` numberings before and after.
use Rattle.std.proofs.Common.{◌≡◌, ℕ, ◌+◌, ◌-◌, ◌<◌, ◌≤◌, suc, zero, List, [], ◌∷◌, ◌++◌, length, reverse, get_or, flat_map, refl, ap, sym, ◌∙◌, subst, arith, append_assoc}
use Rattle.std.specs.List.{AllByRecursion}
use Rattle.std.proofs.lemmas.List.{reverse-append}
use Rattle.nd_value.specs.declared.item.Home.{Home}
use Rattle.nd_value.specs.declared.item.Home.TheVariants as home
use Rattle.nd_value.specs.Canon.{target}
use Rattle.nd_value.specs.Tree.{Trees, Label, Flat, flat, cell_in}
use Rattle.nd_value.specs.Names.{cells_in}
use Rattle.nd_value.proofs.Apart.{all_left}
use Rattle.nd_graph.specs.Naming.{root_homes}
use Rattle.nd_graph.specs.Order.{Numbering, name, name_by, HaveNumbers}
use Rattle.nd_graph.proofs.Numbers.{have_next}

-- ## Naming all

name-append : (xs ys : List ℕ) (s : Numbering) → name (xs ++ ys) s ≡ name ys (name xs s)
name-append [] ys s = refl
name-append (x ∷ xs) ys s = name-append xs ys (name_by (get_or s.numbers x 0) x s)

-- what is left comes to what all came to
pub name_on : (old new : Trees) (xs : List ℕ) (s r all : Numbering) → cells_in old ≡ xs ++ cells_in new → r ≡ name xs s
    → name (cells_in old) s ≡ all → name (cells_in new) r ≡ all
name_on old new xs s r all e n h = ap (name (cells_in new)) n ∙ sym (name-append xs (cells_in new) s) ∙ ap (λ cs. name cs s) (sym e) ∙ h

pub met_on : (old new : Trees) (xs met met' all : List ℕ) → cells_in old ≡ xs ++ cells_in new → met' ≡ met ++ xs
    → met ++ cells_in old ≡ all → met' ++ cells_in new ≡ all
met_on old new xs met met' all e n h = ap (λ u. u ++ cells_in new) n ∙ append_assoc met xs (cells_in new) ∙ ap (λ u. met ++ u) (sym e) ∙ h

pub have_first : (numbers cells : List ℕ) (old new : Trees) (xs : List ℕ) → cells_in old ≡ xs ++ cells_in new → HaveNumbers numbers cells (cells_in old) → HaveNumbers numbers cells xs
have_first numbers cells old new xs e h = record {
  there = all_left (λ c. (0 < c) × (c < length numbers)) xs (cells_in new) (subst (AllByRecursion (λ c. (0 < c) × (c < length numbers))) e h.there);
  first = h.first;
  few = h.few;
}

have_after : (xs ys : List ℕ) (s : Numbering) → HaveNumbers s.numbers s.cells (xs ++ ys) → HaveNumbers (name xs s).numbers (name xs s).cells ys
have_after [] ys s h = h
have_after (x ∷ xs) ys s h = have_after xs ys (name_by (get_or s.numbers x 0) x s) (have_next s x (xs ++ ys) h)

pub have_rest : (s r : Numbering) (old new : Trees) (xs : List ℕ) → cells_in old ≡ xs ++ cells_in new → r ≡ name xs s → HaveNumbers s.numbers s.cells (cells_in old)
    → HaveNumbers r.numbers r.cells (cells_in new)
have_rest s r old new xs e n h =
    subst (λ (u : Numbering). HaveNumbers u.numbers u.cells (cells_in new)) (sym n)
    (have_after xs (cells_in new) s (subst (HaveNumbers s.numbers s.cells) e h))

-- ## Homes that become due

pub last_first : {A : Type 0} (xs : List A) (x : A) → reverse (xs ++ x ∷ []) ≡ x ∷ reverse xs
last_first xs x = reverse-append xs (x ∷ [])

-- roots from the last on
pub roots_on : (due due' : List Home) (i n : ℕ) → 0 < i → i ≤ n → due' ≡ due ++ home.Root (i - 1) ∷ [] → reverse due ≡ root_homes i (n - i) → reverse due' ≡ root_homes (i - 1) (n - (i - 1))
roots_on due due' zero n lo hi e h = absurd (omega (arith, lo))
roots_on due due' (suc i) n lo hi e h =
    let p : i ≡ suc i - 1 = omega arith in
    let k : suc (n - suc i) ≡ n - i = omega (arith, hi) in
    ap reverse e ∙ last_first due (home.Root (suc i - 1)) ∙ ap (λ u. home.Root (suc i - 1) ∷ u) h
    ∙ ap (λ j. home.Root j ∷ root_homes (suc i) (n - suc i)) (sym p) ∙ ap (root_homes i) k ∙ ap (λ j. root_homes j (n - j)) p

-- the next home is the last that is kept
pub popped : {A : Type 0} (xs ys : List A) (x : A) → xs ≡ ys ++ x ∷ [] → reverse xs ≡ x ∷ reverse ys
popped xs ys x e = ap reverse e ∙ last_first ys x
