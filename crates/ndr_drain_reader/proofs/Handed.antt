-- Items that are noted one after the other, moved by so many nodes.
use Rattle.std.proofs.Common.{◌≡◌, ℕ, ◌+◌, arith, zero, suc, Bool, true, false, List, [], ◌∷◌, ◌++◌, map, take, drop, Some, Result, Ok, Err, IsErrAnd, refl, ap, sym, ◌∙◌, append_assoc}
use Rattle.std.specs.Prelude.{if◌then◌else◌, slice_get}
use Rattle.nd_base.specs.declared.octets.Memory.{Memory}
use Rattle.nd_value.specs.declared.item.Item.{Item}
use Rattle.nd_value.specs.Logged.{Logged, noted}
use Rattle.nd_grammar.specs.decoded.Verdict.{with_items}
use Rattle.ndr_drain_laws.specs.reader.PartReader.{moved_item}
use Rattle.ndr_drain_reader.specs.Handing.{AreNotedPart, HandsOn}

moved_more : (n i : ℕ) (xs : List Item) (x : Item) → slice_get xs i ≡ Some x → map (moved_item n) (take (suc i) xs) ≡ map (moved_item n) (take i xs) ++ moved_item n x ∷ []
moved_more n i [] x e = cc
moved_more n zero (y ∷ xs) x e = (let is : y ≡ x = cc in ap (λ z. moved_item n z ∷ []) is)
moved_more n (suc i) (y ∷ xs) x e = ap (λ zs. moved_item n y ∷ zs) (moved_more n i xs x e)

split_at : (i : ℕ) (xs : List Item) → xs ≡ take i xs ++ drop i xs
split_at zero xs = refl
split_at (suc i) [] = refl
split_at (suc i) (x ∷ xs) = ap (λ ys. x ∷ ys) (split_at i xs)

one_more : (x : Item) (xs : List Item) (g : Logged) → noted x (with_items xs g) ≡ with_items (xs ++ x ∷ []) g
one_more x xs g = go g.keeps
  where
    go : (b : Bool) → noted x (record { keeps = b; items = if b then g.items ++ xs else g.items }) ≡ record { keeps = b; items = if b then g.items ++ (xs ++ x ∷ []) else g.items }
    go true = ap (λ u. record { keeps = true; items = u }) (append_assoc g.items xs (x ∷ []))
    go false = refl

module _ (n i : ℕ) (own : List Item) (g l : Logged) (is : l ≡ with_items (map (moved_item n) (take i own)) g) where
  pub noted_more : (x y : Item) → slice_get own i ≡ Some x → y ≡ moved_item n x → (k : Logged) → k ≡ noted y l → k ≡ with_items (map (moved_item n) (take (i + 1) own)) g
  noted_more x y there moved k e =
      let next : suc i ≡ i + 1 = omega arith in
      e ∙ ap (λ z. noted z l) moved ∙ ap (noted (moved_item n x)) is ∙ one_more (moved_item n x) (map (moved_item n) (take i own)) g
      ∙ ap (λ zs. with_items zs g) (sym (moved_more n i own x there)) ∙ ap (λ j. with_items (map (moved_item n) (take j own)) g) next

  pub some_noted : AreNotedPart n own g l
  some_noted = record { first = take i own; others = drop i own; split = split_at i own; log = is }

pub hands_err : (n : ℕ) (own : List Item) (g h : Logged) (P : Memory → Type 0) (r : Result (Unit {0}) Memory) → IsErrAnd r P → AreNotedPart n own g h → HandsOn n own g h r
hands_err n own g h P (Ok u) is x = absurd is
hands_err n own g h P (Err e) is x = x
