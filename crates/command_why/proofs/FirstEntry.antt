-- The first entry of a text by the place of its end.
use Rattle.std.proofs.Common.{◌≡◌, ◌∙◌, ℕ, suc, ◌+◌, ◌<◌, ◌≤◌, Bool, true, false, not, cond, nat_lt, refl, sym, ap, ap₂, subst, arith}
use Rattle.std.proofs.Common.{List, [], ◌∷◌, length, take, drop, position, None, Some}
use Rattle.std.specs.Prelude.{◌==◌, if◌then◌else◌}
use Rattle.std.specs.List.{position_or_len}
use Rattle.std.proofs.lemmas.Bool.{ltb-false}
use Rattle.std.proofs.lemmas.List.{take_all, drop_all}
use Rattle.std.proofs.lemmas.Option.{cond_some}
use Rattle.command_why.specs.Explained.{entries, onto, title}

-- ## The first place at which a test passes, or the length of a list in which it passes nowhere

cond_none : (b : Bool) (n : ℕ) → cond b (Some n) None ≡ None → b ≡ false
cond_none true n h = cc
cond_none false n h = refl

module _ (p : ℕ → Bool) (xs : List ℕ) where
  abbrev n : ℕ
  n = position_or_len p xs

  pub found_at : (at : ℕ) → position p xs ≡ Some at → n ≡ at
  found_at at is = (cond_some (nat_lt n (length xs)) n at is).1

  pub found_nowhere : position p xs ≡ None → length xs ≤ n
  found_nowhere is = ltb-false n (length xs) (cond_none (nat_lt n (length xs)) n is)

-- ## Names

abbrev feeds : ℕ → Bool
feeds c = c == 10

pub named_before : (entry : List ℕ) (at : ℕ) → position feeds entry ≡ Some at → take at entry ≡ title entry
named_before entry at is = ap (λ i. take i entry) (sym (found_at feeds entry at is))

pub named_whole : (entry : List ℕ) → position feeds entry ≡ None → entry ≡ title entry
named_whole entry is = sym (take_all (position_or_len feeds entry) entry (found_nowhere feeds entry is))

-- ## Entries

abbrev ends : ℕ → Bool
ends c = c == 12

abbrev end_of : List ℕ → ℕ
end_of text = position_or_len ends text

take_more : (n m c : ℕ) (text : List ℕ) → m ≡ suc n → take m (c ∷ text) ≡ c ∷ take n text
take_more n m c text is = subst (λ k. take k (c ∷ text) ≡ c ∷ take n text) (sym is) refl

drop_one_more : (n m c : ℕ) (text : List ℕ) → m ≡ suc n → drop m (c ∷ text) ≡ drop n text
drop_one_more n m c text is = subst (λ k. drop k (c ∷ text) ≡ drop n text) (sym is) refl

-- the first entry is what is before the first place that ends one
abbrev IsParted : List ℕ → ℕ → Bool → Type 0
IsParted text c b =
    (if b then [] ∷ entries text else onto c (entries text))
    ≡ take (cond (not b) (1 + end_of text) 0) (c ∷ text) ∷ entries (drop (1 + cond (not b) (1 + end_of text) 0) (c ∷ text))

last : (c : ℕ) (b : Bool) → IsParted [] c b
last c true = refl
last c false = refl

more : (text : List ℕ) (d : ℕ) → IsParted text d (ends d) → (c : ℕ) (b : Bool) → IsParted (d ∷ text) c b
more text d parted c true = refl
more text d parted c false =
    ap (onto c) parted
    ∙ sym (ap₂ (λ (x : List ℕ) (ys : List (List ℕ)). x ∷ ys) (take_more (end_of (d ∷ text)) (1 + end_of (d ∷ text)) c (d ∷ text) (omega arith))
    (ap entries (drop_one_more (1 + end_of (d ∷ text)) (1 + (1 + end_of (d ∷ text))) c (d ∷ text) (omega arith))))

parted : (text : List ℕ) (c : ℕ) → IsParted text c (ends c)
parted [] c = last c (ends c)
parted (d ∷ text) c = more text d (parted text d) c (ends c)

first_and_rest : (text : List ℕ) → 0 < length text → entries text ≡ take (end_of text) text ∷ entries (drop (1 + end_of text) text)
first_and_rest [] some = absurd (omega (arith, some))
first_and_rest (c ∷ text) some = parted text c

pub entry_before : (text : List ℕ) (at : ℕ) → 0 < length text → position ends text ≡ Some at → entries text ≡ take at text ∷ entries (drop (at + 1) text)
entry_before text at some is =
    first_and_rest text some
    ∙ ap₂ (λ (x : List ℕ) (ys : List (List ℕ)). x ∷ ys) (ap (λ i. take i text) (found_at ends text at is))
    (ap (λ i. entries (drop i text)) (let same = found_at ends text at is in omega (arith, same)))

pub entry_whole : (text : List ℕ) → 0 < length text → position ends text ≡ None → entries text ≡ text ∷ entries (drop (length text) text)
entry_whole text some is =
    let past = found_nowhere ends text is in
    first_and_rest text some
    ∙ ap₂ (λ (x : List ℕ) (ys : List (List ℕ)). x ∷ ys) (take_all (end_of text) text past)
    (ap entries (drop_all (1 + end_of text) text (omega (arith, past)) ∙ sym (drop_all (length text) text (omega arith))))
