-- What is kept of a home stays as it is while entries of other homes, and agreements, are passed.
use Rattle.std.proofs.Common.{◌≡◌, ◌<◌, ℕ, ◌+◌, suc, Bool, true, false, List, [], ◌∷◌, ◌++◌, length, Option, None, refl, ap, sym, ◌∙◌, subst, append_assoc, arith}
use Rattle.std.specs.Prelude.{◌&&◌, ◌||◌, eqb}
use Rattle.std.specs.List.{AllByRecursion}
use Rattle.std.proofs.lemmas.List.{append-nil}
use Rattle.nd_base.specs.declared.octets.Order.{Order}
use Rattle.nd_types.specs.declared.types.Attr.{Attr}
use Rattle.nd_value.specs.declared.item.Home.{Home}
use Rattle.nd_value.specs.declared.item.Home.TheVariants as home
use Rattle.nd_value.specs.declared.item.Item.{Item}
use Rattle.nd_value.specs.Seen.{cell_number}
use Rattle.nd_value.specs.Tree.{Tree}
use Rattle.nd_grammar.specs.Entry.{EntryAt}
use Rattle.nd_grammar.specs.Refusal.{tested_at, kind_agrees, is_max, same_home}
use Rattle.nd_grammar.specs.Reader.{Names}
use Rattle.ndr_refs.specs.declared.referents.Known.{Known}
use Rattle.ndr_decoder_laws.specs.steps.Good.{Told}
use Rattle.ndr_decoder_laws.specs.steps.Steps.{Place}
use Rattle.ndr_decoder_laws.proofs.steps.Passing.{speaks, tested_passed}
use Rattle.ndr_decoder_laws.specs.declared.kept.Kept.{Kept}
use Rattle.ndr_decoder_laws.specs.declared.kept.KeptRoot.{KeptRoot}
use Rattle.ndr_decoder_laws.specs.stream.Between.{IsKeptOf, AreKept, pointer_cell}
use Rattle.nd_grammar.proofs.agreements.TestedAt.{same_home_is}

none_said : (a b : Bool) → (a && false && b) ≡ false
none_said true b = refl
none_said false b = refl

-- an entry of another home says nothing of this one
pub other_home : (a : Attr) (h k : Home) (n : ℕ) (x : EntryAt) → x.entry.home ≡ k → (h ≡ k → ⊥) → speaks a h n x ≡ false
other_home a h k n x e f = by_test (same_home x.entry.home h) refl
  where
    by_test : (b : Bool) → same_home x.entry.home h ≡ b → speaks a h n x ≡ false
    by_test true s = absurd (f (sym (same_home_is x.entry.home h s) ∙ e))
    by_test false s = ap (λ b. kind_agrees a x.entry.kind && b && (is_max x.entry.kind || eqb x.entry.node n)) s ∙ none_said (kind_agrees a x.entry.kind) (is_max x.entry.kind || eqb x.entry.node n)

-- entries that say nothing of a home
abbrev pub AreSilent : Home → List EntryAt → Type 0
AreSilent h xs = AllByRecursion (λ x. (a : Attr) (n : ℕ) → speaks a h n x ≡ false) xs

pub others_silent : (h k : Home) (xs : List EntryAt) → AllByRecursion (λ x. x.entry.home ≡ k) xs → (h ≡ k → ⊥) → AreSilent h xs
others_silent h k [] a f = tt
others_silent h k (x ∷ xs) a f = ((λ b n. other_home b h k n x a.0 f), others_silent h k xs a.1 f)

pub tested_later : (h : Home) (seen xs : List EntryAt) → AreSilent h xs → (a : Attr) (n : ℕ) → tested_at (seen ++ xs) a h n ≡ tested_at seen a h n
tested_later h seen [] s a n = ap (λ u. tested_at u a h n) (append-nil seen)
tested_later h seen (x ∷ xs) s a n =
    ap (λ u. tested_at u a h n) (sym (append_assoc seen (x ∷ []) xs)) ∙ tested_later h (seen ++ x ∷ []) xs s.1 a n ∙ tested_passed seen x a h n (s.0 a n)

pub kept_later : (h : Home) (v : Tree) (k : Kept) (seen xs : List EntryAt) → AreSilent h xs → IsKeptOf seen h v k → IsKeptOf (seen ++ xs) h v k
kept_later h v k seen xs s x =
    record { is = x.is; place = x.place; there = x.there; kept = x.kept; found = λ a. tested_later h seen xs s a 0 ∙ x.found a }

-- the roots that were read stay as they are while a home is read that is none of them
pub roots_later : (seen xs : List EntryAt) (i : ℕ) (vs : List Tree) (ks : List KeptRoot) → ((j : ℕ) → j < i + length vs → AreSilent (home.Root j) xs)
    → AreKept seen i vs ks → AreKept (seen ++ xs) i vs ks
roots_later seen xs i [] [] s a = tt
roots_later seen xs i [] (k ∷ ks) s a = absurd a
roots_later seen xs i (v ∷ vs) [] s a = absurd a
roots_later seen xs i (v ∷ vs) (k ∷ ks) s (x, c, rest) =
    (kept_later (home.Root i) v k.own seen xs (s i (omega arith)) x, c, roots_later seen xs (suc i) vs ks (λ j l. s j (omega arith)) rest)

no_more : (i : ℕ) → i + 0 ≡ i
no_more i = omega arith

one_later : (i n : ℕ) → i + suc n ≡ suc i + n
one_later i n = omega arith

-- a root more
pub root_more : (seen : List EntryAt) (i : ℕ) (vs : List Tree) (ks : List KeptRoot) (v : Tree) (k : KeptRoot) → AreKept seen i vs ks
    → IsKeptOf seen (home.Root (i + length vs)) v k.own → cell_number k.cell ≡ pointer_cell v → AreKept seen i (vs ++ v ∷ []) (ks ++ k ∷ [])
root_more seen i [] [] v k a x e = (subst (λ j. IsKeptOf seen (home.Root j) v k.own) (no_more i) x, e, tt)
root_more seen i [] (y ∷ ks) v k a x e = absurd a
root_more seen i (u ∷ vs) [] v k a x e = absurd a
root_more seen i (u ∷ vs) (y ∷ ks) v k (z, c, rest) x e =
    (z, c, root_more seen (suc i) vs ks v k rest (subst (λ j. IsKeptOf seen (home.Root j) v k.own) (one_later i (length vs)) x) e)

-- What is told of a home of which nothing was read stays so, where what is told of another home goes on.
pub told_other : {noted noted' : List Item} {direct direct' : ℕ} (order : Order) (fetched fetched' : List ℕ) (h k : Home) (seen xs : List EntryAt) (names names' : Names) (cells cells' : List ℕ)
    (numbers numbers' : List (ℕ × Known))
    (max_at : Option ℕ) (n : ℕ) (half : List Place)
    → Told noted direct order fetched h seen names cells numbers None 0 [] → Told noted' direct' order fetched' k (seen ++ xs) names' cells' numbers' max_at n half → AreSilent h xs
    → Told noted' direct' order fetched' h (seen ++ xs) names' cells' numbers' None 0 []
told_other order fetched fetched' h k seen xs names names' cells cells' numbers numbers' max_at n half t u s = record {
  cells_are = u.cells_are;
  cells_named = u.cells_named;
  numbers_are = u.numbers_are;
  ahead = λ a j. tested_later h seen xs s a (0 + j) ∙ t.ahead a j;
  noted_are = u.noted_are;
  lie_within = u.lie_within;
}
