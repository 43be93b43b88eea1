-- Entries of two streams that are alike, after earlier ones that are, are refused alike.
use Rattle.std.proofs.Common.{◌≡◌, ℕ, ◌+◌, Bool, true, false, ◌&&◌, List, [], ◌∷◌, ◌++◌, length, Some, None, refl, ap, ap₂, sym, ◌∙◌, inl, inr, take, drop}
use Rattle.std.specs.Prelude.{option_map, eqb, ltb, cond, not, ◌||◌}
use Rattle.std.specs.Ordering.{int_eq}
use Rattle.std.proofs.lemmas.Bool.{eqb-true, eq-eqb, eqb-false}
use Rattle.nd_base.specs.declared.octets.Order.{Order}
use Rattle.nd_base.specs.declared.TheConstants.{STREAM_LIMIT}
use Rattle.nd_types.specs.declared.types.Attr.{Attr}
use Rattle.nd_types.specs.declared.types.Attr.TheVariants as attr
use Rattle.nd_types.specs.declared.types.Class.TheVariants.{Ref, Unique, Full}
use Rattle.nd_types.specs.Number.{unsigned}
use Rattle.nd_value.specs.declared.item.Home.{Home}
use Rattle.nd_value.specs.declared.value.CellId.{CellId}
use Rattle.nd_value.specs.declared.item.Home.TheVariants as home
use Rattle.nd_value.specs.Setting.{Among}
use Rattle.nd_value.proofs.Apart.{all_among}
use Rattle.nd_value.proofs.Waiting.{not_equal}
use Rattle.nd_grammar.specs.declared.reason.Reason.TheVariants as reason
use Rattle.nd_grammar.specs.Entry.{Kind, Entry, Align, Max, Offset, Actual, Chunk, Number, Num, Tag, Text, Context, Test, Unread, size_at, EntryAt}
use Rattle.nd_grammar.specs.Stream.{piece}
use Rattle.nd_grammar.specs.Refusal.{refusal, kind_refusal, refused_if, is_long, tested_at, is_other, kind_agrees, is_max, same_home, other_pointee}
use Rattle.nd_grammar.specs.NextMark.{form}
use Rattle.nd_grammar.proofs.next.Next.{Pair, IsApart, OneToOne, HomesMeet, homes_grown, Alike}
use Rattle.nd_grammar.proofs.next.Forms.{refused_alike}
use Rattle.nd_grammar.proofs.next.Spelt.{same_size}
use Rattle.nd_grammar.proofs.next.Mapped.{one_left}

-- pairs with one left cell have one right cell
pub one_right : (ys : List Pair) → OneToOne ys → (y z : Pair) → Among ys y → Among ys z → y.left ≡ z.left → y.right ≡ z.right
one_right [] one y z a b e = absurd a
one_right (x ∷ xs) one y z (inl f) (inl k) e = ap (λ u. u.right) (f ∙ sym k)
one_right (x ∷ xs) one y z (inl f) (inr b) e = absurd ((all_among (IsApart x) xs z b one.0).0 (ap (λ u. u.left) (sym f) ∙ e))
one_right (x ∷ xs) one y z (inr a) (inl k) e = absurd ((all_among (IsApart x) xs y a one.0).0 (ap (λ u. u.left) (sym k) ∙ sym e))
one_right (x ∷ xs) one y z (inr a) (inr b) e = one_right xs one.1 y z a b e

eqb_alike : (a b c d : ℕ) → (a ≡ b → c ≡ d) → (c ≡ d → a ≡ b) → eqb a b ≡ eqb c d
eqb_alike a b c d f g = go (eqb a b) refl
  where
    go : (x : Bool) → eqb a b ≡ x → eqb a b ≡ eqb c d
    go true e = e ∙ sym (eq-eqb c d (f (eqb-true a b e)))
    go false e = e ∙ sym (not_equal c d (λ h. eqb-false a b e (g h)))

same_cell : (c d : CellId) → c.0 ≡ d.0 → home.Cell c ≡ home.Cell d
same_cell c d e = ap (λ u. home.Cell (record { 0 = u })) e

-- a home corresponds to one home
pub one_home : (map : List Pair) → OneToOne map → (h i i' : Home) → HomesMeet map h i → HomesMeet map h i' → i ≡ i'
one_home map one (home.Root a) (home.Root b) (home.Root c) e f = ap (λ u. home.Root u) (sym e ∙ f)
one_home map one (home.Cell c) (home.Cell a) (home.Cell b) (x, m, l, r) (y, n, k, s) = same_cell a b (sym r ∙ one_right map one x y m n (l ∙ sym k) ∙ s)
one_home map one (home.Root a) (home.Cell c) i' e f = absurd e
one_home map one (home.Cell c) (home.Root a) i' e f = absurd e
one_home map one (home.Root a) (home.Root b) (home.Cell c) e f = absurd f
one_home map one (home.Cell c) (home.Cell a) (home.Root b) e f = absurd f

pub one_home_back : (map : List Pair) → OneToOne map → (h h' i : Home) → HomesMeet map h i → HomesMeet map h' i → h ≡ h'
one_home_back map one (home.Root a) (home.Root b) (home.Root c) e f = ap (λ u. home.Root u) (e ∙ sym f)
one_home_back map one (home.Cell a) (home.Cell b) (home.Cell c) (x, m, l, r) (y, n, k, s) = same_cell a b (sym l ∙ one_left map one x y m n (r ∙ sym s) ∙ k)
one_home_back map one (home.Root a) h' (home.Cell c) e f = absurd e
one_home_back map one (home.Cell a) h' (home.Root c) e f = absurd e
one_home_back map one (home.Root a) (home.Cell b) (home.Root c) e f = absurd f
one_home_back map one (home.Cell a) (home.Root b) (home.Cell c) e f = absurd f

-- homes that correspond are the same ones
home_alike : (map : List Pair) → OneToOne map → (h i h' i' : Home) → HomesMeet map h h' → HomesMeet map i i' → same_home h i ≡ same_home h' i'
home_alike map one (home.Root a) (home.Root b) (home.Root a') (home.Root b') e f = ap₂ eqb e f
home_alike map one (home.Root a) (home.Cell c) (home.Root a') (home.Cell c') e f = refl
home_alike map one (home.Cell c) (home.Root a) (home.Cell c') (home.Root a') e f = refl
home_alike map one (home.Cell c) (home.Cell d) (home.Cell c') (home.Cell d') (x, a, l, r) (y, b, k, s) =
    eqb_alike c.0 d.0 c'.0 d'.0
    (λ e. sym r ∙ one_right map one x y a b (l ∙ e ∙ sym k) ∙ s)
    (λ e. sym l ∙ one_left map one x y a b (r ∙ e ∙ sym s) ∙ k)
home_alike map one (home.Root a) i (home.Cell c') i' e f = absurd e
home_alike map one (home.Cell c) i (home.Root a') i' e f = absurd e
home_alike map one (home.Root a) (home.Root b) (home.Root a') (home.Cell c') e f = absurd f
home_alike map one (home.Root a) (home.Cell c) (home.Root a') (home.Root b') e f = absurd f
home_alike map one (home.Cell c) (home.Root a) (home.Cell c') (home.Cell d') e f = absurd f
home_alike map one (home.Cell c) (home.Cell d) (home.Cell c') (home.Root b') e f = absurd f

other_form : (x : Kind) (to : ℕ) → other_pointee (form x) to ≡ other_pointee x to
other_form (Number Full t c) to = refl
other_form (Number Ref t c) to = refl
other_form (Number Unique t c) to = refl
other_form (Align n) to = refl
other_form _ to = refl

max_form : (x : Kind) → is_max (form x) ≡ is_max x
max_form (Max v) = refl
max_form _ = refl

agrees_form : (a : Attr) (x : Kind) → kind_agrees a (form x) ≡ kind_agrees a x
agrees_form attr.Size (Max v) = refl
agrees_form attr.Size _ = refl
agrees_form attr.Max (Max v) = refl
agrees_form attr.Max _ = refl
agrees_form attr.First (Offset t v) = refl
agrees_form attr.First _ = refl
agrees_form attr.Length (Actual t o l v) = refl
agrees_form attr.Length _ = refl
agrees_form attr.Last (Actual t o l v) = refl
agrees_form attr.Last _ = refl
agrees_form attr.Switch (Tag p vs arms default v) = refl
agrees_form attr.Switch _ = refl

by_form : {X : Type 0} (f : Kind → X) → ((x : Kind) → f (form x) ≡ f x) → (x y : Kind) → form x ≡ form y → f x ≡ f y
by_form f h x y e = sym (h x) ∙ ap f e ∙ h y

-- two entries at one place that are alike, their homes corresponding
pub record SeenAlike (map : List Pair) (x y : EntryAt) : Type 0 where
  pub at : x.at ≡ y.at
  pub alike : Alike x.entry y.entry
  pub homes : HomesMeet map x.entry.home y.entry.home

abbrev pub AllSeenAlike : List Pair → List EntryAt → List EntryAt → Type 0
AllSeenAlike map [] [] = Unit {0}
AllSeenAlike map (x ∷ xs) (y ∷ ys) = SeenAlike map x y × AllSeenAlike map xs ys
AllSeenAlike map _ _ = ⊥

pub seen_grown : (new map : List Pair) (xs ys : List EntryAt) → AllSeenAlike map xs ys → AllSeenAlike (new ++ map) xs ys
seen_grown new map [] [] a = tt
seen_grown new map [] (y ∷ ys) a = absurd a
seen_grown new map (x ∷ xs) [] a = absurd a
seen_grown new map (x ∷ xs) (y ∷ ys) a =
    (record { at = a.0.at; alike = a.0.alike; homes = homes_grown new map x.entry.home y.entry.home a.0.homes }, seen_grown new map xs ys a.1)

pub seen_more : (map : List Pair) (xs ys : List EntryAt) (x y : EntryAt) → AllSeenAlike map xs ys → SeenAlike map x y → AllSeenAlike map (xs ++ x ∷ []) (ys ++ y ∷ [])
seen_more map [] [] x y a s = (s, tt)
seen_more map [] (q ∷ ys) x y a s = absurd a
seen_more map (p ∷ xs) [] x y a s = absurd a
seen_more map (p ∷ xs) (q ∷ ys) x y a s = (a.0, seen_more map xs ys x y a.1 s)

module _ (order : Order) (octets : List ℕ) (map : List Pair) (one : OneToOne map) where
  pub piece_alike : (x y : EntryAt) → SeenAlike map x y → piece octets x.at x.entry.kind ≡ piece octets y.at y.entry.kind
  piece_alike x y s =
      ap₂ (λ n a. take n (drop a octets)) (ap (λ a. size_at a x.entry.kind) s.at ∙ same_size y.at x.entry.kind y.entry.kind s.alike.1) s.at

  others_alike : (xs ys : List EntryAt) → AllSeenAlike map xs ys → (v to : ℕ) → is_other order octets xs v to ≡ is_other order octets ys v to
  others_alike [] [] a v to = refl
  others_alike [] (y ∷ ys) a v to = absurd a
  others_alike (x ∷ xs) [] a v to = absurd a
  others_alike (x ∷ xs) (y ∷ ys) a v to =
      ap₂ (λ p q. p || q)
      (ap₂ (λ p os. p && eqb (unsigned order os) v) (by_form (λ k. other_pointee k to) (λ k. other_form k to) x.entry.kind y.entry.kind a.0.alike.1) (piece_alike x y a.0))
      (others_alike xs ys a.1 v to)

  tests_alike : (xs ys : List EntryAt) → AllSeenAlike map xs ys → (a : Attr) (h h' : Home) → HomesMeet map h h' → (n n' : ℕ) → n ≡ n'
      → tested_at xs a h n ≡ tested_at ys a h' n'
  tests_alike [] [] s a h h' m n n' e = refl
  tests_alike [] (y ∷ ys) s a h h' m n n' e = absurd s
  tests_alike (x ∷ xs) [] s a h h' m n n' e = absurd s
  tests_alike (x ∷ xs) (y ∷ ys) s a h h' m n n' e =
      let k = by_form (kind_agrees a) (agrees_form a) x.entry.kind y.entry.kind s.0.alike.1 in
      let l = home_alike map one x.entry.home h y.entry.home h' s.0.homes m in
      let i = by_form is_max max_form x.entry.kind y.entry.kind s.0.alike.1 in
      let j : eqb x.entry.node n ≡ eqb y.entry.node n' = ap₂ eqb s.0.alike.0 e in
      let t : (kind_agrees a x.entry.kind && same_home x.entry.home h && (is_max x.entry.kind || eqb x.entry.node n))
      ≡ (kind_agrees a y.entry.kind && same_home y.entry.home h' && (is_max y.entry.kind || eqb y.entry.node n')) =
      ap₂ (λ p q. p && q) (ap₂ (λ p q. p && q) k l) (ap₂ (λ p q. p || q) i j) in
      ap₂ (λ p o. cond p (Some x.at) o) t (tests_alike xs ys s.1 a h h' m n n' e)
      ∙ ap (λ u. cond (kind_agrees a y.entry.kind && same_home y.entry.home h' && (is_max y.entry.kind || eqb y.entry.node n')) (Some u) (tested_at ys a h' n')) s.0.at

  module _ (xs ys : List EntryAt) (seen : AllSeenAlike map xs ys) (at : ℕ) (m n : Entry) (node_count : m.node ≡ n.node) (homes : HomesMeet map m.home n.home) where
    kind_alike : (k : Kind) (os : List ℕ) → kind_refusal order octets xs at m k os ≡ kind_refusal order octets ys at n k os
    kind_alike (Number Full to c) os =
        ap (λ b. refused_if (not (eqb (unsigned order os) 0) && b) (at, reason.OtherType) None) (others_alike xs ys seen (unsigned order os) to)
    kind_alike (Test a wanted found) os =
        ap (λ o. cond (int_eq wanted found) None (option_map (λ place. (place, reason.Disagrees wanted found)) o)) (tests_alike xs ys seen a m.home n.home homes m.node n.node node_count)
    kind_alike (Number Ref to c) os = refl
    kind_alike (Number Unique to c) os = refl
    kind_alike (Offset true v) os = refl
    kind_alike (Offset false v) os = refl
    kind_alike (Align k) os = refl
    kind_alike (Max v) os = refl
    kind_alike (Actual t o l v) os = refl
    kind_alike (Chunk v) os = refl
    kind_alike (Num p values z) os = refl
    kind_alike (Tag p values arms default z) os = refl
    kind_alike (Text t) os = refl
    kind_alike (Context a i) os = refl
    kind_alike Unread os = refl

  -- entries that are alike in one place, after entries that are, are refused alike
  pub refusals_alike : (xs ys : List EntryAt) → AllSeenAlike map xs ys → (at : ℕ) (m n : Entry) → Alike m n → HomesMeet map m.home n.home
      → refusal order octets xs (record { at = at; entry = m }) ≡ refusal order octets ys (record { at = at; entry = n })
  refusals_alike xs ys seen at m n alike homes =
      refused_alike order octets xs at m m.kind n.kind alike.1
      ∙ ap (λ o. refused_if (is_long at n.kind) (STREAM_LIMIT, reason.TooLong) (refused_if (ltb (length octets) (at + size_at at n.kind)) (length octets, reason.Truncated) o))
      (kind_alike xs ys seen at m n alike.0 homes n.kind (piece octets at n.kind))
