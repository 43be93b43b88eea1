-- Entries of a chunk are accepted or refused as they are, whatever entries come before the chunk.
use Rattle.std.proofs.Common.{◌≡◌, ◌≤◌, ◌∙◌, ap, ap₂, sym, subst, refl, ℕ, ◌+◌, Bool, true, false, ◌&&◌, List, [], ◌∷◌, ◌++◌, length, append_assoc, Option, Some, None, inl, inr, ◌⊎◌, arith}
use Rattle.std.specs.Prelude.{cond, eqb, ltb, not, option_map, ◌||◌}
use Rattle.std.specs.List.{AllByRecursion}
use Rattle.std.specs.Ordering.{int_eq}
use Rattle.std.proofs.lemmas.Bool.{and_right, eq-eqb, or_right as or_true}
use Rattle.nd_base.specs.declared.octets.Order.{Order}
use Rattle.nd_base.specs.declared.TheConstants.{STREAM_LIMIT}
use Rattle.nd_types.specs.declared.types.Attr.{Attr}
use Rattle.nd_types.specs.declared.types.Class.TheVariants.{Ref, Unique, Full}
use Rattle.nd_types.specs.Number.{unsigned}
use Rattle.nd_value.specs.declared.item.Home.{Home}
use Rattle.nd_value.specs.declared.item.Home.TheVariants as home
use Rattle.nd_value.proofs.Apart.{all_weaker}
use Rattle.nd_value.proofs.Waiting.{not_equal}
use Rattle.nd_grammar.specs.declared.reason.Reason.{Reason}
use Rattle.nd_grammar.specs.declared.reason.Reason.TheVariants as reason
use Rattle.nd_grammar.specs.Entry.{Kind, Entry, EntryAt, Align, Max, Offset, Actual, Chunk, Number, Num, Tag, Text, Context, Test, Unread, size_at, end_to_end}
use Rattle.nd_grammar.specs.Refusal.{Accepts, is_long, is_max, is_other, kind_agrees, kind_refusal, other_pointee, refusal, refused_if, same_home, tested_at}
use Rattle.nd_grammar.specs.Stream.{IsRendered, Spells, piece}
use Rattle.nd_grammar.proofs.agreements.TestsFind.{IsNoTest}
use Rattle.ndr_drain_laws.proofs.joined.Homes.{IsBefore, IsOwn}

pub at_places : (P : Entry → Type 0) (at : ℕ) (ms : List Entry) → AllByRecursion P ms → AllByRecursion (λ (x : EntryAt). P x.entry) (end_to_end at ms)
at_places P at [] a = tt
at_places P at (m ∷ ms) a = (a.0, at_places P (at + size_at at m.kind) ms a.1)

-- ## Agreements

-- an entry of which an agreement may speak
abbrev meets : Attr → Home → ℕ → EntryAt → Bool
meets a h n x = kind_agrees a x.entry.kind && same_home x.entry.home h && (is_max x.entry.kind || eqb x.entry.node n)

none_met : (a : Attr) (h : Home) (n : ℕ) (xs ys : List EntryAt) → AllByRecursion (λ x. meets a h n x ≡ false) xs → tested_at (xs ++ ys) a h n ≡ tested_at ys a h n
none_met a h n [] ys e = refl
none_met a h n (x ∷ xs) ys e = ap (λ t. cond t (Some x.at) (tested_at (xs ++ ys) a h n)) e.0 ∙ none_met a h n xs ys e.1

unmet : (a : Attr) (r low n : ℕ) → low ≤ n → (x : EntryAt) → IsBefore r low x.entry → meets a (home.Root r) n x ≡ false
unmet a r low n h x (inl e) =
    ap (λ u. u && (is_max x.entry.kind || eqb x.entry.node n)) (and_right (kind_agrees a x.entry.kind) (same_home x.entry.home (home.Root r)) e)
unmet a r low n h x (inr (p, b)) =
    and_right (kind_agrees a x.entry.kind && same_home x.entry.home (home.Root r)) (is_max x.entry.kind || eqb x.entry.node n)
    (ap₂ (λ u v. u || v) p (not_equal x.entry.node n (λ e. omega (arith, e, b, h))))

-- ## One entry

inner : (b : Bool) (r : ℕ × Reason) (o o' s : Option (ℕ × Reason)) → (o ≡ s → o' ≡ s) → refused_if b r o ≡ s → refused_if b r o' ≡ s
inner true r o o' s f e = e
inner false r o o' s f e = f e

module _ (order : Order) (octets : List ℕ) (front : List EntryAt) where
  other_more : (xs seen : List EntryAt) (v to : ℕ) → is_other order octets seen v to ≡ true → is_other order octets (xs ++ seen) v to ≡ true
  other_more [] seen v to e = e
  other_more (x ∷ xs) seen v to e =
      or_true (other_pointee x.entry.kind to && eqb (unsigned order (piece octets x.at x.entry.kind)) v) (is_other order octets (xs ++ seen) v to) (other_more xs seen v to e)

  -- an agreement speaks of none of the entries before
  abbrev pub Unmet : Entry → Kind → Type 0
  Unmet m (Test a wanted found) = AllByRecursion (λ x. meets a m.home m.node x ≡ false) front
  Unmet m _ = Unit {0}

  kind_accepted : (seen : List EntryAt) (at : ℕ) (m : Entry) (k : Kind) (os : List ℕ) → Unmet m k → Spells order (λ c. 0) k os → Spells order (λ c. 1) k os
      → kind_refusal order octets seen at m k os ≡ None → kind_refusal order octets (front ++ seen) at m k os ≡ None
  kind_accepted seen at m (Test a wanted found) os u x y e =
      ap (λ o. cond (int_eq wanted found) None (option_map (λ place. (place, reason.Disagrees wanted found)) o)) (none_met a m.home m.node front seen u) ∙ e
  kind_accepted seen at m (Number Full to (Some c)) os u x y e = let z : 0 ≡ 1 = sym x ∙ y in absurd (omega (arith, z))
  kind_accepted seen at m (Number Full to None) os u x y e =
      ap (λ t. refused_if (not t && is_other order octets (front ++ seen) (unsigned order os) to) (at, reason.OtherType) None) (eq-eqb (unsigned order os) 0 x)
  kind_accepted seen at m (Number Ref to c) os u x y e = refl
  kind_accepted seen at m (Number Unique to c) os u x y e = refl
  kind_accepted seen at m (Num p vs z) os u x y e = e
  kind_accepted seen at m (Tag p vs arms default z) os u x y e = e
  kind_accepted seen at m (Offset true v) os u x y e = e
  kind_accepted seen at m (Offset false v) os u x y e = refl
  kind_accepted seen at m (Actual t o l v) os u x y e = e
  kind_accepted seen at m (Text t) os u x y e = e
  kind_accepted seen at m (Align n) os u x y e = refl
  kind_accepted seen at m (Max v) os u x y e = refl
  kind_accepted seen at m (Chunk v) os u x y e = refl
  kind_accepted seen at m (Context q i) os u x y e = refl
  kind_accepted seen at m Unread os u x y e = refl

  number_refused : (b c d : Bool) (r s : ℕ × Reason) → (c ≡ true → d ≡ true) → refused_if (b && c) r None ≡ Some s → refused_if (b && d) r None ≡ Some s
  number_refused false c d r s f e = cc
  number_refused true true d r s f e = ap (λ t. refused_if t r None) (f refl) ∙ e
  number_refused true false d r s f e = cc

  kind_refused : (seen : List EntryAt) (at : ℕ) (m : Entry) (k : Kind) (os : List ℕ) (r : ℕ × Reason) → Unmet m k
      → kind_refusal order octets seen at m k os ≡ Some r → kind_refusal order octets (front ++ seen) at m k os ≡ Some r
  kind_refused seen at m (Test a wanted found) os r u e =
      ap (λ o. cond (int_eq wanted found) None (option_map (λ place. (place, reason.Disagrees wanted found)) o)) (none_met a m.home m.node front seen u) ∙ e
  kind_refused seen at m (Number Full to c) os r u e =
      number_refused (not (eqb (unsigned order os) 0)) (is_other order octets seen (unsigned order os) to) (is_other order octets (front ++ seen) (unsigned order os) to)
      (at, reason.OtherType) r (other_more front seen (unsigned order os) to) e
  kind_refused seen at m (Number Ref to c) os r u e = e
  kind_refused seen at m (Number Unique to c) os r u e = e
  kind_refused seen at m (Num p vs z) os r u e = e
  kind_refused seen at m (Tag p vs arms default z) os r u e = e
  kind_refused seen at m (Offset true v) os r u e = e
  kind_refused seen at m (Offset false v) os r u e = e
  kind_refused seen at m (Actual t o l v) os r u e = e
  kind_refused seen at m (Text t) os r u e = e
  kind_refused seen at m (Align n) os r u e = e
  kind_refused seen at m (Max v) os r u e = e
  kind_refused seen at m (Chunk v) os r u e = e
  kind_refused seen at m (Context q i) os r u e = e
  kind_refused seen at m Unread os r u e = e

  within : (seen : List EntryAt) (x : EntryAt) (s : Option (ℕ × Reason))
      → (kind_refusal order octets seen x.at x.entry x.entry.kind (piece octets x.at x.entry.kind) ≡ s
      → kind_refusal order octets (front ++ seen) x.at x.entry x.entry.kind (piece octets x.at x.entry.kind) ≡ s)
      → refusal order octets seen x ≡ s → refusal order octets (front ++ seen) x ≡ s
  within seen x s f e =
      let K : List EntryAt → Option (ℕ × Reason) = λ xs. kind_refusal order octets xs x.at x.entry x.entry.kind (piece octets x.at x.entry.kind) in
      let R : List EntryAt → Option (ℕ × Reason) = λ xs. refused_if (ltb (length octets) (x.at + size_at x.at x.entry.kind)) (length octets, reason.Truncated) (K xs) in
      inner (is_long x.at x.entry.kind) (STREAM_LIMIT, reason.TooLong) (R seen) (R (front ++ seen)) s
      (inner (ltb (length octets) (x.at + size_at x.at x.entry.kind)) (length octets, reason.Truncated) (K seen) (K (front ++ seen)) s f) e

  -- a refused entry
  pub still_refused : (seen : List EntryAt) (x : EntryAt) (r : ℕ × Reason) → Unmet x.entry x.entry.kind → refusal order octets seen x ≡ Some r
      → refusal order octets (front ++ seen) x ≡ Some r
  still_refused seen x r u e = within seen x (Some r) (kind_refused seen x.at x.entry x.entry.kind (piece octets x.at x.entry.kind) r u) e

  -- accepted ones
  pub still_accepted : (seen xs : List EntryAt) → AllByRecursion (λ x. Unmet x.entry x.entry.kind) xs → AllByRecursion (IsRendered order (λ c. 0) octets) xs
      → AllByRecursion (IsRendered order (λ c. 1) octets) xs → Accepts order octets seen xs → Accepts order octets (front ++ seen) xs
  still_accepted seen [] u a b e = tt
  still_accepted seen (x ∷ xs) u a b e = (
    within seen x None (kind_accepted seen x.at x.entry x.entry.kind (piece octets x.at x.entry.kind) u.0 a.0.1 b.0.1) e.0,
    subst (λ ys. Accepts order octets ys xs) (sym (append_assoc front seen (x ∷ []))) (still_accepted (seen ++ x ∷ []) xs u.1 a.1 b.1 e.1),
  )

  -- what an entry of a pipe speaks of is not before it
  pub own_unmet : (r low : ℕ) → AllByRecursion (λ x. IsBefore r low x.entry) front → (m : Entry) → IsOwn r low m → Unmet m m.kind
  own_unmet r low f m (at_home, o) = by_kind m.kind o
    where
      by_kind : (k : Kind) → IsNoTest k ⊎ (low ≤ m.node) → Unmet m k
      by_kind (Test a wanted found) (inl n) = absurd n
      by_kind (Test a wanted found) (inr l) =
          subst (λ h. AllByRecursion (λ x. meets a h m.node x ≡ false) front) (sym at_home)
          (all_weaker (λ x. IsBefore r low x.entry) (λ x. meets a (home.Root r) m.node x ≡ false) (λ x i. unmet a r low m.node l x i) front f)
      by_kind (Align n) q = tt
      by_kind (Max n) q = tt
      by_kind _ q = tt
