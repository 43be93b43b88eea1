-- Where octets are refused for a failed agreement, an agreement is refused, and the log has the count or tag that it speaks of.
-- `x` is an entry at its place, `m` an entry, `k` its kind, `q` a place with a reason, `r` a reason, `xs` are earlier entries, `i` is an item.
use Rattle.std.proofs.Common.{◌≡◌, ◌⊎◌, inl, inr, ◌∙◌, ℕ, zero, suc, ◌+◌, ◌<◌, ◌≤◌, ℤ, Bool, true, false, cond, List, [], ◌∷◌, ◌++◌, length, Option, Some, None, refl, sym, ap, subst, arith}
use Rattle.std.specs.Prelude.{not, ◌&&◌, ◌||◌, eqb, ltb, option_map}
use Rattle.std.specs.List.{AllByRecursion, slice_get}
use Rattle.std.specs.Ordering.{int_eq}
use Rattle.std.proofs.lemmas.Bool.{and_parts, eqb-false, eqb-true, ltb-true}
use Rattle.std.proofs.lemmas.Option.{same_Some}
use Rattle.nd_base.specs.declared.octets.Order.{Order}
use Rattle.nd_base.specs.declared.TheConstants.{STREAM_LIMIT}
use Rattle.nd_types.specs.declared.types.Attr.{Attr}
use Rattle.nd_types.specs.declared.types.Attr.TheVariants as attr
use Rattle.nd_types.specs.declared.types.Class.TheVariants.{Full, Ref, Unique}
use Rattle.nd_types.specs.Number.{unsigned, value_of_octets}
use Rattle.nd_types.specs.Table.{selected}
use Rattle.nd_value.specs.declared.item.Home.{Home}
use Rattle.nd_value.specs.declared.item.Item.{Item}
use Rattle.nd_value.specs.declared.item.ItemKind.{ItemKind}
use Rattle.nd_value.specs.declared.item.ItemKind.TheVariants as kind
use Rattle.nd_value.specs.Setting.{Among}
use Rattle.nd_value.proofs.Apart.{all_weaker}
use Rattle.nd_flat.proofs.RecordLaws.{width_some}
use Rattle.nd_grammar.specs.declared.reason.Reason.{Reason}
use Rattle.nd_grammar.specs.declared.reason.Reason.TheVariants as reason
use Rattle.nd_grammar.specs.Entry.{Actual, Align, Chunk, Context, Entry, EntryAt, Kind, Max, Num, Number, Offset, Tag, Test, Text, Unread, end_to_end, gap, size_at}
use Rattle.nd_grammar.specs.Items.{item_at, item_of, items}
use Rattle.nd_grammar.specs.Refusal.{is_enumerator, is_long, is_max, is_selected, kind_agrees, kind_refusal, refusal, refused_if, same_home, tested_at, text_refusal}
use Rattle.nd_grammar.specs.Stream.{piece}
use Rattle.ndr_trace_value.specs.Untested.{is_test}
use Rattle.ndr_trace_value.proofs.Gaps.{empty_gap}

abbrev pub is_disagreement : Reason → Bool
is_disagreement (reason.Disagrees wanted found) = true
is_disagreement _ = false

abbrev Plain : ℕ × Reason → Type 0
Plain q = is_disagreement q.1 ≡ false

-- by the first refusal that holds
by_first : (b : Bool) (r : ℕ × Reason) (o : Option (ℕ × Reason)) (q : ℕ × Reason) → is_disagreement r.1 ≡ false → (o ≡ Some q → is_disagreement q.1 ≡ false)
    → refused_if b r o ≡ Some q → is_disagreement q.1 ≡ false
by_first true r o q p f e = ap (λ (x : ℕ × Reason). is_disagreement x.1) (sym (same_Some _ _ e)) ∙ p
by_first false r o q p f e = f e

text_plain : (at : ℕ) (os : List ℕ) (q : ℕ × Reason) → text_refusal at os ≡ Some q → is_disagreement q.1 ≡ false
text_plain at [] q e = cc
text_plain at (b ∷ []) q e = go (eqb b 0) e
  where
    go : (t : Bool) → cond {A = Option (ℕ × Reason)} t None (Some (at, reason.TextUnended)) ≡ Some q → is_disagreement q.1 ≡ false
    go true f = cc
    go false f = ap (λ (x : ℕ × Reason). is_disagreement x.1) (sym (same_Some _ _ f))
text_plain at (b ∷ c ∷ bs) q e = go (eqb b 0) e (text_plain (at + 1) (c ∷ bs) q)
  where
    go : (t : Bool) → cond {A = Option (ℕ × Reason)} t (Some (at, reason.TextZero)) (text_refusal (at + 1) (c ∷ bs)) ≡ Some q
        → (text_refusal (at + 1) (c ∷ bs) ≡ Some q → is_disagreement q.1 ≡ false) → is_disagreement q.1 ≡ false
    go true f later = ap (λ (x : ℕ × Reason). is_disagreement x.1) (sym (same_Some _ _ f))
    go false f later = later f

module _ (order : Order) (octets : List ℕ) (earlier : List EntryAt) where
  kind_plain : (at : ℕ) (m : Entry) (k : Kind) (os : List ℕ) (q : ℕ × Reason) → is_test k ≡ false → kind_refusal order octets earlier at m k os ≡ Some q → is_disagreement q.1 ≡ false
  kind_plain at m (Test a w f) os q t e = cc
  kind_plain at m (Num p values z) os q t e = by_first _ (at, reason.EnumValue) None q refl (λ g. cc) e
  kind_plain at m (Tag p values arms default z) os q t e =
      by_first (not (is_enumerator values (value_of_octets order p os))) (at, reason.EnumValue)
      (refused_if (not (is_selected (selected arms default (value_of_octets order p os)))) (at, reason.NoArm) None) q refl
      (λ g. by_first (not (is_selected (selected arms default (value_of_octets order p os)))) (at, reason.NoArm) None q refl (λ h. cc) g) e
  kind_plain at m (Offset true v) os q t e = by_first _ (at, reason.TextOffset) None q refl (λ g. cc) e
  kind_plain at m (Offset false v) os q t e = cc
  kind_plain at m (Actual b o l v) os q t e =
      by_first (b && eqb (unsigned order os) 0) (at, reason.TextEmpty) (refused_if (ltb l (o + unsigned order os)) (at, reason.PastBound) None) q refl
      (λ g. by_first (ltb l (o + unsigned order os)) (at, reason.PastBound) None q refl (λ h. cc) g) e
  kind_plain at m (Text text) os q t e = text_plain at os q e
  kind_plain at m (Number Full to cell) os q t e = by_first _ (at, reason.OtherType) None q refl (λ g. cc) e
  kind_plain at m (Number Unique to cell) os q t e = cc
  kind_plain at m (Number Ref to cell) os q t e = cc
  kind_plain at m (Align n) os q t e = cc
  kind_plain at m (Max v) os q t e = cc
  kind_plain at m (Chunk v) os q t e = cc
  kind_plain at m (Context b id) os q t e = cc
  kind_plain at m Unread os q t e = cc

  -- an entry that is no agreement is refused for another reason
  pub plain_fault : (x : EntryAt) (q : ℕ × Reason) → is_test x.entry.kind ≡ false → refusal order octets earlier x ≡ Some q → is_disagreement q.1 ≡ false
  plain_fault x q t e =
      let own : Option (ℕ × Reason) = kind_refusal order octets earlier x.at x.entry x.entry.kind (piece octets x.at x.entry.kind) in
      let short : Bool = ltb (length octets) (x.at + size_at x.at x.entry.kind) in
      by_first (is_long x.at x.entry.kind) (STREAM_LIMIT, reason.TooLong) (refused_if short (length octets, reason.Truncated) own) q refl
      (λ f. by_first short (length octets, reason.Truncated) own q refl (λ g. kind_plain x.at x.entry x.entry.kind (piece octets x.at x.entry.kind) q t g) f) e

  -- an agreement is refused where the count or tag is that it speaks of
  pub agreement_fault : (x : EntryAt) (place : ℕ) (why : Reason) (a : Attr) (wanted found : ℤ) → x.entry.kind ≡ Test a wanted found → x.at ≤ length octets
      → refusal order octets earlier x ≡ Some (place, why) → (why ≡ reason.Disagrees wanted found) × (tested_at earlier a x.entry.home x.entry.node ≡ Some place)
  agreement_fault x place why a wanted found is within e =
      whole (ltb (length octets) (x.at + 0)) refl
      (subst (λ k. refused_if (is_long x.at k) (STREAM_LIMIT, reason.TooLong)
      (refused_if (ltb (length octets) (x.at + size_at x.at k)) (length octets, reason.Truncated)
      (kind_refusal order octets earlier x.at x.entry k (piece octets x.at k))) ≡ Some (place, why)) is e)
    where
      Goal : Type 0
      Goal = (why ≡ reason.Disagrees wanted found) × (tested_at earlier a x.entry.home x.entry.node ≡ Some place)

      there : (o : Option ℕ) → tested_at earlier a x.entry.home x.entry.node ≡ o → option_map {U = ℕ × Reason} (λ p. (p, reason.Disagrees wanted found)) o ≡ Some (place, why) → Goal
      there None f g = cc
      there (Some p) f g =
          let same : ◌≡◌ {A = ℕ × Reason} (p, reason.Disagrees wanted found) (place, why) = same_Some _ _ g in
          (sym (ap (λ (y : ℕ × Reason). y.1) same), f ∙ ap (λ (y : ℕ × Reason). Some y.0) same)

      holds : (t : Bool)
          → cond {A = Option (ℕ × Reason)} t None (option_map {U = ℕ × Reason} (λ p. (p, reason.Disagrees wanted found)) (tested_at earlier a x.entry.home x.entry.node)) ≡ Some (place, why) → Goal
      holds true g = cc
      holds false g = there (tested_at earlier a x.entry.home x.entry.node) refl g

      whole : (t : Bool) → ltb (length octets) (x.at + 0) ≡ t
          → refused_if (ltb (length octets) (x.at + 0)) (length octets, reason.Truncated)
          (cond (int_eq wanted found) None (option_map {U = ℕ × Reason} (λ p. (p, reason.Disagrees wanted found)) (tested_at earlier a x.entry.home x.entry.node))) ≡ Some (place, why)
          → Goal
      whole true h g = let l = ltb-true (length octets) (x.at + 0) h in absurd (omega (arith, l, within))
      whole false h g =
          holds (int_eq wanted found)
          (ap (λ t. refused_if t (length octets, reason.Truncated)
          (cond (int_eq wanted found) None (option_map {U = ℕ × Reason} (λ p. (p, reason.Disagrees wanted found)) (tested_at earlier a x.entry.home x.entry.node)))) (sym h) ∙ g)

-- ## The item of a count or a tag

-- an entry among earlier ones
pub record Tested (xs : List EntryAt) (a : Attr) (h : Home) (n place : ℕ) : Type 0 where
  pub its : EntryAt
  pub among : Among xs its
  pub at : its.at ≡ place
  pub agrees : kind_agrees a its.entry.kind ≡ true
  pub home : same_home its.entry.home h ≡ true
  pub node : (is_max its.entry.kind || eqb its.entry.node n) ≡ true

pub tested_entry : (xs : List EntryAt) (a : Attr) (h : Home) (n place : ℕ) → tested_at xs a h n ≡ Some place → Tested xs a h n place
tested_entry [] a h n place e = cc
tested_entry (x ∷ xs) a h n place e =
    go (kind_agrees a x.entry.kind && same_home x.entry.home h && (is_max x.entry.kind || eqb x.entry.node n)) refl e (tested_entry xs a h n place)
  where
    go : (b : Bool) → (kind_agrees a x.entry.kind && same_home x.entry.home h && (is_max x.entry.kind || eqb x.entry.node n)) ≡ b
        → cond b (Some x.at) (tested_at xs a h n) ≡ Some place → (tested_at xs a h n ≡ Some place → Tested xs a h n place) → Tested (x ∷ xs) a h n place
    go true f g later =
        let (both, node) = and_parts (kind_agrees a x.entry.kind && same_home x.entry.home h) (is_max x.entry.kind || eqb x.entry.node n) f in
        let (agrees, home) = and_parts (kind_agrees a x.entry.kind) (same_home x.entry.home h) both in
        record { its = x; among = inl refl; at = same_Some _ _ g; agrees = agrees; home = home; node = node }
    go false f g later =
        let t = later g in
        record { its = t.its; among = inr t.among; at = t.at; agrees = t.agrees; home = t.home; node = t.node }

-- what an attribute speaks of is an item
is_item : (order : Order) (a : Attr) (k : Kind) (os : List ℕ) → kind_agrees a k ≡ true → item_of order k os ≡ None → ⊥
is_item order a (Max v) os e f = cc
is_item order a (Offset t v) os e f = cc
is_item order a (Actual t o l v) os e f = cc
is_item order a (Tag p values arms default v) os e f = cc
is_item order attr.Size _ os e f = cc
is_item order attr.Max _ os e f = cc
is_item order attr.First _ os e f = cc
is_item order attr.Length _ os e f = cc
is_item order attr.Last _ os e f = cc
is_item order attr.Switch _ os e f = cc

-- what an attribute speaks of is no gap
no_gap_of : (order : Order) (a : Attr) (k : Kind) (os : List ℕ) (z : ItemKind × ℤ) → kind_agrees a k ≡ true → item_of order k os ≡ Some z → z.0 ≡ kind.Gap → ⊥
no_gap_of order a (Max v) os z e f g = let h : kind.Max ≡ kind.Gap = ap (λ (y : ItemKind × ℤ). y.0) (same_Some _ _ f) ∙ g in cc
no_gap_of order a (Offset t v) os z e f g = let h : kind.Offset ≡ kind.Gap = ap (λ (y : ItemKind × ℤ). y.0) (same_Some _ _ f) ∙ g in cc
no_gap_of order a (Actual t o l v) os z e f g = let h : kind.Actual ≡ kind.Gap = ap (λ (y : ItemKind × ℤ). y.0) (same_Some _ _ f) ∙ g in cc
no_gap_of order a (Tag p values arms default v) os z e f g = let h : kind.Tag ≡ kind.Gap = ap (λ (y : ItemKind × ℤ). y.0) (same_Some _ _ f) ∙ g in cc
no_gap_of order attr.Size _ os z e f g = cc
no_gap_of order attr.Max _ os z e f g = cc
no_gap_of order attr.First _ os z e f g = cc
no_gap_of order attr.Length _ os z e f g = cc
no_gap_of order attr.Last _ os z e f g = cc
no_gap_of order attr.Switch _ os z e f g = cc

pub record Logged (log : List Item) (place : ℕ) : Type 0 where
  pub number : ℕ
  pub item : Item
  pub there : slice_get log number ≡ Some item
  pub at : item.at ≡ place
  pub no_gap : item.kind ≡ kind.Gap → ⊥

pub logged_there : (order : Order) (octets : List ℕ) (xs : List EntryAt) (a : Attr) (x : EntryAt) → Among xs x → kind_agrees a x.entry.kind ≡ true → Logged (items order octets xs) x.at
logged_there order octets [] a x m e = absurd m
logged_there order octets (y ∷ ys) a x (inl h) e = go (item_of order y.entry.kind (piece octets y.at y.entry.kind)) refl
  where
    go : (o : Option (ItemKind × ℤ)) → item_of order y.entry.kind (piece octets y.at y.entry.kind) ≡ o → Logged (item_at y o ++ items order octets ys) x.at
    go None f = absurd (is_item order a y.entry.kind (piece octets y.at y.entry.kind) (subst (λ (z : EntryAt). kind_agrees a z.entry.kind ≡ true) h e) f)
    go (Some k) f = record {
      number = 0;
      item = _;
      there = refl;
      at = ap (λ (z : EntryAt). z.at) (sym h);
      no_gap = no_gap_of order a y.entry.kind (piece octets y.at y.entry.kind) k (subst (λ (z : EntryAt). kind_agrees a z.entry.kind ≡ true) h e) f;
    }
logged_there order octets (y ∷ ys) a x (inr m) e = go (item_of order y.entry.kind (piece octets y.at y.entry.kind)) (logged_there order octets ys a x m e)
  where
    go : (o : Option (ItemKind × ℤ)) → Logged (items order octets ys) x.at → Logged (item_at y o ++ items order octets ys) x.at
    go None l = l
    go (Some k) l = record { number = suc l.number; item = l.item; there = l.there; at = l.at; no_gap = l.no_gap }

-- ## One item at a place

some_size : (order : Order) (octets : List ℕ) (at : ℕ) (k : Kind) (z : ItemKind × ℤ) → item_of order k (piece octets at k) ≡ Some z → 0 < size_at at k
some_size order octets at (Align n) z e = by (eqb (gap at n) 0) refl
  where
    by : (b : Bool) → eqb (gap at n) 0 ≡ b → 0 < gap at n
    by true f = let none = empty_gap order octets at n (eqb-true (gap at n) 0 f) in let y : None ≡ Some z = sym none ∙ e in cc
    by false f = above (gap at n) (eqb-false (gap at n) 0 f)
      where
        above : (m : ℕ) → (m ≡ 0 → ⊥) → 0 < m
        above zero d = absurd (d refl)
        above (suc m) d = omega arith
some_size order octets at (Max v) z e = omega arith
some_size order octets at (Offset t v) z e = omega arith
some_size order octets at (Actual t offset limit v) z e = omega arith
some_size order octets at (Chunk v) z e = omega arith
some_size order octets at (Number class to cell) z e = omega arith
some_size order octets at (Num p values v) z e = width_some p
some_size order octets at (Tag p values arms default v) z e = width_some p
some_size order octets at (Text os) z e = omega arith
some_size order octets at (Context attributes id) z e = omega arith
some_size order octets at (Test a wanted found) z e = cc
some_size order octets at Unread z e = cc

all_at : {X : Type 0} (P : X → Type 0) (xs : List X) (n : ℕ) (x : X) → AllByRecursion P xs → slice_get xs n ≡ Some x → P x
all_at P [] n x a e = cc
all_at P (y ∷ xs) zero x a e = subst P (same_Some _ _ e) a.0
all_at P (y ∷ xs) (suc n) x a e = all_at P xs n x a.1 e

module _ (order : Order) (octets : List ℕ) where
  -- the items of entries from a place on are at this place or after it
  items_from : (at : ℕ) (ms : List Entry) (xs ys : List EntryAt) → end_to_end at ms ≡ xs ++ ys → AllByRecursion (λ (i : Item). at ≤ i.at) (items order octets xs)
  items_from at ms [] ys e = tt
  items_from at [] (x ∷ xs) ys e = cc
  items_from at (m ∷ ms) (x ∷ xs) ys e =
      let first : record { at = at; entry = m } ≡ x = cc in
      let rest : end_to_end (at + size_at at m.kind) ms ≡ xs ++ ys = cc in
      go (item_of order x.entry.kind (piece octets x.at x.entry.kind)) (ap (λ (y : EntryAt). y.at) first)
      (all_weaker (λ (i : Item). at + size_at at m.kind ≤ i.at) (λ (i : Item). at ≤ i.at) (λ i l. omega (arith, l)) (items order octets xs)
      (items_from (at + size_at at m.kind) ms xs ys rest))
    where
      go : (o : Option (ItemKind × ℤ)) → at ≡ x.at → AllByRecursion (λ (i : Item). at ≤ i.at) (items order octets xs)
          → AllByRecursion (λ (i : Item). at ≤ i.at) (item_at x o ++ items order octets xs)
      go None h later = later
      go (Some z) h later = (omega (arith, h), later)

  -- two items at one place are one
  pub one_item : (at : ℕ) (ms : List Entry) (xs ys : List EntryAt) → end_to_end at ms ≡ xs ++ ys → (n j : ℕ) (a b : Item) → slice_get (items order octets xs) n ≡ Some a
      → slice_get (items order octets xs) j ≡ Some b → a.at ≡ b.at → a ≡ b
  one_item at ms [] ys e n j a b f g h = cc
  one_item at [] (x ∷ xs) ys e n j a b f g h = cc
  one_item at (m ∷ ms) (x ∷ xs) ys e n j a b f g h =
      go (item_of order x.entry.kind (piece octets x.at x.entry.kind)) refl n j f g (one_item (at + size_at at m.kind) ms xs ys rest)
    where
      rest : end_to_end (at + size_at at m.kind) ms ≡ xs ++ ys
      rest = cc

      first : record { at = at; entry = m } ≡ x
      first = cc

      -- an item of a later entry is at a later place
      apart : (z : ItemKind × ℤ) → item_of order x.entry.kind (piece octets x.at x.entry.kind) ≡ Some z → (l : ℕ) (c : Item) → slice_get (items order octets xs) l ≡ Some c
          → x.at ≡ c.at → ⊥
      apart z is l c there same =
          let size : 0 < size_at x.at x.entry.kind = some_size order octets x.at x.entry.kind z is in
          let place : x.at + size_at x.at x.entry.kind ≡ at + size_at at m.kind = ap (λ (y : EntryAt). y.at + size_at y.at y.entry.kind) (sym first) in
          let low : at + size_at at m.kind ≤ c.at =
          all_at (λ (i : Item). at + size_at at m.kind ≤ i.at) (items order octets xs) l c (items_from (at + size_at at m.kind) ms xs ys rest) there in
          absurd (omega (arith, size, place, low, same))

      go : (o : Option (ItemKind × ℤ)) → item_of order x.entry.kind (piece octets x.at x.entry.kind) ≡ o → (n j : ℕ)
          → slice_get (item_at x o ++ items order octets xs) n ≡ Some a → slice_get (item_at x o ++ items order octets xs) j ≡ Some b
          → ((n' j' : ℕ) (a' b' : Item) → slice_get (items order octets xs) n' ≡ Some a' → slice_get (items order octets xs) j' ≡ Some b' → a'.at ≡ b'.at → a' ≡ b') → a ≡ b
      go None is n j f g later = later n j a b f g h
      go (Some z) is zero zero f g later = same_Some _ _ (sym f ∙ g)
      go (Some z) is zero (suc j) f g later = absurd (apart z is j b g (ap (λ (i : Item). i.at) (same_Some _ _ f) ∙ h))
      go (Some z) is (suc n) zero f g later = absurd (apart z is n a f (ap (λ (i : Item). i.at) (same_Some _ _ g) ∙ sym h))
      go (Some z) is (suc n) (suc j) f g later = later n j a b f g h
