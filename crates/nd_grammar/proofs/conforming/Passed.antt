-- What entries that are spelt and not refused say: enumerators, arms, counts within, texts without zeros, agreements that hold.
use Rattle.std.proofs.Common.{◌≡◌, ℕ, ◌+◌, ◌≤◌, ℤ, Bool, true, false, ◌&&◌, List, [], ◌∷◌, ◌++◌, length, Option, Some, None, refl, ap, sym, ◌∙◌, arith, subst}
use Rattle.std.specs.Prelude.{eqb, ltb, cond, not, ◌||◌, option_map}
use Rattle.std.specs.Ordering.{int_eq}
use Rattle.std.specs.List.{AllByRecursion, list_any}
use Rattle.std.proofs.lemmas.Bool.{ltb-false, eqb-false, not-false}
use Rattle.std.proofs.lemmas.Bool.Decides.{Decides-int_eq}
use Rattle.nd_base.specs.declared.octets.Order.{Order}
use Rattle.nd_base.specs.declared.TheConstants.{STREAM_LIMIT}
use Rattle.nd_types.specs.Number.{unsigned, value_of_octets}
use Rattle.nd_types.specs.Table.{selected, width}
use Rattle.nd_value.proofs.Apart.{all_left, all_right}
use Rattle.nd_value.proofs.Waiting.{not_equal}
use Rattle.nd_grammar.specs.declared.reason.Reason.{Reason}
use Rattle.nd_grammar.specs.declared.reason.Reason.TheVariants as reason
use Rattle.nd_grammar.specs.Entry.{Kind, Entry, Align, Max, Offset, Actual, Chunk, Number, Num, Tag, Text, Context, Test, Unread, size_at, EntryAt, end_to_end, end_of}
use Rattle.nd_grammar.specs.Stream.{piece, Spells, IsRendered}
use Rattle.nd_grammar.specs.Refusal.{kind_refusal, is_long, is_enumerator, is_selected, text_refusal, tested_at, Accepts}
use Rattle.nd_grammar.proofs.reader.ReaderNodes.{if_not}

abbrev pub HasPassed : Kind → Type 0
HasPassed (Num p values z) = is_enumerator values z ≡ true
HasPassed (Tag p values arms default z) = (is_enumerator values z ≡ true) × (is_selected (selected arms default z) ≡ true)
HasPassed (Actual of_text offset limit v) = offset + v ≤ limit
HasPassed (Text octets) = list_any (eqb 0) octets ≡ false
HasPassed (Test a wanted found) = found ≡ wanted
HasPassed Unread = ⊥
HasPassed _ = Unit {0}

abbrev pub Passed : Entry → Type 0
Passed m = HasPassed m.kind

-- an agreement finds the count or tag that it speaks of
abbrev pub IsFound : List EntryAt → Entry → Kind → Type 0
IsFound seen m (Test a wanted found) = (place : ℕ) × (tested_at seen a m.home m.node ≡ Some place)
IsFound seen m _ = Unit {0}

abbrev pub AllFound : List EntryAt → ℕ → List Entry → Type 0
AllFound seen at [] = Unit {0}
AllFound seen at (m ∷ ms) = IsFound seen m m.kind × AllFound (seen ++ record { at = at; entry = m } ∷ []) (at + size_at at m.kind) ms

either : (x y : Bool) → x ≡ false → y ≡ false → (x || y) ≡ false
either true y e f = cc
either false y e f = f

other_way : (b : ℕ) → eqb b 0 ≡ false → eqb 0 b ≡ false
other_way b e = not_equal 0 b (λ f. eqb-false b 0 e (sym f))

no_zeros : (at : ℕ) (os : List ℕ) → text_refusal at (os ++ 0 ∷ []) ≡ None → list_any (eqb 0) os ≡ false
no_zeros at [] e = refl
no_zeros at (b ∷ []) e = go (eqb b 0) refl e
  where
    go : (t : Bool) → eqb b 0 ≡ t → cond {A = Option (ℕ × Reason)} t (Some (at, reason.TextZero)) (text_refusal (at + 1) (0 ∷ [])) ≡ None → list_any (eqb 0) (b ∷ []) ≡ false
    go true f h = cc
    go false f h = either (eqb 0 b) false (other_way b f) refl
no_zeros at (b ∷ c ∷ os) e = go (eqb b 0) refl e (no_zeros (at + 1) (c ∷ os))
  where
    go : (t : Bool) → eqb b 0 ≡ t → cond {A = Option (ℕ × Reason)} t (Some (at, reason.TextZero)) (text_refusal (at + 1) (c ∷ (os ++ 0 ∷ []))) ≡ None
        → (text_refusal (at + 1) (c ∷ (os ++ 0 ∷ [])) ≡ None → list_any (eqb 0) (c ∷ os) ≡ false) → list_any (eqb 0) (b ∷ c ∷ os) ≡ false
    go true f h r = cc
    go false f h r = either (eqb 0 b) (list_any (eqb 0) (c ∷ os)) (other_way b f) (r h)

module _ (order : Order) (octets : List ℕ) (nums : ℕ → ℕ) where
  agrees_then : (o : Option ℕ) (place : ℕ) (wanted found : ℤ) → o ≡ Some place
      → cond {A = Option (ℕ × Reason)} (int_eq wanted found) None (option_map (λ p. (p, reason.Disagrees wanted found)) o) ≡ None → found ≡ wanted
  agrees_then o place wanted found f e = go (int_eq wanted found) refl o f e
    where
      go : (t : Bool) → int_eq wanted found ≡ t → (o : Option ℕ) → o ≡ Some place
          → cond {A = Option (ℕ × Reason)} t None (option_map (λ p. (p, reason.Disagrees wanted found)) o) ≡ None → found ≡ wanted
      go true g o f e = sym ((Decides-int_eq wanted found).0 g)
      go false g None f e = cc
      go false g (Some p) f e = cc

  kind_passed : (seen : List EntryAt) (at : ℕ) (m : Entry) (k : Kind) (os : List ℕ) → IsFound seen m k → kind_refusal order octets seen at m k os ≡ None → Spells order nums k os
      → HasPassed k
  kind_passed seen at m (Num p vs z) os f e s =
      let (a, b) = if_not (not (is_enumerator vs (value_of_octets order p os))) (at, reason.EnumValue) None e in
      ap (is_enumerator vs) (sym s) ∙ not-false _ a
  kind_passed seen at m (Tag p vs arms default z) os f e s =
      let (a, b) = if_not (not (is_enumerator vs (value_of_octets order p os))) (at, reason.EnumValue) _ e in
      let (c, d) = if_not (not (is_selected (selected arms default (value_of_octets order p os)))) (at, reason.NoArm) None b in
      (ap (is_enumerator vs) (sym s) ∙ not-false _ a, ap (λ v. is_selected (selected arms default v)) (sym s) ∙ not-false _ c)
  kind_passed seen at m (Actual t o l v) os f e s =
      let (a, b) = if_not (t && eqb (unsigned order os) 0) (at, reason.TextEmpty) _ e in
      let (c, d) = if_not (ltb l (o + unsigned order os)) (at, reason.PastBound) None b in
      subst (λ u. o + u ≤ l) s (ltb-false l (o + unsigned order os) c)
  kind_passed seen at m (Text text) os f e s = no_zeros at text (subst (λ u. text_refusal at u ≡ None) s e)
  kind_passed seen at m (Test a wanted found) os f e s = agrees_then (tested_at seen a m.home m.node) f.0 wanted found f.1 e
  kind_passed seen at m Unread os f e s = absurd s
  kind_passed seen at m (Align n) os f e s = tt
  kind_passed seen at m (Max v) os f e s = tt
  kind_passed seen at m (Offset t v) os f e s = tt
  kind_passed seen at m (Chunk v) os f e s = tt
  kind_passed seen at m (Number k to c) os f e s = tt
  kind_passed seen at m (Context a i) os f e s = tt

  -- entries that are all spelt and not refused
  pub all_passed : (seen : List EntryAt) (at : ℕ) (ms : List Entry) → AllFound seen at ms → AllByRecursion (IsRendered order nums octets) (end_to_end at ms)
      → Accepts order octets seen (end_to_end at ms)
      → AllByRecursion Passed ms
  all_passed seen at [] f r a = tt
  all_passed seen at (m ∷ ms) f r a =
      let (x, y) = if_not (is_long at m.kind) (STREAM_LIMIT, reason.TooLong) _ a.0 in
      let (z, u) = if_not (ltb (length octets) (at + size_at at m.kind)) (length octets, reason.Truncated) _ y in (
        kind_passed seen at m m.kind (piece octets at m.kind) f.0 u r.0.1,
        all_passed (seen ++ record { at = at; entry = m } ∷ []) (at + size_at at m.kind) ms f.1 r.1 a.1,
      )

-- at least so many octets, wherever an entry stands
abbrev pub least_size : Kind → ℕ
least_size (Align n) = 0
least_size (Test a x y) = 0
least_size Unread = 0
least_size (Max v) = 4
least_size (Offset t v) = 4
least_size (Actual t o l v) = 4
least_size (Chunk v) = 4
least_size (Number k to c) = 4
least_size (Num p vs z) = width p
least_size (Tag p vs arms default z) = width p
least_size (Text os) = length os + 1
least_size (Context a i) = 20

abbrev pub least : List Entry → ℕ
least [] = 0
least (m ∷ ms) = least_size m.kind + least ms

pub least_append : (ms ns : List Entry) → least (ms ++ ns) ≡ least ms + least ns
least_append [] ns = omega arith
least_append (m ∷ ms) ns = let e = least_append ms ns in omega arith

least_at : (at : ℕ) (k : Kind) → least_size k ≤ size_at at k
least_at at (Align n) = omega arith
least_at at (Test a x y) = omega arith
least_at at Unread = omega arith
least_at at (Max v) = omega arith
least_at at (Offset t v) = omega arith
least_at at (Actual t o l v) = omega arith
least_at at (Chunk v) = omega arith
least_at at (Number k to c) = omega arith
least_at at (Num p vs z) = omega arith
least_at at (Tag p vs arms default z) = omega arith
least_at at (Text os) = omega arith
least_at at (Context a i) = omega arith

pub least_end : (at : ℕ) (ms : List Entry) → at + least ms ≤ end_of at ms
least_end at [] = omega arith
least_end at (m ∷ ms) = omega (arith, least_at at m.kind, least_end (at + size_at at m.kind) ms)

-- entries that passed, no more than a stream has
pub record PassedAll (ms : List Entry) : Type 0 where
  pub passed : AllByRecursion Passed ms
  pub light : least ms ≤ STREAM_LIMIT

pub left_passed : (ms ns : List Entry) → PassedAll (ms ++ ns) → PassedAll ms
left_passed ms ns p = record { passed = all_left Passed ms ns p.passed; light = omega (arith, p.light, least_append ms ns) }

pub right_passed : (ms ns : List Entry) → PassedAll (ms ++ ns) → PassedAll ns
right_passed ms ns p = record { passed = all_right Passed ms ns p.passed; light = omega (arith, p.light, least_append ms ns) }
