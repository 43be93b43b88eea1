-- Good entries that octets spell are not refused.
use Rattle.std.proofs.Common.{◌≡◌, ℕ, ◌+◌, ◌<◌, ◌≤◌, ℤ, Bool, true, false, ◌&&◌, List, [], ◌∷◌, ◌++◌, length, Option, Some, None, refl, ap, ap₂, sym, ◌∙◌, arith, subst}
use Rattle.std.specs.Prelude.{option_map, eqb, ltb, cond, not, ◌||◌}
use Rattle.std.specs.Ordering.{int_eq}
use Rattle.std.specs.List.{AllByRecursion, list_any}
use Rattle.std.proofs.lemmas.Bool.{le-ltb, eqb-true, eq-eqb, eqb-false, and_right, or_parts as either_false}
use Rattle.std.proofs.lemmas.Option.{same_Some}
use Rattle.std.proofs.lemmas.Cmp.{int_eq_equiv}
use Rattle.nd_base.specs.declared.octets.Order.{Order}
use Rattle.nd_base.specs.declared.TheConstants.{STREAM_LIMIT}
use Rattle.nd_types.specs.declared.types.Class.TheVariants.{Ref, Unique, Full}
use Rattle.nd_types.specs.Number.{unsigned, value_of_octets}
use Rattle.nd_types.specs.Table.{selected, width}
use Rattle.nd_value.specs.declared.value.Graph.{Graph}
use Rattle.nd_value.specs.Tree.{Referent}
use Rattle.nd_value.specs.Setting.{cell_of_number}
use Rattle.nd_value.proofs.Apart.{all_append}
use Rattle.nd_value.proofs.Waiting.{not_equal}
use Rattle.nd_grammar.specs.declared.reason.Reason.{Reason}
use Rattle.nd_grammar.specs.declared.reason.Reason.TheVariants as reason
use Rattle.nd_grammar.specs.Entry.{Kind, Entry, Align, Max, Offset, Actual, Chunk, Number, Num, Tag, Text, Context, Test, Unread, size_at, EntryAt, end_to_end}
use Rattle.nd_grammar.specs.Stream.{piece, Spells, IsRendered}
use Rattle.nd_grammar.specs.Refusal.{kind_refusal, refused_if, is_long, is_enumerator, is_selected, text_refusal, is_other, other_pointee, tested_at, Accepts}
use Rattle.nd_grammar.proofs.conforming.GoodEntries.{IsGood, GoodEntry}

not_refused : (b : Bool) (r : ℕ × Reason) (o : Option (ℕ × Reason)) → b ≡ false → o ≡ None → refused_if b r o ≡ None
not_refused true r o e f = cc
not_refused false r o e f = f

no_zero : (b : ℕ) (os : List ℕ) → list_any (eqb 0) (b ∷ os) ≡ false → eqb b 0 ≡ false
no_zero b os e =
    let f : eqb 0 b ≡ false = (either_false (eqb 0 b) (list_any (eqb 0) os) e).0 in
    not_equal b 0 (λ h. eqb-false 0 b f (sym h))

others : (b : ℕ) (os : List ℕ) → list_any (eqb 0) (b ∷ os) ≡ false → list_any (eqb 0) os ≡ false
others b os e = (either_false (eqb 0 b) (list_any (eqb 0) os) e).1

-- a text without zeros, with its terminator
text_accepted : (at : ℕ) (os : List ℕ) → list_any (eqb 0) os ≡ false → text_refusal at (os ++ 0 ∷ []) ≡ None
text_accepted at [] e = refl
text_accepted at (b ∷ []) e = ap (λ t. cond t (Some (at, reason.TextZero)) (text_refusal (at + 1) (0 ∷ []))) (no_zero b [] e)
text_accepted at (b ∷ c ∷ os) e =
    ap (λ t. cond t (Some (at, reason.TextZero)) (text_refusal (at + 1) (c ∷ (os ++ 0 ∷ [])))) (no_zero b (c ∷ os) e)
    ∙ text_accepted (at + 1) (c ∷ os) (others b (c ∷ os) e)

module _ (order : Order) (octets : List ℕ) (g : Graph) (nums : ℕ → ℕ) (low : (c : ℕ) → 0 < nums c) (one : (c d : ℕ) → nums c ≡ nums d → c ≡ d) where
  -- a good entry that is spelt
  pub record IsGoodAt (x : EntryAt) : Type 0 where
    pub good : IsGood g x.entry.kind
    pub spelt : Spells order nums x.entry.kind (piece octets x.at x.entry.kind)

  -- an earlier number that is the same is one of the same cell, and so of the same type
  not_other : (v to c : ℕ) → v ≡ nums c → (x : Referent) → cell_of_number g c ≡ Some x → x.of ≡ to
      → (k : Kind) (os : List ℕ) → IsGood g k → Spells order nums k os → (other_pointee k to && eqb (unsigned order os) v) ≡ false
  not_other v to c e x ex et (Number Full to' None) os a b =
      let f : eqb (unsigned order os) v ≡ false = not_equal (unsigned order os) v (λ h. (let l = low c in let q : unsigned order os ≡ 0 = b in omega arith)) in
      and_right (not (eqb to' to)) (eqb (unsigned order os) v) f
  not_other v to c e x ex et (Number Full to' (Some c')) os (y, ey, ety) b = go (eqb (unsigned order os) v) refl
    where
      go : (t : Bool) → eqb (unsigned order os) v ≡ t → (not (eqb to' to) && eqb (unsigned order os) v) ≡ false
      go false f = and_right (not (eqb to' to)) (eqb (unsigned order os) v) f
      go true f =
          let h : c' ≡ c = one c' c (sym b ∙ eqb-true (unsigned order os) v f ∙ e) in
          let same : y ≡ x = same_Some _ _ (sym ey ∙ ap (cell_of_number g) h ∙ ex) in
          let types : to' ≡ to = sym ety ∙ ap (λ u. u.of) same ∙ et in
          ap (λ u. not u && eqb (unsigned order os) v) (eq-eqb to' to types)
  not_other v to c e x ex et (Number Ref to' d) os a b = refl
  not_other v to c e x ex et (Number Unique to' d) os a b = refl
  not_other v to c e x ex et (Align n) os a b = refl
  not_other v to c e x ex et (Max n) os a b = refl
  not_other v to c e x ex et (Offset t n) os a b = refl
  not_other v to c e x ex et (Actual t o l n) os a b = refl
  not_other v to c e x ex et (Chunk n) os a b = refl
  not_other v to c e x ex et (Num p vs z) os a b = refl
  not_other v to c e x ex et (Tag p vs arms default z) os a b = refl
  not_other v to c e x ex et (Text t) os a b = refl
  not_other v to c e x ex et (Context q i) os a b = refl
  not_other v to c e x ex et (Test q i f) os a b = refl
  not_other v to c e x ex et Unread os a b = refl

  none_other : (v to c : ℕ) → v ≡ nums c → (x : Referent) → cell_of_number g c ≡ Some x → x.of ≡ to → (seen : List EntryAt) → AllByRecursion IsGoodAt seen
      → is_other order octets seen v to ≡ false
  none_other v to c e x ex et [] a = refl
  none_other v to c e x ex et (y ∷ ys) a =
      ap₂ (λ p q. p || q) (not_other v to c e x ex et y.entry.kind (piece octets y.at y.entry.kind) a.0.good a.0.spelt) (none_other v to c e x ex et ys a.1)

  positive : (n v : ℕ) → n ≡ v → 0 < v → eqb n 0 ≡ false
  positive n v e h = not_equal n 0 (λ f. omega arith)

  actual_false : (t : Bool) (n v : ℕ) → n ≡ v → (t ≡ true → 0 < v) → (t && eqb n 0) ≡ false
  actual_false true n v e h = positive n v e (h refl)
  actual_false false n v e h = refl

  int_same : (a b : ℤ) → a ≡ b → int_eq a b ≡ true
  int_same a b e = ap (int_eq a) (sym e) ∙ int_eq_equiv.refl a

  kind_accepted : (seen : List EntryAt) → AllByRecursion IsGoodAt seen → (at : ℕ) (m : Entry) (k : Kind) (os : List ℕ) → IsGood g k → Spells order nums k os
      → kind_refusal order octets seen at m k os ≡ None
  kind_accepted seen s at m (Num p vs z) os a b =
      not_refused (not (is_enumerator vs (value_of_octets order p os))) (at, reason.EnumValue) None (ap not (ap (is_enumerator vs) b ∙ a)) refl
  kind_accepted seen s at m (Tag p vs arms default z) os a b =
      not_refused (not (is_enumerator vs (value_of_octets order p os))) (at, reason.EnumValue) _ (ap not (ap (is_enumerator vs) b ∙ a.0))
      (not_refused (not (is_selected (selected arms default (value_of_octets order p os)))) (at, reason.NoArm) None
      (ap not (ap (λ v. is_selected (selected arms default v)) b ∙ a.1)) refl)
  kind_accepted seen s at m (Offset true v) os a b =
      not_refused (not (eqb (unsigned order os) 0)) (at, reason.TextOffset) None (ap not (eq-eqb (unsigned order os) 0 (b ∙ a))) refl
  kind_accepted seen s at m (Offset false v) os a b = refl
  kind_accepted seen s at m (Actual t o l v) os a b =
      not_refused (t && eqb (unsigned order os) 0) (at, reason.TextEmpty) _ (actual_false t (unsigned order os) v b a.0)
      (not_refused (ltb l (o + unsigned order os)) (at, reason.PastBound) None (le-ltb l (o + unsigned order os) (subst (λ u. o + u ≤ l) (sym b) a.1)) refl)
  kind_accepted seen s at m (Text t) os a b = ap (text_refusal at) b ∙ text_accepted at t a
  kind_accepted seen s at m (Number Full to None) os a b =
      let e : eqb (unsigned order os) 0 ≡ true = eq-eqb (unsigned order os) 0 b in
      ap (λ t. refused_if (not t && is_other order octets seen (unsigned order os) to) (at, reason.OtherType) None) e
  kind_accepted seen s at m (Number Full to (Some c)) os (x, ex, et) b =
      not_refused (not (eqb (unsigned order os) 0) && is_other order octets seen (unsigned order os) to) (at, reason.OtherType) None
      (and_right _ _ (none_other (unsigned order os) to c b x ex et seen s)) refl
  kind_accepted seen s at m (Number Ref to c) os a b = refl
  kind_accepted seen s at m (Number Unique to c) os a b = refl
  kind_accepted seen s at m (Test q wanted found) os a b =
      ap (λ t. cond t None (option_map (λ place. (place, reason.Disagrees wanted found)) (tested_at seen q m.home m.node))) (int_same wanted found a)
  kind_accepted seen s at m (Align n) os a b = refl
  kind_accepted seen s at m (Max v) os a b = refl
  kind_accepted seen s at m (Chunk v) os a b = refl
  kind_accepted seen s at m (Context q i) os a b = refl
  kind_accepted seen s at m Unread os a b = refl

  not_long : (at : ℕ) (k : Kind) → at + size_at at k ≤ STREAM_LIMIT → is_long at k ≡ false
  not_long at (Align n) h = refl
  not_long at (Test a wanted found) h = refl
  not_long at Unread h = refl
  not_long at (Max v) h = le-ltb STREAM_LIMIT (at + 4) h
  not_long at (Offset t v) h = le-ltb STREAM_LIMIT (at + 4) h
  not_long at (Actual t o l v) h = le-ltb STREAM_LIMIT (at + 4) h
  not_long at (Chunk v) h = le-ltb STREAM_LIMIT (at + 4) h
  not_long at (Number k to c) h = le-ltb STREAM_LIMIT (at + 4) h
  not_long at (Num p vs z) h = le-ltb STREAM_LIMIT (at + width p) h
  not_long at (Tag p vs arms default z) h = le-ltb STREAM_LIMIT (at + width p) h
  not_long at (Text os) h = le-ltb STREAM_LIMIT (at + (length os + 1)) h
  not_long at (Context a i) h = le-ltb STREAM_LIMIT (at + 20) h

  -- good entries that a first part of the octets renders, within the limit, are accepted by all of them
  pub accepted : (seen : List EntryAt) → AllByRecursion IsGoodAt seen → (at : ℕ) (ms : List Entry) → AllByRecursion (GoodEntry g) ms
      → AllByRecursion (IsRendered order nums octets) (end_to_end at ms)
      → AllByRecursion (λ x. x.at + size_at x.at x.entry.kind ≤ STREAM_LIMIT) (end_to_end at ms)
      → Accepts order octets seen (end_to_end at ms)
  accepted seen s at [] a b l = tt
  accepted seen s at (m ∷ ms) a b l =
      let x : EntryAt = record { at = at; entry = m } in (
        not_refused (is_long at m.kind) (STREAM_LIMIT, reason.TooLong) _ (not_long at m.kind l.0)
            (not_refused (ltb (length octets) (at + size_at at m.kind)) (length octets, reason.Truncated) _ (le-ltb (length octets) (at + size_at at m.kind) b.0.0)
            (kind_accepted seen s at m m.kind (piece octets at m.kind) a.0 b.0.1)),
        accepted (seen ++ x ∷ []) (all_append IsGoodAt seen (x ∷ []) s (record { good = a.0; spelt = b.0.1 }, tt)) (at + size_at at m.kind) ms a.1 b.1 l.1,
      )
