-- What the reader takes of a node before its children is spelt.
use Rattle.std.proofs.Common.{◌≡◌, ℕ, ◌+◌, ◌-◌, ◌<◌, ◌≤◌, zero, suc, ℤ, Bool, true, false, ◌&&◌, List, [], ◌∷◌, ◌++◌, length, Option, Some, None, refl, ap, sym, ◌∙◌, arith, subst, replicate, take}
use Rattle.std.proofs.Common.{drop, min, length-take, length-drop, append_assoc}
use Rattle.std.specs.Prelude.{pos, eqb, ltb, not, cond, reverse}
use Rattle.std.specs.List.{AllByRecursion}
use Rattle.std.proofs.lemmas.Option.{same_Some}
use Rattle.std.proofs.lemmas.List.{length-replicate}
use Rattle.std.proofs.lemmas.Bool.{eqb-true, eqb-false, ltb-false, not-false}
use Rattle.nd_base.specs.declared.octets.Order.{Order}
use Rattle.nd_base.specs.declared.octets.Order.TheVariants.{Big, Little}
use Rattle.nd_base.specs.declared.TheConstants.{STREAM_LIMIT}
use Rattle.nd_types.specs.declared.types.Arm.{Arm}
use Rattle.nd_types.specs.declared.types.Class.{Class}
use Rattle.nd_types.specs.declared.types.Class.TheVariants.{Ref, Unique, Full}
use Rattle.nd_types.specs.declared.types.Primitive.{Primitive}
use Rattle.nd_types.specs.Table.{width}
use Rattle.nd_types.specs.Number.{unsigned, in_order}
use Rattle.nd_value.specs.declared.item.Home.{Home}
use Rattle.nd_value.proofs.Apart.{all_right}
use Rattle.nd_grammar.specs.declared.reason.Reason.{Reason}
use Rattle.nd_grammar.specs.declared.reason.Reason.TheVariants as reason
use Rattle.nd_grammar.specs.Entry.{Kind, Entry, Align, Max, Offset, Actual, Number, Num, Tag, Text, Context, size_at}
use Rattle.nd_grammar.specs.Stream.{piece, IsNumber, id_octets}
use Rattle.nd_grammar.specs.Refusal.{refusal, kind_refusal, refused_if, is_long, text_refusal}
use Rattle.nd_grammar.specs.Reader.{Progress, Names, here, pass, taken, taken_by, number_in, value_in, text_in, attributes_in, identifier_in, named, numbered, full_by, new_cell, fresh}
use Rattle.nd_grammar.proofs.reader.ReaderSteps.{Follows, same_taken}

-- numbers of full pointers are those of their cells
abbrev pub Agree : (ℕ → ℕ) → List (ℕ × ℕ) → Type 0
Agree nums xs = AllByRecursion (λ x. nums x.1 ≡ x.0) xs

pub if_not : (b : Bool) (r : ℕ × Reason) (o : Option (ℕ × Reason)) → refused_if b r o ≡ None → (b ≡ false) × (o ≡ None)
if_not true r o e = cc
if_not false r o e = (refl, e)

pub accepted_by : (s o : Option (ℕ × Reason)) (octets os : List ℕ) → taken_by s o octets ≡ Some os → (o ≡ None) × (octets ≡ os)
accepted_by (Some r) o octets os e = cc
accepted_by None (Some r) octets os e = cc
accepted_by None None octets os e = (refl, same_Some _ _ e)

-- a text that ends with its first zero
text_ends : (at n : ℕ) (xs : List ℕ) → text_refusal at xs ≡ None → length xs ≡ n + 1 → xs ≡ take n xs ++ 0 ∷ []
text_ends at n [] e h = absurd (omega arith)
text_ends at zero (b ∷ []) e h = go (eqb b 0) refl e
  where
    go : (t : Bool) → eqb b 0 ≡ t → cond {A = Option (ℕ × Reason)} t None (Some (at, reason.TextUnended)) ≡ None → (b ∷ []) ≡ 0 ∷ []
    go true f e = ap (λ u. u ∷ []) (eqb-true b 0 f)
    go false f e = cc
text_ends at (suc n) (b ∷ []) e h = absurd (omega arith)
text_ends at zero (b ∷ c ∷ xs) e h = absurd (omega arith)
text_ends at (suc n) (b ∷ c ∷ xs) e h = go (eqb b 0) e (λ f. text_ends (at + 1) n (c ∷ xs) f (omega arith))
  where
    go : (t : Bool) → cond {A = Option (ℕ × Reason)} t (Some (at, reason.TextZero)) (text_refusal (at + 1) (c ∷ xs)) ≡ None
        → (text_refusal (at + 1) (c ∷ xs) ≡ None → (c ∷ xs) ≡ take n (c ∷ xs) ++ 0 ∷ []) → (b ∷ c ∷ xs) ≡ b ∷ (take n (c ∷ xs) ++ 0 ∷ [])
    go true e r = cc
    go false e r = ap (λ u. b ∷ u) (r e)

-- the octets of the identifier that sixteen octets hold
abbrev by_id : Order → List ℕ → List ℕ
by_id o os =
    let id : List ℕ = reverse (in_order o (take 4 os)) ++ (reverse (in_order o (take 2 (drop 4 os))) ++ (reverse (in_order o (take 2 (drop 6 os))) ++ drop 8 os)) in
    id_octets o id

module _ (order : Order) (octets : List ℕ) (h : Home) (n : ℕ) where
  abbrev E : Kind → Entry
  E k = record { home = h; node = n; kind = k }

  abbrev P : Kind → Progress → Progress
  P k p = pass order octets (E k) p

  abbrev T : Kind → Progress → Option (List ℕ)
  T k p = taken order octets (E k) p

  -- what is taken is not refused, lies within the octets, and has its length
  pub accepted_kind : (k : Kind) (p : Progress) (os : List ℕ) → T k p ≡ Some os
      → (kind_refusal order octets p.seen p.at (E k) k os ≡ None) × (p.at + size_at p.at k ≤ length octets) × (length os ≡ size_at p.at k)
  accepted_kind k p os e =
      let (a, b) = accepted_by p.stop (refusal order octets p.seen (here p (E k))) (piece octets p.at k) os e in
      let (c, d) = if_not (is_long p.at k) (STREAM_LIMIT, reason.TooLong) _ a in
      let (f, g) = if_not (ltb (length octets) (p.at + size_at p.at k)) (length octets, reason.Truncated) _ d in
      let w : p.at + size_at p.at k ≤ length octets = ltb-false (length octets) (p.at + size_at p.at k) f in
      let l : length (piece octets p.at k) ≡ size_at p.at k =
      length-take (size_at p.at k) (drop p.at octets) ∙ ap (λ u. min (size_at p.at k) u) (length-drop p.at octets) ∙ omega arith in
      (subst (λ u. kind_refusal order octets p.seen p.at (E k) k u ≡ None) b g, w, ap length (sym b) ∙ l)

  -- a number in a primitive's octets
  pub follows_number : (nums : ℕ → ℕ) (prim : Primitive) (values : Option (List ℤ)) (p : Progress)
      → Follows order octets nums p (E (Align (width prim)) ∷ E (Num prim values (value_in order octets prim (T (Num prim values (pos 0)) (P (Align (width prim)) p)))) ∷ [])
      (P (Num prim values (value_in order octets prim (T (Num prim values (pos 0)) (P (Align (width prim)) p)))) (P (Align (width prim)) p))
  follows_number nums prim values p =
      let gap : Progress = P (Align (width prim)) p in
      let z : ℤ = value_in order octets prim (T (Num prim values (pos 0)) gap) in
      ((λ os e. tt), ((λ os e. ap (value_in order octets prim) (sym e ∙ same_taken order octets gap h n (Num prim values z) (Num prim values (pos 0)) refl)), refl))

  pub follows_tag : (nums : ℕ → ℕ) (prim : Primitive) (values : Option (List ℤ)) (arms : List Arm) (default : Option Arm) (p : Progress)
      → Follows order octets nums p
      (E (Align (width prim)) ∷ E (Tag prim values arms default (value_in order octets prim (T (Tag prim values arms default (pos 0)) (P (Align (width prim)) p)))) ∷ [])
      (P (Tag prim values arms default (value_in order octets prim (T (Tag prim values arms default (pos 0)) (P (Align (width prim)) p)))) (P (Align (width prim)) p))
  follows_tag nums prim values arms default p =
      let gap : Progress = P (Align (width prim)) p in
      let z : ℤ = value_in order octets prim (T (Tag prim values arms default (pos 0)) gap) in (
        (λ os e. tt),
        ((λ os e. ap (value_in order octets prim) (sym e ∙ same_taken order octets gap h n (Tag prim values arms default z) (Tag prim values arms default (pos 0)) refl)), refl),
      )

  -- the counts of a varying array
  pub follows_counts : (nums : ℕ → ℕ) (max o c : ℕ) (p : Progress)
      → o ≡ number_in order octets (T (Offset false 0) (P (Align 4) p))
      → c ≡ number_in order octets (T (Actual false o max 0) (P (Offset false o) (P (Align 4) p)))
      → Follows order octets nums p (E (Align 4) ∷ E (Offset false o) ∷ E (Actual false o max c) ∷ []) (P (Actual false o max c) (P (Offset false o) (P (Align 4) p)))
  follows_counts nums max o c p eo ec =
      let gap : Progress = P (Align 4) p in
      let behind : Progress = P (Offset false o) gap in (
        (λ os e. tt),
        (
          (λ os e. ap (number_in order octets) (sym e ∙ same_taken order octets gap h n (Offset false o) (Offset false 0) refl) ∙ sym eo),
          ((λ os e. ap (number_in order octets) (sym e ∙ same_taken order octets behind h n (Actual false o max c) (Actual false o max 0) refl) ∙ sym ec), refl),
        ),
      )

  -- a hoisted maximum count
  pub follows_max : (nums : ℕ → ℕ) (p : Progress)
      → Follows order octets nums p (E (Align 4) ∷ E (Max (number_in order octets (T (Max 0) (P (Align 4) p)))) ∷ [])
      (P (Max (number_in order octets (T (Max 0) (P (Align 4) p)))) (P (Align 4) p))
  follows_max nums p =
      let gap : Progress = P (Align 4) p in
      ((λ os e. tt), ((λ os e. ap (number_in order octets) (sym e ∙ same_taken order octets gap h n (Max (number_in order octets (T (Max 0) gap))) (Max 0) refl)), refl))

  not_zero : (v : ℕ) → (true && eqb v 0) ≡ false → v - 1 + 1 ≡ v
  not_zero zero e = absurd (eqb-false 0 0 e refl)
  not_zero (suc v) e = omega arith

  text_length : (c : ℕ) (p : Progress) → length (text_in order octets (c - 1) (T (Text (replicate (c - 1) 0)) p)) ≡ c - 1
  text_length c p = go (T (Text (replicate (c - 1) 0)) p) refl
    where
      go : (o : Option (List ℕ)) → T (Text (replicate (c - 1) 0)) p ≡ o → length (text_in order octets (c - 1) o) ≡ c - 1
      go None e = length-replicate (c - 1) 0
      go (Some os) e =
          let (a, b, l) = accepted_kind (Text (replicate (c - 1) 0)) p os e in
          let zeros : List ℕ = replicate (c - 1) 0 in
          let r : length zeros ≡ c - 1 = length-replicate (c - 1) 0 in
          let m : length os ≡ length zeros + 1 = l in
          length-take (c - 1) os ∙ omega arith

  offset_zero : (gap : Progress) (os : List ℕ) → T (Offset true 0) gap ≡ Some os → unsigned order os ≡ 0
  offset_zero gap os e =
      let (a, b, l) = accepted_kind (Offset true 0) gap os e in
      eqb-true (unsigned order os) 0 (not-false (eqb (unsigned order os) 0) (if_not (not (eqb (unsigned order os) 0)) (gap.at, reason.TextOffset) None a).0)

  count_spelt : (max c : ℕ) (behind : Progress) → c ≡ number_in order octets (T (Actual true 0 max 0) behind) → (os : List ℕ)
      → T (Actual true 0 max (c - 1 + 1)) behind ≡ Some os → unsigned order os ≡ c - 1 + 1
  count_spelt max c behind ec os e =
      let (a, b, l) = accepted_kind (Actual true 0 max (c - 1 + 1)) behind os e in
      let f : unsigned order os ≡ c = ap (number_in order octets) (sym e ∙ same_taken order octets behind h n (Actual true 0 max (c - 1 + 1)) (Actual true 0 max 0) refl) ∙ sym ec in
      let (z, y) = if_not (true && eqb (unsigned order os) 0) (behind.at, reason.TextEmpty) _ a in
      f ∙ sym (not_zero c (subst (λ u. (true && eqb u 0) ≡ false) f z))

  text_spelt : (c : ℕ) (text : List ℕ) (counted : Progress) → text ≡ text_in order octets (c - 1) (T (Text (replicate (c - 1) 0)) counted)
      → (os : List ℕ) → T (Text text) counted ≡ Some os → os ≡ text ++ 0 ∷ []
  text_spelt c text counted et os e =
      let lt : length text ≡ c - 1 = ap length et ∙ text_length c counted in
      let lr : length (replicate (c - 1) 0) ≡ c - 1 = length-replicate (c - 1) 0 in
      let same : T (Text text) counted ≡ T (Text (replicate (c - 1) 0)) counted =
      same_taken order octets counted h n (Text text) (Text (replicate (c - 1) 0)) (ap (λ k. Text (replicate k 0)) (lt ∙ sym lr)) in
      let (a, b, l) = accepted_kind (Text text) counted os e in
      let l' : length os ≡ length text + 1 = l in
      let k : length os ≡ (c - 1) + 1 = l' ∙ ap (λ u. u + 1) lt in
      let t : text ≡ take (c - 1) os = et ∙ ap (text_in order octets (c - 1)) (sym same ∙ e) in
      text_ends counted.at (c - 1) os a k ∙ ap (λ u. u ++ 0 ∷ []) (sym t)

  -- a text: its offset, its actual count, and its octets with their terminator
  pub follows_text : (nums : ℕ → ℕ) (max c : ℕ) (text : List ℕ) (p : Progress)
      → c ≡ number_in order octets (T (Actual true 0 max 0) (P (Offset true 0) (P (Align 4) p)))
      → text ≡ text_in order octets (c - 1) (T (Text (replicate (c - 1) 0)) (P (Actual true 0 max (c - 1 + 1)) (P (Offset true 0) (P (Align 4) p))))
      → Follows order octets nums p (E (Align 4) ∷ E (Offset true 0) ∷ E (Actual true 0 max (length text + 1)) ∷ E (Text text) ∷ [])
      (P (Text text) (P (Actual true 0 max (c - 1 + 1)) (P (Offset true 0) (P (Align 4) p))))
  follows_text nums max c text p ec et =
      let gap : Progress = P (Align 4) p in
      let behind : Progress = P (Offset true 0) gap in
      let counted : Progress = P (Actual true 0 max (c - 1 + 1)) behind in
      let lt : c - 1 ≡ length text = sym (ap length et ∙ text_length c counted) in
      subst (λ u. Follows order octets nums p (E (Align 4) ∷ E (Offset true 0) ∷ E (Actual true 0 max (u + 1)) ∷ E (Text text) ∷ []) (P (Text text) counted)) lt
      ((λ os e. tt), ((λ os e. offset_zero gap os e), ((λ os e. count_spelt max c behind ec os e), ((λ os e. text_spelt c text counted et os e), refl))))

  -- an identifier's octets give it, and it gives them back
  identifier_back : (os : List ℕ) → length os ≡ 16 → by_id order os ≡ os
  identifier_back [] len = absurd (omega arith)
  identifier_back (b0 ∷ []) len = absurd (omega arith)
  identifier_back (b0 ∷ b1 ∷ []) len = absurd (omega arith)
  identifier_back (b0 ∷ b1 ∷ b2 ∷ []) len = absurd (omega arith)
  identifier_back (b0 ∷ b1 ∷ b2 ∷ b3 ∷ []) len = absurd (omega arith)
  identifier_back (b0 ∷ b1 ∷ b2 ∷ b3 ∷ b4 ∷ []) len = absurd (omega arith)
  identifier_back (b0 ∷ b1 ∷ b2 ∷ b3 ∷ b4 ∷ b5 ∷ []) len = absurd (omega arith)
  identifier_back (b0 ∷ b1 ∷ b2 ∷ b3 ∷ b4 ∷ b5 ∷ b6 ∷ []) len = absurd (omega arith)
  identifier_back (b0 ∷ b1 ∷ b2 ∷ b3 ∷ b4 ∷ b5 ∷ b6 ∷ b7 ∷ []) len = absurd (omega arith)
  identifier_back (b0 ∷ b1 ∷ b2 ∷ b3 ∷ b4 ∷ b5 ∷ b6 ∷ b7 ∷ b8 ∷ []) len = absurd (omega arith)
  identifier_back (b0 ∷ b1 ∷ b2 ∷ b3 ∷ b4 ∷ b5 ∷ b6 ∷ b7 ∷ b8 ∷ b9 ∷ []) len = absurd (omega arith)
  identifier_back (b0 ∷ b1 ∷ b2 ∷ b3 ∷ b4 ∷ b5 ∷ b6 ∷ b7 ∷ b8 ∷ b9 ∷ b10 ∷ []) len = absurd (omega arith)
  identifier_back (b0 ∷ b1 ∷ b2 ∷ b3 ∷ b4 ∷ b5 ∷ b6 ∷ b7 ∷ b8 ∷ b9 ∷ b10 ∷ b11 ∷ []) len = absurd (omega arith)
  identifier_back (b0 ∷ b1 ∷ b2 ∷ b3 ∷ b4 ∷ b5 ∷ b6 ∷ b7 ∷ b8 ∷ b9 ∷ b10 ∷ b11 ∷ b12 ∷ []) len = absurd (omega arith)
  identifier_back (b0 ∷ b1 ∷ b2 ∷ b3 ∷ b4 ∷ b5 ∷ b6 ∷ b7 ∷ b8 ∷ b9 ∷ b10 ∷ b11 ∷ b12 ∷ b13 ∷ []) len = absurd (omega arith)
  identifier_back (b0 ∷ b1 ∷ b2 ∷ b3 ∷ b4 ∷ b5 ∷ b6 ∷ b7 ∷ b8 ∷ b9 ∷ b10 ∷ b11 ∷ b12 ∷ b13 ∷ b14 ∷ []) len = absurd (omega arith)
  identifier_back (b0 ∷ b1 ∷ b2 ∷ b3 ∷ b4 ∷ b5 ∷ b6 ∷ b7 ∷ b8 ∷ b9 ∷ b10 ∷ b11 ∷ b12 ∷ b13 ∷ b14 ∷ b15 ∷ []) len = by_order order
    where
      by_order : (which : Order)
          → by_id which (b0 ∷ b1 ∷ b2 ∷ b3 ∷ b4 ∷ b5 ∷ b6 ∷ b7 ∷ b8 ∷ b9 ∷ b10 ∷ b11 ∷ b12 ∷ b13 ∷ b14 ∷ b15 ∷ [])
          ≡ (b0 ∷ b1 ∷ b2 ∷ b3 ∷ b4 ∷ b5 ∷ b6 ∷ b7 ∷ b8 ∷ b9 ∷ b10 ∷ b11 ∷ b12 ∷ b13 ∷ b14 ∷ b15 ∷ [])
      by_order Little = refl
      by_order Big = refl
  identifier_back (b0 ∷ b1 ∷ b2 ∷ b3 ∷ b4 ∷ b5 ∷ b6 ∷ b7 ∷ b8 ∷ b9 ∷ b10 ∷ b11 ∷ b12 ∷ b13 ∷ b14 ∷ b15 ∷ b16 ∷ rest) len = absurd (omega arith)

  context_spelt : (gap : Progress) (os : List ℕ)
      → T (Context (attributes_in order octets (T (Context 0 []) gap)) (identifier_in order octets (T (Context 0 []) gap))) gap ≡ Some os
      → (unsigned order (take 4 os) ≡ attributes_in order octets (T (Context 0 []) gap)) × (drop 4 os ≡ id_octets order (identifier_in order octets (T (Context 0 []) gap)))
  context_spelt gap os e =
      let a : ℕ = attributes_in order octets (T (Context 0 []) gap) in
      let id : List ℕ = identifier_in order octets (T (Context 0 []) gap) in
      let (x, y, l) = accepted_kind (Context a id) gap os e in
      let l' : length os ≡ 20 = l in
      let f : T (Context 0 []) gap ≡ Some os = sym (same_taken order octets gap h n (Context a id) (Context 0 []) refl) ∙ e in
      let d : length (drop 4 os) ≡ 16 = length-drop 4 os ∙ omega arith in (
        ap (attributes_in order octets) (sym f),
        sym (identifier_back (drop 4 os) d) ∙ ap (λ o. id_octets order (identifier_in order octets o)) (sym f),
      )

  pub follows_context : (nums : ℕ → ℕ) (p : Progress)
      → Follows order octets nums p
      (E (Align 4) ∷ E (Context (attributes_in order octets (T (Context 0 []) (P (Align 4) p))) (identifier_in order octets (T (Context 0 []) (P (Align 4) p)))) ∷ [])
      (P (Context (attributes_in order octets (T (Context 0 []) (P (Align 4) p))) (identifier_in order octets (T (Context 0 []) (P (Align 4) p)))) (P (Align 4) p))
  follows_context nums p = ((λ os e. tt), ((λ os e. context_spelt (P (Align 4) p) os e), refl))

  numbered_agrees : (nums : ℕ → ℕ) (xs : List (ℕ × ℕ)) (v c : ℕ) → Agree nums xs → numbered xs v ≡ Some c → nums c ≡ v
  numbered_agrees nums [] v c a e = cc
  numbered_agrees nums (x ∷ xs) v c a e = go (eqb x.0 v) refl e (numbered_agrees nums xs v c a.1)
    where
      go : (t : Bool) → eqb x.0 v ≡ t → cond t (Some x.1) (numbered xs v) ≡ Some c → (numbered xs v ≡ Some c → nums c ≡ v) → nums c ≡ v
      go true f e r = ap nums (sym (same_Some _ _ e)) ∙ a.0 ∙ eqb-true x.0 v f
      go false f e r = r e

  above : (v : ℕ) → eqb v 0 ≡ false → 0 < v
  above zero e = absurd (eqb-false 0 0 e refl)
  above (suc v) e = omega arith

  -- the cell that is named has the number, under each numbering that agrees with the names
  named_number : (nums : ℕ → ℕ) (k : Class) (to : ℕ) (os : List ℕ) (v : ℕ) (s : Names) → Agree nums (named k to (Some os) v s).names.numbers
      → IsNumber nums k (named k to (Some os) v s).cell v
  named_number nums Ref to os v s a = tt
  named_number nums Unique to os v s a = go (eqb v 0) refl
    where
      go : (t : Bool) → eqb v 0 ≡ t → IsNumber nums Unique (cond t (record { cell = None; names = s }) (new_cell to s)).cell v
      go true e = eqb-true v 0 e
      go false e = above v e
  named_number nums Full to os v s a = go (eqb v 0) refl a
    where
      by_table : (o : Option ℕ) → numbered s.numbers v ≡ o → Agree nums (full_by o v to s).names.numbers → IsNumber nums Full (full_by o v to s).cell v
      by_table (Some c) e a = sym (numbered_agrees nums s.numbers v c a e)
      by_table None e a = sym a.0

      go : (t : Bool) → eqb v 0 ≡ t → Agree nums (cond t (record { cell = None; names = s }) (full_by (numbered s.numbers v) v to s)).names.numbers
          → IsNumber nums Full (cond t (record { cell = None; names = s }) (full_by (numbered s.numbers v) v to s)).cell v
      go true e a = eqb-true v 0 e
      go false e a = by_table (numbered s.numbers v) refl a

  pub follows_pointer : (nums : ℕ → ℕ) (k : Class) (to : ℕ) (p : Progress) (s : Names)
      → Agree nums (named k to (T (Number k to None) (P (Align 4) p)) (number_in order octets (T (Number k to None) (P (Align 4) p))) s).names.numbers
      → Follows order octets nums p
      (E (Align 4) ∷ E (Number k to (named k to (T (Number k to None) (P (Align 4) p)) (number_in order octets (T (Number k to None) (P (Align 4) p))) s).cell) ∷ [])
      (P (Number k to (named k to (T (Number k to None) (P (Align 4) p)) (number_in order octets (T (Number k to None) (P (Align 4) p))) s).cell) (P (Align 4) p))
  follows_pointer nums k to p s a =
      let gap : Progress = P (Align 4) p in
      let o : Option (List ℕ) = T (Number k to None) gap in
      let c : Option ℕ = (named k to o (number_in order octets o) s).cell in (
        (λ os e. tt),
        (
          (λ os e.
              let f : o ≡ Some os = sym (same_taken order octets gap h n (Number k to c) (Number k to None) refl) ∙ e in
              let a' : Agree nums (named k to (Some os) (unsigned order os) s).names.numbers = subst (λ u. Agree nums (named k to u (number_in order octets u) s).names.numbers) f a in
              subst (λ u. IsNumber nums k (named k to u (number_in order octets u) s).cell (unsigned order os)) (sym f) (named_number nums k to os (unsigned order os) s a')),
          refl,
        ),
      )

-- the names of full pointers grow
abbrev pub Grown : List (ℕ × ℕ) → List (ℕ × ℕ) → Type 0
Grown before after = (new : List (ℕ × ℕ)) × (after ≡ new ++ before)

pub named_grown : (k : Class) (to : ℕ) (o : Option (List ℕ)) (v : ℕ) (s : Names) → Grown s.numbers (named k to o v s).names.numbers
named_grown Ref to o v s = ([], refl)
named_grown Unique to None v s = ([], refl)
named_grown Full to None v s = ([], refl)
named_grown Unique to (Some os) v s = go (eqb v 0)
  where
    go : (t : Bool) → Grown s.numbers (cond t (record { cell = None; names = s }) (new_cell to s)).names.numbers
    go true = ([], refl)
    go false = ([], refl)
named_grown Full to (Some os) v s = go (eqb v 0)
  where
    by_table : (o : Option ℕ) → Grown s.numbers (full_by o v to s).names.numbers
    by_table (Some c) = ([], refl)
    by_table None = ((v, fresh to s) ∷ [], refl)

    go : (t : Bool) → Grown s.numbers (cond t (record { cell = None; names = s }) (full_by (numbered s.numbers v) v to s)).names.numbers
    go true = ([], refl)
    go false = by_table (numbered s.numbers v)

pub grown_agree : (nums : ℕ → ℕ) (before after : List (ℕ × ℕ)) → Grown before after → Agree nums after → Agree nums before
grown_agree nums before after (new, e) a = all_right _ new before (subst (Agree nums) e a)

pub grown_twice : (a b c : List (ℕ × ℕ)) → Grown a b → Grown b c → Grown a c
grown_twice a b c (x, e) (y, f) = (y ++ x, f ∙ ap (λ u. y ++ u) e ∙ sym (append_assoc y x a))
