-- Refusals of entries: by octets that end earlier or later, and what each kind is refused for.
use Rattle.std.proofs.Common.{◌≡◌, ℕ, ◌+◌, ◌≤◌, Bool, true, false, ◌&&◌, List, [], ◌∷◌, ◌++◌, length, Option, Some, None, refl, ap, sym, ◌∙◌, subst}
use Rattle.std.specs.Prelude.{ltb, not, eqb, cond, ℤ, option_map}
use Rattle.std.specs.Ordering.{int_eq}
use Rattle.std.specs.List.{AllByRecursion}
use Rattle.std.proofs.lemmas.Bool.{ltb-false}
use Rattle.std.proofs.lemmas.Option.{same_Some}
use Rattle.nd_base.specs.declared.octets.Order.{Order}
use Rattle.nd_base.specs.declared.TheConstants.{STREAM_LIMIT}
use Rattle.nd_types.specs.declared.types.Class.TheVariants.{Ref, Unique, Full}
use Rattle.nd_types.specs.Number.{unsigned, value_of_octets}
use Rattle.nd_types.specs.Table.{selected}
use Rattle.nd_value.proofs.Apart.{all_append}
use Rattle.nd_grammar.specs.declared.reason.Reason.{Reason}
use Rattle.nd_grammar.specs.declared.reason.Reason.TheVariants as reason
use Rattle.nd_grammar.specs.Entry.{Kind, Entry, Align, Max, Offset, Actual, Chunk, Number, Num, Tag, Text, Context, Test, Unread, size_at, EntryAt}
use Rattle.nd_grammar.specs.Stream.{piece, Spells, IsRendered}
use Rattle.nd_grammar.specs.Refusal.{refusal, kind_refusal, refused_if, text_refusal, is_enumerator, is_selected, is_long, is_other, tested_at, Accepts}
use Rattle.nd_grammar.proofs.StaysBad.{judged_alike}
use Rattle.nd_grammar.proofs.next.Spelt.{piece_left}

-- ## An entry is judged alike by octets that end later

module _ (order : Order) (octets more : List ℕ) where
  abbrev longer : List ℕ
  longer = octets ++ more

  abbrev pub Within : EntryAt → Type 0
  Within x = x.at + size_at x.at x.entry.kind ≤ length octets

  pub accepted_before : (seen ys : List EntryAt) → AllByRecursion Within seen → AllByRecursion Within ys → Accepts order longer seen ys → Accepts order octets seen ys
  accepted_before seen [] a b c = tt
  accepted_before seen (y ∷ ys) a b c = (
    sym (judged_alike order octets more seen a y b.0) ∙ c.0,
    accepted_before (seen ++ y ∷ []) ys (all_append Within seen (y ∷ []) a (b.0, tt)) b.1 c.1,
  )

  pub spelt_before : (nums : ℕ → ℕ) (ys : List EntryAt) → AllByRecursion Within ys → AllByRecursion (IsRendered order nums longer) ys → AllByRecursion (IsRendered order nums octets) ys
  spelt_before nums [] b c = tt
  spelt_before nums (y ∷ ys) b c = (
    (b.0, subst (Spells order nums y.entry.kind) (piece_left y.at (size_at y.at y.entry.kind) octets more b.0) c.0.1),
    spelt_before nums ys b.1 c.1,
  )

  pub accepts_stay : (seen ys : List EntryAt) → AllByRecursion Within seen → AllByRecursion Within ys → Accepts order octets seen ys → Accepts order longer seen ys
  accepts_stay seen [] a b c = tt
  accepts_stay seen (y ∷ ys) a b c = (
    judged_alike order octets more seen a y b.0 ∙ c.0,
    accepts_stay (seen ++ y ∷ []) ys (all_append Within seen (y ∷ []) a (b.0, tt)) b.1 c.1,
  )

  -- the refusal of an entry that ends within the limit
  abbrev rest : List ℕ → List EntryAt → EntryAt → Option (ℕ × Reason)
  rest os seen x =
      refused_if (ltb (length os) (x.at + size_at x.at x.entry.kind)) (length os, reason.Truncated)
      (kind_refusal order os seen x.at x.entry x.entry.kind (piece os x.at x.entry.kind))

  -- a refusal that is not for the octets' end
  pub refused_alike : (seen : List EntryAt) → AllByRecursion Within seen → (x : EntryAt) (place : ℕ) (why : Reason) → (why ≡ reason.Truncated → ⊥)
      → refusal order octets seen x ≡ Some (place, why) → refusal order longer seen x ≡ Some (place, why)
  refused_alike seen a x place why other e = go (is_long x.at x.entry.kind) refl (ltb (length octets) (x.at + size_at x.at x.entry.kind)) refl
    where
      go : (long : Bool) → is_long x.at x.entry.kind ≡ long → (cut : Bool) → ltb (length octets) (x.at + size_at x.at x.entry.kind) ≡ cut
          → refusal order longer seen x ≡ Some (place, why)
      go true f cut g =
          ap (λ b. refused_if b (STREAM_LIMIT, reason.TooLong) (rest longer seen x)) f
          ∙ sym (ap (λ b. refused_if b (STREAM_LIMIT, reason.TooLong) (rest octets seen x)) f) ∙ e
      go false f true g =
          let cut_short : refusal order octets seen x ≡ Some (length octets, reason.Truncated) =
          ap (λ b. refused_if b (STREAM_LIMIT, reason.TooLong) (rest octets seen x)) f
          ∙ ap (λ b. refused_if b (length octets, reason.Truncated) (kind_refusal order octets seen x.at x.entry x.entry.kind (piece octets x.at x.entry.kind))) g in
          absurd (other (ap (λ r. r.1) (same_Some _ _ (sym e ∙ cut_short))))
      go false f false g = judged_alike order octets more seen a x (ltb-false (length octets) (x.at + size_at x.at x.entry.kind) g) ∙ e

-- ## What kinds are refused for

abbrev pub IsOfKind : Option (ℕ × Reason) → Type 0
IsOfKind o = (place : ℕ) (why : Reason) → o ≡ Some (place, why) → (why ≡ reason.TooLong → ⊥) × (why ≡ reason.Truncated → ⊥)

none_of_kind : IsOfKind None
none_of_kind place why e = cc

one_of_kind : (b : Bool) (at : ℕ) (r : Reason) (o : Option (ℕ × Reason)) → (r ≡ reason.TooLong → ⊥) → (r ≡ reason.Truncated → ⊥) → IsOfKind o → IsOfKind (refused_if b (at, r) o)
one_of_kind true at r o x y k place why e = let f : r ≡ why = ap (λ u. u.1) (same_Some _ _ e) in ((λ g. x (f ∙ g)), (λ g. y (f ∙ g)))
one_of_kind false at r o x y k place why e = k place why e

text_of_kind : (at : ℕ) (os : List ℕ) → IsOfKind (text_refusal at os)
text_of_kind at [] = none_of_kind
text_of_kind at (b ∷ []) = go (eqb b 0)
  where
    go : (t : Bool) → IsOfKind (cond t None (Some (at, reason.TextUnended)))
    go true = none_of_kind
    go false = λ place why e. (let f : reason.TextUnended ≡ why = ap (λ u. u.1) (same_Some _ _ e) in ((λ g. cc), (λ g. cc)))
text_of_kind at (b ∷ c ∷ bs) = go (eqb b 0) (text_of_kind (at + 1) (c ∷ bs))
  where
    go : (t : Bool) → IsOfKind (text_refusal (at + 1) (c ∷ bs)) → IsOfKind (cond t (Some (at, reason.TextZero)) (text_refusal (at + 1) (c ∷ bs)))
    go true k = λ place why e. (let f : reason.TextZero ≡ why = ap (λ u. u.1) (same_Some _ _ e) in ((λ g. cc), (λ g. cc)))
    go false k = k

module _ (order : Order) (octets : List ℕ) where
  test_of_kind : (t : Bool) (o : Option ℕ) (wanted found : ℤ) → IsOfKind (cond t None (option_map (λ place. (place, reason.Disagrees wanted found)) o))
  test_of_kind true o wanted found = none_of_kind
  test_of_kind false None wanted found = none_of_kind
  test_of_kind false (Some p) wanted found = λ place why e.
      (let f : reason.Disagrees wanted found ≡ why = ap (λ u. u.1) (same_Some _ _ e) in ((λ g. cc), (λ g. cc)))

  pub kind_of_kind : (seen : List EntryAt) (at : ℕ) (m : Entry) (k : Kind) (os : List ℕ) → IsOfKind (kind_refusal order octets seen at m k os)
  kind_of_kind seen at m (Num p values z) os = one_of_kind (not (is_enumerator values (value_of_octets order p os))) at reason.EnumValue None (λ e. cc) (λ e. cc) none_of_kind
  kind_of_kind seen at m (Tag p values arms default z) os =
      one_of_kind (not (is_enumerator values (value_of_octets order p os))) at reason.EnumValue _ (λ e. cc) (λ e. cc)
      (one_of_kind (not (is_selected (selected arms default (value_of_octets order p os)))) at reason.NoArm None (λ e. cc) (λ e. cc) none_of_kind)
  kind_of_kind seen at m (Offset true v) os = one_of_kind (not (eqb (unsigned order os) 0)) at reason.TextOffset None (λ e. cc) (λ e. cc) none_of_kind
  kind_of_kind seen at m (Offset false v) os = none_of_kind
  kind_of_kind seen at m (Actual t offset limit v) os =
      one_of_kind (t && eqb (unsigned order os) 0) at reason.TextEmpty _ (λ e. cc) (λ e. cc)
      (one_of_kind (ltb limit (offset + unsigned order os)) at reason.PastBound None (λ e. cc) (λ e. cc) none_of_kind)
  kind_of_kind seen at m (Text text) os = text_of_kind at os
  kind_of_kind seen at m (Number Full to cell) os =
      one_of_kind (not (eqb (unsigned order os) 0) && is_other order octets seen (unsigned order os) to) at reason.OtherType None (λ e. cc) (λ e. cc) none_of_kind
  kind_of_kind seen at m (Number Ref to cell) os = none_of_kind
  kind_of_kind seen at m (Number Unique to cell) os = none_of_kind
  kind_of_kind seen at m (Test a wanted found) os = test_of_kind (int_eq wanted found) (tested_at seen a m.home m.node) wanted found
  kind_of_kind seen at m (Align n) os = none_of_kind
  kind_of_kind seen at m (Max v) os = none_of_kind
  kind_of_kind seen at m (Chunk v) os = none_of_kind
  kind_of_kind seen at m (Context a id) os = none_of_kind
  kind_of_kind seen at m Unread os = none_of_kind

-- ## Entries end where later ones begin
