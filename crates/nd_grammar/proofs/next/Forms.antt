-- An entry's length, and whether it is refused, follow from its form.
use Rattle.std.proofs.Common.{◌≡◌, ℕ, ◌+◌, Bool, true, false, List, length, Option, refl, ap, ap₂, sym, ◌∙◌, take, drop}
use Rattle.std.specs.Prelude.{ltb}
use Rattle.std.proofs.lemmas.List.{length-replicate}
use Rattle.nd_base.specs.declared.octets.Order.{Order}
use Rattle.nd_base.specs.declared.TheConstants.{STREAM_LIMIT}
use Rattle.nd_types.specs.declared.types.Class.TheVariants.{Ref, Unique, Full}
use Rattle.nd_grammar.specs.declared.reason.Reason.{Reason}
use Rattle.nd_grammar.specs.declared.reason.Reason.TheVariants as reason
use Rattle.nd_grammar.specs.Entry.{Kind, Entry, Align, Max, Offset, Actual, Chunk, Number, Num, Tag, Text, Context, Test, Unread, size_at, EntryAt}
use Rattle.nd_grammar.specs.Stream.{piece}
use Rattle.nd_grammar.specs.Refusal.{kind_refusal, refused_if, is_long}
use Rattle.nd_grammar.specs.NextMark.{form}

pub size_form : (at : ℕ) (x : Kind) → size_at at (form x) ≡ size_at at x
size_form at (Text octets) = ap (λ n. n + 1) (length-replicate (length octets) 0)
size_form at (Align n) = refl
size_form at (Max v) = refl
size_form at (Offset t v) = refl
size_form at (Actual t o l v) = refl
size_form at (Chunk v) = refl
size_form at (Number k to c) = refl
size_form at (Num p values z) = refl
size_form at (Tag p values arms default z) = refl
size_form at (Context a i) = refl
size_form at (Test a w f) = refl
size_form at Unread = refl

long_form : (at : ℕ) (x : Kind) → is_long at (form x) ≡ is_long at x
long_form at (Text octets) = ap (λ n. ltb STREAM_LIMIT (at + (n + 1))) (length-replicate (length octets) 0)
long_form at (Align n) = refl
long_form at (Max v) = refl
long_form at (Offset t v) = refl
long_form at (Actual t o l v) = refl
long_form at (Chunk v) = refl
long_form at (Number k to c) = refl
long_form at (Num p values z) = refl
long_form at (Tag p values arms default z) = refl
long_form at (Context a i) = refl
long_form at (Test a w f) = refl
long_form at Unread = refl

module _ (order : Order) (octets : List ℕ) (earlier : List EntryAt) (at : ℕ) (m : Entry) where
  kind_form : (x : Kind) (os : List ℕ) → kind_refusal order octets earlier at m (form x) os ≡ kind_refusal order octets earlier at m x os
  kind_form (Offset true v) os = refl
  kind_form (Offset false v) os = refl
  kind_form (Number Full to c) os = refl
  kind_form (Number Ref to c) os = refl
  kind_form (Number Unique to c) os = refl
  kind_form (Align n) os = refl
  kind_form (Max v) os = refl
  kind_form (Actual t o l v) os = refl
  kind_form (Chunk v) os = refl
  kind_form (Num p values z) os = refl
  kind_form (Tag p values arms default z) os = refl
  kind_form (Text t) os = refl
  kind_form (Context a i) os = refl
  kind_form (Test a w f) os = refl
  kind_form Unread os = refl

  abbrev judged : Bool → ℕ → Option (ℕ × Reason) → Option (ℕ × Reason)
  judged long n o = refused_if long (STREAM_LIMIT, reason.TooLong) (refused_if (ltb (length octets) (at + n)) (length octets, reason.Truncated) o)

  abbrev with_form : Kind → Option (ℕ × Reason)
  with_form x = judged (is_long at x) (size_at at x) (kind_refusal order octets earlier at m x (piece octets at x))

  form_judged : (x : Kind) → with_form (form x) ≡ with_form x
  form_judged x =
      ap₂ (λ b n. judged b n (kind_refusal order octets earlier at m (form x) (piece octets at (form x)))) (long_form at x) (size_form at x)
      ∙ ap (λ o. judged (is_long at x) (size_at at x) o)
      (ap (λ n. kind_refusal order octets earlier at m (form x) (take n (drop at octets))) (size_form at x) ∙ kind_form x (piece octets at x))

  -- two entries of one form in one place are refused alike
  pub refused_alike : (x y : Kind) → form x ≡ form y → with_form x ≡ with_form y
  refused_alike x y e = sym (form_judged x) ∙ ap with_form e ∙ form_judged y
