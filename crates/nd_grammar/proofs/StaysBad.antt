-- Octets that are refused for another reason than their end are refused there, for that reason, whatever octets follow them.
use Rattle.std.proofs.Common.{◌≡◌, ℕ, ◌+◌, ◌≤◌, Bool, true, false, ◌&&◌, List, [], ◌∷◌, ◌++◌, length, length-append, Option, Some, None, refl, ap, ap₂, sym, ◌∙◌, arith}
use Rattle.std.specs.Prelude.{ltb, not, eqb, ◌||◌}
use Rattle.std.specs.List.{AllByRecursion}
use Rattle.std.proofs.lemmas.Bool.{le-ltb, ltb-false}
use Rattle.std.proofs.lemmas.List.{append-nil}
use Rattle.std.proofs.lemmas.Option.{same_Some}
use Rattle.nd_base.specs.declared.octets.Order.{Order}
use Rattle.nd_base.specs.declared.TheConstants.{STREAM_LIMIT}
use Rattle.nd_types.specs.declared.types.Class.TheVariants.{Ref, Unique, Full}
use Rattle.nd_types.specs.Number.{unsigned}
use Rattle.nd_value.specs.declared.value.Graph.{Graph}
use Rattle.nd_value.specs.Setting.{Setting}
use Rattle.nd_value.specs.Conforms.{Conforms}
use Rattle.nd_value.proofs.Apart.{all_append, all_weaker}
use Rattle.nd_grammar.specs.declared.reason.Reason.{Reason}
use Rattle.nd_grammar.specs.declared.reason.Reason.TheVariants as reason
use Rattle.nd_grammar.specs.Entry.{Kind, Entry, Align, Max, Offset, Actual, Chunk, Number, Num, Tag, Text, Context, Test, Unread, size_at, EntryAt}
use Rattle.nd_grammar.specs.LegalSide.{IsLegalSide}
use Rattle.nd_grammar.specs.Stream.{piece, IsRendered, Represents}
use Rattle.nd_grammar.specs.Refusal.{refusal, kind_refusal, refused_if, is_long, is_other, other_pointee, Accepts, Bad}
use Rattle.nd_grammar.proofs.next.Spelt.{piece_left, spelt_in_more}
use Rattle.nd_grammar.proofs.Excluded.{excluded}

module _ (order : Order) (octets more : List ℕ) where
  abbrev longer : List ℕ
  longer = octets ++ more

  abbrev Within : EntryAt → Type 0
  Within x = x.at + size_at x.at x.entry.kind ≤ length octets

  within_more : (x : EntryAt) → Within x → x.at + size_at x.at x.entry.kind ≤ length longer
  within_more x h = omega (arith, h, length-append octets more)

  others_stay : (seen : List EntryAt) → AllByRecursion Within seen → (v to : ℕ) → is_other order longer seen v to ≡ is_other order octets seen v to
  others_stay [] a v to = refl
  others_stay (x ∷ xs) a v to =
      ap₂ (λ os b. other_pointee x.entry.kind to && eqb (unsigned order os) v || b) (piece_left x.at (size_at x.at x.entry.kind) octets more a.0)
      (others_stay xs a.1 v to)

  kind_stays : (seen : List EntryAt) → AllByRecursion Within seen → (at : ℕ) (m : Entry) (k : Kind) (os : List ℕ)
      → kind_refusal order longer seen at m k os ≡ kind_refusal order octets seen at m k os
  kind_stays seen a at m (Number Full to c) os =
      ap (λ b. refused_if (not (eqb (unsigned order os) 0) && b) (at, reason.OtherType) None) (others_stay seen a (unsigned order os) to)
  kind_stays seen a at m (Number Ref to c) os = refl
  kind_stays seen a at m (Number Unique to c) os = refl
  kind_stays seen a at m (Offset true v) os = refl
  kind_stays seen a at m (Offset false v) os = refl
  kind_stays seen a at m _ os = refl

  -- an entry whose octets are all there is judged alike
  pub judged_alike : (seen : List EntryAt) → AllByRecursion Within seen → (x : EntryAt) → Within x → refusal order longer seen x ≡ refusal order octets seen x
  judged_alike seen a x h =
      ap (λ b. refused_if (is_long x.at x.entry.kind) (STREAM_LIMIT, reason.TooLong)
      (refused_if b (length longer, reason.Truncated) (kind_refusal order longer seen x.at x.entry x.entry.kind (piece longer x.at x.entry.kind))))
      (le-ltb (length longer) (x.at + size_at x.at x.entry.kind) (within_more x h))
      ∙ ap (λ o. refused_if (is_long x.at x.entry.kind) (STREAM_LIMIT, reason.TooLong) o)
      (kind_stays seen a x.at x.entry x.entry.kind (piece longer x.at x.entry.kind)
      ∙ ap (kind_refusal order octets seen x.at x.entry x.entry.kind) (piece_left x.at (size_at x.at x.entry.kind) octets more h))
      ∙ sym (ap (λ b. refused_if (is_long x.at x.entry.kind) (STREAM_LIMIT, reason.TooLong)
      (refused_if b (length octets, reason.Truncated) (kind_refusal order octets seen x.at x.entry x.entry.kind (piece octets x.at x.entry.kind))))
      (le-ltb (length octets) (x.at + size_at x.at x.entry.kind) h))

  accepts_stay : (seen ys : List EntryAt) → AllByRecursion Within seen → AllByRecursion Within ys → Accepts order octets seen ys → Accepts order longer seen ys
  accepts_stay seen [] a b c = tt
  accepts_stay seen (y ∷ ys) a b c = (
    judged_alike seen a y b.0 ∙ c.0,
    accepts_stay (seen ++ y ∷ []) ys (all_append Within seen (y ∷ []) a (b.0, tt)) b.1 c.1,
  )

  -- the refusal of an entry that ends within the limit
  abbrev rest : List ℕ → List EntryAt → EntryAt → Option (ℕ × Reason)
  rest os seen x =
      refused_if (ltb (length os) (x.at + size_at x.at x.entry.kind)) (length os, reason.Truncated)
      (kind_refusal order os seen x.at x.entry x.entry.kind (piece os x.at x.entry.kind))

  -- a refusal that is not for the octets' end
  refused_alike : (seen : List EntryAt) → AllByRecursion Within seen → (x : EntryAt) (place : ℕ) (why : Reason) → (why ≡ reason.Truncated → ⊥)
      → refusal order octets seen x ≡ Some (place, why) → refusal order longer seen x ≡ Some (place, why)
  refused_alike seen a x place why other e = go (is_long x.at x.entry.kind) refl (ltb (length octets) (x.at + size_at x.at x.entry.kind)) refl
    where
      go : (long : Bool) → is_long x.at x.entry.kind ≡ long → (cut : Bool) → ltb (length octets) (x.at + size_at x.at x.entry.kind) ≡ cut
          → refusal order longer seen x ≡ Some (place, why)
      go true f cut g =
          ap (λ b. refused_if b (STREAM_LIMIT, reason.TooLong) (rest longer seen x)) f
          ∙ sym (ap (λ b. refused_if b (STREAM_LIMIT, reason.TooLong) (rest octets seen x)) f) ∙ e
      go false f true g =
          let cut_short : refusal order octets seen x ≡ Some (length octets, reason.Truncated) =
          ap (λ b. refused_if b (STREAM_LIMIT, reason.TooLong) (rest octets seen x)) f
          ∙ ap (λ b. refused_if b (length octets, reason.Truncated) (kind_refusal order octets seen x.at x.entry x.entry.kind (piece octets x.at x.entry.kind))) g in
          absurd (other (ap (λ r. r.1) (same_Some _ _ (sym e ∙ cut_short))))
      go false f false g = judged_alike seen a x (ltb-false (length octets) (x.at + size_at x.at x.entry.kind) g) ∙ e

-- What is bad and not cut short stays bad, whatever octets follow.
pub stays_bad : (w : Setting) (order : Order) (octets more : List ℕ) (place : ℕ) (why : Reason) → Bad w order octets place why → (why ≡ reason.Truncated → ⊥)
    → Bad w order (octets ++ more) place why
stays_bad w order octets more place why b other =
    let ends : AllByRecursion (Within order octets more) b.earlier =
    all_weaker (IsRendered order b.numbering octets) (Within order octets more) (λ x r. r.0) b.earlier b.rendered in
    record {
      partial = b.partial;
      is_partial = b.is_partial;
      entries = b.entries;
      stream = b.stream;
      earlier = b.earlier;
      here = b.here;
      later = b.later;
      split = b.split;
      numbering = b.numbering;
      is_numbering = b.is_numbering;
      rendered = spelt_in_more order b.numbering octets more b.earlier b.rendered;
      accepted = accepts_stay order octets more [] b.earlier tt ends b.accepted;
      refused = refused_alike order octets more b.earlier ends b.here place why other b.refused;
    }

-- So no octets that begin with them represent a graph that conforms.
pub none_begins_so : (w : Setting) → IsLegalSide w → (order : Order) (octets more : List ℕ) (place : ℕ) (why : Reason) → Bad w order octets place why
    → (why ≡ reason.Truncated → ⊥) → (g : Graph) → Conforms w g → Represents w order (octets ++ more) g → ⊥
none_begins_so w side order octets more place why b other g c r =
    excluded w side order (octets ++ more) place why (stays_bad w order octets more place why b other) (octets ++ more) [] (sym (append-nil (octets ++ more))) g c r
