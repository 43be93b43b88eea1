-- Octets that are cut short are within the limit of a stream, since what they lack would be too.
use Rattle.std.proofs.Common.{◌≡◌, ◌∙◌, ℕ, ◌+◌, ◌-◌, ◌<◌, ◌≤◌, Bool, true, false, ◌&&◌, List, [], ◌∷◌, length, Option, Some, None, refl, ap, sym, arith}
use Rattle.std.specs.Prelude.{cond, eqb, ltb, not, option_map, ℤ}
use Rattle.std.specs.Ordering.{int_eq}
use Rattle.std.proofs.lemmas.Bool.{ltb-true}
use Rattle.std.proofs.lemmas.Option.{same_Some}
use Rattle.nd_base.specs.declared.octets.Order.{Order}
use Rattle.nd_base.specs.declared.TheConstants.{STREAM_LIMIT}
use Rattle.nd_types.specs.declared.types.Class.TheVariants.{Full, Ref, Unique}
use Rattle.nd_types.specs.Number.{unsigned, value_of_octets}
use Rattle.nd_types.specs.Table.{selected}
use Rattle.nd_value.specs.Setting.{Setting}
use Rattle.nd_value.specs.Tree.{node}
use Rattle.nd_grammar.specs.declared.reason.Reason.{Reason}
use Rattle.nd_grammar.specs.declared.reason.Reason.TheVariants as reason
use Rattle.nd_grammar.specs.Refusal.{Bad, is_enumerator, is_long, is_other, is_selected, kind_refusal, refusal, refused_if, tested_at, text_refusal}
use Rattle.nd_grammar.specs.Entry.{Actual, Align, Chunk, Context, Entry, EntryAt, Kind, Max, Num, Number, Offset, Tag, Test, Text, Unread, size_at, entries}
use Rattle.nd_grammar.specs.Stream.{piece}
use Rattle.ndr_trace.proofs.Limits.{IsReached, end_within, fine_stream, reached}

below : (a b c : ℕ) → a < b → b ≤ c → a ≤ c
below a b c low end = omega arith

-- ## An entry whose octets are all there is not cut short

abbrev NotCut : Option (ℕ × Reason) → Type 0
NotCut o = (place : ℕ) → o ≡ Some (place, reason.Truncated) → ⊥

none_cut : NotCut None
none_cut place e = cc

one_cut : (b : Bool) (at : ℕ) (r : Reason) (o : Option (ℕ × Reason)) → (r ≡ reason.Truncated → ⊥) → NotCut o → NotCut (refused_if b (at, r) o)
one_cut true at r o other k place e = other (ap (λ u. u.1) (same_Some _ _ e))
one_cut false at r o other k place e = k place e

text_cut : (at : ℕ) (os : List ℕ) → NotCut (text_refusal at os)
text_cut at [] = none_cut
text_cut at (b ∷ []) = go (eqb b 0)
  where
    go : (t : Bool) → NotCut (cond t None (Some (at, reason.TextUnended)))
    go true = none_cut
    go false = λ place e. (let f : reason.TextUnended ≡ reason.Truncated = ap (λ u. u.1) (same_Some _ _ e) in cc)
text_cut at (b ∷ c ∷ bs) = go (eqb b 0) (text_cut (at + 1) (c ∷ bs))
  where
    go : (t : Bool) → NotCut (text_refusal (at + 1) (c ∷ bs)) → NotCut (cond t (Some (at, reason.TextZero)) (text_refusal (at + 1) (c ∷ bs)))
    go true k = λ place e. (let f : reason.TextZero ≡ reason.Truncated = ap (λ u. u.1) (same_Some _ _ e) in cc)
    go false k = k

module _ (order : Order) (octets : List ℕ) where
  test_cut : (t : Bool) (o : Option ℕ) (wanted found : ℤ) → NotCut (cond t None (option_map (λ place. (place, reason.Disagrees wanted found)) o))
  test_cut true o wanted found = none_cut
  test_cut false None wanted found = none_cut
  test_cut false (Some p) wanted found = λ place e. (let f : reason.Disagrees wanted found ≡ reason.Truncated = ap (λ u. u.1) (same_Some _ _ e) in cc)

  kind_cut : (seen : List EntryAt) (at : ℕ) (m : Entry) (k : Kind) (os : List ℕ) → NotCut (kind_refusal order octets seen at m k os)
  kind_cut seen at m (Num p values z) os = one_cut (not (is_enumerator values (value_of_octets order p os))) at reason.EnumValue None (λ e. cc) none_cut
  kind_cut seen at m (Tag p values arms default z) os =
      one_cut (not (is_enumerator values (value_of_octets order p os))) at reason.EnumValue _ (λ e. cc)
      (one_cut (not (is_selected (selected arms default (value_of_octets order p os)))) at reason.NoArm None (λ e. cc) none_cut)
  kind_cut seen at m (Offset true v) os = one_cut (not (eqb (unsigned order os) 0)) at reason.TextOffset None (λ e. cc) none_cut
  kind_cut seen at m (Offset false v) os = none_cut
  kind_cut seen at m (Actual t offset limit v) os =
      one_cut (t && eqb (unsigned order os) 0) at reason.TextEmpty _ (λ e. cc)
      (one_cut (ltb limit (offset + unsigned order os)) at reason.PastBound None (λ e. cc) none_cut)
  kind_cut seen at m (Text text) os = text_cut at os
  kind_cut seen at m (Number Full to cell) os =
      one_cut (not (eqb (unsigned order os) 0) && is_other order octets seen (unsigned order os) to) at reason.OtherType None (λ e. cc) none_cut
  kind_cut seen at m (Number Ref to cell) os = none_cut
  kind_cut seen at m (Number Unique to cell) os = none_cut
  kind_cut seen at m (Test a wanted found) os = test_cut (int_eq wanted found) (tested_at seen a m.home m.node) wanted found
  kind_cut seen at m (Align n) os = none_cut
  kind_cut seen at m (Max v) os = none_cut
  kind_cut seen at m (Chunk v) os = none_cut
  kind_cut seen at m (Context a id) os = none_cut
  kind_cut seen at m Unread os = none_cut

  abbrev after_limit : List EntryAt → EntryAt → Option (ℕ × Reason)
  after_limit seen x =
      refused_if (ltb (length octets) (x.at + size_at x.at x.entry.kind)) (length octets, reason.Truncated)
      (kind_refusal order octets seen x.at x.entry x.entry.kind (piece octets x.at x.entry.kind))

  short_within : (seen : List EntryAt) (x : EntryAt) (place : ℕ) → IsReached order octets x → refusal order octets seen x ≡ Some (place, reason.Truncated)
      → length octets ≤ STREAM_LIMIT
  short_within seen x place h e = go (is_long x.at x.entry.kind) refl (ltb (length octets) (x.at + size_at x.at x.entry.kind)) refl
    where
      go : (long : Bool) → is_long x.at x.entry.kind ≡ long → (cut : Bool) → ltb (length octets) (x.at + size_at x.at x.entry.kind) ≡ cut → length octets ≤ STREAM_LIMIT
      go true f cut g =
          let long : refusal order octets seen x ≡ Some (STREAM_LIMIT, reason.TooLong) = ap (λ b. refused_if b (STREAM_LIMIT, reason.TooLong) (after_limit seen x)) f in
          let never : reason.TooLong ≡ reason.Truncated = ap (λ u. u.1) (same_Some _ _ (sym long ∙ e)) in
          cc
      go false f true g =
          let low = ltb-true (length octets) (x.at + size_at x.at x.entry.kind) g in
          let end = end_within x.at x.entry.kind h.fine h.within f in
          below (length octets) (x.at + size_at x.at x.entry.kind) STREAM_LIMIT low end
      go false f false g =
          let kind : refusal order octets seen x ≡ kind_refusal order octets seen x.at x.entry x.entry.kind (piece octets x.at x.entry.kind) =
          ap (λ b. refused_if b (STREAM_LIMIT, reason.TooLong) (after_limit seen x)) f
          ∙ ap (λ b. refused_if b (length octets, reason.Truncated) (kind_refusal order octets seen x.at x.entry x.entry.kind (piece octets x.at x.entry.kind))) g in
          absurd (kind_cut seen x.at x.entry x.entry.kind (piece octets x.at x.entry.kind) place (sym kind ∙ e))

pub truncated_within : (w : Setting) (order : Order) (octets : List ℕ) (place : ℕ) → Bad w order octets place reason.Truncated → length octets ≤ STREAM_LIMIT
truncated_within w order octets place b =
    short_within order octets b.earlier b.here place
    (reached order octets [] 0 b.entries b.earlier b.here b.later b.split (fine_stream w b.partial b.entries b.stream) b.accepted (omega arith)) b.refused
