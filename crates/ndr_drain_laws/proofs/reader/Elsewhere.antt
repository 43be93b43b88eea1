-- Entries from a place on are judged alike, whatever octets come before the place.
use Rattle.std.proofs.Common.{◌≡◌, ◌≤◌, ℕ, ◌+◌, zero, suc, true, false, List, [], ◌∷◌, ◌++◌, length, length-append, take, drop, Option, None, refl, ap, ap₂, sym, ◌∙◌, subst, arith, ◌&&◌}
use Rattle.std.specs.Prelude.{ltb, not, eqb, ◌||◌}
use Rattle.std.specs.List.{AllByRecursion}
use Rattle.nd_base.specs.declared.octets.Order.{Order}
use Rattle.nd_base.specs.declared.TheConstants.{STREAM_LIMIT}
use Rattle.nd_types.specs.declared.types.Class.TheVariants.{Ref, Unique, Full}
use Rattle.nd_types.specs.Number.{unsigned}
use Rattle.nd_value.proofs.Apart.{all_append}
use Rattle.nd_grammar.specs.declared.reason.Reason.{Reason}
use Rattle.nd_grammar.specs.declared.reason.Reason.TheVariants as reason
use Rattle.nd_grammar.specs.Entry.{Kind, Entry, Offset, Number, size_at, EntryAt, end_to_end}
use Rattle.nd_grammar.specs.Items.{items, item_at, item_of}
use Rattle.nd_grammar.specs.Stream.{piece, Spells, IsRendered}
use Rattle.nd_grammar.specs.Refusal.{refusal, kind_refusal, refused_if, is_long, is_other, other_pointee, Accepts}

drop_both : (xs ys zs : List ℕ) (at : ℕ) → length xs ≡ length ys → length xs ≤ at → drop at (xs ++ zs) ≡ drop at (ys ++ zs)
drop_both [] [] zs at e h = refl
drop_both [] (y ∷ ys) zs at e h = cc
drop_both (x ∷ xs) [] zs at e h = cc
drop_both (x ∷ xs) (y ∷ ys) zs zero e h = absurd (omega arith)
drop_both (x ∷ xs) (y ∷ ys) zs (suc at) e h = let k : length xs ≡ length ys = omega (arith, e) in drop_both xs ys zs at k (omega arith)

-- entries from a place on
abbrev pub From : ℕ → EntryAt → Type 0
From place x = place ≤ x.at

pub all_from : (place at : ℕ) (ms : List Entry) → place ≤ at → AllByRecursion (From place) (end_to_end at ms)
all_from place at [] h = tt
all_from place at (m ∷ ms) h = (h, all_from place (at + size_at at m.kind) ms (omega (arith, h)))

module _ (order : Order) (place : ℕ) (octets b c : List ℕ) (of_b : length b ≡ place) (of_c : length c ≡ place) where
  abbrev B : List ℕ
  B = b ++ octets

  abbrev C : List ℕ
  C = c ++ octets

  same_length : length B ≡ length C
  same_length = let x = length-append b octets in let y = length-append c octets in omega (arith, x, y, of_b, of_c)

  same_piece : (at : ℕ) (k : Kind) → place ≤ at → piece B at k ≡ piece C at k
  same_piece at k h = ap (take (size_at at k)) (drop_both b c octets at (of_b ∙ sym of_c) (omega (arith, of_b, h)))

  pub rendered_elsewhere : (nums : ℕ → ℕ) (xs : List EntryAt) → AllByRecursion (From place) xs → AllByRecursion (IsRendered order nums B) xs → AllByRecursion (IsRendered order nums C) xs
  rendered_elsewhere nums [] f a = tt
  rendered_elsewhere nums (x ∷ xs) f a = (
    (omega (arith, a.0.0, same_length), subst (Spells order nums x.entry.kind) (same_piece x.at x.entry.kind f.0) a.0.1),
    rendered_elsewhere nums xs f.1 a.1,
  )

  others_elsewhere : (seen : List EntryAt) → AllByRecursion (From place) seen → (v to : ℕ) → is_other order B seen v to ≡ is_other order C seen v to
  others_elsewhere [] f v to = refl
  others_elsewhere (x ∷ xs) f v to =
      ap₂ (λ os t. other_pointee x.entry.kind to && eqb (unsigned order os) v || t) (same_piece x.at x.entry.kind f.0) (others_elsewhere xs f.1 v to)

  kind_elsewhere : (seen : List EntryAt) → AllByRecursion (From place) seen → (at : ℕ) (m : Entry) (k : Kind) (os : List ℕ)
      → kind_refusal order B seen at m k os ≡ kind_refusal order C seen at m k os
  kind_elsewhere seen f at m (Number Full to cell) os =
      ap (λ t. refused_if (not (eqb (unsigned order os) 0) && t) (at, reason.OtherType) None) (others_elsewhere seen f (unsigned order os) to)
  kind_elsewhere seen f at m (Number Ref to cell) os = refl
  kind_elsewhere seen f at m (Number Unique to cell) os = refl
  kind_elsewhere seen f at m (Offset true v) os = refl
  kind_elsewhere seen f at m (Offset false v) os = refl
  kind_elsewhere seen f at m _ os = refl

  abbrev judged : EntryAt → ℕ → Option (ℕ × Reason) → Option (ℕ × Reason)
  judged x n o = refused_if (is_long x.at x.entry.kind) (STREAM_LIMIT, reason.TooLong) (refused_if (ltb n (x.at + size_at x.at x.entry.kind)) (n, reason.Truncated) o)

  pub refused_elsewhere : (seen : List EntryAt) → AllByRecursion (From place) seen → (x : EntryAt) → place ≤ x.at → refusal order B seen x ≡ refusal order C seen x
  refused_elsewhere seen f x h =
      ap₂ (judged x) same_length
      (kind_elsewhere seen f x.at x.entry x.entry.kind (piece B x.at x.entry.kind) ∙ ap (kind_refusal order C seen x.at x.entry x.entry.kind) (same_piece x.at x.entry.kind h))

  pub accepts_elsewhere : (seen xs : List EntryAt) → AllByRecursion (From place) seen → AllByRecursion (From place) xs → Accepts order B seen xs → Accepts order C seen xs
  accepts_elsewhere seen [] f g a = tt
  accepts_elsewhere seen (x ∷ xs) f g a = (
    sym (refused_elsewhere seen f x g.0) ∙ a.0,
    accepts_elsewhere (seen ++ x ∷ []) xs (all_append (From place) seen (x ∷ []) f (g.0, tt)) g.1 a.1,
  )

  pub items_elsewhere : (xs : List EntryAt) → AllByRecursion (From place) xs → items order B xs ≡ items order C xs
  items_elsewhere [] f = refl
  items_elsewhere (x ∷ xs) f = ap₂ (λ os rest. item_at x (item_of order x.entry.kind os) ++ rest) (same_piece x.at x.entry.kind f.0) (items_elsewhere xs f.1)
