-- Which entries are due while the items of a log are gone through, and at which of them the log ends.
-- `xs` are the entries that are due, none of them an agreement; `log` the items that are left, `here` is the entry at which reading stopped.
use Rattle.std.proofs.Common.{◌≡◌, ◌⊎◌, inl, inr, ◌∙◌, ◌<◌, ◌≤◌, ◌+◌, ℕ, zero, suc, Bool, true, false, List, [], ◌∷◌, ◌++◌, length, Some, None, refl, sym, ap, subst, arith}
use Rattle.std.specs.Prelude.{ltb}
use Rattle.std.specs.List.{AllByRecursion}
use Rattle.std.proofs.lemmas.Bool.{ltb-true}
use Rattle.nd_base.specs.declared.octets.Order.{Order}
use Rattle.nd_value.specs.declared.item.Item.{Item}
use Rattle.nd_value.specs.Setting.{Setting}
use Rattle.nd_grammar.specs.declared.reason.Reason.{Reason}
use Rattle.nd_grammar.specs.declared.reason.Reason.TheVariants as reason
use Rattle.nd_grammar.specs.Refusal.{Bad, refusal, refused_if}
use Rattle.nd_grammar.specs.Entry.{Actual, Align, Chunk, Context, Entry, EntryAt, Kind, Max, Num, Number, Offset, Tag, Test, Text, Unread, end_to_end, gap, size_at}
use Rattle.nd_grammar.specs.Items.{item_at, item_of, items}
use Rattle.nd_grammar.specs.Stream.{IsRendered, Spells, piece}
use Rattle.ndr_trace_value.specs.Due.{CanStop, EndsBefore, NextDue, Stops}
use Rattle.ndr_trace_value.specs.Untested.{is_test, kept_if, untested, untested_at}
use Rattle.ndr_trace_value.proofs.Untested.{untested_all, untested_at_append, untested_ends, untested_items}

module _ (order : Order) (octets : List ℕ) (nums : ℕ → ℕ) where
  -- the entry after those that are spelt begins within the octets
  begins_within : (at : ℕ) (ms : List Entry) (earlier : List EntryAt) (here : EntryAt) (later : List EntryAt) → end_to_end at ms ≡ earlier ++ here ∷ later
      → AllByRecursion (IsRendered order nums octets) earlier → at ≤ length octets → here.at ≤ length octets
  begins_within at [] [] here later e r l = cc
  begins_within at [] (y ∷ ys) here later e r l = cc
  begins_within at (m ∷ ms) [] here later e r l =
      let x : EntryAt = record { at = at; entry = m } in
      let h : x ≡ here = cc in
      subst (λ (u : EntryAt). u.at ≤ length octets) h l
  begins_within at (m ∷ ms) (y ∷ ys) here later e r l =
      let x : EntryAt = record { at = at; entry = m } in
      let h : x ≡ y = cc in
      let t : end_to_end (at + size_at at m.kind) ms ≡ ys ++ here ∷ later = cc in
      begins_within (at + size_at at m.kind) ms ys here later t r.1 (subst (λ (u : EntryAt). u.at + size_at u.at u.entry.kind ≤ length octets) (sym h) r.0.0)

  never_short : (n at : ℕ) (why : ℕ × Reason) (r : ℕ × Reason) → at ≤ n → refused_if (ltb n (at + 0)) why None ≡ Some r → ⊥
  never_short n at why r l e = go (ltb n (at + 0)) refl
    where
      go : (b : Bool) → ltb n (at + 0) ≡ b → ⊥
      go true h = let k = ltb-true n (at + 0) h in omega (arith, k, l)
      go false h = let z : None ≡ Some r = ap (λ b. refused_if b why None) (sym h) ∙ e in cc

  can_stop : (earlier : List EntryAt) (at : ℕ) (m : Entry) (k : Kind) (r : ℕ × Reason) → m.kind ≡ k → refusal order octets earlier (record { at = at; entry = m }) ≡ Some r → at ≤ length octets
      → CanStop at k
  can_stop earlier at m (Align n) r e f l = positive (gap at n) refl
    where
      as_gap : refused_if (ltb (length octets) (at + gap at n)) (length octets, reason.Truncated) None ≡ Some r
      as_gap = subst (λ k. refusal order octets earlier (record { at = at; entry = record { home = m.home; node = m.node; kind = k } }) ≡ Some r) e f

      positive : (g : ℕ) → gap at n ≡ g → 0 < gap at n
      positive zero h =
          absurd
          (never_short (length octets) at (length octets, reason.Truncated) r l
          (subst (λ g. refused_if (ltb (length octets) (at + g)) (length octets, reason.Truncated) None ≡ Some r) h as_gap))
      positive (suc g) h = omega (arith, h)
  can_stop earlier at m Unread r e f l =
      never_short (length octets) at (length octets, reason.Truncated) r l
      (subst (λ k. refusal order octets earlier (record { at = at; entry = record { home = m.home; node = m.node; kind = k } }) ≡ Some r) e f)
  can_stop earlier at m (Max v) r e f l = tt
  can_stop earlier at m (Offset t v) r e f l = tt
  can_stop earlier at m (Actual t o b v) r e f l = tt
  can_stop earlier at m (Chunk v) r e f l = tt
  can_stop earlier at m (Number c to cell) r e f l = tt
  can_stop earlier at m (Num p vs z) r e f l = tt
  can_stop earlier at m (Tag p vs arms d z) r e f l = tt
  can_stop earlier at m (Text os) r e f l = tt
  can_stop earlier at m (Context a id) r e f l = tt
  can_stop earlier at m (Test a x y) r e f l = tt

-- At the beginning all entries of the stream are due, and the log is that of the entries before the refused one.
pub bad_stops : (w : Setting) (order : Order) (octets : List ℕ) (place : ℕ) (why : Reason) (bad : Bad w order octets place why)
    → Stops order octets bad.numbering bad.here (end_to_end 0 (untested bad.entries)) (items order octets bad.earlier)
bad_stops w order octets place why bad = record {
  passed = untested_at bad.earlier;
  later = untested_at (bad.here ∷ bad.later);
  split = sym (untested_ends 0 bad.entries) ∙ ap untested_at bad.split ∙ untested_at_append bad.earlier (bad.here ∷ bad.later);
  rendered = untested_all (IsRendered order bad.numbering octets) bad.earlier bad.rendered;
  log_is = sym (untested_items order octets bad.earlier);
  ends = go (is_test bad.here.entry.kind) refl;
}
  where
    go : (b : Bool) → is_test bad.here.entry.kind ≡ b → EndsBefore bad.here (untested_at (bad.here ∷ bad.later))
    go true e = inl e
    go false e =
        inr (
          untested_at bad.later,
          ap (λ b. kept_if b bad.here (untested_at bad.later)) e,
          can_stop order octets bad.numbering bad.earlier bad.here.at bad.here.entry bad.here.entry.kind (place, why) refl bad.refused
              (begins_within order octets bad.numbering 0 bad.entries bad.earlier bad.here bad.later bad.split bad.rendered (omega arith)),
        )

-- ## The entry that is due next

module _ (order : Order) (octets : List ℕ) (nums : ℕ → ℕ) (here : EntryAt) where
  abbrev pub S : List EntryAt → List Item → Type 0
  S xs log = Stops order octets nums here xs log

  pub next_due : (x : EntryAt) (xs : List EntryAt) (log : List Item) → S (x ∷ xs) log → NextDue order octets nums here x xs log
  next_due x xs log s = go s.passed s.split s.rendered s.log_is
    where
      at_end : x ∷ xs ≡ s.later → EndsBefore here s.later → (is_test here.entry.kind ≡ true) ⊎ ((x ≡ here) × CanStop here.at here.entry.kind)
      at_end e (inl t) = inl t
      at_end e (inr (rest, k, can)) = let h : x ≡ here = cc in inr (h, can)

      go : (passed : List EntryAt) → x ∷ xs ≡ passed ++ s.later → AllByRecursion (IsRendered order nums octets) passed → log ≡ items order octets passed
          → NextDue order octets nums here x xs log
      go [] e r l = inr (record { none_left = l; there = at_end e s.ends })
      go (y ∷ ys) e r l =
          let h : x ≡ y = cc in
          let t : xs ≡ ys ++ s.later = cc in
          inl
          (record {
            rest = items order octets ys;
            rendered = subst (IsRendered order nums octets) (sym h) r.0;
            log_is = subst (λ u. log ≡ item_at u (item_of order u.entry.kind (piece octets u.at u.entry.kind)) ++ items order octets ys) (sym h) l;
            goes_on = record { passed = ys; later = s.later; split = t; rendered = r.1; log_is = refl; ends = s.ends };
          })

  not_spelt : (k : Kind) (os : List ℕ) → k ≡ Unread → Spells order nums k os → ⊥
  not_spelt k os e s = subst (λ u. Spells order nums u os) e s

  -- while items are left, what is due next is never an unread value: so the node that is due has the form of its type
  pub never_unread : (x : EntryAt) (xs : List EntryAt) (log : List Item) → S (x ∷ xs) log → is_test here.entry.kind ≡ false → x.entry.kind ≡ Unread → ⊥
  never_unread x xs log s plain e = go (next_due x xs log s)
    where
      go : NextDue order octets nums here x xs log → ⊥
      go (inl a) = not_spelt x.entry.kind (piece octets x.at x.entry.kind) e a.rendered.1
      go (inr b) = by_end b.there
        where
          by_end : (is_test here.entry.kind ≡ true) ⊎ ((x ≡ here) × CanStop here.at here.entry.kind) → ⊥
          by_end (inl t) = let z : true ≡ false = sym t ∙ plain in cc
          by_end (inr (h, can)) =
              let k : here.entry.kind ≡ Unread = ap (λ (u : EntryAt). u.entry.kind) (sym h) ∙ e in
              subst (CanStop here.at) k can
