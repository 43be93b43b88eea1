-- One entry that is due, and the next item of the log.
use Rattle.std.proofs.Common.{◌≡◌, ◌⊎◌, inl, inr, ◌∙◌, ℕ, ℤ, true, List, [], ◌∷◌, ◌++◌, Some, None, refl, sym, ap, subst}
use Rattle.nd_base.specs.declared.octets.Order.{Order}
use Rattle.nd_value.specs.declared.item.Item.{Item}
use Rattle.nd_value.specs.declared.item.ItemKind.{ItemKind}
use Rattle.nd_grammar.specs.Entry.{EntryAt, size_at}
use Rattle.nd_grammar.specs.Items.{item_at, item_node}
use Rattle.nd_grammar.specs.Stream.{IsRendered}
use Rattle.ndr_trace_value.specs.Due.{CanStop, NextDue, Stops, Took, its_item}
use Rattle.ndr_trace_value.specs.Untested.{is_test}
use Rattle.ndr_trace_value.proofs.Due.{next_due}

module _ (order : Order) (octets : List ℕ) (nums : ℕ → ℕ) (here x : EntryAt) (xs : List EntryAt) where
  abbrev its : ItemKind × ℤ → Item
  its k = record {
    at = x.at;
    len = size_at x.at x.entry.kind;
    kind = k.0;
    home = x.entry.home;
    node = item_node x.entry.kind x.entry.node;
    value = k.1;
  }

  -- an item is left: it is that of the entry
  pub took : (k : ItemKind × ℤ) (i : Item) (log : List Item) → (IsRendered order nums octets x → its_item order octets x ≡ Some k)
      → Stops order octets nums here (x ∷ xs) (i ∷ log) → Took order octets nums here x xs k i log
  took k i log item s = go (next_due order octets nums here x xs (i ∷ log) s)
    where
      go : NextDue order octets nums here x xs (i ∷ log) → Took order octets nums here x xs k i log
      go (inr b) = let e = b.none_left in cc
      go (inl a) =
          let e : i ∷ log ≡ its k ∷ a.rest = a.log_is ∙ ap (λ o. item_at x o ++ a.rest) (item a.rendered) in
          let l : a.rest ≡ log = cc in
          record { rendered = a.rendered; is_item = (let h : i ≡ its k = cc in h); goes_on = subst (Stops order octets nums here xs) l a.goes_on }

  -- no item is left: reading stopped at the entry, unless it stopped at an agreement
  pub ended : (k : ItemKind × ℤ) → (IsRendered order nums octets x → its_item order octets x ≡ Some k) → Stops order octets nums here (x ∷ xs) []
      → (is_test here.entry.kind ≡ true) ⊎ (x ≡ here)
  ended k item s = go (next_due order octets nums here x xs [] s)
    where
      first : (is_test here.entry.kind ≡ true) ⊎ ((x ≡ here) × CanStop here.at here.entry.kind) → (is_test here.entry.kind ≡ true) ⊎ (x ≡ here)
      first (inl t) = inl t
      first (inr h) = inr h.0

      go : NextDue order octets nums here x xs [] → (is_test here.entry.kind ≡ true) ⊎ (x ≡ here)
      go (inr b) = first b.there
      go (inl a) = let e : [] ≡ its k ∷ a.rest = a.log_is ∙ ap (λ o. item_at x o ++ a.rest) (item a.rendered) in cc

  -- an entry that is no item, and at which reading does not stop, is passed without one
  pub skipped : (log : List Item) → its_item order octets x ≡ None → (CanStop x.at x.entry.kind → ⊥) → Stops order octets nums here (x ∷ xs) log
      → Stops order octets nums here xs log
  skipped log none can s = go (next_due order octets nums here x xs log s)
    where
      at_end : log ≡ [] → (is_test here.entry.kind ≡ true) ⊎ ((x ≡ here) × CanStop here.at here.entry.kind) → Stops order octets nums here xs log
      at_end e (inl t) = record { passed = []; later = xs; split = refl; rendered = tt; log_is = e; ends = inl t }
      at_end e (inr h) = absurd (can (subst (λ (u : EntryAt). CanStop u.at u.entry.kind) (sym h.0) h.1))

      go : NextDue order octets nums here x xs log → Stops order octets nums here xs log
      go (inr b) = at_end b.none_left b.there
      go (inl a) =
          let e : log ≡ a.rest = a.log_is ∙ ap (λ o. item_at x o ++ a.rest) none in
          subst (Stops order octets nums here xs) (sym e) a.goes_on
