-- What a walk is given, where octets are refused.
-- `w` is a setting, `bad` are octets that are refused, `u` is what the walk is given, `k` a kind, `x` an entry at its place.
use Rattle.std.proofs.Common.{◌≡◌, ◌∙◌, zero, suc, ℕ, ◌+◌, ◌≤◌, ◌<◌, drop, take, length-append, ℤ, Bool, true, false, List, [], ◌∷◌, ◌++◌, length, Option, Some, None, refl, sym, ap, subst, arith}
use Rattle.std.specs.Prelude.{IfSome, IsSome, option_map}
use Rattle.std.specs.List.{AllByRecursion, slice_get}
use Rattle.std.proofs.lemmas.Option.{same_Some}
use Rattle.nd_base.specs.declared.octets.Order.{Order}
use Rattle.nd_types.specs.declared.types.Attr.{Attr}
use Rattle.nd_types.specs.Number.{AreOctets}
use Rattle.nd_value.specs.declared.item.Item.{Item}
use Rattle.nd_value.specs.declared.item.ItemKind.TheVariants as kind
use Rattle.nd_value.specs.Setting.{Setting}
use Rattle.nd_value.proofs.Apart.{all_left}
use Rattle.nd_grammar.specs.declared.reason.Reason.{Reason}
use Rattle.nd_grammar.specs.declared.reason.Reason.TheVariants as reason
use Rattle.nd_grammar.specs.Refusal.{Bad}
use Rattle.nd_grammar.specs.Entry.{Actual, Align, Chunk, Context, Entry, EntryAt, Kind, Max, Num, Number, Offset, Tag, Test, Text, Unread, end_to_end, gap, size_at}
use Rattle.nd_grammar.specs.Items.{item_at, item_of, items}
use Rattle.nd_grammar.specs.Stream.{IsRendered, piece}
use Rattle.nd_grammar.proofs.ItemSizes.{width_low}
use Rattle.ndr_trace_value.specs.Untested.{is_test}
use Rattle.ndr_trace_value.specs.declared.progress.Ground.{Ground}
use Rattle.ndr_trace_value.specs.declared.search.Sought.{Sought}
use Rattle.ndr_trace_value.specs.Tracing.{IsAt, IsGround, kind_in}
use Rattle.ndr_trace_value.specs.Attributes.{IsItemOf}
use Rattle.ndr_trace_value.proofs.Ending.{known_of}
use Rattle.ndr_trace.proofs.Limits.{here_within}
use Rattle.ndr_trace.proofs.Faults.{Logged, agreement_fault, is_disagreement, logged_there, one_item, plain_fault, tested_entry}

-- an agreement, or another kind
abbrev pub IsTest : Kind → Type 0
IsTest k = (a : Attr) × (wanted : ℤ) × (found : ℤ) × (k ≡ Test a wanted found)

pub as_test : (k : Kind) → is_test k ≡ true → IsTest k
as_test (Test a wanted found) e = (a, wanted, found, refl)
as_test (Align n) e = cc
as_test (Max v) e = cc
as_test (Offset t v) e = cc
as_test (Actual t offset limit v) e = cc
as_test (Chunk v) e = cc
as_test (Number class to cell) e = cc
as_test (Num p values v) e = cc
as_test (Tag p values arms default v) e = cc
as_test (Text octets) e = cc
as_test (Context attributes id) e = cc
as_test Unread e = cc

-- the refused entry begins within the octets
pub begins_within : (order : Order) (octets : List ℕ) (nums : ℕ → ℕ) (at : ℕ) (ms : List Entry) (earlier : List EntryAt) (here : EntryAt) (later : List EntryAt)
    → end_to_end at ms ≡ earlier ++ here ∷ later → AllByRecursion (IsRendered order nums octets) earlier → at ≤ length octets → here.at ≤ length octets
begins_within order octets nums at [] [] here later e r l = cc
begins_within order octets nums at [] (y ∷ ys) here later e r l = cc
begins_within order octets nums at (m ∷ ms) [] here later e r l =
    let x : EntryAt = record { at = at; entry = m } in
    let h : x ≡ here = cc in
    subst (λ (u : EntryAt). u.at ≤ length octets) h l
begins_within order octets nums at (m ∷ ms) (y ∷ ys) here later e r l =
    let x : EntryAt = record { at = at; entry = m } in
    let h : x ≡ y = cc in
    let t : end_to_end (at + size_at at m.kind) ms ≡ ys ++ here ∷ later = cc in
    begins_within order octets nums (at + size_at at m.kind) ms ys here later t r.1 (subst (λ (u : EntryAt). u.at + size_at u.at u.entry.kind ≤ length octets) (sym h) r.0.0)

-- ## How many items there are

taken_length : (n : ℕ) (xs : List ℕ) → length (take n xs) ≤ n
taken_length zero xs = omega arith
taken_length (suc n) [] = omega arith
taken_length (suc n) (x ∷ xs) = let h = taken_length n xs in omega (arith, h)

-- an item has an octet
item_size : (order : Order) (octets : List ℕ) (x : EntryAt) (k : Kind) → length (item_at x (item_of order k (piece octets x.at k))) ≤ size_at x.at k
item_size order octets x (Align n) = by (take (gap x.at n) (drop x.at octets)) (taken_length (gap x.at n) (drop x.at octets))
  where
    by : (os : List ℕ) → length os ≤ gap x.at n → length (item_at x (item_of order (Align n) os)) ≤ gap x.at n
    by [] l = omega arith
    by (b ∷ bs) l = omega (arith, l)
item_size order octets x (Max v) = omega arith
item_size order octets x (Offset t v) = omega arith
item_size order octets x (Actual t o l v) = omega arith
item_size order octets x (Chunk v) = omega arith
item_size order octets x (Number class to cell) = omega arith
item_size order octets x (Num p values z) = let h = width_low p in omega (arith, h)
item_size order octets x (Tag p values arms default z) = let h = width_low p in omega (arith, h)
item_size order octets x (Text os) = omega arith
item_size order octets x (Context a id) = omega arith
item_size order octets x (Test a wanted found) = omega arith
item_size order octets x Unread = omega arith

-- so there are no more items before an entry than octets
items_before : (order : Order) (octets : List ℕ) (at : ℕ) (ms : List Entry) (earlier : List EntryAt) (here : EntryAt) (later : List EntryAt)
    → end_to_end at ms ≡ earlier ++ here ∷ later → at + length (items order octets earlier) ≤ here.at
items_before order octets at [] [] here later e = cc
items_before order octets at [] (y ∷ ys) here later e = cc
items_before order octets at (m ∷ ms) [] here later e =
    let h : at ≡ here.at = ap (λ (x : EntryAt). x.at) (let z : record { at = at; entry = m } ≡ here = cc in z) in
    omega (arith, h)
items_before order octets at (m ∷ ms) (y ∷ ys) here later e =
    let x : EntryAt = record { at = at; entry = m } in
    let is : x ≡ y = cc in
    let rest : end_to_end (at + size_at at m.kind) ms ≡ ys ++ here ∷ later = cc in
    let own : length (item_at y (item_of order y.entry.kind (piece octets y.at y.entry.kind))) ≤ size_at at m.kind =
    subst (λ (z : EntryAt). length (item_at z (item_of order z.entry.kind (piece octets z.at z.entry.kind))) ≤ size_at at m.kind) is (item_size order octets x m.kind) in
    let others = items_before order octets (at + size_at at m.kind) ms ys here later rest in
    let all = length-append (item_at y (item_of order y.entry.kind (piece octets y.at y.entry.kind))) (items order octets ys) in
    omega (arith, own, others, all)

module _ (w : Setting) (order : Order) (fetched more : List ℕ) (place : ℕ) (why : Reason) (bad : Bad w order fetched place why) (u : Ground) where
  -- an agreement is sought where one fails, and only there
  only_test : IfSome u.sought (λ s. (found : ℤ) × (why ≡ reason.Disagrees s.wanted found)) → IsSome u.sought → is_test bad.here.entry.kind ≡ true
  only_test told some = by_sought u.sought told some
    where
      by_kind : (b : Bool) → is_test bad.here.entry.kind ≡ b → (wanted found : ℤ) → why ≡ reason.Disagrees wanted found → is_test bad.here.entry.kind ≡ true
      by_kind true e wanted found is = e
      by_kind false e wanted found is =
          let plain : is_disagreement why ≡ false = plain_fault order fetched bad.earlier bad.here (place, why) e bad.refused in
          let z : true ≡ false = sym (ap is_disagreement is) ∙ plain in
          cc

      by_sought : (o : Option Sought) → IfSome o (λ s. (found : ℤ) × (why ≡ reason.Disagrees s.wanted found)) → IsSome o → is_test bad.here.entry.kind ≡ true
      by_sought None told some = absurd (let z : ⊥ = cc in z)
      by_sought (Some s) told some = by_kind (is_test bad.here.entry.kind) refl s.wanted told.0 told.1

  -- the item that a failed agreement speaks of
  logged_item : is_test bad.here.entry.kind ≡ true → Logged (items order fetched bad.earlier) place
  logged_item e =
      let (a, wanted, found, is) = as_test bad.here.entry.kind e in
      let within = begins_within order fetched bad.numbering 0 bad.entries bad.earlier bad.here bad.later bad.split bad.rendered (omega arith) in
      let fault = agreement_fault order fetched bad.earlier bad.here place why a wanted found is within bad.refused in
      let t = tested_entry bad.earlier a bad.here.entry.home bad.here.entry.node place fault.1 in
      let l = logged_there order fetched bad.earlier a t.its t.among t.agrees in
      record { number = l.number; item = l.item; there = l.there; at = l.at ∙ t.at; no_gap = l.no_gap }

  its_reason : (e : is_test bad.here.entry.kind ≡ true) → (wanted : ℤ) × (found : ℤ) × (why ≡ reason.Disagrees wanted found)
  its_reason e =
      let (a, wanted, found, is) = as_test bad.here.entry.kind e in
      let within = begins_within order fetched bad.numbering 0 bad.entries bad.earlier bad.here bad.later bad.split bad.rendered (omega arith) in
      (wanted, found, (agreement_fault order fetched bad.earlier bad.here place why a wanted found is within bad.refused).0)

  always_sought : ((wanted found : ℤ) → why ≡ reason.Disagrees wanted found → (n : ℕ) (i : Item) → slice_get (items order fetched bad.earlier) n ≡ Some i → i.at ≡ place → IsSome u.sought)
      → is_test bad.here.entry.kind ≡ true → IsSome u.sought
  always_sought finds e =
      let (wanted, found, is) = its_reason e in
      let l = logged_item e in
      finds wanted found is l.number l.item l.there l.at

  -- which is no gap
  no_gap_sought : is_test bad.here.entry.kind ≡ true → IfSome u.sought (λ s. IsAt (items order fetched bad.earlier) s.item place)
      → (j : ℕ) → option_map (λ (s : Sought). s.item) u.sought ≡ Some j → (i : Item) → slice_get (items order fetched bad.earlier) j ≡ Some i → i.kind ≡ kind.Gap → ⊥
  no_gap_sought e at j mine i there gap = by u.sought at mine
    where
      by : (o : Option Sought) → IfSome o (λ s. IsAt (items order fetched bad.earlier) s.item place) → option_map (λ (s : Sought). s.item) o ≡ Some j → ⊥
      by None at m = cc
      by (Some s) (i', there', at') m =
          let l = logged_item e in
          let same : i' ≡ i = same_Some _ _ (sym there' ∙ ap (slice_get (items order fetched bad.earlier)) (same_Some _ _ m) ∙ there) in
          let one : l.item ≡ i' = one_item order fetched 0 bad.entries bad.earlier (bad.here ∷ bad.later) bad.split l.number s.item l.item i' l.there there' (l.at ∙ sym at') in
          l.no_gap (ap (λ (y : Item). y.kind) (one ∙ same) ∙ gap)

  is_some : (o : Option Sought) (j : ℕ) → option_map (λ (s : Sought). s.item) o ≡ Some j → IsSome o
  is_some None j e = cc
  is_some (Some s) j e = refl

  kind_sought : (o : Option Sought) → IfSome o (λ s. IsItemOf (items order fetched bad.earlier) s)
      → option_map (λ (s : Sought). s.kind) o ≡ kind_in (items order fetched bad.earlier) (option_map (λ (s : Sought). s.item) o)
  kind_sought None its = refl
  kind_sought (Some s) (i, got, of_kind, at_home, node) = sym (ap (option_map (λ (y : Item). y.kind)) got ∙ ap (λ m. Some m) of_kind)

  pub ground_of : AreOctets u.octets.now → u.octets.now ≡ fetched ++ more → u.items.now.items ≡ items order fetched bad.earlier → u.order ≡ order → u.interface.now.types ≡ w.table
      → IfSome u.sought (λ s. (found : ℤ) × (why ≡ reason.Disagrees s.wanted found)) → IfSome u.sought (λ s. IsAt u.items.now.items s.item place)
      → ((wanted found : ℤ) → why ≡ reason.Disagrees wanted found → (n : ℕ) (i : Item) → slice_get u.items.now.items n ≡ Some i → i.at ≡ place → IsSome u.sought)
      → IfSome u.sought (λ s. IsItemOf u.items.now.items s)
      → IsGround (known_of w order fetched place why bad (option_map (λ (s : Sought). s.item) u.sought)) u
  ground_of small octets items_are same_order table told at finds its = record {
    more = more;
    octets = octets;
    items = items_are;
    order = same_order;
    table = table;
    sought = only_test told;
    seeks = always_sought (λ wanted found is n i there at. finds wanted found is n i (ap (λ xs. slice_get xs n) items_are ∙ there) at);
    sought_is = refl;
    kind_is = kind_sought u.sought (subst (λ xs. IfSome u.sought (λ s. IsItemOf xs s)) items_are its);
    no_gap = λ j mine.
        no_gap_sought (only_test told (is_some u.sought j mine))
        (subst (λ xs. IfSome u.sought (λ s. IsAt xs s.item place)) items_are at) j mine;
    are_octets = all_left (λ b. b < 256) fetched more (subst AreOctets octets small);
    few =
        let before = items_before order fetched 0 bad.entries bad.earlier bad.here bad.later bad.split in
        let within = here_within w order fetched place why bad in
        let same : length u.items.now.items ≡ length (items order fetched bad.earlier) = ap (λ xs. length xs) items_are in
        omega (arith, before, within, same);
    is_numbering = bad.is_numbering;
  }
