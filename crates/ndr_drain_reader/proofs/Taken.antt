-- The items and the steps of a chunk, handed on.
-- `own` and `kept` are the chunk's log before and after it was read, `from` and `to` its count of steps, `g` and `h` the stream's log before and after, `steps` its
-- count of steps before.
use Rattle.std.proofs.Common.{◌≡◌, ◌≤◌, ◌^◌, ◌-◌, ℕ, ◌+◌, suc, Bool, true, false, List, [], ◌∷◌, ◌++◌, length, map, min, Result, Ok, Err, IsErrAnd, refl, ap, ap₂, sym, ◌∙◌, subst, arith}
use Rattle.std.specs.Prelude.{if◌then◌else◌, not, cond}
use Rattle.std.proofs.Math.Nat.{min-eq_left, min-le_left}
use Rattle.nd_base.specs.declared.octets.Order.{Order}
use Rattle.nd_base.specs.declared.octets.Memory.{Memory}
use Rattle.nd_base.specs.declared.TheConstants.{STREAM_LIMIT}
use Rattle.nd_base.specs.Over.{SourceOver}
use Rattle.std.specs.Io.KnownBytes.{Consumes}
use Rattle.nd_value.specs.declared.item.Item.{Item}
use Rattle.nd_value.specs.Logged.{Logged}
use Rattle.nd_value.specs.Setting.{Setting}
use Rattle.nd_grammar.specs.declared.reason.Reason.{Reason}
use Rattle.nd_grammar.specs.Entry.{EntryAt}
use Rattle.nd_grammar.specs.Items.{is_gap, but_gaps, items}
use Rattle.ndr_decoder_state.specs.declared.fault.DecodeFault.{DecodeFault}
use Rattle.ndr_decoder_state.specs.declared.fault.DecodeFault.TheVariants as fault
use Rattle.ndr_decoder_state.specs.declared.machine.Machine.{Machine}
use Rattle.nd_grammar.specs.decoded.Verdict.{DecodingSeen, HasNoted, decoding_seen, with_items}
use Rattle.ndr_drain_laws.specs.parts.Parts.{Spot, part_items}
use Rattle.ndr_drain_laws.specs.reader.PartReader.{moved_item, moved_items}
use Rattle.ndr_drain_laws.specs.reader.Outcomes.{PartCut}
use Rattle.ndr_drain_laws.proofs.reader.Meeting.{fewer}
use Rattle.ndr_drain_reader.specs.Calls.{IsChunkCounted, IsChunkCut, IsChunkFault, IsChunkRefused, IsChunkUnread}
use Rattle.ndr_drain_reader.specs.Chunks.{Fills, FilledBad, FilledPart, FilledUnread, FilledWhole, TakenWhole, Takes}
use Rattle.ndr_drain_reader.specs.Handing.{AreNotedPart}

-- ## Items that are moved

pub as_many_steps : (n : ℕ) (xs : List Item) → length (but_gaps (map (moved_item n) xs)) ≡ length (but_gaps xs)
as_many_steps n [] = refl
as_many_steps n (x ∷ xs) = go (not (is_gap x.kind)) (as_many_steps n xs)
  where
    go : (b : Bool) → length (but_gaps (map (moved_item n) xs)) ≡ length (but_gaps xs)
        → length (cond b (moved_item n x ∷ but_gaps (map (moved_item n) xs)) (but_gaps (map (moved_item n) xs))) ≡ length (cond b (x ∷ but_gaps xs) (but_gaps xs))
    go true e = ap suc e
    go false e = e

-- ## A log of the chunk's own

abbrev log_of : Bool → List Item → Logged
log_of b xs = record { keeps = b; items = xs }

-- some of these items, from the first on, were noted
pub record SomeNoted (n : ℕ) (noted : List Item) (g h : Logged) : Type 0 where
  pub first : List Item
  pub others : List Item
  pub split : noted ≡ first ++ others
  pub log : h ≡ with_items (map (moved_item n) first) g

module _ (n : ℕ) (own kept g h : Logged) (keeps : own.keeps ≡ g.keeps) (empty : own.items ≡ []) (noted : List Item) (is : kept ≡ with_items noted own) where
  abbrev kept_by : Bool → List Item → List Item
  kept_by b xs = if b then xs ++ noted else xs

  kept_are : kept.items ≡ kept_by g.keeps []
  kept_are = ap (λ (x : Logged). x.items) is ∙ ap₂ kept_by keeps empty

  pub all_handed : h ≡ with_items (map (moved_item n) kept.items) g → h ≡ with_items (map (moved_item n) noted) g
  all_handed e = e ∙ ap (λ xs. with_items (map (moved_item n) xs) g) kept_are ∙ go g.keeps
    where
      go : (b : Bool) → with_items (map (moved_item n) (kept_by b [])) (log_of b g.items) ≡ with_items (map (moved_item n) noted) (log_of b g.items)
      go true = refl
      go false = refl

  pub some_handed : AreNotedPart n kept.items g h → SomeNoted n noted g h
  some_handed p = go g.keeps refl
    where
      go : (b : Bool) → g.keeps ≡ b → SomeNoted n noted g h
      go true e = record { first = p.first; others = p.others; split = sym (kept_are ∙ ap (λ b. kept_by b []) e) ∙ p.split; log = p.log }
      go false e = record {
        first = [];
        others = noted;
        split = refl;
        log = p.log ∙ ap (λ b. record { keeps = g.keeps; items = if b then g.items ++ map (moved_item n) p.first else g.items }) e
            ∙ ap (λ b. record { keeps = g.keeps; items = if b then g.items ++ [] else g.items }) (sym e);
      }

-- ## What was taken

module _ (w : Setting) (order : Order) (spot : Spot) (s : SourceOver) (t : DecodingSeen) where
  -- entries that were read, whose items were noted
  counted_of : (octets : List ℕ) (noted : List Item) (earlier : List EntryAt) → ((before : List ℕ) → length before ≡ spot.place → items order (before ++ octets) earlier ≡ moved_items spot noted)
      → length (but_gaps noted) ≤ length octets → HasNoted (moved_items spot noted) t → t.steps_now ≤ t.steps + length (but_gaps noted) → IsChunkCounted order spot.place octets earlier t
  counted_of octets noted earlier are few log steps = record {
    logged = λ before l. subst (λ xs. HasNoted xs t) (sym (are before l)) log;
    by_items = λ before l. let x : length (but_gaps (items order (before ++ octets) earlier)) ≡ length (but_gaps noted) =
        ap (λ xs. length (but_gaps xs)) (are before l) ∙ as_many_steps (spot.node - 1) noted in omega (arith, x, steps);
    by_octets = omega (arith, few, steps);
  }

  pub cut_counted : (octets : List ℕ) (noted : List Item) → PartCut w order spot octets noted → Consumes s.left s.left_now octets → HasNoted (moved_items spot noted) t
      → t.steps_now ≤ t.steps + length (but_gaps noted)
      → IsChunkCut w order spot s t
  cut_counted octets noted cut left log steps =
      record { fetched = octets; left = left; earlier = cut.earlier; read = cut.through; counted = counted_of octets noted cut.earlier cut.items_are cut.few log steps }

  bad_counted : (place : ℕ) (why : Reason) (d : DecodingSeen) (x : FilledBad w order spot s d place why) → HasNoted (moved_items spot x.noted) t → t.steps_now ≤ t.steps + length (but_gaps x.noted)
      → IsChunkRefused w order spot s place why t
  bad_counted place why d x log steps = record {
    fetched = x.octets;
    left = x.took.left;
    ended = x.ended;
    none_left = x.none_left;
    bad = x.refused.bad;
    ends = x.refused.ends;
    counted = counted_of x.octets x.noted x.refused.bad.earlier x.refused.items_are x.refused.few log steps;
    stays = x.refused.stays;
  }

  unread_counted : (d : DecodingSeen) (x : FilledUnread w order spot s d) → HasNoted (moved_items spot x.noted) t → t.steps_now ≤ t.steps + length (but_gaps x.noted) → IsChunkUnread w order spot s t
  unread_counted d x log steps = record {
    fetched = x.octets;
    left = x.took.left;
    short = x.short.bad;
    counted = counted_of x.octets x.noted x.short.bad.earlier x.short.items_are x.short.few log steps;
  }

  whole_counted : (d : DecodingSeen) (m : Machine) (count : ℕ) (x : FilledWhole w order spot s d m count) → HasNoted (moved_items spot x.noted) t → t.steps_now ≡ t.steps + length (but_gaps x.noted)
      → TakenWhole w order spot s t m count
  whole_counted d m count x log steps = record {
    octets = x.octets;
    elements = x.elements;
    left = x.took.left;
    read = x.whole.read;
    logged = λ before l. subst (λ xs. HasNoted xs t) (sym (x.whole.items_are before l)) log;
    stepped = λ before l.
        let y : length (but_gaps (part_items w order (before ++ x.octets) spot x.elements)) ≡ length (but_gaps x.noted) =
        ap (λ xs. length (but_gaps xs)) (x.whole.items_are before l) ∙ as_many_steps (spot.node - 1) x.noted in
        omega (arith, y, steps);
    by_octets = (let few = x.whole.cut.few in omega (arith, few, steps));
    few_then = x.whole.few_then;
    cut = cut_counted x.octets x.noted x.whole.cut x.took.left log (omega (arith, steps));
    as_many = x.as_many;
    at = x.at;
    built = x.built;
  }

-- reading was cut off there too
part_of : (w : Setting) (order : Order) (spot : Spot) (s : SourceOver) (d : DecodingSeen) (m : Machine) (r : Result ℕ DecodeFault) → Fills w order spot s d m r → FilledPart w order spot s d
part_of w order spot s d m (Ok count) x = record { octets = x.octets; noted = x.noted; cut = x.whole.cut; took = x.took }
part_of w order spot s d m (Err (fault.Bad place why)) x = record {
  octets = x.octets;
  noted = x.noted;
  cut = record { earlier = x.refused.bad.earlier; through = x.refused.bad.through; items_are = x.refused.items_are; few = x.refused.few };
  took = x.took;
}
part_of w order spot s d m (Err fault.ReadFault) (risen, x) = record {
  octets = x.octets;
  noted = x.noted;
  cut = record { earlier = x.short.bad.earlier; through = x.short.bad.through; items_are = x.short.items_are; few = x.short.few };
  took = x.took;
}
part_of w order spot s d m (Err fault.Memory) x = x

module _ (w : Setting) (order : Order) (spot : Spot) (s : SourceOver) (own kept g h : Logged) (from to steps : ℕ) (before : ℕ) (is_before : spot.node - 1 ≡ before) (keeps : own.keeps ≡ g.keeps)
    (empty : own.items ≡ [])
    (none : from ≡ 0) (m : Machine) (r : Result ℕ DecodeFault) (fills : Fills w order spot s (decoding_seen own kept from to) m r) where
  -- the items could not all be noted, and no step was counted
  pub handed_part : AreNotedPart before kept.items g h → IsChunkCut w order spot s (decoding_seen g h steps steps)
  handed_part p =
      let x : FilledPart w order spot s (decoding_seen own kept from to) = part_of w order spot s (decoding_seen own kept from to) m r fills in
      let y : SomeNoted (spot.node - 1) x.noted g h = subst (λ n. SomeNoted n x.noted g h) (sym is_before) (some_handed before own kept g h keeps empty x.noted x.took.logged p) in
      let cut : PartCut w order spot x.octets y.first = fewer w order spot x.octets y.first y.others (subst (PartCut w order spot x.octets) y.split x.cut) in
      cut_counted w order spot s (decoding_seen g h steps steps) x.octets y.first cut x.took.left y.log (omega arith)

  module _ (handed : h ≡ with_items (map (moved_item before) kept.items) g) (count after : ℕ) (counted : count ≡ min to (2 ^ 64 - 1)) (later : after ≡ steps + count) where
    log_of_all : (noted : List Item) → kept ≡ with_items noted own → HasNoted (moved_items spot noted) (decoding_seen g h steps after)
    log_of_all noted e = subst (λ n. h ≡ with_items (map (moved_item n) noted) g) (sym is_before) (all_handed before own kept g h keeps empty noted e handed)

    few_steps : (noted : List Item) → to ≤ from + length (but_gaps noted) → after ≤ steps + length (but_gaps noted)
    few_steps noted l =
        let low : min to (2 ^ 64 - 1) ≤ to = min-le_left to (2 ^ 64 - 1) in
        omega (arith, low, counted, later, l, none)

    pub handed_all : Takes w order spot s (decoding_seen g h steps after) m r
    handed_all = go r fills
      where
        go : (r : Result ℕ DecodeFault) → Fills w order spot s (decoding_seen own kept from to) m r → Takes w order spot s (decoding_seen g h steps after) m r
        go (Ok many) x =
            let few : length (but_gaps x.noted) ≤ length x.octets = x.whole.cut.few in
            let within : spot.place + length x.octets ≤ STREAM_LIMIT = x.whole.read.spelt.within in
            let all : to ≡ from + length (but_gaps x.noted) = x.stepped in
            let small : to ≤ 2 ^ 64 - 1 = omega (arith, few, within, all, none) in
            let same : min to (2 ^ 64 - 1) ≡ to = min-eq_left small in
            whole_counted w order spot s (decoding_seen g h steps after) (decoding_seen own kept from to) m many x (log_of_all x.noted x.took.logged) (omega (arith, same, counted, later, all, none))
        go (Err (fault.Bad place why)) x =
            bad_counted w order spot s (decoding_seen g h steps after) place why (decoding_seen own kept from to) x (log_of_all x.noted x.took.logged) (few_steps x.noted x.took.steps)
        go (Err fault.ReadFault) (risen, x) =
            (risen, unread_counted w order spot s (decoding_seen g h steps after) (decoding_seen own kept from to) x (log_of_all x.noted x.took.logged) (few_steps x.noted x.took.steps))
        go (Err fault.Memory) x =
            cut_counted w order spot s (decoding_seen g h steps after) x.octets x.noted x.cut x.took.left (log_of_all x.noted x.took.logged) (few_steps x.noted x.took.steps)

-- out of memory, where reading was cut off
pub taken_memory : (w : Setting) (order : Order) (spot : Spot) (s : SourceOver) (t : DecodingSeen) (m : Machine) (r : Result ℕ DecodeFault) → IsErrAnd r (λ y. y ≡ fault.Memory)
    → IsChunkCut w order spot s t → Takes w order spot s t m r
taken_memory w order spot s t m (Ok count) is x = absurd is
taken_memory w order spot s t m (Err e) is x = subst (IsChunkFault w order spot s t) (sym is) x
