-- Steps are no more than octets and roots: what the entries of a stream's first part count.
use Rattle.std.proofs.Common.{◌≡◌, ℕ, ◌+◌, ◌*◌, ◌≤◌, suc, Bool, true, false, List, [], ◌∷◌, ◌++◌, length, Some, None, refl, ap, sym, ◌∙◌, subst, arith}
use Rattle.std.specs.Prelude.{cond, filter, flat_map}
use Rattle.std.specs.List.{AllByRecursion}
use Rattle.nd_base.specs.declared.octets.Order.{Order}
use Rattle.nd_value.specs.Canon.{target, has}
use Rattle.nd_value.specs.Setting.{Setting, root_list}
use Rattle.nd_value.proofs.Apart.{all_weaker}
use Rattle.nd_grammar.specs.Entry.{Kind, Entry, Align, Max, Offset, Actual, Chunk, Number, Num, Tag, Text, Context, Test, Unread, size_at, EntryAt, end_to_end, end_of}
use Rattle.nd_grammar.specs.Items.{but_gaps, items}
use Rattle.nd_grammar.specs.NextMark.{named_cell}
use Rattle.nd_grammar.specs.Stream.{IsRendered}
use Rattle.nd_grammar.proofs.ItemSizes.{numbers, items_size}
use Rattle.nd_grammar.specs.decoded.Verdict.{IsReadThrough, DecodingSeen, IsCounted, once, cells_named, direct_roots}

few_once : (others cs : List ℕ) → length (once others cs) ≤ length cs
few_once others [] = omega arith
few_once others (c ∷ cs) = go (has others c) (few_once others cs) (few_once (c ∷ others) cs)
  where
    go : (b : Bool) → length (once others cs) ≤ length cs → length (once (c ∷ others) cs) ≤ length cs
        → length (cond b (once others cs) (c ∷ once (c ∷ others) cs)) ≤ suc (length cs)
    go true h k = omega arith
    go false h k = omega arith

few_passed : {X : Type 0} (test : X → Bool) (xs : List X) → length (filter test xs) ≤ length xs
few_passed test [] = omega arith
few_passed test (x ∷ xs) = go (test x) (few_passed test xs)
  where
    go : (b : Bool) → length (filter test xs) ≤ length xs → length (cond b (x ∷ filter test xs) (filter test xs)) ≤ suc (length xs)
    go true h = omega arith
    go false h = omega arith

abbrev cells_in : List EntryAt → List ℕ
cells_in xs = flat_map (λ x. target (named_cell x.entry.kind)) xs

-- each cell that is named has a number
few_named : (at : ℕ) (ms : List Entry) → length (cells_in (end_to_end at ms)) ≤ numbers ms
few_named at [] = omega arith
few_named at (m ∷ ms) = go m.kind (few_named (at + size_at at m.kind) ms)
  where
    go : (k : Kind) → length (cells_in (end_to_end (at + size_at at m.kind) ms)) ≤ numbers ms
        → length (target (named_cell k) ++ cells_in (end_to_end (at + size_at at m.kind) ms)) ≤ numbers (record { home = m.home; node = m.node; kind = k } ∷ ms)
    go (Number class to (Some c)) h = omega arith
    go (Number class to None) h = omega arith
    go (Align n) h = omega arith
    go (Max v) h = omega arith
    go (Offset t v) h = omega arith
    go (Actual t o l v) h = omega arith
    go (Chunk v) h = omega arith
    go (Num p vs z) h = omega arith
    go (Tag p vs arms default z) h = omega arith
    go (Text t) h = omega arith
    go (Context a i) h = omega arith
    go (Test a x f) h = omega arith
    go Unread h = omega arith

-- the first part of entries that lie end to end
pub first_part : (at : ℕ) (ms : List Entry) (earlier later : List EntryAt) → end_to_end at ms ≡ earlier ++ later → (ns : List Entry) × (earlier ≡ end_to_end at ns)
first_part at ms [] later e = ([], refl)
first_part at [] (x ∷ xs) later e = cc
first_part at (m ∷ ms) (x ∷ xs) later e =
    let f : record { at = at; entry = m } ≡ x = cc in
    let g : end_to_end (at + size_at at m.kind) ms ≡ xs ++ later = cc in
    let (ns, h) = first_part (at + size_at at m.kind) ms xs later g in
    (m ∷ ns, ap (λ u. u ∷ xs) (sym f) ∙ ap (λ u. record { at = at; entry = m } ∷ u) h)

pub ends_within : (n at : ℕ) (ms : List Entry) → at ≤ n → AllByRecursion (λ x. x.at + size_at x.at x.entry.kind ≤ n) (end_to_end at ms) → end_of at ms ≤ n
ends_within n at [] h a = h
ends_within n at (m ∷ ms) h a = ends_within n (at + size_at at m.kind) ms a.0 a.1

-- items other than gaps, the cells that are named, and the roots that are reference pointers
pub few_counted : (w : Setting) (order : Order) (octets : List ℕ) (earlier : List EntryAt) → IsReadThrough w order octets earlier
    → length (but_gaps (items order octets earlier)) + length (cells_named earlier) + length (direct_roots w) ≤ length octets + length (root_list w)
few_counted w order octets earlier r =
    let (ns, e) = first_part 0 r.entries earlier r.later r.split in
    let all : AllByRecursion (λ x. x.at + size_at x.at x.entry.kind ≤ length octets) earlier =
    all_weaker (IsRendered order r.numbering octets) (λ x. x.at + size_at x.at x.entry.kind ≤ length octets) (λ x k. k.0) earlier r.rendered in
    let end : end_of 0 ns ≤ length octets =
    ends_within (length octets) 0 ns (omega arith) (subst (AllByRecursion (λ x. x.at + size_at x.at x.entry.kind ≤ length octets)) e all) in
    let size : length (but_gaps (items order octets (end_to_end 0 ns))) + 3 * numbers ns + 0 ≤ end_of 0 ns = items_size order octets 0 ns in
    let named : length (cells_in (end_to_end 0 ns)) ≤ numbers ns = few_named 0 ns in
    let once_named : length (cells_named (end_to_end 0 ns)) ≤ length (cells_in (end_to_end 0 ns)) = few_once [] (cells_in (end_to_end 0 ns)) in
    let direct : length (direct_roots w) ≤ length (root_list w) = few_passed _ (root_list w) in
    subst (λ u. length (but_gaps (items order octets u)) + length (cells_named u) + length (direct_roots w) ≤ length octets + length (root_list w)) (sym e)
    (omega (arith, end, size, named, once_named, direct))

-- So the steps that these bound are bounded by octets and roots.
pub is_counted : (w : Setting) (order : Order) (octets : List ℕ) (earlier : List EntryAt) (t : DecodingSeen) → IsReadThrough w order octets earlier
    → t.steps_now ≤ t.steps + length (but_gaps (items order octets earlier)) + length (cells_named earlier) + length (direct_roots w) → IsCounted w order octets earlier t
is_counted w order octets earlier t r h = let k = few_counted w order octets earlier r in record { by_items = h; by_octets = omega (arith, h, k) }
