-- Entries without agreements. These have no octets, and so neither a place nor an item of their own: the items of entries are those of the others.
use Rattle.std.proofs.Common.{◌≡◌, ◌∙◌, ℕ, ◌+◌, Bool, true, false, List, [], ◌∷◌, ◌++◌, None, refl, sym, ap, add-zero}
use Rattle.std.specs.List.{AllByRecursion}
use Rattle.nd_base.specs.declared.octets.Order.{Order}
use Rattle.nd_base.specs.declared.octets.Order.TheVariants.{Little}
use Rattle.nd_types.specs.Table.{Table, type_at}
use Rattle.nd_value.specs.declared.item.Home.{Home}
use Rattle.nd_value.specs.Agreement.{Agreement}
use Rattle.nd_value.specs.Nodes.{child_agreements, child_types, first_agreements, rest_agreements}
use Rattle.nd_value.specs.Tree.{Tree, Trees, is_pointer, more, node, node_count, none}
use Rattle.nd_grammar.specs.Entry.{Actual, Align, Chunk, Context, Entry, EntryAt, Kind, Max, Num, Number, Offset, Tag, Test, Text, Unread, end_to_end, size_at, before_children, child_tests, entries}
use Rattle.nd_grammar.specs.Entry.{in_place, own_tests, tests}
use Rattle.nd_grammar.specs.Items.{item_at, item_of, items}
use Rattle.nd_grammar.specs.Stream.{piece}
use Rattle.ndr_trace_value.specs.Untested.{is_test, kept_if, plain, untested, untested_at}

kept_append : {X : Type 0} (b : Bool) (x : X) (xs ys : List X) → kept_if b x (xs ++ ys) ≡ kept_if b x xs ++ ys
kept_append true x xs ys = refl
kept_append false x xs ys = refl

pub untested_append : (ms ns : List Entry) → untested (ms ++ ns) ≡ untested ms ++ untested ns
untested_append [] ns = refl
untested_append (m ∷ ms) ns = ap (λ xs. kept_if (is_test m.kind) m xs) (untested_append ms ns) ∙ kept_append (is_test m.kind) m (untested ms) (untested ns)

pub untested_at_append : (xs ys : List EntryAt) → untested_at (xs ++ ys) ≡ untested_at xs ++ untested_at ys
untested_at_append [] ys = refl
untested_at_append (x ∷ xs) ys = ap (λ zs. kept_if (is_test x.entry.kind) x zs) (untested_at_append xs ys) ∙ kept_append (is_test x.entry.kind) x (untested_at xs) (untested_at ys)

-- ## An agreement has no octets

abbrev IsEmpty : Order → ℕ → Kind → Type 0
IsEmpty order at k = (size_at at k ≡ 0) × ((os : List ℕ) → item_of order k os ≡ None)

test_empty : (order : Order) (at : ℕ) (k : Kind) → is_test k ≡ true → IsEmpty order at k
test_empty order at (Test a wanted found) e = (refl, λ os. refl)
test_empty order at (Align n) e = cc
test_empty order at (Max v) e = cc
test_empty order at (Offset t v) e = cc
test_empty order at (Actual t o b v) e = cc
test_empty order at (Chunk v) e = cc
test_empty order at (Number c to cell) e = cc
test_empty order at (Num p vs z) e = cc
test_empty order at (Tag p vs arms d z) e = cc
test_empty order at (Text os) e = cc
test_empty order at (Context a id) e = cc
test_empty order at Unread e = cc

abbrev placed : ℕ → Entry → EntryAt
placed at m = record { at = at; entry = m }

pub untested_ends : (at : ℕ) (ms : List Entry) → untested_at (end_to_end at ms) ≡ end_to_end at (untested ms)
untested_ends at [] = refl
untested_ends at (m ∷ ms) = go (is_test m.kind) refl (untested_ends (at + size_at at m.kind) ms)
  where
    go : (b : Bool) → is_test m.kind ≡ b → untested_at (end_to_end (at + size_at at m.kind) ms) ≡ end_to_end (at + size_at at m.kind) (untested ms)
        → kept_if b (placed at m) (untested_at (end_to_end (at + size_at at m.kind) ms)) ≡ end_to_end at (kept_if b m (untested ms))
    go false e h = ap (λ xs. placed at m ∷ xs) h
    go true e h =
        let z : at + size_at at m.kind ≡ at = ap (λ n. at + n) (test_empty Little at m.kind e).0 ∙ add-zero at in
        h ∙ ap (λ n. end_to_end n (untested ms)) z

pub untested_items : (order : Order) (octets : List ℕ) (xs : List EntryAt) → items order octets (untested_at xs) ≡ items order octets xs
untested_items order octets [] = refl
untested_items order octets (x ∷ xs) = go (is_test x.entry.kind) refl (untested_items order octets xs)
  where
    go : (b : Bool) → is_test x.entry.kind ≡ b → items order octets (untested_at xs) ≡ items order octets xs
        → items order octets (kept_if b x (untested_at xs)) ≡ item_at x (item_of order x.entry.kind (piece octets x.at x.entry.kind)) ++ items order octets xs
    go false e h = ap (λ zs. item_at x (item_of order x.entry.kind (piece octets x.at x.entry.kind)) ++ zs) h
    go true e h =
        h
        ∙ sym (ap (λ o. item_at x o ++ items order octets xs) ((test_empty order x.at x.entry.kind e).1 (piece octets x.at x.entry.kind)))

pub untested_all : (R : EntryAt → Type 0) (xs : List EntryAt) → AllByRecursion R xs → AllByRecursion R (untested_at xs)
untested_all R [] r = r
untested_all R (x ∷ xs) r = go (is_test x.entry.kind) (untested_all R xs r.1)
  where
    go : (b : Bool) → AllByRecursion R (untested_at xs) → AllByRecursion R (kept_if b x (untested_at xs))
    go true h = h
    go false h = (r.0, h)

-- ## Values

untested_tests : (h : Home) (n : ℕ) (t : Tree) (xs : List Agreement) → untested (tests h n t xs) ≡ []
untested_tests h n t [] = refl
untested_tests h n t (x ∷ xs) = untested_tests h n t xs

untested_own : (b : Bool) (h : Home) (n : ℕ) (t : Tree) (xs : List Agreement) → untested (own_tests b h n t xs) ≡ []
untested_own true h n t xs = refl
untested_own false h n t xs = untested_tests h n t xs

untested_children : (h : Home) (xss : List (List Agreement)) (n : ℕ) (ts : Trees) → untested (child_tests h xss n ts) ≡ []
untested_children h xss n none = refl
untested_children h xss n (more (node l ks) ts) =
    let own = own_tests (is_pointer l) h n (node l ks) (first_agreements xss) in
    let others = child_tests h (rest_agreements xss) (n + 1 + node_count ks) ts in
    untested_append own others
    ∙ ap (λ xs. xs ++ untested others) (untested_own (is_pointer l) h n (node l ks) (first_agreements xss))
    ∙ untested_children h (rest_agreements xss) (n + 1 + node_count ks) ts

four_parts : (own inner tested later : List Entry) → untested tested ≡ []
    → untested (own ++ (inner ++ (tested ++ later))) ≡ untested own ++ (untested inner ++ untested later)
four_parts own inner tested later e =
    untested_append own (inner ++ (tested ++ later))
    ∙ ap (λ xs. untested own ++ xs)
    (untested_append inner (tested ++ later)
    ∙ ap (λ xs. untested inner ++ xs) (untested_append tested later ∙ ap (λ xs. xs ++ untested later) e))

pub untested_values : (table : Table) (h : Home) (types : List ℕ) (n : ℕ) (ts : Trees) → untested (in_place table h types n ts) ≡ plain table h types n ts
untested_values table h types n none = refl
untested_values table h [] n (more t ts) = refl
untested_values table h (t ∷ types) n (more (node l ks) ts) =
    let own = entries h n (before_children table t (type_at table t) l ks) in
    let inner = in_place table h (child_types (type_at table t) l ks) (n + 1) ks in
    let tested = child_tests h (child_agreements (type_at table t) ks) (n + 1) ks in
    let later = in_place table h types (n + 1 + node_count ks) ts in
    four_parts own inner tested later (untested_children h (child_agreements (type_at table t) ks) (n + 1) ks)
    ∙ ap (λ xs. untested own ++ (xs ++ untested later)) (untested_values table h (child_types (type_at table t) l ks) (n + 1) ks)
    ∙ ap (λ xs. untested own ++ (plain table h (child_types (type_at table t) l ks) (n + 1) ks ++ xs)) (untested_values table h types (n + 1 + node_count ks) ts)
