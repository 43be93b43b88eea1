-- The entries of a chunk whose nodes come after those of the chunks before: they are spelt, judged and noted as those of the chunk by itself.
use Rattle.std.proofs.Common.{◌≡◌, ◌≤◌, ℕ, ◌+◌, ◌-◌, zero, suc, ℤ, Bool, true, false, ◌&&◌, List, [], ◌∷◌, ◌++◌, length, Option, Some, None, refl, ap, ap₂, sym, ◌∙◌, subst, arith, map, replicate}
use Rattle.std.specs.Prelude.{ltb, not, eqb, ◌||◌, cond, option_map}
use Rattle.std.specs.Ordering.{int_eq}
use Rattle.std.specs.List.{AllByRecursion}
use Rattle.std.proofs.lemmas.List.{map-append}
use Rattle.std.proofs.lemmas.Bool.{eqb-true, eq-eqb, eqb-false}
use Rattle.nd_base.specs.declared.octets.Order.{Order}
use Rattle.nd_base.specs.declared.TheConstants.{STREAM_LIMIT}
use Rattle.nd_types.specs.declared.types.Attr.{Attr}
use Rattle.nd_types.specs.declared.types.Class.TheVariants.{Ref, Unique, Full}
use Rattle.nd_types.specs.declared.types.TypeDef.{TypeDef}
use Rattle.nd_types.specs.Number.{unsigned}
use Rattle.nd_types.specs.Table.{Table, type_at}
use Rattle.nd_value.specs.declared.item.Home.{Home}
use Rattle.nd_value.specs.declared.item.Home.TheVariants as home
use Rattle.nd_value.specs.declared.item.ItemKind.{ItemKind}
use Rattle.nd_value.specs.Agreement.{Agreement, found_in}
use Rattle.nd_value.specs.Nodes.{child_types, child_agreements, first_agreements, rest_agreements}
use Rattle.nd_value.specs.Setting.{Setting}
use Rattle.nd_value.specs.Tree.{Tree, Trees, node, none, more, node_count, is_pointer, trees}
use Rattle.nd_value.proofs.Waiting.{not_equal}
use Rattle.nd_grammar.specs.declared.reason.Reason.TheVariants as reason
use Rattle.nd_grammar.specs.Entry.{Kind, Entry, Align, Max, Offset, Actual, Chunk, Number, Num, Tag, Text, Context, Test, Unread, size_at, EntryAt, end_to_end, end_of, before_children, entries}
use Rattle.nd_grammar.specs.Entry.{in_place, tests, own_tests, child_tests}
use Rattle.nd_grammar.specs.Items.{items, item_at, item_of, item_node}
use Rattle.nd_grammar.specs.Stream.{piece, IsRendered}
use Rattle.nd_grammar.specs.Refusal.{refusal, kind_refusal, refused_if, is_long, is_other, other_pointee, tested_at, kind_agrees, same_home, is_max, Accepts}
use Rattle.ndr_drain_laws.specs.parts.Parts.{Spot, elem_at, part_entries}
use Rattle.ndr_drain_laws.specs.reader.PartReader.{after_nodes, moved_item}

abbrev pub moved_entry : ℕ → Entry → Entry
moved_entry k m = record { home = m.home; node = after_nodes k m.node; kind = m.kind }

abbrev pub moved_at : ℕ → EntryAt → EntryAt
moved_at k x = record { at = x.at; entry = moved_entry k x.entry }

-- ## Places

module _ (k : ℕ) where
  pub ends_moved : (at : ℕ) (ms : List Entry) → end_to_end at (map (moved_entry k) ms) ≡ map (moved_at k) (end_to_end at ms)
  ends_moved at [] = refl
  ends_moved at (m ∷ ms) = ap (λ u. moved_at k (record { at = at; entry = m }) ∷ u) (ends_moved (at + size_at at m.kind) ms)

  pub end_moved : (at : ℕ) (ms : List Entry) → end_of at (map (moved_entry k) ms) ≡ end_of at ms
  end_moved at [] = refl
  end_moved at (m ∷ ms) = end_moved (at + size_at at m.kind) ms

  -- ## Numbers of nodes

  after_some : (n m : ℕ) → 1 ≤ n → m ≡ n + k → after_nodes k n ≡ m
  after_some zero m h e = absurd (omega arith)
  after_some (suc n) m h e = sym e

  one_number : (a b : ℕ) → after_nodes k a ≡ after_nodes k b → a ≡ b
  one_number zero zero e = refl
  one_number zero (suc b) e = absurd (omega (arith, e))
  one_number (suc a) zero e = absurd (omega (arith, e))
  one_number (suc a) (suc b) e = omega (arith, e)

  same_number : (a b : ℕ) → eqb (after_nodes k a) (after_nodes k b) ≡ eqb a b
  same_number a b = go (eqb a b) refl
    where
      go : (t : Bool) → eqb a b ≡ t → eqb (after_nodes k a) (after_nodes k b) ≡ eqb a b
      go true e = eq-eqb (after_nodes k a) (after_nodes k b) (ap (after_nodes k) (eqb-true a b e)) ∙ sym e
      go false e = not_equal (after_nodes k a) (after_nodes k b) (λ f. eqb-false a b e (one_number a b f)) ∙ sym e

  -- ## Values in their places

  module _ (h : Home) where
    kinds_moved : (n m : ℕ) → 1 ≤ n → m ≡ n + k → (xs : List Kind) → entries h m xs ≡ map (moved_entry k) (entries h n xs)
    kinds_moved n m l e [] = refl
    kinds_moved n m l e (x ∷ xs) = ap₂ (λ u v. record { home = h; node = u; kind = x } ∷ v) (sym (after_some n m l e)) (kinds_moved n m l e xs)

    tests_moved : (n m : ℕ) → 1 ≤ n → m ≡ n + k → (t : Tree) (ags : List Agreement) → tests h m t ags ≡ map (moved_entry k) (tests h n t ags)
    tests_moved n m l e t [] = refl
    tests_moved n m l e t (a ∷ ags) = ap₂ (λ u v. record { home = h; node = u; kind = Test a.attr a.wanted (found_in a.attr t) } ∷ v) (sym (after_some n m l e)) (tests_moved n m l e t ags)

    own_moved : (b : Bool) (n m : ℕ) → 1 ≤ n → m ≡ n + k → (t : Tree) (ags : List Agreement) → own_tests b h m t ags ≡ map (moved_entry k) (own_tests b h n t ags)
    own_moved true n m l e t ags = refl
    own_moved false n m l e t ags = tests_moved n m l e t ags

    child_moved : (ags : List (List Agreement)) (n m : ℕ) → 1 ≤ n → m ≡ n + k → (ts : Trees) → child_tests h ags m ts ≡ map (moved_entry k) (child_tests h ags n ts)
    child_moved ags n m l e none = refl
    child_moved ags n m l e (more (node b ks) ts) =
        let A : List Entry = own_tests (is_pointer b) h n (node b ks) (first_agreements ags) in
        let B : List Entry = child_tests h (rest_agreements ags) (n + 1 + node_count ks) ts in
        ap₂ (λ u v. u ++ v) (own_moved (is_pointer b) n m l e (node b ks) (first_agreements ags))
        (child_moved (rest_agreements ags) (n + 1 + node_count ks) (m + 1 + node_count ks) (omega (arith, l)) (omega (arith, e)) ts)
        ∙ sym (map-append (moved_entry k) A B)

    pub in_place_moved : (table : Table) (types : List ℕ) (n m : ℕ) → 1 ≤ n → m ≡ n + k → (ts : Trees) → in_place table h types m ts ≡ map (moved_entry k) (in_place table h types n ts)
    in_place_moved table types n m l e none = refl
    in_place_moved table [] n m l e (more t ts) = refl
    in_place_moved table (t ∷ types) n m l e (more (node b ks) ts) =
        let d : Option TypeDef = type_at table t in
        let A : List Entry = entries h n (before_children table t d b ks) in
        let I : List Entry = in_place table h (child_types d b ks) (n + 1) ks in
        let C : List Entry = child_tests h (child_agreements d ks) (n + 1) ks in
        let D : List Entry = in_place table h types (n + 1 + node_count ks) ts in
        let one : 1 ≤ n + 1 = omega arith in
        let up : m + 1 ≡ n + 1 + k = omega (arith, e) in
        let a = kinds_moved n m l e (before_children table t d b ks) in
        let i = in_place_moved table (child_types d b ks) (n + 1) (m + 1) one up ks in
        let c = child_moved (child_agreements d ks) (n + 1) (m + 1) one up ks in
        let x = in_place_moved table types (n + 1 + node_count ks) (m + 1 + node_count ks) (omega arith) (omega (arith, e)) ts in
        ap₂ (λ u v. u ++ v) a (ap₂ (λ u v. u ++ v) i (ap₂ (λ u v. u ++ v) c x ∙ sym (map-append (moved_entry k) C D)) ∙ sym (map-append (moved_entry k) I (C ++ D)))
        ∙ sym (map-append (moved_entry k) A (I ++ (C ++ D)))

  -- ## What octets say of them

  pub rendered_moved : (order : Order) (nums : ℕ → ℕ) (octets : List ℕ) (xs : List EntryAt) → AllByRecursion (IsRendered order nums octets) xs
      → AllByRecursion (IsRendered order nums octets) (map (moved_at k) xs)
  rendered_moved order nums octets [] a = tt
  rendered_moved order nums octets (x ∷ xs) a = (a.0, rendered_moved order nums octets xs a.1)

  others_moved : (order : Order) (octets : List ℕ) (seen : List EntryAt) (v to : ℕ) → is_other order octets (map (moved_at k) seen) v to ≡ is_other order octets seen v to
  others_moved order octets [] v to = refl
  others_moved order octets (x ∷ xs) v to =
      ap (λ b. other_pointee x.entry.kind to && eqb (unsigned order (piece octets x.at x.entry.kind)) v || b) (others_moved order octets xs v to)

  tested_moved : (seen : List EntryAt) (a : Attr) (h : Home) (n : ℕ) → tested_at (map (moved_at k) seen) a h (after_nodes k n) ≡ tested_at seen a h n
  tested_moved [] a h n = refl
  tested_moved (x ∷ xs) a h n =
      ap₂ (λ b o. cond (kind_agrees a x.entry.kind && same_home x.entry.home h && (is_max x.entry.kind || b)) (Some x.at) o) (same_number x.entry.node n) (tested_moved xs a h n)

  module _ (order : Order) (octets : List ℕ) where
    kind_moved : (seen : List EntryAt) (at : ℕ) (m : Entry) (x : Kind) (os : List ℕ)
        → kind_refusal order octets (map (moved_at k) seen) at (moved_entry k m) x os ≡ kind_refusal order octets seen at m x os
    kind_moved seen at m (Number Full to c) os =
        ap (λ b. refused_if (not (eqb (unsigned order os) 0) && b) (at, reason.OtherType) None) (others_moved order octets seen (unsigned order os) to)
    kind_moved seen at m (Test a wanted found) os =
        ap (λ o. cond (int_eq wanted found) None (option_map (λ place. (place, reason.Disagrees wanted found)) o)) (tested_moved seen a m.home m.node)
    kind_moved seen at m (Number Ref to c) os = refl
    kind_moved seen at m (Number Unique to c) os = refl
    kind_moved seen at m (Offset true v) os = refl
    kind_moved seen at m (Offset false v) os = refl
    kind_moved seen at m (Align n) os = refl
    kind_moved seen at m (Max v) os = refl
    kind_moved seen at m (Actual t o l v) os = refl
    kind_moved seen at m (Chunk v) os = refl
    kind_moved seen at m (Num p values z) os = refl
    kind_moved seen at m (Tag p values arms default z) os = refl
    kind_moved seen at m (Text t) os = refl
    kind_moved seen at m (Context a i) os = refl
    kind_moved seen at m Unread os = refl

    pub refused_moved : (seen : List EntryAt) (x : EntryAt) → refusal order octets (map (moved_at k) seen) (moved_at k x) ≡ refusal order octets seen x
    refused_moved seen x =
        ap (λ o. refused_if (is_long x.at x.entry.kind) (STREAM_LIMIT, reason.TooLong)
        (refused_if (ltb (length octets) (x.at + size_at x.at x.entry.kind)) (length octets, reason.Truncated) o))
        (kind_moved seen x.at x.entry x.entry.kind (piece octets x.at x.entry.kind))

    pub accepts_moved : (seen xs : List EntryAt) → Accepts order octets seen xs → Accepts order octets (map (moved_at k) seen) (map (moved_at k) xs)
    accepts_moved seen [] a = tt
    accepts_moved seen (x ∷ xs) a = (
      refused_moved seen x ∙ a.0,
      subst (λ u. Accepts order octets u (map (moved_at k) xs)) (map-append (moved_at k) seen (x ∷ [])) (accepts_moved (seen ++ x ∷ []) xs a.1),
    )

    -- ## Their items

    node_moved : (x : Kind) (n : ℕ) → item_node x (after_nodes k n) ≡ after_nodes k (item_node x n)
    node_moved (Align m) n = refl
    node_moved (Max v) n = refl
    node_moved _ n = refl

    one_moved : (x : EntryAt) (o : Option (ItemKind × ℤ)) → item_at (moved_at k x) o ≡ map (moved_item k) (item_at x o)
    one_moved x None = refl
    one_moved x (Some v) =
        ap (λ n. record { at = x.at; len = size_at x.at x.entry.kind; kind = v.0; home = x.entry.home; node = n; value = v.1 } ∷ []) (node_moved x.entry.kind x.entry.node)

    pub items_moved : (xs : List EntryAt) → items order octets (map (moved_at k) xs) ≡ map (moved_item k) (items order octets xs)
    items_moved [] = refl
    items_moved (x ∷ xs) =
        ap₂ (λ u v. u ++ v) (one_moved x (item_of order x.entry.kind (piece octets x.at x.entry.kind))) (items_moved xs)
        ∙ sym (map-append (moved_item k) (item_at x (item_of order x.entry.kind (piece octets x.at x.entry.kind))) (items order octets xs))

-- ## A chunk

-- the entries of a chunk by itself: its nodes are numbered from 1
abbrev pub own_entries : Setting → Spot → ℕ → Trees → List Entry
own_entries w s k ts =
    entries (home.Root s.root) 0 (Align 4 ∷ Chunk k ∷ []) ++ in_place w.table (home.Root s.root) (replicate k (elem_at w s.root)) 1 ts

pub part_moved : (w : Setting) (s : Spot) (k : ℕ) (vs : List Tree) → 1 ≤ s.node → part_entries w s k vs ≡ map (moved_entry (s.node - 1)) (own_entries w s k (trees vs))
part_moved w s k vs l =
    let E : List Entry = entries (home.Root s.root) 0 (Align 4 ∷ Chunk k ∷ []) in
    let I : List Entry = in_place w.table (home.Root s.root) (replicate k (elem_at w s.root)) 1 (trees vs) in
    let e : s.node ≡ 1 + (s.node - 1) = omega (arith, l) in
    ap (λ u. E ++ u) (in_place_moved (s.node - 1) (home.Root s.root) w.table (replicate k (elem_at w s.root)) 1 s.node (omega arith) e (trees vs))
