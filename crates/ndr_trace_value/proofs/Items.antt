-- What an item of the log is, by the entry that it stands for: its line, and the number that it holds.
-- `k` are the octets with the partial graph in which they are refused, `x` is a kind, `os` are an entry's octets, `i` is an item.
use Rattle.std.proofs.Common.{◌≡◌, ◌∙◌, ℕ, ◌+◌, ◌-◌, ◌^◌, ◌<◌, ◌≤◌, zero, suc, ℤ, true, List, [], ◌∷◌, ◌++◌, drop, length, take, Option, Some, None, codes, refl, sym, ap, ap₂, subst}
use Rattle.std.proofs.Common.{arith}
use Rattle.std.proofs.Common.{◌%◌, length-append, reverse}
use Rattle.std.proofs.Math.Nat.{mod-eq_of_lt, mod-lt, mod_self}
use Rattle.std.specs.Prelude.{IsSome, option_map, pos}
use Rattle.std.specs.List.{slice_get}
use Rattle.nd_base.specs.declared.octets.Order.{Order}
use Rattle.nd_base.specs.declared.octets.Order.TheVariants.{Big, Little}
use Rattle.nd_types.specs.Number.{AreOctets, unsigned, value_of_octets}
use Rattle.nd_value.specs.declared.item.Home.{Home}
use Rattle.nd_value.specs.declared.item.Item.{Item}
use Rattle.nd_value.specs.declared.item.ItemKind.{ItemKind}
use Rattle.nd_value.specs.declared.item.ItemKind.TheVariants as item
use Rattle.nd_value.specs.Tree as tree
use Rattle.nd_value.specs.Tree.{Label}
use Rattle.nd_grammar.specs.Entry.{Actual, Align, Chunk, Context, Entry, Kind, Max, Num, Number, Offset, Tag, Test, Text, Unread, end_to_end, gap, size_at}
use Rattle.nd_grammar.specs.Items.{item_node, item_of}
use Rattle.nd_grammar.specs.Stream.{IsNumber, Spells, id_octets, piece}
use Rattle.nd_grammar.proofs.next.Spelt.{piece_left}
use Rattle.nd_grammar.proofs.reader.Ranges.{below_4}
use Rattle.ndr_prim.specs.Context.{attributes_of, identifier, identifier_of}
use Rattle.ndr_prim.proofs.Contexts.{context_after_write}
use Rattle.nd_lemmas.proofs.Lists.{four_parts, take_front}
use Rattle.text_grammar.specs.Paths.{home_types}
use Rattle.text_grammar.specs.Written.{quoted_text}
use Rattle.text_printer.specs.Texts.{context_text}
use Rattle.ndr_explain.specs.Cursors.{IsNoGap, level_place, name_text, path_to}
use Rattle.ndr_explain.specs.Explained.{context_shown, gap_shown, home_flats, home_paths, item_head, its_octets, label_in, line_over, path_in, rest_over, string_shown, value_shown}
use Rattle.ndr_explain.proofs.LevelPaths.{steps_after}
use Rattle.ndr_explain.proofs.Lines.{other_rest, three}
use Rattle.ndr_trace_value.specs.Due.{Took}
use Rattle.ndr_trace_value.specs.Untested.{is_test}
use Rattle.ndr_trace_value.proofs.Gaps.{gap_item}
use Rattle.ndr_trace_value.specs.declared.progress.Ground.{Ground}
use Rattle.ndr_trace_value.specs.declared.progress.Progress.{Progress}
use Rattle.ndr_trace_value.specs.declared.progress.Spot.{Spot}
use Rattle.ndr_trace_value.specs.declared.search.Sought.{Sought}
use Rattle.ndr_trace_value.specs.LastMembers.{counted_path, counted_variable, front_variable, level_variable, whole_types}
use Rattle.ndr_trace_value.specs.Places.{home_place}
use Rattle.ndr_trace_value.specs.Traces.{entry_path}
use Rattle.ndr_trace_value.specs.Tracing.{HasLabel, Holds, HoldsCount, IsCount, IsCounted, IsEnded, IsFrom, IsGround, IsInFront, IsItem, IsShown, IsSpot, IsTracing, KeptFrom, Known}
use Rattle.ndr_trace_value.specs.Tracing.{either_from, either_path, entry_at, is_sought, kept, kept_by, sought_path, sought_variable}
use Rattle.ndr_trace_value.proofs.Placed.{beside_is}
use Rattle.ndr_trace_value.proofs.Passing.{from_next, from_on, gap_passed, held_next, held_on, item_ended, item_passed, next_item, placed}

-- ## Kinds

-- the item of an entry that is one wherever it is
abbrev pub item_as : Order → Kind → List ℕ → ItemKind × ℤ
item_as order (Max v) os = (item.Max, pos (unsigned order os))
item_as order (Offset t v) os = (item.Offset, pos (unsigned order os))
item_as order (Actual t offset limit v) os = (item.Actual, pos (unsigned order os))
item_as order (Chunk v) os = (item.Chunk, pos (unsigned order os))
item_as order (Number class to cell) os = (item.Number, pos (unsigned order os))
item_as order (Num p values z) os = (item.Num, value_of_octets order p os)
item_as order (Tag p values arms default z) os = (item.Tag, value_of_octets order p os)
item_as order (Text octets) os = (item.Text, pos (length os))
item_as order (Context attributes id) os = (item.Context, pos 0)
item_as order _ os = (item.Gap, pos 0)

pub is_as : (order : Order) (x : Kind) (os : List ℕ) → IsItem x → item_of order x os ≡ Some (item_as order x os)
is_as order (Align n) os h = absurd h
is_as order (Test a wanted found) os h = absurd h
is_as order Unread os h = absurd h
is_as order (Max v) os h = refl
is_as order (Offset t v) os h = refl
is_as order (Actual t offset limit v) os h = refl
is_as order (Chunk v) os h = refl
is_as order (Number class to cell) os h = refl
is_as order (Num p values z) os h = refl
is_as order (Tag p values arms default z) os h = refl
is_as order (Text octets) os h = refl
is_as order (Context attributes id) os h = refl

no_gap : (order : Order) (x : Kind) (os : List ℕ) → IsItem x → IsNoGap (item_as order x os).0
no_gap order (Align n) os h = absurd h
no_gap order (Test a wanted found) os h = absurd h
no_gap order Unread os h = absurd h
no_gap order (Max v) os h = tt
no_gap order (Offset t v) os h = tt
no_gap order (Actual t offset limit v) os h = tt
no_gap order (Chunk v) os h = tt
no_gap order (Number class to cell) os h = tt
no_gap order (Num p values z) os h = tt
no_gap order (Tag p values arms default z) os h = tt
no_gap order (Text octets) os h = tt
no_gap order (Context attributes id) os h = tt

own_node : (x : Kind) (n : ℕ) → IsItem x → item_node x n ≡ n
own_node (Align m) n h = absurd h
own_node _ n h = refl

-- ## Octets

all_taken : (n : ℕ) (xs : List ℕ) → AreOctets xs → AreOctets (take n xs)
all_taken zero xs a = tt
all_taken (suc n) [] a = tt
all_taken (suc n) (x ∷ xs) a = (a.0, all_taken n xs a.1)

all_dropped : (n : ℕ) (xs : List ℕ) → AreOctets xs → AreOctets (drop n xs)
all_dropped zero xs a = a
all_dropped (suc n) [] a = tt
all_dropped (suc n) (x ∷ xs) a = all_dropped n xs a.1

long_enough : (xs : List ℕ) (n at : ℕ) → at + n ≤ length xs → length (take n (drop at xs)) ≡ n
long_enough xs zero at h = refl
long_enough [] (suc n) zero h = absurd (omega (arith, h))
long_enough [] (suc n) (suc at) h = absurd (omega (arith, h))
long_enough (x ∷ xs) (suc n) zero h = ap suc (long_enough xs n 0 (omega (arith, h)))
long_enough (x ∷ xs) (suc n) (suc at) h = long_enough xs (suc n) at (omega (arith, h))

-- four octets are a count
four_below : (order : Order) (octets : List ℕ) (at : ℕ) → AreOctets octets → at + 4 ≤ length octets → unsigned order (take 4 (drop at octets)) < 2 ^ 32
four_below order octets at a h = below_4 order (take 4 (drop at octets)) (long_enough octets 4 at h) (all_taken 4 (drop at octets) (all_dropped at octets a))

id_length : (order : Order) (id : List ℕ) → length (id_octets order id) ≡ length id
id_length Big [] = refl
id_length Big (a ∷ []) = refl
id_length Big (a ∷ b ∷ []) = refl
id_length Big (a ∷ b ∷ c ∷ []) = refl
id_length Big (a ∷ b ∷ c ∷ d ∷ []) = refl
id_length Big (a ∷ b ∷ c ∷ d ∷ e ∷ []) = refl
id_length Big (a ∷ b ∷ c ∷ d ∷ e ∷ f ∷ []) = refl
id_length Big (a ∷ b ∷ c ∷ d ∷ e ∷ f ∷ g ∷ []) = refl
id_length Big (a ∷ b ∷ c ∷ d ∷ e ∷ f ∷ g ∷ h ∷ xs) = refl
id_length Little [] = refl
id_length Little (a ∷ []) = refl
id_length Little (a ∷ b ∷ []) = refl
id_length Little (a ∷ b ∷ c ∷ []) = refl
id_length Little (a ∷ b ∷ c ∷ d ∷ []) = refl
id_length Little (a ∷ b ∷ c ∷ d ∷ e ∷ []) = refl
id_length Little (a ∷ b ∷ c ∷ d ∷ e ∷ f ∷ []) = refl
id_length Little (a ∷ b ∷ c ∷ d ∷ e ∷ f ∷ g ∷ []) = refl
id_length Little (a ∷ b ∷ c ∷ d ∷ e ∷ f ∷ g ∷ h ∷ xs) = refl

id_back : (order : Order) (id : List ℕ) → length id ≡ 16 → identifier order (id_octets order id) ≡ id
id_back Big id e = (context_after_write Big 0 id (omega arith) e).1
id_back Little id e = (context_after_write Little 0 id (omega arith) e).1

dropped_length : (n : ℕ) (xs : List ℕ) → length (drop n xs) ≡ length xs - n
dropped_length zero xs = omega arith
dropped_length (suc n) [] = omega arith
dropped_length (suc n) (x ∷ xs) = let h = dropped_length n xs in omega (arith, h)

fewer_taken : (n m : ℕ) (xs : List ℕ) → n ≤ m → take n (take m xs) ≡ take n xs
fewer_taken zero m xs h = refl
fewer_taken (suc n) zero xs h = absurd (omega (arith, h))
fewer_taken (suc n) (suc m) [] h = refl
fewer_taken (suc n) (suc m) (x ∷ xs) h = ap (λ u. x ∷ u) (fewer_taken n m xs (omega (arith, h)))

-- ## What an item holds

holds : (k : Known) (at : ℕ) (x : Kind) → IsItem x → AreOctets k.fetched → at + size_at at x ≤ length k.fetched
    → Spells k.order k.numbering x (piece k.fetched at x) → Holds k x (item_as k.order x (piece k.fetched at x)).1
holds k at (Align n) h a l s = absurd h
holds k at (Test b wanted found) h a l s = absurd h
holds k at Unread h a l s = absurd h
holds k at (Max v) h a l s = (ap pos s, subst (λ u. u < 2 ^ 32) s (four_below k.order k.fetched at a l))
holds k at (Offset t v) h a l s = (ap pos s, subst (λ u. u < 2 ^ 32) s (four_below k.order k.fetched at a l))
holds k at (Actual t offset limit v) h a l s = (ap pos s, subst (λ u. u < 2 ^ 32) s (four_below k.order k.fetched at a l))
holds k at (Chunk v) h a l s = (ap pos s, subst (λ u. u < 2 ^ 32) s (four_below k.order k.fetched at a l))
holds k at (Number class to cell) h a l s = (unsigned k.order (take 4 (drop at k.fetched)), ((refl, four_below k.order k.fetched at a l), s))
holds k at (Num p values z) h a l s = s
holds k at (Tag p values arms default z) h a l s = s
holds k at (Text octets) h a l s = tt
holds k at (Context attributes id) h a l s = tt

-- a count, where the number that is held is one
pub count_held : (k : Known) (x : Kind) (z : ℤ) (n : ℕ) → IsCount x → Holds k x z → ((v : ℕ) → IsCounted z v → n ≡ v) → HoldsCount k x n
count_held k (Max v) z n c h f = f v h
count_held k (Offset t v) z n c h f = f v h
count_held k (Actual t offset limit v) z n c h f = f v h
count_held k (Chunk v) z n c h f = f v h
count_held k (Number class to cell) z n c (v, (h, i)) f = subst (IsNumber k.numbering class cell) (sym (f v h)) i
count_held k (Num p values v) z n c h f = absurd c
count_held k (Tag p values arms default v) z n c h f = absurd c
count_held k (Text octets) z n c h f = absurd c
count_held k (Context attributes id) z n c h f = absurd c
count_held k (Align m) z n c h f = absurd c
count_held k (Test a wanted found) z n c h f = absurd c
count_held k Unread z n c h f = absurd c

pub count_is_item : (x : Kind) → IsCount x → IsItem x
count_is_item (Max v) c = tt
count_is_item (Offset t v) c = tt
count_is_item (Actual t offset limit v) c = tt
count_is_item (Chunk v) c = tt
count_is_item (Number class to cell) c = tt
count_is_item (Num p values v) c = absurd c
count_is_item (Tag p values arms default v) c = absurd c
count_is_item (Text octets) c = absurd c
count_is_item (Context attributes id) c = absurd c
count_is_item (Align m) c = absurd c
count_is_item (Test a wanted found) c = absurd c
count_is_item Unread c = absurd c

pub count_has_label : (k : Known) (h : Home) (n : ℕ) (x : Kind) → IsCount x → HasLabel k h n x
count_has_label k h n (Max v) c = tt
count_has_label k h n (Offset t v) c = tt
count_has_label k h n (Actual t offset limit v) c = tt
count_has_label k h n (Chunk v) c = tt
count_has_label k h n (Number class to cell) c = tt
count_has_label k h n (Num p values v) c = absurd c
count_has_label k h n (Tag p values arms default v) c = absurd c
count_has_label k h n (Text octets) c = absurd c
count_has_label k h n (Context attributes id) c = absurd c
count_has_label k h n (Align m) c = absurd c
count_has_label k h n (Test a wanted found) c = absurd c
count_has_label k h n Unread c = absurd c

-- ## Gaps

-- an aligned place has no gap, and any other one
no_gap_there : (at n : ℕ) → 0 < n → at % n ≡ 0 → gap at n ≡ 0
no_gap_there at n l e = ap (λ m. (n - m) % n) e ∙ ap (λ m. m % n) (minus-zero n) ∙ mod_self n
  where
    minus-zero : (m : ℕ) → m - 0 ≡ m
    minus-zero m = omega arith

pub some_gap : (at n : ℕ) → 0 < n → (at % n ≡ 0 → ⊥) → 0 < gap at n
some_gap at n l e = go (at % n) refl
  where
    go : (m : ℕ) → at % n ≡ m → 0 < gap at n
    go zero h = absurd (e h)
    go (suc m) h =
        let below : suc m < n = subst (λ j. j < n) h (mod-lt at l) in
        let left : n - suc m < n = omega (arith, below) in
        let is : gap at n ≡ n - suc m = ap (λ j. (n - j) % n) h ∙ mod-eq_of_lt left in
        omega (arith, is, below)

-- ## Lines

-- parts that are added one after the other, the middle three of them a part of their own
six_parts : (t t1 t2 t3 t4 t5 t6 a b c d e f : List ℕ) → t1 ≡ t ++ a → t2 ≡ t1 ++ b → t3 ≡ t2 ++ c → t4 ≡ t3 ++ d → t5 ≡ t4 ++ e → t6 ≡ t5 ++ f
    → t6 ≡ t ++ (a ++ (b ++ ((c ++ (d ++ e)) ++ f)))
six_parts t t1 t2 t3 t4 t5 t6 a b c d e f e1 e2 e3 e4 e5 e6 =
    let inner : t5 ≡ t2 ++ (c ++ (d ++ e)) = three t2 t3 t4 t5 c d e e3 e4 e5 in
    four_parts t t1 t2 t5 t6 a b (c ++ (d ++ e)) f e1 e2 inner e6

module _ (k : Known) (u : Ground) (ground : IsGround k u) where
  -- the octets of an entry, among all that were given
  among_all : (at n : ℕ) → at + n ≤ length k.fetched → take n (drop at u.octets.now) ≡ take n (drop at k.fetched)
  among_all at n l = ap (λ xs. take n (drop at xs)) ground.octets ∙ piece_left at n k.fetched ground.more l

  within_all : (m : ℕ) → m ≤ length k.fetched → m ≤ length u.octets.now
  within_all m l = let e = ap length ground.octets in let f = length-append k.fetched ground.more in omega (arith, e, f, l)

  text_shown : (at n : ℕ) (octets : List ℕ) (max : ℕ) (l : Option Label) → n ≡ length octets + 1 → at + (length octets + 1) ≤ length k.fetched
      → take (length octets + 1) (drop at k.fetched) ≡ octets ++ 0 ∷ [] → l ≡ Some (tree.Text max octets)
      → (0 < n) × (at + n ≤ length u.octets.now) × (string_shown l ≡ quoted_text (take (n - 1) (drop at u.octets.now)))
  text_shown at n octets max l wide inside spelt label =
      let front : take (length octets) (drop at u.octets.now) ≡ octets =
      sym (fewer_taken (length octets) (length octets + 1) (drop at u.octets.now) (omega arith))
      ∙ ap (take (length octets)) (among_all at (length octets + 1) inside ∙ spelt) ∙ take_front (length octets) octets (0 ∷ []) refl in
      let less : n - 1 ≡ length octets = omega (arith, wide) in (
        omega (arith, wide),
        within_all (at + n) (omega (arith, wide, inside)),
        ap string_shown label ∙ ap quoted_text (sym (ap (λ m. take m (drop at u.octets.now)) less ∙ front)),
      )

  context_is : (at attributes : ℕ) (id : List ℕ) (l : Option Label) → at + 20 ≤ length k.fetched
      → (unsigned k.order (take 4 (take 20 (drop at k.fetched))) ≡ attributes) × (drop 4 (take 20 (drop at k.fetched)) ≡ id_octets k.order id)
      → l ≡ Some (tree.Context attributes id)
      → (at + 20 ≤ length u.octets.now)
      × (context_shown l ≡ context_text (attributes_of u.order (take 20 (drop at u.octets.now))) (identifier_of u.order (take 20 (drop at u.octets.now))))
  context_is at attributes id l inside spelt label =
      let os = take 20 (drop at k.fetched) in
      let wide : length os ≡ 20 = long_enough k.fetched 20 at inside in
      let d = dropped_length 4 os in
      let i : length (id_octets k.order id) ≡ length (drop 4 os) = ap length (sym spelt.1) in
      let j = id_length k.order id in
      let sixteen : length id ≡ 16 = omega (arith, wide, d, i, j) in
      let a : attributes_of k.order os ≡ attributes = spelt.0 in
      let b : identifier_of k.order os ≡ id = ap (identifier k.order) spelt.1 ∙ id_back k.order id sixteen in (
        within_all (at + 20) inside,
        ap context_shown label ∙ sym (ap₂ context_text a b)
            ∙ ap₂ (λ (o : Order) (xs : List ℕ). context_text (attributes_of o xs) (identifier_of o xs)) (sym ground.order) (sym (among_all at 20 inside)),
      )

  shown : (x : Kind) (s : Spot) (n at : ℕ) (i : Item) → IsItem x → HasLabel k s.home n x → at + size_at at x ≤ length k.fetched
      → Spells k.order k.numbering x (piece k.fetched at x) → i.at ≡ at → i.len ≡ size_at at x → i.kind ≡ (item_as k.order x (piece k.fetched at x)).0
      → IsShown u i i.kind (label_in (home_flats k.graph s.home) n)
  shown x s n at i item label inside spelt e1 e2 e3 = subst (λ m. IsShown u i m (label_in (home_flats k.graph s.home) n)) (sym e3) (by_kind x item label inside spelt e2)
    where
      by_kind : (y : Kind) → IsItem y → HasLabel k s.home n y → at + size_at at y ≤ length k.fetched → Spells k.order k.numbering y (piece k.fetched at y)
          → i.len ≡ size_at at y → IsShown u i (item_as k.order y (piece k.fetched at y)).0 (label_in (home_flats k.graph s.home) n)
      by_kind (Align m) h b c d e = absurd h
      by_kind (Test a wanted found) h b c d e = absurd h
      by_kind Unread h b c d e = absurd h
      by_kind (Max v) h b c d e = tt
      by_kind (Offset t v) h b c d e = tt
      by_kind (Actual t offset limit v) h b c d e = tt
      by_kind (Chunk v) h b c d e = tt
      by_kind (Number class to cell) h b c d e = tt
      by_kind (Num p values v) h b c d e = tt
      by_kind (Tag p values arms default v) h b c d e = tt
      by_kind (Text octets) h b c d e =
          subst (λ a. (0 < i.len) × (a + i.len ≤ length u.octets.now)
          × (string_shown (label_in (home_flats k.graph s.home) n) ≡ quoted_text (take (i.len - 1) (drop a u.octets.now)))) (sym e1)
          (text_shown at i.len octets b.0 (label_in (home_flats k.graph s.home) n) e c d b.1)
      by_kind (Context attributes id) h b c d e =
          subst (λ a. (a + 20 ≤ length u.octets.now)
          × (context_shown (label_in (home_flats k.graph s.home) n)
          ≡ context_text (attributes_of u.order (take 20 (drop a u.octets.now))) (identifier_of u.order (take 20 (drop a u.octets.now))))) (sym e1)
          (context_is at attributes id (label_in (home_flats k.graph s.home) n) c d b)

  -- the path of what has the count or tag is by the types of the home
  by_home : (s : Spot) (x : Kind) (os path : List ℕ) → IsItem x → IsInFront k s x
      → counted_path k.setting.table (item_as k.order x os).0 (whole_types s.top) path
      ≡ counted_path k.setting.table (item_as k.order x os).0 (home_types k.setting k.graph s.home) path
  by_home s (Max v) os path h e = ap (λ ts. counted_path k.setting.table item.Max ts path) e
  by_home s (Align m) os path h e = absurd h
  by_home s (Test a wanted found) os path h e = absurd h
  by_home s Unread os path h e = absurd h
  by_home s (Offset t v) os path h e = refl
  by_home s (Actual t offset limit v) os path h e = refl
  by_home s (Chunk v) os path h e = refl
  by_home s (Number class to cell) os path h e = refl
  by_home s (Num p values v) os path h e = refl
  by_home s (Tag p values arms default v) os path h e = refl
  by_home s (Text octets) os path h e = refl
  by_home s (Context attributes id) os path h e = refl

  -- and so is that of its variable
  variable_by_home : (s : Spot) (x : Kind) (os : List ℕ) → IsItem x → IsInFront k s x
      → level_variable k.setting.table (item_as k.order x os).0 s.top (path_to (name_text s.name) (s.top ∷ reverse s.below.now.items))
      (path_to (name_text s.name) (reverse s.below.now.items))
      ≡ counted_variable k.setting.table (item_as k.order x os).0 (home_types k.setting k.graph s.home)
      (path_to (name_text s.name) (s.top ∷ reverse s.below.now.items)) (level_place s.top)
  variable_by_home s (Max v) os h e =
      ap (λ ts. front_variable k.setting.table ts (path_to (name_text s.name) (s.top ∷ reverse s.below.now.items))) e
  variable_by_home s (Align m) os h e = absurd h
  variable_by_home s (Test a wanted found) os h e = absurd h
  variable_by_home s Unread os h e = absurd h
  variable_by_home s (Offset t v) os h e = beside_is item.Offset (name_text s.name) s.top (reverse s.below.now.items)
  variable_by_home s (Actual t offset limit v) os h e = beside_is item.Actual (name_text s.name) s.top (reverse s.below.now.items)
  variable_by_home s (Chunk v) os h e = beside_is item.Chunk (name_text s.name) s.top (reverse s.below.now.items)
  variable_by_home s (Number class to cell) os h e = beside_is item.Number (name_text s.name) s.top (reverse s.below.now.items)
  variable_by_home s (Num p values v) os h e = beside_is item.Num (name_text s.name) s.top (reverse s.below.now.items)
  variable_by_home s (Tag p values arms default v) os h e = beside_is item.Tag (name_text s.name) s.top (reverse s.below.now.items)
  variable_by_home s (Text octets) os h e = beside_is item.Text (name_text s.name) s.top (reverse s.below.now.items)
  variable_by_home s (Context attributes id) os h e = beside_is item.Context (name_text s.name) s.top (reverse s.below.now.items)

  -- an item with its line: the next entry is due, and it holds what its entry says
  pub item_goes : (s : Spot) (n : ℕ) → IsSpot k s n → (x : Kind) → IsItem x → HasLabel k s.home n x → IsInFront k s x → (rest : List Entry) (p p1 : Progress)
      → IsTracing k p (entry_at s n x ∷ rest) → (i : Item) → slice_get u.items.now.items p.next ≡ Some i → (t1 t2 t3 t4 t5 t6 : List ℕ)
      → t1 ≡ p.lines ++ item_head i → t2 ≡ t1 ++ codes " " → t3 ≡ path_to (t2 ++ name_text s.name) (s.top ∷ reverse s.below.now.items)
      → t4 ≡ t3 ++ codes " " → ((l : Option Label) → IsShown u i i.kind l → t5 ≡ t4 ++ value_shown i.kind l i.value) → t6 ≡ t5 ++ codes "\n"
      → p1.lines ≡ t6 → p1.next ≡ p.next + 1 → p1.at ≡ i.at + i.len
      → p1.path
      ≡ either_path (is_sought u.sought p.next)
      (counted_path u.interface.now.types i.kind (whole_types s.top) (path_to (p.path ++ name_text s.name) (s.top ∷ reverse s.below.now.items))) p.path
      → p1.variable
      ≡ either_path (is_sought u.sought p.next)
      (level_variable u.interface.now.types i.kind s.top (path_to (name_text s.name) (s.top ∷ reverse s.below.now.items))
      (path_to (name_text s.name) (reverse s.below.now.items))) p.variable
      → p1.from ≡ either_from (is_sought u.sought p.next) s.from.now p.from → IsTracing k p1 rest × Holds k x i.value
  item_goes s n spot x item label front rest p p1 t i got t1 t2 t3 t4 t5 t6 e1 e2 e3 e4 e5 e6 lines next at path variable from = (
    item_passed k p p1 (entry_at s n x) rest z i one t there next at
        (held_next k (sought_path k) p.next i there u.sought ground.sought_is p.path p1.path _ t.path its_path path)
        (held_next k (sought_variable k) p.next i there u.sought ground.sought_is p.variable p1.variable _ t.variable (λ empty. its_variable) variable)
        (from_next k p.next i there u.sought ground.sought_is p.from p1.from s.from.now t.from (subst (λ h. IsFrom k h s.from.now) (sym home) spot.from) from) line,
    subst (Holds k x) (sym value) (holds k p.at x item ground.are_octets one.rendered.0 one.rendered.1),
  )
    where
      z : ItemKind × ℤ
      z = item_as k.order x (piece k.fetched p.at x)

      there : slice_get k.log p.next ≡ Some i
      there = ap (λ xs. slice_get xs p.next) (sym ground.items) ∙ got

      one : Took k.order k.fetched k.numbering k.here (placed k p (entry_at s n x)) (end_to_end (p.at + size_at p.at x) rest) z i (drop (p.next + 1) k.log)
      one = next_item k p (entry_at s n x) rest z i (λ r. is_as k.order x (piece k.fetched p.at x) item) t there

      value : i.value ≡ (item_as k.order x (piece k.fetched p.at x)).1
      value = ap (λ (y : Item). y.value) one.is_item

      kind : i.kind ≡ (item_as k.order x (piece k.fetched p.at x)).0
      kind = ap (λ (y : Item). y.kind) one.is_item

      home : i.home ≡ s.home
      home = ap (λ (y : Item). y.home) one.is_item

      node : i.node ≡ n
      node = ap (λ (y : Item). y.node) one.is_item ∙ own_node x n item

      same_label : label_in (home_flats k.graph s.home) n ≡ label_in (home_flats k.graph i.home) i.node
      same_label = ap₂ (λ (h : Home) (m : ℕ). label_in (home_flats k.graph h) m) (sym home) (sym node)

      is_shown : IsShown u i i.kind (label_in (home_flats k.graph i.home) i.node)
      is_shown =
          subst (λ l. IsShown u i i.kind l) same_label
          (shown x s n p.at i item label one.rendered.0 one.rendered.1 (ap (λ (y : Item). y.at) one.is_item) (ap (λ (y : Item). y.len) one.is_item) kind)

      here : List ℕ
      here = path_in (home_paths k.setting k.graph i.home) i.node

      its_path : p.path ≡ []
          → counted_path u.interface.now.types i.kind (whole_types s.top) (path_to (p.path ++ name_text s.name) (s.top ∷ reverse s.below.now.items)) ≡ sought_path k (Some i)
      its_path empty =
          ap (λ q. counted_path u.interface.now.types i.kind (whole_types s.top) (path_to (q ++ name_text s.name) (s.top ∷ reverse s.below.now.items))) empty
          ∙ ap (counted_path u.interface.now.types i.kind (whole_types s.top))
          (spot.path ∙ ap₂ (λ (h : Home) (m : ℕ). path_in (home_paths k.setting k.graph h) m) (sym home) (sym node))
          ∙ ap (λ table. counted_path table i.kind (whole_types s.top) here) ground.table ∙ ap (λ m. counted_path k.setting.table m (whole_types s.top) here) kind
          ∙ by_home s x (piece k.fetched p.at x) here item front
          ∙ ap (λ m. counted_path k.setting.table m (home_types k.setting k.graph s.home) here) (sym kind)
          ∙ ap (λ h. counted_path k.setting.table i.kind (home_types k.setting k.graph h) here) (sym home)

      its_variable : level_variable u.interface.now.types i.kind s.top (path_to (name_text s.name) (s.top ∷ reverse s.below.now.items))
          (path_to (name_text s.name) (reverse s.below.now.items)) ≡ sought_variable k (Some i)
      its_variable =
          let p0 : List ℕ = path_to (name_text s.name) (s.top ∷ reverse s.below.now.items) in
          let q0 : List ℕ = path_to (name_text s.name) (reverse s.below.now.items) in
          let its_kind : ItemKind = (item_as k.order x (piece k.fetched p.at x)).0 in
          ap (λ table. level_variable table i.kind s.top p0 q0) ground.table ∙ ap (λ m. level_variable k.setting.table m s.top p0 q0) kind
          ∙ variable_by_home s x (piece k.fetched p.at x) item front
          ∙ ap₂ (counted_variable k.setting.table its_kind (home_types k.setting k.graph s.home)) spot.path spot.place
          ∙ ap (λ m. counted_variable k.setting.table m (home_types k.setting k.graph s.home) (path_in (home_paths k.setting k.graph s.home) n)
          (home_place k.setting k.graph s.home n)) (sym kind)
          ∙ ap₂ (λ (h : Home) (m : ℕ). counted_variable k.setting.table i.kind (home_types k.setting k.graph h) (path_in (home_paths k.setting k.graph h) m)
          (home_place k.setting k.graph h m)) (sym home) (sym node)

      path_shown : t3 ≡ t2 ++ path_in (home_paths k.setting k.graph i.home) i.node
      path_shown =
          e3 ∙ steps_after t2 (name_text s.name) (s.top ∷ reverse s.below.now.items)
          ∙ ap (λ q. t2 ++ q) (spot.path ∙ ap₂ (λ (h : Home) (m : ℕ). path_in (home_paths k.setting k.graph h) m) (sym home) (sym node))

      line : p1.lines ≡ p.lines ++ line_over k.setting k.graph k.fetched i
      line =
          lines
          ∙ six_parts p.lines t1 t2 t3 t4 t5 t6 (item_head i) (codes " ") (path_in (home_paths k.setting k.graph i.home) i.node) (codes " ")
          (value_shown i.kind (label_in (home_flats k.graph i.home) i.node) i.value) (codes "\n") e1 e2 path_shown e4 (e5 (label_in (home_flats k.graph i.home) i.node) is_shown) e6
          ∙ ap (λ r. p.lines ++ (item_head i ++ r)) (sym (other_rest k.setting k.graph k.fetched i i.kind (subst IsNoGap (sym kind) (no_gap k.order x (piece k.fetched p.at x) item))))

  -- its node is that of its entry
  pub item_node_is : (p : Progress) (m : Entry) → IsItem m.kind → (rest : List Entry) → IsTracing k p (m ∷ rest) → (i : Item) → slice_get u.items.now.items p.next ≡ Some i
      → i.node ≡ m.node
  item_node_is p m item rest t i got =
      ap (λ (y : Item). y.node)
      (next_item k p m rest (item_as k.order m.kind (piece k.fetched p.at m.kind)) i (λ r. is_as k.order m.kind (piece k.fetched p.at m.kind) item) t
      (ap (λ xs. slice_get xs p.next) (sym ground.items) ∙ got)).is_item
      ∙ own_node m.kind m.node item

  -- ## Gaps

  -- a gap with its line: the next entry is due
  pub gap_goes : (s : Spot) (n align : ℕ) (rest : List Entry) (p p1 : Progress) → 0 < gap p.at align → IsTracing k p (entry_at s n (Align align) ∷ rest)
      → (i : Item) → slice_get u.items.now.items p.next ≡ Some i → (t1 t2 t3 : List ℕ) → t1 ≡ p.lines ++ item_head i → t2 ≡ t1 ++ gap_shown (its_octets u.octets.now i)
      → t3 ≡ t2 ++ codes "\n" → p1.lines ≡ t3 → p1.next ≡ p.next + 1 → p1.at ≡ i.at + i.len → p1.path ≡ p.path → p1.variable ≡ p.variable → p1.from ≡ p.from
      → IsTracing k p1 rest
  gap_goes s n align rest p p1 some t i got t1 t2 t3 e1 e2 e3 lines next at path variable from =
      item_passed k p p1 (entry_at s n (Align align)) rest (item.Gap, pos 0) i one t there next at (path ∙ t.path ∙ held_on k (sought_path k) p.next another)
      (variable ∙ t.variable ∙ held_on k (sought_variable k) p.next another) (subst (KeptFrom k (p.next + 1)) (sym from) (from_on k p.next p.from another t.from)) line
    where
      there : slice_get k.log p.next ≡ Some i
      there = ap (λ xs. slice_get xs p.next) (sym ground.items) ∙ got

      one : Took k.order k.fetched k.numbering k.here (placed k p (entry_at s n (Align align))) (end_to_end (p.at + gap p.at align) rest) (item.Gap, pos 0) i
          (drop (p.next + 1) k.log)
      one = next_item k p (entry_at s n (Align align)) rest (item.Gap, pos 0) i (λ r. gap_item k.order k.fetched p.at align some r.0) t there

      another : k.sought ≡ Some p.next → ⊥
      another e = ground.no_gap p.next e i there (ap (λ (y : Item). y.kind) one.is_item)

      within : i.at + i.len ≤ length k.fetched
      within =
          let h : p.at + gap p.at align ≤ length k.fetched = one.rendered.0 in
          let a : i.at ≡ p.at = ap (λ (y : Item). y.at) one.is_item in
          let l : i.len ≡ gap p.at align = ap (λ (y : Item). y.len) one.is_item in
          omega (arith, h, a, l)

      its : its_octets u.octets.now i ≡ its_octets k.fetched i
      its = ap (λ os. its_octets os i) ground.octets ∙ piece_left i.at i.len k.fetched ground.more within

      line : p1.lines ≡ p.lines ++ line_over k.setting k.graph k.fetched i
      line =
          lines ∙ three p.lines t1 t2 t3 (item_head i) (gap_shown (its_octets u.octets.now i)) (codes "\n") e1 e2 e3
          ∙ ap (λ os. p.lines ++ (item_head i ++ (gap_shown os ++ codes "\n"))) its
          ∙ ap (λ r. p.lines ++ (item_head i ++ r)) (ap (λ m. rest_over k.setting k.graph k.fetched m i) (sym (ap (λ (y : Item). y.kind) one.is_item)))

  -- an empty gap
  pub gap_empty : (s : Spot) (n align : ℕ) (rest : List Entry) (p : Progress) → 0 < align → p.at % align ≡ 0
      → IsTracing k p (entry_at s n (Align align) ∷ rest) → IsTracing k p rest
  gap_empty s n align rest p l e t = gap_passed k p (entry_at s n (Align align)) align rest refl (no_gap_there p.at align l e) t

  -- ## Ends

  none_sought : IsGround k u → (is_test k.here.entry.kind ≡ true → ⊥) → u.sought ≡ None
  none_sought g h = go u.sought refl
    where
      go : (o : Option Sought) → u.sought ≡ o → u.sought ≡ None
      go None e = e
      go (Some x) e = absurd (h (g.sought (subst IsSome (sym e) refl)))

  -- where none is sought none was passed
  never_kept : (p : Progress) → p.path ≡ kept k p.next → u.sought ≡ None → p.path ≡ []
  never_kept p e none = e ∙ ap (λ o. kept_by (sought_path k) k.log o p.next) (sym ground.sought_is ∙ ap (option_map (λ (x : Sought). x.item)) none)

  path_ended : (s : Spot) (n : ℕ) (m : Entry) → IsSpot k s n → m.home ≡ s.home → m.node ≡ n → (p p1 : Progress) → p.path ≡ kept k p.next
      → (u.sought ≡ None → p1.path ≡ path_to (p.path ++ name_text s.name) (s.top ∷ reverse s.below.now.items))
      → (is_test k.here.entry.kind ≡ true → ⊥) → p1.path ≡ entry_path k.setting k.graph m
  path_ended s n m spot home node p p1 so_far path none =
      path (none_sought ground none)
      ∙ ap (λ q. path_to (q ++ name_text s.name) (s.top ∷ reverse s.below.now.items)) (never_kept p so_far (none_sought ground none)) ∙ spot.path
      ∙ ap₂ (λ (h : Home) (j : ℕ). path_in (home_paths k.setting k.graph h) j) (sym home) (sym node)

  -- no item is left at an entry that is one
  pub item_ends : (s : Spot) (n : ℕ) → IsSpot k s n → (x : Kind) → IsItem x → (rest : List Entry) (p p1 : Progress)
      → IsTracing k p (entry_at s n x ∷ rest) → length u.items.now.items ≤ p.next → p1.lines ≡ p.lines
      → (u.sought ≡ None → p1.path ≡ path_to (p.path ++ name_text s.name) (s.top ∷ reverse s.below.now.items)) → (IsSome u.sought → p1.path ≡ p.path) → p1.variable ≡ p.variable
      → p1.from ≡ p.from → IsEnded k p1
  item_ends s n spot x item rest p p1 t over lines path same variable from =
      item_ended k p p1 (entry_at s n x) rest (item_as k.order x (piece k.fetched p.at x)) (λ r. is_as k.order x (piece k.fetched p.at x) item) t
      (subst (λ xs. length xs ≤ p.next) ground.items over) lines (path_ended s n (entry_at s n x) spot refl refl p p1 t.path path) (λ e. same (ground.seeks e)) variable from

  pub gap_ends : (s : Spot) (n : ℕ) → IsSpot k s n → (align : ℕ) (rest : List Entry) (p p1 : Progress) → 0 < gap p.at align
      → IsTracing k p (entry_at s n (Align align) ∷ rest) → length u.items.now.items ≤ p.next → p1.lines ≡ p.lines
      → (u.sought ≡ None → p1.path ≡ path_to (p.path ++ name_text s.name) (s.top ∷ reverse s.below.now.items)) → (IsSome u.sought → p1.path ≡ p.path) → p1.variable ≡ p.variable
      → p1.from ≡ p.from → IsEnded k p1
  gap_ends s n spot align rest p p1 some t over lines path same variable from =
      item_ended k p p1 (entry_at s n (Align align)) rest (item.Gap, pos 0) (λ r. gap_item k.order k.fetched p.at align some r.0) t
      (subst (λ xs. length xs ≤ p.next) ground.items over) lines (path_ended s n (entry_at s n (Align align)) spot refl refl p p1 t.path path) (λ e. same (ground.seeks e)) variable from
