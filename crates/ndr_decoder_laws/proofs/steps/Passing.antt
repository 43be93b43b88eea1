-- What the state keeps of the entries seen, as one entry more is passed.
-- `x` is the entry at its place, `os` are the octets that were fetched for it, `y` is a node, `h` the home, `a` an attribute.
use Rattle.std.proofs.Common.{◌≡◌, ◌≤◌, ◌<◌, ◌⊎◌, inl, inr, ℕ, ◌+◌, zero, suc, Bool, true, false, ◌&&◌, List, [], ◌∷◌, ◌++◌, length, Option, Some, None, refl, ap, ap₂, sym, ◌∙◌, subst, arith}
use Rattle.std.proofs.Common.{append_assoc, length-append}
use Rattle.std.specs.Prelude.{pos, cond, eqb, ◌||◌}
use Rattle.std.specs.List.{AllByRecursion}
use Rattle.std.proofs.lemmas.List.{append-nil}
use Rattle.std.proofs.lemmas.Bool.Decides.{nat_tests}
use Rattle.nd_base.specs.declared.octets.Order.{Order}
use Rattle.nd_types.specs.declared.types.Attr.{Attr}
use Rattle.nd_types.specs.declared.types.Attr.TheVariants as attr
use Rattle.nd_types.specs.declared.types.Class.TheVariants.{Ref, Unique, Full}
use Rattle.nd_types.specs.Number.{unsigned}
use Rattle.nd_value.specs.declared.item.Home.{Home}
use Rattle.nd_value.specs.declared.item.Item.{Item}
use Rattle.nd_value.specs.declared.item.ItemKind.TheVariants as item
use Rattle.nd_value.specs.declared.item.Home.TheVariants as home
use Rattle.nd_value.specs.Tree.{Flat}
use Rattle.nd_grammar.specs.Entry.{Kind, Entry, EntryAt, size_at, gap, Align, Max, Offset, Actual, Chunk, Number, Num, Tag, Text, Context, Test, Unread}
use Rattle.nd_grammar.specs.NextMark.{named_cell}
use Rattle.nd_grammar.specs.Items.{items, item_at, item_of as item_in}
use Rattle.nd_grammar.specs.Stream.{piece}
use Rattle.nd_grammar.specs.Reader.{Names, taken}
use Rattle.nd_grammar.specs.Refusal.{is_other, tested_at, kind_agrees, same_home, is_max, other_pointee, refusal, kind_refusal, is_long}
use Rattle.nd_grammar.proofs.reader.ReaderNames.{get_left as item_before}
use Rattle.ndr_refs.specs.declared.referents.Known.{Known}
use Rattle.ndr_decoder_laws.specs.reader.Around.{going, Around}
use Rattle.nd_grammar.proofs.next.Spelt.{piece_left}
use Rattle.ndr_decoder_laws.proofs.reader.Fetched.{others_stay, judged_fetched, taken_fetched, piece_fetched}
use Rattle.ndr_decoder_laws.specs.declared.first.First.{First}
use Rattle.ndr_decoder_laws.specs.steps.Steps.{Place, no_place, place_of}
use Rattle.ndr_decoder_laws.specs.steps.StepItems.{item_here, gap_items}
use Rattle.ndr_decoder_laws.proofs.steps.CountedCells.{none_named}
use Rattle.ndr_decoder_laws.specs.steps.Good.{Told, Kept, IsKnownAs, OwnIn, place_at}
use Rattle.nd_grammar.proofs.agreements.TestedAt.{same_home_self as same_homes}
use Rattle.std.proofs.lemmas.Bool.{eq-eqb as same_eqb}

-- what holds of all octets that begin with those fetched holds of all that begin with a step's octets too
pub onward : (fetched os : List ℕ) (P : List ℕ → Type 0) → ((later : List ℕ) → P (fetched ++ later)) → (later : List ℕ) → P ((fetched ++ os) ++ later)
onward fetched os P f later = subst P (sym (append_assoc fetched os later)) (f (os ++ later))

pub other_eqb : (m n : ℕ) → m < n → eqb m n ≡ false
other_eqb m n e = grind (arith, nat_tests)

pub other_eqb' : (m n : ℕ) → n < m → eqb m n ≡ false
other_eqb' m n e = grind (arith, nat_tests)

-- ## Numbers of full pointers

-- no entry of a full pointer
abbrev pub NotFull : Kind → Type 0
NotFull (Number Full to c) = ⊥
NotFull _ = Unit {0}

pub not_full : (k : Kind) → NotFull k → (to : ℕ) → other_pointee k to ≡ false
not_full (Align n) u to = refl
not_full (Max v) u to = refl
not_full (Offset b v) u to = refl
not_full (Actual b o l v) u to = refl
not_full (Chunk v) u to = refl
not_full (Number Ref t c) u to = refl
not_full (Number Unique t c) u to = refl
not_full (Number Full t c) u to = absurd u
not_full (Num p zs z) u to = refl
not_full (Tag p zs arms d z) u to = refl
not_full (Text os) u to = refl
not_full (Context m id) u to = refl
not_full (Test a w f) u to = refl
not_full Unread u to = refl

module _ (order : Order) (octets : List ℕ) where
  abbrev is_one : EntryAt → ℕ → ℕ → Bool
  is_one x v to = other_pointee x.entry.kind to && eqb (unsigned order (piece octets x.at x.entry.kind)) v

  pub others_joined : (seen : List EntryAt) (x : EntryAt) (v to : ℕ) → is_one x v to ≡ false → is_other order octets (seen ++ x ∷ []) v to ≡ is_other order octets seen v to
  others_joined [] x v to e = ap (λ b. b || false) e
  others_joined (y ∷ ys) x v to e = ap (λ b. is_one y v to || b) (others_joined ys x v to e)

abbrev pub Lies : List ℕ → EntryAt → Type 0
Lies fetched x = x.at + size_at x.at x.entry.kind ≤ length fetched

pub lie_longer : (fetched os : List ℕ) (seen : List EntryAt) → AllByRecursion (Lies fetched) seen → AllByRecursion (Lies (fetched ++ os)) seen
lie_longer fetched os [] a = tt
lie_longer fetched os (x ∷ xs) a = (omega (arith, a.0, length-append fetched os), lie_longer fetched os xs a.1)

pub lie_joined : (fetched : List ℕ) (seen : List EntryAt) (x : EntryAt) → AllByRecursion (Lies fetched) seen → Lies fetched x → AllByRecursion (Lies fetched) (seen ++ x ∷ [])
lie_joined fetched [] x a b = (b, tt)
lie_joined fetched (y ∷ ys) x a b = (a.0, lie_joined fetched ys x a.1 b)

module _ (order : Order) (fetched os : List ℕ) (seen : List EntryAt) (names : Names) (x : EntryAt) (lies : AllByRecursion (Lies fetched) seen) where
  pub known_joined : (v : ℕ) → ((to : ℕ) → is_one order (fetched ++ os) x v to ≡ false) → (o : Option Known) → IsKnownAs order fetched seen names v o
      → IsKnownAs order (fetched ++ os) (seen ++ x ∷ []) names v o
  known_joined v e None k = (k.0, λ to. others_joined order (fetched ++ os) seen x v to (e to) ∙ others_stay order fetched os seen lies v to ∙ k.1 to)
  known_joined v e (Some o) k = (k.0, λ to. others_joined order (fetched ++ os) seen x v to (e to) ∙ others_stay order fetched os seen lies v to ∙ k.1 to)

pub known_longer : (order : Order) (fetched os : List ℕ) (seen : List EntryAt) (names : Names) → AllByRecursion (Lies fetched) seen
    → (v : ℕ) (o : Option Known) → IsKnownAs order fetched seen names v o → IsKnownAs order (fetched ++ os) seen names v o
known_longer order fetched os seen names lies v None k = (k.0, λ to. others_stay order fetched os seen lies v to ∙ k.1 to)
known_longer order fetched os seen names lies v (Some o) k = (k.0, λ to. others_stay order fetched os seen lies v to ∙ k.1 to)

-- ## Items

-- entries that lie within what was fetched are items whatever follows it
pub items_stay : (order : Order) (fetched os : List ℕ) (seen : List EntryAt) → AllByRecursion (Lies fetched) seen → items order (fetched ++ os) seen ≡ items order fetched seen
items_stay order fetched os [] a = refl
items_stay order fetched os (x ∷ xs) a =
    ap₂ (λ p ys. item_at x (item_in order x.entry.kind p) ++ ys) (piece_left x.at (size_at x.at x.entry.kind) fetched os a.0) (items_stay order fetched os xs a.1)

abbrev pub own_items : Order → List ℕ → EntryAt → List Item
own_items order octets x = item_at x (item_in order x.entry.kind (piece octets x.at x.entry.kind))

items_joined : (order : Order) (octets : List ℕ) (seen : List EntryAt) (x : EntryAt) → items order octets (seen ++ x ∷ []) ≡ items order octets seen ++ own_items order octets x
items_joined order octets [] x = append-nil (own_items order octets x)
items_joined order octets (y ∷ ys) x =
    ap (λ zs. own_items order octets y ++ zs) (items_joined order octets ys x) ∙ sym (append_assoc (own_items order octets y) (items order octets ys) (own_items order octets x))

-- an entry more adds its own items
pub noted_joined : (order : Order) (fetched os : List ℕ) (seen : List EntryAt) (x : EntryAt) (noted own : List Item) → AllByRecursion (Lies fetched) seen → own_items order (fetched ++ os) x ≡ own
    → items order fetched seen ≡ noted → items order (fetched ++ os) (seen ++ x ∷ []) ≡ noted ++ own
noted_joined order fetched os seen x noted own lies e n =
    items_joined order (fetched ++ os) seen x ∙ ap₂ (λ ys zs. ys ++ zs) (items_stay order fetched os seen lies ∙ n) e

-- ## Counts and tags

-- no agreement speaks of such an entry
abbrev pub NoCount : Kind → Type 0
NoCount (Max v) = ⊥
NoCount (Offset b v) = ⊥
NoCount (Actual b o l v) = ⊥
NoCount (Tag p zs arms d z) = ⊥
NoCount _ = Unit {0}

no_count : (a : Attr) (k : Kind) → NoCount k → kind_agrees a k ≡ false
no_count attr.Size (Align n) u = refl
no_count attr.Size (Max v) u = absurd u
no_count attr.Size (Offset b v) u = absurd u
no_count attr.Size (Actual b o l v) u = absurd u
no_count attr.Size (Chunk v) u = refl
no_count attr.Size (Number k t c) u = refl
no_count attr.Size (Num p zs z) u = refl
no_count attr.Size (Tag p zs arms d z) u = absurd u
no_count attr.Size (Text os) u = refl
no_count attr.Size (Context m id) u = refl
no_count attr.Size (Test w g f) u = refl
no_count attr.Size Unread u = refl
no_count attr.Max (Align n) u = refl
no_count attr.Max (Max v) u = absurd u
no_count attr.Max (Offset b v) u = absurd u
no_count attr.Max (Actual b o l v) u = absurd u
no_count attr.Max (Chunk v) u = refl
no_count attr.Max (Number k t c) u = refl
no_count attr.Max (Num p zs z) u = refl
no_count attr.Max (Tag p zs arms d z) u = absurd u
no_count attr.Max (Text os) u = refl
no_count attr.Max (Context m id) u = refl
no_count attr.Max (Test w g f) u = refl
no_count attr.Max Unread u = refl
no_count attr.First (Align n) u = refl
no_count attr.First (Max v) u = absurd u
no_count attr.First (Offset b v) u = absurd u
no_count attr.First (Actual b o l v) u = absurd u
no_count attr.First (Chunk v) u = refl
no_count attr.First (Number k t c) u = refl
no_count attr.First (Num p zs z) u = refl
no_count attr.First (Tag p zs arms d z) u = absurd u
no_count attr.First (Text os) u = refl
no_count attr.First (Context m id) u = refl
no_count attr.First (Test w g f) u = refl
no_count attr.First Unread u = refl
no_count attr.Length (Align n) u = refl
no_count attr.Length (Max v) u = absurd u
no_count attr.Length (Offset b v) u = absurd u
no_count attr.Length (Actual b o l v) u = absurd u
no_count attr.Length (Chunk v) u = refl
no_count attr.Length (Number k t c) u = refl
no_count attr.Length (Num p zs z) u = refl
no_count attr.Length (Tag p zs arms d z) u = absurd u
no_count attr.Length (Text os) u = refl
no_count attr.Length (Context m id) u = refl
no_count attr.Length (Test w g f) u = refl
no_count attr.Length Unread u = refl
no_count attr.Last (Align n) u = refl
no_count attr.Last (Max v) u = absurd u
no_count attr.Last (Offset b v) u = absurd u
no_count attr.Last (Actual b o l v) u = absurd u
no_count attr.Last (Chunk v) u = refl
no_count attr.Last (Number k t c) u = refl
no_count attr.Last (Num p zs z) u = refl
no_count attr.Last (Tag p zs arms d z) u = absurd u
no_count attr.Last (Text os) u = refl
no_count attr.Last (Context m id) u = refl
no_count attr.Last (Test w g f) u = refl
no_count attr.Last Unread u = refl
no_count attr.Switch (Align n) u = refl
no_count attr.Switch (Max v) u = absurd u
no_count attr.Switch (Offset b v) u = absurd u
no_count attr.Switch (Actual b o l v) u = absurd u
no_count attr.Switch (Chunk v) u = refl
no_count attr.Switch (Number k t c) u = refl
no_count attr.Switch (Num p zs z) u = refl
no_count attr.Switch (Tag p zs arms d z) u = absurd u
no_count attr.Switch (Text os) u = refl
no_count attr.Switch (Context m id) u = refl
no_count attr.Switch (Test w g f) u = refl
no_count attr.Switch Unread u = refl

-- an entry is what an attribute of a node speaks of
abbrev pub speaks : Attr → Home → ℕ → EntryAt → Bool
speaks a h n x = kind_agrees a x.entry.kind && same_home x.entry.home h && (is_max x.entry.kind || eqb x.entry.node n)

pub tested_passed : (seen : List EntryAt) (x : EntryAt) (a : Attr) (h : Home) (n : ℕ) → speaks a h n x ≡ false → tested_at (seen ++ x ∷ []) a h n ≡ tested_at seen a h n
tested_passed [] x a h n e = ap (λ b. cond b (Some x.at) None) e
tested_passed (y ∷ ys) x a h n e = ap (λ o. cond (speaks a h n y) (Some y.at) o) (tested_passed ys x a h n e)

pub tested_now : (seen : List EntryAt) (x : EntryAt) (a : Attr) (h : Home) (n : ℕ) → tested_at seen a h n ≡ None → speaks a h n x ≡ true
    → tested_at (seen ++ x ∷ []) a h n ≡ Some x.at
tested_now [] x a h n e t = ap (λ b. cond b (Some x.at) None) t
tested_now (y ∷ ys) x a h n e t = by_test (speaks a h n y) (tested_at ys a h n) e (λ e. tested_now ys x a h n e t)
  where
    by_test : (b : Bool) (o : Option ℕ) → cond b (Some y.at) o ≡ None → (o ≡ None → tested_at (ys ++ x ∷ []) a h n ≡ Some x.at)
        → cond b (Some y.at) (tested_at (ys ++ x ∷ []) a h n) ≡ Some x.at
    by_test true o e f = cc
    by_test false o e f = f e

pub silent : (a : Attr) (h : Home) (n : ℕ) (x : EntryAt) → NoCount x.entry.kind → speaks a h n x ≡ false
silent a h n x u = ap (λ b. b && same_home x.entry.home h && (is_max x.entry.kind || eqb x.entry.node n)) (no_count a x.entry.kind u)

all_false : (a b : Bool) → a && b && (false || false) ≡ false
all_false true true = refl
all_false true false = refl
all_false false b = refl

-- a count or tag of a later node
pub later_node : (a : Attr) (h : Home) (n : ℕ) (x : EntryAt) → is_max x.entry.kind ≡ false → n < x.entry.node → speaks a h n x ≡ false
later_node a h n x m l =
    ap₂ (λ b c. kind_agrees a x.entry.kind && same_home x.entry.home h && (b || c)) m (other_eqb' x.entry.node n l)
    ∙ all_false (kind_agrees a x.entry.kind) (same_home x.entry.home h)

-- and one of an earlier node
pub earlier_node : (a : Attr) (h : Home) (n : ℕ) (x : EntryAt) → is_max x.entry.kind ≡ false → x.entry.node < n → speaks a h n x ≡ false
earlier_node a h n x m l =
    ap₂ (λ b c. kind_agrees a x.entry.kind && same_home x.entry.home h && (b || c)) m (other_eqb x.entry.node n l)
    ∙ all_false (kind_agrees a x.entry.kind) (same_home x.entry.home h)

all_true : (a b c d : Bool) → a ≡ true → b ≡ true → d ≡ true → (a && b && (c || d)) ≡ true
all_true true true true d p q r = refl
all_true true true false true p q r = refl
all_true true true false false p q r = cc
all_true true false c d p q r = cc
all_true false b c d p q r = cc

pub none_ahead : (half : List Place) (j : ℕ) → place_at half (suc j) ≡ no_place
none_ahead [] j = refl
none_ahead (p ∷ ps) j = refl

-- what an attribute finds of the node that is being read, before and after an entry of this kind at a place: the entry, and nothing before; or the same
abbrev pub Change : Option ℕ → List Place → List Place → Kind → ℕ → Attr → Type 0
Change max_at half half' k at a =
    ((kind_agrees a k ≡ true) × (place_of a max_at (place_at half 0) ≡ None) × (place_of a max_at (place_at half' 0) ≡ Some at))
    ⊎ ((kind_agrees a k ≡ false) × (place_of a max_at (place_at half 0) ≡ place_of a max_at (place_at half' 0)))

-- ## What is kept

pub kept_longer : (h : Home) (seen : List EntryAt) (max_at : Option ℕ) (nodes ys : List Flat) (n : ℕ) (x : First) → Kept h seen max_at nodes n x → Kept h seen max_at (nodes ++ ys) n x
kept_longer h seen max_at nodes ys n x k = record { is = k.is; place = k.place; there = item_before nodes ys n k.is k.there; kept = k.kept; found = k.found }

-- an entry that says nothing of the node leaves it as it is
pub kept_passed : (h : Home) (seen : List EntryAt) (max_at : Option ℕ) (nodes : List Flat) (n : ℕ) (x : First) (e : EntryAt) → ((a : Attr) → speaks a h n e ≡ false)
    → Kept h seen max_at nodes n x → Kept h (seen ++ e ∷ []) max_at nodes n x
kept_passed h seen max_at nodes n x e u k =
    record { is = k.is; place = k.place; there = k.there; kept = k.kept; found = λ a. tested_passed seen e a h n (u a) ∙ k.found a }

pub own_map : {P Q : Type 0} (fs : List Around) → (P → Q) → OwnIn fs P → OwnIn fs Q
own_map [] g o = tt
own_map (f ∷ fs) g o = g o

-- an entry that is no count, no tag and no number of a full pointer
pub told_passed : {noted : List Item} {direct : ℕ} (own : List Item) (order : Order) (fetched os : List ℕ) (h : Home) (seen : List EntryAt) (names : Names) (cells : List ℕ)
    (numbers : List (ℕ × Known)) (max_at : Option ℕ) (n : ℕ) (half : List Place) (x : EntryAt)
    → own_items order (fetched ++ os) x ≡ own → NoCount x.entry.kind → NotFull x.entry.kind → named_cell x.entry.kind ≡ None → Lies (fetched ++ os) x
    → Told noted direct order fetched h seen names cells numbers max_at n half
    → Told (noted ++ own) direct order (fetched ++ os) h (seen ++ x ∷ []) names cells numbers max_at n half
told_passed {noted = noted} {direct = direct} own order fetched os h seen names cells numbers max_at n half x e c f none_there lies t = record {
  noted_are = noted_joined order fetched os seen x noted own t.lie_within e t.noted_are;
  cells_are = t.cells_are;
  cells_named = none_named seen numbers (length cells) direct t.cells_named x none_there;
  numbers_are = λ v p. known_joined order fetched os seen names x t.lie_within v
      (λ to. ap (λ b. b && eqb (unsigned order (piece (fetched ++ os) x.at x.entry.kind)) v) (not_full x.entry.kind f to)) _ (t.numbers_are v p);
  ahead = λ a j. tested_passed seen x a h (n + j) (silent a h (n + j) x c) ∙ t.ahead a j;
  lie_within = lie_joined (fetched ++ os) seen x (lie_longer fetched os seen t.lie_within) lies;
}

-- octets that are fetched and not passed yet
pub told_longer : {noted : List Item} {direct : ℕ} (order : Order) (fetched os : List ℕ) (h : Home) (seen : List EntryAt) (names : Names) (cells : List ℕ) (numbers : List (ℕ × Known))
    (max_at : Option ℕ) (n : ℕ) (half : List Place)
    → Told noted direct order fetched h seen names cells numbers max_at n half → Told noted direct order (fetched ++ os) h seen names cells numbers max_at n half
told_longer order fetched os h seen names cells numbers max_at n half t = record {
  noted_are = items_stay order fetched os seen t.lie_within ∙ t.noted_are;
  cells_are = t.cells_are;
  cells_named = t.cells_named;
  numbers_are = λ v p. known_longer order fetched os seen names t.lie_within v _ (t.numbers_are v p);
  ahead = t.ahead;
  lie_within = lie_longer fetched os seen t.lie_within;
}

-- ## An entry that was fetched whole, at its place

module _ (order : Order) (fetched os later : List ℕ) (at : ℕ) (reached : length fetched ≡ at) (m : Entry) (seen : List EntryAt) (size : size_at at m.kind ≡ length os) where
  abbrev octets : List ℕ
  octets = (fetched ++ os) ++ later

  abbrev here_it : EntryAt
  here_it = record { at = at; entry = m }

  pub judged : is_long at m.kind ≡ false → refusal order octets seen here_it ≡ kind_refusal order octets seen at m m.kind os
  judged short =
      subst (λ k. size_at k m.kind ≡ length os → is_long k m.kind ≡ false
      → refusal order octets seen (record { at = k; entry = m }) ≡ kind_refusal order octets seen k m m.kind os) reached
      (λ s l. judged_fetched order fetched os later m seen s l) size short

  pub taken_it : refusal order octets seen here_it ≡ None → taken order octets m (going at seen) ≡ Some os
  taken_it =
      subst (λ k. size_at k m.kind ≡ length os → refusal order octets seen (record { at = k; entry = m }) ≡ None → taken order octets m (going k seen) ≡ Some os) reached
      (λ s r. taken_fetched order fetched os later m seen s r) size

  -- the entry's own octets are those fetched for it
  pub own_octets : piece (fetched ++ os) at m.kind ≡ os
  own_octets =
      ap (λ xs. piece xs at m.kind) (sym (append-nil (fetched ++ os)))
      ∙ subst (λ k. size_at k m.kind ≡ length os → piece ((fetched ++ os) ++ []) k m.kind ≡ os) reached (λ s. piece_fetched order fetched os [] m s) size

  pub items_it : own_items order (fetched ++ os) here_it ≡ item_at here_it (item_in order m.kind os)
  items_it = ap (λ xs. item_at here_it (item_in order m.kind xs)) own_octets

  -- the entry lies within what was fetched with it
  pub lies_it : Lies (fetched ++ os) here_it
  lies_it = omega (arith, reached, size, length-append fetched os)

-- the item of a gap, which is none where it is empty
pub gap_noted : (order : Order) (h : Home) (n a at : ℕ) (os : List ℕ) → gap at a ≡ length os
    → item_at (record { at = at; entry = record { home = h; node = n; kind = Align a } }) (item_in order (Align a) os) ≡ gap_items h at os
gap_noted order h n a at [] e = refl
gap_noted order h n a at (o ∷ os) e = ap (λ l. item_here h at item.Gap l (pos 0) 0 ∷ []) e

-- a count or tag of the node that is being read, which is number n
module _ (order : Order) (fetched os : List ℕ) (h : Home) (at : ℕ) (k : Kind) (seen : List EntryAt) (names : Names) (cells : List ℕ) (numbers : List (ℕ × Known)) (max_at : Option ℕ) (n : ℕ)
    (half half' : List Place) where
  abbrev counted : EntryAt
  counted = record { at = at; entry = record { home = h; node = n; kind = k } }

  ahead_counted : {noted : List Item} {direct : ℕ} → is_max k ≡ false → (a : Attr) → Change max_at half half' k at a → Told noted direct order fetched h seen names cells numbers max_at n half
      → (j : ℕ)
      → tested_at (seen ++ counted ∷ []) a h (n + j) ≡ place_of a max_at (place_at half' j)
  ahead_counted m a c t (suc j) =
      tested_passed seen counted a h (n + suc j) (earlier_node a h (n + suc j) counted m (omega arith)) ∙ t.ahead a (suc j)
      ∙ ap (place_of a max_at) (none_ahead half j ∙ sym (none_ahead half' j))
  ahead_counted m a (inl c) t zero =
      let z : n ≡ n + 0 = omega arith in
      tested_now seen counted a h (n + 0) (t.ahead a 0 ∙ c.1) (all_true (kind_agrees a k) (same_home h h) (is_max k) (eqb n (n + 0)) c.0 (same_homes h) (same_eqb n (n + 0) z)) ∙ sym c.2
  ahead_counted m a (inr c) t zero =
      tested_passed seen counted a h (n + 0) (ap (λ b. b && same_home h h && (is_max k || eqb n (n + 0))) c.0) ∙ t.ahead a 0 ∙ c.1

  pub told_counted : {noted : List Item} {direct : ℕ} (own : List Item) → own_items order (fetched ++ os) counted ≡ own → is_max k ≡ false → NotFull k → named_cell k ≡ None
      → Lies (fetched ++ os) counted → ((a : Attr) → Change max_at half half' k at a)
      → Told noted direct order fetched h seen names cells numbers max_at n half → Told (noted ++ own) direct order (fetched ++ os) h (seen ++ counted ∷ []) names cells numbers max_at n half'
  told_counted {noted = noted} {direct = direct} own e m f none_there lies c t = record {
    noted_are = noted_joined order fetched os seen counted noted own t.lie_within e t.noted_are;
    cells_are = t.cells_are;
    cells_named = none_named seen numbers (length cells) direct t.cells_named counted none_there;
    numbers_are = λ v p. known_joined order fetched os seen names counted t.lie_within v
        (λ to. ap (λ b. b && eqb (unsigned order (piece (fetched ++ os) at k)) v) (not_full k f to)) _ (t.numbers_are v p);
    ahead = λ a j. ahead_counted m a (c a) t j;
    lie_within = lie_joined (fetched ++ os) seen counted (lie_longer fetched os seen t.lie_within) lies;
  }
