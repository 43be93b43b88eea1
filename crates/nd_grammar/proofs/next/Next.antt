-- The entries before an entry fix the next one: what that says of two streams.
use Rattle.std.proofs.Common.{◌≡◌, ℕ, ◌+◌, ◌<◌, List, [], ◌∷◌, ◌++◌, sym, inl, inr, ◌⊎◌, subst, append_assoc}
use Rattle.std.specs.Prelude.{map}
use Rattle.nd_base.specs.declared.octets.Order.{Order}
use Rattle.nd_types.specs.declared.types.Class.{Class}
use Rattle.nd_value.specs.declared.item.Home.{Home}
use Rattle.std.specs.List.{AllByRecursion}
use Rattle.nd_value.specs.declared.item.Home.TheVariants as home
use Rattle.nd_value.specs.Setting.{Among}
use Rattle.nd_value.proofs.Apart.{among_right}
use Rattle.nd_grammar.specs.NextMark.{form}
use Rattle.nd_grammar.specs.Entry.{Entry, Unread, size_at}
use Rattle.nd_grammar.specs.Stream.{IsRendered}

abbrev pub IsUnread : Entry → Type 0
IsUnread m = m.kind ≡ Unread

-- two entries of one form, at one node
abbrev pub Alike : Entry → Entry → Type 0
Alike m n = (m.node ≡ n.node) × (form m.kind ≡ form n.kind)

-- a cell of each graph, their type, and the class of the pointers for which they were placed
pub record Pair : Type 0 where
  pub class : Class
  pub of : ℕ
  pub left : ℕ
  pub right : ℕ

-- the cells of two pairs are different in both graphs
abbrev pub IsApart : Pair → Pair → Type 0
IsApart x y = (x.left ≡ y.left → ⊥) × (x.right ≡ y.right → ⊥)

-- the pairs are a one-to-one map of cells
abbrev pub OneToOne : List Pair → Type 0
OneToOne [] = Unit {0}
OneToOne (x ∷ xs) = AllByRecursion (IsApart x) xs × OneToOne xs

-- two homes correspond: they are the same root, or a pair of cells
abbrev pub HomesMeet : List Pair → Home → Home → Type 0
HomesMeet xs (home.Root i) (home.Root j) = i ≡ j
HomesMeet xs (home.Cell c) (home.Cell d) = (x : Pair) × Among xs x × (x.left ≡ c.0) × (x.right ≡ d.0)
HomesMeet xs _ _ = ⊥

-- homes that correspond do so by a map that has grown
pub homes_grown : (new xs : List Pair) (h h' : Home) → HomesMeet xs h h' → HomesMeet (new ++ xs) h h'
homes_grown new xs (home.Root i) (home.Root j) e = e
homes_grown new xs (home.Cell c) (home.Cell d) (x, a, l, r) = (x, among_right new xs x a, l, r)
homes_grown new xs (home.Root i) (home.Cell d) e = absurd e
homes_grown new xs (home.Cell c) (home.Root j) e = absurd e

-- The same octets in an order, read as streams of two graphs, each with a numbering of its cells.
pub record Readings : Type 0 where
  pub order : Order
  pub octets : List ℕ
  pub left : ℕ → ℕ
  pub right : ℕ → ℕ
  pub left_low : (c : ℕ) → 0 < left c
  pub right_low : (c : ℕ) → 0 < right c
  pub left_one : (c d : ℕ) → left c ≡ left d → c ≡ d
  pub right_one : (c d : ℕ) → right c ≡ right d → c ≡ d

module _ (b : Readings) (W X : List Pair → Type 0) where
  abbrev pub SpeltLeft : ℕ → Entry → Type 0
  SpeltLeft at m = IsRendered b.order b.left b.octets (record { at = at; entry = m })

  abbrev pub SpeltRight : ℕ → Entry → Type 0
  SpeltRight at n = IsRendered b.order b.right b.octets (record { at = at; entry = n })

  -- As far as the octets spell two lists of entries, their next entries are alike and their homes correspond by a map of cells that
  -- grows and of which W holds, up to an unread value in one of the lists. Where both are spelt whole, X holds of the map.
  abbrev pub Next : List Pair → ℕ → List Entry → List Entry → Type 0
  Next map at [] [] = (new : List Pair) × W (new ++ map) × X (new ++ map)
  Next map at [] (n ∷ ns) = IsUnread n
  Next map at (m ∷ ms) [] = IsUnread m
  Next map at (m ∷ ms) (n ∷ ns) =
      IsUnread m ⊎ (IsUnread n ⊎ ((new : List Pair) × W (new ++ map) × HomesMeet (new ++ map) m.home n.home × Alike m n
      × (SpeltLeft at m → SpeltRight at n → Next (new ++ map) (at + size_at at m.kind) ms ns)))

  pub unread_left : (map : List Pair) (at : ℕ) (m : Entry) (ms ns : List Entry) → IsUnread m → Next map at (m ∷ ms) ns
  unread_left map at m ms [] e = e
  unread_left map at m ms (n ∷ ns) e = inl e

  pub unread_right : (map : List Pair) (at : ℕ) (n : Entry) (ms ns : List Entry) → IsUnread n → Next map at ms (n ∷ ns)
  unread_right map at n [] ns e = e
  unread_right map at n (m ∷ ms) ns e = inr (inl e)

  -- the map may grow before the next entry
  pub grown : (more_pairs map : List Pair) → (at : ℕ) (ms ns : List Entry) → Next (more_pairs ++ map) at ms ns → Next map at ms ns
  grown ps map at [] [] (new, one, x) =
      let e : new ++ (ps ++ map) ≡ (new ++ ps) ++ map = sym (append_assoc new ps map) in
      (new ++ ps, subst W e one, subst X e x)
  grown ps map at [] (n ∷ ns) u = u
  grown ps map at (m ∷ ms) [] u = u
  grown ps map at (m ∷ ms) (n ∷ ns) (inl u) = inl u
  grown ps map at (m ∷ ms) (n ∷ ns) (inr (inl u)) = inr (inl u)
  grown ps map at (m ∷ ms) (n ∷ ns) (inr (inr (new, one, meet, alike, k))) =
      let e : new ++ (ps ++ map) ≡ (new ++ ps) ++ map = sym (append_assoc new ps map) in
      inr (inr (
        new ++ ps,
        subst W e one,
        subst (λ u. HomesMeet u m.home n.home) e meet,
        alike,
        λ x y. subst (λ u. Next u (at + size_at at m.kind) ms ns) e (k x y),
      ))
