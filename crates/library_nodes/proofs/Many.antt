-- Numbers that are elements of an array or a pipe are added in one go.
-- `xs` are the numbers that are listed, `us` those that are added, `ys` any after them, `k` is how many are added; `zs` are the numbers of a row.
use Rattle.std.proofs.Common.{◌≡◌, ◌≤◌, ◌<◌, ℕ, zero, suc, ◌+◌, ◌-◌, ℤ, List, [], ◌∷◌, ◌++◌, map, length, take, drop, Option, Some, None}
use Rattle.std.proofs.Common.{refl, ap, ap₂, sym, ◌∙◌, arith, append_assoc, subst}
use Rattle.std.proofs.lemmas.List.{append-nil, map-append, length-map, drop-drop}
use Rattle.nd_base.specs.declared.octets.Order.{Order}
use Rattle.nd_types.specs.declared.types.Primitive.{Primitive}
use Rattle.nd_types.specs.Number.{value_of_octets}
use Rattle.nd_types.specs.Table.{width}
use Rattle.nd_value.specs.Tree as tree
use Rattle.nd_value.specs.Tree.{Flat}
use Rattle.nd_flat.specs.FlatForm.{num_flats, row_values}
use Rattle.nd_flat.proofs.RowLaws.{length_row_values}
use Rattle.library_nodes.specs.declared.node.Elements.{Elements}
use Rattle.library_nodes.specs.declared.node.Node.{Node}
use Rattle.library_nodes.specs.declared.node.Node.TheVariants as node
use Rattle.library_nodes.specs.declared.nodes.NodeList.{NodeList}
use Rattle.library_types.specs.Low.{low}
use Rattle.library_nodes.specs.Low.{low_flat, low_flats}
use Rattle.library_nodes.specs.Said.{number_flat, number_flats, node_flats, flats_said}
use Rattle.library_nodes.specs.Gathered.{elements_of, is_number, IsGathered, AreGathered, AreThere}
use Rattle.library_nodes.specs.Laying.{AddsOpen, AreLast, lacking, longer, with_more}
use Rattle.library_nodes.proofs.Adding.{said_more, grown}
use Rattle.library_nodes.proofs.Gathered.{last_changed, last_added, longer_list}

-- ## Numbers

numbers_low : (zs : List ℤ) → map low_flat (num_flats zs) ≡ map number_flat (map low zs)
numbers_low [] = refl
numbers_low (z ∷ zs) = ap (λ fs. number_flat (low z) ∷ fs) (numbers_low zs)

all_low : (fs : List Flat) (zs : List ℤ) → low_flats (fs ++ num_flats zs) ≡ low_flats fs ++ map number_flat (map low zs)
all_low fs zs = map-append low_flat fs (num_flats zs) ∙ ap (λ gs. low_flats fs ++ gs) (numbers_low zs)

-- the low bits of a row's numbers are as many
pub many_lows : (o : Order) (p : Primitive) (n : ℕ) (os : List ℕ) → n ≡ length (map low (row_values o p n os))
many_lows o p n os = sym (length-map (row_values o p n os) low ∙ length_row_values o p n os)

-- ## The last of a list

front_taken : (us ys : List ℕ) → take (length us) (us ++ ys) ≡ us
front_taken [] ys = refl
front_taken (u ∷ us) ys = ap (λ vs. u ∷ vs) (front_taken us ys)

next_of : (k n : ℕ) → suc k + n ≡ suc (k + n)
next_of k n = omega arith

last_many : (xs us ys : List ℕ) (from k : ℕ) → from + k ≡ length xs → take (k + length us) (drop from ((xs ++ us) ++ ys)) ≡ take k (drop from (xs ++ (us ++ ys))) ++ us
last_many [] us ys zero zero e = let z : 0 + length us ≡ length us = omega arith in ap (λ n. take n (us ++ ys)) z ∙ front_taken us ys
last_many [] us ys zero (suc k) e = absurd (omega (arith, e))
last_many [] us ys (suc from) k e = absurd (omega (arith, e))
last_many (x ∷ xs) us ys zero zero e = absurd (omega (arith, e))
last_many (x ∷ xs) us ys zero (suc k) e =
    ap (λ n. take n (x ∷ ((xs ++ us) ++ ys))) (next_of k (length us)) ∙ ap (λ vs. x ∷ vs) (last_many xs us ys zero k (omega (arith, e)))
last_many (x ∷ xs) us ys (suc from) k e = last_many xs us ys from k (omega (arith, e))

many_elements : (xs us ys : List ℕ) (e : Elements) (k : ℕ) → k ≡ length us → e.from + e.numbers ≡ length xs
    → number_flats ((xs ++ us) ++ ys) (longer k e) ≡ number_flats (xs ++ (us ++ ys)) e ++ map number_flat us
many_elements xs us ys e k is l =
    ap (λ n. map number_flat (take (e.numbers + n) (drop e.from ((xs ++ us) ++ ys)))) is
    ∙ ap (λ vs. map number_flat vs) (last_many xs us ys e.from e.numbers l)
    ∙ map-append number_flat (take e.numbers (drop e.from (xs ++ (us ++ ys)))) us

many_longer : (xs us : List ℕ) → length (xs ++ us) ≡ length xs + length us
many_longer [] us = omega arith
many_longer (x ∷ xs) us = let e : length (xs ++ us) ≡ length xs + length us = many_longer xs us in omega (arith, e)

-- ## An array or a pipe

-- what many numbers more say of a node
record SaysMany (xs us : List ℕ) (m n : Node) : Type 0 where
  last : AreLast (xs ++ us) (Some n)
  other : is_number m ≡ is_number n
  gathered : IsGathered (elements_of n) []
  say : (ys os : List ℕ) → node_flats ((xs ++ us) ++ ys) os n ≡ node_flats (xs ++ (us ++ ys)) os m ++ map number_flat us

last_longer : (xs us : List ℕ) (e : Elements) (k : ℕ) → k ≡ length us → e.from + e.numbers ≡ length xs → e.from + (e.numbers + k) ≡ length (xs ++ us)
last_longer xs us e k is l = omega (arith, is, l, many_longer xs us)

array_many : (xs us : List ℕ) (max offset : ℕ) (e : Elements) (k : ℕ) → k ≡ length us → 0 < k → k ≤ e.count - e.numbers → e.from + e.numbers ≡ length xs
    → SaysMany xs us (node.Array max offset e) (node.Array max offset (longer k e))
array_many xs us max offset e k is some fits l = record {
  last = last_longer xs us e k is l;
  other = refl;
  gathered = (omega (arith, some, fits), λ less. refl);
  say = λ ys os. ap (λ fs. (tree.Arr max offset, e.count) ∷ fs) (many_elements xs us ys e k is l);
}

pipe_many : (xs us : List ℕ) (e : Elements) (k : ℕ) → k ≡ length us → 0 < k → k ≤ e.count - e.numbers → e.from + e.numbers ≡ length xs
    → SaysMany xs us (node.Pipe e) (node.Pipe (longer k e))
pipe_many xs us e k is some fits l = record {
  last = last_longer xs us e k is l;
  other = refl;
  gathered = (omega (arith, some, fits), λ less. refl);
  say = λ ys os. ap (λ fs. (tree.Pipe, e.count) ∷ fs) (many_elements xs us ys e k is l);
}

module _ (fs : List Flat) (zs : List ℤ) (us : List ℕ) (a b c : NodeList) (same : us ≡ map low zs) (en : c.nodes.items ≡ b.nodes.items)
    (ez : c.numbers.items ≡ b.numbers.items ++ us) (eo : c.octets ≡ b.octets) where
  said_many : (m n : Node) → SaysMany b.numbers.items us m n → AddsOpen fs a b (Some m) → AddsOpen (fs ++ num_flats zs) a c (Some n)
  said_many m n s h =
      let ns = h.grows.nodes in
      let xs = b.numbers.items in
      record {
        grows = grown a b c [] us [] h.grows (en ∙ sym (append-nil b.nodes.items)) ez (eo ∙ sym (append-nil b.octets));
        last = subst (λ ys. AreLast ys (Some n)) (sym ez) s.last;
        gathered = subst (λ (ms : List Node). AreGathered (ms ++ n ∷ [])) (sym (append-nil ns)) (last_changed ns m n s.other s.gathered h.gathered);
        there =
            subst (λ (ms : List Node). AreThere (length c.numbers.items) (ms ++ n ∷ [])) (sym (append-nil ns))
            (last_added xs c.numbers.items ns m n (longer_list xs c.numbers.items us ez) (subst (λ ys. AreLast ys (Some n)) (sym ez) s.last) h.there);
        settled = tt;
        say = λ ys os.
            let q = c.octets ++ os in
            let e : c.numbers.items ++ ys ≡ xs ++ (us ++ ys) = ap (λ vs. vs ++ ys) ez ∙ append_assoc xs us ys in
            ap (λ vs. flats_said (c.numbers.items ++ ys) q (vs ++ n ∷ [])) (append-nil ns)
            ∙ said_more (c.numbers.items ++ ys) q ns n
            ∙ ap₂ (λ x y. x ++ y) (ap (λ p. flats_said p q ns) e) (ap (λ p. node_flats (p ++ ys) q n) ez ∙ s.say ys q)
            ∙ sym (append_assoc (flats_said (xs ++ (us ++ ys)) q ns) (node_flats (xs ++ (us ++ ys)) q m) (map number_flat us))
            ∙ ap (λ x. x ++ map number_flat us)
            (sym (said_more (xs ++ (us ++ ys)) q ns m) ∙ ap (λ p. flats_said (xs ++ (us ++ ys)) (p ++ os) (ns ++ m ∷ [])) eo ∙ h.say (us ++ ys) os)
            ∙ ap (λ vs. low_flats fs ++ map number_flat vs) same
            ∙ sym (all_low fs zs);
      }

  -- numbers that are elements of the node that is open
  pub numbers_many : (k : ℕ) (o : Option Node) → k ≡ length us → 0 < k → k ≤ lacking o → AddsOpen fs a b o → AddsOpen (fs ++ num_flats zs) a c (with_more k o)
  numbers_many k None is some fits h = absurd (omega (arith, some, fits))
  numbers_many k (Some (node.Number u)) is some fits h = absurd (omega (arith, some, fits))
  numbers_many k (Some (node.Struct n)) is some fits h = absurd (omega (arith, some, fits))
  numbers_many k (Some (node.Text max from len)) is some fits h = absurd (omega (arith, some, fits))
  numbers_many k (Some (node.Union tag armed)) is some fits h = absurd (omega (arith, some, fits))
  numbers_many k (Some (node.Pointer cell)) is some fits h = absurd (omega (arith, some, fits))
  numbers_many k (Some (node.Context attributes id)) is some fits h = absurd (omega (arith, some, fits))
  numbers_many k (Some (node.Array max offset e)) is some fits h =
      said_many (node.Array max offset e) (node.Array max offset (longer k e)) (array_many b.numbers.items us max offset e k is some fits h.last) h
  numbers_many k (Some (node.Pipe e)) is some fits h = said_many (node.Pipe e) (node.Pipe (longer k e)) (pipe_many b.numbers.items us e k is some fits h.last) h

-- ## The numbers of a row

-- so many are left from a place on
abbrev pub lows : Order → Primitive → ℕ → ℕ → List ℕ → List ℕ
lows o p n from os = map low (row_values o p n (drop from os))

lows_next : (o : Order) (p : Primitive) (os : List ℕ) (from next m n : ℕ) → n ≡ suc m → next ≡ from + width p
    → lows o p n from os ≡ low (value_of_octets o p (take (width p) (drop from os))) ∷ lows o p m next os
lows_next o p os from next m n more wide =
    ap (λ k. lows o p k from os) more
    ∙ ap (λ vs. low (value_of_octets o p (take (width p) (drop from os))) ∷ map low (row_values o p m vs)) (drop-drop (width p) from os ∙ ap (λ k. drop k os) (sym wide))

-- one of them is pushed
pub row_pushed : (o : Order) (p : Primitive) (os : List ℕ) (from next m n : ℕ) (xs0 xs ys all : List ℕ) (u : ℕ) → n ≡ suc m → next ≡ from + width p
    → u ≡ low (value_of_octets o p (take (width p) (drop from os))) → ys ≡ xs ++ u ∷ [] → xs ++ lows o p n from os ≡ xs0 ++ all → ys ++ lows o p m next os ≡ xs0 ++ all
row_pushed o p os from next m n xs0 xs ys all u more wide is pushed so_far =
    ap (λ vs. vs ++ lows o p m next os) pushed
    ∙ append_assoc xs (u ∷ []) (lows o p m next os)
    ∙ ap (λ v. xs ++ (v ∷ lows o p m next os)) is
    ∙ ap (λ vs. xs ++ vs) (sym (lows_next o p os from next m n more wide))
    ∙ so_far
