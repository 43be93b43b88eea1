-- Nodes are added to a list, and say what they do whatever is added after them.
-- `a`, `b`, `c` are lists of nodes one after the other, `fs` are the nodes of values, `ns` nodes, `n` is a node, `z` a number.
use Rattle.std.proofs.Common.{◌≡◌, ℕ, zero, suc, ◌+◌, ◌≤◌, ◌<◌, ℤ, Bool, true, false, List, [], ◌∷◌, ◌++◌, map, length, take, drop, Option, Some, None, option_map}
use Rattle.std.proofs.Common.{refl, ap, ap₂, sym, ◌∙◌, arith, append_assoc, subst, nat_lt}
use Rattle.std.specs.Prelude.{option_to_list, if◌then◌else◌}
use Rattle.std.proofs.lemmas.List.{append-nil, map-append}
use Rattle.std.proofs.lemmas.Bool.{ltb-true}
use Rattle.std.proofs.lemmas.Option.{same_Some}
use Rattle.nd_value.specs.Tree as tree
use Rattle.nd_value.specs.Tree.{Flat}
use Rattle.library_nodes.specs.declared.node.Elements.{Elements}
use Rattle.library_nodes.specs.declared.node.Node.{Node}
use Rattle.library_nodes.specs.declared.node.Node.TheVariants as node
use Rattle.library_nodes.specs.declared.nodes.NodeList.{NodeList}
use Rattle.library_types.specs.Low.{low}
use Rattle.library_nodes.specs.Low.{low_flat, low_flats}
use Rattle.library_nodes.specs.Said.{number_flat, number_flats, node_flats, flats_said}
use Rattle.library_nodes.specs.Gathered.{elements_of, is_number, IsGathered, AreGathered, IsThere, AreThere}
use Rattle.library_nodes.specs.Laying.{Grows, Adds, AddsOpen, AreLast, EndsWhole, lacking, one_more, more_numbers}
use Rattle.library_nodes.proofs.Gathered.{LastGathered, gathered_append, after_any, after_whole, last_changed, ends_with, none_lacking, there_append, last_there, last_added, longer_list}

-- ## What nodes say

pub said_append : (zs os : List ℕ) (ms ns : List Node) → flats_said zs os (ms ++ ns) ≡ flats_said zs os ms ++ flats_said zs os ns
said_append zs os [] ns = refl
said_append zs os (m ∷ ms) ns =
    ap (λ fs. node_flats zs os m ++ fs) (said_append zs os ms ns) ∙ sym (append_assoc (node_flats zs os m) (flats_said zs os ms) (flats_said zs os ns))

-- with a node more
pub said_more : (zs os : List ℕ) (ns : List Node) (n : Node) → flats_said zs os (ns ++ n ∷ []) ≡ flats_said zs os ns ++ node_flats zs os n
said_more zs os ns n = said_append zs os ns (n ∷ []) ∙ ap (λ fs. flats_said zs os ns ++ fs) (append-nil (node_flats zs os n))

low_more : (fs : List Flat) (f : Flat) → low_flats (fs ++ f ∷ []) ≡ low_flats fs ++ low_flat f ∷ []
low_more fs f = map-append low_flat fs (f ∷ [])

-- ## Growing

abbrev pub grows_none : (a : NodeList) → Grows a a
grows_none a = record {
  nodes = [];
  numbers = [];
  octets = [];
  nodes_are = sym (append-nil a.nodes.items);
  numbers_are = sym (append-nil a.numbers.items);
  octets_are = sym (append-nil a.octets);
}

abbrev pub grows_then : (a b c : NodeList) → Grows a b → Grows b c → Grows a c
grows_then a b c g h = record {
  nodes = g.nodes ++ h.nodes;
  numbers = g.numbers ++ h.numbers;
  octets = g.octets ++ h.octets;
  nodes_are = h.nodes_are ∙ ap (λ xs. xs ++ h.nodes) g.nodes_are ∙ append_assoc a.nodes.items g.nodes h.nodes;
  numbers_are = h.numbers_are ∙ ap (λ xs. xs ++ h.numbers) g.numbers_are ∙ append_assoc a.numbers.items g.numbers h.numbers;
  octets_are = h.octets_are ∙ ap (λ xs. xs ++ h.octets) g.octets_are ∙ append_assoc a.octets g.octets h.octets;
}

-- these are added to what was added before
abbrev pub grown : (a b c : NodeList) (ns : List Node) (zs os : List ℕ) → Grows a b → c.nodes.items ≡ b.nodes.items ++ ns → c.numbers.items ≡ b.numbers.items ++ zs
    → c.octets ≡ b.octets ++ os → Grows a c
grown a b c ns zs os g en ez eo =
    grows_then a b c g (record { nodes = ns; numbers = zs; octets = os; nodes_are = en; numbers_are = ez; octets_are = eo })

-- ## Nothing yet, and all

pub open_none : (a : NodeList) → AddsOpen [] a a None
open_none a = record { grows = grows_none a; last = tt; say = λ zs os. refl; gathered = tt; there = tt; settled = tt }

-- the node that was open is added
abbrev pub closed : (fs : List Flat) (a b c : NodeList) (o : Option Node) → c.nodes.items ≡ b.nodes.items ++ option_to_list o → c.numbers.items ≡ b.numbers.items → c.octets ≡ b.octets
    → AddsOpen fs a b o → Adds fs a c
closed fs a b c o en ez eo h = record {
  grows = grown a b c (option_to_list o) [] [] h.grows en (ez ∙ sym (append-nil b.numbers.items)) (eo ∙ sym (append-nil b.octets));
  say = λ zs os. ap₂ (λ p q. flats_said (p ++ zs) (q ++ os) (h.grows.nodes ++ option_to_list o)) ez eo ∙ h.say zs os;
  gathered = h.gathered;
  there = subst (λ (xs : List ℕ). AreThere (length xs) (h.grows.nodes ++ option_to_list o)) (sym ez) h.there;
}

-- ## One node more

-- a node that is not open
pub plain_more : (fs : List Flat) (f : Flat) (n : Node) (a b c : NodeList) (more : List ℕ) → c.nodes.items ≡ b.nodes.items ++ n ∷ [] → c.numbers.items ≡ b.numbers.items
    → c.octets ≡ b.octets ++ more → ((zs os : List ℕ) → node_flats zs (c.octets ++ os) n ≡ low_flat f ∷ []) → elements_of n ≡ None → (h : Adds fs a b)
    → LastGathered h.grows.nodes (n ∷ []) → AddsOpen (fs ++ f ∷ []) a c None
plain_more fs f n a b c more en ez eo says plain h after =
    let ns = h.grows.nodes in
    let none = none_lacking n plain in
    record {
      grows = grown a b c (n ∷ []) [] more h.grows en (ez ∙ sym (append-nil b.numbers.items)) eo;
      last = tt;
      gathered =
          subst (λ (ms : List Node). AreGathered ms) (sym (append-nil (ns ++ n ∷ [])))
          (gathered_append ns (n ∷ []) h.gathered (none.1, tt) after);
      there =
          subst (λ (ms : List Node). AreThere (length c.numbers.items) ms) (sym (append-nil (ns ++ n ∷ [])))
          (there_append (length c.numbers.items) ns (n ∷ []) (subst (λ (xs : List ℕ). AreThere (length xs) ns) (sym ez) h.there) (none.2 (length c.numbers.items), tt));
      settled = ends_with ns n none.0;
      say = λ zs os.
          ap (λ xs. flats_said (c.numbers.items ++ zs) (c.octets ++ os) xs) (append-nil (ns ++ n ∷ []))
          ∙ said_more (c.numbers.items ++ zs) (c.octets ++ os) ns n
          ∙ ap₂ (λ p q. p ++ q)
          (ap₂ (λ p q. flats_said (p ++ zs) q ns) ez (ap (λ q. q ++ os) eo ∙ append_assoc b.octets more os) ∙ h.say zs (more ++ os))
          (says (c.numbers.items ++ zs) os)
          ∙ sym (low_more fs f);
    }

-- a node by itself
pub alone : (f : Flat) (n : Node) (a c : NodeList) (more : List ℕ) → c.nodes.items ≡ a.nodes.items ++ n ∷ [] → c.numbers.items ≡ a.numbers.items
    → c.octets ≡ a.octets ++ more → ((zs os : List ℕ) → node_flats zs (c.octets ++ os) n ≡ low_flat f ∷ []) → IsGathered (elements_of n) []
    → ((many : ℕ) → IsThere many (elements_of n)) → Adds (f ∷ []) a c
alone f n a c more en ez eo says gathered there = record {
  grows = grown a a c (n ∷ []) [] more (grows_none a) en (ez ∙ sym (append-nil a.numbers.items)) eo;
  say = λ zs os. append-nil (node_flats (c.numbers.items ++ zs) (c.octets ++ os) n) ∙ says (c.numbers.items ++ zs) os;
  gathered = (gathered, tt);
  there = (there (length c.numbers.items), tt);
}

-- an array or a pipe is open, none of whose elements is a number yet
pub opened : (fs : List Flat) (f : Flat) (n : Node) (a b : NodeList) → AreLast b.numbers.items (Some n) → ((zs os : List ℕ) → node_flats zs os n ≡ low_flat f ∷ [])
    → is_number n ≡ false → IsGathered (elements_of n) [] → Adds fs a b → AddsOpen (fs ++ f ∷ []) a b (Some n)
opened fs f n a b last says other gathered h = record {
  grows = h.grows;
  last = last;
  gathered = gathered_append h.grows.nodes (n ∷ []) h.gathered (gathered, tt) (after_any h.grows.nodes n [] other h.gathered);
  there = there_append (length b.numbers.items) h.grows.nodes (n ∷ []) h.there (last_there b.numbers.items n last, tt);
  settled = tt;
  say = λ zs os.
      let p = b.numbers.items ++ zs in
      let q = b.octets ++ os in
      said_more p q h.grows.nodes n ∙ ap₂ (λ x y. x ++ y) (h.say zs os) (says p q) ∙ sym (low_more fs f);
}

pub array_opened : (fs : List Flat) (max offset count : ℕ) (e : Elements) (xs : List ℕ) (a b : NodeList)
    → e ≡ record { count = count; numbers = 0; from = length xs } → xs ≡ b.numbers.items → Adds fs a b
    → AddsOpen (fs ++ (tree.Arr max offset, count) ∷ []) a b (Some (node.Array max offset e))
array_opened fs max offset count e xs a b is same h =
    subst (λ (d : Elements). AddsOpen (fs ++ (tree.Arr max offset, count) ∷ []) a b (Some (node.Array max offset d))) (sym is)
    (opened fs (tree.Arr max offset, count) (node.Array max offset (record { count = count; numbers = 0; from = length xs })) a b
    (let l : length xs ≡ length b.numbers.items = ap length same in omega (arith, l)) (λ zs os. refl) refl (omega arith, λ less. refl) h)

pub pipe_opened : (fs : List Flat) (count : ℕ) (e : Elements) (xs : List ℕ) (a b : NodeList) → e ≡ record { count = count; numbers = 0; from = length xs } → xs ≡ b.numbers.items
    → Adds fs a b → AddsOpen (fs ++ (tree.Pipe, count) ∷ []) a b (Some (node.Pipe e))
pipe_opened fs count e xs a b is same h =
    subst (λ (d : Elements). AddsOpen (fs ++ (tree.Pipe, count) ∷ []) a b (Some (node.Pipe d))) (sym is)
    (opened fs (tree.Pipe, count) (node.Pipe (record { count = count; numbers = 0; from = length xs })) a b
    (let l : length xs ≡ length b.numbers.items = ap length same in omega (arith, l)) (λ zs os. refl) refl (omega arith, λ less. refl) h)

-- ## One number more

-- the last numbers of a list, with one more
last_more : (xs ys : List ℕ) (y from k : ℕ) → from + k ≡ length xs → take (suc k) (drop from ((xs ++ y ∷ []) ++ ys)) ≡ take k (drop from (xs ++ (y ∷ ys))) ++ y ∷ []
last_more [] ys y zero zero e = refl
last_more [] ys y zero (suc k) e = absurd (omega (arith, e))
last_more [] ys y (suc from) k e = absurd (omega (arith, e))
last_more (x ∷ xs) ys y zero zero e = absurd (omega (arith, e))
last_more (x ∷ xs) ys y zero (suc k) e = ap (λ zs. x ∷ zs) (last_more xs ys y zero k (omega (arith, e)))
last_more (x ∷ xs) ys y (suc from) k e = last_more xs ys y from k (omega (arith, e))

one_after : (k : ℕ) → k + 1 ≡ suc k
one_after k = omega arith

elements_more : (xs ys : List ℕ) (y : ℕ) (e d : Elements) → d.numbers ≡ e.numbers + 1 → d.from ≡ e.from → e.from + e.numbers ≡ length xs
    → number_flats ((xs ++ y ∷ []) ++ ys) d ≡ number_flats (xs ++ (y ∷ ys)) e ++ number_flat y ∷ []
elements_more xs ys y e d en ef l =
    ap₂ (λ p q. map number_flat (take p (drop q ((xs ++ y ∷ []) ++ ys)))) (en ∙ one_after e.numbers) ef ∙ ap (λ zs. map number_flat zs) (last_more xs ys y e.from e.numbers l)
    ∙ map-append number_flat (take e.numbers (drop e.from (xs ++ (y ∷ ys)))) (y ∷ [])

-- what one number more says of a node
record SaysMore (xs : List ℕ) (y : ℕ) (m n : Node) : Type 0 where
  last : AreLast (xs ++ y ∷ []) (Some n)
  say : (ys os : List ℕ) → node_flats ((xs ++ y ∷ []) ++ ys) os n ≡ node_flats (xs ++ (y ∷ ys)) os m ++ number_flat y ∷ []
  other : is_number m ≡ is_number n
  gathered : IsGathered (elements_of n) []

one_longer : (xs : List ℕ) (y : ℕ) → length (xs ++ y ∷ []) ≡ length xs + 1
one_longer [] y = refl
one_longer (x ∷ xs) y = let e : length (xs ++ y ∷ []) ≡ length xs + 1 = one_longer xs y in omega (arith, e)

abbrev with_one : Elements → Elements
with_one e = record { count = e.count; numbers = e.numbers + 1; from = e.from }

more_is : (e d : Elements) (b : Bool) → (if b then Some (with_one e) else None) ≡ Some d
    → (d.count ≡ e.count) × (d.numbers ≡ e.numbers + 1) × (d.from ≡ e.from) × (b ≡ true)
more_is e d true is =
    let s = same_Some _ _ is in
    (sym (ap (λ (x : Elements). x.count) s), sym (ap (λ (x : Elements). x.numbers) s), sym (ap (λ (x : Elements). x.from) s), refl)
more_is e d false is = cc

-- with one more there are no more than elements
still_few : (e d : Elements) → d.count ≡ e.count → d.numbers ≡ e.numbers + 1 → nat_lt e.numbers e.count ≡ true → (d.numbers ≤ d.count) × (d.numbers < d.count → false ≡ false)
still_few e d count numbers less = let l : e.numbers < e.count = ltb-true e.numbers e.count less in (omega (arith, count, numbers, l), λ fewer. refl)

mapped_is : (A : Type 0) (f : Elements → A) (o : Option Elements) (y : A) → option_map f o ≡ Some y → (d : Elements) × (o ≡ Some d) × (f d ≡ y)
mapped_is A f None y is = cc
mapped_is A f (Some d) y is = (d, refl, same_Some _ _ is)

says_more : (xs : List ℕ) (y : ℕ) (m n : Node) → one_more (Some m) ≡ Some n → AreLast xs (Some m) → SaysMore xs y m n
says_more xs y (node.Number u) n is last = cc
says_more xs y (node.Struct k) n is last = cc
says_more xs y (node.Text max from len) n is last = cc
says_more xs y (node.Union tag armed) n is last = cc
says_more xs y (node.Pointer cell) n is last = cc
says_more xs y (node.Context attributes id) n is last = cc
says_more xs y (node.Array max offset e) n is last =
    let d = mapped_is Node (λ x. node.Array max offset x) (more_numbers e) n is in
    let h = more_is e d.0 (nat_lt e.numbers e.count) d.1 in
    subst (λ x. SaysMore xs y (node.Array max offset e) x) d.2
    (record {
      last = let l : e.from + e.numbers ≡ length xs = last in omega (arith, l, one_longer xs y, h.1, h.2);
      say = λ ys os. ap₂ (λ p q. (tree.Arr max offset, p) ∷ q) h.0 (elements_more xs ys y e d.0 h.1 h.2 last);
      other = refl;
      gathered = still_few e d.0 h.0 h.1 h.3;
    })
says_more xs y (node.Pipe e) n is last =
    let d = mapped_is Node (λ x. node.Pipe x) (more_numbers e) n is in
    let h = more_is e d.0 (nat_lt e.numbers e.count) d.1 in
    subst (λ x. SaysMore xs y (node.Pipe e) x) d.2
    (record {
      last = let l : e.from + e.numbers ≡ length xs = last in omega (arith, l, one_longer xs y, h.1, h.2);
      say = λ ys os. ap₂ (λ p q. (tree.Pipe, p) ∷ q) h.0 (elements_more xs ys y e d.0 h.1 h.2 last);
      other = refl;
      gathered = still_few e d.0 h.0 h.1 h.3;
    })

none_more : (n : Node) → one_more None ≡ Some n → ⊥
none_more n is = cc

-- a number that is an element of the node that is open
pub number_more : (fs : List Flat) (z : ℤ) (u : ℕ) (o : Option Node) (n : Node) (a b c : NodeList) → one_more o ≡ Some n → u ≡ low z → c.nodes.items ≡ b.nodes.items
    → c.numbers.items ≡ b.numbers.items ++ u ∷ [] → c.octets ≡ b.octets → AddsOpen fs a b o → AddsOpen (fs ++ (tree.Num z, 0) ∷ []) a c (Some n)
number_more fs z u None n a b c is same en ez eo h = absurd (none_more n is)
number_more fs z u (Some m) n a b c is same en ez eo h =
    let ns = h.grows.nodes in
    let xs = b.numbers.items in
    let s = says_more xs u m n is h.last in
    record {
      grows = grown a b c [] (u ∷ []) [] h.grows (en ∙ sym (append-nil b.nodes.items)) ez (eo ∙ sym (append-nil b.octets));
      last = subst (λ ys. AreLast ys (Some n)) (sym ez) s.last;
      gathered =
          subst (λ (ms : List Node). AreGathered (ms ++ n ∷ [])) (sym (append-nil ns)) (last_changed ns m n s.other s.gathered h.gathered);
      there =
          subst (λ (ms : List Node). AreThere (length c.numbers.items) (ms ++ n ∷ [])) (sym (append-nil ns))
          (last_added xs c.numbers.items ns m n (longer_list xs c.numbers.items (u ∷ []) ez) (subst (λ ys. AreLast ys (Some n)) (sym ez) s.last) h.there);
      settled = tt;
      say = λ zs os.
          let q = c.octets ++ os in
          let e : c.numbers.items ++ zs ≡ xs ++ (u ∷ zs) = ap (λ ys. ys ++ zs) ez ∙ append_assoc xs (u ∷ []) zs in
          ap (λ ys. flats_said (c.numbers.items ++ zs) q (ys ++ n ∷ [])) (append-nil ns)
          ∙ said_more (c.numbers.items ++ zs) q ns n
          ∙ ap₂ (λ x y. x ++ y) (ap (λ p. flats_said p q ns) e) (ap (λ p. node_flats (p ++ zs) q n) ez ∙ s.say zs q)
          ∙ sym (append_assoc (flats_said (xs ++ (u ∷ zs)) q ns) (node_flats (xs ++ (u ∷ zs)) q m) (number_flat u ∷ []))
          ∙ ap (λ x. x ++ number_flat u ∷ []) (sym (said_more (xs ++ (u ∷ zs)) q ns m) ∙ ap (λ p. flats_said (xs ++ (u ∷ zs)) (p ++ os) (ns ++ m ∷ [])) eo ∙ h.say (u ∷ zs) os)
          ∙ ap (λ v. low_flats fs ++ number_flat v ∷ []) same
          ∙ sym (low_more fs (tree.Num z, 0));
    }
