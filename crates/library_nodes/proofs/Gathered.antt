-- Elements that are numbers stay among the numbers while nodes are added.
-- `ms` and `ns` are nodes, `m` and `n` are nodes, `e` elements, `o` elements or none; `fs`, `gs` and `hs` are nodes of trees, `vs` trees.
use Rattle.std.proofs.Common.{◌≡◌, ◌≤◌, ◌<◌, ℕ, zero, suc, ◌+◌, ◌-◌, ℤ, Bool, true, false, List, [], ◌∷◌, ◌++◌, map, length, take, drop, Option, Some, None}
use Rattle.std.specs.Prelude.{option_to_list, if◌then◌else◌}
use Rattle.std.proofs.Common.{option_map, nat_lt, refl, ap, sym, ◌∙◌, arith, append_assoc, subst}
use Rattle.std.proofs.lemmas.Bool.{ltb-false}
use Rattle.std.proofs.lemmas.List.{append-nil, length-map}
use Rattle.nd_lemmas.proofs.Lists.{same_rest}
use Rattle.nd_value.specs.Tree as tree
use Rattle.nd_value.specs.Tree.{Flat, Trees, node, none, more, count, flat, unflat, take_trees, unflat-of}
use Rattle.nd_flat.specs.FlatForm.{flat_seen}
use Rattle.nd_flat.specs.Forest.{IsForest}
use Rattle.nd_flat.specs.declared.node.Seen.{Seen}
use Rattle.nd_flat.specs.declared.node.Seen.TheVariants as seen
use Rattle.nd_flat.proofs.Forests.{flat-unflat, forest-rest-of}
use Rattle.library_nodes.specs.declared.node.Elements.{Elements}
use Rattle.library_nodes.specs.declared.node.Node.{Node}
use Rattle.library_nodes.specs.declared.node.Node.TheVariants as item
use Rattle.library_nodes.specs.Low.{low_flat, low_flats}
use Rattle.library_nodes.specs.Said.{number_flat, number_flats, node_flats, flats_said}
use Rattle.library_nodes.specs.Gathered.{elements_of, is_number, begins_with_number, IsGathered, AreGathered, IsThere, AreThere}
use Rattle.library_nodes.specs.Laying.{AreLast, lacking, EndsWhole, IsSettled, one_more, more_numbers}

-- ## Nodes after nodes

-- the elements of the last node, with the nodes after it
abbrev pub LastGathered : List Node → List Node → Type 0
LastGathered [] ns = Unit {0}
LastGathered (m ∷ []) ns = IsGathered (elements_of m) ns
LastGathered (m ∷ k ∷ ms) ns = LastGathered (k ∷ ms) ns

same_front : (o : Option Elements) (k : Node) (ms ns : List Node) → IsGathered o (k ∷ ms) → IsGathered o (k ∷ ns)
same_front None k ms ns g = tt
same_front (Some e) k ms ns g = g

pub gathered_append : (ms ns : List Node) → AreGathered ms → AreGathered ns → LastGathered ms ns → AreGathered (ms ++ ns)
gathered_append [] ns g h l = h
gathered_append (m ∷ []) ns g h l = (l, h)
gathered_append (m ∷ k ∷ ms) ns g h l = (same_front (elements_of m) k ms (ms ++ ns) g.0, gathered_append (k ∷ ms) ns g.1 h l)

whole_elements : (n : Node) (ns : List Node) → lacking (Some n) ≡ 0 → IsGathered (elements_of n) [] → IsGathered (elements_of n) ns
whole_elements (item.Number u) ns w g = tt
whole_elements (item.Struct k) ns w g = tt
whole_elements (item.Array max offset e) ns w g = (g.0, λ less. absurd (let all : e.count - e.numbers ≡ 0 = w in omega (arith, all, less)))
whole_elements (item.Text max from len) ns w g = tt
whole_elements (item.Union tag armed) ns w g = tt
whole_elements (item.Pointer cell) ns w g = tt
whole_elements (item.Context attributes id) ns w g = tt
whole_elements (item.Pipe e) ns w g = (g.0, λ less. absurd (let all : e.count - e.numbers ≡ 0 = w in omega (arith, all, less)))

-- anything may follow nodes that end whole
pub after_whole : (ms ns : List Node) → EndsWhole ms → AreGathered ms → LastGathered ms ns
after_whole [] ns w g = tt
after_whole (m ∷ []) ns w g = whole_elements m ns w g.0
after_whole (m ∷ k ∷ ms) ns w g = after_whole (k ∷ ms) ns w g.1

before_other : (o : Option Elements) (n : Node) (ns : List Node) → is_number n ≡ false → IsGathered o [] → IsGathered o (n ∷ ns)
before_other None n ns other g = tt
before_other (Some e) n ns other g = (g.0, λ less. other)

-- a node that is no number may follow any
pub after_any : (ms : List Node) (n : Node) (ns : List Node) → is_number n ≡ false → AreGathered ms → LastGathered ms (n ∷ ns)
after_any [] n ns other g = tt
after_any (m ∷ []) n ns other g = before_other (elements_of m) n ns other g.0
after_any (m ∷ k ∷ ms) n ns other g = after_any (k ∷ ms) n ns other g.1

-- ## Numbers that are there

pub there_append : (many : ℕ) (ms ns : List Node) → AreThere many ms → AreThere many ns → AreThere many (ms ++ ns)
there_append many [] ns g h = h
there_append many (m ∷ ms) ns g h = (g.0, there_append many ms ns g.1 h)

one_later : (many later : ℕ) (o : Option Elements) → many ≤ later → IsThere many o → IsThere later o
one_later many later None less g = tt
one_later many later (Some e) less g = let h : e.from + e.numbers ≤ many = g in omega (arith, less, h)

-- they are there where more numbers are
pub there_later : (many later : ℕ) (ns : List Node) → many ≤ later → AreThere many ns → AreThere later ns
there_later many later [] less g = tt
there_later many later (n ∷ ns) less g = (one_later many later (elements_of n) less g.0, there_later many later ns less g.1)

pub there_front : (many : ℕ) (ms ns : List Node) → AreThere many (ms ++ ns) → AreThere many ms
there_front many [] ns g = tt
there_front many (m ∷ ms) ns g = (g.0, there_front many ms ns g.1)

-- the last numbers of a list are there
pub last_there : (xs : List ℕ) (n : Node) → AreLast xs (Some n) → IsThere (length xs) (elements_of n)
last_there xs (item.Number u) l = tt
last_there xs (item.Struct k) l = tt
last_there xs (item.Array max offset e) l = let h : e.from + e.numbers ≡ length xs = l in omega (arith, h)
last_there xs (item.Text max from len) l = tt
last_there xs (item.Union tag armed) l = tt
last_there xs (item.Pointer cell) l = tt
last_there xs (item.Context attributes id) l = tt
last_there xs (item.Pipe e) l = let h : e.from + e.numbers ≡ length xs = l in omega (arith, h)

-- the last node in the place of another, after numbers were added that are its own
pub last_added : (xs ys : List ℕ) (ms : List Node) (m n : Node) → length xs ≤ length ys → AreLast ys (Some n) → AreThere (length xs) (ms ++ m ∷ []) → AreThere (length ys) (ms ++ n ∷ [])
last_added xs ys ms m n longer l g =
    there_append (length ys) ms (n ∷ []) (there_later (length xs) (length ys) ms longer (there_front (length xs) ms (m ∷ []) g)) (last_there ys n l, tt)

pub longer_list : (xs ys zs : List ℕ) → ys ≡ xs ++ zs → length xs ≤ length ys
longer_list xs ys zs is = let e : length ys ≡ length (xs ++ zs) = ap length is in omega (arith, e, length_both xs zs) where
  length_both : (us vs : List ℕ) → length (us ++ vs) ≡ length us + length vs
  length_both [] vs = omega arith
  length_both (u ∷ us) vs = let h : length (us ++ vs) ≡ length us + length vs = length_both us vs in omega (arith, h)

-- the last node in the place of another
pub last_changed : (ms : List Node) (m n : Node) → is_number m ≡ is_number n → IsGathered (elements_of n) [] → AreGathered (ms ++ m ∷ []) → AreGathered (ms ++ n ∷ [])
last_changed [] m n same g h = (g, tt)
last_changed (k ∷ []) m n same g h = (first (elements_of k) h.0, (g, tt)) where
  first : (o : Option Elements) → IsGathered o (m ∷ []) → IsGathered o (n ∷ [])
  first None i = tt
  first (Some e) i = (i.0, λ less. sym same ∙ i.1 less)
last_changed (k ∷ j ∷ ms) m n same g h = (same_front (elements_of k) j (ms ++ m ∷ []) (ms ++ n ∷ []) h.0, last_changed (j ∷ ms) m n same g h.1)

pub ends_with : (ms : List Node) (n : Node) → lacking (Some n) ≡ 0 → EndsWhole (ms ++ n ∷ [])
ends_with [] n w = w
ends_with (m ∷ []) n w = w
ends_with (m ∷ k ∷ ms) n w = ends_with (k ∷ ms) n w

nothing : (o : Option Elements) (f : Elements → Node) → option_map f o ≡ None → o ≡ None
nothing None f is = refl
nothing (Some e) f is = cc

abbrev with_one : Elements → Elements
with_one e = record { count = e.count; numbers = e.numbers + 1; from = e.from }

full_elements : (e : Elements) → more_numbers e ≡ None → e.count - e.numbers ≡ 0
full_elements e is = by_test (nat_lt e.numbers e.count) refl is where
  by_test : (b : Bool) → nat_lt e.numbers e.count ≡ b → (if b then Some (with_one e) else None) ≡ None → e.count - e.numbers ≡ 0
  by_test true less is = cc
  by_test false less is = let l : e.count ≤ e.numbers = ltb-false e.numbers e.count less in omega (arith, l)

-- nodes that end with one that takes no number more end whole
full : (n : Node) → one_more (Some n) ≡ None → lacking (Some n) ≡ 0
full (item.Number u) is = refl
full (item.Struct k) is = refl
full (item.Array max offset e) is = full_elements e (nothing (more_numbers e) (λ d. item.Array max offset d) is)
full (item.Text max from len) is = refl
full (item.Union tag armed) is = refl
full (item.Pointer cell) is = refl
full (item.Context attributes id) is = refl
full (item.Pipe e) is = full_elements e (nothing (more_numbers e) (λ d. item.Pipe d) is)

pub full_whole : (ns : List Node) (o : Option Node) → one_more o ≡ None → IsSettled o ns → EndsWhole (ns ++ option_to_list o)
full_whole ns None is settled = subst (λ ms. EndsWhole ms) (sym (append-nil ns)) settled
full_whole ns (Some n) is settled = ends_with ns n (full n is)

-- ## Nodes that are no arrays and no pipes

-- what a node is: a number, an array or a pipe, or another
abbrev kind_of : List Flat → ℕ
kind_of ((tree.Num z, k) ∷ fs) = 1
kind_of ((tree.Arr max offset, k) ∷ fs) = 2
kind_of ((tree.Pipe, k) ∷ fs) = 2
kind_of _ = 0

pub other_node : (zs os : List ℕ) (n : Node) → kind_of (node_flats zs os n) ≡ 0 → (is_number n ≡ false) × (elements_of n ≡ None)
other_node zs os (item.Number u) k = cc
other_node zs os (item.Struct c) k = (refl, refl)
other_node zs os (item.Array max offset e) k = cc
other_node zs os (item.Text max from len) k = (refl, refl)
other_node zs os (item.Union tag armed) k = (refl, refl)
other_node zs os (item.Pointer cell) k = (refl, refl)
other_node zs os (item.Context attributes id) k = (refl, refl)
other_node zs os (item.Pipe e) k = cc

other_seen : (s : Seen) → ((z : ℤ) → s ≡ seen.Num z → ⊥) → ((m o c : ℕ) → s ≡ seen.Arr m o c → ⊥) → ((c : ℕ) → s ≡ seen.Pipe c → ⊥)
    → kind_of (low_flat (flat_seen s) ∷ []) ≡ 0
other_seen (seen.Num z) n a p = absurd (n z refl)
other_seen (seen.Rec c) n a p = refl
other_seen (seen.Arr m o c) n a p = absurd (a m o c refl)
other_seen (seen.Text max os) n a p = refl
other_seen (seen.Union tag armed) n a p = refl
other_seen (seen.Ptr cell) n a p = refl
other_seen (seen.Context attributes id) n a p = refl
other_seen (seen.Pipe c) n a p = absurd (p c refl)

-- a node that says what was seen, and that is neither a number nor an array or a pipe
pub plain_seen : (s : Seen) (n : Node) → ((z : ℤ) → s ≡ seen.Num z → ⊥) → ((m o c : ℕ) → s ≡ seen.Arr m o c → ⊥) → ((c : ℕ) → s ≡ seen.Pipe c → ⊥) → (os : List ℕ)
    → node_flats [] os n ≡ low_flat (flat_seen s) ∷ [] → (is_number n ≡ false) × (elements_of n ≡ None)
plain_seen s n not_num not_arr not_pipe os says = other_node [] os n (ap kind_of says ∙ other_seen s not_num not_arr not_pipe)

pub none_lacking : (n : Node) → elements_of n ≡ None → (lacking (Some n) ≡ 0) × IsGathered (elements_of n) [] × ((many : ℕ) → IsThere many (elements_of n))
none_lacking (item.Number u) is = (refl, tt, λ many. tt)
none_lacking (item.Struct c) is = (refl, tt, λ many. tt)
none_lacking (item.Array max offset e) is = cc
none_lacking (item.Text max from len) is = (refl, tt, λ many. tt)
none_lacking (item.Union tag armed) is = (refl, tt, λ many. tt)
none_lacking (item.Pointer cell) is = (refl, tt, λ many. tt)
none_lacking (item.Context attributes id) is = (refl, tt, λ many. tt)
none_lacking (item.Pipe e) is = cc

-- ## The nodes of whole trees

few_taken : (k : ℕ) (vs : Trees) → count (take_trees k vs) ≤ count vs
few_taken zero vs = omega arith
few_taken (suc k) none = omega arith
few_taken (suc k) (more t vs) = let h : count (take_trees k vs) ≤ count vs = few_taken k vs in omega (arith, h)

one_each : (vs : Trees) → count vs ≤ length (flat vs)
one_each none = omega arith
one_each (more (node l ks) vs) =
    let h : count vs ≤ length (flat vs) = one_each vs in
    let e : length (flat ks ++ flat vs) ≡ length (flat ks) + length (flat vs) = length_both (flat ks) (flat vs) in
    omega (arith, h, e) where
      length_both : (fs gs : List Flat) → length (fs ++ gs) ≡ length fs + length gs
      length_both [] gs = omega arith
      length_both (f ∷ fs) gs = let h : length (fs ++ gs) ≡ length fs + length gs = length_both fs gs in omega (arith, h)

abbrev second_or : List Flat → ℕ
second_or [] = 0
second_or (f ∷ fs) = f.1

-- after a node of trees come at least its parts
parts_after : (f : Flat) (gs : List Flat) → IsForest (f ∷ gs) → f.1 ≤ length gs
parts_after f gs h =
    let first : count (take_trees f.1 (unflat gs)) ≡ f.1 = ap second_or (sym (flat-unflat f gs) ∙ h) in
    let rest : flat (unflat gs) ≡ gs = same_rest _ f _ gs (sym (flat-unflat f gs) ∙ h) in
    let few : count (take_trees f.1 (unflat gs)) ≤ count (unflat gs) = few_taken f.1 (unflat gs) in
    let each : count (unflat gs) ≤ length (flat (unflat gs)) = one_each (unflat gs) in
    let long : length (flat (unflat gs)) ≡ length gs = ap length rest in
    omega (arith, first, few, each, long)

-- a list that is mapped to a list with an item has an item there
split_low : (gs xs : List Flat) (y : Flat) (zs : List Flat) → low_flats gs ≡ xs ++ (y ∷ zs)
    → (fs : List Flat) × (f : Flat) × (hs : List Flat) × (gs ≡ fs ++ (f ∷ hs)) × (low_flat f ≡ y) × (length hs ≡ length zs)
split_low [] [] y zs e = cc
split_low [] (x ∷ xs) y zs e = cc
split_low (g ∷ gs) [] y zs e = ([], g, gs, refl, ap (first_or y) e, sym (length-map gs low_flat) ∙ ap length (same_rest _ _ _ _ e)) where
  first_or : Flat → List Flat → Flat
  first_or f [] = f
  first_or f (h ∷ hs) = h
split_low (g ∷ gs) (x ∷ xs) y zs e =
    let h = split_low gs xs y zs (same_rest _ _ _ _ e) in
    (g ∷ h.0, h.1, h.2, ap (λ fs. g ∷ fs) h.3, h.4, h.5)

-- after a node that has so many parts come at least as many
enough_after : (vs : Trees) (xs : List Flat) (y : Flat) (zs : List Flat) → xs ++ (y ∷ zs) ≡ low_flats (flat vs) → y.1 ≤ length zs
enough_after vs xs y zs e =
    let h = split_low (flat vs) xs y zs (sym e) in
    let forest : IsForest (flat vs) = ap flat (unflat-of vs) in
    let after : h.1.1 ≤ length h.2 = parts_after h.1 h.2 (forest-rest-of h.0 (h.1 ∷ h.2) (subst (λ fs. IsForest fs) h.3 forest)) in
    let same : h.1.1 ≡ y.1 = ap (λ (f : Flat). f.1) h.4 in
    omega (arith, after, same, h.5)

few_numbers : (zs : List ℕ) (e : Elements) → length (number_flats zs e ++ []) ≤ e.numbers
few_numbers zs e =
    let is : length (number_flats zs e ++ []) ≡ length (take e.numbers (drop e.from zs)) =
    ap length (append-nil (number_flats zs e)) ∙ length-map (take e.numbers (drop e.from zs)) number_flat in
    let few = few_first e.numbers (drop e.from zs) in
    omega (arith, is, few) where
      few_first : (k : ℕ) (us : List ℕ) → length (take k us) ≤ k
      few_first zero us = omega arith
      few_first (suc k) [] = omega arith
      few_first (suc k) (u ∷ us) = let h : length (take k us) ≤ k = few_first k us in omega (arith, h)

last_whole : (vs : Trees) (zs os : List ℕ) (xs : List Flat) (n : Node) → xs ++ (node_flats zs os n ++ []) ≡ low_flats (flat vs) → IsGathered (elements_of n) []
    → lacking (Some n) ≡ 0
last_whole vs zs os xs (item.Number u) e g = refl
last_whole vs zs os xs (item.Struct k) e g = refl
last_whole vs zs os xs (item.Array max offset e) is g =
    let enough : e.count ≤ length (number_flats zs e ++ []) = enough_after vs xs (tree.Arr max offset, e.count) (number_flats zs e ++ []) is in
    omega (arith, enough, few_numbers zs e)
last_whole vs zs os xs (item.Text max from len) e g = refl
last_whole vs zs os xs (item.Union tag armed) e g = refl
last_whole vs zs os xs (item.Pointer cell) e g = refl
last_whole vs zs os xs (item.Context attributes id) e g = refl
last_whole vs zs os xs (item.Pipe e) is g =
    let enough : e.count ≤ length (number_flats zs e ++ []) = enough_after vs xs (tree.Pipe, e.count) (number_flats zs e ++ []) is in
    omega (arith, enough, few_numbers zs e)

whole_from : (vs : Trees) (zs os : List ℕ) (xs : List Flat) (ns : List Node) → xs ++ flats_said zs os ns ≡ low_flats (flat vs) → AreGathered ns → EndsWhole ns
whole_from vs zs os xs [] e g = tt
whole_from vs zs os xs (n ∷ []) e g = last_whole vs zs os xs n e g.0
whole_from vs zs os xs (n ∷ m ∷ ns) e g =
    whole_from vs zs os (xs ++ node_flats zs os n) (m ∷ ns) (append_assoc xs (node_flats zs os n) (flats_said zs os (m ∷ ns)) ∙ e) g.1

-- the nodes of values end whole
pub values_whole : (vs : Trees) (zs os : List ℕ) (ns : List Node) → flats_said zs os ns ≡ low_flats (flat vs) → AreGathered ns → EndsWhole ns
values_whole vs zs os ns e g = whole_from vs zs os [] ns e g
