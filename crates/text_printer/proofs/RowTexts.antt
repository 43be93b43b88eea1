-- Numbers that are kept side by side, written in one go.
-- `zs` are numbers, `os` are the octets of a row, `n` is how many numbers it has, `w`, `w1` are what is left of a walk before and after, `i` is the place of a
-- value in a list.
use Rattle.std.proofs.Common.{◌≡◌, ℕ, zero, suc, ◌+◌, ◌-◌, ◌*◌, ◌<◌, ◌≤◌, ℤ, pos, List, [], ◌∷◌, ◌++◌, length, take, drop, get_or, replicate}
use Rattle.std.proofs.Common.{refl, ap, ap₂, sym, ◌∙◌, subst, arith, append_assoc, if◌then◌else◌}
use Rattle.std.proofs.lemmas.List.{append-nil, drop-drop}
use Rattle.std.proofs.lemmas.Bool.{lt-ltb}
use Rattle.std.specs.Fmt.{signed_decimal}
use Rattle.nd_base.specs.declared.octets.Order.{Order}
use Rattle.nd_base.specs.declared.octets.Order.TheVariants.{Big, Little}
use Rattle.nd_types.specs.declared.types.Primitive.{Primitive}
use Rattle.nd_types.specs.declared.types.Primitive.TheVariants.{Byte}
use Rattle.nd_types.specs.Number.{value_of_octets}
use Rattle.nd_types.specs.Table.{Table, width}
use Rattle.nd_value.specs.Tree as tree
use Rattle.nd_value.specs.Tree.{Trees, Flat, node, none, more, flat, joined, drop_trees, unflat-of}
use Rattle.nd_flat.specs.FlatForm.{row_values, num_flats, num_trees}
use Rattle.nd_flat.proofs.RowWalks.{rowed}
use Rattle.text_grammar.specs.Written.{hex_octet, hex_text}
use Rattle.text_printer.specs.Texts.{separator, listed, byte_text}
use Rattle.text_printer.specs.Walks.{Writes, WritesSome, WritesBytes, first_text, numbers_text, nodes_digits, octets_digits}
use Rattle.text_printer.proofs.Walking.{element_then}

-- ## Rows

-- the numbers that are left from the i-th on
abbrev pub left : Order → Primitive → ℕ → ℕ → List ℕ → List ℤ
left o p n i os = row_values o p (n - i) (drop (i * width p) os)

left_next : (o : Order) (p : Primitive) (n i : ℕ) (os : List ℕ) → i < n
    → left o p n i os ≡ value_of_octets o p (take (width p) (drop (i * width p) os)) ∷ left o p n (i + 1) os
left_next o p n i os h =
    let less : n - i ≡ suc (n - (i + 1)) = omega (arith, h) in
    let on : i * width p + width p ≡ (i + 1) * width p = omega arith in
    ap (λ m. row_values o p m (drop (i * width p) os)) less
    ∙ ap (λ xs. value_of_octets o p (take (width p) (drop (i * width p) os)) ∷ row_values o p (n - (i + 1)) xs)
    (drop-drop (width p) (i * width p) os ∙ ap (λ k. drop k os) on)

left_over : (o : Order) (p : Primitive) (n i : ℕ) (os : List ℕ) → n ≤ i → left o p n i os ≡ []
left_over o p n i os h = let e : n - i ≡ 0 = omega (arith, h) in ap (λ m. row_values o p m (drop (i * width p) os)) e

pub left_all : (o : Order) (p : Primitive) (n : ℕ) (os : List ℕ) → left o p n 0 os ≡ row_values o p n os
left_all o p n os =
    let e : n - 0 ≡ n = omega arith in
    let z : 0 * width p ≡ 0 = omega arith in
    ap₂ (λ m k. row_values o p m (drop k os)) e z

-- the octets of a number
octets_of : (w from : ℕ) (p : Primitive) (i : ℕ) (os : List ℕ) → w ≡ width p → from ≡ i * w → take (from + w - from) (drop from os) ≡ take (width p) (drop (i * width p) os)
octets_of w from p i os e f =
    let wide : from + w - from ≡ width p = omega (arith, e) in
    ap₂ (λ a b. take a (drop b os)) wide (f ∙ ap (λ x. i * x) e)

-- ## Numbers as elements

-- what is left is written, if all is to be written
abbrev pub NumbersGo : Order → Primitive → ℕ → List ℕ → ℕ → ℕ → List ℕ → List ℕ → Type 0
NumbersGo o p n os at i text0 text = (text' : List ℕ) → text' ≡ text ++ numbers_text (at + i) (left o p n i os) → text' ≡ text0 ++ numbers_text at (row_values o p n os)

pub numbers_begin : (o : Order) (p : Primitive) (n : ℕ) (os : List ℕ) (at : ℕ) (text : List ℕ) → NumbersGo o p n os at 0 text text
numbers_begin o p n os at text text' e =
    let same : at + 0 ≡ at = omega arith in
    e ∙ ap₂ (λ i zs. text ++ numbers_text i zs) same (left_all o p n os)

pub numbers_then : (o : Order) (p : Primitive) (n : ℕ) (os : List ℕ) (at i w from : ℕ) (text0 text text1 text2 : List ℕ) → i < n → w ≡ width p → from ≡ i * w
    → text1 ≡ text ++ separator (at + i) → text2 ≡ text1 ++ signed_decimal (value_of_octets o p (take (from + w - from) (drop from os)))
    → NumbersGo o p n os at i text0 text → NumbersGo o p n os at (i + 1) text0 text2
numbers_then o p n os at i w from text0 text text1 text2 h ew ef e1 e2 go text' e =
    let x = signed_decimal (value_of_octets o p (take (width p) (drop (i * width p) os))) in
    let zs = left o p n (i + 1) os in
    let on : at + (i + 1) ≡ suc (at + i) = omega arith in
    let t : text2 ≡ (text ++ separator (at + i)) ++ x =
    e2 ∙ ap₂ (λ a b. a ++ signed_decimal (value_of_octets o p b)) e1 (octets_of w from p i os ew ef) in
    go text'
    (e ∙ ap₂ (λ a j. a ++ numbers_text j zs) t on ∙ append_assoc (text ++ separator (at + i)) x (numbers_text (suc (at + i)) zs)
    ∙ append_assoc text (separator (at + i)) (x ++ numbers_text (suc (at + i)) zs) ∙ ap (λ ys. text ++ numbers_text (at + i) ys) (sym (left_next o p n i os h)))

pub numbers_over : (o : Order) (p : Primitive) (n : ℕ) (os : List ℕ) (at i : ℕ) (text0 text : List ℕ) → n ≤ i → NumbersGo o p n os at i text0 text
    → text ≡ text0 ++ numbers_text at (row_values o p n os)
numbers_over o p n os at i text0 text h go = go text (sym (append-nil text) ∙ ap (λ zs. text ++ numbers_text (at + i) zs) (sym (left_over o p n i os h)))

-- ## Numbers as bytes

abbrev pub digits_of : List ℤ → List ℕ
digits_of zs = nodes_digits (num_flats zs)

abbrev pub DigitsGo : Order → Primitive → ℕ → List ℕ → ℕ → List ℕ → List ℕ → Type 0
DigitsGo o p n os i text0 text = (text' : List ℕ) → text' ≡ text ++ digits_of (left o p n i os) → text' ≡ text0 ++ digits_of (row_values o p n os)

pub digits_begin : (o : Order) (p : Primitive) (n : ℕ) (os : List ℕ) (text : List ℕ) → DigitsGo o p n os 0 text text
digits_begin o p n os text text' e = e ∙ ap (λ zs. text ++ digits_of zs) (left_all o p n os)

pub digits_then : (o : Order) (p : Primitive) (n : ℕ) (os : List ℕ) (i w from : ℕ) (text0 text text1 : List ℕ) → i < n → w ≡ width p → from ≡ i * w
    → text1 ≡ text ++ byte_text (tree.Num (value_of_octets o p (take (from + w - from) (drop from os)))) → DigitsGo o p n os i text0 text → DigitsGo o p n os (i + 1) text0 text1
digits_then o p n os i w from text0 text text1 h ew ef e1 go text' e =
    let x = byte_text (tree.Num (value_of_octets o p (take (width p) (drop (i * width p) os)))) in
    let zs = left o p n (i + 1) os in
    let t : text1 ≡ text ++ x = e1 ∙ ap (λ b. text ++ byte_text (tree.Num (value_of_octets o p b))) (octets_of w from p i os ew ef) in
    go text' (e ∙ ap (λ a. a ++ digits_of zs) t ∙ append_assoc text x (digits_of zs) ∙ ap (λ ys. text ++ digits_of ys) (sym (left_next o p n i os h)))

pub digits_over : (o : Order) (p : Primitive) (n : ℕ) (os : List ℕ) (i : ℕ) (text0 text : List ℕ) → n ≤ i → DigitsGo o p n os i text0 text
    → text ≡ text0 ++ digits_of (row_values o p n os)
digits_over o p n os i text0 text h go = go text (sym (append-nil text) ∙ ap (λ zs. text ++ digits_of zs) (sym (left_over o p n i os h)))

small_digits : (b v : ℕ) → v ≡ b → b < 256 → byte_text (tree.Num (pos v)) ≡ hex_octet b
small_digits b v e h = ap (λ x. byte_text (tree.Num (pos x))) e ∙ ap (λ c. if c then hex_octet b else []) (lt-ltb b 256 h)

-- the digits of octets as bytes are those of the octets
bytes_digits : (o : Order) (os : List ℕ) → ((i : ℕ) → get_or os i 0 < 256) → octets_digits o os ≡ hex_text os
bytes_digits o [] h = refl
bytes_digits Big (b ∷ os) h =
    let v : b + 256 * 0 ≡ b = omega arith in
    ap₂ (λ x y. x ++ y) (small_digits b (b + 256 * 0) v (h 0)) (bytes_digits Big os (λ i. h (suc i)))
bytes_digits Little (b ∷ os) h =
    let v : b + 256 * 0 ≡ b = omega arith in
    ap₂ (λ x y. x ++ y) (small_digits b (b + 256 * 0) v (h 0)) (bytes_digits Little os (λ i. h (suc i)))

pub octets_written : (o : Order) (os text text' : List ℕ) → ((i : ℕ) → get_or os i 0 < 256) → text' ≡ text ++ hex_text os → text' ≡ text ++ octets_digits o os
octets_written o os text text' h e = e ∙ ap (λ x. text ++ x) (sym (bytes_digits o os h))

-- the digits of a row of bytes
pub row_of_bytes : (o : Order) (p : Primitive) (n : ℕ) (os text text' : List ℕ) → p ≡ Byte → length os ≡ n * width p → text' ≡ text ++ octets_digits o os
    → text' ≡ text ++ digits_of (row_values o p n os)
row_of_bytes o p n os text text' e l h =
    let one : width p ≡ 1 = ap width e in
    let long : length os ≡ n = l ∙ ap (λ k. n * k) one ∙ omega arith in
    h ∙ ap₂ (λ m q. text ++ digits_of (row_values o q m os)) long (sym e)

-- ## Walks

-- a number, then others
number_then : (table : Table) (elem n i : ℕ) (z : ℤ) (text text1 text' : List ℕ) (w w' : Trees) → text1 ≡ (text ++ separator i) ++ signed_decimal z
    → Writes table (replicate n elem) (listed (suc i)) text1 w text' w' → Writes table (replicate (suc n) elem) (listed i) text (more (node (tree.Num z) none) w) text' w'
number_then table elem n i z text text1 text' w w' e h =
    element_then table elem n i text (text ++ separator i) text1 text' (more (node (tree.Num z) none) w) w w' refl (λ b. (e, refl)) h

numbers_joined : (table : Table) (elem i : ℕ) (zs : List ℤ) (text text1 : List ℕ) (w : Trees) → text1 ≡ text ++ numbers_text i zs
    → WritesSome table elem i (length zs) text (joined (num_trees zs) w) text1 w
numbers_joined table elem i [] text text1 w e n text' w' h =
    let a : i + 0 ≡ i = omega arith in
    let b : n ≡ n + 0 = omega arith in
    subst (λ m. Writes table (replicate m elem) (listed i) text w text' w') b
    (subst (λ t. Writes table (replicate n elem) (listed i) t w text' w') (e ∙ append-nil text) (subst (λ j. Writes table (replicate n elem) (listed j) text1 w text' w') a h))
numbers_joined table elem i (z ∷ zs) text text1 w e n text' w' h =
    let a : i + suc (length zs) ≡ suc i + length zs = omega arith in
    let b : suc (n + length zs) ≡ n + suc (length zs) = omega arith in
    let x = signed_decimal z in
    let t : text1 ≡ ((text ++ separator i) ++ x) ++ numbers_text (suc i) zs =
    e ∙ sym (append_assoc text (separator i) (x ++ numbers_text (suc i) zs)) ∙ sym (append_assoc (text ++ separator i) x (numbers_text (suc i) zs)) in
    let rest : Writes table (replicate (n + length zs) elem) (listed (suc i)) ((text ++ separator i) ++ x) (joined (num_trees zs) w) text' w' =
    numbers_joined table elem (suc i) zs ((text ++ separator i) ++ x) text1 w t n text' w' (subst (λ j. Writes table (replicate n elem) (listed j) text1 w text' w') a h) in
    subst (λ m. Writes table (replicate m elem) (listed i) text (joined (num_trees (z ∷ zs)) w) text' w') b
    (number_then table elem (n + length zs) i z text ((text ++ separator i) ++ x) text' (joined (num_trees zs) w) w' refl rest)

-- the numbers of a row that a walk gave
pub row_written : (table : Table) (elem i k : ℕ) (zs : List ℤ) (text text1 : List ℕ) (w w1 : Trees) → length zs ≡ k → flat w ≡ num_flats zs ++ flat w1
    → text1 ≡ text ++ numbers_text i zs → WritesSome table elem i k text w text1 w1
row_written table elem i k zs text text1 w w1 l f e =
    subst (λ m. WritesSome table elem i m text w text1 w1) l
    (subst (λ v. WritesSome table elem i (length zs) text v text1 w1) (sym (rowed w w1 zs f)) (numbers_joined table elem i zs text text1 w1 e))

-- one element
pub one_written : (table : Table) (elem i : ℕ) (text text1 text2 : List ℕ) (w w0 w1 : Trees) → w0 ≡ w → text1 ≡ text ++ separator i
    → Writes table (elem ∷ []) first_text text1 w0 text2 w1 → WritesSome table elem i 1 text w text2 w1
one_written table elem i text text1 text2 w w0 w1 s e h n text' w' k =
    let a : i + 1 ≡ suc i = omega arith in
    let b : suc n ≡ n + 1 = omega arith in
    subst (λ m. Writes table (replicate m elem) (listed i) text w text' w') b
    (element_then table elem n i text text1 text2 text' w w1 w' e (subst (λ v. Writes table (elem ∷ []) first_text text1 v text2 w1) s h)
    (subst (λ j. Writes table (replicate n elem) (listed j) text2 w1 text' w') a k))

-- ## Bytes of walks

-- the digits of a row that a walk gave
pub row_digits : (k : ℕ) (zs : List ℤ) (text text' : List ℕ) (w w' : Trees) → length zs ≡ k → flat w ≡ num_flats zs ++ flat w' → text' ≡ text ++ digits_of zs
    → WritesBytes k text w text' w'
row_digits k zs text text' w w' l f e =
    let c = cut zs (flat w') in
    subst (λ m. WritesBytes m text w text' w') l
    (e ∙ ap (λ fs. text ++ nodes_digits fs) (sym (ap (take (length zs)) f ∙ c.0)), sym (ap (drop (length zs)) f ∙ c.1))
  where
    cut : (zs : List ℤ) (fs : List Flat) → (take (length zs) (num_flats zs ++ fs) ≡ num_flats zs) × (drop (length zs) (num_flats zs ++ fs) ≡ fs)
    cut [] fs = (refl, refl)
    cut (z ∷ zs) fs = let c = cut zs fs in (ap (λ gs. (tree.Num z, 0) ∷ gs) c.0, c.1)

-- some bytes, then others
pub bytes_on : (n m k : ℕ) (text0 text text' : List ℕ) (w0 w w' : Trees) → k ≡ n + m → WritesBytes n text0 w0 text w → WritesBytes m text w text' w' → WritesBytes k text0 w0 text' w'
bytes_on n m k text0 text text' w0 w w' e h g =
    let c = both n m (flat w0) in
    let fs = drop n (flat w0) in
    subst (λ j. WritesBytes j text0 w0 text' w') (sym e) (
      g.0 ∙ ap₂ (λ a gs. a ++ nodes_digits (take m gs)) h.0 h.1 ∙ append_assoc text0 (nodes_digits (take n (flat w0))) (nodes_digits (take m fs)) ∙ ap (λ x. text0 ++ x) c.0,
      g.1 ∙ ap (drop m) h.1 ∙ c.1,
    )
  where
    none_taken : (n : ℕ) → nodes_digits (take n []) ≡ []
    none_taken zero = refl
    none_taken (suc n) = refl

    none_left : (n : ℕ) (fs : List Flat) → fs ≡ [] → drop n fs ≡ []
    none_left zero fs e = e
    none_left (suc n) [] e = refl
    none_left (suc n) (f ∷ fs) e = cc

    both : (n m : ℕ) (fs : List Flat) → (nodes_digits (take n fs) ++ nodes_digits (take m (drop n fs)) ≡ nodes_digits (take (n + m) fs)) × (drop m (drop n fs) ≡ drop (n + m) fs)
    both zero m fs = let e : m ≡ zero + m = omega arith in (ap (λ k. nodes_digits (take k fs)) e, ap (λ k. drop k fs) e)
    both (suc n) m [] = (none_taken m ∙ sym (none_taken (suc n + m)), none_left m [] refl ∙ sym (none_left (suc n + m) [] refl))
    both (suc n) m (f ∷ fs) =
        let e : suc (n + m) ≡ suc n + m = omega arith in
        let c = both n m fs in
        (append_assoc (byte_text f.0) _ _ ∙ ap (λ x. byte_text f.0 ++ x) c.0 ∙ ap (λ k. nodes_digits (take k (f ∷ fs))) e, c.1 ∙ ap (λ k. drop k (f ∷ fs)) e)
