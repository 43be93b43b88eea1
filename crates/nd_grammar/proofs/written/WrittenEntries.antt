-- The octets that are written for entries spell them.
use Rattle.std.proofs.Common.{◌≡◌, ℕ, ◌+◌, ◌^◌, ◌<◌, zero, suc, true, List, [], ◌∷◌, ◌++◌, length, Option, Some, None, refl, ap, ap₂, sym, ◌∙◌, arith, subst, take, drop, min, append_assoc}
use Rattle.std.proofs.Common.{length-append, length-take, length-drop}
use Rattle.std.specs.Prelude.{reverse}
use Rattle.std.specs.List.{AllByRecursion}
use Rattle.std.proofs.lemmas.List.{length-replicate, length-reverse}
use Rattle.nd_base.specs.declared.octets.Order.{Order}
use Rattle.nd_base.specs.declared.octets.Order.TheVariants.{Big, Little}
use Rattle.nd_types.specs.declared.types.Class.{Class}
use Rattle.nd_types.specs.declared.types.Class.TheVariants.{Ref, Unique, Full}
use Rattle.nd_types.specs.Table.{in_range}
use Rattle.nd_types.specs.Number.{unsigned, spelling, in_order}
use Rattle.nd_types.proofs.NumberLaws.{unsigned-spelling, spelling-length, written-length, read_after_write}
use Rattle.nd_grammar.specs.Entry.{Kind, Entry, Align, Max, Offset, Actual, Chunk, Number, Num, Tag, Text, Context, Test, Unread, size_at, gap, end_to_end, end_of}
use Rattle.nd_grammar.specs.Stream.{piece, Spells, IsNumber, IsRendered, id_octets, octets_of, octets_from, number_of_cell}
use Rattle.nd_grammar.proofs.conforming.Passed.{least_end}

-- a cell has a number of 32 bits, and not 0
abbrev pub Counted : (ℕ → ℕ) → ℕ → Type 0
Counted nums c = (0 < nums c) × (nums c < 2 ^ 32)

-- what can be written so that it is read back
abbrev pub CanWrite : (ℕ → ℕ) → Kind → Type 0
CanWrite nums (Max v) = v < 2 ^ 32
CanWrite nums (Offset t v) = v < 2 ^ 32
CanWrite nums (Actual t o l v) = v < 2 ^ 32
CanWrite nums (Chunk v) = v < 2 ^ 32
CanWrite nums (Number class to cell) = (c : ℕ) → cell ≡ Some c → Counted nums c
CanWrite nums (Num p values z) = in_range p z ≡ true
CanWrite nums (Tag p values arms default z) = in_range p z ≡ true
CanWrite nums (Context attributes id) = (attributes < 2 ^ 32) × (length id ≡ 16)
CanWrite nums Unread = ⊥
CanWrite nums _ = Unit {0}

abbrev pub Writable : (ℕ → ℕ) → Entry → Type 0
Writable nums m = CanWrite nums m.kind

front : (xs ys : List ℕ) (n : ℕ) → length xs ≡ n → take n (xs ++ ys) ≡ xs
front [] ys zero e = refl
front [] ys (suc n) e = absurd (omega arith)
front (x ∷ xs) ys zero e = absurd (omega arith)
front (x ∷ xs) ys (suc n) e = ap (λ u. x ∷ u) (front xs ys n (omega arith))

past : (xs ys : List ℕ) (n : ℕ) → length xs ≡ n → drop n (xs ++ ys) ≡ ys
past [] ys zero e = refl
past [] ys (suc n) e = absurd (omega arith)
past (x ∷ xs) ys zero e = absurd (omega arith)
past (x ∷ xs) ys (suc n) e = past xs ys n (omega arith)

module _ (order : Order) (nums : ℕ → ℕ) where
  counted_back : (v : ℕ) → v < 2 ^ 32 → unsigned order (spelling order 4 v) ≡ v
  counted_back v h = unsigned-spelling order 4 v h

  part_length : (which : Order) (n : ℕ) (xs : List ℕ) → length (in_order which (reverse (take n xs))) ≡ min n (length xs)
  part_length Big n xs = length-reverse (reverse (take n xs)) ∙ length-reverse (take n xs) ∙ length-take n xs
  part_length Little n xs = length-reverse (take n xs) ∙ length-take n xs

  id_length : (id : List ℕ) → length id ≡ 16 → length (id_octets order id) ≡ 16
  id_length id e =
      let a : List ℕ = in_order order (reverse (take 4 id)) in
      let b : List ℕ = in_order order (reverse (take 2 (drop 4 id))) in
      let c : List ℕ = in_order order (reverse (take 2 (drop 6 id))) in
      let la : length a ≡ min 4 (length id) = part_length order 4 id in
      let lb : length b ≡ min 2 (length (drop 4 id)) = part_length order 2 (drop 4 id) in
      let lc : length c ≡ min 2 (length (drop 6 id)) = part_length order 2 (drop 6 id) in
      omega (arith, la, lb, lc, length-drop 4 id, length-drop 6 id, length-drop 8 id, length-append ((a ++ b) ++ c) (drop 8 id), length-append (a ++ b) c, length-append a b)

  pub octets_length : (at : ℕ) (k : Kind) → CanWrite nums k → length (octets_of order nums at k) ≡ size_at at k
  octets_length at (Align n) h = length-replicate (gap at n) 0
  octets_length at (Max v) h = spelling-length order 4 v
  octets_length at (Offset t v) h = spelling-length order 4 v
  octets_length at (Actual t o l v) h = spelling-length order 4 v
  octets_length at (Chunk v) h = spelling-length order 4 v
  octets_length at (Number k to c) h = spelling-length order 4 (number_of_cell nums c)
  octets_length at (Num p vs z) h = written-length order p z
  octets_length at (Tag p vs arms default z) h = written-length order p z
  octets_length at (Text os) h = length-append os (0 ∷ []) ∙ omega arith
  octets_length at (Context a id) h =
      length-append (spelling order 4 a) (id_octets order id) ∙ ap₂ (λ u v. u + v) (spelling-length order 4 a) (id_length id h.1)
  octets_length at (Test a x y) h = refl
  octets_length at Unread h = absurd h

  number_spelt : (k : Class) (c : Option ℕ) → ((b : ℕ) → c ≡ Some b → Counted nums b) → IsNumber nums k c (unsigned order (spelling order 4 (number_of_cell nums c)))
  number_spelt Full None h = counted_back 0 (omega arith)
  number_spelt Unique None h = counted_back 0 (omega arith)
  number_spelt Ref None h = counted_back 0 (omega arith)
  number_spelt Full (Some c) h = counted_back (nums c) (h c refl).1
  number_spelt Unique (Some c) h = subst (λ u. 0 < u) (sym (counted_back (nums c) (h c refl).1)) (h c refl).0
  number_spelt Ref (Some c) h = tt

  pub octets_spell : (at : ℕ) (k : Kind) → CanWrite nums k → Spells order nums k (octets_of order nums at k)
  octets_spell at (Align n) h = tt
  octets_spell at (Max v) h = counted_back v h
  octets_spell at (Offset t v) h = counted_back v h
  octets_spell at (Actual t o l v) h = counted_back v h
  octets_spell at (Chunk v) h = counted_back v h
  octets_spell at (Number k to c) h = number_spelt k c h
  octets_spell at (Num p vs z) h = read_after_write order p z h
  octets_spell at (Tag p vs arms default z) h = read_after_write order p z h
  octets_spell at (Text os) h = refl
  octets_spell at (Context a id) h =
      let s : List ℕ = spelling order 4 a in
      let l : length s ≡ 4 = spelling-length order 4 a in
      (ap (unsigned order) (front s (id_octets order id) 4 l) ∙ counted_back a h.0, past s (id_octets order id) 4 l)
  octets_spell at (Test a x y) h = tt
  octets_spell at Unread h = absurd h

  -- entries that are written after other octets are spelt there
  pub record AreWritten (whole : List ℕ) (at : ℕ) (ms : List Entry) : Type 0 where
    pub rendered : AllByRecursion (IsRendered order nums whole) (end_to_end at ms)
    pub ends : length whole ≡ end_of at ms

  pub entries_written : (at : ℕ) (ms : List Entry) (before : List ℕ) → length before ≡ at → AllByRecursion (Writable nums) ms → AreWritten (before ++ octets_from order nums at ms) at ms
  entries_written at [] before e a = record { rendered = tt; ends = length-append before [] ∙ omega arith }
  entries_written at (m ∷ ms) before e a =
      let k : Kind = m.kind in
      let o : List ℕ = octets_of order nums at k in
      let next : ℕ = at + size_at at k in
      let rest : List ℕ = octets_from order nums next ms in
      let l : length o ≡ size_at at k = octets_length at k a.0 in
      let longer : length (before ++ o) ≡ next = length-append before o ∙ ap₂ (λ u v. u + v) e l in
      let moved : (before ++ o) ++ rest ≡ before ++ (o ++ rest) = append_assoc before o rest in
      let r : AreWritten (before ++ (o ++ rest)) next ms = subst (λ u. AreWritten u next ms) moved (entries_written next ms (before ++ o) longer a.1) in
      let p : piece (before ++ (o ++ rest)) at k ≡ o = ap (take (size_at at k)) (past before (o ++ rest) at e) ∙ front o rest (size_at at k) l in
      record {
        rendered = ((omega (arith, r.ends, least_end next ms), subst (Spells order nums k) (sym p) (octets_spell at k a.0)), r.rendered);
        ends = r.ends;
      }
