-- What octets below 256 give: counts of 32 bits, values in their ranges, octets and identifiers of the program.
use Rattle.std.proofs.Common.{◌≡◌, ℕ, ◌+◌, ◌^◌, ◌<◌, zero, suc, true, List, [], ◌∷◌, length, Option, Some, None, refl, ap, ◌∙◌, arith, subst, replicate, take, drop, length-drop}
use Rattle.std.specs.Prelude.{pos, eqb}
use Rattle.std.specs.List.{list_all}
use Rattle.std.proofs.lemmas.Bool.{and_from, lt-ltb}
use Rattle.nd_base.specs.declared.octets.Order.{Order}
use Rattle.nd_base.specs.declared.octets.Order.TheVariants.{Big, Little}
use Rattle.nd_types.specs.declared.types.Primitive.{Primitive}
use Rattle.nd_types.specs.declared.types.Primitive.TheVariants.{Boolean}
use Rattle.nd_types.specs.Table.{width, in_range}
use Rattle.nd_types.specs.Number.{AreOctets}
use Rattle.nd_value.specs.declared.item.Home.{Home}
use Rattle.nd_value.specs.Misfit.{is_octet}
use Rattle.nd_grammar.specs.Entry.{Kind, size_at}
use Rattle.nd_grammar.specs.Stream.{piece}
use Rattle.nd_grammar.specs.Refusal.{refusal}
use Rattle.nd_grammar.specs.Reader.{Progress, here, taken, number_in, value_in, text_in, attributes_in, identifier, identifier_in}
use Rattle.nd_grammar.proofs.reader.Ranges.{value_in_range, below_4, drop_octets, take_octets}
use Rattle.nd_grammar.proofs.reader.ReaderNodes.{accepted_kind, accepted_by}

zero_in_range : (p : Primitive) → in_range p (pos 0) ≡ true
zero_in_range Boolean = refl
zero_in_range _ = refl

octet_list : (os : List ℕ) → AreOctets os → list_all is_octet os ≡ true
octet_list [] a = refl
octet_list (b ∷ os) a = and_from _ _ (lt-ltb b 256 a.0) (octet_list os a.1)

zeros : (n : ℕ) → AreOctets (replicate n 0)
zeros zero = tt
zeros (suc n) = (omega arith, zeros n)

-- octets that were taken are octets, as many as their entry has
abbrev pub Took : ℕ → Option (List ℕ) → Type 0
Took n o = (os : List ℕ) → o ≡ Some os → AreOctets os × (length os ≡ n)

module _ (order : Order) (octets : List ℕ) (all : AreOctets octets) where
  pub took : (h : Home) (n : ℕ) (k : Kind) (p : Progress) → Took (size_at p.at k) (taken order octets (record { home = h; node = n; kind = k }) p)
  took h n k p os e =
      let (a, b, l) = accepted_kind order octets h n k p os e in
      let (c, f) = accepted_by p.stop (refusal order octets p.seen (here p (record { home = h; node = n; kind = k }))) (piece octets p.at k) os e in
      (subst AreOctets f (take_octets (size_at p.at k) (drop p.at octets) (drop_octets p.at octets all)), l)

  pub number_small : (o : Option (List ℕ)) → Took 4 o → number_in order octets o < 2 ^ 32
  number_small None f = omega arith
  number_small (Some os) f = let (a, l) = f os refl in below_4 order os l a

  pub value_ranged : (p : Primitive) (o : Option (List ℕ)) → Took (width p) o → in_range p (value_in order octets p o) ≡ true
  value_ranged p None f = zero_in_range p
  value_ranged p (Some os) f = let (a, l) = f os refl in value_in_range order p os l a

  pub text_octets : (n m : ℕ) (o : Option (List ℕ)) → Took m o → list_all is_octet (text_in order octets n o) ≡ true
  text_octets n m None f = octet_list (replicate n 0) (zeros n)
  text_octets n m (Some os) f = let (a, l) = f os refl in octet_list (take n os) (take_octets n os a)

  short_take : (n : ℕ) (os : List ℕ) → length os ≡ n + 16 → length (take n os) ≡ n
  short_take zero os e = refl
  short_take (suc n) [] e = absurd (omega arith)
  short_take (suc n) (b ∷ os) e = ap suc (short_take n os (omega arith))

  pub attributes_small : (o : Option (List ℕ)) → Took 20 o → attributes_in order octets o < 2 ^ 32
  attributes_small None f = omega arith
  attributes_small (Some os) f = let (a, l) = f os refl in below_4 order (take 4 os) (short_take 4 os (omega arith)) (take_octets 4 os a)

  -- an identifier has 16 octets
  pub record IsIdentifier (id : List ℕ) : Type 0 where
    pub are_octets : list_all is_octet id ≡ true
    pub sixteen : eqb (length id) 16 ≡ true

  by_order : (which : Order) (b0 b1 b2 b3 b4 b5 b6 b7 b8 b9 b10 b11 b12 b13 b14 b15 : ℕ)
      → AreOctets (b0 ∷ b1 ∷ b2 ∷ b3 ∷ b4 ∷ b5 ∷ b6 ∷ b7 ∷ b8 ∷ b9 ∷ b10 ∷ b11 ∷ b12 ∷ b13 ∷ b14 ∷ b15 ∷ [])
      → IsIdentifier (identifier which octets (b0 ∷ b1 ∷ b2 ∷ b3 ∷ b4 ∷ b5 ∷ b6 ∷ b7 ∷ b8 ∷ b9 ∷ b10 ∷ b11 ∷ b12 ∷ b13 ∷ b14 ∷ b15 ∷ []))
  by_order Little b0 b1 b2 b3 b4 b5 b6 b7 b8 b9 b10 b11 b12 b13 b14 b15 a = record {
    are_octets =
        octet_list (b3 ∷ b2 ∷ b1 ∷ b0 ∷ b5 ∷ b4 ∷ b7 ∷ b6 ∷ b8 ∷ b9 ∷ b10 ∷ b11 ∷ b12 ∷ b13 ∷ b14 ∷ b15 ∷ [])
        (a.1.1.1.0, (a.1.1.0, (a.1.0, (a.0, (a.1.1.1.1.1.0, (a.1.1.1.1.0, (a.1.1.1.1.1.1.1.0, (a.1.1.1.1.1.1.0, a.1.1.1.1.1.1.1.1))))))));
    sixteen = refl;
  }
  by_order Big b0 b1 b2 b3 b4 b5 b6 b7 b8 b9 b10 b11 b12 b13 b14 b15 a =
      record { are_octets = octet_list (b0 ∷ b1 ∷ b2 ∷ b3 ∷ b4 ∷ b5 ∷ b6 ∷ b7 ∷ b8 ∷ b9 ∷ b10 ∷ b11 ∷ b12 ∷ b13 ∷ b14 ∷ b15 ∷ []) a; sixteen = refl }

  by_list : (os : List ℕ) → length os ≡ 16 → AreOctets os → IsIdentifier (identifier order octets os)
  by_list [] e a = absurd (omega arith)
  by_list (b0 ∷ []) e a = absurd (omega arith)
  by_list (b0 ∷ b1 ∷ []) e a = absurd (omega arith)
  by_list (b0 ∷ b1 ∷ b2 ∷ []) e a = absurd (omega arith)
  by_list (b0 ∷ b1 ∷ b2 ∷ b3 ∷ []) e a = absurd (omega arith)
  by_list (b0 ∷ b1 ∷ b2 ∷ b3 ∷ b4 ∷ []) e a = absurd (omega arith)
  by_list (b0 ∷ b1 ∷ b2 ∷ b3 ∷ b4 ∷ b5 ∷ []) e a = absurd (omega arith)
  by_list (b0 ∷ b1 ∷ b2 ∷ b3 ∷ b4 ∷ b5 ∷ b6 ∷ []) e a = absurd (omega arith)
  by_list (b0 ∷ b1 ∷ b2 ∷ b3 ∷ b4 ∷ b5 ∷ b6 ∷ b7 ∷ []) e a = absurd (omega arith)
  by_list (b0 ∷ b1 ∷ b2 ∷ b3 ∷ b4 ∷ b5 ∷ b6 ∷ b7 ∷ b8 ∷ []) e a = absurd (omega arith)
  by_list (b0 ∷ b1 ∷ b2 ∷ b3 ∷ b4 ∷ b5 ∷ b6 ∷ b7 ∷ b8 ∷ b9 ∷ []) e a = absurd (omega arith)
  by_list (b0 ∷ b1 ∷ b2 ∷ b3 ∷ b4 ∷ b5 ∷ b6 ∷ b7 ∷ b8 ∷ b9 ∷ b10 ∷ []) e a = absurd (omega arith)
  by_list (b0 ∷ b1 ∷ b2 ∷ b3 ∷ b4 ∷ b5 ∷ b6 ∷ b7 ∷ b8 ∷ b9 ∷ b10 ∷ b11 ∷ []) e a = absurd (omega arith)
  by_list (b0 ∷ b1 ∷ b2 ∷ b3 ∷ b4 ∷ b5 ∷ b6 ∷ b7 ∷ b8 ∷ b9 ∷ b10 ∷ b11 ∷ b12 ∷ []) e a = absurd (omega arith)
  by_list (b0 ∷ b1 ∷ b2 ∷ b3 ∷ b4 ∷ b5 ∷ b6 ∷ b7 ∷ b8 ∷ b9 ∷ b10 ∷ b11 ∷ b12 ∷ b13 ∷ []) e a = absurd (omega arith)
  by_list (b0 ∷ b1 ∷ b2 ∷ b3 ∷ b4 ∷ b5 ∷ b6 ∷ b7 ∷ b8 ∷ b9 ∷ b10 ∷ b11 ∷ b12 ∷ b13 ∷ b14 ∷ []) e a = absurd (omega arith)
  by_list (b0 ∷ b1 ∷ b2 ∷ b3 ∷ b4 ∷ b5 ∷ b6 ∷ b7 ∷ b8 ∷ b9 ∷ b10 ∷ b11 ∷ b12 ∷ b13 ∷ b14 ∷ b15 ∷ []) e a = by_order order b0 b1 b2 b3 b4 b5 b6 b7 b8 b9 b10 b11 b12 b13 b14 b15 a
  by_list (b0 ∷ b1 ∷ b2 ∷ b3 ∷ b4 ∷ b5 ∷ b6 ∷ b7 ∷ b8 ∷ b9 ∷ b10 ∷ b11 ∷ b12 ∷ b13 ∷ b14 ∷ b15 ∷ b16 ∷ rest) e a = absurd (omega arith)

  pub identified : (o : Option (List ℕ)) → Took 20 o → IsIdentifier (identifier_in order octets o)
  identified None f = record { are_octets = refl; sixteen = refl }
  identified (Some os) f =
      let (a, l) = f os refl in
      by_list (drop 4 os) (length-drop 4 os ∙ omega arith) (drop_octets 4 os a)
