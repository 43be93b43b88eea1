-- The octets of context handles.
use Rattle.std.proofs.Common.{◌≡◌, ℕ, ◌^◌, ◌<◌, List, [], ◌∷◌, ◌++◌, length, take, drop, refl, ap, ap₂, ◌∙◌, arith}
use Rattle.std.specs.Prelude.{slice_index}
use Rattle.std.proofs.lemmas.List.{take_at, drop_at, drop_all, append-nil}
use borrow.Rule.Slice.PartMut.{put_mid}
use Rattle.uuid.specs.Parts.{swap_fields}
use Rattle.nd_base.specs.declared.octets.Order.{Order}
use Rattle.nd_base.specs.declared.octets.Order.TheVariants.{Big, Little}
use Rattle.nd_types.specs.Number.{AreOctets, spelling, unsigned}
use Rattle.nd_types.proofs.NumberLaws.{spelling-length, spelling-unsigned, unsigned-spelling}
use Rattle.ndr_prim.specs.Context.{identifier_octets, identifier, context_octets, attributes_of, identifier_of}

-- the first eight octets of an identifier, and the others
data Eight : List ℕ → Type 0 where
  eight : (x0 x1 x2 x3 x4 x5 x6 x7 : ℕ) (xs : List ℕ) → Eight (x0 ∷ x1 ∷ x2 ∷ x3 ∷ x4 ∷ x5 ∷ x6 ∷ x7 ∷ xs)

eight_of : (xs : List ℕ) → length xs ≡ 16 → Eight xs
eight_of [] e = absurd (omega (arith, e))
eight_of (x0 ∷ []) e = absurd (omega (arith, e))
eight_of (x0 ∷ x1 ∷ []) e = absurd (omega (arith, e))
eight_of (x0 ∷ x1 ∷ x2 ∷ []) e = absurd (omega (arith, e))
eight_of (x0 ∷ x1 ∷ x2 ∷ x3 ∷ []) e = absurd (omega (arith, e))
eight_of (x0 ∷ x1 ∷ x2 ∷ x3 ∷ x4 ∷ []) e = absurd (omega (arith, e))
eight_of (x0 ∷ x1 ∷ x2 ∷ x3 ∷ x4 ∷ x5 ∷ []) e = absurd (omega (arith, e))
eight_of (x0 ∷ x1 ∷ x2 ∷ x3 ∷ x4 ∷ x5 ∷ x6 ∷ []) e = absurd (omega (arith, e))
eight_of (x0 ∷ x1 ∷ x2 ∷ x3 ∷ x4 ∷ x5 ∷ x6 ∷ x7 ∷ xs) e = eight x0 x1 x2 x3 x4 x5 x6 x7 xs

-- eight octets one by one
each_of : (ys : List ℕ) → length ys ≡ 8
    → slice_index ys 0 ∷ slice_index ys 1 ∷ slice_index ys 2 ∷ slice_index ys 3 ∷ slice_index ys 4 ∷ slice_index ys 5 ∷ slice_index ys 6 ∷ slice_index ys 7 ∷ []
    ≡ ys
each_of [] e = absurd (omega (arith, e))
each_of (x0 ∷ []) e = absurd (omega (arith, e))
each_of (x0 ∷ x1 ∷ []) e = absurd (omega (arith, e))
each_of (x0 ∷ x1 ∷ x2 ∷ []) e = absurd (omega (arith, e))
each_of (x0 ∷ x1 ∷ x2 ∷ x3 ∷ []) e = absurd (omega (arith, e))
each_of (x0 ∷ x1 ∷ x2 ∷ x3 ∷ x4 ∷ []) e = absurd (omega (arith, e))
each_of (x0 ∷ x1 ∷ x2 ∷ x3 ∷ x4 ∷ x5 ∷ []) e = absurd (omega (arith, e))
each_of (x0 ∷ x1 ∷ x2 ∷ x3 ∷ x4 ∷ x5 ∷ x6 ∷ []) e = absurd (omega (arith, e))
each_of (x0 ∷ x1 ∷ x2 ∷ x3 ∷ x4 ∷ x5 ∷ x6 ∷ x7 ∷ []) e = refl
each_of (x0 ∷ x1 ∷ x2 ∷ x3 ∷ x4 ∷ x5 ∷ x6 ∷ x7 ∷ x8 ∷ ys) e = absurd (omega (arith, e))

-- in the order Big an identifier's octets are as they are kept
big_identifier : (xs : List ℕ) → Eight xs → xs ≡ identifier Big xs
big_identifier xs (eight x0 x1 x2 x3 x4 x5 x6 x7 ys) = refl

big_octets : (xs : List ℕ) → Eight xs → xs ≡ identifier_octets Big xs
big_octets xs (eight x0 x1 x2 x3 x4 x5 x6 x7 ys) = refl

-- in the order Little the first three fields are swapped
little_identifier : (xs : List ℕ) → Eight xs → length xs ≡ 16 → swap_fields xs ≡ identifier Little xs
little_identifier xs (eight x0 x1 x2 x3 x4 x5 x6 x7 ys) e =
    ap (λ (zs : List ℕ). x3 ∷ x2 ∷ x1 ∷ x0 ∷ x5 ∷ x4 ∷ x7 ∷ x6 ∷ zs) (each_of ys (omega (arith, e)))

little_octets : (xs : List ℕ) → Eight xs → length xs ≡ 16 → swap_fields xs ≡ identifier_octets Little xs
little_octets xs (eight x0 x1 x2 x3 x4 x5 x6 x7 ys) e =
    ap (λ (zs : List ℕ). x3 ∷ x2 ∷ x1 ∷ x0 ∷ x5 ∷ x4 ∷ x7 ∷ x6 ∷ zs) (each_of ys (omega (arith, e)))

-- one undoes the other
octets_back : (order : Order) (xs : List ℕ) → Eight xs → identifier_octets order (identifier order xs) ≡ xs
octets_back Big xs (eight x0 x1 x2 x3 x4 x5 x6 x7 ys) = refl
octets_back Little xs (eight x0 x1 x2 x3 x4 x5 x6 x7 ys) = refl

identifier_back : (order : Order) (xs : List ℕ) → Eight xs → identifier order (identifier_octets order xs) ≡ xs
identifier_back Big xs (eight x0 x1 x2 x3 x4 x5 x6 x7 ys) = refl
identifier_back Little xs (eight x0 x1 x2 x3 x4 x5 x6 x7 ys) = refl

-- by the length
pub big_identifier_is : (xs : List ℕ) → length xs ≡ 16 → xs ≡ identifier Big xs
big_identifier_is xs e = big_identifier xs (eight_of xs e)

pub big_octets_is : (xs : List ℕ) → length xs ≡ 16 → xs ≡ identifier_octets Big xs
big_octets_is xs e = big_octets xs (eight_of xs e)

pub little_identifier_is : (xs : List ℕ) → length xs ≡ 16 → swap_fields xs ≡ identifier Little xs
little_identifier_is xs e = little_identifier xs (eight_of xs e) e

pub little_octets_is : (xs : List ℕ) → length xs ≡ 16 → swap_fields xs ≡ identifier_octets Little xs
little_octets_is xs e = little_octets xs (eight_of xs e) e

-- a context handle that was written is read back
pub context_after_write : (order : Order) (attributes : ℕ) (id : List ℕ) → attributes < 2 ^ 32 → length id ≡ 16
    → (attributes_of order (context_octets order attributes id) ≡ attributes) × (identifier_of order (context_octets order attributes id) ≡ id)
context_after_write order attributes id small e =
    let os = spelling order 4 attributes in
    let ids = identifier_octets order id in
    let wide : length os ≡ 4 = spelling-length order 4 attributes in
    let front : take 4 (os ++ ids) ≡ os = take_at os ids 4 wide in
    let back : drop 4 (os ++ ids) ≡ ids = drop_at os ids 4 wide in (
      ap (unsigned order) front ∙ unsigned-spelling order 4 attributes (omega (arith, small)),
      ap (identifier order) back ∙ identifier_back order id (eight_of id e),
    )

-- and one that was read is written again
pub context_after_read : (order : Order) (octets : List ℕ) → length octets ≡ 20 → AreOctets octets
    → context_octets order (attributes_of order octets) (identifier_of order octets) ≡ octets
context_after_read order (a ∷ b ∷ c ∷ d ∷ xs) e h =
    ap (λ (os : List ℕ). os ++ identifier_octets order (identifier order xs))
    (spelling-unsigned order 4 (a ∷ b ∷ c ∷ d ∷ []) refl (h.0, (h.1.0, (h.1.1.0, (h.1.1.1.0, tt)))))
    ∙ ap (λ (os : List ℕ). a ∷ b ∷ c ∷ d ∷ os) (octets_back order xs (eight_of xs (omega (arith, e))))
context_after_read order [] e h = absurd (omega (arith, e))
context_after_read order (a ∷ []) e h = absurd (omega (arith, e))
context_after_read order (a ∷ b ∷ []) e h = absurd (omega (arith, e))
context_after_read order (a ∷ b ∷ c ∷ []) e h = absurd (omega (arith, e))

-- four octets and then sixteen are written over the whole of twenty
pub written_whole : (xs ys zs os ps : List ℕ) → length xs ≡ 4 → length ys ≡ 16 → xs ≡ os → zs ≡ ps → put_mid 4 16 (xs ++ ys) zs ≡ os ++ ps
written_whole xs ys zs os ps front back e f =
    let none : drop 16 ys ≡ [] = drop_all 16 ys (omega (arith, back)) in
    ap₂ (λ (u v : List ℕ). u ++ (zs ++ v)) (take_at xs ys 4 front) (ap (drop 16) (drop_at xs ys 4 front) ∙ none)
    ∙ ap₂ (λ (u v : List ℕ). u ++ v) e (append-nil zs ∙ f)
