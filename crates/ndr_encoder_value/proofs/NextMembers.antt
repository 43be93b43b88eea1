-- The next nodes as members of a struct.
use Rattle.std.proofs.Common.{◌≡◌, ℕ, ◌+◌, ◌<◌, zero, suc, List, [], ◌∷◌, ◌++◌, length, refl, ap, ◌∙◌, arith, slice_index_or}
use Rattle.std.specs.Prelude.{drop}
use Rattle.nd_value.specs.Tree.{Flat}
use Rattle.ndr_encoder_laws.specs.written.Run.{here, later, after}
use Rattle.ndr_encoder_output.specs.declared.members.Member.{Member}
use Rattle.ndr_encoder_output.specs.Structs.{member_pieces, members_pieces}

-- the member at a place, and those after it
drop_one : (xs : List Member) (i : ℕ) (d : Member) → i < length xs → drop i xs ≡ slice_index_or xs i d ∷ drop (suc i) xs
drop_one [] i d h = absurd (omega (arith, h))
drop_one (x ∷ xs) zero d h = refl
drop_one (x ∷ xs) (suc i) d h = drop_one xs i d (omega (arith, h))

-- the pieces of members from a place on, one first
pub member_first : (xs : List Member) (i : ℕ) (d : Member) (fs : List Flat) → i < length xs
    → members_pieces (drop i xs) fs ≡ member_pieces (slice_index_or xs i d) (here fs) ++ members_pieces (drop (i + 1) xs) (later fs)
member_first xs i d fs h =
    ap (λ l. members_pieces l fs) (drop_one xs i d h)
    ∙ ap (λ k. member_pieces (slice_index_or xs i d) (here fs) ++ members_pieces (drop k xs) (later fs)) (let e : suc i ≡ i + 1 = omega arith in e)

-- the nodes after so many, and after one more
one_later : (i : ℕ) (fs : List Flat) → later (after i fs) ≡ after (suc i) fs
one_later zero fs = refl
one_later (suc i) fs = one_later i (later fs)

pub after_more : (i : ℕ) (fs gs hs : List Flat) → gs ≡ after i fs → hs ≡ later gs → hs ≡ after (i + 1) fs
after_more i fs gs hs e h = h ∙ ap later e ∙ one_later i fs ∙ ap (λ k. after k fs) (let s : suc i ≡ i + 1 = omega arith in s)
