-- Layouts and roots of some tables and operations.
use Rattle.std.proofs.Common.{◌≡◌, ℕ, zero, suc, ◌+◌, Bool, true, false, List, [], ◌∷◌, Option, Some, None, refl, map}
use Rattle.std.specs.Prelude.{pos}
use Rattle.nd_types.specs.declared.types.TypeDef.{TypeDef}
use Rattle.nd_types.specs.declared.types.TypeDef.TheVariants.{Struct, Union, Prim}
use Rattle.nd_types.specs.declared.types.Side.{Side}
use Rattle.nd_types.specs.declared.types.Side.TheVariants as side
use Rattle.nd_types.specs.declared.types.Way.TheVariants as way
use Rattle.nd_types.specs.declared.types.Operation.{Operation}
use Rattle.nd_types.specs.declared.TheConstants.{HANDLE}
use Rattle.nd_types.specs.Table.{Table}
use Rattle.nd_types.specs.Layout.{align_of, hoists, nests}
use Rattle.nd_types.specs.Roots.{roots_of}
use Rattle.nd_types.proofs.LegalExamples.{id, field, param, operation, arm, with, sums, directory, others}

-- the types of the roots, and the parameters that they are
abbrev types_of : Table → Side → Operation → List (ℕ × Option ℕ)
types_of types s o = map (λ r. (r.of, r.param)) (roots_of types s o)

-- list([in] 19, [out] 20), which gives a long
abbrev list : Operation
list = operation (param way.In 19 [] ∷ param way.Out 20 [] ∷ []) (Some (id 8))

pub list_in : types_of directory side.In list ≡ (19, Some 0) ∷ []
unfolding roots_of
list_in = refl

pub list_out : types_of directory side.Out list ≡ (20, Some 1) ∷ (8, None) ∷ []
unfolding roots_of
list_out = refl

-- put([in] handle_t, [in] 17, [in] 8, [in] 21): the handle is no root
abbrev put : Operation
put = operation (param way.In HANDLE.0 [] ∷ param way.In 17 [] ∷ param way.In 8 [] ∷ param way.In 21 [] ∷ []) None

pub put_in : types_of directory side.In put ≡ (17, Some 1) ∷ (8, Some 2) ∷ (21, Some 3) ∷ []
unfolding roots_of
put_in = refl

pub put_out : types_of directory side.Out put ≡ []
unfolding roots_of
put_out = refl

-- stream([in] pipe 12, [in, out] reference pointer 17 to it, [in] long, [in, out] 19), which gives a long: pipes stand last, after the result
abbrev stream : Operation
stream = operation (param way.In 12 [] ∷ param way.InOut 17 [] ∷ param way.In 7 [] ∷ param way.InOut 19 [] ∷ []) (Some (id 7))

pub stream_in : types_of others side.In stream ≡ (7, Some 2) ∷ (19, Some 3) ∷ (12, Some 0) ∷ (12, Some 1) ∷ []
unfolding roots_of
stream_in = refl

pub stream_out : types_of others side.Out stream ≡ (19, Some 3) ∷ (7, None) ∷ (12, Some 1) ∷ []
unfolding roots_of
stream_out = refl

-- alignments of the types from 12 on, and which of them hoist
abbrev layouts : Table → List ℕ → List (ℕ × Bool)
layouts types ts = map (λ t. (align_of types t, hoists types t)) ts

pub sums_layout : layouts sums (12 ∷ 13 ∷ 14 ∷ []) ≡ (8, true) ∷ (8, true) ∷ (4, false) ∷ []
unfolding align_of hoists
sums_layout = refl

pub directory_layout : layouts directory (12 ∷ 13 ∷ 14 ∷ 15 ∷ 16 ∷ 17 ∷ 18 ∷ 19 ∷ 20 ∷ 21 ∷ [])
    ≡ (2, false) ∷ (4, false) ∷ (4, false) ∷ (4, false) ∷ (4, false) ∷ (4, false) ∷ (4, true) ∷ (4, false) ∷ (4, false) ∷ (1, true) ∷ []
unfolding align_of hoists
directory_layout = refl

-- A union of empty arms with a long tag, in a struct, in another, and so on: so many types nest. The tag counts for the alignment and not for the depth.
abbrev chain : ℕ → ℕ → List TypeDef
chain zero t = []
chain (suc n) t = Struct (field t [] ∷ []) ∷ chain n (t + 1)

abbrev nested : ℕ → Table
nested n = with (Union (id 7) true (arm (pos 1) None ∷ []) None ∷ chain n 12)

pub nested_32 : nests 32 (nested 31) 43 ≡ true
nested_32 = refl

pub nested_33 : nests 32 (nested 32) 44 ≡ false
nested_33 = refl

pub nested_align : align_of (nested 31) 43 ≡ 4
unfolding align_of
nested_align = refl
