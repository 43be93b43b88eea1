-- Worked examples of responses with a request.
use Rattle.std.proofs.Common.{ℤ, true, false, List, [], ◌∷◌, ◌++◌, Option, Some, None, refl}
use Rattle.std.specs.Prelude.{pos}
use Rattle.nd_base.specs.declared.octets.Order.TheVariants.{Little}
use Rattle.nd_types.specs.declared.types.TypeDef.TheVariants as def
use Rattle.nd_types.specs.declared.types.Attr.TheVariants as attr
use Rattle.nd_types.specs.declared.types.Class.TheVariants.{Ref}
use Rattle.nd_types.specs.declared.types.Side.TheVariants as side
use Rattle.nd_types.specs.declared.types.Way.TheVariants as way
use Rattle.nd_types.specs.declared.types.TypeDef.{TypeDef}
use Rattle.nd_types.specs.declared.types.Param.{Param}
use Rattle.nd_types.specs.Kinds.{basic_types}
use Rattle.nd_types.specs.Layout.{align_of, hoists}
use Rattle.nd_types.specs.Roots.{roots_of}
use Rattle.nd_value.specs.declared.value.Graph.{Graph}
use Rattle.nd_value.specs.Tree as tree
use Rattle.nd_value.specs.Tree.{node}
use Rattle.nd_value.specs.Setting.{Setting}
use Rattle.nd_grammar.specs.declared.reason.Reason.TheVariants as reason
use Rattle.nd_grammar.specs.Stream.{Represents}
use Rattle.nd_grammar.specs.Refusal.{Bad}
use Rattle.nd_grammar.specs.ExampleParts.{param, field, attribute, id, num, pointer_to, one, two, cell, four}
use Rattle.example_ndr.proofs.Check.{represents_so, bad_so, partial_so}

abbrev pub response : List TypeDef → List Param → Option Graph → Setting
response types params given =
    record { table = basic_types ++ types; op = record { name = []; params = params; result = None }; side = side.Out; given = given }

-- void r([in] unsigned long n, [out, size_is(n)] byte a[*]), its array 12: n does not travel back
abbrev pub sized_back : Option Graph → Setting
sized_back given =
    response (def.Array (id 2) None false ∷ []) (param 8 ∷ (record { field = field 12 (attribute attr.Size 0); way = way.Out }) ∷ []) given

abbrev pub two_back : Graph
two_back = record { roots = node (tree.Arr 2 0) (two (num (pos 0xAB)) (num (pos 0xCD))) ∷ []; cells = [] }

abbrev pub asked : ℤ → Graph
asked n = record { roots = num n ∷ []; cells = [] }

-- without the request its size is free
pub size_free : Represents (sized_back None) Little (four 2 (0xAB ∷ 0xCD ∷ [])) two_back
unfolding align_of hoists roots_of
size_free = represents_so (sized_back None) Little (four 2 (0xAB ∷ 0xCD ∷ [])) two_back [] 20 refl tt refl refl refl refl

-- with one it is the request's number
pub size_given : Represents (sized_back (Some (asked (pos 2)))) Little (four 2 (0xAB ∷ 0xCD ∷ [])) two_back
unfolding align_of hoists roots_of
size_given = represents_so (sized_back (Some (asked (pos 2)))) Little (four 2 (0xAB ∷ 0xCD ∷ [])) two_back [] 20 refl tt refl refl refl refl

pub size_not_given : Bad (sized_back (Some (asked (pos 3)))) Little (four 2 (0xAB ∷ 0xCD ∷ [])) 0 (reason.Disagrees (pos 3) (pos 2))
unfolding align_of hoists roots_of
size_not_given =
    bad_so (sized_back (Some (asked (pos 3)))) Little (four 2 (0xAB ∷ 0xCD ∷ [])) 0 (reason.Disagrees (pos 3) (pos 2)) two_back [] 20 6 _ _
    (partial_so (sized_back (Some (asked (pos 3)))) two_back refl refl refl refl) refl tt refl refl refl refl refl

-- void s2([in, out] unsigned long *n, [out, size_is( *n)] byte a[*]), its array 12 and its reference pointer 13: n travels back, so
-- the response's own number counts, and the request's does not
abbrev pub sized_by_own : Option Graph → Setting
sized_by_own given =
    response (def.Array (id 2) None false ∷ def.Pointer Ref (id 8) ∷ [])
    ((record { field = field 13 []; way = way.InOut })
    ∷ (record { field = field 12 (record { attr = attr.Size; var = 0; star = true } ∷ []); way = way.Out }) ∷ [])
    given

abbrev pub one_back : Graph
one_back = record { roots = pointer_to 1 ∷ node (tree.Arr 1 0) (one (num (pos 7))) ∷ []; cells = cell 8 (num (pos 1)) ∷ [] }

abbrev pub asked_5 : Graph
asked_5 = record { roots = pointer_to 1 ∷ []; cells = cell 8 (num (pos 5)) ∷ [] }

pub own_number_counts : Represents (sized_by_own (Some asked_5)) Little (four 1 (four 1 (7 ∷ []))) one_back
unfolding align_of hoists roots_of
own_number_counts = represents_so (sized_by_own (Some asked_5)) Little (four 1 (four 1 (7 ∷ []))) one_back [] 20 refl tt refl refl refl refl
