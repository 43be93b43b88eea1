-- The sides of plain operations have roots that are primitives.
use Rattle.std.proofs.Common.{◌≡◌, ℕ, zero, suc, ◌+◌, true, List, [], ◌∷◌, refl, ap, sym, ◌∙◌, subst}
use Rattle.std.specs.Prelude.{All, nat_lt}
use Rattle.std.specs.List.{list_all, slice_get}
use Rattle.std.specs.Cmp.Derive.{both_true}
use Rattle.std.proofs.lemmas.Option.{slice_get_within, get_or_from_slice_get}
use Rattle.nd_types.specs.declared.types.Param.{Param}
use Rattle.nd_types.specs.declared.types.Operation.{Operation}
use Rattle.nd_types.specs.declared.types.Side.{Side}
use Rattle.nd_types.specs.declared.types.Side.TheVariants as side
use Rattle.nd_types.specs.Table.{Table, type_at}
use Rattle.nd_types.specs.Kinds.{basic_types}
use Rattle.nd_types.specs.Roots.{roots_of, params_from}
use Rattle.nd_types.specs.Numbers.{is_number_root, has_number_roots, IsNumberSide}
use Rattle.nd_types.specs.Plain.{IsPlainParam, IsPlainOperation, IsPlainInterface, plain_roots, is_plain_type}
use Rattle.nd_types.proofs.PlainLaws.{plain_roots_in, all_head, all_tail}

number_type : (t : ℕ) → is_plain_type (type_at basic_types t) ≡ true → nat_lt t 11 ≡ true
number_type zero e = refl
number_type (suc zero) e = refl
number_type (suc (suc zero)) e = refl
number_type (suc (suc (suc zero))) e = refl
number_type (suc (suc (suc (suc zero)))) e = refl
number_type (suc (suc (suc (suc (suc zero))))) e = refl
number_type (suc (suc (suc (suc (suc (suc zero)))))) e = refl
number_type (suc (suc (suc (suc (suc (suc (suc zero))))))) e = refl
number_type (suc (suc (suc (suc (suc (suc (suc (suc zero)))))))) e = refl
number_type (suc (suc (suc (suc (suc (suc (suc (suc (suc zero))))))))) e = refl
number_type (suc (suc (suc (suc (suc (suc (suc (suc (suc (suc zero)))))))))) e = refl
number_type (suc (suc (suc (suc (suc (suc (suc (suc (suc (suc (suc zero))))))))))) e = cc
number_type (suc (suc (suc (suc (suc (suc (suc (suc (suc (suc (suc (suc t)))))))))))) e = cc

all_numbers : (i : ℕ) (ps : List Param) → All IsPlainParam ps → list_all is_number_root (plain_roots i ps) ≡ true
all_numbers i [] h = refl
all_numbers i (p ∷ ps) h =
    both_true (number_type p.field.of.0 (all_head IsPlainParam p ps h).integer) (all_numbers (i + 1) ps (all_tail IsPlainParam p ps h))

none_out : (i : ℕ) (ps : List Param) → All IsPlainParam ps → params_from basic_types side.Out i ps ≡ []
none_out i [] h = refl
none_out i (p ∷ ps) h = rw (all_head IsPlainParam p ps h).way (none_out (i + 1) ps (all_tail IsPlainParam p ps h))

plain_roots_out : (o : Operation) → IsPlainOperation o → roots_of basic_types side.Out o ≡ []
unfolding roots_of
plain_roots_out o h = rw (none_out 0 o.params h.params, h.no_result) refl

of_operation : (o : Operation) → IsPlainOperation o → (s : Side) → has_number_roots basic_types s o ≡ true
of_operation o h side.In = ap (list_all is_number_root) (plain_roots_in o h) ∙ all_numbers 0 o.params h.params
of_operation o h side.Out = ap (list_all is_number_root) (plain_roots_out o h)

-- each side of a plain interface
pub plain_numbers : (types : Table) (operations : List Operation) → IsPlainInterface types operations → (n : ℕ) (s : Side) → IsNumberSide types operations n s
plain_numbers types operations h n s o there =
    let plain : IsPlainOperation o = subst IsPlainOperation (get_or_from_slice_get operations n o o there) (h.plain n o (slice_get_within operations n o there)) in
    subst (λ (t : Table). has_number_roots t s o ≡ true) (sym h.basic) (of_operation o plain s)
