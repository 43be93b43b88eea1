-- The code and the lists of a plan of a legal interface are those that steps look up.
use Rattle.std.proofs.Common.{◌≡◌, ℕ, ◌+◌, zero, suc, Bool, true, List, [], ◌∷◌, ◌++◌, length, take, drop, Some, refl, sym, ◌∙◌, subst, arith}
use Rattle.std.specs.Prelude.{not, false, ◌==◌, Option, slice_get}
use Rattle.std.specs.List.{list_all, starts_with}
use Rattle.std.proofs.lemmas.Option.{same_Some}
use Rattle.std.proofs.lemmas.Bool.{eqb-true}
use lib.Pointwise.{pointwise}
use Rattle.nd_types.specs.declared.types.Operation.{Operation}
use Rattle.nd_types.specs.declared.types.Primitive.{Primitive}
use Rattle.nd_types.specs.declared.types.TypeDef.TheVariants as def
use Rattle.nd_types.specs.Table.{Table}
use Rattle.nd_types.specs.Kinds.{prim_number, basic_types, basic_number, is_basic, is_same_basic}
use Rattle.nd_types.specs.Legal.{IsLegal}
use Rattle.nd_types.proofs.LegalLaws.{passes_at}
use Rattle.nd_lemmas.proofs.Booleans.{first_true as left_true, second_true as right_true}
use Rattle.ndr_code.specs.Code.{code_of, place_at, whole_at, type_runs, operations_code, values_of}
use Rattle.ndr_code.proofs.TypeRuns.{place_run_at}
use Rattle.ndr_code.proofs.SideLines.{type_listed, primitive_unlisted}
use Rattle.ndr_decoder_laws.specs.steps.Spots.{IsPlanned}

-- two numbers are there and equal, as the types' definitions have it
abbrev same_number : Option ℕ → Option ℕ → Bool
same_number (Some m) (Some n) = m == n
same_number _ _ = false

-- these basic types have the numbers from k on
abbrev AreNumbered : ℕ → Table → Type 0
AreNumbered k [] = Unit {0}
AreNumbered k (b ∷ bs) = (basic_number b ≡ Some k) × AreNumbered (suc k) bs

-- a table that begins with them, and has no basic type later, has each primitive at its number alone
own_number : (k : ℕ) (bs types : Table) (i : ℕ) (p : Primitive) → AreNumbered k bs → pointwise is_same_basic bs (take (length bs) types) ≡ true
    → list_all (λ d. not (is_basic d)) (drop (length bs) types) ≡ true → slice_get types i ≡ Some (def.Prim p) → k + i ≡ prim_number p
own_number k [] [] i p n same none at = cc
own_number k [] (d ∷ ds) i p n same none at =
    let wrong : not (is_basic (def.Prim p)) ≡ true = passes_at (λ d. not (is_basic d)) (d ∷ ds) i (def.Prim p) none at in cc
own_number k (b ∷ bs) [] i p n same none at = cc
own_number k (b ∷ bs) (d ∷ ds) zero p n same none at =
    let one : is_same_basic b d ≡ true = left_true (is_same_basic b d) (pointwise is_same_basic bs (take (length bs) ds)) same in
    let it : is_same_basic b (def.Prim p) ≡ true = subst (λ x. is_same_basic b x ≡ true) (same_Some d (def.Prim p) at) one in
    let numbered : same_number (Some k) (Some (prim_number p)) ≡ true = subst (λ o. same_number o (Some (prim_number p)) ≡ true) n.0 it in
    let e : k ≡ prim_number p = eqb-true k (prim_number p) numbered in omega (arith, e)
own_number k (b ∷ bs) (d ∷ ds) (suc i) p n same none at =
    let e : suc k + i ≡ prim_number p = own_number (suc k) bs ds i p n.1 (right_true (is_same_basic b d) (pointwise is_same_basic bs (take (length bs) ds)) same) none at in omega (arith, e)

pub planned_by : (types : Table) (operations : List Operation) → starts_with is_same_basic types basic_types ≡ true → list_all (λ d. not (is_basic d)) (drop (length basic_types) types) ≡ true
    → IsPlanned (code_of types operations) (values_of types) types
planned_by types operations basic no_later = record {
  place = λ t d e. place_run_at types operations t d e;
  empty_arm = (type_runs (place_at types) (whole_at types) types 0 types ++ operations_code types operations, refl);
  enumerated = λ t zs e. type_listed types t zs e;
  carried = λ t p e. (
    primitive_unlisted types t p e,
    (let z : 0 + t ≡ t = omega arith in sym z ∙ own_number 0 basic_types types t p (refl, (refl, (refl, (refl, (refl, (refl, (refl, (refl, (refl, (refl, (refl, (refl, tt)))))))))))) basic no_later e),
  );
}

pub planned : (types : Table) (operations : List Operation) → IsLegal types operations → IsPlanned (code_of types operations) (values_of types) types
planned types operations legal = planned_by types operations legal.basic legal.no_later_basic
