-- The roots of a side are parameters of the operation, or its result: so their attributes and numbers can be found by what a walk over them gives.
-- `o` is an operation, `s` a side, `r` a root, `p` a parameter, `i` its index.
use Rattle.std.proofs.Common.{◌≡◌, ◌∙◌, ℕ, zero, suc, ◌+◌, ◌<◌, Bool, true, false, not, List, [], ◌∷◌, ◌++◌, length, Option, Some, None, refl, ap, ap₂, sym, map, cond, arith}
use Rattle.std.specs.Prelude.{filter, ◌&&◌, eqb}
use Rattle.std.specs.List.{flat_map, slice_get}
use Rattle.std.proofs.lemmas.Option.{slice_get_within}
use Rattle.nd_types.specs.declared.types.TypeId.{TypeId}
use Rattle.nd_types.specs.declared.types.AttrVar.{AttrVar}
use Rattle.nd_types.specs.declared.types.Param.{Param}
use Rattle.nd_types.specs.declared.types.Operation.{Operation}
use Rattle.nd_types.specs.declared.types.Side.{Side}
use Rattle.nd_types.specs.declared.types.Side.TheVariants as side
use Rattle.nd_types.specs.declared.TheConstants.{HANDLE}
use Rattle.nd_types.specs.Table.{Table}
use Rattle.nd_types.specs.Roots.{Root, roots_of, root_of, root_by, root_index, pipe_of, params_from, result_root, travels, named_root, root_name, param_name}
use Rattle.ndr_code.specs.declared.instr.Instr.{Instr}
use Rattle.ndr_code.specs.Code.{root_checks, root_check, vars_checks}
use Rattle.ndr_plan.specs.Parts.{name_by, own_name}
use Rattle.ndr_plan.specs.Checks.{check_by, check_found, checks_by, vars_in, vars_at}

-- it is a parameter of the operation, or the result
abbrev pub IsOwn : Operation → Option ℕ → Type 0
IsOwn o None = Unit {0}
IsOwn o (Some i) = i < length o.params

-- each root has the attributes of its parameter, which is one of the operation
abbrev pub AreOwn : Operation → List Root → Type 0
AreOwn o [] = Unit {0}
AreOwn o (r ∷ rs) = (r.vars ≡ vars_at o r.param) × IsOwn o r.param × AreOwn o rs

root_vars : (o : Operation) (i : ℕ) (p : Param) → slice_get o.params i ≡ Some p → (pipe : Option ℕ)
    → (root_by i p pipe).vars ≡ vars_at o (root_by i p pipe).param
root_vars o i p e (Some t) = sym (ap vars_in e)
root_vars o i p e None = sym (ap vars_in e)

root_own : (o : Operation) (i : ℕ) (p : Param) → slice_get o.params i ≡ Some p → (pipe : Option ℕ) → IsOwn o (root_by i p pipe).param
root_own o i p e (Some t) = slice_get_within o.params i p e
root_own o i p e None = slice_get_within o.params i p e

-- a root before others, where it is kept
by_travels : (o : Operation) (r : Root) (rs : List Root) → r.vars ≡ vars_at o r.param → IsOwn o r.param → AreOwn o rs → (b : Bool)
    → AreOwn o (elim b [ true ↦ r ∷ rs | false ↦ rs ])
by_travels o r rs h w k true = (h, w, k)
by_travels o r rs h w k false = k

by_test : (o : Operation) (r : Root) (rs : List Root) → r.vars ≡ vars_at o r.param → IsOwn o r.param → AreOwn o rs → (b : Bool) → AreOwn o (cond b (r ∷ rs) rs)
by_test o r rs h w k true = (h, w, k)
by_test o r rs h w k false = k

params_own : (types : Table) (s : Side) (o : Operation) (i : ℕ) (ps : List Param) → ((j : ℕ) → slice_get o.params (i + j) ≡ slice_get ps j)
    → AreOwn o (params_from types s i ps)
params_own types s o i [] h = tt
params_own types s o i (p ∷ ps) h =
    let e : i ≡ i + 0 = omega arith in
    let here : slice_get o.params i ≡ Some p = ap (slice_get o.params) e ∙ h 0 in
    let rest = params_own types s o (i + 1) ps (λ j. let f : i + 1 + j ≡ i + suc j = omega arith in ap (slice_get o.params) f ∙ h (suc j)) in
    by_travels o (root_of types i p) (params_from types s (i + 1) ps) (root_vars o i p here (pipe_of types p.field.of.0)) (root_own o i p here (pipe_of types p.field.of.0)) rest
    (travels s p.way && not (eqb p.field.of.0 HANDLE.0))

filter_own : (o : Operation) (test : Root → Bool) (rs : List Root) → AreOwn o rs → AreOwn o (filter test rs)
filter_own o test [] h = tt
filter_own o test (r ∷ rs) h = by_test o r (filter test rs) h.0 h.1 (filter_own o test rs h.2) (test r)

both_own : (o : Operation) (rs qs : List Root) → AreOwn o rs → AreOwn o qs → AreOwn o (rs ++ qs)
both_own o [] qs h k = k
both_own o (r ∷ rs) qs h k = (h.0, h.1, both_own o rs qs h.2 k)

result_own : (o : Operation) (s : Side) (of : Option TypeId) → AreOwn o (result_root s of)
result_own o side.In None = tt
result_own o side.In (Some t) = tt
result_own o side.Out None = tt
result_own o side.Out (Some t) = (refl, tt, tt)

pub roots_own : (types : Table) (s : Side) (o : Operation) → AreOwn o (roots_of types s o)
unfolding roots_of
roots_own types s o =
    let ps = params_from types s 0 o.params in
    let all = params_own types s o 0 o.params (λ j. let e : 0 + j ≡ j = omega arith in ap (slice_get o.params) e) in
    both_own o (filter (λ r. not r.is_pipe) ps ++ result_root s o.result) (filter (λ r. r.is_pipe) ps)
    (both_own o (filter (λ r. not r.is_pipe) ps) (result_root s o.result) (filter_own o (λ r. not r.is_pipe) ps all) (result_own o s o.result))
    (filter_own o (λ r. r.is_pipe) ps all)

-- the check of an attribute by numbers is that by roots
same_check : (s : Side) (asked : List Root) (i : ℕ) (a : AttrVar) (v : Option ℕ) → check_found s i a v (root_index asked a.var 0) ≡ root_check s asked i a v
same_check s asked i a (Some v) = refl
same_check s asked i a None = refl

module _ (s : Side) (o : Operation) (here asked : List Root) where
  abbrev by_roots : ℕ → AttrVar → List Instr
  by_roots i a = check_by s (λ j. root_index here j 0) (λ j. root_index asked j 0) i a

  same_vars : (i : ℕ) (vars : List AttrVar) → flat_map (by_roots i) vars ≡ vars_checks s here asked i vars
  same_vars i [] = refl
  same_vars i (a ∷ vars) = ap₂ (λ xs ys. xs ++ ys) (same_check s asked i a (root_index here a.var 0)) (same_vars i vars)

  -- the agreements by what a walk gives are those of the roots
  pub same_checks : (i : ℕ) (rs : List Root) → AreOwn o rs → checks_by by_roots o i (map (named_root o) rs) ≡ root_checks s here asked i rs
  same_checks i [] h = refl
  same_checks i (r ∷ rs) h =
      let z : i + 1 ≡ suc i = omega arith in
      ap₂ (λ xs ys. xs ++ ys) (ap (λ vs. flat_map (by_roots i) vs) (sym h.0) ∙ same_vars i r.vars)
      (same_checks (i + 1) rs h.2 ∙ ap (λ k. root_checks s here asked k rs) z)

-- so each root has the name that is found by its parameter
same_name : (ps : List Param) (i : ℕ) → i < length ps → name_by (slice_get ps i) ≡ param_name (slice_get ps i)
same_name [] i h = absurd (omega (arith, h))
same_name (p ∷ ps) zero h = refl
same_name (p ∷ ps) (suc i) h = let k : i < length ps = omega (arith, h) in same_name ps i k

pub own_name_is : (o : Operation) (param : Option ℕ) → IsOwn o param → own_name o param ≡ root_name o param
own_name_is o None h = refl
own_name_is o (Some i) h = same_name o.params i h
