-- A side of an operation has at most one root more than there may be parameters. Those before its pipes are no more than all.
use Rattle.std.proofs.Common.{◌≡◌, ℕ, ◌+◌, ◌≤◌, zero, suc, Bool, true, false, not, ◌&&◌, eqb, List, [], ◌∷◌, ◌++◌, length, Option, Some, None, ap, arith, length-append, cond}
use Rattle.std.specs.Prelude.{filter, nat_le}
use Rattle.std.specs.List.{slice_get, list_all}
use Rattle.std.proofs.lemmas.Bool.{and_parts, leb-true}
use Rattle.std.proofs.lemmas.List.{length-map}
use Rattle.std.proofs.lemmas.Option.{same_Some}
use Rattle.nd_value.specs.Deferral.{before_pipes}
use Rattle.nd_types.specs.declared.TheConstants.{HANDLE, PARAM_LIMIT}
use Rattle.nd_types.specs.declared.types.TypeId.{TypeId}
use Rattle.nd_types.specs.declared.types.Param.{Param}
use Rattle.nd_types.specs.declared.types.Operation.{Operation}
use Rattle.nd_types.specs.declared.types.Side.{Side}
use Rattle.nd_types.specs.declared.types.Side.TheVariants as side
use Rattle.nd_types.specs.Table.{Table}
use Rattle.nd_types.specs.Roots.{Root, roots_of, params_from, result_root, root_of, travels, named_root, named_roots}

parted : (rs : List Root) → length (filter (λ r. not r.is_pipe) rs) + length (filter (λ r. r.is_pipe) rs) ≡ length rs
parted [] = omega arith
parted (r ∷ rs) = go r.is_pipe (parted rs)
  where
    go : (b : Bool)
        → length (filter (λ r. not r.is_pipe) rs) + length (filter (λ r. r.is_pipe) rs) ≡ length rs
        → length (cond (not b) (r ∷ filter (λ r. not r.is_pipe) rs) (filter (λ r. not r.is_pipe) rs))
        + length (cond b (r ∷ filter (λ r. r.is_pipe) rs) (filter (λ r. r.is_pipe) rs))
        ≡ suc (length rs)
    go true e = omega (arith, e)
    go false e = omega (arith, e)

within : (b : Bool) (r : Root) (rs : List Root) (n : ℕ) → length rs ≤ n → length {A = Root} (elim b [ true ↦ r ∷ rs | false ↦ rs ]) ≤ suc n
within true r rs n h = omega (arith, h)
within false r rs n h = omega (arith, h)

pub few_params : (table : Table) (s : Side) (i : ℕ) (ps : List Param) → length (params_from table s i ps) ≤ length ps
few_params table s i [] = omega arith
few_params table s i (p ∷ ps) =
    within (travels s p.way && not (eqb p.field.of.0 HANDLE.0)) (root_of table i p) (params_from table s (i + 1) ps) (length ps) (few_params table s (i + 1) ps)

pub few_results : (s : Side) (t : Option TypeId) → length (result_root s t) ≤ 1
few_results side.In t = omega arith
few_results side.Out None = omega arith
few_results side.Out (Some t) = omega arith

few_roots_of : (table : Table) (s : Side) (o : Operation) → length (roots_of table s o) ≤ length o.params + 1
unfolding roots_of
few_roots_of table s o =
    let ps : List Root = params_from table s 0 o.params in
    let a : List Root = filter (λ r. not r.is_pipe) ps in
    let b : List Root = filter (λ r. r.is_pipe) ps in
    omega (arith, length-append (a ++ result_root s o.result) b, length-append a (result_root s o.result), parted ps, few_params table s 0 o.params, few_results s o.result)

one_few : (os : List Operation) (i : ℕ) (o : Operation) → list_all (λ o. nat_le (length o.params) PARAM_LIMIT) os ≡ true → slice_get os i ≡ Some o
    → length o.params ≤ PARAM_LIMIT
one_few [] i o h e = cc
one_few (p ∷ os) zero o h e =
    let (a, b) = and_parts (nat_le (length p.params) PARAM_LIMIT) (list_all (λ o. nat_le (length o.params) PARAM_LIMIT) os) h in
    let s : p ≡ o = same_Some p o e in
    let l : length p.params ≤ PARAM_LIMIT = leb-true (length p.params) PARAM_LIMIT a in
    let k : length p.params ≡ length o.params = ap (λ q. length q.params) s in
    omega (arith, l, k)
one_few (p ∷ os) (suc i) o h e =
    let (a, b) = and_parts (nat_le (length p.params) PARAM_LIMIT) (list_all (λ o. nat_le (length o.params) PARAM_LIMIT) os) h in
    one_few os i o b e

-- so it is for each operation of a legal interface
pub few_named_roots : (table : Table) (os : List Operation) (i : ℕ) (s : Side) (o : Operation)
    → list_all (λ o. nat_le (length o.params) PARAM_LIMIT) os ≡ true → slice_get os i ≡ Some o → length (named_roots table s o) ≤ PARAM_LIMIT + 1
few_named_roots table os i s o h e =
    omega (arith, one_few os i o h e, few_roots_of table s o, length-map (roots_of table s o) (named_root o))

pub few_before_pipes : (rs : List Root) → before_pipes rs ≤ length rs
few_before_pipes [] = omega arith
few_before_pipes (r ∷ rs) = go r.is_pipe (few_before_pipes rs)
  where
    go : (b : Bool) → before_pipes rs ≤ length rs → elim b [ true ↦ 0 | false ↦ suc (before_pipes rs) ] ≤ suc (length rs)
    go true h = omega arith
    go false h = omega (arith, h)
