-- The attributes of a root are those of its parameter, so its line can be written from what a walk over the roots gives.
-- `o` is an operation, `s` a side, `r` a root, `p` a parameter, `i` its index.
use Rattle.std.proofs.Common.{◌≡◌, ◌∙◌, ℕ, suc, ◌+◌, Bool, true, false, not, List, [], ◌∷◌, ◌++◌, Option, Some, None, refl, ap, ap₂, sym, map, cond, arith}
use Rattle.std.specs.Prelude.{filter, ◌&&◌, eqb, decimal}
use Rattle.std.specs.List.{flat_map, slice_get}
use Rattle.nd_types.specs.declared.types.TypeId.{TypeId}
use Rattle.nd_types.specs.declared.types.Param.{Param}
use Rattle.nd_types.specs.declared.types.Operation.{Operation}
use Rattle.nd_types.specs.declared.types.Side.{Side}
use Rattle.nd_types.specs.declared.types.Side.TheVariants as side
use Rattle.nd_types.specs.declared.TheConstants.{HANDLE}
use Rattle.nd_types.specs.Table.{Table}
use Rattle.nd_types.specs.Fields.{param_fields}
use Rattle.nd_types.specs.Roots.{Root, roots_of, root_of, root_by, pipe_of, params_from, result_root, travels, named_root, named_roots}
use Rattle.idl_listing.specs.Listing.{line, side_word, attrs_words, root_line, side_lines}
use Rattle.idl_listing.specs.Worded.{vars_in, vars_at, named_line}

-- each root has the attributes of its parameter
abbrev Agree : Operation → List Root → Type 0
Agree o [] = Unit {0}
Agree o (r ∷ rs) = (r.vars ≡ vars_at o r.param) × Agree o rs

root_agrees : (o : Operation) (i : ℕ) (p : Param) → slice_get o.params i ≡ Some p → (pipe : Option ℕ)
    → (root_by i p pipe).vars ≡ vars_at o (root_by i p pipe).param
root_agrees o i p e (Some t) = sym (ap vars_in e)
root_agrees o i p e None = sym (ap vars_in e)

-- a root before others, where it is kept
by_travels : (o : Operation) (r : Root) (rs : List Root) → r.vars ≡ vars_at o r.param → Agree o rs → (b : Bool) → Agree o (elim b [ true ↦ r ∷ rs | false ↦ rs ])
by_travels o r rs h k true = (h, k)
by_travels o r rs h k false = k

by_test : (o : Operation) (r : Root) (rs : List Root) → r.vars ≡ vars_at o r.param → Agree o rs → (b : Bool) → Agree o (cond b (r ∷ rs) rs)
by_test o r rs h k true = (h, k)
by_test o r rs h k false = k

params_agree : (types : Table) (s : Side) (o : Operation) (i : ℕ) (ps : List Param) → ((j : ℕ) → slice_get o.params (i + j) ≡ slice_get ps j)
    → Agree o (params_from types s i ps)
params_agree types s o i [] h = tt
params_agree types s o i (p ∷ ps) h =
    let e : i ≡ i + 0 = omega arith in
    let here : slice_get o.params i ≡ Some p = ap (slice_get o.params) e ∙ h 0 in
    let rest = params_agree types s o (i + 1) ps (λ j. let f : i + 1 + j ≡ i + suc j = omega arith in ap (slice_get o.params) f ∙ h (suc j)) in
    by_travels o (root_of types i p) (params_from types s (i + 1) ps) (root_agrees o i p here (pipe_of types p.field.of.0)) rest
    (travels s p.way && not (eqb p.field.of.0 HANDLE.0))

filter_agrees : (o : Operation) (test : Root → Bool) (rs : List Root) → Agree o rs → Agree o (filter test rs)
filter_agrees o test [] h = tt
filter_agrees o test (r ∷ rs) h = by_test o r (filter test rs) h.0 (filter_agrees o test rs h.1) (test r)

both_agree : (o : Operation) (rs qs : List Root) → Agree o rs → Agree o qs → Agree o (rs ++ qs)
both_agree o [] qs h k = k
both_agree o (r ∷ rs) qs h k = (h.0, both_agree o rs qs h.1 k)

result_agrees : (o : Operation) (s : Side) (of : Option TypeId) → Agree o (result_root s of)
result_agrees o side.In None = tt
result_agrees o side.In (Some t) = tt
result_agrees o side.Out None = tt
result_agrees o side.Out (Some t) = (refl, tt)

roots_agree : (types : Table) (s : Side) (o : Operation) → Agree o (roots_of types s o)
unfolding roots_of
roots_agree types s o =
    let ps = params_from types s 0 o.params in
    let all = params_agree types s o 0 o.params (λ j. let e : 0 + j ≡ j = omega arith in ap (slice_get o.params) e) in
    both_agree o (filter (λ r. not r.is_pipe) ps ++ result_root s o.result) (filter (λ r. r.is_pipe) ps)
    (both_agree o (filter (λ r. not r.is_pipe) ps) (result_root s o.result) (filter_agrees o (λ r. not r.is_pipe) ps all) (result_agrees o s o.result))
    (filter_agrees o (λ r. r.is_pipe) ps all)

lines_agree : (o : Operation) (s : Side) (rs : List Root) → Agree o rs → flat_map (root_line o s) rs ≡ flat_map (named_line o s) (map (named_root o) rs)
lines_agree o s [] h = refl
lines_agree o s (r ∷ rs) h =
    ap₂ (λ t u. t ++ u)
    (ap (λ vs. line (side_word s ∷ (named_root o r).name ∷ decimal r.of ∷ attrs_words (param_fields o) vs)) h.0)
    (lines_agree o s rs h.1)

-- the lines of a side, by the roots that a walk gives
pub side_by_walk : (types : Table) (o : Operation) (s : Side) → side_lines types o s ≡ flat_map (named_line o s) (named_roots types s o)
side_by_walk types o s = lines_agree o s (roots_of types s o) (roots_agree types s o)
