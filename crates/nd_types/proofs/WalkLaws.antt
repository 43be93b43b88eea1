-- What is left of a walk over the roots of a side, one parameter further.
use Rattle.std.proofs.Common.{◌≡◌, ℕ, suc, ◌+◌, ◌<◌, ◌≤◌, Bool, true, false, not, ◌&&◌, List, [], ◌∷◌, ◌++◌, length, drop, get_or, Option, Some, None, refl, ap, sym, ◌∙◌, map, append_assoc, cond}
use Rattle.std.proofs.Common.{if◌then◌else◌, add-one}
use Rattle.std.specs.Prelude.{filter, ◌==◌}
use mathlib.Core.Bool.{beq}
use Rattle.std.proofs.Math.Seq.{drop-cons}
use Rattle.std.proofs.lemmas.Option.{slice_get-get_or}
use Rattle.std.proofs.lemmas.List.{map-append, drop_all}
use Rattle.nd_types.specs.declared.types.Param.{Param}
use Rattle.nd_types.specs.declared.types.Operation.{Operation}
use Rattle.nd_types.specs.declared.types.Side.{Side}
use Rattle.nd_types.specs.declared.TheConstants.{HANDLE}
use Rattle.nd_types.specs.Table.{Table}
use Rattle.nd_types.specs.Roots.{Root, roots_of, root_of, root_by, pipe_of, params_from, travels, NamedRoot, named_root, named_roots, with_name, root_name, param_name, param_root, is_kind}
use Rattle.nd_types.specs.Roots.{params_left, result_left}

-- a root before others, where it is of this kind
abbrev pub kept : Bool → Option NamedRoot → List NamedRoot → List NamedRoot
kept pipes None others = others
kept pipes (Some r) others = if beq r.is_pipe pipes then r ∷ others else others

pub kept_same : (pipes : Bool) (r : NamedRoot) (others : List NamedRoot) → beq r.is_pipe pipes ≡ true → kept pipes (Some r) others ≡ r ∷ others
kept_same pipes r others e = ap (λ b. if b then r ∷ others else others) e

pub kept_other : (pipes : Bool) (r : NamedRoot) (others : List NamedRoot) → beq r.is_pipe pipes ≡ false → kept pipes (Some r) others ≡ others
kept_other pipes r others e = ap (λ b. if b then r ∷ others else others) e

param_of : (i : ℕ) (p : Param) (pipe : Option ℕ) → (root_by i p pipe).param ≡ Some i
param_of i p (Some t) = refl
param_of i p None = refl

module _ (types : Table) (side : Side) (o : Operation) (pipes : Bool) (i : ℕ) (p : Param) (there : i < length o.params) (is : p ≡ get_or o.params i p) where
  abbrev r : Root
  r = root_of types i p

  is_named : named_root o r ≡ with_name p.field.name r
  is_named =
      ap (λ at. with_name (root_name o at) r) (param_of i p (pipe_of types p.field.of.0))
      ∙ ap (λ q. with_name (param_name q) r) (slice_get-get_or o.params i p there ∙ ap Some (sym is))

  by_kind : (pipes b : Bool) → r.is_pipe ≡ b → (more : List Root)
      → map (named_root o) (filter (is_kind pipes) (r ∷ more)) ≡ kept pipes (Some (with_name p.field.name r)) (map (named_root o) (filter (is_kind pipes) more))
  by_kind true true e more =
      let others = filter (is_kind true) more in
      ap (λ b. map (named_root o) (cond b (r ∷ others) others)) e ∙ ap (λ x. x ∷ map (named_root o) others) is_named
      ∙ sym (kept_same true (with_name p.field.name r) (map (named_root o) others) (ap (λ b. beq b true) e))
  by_kind true false e more = rw e refl
  by_kind false true e more = rw e refl
  by_kind false false e more =
      let others = filter (is_kind false) more in
      ap (λ b. map (named_root o) (cond (not b) (r ∷ others) others)) e ∙ ap (λ x. x ∷ map (named_root o) others) is_named
      ∙ sym (kept_same false (with_name p.field.name r) (map (named_root o) others) (ap (λ b. beq b false) e))

  kind_kept : (more : List Root) → map (named_root o) (filter (is_kind pipes) (r ∷ more)) ≡ kept pipes (Some (with_name p.field.name r)) (map (named_root o) (filter (is_kind pipes) more))
  kind_kept more = by_kind pipes r.is_pipe refl more

  by_travels : (b : Bool) (more : List Root)
      → map (named_root o) (filter (is_kind pipes) (elim b [ true ↦ r ∷ more | false ↦ more ]))
      ≡ kept pipes (if b then Some (with_name p.field.name r) else None) (map (named_root o) (filter (is_kind pipes) more))
  by_travels true more = kind_kept more
  by_travels false more = refl

  pub params_left-step : params_left types side o pipes i ≡ kept pipes (param_root types side i p) (params_left types side o pipes (i + 1))
  params_left-step =
      ap (λ ps. map (named_root o) (filter (is_kind pipes) (params_from types side i ps)))
      (drop-cons o.params i p there ∙ ap (λ q. q ∷ drop (suc i) o.params) (sym is) ∙ ap (λ j. p ∷ drop j o.params) (sym (add-one i)))
      ∙ by_travels (travels side p.way && not (p.field.of.0 == HANDLE.0)) (params_from types side (i + 1) (drop (i + 1) o.params))

  -- it is the next one
  pub params_left-found : (r : NamedRoot) → Some r ≡ param_root types side i p → beq r.is_pipe pipes ≡ true
      → params_left types side o pipes i ≡ r ∷ params_left types side o pipes (i + 1)
  params_left-found r root same =
      let others = params_left types side o pipes (i + 1) in
      params_left-step ∙ ap (λ q. kept pipes q others) (sym root) ∙ kept_same pipes r others same

  -- it is none of these
  pub params_left-none : None ≡ param_root types side i p → params_left types side o pipes i ≡ params_left types side o pipes (i + 1)
  params_left-none root = params_left-step ∙ ap (λ q. kept pipes q (params_left types side o pipes (i + 1))) (sym root)

  pub params_left-other : (r : NamedRoot) → Some r ≡ param_root types side i p → beq r.is_pipe pipes ≡ false
      → params_left types side o pipes i ≡ params_left types side o pipes (i + 1)
  params_left-other r root other =
      let others = params_left types side o pipes (i + 1) in
      params_left-step ∙ ap (λ q. kept pipes q others) (sym root) ∙ kept_other pipes r others other

pub params_left-end : (types : Table) (side : Side) (o : Operation) (pipes : Bool) (i : ℕ) → length o.params ≤ i → params_left types side o pipes i ≡ []
params_left-end types side o pipes i past = ap (λ ps. map (named_root o) (filter (is_kind pipes) (params_from types side i ps))) (drop_all i o.params past)

-- the walk begins with all roots
pub named_roots-is : (types : Table) (side : Side) (o : Operation)
    → params_left types side o false 0 ++ (result_left side o ++ params_left types side o true 0) ≡ named_roots types side o
unfolding roots_of
named_roots-is types side o = simp (map-append, append_assoc)
