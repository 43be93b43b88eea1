-- The roots of a side are those that are no pipes, and then the pipes.
use Rattle.std.proofs.Common.{◌≡◌, ℕ, zero, suc, Bool, true, false, List, [], ◌∷◌, ◌++◌, Option, Some, None, refl, ap, sym, ◌∙◌, subst, take, drop}
use Rattle.std.specs.Prelude.{not, cond, filter}
use Rattle.std.specs.List.{AllByRecursion}
use Rattle.nd_types.specs.declared.types.Side.{Side}
use Rattle.nd_types.specs.declared.types.Side.TheVariants as side
use Rattle.nd_types.specs.declared.types.TypeId.{TypeId}
use Rattle.nd_types.specs.declared.types.Operation.{Operation}
use Rattle.nd_types.specs.Table.{Table}
use Rattle.nd_types.specs.Roots.{Root, params_from, result_root, roots_of}
use Rattle.nd_value.specs.Deferral.{before_pipes}
use Rattle.nd_value.specs.Setting.{Setting, root_list}
use Rattle.nd_value.proofs.Apart.{all_append}
use Rattle.ndr_code.specs.Code.{value_roots, pipe_roots}

abbrev IsPlain : Root → Type 0
IsPlain r = r.is_pipe ≡ false

abbrev IsPipe : Root → Type 0
IsPipe r = r.is_pipe ≡ true

no_values : (rs : List Root) → AllByRecursion IsPipe rs → value_roots rs ≡ []
no_values [] a = refl
no_values (r ∷ rs) a = subst (λ b. cond (not b) (r ∷ value_roots rs) (value_roots rs) ≡ []) (sym a.0) (no_values rs a.1)

all_pipes : (rs : List Root) → AllByRecursion IsPipe rs → pipe_roots rs ≡ rs
all_pipes [] a = refl
all_pipes (r ∷ rs) a = subst (λ b. cond b (r ∷ pipe_roots rs) (pipe_roots rs) ≡ r ∷ rs) (sym a.0) (ap (λ u. r ∷ u) (all_pipes rs a.1))

-- which roots are values, and which pipes
record IsParted (rs : List Root) : Type 0 where
  values : value_roots rs ≡ take (before_pipes rs) rs
  pipes : pipe_roots rs ≡ drop (before_pipes rs) rs

only_pipes : (rs : List Root) → AllByRecursion IsPipe rs → IsParted rs
only_pipes [] a = record { values = refl; pipes = refl }
only_pipes (r ∷ rs) a =
    let none_first : before_pipes (r ∷ rs) ≡ 0 = ap (λ b. elim b [ true ↦ 0 | false ↦ suc (before_pipes rs) ]) a.0 in
    record {
      values = no_values (r ∷ rs) a ∙ ap (λ n. take n (r ∷ rs)) (sym none_first);
      pipes = all_pipes (r ∷ rs) a ∙ ap (λ n. drop n (r ∷ rs)) (sym none_first);
    }

parted : (xs ys : List Root) → AllByRecursion IsPlain xs → AllByRecursion IsPipe ys → IsParted (xs ++ ys)
parted [] ys a b = only_pipes ys b
parted (x ∷ xs) ys a b =
    let rs : List Root = xs ++ ys in
    let k : IsParted rs = parted xs ys a.1 b in
    record {
      values = subst (λ b. cond (not b) (x ∷ value_roots rs) (value_roots rs) ≡ take (elim b [ true ↦ 0 | false ↦ suc (before_pipes rs) ]) (x ∷ rs)) (sym a.0) (ap (λ u. x ∷ u) k.values);
      pipes = subst (λ b. cond b (x ∷ pipe_roots rs) (pipe_roots rs) ≡ drop (elim b [ true ↦ 0 | false ↦ suc (before_pipes rs) ]) (x ∷ rs)) (sym a.0) k.pipes;
    }

values_plain : (rs : List Root) → AllByRecursion IsPlain (filter (λ r. not r.is_pipe) rs)
values_plain [] = tt
values_plain (r ∷ rs) = go r.is_pipe refl (values_plain rs)
  where
    go : (b : Bool) → r.is_pipe ≡ b → AllByRecursion IsPlain (filter (λ r. not r.is_pipe) rs)
        → AllByRecursion IsPlain (cond (not b) (r ∷ filter (λ r. not r.is_pipe) rs) (filter (λ r. not r.is_pipe) rs))
    go true e a = a
    go false e a = (e, a)

pipes_pipes : (rs : List Root) → AllByRecursion IsPipe (filter (λ r. r.is_pipe) rs)
pipes_pipes [] = tt
pipes_pipes (r ∷ rs) = go r.is_pipe refl (pipes_pipes rs)
  where
    go : (b : Bool) → r.is_pipe ≡ b → AllByRecursion IsPipe (filter (λ r. r.is_pipe) rs)
        → AllByRecursion IsPipe (cond b (r ∷ filter (λ r. r.is_pipe) rs) (filter (λ r. r.is_pipe) rs))
    go true e a = (e, a)
    go false e a = a

result_plain : (s : Side) (o : Option TypeId) → AllByRecursion IsPlain (result_root s o)
result_plain side.Out (Some t) = (refl, tt)
result_plain side.Out None = tt
result_plain side.In o = tt

side_parted : (table : Table) (s : Side) (o : Operation) → IsParted (roots_of table s o)
unfolding roots_of
side_parted table s o =
    let ps : List Root = params_from table s 0 o.params in
    let A : List Root = filter (λ r. not r.is_pipe) ps in
    let R : List Root = result_root s o.result in
    parted (A ++ R) (filter (λ r. r.is_pipe) ps) (all_append IsPlain A R (values_plain ps) (result_plain s o.result)) (pipes_pipes ps)

pub values_first : (w : Setting) → value_roots (root_list w) ≡ take (before_pipes (root_list w)) (root_list w)
values_first w = (side_parted w.table w.side w.op).values

pub pipes_last : (w : Setting) → pipe_roots (root_list w) ≡ drop (before_pipes (root_list w)) (root_list w)
pipes_last w = (side_parted w.table w.side w.op).pipes
