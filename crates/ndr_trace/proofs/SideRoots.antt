-- The roots of a side, as the program gives them.
-- `k` are the octets with the partial graph in which they are refused, `u` is what the walk is given, `at` is the index of a root, `d` a root as the
-- program gives it, `r` a root, `o` an operation.
use Rattle.std.proofs.Common.{◌≡◌, ◌∙◌, ℕ, zero, suc, ◌≤◌, List, [], ◌∷◌, length, Option, Some, None, codes, map, refl, sym, ap, ap₂, subst, arith}
use Rattle.std.specs.List.{slice_get}
use Rattle.std.proofs.lemmas.List.{length-map}
use Rattle.std.proofs.lemmas.Option.{same_Some}
use Rattle.nd_types.specs.declared.walk.RootDef.{RootDef}
use Rattle.nd_types.specs.Roots.{Root, roots_of, NamedRoot, named_root, named_roots, root_value}
use Rattle.nd_value.specs.declared.item.Home.TheVariants as home
use Rattle.nd_value.specs.Setting.{Setting, root_list}
use Rattle.text_grammar.specs.Written.{root_name}
use Rattle.text_grammar.proofs.Names.{names_agree}
use Rattle.ndr_trace_value.specs.declared.progress.Ground.{Ground}
use Rattle.ndr_trace.specs.Homes.{IsRoot}
use Rattle.ndr_trace.specs.Sides.{IsSide}
use Rattle.ndr_trace_value.specs.Tracing.{Known}

-- what a list is mapped from
mapped_from : {X Y : Type 0} (f : X → Y) (xs : List X) (i : ℕ) (y : Y) → slice_get (map f xs) i ≡ Some y → (x : X) × (slice_get xs i ≡ Some x) × (f x ≡ y)
mapped_from f [] i y e = cc
mapped_from f (x ∷ xs) zero y e = (x, refl, same_Some _ _ e)
mapped_from f (x ∷ xs) (suc i) y e = mapped_from f xs i y e

pub root_of_walk : (k : Known) (u : Ground) (s : IsSide k u) (at : ℕ) (d : RootDef) → slice_get (named_roots u.interface.now.types u.side s.operation) at ≡ Some (root_value d)
    → IsRoot k at d
root_of_walk k u s at d e =
    let (r, there, same) = mapped_from (named_root s.operation) (roots_of u.interface.now.types u.side s.operation) at (root_value d) e in
    let in_list : slice_get (root_list k.setting) at ≡ Some r = ap (λ (w : Setting). slice_get (root_list w) at) s.setting ∙ there in
    record {
      its = r;
      there = in_list;
      of = ap (λ (x : NamedRoot). x.of) same;
      pipe = ap (λ (x : NamedRoot). x.is_pipe) same;
      name =
          sym (ap (λ (x : NamedRoot). x.name) same) ∙ sym (names_agree s.operation r)
          ∙ sym (ap (λ (w : Setting). root_name w.op.params r) s.setting)
          ∙ sym (ap (λ (o : Option Root). elim o [ None ↦ codes "root" | Some x ↦ root_name k.setting.op.params x ]) in_list);
    }

pub all_passed : (k : Known) (u : Ground) (s : IsSide k u) (at : ℕ) → length (named_roots u.interface.now.types u.side s.operation) ≤ at → length (root_list k.setting) ≤ at
all_passed k u s at h =
    let n : length (named_roots u.interface.now.types u.side s.operation) ≡ length (roots_of u.interface.now.types u.side s.operation) =
    length-map (roots_of u.interface.now.types u.side s.operation) (named_root s.operation) in
    let m : length (root_list k.setting) ≡ length (roots_of u.interface.now.types u.side s.operation) = ap (λ (w : Setting). length (root_list w)) s.setting in
    omega (arith, h, n, m)
