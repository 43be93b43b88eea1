-- Fewer nodes are left to a walk after each node, and the items that it takes are enough.
-- `f` and `least` give a number for each type, `d` is a type, `l` a label, `ks` are its children, `p` and `p1` how far a walk came before and after the
-- items of a node, `r` is what passing them gives.
use Rattle.std.proofs.Common.{◌≡◌, ◌∙◌, ℕ, zero, suc, ◌+◌, ◌*◌, ◌^◌, ◌<◌, ◌≤◌, ℤ, Bool, true, false, List, []}
use Rattle.std.proofs.Common.{◌∷◌, ◌++◌, drop, length, reverse, replicate, map, Option, Some, None, refl, sym, ap, ap₂, subst, arith}
use Rattle.std.specs.Prelude.{Err, IfOk, Ok, Result, not, unwrap_or, ◌&&◌}
use Rattle.std.specs.List.{AllByRecursion, list_all}
use Rattle.std.proofs.lemmas.Result.{IfOk-weaker}
use Rattle.nd_lemmas.proofs.Booleans.{first_true, second_true}
use Rattle.nd_types.specs.declared.types.Arm.{Arm}
use Rattle.nd_types.specs.declared.types.Operation.{Operation}
use Rattle.nd_types.specs.declared.types.TypeDef.{TypeDef}
use Rattle.nd_types.specs.declared.types.TypeDef.TheVariants as def
use Rattle.nd_types.specs.declared.TheConstants.{NESTING_LIMIT}
use Rattle.nd_types.specs.Layout.{arm_type, arm_types, default_type, nests, parts}
use Rattle.nd_types.specs.declared.types.Field.{Field}
use Rattle.nd_types.specs.declared.types.TypeId.{TypeId}
use Rattle.nd_types.specs.Legal.{IsLegal, fits_pipes, has_none_within, has_pipe_element, is_barred_in_pipes, pointee_of, tag_of}
use Rattle.std.specs.Ordering.{int_eq}
use Rattle.nd_types.specs.Table.{Table, labelled, or_else, selected, type_at}
use Rattle.nd_types.proofs.LayoutLaws.{shallow_all}
use Rattle.nd_types.proofs.LegalLaws.{passes_at}
use Rattle.nd_value.specs.Nodes.{child_types, selected_types}
use Rattle.nd_value.specs.Tree as tree
use Rattle.nd_value.specs.Tree.{Flat, Label, Trees, count}
use Rattle.ndr_explain.specs.declared.levels.Level.{Level}
use Rattle.ndr_explain.specs.declared.levels.Levels.{Levels}
use Rattle.nd_value.proofs.Apart.{all_left}
use Rattle.nd_grammar.specs.ReaderState.{Known}
use Rattle.nd_grammar.proofs.legal.LegalReadable.{named_known}
use Rattle.nd_grammar.proofs.reader.FewNodes.{some_members}
use Rattle.text_grammar.specs.Paths.{child_paths}
use Rattle.ndr_explain.specs.Cursors.{AreLevelsOf, HasChild, IsChildLevel, IsLevelOf, inner_types, level_types, pipe_element, types_after, types_from}
use Rattle.ndr_trace_value.specs.declared.progress.Halt.{Halt}
use Rattle.ndr_trace_value.specs.declared.progress.Progress.{Progress}
use Rattle.ndr_trace_value.specs.declared.shapes.Shape.{Shape}
use Rattle.ndr_trace_value.specs.Walking.{flat_shape}
use Rattle.ndr_trace_value.proofs.LevelWalk.{inner_types_are, level_has_child, so_many, trees_of}
use Rattle.ndr_trace_value.specs.Left.{GoesDown, HaveTaken, items_left, least_by, least_items, least_within, most_nodes, most_within, nodes_left, total}

-- ## Sums

total_append : (f : ℕ → ℕ) (xs ys : List ℕ) → total f (xs ++ ys) ≡ total f xs + total f ys
total_append f [] ys = omega arith
total_append f (x ∷ xs) ys = let h = total_append f xs ys in omega (arith, h)

pub total_replicate : (f : ℕ → ℕ) (n t : ℕ) → total f (replicate n t) ≡ n * f t
total_replicate f zero t = omega arith
total_replicate f (suc n) t =
    let h = total_replicate f n t in
    let e : suc n * f t ≡ f t + n * f t = omega arith in
    omega (arith, h, e)

pub times_less : (c b x : ℕ) → c ≤ b → c * x ≤ b * x
times_less zero b x h = omega arith
times_less (suc c) zero x h = absurd (omega (arith, h))
times_less (suc c) (suc b) x h =
    let i = times_less c b x (omega (arith, h)) in
    let e : suc c * x ≡ x + c * x = omega arith in
    let f : suc b * x ≡ x + b * x = omega arith in
    omega (arith, i, e, f)

-- ## The children of a node

module _ (f : ℕ → ℕ) where
  labelled_total : (arms : List Arm) (z : ℤ) → total f (selected_types (labelled arms z)) ≤ total f (arm_types arms)
  labelled_total [] z = omega arith
  labelled_total (a ∷ arms) z = by (int_eq a.label z) (total_append f (arm_type a) (arm_types arms)) (labelled_total arms z)
    where
      by : (b : Bool) → total f (arm_type a ++ arm_types arms) ≡ total f (arm_type a) + total f (arm_types arms) → total f (selected_types (labelled arms z)) ≤ total f (arm_types arms)
          → total f (selected_types (elim b as (λ _. Option Arm) [ true ↦ Some a | false ↦ labelled arms z ])) ≤ total f (arm_type a ++ arm_types arms)
      by true e h = omega (arith, e)
      by false e h = omega (arith, e, h)

  selected_total : (arms : List Arm) (default : Option Arm) (z : ℤ) → total f (selected_types (selected arms default z)) ≤ total f (arm_types arms ++ default_type default)
  selected_total arms default z = go (labelled arms z) default (labelled_total arms z) (total_append f (arm_types arms) (default_type default))
    where
      go : (o d : Option Arm) → total f (selected_types o) ≤ total f (arm_types arms) → total f (arm_types arms ++ default_type d) ≡ total f (arm_types arms) + total f (default_type d)
          → total f (selected_types (or_else o d)) ≤ total f (arm_types arms ++ default_type d)
      go (Some a) d h e = omega (arith, h, e)
      go None (Some a) h e = omega (arith, e)
      go None None h e = omega (arith, e)

  many_elements : (b n t : ℕ) → n ≤ b → total f (replicate n t) ≤ b * (f t + 0)
  many_elements b n t few =
      let e = total_replicate f n t in
      let h = times_less n b (f t) few in
      let g : b * (f t + 0) ≡ b * f t = ap (λ x. b * x) (omega arith) in
      omega (arith, e, h, g)

  once : (b x : ℕ) → 1 ≤ b → x ≤ b * x
  once b x some =
      let h = times_less 1 b x some in
      let e : 1 * x ≡ x = omega arith in
      omega (arith, h, e)

  children_total : (b : ℕ) → 1 ≤ b → (d : Option TypeDef) (l : Label) (ks : Trees) → count ks ≤ b → total f (child_types d l ks) ≤ b * total f (parts d)
  children_total b some (Some (def.Struct members)) tree.Rec ks few = once b (total f (map (λ m. m.of.0) members)) some
  children_total b some (Some (def.Array elem bound varying)) (tree.Arr max offset) ks few = many_elements b (count ks) elem.0 few
  children_total b some (Some (def.Union tag enc arms default)) (tree.Union z) ks few =
      let h = selected_total arms default z in
      let g = once b (total f (arm_types arms ++ default_type default)) some in
      omega (arith, h, g)
  children_total b some (Some (def.Pipe elem)) tree.Pipe ks few = many_elements b (count ks) elem.0 few
  children_total b some _ _ ks few = omega arith

-- ## The types of a legal table

total_alike : (test : ℕ → Bool) (f g : ℕ → ℕ) → ((u : ℕ) → test u ≡ true → f u ≡ g u) → (us : List ℕ) → list_all test us ≡ true → total f us ≡ total g us
total_alike test f g agree [] h = refl
total_alike test f g agree (u ∷ us) h =
    ap₂ (λ x y. x + y) (agree u (first_true (test u) (list_all test us) h)) (total_alike test f g agree us (second_true (test u) (list_all test us) h))

most_within-suc : (table : Table) (n t : ℕ) → nests n table t ≡ true → most_within n table t ≡ most_within (suc n) table t
most_within-suc table zero t h = cc
most_within-suc table (suc n) t h =
    ap (λ x. 1 + 2 ^ 32 * x) (total_alike (nests n table) (most_within n table) (most_within (suc n) table) (most_within-suc table n) (parts (type_at table t)) h)

pub most_nodes-legal : (types : Table) (operations : List Operation) → IsLegal types operations → (t : ℕ)
    → most_nodes types t ≡ 1 + 2 ^ 32 * total (most_nodes types) (parts (type_at types t))
unfolding most_nodes
most_nodes-legal types operations legal t = most_within-suc types NESTING_LIMIT t (shallow_all types legal.nesting t)

least_alike : (test : ℕ → Bool) (f g : ℕ → ℕ) → ((u : ℕ) → test u ≡ true → f u ≡ g u) → (d : Option TypeDef) → list_all test (parts d) ≡ true → least_by f d ≡ least_by g d
least_alike test f g agree (Some (def.Struct members)) h = total_alike test f g agree (map (λ m. m.of.0) members) h
least_alike test f g agree (Some (def.Array elem (Some bound) false)) h = agree elem.0 (first_true (test elem.0) true h)
least_alike test f g agree (Some (def.Array elem (Some bound) true)) h = refl
least_alike test f g agree (Some (def.Array elem None false)) h = refl
least_alike test f g agree (Some (def.Array elem None true)) h = refl
least_alike test f g agree (Some (def.Prim p)) h = refl
least_alike test f g agree (Some (def.Enum values)) h = refl
least_alike test f g agree (Some (def.Text elem bound)) h = refl
least_alike test f g agree (Some (def.Union tag enc arms default)) h = refl
least_alike test f g agree (Some (def.Pointer class to)) h = refl
least_alike test f g agree (Some def.Context) h = refl
least_alike test f g agree (Some (def.Pipe elem)) h = refl
least_alike test f g agree None h = refl

least_within-suc : (table : Table) (n t : ℕ) → nests n table t ≡ true → least_within n table t ≡ least_within (suc n) table t
least_within-suc table zero t h = cc
least_within-suc table (suc n) t h = least_alike (nests n table) (least_within n table) (least_within (suc n) table) (least_within-suc table n) (type_at table t) h

pub least_items-legal : (types : Table) (operations : List Operation) → IsLegal types operations → (t : ℕ) → least_items types t ≡ least_by (least_items types) (type_at types t)
unfolding least_items
least_items-legal types operations legal t = least_within-suc types NESTING_LIMIT t (shallow_all types legal.nesting t)

-- ## The elements of a pipe

module _ (table : Table) (operations : List Operation) (legal : IsLegal table operations) where
  known_parts : (t : ℕ) (d : TypeDef) → type_at table t ≡ Some d → AllByRecursion (Known table) (parts (Some d))
  known_parts t d e =
      all_left (Known table) (parts (Some d)) (tag_of d)
      (all_left (Known table) (parts (Some d) ++ tag_of d) (pointee_of d) (named_known table operations legal t d e))

  module _ (n t : ℕ) (again : (x : ℕ) → Known table x → has_none_within n is_barred_in_pipes table x ≡ true → 1 ≤ least_within n table x) where
    members_some : (ms : List Field) → 1 ≤ length ms → AllByRecursion (Known table) (map (λ f. f.of.0) ms)
        → list_all (has_none_within n is_barred_in_pipes table) (map (λ f. f.of.0) ms) ≡ true → 1 ≤ total (least_within n table) (map (λ f. f.of.0) ms)
    members_some [] some known fits = absurd (omega (arith, some))
    members_some (m ∷ ms) some known fits =
        let a =
        again m.of.0 known.0
        (first_true (has_none_within n is_barred_in_pipes table m.of.0) (list_all (has_none_within n is_barred_in_pipes table) (map (λ f. f.of.0) ms)) fits) in
        omega (arith, a)

    by_type : (x : TypeDef) → type_at table t ≡ Some x → (not (is_barred_in_pipes (Some x)) && list_all (has_none_within n is_barred_in_pipes table) (parts (Some x))) ≡ true
        → AllByRecursion (Known table) (parts (Some x)) → 1 ≤ least_by (least_within n table) (Some x)
    by_type (def.Prim p) is h known = omega arith
    by_type (def.Enum values) is h known = omega arith
    by_type (def.Union tag enc arms default) is h known = omega arith
    by_type (def.Struct ms) is h known = members_some ms (some_members table operations legal t ms is) known h
    by_type (def.Array x (Some b) false) is h known = again x.0 known.0 (first_true (has_none_within n is_barred_in_pipes table x.0) true h)
    by_type (def.Array x (Some b) true) is h known = cc
    by_type (def.Array x None v) is h known = cc
    by_type (def.Text x b) is h known = cc
    by_type (def.Pointer k to) is h known = cc
    by_type def.Context is h known = cc
    by_type (def.Pipe x) is h known = cc

  -- a value that may stand in a pipe's element has an item
  some_within : (n t : ℕ) → Known table t → has_none_within n is_barred_in_pipes table t ≡ true → 1 ≤ least_within n table t
  some_within zero t known h = cc
  some_within (suc n) t (d, e) h =
      subst (λ x. 1 ≤ least_by (least_within n table) x) (sym e)
      (by_type n t (some_within n) d e (subst (λ x. (not (is_barred_in_pipes x) && list_all (has_none_within n is_barred_in_pipes table) (parts x)) ≡ true) e h) (known_parts t d e))

  pub element_some : (t : ℕ) (x : ℕ) → pipe_element (type_at table t) ≡ Some x → 1 ≤ least_items table x
  unfolding fits_pipes least_items
  element_some t x e = go (type_at table t) refl e
    where
      go : (d : Option TypeDef) → type_at table t ≡ d → pipe_element d ≡ Some x → 1 ≤ least_within NESTING_LIMIT table x
      go (Some (def.Pipe elem)) is h =
          let same : elem.0 ≡ x = cc in
          subst (λ u. 1 ≤ least_within NESTING_LIMIT table u) same
          (some_within NESTING_LIMIT elem.0 (known_parts t (def.Pipe elem) is).0 (passes_at (has_pipe_element table) table t (def.Pipe elem) legal.pipe_elements is))
      go None is h = cc
      go (Some (def.Prim p)) is h = cc
      go (Some (def.Enum values)) is h = cc
      go (Some (def.Struct members)) is h = cc
      go (Some (def.Array elem bound varying)) is h = cc
      go (Some (def.Text elem bound)) is h = cc
      go (Some (def.Union tag enc arms default)) is h = cc
      go (Some (def.Pointer class to)) is h = cc
      go (Some def.Context) is h = cc

-- ## A node's own items, by its type

module _ (table : Table) (t : ℕ) (p p1 : Progress) (r : Result Shape Halt) where
  abbrev Taken : Type 0
  Taken = IfOk r (λ s. HaveTaken table t (flat_shape s) p p1)

  -- a type that has an item by itself
  pub leaf_taken : (d : Option TypeDef) → type_at table t ≡ d → ((least : ℕ → ℕ) → least_by least d ≤ 1) → IfOk r (λ _. p.next < p1.next) → Taken
  leaf_taken d is one more =
      IfOk-weaker r (λ _. p.next < p1.next) (λ s. HaveTaken table t (flat_shape s) p p1)
      (λ s l least ks e. (let k : least_by least (type_at table t) ≡ least_by least d = ap (least_by least) is in let h = one least in omega (arith, k, h, l))) more

  -- a type that may have none
  pub none_taken : (d : Option TypeDef) → type_at table t ≡ d → ((least : ℕ → ℕ) → least_by least d ≡ 0) → IfOk r (λ _. p.next ≤ p1.next) → Taken
  none_taken d is nothing later =
      IfOk-weaker r (λ _. p.next ≤ p1.next) (λ s. HaveTaken table t (flat_shape s) p p1)
      (λ s l least ks e. (let k : least_by least (type_at table t) ≡ least_by least d = ap (least_by least) is in let h = nothing least in omega (arith, k, h, l))) later

  pub struct_taken : (members : List Field) → type_at table t ≡ Some (def.Struct members) → IfOk r (λ s. flat_shape s ≡ (tree.Rec, 0)) → IfOk r (λ _. p.next ≤ p1.next) → Taken
  struct_taken members is shape later = by r shape later
    where
      by : (x : Result Shape Halt) → IfOk x (λ s. flat_shape s ≡ (tree.Rec, 0)) → IfOk x (λ _. p.next ≤ p1.next) → IfOk x (λ s. HaveTaken table t (flat_shape s) p p1)
      by (Ok s) f l = λ least ks e.
          (let k : least_by least (type_at table t) ≡ total least (map (λ m. m.of.0) members) = ap (least_by least) is in
          let j : total least (child_types (type_at table t) (flat_shape s).0 ks) ≡ total least (map (λ m. m.of.0) members) =
          ap (λ d. total least (child_types d (flat_shape s).0 ks)) is ∙ ap (λ (x : Flat). total least (child_types (Some (def.Struct members)) x.0 ks)) f in
          omega (arith, k, j, l))
      by (Err x) f l = tt

  fixed_taken : (elem : TypeId) (b limit : ℕ) → type_at table t ≡ Some (def.Array elem (Some b) false) → limit ≡ b → 1 ≤ b
      → IfOk r (λ s. (flat_shape s ≡ (tree.Arr limit 0, limit)) × (p1 ≡ p)) → Taken
  fixed_taken elem b limit is same some fixed = by r fixed
    where
      by : (x : Result Shape Halt) → IfOk x (λ s. (flat_shape s ≡ (tree.Arr limit 0, limit)) × (p1 ≡ p)) → IfOk x (λ s. HaveTaken table t (flat_shape s) p p1)
      by (Err x) f = tt
      by (Ok s) f = λ least ks e.
          (let k : least_by least (type_at table t) ≡ least elem.0 = ap (least_by least) is in
          let j : total least (child_types (type_at table t) (flat_shape s).0 ks) ≡ total least (replicate (count ks) elem.0) =
          ap (λ d. total least (child_types d (flat_shape s).0 ks)) is ∙ ap (λ (x : Flat). total least (child_types (Some (def.Array elem (Some b) false)) x.0 ks)) f.0 in
          let many : count ks ≡ limit = e ∙ ap (λ (x : Flat). x.1) f.0 in
          let a = total_replicate least (count ks) elem.0 in
          let c : 1 * least elem.0 ≤ count ks * least elem.0 = times_less 1 (count ks) (least elem.0) (omega (arith, many, same, some)) in
          let d : 1 * least elem.0 ≡ least elem.0 = omega arith in
          let q : p1.next ≡ p.next = ap (λ (x : Progress). x.next) f.1 in
          omega (arith, k, j, a, c, d, q))

  pub array_taken : (elem : TypeId) (bound : Option ℕ) (varying : Bool) → type_at table t ≡ Some (def.Array elem bound varying) → (max limit : ℕ) → limit ≡ unwrap_or bound max
      → ((b : ℕ) → type_at table t ≡ Some (def.Array elem (Some b) varying) → 1 ≤ b) → (varying ≡ false → IfOk r (λ s. (flat_shape s ≡ (tree.Arr limit 0, limit)) × (p1 ≡ p)))
      → (varying ≡ true → IfOk r (λ _. p.next < p1.next)) → Taken
  array_taken elem None true is max limit same some fixed more = leaf_taken (Some (def.Array elem None true)) is (λ least. omega arith) (more refl)
  array_taken elem (Some b) true is max limit same some fixed more = leaf_taken (Some (def.Array elem (Some b) true)) is (λ least. omega arith) (more refl)
  array_taken elem (Some b) false is max limit same some fixed more = fixed_taken elem b limit is same (some b is) (fixed refl)
  array_taken elem None false is max limit same some fixed more =
      none_taken (Some (def.Array elem None false)) is (λ least. refl)
      (IfOk-weaker r (λ s. (flat_shape s ≡ (tree.Arr limit 0, limit)) × (p1 ≡ p)) (λ _. p.next ≤ p1.next)
      (λ s f. (let q : p1.next ≡ p.next = ap (λ (x : Progress). x.next) f.1 in omega (arith, q))) (fixed refl))

-- ## One node

-- the weights of types, of which each is more than those of the parts of its type b times
module _ (table : Table) (f : ℕ → ℕ) (b : ℕ) (some : 1 ≤ b) (law : (t : ℕ) → f t ≡ 1 + b * total f (parts (type_at table t))) where
  less_left : (types after : List ℕ) (t : ℕ) (e : List ℕ) → types ≡ t ∷ drop 1 types → (d : Option TypeDef) → type_at table t ≡ d → total f e ≤ b * total f (parts d)
      → total f (e ++ (drop 1 types ++ after)) < total f (types ++ after)
  less_left types after t e first d is fewer =
      let a = total_append f e (drop 1 types ++ after) in
      let c = total_append f (drop 1 types) after in
      let g = total_append f types after in
      let h : total f types ≡ f t + total f (drop 1 types) = ap (total f) first in
      let i : f t ≡ 1 + b * total f (parts d) = law t ∙ ap (λ x. 1 + b * total f (parts x)) is in
      omega (arith, a, c, g, h, i, fewer)

  -- the node after one is at levels at which less is left
  abbrev Down : List ℕ → Option Levels → Type 0
  Down from None = Unit {0}
  Down from (Some m) = (0 < length (level_types m.top)) × (total f (types_from m.top (reverse m.below.items)) < total f from)

  steps_down : (L : Level) (Ls : List Level) (t : ℕ) → level_types L ≡ t ∷ drop 1 (level_types L) → (x : Flat) → x.1 ≤ b → (inner : Option Level) → IsChildLevel table t x inner
      → (paths : List ℕ → List (List ℕ)) (r : Option Levels) → (HasChild inner → AreLevelsOf (inner_types inner ++ types_after (L ∷ Ls)) paths r) → Down (types_from L Ls) r
  steps_down L Ls t first x few inner level paths r next = go r (next (level_has_child _ _ inner its))
    where
      ks : Trees
      ks = trees_of x.1

      its : IsLevelOf (child_types (type_at table t) x.0 ks) (λ p. child_paths (type_at table t) x.0 p ks) inner
      its = level ks (so_many x.1)

      fewer : total f (inner_types inner) ≤ b * total f (parts (type_at table t))
      fewer =
          subst (λ ts. total f ts ≤ b * total f (parts (type_at table t))) (sym (inner_types_are _ _ inner its))
          (children_total f b some (type_at table t) x.0 ks (subst (λ n. n ≤ b) (sym (so_many x.1)) few))

      down : total f (inner_types inner ++ types_after (L ∷ Ls)) < total f (types_from L Ls)
      down = less_left (level_types L) (types_after Ls) t (inner_types inner) first (type_at table t) refl fewer

      go : (r : Option Levels) → AreLevelsOf (inner_types inner ++ types_after (L ∷ Ls)) paths r → Down (types_from L Ls) r
      go None e = tt
      go (Some m) e = (e.0.0, subst (λ ts. total f ts < total f (types_from L Ls)) (sym e.0.1) down)

-- fewer nodes of a legal table's types are left
pub goes_down : (table : Table) (operations : List Operation) → IsLegal table operations → (s : Levels) (L : Level) (Ls : List Level) → s.top ≡ L → reverse s.below.items ≡ Ls
    → (t : ℕ) → level_types L ≡ t ∷ drop 1 (level_types L) → (x : Flat) → x.1 ≤ 2 ^ 32 → (inner : Option Level) → IsChildLevel table t x inner
    → (paths : List ℕ → List (List ℕ)) (r : Option Levels) → (HasChild inner → AreLevelsOf (inner_types inner ++ types_after (L ∷ Ls)) paths r) → GoesDown table s r
goes_down table operations legal s L Ls top below t first x few inner level paths r next =
    go r (steps_down table (most_nodes table) (2 ^ 32) (omega arith) (most_nodes-legal table operations legal) L Ls t first x few inner level paths r next)
  where
    same : types_from s.top (reverse s.below.items) ≡ types_from L Ls
    same = ap₂ types_from top below

    go : (r : Option Levels) → Down table (most_nodes table) (2 ^ 32) (omega arith) (most_nodes-legal table operations legal) (types_from L Ls) r → GoesDown table s r
    go None d = tt
    go (Some m) d = (d.0, subst (λ ts. nodes_left table m < total (most_nodes table) ts) (sym same) d.1)

-- the items that are taken of a node, with those that are left after it, are at least those that were left
pub takes_on : (table : Table) (operations : List Operation) → IsLegal table operations → (s : Levels) (L : Level) (Ls : List Level) → s.top ≡ L → reverse s.below.items ≡ Ls
    → (t : ℕ) → level_types L ≡ t ∷ drop 1 (level_types L) → (x : Flat) → (inner : Option Level) → IsChildLevel table t x inner
    → (paths : List ℕ → List (List ℕ)) (r : Option Levels) → (HasChild inner → AreLevelsOf (inner_types inner ++ types_after (L ∷ Ls)) paths r)
    → (p p1 : Progress) → HaveTaken table t x p p1 → items_left table (Some s) + p.next ≤ items_left table r + p1.next
takes_on table operations legal s L Ls top below t first x inner level paths r next p p1 taken = go r (next (level_has_child _ _ inner its))
  where
    f : ℕ → ℕ
    f = least_items table

    ks : Trees
    ks = trees_of x.1

    its : IsLevelOf (child_types (type_at table t) x.0 ks) (λ p. child_paths (type_at table t) x.0 p ks) inner
    its = level ks (so_many x.1)

    inner_are : total f (inner_types inner) ≡ total f (child_types (type_at table t) x.0 ks)
    inner_are = ap (total f) (inner_types_are _ _ inner its)

    before : total f (types_from s.top (reverse s.below.items)) ≡ f t + (total f (drop 1 (level_types L)) + total f (types_after Ls))
    before =
        ap (total f) (ap₂ types_from top below) ∙ total_append f (level_types L) (types_after Ls)
        ∙ ap (λ n. n + total f (types_after Ls)) (ap (total f) first) ∙ grouped (f t) (total f (drop 1 (level_types L))) (total f (types_after Ls))
      where
        grouped : (a b c : ℕ) → (a + b) + c ≡ a + (b + c)
        grouped a b c = omega arith

    after : total f (inner_types inner ++ types_after (L ∷ Ls)) ≡ total f (inner_types inner) + (total f (drop 1 (level_types L)) + total f (types_after Ls))
    after =
        total_append f (inner_types inner) (types_after (L ∷ Ls)) ∙ ap (λ n. total f (inner_types inner) + n) (total_append f (drop 1 (level_types L)) (types_after Ls))

    law : f t ≡ least_by f (type_at table t)
    law = least_items-legal table operations legal t

    enough : total f (types_from s.top (reverse s.below.items)) + p.next ≤ total f (inner_types inner ++ types_after (L ∷ Ls)) + p1.next
    enough = let h = taken f ks (so_many x.1) in omega (arith, h, inner_are, before, after, law)

    go : (r : Option Levels) → AreLevelsOf (inner_types inner ++ types_after (L ∷ Ls)) paths r → items_left table (Some s) + p.next ≤ items_left table r + p1.next
    go None e = let none : total f (inner_types inner ++ types_after (L ∷ Ls)) ≡ 0 = ap (total f) e in omega (arith, none, enough)
    go (Some m) e = let same : items_left table (Some m) ≡ total f (inner_types inner ++ types_after (L ∷ Ls)) = ap (total f) e.0.1 in omega (arith, same, enough)
