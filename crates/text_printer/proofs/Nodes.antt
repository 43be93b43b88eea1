-- Nodes with their numbers and paths.
-- `m` and `n` are numbers of nodes, `p` and `q` paths, `v` is a value, `vs` are values.
use Rattle.std.proofs.Common.{◌≡◌, ℕ, ◌+◌, ◌<◌, ◌≤◌, ◌⊎◌, inl, inr, zero, suc, ℤ, List, [], ◌∷◌, ◌++◌, map, take, replicate, Option, None, Some, refl, ap, ap₂, sym, ◌∙◌, subst, append-nil, add-zero}
use Rattle.std.proofs.Common.{arith}
use Rattle.std.specs.List.{slice_get}
use Rattle.std.proofs.lemmas.Option.{same_Some}
use Rattle.nd_types.specs.declared.types.Arm.{Arm}
use Rattle.nd_types.specs.declared.types.Field.{Field}
use Rattle.nd_types.specs.declared.types.TypeDef.{TypeDef}
use Rattle.nd_types.specs.declared.types.TypeDef.TheVariants as def
use Rattle.nd_types.specs.Table.{Table, type_at}
use Rattle.nd_value.specs.Tree as tree
use Rattle.nd_value.specs.Tree.{Tree, Trees, Label, node, none, more, trees, count, node_count}
use Rattle.nd_value.specs.Nodes.{child_types, selected_types}
use Rattle.nd_value.specs.Setting.{Among}
use Rattle.text_grammar.specs.Paths.{node_paths, child_paths, arm_paths, element_path, element_paths, member_path}
use Rattle.text_printer.specs.Steps.{HasPath, HaveChildPath, IsChildStep, IsStep, IsChildAt, arm_path, elem_types, member_types, member_paths, struct_members, union_arm}

pub among_parts : {X : Type 0} (xs ys : List X) (x : X) → Among (xs ++ ys) x → Among xs x ⊎ Among ys x
among_parts [] ys x h = inr h
among_parts (y ∷ xs) ys x (inl e) = inl (inl e)
among_parts (y ∷ xs) ys x (inr h) = elim (among_parts xs ys x h) [ inl a ↦ inl (inr a) | inr b ↦ inr b ]

pub among_left : {X : Type 0} (xs ys : List X) (x : X) → Among xs x → Among (xs ++ ys) x
among_left [] ys x h = absurd h
among_left (y ∷ xs) ys x (inl e) = inl e
among_left (y ∷ xs) ys x (inr h) = inr (among_left xs ys x h)

pub among_right : {X : Type 0} (xs ys : List X) (x : X) → Among ys x → Among (xs ++ ys) x
among_right [] ys x h = h
among_right (y ∷ xs) ys x h = inr (among_right xs ys x h)

-- ## The numbers of nodes

pub at_least : (table : Table) (types : List ℕ) (paths : List (List ℕ)) (m : ℕ) (ts : Trees) (n : ℕ) (q : List ℕ) → Among (node_paths table types paths m ts) (n, q) → m ≤ n
at_least table [] paths m ts n q h = absurd h
at_least table (t ∷ types) [] m ts n q h = absurd h
at_least table (t ∷ types) (p ∷ paths) m none n q h = absurd h
at_least table (t ∷ types) (p ∷ paths) m (more (node l ks) ts) n q (inl e) = let k : n ≡ m = ap (λ x. x.0) e in omega (arith, k)
at_least table (t ∷ types) (p ∷ paths) m (more (node l ks) ts) n q (inr h) =
    let a = node_paths table (child_types (type_at table t) l ks) (child_paths (type_at table t) l p ks) (m + 1) ks in
    let b = node_paths table types paths (m + 1 + node_count ks) ts in
    elim (among_parts a b (n, q) h) [
      | inl x ↦ omega (arith, at_least table (child_types (type_at table t) l ks) (child_paths (type_at table t) l p ks) (m + 1) ks n q x)
      | inr y ↦ omega (arith, at_least table types paths (m + 1 + node_count ks) ts n q y)
    ]

pub below : (table : Table) (types : List ℕ) (paths : List (List ℕ)) (m : ℕ) (ts : Trees) (n : ℕ) (q : List ℕ) → Among (node_paths table types paths m ts) (n, q)
    → n < m + node_count ts
below table [] paths m ts n q h = absurd h
below table (t ∷ types) [] m ts n q h = absurd h
below table (t ∷ types) (p ∷ paths) m none n q h = absurd h
below table (t ∷ types) (p ∷ paths) m (more (node l ks) ts) n q (inl e) = let k : n ≡ m = ap (λ x. x.0) e in omega (arith, k)
below table (t ∷ types) (p ∷ paths) m (more (node l ks) ts) n q (inr h) =
    let a = node_paths table (child_types (type_at table t) l ks) (child_paths (type_at table t) l p ks) (m + 1) ks in
    let b = node_paths table types paths (m + 1 + node_count ks) ts in
    elim (among_parts a b (n, q) h) [
      | inl x ↦ omega (arith, below table (child_types (type_at table t) l ks) (child_paths (type_at table t) l p ks) (m + 1) ks n q x)
      | inr y ↦ omega (arith, below table types paths (m + 1 + node_count ks) ts n q y)
    ]

-- the same nodes numbered from elsewhere on
pub shifted : (table : Table) (types : List ℕ) (paths : List (List ℕ)) (m m' : ℕ) (ts : Trees) (n n' : ℕ) (q : List ℕ) → n + m' ≡ n' + m
    → Among (node_paths table types paths m ts) (n, q) → Among (node_paths table types paths m' ts) (n', q)
shifted table [] paths m m' ts n n' q e h = absurd h
shifted table (t ∷ types) [] m m' ts n n' q e h = absurd h
shifted table (t ∷ types) (p ∷ paths) m m' none n n' q e h = absurd h
shifted table (t ∷ types) (p ∷ paths) m m' (more (node l ks) ts) n n' q e (inl x) =
    let k : n ≡ m = ap (λ y. y.0) x in
    let k' : n' ≡ m' = omega (arith, k, e) in
    inl (ap₂ (λ i r. (i, r)) k' (ap (λ y. y.1) x))
shifted table (t ∷ types) (p ∷ paths) m m' (more (node l ks) ts) n n' q e (inr h) =
    let cts = child_types (type_at table t) l ks in
    let cps = child_paths (type_at table t) l p ks in
    let c = node_count ks in
    let e1 : n + (m' + 1) ≡ n' + (m + 1) = omega (arith, e) in
    let e2 : n + (m' + 1 + c) ≡ n' + (m + 1 + c) = omega (arith, e) in
    elim (among_parts (node_paths table cts cps (m + 1) ks) (node_paths table types paths (m + 1 + c) ts) (n, q) h) [
      | inl x ↦
          inr (among_left (node_paths table cts cps (m' + 1) ks) (node_paths table types paths (m' + 1 + c) ts) (n', q) (shifted table cts cps (m + 1) (m' + 1) ks n n' q e1 x))
      | inr y ↦
          inr
          (among_right (node_paths table cts cps (m' + 1) ks) (node_paths table types paths (m' + 1 + c) ts) (n', q)
          (shifted table types paths (m + 1 + c) (m' + 1 + c) ts n n' q e2 y))
    ]

-- ## The child that has a node

-- a child's type and path, with the node in it
abbrev pub InChild : Table → List ℕ → List (List ℕ) → ℕ → Tree → ℕ → List ℕ → Type 0
InChild table types paths i v n q = (t : ℕ) × ((p : List ℕ) × ((slice_get types i ≡ Some t) × ((slice_get paths i ≡ Some p) × HasPath table t p v n q)))

-- the first child, if its number is one of its nodes
first_child : (table : Table) (t : ℕ) (types : List ℕ) (p : List ℕ) (paths : List (List ℕ)) (l' : Label) (ks ts : Trees) (m n n' : ℕ) (q : List ℕ)
    → n ≡ m + (0 + n') → n' < suc (node_count ks + 0)
    → Among (node_paths table (t ∷ types) (p ∷ paths) m (more (node l' ks) ts)) (n, q) → HasPath table t p (node l' ks) n' q
first_child table t types p paths l' ks ts m n n' q e l (inl x) = shifted table (t ∷ []) (p ∷ []) m 0 (more (node l' ks) none) n n' q (omega (arith, e)) (inl x)
first_child table t types p paths l' ks ts m n n' q e l (inr h) =
    let cts = child_types (type_at table t) l' ks in
    let cps = child_paths (type_at table t) l' p ks in
    elim (among_parts (node_paths table cts cps (m + 1) ks) (node_paths table types paths (m + 1 + node_count ks) ts) (n, q) h) [
      | inl x ↦
          shifted table (t ∷ []) (p ∷ []) m 0 (more (node l' ks) none) n n' q (omega (arith, e))
          (inr (among_left (node_paths table cts cps (m + 1) ks) (node_paths table [] [] (m + 1 + node_count ks) none) (n, q) x))
      | inr y ↦ absurd (omega (arith, e, l, at_least table types paths (m + 1 + node_count ks) ts n q y))
    ]

-- a later child, if its number is past the nodes of the first
later_child : (table : Table) (t : ℕ) (types : List ℕ) (p : List ℕ) (paths : List (List ℕ)) (l' : Label) (ks ts : Trees) (m n n' : ℕ) (q : List ℕ) (c : ℕ)
    → n ≡ m + (suc (node_count ks + c) + n')
    → Among (node_paths table (t ∷ types) (p ∷ paths) m (more (node l' ks) ts)) (n, q) → Among (node_paths table types paths (m + 1 + node_count ks) ts) (n, q)
later_child table t types p paths l' ks ts m n n' q c e (inl x) = absurd (let k : n ≡ m = ap (λ y. y.0) x in omega (arith, e, k))
later_child table t types p paths l' ks ts m n n' q c e (inr h) =
    let cts = child_types (type_at table t) l' ks in
    let cps = child_paths (type_at table t) l' p ks in
    elim (among_parts (node_paths table cts cps (m + 1) ks) (node_paths table types paths (m + 1 + node_count ks) ts) (n, q) h) [
      | inl x ↦ absurd (omega (arith, e, below table cts cps (m + 1) ks n q x))
      | inr y ↦ y
    ]

pub in_child : (table : Table) (types : List ℕ) (paths : List (List ℕ)) (vs : List Tree) (i : ℕ) (v : Tree) (m n n' : ℕ) (q : List ℕ) → slice_get vs i ≡ Some v
    → n ≡ m + (node_count (trees (take i vs)) + n') → n' < node_count (more v none) → Among (node_paths table types paths m (trees vs)) (n, q)
    → InChild table types paths i v n' q
in_child table [] paths vs i v m n n' q is e l h = absurd h
in_child table (t ∷ types) [] vs i v m n n' q is e l h = absurd h
in_child table (t ∷ types) (p ∷ paths) [] i v m n n' q is e l h = absurd h
in_child table (t ∷ types) (p ∷ paths) (node l' ks ∷ vs) zero v m n n' q is e l h =
    let s : node l' ks ≡ v = same_Some (node l' ks) v is in
    let l0 : n' < suc (node_count ks + 0) = subst (λ (u : Tree). n' < node_count (more u none)) (sym s) l in
    let x : HasPath table t p (node l' ks) n' q = first_child table t types p paths l' ks (trees vs) m n n' q e l0 h in
    (t, (p, (refl, (refl, subst (λ (u : Tree). HasPath table t p u n' q) s x))))
in_child table (t ∷ types) (p ∷ paths) (node l' ks ∷ vs) (suc i) v m n n' q is e l h =
    let c = node_count (trees (take i vs)) in
    let e0 : n ≡ m + (suc (node_count ks + c) + n') = e in
    let e1 : n ≡ m + 1 + node_count ks + (c + n') = omega (arith, e0) in
    in_child table types paths vs i v (m + 1 + node_count ks) n n' q is e1 l (later_child table t types p paths l' ks (trees vs) m n n' q c e0 h)

-- ## Steps

-- no child has the node
pub no_child : (table : Table) (types : List ℕ) (paths : List (List ℕ)) (vs : List Tree) (n : ℕ) (p : List ℕ) → IsChildAt vs n None → IsChildStep table types paths (trees vs) n p None
no_child table types paths vs n p h q a = absurd (omega (arith, h, below table types paths 1 (trees vs) (suc n) q a))

some_none : (n : ℕ) → Some n ≡ None → ⊥
some_none n e = cc

-- no type is left for the child
pub no_type : (table : Table) (types : List ℕ) (paths : List (List ℕ)) (vs : List Tree) (n : ℕ) (p : List ℕ) (i : ℕ) (v : Tree) (n' : ℕ) → IsChildAt vs n (Some (i, v, n'))
    → slice_get types i ≡ None → IsChildStep table types paths (trees vs) n p None
no_type table types paths vs n p i v n' c e q a =
    let (t, (p', (x, y))) = in_child table types paths vs i v 1 (suc n) n' q c.0 (omega (arith, c.1)) c.2 a in
    some_none t (sym x ∙ e)

-- the child has the node
pub child_step : (table : Table) (types : List ℕ) (paths : List (List ℕ)) (vs : List Tree) (n i : ℕ) (v : Tree) (n' t : ℕ) (p : List ℕ) → IsChildAt vs n (Some (i, v, n'))
    → slice_get types i ≡ Some t → slice_get paths i ≡ Some p → IsChildStep table types paths (trees vs) n p (Some (t, v, n'))
child_step table types paths vs n i v n' t p c et ep = (
  λ q a.
      let (t', (p', (x, (y, h)))) = in_child table types paths vs i v 1 (suc n) n' q c.0 (omega (arith, c.1)) c.2 a in
      subst (λ (u : ℕ). HasPath table u p v n' q) (same_Some t' t (sym x ∙ et)) (subst (λ (r : List ℕ). HasPath table t' r v n' q) (same_Some p' p (sym y ∙ ep)) h),
  omega (arith, c.1),
)

-- from a value to the nodes of its children
pub to_children : (table : Table) (t : ℕ) (p : List ℕ) (l : Label) (ks : Trees) (n : ℕ) (q : List ℕ) → HasPath table t p (node l ks) (suc n) q
    → HaveChildPath table (child_types (type_at table t) l ks) (child_paths (type_at table t) l p ks) ks n q
to_children table t p l ks n q (inl e) = absurd (let k : suc n ≡ 0 = ap (λ y. y.0) e in omega (arith, k))
to_children table t p l ks n q (inr h) =
    subst (λ (xs : List (ℕ × List ℕ)). Among xs (suc n, q)) (append-nil (node_paths table (child_types (type_at table t) l ks) (child_paths (type_at table t) l p ks) 1 ks)) h

-- the value's own path
pub own_path : (table : Table) (t : ℕ) (p : List ℕ) (v : Tree) (q : List ℕ) → HasPath table t p v 0 q → p ≡ q
own_path table t p (node l ks) q (inl e) = sym (ap (λ y. y.1) e)
own_path table t p (node l ks) q (inr h) =
    let cts = child_types (type_at table t) l ks in
    let cps = child_paths (type_at table t) l p ks in
    elim (among_parts (node_paths table cts cps 1 ks) (node_paths table [] [] (1 + node_count ks) none) (0, q) h) [
      | inl x ↦ absurd (omega (arith, at_least table cts cps 1 ks 0 q x))
      | inr y ↦ absurd y
    ]

-- ## Children by their places

pub get_map : {X Y : Type 0} (f : X → Y) (xs : List X) (i : ℕ) (x : X) → slice_get xs i ≡ Some x → slice_get (map f xs) i ≡ Some (f x)
get_map f [] i x e = cc
get_map f (y ∷ xs) zero x e = ap (λ z. Some (f z)) (same_Some y x e)
get_map f (y ∷ xs) (suc i) x e = get_map f xs i x e

pub get_map_none : {X Y : Type 0} (f : X → Y) (xs : List X) (i : ℕ) → slice_get xs i ≡ None → slice_get (map f xs) i ≡ None
get_map_none f [] i e = refl
get_map_none f (y ∷ xs) zero e = cc
get_map_none f (y ∷ xs) (suc i) e = get_map_none f xs i e

pub elem_at : (elem : ℕ) (vs : List Tree) (i : ℕ) (v : Tree) → slice_get vs i ≡ Some v → slice_get (replicate (count (trees vs)) elem) i ≡ Some elem
elem_at elem [] i v e = cc
elem_at elem (x ∷ vs) zero v e = refl
elem_at elem (x ∷ vs) (suc i) v e = elem_at elem vs i v e

pub element_path_at : (p : List ℕ) (o : ℕ) (vs : List Tree) (i : ℕ) (v : Tree) → slice_get vs i ≡ Some v → slice_get (element_paths p o (trees vs)) i ≡ Some (element_path p (o + i))
element_path_at p o [] i v e = cc
element_path_at p o (x ∷ vs) zero v e = ap (λ n. Some (element_path p n)) (sym (add-zero o))
element_path_at p o (x ∷ vs) (suc i) v e =
    element_path_at p (o + 1) vs i v e ∙ ap (λ n. Some (element_path p n)) (let k : o + 1 + i ≡ o + suc i = omega arith in k)

-- ## Steps of each form

-- no type is there for a child
pub no_types : (table : Table) (types : List ℕ) (paths : List (List ℕ)) (ks : Trees) (n : ℕ) (p : List ℕ) → types ≡ [] → IsChildStep table types paths ks n p None
no_types table types paths ks n p e q a = subst (λ (ts : List ℕ). HaveChildPath table ts paths ks n q) e a

-- no child is there
pub no_values : (table : Table) (types : List ℕ) (paths : List (List ℕ)) (vs : List Tree) (n : ℕ) (p : List ℕ) → vs ≡ [] → IsChildStep table types paths (trees vs) n p None
no_values table types paths vs n p e =
    no_child table types paths vs n p (let k : node_count (trees vs) ≡ 0 = ap (λ us. node_count (trees us)) e in omega (arith, k))

-- the only child
pub only_child : (table : Table) (types : List ℕ) (paths : List (List ℕ)) (vs : List Tree) (n t : ℕ) (p : List ℕ) (v : Tree) → types ≡ t ∷ [] → paths ≡ p ∷ [] → vs ≡ v ∷ []
    → IsChildStep table types paths (trees vs) n p (Some (t, v, n))
only_child table types paths vs n t p v et ep ev = (
  λ q a.
      shifted table (t ∷ []) (p ∷ []) 1 0 (more v none) (suc n) n q (omega arith)
      (subst (λ (us : List Tree). HaveChildPath table (t ∷ []) (p ∷ []) (trees us) n q) ev
      (subst (λ (ps : List (List ℕ)). HaveChildPath table (t ∷ []) ps (trees vs) n q) ep (subst (λ (ts : List ℕ). HaveChildPath table ts paths (trees vs) n q) et a))),
  omega arith,
)

pub arm_paths_are : (p : List ℕ) (a : Arm) → arm_paths p (Some a) ≡ arm_path p a.name ∷ []
arm_paths_are p a = by_name a.name
  where
    by_name : (n : Option (List ℕ)) → elim n [ None ↦ p ∷ [] | Some name ↦ member_path p name ∷ [] ] ≡ arm_path p n ∷ []
    by_name None = refl
    by_name (Some name) = refl

-- from a value to a child
pub value_step : (table : Table) (t : ℕ) (l : Label) (ks : Trees) (n : ℕ) (p p' : List ℕ) (s : Option (ℕ × Tree × ℕ))
    → IsChildStep table (child_types (type_at table t) l ks) (child_paths (type_at table t) l p ks) ks n p' s → IsStep table t (node l ks) n p p' s
value_step table t l ks n p p' None h = λ q a. h q (to_children table t p l ks n q a)
value_step table t l ks n p p' (Some s) h = (λ q a. h.0 q (to_children table t p l ks n q a), h.1)

no_step : (table : Table) (paths : List (List ℕ)) (ks : Trees) (n : ℕ) (p : List ℕ) (s : Option (ℕ × Tree × ℕ)) → IsChildStep table [] paths ks n p s → IsChildStep table [] [] ks n p s
no_step table paths ks n p None h = λ q a. a
no_step table paths ks n p (Some s) h = (λ q a. absurd a, h.1)

abbrev ElementStep : Table → Option ℕ → ℕ → List ℕ → Trees → ℕ → List ℕ → Option (ℕ × Tree × ℕ) → Type 0
ElementStep table e o p ks n p' s = IsChildStep table (elem_types e (count ks)) (element_paths p o ks) ks n p' s

-- a step to an element of an array
array_child : (table : Table) (d : Option TypeDef) (m o : ℕ) (p : List ℕ) (ks : Trees) (e : Option ℕ) (n : ℕ) (p' : List ℕ) (s : Option (ℕ × Tree × ℕ))
    → child_types d (tree.Arr m o) ks ≡ elem_types e (count ks) → ElementStep table e o p ks n p' s
    → IsChildStep table (child_types d (tree.Arr m o) ks) (child_paths d (tree.Arr m o) p ks) ks n p' s
array_child table (Some (def.Array elem bound varying)) m o p ks e n p' s et h = subst (λ (ts : List ℕ). IsChildStep table ts (element_paths p o ks) ks n p' s) (sym et) h
array_child table _ m o p ks e n p' s et h = no_step table (element_paths p o ks) ks n p' s (subst (λ (ts : List ℕ). IsChildStep table ts (element_paths p o ks) ks n p' s) (sym et) h)

-- a step to an element of a pipe
pipe_child : (table : Table) (d : Option TypeDef) (p : List ℕ) (ks : Trees) (e : Option ℕ) (n : ℕ) (p' : List ℕ) (s : Option (ℕ × Tree × ℕ))
    → child_types d tree.Pipe ks ≡ elem_types e (count ks) → ElementStep table e 0 p ks n p' s
    → IsChildStep table (child_types d tree.Pipe ks) (child_paths d tree.Pipe p ks) ks n p' s
pipe_child table (Some (def.Pipe elem)) p ks e n p' s et h = subst (λ (ts : List ℕ). IsChildStep table ts (element_paths p 0 ks) ks n p' s) (sym et) h
pipe_child table _ p ks e n p' s et h = no_step table (element_paths p 0 ks) ks n p' s (subst (λ (ts : List ℕ). IsChildStep table ts (element_paths p 0 ks) ks n p' s) (sym et) h)

pub array_step : (table : Table) (t m o : ℕ) (p : List ℕ) (ks : Trees) (e : Option ℕ) (n : ℕ) (p' : List ℕ) (s : Option (ℕ × Tree × ℕ))
    → child_types (type_at table t) (tree.Arr m o) ks ≡ elem_types e (count ks) → ElementStep table e o p ks n p' s → IsStep table t (node (tree.Arr m o) ks) n p p' s
array_step table t m o p ks e n p' s et h = value_step table t (tree.Arr m o) ks n p p' s (array_child table (type_at table t) m o p ks e n p' s et h)

pub pipe_step : (table : Table) (t : ℕ) (p : List ℕ) (ks : Trees) (e : Option ℕ) (n : ℕ) (p' : List ℕ) (s : Option (ℕ × Tree × ℕ))
    → child_types (type_at table t) tree.Pipe ks ≡ elem_types e (count ks) → ElementStep table e 0 p ks n p' s → IsStep table t (node tree.Pipe ks) n p p' s
pipe_step table t p ks e n p' s et h = value_step table t tree.Pipe ks n p p' s (pipe_child table (type_at table t) p ks e n p' s et h)

-- a value without parts
pub no_parts : (table : Table) (t : ℕ) (l : Label) (n : ℕ) (p p' : List ℕ) → IsStep table t (node l none) n p p' None
no_parts table t l n p p' =
    value_step table t l none n p p' None (no_values table (child_types (type_at table t) l none) (child_paths (type_at table t) l p none) [] n p' refl)

-- a step goes on
pub step_on : (table : Table) (t n t' n' : ℕ) (p p' : List ℕ) (v v' : Tree) (k : ℕ) → n ≡ suc k → IsStep table t v k p p' (Some (t', v', n')) → (q : List ℕ) → HasPath table t p v n q
    → HasPath table t' p' v' n' q
step_on table t n t' n' p p' v v' k e s q h = s.0 q (subst (λ (m : ℕ). HasPath table t p v m q) e h)

pub step_ends : (table : Table) (t n : ℕ) (p p' : List ℕ) (v : Tree) (k : ℕ) → n ≡ suc k → IsStep table t v k p p' None → (q : List ℕ) → HasPath table t p v n q → ⊥
step_ends table t n p p' v k e s q h = s q (subst (λ (m : ℕ). HasPath table t p v m q) e h)

-- ## Steps to members and arms

struct_types : (d : Option TypeDef) (ks : Trees) → child_types d tree.Rec ks ≡ member_types (struct_members d)
struct_types (Some (def.Struct members)) ks = refl
struct_types _ ks = refl

struct_paths : (d : Option TypeDef) (p : List ℕ) (ks : Trees) → child_paths d tree.Rec p ks ≡ member_paths p (struct_members d)
struct_paths (Some (def.Struct members)) p ks = refl
struct_paths _ p ks = refl

-- a step to a member of a struct
pub struct_step : (table : Table) (t : ℕ) (p : List ℕ) (ks : Trees) (ms : Option (List Field)) (n : ℕ) (p' : List ℕ) (s : Option (ℕ × Tree × ℕ))
    → struct_members (type_at table t) ≡ ms → IsChildStep table (member_types ms) (member_paths p ms) ks n p' s → IsStep table t (node tree.Rec ks) n p p' s
struct_step table t p ks ms n p' s e h =
    value_step table t tree.Rec ks n p p' s
    (subst (λ (ts : List ℕ). IsChildStep table ts (child_paths (type_at table t) tree.Rec p ks) ks n p' s) (sym (struct_types (type_at table t) ks ∙ ap member_types e))
    (subst (λ (ps : List (List ℕ)). IsChildStep table (member_types ms) ps ks n p' s) (sym (struct_paths (type_at table t) p ks ∙ ap (member_paths p) e)) h))

union_types : (d : Option TypeDef) (z : ℤ) (ks : Trees) → child_types d (tree.Union z) ks ≡ selected_types (union_arm d z)
union_types (Some (def.Union tag enc arms default)) z ks = refl
union_types _ z ks = refl

union_paths : (d : Option TypeDef) (z : ℤ) (p : List ℕ) (ks : Trees) → child_paths d (tree.Union z) p ks ≡ arm_paths p (union_arm d z)
union_paths (Some (def.Union tag enc arms default)) z p ks = refl
union_paths _ z p ks = refl

-- a step to the value of an arm
pub union_step : (table : Table) (t : ℕ) (z : ℤ) (p : List ℕ) (ks : Trees) (a : Option Arm) (n : ℕ) (p' : List ℕ) (s : Option (ℕ × Tree × ℕ))
    → union_arm (type_at table t) z ≡ a → IsChildStep table (selected_types a) (arm_paths p a) ks n p' s → IsStep table t (node (tree.Union z) ks) n p p' s
union_step table t z p ks a n p' s e h =
    value_step table t (tree.Union z) ks n p p' s
    (subst (λ (ts : List ℕ). IsChildStep table ts (child_paths (type_at table t) (tree.Union z) p ks) ks n p' s) (sym (union_types (type_at table t) z ks ∙ ap selected_types e))
    (subst (λ (ps : List (List ℕ)). IsChildStep table (selected_types a) ps ks n p' s) (sym (union_paths (type_at table t) z p ks ∙ ap (arm_paths p) e)) h))
