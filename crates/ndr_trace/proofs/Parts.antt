-- Some values, and others after them: their nodes, with their paths.
-- `types` and `T` are types of values, `paths` and `P` their paths, `ks` and `us` values, `n` is a node's number.
use Rattle.std.proofs.Common.{◌≡◌, ◌∙◌, ℕ, ◌+◌, ◌<◌, ◌≤◌, suc, Bool, true, false, List, [], ◌∷◌, ◌++◌, length, Some, refl, sym, ap, append_assoc, add-zero, arith}
use Rattle.std.proofs.Common.{length-append}
use Rattle.std.specs.Prelude.{◌==◌, eqb}
use Rattle.std.specs.List.{slice_get}
use Rattle.std.proofs.lemmas.Bool.{ne_eqb}
use Rattle.nd_lemmas.proofs.Lists.{get_in_front}
use Rattle.nd_types.specs.Table.{Table, type_at}
use Rattle.nd_value.specs.Nodes.{child_types}
use Rattle.nd_value.specs.Tree.{Flat, Trees, count, flat, joined, more, node, node_count, none}
use Rattle.nd_flat.proofs.Forests.{flat-joined}
use Rattle.text_grammar.specs.Paths.{child_paths, node_paths}
use Rattle.ndr_explain.specs.Explained.{path_in}

-- ## Paths by number

no_path_in : (xs ys : List (ℕ × List ℕ)) (m : ℕ) → path_in xs m ≡ [] → path_in ys m ≡ [] → path_in (xs ++ ys) m ≡ []
no_path_in [] ys m e f = f
no_path_in (x ∷ xs) ys m e f = go (x.0 == m) (λ g. no_path_in xs ys m g f) e
  where
    go : (b : Bool) → (path_in xs m ≡ [] → path_in (xs ++ ys) m ≡ []) → ◌≡◌ {A = List ℕ} (elim b [ true ↦ x.1 | false ↦ path_in xs m ]) []
        → ◌≡◌ {A = List ℕ} (elim b [ true ↦ x.1 | false ↦ path_in (xs ++ ys) m ]) []
    go true h g = g
    go false h g = h g

pub front_path_in : (xs ys : List (ℕ × List ℕ)) (m : ℕ) → path_in ys m ≡ [] → path_in (xs ++ ys) m ≡ path_in xs m
front_path_in [] ys m e = e
front_path_in (x ∷ xs) ys m e = ap (λ q. elim (x.0 == m) [ true ↦ x.1 | false ↦ q ]) (front_path_in xs ys m e)

-- nodes that are numbered from a number on have none before it
pub none_before : (table : Table) (types : List ℕ) (paths : List (List ℕ)) (n m : ℕ) (w : Trees) → m < n → path_in (node_paths table types paths n w) m ≡ []
none_before table [] paths n m w h = refl
none_before table (t ∷ types) [] n m w h = refl
none_before table (t ∷ types) (p ∷ paths) n m none h = refl
none_before table (t ∷ types) (p ∷ paths) n m (more (node l ks) ts) h =
    let a = none_before table (child_types (type_at table t) l ks) (child_paths (type_at table t) l p ks) (n + 1) m ks (omega (arith, h)) in
    let b = none_before table types paths (n + 1 + node_count ks) m ts (omega (arith, h)) in
    let inner = node_paths table (child_types (type_at table t) l ks) (child_paths (type_at table t) l p ks) (n + 1) ks in
    let outer = node_paths table types paths (n + 1 + node_count ks) ts in
    ap (λ x. elim x [ true ↦ p | false ↦ path_in (inner ++ outer) m ]) (ne_eqb n m (λ e. absurd (omega (arith, e, h)))) ∙ no_path_in inner outer m a b

-- the nodes of some values, and then of others
paths_joined : (table : Table) (types T : List ℕ) (paths P : List (List ℕ)) (n : ℕ) (ks us : Trees) → count ks ≡ length types → length paths ≡ length types
    → node_paths table (types ++ T) (paths ++ P) n (joined ks us) ≡ node_paths table types paths n ks ++ node_paths table T P (n + node_count ks) us
paths_joined table [] T [] P n none us e f = ap (λ m. node_paths table T P m us) (sym (add-zero n))
paths_joined table [] T (p ∷ paths) P n none us e f = cc
paths_joined table [] T paths P n (more t ks) us e f = cc
paths_joined table (t ∷ types) T paths P n none us e f = cc
paths_joined table (t ∷ types) T [] P n (more (node l js) ks) us e f = cc
paths_joined table (t ∷ types) T (p ∷ paths) P n (more (node l js) ks) us e f =
    let e' : count ks ≡ length types = omega (arith, e) in
    let f' : length paths ≡ length types = omega (arith, f) in
    let a = node_paths table (child_types (type_at table t) l js) (child_paths (type_at table t) l p js) (n + 1) js in
    let b = node_paths table types paths (n + 1 + node_count js) ks in
    let num : n + 1 + node_count js + node_count ks ≡ n + suc (node_count js + node_count ks) = omega arith in
    ap (λ xs. (n, p) ∷ (a ++ xs)) (paths_joined table types T paths P (n + 1 + node_count js) ks us e' f')
    ∙ ap (λ xs. (n, p) ∷ xs) (sym (append_assoc a b (node_paths table T P (n + 1 + node_count js + node_count ks) us)))
    ∙ ap (λ m. (n, p) ∷ ((a ++ b) ++ node_paths table T P m us)) num

-- a node of the first values has the path that it has among them
pub path_of_first : (table : Table) (types T : List ℕ) (paths P : List (List ℕ)) (n : ℕ) (ks us : Trees) → count ks ≡ length types → length paths ≡ length types → (m : ℕ)
    → m < n + node_count ks → path_in (node_paths table (types ++ T) (paths ++ P) n (joined ks us)) m ≡ path_in (node_paths table types paths n ks) m
path_of_first table types T paths P n ks us e f m h =
    ap (λ xs. path_in xs m) (paths_joined table types T paths P n ks us e f)
    ∙ front_path_in (node_paths table types paths n ks) (node_paths table T P (n + node_count ks) us) m (none_before table T P (n + node_count ks) m us h)

-- ## Nodes by number

pub nodes_flat : (w : Trees) → length (flat w) ≡ node_count w
nodes_flat none = refl
nodes_flat (more (node l ks) ts) = let a = nodes_flat ks in let b = nodes_flat ts in let c = length-append (flat ks) (flat ts) in omega (arith, a, b, c)

pub flat_of_first : (ks us : Trees) (i : ℕ) → i < node_count ks → slice_get (flat (joined ks us)) i ≡ slice_get (flat ks) i
flat_of_first ks us i h =
    ap (λ fs. slice_get fs i) (flat-joined ks us) ∙ get_in_front (flat ks) (flat us) i (let e = nodes_flat ks in omega (arith, e, h))

-- ## Past some values

pub skip_nodes : (table : Table) (types : List ℕ) (paths : List (List ℕ)) (n m : ℕ) (w : Trees) (xs : List (ℕ × List ℕ)) → n + node_count w ≤ m
    → path_in (node_paths table types paths n w ++ xs) m ≡ path_in xs m
skip_nodes table [] paths n m w xs h = refl
skip_nodes table (t ∷ types) [] n m w xs h = refl
skip_nodes table (t ∷ types) (p ∷ paths) n m none xs h = refl
skip_nodes table (t ∷ types) (p ∷ paths) n m (more (node l ks) ts) xs h =
    let inner = node_paths table (child_types (type_at table t) l ks) (child_paths (type_at table t) l p ks) (n + 1) ks in
    let outer = node_paths table types paths (n + 1 + node_count ks) ts in
    ap (λ x. elim x [ true ↦ p | false ↦ path_in ((inner ++ outer) ++ xs) m ]) (ne_eqb n m (λ e. absurd (omega (arith, e, h))))
    ∙ ap (λ ys. path_in ys m) (append_assoc inner outer xs)
    ∙ skip_nodes table (child_types (type_at table t) l ks) (child_paths (type_at table t) l p ks) (n + 1) m ks (outer ++ xs) (omega (arith, h))
    ∙ skip_nodes table types paths (n + 1 + node_count ks) m ts xs (omega (arith, h))

-- a node after the first values has the path that it has among the others
pub path_of_others : (table : Table) (types T : List ℕ) (paths P : List (List ℕ)) (n : ℕ) (ks us : Trees) → count ks ≡ length types → length paths ≡ length types → (m : ℕ)
    → n + node_count ks ≤ m
    → path_in (node_paths table (types ++ T) (paths ++ P) n (joined ks us)) m ≡ path_in (node_paths table T P (n + node_count ks) us) m
path_of_others table types T paths P n ks us e f m h =
    ap (λ xs. path_in xs m) (paths_joined table types T paths P n ks us e f) ∙ skip_nodes table types paths n m ks (node_paths table T P (n + node_count ks) us) h
