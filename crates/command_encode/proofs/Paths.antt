-- A node of a graph has one path at most, and the first misfit of a graph has one.
use Rattle.std.proofs.Common.{◌≡◌, ℕ, zero, suc, ◌+◌, ◌≤◌, ◌<◌, Bool, true, false, List, [], ◌∷◌, ◌++◌, length, map, Option, Some, None, inl, inr, ◌⊎◌, refl, sym, ◌∙◌, ap, subst, arith}
use Rattle.std.specs.Prelude.{cond, eqb, ltb, flat_map, replicate}
use Rattle.std.specs.List.{slice_get, list_any}
use Rattle.std.proofs.lemmas.Option.{same_Some}
use Rattle.nd_types.specs.declared.types.TypeDef.{TypeDef}
use Rattle.nd_types.specs.declared.types.TypeDef.TheVariants as def
use Rattle.nd_types.specs.declared.types.Arm.{Arm}
use Rattle.nd_types.specs.declared.types.Field.{Field}
use Rattle.nd_types.specs.declared.types.TypeId.{TypeId}
use Rattle.nd_types.specs.Layout.{type_list}
use Rattle.nd_types.specs.Roots.{Root}
use Rattle.nd_types.specs.Table.{Table, type_at, selected}
use Rattle.nd_value.specs.declared.item.Home.{Home}
use Rattle.nd_value.specs.declared.item.Home.TheVariants as home
use Rattle.nd_value.specs.declared.misfit.MisfitReason.{MisfitReason}
use Rattle.nd_value.specs.declared.misfit.MisfitReason.TheVariants as misfit
use Rattle.nd_value.specs.declared.value.Graph.{Graph}
use Rattle.nd_value.specs.Agreement.{Agreement, root_agreements}
use Rattle.nd_value.specs.Deferral.{Pending, pointer, pointer_by, home_pointers}
use Rattle.nd_value.specs.Conforms.{MisfitAt, or_later, at_node, first_node, root_count, clashes, first_shared, IsFirstMisfit, is_local, is_shared, is_unreached, is_disagreeing, disagreement_of}
use Rattle.nd_value.specs.Conforms.{HomeNode, in_home, root_nodes, cell_nodes, root_pointers, cell_pointers, all_pointers, subject}
use Rattle.nd_value.specs.Misfit.{misfit_of}
use Rattle.nd_value.specs.Nodes.{TypedNode, nodes_of, governed_nodes, home_nodes, child_types, child_agreements, rest_agreements, selected_types}
use Rattle.nd_value.specs.Setting.{Setting, Among, root_list, or_unread, cell_home, cell_of_number, cell_tree}
use Rattle.nd_value.specs.Tree as tree
use Rattle.nd_value.specs.Tree.{Tree, Trees, node, none, more, count, node_count, Label, Referent, is_pointer, cell_in}
use Rattle.nd_value.proofs.Apart.{among_left, among_right}
use Rattle.text_grammar.specs.Paths.{child_paths, element_paths, arm_paths, member_path, node_paths, home_name, home_types, home_value, root_types, cell_types, IsPath}
use Rattle.nd_lemmas.proofs.Lists.{length_map as map_length}

-- ## Items of lists

parted : {X : Type 0} (xs ys : List X) (x : X) → Among (xs ++ ys) x → Among xs x ⊎ Among ys x
parted [] ys x a = inr a
parted (y ∷ xs) ys x (inl e) = inl (inl e)
parted (y ∷ xs) ys x (inr a) = elim (parted xs ys x a) [ inl b ↦ inl (inr b) | inr b ↦ inr b ]

-- what a function gives of one of these
pub record Image {X Y : Type 0} (f : X → Y) (xs : List X) (y : Y) : Type 0 where
  pub of : X
  pub among : Among xs of
  pub is : y ≡ f of

mapped : {X Y : Type 0} (f : X → Y) (xs : List X) (y : Y) → Among (map f xs) y → Image f xs y
mapped f [] y a = absurd a
mapped f (x ∷ xs) y (inl e) = record { of = x; among = inl refl; is = e }
mapped f (x ∷ xs) y (inr a) = let i = mapped f xs y a in record { of = i.of; among = inr i.among; is = i.is }

-- what is among the lists that a function gives of these
pub record Gathered {X Y : Type 0} (f : X → List Y) (xs : List X) (y : Y) : Type 0 where
  pub of : X
  pub among : Among xs of
  pub is : Among (f of) y

gathered : {X Y : Type 0} (f : X → List Y) (xs : List X) (y : Y) → Among (flat_map f xs) y → Gathered f xs y
gathered f [] y a = absurd a
gathered f (x ∷ xs) y a =
    elim (parted (f x) (flat_map f xs) y a) [
      | inl b ↦ record { of = x; among = inl refl; is = b }
      | inr b ↦ let i = gathered f xs y b in record { of = i.of; among = inr i.among; is = i.is }
    ]

-- ## Paths of nodes

module _ (table : Table) where
  -- the nodes of the children of a node, and of the values after it
  abbrev kid_paths : ℕ → List ℕ → ℕ → Label → Trees → List (ℕ × List ℕ)
  kid_paths t q n l ks = node_paths table (child_types (type_at table t) l ks) (child_paths (type_at table t) l q ks) (n + 1) ks

  abbrev next_paths : List ℕ → List (List ℕ) → ℕ → Trees → Trees → List (ℕ × List ℕ)
  next_paths types paths n ks ts = node_paths table types paths (n + 1 + node_count ks) ts

  -- the numbers of nodes with paths count the nodes
  pub within : (types : List ℕ) (paths : List (List ℕ)) (n : ℕ) (ts : Trees) (m : ℕ) (p : List ℕ)
      → Among (node_paths table types paths n ts) (m, p) → (n ≤ m) × (m < n + node_count ts)
  within [] paths n ts m p a = absurd a
  within (t ∷ types) [] n ts m p a = absurd a
  within (t ∷ types) (q ∷ paths) n none m p a = absurd a
  within (t ∷ types) (q ∷ paths) n (more (node l ks) ts) m p (inl e) =
      let same : m ≡ n = ap (λ (x : ℕ × List ℕ). x.0) e in
      (omega (arith, same), omega (arith, same))
  within (t ∷ types) (q ∷ paths) n (more (node l ks) ts) m p (inr a) =
      elim (parted (kid_paths t q n l ks) (next_paths types paths n ks ts) (m, p) a) [
        | inl b ↦
            let (low, high) = within (child_types (type_at table t) l ks) (child_paths (type_at table t) l q ks) (n + 1) ks m p b in
            (omega (arith, low), omega (arith, high))
        | inr b ↦
            let (low, high) = within types paths (n + 1 + node_count ks) ts m p b in
            (omega (arith, low), omega (arith, high))
      ]

  -- a node after the first has a greater number
  deeper : (t : ℕ) (types : List ℕ) (q : List ℕ) (paths : List (List ℕ)) (n : ℕ) (l : Label) (ks ts : Trees) (m : ℕ) (p : List ℕ)
      → Among (kid_paths t q n l ks) (m, p) ⊎ Among (next_paths types paths n ks ts) (m, p) → n + 1 ≤ m
  deeper t types q paths n l ks ts m p (inl b) = (within (child_types (type_at table t) l ks) (child_paths (type_at table t) l q ks) (n + 1) ks m p b).0
  deeper t types q paths n l ks ts m p (inr b) =
      let low = (within types paths (n + 1 + node_count ks) ts m p b).0 in
      omega (arith, low)

  -- no number is one of a child's nodes and of a later value's
  apart : {B : Type 0} (t : ℕ) (types : List ℕ) (q : List ℕ) (paths : List (List ℕ)) (n : ℕ) (l : Label) (ks ts : Trees) (m : ℕ) (p r : List ℕ)
      → Among (kid_paths t q n l ks) (m, p) → Among (next_paths types paths n ks ts) (m, r) → B
  apart t types q paths n l ks ts m p r b c =
      let high = (within (child_types (type_at table t) l ks) (child_paths (type_at table t) l q ks) (n + 1) ks m p b).1 in
      let low = (within types paths (n + 1 + node_count ks) ts m r c).0 in
      absurd (omega (arith, high, low))

  -- so a number has one path
  pub one : (types : List ℕ) (paths : List (List ℕ)) (n : ℕ) (ts : Trees) (m : ℕ) (p q : List ℕ)
      → Among (node_paths table types paths n ts) (m, p) → Among (node_paths table types paths n ts) (m, q) → p ≡ q
  one [] paths n ts m p q a b = absurd a
  one (t ∷ types) [] n ts m p q a b = absurd a
  one (t ∷ types) (r ∷ paths) n none m p q a b = absurd a
  one (t ∷ types) (r ∷ paths) n (more (node l ks) ts) m p q (inl e) (inl f) = ap (λ (x : ℕ × List ℕ). x.1) e ∙ sym (ap (λ (x : ℕ × List ℕ). x.1) f)
  one (t ∷ types) (r ∷ paths) n (more (node l ks) ts) m p q (inl e) (inr b) =
      let same : m ≡ n = ap (λ (x : ℕ × List ℕ). x.0) e in
      let low = deeper t types r paths n l ks ts m q (parted (kid_paths t r n l ks) (next_paths types paths n ks ts) (m, q) b) in
      absurd (omega (arith, same, low))
  one (t ∷ types) (r ∷ paths) n (more (node l ks) ts) m p q (inr a) (inl f) =
      let same : m ≡ n = ap (λ (x : ℕ × List ℕ). x.0) f in
      let low = deeper t types r paths n l ks ts m p (parted (kid_paths t r n l ks) (next_paths types paths n ks ts) (m, p) a) in
      absurd (omega (arith, same, low))
  one (t ∷ types) (r ∷ paths) n (more (node l ks) ts) m p q (inr a) (inr b) =
      elim (parted (kid_paths t r n l ks) (next_paths types paths n ks ts) (m, p) a) [
        | inl c ↦
            elim (parted (kid_paths t r n l ks) (next_paths types paths n ks ts) (m, q) b) [
              | inl d ↦ one (child_types (type_at table t) l ks) (child_paths (type_at table t) l r ks) (n + 1) ks m p q c d
              | inr d ↦ apart t types r paths n l ks ts m p q c d
            ]
        | inr c ↦
            elim (parted (kid_paths t r n l ks) (next_paths types paths n ks ts) (m, q) b) [
              | inl d ↦ apart t types r paths n l ks ts m q p d c
              | inr d ↦ one types paths (n + 1 + node_count ks) ts m p q c d
            ]
      ]

  -- the node that is first has the first path
  pub first_is : (types : List ℕ) (name : List ℕ) (v : Tree) (m : ℕ) (q : List ℕ) → m ≡ 0
      → Among (node_paths table types (name ∷ []) 0 (more v none)) (m, q) → q ≡ name
  first_is [] name v m q start a = absurd a
  first_is (t ∷ types) name (node l ks) m q start (inl e) = ap (λ (x : ℕ × List ℕ). x.1) e
  first_is (t ∷ types) name (node l ks) m q start (inr a) =
      let low = deeper t types name [] 0 l ks none m q (parted (kid_paths t name 0 l ks) (next_paths types [] 0 ks none) (m, q) a) in
      absurd (omega (arith, low, start))

-- each node has one path at most
pub one_path : (w : Setting) (g : Graph) (h : Home) (n : ℕ) (p q : List ℕ) → IsPath w g h n p → IsPath w g h n q → p ≡ q
one_path w g h n p q (inl e) (inl f) = ap (λ (x : ℕ × List ℕ). x.1) e ∙ sym (ap (λ (x : ℕ × List ℕ). x.1) f)
one_path w g h n p q (inl e) (inr b) =
    ap (λ (x : ℕ × List ℕ). x.1) e ∙ sym (first_is w.table (home_types w g h) (home_name w h) (home_value g h) n q (ap (λ (x : ℕ × List ℕ). x.0) e) b)
one_path w g h n p q (inr a) (inl f) =
    first_is w.table (home_types w g h) (home_name w h) (home_value g h) n p (ap (λ (x : ℕ × List ℕ). x.0) f) a ∙ sym (ap (λ (x : ℕ × List ℕ). x.1) f)
one_path w g h n p q (inr a) (inr b) = one w.table (home_types w g h) (home_name w h ∷ []) 0 (more (home_value g h) none) n p q a b

-- ## Which nodes have a path

element_count : (p : List ℕ) (i : ℕ) (ks : Trees) → length (element_paths p i ks) ≡ count ks
element_count p i none = refl
element_count p i (more k ks) = ap suc (element_count p (i + 1) ks)

replicated : (n : ℕ) (t : ℕ) → length (replicate n t) ≡ n
replicated zero t = refl
replicated (suc n) t = ap suc (replicated n t)

few_types : (o : Option TypeId) → length (type_list o) ≤ 1
few_types None = omega arith
few_types (Some t) = omega arith

arm_named : (p : List ℕ) (name : Option (List ℕ)) → length {A = List ℕ} (elim name [ None ↦ p ∷ [] | Some n ↦ member_path p n ∷ [] ]) ≡ 1
arm_named p None = refl
arm_named p (Some n) = refl

arm_count : (o : Option Arm) (p : List ℕ) → length (selected_types o) ≤ length (arm_paths p o)
arm_count None p = omega arith
arm_count (Some a) p =
    let types = few_types a.of in
    let paths = arm_named p a.name in
    omega (arith, types, paths)

-- a path for each child that has a type
covered : (d : Option TypeDef) (l : Label) (p : List ℕ) (ks : Trees) → length (child_types d l ks) ≤ length (child_paths d l p ks)
covered (Some (def.Struct members)) tree.Rec p ks =
    let types = map_length (λ (f : Field). f.of.0) members in
    let paths = map_length (λ (f : Field). member_path p f.name) members in
    omega (arith, types, paths)
covered (Some (def.Array elem bound varying)) (tree.Arr max offset) p ks =
    let types = replicated (count ks) elem.0 in
    let paths = element_count p offset ks in
    omega (arith, types, paths)
covered (Some (def.Union tag encapsulated arms default)) (tree.Union z) p ks = arm_count (selected arms default z) p
covered (Some (def.Pipe elem)) tree.Pipe p ks =
    let types = replicated (count ks) elem.0 in
    let paths = element_count p 0 ks in
    omega (arith, types, paths)
covered _ _ p ks = omega arith

-- the same of values one after the other
pub record Pathed (table : Table) (types : List ℕ) (paths : List (List ℕ)) (n : ℕ) (ts : Trees) (m : ℕ) : Type 0 where
  pub path : List ℕ
  pub among : Among (node_paths table types paths n ts) (m, path)

module _ (table : Table) where
  pub has_path : (types : List ℕ) (agreements : List (List Agreement)) (paths : List (List ℕ)) (n : ℕ) (ts : Trees) → length types ≤ length paths
      → (x : TypedNode) → Among (nodes_of table types agreements n ts) x → Pathed table types paths n ts x.node
  has_path types agreements paths n none few x a = absurd a
  has_path [] agreements paths n (more v ts) few x a = absurd a
  has_path (t ∷ types) agreements [] n (more v ts) few x a = absurd (omega (arith, few))
  has_path (t ∷ types) agreements (q ∷ paths) n (more (node l ks) ts) few x (inl e) =
      record { path = q; among = inl (ap (λ (y : TypedNode). (y.node, q)) e) }
  has_path (t ∷ types) agreements (q ∷ paths) n (more (node l ks) ts) few x (inr a) =
      let kids = nodes_of table (child_types (type_at table t) l ks) (child_agreements (type_at table t) ks) (n + 1) ks in
      let later = nodes_of table types (rest_agreements agreements) (n + 1 + node_count ks) ts in
      let fewer : length types ≤ length paths = omega (arith, few) in
      elim (parted kids later x a) [
        | inl b ↦
            let k = has_path (child_types (type_at table t) l ks) (child_agreements (type_at table t) ks) (child_paths (type_at table t) l q ks) (n + 1) ks
            (covered (type_at table t) l q ks) x b in
            record { path = k.path; among = inr (among_left (kid_paths table t q n l ks) (next_paths table types paths n ks ts) (x.node, k.path) k.among) }
        | inr b ↦
            let k = has_path types (rest_agreements agreements) paths (n + 1 + node_count ks) ts fewer x b in
            record { path = k.path; among = inr (among_right (kid_paths table t q n l ks) (next_paths table types paths n ks ts) (x.node, k.path) k.among) }
      ]

-- ## The first misfit

-- a place in a graph has a path
pub record HasPath (w : Setting) (g : Graph) (h : Home) (n : ℕ) : Type 0 where
  pub path : List ℕ
  pub is_path : IsPath w g h n path

module _ (w : Setting) (g : Graph) where
  -- a home's own value
  own_path : (h : Home) (n : ℕ) → n ≡ 0 → HasPath w g h n
  own_path h n start = record { path = home_name w h; is_path = inl (ap (λ (m : ℕ). (m, home_name w h)) start) }

  -- a node of a home that is there
  of_home : (h : Home) (t : ℕ) (v : Tree) (agreements : List (List Agreement)) → home_types w g h ≡ t ∷ [] → home_value g h ≡ v
      → (x : TypedNode) → Among (nodes_of w.table (t ∷ []) agreements 0 (more v none)) x → HasPath w g h x.node
  of_home h t v agreements typed valued x a =
      let k = has_path w.table (t ∷ []) agreements (home_name w h ∷ []) 0 (more v none) (omega arith) x a in
      record {
        path = k.path;
        is_path = inr (subst (λ types. Among (node_paths w.table types (home_name w h ∷ []) 0 (more (home_value g h) none)) (x.node, k.path)) (sym typed)
            (subst (λ u. Among (node_paths w.table (t ∷ []) (home_name w h ∷ []) 0 (more u none)) (x.node, k.path)) (sym valued) k.among));
      }

  -- nodes of the roots from the i-th on, and of the cells from number c on
  of_root : (i : ℕ) (r : Root) (v : Tree) → slice_get (root_list w) i ≡ Some r → slice_get g.roots i ≡ Some v → (agreements : List (List Agreement))
      → (x : TypedNode) → Among (nodes_of w.table (r.of ∷ []) agreements 0 (more v none)) x → HasPath w g (home.Root i) x.node
  of_root i r v is_root is_value agreements x a = of_home (home.Root i) r.of v agreements (ap root_types is_root) (ap or_unread is_value) x a

  of_cell : (c : ℕ) (k : Referent) → cell_of_number g c ≡ Some k → (agreements : List (List Agreement))
      → (x : TypedNode) → Among (nodes_of w.table (k.of ∷ []) agreements 0 (more k.val none)) x → HasPath w g (cell_home c) x.node
  of_cell c k is_cell agreements x a = of_home (cell_home c) k.of k.val agreements (ap cell_types is_cell) (ap cell_tree is_cell) x a

  -- a list is that of a graph from a place on
  abbrev From : {X : Type 0} → (ℕ → Option X) → ℕ → List X → Type 0
  From at i xs = (k : ℕ) → at (i + k) ≡ slice_get xs k

  first_from : {X : Type 0} (at : ℕ → Option X) (i : ℕ) (x : X) (xs : List X) → From at i (x ∷ xs) → at i ≡ Some x
  first_from at i x xs from =
      let here : i + 0 ≡ i = omega arith in
      subst (λ j. at j ≡ Some x) here (from 0)

  later_from : {X : Type 0} (at : ℕ → Option X) (i : ℕ) (x : X) (xs : List X) → From at i (x ∷ xs) → From at (i + 1) xs
  later_from at i x xs from k =
      let next : i + suc k ≡ i + 1 + k = omega arith in
      subst (λ j. at j ≡ slice_get xs k) next (from (suc k))

  root_has_path : (i : ℕ) (rs : List Root) (vs : List Tree) → From (slice_get (root_list w)) i rs → From (slice_get g.roots) i vs
      → (x : HomeNode) → Among (root_nodes w g i rs vs) x → HasPath w g x.home x.typed.node
  root_has_path i [] vs from with_values x a = absurd a
  root_has_path i (r ∷ rs) [] from with_values x a = absurd a
  root_has_path i (r ∷ rs) (v ∷ vs) from with_values x a =
      elim (parted (map (in_home (home.Root i)) (governed_nodes w.table r.of (root_agreements w g r.vars) v)) (root_nodes w g (i + 1) rs vs) x a) [
        | inl b ↦
            let m = mapped (in_home (home.Root i)) (governed_nodes w.table r.of (root_agreements w g r.vars) v) x b in
            subst (λ (y : HomeNode). HasPath w g y.home y.typed.node) (sym m.is)
            (of_root i r v (first_from (slice_get (root_list w)) i r rs from) (first_from (slice_get g.roots) i v vs with_values) (root_agreements w g r.vars ∷ []) m.of m.among)
        | inr b ↦
            root_has_path (i + 1) rs vs (later_from (slice_get (root_list w)) i r rs from) (later_from (slice_get g.roots) i v vs with_values) x b
      ]

  cell_has_path : (c : ℕ) (ks : List Referent) → From (cell_of_number g) c ks → (x : HomeNode) → Among (cell_nodes w.table c ks) x
      → HasPath w g x.home x.typed.node
  cell_has_path c [] from x a = absurd a
  cell_has_path c (k ∷ ks) from x a =
      elim (parted (map (in_home (cell_home c)) (home_nodes w.table k.of k.val)) (cell_nodes w.table (c + 1) ks) x a) [
        | inl b ↦
            let m = mapped (in_home (cell_home c)) (home_nodes w.table k.of k.val) x b in
            subst (λ (y : HomeNode). HasPath w g y.home y.typed.node) (sym m.is) (of_cell c k (first_from (cell_of_number g) c k ks from) [] m.of m.among)
        | inr b ↦ cell_has_path (c + 1) ks (later_from (cell_of_number g) c k ks from) x b
      ]

  all_roots : From (slice_get (root_list w)) 0 (root_list w)
  all_roots k =
      let same : 0 + k ≡ k = omega arith in
      ap (slice_get (root_list w)) same

  all_values : From (slice_get g.roots) 0 g.roots
  all_values k =
      let same : 0 + k ≡ k = omega arith in
      ap (slice_get g.roots) same

  all_cells : From (cell_of_number g) 1 g.cells
  all_cells k =
      let same : 1 + k ≡ suc k = omega arith in
      ap (cell_of_number g) same

  root_node_path : (x : HomeNode) → Among (root_nodes w g 0 (root_list w) g.roots) x → HasPath w g x.home x.typed.node
  root_node_path x a = root_has_path 0 (root_list w) g.roots all_roots all_values x a

  cell_node_path : (x : HomeNode) → Among (cell_nodes w.table 1 g.cells) x → HasPath w g x.home x.typed.node
  cell_node_path x a = cell_has_path 1 g.cells all_cells x a

  node_path : (x : HomeNode) → Among (root_nodes w g 0 (root_list w) g.roots ++ cell_nodes w.table 1 g.cells) x → HasPath w g x.home x.typed.node
  node_path x a = elim (parted (root_nodes w g 0 (root_list w) g.roots) (cell_nodes w.table 1 g.cells) x a) [ inl b ↦ root_node_path x b | inr b ↦ cell_node_path x b ]

  -- ## Pointers

  pointer_is : (d : Option TypeDef) (b : Bool) (c : Option ℕ) (h : Home) (n : ℕ) (agreements : List Agreement) (p : Pending)
      → Among (pointer_by d b c h n agreements) p → (p.home ≡ h) × (p.node ≡ n)
  pointer_is (Some (def.Pointer class to)) true c h n agreements p (inl e) = (ap (λ (q : Pending). q.home) e, ap (λ (q : Pending). q.node) e)
  pointer_is (Some (def.Pointer class to)) true c h n agreements p (inr a) = absurd a
  pointer_is _ _ c h n agreements p a = absurd a

  -- the pointers of a home are nodes of it
  of_pointer : (h : Home) (t : ℕ) (v : Tree) → ((x : TypedNode) → Among (home_nodes w.table t v) x → HasPath w g h x.node)
      → (p : Pending) → Among (home_pointers w.table h t v) p → HasPath w g p.home p.node
  of_pointer h t v paths p a =
      let x = gathered (pointer w.table h) (home_nodes w.table t v) p a in
      let (homed, numbered) = pointer_is (type_at w.table x.of.of) (is_pointer x.of.label) (cell_in x.of.label) h x.of.node x.of.agreements p x.is in
      subst (λ k. HasPath w g k p.node) (sym homed) (subst (λ n. HasPath w g h n) (sym numbered) (paths x.of x.among))

  root_pointer_path : (i : ℕ) (rs : List Root) (vs : List Tree) → From (slice_get (root_list w)) i rs → From (slice_get g.roots) i vs
      → (p : Pending) → Among (root_pointers w.table i rs vs) p → HasPath w g p.home p.node
  root_pointer_path i [] vs from with_values p a = absurd a
  root_pointer_path i (r ∷ rs) [] from with_values p a = absurd a
  root_pointer_path i (r ∷ rs) (v ∷ vs) from with_values p a =
      elim (parted (home_pointers w.table (home.Root i) r.of v) (root_pointers w.table (i + 1) rs vs) p a) [
        | inl b ↦
            of_pointer (home.Root i) r.of v
            (of_root i r v (first_from (slice_get (root_list w)) i r rs from) (first_from (slice_get g.roots) i v vs with_values) []) p b
        | inr b ↦
            root_pointer_path (i + 1) rs vs (later_from (slice_get (root_list w)) i r rs from) (later_from (slice_get g.roots) i v vs with_values) p b
      ]

  cell_pointer_path : (c : ℕ) (ks : List Referent) → From (cell_of_number g) c ks → (p : Pending) → Among (cell_pointers w.table c ks) p
      → HasPath w g p.home p.node
  cell_pointer_path c [] from p a = absurd a
  cell_pointer_path c (k ∷ ks) from p a =
      elim (parted (home_pointers w.table (cell_home c) k.of k.val) (cell_pointers w.table (c + 1) ks) p a) [
        | inl b ↦ of_pointer (cell_home c) k.of k.val (of_cell c k (first_from (cell_of_number g) c k ks from) []) p b
        | inr b ↦ cell_pointer_path (c + 1) ks (later_from (cell_of_number g) c k ks from) p b
      ]

  pointer_path : (p : Pending) → Among (all_pointers w g) p → HasPath w g p.home p.node
  pointer_path p a =
      elim (parted (root_pointers w.table 0 (root_list w) g.roots) (cell_pointers w.table 1 g.cells) p a) [
        | inl b ↦ root_pointer_path 0 (root_list w) g.roots all_roots all_values p b
        | inr b ↦ cell_pointer_path 1 g.cells all_cells p b
      ]

  -- ## Which place is reported

  abbrev AtPath : MisfitAt → Type 0
  AtPath m = HasPath w g m.home m.node

  here_or_later : (x : HomeNode) (o : Option MisfitReason) (later : Option MisfitAt) (m : MisfitAt) → HasPath w g x.home x.typed.node
      → (later ≡ Some m → AtPath m) → or_later (at_node x o) later ≡ Some m → AtPath m
  here_or_later x None later m own next e = next e
  here_or_later x (Some r) later m own next e = subst AtPath (same_Some _ _ e) own

  first_has_path : (test : TypedNode → Option MisfitReason) (xs : List HomeNode) (m : MisfitAt)
      → ((x : HomeNode) → Among xs x → HasPath w g x.home x.typed.node) → first_node test xs ≡ Some m → AtPath m
  first_has_path test [] m paths e = cc
  first_has_path test (x ∷ xs) m paths e =
      here_or_later x (test x.typed) (first_node test xs) m (paths x (inl refl)) (first_has_path test xs m (λ y a. paths y (inr a))) e

  count_path : (t : Bool) (has : ℕ) (m : MisfitAt) → cond t None (Some (record { home = home.Root has; node = 0; reason = misfit.Shape })) ≡ Some m → AtPath m
  count_path true has m e = cc
  count_path false has m e = subst AtPath (same_Some _ _ e) (own_path (home.Root has) 0 refl)

  or_path : (a b : Option MisfitAt) (m : MisfitAt) → (a ≡ Some m → AtPath m) → (b ≡ Some m → AtPath m) → or_later a b ≡ Some m → AtPath m
  or_path None b m first next e = next e
  or_path (Some x) b m first next e = first e

  shared_here : (t : Bool) (p : Pending) (later : Option MisfitAt) (m : MisfitAt) → HasPath w g p.home p.node → (later ≡ Some m → AtPath m)
      → cond t (Some (record { home = p.home; node = p.node; reason = misfit.Shared })) later ≡ Some m → AtPath m
  shared_here true p later m own next e = subst AtPath (same_Some _ _ e) own
  shared_here false p later m own next e = next e

  shared_path : (earlier ps : List Pending) (m : MisfitAt) → ((p : Pending) → Among ps p → HasPath w g p.home p.node) → first_shared earlier ps ≡ Some m → AtPath m
  shared_path earlier [] m paths e = cc
  shared_path earlier (p ∷ ps) m paths e =
      shared_here (list_any (clashes p) earlier) p (first_shared (p ∷ earlier) ps) m (paths p (inl refl)) (shared_path (p ∷ earlier) ps m (λ q a. paths q (inr a))) e

  -- the first misfit has a path
  pub misfit_path : (m : MisfitAt) → IsFirstMisfit w g m → AtPath m
  misfit_path m (is_local x e) =
      let has = length g.roots in
      let due = length (root_list w) in
      let in_roots = first_node (misfit_of w.table g) (root_nodes w g 0 (root_list w) g.roots) in
      let in_cells = first_node (misfit_of w.table g) (cell_nodes w.table 1 g.cells) in
      or_path in_roots (or_later (root_count has due) in_cells) m
      (first_has_path (misfit_of w.table g) (root_nodes w g 0 (root_list w) g.roots) m root_node_path)
      (or_path (root_count has due) in_cells m (count_path (eqb has due) (cond (ltb has due) has due) m)
      (first_has_path (misfit_of w.table g) (cell_nodes w.table 1 g.cells) m cell_node_path)) e
  misfit_path m (is_shared x whole e) = shared_path [] (all_pointers w g) m pointer_path e
  misfit_path m (is_unreached c a b u) = own_path (cell_home c) 0 refl
  misfit_path m (is_disagreeing x a b r e) =
      first_has_path (λ y. disagreement_of (subject g y) y.agreements) (root_nodes w g 0 (root_list w) g.roots ++ cell_nodes w.table 1 g.cells) m node_path e
