-- The homes of a partial graph.
-- `w` is a setting, `g` a graph, `h` a home, `c` a cell, `i` the index of a root, `x` is a cell of the graph, `t` a type's number, `f` a test of a node.
use Rattle.std.proofs.Common.{◌≡◌, ◌⊎◌, inl, inr, ◌∙◌, ℕ, zero, suc, ◌+◌, ◌<◌, Bool, true, false, List, [], ◌∷◌, ◌++◌, length, map, Option, Some, None, refl, sym, ap, ap₂, subst, arith}
use Rattle.std.specs.Prelude.{◌&&◌}
use Rattle.std.specs.List.{list_all, slice_get}
use Rattle.std.proofs.lemmas.Bool.{and_parts}
use Rattle.std.proofs.lemmas.Option.{same_Some, slice_get-get_or, slice_get_within}
use Rattle.nd_lemmas.proofs.Lists.{join_all}
use Rattle.nd_types.specs.declared.types.Class.TheVariants.{Ref}
use Rattle.nd_types.specs.declared.types.TypeDef.TheVariants as def
use Rattle.nd_types.specs.declared.types.TypeId.{TypeId}
use Rattle.nd_types.specs.Roots.{Root}
use Rattle.nd_types.specs.Table.{Table, type_at}
use Rattle.nd_value.specs.declared.item.Home.{Home}
use Rattle.nd_value.specs.declared.item.Home.TheVariants as home
use Rattle.nd_value.specs.declared.value.CellId.{CellId}
use Rattle.nd_value.specs.declared.value.Graph.{Graph}
use Rattle.nd_value.specs.Agreement.{Agreement, root_agreements}
use Rattle.nd_value.specs.Conforms.{IsPartial, HomeNode, all_pointers, cell_nodes, in_home, root_nodes}
use Rattle.nd_value.specs.Deferral.{Pending as Pointer, direct}
use Rattle.nd_value.specs.Misfit.{has_shape, is_no_null_ref, is_partial_node, names_cell, names_pointee}
use Rattle.nd_value.specs.Nodes.{TypedNode, child_agreements, child_types, first_agreements, governed_nodes, home_nodes, nodes_of, rest_agreements}
use Rattle.nd_value.specs.Setting.{Among, Setting, cell_at, cell_home, cell_of_number, cell_tree, or_unread, root_at, root_list, unread}
use Rattle.nd_value.specs.Tree as tree
use Rattle.nd_value.specs.Tree.{Label, Referent, Tree, Trees, more, node, node_count, none}
use Rattle.nd_value.proofs.NodeFacts.{IsReadOrNot, read_node, sound_partial, unread_no_null}
use Rattle.nd_value.proofs.DeferralExists.{direct_is}
use Rattle.nd_value.proofs.Orderly.{pointee_of_cell}
use Rattle.nd_grammar.proofs.next.StreamPointers.{is_good}
use Rattle.text_printer.proofs.Sound.{all_parts}
use Rattle.ndr_explain.specs.Cursors.{name_text}
use Rattle.ndr_explain.specs.declared.names.HomeName.{HomeName}
use Rattle.ndr_explain.specs.declared.names.HomeName.TheVariants as named
use Rattle.text_grammar.specs.Paths.{cell_types, home_name, root_types}
use Rattle.ndr_trace.specs.Homes.{HasHome, IsPart}
use Rattle.ndr_trace_value.specs.Naming.{HasType}
use Rattle.ndr_trace_value.specs.Tracing.{Known}

module _ (f : TypedNode → Bool) where
  of_home : (h : Home) (xs : List TypedNode) → list_all (λ (y : HomeNode). f y.typed) (map (in_home h) xs) ≡ list_all f xs
  of_home h [] = refl
  of_home h (x ∷ xs) = ap (λ b. f x && b) (of_home h xs)

  cell_part : (table : Table) (n : ℕ) (xs : List Referent) (i : ℕ) (x : Referent) → slice_get xs i ≡ Some x → list_all (λ (y : HomeNode). f y.typed) (cell_nodes table n xs) ≡ true
      → list_all f (home_nodes table x.of x.val) ≡ true
  cell_part table n [] i x e a = cc
  cell_part table n (y ∷ ys) zero x e a =
      let own : List HomeNode = map (in_home (cell_home n)) (home_nodes table y.of y.val) in
      let p = all_parts (λ (u : HomeNode). f u.typed) own (cell_nodes table (n + 1) ys) a in
      subst (λ (u : Referent). list_all f (home_nodes table u.of u.val) ≡ true) (same_Some _ _ e) (sym (of_home (cell_home n) (home_nodes table y.of y.val)) ∙ p.0)
  cell_part table n (y ∷ ys) (suc i) x e a =
      let own : List HomeNode = map (in_home (cell_home n)) (home_nodes table y.of y.val) in
      cell_part table (n + 1) ys i x e (all_parts (λ (u : HomeNode). f u.typed) own (cell_nodes table (n + 1) ys) a).1

  root_part : (w : Setting) (g : Graph) (n : ℕ) (rs : List Root) (vs : List Tree) (i : ℕ) (r : Root) (v : Tree) → slice_get rs i ≡ Some r → slice_get vs i ≡ Some v
      → list_all (λ (y : HomeNode). f y.typed) (root_nodes w g n rs vs) ≡ true → list_all f (governed_nodes w.table r.of (root_agreements w g r.vars) v) ≡ true
  root_part w g n [] vs i r v e d a = cc
  root_part w g n (q ∷ rs) [] i r v e d a = cc
  root_part w g n (q ∷ rs) (u ∷ vs) zero r v e d a =
      let own : List HomeNode = map (in_home (home.Root n)) (governed_nodes w.table q.of (root_agreements w g q.vars) u) in
      let p = all_parts (λ (x : HomeNode). f x.typed) own (root_nodes w g (n + 1) rs vs) a in
      subst (λ (x : Root). list_all f (governed_nodes w.table x.of (root_agreements w g x.vars) v) ≡ true) (same_Some _ _ e)
      (subst (λ x. list_all f (governed_nodes w.table q.of (root_agreements w g q.vars) x) ≡ true) (same_Some _ _ d)
      (sym (of_home (home.Root n) (governed_nodes w.table q.of (root_agreements w g q.vars) u)) ∙ p.0))
  root_part w g n (q ∷ rs) (u ∷ vs) (suc i) r v e d a =
      let own : List HomeNode = map (in_home (home.Root n)) (governed_nodes w.table q.of (root_agreements w g q.vars) u) in
      root_part w g (n + 1) rs vs i r v e d (all_parts (λ (x : HomeNode). f x.typed) own (root_nodes w g (n + 1) rs vs) a).1

-- what is tested of nodes, whatever agreements govern them
ungoverned : (table : Table) (g : Graph) (types : List ℕ) (ags ags' : List (List Agreement)) (n : ℕ) (ts : Trees)
    → list_all (is_partial_node table g) (nodes_of table types ags n ts) ≡ true → list_all (is_partial_node table g) (nodes_of table types ags' n ts) ≡ true
ungoverned table g types ags ags' n none a = refl
ungoverned table g [] ags ags' n (more t ts) a = refl
ungoverned table g (t ∷ types) ags ags' n (more (node l ks) ts) a =
    let d = type_at table t in
    let inner = nodes_of table (child_types d l ks) (child_agreements d ks) (n + 1) ks in
    let outer = nodes_of table types (rest_agreements ags) (n + 1 + node_count ks) ts in
    let outer' = nodes_of table types (rest_agreements ags') (n + 1 + node_count ks) ts in
    let own : TypedNode = record { node = n; of = t; agreements = first_agreements ags; label = l; kids = ks } in
    let (first, later) = and_parts (is_partial_node table g own) (list_all (is_partial_node table g) (inner ++ outer)) a in
    let parts = all_parts (is_partial_node table g) inner outer later in
    ap₂ (λ u v. u && v) first (join_all (is_partial_node table g) inner outer' parts.0 (ungoverned table g types (rest_agreements ags) (rest_agreements ags') (n + 1 + node_count ks) ts parts.1))

module _ (k : Known) (s : IsPart k) where
  -- a pointer that is not null names a cell of its referent's type
  pub typed_cell : (p : Pointer) → Among (all_pointers k.setting k.graph) p → (c : ℕ) → p.cell ≡ Some c → HasType k.graph c p.to
  typed_cell p a c e = (is_good k.setting k.graph (sound_partial k.setting k.graph s.partial) p a).typed c e

  pub cell_has_home : (c : CellId) (t : ℕ) → HasType k.graph c.0 t → HasHome k (home.Cell c) (named.Cell c) t
  cell_has_home c t (x, there, of) = record {
    legal = s.legal;
    name_is = refl;
    types = ap cell_types there ∙ ap (λ u. u ∷ []) of;
    partial = go c.0 there;
  }
    where
      go : (n : ℕ) → cell_of_number k.graph n ≡ Some x → list_all (is_partial_node k.setting.table k.graph) (home_nodes k.setting.table t (cell_at k.graph n)) ≡ true
      go zero e = cc
      go (suc i) e =
          let all = (all_parts (λ (y : HomeNode). is_partial_node k.setting.table k.graph y.typed) (root_nodes k.setting k.graph 0 (root_list k.setting) k.graph.roots)
          (cell_nodes k.setting.table 1 k.graph.cells) s.partial.local).1 in
          subst (λ u. list_all (is_partial_node k.setting.table k.graph) (home_nodes k.setting.table u (cell_at k.graph (suc i))) ≡ true) of
          (subst (λ v. list_all (is_partial_node k.setting.table k.graph) (home_nodes k.setting.table x.of v) ≡ true) (sym (ap cell_tree e))
          (cell_part (is_partial_node k.setting.table k.graph) k.setting.table 1 k.graph.cells i x e all))

  -- the nodes of a root
  root_partial : (i : ℕ) (r : Root) → slice_get (root_list k.setting) i ≡ Some r
      → list_all (is_partial_node k.setting.table k.graph) (home_nodes k.setting.table r.of (root_at k.graph i)) ≡ true
  root_partial i r there =
      let few : i < length k.graph.roots = (let a = s.partial.all_roots in let b = slice_get_within (root_list k.setting) i r there in omega (arith, a, b)) in
      let own : slice_get k.graph.roots i ≡ Some (root_at k.graph i) =
      (let got = slice_get-get_or k.graph.roots i unread few in got ∙ ap Some (sym (ap or_unread got))) in
      let all = (all_parts (λ (y : HomeNode). is_partial_node k.setting.table k.graph y.typed) (root_nodes k.setting k.graph 0 (root_list k.setting) k.graph.roots)
      (cell_nodes k.setting.table 1 k.graph.cells) s.partial.local).0 in
      ungoverned k.setting.table k.graph (r.of ∷ []) (root_agreements k.setting k.graph r.vars ∷ []) [] 0 (more (root_at k.graph i) none)
      (root_part (is_partial_node k.setting.table k.graph) k.setting k.graph 0 (root_list k.setting) k.graph.roots i r (root_at k.graph i) there own all)

  -- the value of a root that is no reference pointer
  pub root_has_home : (i : ℕ) (r : Root) (name : HomeName) → slice_get (root_list k.setting) i ≡ Some r → name_text name ≡ home_name k.setting (home.Root i)
      → HasHome k (home.Root i) name r.of
  root_has_home i r name there is = record { legal = s.legal; name_is = is; types = ap root_types there; partial = root_partial i r there }

  -- a reference pointer of a root is not read, or names a cell of its referent's type
  pub direct_typed : (i : ℕ) (r : Root) → slice_get (root_list k.setting) i ≡ Some r → (to : TypeId) → type_at k.setting.table r.of ≡ Some (def.Pointer Ref to)
      → (l : Label) (ks : Trees) → root_at k.graph i ≡ node l ks → (l ≡ tree.Unread) ⊎ ((c : ℕ) × (l ≡ tree.Ptr (Some c)) × HasType k.graph c to.0)
  direct_typed i r there to type_of l ks f =
      go (read_node k.setting.table k.graph (record { node = 0; of = r.of; agreements = []; label = l; kids = ks }) (first_of (root_partial i r there)))
    where
      first_of : list_all (is_partial_node k.setting.table k.graph) (home_nodes k.setting.table r.of (root_at k.graph i)) ≡ true
          → is_partial_node k.setting.table k.graph (record { node = 0; of = r.of; agreements = []; label = l; kids = ks }) ≡ true
      first_of a =
          let b = subst (λ v. list_all (is_partial_node k.setting.table k.graph) (home_nodes k.setting.table r.of v) ≡ true) f a in
          (and_parts (is_partial_node k.setting.table k.graph (record { node = 0; of = r.of; agreements = []; label = l; kids = ks })) _ b).0

      by_shape : (m : Label) (js : Trees) → l ≡ m → has_shape (Some (def.Pointer Ref to)) m js ≡ true → is_no_null_ref (Some (def.Pointer Ref to)) m ≡ true → names_cell k.graph m ≡ true
          → names_pointee k.graph (Some (def.Pointer Ref to)) m ≡ true → (l ≡ tree.Unread) ⊎ ((c : ℕ) × (l ≡ tree.Ptr (Some c)) × HasType k.graph c to.0)
      by_shape (tree.Ptr (Some c)) js e a b d p = inr (c, e, pointee_of_cell k.graph Ref to c d p)
      by_shape (tree.Ptr None) js e a b d p = cc
      by_shape tree.Unread js e a b d p = inl e
      by_shape _ js e a b d p = cc

      go : IsReadOrNot k.setting.table k.graph r.of l ks → (l ≡ tree.Unread) ⊎ ((c : ℕ) × (l ≡ tree.Ptr (Some c)) × HasType k.graph c to.0)
      go (inl u) = inl u
      go (inr q) =
          by_shape l ks refl (ap (λ d. has_shape d l ks) (sym type_of) ∙ q.shape) (ap (λ d. is_no_null_ref d l) (sym type_of) ∙ q.no_null) q.cell
          (ap (λ d. names_pointee k.graph d l) (sym type_of) ∙ q.pointee)

  -- what stands for a reference pointer of a root
  pub known_direct : (i : ℕ) (r : Root) → slice_get (root_list k.setting) i ≡ Some r → (c t : ℕ) → direct (type_at k.setting.table r.of) (root_at k.graph i) ≡ Some (c, t)
      → (to : TypeId) × (type_at k.setting.table r.of ≡ Some (def.Pointer Ref to)) × ((ks : Trees) × (root_at k.graph i ≡ node (tree.Ptr (Some c)) ks)) × (t ≡ to.0)
  known_direct i r there c t e = by_value (root_at k.graph i) refl
    where
      Goal : Type 0
      Goal =
          (to : TypeId) × (type_at k.setting.table r.of ≡ Some (def.Pointer Ref to)) × ((ks : Trees) × (root_at k.graph i ≡ node (tree.Ptr (Some c)) ks)) × (t ≡ to.0)

      by_value : (v : Tree) → root_at k.graph i ≡ v → Goal
      by_value (node l ks) f =
          let (to, d, p, u) = direct_is (type_at k.setting.table r.of) l ks c t (ap (direct (type_at k.setting.table r.of)) (sym f) ∙ e) no_null in
          (to, d, (ks, f ∙ ap (λ m. node m ks) p), u)
        where
          read : IsReadOrNot k.setting.table k.graph r.of l ks
          read =
              read_node k.setting.table k.graph (record { node = 0; of = r.of; agreements = []; label = l; kids = ks })
              (and_parts (is_partial_node k.setting.table k.graph (record { node = 0; of = r.of; agreements = []; label = l; kids = ks })) _
              (subst (λ v. list_all (is_partial_node k.setting.table k.graph) (home_nodes k.setting.table r.of v) ≡ true) f (root_partial i r there))).0

          by_read : IsReadOrNot k.setting.table k.graph r.of l ks → is_no_null_ref (type_at k.setting.table r.of) l ≡ true
          by_read (inl u) = ap (is_no_null_ref (type_at k.setting.table r.of)) u ∙ unread_no_null (type_at k.setting.table r.of)
          by_read (inr q) = q.no_null

          no_null : is_no_null_ref (type_at k.setting.table r.of) l ≡ true
          no_null = by_read read
