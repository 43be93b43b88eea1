-- A graph of values of the program: each node is one, and a node in which the first pass finds no misfit can be kept.
use Rattle.std.proofs.Common.{◌≡◌, ℕ, ◌+◌, ◌^◌, ◌<◌, ◌≤◌, ℤ, true, ◌&&◌, List, [], ◌∷◌, length, Option, Some, None, refl, sym, ◌∙◌, arith, subst, map}
use Rattle.std.specs.List.{list_all, AllByRecursion}
use Rattle.std.specs.Cmp.Derive.{both_true}
use Rattle.std.proofs.lemmas.Bool.{and_parts, leb-true, ltb-true}
use Rattle.std.proofs.lemmas.List.{map-append}
use Rattle.nd_types.specs.declared.types.TypeDef.{TypeDef}
use Rattle.nd_types.specs.declared.types.TypeDef.TheVariants as def
use Rattle.nd_types.specs.declared.types.Primitive.TheVariants.{Short}
use Rattle.nd_types.specs.Legal.{has_small_values}
use Rattle.nd_types.specs.Table.{Table, type_at, fits_octets}
use Rattle.nd_types.specs.Roots.{Root, NamedRoot, named_root}
use Rattle.nd_value.specs.declared.value.Graph.{Graph}
use Rattle.nd_value.specs.declared.item.Home.{Home}
use Rattle.nd_value.specs.declared.item.Home.TheVariants as home
use Rattle.nd_value.specs.Tree as tree
use Rattle.nd_value.specs.Tree.{Tree, Trees, Label, node, none, more, count, trees, node_count, Referent}
use Rattle.nd_value.specs.Agreement.{Agreement, root_agreements}
use Rattle.nd_value.specs.Setting.{Setting, root_list, cell_home}
use Rattle.nd_value.specs.Nodes.{TypedNode, child_types, child_agreements, rest_agreements, nodes_of}
use Rattle.nd_value.specs.Conforms.{HomeNode, in_home, root_nodes, cell_nodes, all_nodes, HasFewNodes, first_local}
use Rattle.nd_value.specs.Misfit.{has_machine_values, is_octet, is_count, has_shape, has_range, is_within}
use Rattle.nd_value.specs.Passes.{first_in, first_in_home, first_in_roots, first_in_cells}
use Rattle.nd_value.proofs.Apart.{all_map}
use Rattle.nd_value.proofs.LocalPass.{local_first}
use Rattle.nd_value.proofs.Misfits.{all_left, all_right, all_both, neither}
use Rattle.nd_value.proofs.NodeFacts.{fit_children}
use Rattle.nd_misfits.specs.Searched.{have_machine_values, HasMachineValues}
use Rattle.nd_value.proofs.ValueRanges.{range_fits}
use Rattle.nd_misfits.proofs.Walkable.{Fits, fits, home_none}
use Rattle.nd_flat.specs.FlatForm.{IsKeepable, IsKeepableNumber}
use Rattle.nd_flat.specs.Keepable.{AreKeepable, HasKeepable}
use Rattle.nd_flat.proofs.Keepables.{number_keepable}
use Rattle.nd_lemmas.proofs.Lists.{list_all_from}

-- what holds of values of the program: of the first node, of its children, of the others
split_values : (l : Label) (ks vs : Trees) → have_machine_values (more (node l ks) vs) ≡ true
    → (has_machine_values l ≡ true) × (have_machine_values ks ≡ true) × (have_machine_values vs ≡ true)
split_values l ks vs e =
    let (a, b) = and_parts (has_machine_values l) (have_machine_values ks && have_machine_values vs) e in
    let (c, d) = and_parts (have_machine_values ks) (have_machine_values vs) b in
    (a, c, d)

alone_value : (v : Tree) (vs : Trees) → have_machine_values (more v vs) ≡ true → have_machine_values (more v none) ≡ true
alone_value (node l ks) vs e = let s = split_values l ks vs e in both_true s.0 (both_true s.1 refl)

rest_values : (v : Tree) (vs : Trees) → have_machine_values (more v vs) ≡ true → have_machine_values vs ≡ true
rest_values (node l ks) vs e = (split_values l ks vs e).2

abbrev HasValue : HomeNode → Type 0
HasValue x = has_machine_values x.typed.label ≡ true

nodes_values : (table : Table) (h : Home) (types : List ℕ) (ags : List (List Agreement)) (n : ℕ) (ts : Trees) → have_machine_values ts ≡ true
    → AllByRecursion HasValue (map (in_home h) (nodes_of table types ags n ts))
nodes_values table h types ags n none e = tt
nodes_values table h [] ags n (more t ts) e = tt
nodes_values table h (t ∷ types) ags n (more (node l ks) ts) e =
    let s = split_values l ks ts e in
    let kids : List TypedNode = nodes_of table (child_types (type_at table t) l ks) (child_agreements (type_at table t) ks) (n + 1) ks in
    let rest : List TypedNode = nodes_of table types (rest_agreements ags) (n + 1 + node_count ks) ts in (
      s.0,
      subst (AllByRecursion HasValue) (sym (map-append (in_home h) kids rest))
          (all_both HasValue (map (in_home h) kids) (map (in_home h) rest)
          (nodes_values table h (child_types (type_at table t) l ks) (child_agreements (type_at table t) ks) (n + 1) ks s.1)
          (nodes_values table h types (rest_agreements ags) (n + 1 + node_count ks) ts s.2)),
    )

module _ (w : Setting) (g : Graph) where
  root_values : (i : ℕ) (rs : List Root) (vs : List Tree) → have_machine_values (trees vs) ≡ true → AllByRecursion HasValue (root_nodes w g i rs vs)
  root_values i [] vs e = tt
  root_values i (r ∷ rs) [] e = tt
  root_values i (r ∷ rs) (v ∷ vs) e =
      let own : List (List Agreement) = root_agreements w g r.vars ∷ [] in
      all_both HasValue (map (in_home (home.Root i)) (nodes_of w.table (r.of ∷ []) own 0 (more v none))) (root_nodes w g (i + 1) rs vs)
      (nodes_values w.table (home.Root i) (r.of ∷ []) own 0 (more v none) (alone_value v (trees vs) e))
      (root_values (i + 1) rs vs (rest_values v (trees vs) e))

  cell_values : (c : ℕ) (xs : List Referent) → have_machine_values (trees (map (λ (x : Referent). x.val) xs)) ≡ true
      → AllByRecursion HasValue (cell_nodes w.table c xs)
  cell_values c [] e = tt
  cell_values c (x ∷ xs) e =
      let others : Trees = trees (map (λ (y : Referent). y.val) xs) in
      all_both HasValue (map (in_home (cell_home c)) (nodes_of w.table (x.of ∷ []) [] 0 (more x.val none))) (cell_nodes w.table (c + 1) xs)
      (nodes_values w.table (cell_home c) (x.of ∷ []) [] 0 (more x.val none) (alone_value x.val others e))
      (cell_values (c + 1) xs (rest_values x.val others e))

  -- each node of a graph of values of the program
  pub program_values : HasMachineValues g → list_all (λ (x : HomeNode). has_machine_values x.typed.label) (all_nodes w g) ≡ true
  program_values m =
      list_all_from (λ (x : HomeNode). has_machine_values x.typed.label) (all_nodes w g)
      (all_both HasValue (root_nodes w g 0 (root_list w) g.roots) (cell_nodes w.table 1 g.cells) (root_values 0 (root_list w) g.roots m.roots) (cell_values 1 g.cells m.cells))

-- a number that octets of its type can hold
value_keepable : (d : Option TypeDef) (z : ℤ) → fits_octets d z ≡ true → IsKeepableNumber z
value_keepable (Some (def.Prim p)) z h = number_keepable p z h
value_keepable (Some (def.Enum vs)) z h = number_keepable Short z h
value_keepable None z h = cc
value_keepable (Some _) z h = cc

module _ (table : Table) where
  number_kept : (d : Option TypeDef) (z : ℤ) → has_range fits_octets table d (tree.Num z) ≡ true → IsKeepableNumber z
  number_kept (Some (def.Prim p)) z h = number_keepable p z h
  number_kept (Some (def.Enum vs)) z h = number_keepable Short z h
  number_kept None z h = cc
  number_kept (Some _) z h = cc

  tag_kept : (d : Option TypeDef) (v : ℤ) (ks : Trees) → has_shape d (tree.Union v) ks ≡ true → has_range fits_octets table d (tree.Union v) ≡ true → IsKeepableNumber v
  tag_kept (Some (def.Union tag encapsulated arms default)) v ks s h = value_keepable (type_at table tag.0) v h
  tag_kept None v ks s h = cc
  tag_kept (Some _) v ks s h = cc

  text_kept : (max : ℕ) (octets : List ℕ) → is_within (tree.Text max octets) none ≡ true → has_machine_values (tree.Text max octets) ≡ true → length octets < 2 ^ 32
  text_kept max octets e h =
      let within : length octets + 1 ≤ max = leb-true (length octets + 1) max e in
      let (a, b) = and_parts (is_count max) (list_all is_octet octets) h in
      let few : max < 2 ^ 32 = ltb-true max (2 ^ 32) a in
      omega (arith, within, few)

  no_form : (d : Option TypeDef) (ks : Trees) → has_shape d tree.Unread ks ≡ true → ⊥
  no_form (Some (def.Prim p)) ks e = cc
  no_form None ks e = cc
  no_form (Some _) ks e = cc

  label_kept : (d : Option TypeDef) (l : Label) (ks : Trees) → has_shape d l ks ≡ true → has_range fits_octets table d l ≡ true → is_within l ks ≡ true
      → has_machine_values l ≡ true → IsKeepable l
  label_kept d (tree.Num z) ks s r i m = number_kept d z r
  label_kept d (tree.Union v) ks s r i m = tag_kept d v ks s r
  label_kept d (tree.Text max octets) ks s r i m = text_kept max octets i m
  label_kept d tree.Unread ks s r i m = absurd (no_form d ks s)
  label_kept d tree.Rec ks s r i m = tt
  label_kept d (tree.Arr max offset) ks s r i m = tt
  label_kept d (tree.Ptr c) ks s r i m = tt
  label_kept d (tree.Context a x) ks s r i m = tt
  label_kept d tree.Pipe ks s r i m = tt

  module _ (g : Graph) (small : list_all has_small_values table ≡ true) where
    values_kept : (types : List ℕ) (n : ℕ) (vs : Trees) → count vs ≡ length types → first_in table g types n vs ≡ None → have_machine_values vs ≡ true → AreKeepable vs
    values_kept types n none k e m = tt
    values_kept [] n (more v vs) k e m = cc
    values_kept (t ∷ types) n (more (node l ks) vs) k e m =
        let f : Fits table g t types n l ks vs = fits table g t types n l ks vs e in
        let s = split_values l ks vs m in (
          label_kept (type_at table t) l ks f.own.shape (range_fits table small t (type_at table t) refl l f.own.range) f.own.within s.0,
          (
            values_kept (child_types (type_at table t) l ks) (n + 1) ks (fit_children (type_at table t) l ks f.own.shape f.own.arm) f.inside s.1,
            values_kept types (n + 1 + node_count ks) vs (omega (arith, k)) f.behind s.2,
          ),
        )

    more_kept : (v : Tree) (vs : Trees) → AreKeepable (more v none) → AreKeepable vs → AreKeepable (more v vs)
    more_kept (node l ks) vs a b = (a.0, (a.1.0, b))

    home_kept : (h : Home) (t : ℕ) (v : Tree) → first_in_home table g h t v ≡ None → have_machine_values (more v none) ≡ true → AreKeepable (more v none)
    home_kept h t v e m = values_kept (t ∷ []) 0 (more v none) refl (home_none h _ e) m

    roots_kept : (i : ℕ) (rs : List NamedRoot) (vs : List Tree) → first_in_roots table g i rs vs ≡ None → have_machine_values (trees vs) ≡ true → AreKeepable (trees vs)
    roots_kept i [] [] e m = tt
    roots_kept i [] (v ∷ vs) e m = cc
    roots_kept i (r ∷ rs) [] e m = tt
    roots_kept i (r ∷ rs) (v ∷ vs) e m =
        let (a, b) = neither (first_in_home table g (home.Root i) r.of v) (first_in_roots table g (i + 1) rs vs) e in
        more_kept v (trees vs) (home_kept (home.Root i) r.of v a (alone_value v (trees vs) m)) (roots_kept (i + 1) rs vs b (rest_values v (trees vs) m))

    cells_kept : (c : ℕ) (xs : List Referent) → first_in_cells table g c xs ≡ None → have_machine_values (trees (map (λ (x : Referent). x.val) xs)) ≡ true
        → AllByRecursion (λ (x : Referent). AreKeepable (more x.val none)) xs
    cells_kept c [] e m = tt
    cells_kept c (x ∷ xs) e m =
        let (a, b) = neither (first_in_home table g (cell_home c) x.of x.val) (first_in_cells table g (c + 1) xs) e in
        let others : Trees = trees (map (λ (y : Referent). y.val) xs) in
        (home_kept (cell_home c) x.of x.val a (alone_value x.val others m), cells_kept (c + 1) xs b (rest_values x.val others m))

-- a graph in which the first pass finds no misfit can be kept
pub passed_kept : (w : Setting) (g : Graph) → list_all has_small_values w.table ≡ true → HasFewNodes g → first_local w g ≡ None → HasMachineValues g → HasKeepable g
passed_kept w g small few local m =
    let roots : List NamedRoot = map (named_root w.op) (root_list w) in
    let (a, b) = neither (first_in_roots w.table g 0 roots g.roots) (first_in_cells w.table g 1 g.cells) (sym (local_first w g) ∙ local) in
    record {
      roots = roots_kept w.table g small 0 roots g.roots a m.roots;
      cells = cells_kept w.table g small 1 g.cells b m.cells;
      few_roots = all_left (λ (t : Tree). node_count (more t none) < 2 ^ 32) g.roots (map (λ (x : Referent). x.val) g.cells) few;
      few_cells =
          all_map (λ (t : Tree). node_count (more t none) < 2 ^ 32) (λ (x : Referent). x.val) g.cells
          (all_right (λ (t : Tree). node_count (more t none) < 2 ^ 32) g.roots (map (λ (x : Referent). x.val) g.cells) few);
    }
