-- A graph whose cells are renumbered conforms as before.
-- `w` is a setting, `g` a graph, `h` the same with its cells renumbered by `m`, `c` and `d` are cells' numbers, `t` a type's number or a tree, `l` a label, `ks` are
-- children, `x` is a node or a cell, `p` a pointer, `a` and `b` are homes.
use Rattle.std.proofs.Common.{◌≡◌, inl, inr, ℕ, ◌+◌, ◌<◌, ◌≤◌, ◌^◌, zero, suc, ℤ, Bool, true, false, not, ◌&&◌, eqb, List, [], ◌∷◌, ◌++◌, length, map, flat_map, Option, Some, None, option_map, refl}
use Rattle.std.proofs.Common.{ap, ap₂, sym, ◌∙◌, subst, arith}
use Rattle.std.specs.Prelude.{leb, ltb, replicate, pos, ◌-ℤ◌}
use Rattle.std.specs.List.{AllByRecursion, slice_get}
use Rattle.std.proofs.lemmas.Bool.{eqb-false, ne_eqb, leb-true, le-leb, lt-ltb, ltb-true, ltb-false, not-true, and_parts}
use Rattle.std.proofs.lemmas.List.{map-append}
use Rattle.std.proofs.lemmas.Option.{same_Some, slice_get_within as get_some}
use Rattle.nd_types.specs.declared.types.TypeDef.{TypeDef}
use Rattle.nd_types.specs.declared.types.TypeDef.TheVariants as def
use Rattle.nd_types.specs.declared.types.Arm.{Arm}
use Rattle.nd_types.specs.declared.types.Attr.{Attr}
use Rattle.nd_types.specs.declared.types.Attr.TheVariants as attr
use Rattle.nd_types.specs.declared.types.AttrVar.{AttrVar}
use Rattle.nd_types.specs.declared.types.Field.{Field}
use Rattle.nd_types.specs.declared.types.Class.{Class}
use Rattle.nd_types.specs.declared.types.Class.TheVariants.{Ref, Unique, Full}
use Rattle.nd_types.specs.Table.{Table, type_at, selected, is_value}
use Rattle.nd_types.specs.Layout.{arm_type}
use Rattle.nd_types.specs.Roots.{Root, root_index}
use Rattle.nd_value.specs.declared.value.Graph.{Graph}
use Rattle.nd_value.specs.declared.item.Home.{Home}
use Rattle.nd_value.specs.declared.item.Home.TheVariants as home
use Rattle.nd_value.specs.declared.misfit.MisfitReason.{MisfitReason}
use Rattle.nd_value.specs.declared.misfit.MisfitReason.TheVariants as misfit
use Rattle.nd_value.specs.Tree as tree
use Rattle.nd_value.specs.Tree.{Tree, Trees, Label, node, none, more, count, node_count, is_pointer, cell_in, Referent}
use Rattle.nd_value.specs.Agreement.{Agreement, number_of, number_in, agreement, member_agreements, found_in, actual, max_of, offset_of, tag_of, root_agreements, starred, given_value}
use Rattle.nd_value.specs.Nodes.{TypedNode, nodes_of, home_nodes, governed_nodes, child_types, child_agreements, first_agreements, rest_agreements}
use Rattle.nd_value.specs.Setting.{Setting, Among, root_list, root_at, or_unread, cell_home, cell_at, cell_tree, cell_of_number}
use Rattle.nd_value.specs.Deferral.{Pending, pointer, pointer_by, home_pointers}
use Rattle.nd_value.specs.Conforms.{HomeNode, in_home, root_nodes, cell_nodes, all_nodes, root_pointers, cell_pointers, all_pointers, Conforms, Reached, by_root, by_cell, ShareOnlyIfFull, AllEarlier}
use Rattle.nd_value.specs.Conforms.{AgreesAt, IsAgreed, subject, subject_by, HasFewNodes, FewNodes}
use Rattle.nd_value.specs.Misfit.{misfit_of, unless, has_shape, has_range, is_no_null_ref, names_cell, names_pointee, has_type, has_counts, is_within, has_no_zero, has_arm, arm_fits, is_bound}
use Rattle.nd_value.specs.Misfit.{has_machine_values}
use Rattle.nd_value.specs.Names.{AreThere, HasNames, named_by}
use Rattle.nd_value.specs.Canon.{renumbered, renumbered_label}
use Rattle.nd_value.proofs.Apart.{all_append, all_left, all_right, all_map, all_among, among_left, among_right}
use Rattle.nd_value.proofs.NodeFacts.{all_of_list, fit_node}
use Rattle.nd_flat.specs.Renumbered.{renumbered_tree}
use Rattle.nd_graph.proofs.Complete.{names_its_cell, has_names, among_split, of_roots}
use Rattle.nd_lemmas.proofs.Lists.{length_map, list_all_from as list_of_all}

-- ## Labels and children

module _ (m : ℕ → ℕ) where
  pub count_same : (ks : Trees) → count (renumbered m ks) ≡ count ks
  count_same none = refl
  count_same (more (node l ks) ts) = ap suc (count_same ts)

  pub nodes_same : (ks : Trees) → node_count (renumbered m ks) ≡ node_count ks
  nodes_same none = refl
  nodes_same (more (node l ks) ts) = ap suc (ap₂ (λ a b. a + b) (nodes_same ks) (nodes_same ts))

  pub tree_nodes_same : (t : Tree) → node_count (more (renumbered_tree m t) none) ≡ node_count (more t none)
  tree_nodes_same (node l ks) = ap (λ n. suc (n + 0)) (nodes_same ks)

  number_same : (t : Tree) → number_of (renumbered_tree m t) ≡ number_of t
  number_same (node (tree.Num z) ks) = refl
  number_same (node (tree.Ptr None) ks) = refl
  number_same (node (tree.Ptr (Some c)) ks) = refl
  number_same (node _ ks) = refl

  member_same : (ks : Trees) (i : ℕ) → number_in (renumbered m ks) i ≡ number_in ks i
  member_same none i = refl
  member_same (more (node l ks) ts) zero = number_same (node l ks)
  member_same (more (node l ks) ts) (suc i) = member_same ts i

  members_same : (ks : Trees) (vars : List AttrVar) → member_agreements (renumbered m ks) vars ≡ member_agreements ks vars
  members_same ks [] = refl
  members_same ks (a ∷ rest) = ap₂ (λ o r. agreement a.attr o ++ r) (member_same ks a.var) (members_same ks rest)

  fields_same : (ks : Trees) (fs : List Field) → map (λ f. member_agreements (renumbered m ks) f.vars) fs ≡ map (λ f. member_agreements ks f.vars) fs
  fields_same ks [] = refl
  fields_same ks (f ∷ fs) = ap₂ (λ a r. a ∷ r) (members_same ks f.vars) (fields_same ks fs)

  agreements_same : (d : Option TypeDef) (ks : Trees) → child_agreements d (renumbered m ks) ≡ child_agreements d ks
  agreements_same (Some (def.Struct ms)) ks = fields_same ks ms
  agreements_same None ks = refl
  agreements_same (Some _) ks = refl

  types_kids : (d : Option TypeDef) (l : Label) (ks : Trees) → child_types d l (renumbered m ks) ≡ child_types d l ks
  types_kids (Some (def.Struct ms)) tree.Rec ks = refl
  types_kids (Some (def.Array e bound varying)) (tree.Arr max offset) ks = ap (λ n. replicate n e.0) (count_same ks)
  types_kids (Some (def.Union tag enc arms default)) (tree.Union v) ks = refl
  types_kids (Some (def.Pipe e)) tree.Pipe ks = ap (λ n. replicate n e.0) (count_same ks)
  types_kids _ _ ks = refl

  types_cell : (d : Option TypeDef) (b c : ℕ) (ks : Trees) → child_types d (tree.Ptr (Some b)) ks ≡ child_types d (tree.Ptr (Some c)) ks
  types_cell None b c ks = refl
  types_cell (Some (def.Struct ms)) b c ks = refl
  types_cell (Some _) b c ks = refl

  types_same : (d : Option TypeDef) (l : Label) (ks : Trees) → child_types d (renumbered_label m l) (renumbered m ks) ≡ child_types d l ks
  types_same d (tree.Ptr (Some c)) ks = types_kids d (tree.Ptr (Some (m c))) ks ∙ types_cell d (m c) c ks
  types_same d (tree.Ptr None) ks = types_kids d (tree.Ptr None) ks
  types_same d (tree.Num z) ks = types_kids d (tree.Num z) ks
  types_same d tree.Rec ks = types_kids d tree.Rec ks
  types_same d (tree.Arr a o) ks = types_kids d (tree.Arr a o) ks
  types_same d (tree.Text a os) ks = types_kids d (tree.Text a os) ks
  types_same d (tree.Union v) ks = types_kids d (tree.Union v) ks
  types_same d (tree.Context a i) ks = types_kids d (tree.Context a i) ks
  types_same d tree.Pipe ks = types_kids d tree.Pipe ks
  types_same d tree.Unread ks = types_kids d tree.Unread ks

  -- a node with its cell and those of its children renumbered
  abbrev pub carried : TypedNode → TypedNode
  carried x = record { node = x.node; of = x.of; agreements = x.agreements; label = renumbered_label m x.label; kids = renumbered m x.kids }

  pub nodes_carried : (table : Table) (types : List ℕ) (ags : List (List Agreement)) (n : ℕ) (ts : Trees)
      → nodes_of table types ags n (renumbered m ts) ≡ map carried (nodes_of table types ags n ts)
  nodes_carried table types ags n none = refl
  nodes_carried table [] ags n (more (node l ks) ts) = refl
  nodes_carried table (t ∷ types) ags n (more (node l ks) ts) =
      let d : Option TypeDef = type_at table t in
      let x : TypedNode = record { node = n; of = t; agreements = first_agreements ags; label = renumbered_label m l; kids = renumbered m ks } in
      let K : List TypedNode = nodes_of table (child_types d l ks) (child_agreements d ks) (n + 1) ks in
      let R : List TypedNode = nodes_of table types (rest_agreements ags) (n + 1 + node_count ks) ts in
      let kids : nodes_of table (child_types d (renumbered_label m l) (renumbered m ks)) (child_agreements d (renumbered m ks)) (n + 1) (renumbered m ks) ≡ map carried K =
      ap₂ (λ u v. nodes_of table u v (n + 1) (renumbered m ks)) (types_same d l ks) (agreements_same d ks)
      ∙ nodes_carried table (child_types d l ks) (child_agreements d ks) (n + 1) ks in
      let rest : nodes_of table types (rest_agreements ags) (n + 1 + node_count (renumbered m ks)) (renumbered m ts) ≡ map carried R =
      ap (λ k. nodes_of table types (rest_agreements ags) (n + 1 + k) (renumbered m ts)) (nodes_same ks)
      ∙ nodes_carried table types (rest_agreements ags) (n + 1 + node_count ks) ts in
      ap₂ (λ u v. x ∷ (u ++ v)) kids rest ∙ ap (λ u. x ∷ u) (sym (map-append carried K R))

  pub home_carried : (table : Table) (t : ℕ) (v : Tree) → home_nodes table t (renumbered_tree m v) ≡ map carried (home_nodes table t v)
  home_carried table t (node l ks) = nodes_carried table (t ∷ []) [] 0 (more (node l ks) none)

  pub governed_carried : (table : Table) (t : ℕ) (ags : List Agreement) (v : Tree) → governed_nodes table t ags (renumbered_tree m v) ≡ map carried (governed_nodes table t ags v)
  governed_carried table t ags (node l ks) = nodes_carried table (t ∷ []) (ags ∷ []) 0 (more (node l ks) none)

  -- ## Tests of a node

  arm_same : (o : Option Arm) (ks : Trees) → arm_fits o (renumbered m ks) ≡ arm_fits o ks
  arm_same None ks = refl
  arm_same (Some a) ks = ap (λ n. eqb n (length (arm_type a))) (count_same ks)

  shape_kids : (d : Option TypeDef) (l : Label) (ks : Trees) → has_shape d l (renumbered m ks) ≡ has_shape d l ks
  shape_kids (Some (def.Prim p)) (tree.Num z) none = refl
  shape_kids (Some (def.Prim p)) (tree.Num z) (more (node k us) ts) = refl
  shape_kids (Some (def.Enum vs)) (tree.Num z) none = refl
  shape_kids (Some (def.Enum vs)) (tree.Num z) (more (node k us) ts) = refl
  shape_kids (Some (def.Struct ms)) tree.Rec ks = ap (λ n. eqb n (length ms)) (count_same ks)
  shape_kids (Some (def.Array e bound varying)) (tree.Arr max offset) ks = refl
  shape_kids (Some (def.Text e bound)) (tree.Text max os) none = refl
  shape_kids (Some (def.Text e bound)) (tree.Text max os) (more (node k us) ts) = refl
  shape_kids (Some (def.Union tag enc arms default)) (tree.Union v) ks = arm_same (selected arms default v) ks
  shape_kids (Some (def.Pointer class to)) (tree.Ptr c) none = refl
  shape_kids (Some (def.Pointer class to)) (tree.Ptr c) (more (node k us) ts) = refl
  shape_kids (Some def.Context) (tree.Context a i) none = refl
  shape_kids (Some def.Context) (tree.Context a i) (more (node k us) ts) = refl
  shape_kids (Some (def.Pipe e)) tree.Pipe ks = refl
  shape_kids _ _ ks = refl

  shape_cell : (d : Option TypeDef) (b c : ℕ) (ks : Trees) → has_shape d (tree.Ptr (Some b)) ks ≡ has_shape d (tree.Ptr (Some c)) ks
  shape_cell (Some (def.Pointer class to)) b c none = refl
  shape_cell (Some (def.Pointer class to)) b c (more t ts) = refl
  shape_cell _ b c ks = refl

  counts_kids : (d : Option TypeDef) (l : Label) (ks : Trees) → has_counts d l (renumbered m ks) ≡ has_counts d l ks
  counts_kids (Some (def.Array e bound true)) (tree.Arr max offset) ks = refl
  counts_kids (Some (def.Array e bound false)) (tree.Arr max offset) ks = ap (λ n. is_bound bound max && eqb offset 0 && eqb n max) (count_same ks)
  counts_kids (Some (def.Text e bound)) (tree.Text max os) ks = refl
  counts_kids _ _ ks = refl

  counts_cell : (d : Option TypeDef) (b c : ℕ) (ks : Trees) → has_counts d (tree.Ptr (Some b)) ks ≡ has_counts d (tree.Ptr (Some c)) ks
  counts_cell (Some (def.Array e bound true)) b c ks = refl
  counts_cell (Some (def.Array e bound false)) b c ks = refl
  counts_cell _ b c ks = refl

  within_kids : (l : Label) (ks : Trees) → is_within l (renumbered m ks) ≡ is_within l ks
  within_kids (tree.Arr max offset) ks = ap (λ n. leb (offset + n) max) (count_same ks)
  within_kids (tree.Text max os) ks = refl
  within_kids _ ks = refl

  range_cell : (table : Table) (d : Option TypeDef) (b c : ℕ) → has_range is_value table d (tree.Ptr (Some b)) ≡ has_range is_value table d (tree.Ptr (Some c))
  range_cell table (Some (def.Union tag enc arms default)) b c = refl
  range_cell table _ b c = refl

  null_cell : (d : Option TypeDef) (b c : ℕ) → is_no_null_ref d (tree.Ptr (Some b)) ≡ is_no_null_ref d (tree.Ptr (Some c))
  null_cell (Some (def.Pointer Ref to)) b c = refl
  null_cell (Some (def.Pointer Unique to)) b c = refl
  null_cell (Some (def.Pointer Full to)) b c = refl
  null_cell _ b c = refl

  arm_cell : (d : Option TypeDef) (b c : ℕ) → has_arm d (tree.Ptr (Some b)) ≡ has_arm d (tree.Ptr (Some c))
  arm_cell (Some (def.Union tag enc arms default)) b c = refl
  arm_cell _ b c = refl

  -- what is found in a value
  actual_same : (l : Label) (ks : Trees) → actual (renumbered_label m l) (renumbered m ks) ≡ actual l ks
  actual_same (tree.Ptr None) ks = count_same ks
  actual_same (tree.Ptr (Some c)) ks = count_same ks
  actual_same (tree.Num z) ks = count_same ks
  actual_same tree.Rec ks = count_same ks
  actual_same (tree.Arr a o) ks = count_same ks
  actual_same (tree.Text a os) ks = refl
  actual_same (tree.Union v) ks = count_same ks
  actual_same (tree.Context a i) ks = count_same ks
  actual_same tree.Pipe ks = count_same ks
  actual_same tree.Unread ks = count_same ks

  max_same : (l : Label) → max_of (renumbered_label m l) ≡ max_of l
  max_same (tree.Ptr None) = refl
  max_same (tree.Ptr (Some c)) = refl
  max_same (tree.Num z) = refl
  max_same tree.Rec = refl
  max_same (tree.Arr a o) = refl
  max_same (tree.Text a os) = refl
  max_same _ = refl

  offset_same : (l : Label) → offset_of (renumbered_label m l) ≡ offset_of l
  offset_same (tree.Ptr None) = refl
  offset_same (tree.Ptr (Some c)) = refl
  offset_same (tree.Num z) = refl
  offset_same tree.Rec = refl
  offset_same (tree.Arr a o) = refl
  offset_same _ = refl

  tag_same : (l : Label) → tag_of (renumbered_label m l) ≡ tag_of l
  tag_same (tree.Ptr None) = refl
  tag_same (tree.Ptr (Some c)) = refl
  tag_same (tree.Num z) = refl
  tag_same (tree.Union v) = refl
  tag_same _ = refl

  pub found_same : (a : Attr) (t : Tree) → found_in a (renumbered_tree m t) ≡ found_in a t
  found_same attr.Size (node l ks) = ap (λ n. pos n) (max_same l)
  found_same attr.Max (node l ks) = ap (λ n. pos n) (max_same l)
  found_same attr.First (node l ks) = ap (λ n. pos n) (offset_same l)
  found_same attr.Length (node l ks) = ap (λ n. pos n) (actual_same l ks)
  found_same attr.Last (node l ks) =
      ap₂ (λ a b. pos (a + b) -ℤ pos 1) (offset_same l) (actual_same l ks)
  found_same attr.Switch (node l ks) = tag_same l

  agreed_same : (t : Tree) (as' : List Agreement) → AllByRecursion (IsAgreed t) as' → AllByRecursion (IsAgreed (renumbered_tree m t)) as'
  agreed_same t [] h = tt
  agreed_same t (a ∷ rest) h = (found_same a.attr t ∙ h.0, agreed_same t rest h.1)

  -- ## Pointers

  abbrev carried_to : Home → Pending → Pending
  carried_to a p = record { home = a; node = p.node; class = p.class; to = p.to; cell = option_map m p.cell; agreements = p.agreements }

  pointer_same : (d : Option TypeDef) (b : Bool) (o : Option ℕ) (h a : Home) (n : ℕ) (ags : List Agreement)
      → pointer_by d b (option_map m o) a n ags ≡ map (carried_to a) (pointer_by d b o h n ags)
  pointer_same (Some (def.Pointer class to)) true o h a n ags = refl
  pointer_same (Some (def.Pointer class to)) false o h a n ags = refl
  pointer_same None b o h a n ags = refl
  pointer_same (Some (def.Prim p)) b o h a n ags = refl
  pointer_same (Some _) b o h a n ags = refl

  is_pointer_same : (l : Label) → is_pointer (renumbered_label m l) ≡ is_pointer l
  is_pointer_same (tree.Ptr None) = refl
  is_pointer_same (tree.Ptr (Some c)) = refl
  is_pointer_same (tree.Num z) = refl
  is_pointer_same _ = refl

  cell_in_same : (l : Label) → cell_in (renumbered_label m l) ≡ option_map m (cell_in l)
  cell_in_same (tree.Ptr None) = refl
  cell_in_same (tree.Ptr (Some c)) = refl
  cell_in_same (tree.Num z) = refl
  cell_in_same _ = refl

  node_pointers : (table : Table) (h a : Home) (xs : List TypedNode) → flat_map (pointer table a) (map carried xs) ≡ map (carried_to a) (flat_map (pointer table h) xs)
  node_pointers table h a [] = refl
  node_pointers table h a (x ∷ xs) =
      let d : Option TypeDef = type_at table x.of in
      let own : pointer table a (carried x) ≡ map (carried_to a) (pointer table h x) =
      ap₂ (λ b o. pointer_by d b o a x.node x.agreements) (is_pointer_same x.label) (cell_in_same x.label)
      ∙ pointer_same d (is_pointer x.label) (cell_in x.label) h a x.node x.agreements in
      ap₂ (λ u v. u ++ v) own (node_pointers table h a xs) ∙ sym (map-append (carried_to a) (pointer table h x) (flat_map (pointer table h) xs))

  pub pointers_carried : (table : Table) (h a : Home) (t : ℕ) (v : Tree) → home_pointers table a t (renumbered_tree m v) ≡ map (carried_to a) (home_pointers table h t v)
  pointers_carried table h a t v = ap (flat_map (pointer table a)) (home_carried table t v) ∙ node_pointers table h a (home_nodes table t v)

  -- a function of labels that does not ask which cell a pointer names
  blind : (F : Label → Bool) → ((b c : ℕ) → F (tree.Ptr (Some b)) ≡ F (tree.Ptr (Some c))) → (l : Label) → F (renumbered_label m l) ≡ F l
  blind F e (tree.Ptr None) = refl
  blind F e (tree.Ptr (Some c)) = e (m c) c
  blind F e (tree.Num z) = refl
  blind F e tree.Rec = refl
  blind F e (tree.Arr a o) = refl
  blind F e (tree.Text a os) = refl
  blind F e (tree.Union v) = refl
  blind F e (tree.Context a i) = refl
  blind F e tree.Pipe = refl
  blind F e tree.Unread = refl

  -- a cell with each pointer's cell renumbered
  abbrev pub carried_cell : Referent → Referent
  carried_cell x = record { of = x.of; val = renumbered_tree m x.val }

-- ## Graphs

-- h is g with its cells renumbered by m, one to one; numbers that are no cells' go to numbers that are none
pub record Renumbers (m : ℕ → ℕ) (g h : Graph) : Type 0 where
  pub roots : h.roots ≡ map (renumbered_tree m) g.roots
  pub many : length h.cells ≡ length g.cells
  pub cell : (c : ℕ) → cell_of_number h (m c) ≡ option_map (carried_cell m) (cell_of_number g c)
  pub small : (c : ℕ) → m c ≤ length g.cells
  pub forth : (c : ℕ) → 0 < c → c ≤ length g.cells → 0 < m c
  pub back : (d : ℕ) → 0 < d → d ≤ length g.cells → (c : ℕ) × (0 < c) × (c ≤ length g.cells) × (m c ≡ d)
  pub one : (c d : ℕ) → 0 < c → c ≤ length g.cells → 0 < d → d ≤ length g.cells → m c ≡ m d → c ≡ d

pub get_map : {A B : Type 0} (f : A → B) (xs : List A) (i : ℕ) → slice_get (map f xs) i ≡ option_map f (slice_get xs i)
get_map f [] i = refl
get_map f (x ∷ xs) zero = refl
get_map f (x ∷ xs) (suc i) = get_map f xs i

-- the same elements, mapped
all_mapped : {A B : Type 0} (P : B → Type 0) (f : A → B) (xs : List A) → AllByRecursion (λ x. P (f x)) xs → AllByRecursion P (map f xs)
all_mapped P f [] h = tt
all_mapped P f (x ∷ xs) h = (h.0, all_mapped P f xs h.1)

pub among_mapped : {A B : Type 0} (f : A → B) (xs : List A) (x : A) → Among xs x → Among (map f xs) (f x)
among_mapped f [] x a = absurd a
among_mapped f (y ∷ xs) x (inl e) = inl (ap f e)
among_mapped f (y ∷ xs) x (inr a) = inr (among_mapped f xs x a)

pub mapped_from : {A B : Type 0} (f : A → B) (xs : List A) (y : B) → Among (map f xs) y → (x : A) × Among xs x × (y ≡ f x)
mapped_from f [] y a = absurd a
mapped_from f (x ∷ xs) y (inl e) = (x, inl refl, e)
mapped_from f (x ∷ xs) y (inr a) = let (z, b, e) = mapped_from f xs y a in (z, inr b, e)

module _ (w : Setting) (g h : Graph) (m : ℕ → ℕ) (r : Renumbers m g h) where
  n : ℕ
  n = length g.cells

  tree_of_cell : (o : Option Referent) → cell_tree (option_map (carried_cell m) o) ≡ renumbered_tree m (cell_tree o)
  tree_of_cell None = refl
  tree_of_cell (Some x) = refl

  pub cell_at_same : (c : ℕ) → cell_at h (m c) ≡ renumbered_tree m (cell_at g c)
  cell_at_same c = ap cell_tree (r.cell c) ∙ tree_of_cell (cell_of_number g c)

  or_unread_same : (o : Option Tree) → or_unread (option_map (renumbered_tree m) o) ≡ renumbered_tree m (or_unread o)
  or_unread_same None = refl
  or_unread_same (Some t) = refl

  pub root_at_same : (i : ℕ) → root_at h i ≡ renumbered_tree m (root_at g i)
  root_at_same i =
      ap (λ ts. or_unread (slice_get ts i)) r.roots ∙ ap or_unread (get_map (renumbered_tree m) g.roots i) ∙ or_unread_same (slice_get g.roots i)

  -- ### Agreements of parameters

  starred_same : (b : Bool) (t : Tree) → starred h b (renumbered_tree m t) ≡ starred g b t
  starred_same true (node (tree.Ptr (Some c)) ks) = ap number_of (cell_at_same c) ∙ number_same m (cell_at g c)
  starred_same true (node (tree.Ptr None) ks) = refl
  starred_same true (node (tree.Num z) ks) = refl
  starred_same true (node tree.Rec ks) = refl
  starred_same true (node (tree.Arr a o) ks) = refl
  starred_same true (node (tree.Text a os) ks) = refl
  starred_same true (node (tree.Union v) ks) = refl
  starred_same true (node (tree.Context a i) ks) = refl
  starred_same true (node tree.Pipe ks) = refl
  starred_same true (node tree.Unread ks) = refl
  starred_same false t = number_same m t

  abbrev variable_by : Graph → AttrVar → Option ℕ → Option ℤ
  variable_by q a o = elim o [ None ↦ given_value w a w.given | Some i ↦ starred q a.star (root_at q i) ]

  by_index : (a : AttrVar) (o : Option ℕ) → variable_by h a o ≡ variable_by g a o
  by_index a None = refl
  by_index a (Some i) = ap (starred h a.star) (root_at_same i) ∙ starred_same a.star (root_at g i)

  vars_same : (vars : List AttrVar) → root_agreements w h vars ≡ root_agreements w g vars
  vars_same [] = refl
  vars_same (a ∷ rest) = ap₂ (λ o u. agreement a.attr o ++ u) (by_index a (root_index (root_list w) a.var 0)) (vars_same rest)

  -- ### All nodes

  abbrev carried_node : HomeNode → HomeNode
  carried_node x = record { home = x.home; typed = carried m x.typed }

  homes_mapped : (a : Home) (xs : List TypedNode) → map (in_home a) (map (carried m) xs) ≡ map carried_node (map (in_home a) xs)
  homes_mapped a [] = refl
  homes_mapped a (x ∷ xs) = ap (λ u. carried_node (in_home a x) ∷ u) (homes_mapped a xs)

  roots_carried : (i : ℕ) (rs : List Root) (vs : List Tree) → root_nodes w h i rs (map (renumbered_tree m) vs) ≡ map carried_node (root_nodes w g i rs vs)
  roots_carried i [] [] = refl
  roots_carried i [] (v ∷ vs) = refl
  roots_carried i (q ∷ rs) [] = refl
  roots_carried i (q ∷ rs) (v ∷ vs) =
      let a : Home = home.Root i in
      let own : List TypedNode = governed_nodes w.table q.of (root_agreements w g q.vars) v in
      let first : map (in_home a) (governed_nodes w.table q.of (root_agreements w h q.vars) (renumbered_tree m v)) ≡ map carried_node (map (in_home a) own) =
      ap (λ u. map (in_home a) (governed_nodes w.table q.of u (renumbered_tree m v))) (vars_same q.vars)
      ∙ ap (map (in_home a)) (governed_carried m w.table q.of (root_agreements w g q.vars) v) ∙ homes_mapped a own in
      ap₂ (λ u v. u ++ v) first (roots_carried (i + 1) rs vs) ∙ sym (map-append carried_node (map (in_home a) own) (root_nodes w g (i + 1) rs vs))

  -- each cell of h is one of g
  pub record Source (i : ℕ) (y : Referent) : Type 0 where
    pub number : ℕ
    pub low : 0 < number
    pub high : number ≤ length g.cells
    pub cell : Referent
    pub there : cell_of_number g number ≡ Some cell
    pub same : y ≡ carried_cell m cell
    pub image : m number ≡ suc i

  pub source : (i : ℕ) (y : Referent) → slice_get h.cells i ≡ Some y → Source i y
  source i y e =
      let l = get_some h.cells i y e in
      let k = r.many in
      let (c, lo, hi, f) = r.back (suc i) (omega arith) (omega (arith, l, k)) in
      let p : option_map (carried_cell m) (cell_of_number g c) ≡ Some y = sym (r.cell c) ∙ ap (cell_of_number h) f ∙ e in
      let (x, q, s) = by_cell_there (cell_of_number g c) p in
      record { number = c; low = lo; high = hi; cell = x; there = q; same = s; image = f }
    where
      by_cell_there : (o : Option Referent) → option_map (carried_cell m) o ≡ Some y → (x : Referent) × (o ≡ Some x) × (y ≡ carried_cell m x)
      by_cell_there None p = cc
      by_cell_there (Some x) p = (x, refl, sym (same_Some _ _ p))

  module _ (P : TypedNode → Type 0) where
    abbrev PN : HomeNode → Type 0
    PN x = P x.typed

    cell_part : (c : ℕ) (xs : List Referent) (i : ℕ) (x : Referent) → slice_get xs i ≡ Some x → AllByRecursion PN (cell_nodes w.table c xs) → AllByRecursion P (home_nodes w.table x.of x.val)
    cell_part c [] i x e a = cc
    cell_part c (y ∷ ys) zero x e a =
        subst (λ (z : Referent). AllByRecursion P (home_nodes w.table z.of z.val)) (same_Some _ _ e)
        (all_map PN (in_home (cell_home c)) (home_nodes w.table y.of y.val) (all_left PN (map (in_home (cell_home c)) (home_nodes w.table y.of y.val)) (cell_nodes w.table (c + 1) ys) a))
    cell_part c (y ∷ ys) (suc i) x e a =
        cell_part (c + 1) ys i x e (all_right PN (map (in_home (cell_home c)) (home_nodes w.table y.of y.val)) (cell_nodes w.table (c + 1) ys) a)

    cells_whole : (c : ℕ) (xs : List Referent) → ((i : ℕ) (x : Referent) → slice_get xs i ≡ Some x → AllByRecursion P (home_nodes w.table x.of x.val)) → AllByRecursion PN (cell_nodes w.table c xs)
    cells_whole c [] f = tt
    cells_whole c (x ∷ xs) f =
        all_append PN (map (in_home (cell_home c)) (home_nodes w.table x.of x.val)) (cell_nodes w.table (c + 1) xs)
        (all_mapped PN (in_home (cell_home c)) (home_nodes w.table x.of x.val) (f 0 x refl)) (cells_whole (c + 1) xs (λ i y e. f (suc i) y e))

  -- what holds of the nodes of g, in what form it holds of those of h
  lifted : (P Q : TypedNode → Type 0) → ((x : TypedNode) → P x → Q (carried m x)) → AllByRecursion (λ x. P x.typed) (all_nodes w g) → AllByRecursion (λ x. Q x.typed) (all_nodes w h)
  lifted P Q f a =
      let R : List HomeNode = root_nodes w g 0 (root_list w) g.roots in
      let C : List HomeNode = cell_nodes w.table 1 g.cells in
      all_append (λ x. Q x.typed) (root_nodes w h 0 (root_list w) h.roots) (cell_nodes w.table 1 h.cells)
      (subst (AllByRecursion (λ x. Q x.typed)) (sym (ap (root_nodes w h 0 (root_list w)) r.roots ∙ roots_carried 0 (root_list w) g.roots))
      (all_mapped (λ x. Q x.typed) carried_node R (weaker R (all_left (λ x. P x.typed) R C a))))
      (cells_whole Q 1 h.cells (λ i y e.
      let s = source i y e in
      subst (λ (z : Referent). AllByRecursion Q (home_nodes w.table z.of z.val)) (sym s.same)
      (subst (AllByRecursion Q) (sym (home_carried m w.table s.cell.of s.cell.val))
      (all_mapped Q (carried m) (home_nodes w.table s.cell.of s.cell.val)
      (weaker_nodes (home_nodes w.table s.cell.of s.cell.val) (of_number s.number s.cell s.there (all_right (λ x. P x.typed) R C a)))))))
    where
      weaker : (xs : List HomeNode) → AllByRecursion (λ x. P x.typed) xs → AllByRecursion (λ x. Q (carried m x.typed)) xs
      weaker [] a = tt
      weaker (x ∷ xs) a = (f x.typed a.0, weaker xs a.1)

      weaker_nodes : (xs : List TypedNode) → AllByRecursion P xs → AllByRecursion (λ x. Q (carried m x)) xs
      weaker_nodes [] a = tt
      weaker_nodes (x ∷ xs) a = (f x a.0, weaker_nodes xs a.1)

      of_number : (c : ℕ) (x : Referent) → cell_of_number g c ≡ Some x → AllByRecursion (λ x. P x.typed) (cell_nodes w.table 1 g.cells) → AllByRecursion P (home_nodes w.table x.of x.val)
      of_number zero x e a = cc
      of_number (suc i) x e a = cell_part P 1 g.cells i x e a

  -- ### The first pass

  cell_names_there : (l : Label) → names_cell g l ≡ true → names_cell h (renumbered_label m l) ≡ true
  cell_names_there (tree.Ptr None) e = refl
  cell_names_there (tree.Ptr (Some c)) e =
      let (a, b) = and_parts (not (eqb c 0)) (leb c (length g.cells)) e in
      let lo : 0 < c = positive c (eqb-false c 0 (not-true _ a)) in
      let hi : c ≤ length g.cells = leb-true c (length g.cells) b in
      let p = r.forth c lo hi in
      let s = r.small c in
      let k = r.many in
      ap₂ (λ x y. not x && y) (ne_eqb (m c) 0 (λ z. omega (arith, z, p))) (le-leb (m c) (length h.cells) (omega (arith, s, k)))
    where
      positive : (c : ℕ) → (c ≡ 0 → ⊥) → 0 < c
      positive zero f = absurd (f refl)
      positive (suc c) f = omega arith
  cell_names_there (tree.Num z) e = refl
  cell_names_there tree.Rec e = refl
  cell_names_there (tree.Arr a o) e = refl
  cell_names_there (tree.Text a os) e = refl
  cell_names_there (tree.Union v) e = refl
  cell_names_there (tree.Context a i) e = refl
  cell_names_there tree.Pipe e = refl
  cell_names_there tree.Unread e = refl

  type_same : (o : Option Referent) (t : ℕ) → has_type (option_map (carried_cell m) o) t ≡ has_type o t
  type_same None t = refl
  type_same (Some x) t = refl

  no_pointee : (q : Graph) (d : Option TypeDef) (l : Label) → cell_in l ≡ None → names_pointee q d l ≡ true
  no_pointee q (Some (def.Pointer class to)) (tree.Ptr (Some c)) e = cc
  no_pointee q (Some (def.Pointer class to)) (tree.Ptr None) e = refl
  no_pointee q (Some (def.Pointer class to)) _ e = refl
  no_pointee q _ l e = refl

  pointee_cell : (d : Option TypeDef) (c : ℕ) → names_pointee h d (tree.Ptr (Some (m c))) ≡ names_pointee g d (tree.Ptr (Some c))
  pointee_cell (Some (def.Pointer class to)) c = ap (λ o. has_type o to.0) (r.cell c) ∙ type_same (cell_of_number g c) to.0
  pointee_cell _ c = refl

  pointee_same : (d : Option TypeDef) (l : Label) → names_pointee h d (renumbered_label m l) ≡ names_pointee g d l
  pointee_same d (tree.Ptr (Some c)) = pointee_cell d c
  pointee_same d (tree.Ptr None) = no_pointee h d (tree.Ptr None) refl ∙ sym (no_pointee g d (tree.Ptr None) refl)
  pointee_same d (tree.Num z) = no_pointee h d (tree.Num z) refl ∙ sym (no_pointee g d (tree.Num z) refl)
  pointee_same d tree.Rec = no_pointee h d tree.Rec refl ∙ sym (no_pointee g d tree.Rec refl)
  pointee_same d (tree.Arr a o) = no_pointee h d (tree.Arr a o) refl ∙ sym (no_pointee g d (tree.Arr a o) refl)
  pointee_same d (tree.Text a os) = no_pointee h d (tree.Text a os) refl ∙ sym (no_pointee g d (tree.Text a os) refl)
  pointee_same d (tree.Union v) = no_pointee h d (tree.Union v) refl ∙ sym (no_pointee g d (tree.Union v) refl)
  pointee_same d (tree.Context a i) = no_pointee h d (tree.Context a i) refl ∙ sym (no_pointee g d (tree.Context a i) refl)
  pointee_same d tree.Pipe = no_pointee h d tree.Pipe refl ∙ sym (no_pointee g d tree.Pipe refl)
  pointee_same d tree.Unread = no_pointee h d tree.Unread refl ∙ sym (no_pointee g d tree.Unread refl)

  pass : (b : Bool) (o : MisfitReason) (u : Option MisfitReason) → b ≡ true → u ≡ None → unless b o u ≡ None
  pass true o u e f = f
  pass false o u e f = cc

  no_misfit : (x : TypedNode) → misfit_of w.table g x ≡ None → misfit_of w.table h (carried m x) ≡ None
  no_misfit x e =
      let f = fit_node w.table g x e in
      let d : Option TypeDef = type_at w.table x.of in
      let l : Label = x.label in
      let l' : Label = renumbered_label m l in
      let ks : Trees = x.kids in
      let ks' : Trees = renumbered m ks in
      let shape : has_shape d l' ks' ≡ true = shape_kids m d l' ks ∙ blind m (λ k. has_shape d k ks) (λ b c. shape_cell m d b c ks) l ∙ f.shape in
      let range : has_range is_value w.table d l' ≡ true = blind m (λ k. has_range is_value w.table d k) (λ b c. range_cell m w.table d b c) l ∙ f.range in
      let no_null : is_no_null_ref d l' ≡ true = blind m (λ k. is_no_null_ref d k) (λ b c. null_cell m d b c) l ∙ f.no_null in
      let cell : names_cell h l' ≡ true = cell_names_there l f.cell in
      let pointee : names_pointee h d l' ≡ true = pointee_same d l ∙ f.pointee in
      let counts : has_counts d l' ks' ≡ true = counts_kids m d l' ks ∙ blind m (λ k. has_counts d k ks) (λ b c. counts_cell m d b c ks) l ∙ f.counts in
      let within : is_within l' ks' ≡ true = within_kids m l' ks ∙ blind m (λ k. is_within k ks) (λ b c. refl) l ∙ f.within in
      let no_zero : has_no_zero l' ≡ true = blind m has_no_zero (λ b c. refl) l ∙ f.no_zero in
      let arm : has_arm d l' ≡ true = blind m (λ k. has_arm d k) (λ b c. arm_cell m d b c) l ∙ f.arm in
      pass (has_shape d l' ks') misfit.Shape _ shape
      (pass (has_range is_value w.table d l') misfit.Range _ range
      (pass (is_no_null_ref d l') misfit.NullRef _ no_null
      (pass (names_cell h l') misfit.NoCell _ cell
      (pass (names_pointee h d l') misfit.CellType _ pointee
      (pass (has_counts d l' ks' && is_within l' ks') misfit.Bound _ (ap₂ (λ a b. a && b) counts within)
      (pass (has_no_zero l') misfit.Zero _ no_zero
      (pass (has_arm d l') misfit.NoArm None arm refl)))))))

  -- ### Values of the program, and agreements

  machine_label : (l : Label) → length g.cells < 2 ^ 32 → has_machine_values l ≡ true → has_machine_values (renumbered_label m l) ≡ true
  machine_label (tree.Ptr None) few e = refl
  machine_label (tree.Ptr (Some c)) few e = let s = r.small c in lt-ltb (m c) (2 ^ 32) (omega (arith, s, few))
  machine_label (tree.Num z) few e = e
  machine_label tree.Rec few e = e
  machine_label (tree.Arr a o) few e = e
  machine_label (tree.Text a os) few e = e
  machine_label (tree.Union v) few e = e
  machine_label (tree.Context a i) few e = e
  machine_label tree.Pipe few e = e
  machine_label tree.Unread few e = e

  subjects : (x : TypedNode) (l : Label) → subject_by h (carried m x) (renumbered_label m l) ≡ map (renumbered_tree m) (subject_by g x l)
  subjects x (tree.Ptr None) = refl
  subjects x (tree.Ptr (Some c)) = ap (λ t. t ∷ []) (cell_at_same c)
  subjects x (tree.Num z) = refl
  subjects x tree.Rec = refl
  subjects x (tree.Arr a o) = refl
  subjects x (tree.Text a os) = refl
  subjects x (tree.Union v) = refl
  subjects x (tree.Context a i) = refl
  subjects x tree.Pipe = refl
  subjects x tree.Unread = refl

  agree_all : (us : List Agreement) (ts : List Tree) → AllByRecursion (λ t. AllByRecursion (IsAgreed t) us) ts
      → AllByRecursion (λ t. AllByRecursion (IsAgreed t) us) (map (renumbered_tree m) ts)
  agree_all us [] a = tt
  agree_all us (t ∷ ts) a = (agreed_same m t us a.0, agree_all us ts a.1)

  agrees : (x : TypedNode) → AgreesAt g x → AgreesAt h (carried m x)
  agrees x a = subst (AllByRecursion (λ t. AllByRecursion (IsAgreed t) x.agreements)) (sym (subjects x x.label)) (agree_all x.agreements (subject g x) a)

  -- ### Shared cells

  abbrev Key : Type 0
  Key = Class × Option ℕ

  abbrev key : Pending → Key
  key p = (p.class, p.cell)

  abbrev Shares : Key → Key → Type 0
  Shares a b = (c : ℕ) → a.1 ≡ Some c → b.1 ≡ Some c → (a.0 ≡ Full) × (b.0 ≡ Full)

  abbrev carried_key : Key → Key
  carried_key a = (a.0, option_map m a.1)

  -- the cell that it names is there
  abbrev IsThere : Key → Type 0
  IsThere a = (c : ℕ) → a.1 ≡ Some c → (0 < c) × (c ≤ length g.cells)

  to_keys : (ps : List Pending) → AllEarlier ShareOnlyIfFull ps → AllEarlier Shares (map key ps)
  to_keys [] a = tt
  to_keys (p ∷ ps) a = (all_mapped (Shares (key p)) key ps a.0, to_keys ps a.1)

  from_keys : (ps : List Pending) → AllEarlier Shares (map key ps) → AllEarlier ShareOnlyIfFull ps
  from_keys [] a = tt
  from_keys (p ∷ ps) a = (all_map (Shares (key p)) key ps a.0, from_keys ps a.1)

  shares_turned : (a b : Key) → Shares a b → Shares b a
  shares_turned a b f c e d = let x = f c d e in (x.1, x.0)

  carried_number : (o : Option ℕ) (d : ℕ) → option_map m o ≡ Some d → (c : ℕ) × (o ≡ Some c) × (m c ≡ d)
  carried_number None d e = cc
  carried_number (Some c) d e = (c, refl, same_Some _ _ e)

  shares_carried : (a b : Key) → IsThere a → IsThere b → Shares a b → Shares (carried_key a) (carried_key b)
  shares_carried a b ta tb f d e e' =
      let (c, p, q) = carried_number a.1 d e in
      let (c', p', q') = carried_number b.1 d e' in
      let l = ta c p in
      let l' = tb c' p' in
      let same : c ≡ c' = r.one c c' l.0 l.1 l'.0 l'.1 (q ∙ sym q') in
      f c p (p' ∙ ap Some (sym same))

  -- lists of lists
  module _ (R : Key → Key → Type 0) where
    all_of_each : (P : Key → Type 0) (xs : List Key) → ((x : Key) → Among xs x → P x) → AllByRecursion P xs
    all_of_each P [] f = tt
    all_of_each P (x ∷ xs) f = (f x (inl refl), all_of_each P xs (λ y a. f y (inr a)))

    earlier_left : (xs ys : List Key) → AllEarlier R (xs ++ ys) → AllEarlier R xs
    earlier_left [] ys a = tt
    earlier_left (x ∷ xs) ys a = (all_left (R x) xs ys a.0, earlier_left xs ys a.1)

    earlier_right : (xs ys : List Key) → AllEarlier R (xs ++ ys) → AllEarlier R ys
    earlier_right [] ys a = a
    earlier_right (x ∷ xs) ys a = earlier_right xs ys a.1

    earlier_cross : (xs ys : List Key) → AllEarlier R (xs ++ ys) → (x y : Key) → Among xs x → Among ys y → R x y
    earlier_cross [] ys a x y b c = absurd b
    earlier_cross (z ∷ xs) ys a x y (inl e) c = subst (λ u. R u y) (sym e) (all_among (R z) (xs ++ ys) y (among_right xs ys y c) a.0)
    earlier_cross (z ∷ xs) ys a x y (inr b) c = earlier_cross xs ys a.1 x y b c

    earlier_joined : (xs ys : List Key) → AllEarlier R xs → AllEarlier R ys → ((x y : Key) → Among xs x → Among ys y → R x y) → AllEarlier R (xs ++ ys)
    earlier_joined [] ys a b f = b
    earlier_joined (x ∷ xs) ys a b f =
        (all_append (R x) xs ys a.0 (all_of_each (R x) ys (λ y c. f x y (inl refl) c)), earlier_joined xs ys a.1 b (λ z y d c. f z y (inr d) c))

    module _ (f : Referent → List Key) where
      part_itself : (xs : List Referent) (i : ℕ) (x : Referent) → slice_get xs i ≡ Some x → AllEarlier R (flat_map f xs) → AllEarlier R (f x)
      part_itself [] i x e a = cc
      part_itself (y ∷ ys) zero x e a = subst (λ u. AllEarlier R (f u)) (same_Some _ _ e) (earlier_left (f y) (flat_map f ys) a)
      part_itself (y ∷ ys) (suc i) x e a = part_itself ys i x e (earlier_right (f y) (flat_map f ys) a)

      in_part : (xs : List Referent) (i : ℕ) (x : Referent) (p : Key) → slice_get xs i ≡ Some x → Among (f x) p → Among (flat_map f xs) p
      in_part [] i x p e a = cc
      in_part (y ∷ ys) zero x p e a = among_left (f y) (flat_map f ys) p (subst (λ u. Among (f u) p) (sym (same_Some _ _ e)) a)
      in_part (y ∷ ys) (suc i) x p e a = among_right (f y) (flat_map f ys) p (in_part ys i x p e a)

      parts_cross : (xs : List Referent) (i j : ℕ) (x y : Referent) → i < j → slice_get xs i ≡ Some x → slice_get xs j ≡ Some y → AllEarlier R (flat_map f xs)
          → (p q : Key) → Among (f x) p → Among (f y) q → R p q
      parts_cross [] i j x y l e d a p q b c = cc
      parts_cross (z ∷ zs) i zero x y l e d a p q b c = absurd (omega (arith, l))
      parts_cross (z ∷ zs) zero (suc j) x y l e d a p q b c =
          earlier_cross (f z) (flat_map f zs) a p q (subst (λ u. Among (f u) p) (sym (same_Some _ _ e)) b) (in_part zs j y q d c)
      parts_cross (z ∷ zs) (suc i) (suc j) x y l e d a p q b c = parts_cross zs i j x y (omega (arith, l)) e d (earlier_right (f z) (flat_map f zs) a) p q b c

      of_part : (xs : List Referent) (q : Key) → Among (flat_map f xs) q → (j : ℕ) × (y : Referent) × (slice_get xs j ≡ Some y) × Among (f y) q
      of_part [] q a = absurd a
      of_part (x ∷ xs) q a =
          elim (among_split (f x) (flat_map f xs) q a) as (λ v. (j : ℕ) × (y : Referent) × (slice_get (x ∷ xs) j ≡ Some y) × Among (f y) q) [
            | inl b ↦ (0, x, refl, b)
            | inr b ↦ let (j, y, e, c) = of_part xs q b in (suc j, y, e, c)
          ]

      parts_joined : (xs : List Referent) → ((i : ℕ) (x : Referent) → slice_get xs i ≡ Some x → AllEarlier R (f x))
          → ((i j : ℕ) (x y : Referent) → i < j → slice_get xs i ≡ Some x → slice_get xs j ≡ Some y → (p q : Key) → Among (f x) p → Among (f y) q → R p q)
          → AllEarlier R (flat_map f xs)
      parts_joined [] self cross = tt
      parts_joined (x ∷ xs) self cross =
          earlier_joined (f x) (flat_map f xs) (self 0 x refl)
          (parts_joined xs (λ i y e. self (suc i) y e) (λ i j y z l e d p q a b. cross (suc i) (suc j) y z (omega (arith, l)) e d p q a b))
          (λ p q a b.
          let (j, y, e, c) = of_part xs q b in
          cross 0 (suc j) x y (omega arith) refl e p q a c)

  -- the keys of a cell's pointers
  abbrev cell_keys : Referent → List Key
  cell_keys x = map key (home_pointers w.table (home.Root 0) x.of x.val)

  pointer_keys : (d : Option TypeDef) (b : Bool) (o : Option ℕ) (a a' : Home) (k : ℕ) (us : List Agreement) → map key (pointer_by d b o a k us) ≡ map key (pointer_by d b o a' k us)
  pointer_keys (Some (def.Pointer class to)) true o a a' k us = refl
  pointer_keys (Some (def.Pointer class to)) false o a a' k us = refl
  pointer_keys None b o a a' k us = refl
  pointer_keys (Some (def.Prim p)) b o a a' k us = refl
  pointer_keys (Some _) b o a a' k us = refl

  nodes_keys : (a a' : Home) (xs : List TypedNode) → map key (flat_map (pointer w.table a) xs) ≡ map key (flat_map (pointer w.table a') xs)
  nodes_keys a a' [] = refl
  nodes_keys a a' (x ∷ xs) =
      map-append key (pointer w.table a x) (flat_map (pointer w.table a) xs)
      ∙ ap₂ (λ u v. u ++ v) (pointer_keys (type_at w.table x.of) (is_pointer x.label) (cell_in x.label) a a' x.node x.agreements) (nodes_keys a a' xs)
      ∙ sym (map-append key (pointer w.table a' x) (flat_map (pointer w.table a') xs))

  keys_carried_to : (a : Home) (ps : List Pending) → map key (map (carried_to m a) ps) ≡ map carried_key (map key ps)
  keys_carried_to a [] = refl
  keys_carried_to a (p ∷ ps) = ap (λ u. carried_key (key p) ∷ u) (keys_carried_to a ps)

  home_keys : (a : Home) (t : ℕ) (v : Tree) → map key (home_pointers w.table a t (renumbered_tree m v)) ≡ map carried_key (map key (home_pointers w.table a t v))
  home_keys a t v = ap (map key) (pointers_carried m w.table a a t v) ∙ keys_carried_to a (home_pointers w.table a t v)

  cells_keys : (c : ℕ) (xs : List Referent) → map key (cell_pointers w.table c xs) ≡ flat_map cell_keys xs
  cells_keys c [] = refl
  cells_keys c (x ∷ xs) =
      map-append key (home_pointers w.table (cell_home c) x.of x.val) (cell_pointers w.table (c + 1) xs)
      ∙ ap₂ (λ u v. u ++ v) (nodes_keys (cell_home c) (home.Root 0) (home_nodes w.table x.of x.val)) (cells_keys (c + 1) xs)

  roots_keys : (i : ℕ) (rs : List Root) (vs : List Tree) → map key (root_pointers w.table i rs (map (renumbered_tree m) vs)) ≡ map carried_key (map key (root_pointers w.table i rs vs))
  roots_keys i [] [] = refl
  roots_keys i [] (v ∷ vs) = refl
  roots_keys i (q ∷ rs) [] = refl
  roots_keys i (q ∷ rs) (v ∷ vs) =
      let own : List Pending = home_pointers w.table (home.Root i) q.of v in
      let others : List Pending = root_pointers w.table (i + 1) rs vs in
      map-append key (home_pointers w.table (home.Root i) q.of (renumbered_tree m v)) (root_pointers w.table (i + 1) rs (map (renumbered_tree m) vs))
      ∙ ap₂ (λ u v. u ++ v) (home_keys (home.Root i) q.of v) (roots_keys (i + 1) rs vs)
      ∙ sym (ap (map carried_key) (map-append key own others) ∙ map-append carried_key (map key own) (map key others))

  module _ (k : Conforms w g) where
    there : HasNames g
    there = has_names w g k

    root_there : (a : Key) → Among (map key (root_pointers w.table 0 (root_list w) g.roots)) a → IsThere a
    root_there a b c e =
        let (p, d, f) = mapped_from key (root_pointers w.table 0 (root_list w) g.roots) a b in
        let (j, l, n) = of_roots w g 0 (root_list w) g.roots p c d (sym (ap (λ (u : Key). u.1) f) ∙ e) in
        all_among (λ c. (0 < c) × (c ≤ length g.cells)) (named_by (or_unread (slice_get g.roots j))) c n (of_roots_there g.roots j there.roots)
      where
        of_roots_there : (ts : List Tree) (j : ℕ) → AllByRecursion (λ t. AreThere (length g.cells) (named_by t)) ts → AreThere (length g.cells) (named_by (or_unread (slice_get ts j)))
        of_roots_there [] j h = tt
        of_roots_there (t ∷ ts) zero h = h.0
        of_roots_there (t ∷ ts) (suc j) h = of_roots_there ts j h.1

    cell_there : (i : ℕ) (x : Referent) → slice_get g.cells i ≡ Some x → (a : Key) → Among (cell_keys x) a → IsThere a
    cell_there i x e a b c f =
        let (p, d, s) = mapped_from key (home_pointers w.table (home.Root 0) x.of x.val) a b in
        all_among (λ c. (0 < c) × (c ≤ length g.cells)) (named_by x.val) c
        (names_its_cell w.table (home.Root 0) x.of x.val p c d (sym (ap (λ (u : Key). u.1) s) ∙ f)) (of_cells_there g.cells i there.cells e)
      where
        of_cells_there : (xs : List Referent) (i : ℕ) → AllByRecursion (λ x. AreThere (length g.cells) (named_by x.val)) xs → slice_get xs i ≡ Some x → AreThere (length g.cells) (named_by x.val)
        of_cells_there [] i h e = cc
        of_cells_there (y ∷ ys) zero h e = subst (λ (z : Referent). AreThere (length g.cells) (named_by z.val)) (same_Some _ _ e) h.0
        of_cells_there (y ∷ ys) (suc i) h e = of_cells_there ys i h.1 e

    abbrev A : List Key
    A = map key (root_pointers w.table 0 (root_list w) g.roots)

    abbrev F : List Key
    F = flat_map cell_keys g.cells

    apart : AllEarlier Shares (A ++ F)
    apart =
        subst (AllEarlier Shares)
        (map-append key (root_pointers w.table 0 (root_list w) g.roots) (cell_pointers w.table 1 g.cells) ∙ ap (λ u. A ++ u) (cells_keys 1 g.cells)) (to_keys (all_pointers w g) k.unshared)

    -- the keys of a cell of h
    keys_of : (y : Referent) (x : Referent) → y ≡ carried_cell m x → cell_keys y ≡ map carried_key (cell_keys x)
    keys_of y x e = ap cell_keys e ∙ home_keys (home.Root 0) x.of x.val

    earlier_carried : (xs : List Key) → ((a : Key) → Among xs a → IsThere a) → AllEarlier Shares xs → AllEarlier Shares (map carried_key xs)
    earlier_carried [] t a = tt
    earlier_carried (x ∷ xs) t a = (first xs (λ b c. t b (inr c)) a.0, earlier_carried xs (λ b c. t b (inr c)) a.1)
      where
        first : (ys : List Key) → ((b : Key) → Among ys b → IsThere b) → AllByRecursion (Shares x) ys → AllByRecursion (Shares (carried_key x)) (map carried_key ys)
        first [] u b = tt
        first (y ∷ ys) u b = (shares_carried x y (t x (inl refl)) (u y (inl refl)) b.0, first ys (λ z c. u z (inr c)) b.1)

    place_of : (c : ℕ) (x : Referent) → cell_of_number g c ≡ Some x → (i : ℕ) × (c ≡ suc i) × (slice_get g.cells i ≡ Some x)
    place_of zero x e = cc
    place_of (suc i) x e = (i, refl, e)

    self : (j : ℕ) (y : Referent) → slice_get h.cells j ≡ Some y → AllEarlier Shares (cell_keys y)
    self j y e =
        let s = source j y e in
        let (i, f, at) = place_of s.number s.cell s.there in
        subst (AllEarlier Shares) (sym (keys_of y s.cell s.same))
        (earlier_carried (cell_keys s.cell) (cell_there i s.cell at) (part_itself Shares cell_keys g.cells i s.cell at (earlier_right Shares A F apart)))

    differ : (i i' : ℕ) (x x' : Referent) → (i ≡ i' → ⊥) → slice_get g.cells i ≡ Some x → slice_get g.cells i' ≡ Some x' → (p q : Key) → Among (cell_keys x) p → Among (cell_keys x') q → Shares p q
    differ i i' x x' n e e' p q a b = go (ltb i i') refl
      where
        go : (t : Bool) → ltb i i' ≡ t → Shares p q
        go true f = parts_cross Shares cell_keys g.cells i i' x x' (ltb-true i i' f) e e' (earlier_right Shares A F apart) p q a b
        go false f =
            let l : i' ≤ i = ltb-false i i' f in
            shares_turned q p (parts_cross Shares cell_keys g.cells i' i x' x (omega (arith, l, n)) e' e (earlier_right Shares A F apart) q p b a)

    cross : (j j' : ℕ) (y y' : Referent) → j < j' → slice_get h.cells j ≡ Some y → slice_get h.cells j' ≡ Some y' → (p q : Key) → Among (cell_keys y) p → Among (cell_keys y') q → Shares p q
    cross j j' y y' l e e' p q a b =
        let s = source j y e in
        let s' = source j' y' e' in
        let (i, f, at) = place_of s.number s.cell s.there in
        let (i', f', at') = place_of s'.number s'.cell s'.there in
        let apart_numbers : i ≡ i' → ⊥ = λ z. (
        let same : suc j ≡ suc j' = sym s.image ∙ ap m (f ∙ ap suc z ∙ sym f') ∙ s'.image in
        omega (arith, same, l)) in
        let (p', c, pe) = mapped_from carried_key (cell_keys s.cell) p (subst (λ u. Among u p) (keys_of y s.cell s.same) a) in
        let (q', d, qe) = mapped_from carried_key (cell_keys s'.cell) q (subst (λ u. Among u q) (keys_of y' s'.cell s'.same) b) in
        subst (λ u. Shares u q) (sym pe)
        (subst (λ u. Shares (carried_key p') u) (sym qe)
        (shares_carried p' q' (cell_there i s.cell at p' c) (cell_there i' s'.cell at' q' d) (differ i i' s.cell s'.cell apart_numbers at at' p' q' c d)))

    root_cross : (p q : Key) → Among (map carried_key A) p → Among (flat_map cell_keys h.cells) q → Shares p q
    root_cross p q a b =
        let (p', c, pe) = mapped_from carried_key A p a in
        let (j, y, e, d) = of_part Shares cell_keys h.cells q b in
        let s = source j y e in
        let (i, f, at) = place_of s.number s.cell s.there in
        let (q', d', qe) = mapped_from carried_key (cell_keys s.cell) q (subst (λ u. Among u q) (keys_of y s.cell s.same) d) in
        subst (λ u. Shares u q) (sym pe)
        (subst (λ u. Shares (carried_key p') u) (sym qe)
        (shares_carried p' q' (root_there p' c) (cell_there i s.cell at q' d')
        (earlier_cross Shares A F apart p' q' c (in_part Shares cell_keys g.cells i s.cell q' at d'))))

    unshared : AllEarlier ShareOnlyIfFull (all_pointers w h)
    unshared =
        let roots : map key (root_pointers w.table 0 (root_list w) h.roots) ≡ map carried_key A =
        ap (λ ts. map key (root_pointers w.table 0 (root_list w) ts)) r.roots ∙ roots_keys 0 (root_list w) g.roots in
        from_keys (all_pointers w h)
        (subst (AllEarlier Shares)
        (sym (map-append key (root_pointers w.table 0 (root_list w) h.roots) (cell_pointers w.table 1 h.cells) ∙ ap₂ (λ u v. u ++ v) roots (cells_keys 1 h.cells)))
        (earlier_joined Shares (map carried_key A) (flat_map cell_keys h.cells) (earlier_carried A root_there (earlier_left Shares A F apart))
        (parts_joined Shares cell_keys h.cells self cross) root_cross))

    -- ### Each cell is reached

    root_point : (i : ℕ) (rs : List Root) (vs : List Tree) (p : Pending) → Among (root_pointers w.table i rs vs) p
        → (q : Pending) × Among (root_pointers w.table i rs (map (renumbered_tree m) vs)) q × (q.cell ≡ option_map m p.cell)
    root_point i [] vs p a = absurd a
    root_point i (t ∷ rs) [] p a = absurd a
    root_point i (t ∷ rs) (v ∷ vs) p a =
        let own : List Pending = home_pointers w.table (home.Root i) t.of v in
        let own' : List Pending = home_pointers w.table (home.Root i) t.of (renumbered_tree m v) in
        let others' : List Pending = root_pointers w.table (i + 1) rs (map (renumbered_tree m) vs) in
        elim (among_split own (root_pointers w.table (i + 1) rs vs) p a)
        as (λ x. (q : Pending) × Among (own' ++ others') q × (q.cell ≡ option_map m p.cell)) [
          | inl b ↦ (
            carried_to m (home.Root i) p,
            among_left own' others' (carried_to m (home.Root i) p)
                (subst (λ u. Among u (carried_to m (home.Root i) p)) (sym (pointers_carried m w.table (home.Root i) (home.Root i) t.of v)) (among_mapped (carried_to m (home.Root i)) own p b)),
            refl,
          )
          | inr b ↦ let (q, c, e) = root_point (i + 1) rs vs p b in (q, among_right own' others' q c, e)
        ]

    reached_image : {c : ℕ} → Reached w g c → Reached w h (m c)
    reached_image (by_root {c} p a e) =
        let (q, b, f) = root_point 0 (root_list w) g.roots p a in
        by_root q (subst (λ ts. Among (root_pointers w.table 0 (root_list w) ts) q) (sym r.roots) b) (f ∙ ap (option_map m) e)
    reached_image (by_cell {b} {c} x p d at a e) =
        let there' : cell_of_number h (m b) ≡ Some (carried_cell m x) = r.cell b ∙ ap (option_map (carried_cell m)) at in
        by_cell (carried_cell m x) (carried_to m (cell_home (m b)) p) (reached_image d) there'
        (subst (λ u. Among u (carried_to m (cell_home (m b)) p)) (sym (pointers_carried m w.table (cell_home b) (cell_home (m b)) x.of x.val))
        (among_mapped (carried_to m (cell_home (m b))) (home_pointers w.table (cell_home b) x.of x.val) p a)) (ap (option_map m) e)

    -- ### Few nodes

    few_mapped : (ts : List Tree) → FewNodes ts → FewNodes (map (renumbered_tree m) ts)
    few_mapped [] a = tt
    few_mapped (t ∷ ts) a = (subst (λ u. u < 2 ^ 32) (sym (tree_nodes_same m t)) a.0, few_mapped ts a.1)

    abbrev IsFew : Tree → Type 0
    IsFew t = node_count (more t none) < 2 ^ 32

    few_all : (xs : List Referent) → ((i : ℕ) (x : Referent) → slice_get xs i ≡ Some x → IsFew x.val) → AllByRecursion IsFew (map (λ c. c.val) xs)
    few_all [] f = tt
    few_all (x ∷ xs) f = (f 0 x refl, few_all xs (λ i y e. f (suc i) y e))

    few_at : (xs : List Referent) (i : ℕ) (x : Referent) → slice_get xs i ≡ Some x → AllByRecursion IsFew (map (λ c. c.val) xs) → IsFew x.val
    few_at [] i x e a = cc
    few_at (y ∷ ys) zero x e a = subst (λ (z : Referent). IsFew z.val) (same_Some _ _ e) a.0
    few_at (y ∷ ys) (suc i) x e a = few_at ys i x e a.1

    few : HasFewNodes h
    few =
        all_append IsFew h.roots (map (λ c. c.val) h.cells)
        (subst FewNodes (sym r.roots) (few_mapped g.roots (all_left IsFew g.roots (map (λ c. c.val) g.cells) k.few_nodes)))
        (few_all h.cells (λ j y e.
        let s = source j y e in
        let (i, f, at) = place_of s.number s.cell s.there in
        subst (λ (z : Referent). IsFew z.val) (sym s.same)
        (subst (λ u. u < 2 ^ 32) (sym (tree_nodes_same m s.cell.val)) (few_at g.cells i s.cell at (all_right IsFew g.roots (map (λ c. c.val) g.cells) k.few_nodes)))))

    -- the renumbered graph conforms
    pub conforms_as_before : Conforms w h
    conforms_as_before =
        let many = r.many in
        let few_cells = k.few_cells in
        record {
          all_roots = ap length r.roots ∙ length_map (renumbered_tree m) g.roots ∙ k.all_roots;
          machine_values =
              list_of_all (λ x. has_machine_values x.typed.label) (all_nodes w h)
              (lifted (λ x. has_machine_values x.label ≡ true) (λ x. has_machine_values x.label ≡ true) (λ x e. machine_label x.label k.few_cells e)
              (all_of_list (λ x. has_machine_values x.typed.label) (all_nodes w g) k.machine_values));
          local = lifted (λ x. misfit_of w.table g x ≡ None) (λ x. misfit_of w.table h x ≡ None) no_misfit k.local;
          unshared = unshared;
          reached = λ d lo hi. (
              let (c, l, u, e) = r.back d lo (omega (arith, hi, many)) in
              subst (Reached w h) e (reached_image (k.reached c l (omega (arith, u)))));
          agreed = lifted (AgreesAt g) (AgreesAt h) agrees k.agreed;
          few_cells = omega (arith, many, few_cells);
          few_nodes = few;
        }
