-- The nodes of a graph and the pointers among them, by one recursion over lists of values.
-- `t` is a type's number, `l` a node's label, `ks` are its children, `h` is a home, `n` a node's number, `c` a cell's number, `r` a root.
use Rattle.std.proofs.Common.{◌≡◌, ℕ, zero, suc, ◌+◌, Bool, true, false, eqb, List, [], ◌∷◌, ◌++◌, length, map, replicate, Option, Some, None, refl, ap, sym, subst, ◌∙◌, append_assoc, append-nil}
use Rattle.std.specs.Prelude.{flat_map}
use Rattle.std.specs.List.{list_all}
use Rattle.std.proofs.lemmas.List.{length-map}
use Rattle.std.proofs.lemmas.List.Folds.{list_all-map, list_all-append}
use Rattle.std.proofs.lemmas.Grind.{flat_map-append}
use Rattle.std.proofs.lemmas.Bool.{and_parts, and_from, eqb-true}
use Rattle.nd_types.specs.declared.types.TypeDef.{TypeDef}
use Rattle.nd_types.specs.declared.types.TypeDef.TheVariants as def
use Rattle.nd_types.specs.Table.{Table, type_at}
use Rattle.nd_types.specs.Roots.{Root}
use Rattle.nd_value.specs.declared.value.Graph.{Graph}
use Rattle.nd_value.specs.declared.item.Home.{Home}
use Rattle.nd_value.specs.declared.item.Home.TheVariants as home
use Rattle.nd_value.specs.Tree as tree
use Rattle.nd_value.specs.Tree.{Tree, Trees, node, none, more, count, node_count, Label, is_pointer, cell_in, Referent}
use Rattle.nd_value.specs.Agreement.{Agreement, root_agreements}
use Rattle.nd_value.specs.Nodes.{TypedNode, child_types, child_agreements, first_agreements, rest_agreements, nodes_of, governed_nodes, home_nodes}
use Rattle.nd_value.specs.Setting.{Setting, root_list, cell_home}
use Rattle.nd_value.specs.Deferral.{Pending, pointer_by, pointer, home_pointers}
use Rattle.nd_value.specs.Conforms.{HomeNode, in_home, root_nodes, cell_nodes, root_pointers}
use Rattle.text_grammar.specs.declared.version.Version.{Version}
use Rattle.text_grammar.specs.Reads.{has_text_form, is_readable_node, is_cell, first_type, AreNamed, IsReadable}
use Rattle.text_grammar.specs.Dues.{named_type, with_name}
use Rattle.text_grammar.specs.Values.{have_forms, noted_node, noted}
use Rattle.text_grammar.proofs.Forms.{Form, form_of, a_number, an_enum, a_struct, an_array, a_bound_text, a_text, a_union, a_null, a_pointer, a_context, a_pipe}

-- ## Forms

replicate_length : (n t : ℕ) → length (replicate n t) ≡ n
replicate_length zero t = refl
replicate_length (suc n) t = ap suc (replicate_length n t)

pub form_count : (v : Version) (table : Table) (d : Option TypeDef) (l : Label) (ks : Trees) → Form v table d l ks → count ks ≡ length (child_types d l ks)
form_count v table _ _ _ (a_number p z) = refl
form_count v table _ _ _ (an_enum values z) = refl
form_count v table _ _ _ (a_struct members ks many) = many ∙ sym (length-map members (λ f. f.of.0))
form_count v table _ _ _ (an_array elem bound varying max offset ks m o b) = sym (replicate_length (count ks) elem.0)
form_count v table _ _ _ (a_bound_text elem bound octets o) = refl
form_count v table _ _ _ (a_text elem max octets m o) = refl
form_count v table _ _ _ (a_union tag encapsulated arms default z ks many) = many
form_count v table _ _ _ (a_null class to) = refl
form_count v table _ _ _ (a_pointer class to c z h) = refl
form_count v table _ _ _ (a_context attributes id h long o) = refl
form_count v table _ _ _ (a_pipe elem ks b) = sym (replicate_length (count ks) elem.0)

module _ (v : Version) (table : Table) where
  pub nodes_forms : (types : List ℕ) (gs : List (List Agreement)) (n : ℕ) (ks : Trees) → count ks ≡ length types
      → list_all (is_readable_node v table) (nodes_of table types gs n ks) ≡ true → have_forms v table types ks ≡ true
  nodes_forms [] gs n none c h = refl
  nodes_forms (t ∷ types) gs n none c h = cc
  nodes_forms [] gs n (more k ks) c h = cc
  nodes_forms (t ∷ types) gs n (more (node l us) ks) c h =
      let test : TypedNode → Bool = is_readable_node v table in
      let inner : List TypedNode = nodes_of table (child_types (type_at table t) l us) (child_agreements (type_at table t) us) (n + 1) us in
      let others : List TypedNode = nodes_of table types (rest_agreements gs) (n + 1 + node_count us) ks in
      let p = and_parts (has_text_form v table (type_at table t) l us) (list_all test (inner ++ others)) h in
      let q = and_parts (list_all test inner) (list_all test others) (sym (list_all-append test inner others) ∙ p.1) in
      let many : count us ≡ length (child_types (type_at table t) l us) = form_count v table (type_at table t) l us (form_of v table (type_at table t) l us p.0) in
      let c' : count ks ≡ length types = cc in
      and_from (has_text_form v table (type_at table t) l us) _ p.0
      (and_from (have_forms v table (child_types (type_at table t) l us) us) (have_forms v table types ks)
      (nodes_forms (child_types (type_at table t) l us) (child_agreements (type_at table t) us) (n + 1) us many q.0)
      (nodes_forms types (rest_agreements gs) (n + 1 + node_count us) ks c' q.1))

  pub forms_nodes : (types : List ℕ) (gs : List (List Agreement)) (n : ℕ) (ks : Trees) → have_forms v table types ks ≡ true
      → list_all (is_readable_node v table) (nodes_of table types gs n ks) ≡ true
  forms_nodes types gs n none h = refl
  forms_nodes [] gs n (more k ks) h = cc
  forms_nodes (t ∷ types) gs n (more (node l us) ks) h =
      let test : TypedNode → Bool = is_readable_node v table in
      let inner : List TypedNode = nodes_of table (child_types (type_at table t) l us) (child_agreements (type_at table t) us) (n + 1) us in
      let others : List TypedNode = nodes_of table types (rest_agreements gs) (n + 1 + node_count us) ks in
      let p = and_parts (has_text_form v table (type_at table t) l us) _ h in
      let q = and_parts (have_forms v table (child_types (type_at table t) l us) us) (have_forms v table types ks) p.1 in
      and_from (has_text_form v table (type_at table t) l us) (list_all test (inner ++ others)) p.0
      (list_all-append test inner others
      ∙ and_from (list_all test inner) (list_all test others)
      (forms_nodes (child_types (type_at table t) l us) (child_agreements (type_at table t) us) (n + 1) us q.0)
      (forms_nodes types (rest_agreements gs) (n + 1 + node_count us) ks q.1))

  -- ## The forms of graphs

  abbrev pub RootsFormed : List Root → List Tree → Type 0
  RootsFormed [] [] = Unit {0}
  RootsFormed (r ∷ rs) (x ∷ xs) = (have_forms v table (r.of ∷ []) (more x none) ≡ true) × RootsFormed rs xs
  RootsFormed [] (x ∷ xs) = ⊥
  RootsFormed (r ∷ rs) [] = ⊥

  abbrev pub CellsFormed : List Referent → Type 0
  CellsFormed [] = Unit {0}
  CellsFormed (x ∷ xs) = (have_forms v table (x.of ∷ []) (more x.val none) ≡ true) × CellsFormed xs

  abbrev home_test : HomeNode → Bool
  home_test x = is_readable_node v table x.typed

  cells_forth : (c : ℕ) (xs : List Referent) → list_all home_test (cell_nodes table c xs) ≡ true → CellsFormed xs
  cells_forth c [] h = tt
  cells_forth c (x ∷ xs) h =
      let here : List HomeNode = map (in_home (cell_home c)) (home_nodes table x.of x.val) in
      let p = and_parts (list_all home_test here) (list_all home_test (cell_nodes table (c + 1) xs)) (sym (list_all-append home_test here (cell_nodes table (c + 1) xs)) ∙ h) in
      (nodes_forms (x.of ∷ []) [] 0 (more x.val none) refl (sym (list_all-map home_test (in_home (cell_home c)) (home_nodes table x.of x.val)) ∙ p.0), cells_forth (c + 1) xs p.1)

  cells_back : (c : ℕ) (xs : List Referent) → CellsFormed xs → list_all home_test (cell_nodes table c xs) ≡ true
  cells_back c [] f = refl
  cells_back c (x ∷ xs) f =
      let here : List HomeNode = map (in_home (cell_home c)) (home_nodes table x.of x.val) in
      list_all-append home_test here (cell_nodes table (c + 1) xs)
      ∙ and_from (list_all home_test here) (list_all home_test (cell_nodes table (c + 1) xs))
      (list_all-map home_test (in_home (cell_home c)) (home_nodes table x.of x.val) ∙ forms_nodes (x.of ∷ []) [] 0 (more x.val none) f.0) (cells_back (c + 1) xs f.1)

module _ (v : Version) (w : Setting) (g : Graph) where
  abbrev graph_test : HomeNode → Bool
  graph_test x = is_readable_node v w.table x.typed

  abbrev governed : Root → Tree → List TypedNode
  governed r x = governed_nodes w.table r.of (root_agreements w g r.vars) x

  roots_forth : (i : ℕ) (rs : List Root) (xs : List Tree) → length xs ≡ length rs → list_all graph_test (root_nodes w g i rs xs) ≡ true → RootsFormed v w.table rs xs
  roots_forth i [] [] l h = tt
  roots_forth i [] (x ∷ xs) l h = cc
  roots_forth i (r ∷ rs) [] l h = cc
  roots_forth i (r ∷ rs) (x ∷ xs) l h =
      let here : List HomeNode = map (in_home (home.Root i)) (governed r x) in
      let p = and_parts (list_all graph_test here) (list_all graph_test (root_nodes w g (i + 1) rs xs)) (sym (list_all-append graph_test here (root_nodes w g (i + 1) rs xs)) ∙ h) in
      let l' : length xs ≡ length rs = cc in (
        nodes_forms v w.table (r.of ∷ []) (root_agreements w g r.vars ∷ []) 0 (more x none) refl (sym (list_all-map graph_test (in_home (home.Root i)) (governed r x)) ∙ p.0),
        roots_forth (i + 1) rs xs l' p.1,
      )

  roots_back : (i : ℕ) (rs : List Root) (xs : List Tree) → RootsFormed v w.table rs xs → list_all graph_test (root_nodes w g i rs xs) ≡ true
  roots_back i [] [] f = refl
  roots_back i [] (x ∷ xs) f = absurd f
  roots_back i (r ∷ rs) [] f = absurd f
  roots_back i (r ∷ rs) (x ∷ xs) f =
      let here : List HomeNode = map (in_home (home.Root i)) (governed r x) in
      list_all-append graph_test here (root_nodes w g (i + 1) rs xs)
      ∙ and_from (list_all graph_test here) (list_all graph_test (root_nodes w g (i + 1) rs xs))
      (list_all-map graph_test (in_home (home.Root i)) (governed r x) ∙ forms_nodes v w.table (r.of ∷ []) (root_agreements w g r.vars ∷ []) 0 (more x none) f.0) (roots_back (i + 1) rs xs f.1)

  roots_many : (rs : List Root) (xs : List Tree) → RootsFormed v w.table rs xs → length xs ≡ length rs
  roots_many [] [] f = refl
  roots_many [] (x ∷ xs) f = absurd f
  roots_many (r ∷ rs) [] f = absurd f
  roots_many (r ∷ rs) (x ∷ xs) f = ap suc (roots_many rs xs f.1)

  pub readable_formed : IsReadable v w g → RootsFormed v w.table (root_list w) g.roots × CellsFormed v w.table g.cells
  readable_formed r =
      let roots : List HomeNode = root_nodes w g 0 (root_list w) g.roots in
      let cells : List HomeNode = cell_nodes w.table 1 g.cells in
      let p = and_parts (list_all graph_test roots) (list_all graph_test cells) (sym (list_all-append graph_test roots cells) ∙ r.forms) in
      (roots_forth 0 (root_list w) g.roots r.all_roots p.0, cells_forth v w.table 1 g.cells p.1)

  -- A graph is readable whose roots and cells have the forms of their types, and whose cells are named.
  pub formed_readable : RootsFormed v w.table (root_list w) g.roots → CellsFormed v w.table g.cells
      → AreNamed w.table (root_pointers w.table 0 (root_list w) g.roots) 1 g.cells → IsReadable v w g
  formed_readable f c n =
      let roots : List HomeNode = root_nodes w g 0 (root_list w) g.roots in
      let cells : List HomeNode = cell_nodes w.table 1 g.cells in
      record {
        all_roots = roots_many (root_list w) g.roots f;
        forms = list_all-append graph_test roots cells
            ∙ and_from (list_all graph_test roots) (list_all graph_test cells) (roots_back 0 (root_list w) g.roots f) (cells_back v w.table 1 g.cells c);
        named = n;
      }

-- ## The types of cells

abbrev or_first : Option ℕ → Option ℕ → Option ℕ
or_first None q = q
or_first (Some t) q = Some t

or_none : (o : Option ℕ) → or_first o None ≡ o
or_none None = refl
or_none (Some t) = refl

first_both : (ps qs : List Pending) (c : ℕ) → first_type (ps ++ qs) c ≡ or_first (first_type ps c) (first_type qs c)
first_both [] qs c = refl
first_both (p ∷ ps) qs c = by (is_cell p.cell c) (first_both ps qs c) where
  by : (b : Bool) → first_type (ps ++ qs) c ≡ or_first (first_type ps c) (first_type qs c)
      → elim b as (λ _. Option ℕ) [ true ↦ Some p.to | false ↦ first_type (ps ++ qs) c ] ≡ or_first (elim b [ true ↦ Some p.to | false ↦ first_type ps c ]) (first_type qs c)
  by true h = refl
  by false h = h

-- the cells that have a type are those that these pointers name, each with the type of the first
pub record Knows (before : List Pending) (named : List (ℕ × ℕ)) : Type 0 where
  pub same : (c : ℕ) → named_type named c ≡ first_type before c

pub knows_none : Knows [] []
knows_none = record { same = λ c. refl }

abbrev this_type : Bool → ℕ → Option ℕ
this_type true to = Some to
this_type false to = None

module _ (before : List Pending) (named : List (ℕ × ℕ)) (k : Knows before named) where
  name_same : (c to d : ℕ) → named_type (with_name named c to) d ≡ or_first (first_type before d) (this_type (eqb c d) to)
  name_same c to d = by (named_type named c) refl (eqb c d) refl where
    by : (o : Option ℕ) → named_type named c ≡ o → (b : Bool) → eqb c d ≡ b
        → named_type (elim o as (λ _. List (ℕ × ℕ)) [ None ↦ (c, to) ∷ named | Some u ↦ named ]) d ≡ or_first (first_type before d) (this_type b to)
    by None e true f =
        let nothing : first_type before d ≡ None = sym (k.same d) ∙ ap (named_type named) (sym (eqb-true c d f)) ∙ e in
        ap (λ (b : Bool). elim b as (λ _. Option ℕ) [ true ↦ Some to | false ↦ named_type named d ]) f ∙ ap (λ o. or_first o (Some to)) (sym nothing)
    by None e false f =
        ap (λ (b : Bool). elim b as (λ _. Option ℕ) [ true ↦ Some to | false ↦ named_type named d ]) f ∙ k.same d ∙ sym (or_none (first_type before d))
    by (Some u) e true f =
        let some : first_type before d ≡ Some u = sym (k.same d) ∙ ap (named_type named) (sym (eqb-true c d f)) ∙ e in
        k.same d ∙ some ∙ ap (λ o. or_first o (Some to)) (sym some)
    by (Some u) e false f = k.same d ∙ sym (or_none (first_type before d))

  one_type : (b : Bool) (to : ℕ) → this_type b to ≡ elim b as (λ _. Option ℕ) [ true ↦ Some to | false ↦ None ]
  one_type true to = refl
  one_type false to = refl

  none_more : Knows (before ++ []) named
  none_more = subst (λ ps. Knows ps named) (sym (append-nil before)) k

  node_knows : (d : Option TypeDef) (l : Label) (h : Home) (n : ℕ) (gs : List Agreement) → Knows (before ++ pointer_by d (is_pointer l) (cell_in l) h n gs) (noted_node d l named)
  node_knows (Some (def.Pointer class to)) (tree.Ptr (Some c)) h n gs =
      let p : Pending = record { home = h; node = n; class = class; to = to.0; cell = Some c; agreements = gs } in
      record {
        same = λ d. name_same c to.0 d ∙ ap (or_first (first_type before d)) (one_type (eqb c d) to.0) ∙ sym (first_both before (p ∷ []) d);
      }
  node_knows (Some (def.Pointer class to)) (tree.Ptr None) h n gs =
      let p : Pending = record { home = h; node = n; class = class; to = to.0; cell = None; agreements = gs } in
      record { same = λ d. k.same d ∙ sym (or_none (first_type before d)) ∙ sym (first_both before (p ∷ []) d) }
  node_knows d l h n gs = none_more

pub values_know : (table : Table) (h : Home) (types : List ℕ) (gs : List (List Agreement)) (n : ℕ) (ks : Trees) (before : List Pending) (named : List (ℕ × ℕ)) → Knows before named
    → Knows (before ++ flat_map (pointer table h) (nodes_of table types gs n ks)) (noted table types ks named)
values_know table h types gs n none before named k = none_more before named k
values_know table h [] gs n (more u ks) before named k = none_more before named k
values_know table h (t ∷ types) gs n (more (node l us) ks) before named k =
    let d : Option TypeDef = type_at table t in
    let this : List Pending = pointer_by d (is_pointer l) (cell_in l) h n (first_agreements gs) in
    let inner : List TypedNode = nodes_of table (child_types d l us) (child_agreements d us) (n + 1) us in
    let others : List TypedNode = nodes_of table types (rest_agreements gs) (n + 1 + node_count us) ks in
    let f : TypedNode → List Pending = pointer table h in
    let joined : ((before ++ this) ++ flat_map f inner) ++ flat_map f others ≡ before ++ (this ++ flat_map f (inner ++ others)) =
    append_assoc (before ++ this) (flat_map f inner) (flat_map f others) ∙ append_assoc before this (flat_map f inner ++ flat_map f others)
    ∙ ap (λ (l : List Pending). before ++ (this ++ l)) (sym (flat_map-append f inner others)) in
    let k1 = node_knows before named k d l h n (first_agreements gs) in
    let k2 = values_know table h (child_types d l us) (child_agreements d us) (n + 1) us (before ++ this) (noted_node d l named) k1 in
    let k3 = values_know table h types (rest_agreements gs) (n + 1 + node_count us) ks ((before ++ this) ++ flat_map f inner) (noted table (child_types d l us) us (noted_node d l named)) k2 in
    subst (λ ps. Knows ps (noted table (t ∷ types) (more (node l us) ks) named)) joined k3

pub home_knows : (table : Table) (h : Home) (t : ℕ) (x : Tree) (before : List Pending) (named : List (ℕ × ℕ)) → Knows before named
    → Knows (before ++ home_pointers table h t x) (noted table (t ∷ []) (more x none) named)
home_knows table h t x before named k = values_know table h (t ∷ []) [] 0 (more x none) before named k
