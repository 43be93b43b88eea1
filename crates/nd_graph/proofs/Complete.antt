-- In a graph that conforms each pointer names a cell that is there, and each cell is named.
-- `w` is a setting, `g` a graph, `h` a home, `p` a pointer, `b` and `c` are cells' numbers, `v` is a value, `x` a node or a cell, `ns` are the cells that are named.
use Rattle.std.proofs.Common.{◌≡◌, ◌⊎◌, inl, inr, ℕ, ◌+◌, ◌<◌, ◌≤◌, zero, suc, Bool, true, false, not, eqb, List, [], ◌∷◌, ◌++◌, length, map, flat_map, Option, Some, None, refl, ap, sym, ◌∙◌, subst}
use Rattle.std.proofs.Common.{arith}
use Rattle.std.specs.Prelude.{leb}
use Rattle.std.specs.List.{AllByRecursion, slice_get}
use Rattle.std.proofs.lemmas.Bool.{eqb-true, eqb-false, leb-true, not-true, and_parts}
use Rattle.std.proofs.lemmas.Option.{same_Some}
use Rattle.std.proofs.lemmas.Grind.{flat_map-append}
use Rattle.nd_types.specs.declared.types.TypeDef.{TypeDef}
use Rattle.nd_types.specs.declared.types.TypeDef.TheVariants as def
use Rattle.nd_types.specs.Table.{Table, type_at}
use Rattle.nd_types.specs.Roots.{Root}
use Rattle.nd_value.specs.declared.value.Graph.{Graph}
use Rattle.nd_value.specs.declared.item.Home.{Home}
use Rattle.nd_value.specs.declared.item.Home.TheVariants as home
use Rattle.nd_value.specs.Tree as tree
use Rattle.nd_value.specs.Tree.{Tree, Trees, Label, node, none, more, count, flat, node_count, is_pointer, cell_in, Referent}
use Rattle.nd_value.specs.Agreement.{Agreement, root_agreements}
use Rattle.nd_value.specs.Nodes.{TypedNode, nodes_of, home_nodes, child_types, child_agreements, first_agreements, rest_agreements}
use Rattle.nd_value.specs.Setting.{Setting, Among, root_list, root_at, or_unread, cell_home, cell_at, cell_tree}
use Rattle.nd_value.specs.Deferral.{Pending, pointer, pointer_by, home_pointers}
use Rattle.nd_value.specs.Conforms.{HomeNode, in_home, root_nodes, cell_nodes, root_pointers, Conforms, Reached, by_root, by_cell}
use Rattle.nd_value.specs.Misfit.{misfit_of, names_cell}
use Rattle.nd_value.specs.Canon.{target}
use Rattle.nd_value.specs.Names.{AreThere, HasNames, cells_in, named_by}
use Rattle.nd_value.proofs.Apart.{all_append, all_left, all_right, all_map, among_left, among_right}
use Rattle.nd_value.proofs.NodeFacts.{fit_node, fit_children}
use Rattle.nd_graph.specs.Naming.{Naming, none_due, root_due, cell_due, stands_already, AreNamed, cell_homes, root_homes}
use Rattle.nd_graph.specs.Order.{IsAllNamed}

-- ## The cells of pointers

-- the cells of a node and its children, and those of the others
pub cells_both : (l : Label) (ks ts : Trees) → cells_in (more (node l ks) ts) ≡ target (cell_in l) ++ (cells_in ks ++ cells_in ts)
cells_both l ks ts = ap (λ xs. target (cell_in l) ++ xs) (flat_map-append (λ f. target (cell_in f.0)) (flat ks) (flat ts))

-- each pointer is a node that names its cell
by_type : (d : Option TypeDef) (b : Bool) (o : Option ℕ) (h : Home) (n : ℕ) (ags : List Agreement) (p : Pending) (c : ℕ)
    → Among (pointer_by d b o h n ags) p → p.cell ≡ Some c → o ≡ Some c
by_type (Some (def.Pointer class to)) true o h n ags p c (inl e) q = sym (ap (λ (u : Pending). u.cell) e) ∙ q
by_type (Some (def.Pointer class to)) true o h n ags p c (inr a) q = absurd a
by_type (Some (def.Pointer class to)) false o h n ags p c a q = absurd a
by_type None b o h n ags p c a q = absurd a
by_type (Some (def.Prim k)) b o h n ags p c a q = absurd a
by_type (Some (def.Enum vs)) b o h n ags p c a q = absurd a
by_type (Some (def.Struct ms)) b o h n ags p c a q = absurd a
by_type (Some (def.Array e bound varying)) b o h n ags p c a q = absurd a
by_type (Some (def.Text e bound)) b o h n ags p c a q = absurd a
by_type (Some (def.Union tag enc arms default)) b o h n ags p c a q = absurd a
by_type (Some def.Context) b o h n ags p c a q = absurd a
by_type (Some (def.Pipe e)) b o h n ags p c a q = absurd a

in_target : (o : Option ℕ) (c : ℕ) → o ≡ Some c → Among (target o) c
in_target None c e = cc
in_target (Some d) c e = inl (sym (same_Some _ _ e))

pub among_split : {A : Type 0} (xs ys : List A) (x : A) → Among (xs ++ ys) x → Among xs x ⊎ Among ys x
among_split [] ys x a = inr a
among_split (y ∷ xs) ys x (inl e) = inl (inl e)
among_split (y ∷ xs) ys x (inr b) = elim (among_split xs ys x b) as (λ v. Among (y ∷ xs) x ⊎ Among ys x) [ inl c ↦ inl (inr c) | inr d ↦ inr d ]

among_nodes : (table : Table) (h : Home) (types : List ℕ) (ags : List (List Agreement)) (n : ℕ) (ts : Trees) (p : Pending) (c : ℕ)
    → Among (flat_map (pointer table h) (nodes_of table types ags n ts)) p → p.cell ≡ Some c → Among (cells_in ts) c
among_nodes table h types ags n none p c a q = absurd a
among_nodes table h [] ags n (more t ts) p c a q = absurd a
among_nodes table h (t ∷ types) ags n (more (node l ks) ts) p c a q =
    let d : Option TypeDef = type_at table t in
    let kids : List TypedNode = nodes_of table (child_types d l ks) (child_agreements d ks) (n + 1) ks in
    let rest : List TypedNode = nodes_of table types (rest_agreements ags) (n + 1 + node_count ks) ts in
    let own : List Pending = pointer_by d (is_pointer l) (cell_in l) h n (first_agreements ags) in
    let b : Among (own ++ (flat_map (pointer table h) kids ++ flat_map (pointer table h) rest)) p =
    subst (λ u. Among (own ++ u) p) (flat_map-append (pointer table h) kids rest) a in
    let there : Among (target (cell_in l) ++ (cells_in ks ++ cells_in ts)) c =
    elim (among_split own (flat_map (pointer table h) kids ++ flat_map (pointer table h) rest) p b) as (λ v. Among (target (cell_in l) ++ (cells_in ks ++ cells_in ts)) c) [
      | inl m ↦
          among_left (target (cell_in l)) (cells_in ks ++ cells_in ts) c
          (in_target (cell_in l) c (by_type d (is_pointer l) (cell_in l) h n (first_agreements ags) p c m q))
      | inr m ↦
          among_right (target (cell_in l)) (cells_in ks ++ cells_in ts) c
          (elim (among_split (flat_map (pointer table h) kids) (flat_map (pointer table h) rest) p m) as (λ v. Among (cells_in ks ++ cells_in ts) c) [
            | inl k ↦
                among_left (cells_in ks) (cells_in ts) c (among_nodes table h (child_types d l ks) (child_agreements d ks) (n + 1) ks p c k q)
            | inr k ↦
                among_right (cells_in ks) (cells_in ts) c (among_nodes table h types (rest_agreements ags) (n + 1 + node_count ks) ts p c k q)
          ])
    ] in
    subst (λ u. Among u c) (sym (cells_both l ks ts)) there

pub names_its_cell : (table : Table) (h : Home) (t : ℕ) (v : Tree) (p : Pending) (c : ℕ) → Among (home_pointers table h t v) p → p.cell ≡ Some c → Among (named_by v) c
names_its_cell table h t v p c a q = among_nodes table h (t ∷ []) [] 0 (more v none) p c a q

-- ## Each cell is named

abbrev number_in : Home → ℕ
number_in (home.Root i) = i
number_in (home.Cell c) = c.0

-- a root that is due, or a cell that stands or is due, names its cells
abbrev Names : Graph → List ℕ → Tree → Type 0
Names g ns t = (c : ℕ) → Among (named_by t) c → Among ns c

module _ (g : Graph) where
  cell_among : (cs : List ℕ) (c : ℕ) → Among cs c → Among (cell_homes cs) (cell_home c)
  cell_among [] c a = absurd a
  cell_among (d ∷ cs) c (inl e) = inl (ap cell_home e)
  cell_among (d ∷ cs) c (inr a) = inr (cell_among cs c a)

  later : (xs ns : List ℕ) (t : Tree) → Names g ns t → Names g (xs ++ ns) t
  later xs ns t h c a = among_right xs ns c (h c a)

  same_number : (b c : ℕ) → cell_home b ≡ cell_home c → b ≡ c
  same_number b c e = ap number_in e

  -- a root that is due names its cells
  root_names : {stands ns : List ℕ} {due : List Home} (i : ℕ) → Naming g stands due ns → Among due (home.Root i) → Names g ns (root_at g i)
  root_names i none_due a c m = absurd a
  root_names i (root_due {ns = ns} j d) (inl e) c m =
      let same : i ≡ j = cc in
      among_left (named_by (root_at g j)) ns c (subst (λ k. Among (named_by (root_at g k)) c) same m)
  root_names i (root_due {ns = ns} {due = due} j d) (inr a) c m =
      among_right (named_by (root_at g j)) ns c (root_names i d (among_right (cell_homes (named_by (root_at g j))) due (home.Root i) a) c m)
  root_names i (cell_due b n d) (inl e) c m = cc
  root_names i (cell_due {ns = ns} {due = due} b n d) (inr a) c m =
      among_right (named_by (cell_at g b)) ns c (root_names i d (among_right (cell_homes (named_by (cell_at g b))) due (home.Root i) a) c m)
  root_names i (stands_already b n d) (inl e) c m = cc
  root_names i (stands_already b n d) (inr a) c m = root_names i d a c m

  -- a cell that is due, or is named from here on, names its cells, unless it stands already
  cell_names : {stands ns : List ℕ} {due : List Home} (b : ℕ) → Naming g stands due ns → Among due (cell_home b) ⊎ Among ns b → Among stands b ⊎ Names g ns (cell_at g b)
  cell_names b none_due (inl a) = absurd a
  cell_names b none_due (inr a) = absurd a
  cell_names b (root_due {stands = stands} {ns = ns} {due = due} j d) a =
      let cs : List ℕ = named_by (root_at g j) in
      let onward : Among (cell_homes cs ++ due) (cell_home b) ⊎ Among ns b = on_root a in
      elim (cell_names b d onward) as (λ v. Among stands b ⊎ Names g (cs ++ ns) (cell_at g b)) [ inl s ↦ inl s | inr h ↦ inr (later cs ns (cell_at g b) h) ]
    where
      on_root : Among (home.Root j ∷ due) (cell_home b) ⊎ Among (named_by (root_at g j) ++ ns) b
          → Among (cell_homes (named_by (root_at g j)) ++ due) (cell_home b) ⊎ Among ns b
      on_root (inl (inl e)) = cc
      on_root (inl (inr m)) = inl (among_right (cell_homes (named_by (root_at g j))) due (cell_home b) m)
      on_root (inr m) =
          elim (among_split (named_by (root_at g j)) ns b m) as (λ v. Among (cell_homes (named_by (root_at g j)) ++ due) (cell_home b) ⊎ Among ns b) [
            | inl k ↦ inl (among_left (cell_homes (named_by (root_at g j))) due (cell_home b) (cell_among (named_by (root_at g j)) b k))
            | inr k ↦ inr k
          ]
  cell_names b (cell_due {stands = stands} {ns = ns} {due = due} j n d) a =
      by_case (cell_names b d) a
    where
      cs : List ℕ
      cs = named_by (cell_at g j)

      own : b ≡ j → Names g (named_by (cell_at g j) ++ ns) (cell_at g b)
      own e c m = among_left (named_by (cell_at g j)) ns c (subst (λ k. Among (named_by (cell_at g k)) c) e m)

      from : (Among (cell_homes (named_by (cell_at g j)) ++ due) (cell_home b) ⊎ Among ns b → Among (j ∷ stands) b ⊎ Names g ns (cell_at g b))
          → Among (cell_homes (named_by (cell_at g j)) ++ due) (cell_home b) ⊎ Among ns b → Among stands b ⊎ Names g (named_by (cell_at g j) ++ ns) (cell_at g b)
      from again m =
          elim (again m) as (λ v. Among stands b ⊎ Names g (named_by (cell_at g j) ++ ns) (cell_at g b)) [
            | inl s ↦ elim s as (λ v. Among stands b ⊎ Names g (named_by (cell_at g j) ++ ns) (cell_at g b)) [ inl e ↦ inr (own e) | inr k ↦ inl k ]
            | inr h ↦ inr (later (named_by (cell_at g j)) ns (cell_at g b) h)
          ]

      by_case : (Among (cell_homes (named_by (cell_at g j)) ++ due) (cell_home b) ⊎ Among ns b → Among (j ∷ stands) b ⊎ Names g ns (cell_at g b))
          → Among (cell_home j ∷ due) (cell_home b) ⊎ Among (named_by (cell_at g j) ++ ns) b → Among stands b ⊎ Names g (named_by (cell_at g j) ++ ns) (cell_at g b)
      by_case again (inl (inl e)) = inr (own (same_number b j e))
      by_case again (inl (inr m)) = from again (inl (among_right (cell_homes (named_by (cell_at g j))) due (cell_home b) m))
      by_case again (inr m) =
          elim (among_split (named_by (cell_at g j)) ns b m) as (λ v. Among stands b ⊎ Names g (named_by (cell_at g j) ++ ns) (cell_at g b)) [
            | inl k ↦ from again (inl (among_left (cell_homes (named_by (cell_at g j))) due (cell_home b) (cell_among (named_by (cell_at g j)) b k)))
            | inr k ↦ from again (inr k)
          ]
  cell_names b (stands_already {stands = stands} {ns = ns} j s d) (inl (inl e)) = inl (subst (λ k. Among stands k) (sym (same_number b j e)) s)
  cell_names b (stands_already j s d) (inl (inr m)) = cell_names b d (inl m)
  cell_names b (stands_already j s d) (inr m) = cell_names b d (inr m)

  root_among : (i j n : ℕ) → i ≤ j → j < i + n → Among (root_homes i n) (home.Root j)
  root_among i j zero lo hi = absurd (omega (arith, lo, hi))
  root_among i j (suc n) lo hi = go (eqb j i) refl (λ lo' hi'. root_among (suc i) j n lo' hi')
    where
      go : (b : Bool) → eqb j i ≡ b → (suc i ≤ j → j < suc i + n → Among (root_homes (suc i) n) (home.Root j)) → Among (home.Root i ∷ root_homes (suc i) n) (home.Root j)
      go true e r = inl (ap (λ k. home.Root k) (eqb-true j i e))
      go false e r =
          let apart : j ≡ i → ⊥ = eqb-false j i e in
          inr (r (omega (arith, lo, apart)) (omega (arith, hi)))

  roots_named : (ns : List ℕ) → AreNamed g ns → (i : ℕ) → i < length g.roots → Names g ns (root_at g i)
  roots_named ns d i l = root_names i d (root_among 0 i (length g.roots) (omega arith) (omega (arith, l)))

  pub cells_named : (ns : List ℕ) → AreNamed g ns → (b : ℕ) → Among ns b → Names g ns (cell_at g b)
  cells_named ns d b a = elim (cell_names b d (inr a)) as (λ v. Names g ns (cell_at g b)) [ inl s ↦ absurd s | inr h ↦ h ]

module _ (w : Setting) (g : Graph) where
  pub of_roots : (i : ℕ) (rs : List Root) (vs : List Tree) (p : Pending) (c : ℕ) → Among (root_pointers w.table i rs vs) p → p.cell ≡ Some c
      → (j : ℕ) × (j < length vs) × Among (named_by (or_unread (slice_get vs j))) c
  of_roots i [] vs p c a e = absurd a
  of_roots i (r ∷ rs) [] p c a e = absurd a
  of_roots i (r ∷ rs) (v ∷ vs) p c a e =
      elim (among_split (home_pointers w.table (home.Root i) r.of v) (root_pointers w.table (i + 1) rs vs) p a)
      as (λ x. (j : ℕ) × (j < suc (length vs)) × Among (named_by (or_unread (slice_get (v ∷ vs) j))) c) [
        | inl m ↦ (0, omega arith, names_its_cell w.table (home.Root i) r.of v p c m e)
        | inr m ↦ let (j, l, n) = of_roots (i + 1) rs vs p c m e in (suc j, omega (arith, l), n)
      ]

  reached_named : (ns : List ℕ) → AreNamed g ns → {c : ℕ} → Reached w g c → Among ns c
  reached_named ns d (by_root {c} p a e) =
      let (j, l, m) = of_roots 0 (root_list w) g.roots p c a e in
      roots_named g ns d j l c m
  reached_named ns d (by_cell {b} {c} x p r there a e) =
      let m : Among (named_by x.val) c = names_its_cell w.table (cell_home b) x.of x.val p c a e in
      cells_named g ns d b (reached_named ns d r) c (subst (λ t. Among (named_by t) c) (sym (ap cell_tree there)) m)

  -- each cell is named
  pub all_named : Conforms w g → IsAllNamed g
  all_named k ns d c lo hi = reached_named ns d (k.reached c lo (omega (arith, hi)))

  -- ## Each pointer names a cell that is there

  label_there : (l : Label) → names_cell g l ≡ true → AreThere (length g.cells) (target (cell_in l))
  label_there (tree.Ptr None) e = tt
  label_there (tree.Ptr (Some zero)) e =
      absurd (eqb-false zero zero (not-true _ (and_parts (not (eqb 0 0)) (leb 0 (length g.cells)) e).0) refl)
  label_there (tree.Ptr (Some (suc c))) e =
      let l : suc c ≤ length g.cells = leb-true _ _ (and_parts (not (eqb (suc c) 0)) (leb (suc c) (length g.cells)) e).1 in
      ((omega arith, l), tt)
  label_there (tree.Num z) e = tt
  label_there tree.Rec e = tt
  label_there (tree.Arr m o) e = tt
  label_there (tree.Text m os) e = tt
  label_there (tree.Union z) e = tt
  label_there (tree.Context a i) e = tt
  label_there tree.Pipe e = tt
  label_there tree.Unread e = tt

  abbrev IsGood : TypedNode → Type 0
  IsGood x = misfit_of w.table g x ≡ None

  trees_there : (types : List ℕ) (ags : List (List Agreement)) (n : ℕ) (ts : Trees) → count ts ≡ length types → AllByRecursion IsGood (nodes_of w.table types ags n ts)
      → AreThere (length g.cells) (cells_in ts)
  trees_there types ags n none e a = tt
  trees_there [] ags n (more t ts) e a = cc
  trees_there (t ∷ types) ags n (more (node l ks) ts) e a =
      let d : Option TypeDef = type_at w.table t in
      let x : TypedNode = record { node = n; of = t; agreements = first_agreements ags; label = l; kids = ks } in
      let f = fit_node w.table g x a.0 in
      let kids : List TypedNode = nodes_of w.table (child_types d l ks) (child_agreements d ks) (n + 1) ks in
      let rest : List TypedNode = nodes_of w.table types (rest_agreements ags) (n + 1 + node_count ks) ts in
      let P : ℕ → Type 0 = λ c. (0 < c) × (c ≤ length g.cells) in
      let few : count ts ≡ length types = omega (arith, e) in
      subst (AreThere (length g.cells)) (sym (cells_both l ks ts))
      (all_append P (target (cell_in l)) (cells_in ks ++ cells_in ts) (label_there l f.cell)
      (all_append P (cells_in ks) (cells_in ts)
      (trees_there (child_types d l ks) (child_agreements d ks) (n + 1) ks (fit_children d l ks f.shape f.arm) (all_left IsGood kids rest a.1))
      (trees_there types (rest_agreements ags) (n + 1 + node_count ks) ts few (all_right IsGood kids rest a.1))))

  abbrev IsGoodNode : HomeNode → Type 0
  IsGoodNode x = IsGood x.typed

  roots_there : (i : ℕ) (rs : List Root) (vs : List Tree) → length vs ≡ length rs → AllByRecursion IsGoodNode (root_nodes w g i rs vs)
      → AllByRecursion (λ t. AreThere (length g.cells) (named_by t)) vs
  roots_there i rs [] e a = tt
  roots_there i [] (v ∷ vs) e a = cc
  roots_there i (r ∷ rs) (v ∷ vs) e a =
      let own : List HomeNode = map (in_home (home.Root i)) (nodes_of w.table (r.of ∷ []) (root_agreements w g r.vars ∷ []) 0 (more v none)) in (
        trees_there (r.of ∷ []) (root_agreements w g r.vars ∷ []) 0 (more v none) refl
            (all_map IsGoodNode (in_home (home.Root i)) _ (all_left IsGoodNode own (root_nodes w g (i + 1) rs vs) a)),
        roots_there (i + 1) rs vs (omega (arith, e)) (all_right IsGoodNode own (root_nodes w g (i + 1) rs vs) a),
      )

  cells_there : (c : ℕ) (xs : List Referent) → AllByRecursion IsGoodNode (cell_nodes w.table c xs) → AllByRecursion (λ x. AreThere (length g.cells) (named_by x.val)) xs
  cells_there c [] a = tt
  cells_there c (x ∷ xs) a =
      let own : List HomeNode = map (in_home (cell_home c)) (home_nodes w.table x.of x.val) in (
        trees_there (x.of ∷ []) [] 0 (more x.val none) refl
            (all_map IsGoodNode (in_home (cell_home c)) _ (all_left IsGoodNode own (cell_nodes w.table (c + 1) xs) a)),
        cells_there (c + 1) xs (all_right IsGoodNode own (cell_nodes w.table (c + 1) xs) a),
      )

  pub has_names : Conforms w g → HasNames g
  has_names k = record {
    roots = roots_there 0 (root_list w) g.roots k.all_roots (all_left IsGoodNode (root_nodes w g 0 (root_list w) g.roots) (cell_nodes w.table 1 g.cells) k.local);
    cells = cells_there 1 g.cells (all_right IsGoodNode (root_nodes w g 0 (root_list w) g.roots) (cell_nodes w.table 1 g.cells) k.local);
  }
