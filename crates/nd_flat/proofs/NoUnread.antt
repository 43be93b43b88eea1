-- A graph that conforms has no home that is unread: so each span of one that was built holds a whole tree.
use Rattle.std.proofs.Common.{◌≡◌, inl, inr, ℕ, ◌+◌, false, ◌&&◌, List, [], ◌∷◌, ◌++◌, length, take, drop, map, Option, Some, None, refl, ap, ap₂, sym, ◌∙◌, subst, arith}
use Rattle.std.specs.List.{AllByRecursion}
use Rattle.nd_types.specs.declared.types.TypeDef.{TypeDef}
use Rattle.nd_types.specs.declared.types.TypeDef.TheVariants as def
use Rattle.nd_types.specs.Table.{Table, type_at, is_value}
use Rattle.nd_types.specs.Roots.{Root}
use Rattle.nd_value.specs.declared.value.Graph.{Graph}
use Rattle.nd_value.specs.declared.item.Home.TheVariants as home
use Rattle.nd_value.specs.declared.misfit.MisfitReason.TheVariants as misfit
use Rattle.nd_value.specs.Tree as tree
use Rattle.nd_value.specs.Tree.{Tree, Trees, node, none, more, Referent}
use Rattle.nd_value.specs.Setting.{Setting, unread, root_list, cell_home}
use Rattle.nd_value.specs.Nodes.{TypedNode, governed_nodes, home_nodes}
use Rattle.nd_value.specs.Agreement.{root_agreements}
use Rattle.nd_value.specs.Conforms.{HomeNode, in_home, root_nodes, cell_nodes, Conforms}
use Rattle.nd_value.specs.Misfit.{misfit_of, has_shape, unless, has_range, is_no_null_ref, names_cell, names_pointee, has_counts, is_within, has_no_zero, has_arm}
use Rattle.nd_flat.specs.declared.node.Node.{Node}
use Rattle.nd_flat.specs.declared.flat.Span.{Span}
use Rattle.nd_flat.specs.declared.flat.CellSpan.{CellSpan}
use Rattle.nd_flat.specs.Forest.{tree_in, IsWhole}
use Rattle.nd_flat.specs.FlatForm.{flats, HaveOctets}
use Rattle.nd_flat.specs.Building.{HasNoUnread}
use Rattle.nd_flat.specs.Store.{span_flats, span_tree, span_cell, seen_graph, IsSound, IsHome, IsKept}

unread_shape : (d : Option TypeDef) → has_shape d tree.Unread none ≡ false
unread_shape None = refl
unread_shape (Some (def.Prim p)) = refl
unread_shape (Some (def.Enum values)) = refl
unread_shape (Some (def.Struct members)) = refl
unread_shape (Some (def.Array elem bound varying)) = refl
unread_shape (Some (def.Text elem bound)) = refl
unread_shape (Some (def.Union tag encapsulated arms default)) = refl
unread_shape (Some (def.Pointer class to)) = refl
unread_shape (Some def.Context) = refl
unread_shape (Some (def.Pipe elem)) = refl

shape_first : (table : Table) (g : Graph) (x : TypedNode) → has_shape (type_at table x.of) x.label x.kids ≡ false → misfit_of table g x ≡ Some misfit.Shape
shape_first table g x e =
    let d : Option TypeDef = type_at table x.of in
    ap (λ b.
    unless b misfit.Shape
    (unless (has_range is_value table d x.label) misfit.Range
    (unless (is_no_null_ref d x.label) misfit.NullRef
    (unless (names_cell g x.label) misfit.NoCell
    (unless (names_pointee g d x.label) misfit.CellType
    (unless (has_counts d x.label x.kids && is_within x.label x.kids) misfit.Bound
    (unless (has_no_zero x.label) misfit.Zero
    (unless (has_arm d x.label) misfit.NoArm None)))))))) e

back : {A : Type 0} (P : A → Type 0) (xs ys : List A) → AllByRecursion P (xs ++ ys) → AllByRecursion P ys
back P [] ys h = h
back P (x ∷ xs) ys h = back P xs ys h.1

front : {A : Type 0} (P : A → Type 0) (xs ys : List A) → AllByRecursion P (xs ++ ys) → AllByRecursion P xs
front P [] ys h = tt
front P (x ∷ xs) ys h = (h.0, front P xs ys h.1)

module _ (w : Setting) (g : Graph) where
  abbrev Local : HomeNode → Type 0
  Local x = misfit_of w.table g x.typed ≡ None

  no_unread : (x : TypedNode) → x.label ≡ tree.Unread → x.kids ≡ none → misfit_of w.table g x ≡ None → ⊥
  no_unread x e k h =
      let s : misfit_of w.table g x ≡ Some misfit.Shape =
      shape_first w.table g x (ap₂ (λ l ks. has_shape (type_at w.table x.of) l ks) e k ∙ unread_shape (type_at w.table x.of)) in
      let f : None ≡ Some misfit.Shape = sym h ∙ s in
      cc

  roots_read : (i : ℕ) (rs : List Root) (vs : List Tree) → length vs ≡ length rs → AllByRecursion Local (root_nodes w g i rs vs)
      → AllByRecursion (λ t. t ≡ unread → ⊥) vs
  roots_read i rs [] e h = tt
  roots_read i [] (v ∷ vs) e h = absurd (omega (arith, e))
  roots_read i (r ∷ rs) (v ∷ vs) e h =
      let nodes : Tree → List HomeNode = λ t. map (in_home (home.Root i)) (governed_nodes w.table r.of (root_agreements w g r.vars) t) in (
        (λ u.
            let h' : AllByRecursion Local (nodes unread ++ root_nodes w g (i + 1) rs vs) = subst (λ t. AllByRecursion Local (nodes t ++ root_nodes w g (i + 1) rs vs)) u h in
            no_unread (record { node = 0; of = r.of; agreements = root_agreements w g r.vars; label = tree.Unread; kids = none }) refl refl h'.0),
        roots_read (i + 1) rs vs (omega (arith, e)) (back Local (nodes v) (root_nodes w g (i + 1) rs vs) h),
      )

  cells_read : (c : ℕ) (xs : List Referent) → AllByRecursion Local (cell_nodes w.table c xs) → AllByRecursion (λ x. x.val ≡ unread → ⊥) xs
  cells_read c [] h = tt
  cells_read c (x ∷ xs) h =
      let nodes : Tree → List HomeNode = λ t. map (in_home (cell_home c)) (home_nodes w.table x.of t) in (
        (λ u.
            let h' : AllByRecursion Local (nodes unread ++ cell_nodes w.table (c + 1) xs) = subst (λ t. AllByRecursion Local (nodes t ++ cell_nodes w.table (c + 1) xs)) u h in
            no_unread (record { node = 0; of = x.of; agreements = []; label = tree.Unread; kids = none }) refl refl h'.0),
        cells_read (c + 1) xs (back Local (nodes x.val) (cell_nodes w.table (c + 1) xs) h),
      )

module _ (os : List ℕ) (ns : List Node) where
  empty_unread : (s : Span) → s.len ≡ 0 → span_tree os ns s ≡ unread
  empty_unread s e = ap (λ k. tree_in (flats os (take k (drop s.from ns)))) e

  whole_if_read : (s : Span) → IsSound os ns (length ns) s → (span_tree os ns s ≡ unread → ⊥) → IsHome os ns s
  whole_if_read s h f = record {
    within = h.within;
    whole = elim h.sound as (λ v. IsWhole (span_flats os ns s)) [ inl e ↦ absurd (f (empty_unread s e)) | inr w ↦ w ];
  }

  roots_whole : (rs : List Span) → AllByRecursion (IsSound os ns (length ns)) rs → AllByRecursion (λ t. t ≡ unread → ⊥) (map (span_tree os ns) rs) → AllByRecursion (IsHome os ns) rs
  roots_whole [] h f = tt
  roots_whole (s ∷ rs) h f = (whole_if_read s h.0 f.0, roots_whole rs h.1 f.1)

  cells_whole : (cs : List CellSpan) → AllByRecursion (λ c. IsSound os ns (length ns) c.span) cs → AllByRecursion (λ (x : Referent). x.val ≡ unread → ⊥) (map (span_cell os ns) cs)
      → AllByRecursion (λ c. IsHome os ns c.span) cs
  cells_whole [] h f = tt
  cells_whole (c ∷ cs) h f = (whole_if_read c.span h.0 f.0, cells_whole cs h.1 f.1)

  -- spans that are sound, of a graph of which no home is unread, hold whole trees
  pub kept_if_no_unread : (rs : List Span) (cs : List CellSpan) → HaveOctets os ns → AllByRecursion (IsSound os ns (length ns)) rs
      → AllByRecursion (λ c. IsSound os ns (length ns) c.span) cs → HasNoUnread (seen_graph os ns rs cs) → IsKept os ns rs cs
  kept_if_no_unread rs cs texts hr hc f = record { texts = texts; roots = roots_whole rs hr f.roots; cells = cells_whole cs hc f.cells }

  -- spans that are sound, of a graph that conforms, hold whole trees
  pub kept_if_conforms : (rs : List Span) (cs : List CellSpan) (w : Setting) → HaveOctets os ns → AllByRecursion (IsSound os ns (length ns)) rs
      → AllByRecursion (λ c. IsSound os ns (length ns) c.span) cs → Conforms w (seen_graph os ns rs cs) → IsKept os ns rs cs
  kept_if_conforms rs cs w texts hr hc f =
      let g : Graph = seen_graph os ns rs cs in
      let above : List HomeNode = root_nodes w g 0 (root_list w) g.roots in
      let below : List HomeNode = cell_nodes w.table 1 g.cells in
      record {
        texts = texts;
        roots = roots_whole rs hr (roots_read w g 0 (root_list w) g.roots f.all_roots (front (Local w g) above below f.local));
        cells = cells_whole cs hc (cells_read w g 1 g.cells (back (Local w g) above below f.local));
      }
