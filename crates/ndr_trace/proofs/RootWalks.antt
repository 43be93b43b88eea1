-- Roots: their own values, or those of the cells that top-level reference pointers name.
-- `k` are the octets with the partial graph in which they are refused, `u` and `v` are walks before and after a call, `at` is the index of a root,
-- `r` the root, `d` its type, `t` its number, `c` is a cell, `due` is what is due after the root, `rest` and `names` are the entries and the names after
-- all that is due.
use Rattle.std.proofs.Common.{◌≡◌, ◌⊎◌, inl, inr, ◌∙◌, ℕ, suc, ◌+◌, ◌-◌, ◌^◌, Bool, true, false, List, [], ◌∷◌, ◌++◌, Option, Some, None, refl, sym, ap, ap₂, subst, append_assoc, append-nil, flat_map}
use Rattle.std.proofs.Common.{map, reverse}
use Rattle.std.specs.Prelude.{min}
use Rattle.std.specs.List.{AllByRecursion, list_all, slice_get}
use Rattle.std.proofs.lemmas.Option.{same_Some}
use Rattle.nd_types.specs.declared.types.Class.TheVariants.{Full, Ref, Unique}
use Rattle.nd_types.specs.declared.types.TypeDef.{TypeDef}
use Rattle.nd_types.specs.declared.types.TypeDef.TheVariants as def
use Rattle.nd_types.specs.declared.types.TypeId.{TypeId}
use Rattle.nd_types.specs.Roots.{Root}
use Rattle.nd_types.specs.declared.walk.RootDef.{RootDef}
use Rattle.ndr_explain.specs.Cursors.{name_text}
use Rattle.nd_types.specs.Table.{type_at}
use Rattle.nd_value.specs.declared.item.Home.{Home}
use Rattle.nd_value.specs.declared.item.Home.TheVariants as home
use Rattle.nd_value.specs.declared.value.CellId.{CellId}
use Rattle.nd_value.specs.Deferral.{AreFree, Deferral, Due, IsPlaced, Pending as Pointer, Placed_cells, Standing, Step, direct, due_of, due_root, home_pointers, root_cell, root_stands, root_type}
use Rattle.nd_value.specs.Deferral.{standing_by, standing_root}
use Rattle.nd_value.specs.Conforms.{all_pointers}
use Rattle.nd_value.specs.Misfit.{is_partial_node}
use Rattle.nd_value.specs.Setting.{Among, cell_at, cell_home, root_at, root_list}
use Rattle.nd_value.specs.Tree as tree
use Rattle.nd_value.specs.Tree.{Label, Tree, Trees, more, node, none}
use Rattle.nd_value.proofs.NodeFacts.{sound_partial}
use Rattle.nd_grammar.specs.Entry.{Entry, whole_value}
use Rattle.nd_grammar.specs.Stream.{standing_entries, step_entries}
use Rattle.nd_grammar.proofs.next.PointerPlaces.{in_standing}
use Rattle.text_grammar.specs.Paths.{home_value}
use Rattle.ndr_explain.specs.declared.names.HomeName.{HomeName}
use Rattle.ndr_explain.specs.declared.names.HomeName.TheVariants as named
use Rattle.ndr_trace_value.specs.Untested.{untested}
use Rattle.ndr_trace_value.specs.declared.nodes.Walker.{Walker}
use Rattle.ndr_trace.specs.Homes.{HasHome, IsAwaiting, IsDeferring, IsPart, IsRoot, direct_names, direct_of, home_due, names_all, pending_all, standing_names, step_names}
use Rattle.ndr_trace_value.specs.Naming.{HasType, IsNaming, Stand, names_in, only_spot, pending_in, stands_at}
use Rattle.ndr_trace_value.specs.Tracing.{IsFrom, IsTracing, Known}
use Rattle.ndr_trace_value.specs.Walking.{IsReady}
use Rattle.ndr_trace.proofs.Deferring.{inverted, root_entries}
use Rattle.ndr_trace.proofs.HomeNames.{home_names, home_waits}
use Rattle.ndr_trace.proofs.HomeWalks.{is_read}
use Rattle.ndr_trace_value.proofs.NamedCells.{plain_named, same_naming}
use Rattle.ndr_trace.proofs.PartialHomes.{cell_has_home, direct_typed, root_has_home}
use Rattle.ndr_trace.proofs.Referents.{Entering, marked_more, none_left, stood}
use Rattle.ndr_trace.proofs.SolePointers.{from_pointer, root_pointer}

-- a type that is no reference pointer has no direct referent
not_direct : (d : Option TypeDef) (v : Tree) → direct_of d ≡ None → direct d v ≡ None
not_direct (Some (def.Pointer Ref to)) v e = cc
not_direct (Some (def.Pointer Unique to)) v e = refl
not_direct (Some (def.Pointer Full to)) v e = refl
not_direct None v e = refl
not_direct (Some _) v e = refl

pub is_direct : (d : Option TypeDef) (to : TypeId) → direct_of d ≡ Some to → d ≡ Some (def.Pointer Ref to)
is_direct (Some (def.Pointer Ref t)) to e = ap (λ x. Some (def.Pointer Ref x)) (same_Some _ _ e)
is_direct (Some (def.Pointer Unique t)) to e = cc
is_direct (Some (def.Pointer Full t)) to e = cc
is_direct None to e = cc
is_direct (Some _) to e = cc

module _ (k : Known) (due : List Due) (rest : List Entry) (names : Placed_cells) where
  module _ (s : IsPart k) (at : ℕ) (r : Root) (there : slice_get (root_list k.setting) at ≡ Some r) where
    abbrev v : Tree
    v = root_at k.graph at

    type_is : root_type (slice_get (root_list k.setting) at) ≡ r.of
    type_is = ap root_type there

    -- what stands for a root, by its direct referent
    standing_is : (o : Option (ℕ × ℕ)) → direct (type_at k.setting.table r.of) (root_at k.graph at) ≡ o → standing_root k.setting k.graph at ≡ standing_by k.graph at r.of (root_at k.graph at) o
    standing_is o e =
        ap (λ t. standing_by k.graph at t (root_at k.graph at) (direct (type_at k.setting.table t) (root_at k.graph at))) type_is
        ∙ ap (standing_by k.graph at r.of (root_at k.graph at)) e

    -- the pointers of what stands are those of the graph
    mine : (x : Standing) → standing_root k.setting k.graph at ≡ x → (p : Pointer) → Among (home_pointers k.setting.table x.home x.of x.val) p
        → Among (all_pointers k.setting k.graph) p
    mine x e =
        subst (λ (y : Standing). (p : Pointer) → Among (home_pointers k.setting.table y.home y.of y.val) p → Among (all_pointers k.setting k.graph) p) e
        (in_standing k.setting k.graph (sound_partial k.setting k.graph s.partial) at r there)

    -- a root that is no reference pointer
    pub own_root : (u : Walker) (name : HomeName) → direct_of (type_at k.setting.table r.of) ≡ None → ((HasHome k (home.Root at) name r.of))
        → IsAwaiting k u (due_root at ∷ due) rest names → u.cells.pending.items ≡ [] → Entering k due rest names u (home.Root at) name r.of
    own_root u name never its a empty = go (none_left k (due_root at ∷ due) rest names u a empty)
      where
        go : (done : Placed_cells) × (us : List Step) × IsDeferring k u done (due_root at ∷ due) us rest names → Entering k due rest names u (home.Root at) name r.of
        go (done, us, d) = by (inverted k.setting k.graph d.deferral)
          where
            x : Standing
            x = record { home = home.Root at; of = r.of; val = root_at k.graph at }

            stands : standing_root k.setting k.graph at ≡ record { home = home.Root at; of = r.of; val = root_at k.graph at }
            stands = standing_is None (not_direct (type_at k.setting.table r.of) (root_at k.graph at) never)

            by : (vs : List Step) × AreFree (root_cell (standing_root k.setting k.graph at).home) done
                × Deferral k.setting k.graph (root_cell (standing_root k.setting k.graph at).home ++ done) (due_of k.setting.table (standing_root k.setting k.graph at) ++ due) vs
                × (us ≡ root_stands at ∷ vs) → Entering k due rest names u (home.Root at) name r.of
            by (vs, free, e, is) =
                let own : List Entry = home_due k (home.Root at) r.of in
                let later : List Entry = untested (flat_map (step_entries k.setting k.graph) vs) ++ rest in
                let after_names : Placed_cells = flat_map (step_names k.setting k.graph) vs ++ names in
                let entries_are : untested (flat_map (step_entries k.setting k.graph) us) ++ rest ≡ own ++ later =
                ap (λ ws. untested (flat_map (step_entries k.setting k.graph) ws) ++ rest) is
                ∙ ap (λ ms. ms ++ rest) (root_entries k.setting k.graph at vs
                ∙ ap (λ (y : Standing). untested (standing_entries k.setting.table y) ++ untested (flat_map (step_entries k.setting k.graph) vs)) stands)
                ∙ append_assoc own (untested (flat_map (step_entries k.setting k.graph) vs)) rest in
                let names_are : flat_map (step_names k.setting k.graph) us ++ names ≡ names_in own ++ after_names =
                ap (λ ws. flat_map (step_names k.setting k.graph) ws ++ names) is
                ∙ ap (λ (y : Standing). ((direct_names y.home ++ standing_names k.setting y) ++ flat_map (step_names k.setting k.graph) vs) ++ names) stands
                ∙ ap (λ ns. (ns ++ flat_map (step_names k.setting k.graph) vs) ++ names) (sym (home_names k.setting.table (home.Root at) r.of (root_at k.graph at)))
                ∙ append_assoc (names_in own) (flat_map (step_names k.setting k.graph) vs) names in
                record {
                  its = its;
                  later = later;
                  after_names = after_names;
                  tracing = subst (λ ms. IsTracing k u.progress ms) entries_are d.tracing;
                  naming = subst (λ ns. IsNaming k u.cells ns) names_are d.naming;
                  after = λ z tr passed.
                      stood k due rest names u z (home.Root at) r.of done vs []
                      (subst (λ (y : Standing). Deferral k.setting k.graph (root_cell y.home ++ done) (due_of k.setting.table y ++ due) vs) stands e) d.stand
                      (mine (record { home = home.Root at; of = r.of; val = root_at k.graph at }) stands) tt (ap reverse empty) tr passed;
                }

    -- the cell of a reference pointer is come to, and it is known where the pointer is
    abbrev Direct : Walker → CellId → TypeId → Type 0
    Direct w cell to = Entering k due rest names w (home.Cell cell) (named.Cell cell) to.0 × IsFrom k (home.Cell cell) (only_spot k Ref (home.Root at) 0)

    -- a root that is a reference pointer, where it is read: the cell that it names is the next
    pub direct_root : (u w : Walker) (to : TypeId) (cell : CellId) → type_at k.setting.table r.of ≡ Some (def.Pointer Ref to) → IsReady k u.progress
        → IsAwaiting k u (due_root at ∷ due) rest names → u.cells.pending.items ≡ [] → cell.0 ≡ min (u.cells.count + 1) (2 ^ 32 - 1) → w.cells.count ≡ cell.0
        → w.cells.numbers ≡ u.cells.numbers → w.cells.pending ≡ u.cells.pending → w.progress ≡ u.progress → stands_at w.cells.stands.items cell.0 ≡ true
        → ((d : ℕ) → (d ≡ cell.0 → ⊥) → stands_at w.cells.stands.items d ≡ stands_at u.cells.stands.items d)
        → Direct w cell to
    direct_root u w to cell type_of ready a empty next ec en eq ep set others = go (none_left k (due_root at ∷ due) rest names u a empty)
      where
        go : (done : Placed_cells) × (us : List Step) × IsDeferring k u done (due_root at ∷ due) us rest names → Direct w cell to
        go (done, us, d) = by_inverse (inverted k.setting k.graph d.deferral)
          where
            by_inverse : (vs : List Step) × AreFree (root_cell (standing_root k.setting k.graph at).home) done
                × Deferral k.setting k.graph (root_cell (standing_root k.setting k.graph at).home ++ done) (due_of k.setting.table (standing_root k.setting k.graph at) ++ due) vs
                × (us ≡ root_stands at ∷ vs) → Direct w cell to
            by_inverse (vs, free, e, is) = by_label (root_at k.graph at) refl
              where
                -- the entries and the names, by what stands for the root
                entries_by : (y : Standing) → standing_root k.setting k.graph at ≡ y
                    → IsTracing k u.progress (untested (standing_entries k.setting.table y) ++ (untested (flat_map (step_entries k.setting k.graph) vs) ++ rest))
                entries_by y stands =
                    subst (λ ms. IsTracing k u.progress ms)
                    (ap (λ ws. untested (flat_map (step_entries k.setting k.graph) ws) ++ rest) is
                    ∙ ap (λ ms. ms ++ rest) (root_entries k.setting k.graph at vs
                    ∙ ap (λ (z : Standing). untested (standing_entries k.setting.table z) ++ untested (flat_map (step_entries k.setting k.graph) vs)) stands)
                    ∙ append_assoc (untested (standing_entries k.setting.table y)) (untested (flat_map (step_entries k.setting k.graph) vs)) rest) d.tracing

                by_label : (v : Tree) → root_at k.graph at ≡ v → Direct w cell to
                by_label (node l ks) f = by_cell (direct_typed k s at r there to type_of l ks f)
                  where
                    by_cell : (l ≡ tree.Unread) ⊎ ((c : ℕ) × (l ≡ tree.Ptr (Some c)) × HasType k.graph c to.0) → Direct w cell to
                    by_cell (inl unread) =
                        let none : direct (type_at k.setting.table r.of) (root_at k.graph at) ≡ None =
                        ap₂ direct type_of (f ∙ ap (λ m. node m ks) unread) in
                        absurd (is_read k (home.Root at) r.of u.progress (untested (flat_map (step_entries k.setting k.graph) vs) ++ rest) l ks f ready
                        (entries_by (record { home = home.Root at; of = r.of; val = root_at k.graph at }) (standing_is None none)) unread)
                    by_cell (inr (c, pointer, typed)) =
                        let its_direct : direct (type_at k.setting.table r.of) (root_at k.graph at) ≡ Some (c, to.0) =
                        ap₂ direct type_of (f ∙ ap (λ m. node m ks) pointer) in
                        let x : Standing = record { home = cell_home c; of = to.0; val = cell_at k.graph c } in
                        let stands : standing_root k.setting k.graph at ≡ record { home = cell_home c; of = to.0; val = cell_at k.graph c } = standing_is (Some (c, to.0)) its_direct in
                        let after_names : Placed_cells = flat_map (step_names k.setting k.graph) vs ++ names in
                        let own : List Entry = home_due k (cell_home c) to.0 in
                        let names_are : flat_map (step_names k.setting k.graph) us ++ names ≡ (Ref, c) ∷ (names_in own ++ after_names) =
                        ap (λ ws. flat_map (step_names k.setting k.graph) ws ++ names) is
                        ∙ ap (λ (y : Standing). ((direct_names y.home ++ standing_names k.setting y) ++ flat_map (step_names k.setting k.graph) vs) ++ names) stands
                        ∙ ap (λ ns. (((Ref, c) ∷ ns) ++ flat_map (step_names k.setting k.graph) vs) ++ names) (sym (home_names k.setting.table (cell_home c) to.0 (cell_at k.graph c)))
                        ∙ ap (λ ns. (Ref, c) ∷ ns) (append_assoc (names_in own) (flat_map (step_names k.setting k.graph) vs) names) in
                        let named_next =
                        plain_named k u.cells w.cells Ref c cell.0 (names_in own ++ after_names) (λ z. cc) refl (subst (λ ns. IsNaming k u.cells ns) names_are d.naming) next ec en in
                        let same : cell.0 ≡ c = named_next.0 in
                        let its : Entering k due rest names w (cell_home c) (named.Cell (record { 0 = c })) to.0 =
                        record {
                          its = cell_has_home k s (record { 0 = c }) to.0 typed;
                          later = untested (flat_map (step_entries k.setting k.graph) vs) ++ rest;
                          after_names = after_names;
                          tracing =
                              subst (λ q. IsTracing k q (own ++ (untested (flat_map (step_entries k.setting k.graph) vs) ++ rest))) (sym ep)
                              (entries_by (record { home = cell_home c; of = to.0; val = cell_at k.graph c }) stands);
                          naming = named_next.1;
                          after = λ z tr passed.
                              stood k due rest names w z (cell_home c) to.0 ((Ref, c) ∷ done) vs []
                              (subst (λ (y : Standing). Deferral k.setting k.graph (root_cell y.home ++ done) (due_of k.setting.table y ++ due) vs) stands e)
                              (marked_more k due rest names u.cells.stands.items w.cells.stands.items c Ref done d.stand (ap (stands_at w.cells.stands.items) (sym same) ∙ set)
                              (λ m o. others m (λ h. o (h ∙ same)))) (mine (record { home = cell_home c; of = to.0; val = cell_at k.graph c }) stands)
                              tt (ap reverse (ap (λ q. q.items) eq ∙ empty)) tr passed;
                        } in
                        let own_pointer = root_pointer k.setting k.graph s.partial.all_roots at r there Ref to type_of c ks (f ∙ ap (λ m. node m ks) pointer) in
                        subst (λ (q : CellId). Direct w q to) (ap (λ n. record { 0 = n }) (sym same)) (its, from_pointer k s _ c own_pointer refl)

  -- a root that is no reference pointer, as the program gives it
  pub own_of : (s : IsPart k) (at : ℕ) (root : RootDef) (name : HomeName) (r : IsRoot k at root) → direct_of (type_at k.setting.table root.of.0) ≡ None → (u : Walker)
      → name_text name ≡ root.name.now → IsAwaiting k u (due_root at ∷ due) rest names → u.cells.pending.items ≡ [] → Entering k due rest names u (home.Root at) name root.of.0
  own_of s at root name r never u is a empty =
      subst (λ t. Entering k due rest names u (home.Root at) name t) r.of
      (own_root s at r.its r.there u name (ap (λ t. direct_of (type_at k.setting.table t)) r.of ∙ never) (root_has_home k s at r.its name r.there (is ∙ r.name)) a empty)
