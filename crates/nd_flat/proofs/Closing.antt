-- The home that was open, closed: what the spans say then.
-- `os` are octets, `ns` nodes, `from` is where the open home starts, `a` which it is, `rs` are the spans of roots, `cs` those of cells.
use Rattle.std.proofs.Common.{◌≡◌, inl, inr, ℕ, ◌-◌, ◌<◌, ◌≤◌, zero, suc, List, [], ◌∷◌, ◌++◌, length, drop, map, set, Option, Some, refl, ap, ap₂, sym, ◌∙◌, subst, arith, length-append}
use Rattle.std.specs.List.{AllByRecursion}
use Rattle.std.specs.Prelude.{Result, Ok, Err, OnErr}
use Rattle.std.proofs.lemmas.List.{append-nil, map-append, map-set, set-append_left, take_rest, drop_all, drop-append-le, length-map}
use Rattle.nd_types.specs.declared.interface.Interface.{Interface}
use Rattle.nd_types.specs.declared.types.Side.{Side}
use Rattle.nd_value.specs.declared.value.Graph.{Graph}
use Rattle.nd_value.specs.declared.item.Home.TheVariants as home
use Rattle.nd_value.specs.Setting.{unread, cell_home, set_nth}
use Rattle.nd_value.specs.Tree.{Flat}
use Rattle.nd_flat.specs.declared.node.Node.{Node}
use Rattle.nd_flat.specs.declared.flat.Span.{Span}
use Rattle.nd_flat.specs.declared.flat.CellSpan.{CellSpan}
use Rattle.nd_flat.specs.declared.builder.OpenHome.{OpenHome}
use Rattle.nd_flat.specs.declared.builder.OpenHome.TheVariants as at
use Rattle.nd_flat.specs.Forest.{tree_in, IsWhole}
use Rattle.nd_flat.specs.FlatForm.{seen_nodes, flats, HasOctets}
use Rattle.nd_flat.specs.Building.{Building, put, closed, opened, with_root, with_nodes, CanCloseAt, fitting, HasNoUnread}
use Rattle.nd_flat.specs.Store.{no_span, span_flats, span_tree, span_cell, seen_graph, seen_builder, home_of, IsSound, IsBuilt, IsPlace, closed_roots, closed_cells, set_span, IsKept}
use Rattle.nd_value.specs.Conforms.{Conforms}
use Rattle.nd_value.specs.Fitting.{Fitting, IsFit, setting_beside}
use Rattle.nd_flat.proofs.RowLaws.{flats-append}
use Rattle.nd_flat.proofs.NoUnread.{kept_if_conforms, kept_if_no_unread}
use Rattle.nd_flat.proofs.Frames.{all_as, all_both, Keeps, keeps_same, keeps_more, kept_roots, kept_cells, kept_sound, map_grow, text_grow, all_drop}

-- the span of the nodes from a place on
abbrev pub last_span : List Node → ℕ → Span
last_span ns from = record { from = from; len = length ns - from }

last_flats : (os : List ℕ) (ns : List Node) (from : ℕ) → span_flats os ns (last_span ns from) ≡ flats os (drop from ns)
last_flats os ns from = ap (flats os) (take_rest ns from)

cells_set : (os : List ℕ) (ns : List Node) (cs : List CellSpan) (i : ℕ) (s : Span)
    → map (span_cell os ns) (set_span i s cs) ≡ set_nth i (span_tree os ns s) (map (span_cell os ns) cs)
cells_set os ns [] zero s = refl
cells_set os ns [] (suc i) s = refl
cells_set os ns (c ∷ cs) zero s = refl
cells_set os ns (c ∷ cs) (suc i) s = ap (λ xs. span_cell os ns c ∷ xs) (cells_set os ns cs i s)

-- the graph once the open home is closed
pub closed_graph : (os : List ℕ) (ns : List Node) (from : ℕ) (rs : List Span) (cs : List CellSpan) (a : OpenHome)
    → seen_graph os ns (closed_roots a (last_span ns from) rs) (closed_cells a (last_span ns from) cs)
    ≡ put (home_of a) (tree_in (flats os (drop from ns))) (seen_graph os ns rs cs)
closed_graph os ns from rs cs at.NoHome = refl
closed_graph os ns from rs cs (at.Root i) =
    ap (λ ts. let g : Graph = record { roots = ts; cells = map (span_cell os ns) cs } in g)
    (map-set (span_tree os ns) rs i (last_span ns from) ∙ ap (λ fs. set (map (span_tree os ns) rs) i (tree_in fs)) (last_flats os ns from))
closed_graph os ns from rs cs (at.Cell i) =
    ap (λ xs. let g : Graph = record { roots = map (span_tree os ns) rs; cells = xs } in g)
    (cells_set os ns cs i (last_span ns from) ∙ ap (λ fs. set_nth i (tree_in fs) (map (span_cell os ns) cs)) (last_flats os ns from))

all_set : {A : Type 0} (P : A → Type 0) (xs : List A) (i : ℕ) (y : A) → AllByRecursion P xs → P y → AllByRecursion P (set xs i y)
all_set P [] zero y h p = tt
all_set P [] (suc i) y h p = tt
all_set P (x ∷ xs) zero y h p = (p, h.1)
all_set P (x ∷ xs) (suc i) y h p = (h.0, all_set P xs i y h.1 p)

all_set_span : (P : Span → Type 0) (cs : List CellSpan) (i : ℕ) (s : Span) → AllByRecursion (λ c. P c.span) cs → P s → AllByRecursion (λ c. P c.span) (set_span i s cs)
all_set_span P [] zero s h p = tt
all_set_span P [] (suc i) s h p = tt
all_set_span P (c ∷ cs) zero s h p = (p, h.1)
all_set_span P (c ∷ cs) (suc i) s h p = (h.0, all_set_span P cs i s h.1 p)

pub empty_sound : (os : List ℕ) (ns : List Node) (to : ℕ) → IsSound os ns to no_span
empty_sound os ns to = record { within = omega arith; sound = inl refl }

-- the last span is sound where nothing is missing
last_sound : (os : List ℕ) (ns : List Node) (from : ℕ) → from ≤ length ns → IsWhole (flats os (drop from ns)) → IsSound os ns (length ns) (last_span ns from)
last_sound os ns from le w = record { within = omega arith; sound = inr (subst IsWhole (sym (last_flats os ns from)) w) }

module _ (os : List ℕ) (ns : List Node) (from : ℕ) (le : from ≤ length ns) where
  later_roots : (rs : List Span) → AllByRecursion (IsSound os ns from) rs → AllByRecursion (IsSound os ns (length ns)) rs
  later_roots rs h = all_as (IsSound os ns from) (IsSound os ns (length ns)) rs (kept_sound os ns os ns from (keeps_same os ns from) (length ns) le) h

  later_cells : (cs : List CellSpan) → AllByRecursion (λ c. IsSound os ns from c.span) cs → AllByRecursion (λ c. IsSound os ns (length ns) c.span) cs
  later_cells cs h =
      all_as (λ c. IsSound os ns from c.span) (λ c. IsSound os ns (length ns) c.span) cs
      (λ c. kept_sound os ns os ns from (keeps_same os ns from) (length ns) le c.span) h

  pub closed_sound_roots : (rs : List Span) (a : OpenHome) → CanCloseAt (home_of a) (flats os (drop from ns)) → AllByRecursion (IsSound os ns from) rs
      → AllByRecursion (IsSound os ns (length ns)) (closed_roots a (last_span ns from) rs)
  closed_sound_roots rs at.NoHome w h = later_roots rs h
  closed_sound_roots rs (at.Root i) w h = all_set (IsSound os ns (length ns)) rs i (last_span ns from) (later_roots rs h) (last_sound os ns from le w)
  closed_sound_roots rs (at.Cell i) w h = later_roots rs h

  pub closed_sound_cells : (cs : List CellSpan) (a : OpenHome) → CanCloseAt (home_of a) (flats os (drop from ns)) → AllByRecursion (λ c. IsSound os ns from c.span) cs
      → AllByRecursion (λ c. IsSound os ns (length ns) c.span) (closed_cells a (last_span ns from) cs)
  closed_sound_cells cs at.NoHome w h = later_cells cs h
  closed_sound_cells cs (at.Root i) w h = later_cells cs h
  closed_sound_cells cs (at.Cell i) w h = all_set_span (IsSound os ns (length ns)) cs i (last_span ns from) (later_cells cs h) (last_sound os ns from le w)

length_set_span : (cs : List CellSpan) (i : ℕ) (s : Span) → length (set_span i s cs) ≡ length cs
length_set_span [] zero s = refl
length_set_span [] (suc i) s = refl
length_set_span (c ∷ cs) zero s = refl
length_set_span (c ∷ cs) (suc i) s = ap suc (length_set_span cs i s)

pub closed_count : (cs : List CellSpan) (a : OpenHome) (s : Span) → length (closed_cells a s cs) ≡ length cs
closed_count cs at.NoHome s = refl
closed_count cs (at.Root i) s = refl
closed_count cs (at.Cell i) s = length_set_span cs i s

-- A root more is put after the others before the open home is closed.
root_after : (rs : List Span) (cs : List CellSpan) (a : OpenHome) (s e : Span) → IsPlace rs cs a → closed_roots a s (rs ++ e ∷ []) ≡ closed_roots a s rs ++ e ∷ []
root_after rs cs at.NoHome s e h = refl
root_after rs cs (at.Root i) s e h = set-append_left rs (e ∷ []) i s h
root_after rs cs (at.Cell i) s e h = refl

pub count_set : {A : Type 0} (xs : List A) (i : ℕ) (y : A) → length (set xs i y) ≡ length xs
count_set [] zero y = refl
count_set [] (suc i) y = refl
count_set (x ∷ xs) zero y = refl
count_set (x ∷ xs) (suc i) y = ap suc (count_set xs i y)

count_closed_roots : (rs : List Span) (a : OpenHome) (s : Span) → length (closed_roots a s rs) ≡ length rs
count_closed_roots rs at.NoHome s = refl
count_closed_roots rs (at.Root i) s = count_set rs i s
count_closed_roots rs (at.Cell i) s = refl

module _ (os : List ℕ) (ns : List Node) (from : ℕ) (rs : List Span) (cs : List CellSpan) (a : OpenHome) (op : ℕ) (side : Side) (i : Interface) (q : Option Graph) (h : IsBuilt os ns from rs cs a) where
  abbrev seen : Building
  seen = seen_builder os ns from rs cs a op side i q

  no_nodes : flats os (drop (length ns) ns) ≡ []
  no_nodes = ap (flats os) (drop_all (length ns) ns (omega arith))

  abbrev mk : Graph → List Flat → OpenHome → Building
  mk g fs b = record { graph = g; home = home_of b; nodes = fs; op = op; side = side; interface = i; given = q }

  -- a root is opened
  pub root_seen : seen_builder os ns (length ns) (closed_roots a (last_span ns from) (rs ++ no_span ∷ [])) (closed_cells a (last_span ns from) cs) (at.Root (length rs)) op side i q
      ≡ opened (home.Root (length seen.graph.roots)) (with_root (closed seen)) seen
  root_seen =
      let g : Graph = seen_graph os ns (closed_roots a (last_span ns from) rs) (closed_cells a (last_span ns from) cs) in
      let roots : map (span_tree os ns) (closed_roots a (last_span ns from) (rs ++ no_span ∷ [])) ≡ g.roots ++ unread ∷ [] =
      ap (map (span_tree os ns)) (root_after rs cs a (last_span ns from) no_span h.place)
      ∙ map-append (span_tree os ns) (closed_roots a (last_span ns from) rs) (no_span ∷ []) in
      let graph : seen_graph os ns (closed_roots a (last_span ns from) (rs ++ no_span ∷ [])) (closed_cells a (last_span ns from) cs) ≡ with_root (closed seen) =
      ap (λ ts. let x : Graph = record { roots = ts; cells = g.cells } in x) roots ∙ ap with_root (closed_graph os ns from rs cs a) in
      let m : List Flat → Graph → ℕ → Building = λ fs x n. record { graph = x; home = Some (home.Root n); nodes = fs; op = op; side = side; interface = i; given = q } in
      ap₂ (λ x fs. m fs x (length rs)) graph no_nodes ∙ ap (m [] (with_root (closed seen))) (sym (length-map rs (span_tree os ns)))

  pub root_built : CanCloseAt (home_of a) (flats os (drop from ns))
      → IsBuilt os ns (length ns) (closed_roots a (last_span ns from) (rs ++ no_span ∷ [])) (closed_cells a (last_span ns from) cs) (at.Root (length rs))
  root_built w = record {
    texts = h.texts;
    start = omega arith;
    roots =
        subst (AllByRecursion (IsSound os ns (length ns))) (sym (root_after rs cs a (last_span ns from) no_span h.place))
        (all_both (IsSound os ns (length ns)) (closed_roots a (last_span ns from) rs) (no_span ∷ [])
        (closed_sound_roots os ns from h.start rs a w h.roots) (empty_sound os ns (length ns), tt));
    cells = closed_sound_cells os ns from h.start cs a w h.cells;
    place =
        let e : length (closed_roots a (last_span ns from) (rs ++ no_span ∷ [])) ≡ length (rs ++ no_span ∷ []) = count_closed_roots (rs ++ no_span ∷ []) a (last_span ns from) in
        omega (arith, e, length-append rs (no_span ∷ []));
  }

  -- a cell is opened
  pub fill_seen : (c : ℕ) → seen_builder os ns (length ns) (closed_roots a (last_span ns from) rs) (closed_cells a (last_span ns from) cs) (at.Cell c) op side i q
      ≡ opened (cell_home (suc c)) (closed seen) seen
  fill_seen c = ap₂ (λ g fs. mk g fs (at.Cell c)) (closed_graph os ns from rs cs a) no_nodes

  pub fill_built : (c : ℕ) → c < length cs → CanCloseAt (home_of a) (flats os (drop from ns))
      → IsBuilt os ns (length ns) (closed_roots a (last_span ns from) rs) (closed_cells a (last_span ns from) cs) (at.Cell c)
  fill_built c lt w = record {
    texts = h.texts;
    start = omega arith;
    roots = closed_sound_roots os ns from h.start rs a w h.roots;
    cells = closed_sound_cells os ns from h.start cs a w h.cells;
    place = let e : length (closed_cells a (last_span ns from) cs) ≡ length cs = closed_count cs a (last_span ns from) in omega (arith, e, lt);
  }

  -- a node more
  pub add_seen : (ps : List ℕ) (n : Node) (gs : List Flat) → seen_nodes (os ++ ps) n ≡ gs
      → seen_builder (os ++ ps) (ns ++ n ∷ []) from rs cs a op side i q ≡ with_nodes (seen.nodes ++ gs) seen
  add_seen ps n gs e =
      let k : Keeps os ns (os ++ ps) (ns ++ n ∷ []) from = keeps_more os ps ns (n ∷ []) from h.texts h.start in
      let graph : seen_graph (os ++ ps) (ns ++ n ∷ []) rs cs ≡ seen.graph =
      ap₂ (λ ts xs. let g : Graph = record { roots = ts; cells = xs } in g) (kept_roots os ns (os ++ ps) (ns ++ n ∷ []) from k rs h.roots)
      (kept_cells os ns (os ++ ps) (ns ++ n ∷ []) from k cs h.cells) in
      let nodes : flats (os ++ ps) (drop from (ns ++ n ∷ [])) ≡ seen.nodes ++ gs =
      ap (flats (os ++ ps)) (drop-append-le from ns (n ∷ []) h.start) ∙ flats-append (os ++ ps) (drop from ns) (n ∷ [])
      ∙ ap₂ (λ fs x. fs ++ x) (map_grow os ps (drop from ns) (all_drop (HasOctets os) from ns h.texts)) (append-nil (seen_nodes (os ++ ps) n) ∙ e) in
      ap₂ (λ g fs. mk g fs a) graph nodes

  pub add_built : (ps : List ℕ) (n : Node) → HasOctets (os ++ ps) n → IsBuilt (os ++ ps) (ns ++ n ∷ []) from rs cs a
  add_built ps n t =
      let k : Keeps os ns (os ++ ps) (ns ++ n ∷ []) from = keeps_more os ps ns (n ∷ []) from h.texts h.start in
      record {
        texts = all_both (HasOctets (os ++ ps)) ns (n ∷ []) (all_as (HasOctets os) (HasOctets (os ++ ps)) ns (text_grow os ps) h.texts) (t, tt);
        start = let s : from ≤ length ns = h.start in omega (arith, s, length-append ns (n ∷ []));
        roots = all_as (IsSound os ns from) (IsSound (os ++ ps) (ns ++ n ∷ []) from) rs (kept_sound os ns (os ++ ps) (ns ++ n ∷ []) from k from (omega arith)) h.roots;
        cells =
            all_as (λ c. IsSound os ns from c.span) (λ c. IsSound (os ++ ps) (ns ++ n ∷ []) from c.span) cs
            (λ c. kept_sound os ns (os ++ ps) (ns ++ n ∷ []) from k from (omega arith) c.span) h.cells;
        place = h.place;
      }

  -- octets more alone
  nothing_more : ns ++ [] ≡ ns
  nothing_more = append-nil ns

  pub grown_seen : (ps : List ℕ) → seen_builder (os ++ ps) ns from rs cs a op side i q ≡ seen
  grown_seen ps =
      let k : Keeps os ns (os ++ ps) (ns ++ []) from = keeps_more os ps ns [] from h.texts h.start in
      let k' : Keeps os ns (os ++ ps) ns from = subst (λ ms. Keeps os ns (os ++ ps) ms from) nothing_more k in
      let graph : seen_graph (os ++ ps) ns rs cs ≡ seen.graph =
      ap₂ (λ ts xs. let g : Graph = record { roots = ts; cells = xs } in g) (kept_roots os ns (os ++ ps) ns from k' rs h.roots)
      (kept_cells os ns (os ++ ps) ns from k' cs h.cells) in
      ap₂ (λ g fs. mk g fs a) graph (map_grow os ps (drop from ns) (all_drop (HasOctets os) from ns h.texts))

  pub grown_built : (ps : List ℕ) → IsBuilt (os ++ ps) ns from rs cs a
  grown_built ps =
      let k : Keeps os ns (os ++ ps) (ns ++ []) from = keeps_more os ps ns [] from h.texts h.start in
      let k' : Keeps os ns (os ++ ps) ns from = subst (λ ms. Keeps os ns (os ++ ps) ms from) nothing_more k in
      record {
        texts = all_as (HasOctets os) (HasOctets (os ++ ps)) ns (text_grow os ps) h.texts;
        start = h.start;
        roots = all_as (IsSound os ns from) (IsSound (os ++ ps) ns from) rs (kept_sound os ns (os ++ ps) ns from k' from (omega arith)) h.roots;
        cells = all_as (λ c. IsSound os ns from c.span) (λ c. IsSound (os ++ ps) ns from c.span) cs (λ c. kept_sound os ns (os ++ ps) ns from k' from (omega arith) c.span) h.cells;
        place = h.place;
      }

  -- the same as code has it
  pub root_built_as : (xs : List Node) (ys rs' : List Span) (cs' : List CellSpan) → xs ≡ ns → ys ≡ rs
      → rs' ≡ closed_roots a (last_span ns from) (rs ++ no_span ∷ []) → cs' ≡ closed_cells a (last_span ns from) cs
      → CanCloseAt (home_of a) seen.nodes → IsBuilt os ns (length xs) rs' cs' (at.Root (length ys))
  root_built_as xs ys rs' cs' e1 e2 e3 e4 w =
      subst (λ x. IsBuilt os ns (length x) rs' cs' (at.Root (length ys))) (sym e1)
      (subst (λ y. IsBuilt os ns (length ns) rs' cs' (at.Root (length y))) (sym e2)
      (subst (λ r. IsBuilt os ns (length ns) r cs' (at.Root (length rs))) (sym e3)
      (subst (λ z. IsBuilt os ns (length ns) (closed_roots a (last_span ns from) (rs ++ no_span ∷ [])) z (at.Root (length rs))) (sym e4) (root_built w))))

  pub root_seen_as : (xs : List Node) (ys rs' : List Span) (cs' : List CellSpan) → xs ≡ ns → ys ≡ rs
      → rs' ≡ closed_roots a (last_span ns from) (rs ++ no_span ∷ []) → cs' ≡ closed_cells a (last_span ns from) cs
      → seen_builder os ns (length xs) rs' cs' (at.Root (length ys)) op side i q
      ≡ opened (home.Root (length seen.graph.roots)) (with_root (closed seen)) seen
  root_seen_as xs ys rs' cs' e1 e2 e3 e4 =
      ap₂ (λ x y. seen_builder os ns (length x) rs' cs' (at.Root (length y)) op side i q) e1 e2
      ∙ ap₂ (λ r z. seen_builder os ns (length ns) r z (at.Root (length rs)) op side i q) e3 e4 ∙ root_seen

  pub fill_built_as : (xs : List Node) (rs' : List Span) (cs' : List CellSpan) (c : ℕ) → xs ≡ ns
      → rs' ≡ closed_roots a (last_span ns from) rs → cs' ≡ closed_cells a (last_span ns from) cs → 0 < c → c ≤ length seen.graph.cells
      → CanCloseAt (home_of a) seen.nodes → IsBuilt os ns (length xs) rs' cs' (at.Cell (c - 1))
  fill_built_as xs rs' cs' c e1 e3 e4 lo hi w =
      let lt : c - 1 < length cs = let n : length seen.graph.cells ≡ length cs = length-map cs (span_cell os ns) in omega (arith, n, lo, hi) in
      subst (λ x. IsBuilt os ns (length x) rs' cs' (at.Cell (c - 1))) (sym e1)
      (subst (λ r. IsBuilt os ns (length ns) r cs' (at.Cell (c - 1))) (sym e3)
      (subst (λ z. IsBuilt os ns (length ns) (closed_roots a (last_span ns from) rs) z (at.Cell (c - 1))) (sym e4) (fill_built (c - 1) lt w)))

  pub fill_seen_as : (xs : List Node) (rs' : List Span) (cs' : List CellSpan) (c : ℕ) → xs ≡ ns
      → rs' ≡ closed_roots a (last_span ns from) rs → cs' ≡ closed_cells a (last_span ns from) cs → 0 < c
      → seen_builder os ns (length xs) rs' cs' (at.Cell (c - 1)) op side i q ≡ opened (cell_home c) (closed seen) seen
  fill_seen_as xs rs' cs' c e1 e3 e4 lo =
      let n : suc (c - 1) ≡ c = omega (arith, lo) in
      ap (λ x. seen_builder os ns (length x) rs' cs' (at.Cell (c - 1)) op side i q) e1
      ∙ ap₂ (λ r z. seen_builder os ns (length ns) r z (at.Cell (c - 1)) op side i q) e3 e4 ∙ fill_seen (c - 1)
      ∙ ap (λ m. opened (cell_home m) (closed seen) seen) n

  -- the end
  pub finished : (rs' : List Span) (cs' : List CellSpan) → rs' ≡ closed_roots a (last_span ns from) rs → cs' ≡ closed_cells a (last_span ns from) cs
      → (let f : Fitting = record { graph = seen_graph os ns rs' cs'; op = op; side = side; interface = i; given = q } in f ≡ fitting seen)
  finished rs' cs' e3 e4 =
      let m : Graph → Fitting = λ g. record { graph = g; op = op; side = side; interface = i; given = q } in
      ap m (ap₂ (λ r z. seen_graph os ns r z) e3 e4 ∙ closed_graph os ns from rs cs a)

  pub finished_kept : (rs' : List Span) (cs' : List CellSpan) → rs' ≡ closed_roots a (last_span ns from) rs → cs' ≡ closed_cells a (last_span ns from) cs
      → CanCloseAt (home_of a) seen.nodes → IsFit (fitting seen) → IsKept os ns rs' cs'
  finished_kept rs' cs' e3 e4 w f =
      let r : List Span = closed_roots a (last_span ns from) rs in
      let z : List CellSpan = closed_cells a (last_span ns from) cs in
      let k : IsKept os ns r z =
      kept_if_conforms os ns r z (setting_beside i f.operation side q) h.texts (closed_sound_roots os ns from h.start rs a w h.roots)
      (closed_sound_cells os ns from h.start cs a w h.cells)
      (subst (λ g. Conforms (setting_beside i f.operation side q) g) (sym (closed_graph os ns from rs cs a)) f.conforms) in
      subst (λ x. IsKept os ns x cs') (sym e3) (subst (λ y. IsKept os ns r y) (sym e4) k)

  pub kept_graph : (rs' : List Span) (cs' : List CellSpan) → rs' ≡ closed_roots a (last_span ns from) rs → cs' ≡ closed_cells a (last_span ns from) cs
      → seen_graph os ns rs' cs' ≡ closed seen
  kept_graph rs' cs' e3 e4 = ap₂ (λ r z. seen_graph os ns r z) e3 e4 ∙ closed_graph os ns from rs cs a

  pub kept_read : (rs' : List Span) (cs' : List CellSpan) → rs' ≡ closed_roots a (last_span ns from) rs → cs' ≡ closed_cells a (last_span ns from) cs
      → CanCloseAt (home_of a) seen.nodes → HasNoUnread (closed seen) → IsKept os ns rs' cs'
  kept_read rs' cs' e3 e4 w f =
      let r : List Span = closed_roots a (last_span ns from) rs in
      let z : List CellSpan = closed_cells a (last_span ns from) cs in
      let k : IsKept os ns r z =
      kept_if_no_unread os ns r z h.texts (closed_sound_roots os ns from h.start rs a w h.roots)
      (closed_sound_cells os ns from h.start cs a w h.cells) (subst HasNoUnread (sym (closed_graph os ns from rs cs a)) f) in
      subst (λ x. IsKept os ns x cs') (sym e3) (subst (λ y. IsKept os ns r y) (sym e4) k)

-- what is known holds at an error too
pub when_err : {T E : Type 0} (r : Result T E) (P : Type 0) → P → OnErr r P
when_err (Ok x) P p = tt
when_err (Err e) P p = p
