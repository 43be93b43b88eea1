-- What is kept of a graph whose cells are renumbered is seen as that graph.
-- `numbers` are the new numbers of cells by the old ones, `os` octets, `ns` nodes, `fs` are nodes as they are seen, `s` is a span, `rs` are spans of roots, `cs` those of cells, `c` is
-- a cell's number.
use Rattle.std.proofs.Common.{◌≡◌, ℕ, ◌+◌, ◌-◌, ◌<◌, ◌≤◌, zero, suc, ℤ, List, [], ◌∷◌, ◌++◌, length, take, drop, map, get_or, Option, Some, refl, ap, ap₂, sym, ◌∙◌, subst, arith}
use Rattle.std.specs.List.{AllByRecursion}
use Rattle.std.proofs.lemmas.List.{length-map, map-append}
use Rattle.nd_value.specs.declared.value.Graph.{Graph}
use Rattle.nd_value.specs.Tree as tree
use Rattle.nd_value.specs.Tree.{Tree, Trees, Label, Flat, Referent, node, none, more, count, flat, unflat, take_trees, drop_trees}
use Rattle.nd_value.specs.Names.{AreThere}
use Rattle.nd_value.specs.Canon.{renumbered, renumbered_label}
use Rattle.nd_value.specs.Setting.{cell_tree, cell_of_number}
use Rattle.nd_base.specs.declared.octets.Order.{Order}
use Rattle.nd_types.specs.declared.types.Primitive.{Primitive}
use Rattle.nd_types.specs.Table.{width}
use Rattle.nd_types.specs.Number.{value_of_octets}
use Rattle.nd_flat.specs.Records.{place, stride, member_flats, records_flats, members_of}
use Rattle.nd_flat.specs.declared.node.Node.{Node}
use Rattle.nd_flat.specs.declared.node.Node.TheVariants as kept
use Rattle.nd_flat.specs.declared.flat.Span.{Span}
use Rattle.nd_flat.specs.declared.flat.CellSpan.{CellSpan}
use Rattle.nd_flat.specs.Forest.{first_tree, tree_in, IsWhole}
use Rattle.nd_flat.specs.FlatForm.{seen_nodes, flats, num_flats, HasOctets, HaveOctets}
use Rattle.nd_flat.specs.Building.{referent_type}
use Rattle.nd_flat.specs.Store.{span_nodes, span_flats, span_tree, span_cell, seen_graph, IsHome, IsKept, no_cell}
use Rattle.nd_flat.specs.Renumbered.{renumbered_tree, renumbered_cell, renumbered_graph}
use Rattle.nd_flat.specs.RenumberedNodes.{renumbered_node, cell_span}
use Rattle.nd_flat.proofs.Frames.{all_get, get_map}

-- ## Trees

module _ (m : ℕ → ℕ) where
  -- a node as it is seen
  abbrev renumbered_flat : Flat → Flat
  renumbered_flat f = (renumbered_label m f.0, f.1)

  count_same : (ts : Trees) → count (renumbered m ts) ≡ count ts
  count_same none = refl
  count_same (more (node l ks) ts) = ap suc (count_same ts)

  flat_renumbered : (ts : Trees) → flat (renumbered m ts) ≡ map renumbered_flat (flat ts)
  flat_renumbered none = refl
  flat_renumbered (more (node l ks) ts) =
      ap₂ (λ k fs. (renumbered_label m l, k) ∷ fs) (count_same ks)
      (ap₂ (λ a b. a ++ b) (flat_renumbered ks) (flat_renumbered ts) ∙ sym (map-append renumbered_flat (flat ks) (flat ts)))

  take_renumbered : (k : ℕ) (ts : Trees) → take_trees k (renumbered m ts) ≡ renumbered m (take_trees k ts)
  take_renumbered zero ts = refl
  take_renumbered (suc k) none = refl
  take_renumbered (suc k) (more (node l ks) ts) = ap (more (node (renumbered_label m l) (renumbered m ks))) (take_renumbered k ts)

  drop_renumbered : (k : ℕ) (ts : Trees) → drop_trees k (renumbered m ts) ≡ renumbered m (drop_trees k ts)
  drop_renumbered zero ts = refl
  drop_renumbered (suc k) none = refl
  drop_renumbered (suc k) (more (node l ks) ts) = drop_renumbered k ts

  unflat_renumbered : (fs : List Flat) → unflat (map renumbered_flat fs) ≡ renumbered m (unflat fs)
  unflat_renumbered [] = refl
  unflat_renumbered (f ∷ fs) =
      let l : Label = renumbered_label m f.0 in
      ap (λ us. more (node l (take_trees f.1 us)) (drop_trees f.1 us)) (unflat_renumbered fs)
      ∙ ap₂ (λ us vs. more (node l us) vs) (take_renumbered f.1 (unflat fs)) (drop_renumbered f.1 (unflat fs))

  first_renumbered : (ts : Trees) → first_tree (renumbered m ts) ≡ renumbered_tree m (first_tree ts)
  first_renumbered none = refl
  first_renumbered (more (node l ks) ts) = refl

  tree_renumbered : (fs : List Flat) → tree_in (map renumbered_flat fs) ≡ renumbered_tree m (tree_in fs)
  tree_renumbered fs = ap first_tree (unflat_renumbered fs) ∙ first_renumbered (unflat fs)

  one_renumbered : (t : Tree) → renumbered m (more t none) ≡ more (renumbered_tree m t) none
  one_renumbered (node l ks) = refl

  whole_renumbered : (fs : List Flat) → IsWhole fs → IsWhole (map renumbered_flat fs)
  whole_renumbered fs e =
      ap (map renumbered_flat) e ∙ sym (flat_renumbered (more (tree_in fs) none)) ∙ ap flat (one_renumbered (tree_in fs))
      ∙ ap (λ t. flat (more t none)) (sym (tree_renumbered fs))

  numbers_still : (zs : List ℤ) → num_flats zs ≡ map renumbered_flat (num_flats zs)
  numbers_still [] = refl
  numbers_still (z ∷ zs) = ap (λ fs. (tree.Num z, 0) ∷ fs) (numbers_still zs)

  members_still : (o : Order) (at : ℕ) (ps : List Primitive) (xs : List ℕ) → member_flats o at ps xs ≡ map renumbered_flat (member_flats o at ps xs)
  members_still o at [] xs = refl
  members_still o at (p ∷ ps) xs =
      ap (λ fs. (tree.Num (value_of_octets o p (take (width p) (drop (place at p) xs))), 0) ∷ fs) (members_still o (place at p + width p) ps xs)

  records_still : (o : Order) (ps : List Primitive) (n : ℕ) (xs : List ℕ) → records_flats o ps n xs ≡ map renumbered_flat (records_flats o ps n xs)
  records_still o ps zero xs = refl
  records_still o ps (suc n) xs =
      ap (λ fs. (tree.Rec, length ps) ∷ fs)
      (ap₂ (λ a b. a ++ b) (members_still o 0 ps xs) (records_still o ps n (drop (stride ps) xs))
      ∙ sym (map-append renumbered_flat (member_flats o 0 ps xs) (records_flats o ps n (drop (stride ps) xs))))

take_map : {A B : Type 0} (f : A → B) (k : ℕ) (xs : List A) → take k (map f xs) ≡ map f (take k xs)
take_map f zero xs = refl
take_map f (suc k) [] = refl
take_map f (suc k) (x ∷ xs) = ap (λ ys. f x ∷ ys) (take_map f k xs)

drop_map : {A B : Type 0} (f : A → B) (k : ℕ) (xs : List A) → drop k (map f xs) ≡ map f (drop k xs)
drop_map f zero xs = refl
drop_map f (suc k) [] = refl
drop_map f (suc k) (x ∷ xs) = drop_map f k xs

-- ## Nodes as they are kept

module _ (numbers os : List ℕ) where
  abbrev m : ℕ → ℕ
  m c = get_or numbers c 0

  node_seen : (n : Node) → seen_nodes os (renumbered_node numbers n) ≡ map (renumbered_flat m) (seen_nodes os n)
  node_seen (kept.Num z) = refl
  node_seen (kept.Negative z) = refl
  node_seen (kept.Rec k) = refl
  node_seen (kept.Arr max offset k) = refl
  node_seen (kept.Text max len from) = refl
  node_seen (kept.ShortText max len short) = refl
  node_seen (kept.Tag tag armed) = refl
  node_seen (kept.NegativeTag tag armed) = refl
  node_seen kept.Null = refl
  node_seen (kept.Ptr cell) = refl
  node_seen (kept.Context attributes id) = refl
  node_seen (kept.Pipe k) = refl
  node_seen (kept.Row r) = numbers_still m _
  node_seen (kept.Records o ms n from) = records_still m o (members_of ms) n (drop from os)

  nodes_seen : (ns : List Node) → flats os (map (renumbered_node numbers) ns) ≡ map (renumbered_flat m) (flats os ns)
  nodes_seen [] = refl
  nodes_seen (n ∷ ns) = ap₂ (λ a b. a ++ b) (node_seen n) (nodes_seen ns) ∙ sym (map-append (renumbered_flat m) (seen_nodes os n) (flats os ns))

  node_texts : (n : Node) → HasOctets os n → HasOctets os (renumbered_node numbers n)
  node_texts (kept.Num z) h = tt
  node_texts (kept.Negative z) h = tt
  node_texts (kept.Rec k) h = tt
  node_texts (kept.Arr max offset k) h = tt
  node_texts (kept.Text max len from) h = h
  node_texts (kept.ShortText max len short) h = h
  node_texts (kept.Tag tag armed) h = tt
  node_texts (kept.NegativeTag tag armed) h = tt
  node_texts kept.Null h = tt
  node_texts (kept.Ptr cell) h = tt
  node_texts (kept.Context attributes id) h = tt
  node_texts (kept.Pipe k) h = tt
  node_texts (kept.Row r) h = h
  node_texts (kept.Records o ms n from) h = h

  texts : (ns : List Node) → HaveOctets os ns → HaveOctets os (map (renumbered_node numbers) ns)
  texts [] h = tt
  texts (n ∷ ns) h = (node_texts n h.0, texts ns h.1)

  module _ (ns : List Node) where
    abbrev ns' : List Node
    ns' = map (renumbered_node numbers) ns

    span_seen : (s : Span) → span_flats os ns' s ≡ map (renumbered_flat m) (span_flats os ns s)
    span_seen s =
        ap (flats os) (ap (take s.len) (drop_map (renumbered_node numbers) s.from ns) ∙ take_map (renumbered_node numbers) s.len (drop s.from ns))
        ∙ nodes_seen (span_nodes ns s)

    tree_seen : (s : Span) → span_tree os ns' s ≡ renumbered_tree m (span_tree os ns s)
    tree_seen s = ap tree_in (span_seen s) ∙ tree_renumbered m (span_flats os ns s)

    home_kept : (s : Span) → IsHome os ns s → IsHome os ns' s
    home_kept s h = record {
      within = subst (λ n. s.from + s.len ≤ n) (sym (length-map ns (renumbered_node numbers))) h.within;
      whole = subst IsWhole (sym (span_seen s)) (whole_renumbered m (span_flats os ns s) h.whole);
    }

    roots_kept : (rs : List Span) → AllByRecursion (IsHome os ns) rs → AllByRecursion (IsHome os ns') rs
    roots_kept [] h = tt
    roots_kept (s ∷ rs) h = (home_kept s h.0, roots_kept rs h.1)

    roots_seen : (rs : List Span) → map (span_tree os ns') rs ≡ map (renumbered_tree m) (map (span_tree os ns) rs)
    roots_seen [] = refl
    roots_seen (s ∷ rs) = ap₂ (λ (t : Tree) (ts : List Tree). t ∷ ts) (tree_seen s) (roots_seen rs)

    module _ (cs : List CellSpan) where
      home_of : (c : ℕ) → 0 < c → c ≤ length cs → AllByRecursion (λ c. IsHome os ns c.span) cs → IsHome os ns' (cell_span cs c).span
      home_of c lo hi h = home_kept (cell_span cs c).span (all_get (λ c. IsHome os ns c.span) cs (c - 1) no_cell h (omega (arith, lo, hi)))

      cells_kept : (cells : List ℕ) → AreThere (length cs) cells → AllByRecursion (λ c. IsHome os ns c.span) cs
          → AllByRecursion (λ c. IsHome os ns' c.span) (map (cell_span cs) cells)
      cells_kept [] t h = tt
      cells_kept (c ∷ cells) t h = (home_of c t.0.0 t.0.1 h, cells_kept cells t.1 h)

      module _ (rs : List Span) where
        abbrev g : Graph
        g = seen_graph os ns rs cs

        old_cell : (c : ℕ) → 0 < c → c ≤ length cs → cell_of_number g c ≡ Some (span_cell os ns (cell_span cs c))
        old_cell zero lo hi = absurd (omega (arith, lo))
        old_cell (suc i) lo hi =
            let e : i ≡ suc i - 1 = omega arith in
            get_map (span_cell os ns) cs i no_cell (omega (arith, hi)) ∙ ap (λ k. Some (span_cell os ns (get_or cs k no_cell))) e

        cell_seen : (c : ℕ) → 0 < c → c ≤ length cs → span_cell os ns' (cell_span cs c) ≡ renumbered_cell m g c
        cell_seen c lo hi =
            let e : cell_of_number g c ≡ Some (span_cell os ns (cell_span cs c)) = old_cell c lo hi in
            let v : Tree = span_tree os ns (cell_span cs c).span in
            ap (λ (t : Tree). record { of = (cell_span cs c).of.0; val = t }) (tree_seen (cell_span cs c).span)
            ∙ sym (ap₂ (λ (a : Option Referent) (b : Tree). record { of = referent_type a; val = renumbered_tree m b }) e (ap cell_tree e))

        cells_seen : (cells : List ℕ) → AreThere (length cs) cells → map (span_cell os ns') (map (cell_span cs) cells) ≡ map (renumbered_cell m g) cells
        cells_seen [] t = refl
        cells_seen (c ∷ cells) t = ap₂ (λ (x : Referent) (xs : List Referent). x ∷ xs) (cell_seen c t.0.0 t.0.1) (cells_seen cells t.1)

        there_of : (cells : List ℕ) → AreThere (length g.cells) cells → AreThere (length cs) cells
        there_of cells t = subst (λ n. AreThere n cells) (length-map cs (span_cell os ns)) t

        pub graph_seen : (cells : List ℕ) → AreThere (length g.cells) cells → seen_graph os ns' rs (map (cell_span cs) cells) ≡ renumbered_graph numbers cells g
        graph_seen cells t =
            ap₂ (λ (a : List Tree) (b : List Referent). record { roots = a; cells = b }) (roots_seen rs) (cells_seen cells (there_of cells t))

        pub graph_kept : (cells : List ℕ) → AreThere (length g.cells) cells → IsKept os ns rs cs → IsKept os ns' rs (map (cell_span cs) cells)
        graph_kept cells t k = record {
          texts = texts ns k.texts;
          roots = roots_kept rs k.roots;
          cells = cells_kept cells (there_of cells t) k.cells;
        }

-- the same as code has it
pub kept_as : (numbers os ps : List ℕ) (ns ms : List Node) (rs ss : List Span) (cs ds : List CellSpan) (cells : List ℕ)
    → ps ≡ os → ms ≡ map (renumbered_node numbers) ns → ss ≡ rs → ds ≡ map (cell_span cs) cells → AreThere (length (seen_graph os ns rs cs).cells) cells
    → IsKept os ns rs cs → IsKept ps ms ss ds
kept_as numbers os ps ns ms rs ss cs ds cells a b c d t k =
    subst (λ (x : List ℕ). IsKept x ms ss ds) (sym a)
    (subst (λ (x : List Node). IsKept os x ss ds) (sym b)
    (subst (λ (x : List Span). IsKept os (map (renumbered_node numbers) ns) x ds) (sym c)
    (subst (λ (x : List CellSpan). IsKept os (map (renumbered_node numbers) ns) rs x) (sym d) (graph_kept numbers os ns cs rs cells t k))))

pub seen_as : (numbers os ps : List ℕ) (ns ms : List Node) (rs ss : List Span) (cs ds : List CellSpan) (cells : List ℕ)
    → ps ≡ os → ms ≡ map (renumbered_node numbers) ns → ss ≡ rs → ds ≡ map (cell_span cs) cells → AreThere (length (seen_graph os ns rs cs).cells) cells
    → seen_graph ps ms ss ds ≡ renumbered_graph numbers cells (seen_graph os ns rs cs)
seen_as numbers os ps ns ms rs ss cs ds cells a b c d t =
    ap₂ (λ (x : List ℕ) (y : List Node). seen_graph x y ss ds) a b
    ∙ ap₂ (λ (x : List Span) (y : List CellSpan). seen_graph os (map (renumbered_node numbers) ns) x y) c d
    ∙ graph_seen numbers os ns cs rs cells t
