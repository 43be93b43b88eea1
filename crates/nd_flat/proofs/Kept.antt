-- Walks over what is kept.
use Rattle.std.proofs.Common.{◌≡◌, ℕ, ◌+◌, ◌-◌, ◌<◌, ◌≤◌, zero, suc, List, length, take, drop, map, get_or, Some, ap, ap₂, sym, ◌∙◌, subst, arith}
use Rattle.std.specs.List.{AllByRecursion, slice_get}
use Rattle.std.proofs.lemmas.List.{length-map}
use Rattle.nd_value.specs.declared.item.Home.{Home}
use Rattle.nd_value.specs.declared.item.Home.TheVariants as home
use Rattle.nd_value.specs.Tree.{more, none, unflat}
use Rattle.nd_value.specs.Setting.{or_unread, cell_tree, cell_at, cell_home}
use Rattle.nd_value.specs.declared.value.Graph.{Graph}
use Rattle.nd_flat.specs.declared.node.Node.{Node}
use Rattle.nd_flat.specs.declared.flat.Span.{Span}
use Rattle.nd_flat.specs.declared.flat.CellSpan.{CellSpan}
use Rattle.nd_flat.specs.FlatForm.{flats, HasOctets, WalkParts, no_row}
use Rattle.nd_flat.specs.Building.{HasHome, home_tree, referent_type}
use Rattle.nd_flat.specs.Store.{span_nodes, span_flats, span_tree, span_cell, seen_graph, IsHome, IsKept, HasSpan, chosen_span, no_span, no_cell}
use Rattle.nd_flat.specs.Records.{no_records}
use Rattle.nd_flat.proofs.RowLaws.{no_row_there}
use Rattle.nd_flat.proofs.RecordLaws.{no_records_there}
use Rattle.nd_flat.proofs.Forests.{whole-forest, whole-is-forest}
use Rattle.nd_flat.proofs.Frames.{all_take, all_drop, all_get, get_map}

module _ (os : List ℕ) (ns : List Node) where
  home_walk : (s : Span) → AllByRecursion (HasOctets os) ns → IsHome os ns s → WalkParts os no_row no_records (span_nodes ns s)
  home_walk s t h = record {
    texts = all_take (HasOctets os) s.len (drop s.from ns) (all_drop (HasOctets os) s.from ns t);
    row = no_row_there os;
    records = no_records_there os;
    forest = whole-is-forest (span_flats os ns s) h.whole;
  }

  cell_get : (cs : List CellSpan) (i : ℕ) → i < length cs → slice_get (map (span_cell os ns) cs) i ≡ Some (span_cell os ns (get_or cs i no_cell))
  cell_get cs i l = get_map (span_cell os ns) cs i no_cell l

  chosen : (rs : List Span) (cs : List CellSpan) (h : Home) → IsKept os ns rs cs → HasSpan rs cs h → IsHome os ns (chosen_span rs cs h)
  chosen rs cs (home.Root i) k l = all_get (IsHome os ns) rs i no_span k.roots l
  chosen rs cs (home.Cell c) k l = all_get (λ c. IsHome os ns c.span) cs (c.0 - 1) no_cell k.cells (let p : 0 < c.0 = l.0 in let q : c.0 ≤ length cs = l.1 in omega arith)

  cell_tree_at : (rs : List Span) (cs : List CellSpan) (n : ℕ) → 0 < n → n ≤ length cs
      → cell_at (seen_graph os ns rs cs) n ≡ span_tree os ns (get_or cs (n - 1) no_cell).span
  cell_tree_at rs cs zero p l = absurd (omega (arith, p))
  cell_tree_at rs cs (suc n) p l =
      let e : suc n - 1 ≡ n = omega arith in
      ap cell_tree (cell_get cs n (omega (arith, l))) ∙ ap (λ m. span_tree os ns (get_or cs m no_cell).span) (sym e)

  chosen_tree : (rs : List Span) (cs : List CellSpan) (h : Home) → HasSpan rs cs h → span_tree os ns (chosen_span rs cs h) ≡ home_tree (seen_graph os ns rs cs) h
  chosen_tree rs cs (home.Root i) l = sym (ap or_unread (get_map (span_tree os ns) rs i no_span l))
  chosen_tree rs cs (home.Cell c) l = sym (cell_tree_at rs cs c.0 l.0 l.1)

  -- what a walk goes over, and what it is seen as
  pub walk_parts : (rs : List Span) (cs : List CellSpan) (h : Home) → IsKept os ns rs cs → HasSpan rs cs h → WalkParts os no_row no_records (span_nodes ns (chosen_span rs cs h))
  walk_parts rs cs h k l = home_walk (chosen_span rs cs h) k.texts (chosen rs cs h k l)

  pub walk_seen : (rs : List Span) (cs : List CellSpan) (h : Home) → IsKept os ns rs cs → HasSpan rs cs h
      → unflat (flats os (span_nodes ns (chosen_span rs cs h))) ≡ more (home_tree (seen_graph os ns rs cs) h) none
  walk_seen rs cs h k l =
      whole-forest (span_flats os ns (chosen_span rs cs h)) (chosen rs cs h k l).whole
      ∙ ap (λ t. more t none) (chosen_tree rs cs h l)

  -- a home that is there has a span
  pub has_span : (rs : List Span) (cs : List CellSpan) (h : Home) → HasHome (seen_graph os ns rs cs) h → HasSpan rs cs h
  has_span rs cs (home.Root i) l = subst (λ n. i < n) (length-map rs (span_tree os ns)) l
  has_span rs cs (home.Cell c) l = (l.0, subst (λ n. c.0 ≤ n) (length-map cs (span_cell os ns)) l.1)

-- the part of the nodes that code takes
pub part_is : (ns : List Node) (rs : List Span) (cs : List CellSpan) (h : Home) (ns' : List Node) (rs' : List Span) (cs' : List CellSpan) (s : Span)
    → ns' ≡ ns → rs' ≡ rs → cs' ≡ cs → s ≡ chosen_span rs' cs' h
    → take (s.from + s.len - s.from) (drop s.from ns') ≡ span_nodes ns (chosen_span rs cs h)
part_is ns rs cs h ns' rs' cs' s e1 e2 e3 e4 =
    let n : s.from + s.len - s.from ≡ s.len = omega arith in
    ap₂ (λ k xs. take k (drop s.from xs)) n e1 ∙ ap (span_nodes ns) (e4 ∙ ap₂ (λ x y. chosen_span x y h) e2 e3)

-- a cell by its place from 0
pub cell_there : (i : ℕ) (g : Graph) → i < length g.cells → HasHome g (cell_home (suc i))
cell_there i g l = (omega arith, omega (arith, l))

pub place_span : (rs : List Span) (cs : List CellSpan) (i : ℕ) → (get_or cs i no_cell).span ≡ chosen_span rs cs (cell_home (suc i))
place_span rs cs i = let e : i ≡ suc i - 1 = omega arith in ap (λ n. (get_or cs n no_cell).span) e

pub place_type : (os : List ℕ) (ns : List Node) (cs : List CellSpan) (i : ℕ) → i < length cs
    → (get_or cs i no_cell).of.0 ≡ referent_type (slice_get (map (span_cell os ns) cs) i)
place_type os ns cs i l = sym (ap referent_type (cell_get os ns cs i l))
