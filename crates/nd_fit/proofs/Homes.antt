-- A graph of values, built home by home.
use Rattle.std.proofs.Common.{◌≡◌, ℕ, ◌+◌, ◌-◌, ◌<◌, ◌≤◌, zero, suc, List, [], ◌∷◌, ◌++◌, length, take, drop, map, Option, Some, None, refl, ap, sym, ◌∙◌, subst, arith, append_assoc}
use Rattle.std.proofs.lemmas.List.{length-map, map-append}
use Rattle.std.proofs.lemmas.Option.{same_Some}
use Rattle.std.specs.List.{AllByRecursion, slice_get}
use Rattle.nd_types.specs.declared.interface.Interface.{Interface}
use Rattle.nd_types.specs.declared.types.Side.{Side}
use Rattle.nd_value.specs.declared.value.Graph.{Graph}
use Rattle.nd_value.specs.declared.item.Home.{Home}
use Rattle.nd_value.specs.declared.item.Home.TheVariants as home
use Rattle.nd_value.specs.Tree.{Tree, Referent, node, none, more, trees}
use Rattle.nd_flat.specs.Keepable.{AreKeepable, HasKeepable}
use Rattle.nd_flat.specs.Forest.{tree_in}
use Rattle.nd_flat.specs.Building.{Building, put, closed, with_cell, with_graph, HasNoUnread, start}
use Rattle.nd_value.specs.Setting.{unread, set_nth, set_cell}
use Rattle.nd_flat.specs.Built.{HasGraph, Rooted, Filled}
use Rattle.nd_fit.specs.Steps.{AllRooted, AllFilled, AllReserved, blank}
use Rattle.nd_flat.proofs.Rooted.{frame_on}
use Rattle.nd_lemmas.proofs.Lists.{take_next as take_on}

abbrev mk : List Tree → List Referent → Graph
mk rs cs = record { roots = rs; cells = cs }

pub roots_on : (vs : List Tree) (i : ℕ) (v : Tree) (old now next : Building) → slice_get vs i ≡ Some v
    → HasGraph (mk ((closed old).roots ++ take i vs) (closed old).cells) old now → Rooted v now next → HasGraph (mk ((closed old).roots ++ take (i + 1) vs) (closed old).cells) old next
roots_on vs i v old now next e h r = record {
  whole = r.whole;
  graph =
      r.graph ∙ ap (λ (g : Graph). mk (g.roots ++ v ∷ []) g.cells) h.graph
      ∙ ap (λ xs. mk xs (closed old).cells) (append_assoc (closed old).roots (take i vs) (v ∷ []) ∙ ap (λ ys. (closed old).roots ++ ys) (sym (take_on vs i v e)));
  frame = frame_on old now next h.frame r.frame;
}

-- Cells
fill_step : (xs : List Referent) (i : ℕ) (x : Referent) → slice_get xs i ≡ Some x
    → set_nth i x.val (take i xs ++ map blank (drop i xs)) ≡ take (suc i) xs ++ map blank (drop (suc i) xs)
fill_step [] i x e = cc
fill_step (y ∷ ys) zero x e =
    let s : y ≡ x = same_Some y x e in
    ap (λ (z : Referent). let r : Referent = record { of = y.of; val = z.val } in r ∷ map blank ys) (sym s)
fill_step (y ∷ ys) (suc i) x e = ap (λ zs. y ∷ zs) (fill_step ys i x e)

pub cells_on : (xs : List Referent) (i : ℕ) (x : Referent) (old now next : Building) → slice_get xs i ≡ Some x
    → HasGraph (mk (closed old).roots (take i xs ++ map blank (drop i xs))) old now → Filled (i + 1) x.val now next
    → HasGraph (mk (closed old).roots (take (i + 1) xs ++ map blank (drop (i + 1) xs))) old next
cells_on xs i x old now next e h r =
    let n : i + 1 ≡ suc i = omega arith in
    record {
      whole = r.whole;
      graph =
          r.graph ∙ ap (λ (g : Graph). mk g.roots (set_cell (i + 1) x.val g.cells)) h.graph
          ∙ ap (λ k. mk (closed old).roots (set_cell k x.val (take i xs ++ map blank (drop i xs)))) n
          ∙ ap (mk (closed old).roots) (fill_step xs i x e)
          ∙ ap (λ k. mk (closed old).roots (take k xs ++ map blank (drop k xs))) (sym n);
      frame = frame_on old now next h.frame r.frame;
    }

set_count : (i : ℕ) (t : Tree) (xs : List Referent) → length (set_nth i t xs) ≡ length xs
set_count zero t [] = refl
set_count (suc i) t [] = refl
set_count zero t (x ∷ xs) = refl
set_count (suc i) t (x ∷ xs) = ap suc (set_count i t xs)

set_from_count : (c : ℕ) (t : Tree) (xs : List Referent) → length (set_cell c t xs) ≡ length xs
set_from_count zero t xs = refl
set_from_count (suc i) t xs = set_count i t xs

-- closing keeps the number of cells
closed_cells_count : (h : Option Home) (t : Tree) (g : Graph) → length (put h t g).cells ≡ length g.cells
closed_cells_count None t g = refl
closed_cells_count (Some (home.Root i)) t g = refl
closed_cells_count (Some (home.Cell c)) t g = set_from_count c.0 t g.cells

part_count : (xs : List Referent) (i : ℕ) → length (take i xs ++ map blank (drop i xs)) ≡ length xs
part_count [] zero = refl
part_count [] (suc i) = refl
part_count (x ∷ xs) zero = length-map (x ∷ xs) blank
part_count (x ∷ xs) (suc i) = ap suc (part_count xs i)

-- the next cell is there
pub cell_there : (xs : List Referent) (i : ℕ) (old now : Building) → i < length xs → HasGraph (mk (closed old).roots (take i xs ++ map blank (drop i xs))) old now
    → (0 < i + 1) × (i + 1 ≤ length now.graph.cells)
cell_there xs i old now l h =
    let a : length (closed now).cells ≡ length now.graph.cells = closed_cells_count now.home (tree_in now.nodes) now.graph in
    let b : length (closed now).cells ≡ length (take i xs ++ map blank (drop i xs)) = ap (λ (g : Graph). length g.cells) h.graph in
    let c : length (take i xs ++ map blank (drop i xs)) ≡ length xs = part_count xs i in
    (omega arith, omega (arith, a, b, c, l))

pub all_at : {A : Type 0} (P : A → Type 0) (xs : List A) (i : ℕ) (x : A) → slice_get xs i ≡ Some x → AllByRecursion P xs → P x
all_at P [] i x e h = cc
all_at P (y ∷ ys) zero x e h = subst P (same_Some y x e) h.0
all_at P (y ∷ ys) (suc i) x e h = all_at P ys i x e h.1

pub reserved_on : (xs : List Referent) (i : ℕ) (x : Referent) (of : ℕ) (old now next : Building) → slice_get xs i ≡ Some x → of ≡ x.of
    → AllReserved (take i xs) old now → next ≡ with_graph (with_cell of now.graph) now → AllReserved (take (i + 1) xs) old next
reserved_on xs i x of old now next e o h r =
    let cs : List Referent = old.graph.cells in
    let m : map blank (take i xs) ++ blank x ∷ [] ≡ map blank (take (i + 1) xs) = sym (map-append blank (take i xs) (x ∷ [])) ∙ ap (map blank) (sym (take_on xs i x e)) in
    let one : ℕ → Referent = λ k. record { of = k; val = unread } in
    r ∙ ap (λ (b : Building). with_graph (with_cell of b.graph) b) h
    ∙ ap (λ k. with_graph (mk old.graph.roots ((cs ++ map blank (take i xs)) ++ one k ∷ [])) old) o
    ∙ ap (λ ys. with_graph (mk old.graph.roots ys) old) (append_assoc cs (map blank (take i xs)) (blank x ∷ []) ∙ ap (λ ys. cs ++ ys) m)

-- Together
pub built_graph : (g : Graph) (b0 b1 b2 b3 : Building) (i : Interface) (n : ℕ) (s : Side) (q : Option Graph) → b0 ≡ start i n s q
    → AllReserved g.cells b0 b1 → AllRooted g.roots b1 b2 → AllFilled g.cells b2 b3 → closed b3 ≡ g
built_graph g b0 b1 b2 b3 i n s q e0 e1 r2 f3 =
    let e : b1 ≡ with_graph (mk [] (map blank g.cells)) (start i n s q) =
    e1 ∙ ap (λ (b : Building). with_graph (mk b.graph.roots (b.graph.cells ++ map blank g.cells)) b) e0 in
    let g1 : closed b1 ≡ mk [] (map blank g.cells) = ap closed e in
    f3.graph ∙ ap (λ (x : Graph). mk x.roots g.cells) r2.graph ∙ ap (λ (x : Graph). mk (x.roots ++ g.roots) g.cells) g1

-- a value that nodes can keep is not unread
unread_not_keepable : (t : Tree) → AreKeepable (more t none) → t ≡ unread → ⊥
unread_not_keepable t h e = (subst (λ (u : Tree). AreKeepable (more u none)) e h).0

roots_no_unread : (ts : List Tree) → AreKeepable (trees ts) → AllByRecursion (λ (t : Tree). t ≡ unread → ⊥) ts
roots_no_unread [] h = tt
roots_no_unread (node l ks ∷ ts) h = (unread_not_keepable (node l ks) (h.0, (h.1.0, tt)), roots_no_unread ts h.1.1)

cells_no_unread : (xs : List Referent) → AllByRecursion (λ (x : Referent). AreKeepable (more x.val none)) xs
    → AllByRecursion (λ (x : Referent). x.val ≡ unread → ⊥) xs
cells_no_unread [] h = tt
cells_no_unread (x ∷ xs) h = (unread_not_keepable x.val h.0, cells_no_unread xs h.1)

pub no_unread : (g : Graph) → HasKeepable g → HasNoUnread g
no_unread g h = record { roots = roots_no_unread g.roots h.roots; cells = cells_no_unread g.cells h.cells }
