-- Graphs whose cells have the same types and the same values are the same.
use Rattle.std.proofs.Common.{◌≡◌, ℕ, zero, suc, List, [], ◌∷◌, ◌++◌, refl, ap, ap₂, ◌∙◌, map}
use Rattle.std.specs.List.{AllByRecursion, slice_get}
use Rattle.nd_value.specs.declared.value.Graph.{Graph}
use Rattle.nd_value.specs.Tree.{Tree, Referent}
use Rattle.nd_value.specs.Setting.{unread, cell_tree}
use Rattle.nd_grammar.specs.Reader.{Names}
use Rattle.nd_grammar.specs.StreamReader.{graph_of}
use Rattle.nd_grammar.proofs.reader.ReaderNames.{Extends}
use Rattle.nd_lemmas.proofs.Lists.{same_parts as same_first}

abbrev pub value_at : List Referent → ℕ → Tree
value_at xs i = cell_tree (slice_get xs i)

pub same_cells : (xs ys : List Referent) → map (λ c. c.of) xs ≡ map (λ c. c.of) ys → ((i : ℕ) → value_at xs i ≡ value_at ys i) → xs ≡ ys
same_cells [] [] e f = refl
same_cells [] (y ∷ ys) e f = cc
same_cells (x ∷ xs) [] e f = cc
same_cells (x ∷ xs) (y ∷ ys) e f =
    let (a, b) = same_first x.of y.of (map (λ c. c.of) xs) (map (λ c. c.of) ys) e in
    let h : x ≡ y = ap₂ (λ (of : ℕ) (val : Tree). record { of = of; val = val }) a (f 0) in
    ap₂ (λ (u : Referent) us. u ∷ us) h (same_cells xs ys b (λ i. f (suc i)))

-- cells that are not read have no value, as those that are not there
blank_value : (new : List Referent) → AllByRecursion (λ x. x.val ≡ unread) new → (i : ℕ) → value_at new i ≡ unread
blank_value [] b i = refl
blank_value (x ∷ new) b zero = b.0
blank_value (x ∷ new) b (suc i) = blank_value new b.1 i

value_before : (xs new : List Referent) → AllByRecursion (λ x. x.val ≡ unread) new → (i : ℕ) → value_at (xs ++ new) i ≡ value_at xs i
value_before [] new b i = blank_value new b i
value_before (x ∷ xs) new b zero = refl
value_before (x ∷ xs) new b (suc i) = value_before xs new b i

-- reading a home leaves the values of cells as they are
pub values_stay : (s s' : Names) → Extends s s' → (i : ℕ) → value_at s'.cells i ≡ value_at s.cells i
values_stay s s' e i = ap (λ u. value_at u i) e.cells ∙ value_before s.cells e.new e.blank i

pub graph_is : (g : Graph) (roots : List Tree) (s : Names) → g.roots ≡ roots → map (λ c. c.of) g.cells ≡ map (λ c. c.of) s.cells
    → ((i : ℕ) → value_at g.cells i ≡ value_at s.cells i) → g ≡ graph_of roots s
graph_is g roots s e t f = ap₂ (λ (roots : List Tree) (cells : List Referent). record { roots = roots; cells = cells }) e (same_cells g.cells s.cells t f)
