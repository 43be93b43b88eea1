-- The lines of roots and cells, one more of them.
use Rattle.std.proofs.Common.{◌≡◌, ℕ, ◌+◌, ◌≤◌, zero, suc, add-one, List, [], ◌∷◌, ◌++◌, length, drop, Some, refl, ap, ap₂, sym, ◌∙◌, subst, arith, ◌<◌}
use Rattle.std.specs.List.{slice_get}
use Rattle.std.proofs.lemmas.Option.{same_Some}
use Rattle.nd_types.specs.Table.{Table}
use Rattle.nd_types.specs.Roots.{NamedRoot}
use Rattle.nd_value.specs.Tree.{Tree, Trees, node, none, more, Referent}
use Rattle.nd_value.specs.Setting.{or_unread}
use Rattle.nd_lemmas.proofs.Lists.{drop_next as drop-get, drop_past as drop-past}
use Rattle.text_printer.specs.Texts.{text_of, root_text, roots_text, cell_text, cells_text}
use Rattle.text_printer.specs.Walks.{Begins, Writes, RootsBegin, CellsBegin, first_text}

-- one root more
pub root_next : (table : Table) (rs : List NamedRoot) (vs : List Tree) (i : ℕ) (r : NamedRoot) (v : Tree) → slice_get rs i ≡ Some r → slice_get vs i ≡ Some v
    → roots_text table (drop i rs) (drop i vs) ≡ root_text table r v ++ roots_text table (drop (i + 1) rs) (drop (i + 1) vs)
root_next table rs vs i r v er ev = ap₂ (λ xs ys. roots_text table xs ys) (drop-get rs i r er) (drop-get vs i v ev)

pub roots_past : (table : Table) (rs : List NamedRoot) (vs : List Tree) (i : ℕ) → length rs ≤ i → roots_text table (drop i rs) (drop i vs) ≡ []
roots_past table rs vs i past = ap (λ xs. roots_text table xs (drop i vs)) (drop-past rs i past)

no_roots : (table : Table) (rs : List NamedRoot) → roots_text table rs [] ≡ []
no_roots table [] = refl
no_roots table (r ∷ rs) = refl

-- all values are written
pub roots_end : (table : Table) (rs : List NamedRoot) (vs : List Tree) (i : ℕ) → length vs ≤ i → roots_text table (drop i rs) (drop i vs) ≡ []
roots_end table rs vs i e = ap (λ ys. roots_text table (drop i rs) ys) (drop-past vs i e) ∙ no_roots table (drop i rs)

-- a root that is there, and what is asked of its value
pub root_there : (vs : List Tree) (i : ℕ) → i < length vs → slice_get vs i ≡ Some (or_unread (slice_get vs i))
root_there [] i h = absurd (omega (arith, h))
root_there (v ∷ vs) zero h = refl
root_there (v ∷ vs) (suc i) h = root_there vs i (omega (arith, h))

pub root_begins : (table : Table) (rs : List NamedRoot) (vs : List Tree) (i : ℕ) (r : NamedRoot) (v : Tree) → slice_get rs i ≡ Some r → slice_get vs i ≡ Some v → RootsBegin table rs vs
    → Begins table (r.of ∷ []) (more v none)
root_begins table [] vs i r v er ev h = cc
root_begins table (r' ∷ rs) [] i r v er ev h = cc
root_begins table (r' ∷ rs) (v' ∷ vs) zero r v er ev h =
    subst (λ (x : NamedRoot). Begins table (x.of ∷ []) (more v none)) (same_Some r' r er) (subst (λ y. Begins table (r'.of ∷ []) (more y none)) (same_Some v' v ev) h.0)
root_begins table (r' ∷ rs) (v' ∷ vs) (suc i) r v er ev h = root_begins table rs vs i r v er ev h.1

-- one cell more
pub cell_next : (table : Table) (xs : List Referent) (i : ℕ) (x : Referent) → slice_get xs i ≡ Some x
    → cells_text table (i + 1) (drop i xs) ≡ cell_text table (i + 1) x ++ cells_text table (i + 1 + 1) (drop (i + 1) xs)
cell_next table xs i x e =
    ap (λ ys. cells_text table (i + 1) ys) (drop-get xs i x e) ∙ ap (λ n. cell_text table (i + 1) x ++ cells_text table n (drop (i + 1) xs)) (sym (add-one (i + 1)))

pub cells_past : (table : Table) (xs : List Referent) (i : ℕ) → length xs ≤ i → cells_text table (i + 1) (drop i xs) ≡ []
cells_past table xs i past = ap (λ ys. cells_text table (i + 1) ys) (drop-past xs i past)

pub cell_begins : (table : Table) (xs : List Referent) (i : ℕ) (x : Referent) → slice_get xs i ≡ Some x → CellsBegin table xs → Begins table (x.of ∷ []) (more x.val none)
cell_begins table [] i x e h = cc
cell_begins table (y ∷ xs) zero x e h = subst (λ (z : Referent). Begins table (z.of ∷ []) (more z.val none)) (same_Some y x e) h.0
cell_begins table (y ∷ xs) (suc i) x e h = cell_begins table xs i x e h.1

-- ## Values of lines

-- the value of a root or a cell
pub value_written : (table : Table) (t : ℕ) (v : Tree) (text text' : List ℕ) (w w' : Trees) → w ≡ more v none → Begins table (t ∷ []) (more v none)
    → Writes table (t ∷ []) first_text text w text' w' → text' ≡ text ++ text_of table t v
value_written table t (node l ks) text text' w w' e b h =
    let k : Writes table (t ∷ []) first_text text (more (node l ks) none) text' w' = subst (λ u. Writes table (t ∷ []) first_text text u text' w') e h in
    (k b).0
