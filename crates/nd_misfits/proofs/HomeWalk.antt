-- How the list of the homes of a graph is made.
use Rattle.std.proofs.Common.{◌≡◌, ℕ, ◌+◌, ◌<◌, ◌≤◌, zero, suc, get_or, subst, List, [], ◌∷◌, ◌++◌, length, drop, Some, ap, ap₂, sym, ◌∙◌, map, append_assoc, arith}
use Rattle.std.specs.List.{slice_get, AllByRecursion}
use Rattle.std.specs.Option.{option_map}
use Rattle.std.proofs.lemmas.List.{map-append, drop_more}
use Rattle.std.proofs.lemmas.Option.{slice_get-map, slice_get-get_or, same_Some}
use Rattle.nd_types.specs.Table.{Table}
use Rattle.nd_types.specs.Roots.{NamedRoot}
use Rattle.nd_value.specs.declared.item.Home.TheVariants as home
use Rattle.nd_misfits.specs.declared.homes.HomeValue.{HomeValue}
use Rattle.nd_misfits.specs.declared.pointers.CellPointer.{CellPointer}
use Rattle.nd_value.specs.Tree.{Tree, Referent}
use Rattle.nd_misfits.specs.HomeList.{HomeTree, home_tree, root_homes, home_of_cell, cell_homes}
use Rattle.nd_misfits.specs.Pointers.{pointers_at, pointers_of_homes, NamesBelow, IsWalkable}
use Rattle.nd_lemmas.proofs.Lists.{drop_next as drop-get, drop_past as drop-past, all_at}

-- one home more
pub home_pushed : (hs : List HomeValue) (x : HomeValue) (one : HomeTree) (left rest : List HomeTree) → home_tree x ≡ one → left ≡ one ∷ rest
    → map home_tree (hs ++ x ∷ []) ++ rest ≡ map home_tree hs ++ left
home_pushed hs x one left rest e f =
    ap (λ ys. ys ++ rest) (map-append home_tree hs (x ∷ [])) ∙ append_assoc (map home_tree hs) (home_tree x ∷ []) rest
    ∙ ap (λ y. map home_tree hs ++ y ∷ rest) e ∙ ap (λ ys. map home_tree hs ++ ys) (sym f)

pub root_more : (rs : List NamedRoot) (vs : List Tree) (i : ℕ) (r : NamedRoot) (v : Tree) → slice_get rs i ≡ Some r → slice_get vs i ≡ Some v
    → root_homes i (drop i rs) (drop i vs)
    ≡ record { home = home.Root i; of = r.of; param = r.param; val = v } ∷ root_homes (i + 1) (drop (i + 1) rs) (drop (i + 1) vs)
root_more rs vs i r v e f = ap₂ (root_homes i) (drop-get rs i r e) (drop-get vs i v f)

pub root_none : (rs : List NamedRoot) (vs : List Tree) (i : ℕ) (r : NamedRoot) → slice_get rs i ≡ Some r → length vs ≤ i → root_homes i (drop i rs) (drop i vs) ≡ []
root_none rs vs i r e h = ap₂ (root_homes i) (drop-get rs i r e) (drop-past vs i h)

pub root_past : (rs : List NamedRoot) (vs : List Tree) (i : ℕ) → length rs ≤ i → root_homes i (drop i rs) (drop i vs) ≡ []
root_past rs vs i h = ap (λ xs. root_homes i xs (drop i vs)) (drop-past rs i h)

pub cell_more : (xs : List Referent) (i : ℕ) (x : Referent) → slice_get xs i ≡ Some x
    → cell_homes (i + 1) (drop i xs) ≡ home_of_cell (i + 1) x ∷ cell_homes (i + 1 + 1) (drop (i + 1) xs)
cell_more xs i x e = ap (cell_homes (i + 1)) (drop-get xs i x e)

pub cell_none : (xs : List Referent) (i : ℕ) → length xs ≤ i → cell_homes (i + 1) (drop i xs) ≡ []
cell_none xs i h = ap (cell_homes (i + 1)) (drop-past xs i h)

cell_found : (c : ℕ) (xs : List Referent) (i : ℕ) (x : Referent) → slice_get xs i ≡ Some x → slice_get (cell_homes c xs) i ≡ Some (home_of_cell (c + i) x)
cell_found c [] i x e = cc
cell_found c (y ∷ ys) zero x e = let m : c ≡ c + 0 = omega arith in ap₂ (λ (k : ℕ) (z : Referent). Some (home_of_cell k z)) m (same_Some y x e)
cell_found c (y ∷ ys) (suc i) x e = let m : c + 1 + i ≡ c + suc i = omega arith in cell_found (c + 1) ys i x e ∙ ap (λ k. Some (home_of_cell k x)) m

-- a cell that the passes can go over
pub walkable_cell : (table : Table) (limit : ℕ) (xs : List Referent) (i : ℕ) (x : Referent) → slice_get xs i ≡ Some x
    → AllByRecursion (IsWalkable table limit) (cell_homes 1 xs) → IsWalkable table limit (home_of_cell (i + 1) x)
walkable_cell table limit xs i x e a =
    let m : 1 + i ≡ i + 1 = omega arith in
    all_at (IsWalkable table limit) (cell_homes 1 xs) i (home_of_cell (i + 1) x) a (cell_found 1 xs i x e ∙ ap (λ k. Some (home_of_cell k x)) m)

-- a home of a list that the passes can go over
pub walkable_home : (table : Table) (limit : ℕ) (hs : List HomeValue) (i : ℕ) (x : HomeValue) → x ≡ get_or hs i x → i < length hs
    → AllByRecursion (IsWalkable table limit) (map home_tree hs) → IsWalkable table limit (home_tree x)
walkable_home table limit hs i x e h a =
    all_at (IsWalkable table limit) (map home_tree hs) i (home_tree x) a
    (slice_get-map home_tree hs i ∙ ap (option_map home_tree) (slice_get-get_or hs i x h ∙ ap Some (sym e)))

-- the pointers of the homes that are left, and others after them
pub pointers_left : (table : Table) (hs : List HomeValue) (i : ℕ) (x : HomeValue) (rest : List CellPointer) → x ≡ get_or hs i x → i < length hs
    → pointers_of_homes table (map home_tree (drop i hs)) ++ rest
    ≡ pointers_at table (home_tree x) ++ (pointers_of_homes table (map home_tree (drop (i + 1) hs)) ++ rest)
pointers_left table hs i x rest e h =
    ap (λ xs. pointers_of_homes table (map home_tree xs) ++ rest) (drop_more hs i x h)
    ∙ ap (λ (y : HomeValue). pointers_of_homes table (map home_tree (y ∷ drop (i + 1) hs)) ++ rest) (sym e)
    ∙ append_assoc (pointers_at table (home_tree x)) (pointers_of_homes table (map home_tree (drop (i + 1) hs))) rest

-- a home that the passes can go over, the limit being another number for the same
pub walkable_still : (table : Table) (limit n : ℕ) (h : HomeTree) → n ≡ limit → IsWalkable table limit h → IsWalkable table n h
walkable_still table limit n h e w = subst (λ m. IsWalkable table m h) (sym e) w

-- pointers to cells that are there
pub named_in : (limit : ℕ) (ps qs : List CellPointer) → qs ≡ ps → AllByRecursion (NamesBelow limit) ps → AllByRecursion (NamesBelow limit) qs
named_in limit ps qs e h = subst (AllByRecursion (NamesBelow limit)) (sym e) h
