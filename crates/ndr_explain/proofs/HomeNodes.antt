-- The first nodes of homes, and homes that are not there.
-- `w` is a setting, `g` a graph, `h` a home, `i` the place of a root or a cell, `r` a root, `q` the graph of a request.
use Rattle.std.proofs.Common.{◌≡◌, ℕ, ◌<◌, ◌≤◌, zero, suc, List, [], ◌∷◌, length, map, Option, None, Some, refl, ap, sym, ◌∙◌, subst, arith}
use Rattle.std.specs.List.{slice_get}
use Rattle.std.proofs.lemmas.Option.{same_Some, slice_get_past as get_past, slice_get_within as got_below}
use Rattle.nd_types.specs.declared.interface.Interface.{Interface}
use Rattle.nd_types.specs.declared.types.Operation.{Operation}
use Rattle.nd_types.specs.Roots.{Root, NamedRoot, named_root}
use Rattle.nd_types.specs.Table.{Table}
use Rattle.nd_value.specs.declared.value.CellId.{CellId}
use Rattle.nd_value.specs.declared.value.Graph.{Graph}
use Rattle.nd_value.specs.declared.item.Home.{Home}
use Rattle.nd_value.specs.declared.item.Home.TheVariants as home
use Rattle.nd_value.specs.Conforms.{Conforms}
use Rattle.nd_value.specs.Fitting.{Fitting, IsFit}
use Rattle.nd_value.specs.Setting.{Setting, root_list, root_at, cell_at, cell_of_number, unread, or_unread, cell_tree}
use Rattle.nd_value.specs.Tree.{Tree, Trees, Referent, none, more, flat}
use Rattle.text_grammar.specs.Paths.{home_name, home_types, home_value, node_paths, root_types, cell_types}
use Rattle.text_printer.specs.Walks.{Begins, RootsBegin, CellsBegin}
use Rattle.text_printer.proofs.Canonical.{fit_conforms}
use Rattle.text_printer.proofs.Fits.{conforming_sound, roots_begin, cells_begin}
use Rattle.ndr_explain.specs.declared.cursor.Cursor.{Cursor}
use Rattle.ndr_explain.specs.Explained.{home_paths, home_flats, path_in, label_in, string_shown, context_shown}
use Rattle.ndr_explain.specs.Cursors.{IsPast, IsBegun, IsSettingOf, Reaches}
use Rattle.ndr_explain.proofs.Walks.{no_paths, path_later}
use Rattle.nd_lemmas.proofs.Lists.{item_at as get_there, past_end}

-- the operation of a fit is there
pub op_known : (i : Interface) (f : Fitting) (n : ℕ) → n ≡ f.op → f.interface ≡ i → IsFit f → n < length i.operations
op_known i f n e tied k =
    let there : slice_get i.operations f.op ≡ Some k.operation = sym (ap (λ (j : Interface). slice_get j.operations f.op) tied) ∙ k.is_there in
    subst (λ m. m < length i.operations) (sym e) (got_below i.operations f.op k.operation there)

-- the graph of a fit conforms
pub fit_is : (i : Interface) (f : Fitting) (w : Setting) → IsSettingOf i f w → f.interface ≡ i → IsFit f → Conforms w f.graph
fit_is i f w s tied k = subst (λ v. Conforms v f.graph) (sym s.is) (fit_conforms f i s.operation k tied s.is_there)

-- ## Homes that are not there

no_label : (m : ℕ) → (string_shown (label_in (flat (more unread none)) m) ≡ []) × (context_shown (label_in (flat (more unread none)) m) ≡ [])
no_label zero = (refl, refl)
no_label (suc m) = (refl, refl)

absent : (w : Setting) (g : Graph) (h : Home) → home_types w g h ≡ [] → home_value g h ≡ unread → IsPast (home_paths w g h) (home_flats g h) 0
absent w g h none_of is =
    let xs = node_paths w.table (home_types w g h) (home_name w h ∷ []) 0 (more (home_value g h) none) in
    let e : xs ≡ [] =
    ap (λ ts. node_paths w.table ts (home_name w h ∷ []) 0 (more (home_value g h) none)) none_of ∙ no_paths w.table (home_name w h ∷ []) 0 (more (home_value g h) none) in
    record {
      no_path = λ m l z. path_later 0 m (home_name w h) xs z ∙ ap (λ ys. path_in ys m) e;
      no_text = λ m l. ap (λ v. string_shown (label_in (flat (more v none)) m)) is ∙ (no_label m).0;
      no_context = λ m l. ap (λ v. context_shown (label_in (flat (more v none)) m)) is ∙ (no_label m).1;
    }

absent_root : (w : Setting) (g : Graph) (i : ℕ) → slice_get (root_list w) i ≡ None → slice_get g.roots i ≡ None → IsPast (home_paths w g (home.Root i)) (home_flats g (home.Root i)) 0
absent_root w g i e k = absent w g (home.Root i) (ap root_types e) (ap or_unread k)

-- a root past those of the graph
pub root_past : (w : Setting) (g : Graph) (i : ℕ) → Conforms w g → length g.roots ≤ i → IsBegun w g (home.Root i) None
root_past w g i k h =
    let l = k.all_roots in
    absent_root w g i (get_past (root_list w) i (omega (arith, l, h))) (get_past g.roots i h)

abbrev mapped : Operation → Option Root → Option NamedRoot
mapped o None = None
mapped o (Some r) = Some (named_root o r)

get_mapped : (o : Operation) (rs : List Root) (i : ℕ) → slice_get (map (named_root o) rs) i ≡ mapped o (slice_get rs i)
get_mapped o [] i = refl
get_mapped o (r ∷ rs) zero = refl
get_mapped o (r ∷ rs) (suc i) = get_mapped o rs i

-- a root past those of the side
pub root_missing : (w : Setting) (g : Graph) (i : ℕ) → Conforms w g → None ≡ slice_get (map (named_root w.op) (root_list w)) i → IsBegun w g (home.Root i) None
root_missing w g i k e = by_root (slice_get (root_list w) i) refl (e ∙ get_mapped w.op (root_list w) i)
  where
    by_root : (r : Option Root) → slice_get (root_list w) i ≡ r → None ≡ mapped w.op r → IsPast (home_paths w g (home.Root i)) (home_flats g (home.Root i)) 0
    by_root None is same =
        let l = k.all_roots in
        let h : length (root_list w) ≤ i = past_end (root_list w) i is in
        absent_root w g i is (get_past g.roots i (omega (arith, l, h)))
    by_root (Some r) is same = cc

pub cell_zero : (w : Setting) (g : Graph) (c : CellId) → c.0 ≡ 0 → IsBegun w g (home.Cell c) None
cell_zero w g c e = absent w g (home.Cell c) (ap (λ n. cell_types (cell_of_number g n)) e) (ap (λ n. cell_tree (cell_of_number g n)) e)

pub cell_past : (w : Setting) (g : Graph) (c : CellId) → length g.cells < c.0 → IsBegun w g (home.Cell c) None
cell_past w g c h = by_number c.0 refl h
  where
    by_number : (n : ℕ) → c.0 ≡ n → length g.cells < n → IsPast (home_paths w g (home.Cell c)) (home_flats g (home.Cell c)) 0
    by_number zero e l = absurd (omega (arith, l))
    by_number (suc m) e l =
        let there : cell_of_number g c.0 ≡ None = ap (cell_of_number g) e ∙ get_past g.cells m (omega (arith, l)) in
        absent w g (home.Cell c) (ap cell_types there) (ap cell_tree there)

-- ## The names of roots

-- ## First nodes

root_begins : (table : Table) (o : Operation) (rs : List Root) (vs : List Tree) (i : ℕ) (r : Root) (v : Tree) → RootsBegin table (map (named_root o) rs) vs → slice_get rs i ≡ Some r
    → slice_get vs i ≡ Some v → Begins table (r.of ∷ []) (more v none)
root_begins table o [] vs i r v b e k = cc
root_begins table o (x ∷ rs) [] i r v b e k = cc
root_begins table o (x ∷ rs) (y ∷ vs) zero r v b e k =
    let a : x ≡ r = same_Some x r e in
    let c : y ≡ v = same_Some y v k in
    subst (λ (s : Root). Begins table (s.of ∷ []) (more v none)) a (subst (λ (u : Tree). Begins table (x.of ∷ []) (more u none)) c b.0)
root_begins table o (x ∷ rs) (y ∷ vs) (suc i) r v b e k = root_begins table o rs vs i r v b.1 e k

cell_begins : (table : Table) (xs : List Referent) (i : ℕ) (x : Referent) → CellsBegin table xs → slice_get xs i ≡ Some x → Begins table (x.of ∷ []) (more x.val none)
cell_begins table [] i x b e = cc
cell_begins table (y ∷ xs) zero x b e = let a : y ≡ x = same_Some y x e in subst (λ (z : Referent). Begins table (z.of ∷ []) (more z.val none)) a b.0
cell_begins table (y ∷ xs) (suc i) x b e = cell_begins table xs i x b.1 e

-- what a cursor that begins with a value of this type is at
abbrev pub BeginsWith : ℕ → Trees → Option Cursor → Type 0
BeginsWith t walk result =
    (table : Table) (name : List ℕ) (v : Tree) → walk ≡ more v none → Begins table (t ∷ []) (more v none)
    → Reaches table name ((0, name) ∷ node_paths table (t ∷ []) (name ∷ []) 0 (more v none)) (flat (more v none)) 0 result

begun_at : (w : Setting) (g : Graph) (h : Home) (t : ℕ) (walk : Trees) (result : Option Cursor) → home_types w g h ≡ t ∷ [] → walk ≡ more (home_value g h) none
    → Begins w.table (t ∷ []) (more (home_value g h) none) → BeginsWith t walk result → IsBegun w g h result
begun_at w g h t walk result types is begins k =
    subst (λ ts. Reaches w.table (home_name w h) ((0, home_name w h) ∷ node_paths w.table ts (home_name w h ∷ []) 0 (more (home_value g h) none)) (home_flats g h) 0 result) (sym types)
    (k w.table (home_name w h) (home_value g h) is begins)

-- the first node of a root
pub first_root : (w : Setting) (g : Graph) (i : ℕ) (r : NamedRoot) (walk : Trees) (result : Option Cursor) → Conforms w g → i < length g.roots
    → Some r ≡ slice_get (map (named_root w.op) (root_list w)) i → walk ≡ more (root_at g i) none → BeginsWith r.of walk result → IsBegun w g (home.Root i) result
first_root w g i r walk result k l e is b = by_root (slice_get (root_list w) i) refl (e ∙ get_mapped w.op (root_list w) i)
  where
    by_root : (x : Option Root) → slice_get (root_list w) i ≡ x → Some r ≡ mapped w.op x → IsBegun w g (home.Root i) result
    by_root None there same = cc
    by_root (Some x) there same =
        let s : r ≡ named_root w.op x = same_Some _ _ same in
        let v = get_there g.roots i l in
        let begins : Begins w.table (x.of ∷ []) (more v.0 none) =
        root_begins w.table w.op (root_list w) g.roots i x v.0 (roots_begin w.table w.op (root_list w) g.roots (conforming_sound w g k).0) there v.1 in
        let here : root_at g i ≡ v.0 = ap or_unread v.1 in
        begun_at w g (home.Root i) r.of walk result (ap root_types there ∙ ap (λ (y : NamedRoot). y.of ∷ []) (sym s)) is
        (subst (λ (y : NamedRoot). Begins w.table (y.of ∷ []) (more (root_at g i) none)) (sym s) (subst (λ (u : Tree). Begins w.table (x.of ∷ []) (more u none)) (sym here) begins))
        b

-- the first node of a cell
pub first_cell : (w : Setting) (g : Graph) (c : CellId) (i t : ℕ) (walk : Trees) (result : Option Cursor) → Conforms w g → c.0 ≡ suc i → i < length g.cells
    → ((x : Referent) → slice_get g.cells i ≡ Some x → t ≡ x.of) → walk ≡ more (cell_at g (suc i)) none → BeginsWith t walk result → IsBegun w g (home.Cell c) result
first_cell w g c i t walk result k e l typed is b =
    let x = get_there g.cells i l in
    let there : cell_of_number g c.0 ≡ Some x.0 = ap (cell_of_number g) e ∙ x.1 in
    let same : t ≡ x.0.of = typed x.0 x.1 in
    let here : cell_at g c.0 ≡ x.0.val = ap cell_tree there in
    let begins : Begins w.table (x.0.of ∷ []) (more x.0.val none) = cell_begins w.table g.cells i x.0 (cells_begin w.table g.cells (conforming_sound w g k).1) x.1 in
    begun_at w g (home.Cell c) t walk result (ap cell_types there ∙ ap (λ n. n ∷ []) (sym same)) (is ∙ ap (λ n. more (cell_at g n) none) (sym e))
    (subst (λ n. Begins w.table (n ∷ []) (more (cell_at g c.0) none)) (sym same) (subst (λ (u : Tree). Begins w.table (x.0.of ∷ []) (more u none)) (sym here) begins))
    b
