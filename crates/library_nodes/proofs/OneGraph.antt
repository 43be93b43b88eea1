-- A listing says one graph at most.
-- `w` is a setting, `l` a listing, `g` and `h` are graphs, `cs` and `ds` cells.
use Rattle.std.proofs.Common.{◌≡◌, ◌∙◌, ℕ, List, [], ◌∷◌, ◌++◌, length, map, refl, sym, ap, ap₂, arith}
use Rattle.nd_value.specs.declared.value.Graph.{Graph}
use Rattle.nd_value.specs.Setting.{Setting}
use Rattle.nd_value.specs.Tree.{Flat, Tree, Trees, Referent, flat, items, trees, unflat, unflat-of}
use Rattle.nd_lemmas.proofs.Lists.{same_first, same_rest}
use Rattle.library_nodes.specs.declared.listing.Listing.{Listing}
use Rattle.library_nodes.specs.Built.{Says, IsWrong}

items_of : (ts : List Tree) → items (trees ts) ≡ ts
items_of [] = refl
items_of (t ∷ ts) = ap (λ (us : List Tree). t ∷ us) (items_of ts)

-- nodes are those of one list of values
same_trees : (ts us : List Tree) → flat (trees ts) ≡ flat (trees us) → ts ≡ us
same_trees ts us e =
    sym (items_of ts) ∙ ap items (sym (unflat-of (trees ts)) ∙ ap unflat e ∙ unflat-of (trees us)) ∙ items_of us

same_both : (a b c d : List Tree) → length a ≡ length b → a ++ c ≡ b ++ d → (a ≡ b) × (c ≡ d)
same_both [] [] c d n e = (refl, e)
same_both [] (y ∷ b) c d n e = absurd (omega (arith, n))
same_both (x ∷ a) [] c d n e = absurd (omega (arith, n))
same_both (x ∷ a) (y ∷ b) c d n e =
    let p = same_both a b c d (omega (arith, n)) (same_rest x y (a ++ c) (b ++ d) e) in
    (ap₂ (λ (z : Tree) (zs : List Tree). z ∷ zs) (same_first x y (a ++ c) (b ++ d) e) p.0, p.1)

same_cells : (cs ds : List Referent) → map (λ c. c.of) cs ≡ map (λ c. c.of) ds → map (λ c. c.val) cs ≡ map (λ c. c.val) ds → cs ≡ ds
same_cells [] [] a b = refl
same_cells [] (d ∷ ds) a b = cc
same_cells (c ∷ cs) [] a b = cc
same_cells (c ∷ cs) (d ∷ ds) a b =
    let f : ℕ → Tree → Referent = λ t v. record { of = t; val = v } in
    let types = λ (xs : List Referent). map (λ (x : Referent). x.of) xs in
    let vals = λ (xs : List Referent). map (λ (x : Referent). x.val) xs in
    let first : c ≡ d = ap₂ f (same_first c.of d.of (types cs) (types ds) a) (same_first c.val d.val (vals cs) (vals ds) b) in
    ap₂ (λ (x : Referent) (xs : List Referent). x ∷ xs) first
    (same_cells cs ds (same_rest c.of d.of (types cs) (types ds) a) (same_rest c.val d.val (vals cs) (vals ds) b))

pub one_graph : (w : Setting) (l : Listing) (g h : Graph) → Says w l g → Says w l h → g ≡ h
one_graph w l g h a b =
    let gs : List Tree = g.roots ++ map (λ (c : Referent). c.val) g.cells in
    let hs : List Tree = h.roots ++ map (λ (c : Referent). c.val) h.cells in
    let flats : flat (trees gs) ≡ flat (trees hs) = cc (a.nodes, b.nodes) in
    let p = same_both g.roots h.roots (map (λ (c : Referent). c.val) g.cells) (map (λ (c : Referent). c.val) h.cells) (a.root_count ∙ sym b.root_count) (same_trees gs hs flats) in
    let f : List Tree → List Referent → Graph = λ r c. record { roots = r; cells = c } in
    ap₂ f p.0 (same_cells g.cells h.cells (a.cell_types ∙ sym b.cell_types) p.1)

pub no_graph : (w : Setting) (l : Listing) (g : Graph) (n : ℕ) → Says w l g → IsWrong w l n → ⊥
no_graph w l g n a b = cc (a.nodes, b.wrong)
