-- The text of a graph, line by line.
-- `w` is a setting, `g` a graph, `r` a root, `v` its value, `x` a cell, `c` its number.
use Rattle.std.proofs.Common.{◌≡◌, ℕ, ◌+◌, add-one, true, List, [], ◌∷◌, ◌++◌, map, codes, decimal, refl, ap, ap₂, sym, ◌∙◌, append_assoc, append-nil, lit<}
use Rattle.std.specs.List.{list_all, flat_map}
use Rattle.std.proofs.lemmas.Fmt.{decimal_digit}
use Rattle.nd_types.specs.declared.types.Side.TheVariants as side
use Rattle.nd_types.specs.declared.types.Operation.{Operation}
use Rattle.nd_types.specs.Table.{Table}
use Rattle.nd_types.specs.Roots.{Root, named_root, named_roots}
use Rattle.nd_value.specs.declared.value.Graph.{Graph}
use Rattle.nd_value.specs.Tree.{Tree, node, none, more, Referent}
use Rattle.nd_value.specs.Agreement.{Agreement}
use Rattle.nd_value.specs.Nodes.{nodes_of}
use Rattle.nd_value.specs.Setting.{Setting, root_list}
use Rattle.nd_value.specs.Conforms.{Conforms}
use Rattle.text_grammar.specs.declared.version.Version.TheVariants as version
use Rattle.text_grammar.specs.Tokens.{Cell, Mark}
use Rattle.text_grammar.specs.Written.{Piece, Other, token_of, equals, named, value_pieces, head_lines, root_lines, cell_lines, root_name, side_word, line_text, graph_text}
use Rattle.text_grammar.specs.Sound.{is_sound_node}
use Rattle.text_grammar.proofs.Names.{names_agree}
use Rattle.text_printer.specs.Texts.{text_of, head_text, roots_text, cell_text, cells_text}
use Rattle.text_printer.proofs.Items.{IsItem, tokens, named_item, front, spread}
use Rattle.text_printer.proofs.Sound.{items_of}
use Rattle.text_printer.proofs.Fits.{RootsSound, CellsSound, conforming_sound}

-- the text of lines
abbrev pub lines_text : List (List Piece) → List ℕ
lines_text ls = flat_map (λ line. line_text (map token_of line)) ls

lines_append : (ls ms : List (List Piece)) → lines_text (ls ++ ms) ≡ lines_text ls ++ lines_text ms
lines_append [] ms = refl
lines_append (l ∷ ls) ms =
    ap (λ x. line_text (map token_of l) ++ x) (lines_append ls ms) ∙ sym (append_assoc (line_text (map token_of l)) (lines_text ls) (lines_text ms))

-- a value that breaks no rule by itself, wherever its agreements are
value_item : (table : Table) (t : ℕ) (ags : List (List Agreement)) (v : Tree) → list_all (is_sound_node table) (nodes_of table (t ∷ []) ags 0 (more v none)) ≡ true
    → IsItem (value_pieces version.Two table t v) (text_of table t v)
value_item table t ags (node l ks) h = (items_of table (t ∷ []) ags 0 (more (node l ks) none) h).0

-- ## Roots

root_line : (table : Table) (o : Operation) (r : Root) (v : Tree) (name : List ℕ) → root_name o.params r ≡ name
    → IsItem (value_pieces version.Two table r.of v) (text_of table r.of v)
    → line_text (map token_of (named (root_name o.params r) (value_pieces version.Two table r.of v))) ≡ name ++ (codes " = " ++ (text_of table r.of v ++ codes "\n"))
root_line table o r v name e i =
    ap (λ x. x ++ codes "\n") ((named_item (root_name o.params r) _ _ i).text ∙ ap (λ n. n ++ (codes " = " ++ text_of table r.of v)) e)
    ∙ append_assoc name (codes " = " ++ text_of table r.of v) (codes "\n")

roots_lines : (table : Table) (o : Operation) (rs : List Root) (vs : List Tree) → RootsSound table rs vs
    → lines_text (root_lines version.Two table o.params rs vs) ≡ roots_text table (map (named_root o) rs) vs
roots_lines table o [] vs h = refl
roots_lines table o (r ∷ rs) [] h = refl
roots_lines table o (r ∷ rs) (v ∷ vs) h =
    ap₂ (λ x y. x ++ y) (root_line table o r v (named_root o r).name (names_agree o r) (value_item table r.of h.0.0 v h.0.1)) (roots_lines table o rs vs h.1)

-- ## Cells

cell_line : (table : Table) (c : ℕ) (x : Referent) → IsItem (value_pieces version.Two table x.of x.val) (text_of table x.of x.val)
    → line_text (map token_of (Other (Cell c) ∷ equals ∷ value_pieces version.Two table x.of x.val)) ≡ cell_text table c x
cell_line table c x i =
    let k : spread (Mark 61) (tokens (value_pieces version.Two table x.of x.val)) ≡ codes " " ++ text_of table x.of x.val = i.after 61 in
    ap (λ y. y ++ codes "\n") (front (Cell c) (Mark 61 ∷ tokens (value_pieces version.Two table x.of x.val)) ∙ ap (λ y. (64 ∷ decimal c) ++ (codes " =" ++ y)) k)
    ∙ append_assoc (64 ∷ decimal c) (codes " = " ++ text_of table x.of x.val) (codes "\n")

cells_lines : (table : Table) (c : ℕ) (xs : List Referent) → CellsSound table xs → lines_text (cell_lines version.Two table c xs) ≡ cells_text table c xs
cells_lines table c [] h = refl
cells_lines table c (x ∷ xs) h =
    ap₂ (λ y z. y ++ z) (cell_line table c x (value_item table x.of [] x.val h.0)) (cells_lines table (c + 1) xs h.1 ∙ ap (λ n. cells_text table n xs) (add-one c))

-- ## Graphs

two : decimal 2 ≡ codes "2"
two = decimal_digit 2 (lit< tt)

head_is : (w : Setting) → lines_text (head_lines version.Two w) ≡ head_text w.op.name w.side
head_is w =
    let ending = codes " " ++ side_word w.side in
    let op = codes "op " ++ (((w.op.name ++ ending) ++ codes "\n") ++ []) in
    ap (λ d. codes "values " ++ ((d ++ codes "\n") ++ op)) two
    ∙ ap (λ x. codes "values 2\nop " ++ x) (append-nil ((w.op.name ++ ending) ++ codes "\n") ∙ append_assoc w.op.name ending (codes "\n"))

-- the text of a graph that conforms
pub graph_is_printed : (w : Setting) (g : Graph) → Conforms w g
    → graph_text version.Two w g ≡ head_text w.op.name w.side ++ (roots_text w.table (named_roots w.table w.side w.op) g.roots ++ cells_text w.table 1 g.cells)
graph_is_printed w g k =
    let f = conforming_sound w g k in
    let heads = head_lines version.Two w in
    let roots = root_lines version.Two w.table w.op.params (root_list w) g.roots in
    let cells = cell_lines version.Two w.table 1 g.cells in
    lines_append heads (roots ++ cells)
    ∙ ap₂ (λ x y. x ++ y) (head_is w) (lines_append roots cells ∙ ap₂ (λ x y. x ++ y) (roots_lines w.table w.op (root_list w) g.roots f.0) (cells_lines w.table 1 g.cells f.1))
