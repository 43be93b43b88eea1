-- What explains a stream: a line for each of its items, which says where the item is, what it is, which node of which value it belongs to,
-- and what it holds.
-- `w` is a setting, `g` a graph, `h` a home, `n` a node's number, `l` a node's label, `x` an item, `z` the number that an item holds, `octets` are
-- those of the stream, `os` some of them.
use Rattle.std.specs.Prelude.{ℕ, ℤ, ◌+◌, ◌==◌, Bool, true, false, List, [], ◌∷◌, ◌++◌, drop, flat_map, take}
use Rattle.std.specs.Prelude.{Option, None, Some, codes, decimal}
use Rattle.std.specs.Fmt.{signed_decimal}
use Rattle.std.specs.List.{list_all, slice_get}
use Rattle.nd_value.specs.declared.value.Graph.{Graph}
use Rattle.nd_value.specs.declared.item.Home.{Home}
use Rattle.nd_value.specs.declared.item.Item.{Item}
use Rattle.nd_value.specs.declared.item.ItemKind.{ItemKind}
use Rattle.nd_value.specs.declared.item.ItemKind.TheVariants as kind
use Rattle.nd_value.specs.Setting.{Setting}
use Rattle.nd_value.specs.Tree as tree
use Rattle.nd_value.specs.Tree.{Flat, Label, none, more, flat}
use Rattle.text_grammar.specs.Paths.{home_name, home_types, home_value, node_paths}
use Rattle.text_grammar.specs.Written.{hex_text, quoted_text}
use Rattle.text_printer.specs.Texts.{context_text}

-- ## Nodes

-- the nodes of a home with their paths; node 0, the home's own value, has the home's name, also where the home is not there
abbrev pub home_paths : Setting → Graph → Home → List (ℕ × List ℕ)
home_paths w g h = (0, home_name w h) ∷ node_paths w.table (home_types w g h) (home_name w h ∷ []) 0 (more (home_value g h) none)

-- the path of a node by its number; nothing where there is no such node
abbrev pub path_in : List (ℕ × List ℕ) → ℕ → List ℕ
path_in [] n = []
path_in (x ∷ xs) n = elim (x.0 == n) [ true ↦ x.1 | false ↦ path_in xs n ]

-- what a node says itself, by its number
abbrev pub label_in : List Flat → ℕ → Option Label
label_in fs n = elim (slice_get fs n) [ None ↦ None | Some f ↦ Some f.0 ]

-- the nodes of a home, depth first
abbrev pub home_flats : Graph → Home → List Flat
home_flats g h = flat (more (home_value g h) none)

-- ## Lines

abbrev pub kind_word : ItemKind → List ℕ
kind_word kind.Gap = codes "gap"
kind_word kind.Max = codes "max"
kind_word kind.Offset = codes "offset"
kind_word kind.Actual = codes "actual"
kind_word kind.Number = codes "number"
kind_word kind.Tag = codes "tag"
kind_word kind.Num = codes "num"
kind_word kind.Text = codes "text"
kind_word kind.Context = codes "context"
kind_word kind.Chunk = codes "chunk"

-- a text as in the value text, without a maximum count
abbrev pub string_shown : Option Label → List ℕ
string_shown (Some (tree.Text max octets)) = quoted_text octets
string_shown _ = []

-- a context handle as in the value text
abbrev pub context_shown : Option Label → List ℕ
context_shown (Some (tree.Context attributes id)) = context_text attributes id
context_shown _ = []

-- what an item holds, where `l` is the label of its node: all but texts and context handles as a number
abbrev pub value_shown : ItemKind → Option Label → ℤ → List ℕ
value_shown kind.Text l z = string_shown l
value_shown kind.Context l z = context_shown l
value_shown _ l z = signed_decimal z

-- where the octets of an item are, how many they are, and what they are
abbrev pub item_head : Item → List ℕ
item_head x = decimal x.at ++ (codes " " ++ (decimal x.len ++ (codes " " ++ kind_word x.kind)))

-- the path of an item's node, and what the item holds
abbrev pub node_shown : Setting → Graph → Item → List ℕ
node_shown w g x =
    path_in (home_paths w g x.home) x.node ++ (codes " " ++ value_shown x.kind (label_in (home_flats g x.home) x.node) x.value)

-- a gap belongs to no node and holds nothing
abbrev pub item_rest : Setting → Graph → ItemKind → Item → List ℕ
item_rest w g kind.Gap x = codes "\n"
item_rest w g _ x = codes " " ++ (node_shown w g x ++ codes "\n")

abbrev pub item_line : Setting → Graph → Item → List ℕ
item_line w g x = item_head x ++ item_rest w g x.kind x

-- a line for each item
abbrev pub explanation : Setting → Graph → List Item → List ℕ
explanation w g xs = flat_map (item_line w g) xs

-- ## Gaps

-- The octets of a gap may have any values (C706, 14.2.2). These lines are the same, but a gap whose octets are not all zero shows them, in
-- hexadecimal digits.

abbrev pub its_octets : List ℕ → Item → List ℕ
its_octets octets x = take x.len (drop x.at octets)

abbrev pub is_zero : ℕ → Bool
is_zero b = b == 0

abbrev pub are_zero : List ℕ → Bool
are_zero os = list_all is_zero os

abbrev pub gap_shown : List ℕ → List ℕ
gap_shown os = elim (are_zero os) [ true ↦ [] | false ↦ codes " x\"" ++ (hex_text os ++ codes "\"") ]

abbrev pub rest_over : Setting → Graph → List ℕ → ItemKind → Item → List ℕ
rest_over w g octets kind.Gap x = gap_shown (its_octets octets x) ++ codes "\n"
rest_over w g octets k x = item_rest w g k x

abbrev pub line_over : Setting → Graph → List ℕ → Item → List ℕ
line_over w g octets x = item_head x ++ rest_over w g octets x.kind x

-- a line for each item of a stream of these octets
abbrev pub explanation_over : Setting → Graph → List ℕ → List Item → List ℕ
explanation_over w g octets xs = flat_map (line_over w g octets) xs

-- 1 of a gap whose octets are not all zero, 0 of any other item
abbrev pub filled : List ℕ → ItemKind → Item → ℕ
filled octets kind.Gap x = elim (are_zero (its_octets octets x)) [ true ↦ 0 | false ↦ 1 ]
filled octets _ x = 0

-- how many gaps have octets that are not all zero
abbrev pub filled_gaps : List ℕ → List Item → ℕ
filled_gaps octets [] = 0
filled_gaps octets (x ∷ xs) = filled octets x.kind x + filled_gaps octets xs
