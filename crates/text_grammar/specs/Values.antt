-- Values as they are read: their forms and the pointers among them, by one recursion over lists of values.
-- `v` is a version, `d` a type, `t` a type's number, `l` a node's label, `ks` are its children, `ds` are dues, `c` is a cell's number.
use Rattle.std.specs.Prelude.{ℕ, Bool, true, false, ◌&&◌, List, [], ◌∷◌, map, Option, Some}
use Rattle.nd_types.specs.declared.types.TypeDef.{TypeDef}
use Rattle.nd_types.specs.declared.types.TypeDef.TheVariants as def
use Rattle.nd_types.specs.Table.{Table, type_at}
use Rattle.nd_value.specs.Tree as tree
use Rattle.nd_value.specs.Tree.{Tree, Trees, node, none, more, Label}
use Rattle.nd_value.specs.Nodes.{child_types}
use Rattle.text_grammar.specs.declared.version.Version.{Version}
use Rattle.text_grammar.specs.Tokens.{Token}
use Rattle.text_grammar.specs.Written.{token_of, value_pieces}
use Rattle.text_grammar.specs.Reads.{has_text_form}
use Rattle.text_grammar.specs.Dues.{Due, Reading, with_name}

abbrev pub reading : Version → List Due → List (ℕ × ℕ) → ℕ → Reading
reading v ds named cells = record { version = v; due = ds; named = named; cells = cells }

-- as many values as types, each node of the form that a text can name
abbrev pub have_forms : Version → Table → List ℕ → Trees → Bool
have_forms v table types none = elim types [ [] ↦ true | _ ↦ false ]
have_forms v table [] (more t ts) = false
have_forms v table (t ∷ types) (more (node l ks) ts) =
    has_text_form v table (type_at table t) l ks && (have_forms v table (child_types (type_at table t) l ks) ks && have_forms v table types ts)

-- a pointer that names a cell gives the cell's type, if it is the first to name it
abbrev pub noted_node : Option TypeDef → Label → List (ℕ × ℕ) → List (ℕ × ℕ)
noted_node (Some (def.Pointer class to)) (tree.Ptr (Some c)) named = with_name named c to.0
noted_node d l named = named

-- the cells that have a type after values of these types
abbrev pub noted : Table → List ℕ → Trees → List (ℕ × ℕ) → List (ℕ × ℕ)
noted table types none named = named
noted table [] (more t ts) named = named
noted table (t ∷ types) (more (node l ks) ts) named =
    noted table types ts (noted table (child_types (type_at table t) l ks) ks (noted_node (type_at table t) l named))

-- the tokens of a value
abbrev pub value_tokens : Version → Table → ℕ → Tree → List Token
value_tokens v table t value = map token_of (value_pieces v table t value)
