-- What nodes say alone, and what they say by their types: where each node has the form of its type, both name the same cells.
-- `table` is the table of types, `d` a type, `l` a label, `ks` and `ts` are values, `h` is a home, `n` a node's number, `x` a node, `p` a pointer.
use Rattle.std.proofs.Common.{◌≡◌, ℕ, ◌+◌, true, false, ◌&&◌, List, [], ◌∷◌, ◌++◌, Option, Some, None, refl, ap, ap₂, sym, ◌∙◌, flat_map}
use Rattle.std.proofs.lemmas.List.{append-nil}
use Rattle.std.proofs.lemmas.Grind.{flat_map-append}
use Rattle.nd_types.specs.declared.types.TypeDef.{TypeDef}
use Rattle.nd_types.specs.declared.types.TypeDef.TheVariants as def
use Rattle.nd_types.specs.Table.{Table, type_at, fits_octets}
use Rattle.nd_value.specs.declared.item.Home.{Home}
use Rattle.nd_value.specs.Tree as tree
use Rattle.nd_value.specs.Tree.{Tree, Trees, Label, node, none, more, flat, node_count, is_pointer, cell_in}
use Rattle.nd_value.specs.Agreement.{Agreement}
use Rattle.nd_value.specs.Nodes.{TypedNode, nodes_of, child_types, child_agreements, first_agreements, rest_agreements}
use Rattle.nd_value.specs.Deferral.{Pending, pointer, pointer_by, home_pointers}
use Rattle.nd_value.specs.Misfit.{has_shape, has_range, has_arm}
use Rattle.nd_value.specs.Canon.{target}
use Rattle.nd_value.specs.Names.{cells_in, named_by}
use Rattle.nd_misfits.specs.Pointers.{are_formed}
use Rattle.nd_lemmas.proofs.Booleans.{first_true as and_left, second_true as and_right}

-- the cells that pointers name
abbrev pub cells_named : List Pending → List ℕ
cells_named ps = flat_map (λ p. target p.cell) ps

no_pointer : (d : Option TypeDef) (c : Option ℕ) (h : Home) (n : ℕ) (ags : List Agreement) → pointer_by d false c h n ags ≡ []
no_pointer None c h n ags = refl
no_pointer (Some (def.Prim p)) c h n ags = refl
no_pointer (Some (def.Enum values)) c h n ags = refl
no_pointer (Some (def.Struct members)) c h n ags = refl
no_pointer (Some (def.Array elem bound varying)) c h n ags = refl
no_pointer (Some (def.Text elem bound)) c h n ags = refl
no_pointer (Some (def.Union tag encapsulated arms default)) c h n ags = refl
no_pointer (Some (def.Pointer class to)) c h n ags = refl
no_pointer (Some def.Context) c h n ags = refl
no_pointer (Some (def.Pipe elem)) c h n ags = refl

pointer_there : (d : Option TypeDef) (c : Option ℕ) (ks : Trees) (h : Home) (n : ℕ) (ags : List Agreement) → has_shape d (tree.Ptr c) ks ≡ true
    → cells_named (pointer_by d true c h n ags) ≡ target c
pointer_there None c ks h n ags e = let f : false ≡ true = e in cc
pointer_there (Some (def.Prim p)) c ks h n ags e = let f : false ≡ true = e in cc
pointer_there (Some (def.Enum values)) c ks h n ags e = let f : false ≡ true = e in cc
pointer_there (Some (def.Struct members)) c ks h n ags e = let f : false ≡ true = e in cc
pointer_there (Some (def.Array elem bound varying)) c ks h n ags e = let f : false ≡ true = e in cc
pointer_there (Some (def.Text elem bound)) c ks h n ags e = let f : false ≡ true = e in cc
pointer_there (Some (def.Union tag encapsulated arms default)) c ks h n ags e = let f : false ≡ true = e in cc
pointer_there (Some (def.Pointer class to)) c ks h n ags e = append-nil (target c)
pointer_there (Some def.Context) c ks h n ags e = let f : false ≡ true = e in cc
pointer_there (Some (def.Pipe elem)) c ks h n ags e = let f : false ≡ true = e in cc

node_named : (d : Option TypeDef) (l : Label) (ks : Trees) (h : Home) (n : ℕ) (ags : List Agreement) → has_shape d l ks ≡ true
    → cells_named (pointer_by d (is_pointer l) (cell_in l) h n ags) ≡ target (cell_in l)
node_named d (tree.Num z) ks h n ags e = ap cells_named (no_pointer d None h n ags)
node_named d tree.Rec ks h n ags e = ap cells_named (no_pointer d None h n ags)
node_named d (tree.Arr max offset) ks h n ags e = ap cells_named (no_pointer d None h n ags)
node_named d (tree.Text max octets) ks h n ags e = ap cells_named (no_pointer d None h n ags)
node_named d (tree.Union z) ks h n ags e = ap cells_named (no_pointer d None h n ags)
node_named d (tree.Ptr c) ks h n ags e = pointer_there d c ks h n ags e
node_named d (tree.Context a id) ks h n ags e = ap cells_named (no_pointer d None h n ags)
node_named d tree.Pipe ks h n ags e = ap cells_named (no_pointer d None h n ags)
node_named d tree.Unread ks h n ags e = ap cells_named (no_pointer d None h n ags)

pub cells_both : (l : Label) (ks ts : Trees) → cells_in (more (node l ks) ts) ≡ target (cell_in l) ++ (cells_in ks ++ cells_in ts)
cells_both l ks ts = ap (λ xs. target (cell_in l) ++ xs) (flat_map-append (λ f. target (cell_in f.0)) (flat ks) (flat ts))

-- the pointers among values of these types name the cells that their labels name
pub names_of : (table : Table) (h : Home) (types : List ℕ) (ags : List (List Agreement)) (n : ℕ) (ts : Trees) → are_formed table types ts ≡ true
    → cells_named (flat_map (pointer table h) (nodes_of table types ags n ts)) ≡ cells_in ts
names_of table h types ags n none e = refl
names_of table h [] ags n (more t ts) e = let f : false ≡ true = e in cc
names_of table h (t ∷ types) ags n (more (node l ks) ts) e =
    let d : Option TypeDef = type_at table t in
    let e1 = and_right (has_shape d l ks) _ e in
    let e2 = and_right (has_range fits_octets table d l) _ e1 in
    let e3 : (are_formed table (child_types d l ks) ks && are_formed table types ts) ≡ true = and_right (has_arm d l) _ e2 in
    let x : TypedNode = record { node = n; of = t; agreements = first_agreements ags; label = l; kids = ks } in
    let kids : List TypedNode = nodes_of table (child_types d l ks) (child_agreements d ks) (n + 1) ks in
    let rest : List TypedNode = nodes_of table types (rest_agreements ags) (n + 1 + node_count ks) ts in
    let both : cells_named (flat_map (pointer table h) (kids ++ rest)) ≡ cells_in ks ++ cells_in ts =
    ap cells_named (flat_map-append (pointer table h) kids rest)
    ∙ flat_map-append (λ p. target p.cell) (flat_map (pointer table h) kids) (flat_map (pointer table h) rest)
    ∙ ap₂ (λ xs ys. xs ++ ys)
    (names_of table h (child_types d l ks) (child_agreements d ks) (n + 1) ks (and_left (are_formed table (child_types d l ks) ks) (are_formed table types ts) e3))
    (names_of table h types (rest_agreements ags) (n + 1 + node_count ks) ts (and_right (are_formed table (child_types d l ks) ks) (are_formed table types ts) e3)) in
    flat_map-append (λ p. target p.cell) (pointer table h x) (flat_map (pointer table h) (kids ++ rest))
    ∙ ap₂ (λ xs ys. xs ++ ys) (node_named d l ks h n (first_agreements ags) (and_left (has_shape d l ks) _ e)) both
    ∙ sym (cells_both l ks ts)

-- the same of a home
pub home_names : (table : Table) (h : Home) (t : ℕ) (v : Tree) → are_formed table (t ∷ []) (more v none) ≡ true
    → cells_named (home_pointers table h t v) ≡ named_by v
home_names table h t v e = names_of table h (t ∷ []) [] 0 (more v none) e
