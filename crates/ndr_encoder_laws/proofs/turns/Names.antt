-- What the pieces of a value name is what its pointers name.
use Rattle.std.proofs.Common.{◌≡◌, ℕ, ◌+◌, ◌*◌, ◌^◌, ◌<◌, ◌≤◌, zero, suc, ℤ, Bool, true, false, List, [], ◌∷◌, ◌++◌, Option, Some, None, refl, ap, ap₂, sym, ◌∙◌, subst, arith, append_assoc}
use Rattle.std.specs.Prelude.{flat_map, ◌==◌}
use Rattle.nd_types.specs.declared.types.Operation.{Operation}
use Rattle.nd_types.specs.declared.types.TypeDef.{TypeDef}
use Rattle.nd_types.specs.declared.types.TypeDef.TheVariants as def
use Rattle.nd_types.specs.declared.types.Arm.{Arm}
use Rattle.nd_types.specs.Table.{Table, type_at, width}
use Rattle.nd_types.specs.Layout.{align_of, hoists}
use Rattle.nd_value.specs.declared.item.Home.{Home}
use Rattle.nd_value.specs.Agreement.{Agreement}
use Rattle.nd_value.specs.Canon.{target}
use Rattle.nd_value.specs.Tree as tree
use Rattle.nd_value.specs.Tree.{Tree, Trees, node, none, more, count, node_count, Label}
use Rattle.nd_value.specs.Nodes.{TypedNode, nodes_of, child_types, child_agreements, first_agreements, rest_agreements}
use Rattle.nd_value.specs.Deferral.{Pending, pointer, pointer_by, home_pointers}
use Rattle.nd_grammar.specs.Entry.{before_children, counts, tag_entries, hoisted}
use Rattle.ndr_code.specs.Code.{whole_at, code_of}
use Rattle.ndr_encoder_laws.specs.pieces.Pieces.{Piece, Gap, Figure, gap_pieces, named_cell, piece_names, pieces_names}
use Rattle.ndr_encoder_laws.specs.pieces.Shown.{kinds_pieces, values_pieces}
use Rattle.ndr_encoder_laws.specs.written.Shaped.{Form, form_num, form_enum, form_struct, form_array, form_text, form_union, form_pointer, form_context, Shaped}
use Rattle.ndr_encoder_laws.proofs.written.Runs.{home_written}
use Rattle.ndr_encoder_laws.specs.turns.Turned.{STEPS, names_of, cells_of}
use Rattle.std.proofs.lemmas.Grind.{flat_map-append as flat_joined}

-- what a pointer names, with the address of the run of its referent
abbrev pub name_of : Table → Pending → List (ℕ × ℕ)
name_of table p = named_cell p.cell (whole_at table p.to)

pub names_joined : (xs ys : List Piece) → pieces_names (xs ++ ys) ≡ pieces_names xs ++ pieces_names ys
names_joined [] ys = refl
names_joined (x ∷ xs) ys = ap (λ l. piece_names x ++ l) (names_joined xs ys) ∙ sym (append_assoc (piece_names x) (pieces_names xs) (pieces_names ys))

pub gap_names : (b : Bool) (n : ℕ) → pieces_names (elim b [ true ↦ [] | false ↦ Gap n ∷ [] ]) ≡ []
gap_names true n = refl
gap_names false n = refl

pub counts_names : (table : Table) (varying : Bool) (max offset n : ℕ) → pieces_names (kinds_pieces table (counts varying max offset n)) ≡ []
counts_names table true max offset n = refl
counts_names table false max offset n = refl

tag_names : (table : Table) (arms : List Arm) (default : Option Arm) (v : ℤ) (D : Option TypeDef)
    → pieces_names (kinds_pieces table (tag_entries D arms default v)) ≡ []
tag_names table arms default v (Some (def.Prim p)) =
    names_joined (gap_pieces (width p)) (Figure p v ∷ []) ∙ ap (λ l. l ++ []) (gap_names (width p == 1) (width p))
tag_names table arms default v (Some (def.Enum values)) = refl
tag_names table arms default v d = refl

-- before its children a node names what it names as a pointer
own_names : (table : Table) (h : Home) (n : ℕ) (given : List Agreement) {t : ℕ} {l : Label} {ks : Trees} → Form table t l ks
    → pieces_names (kinds_pieces table (before_children table t (type_at table t) l ks))
    ≡ flat_map (name_of table) (pointer table h (record { node = n; of = t; agreements = given; label = l; kids = ks }))
own_names table h n given (form_num {t = t} {p = p} {z = z} is same) =
    subst (λ D. pieces_names (kinds_pieces table (before_children table t D (tree.Num z) none)) ≡ flat_map (name_of table) (pointer_by D false None h n given)) (sym is)
    (names_joined (gap_pieces (width p)) (Figure p z ∷ []) ∙ ap (λ l. l ++ []) (gap_names (width p == 1) (width p)))
own_names table h n given (form_enum {t = t} {values = values} {z = z} is) =
    subst (λ D. pieces_names (kinds_pieces table (before_children table t D (tree.Num z) none)) ≡ flat_map (name_of table) (pointer_by D false None h n given)) (sym is) refl
own_names table h n given (form_struct {t = t} {members = members} {ks = ks} is) =
    subst (λ D. pieces_names (kinds_pieces table (before_children table t D tree.Rec ks)) ≡ flat_map (name_of table) (pointer_by D false None h n given)) (sym is)
    (names_joined (gap_pieces (align_of table t)) [] ∙ ap (λ l. l ++ []) (gap_names (align_of table t == 1) (align_of table t)))
own_names table h n given (form_array {t = t} {elem = elem} {bound = bound} {varying = varying} {max = max} {offset = offset} {ks = ks} is) =
    subst (λ D. pieces_names (kinds_pieces table (before_children table t D (tree.Arr max offset) ks)) ≡ flat_map (name_of table) (pointer_by D false None h n given)) (sym is)
    (counts_names table varying max offset (count ks))
own_names table h n given (form_text {t = t} {elem = elem} {bound = bound} {max = max} {os = os} is) =
    subst (λ D. pieces_names (kinds_pieces table (before_children table t D (tree.Text max os) none)) ≡ flat_map (name_of table) (pointer_by D false None h n given)) (sym is) refl
own_names table h n given (form_union {t = t} {tag = tag} {own = own} {arms = arms} {default = default} {v = v} {ks = ks} b is tagged chosen) =
    subst (λ D. pieces_names (kinds_pieces table (before_children table t D (tree.Union v) ks)) ≡ flat_map (name_of table) (pointer_by D false None h n given)) (sym is)
    (tag_names table arms default v (type_at table tag.0))
own_names table h n given (form_pointer {t = t} {class = class} {to = to} {c = c} is) =
    subst (λ D. pieces_names (kinds_pieces table (before_children table t D (tree.Ptr c) none)) ≡ flat_map (name_of table) (pointer_by D true c h n given)) (sym is) refl
own_names table h n given (form_context {t = t} {attributes = attributes} {id = os} is) =
    subst (λ D. pieces_names (kinds_pieces table (before_children table t D (tree.Context attributes os) none)) ≡ flat_map (name_of table) (pointer_by D false None h n given)) (sym is) refl

-- What the pieces of values name is what their pointers name, in their order.
values_names : (d : ℕ) (table : Table) (h : Home) (types : List ℕ) (given : List (List Agreement)) (n : ℕ) (ts : Trees) → Shaped d table types ts
    → pieces_names (values_pieces table types ts) ≡ flat_map (name_of table) (flat_map (pointer table h) (nodes_of table types given n ts))
values_names d table h [] given n none s = refl
values_names d table h [] given n (more u us) s = absurd s
values_names d table h (t ∷ types) given n none s = absurd s
values_names zero table h (t ∷ types) given n (more u us) s = absurd s
values_names (suc d) table h (t ∷ types) given n (more (node l ks) ts) s =
    let D = type_at table t in
    let K : List Piece = kinds_pieces table (before_children table t D l ks) in
    let V : List Piece = values_pieces table (child_types D l ks) ks in
    let R : List Piece = values_pieces table types ts in
    let x : TypedNode = record { node = n; of = t; agreements = first_agreements given; label = l; kids = ks } in
    let A : List TypedNode = nodes_of table (child_types D l ks) (child_agreements D ks) (n + 1) ks in
    let B : List TypedNode = nodes_of table types (rest_agreements given) (n + 1 + node_count ks) ts in
    let P = pointer table h in
    names_joined K (V ++ R)
    ∙ ap₂ (λ u v. u ++ v) (own_names table h n (first_agreements given) s.0)
    (names_joined V R
    ∙ ap₂ (λ u v. u ++ v) (values_names d table h (child_types D l ks) (child_agreements D ks) (n + 1) ks s.1.0)
    (values_names (suc d) table h types (rest_agreements given) (n + 1 + node_count ks) ts s.1.1)
    ∙ sym (flat_joined (name_of table) (flat_map P A) (flat_map P B)) ∙ sym (ap (flat_map (name_of table)) (flat_joined P A B)))
    ∙ sym (flat_joined (name_of table) (P x) (flat_map P (A ++ B)))

hoisted_names : (table : Table) (b : Bool) (l : Label) (m : ℕ) → pieces_names (kinds_pieces table (hoisted b l m)) ≡ []
hoisted_names table false l m = refl
hoisted_names table true tree.Unread m = refl
hoisted_names table true (tree.Num z) m = refl
hoisted_names table true tree.Rec m = refl
hoisted_names table true (tree.Arr a o) m = refl
hoisted_names table true (tree.Text a os) m = refl
hoisted_names table true (tree.Union v) m = refl
hoisted_names table true (tree.Ptr c) m = refl
hoisted_names table true (tree.Context a i) m = refl
hoisted_names table true tree.Pipe m = refl

-- a run names what the pointers of its value name
pub names_are : (table : Table) (operations : List Operation) (h : Home) (t : ℕ) (v : Tree) → Shaped 32 table (t ∷ []) (more v none) → node_count (more v none) < 2 ^ 32
    → names_of (code_of table operations) (whole_at table t) v ≡ flat_map (name_of table) (home_pointers table h t v)
names_are table operations h t (node l ks) s few =
    let H : List Piece = kinds_pieces table (hoisted (hoists table t) l 0) in
    let V : List Piece = values_pieces table (t ∷ []) (more (node l ks) none) in
    let enough : 8 + 9 * node_count (more (node l ks) none) ≤ STEPS = omega (arith, few) in
    let shallow : suc 31 < 36 = omega arith in
    ap pieces_names (home_written table operations 0 1 31 t l ks s shallow STEPS enough) ∙ names_joined H V ∙ ap (λ x. x ++ pieces_names V) (hoisted_names table (hoists table t) l 0)
    ∙ values_names 32 table h (t ∷ []) [] 0 (more (node l ks) none) s

one_cell : (c : Option ℕ) (a : ℕ) → cells_of (named_cell c a) ≡ target c
one_cell None a = refl
one_cell (Some c) a = refl

cells_joined : (xs ys : List (ℕ × ℕ)) → cells_of (xs ++ ys) ≡ cells_of xs ++ cells_of ys
cells_joined [] ys = refl
cells_joined (x ∷ xs) ys = ap (λ l. x.0 ∷ l) (cells_joined xs ys)

-- the cells of these names
pub cells_are : (table : Table) (ps : List Pending) → cells_of (flat_map (name_of table) ps) ≡ flat_map (λ (p : Pending). target p.cell) ps
cells_are table [] = refl
cells_are table (p ∷ ps) =
    cells_joined (name_of table p) (flat_map (name_of table) ps) ∙ ap₂ (λ u v. u ++ v) (one_cell p.cell (whole_at table p.to)) (cells_are table ps)
