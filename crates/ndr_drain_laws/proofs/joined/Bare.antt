-- Entries of pipes name no cells.
use Rattle.std.proofs.Common.{◌≡◌, ◌∙◌, ap, ap₂, subst, refl, ℕ, ◌+◌, zero, suc, ℤ, Bool, true, false, List, [], ◌∷◌, ◌++◌, length, drop, replicate, Option, Some, None}
use Rattle.std.specs.List.{AllByRecursion, list_all}
use Rattle.std.proofs.lemmas.Bool.{and_parts}
use Rattle.nd_base.specs.declared.octets.Order.{Order}
use Rattle.nd_types.specs.declared.types.Arm.{Arm}
use Rattle.nd_types.specs.declared.types.Class.{Class}
use Rattle.nd_types.specs.declared.types.Class.TheVariants.{Ref, Unique, Full}
use Rattle.nd_types.specs.declared.types.TypeDef.{TypeDef}
use Rattle.nd_types.specs.declared.types.TypeDef.TheVariants as def
use Rattle.nd_types.specs.Roots.{Root}
use Rattle.nd_types.specs.Table.{Table, type_at}
use Rattle.nd_value.specs.Agreement.{Agreement}
use Rattle.nd_value.specs.declared.item.Home.{Home}
use Rattle.nd_value.specs.declared.item.Home.TheVariants as home
use Rattle.nd_value.specs.Tree as tree
use Rattle.nd_value.specs.Tree.{Tree, Trees, node, none, more, count, node_count, trees, Label, is_pointer}
use Rattle.nd_value.specs.Misfit.{is_partial_node}
use Rattle.nd_value.specs.Nodes.{TypedNode, child_agreements, child_types, first_agreements, home_nodes, nodes_of, rest_agreements}
use Rattle.nd_value.specs.Setting.{Setting, root_list, unread}
use Rattle.nd_value.proofs.Apart.{all_left, all_right}
use Rattle.nd_grammar.specs.Entry.{Entry, Number, full_cells, before_children, child_tests, counts, entries, in_place, own_tests, tag_entries, tests}
use Rattle.nd_grammar.specs.LegalSide.{IsLegalSide}
use Rattle.nd_grammar.specs.Stream.{pipe_entries, pipes_entries}
use Rattle.nd_grammar.proofs.next.NextInPlace.{View, view, v_prim, v_enum, v_struct, v_array, v_text, v_union, v_pointer, v_context, v_unread}
use Rattle.nd_grammar.proofs.next.NextPipes.{unread_pipe}
use Rattle.ndr_drain_laws.specs.parts.Parts.{Spot, elem_at, no_graph, part_entries}
use Rattle.ndr_drain_laws.proofs.parts.Chunks.{count_trees}
use Rattle.ndr_drain_laws.proofs.parts.Elements.{NamesNone, in_pipe}
use Rattle.ndr_drain_laws.proofs.parts.Spelt.{full_append}
use Rattle.ndr_drain_laws.proofs.joined.Begun.{entries_after}
use Rattle.ndr_drain_laws.proofs.joined.Partial.{names_none}

abbrev Bare : List Entry → Type 0
Bare ms = full_cells ms ≡ []

both_bare : (ms ns : List Entry) → Bare ms → Bare ns → Bare (ms ++ ns)
both_bare ms ns a b = full_append ms ns ∙ ap₂ (λ x y. x ++ y) a b

tests_bare : (h : Home) (n : ℕ) (v : Tree) (ags : List Agreement) → Bare (tests h n v ags)
tests_bare h n v [] = refl
tests_bare h n v (a ∷ ags) = tests_bare h n v ags

own_bare : (b : Bool) (h : Home) (n : ℕ) (v : Tree) (ags : List Agreement) → Bare (own_tests b h n v ags)
own_bare true h n v ags = refl
own_bare false h n v ags = tests_bare h n v ags

children_bare : (h : Home) (ags : List (List Agreement)) (n : ℕ) (ts : Trees) → Bare (child_tests h ags n ts)
children_bare h ags n none = refl
children_bare h ags n (more (node l ks) ts) =
    both_bare (own_tests (is_pointer l) h n (node l ks) (first_agreements ags)) (child_tests h (rest_agreements ags) (n + 1 + node_count ks) ts)
    (own_bare (is_pointer l) h n (node l ks) (first_agreements ags)) (children_bare h (rest_agreements ags) (n + 1 + node_count ks) ts)

tag_bare : (h : Home) (n : ℕ) (d : Option TypeDef) (arms : List Arm) (default : Option Arm) (v : ℤ) → Bare (entries h n (tag_entries d arms default v))
tag_bare h n (Some (def.Prim p)) arms default v = refl
tag_bare h n (Some (def.Enum vs)) arms default v = refl
tag_bare h n None arms default v = refl
tag_bare h n (Some _) arms default v = refl

counts_bare : (h : Home) (n : ℕ) (b : Bool) (m o k : ℕ) → Bare (entries h n (counts b m o k))
counts_bare h n true m o k = refl
counts_bare h n false m o k = refl

number_bare : (h : Home) (n : ℕ) (k : Class) (to : ℕ) (c : Option ℕ) → NamesNone (tree.Ptr c) → Bare (entries h n (Number k to c ∷ []))
number_bare h n k to (Some c) e = absurd (e c refl)
number_bare h n Ref to None e = refl
number_bare h n Unique to None e = refl
number_bare h n Full to None e = refl

node_bare : (table : Table) (h : Home) (t n : ℕ) (d : Option TypeDef) (l : Label) (ks : Trees) → View table t d l → NamesNone l → Bare (entries h n (before_children table t d l ks))
node_bare table h t n d l ks v_prim e = refl
node_bare table h t n d l ks v_enum e = refl
node_bare table h t n d l ks v_struct e = refl
node_bare table h t n d l ks (v_array {v = b} {m = m} {o = o}) e = counts_bare h n b m o (count ks)
node_bare table h t n d l ks v_text e = refl
node_bare table h t n d l ks (v_union {tag = tag} {arms = arms} {d = default} {v = v}) e = tag_bare h n (type_at table tag.0) arms default v
node_bare table h t n d l ks (v_pointer {k = k} {to = to} {c = c}) e = number_bare h n k to.0 c e
node_bare table h t n d l ks v_context e = refl
node_bare table h t n d l ks (v_unread f) e = ap (λ xs. full_cells (entries h n xs)) (f ks)

values_bare : (table : Table) (h : Home) (types : List ℕ) (ags : List (List Agreement)) (n m : ℕ) (ts : Trees) → AllByRecursion (λ x. NamesNone x.label) (nodes_of table types ags m ts)
    → Bare (in_place table h types n ts)
values_bare table h types ags n m none a = refl
values_bare table h [] ags n m (more t ts) a = refl
values_bare table h (t ∷ types) ags n m (more (node l ks) ts) a =
    let d : Option TypeDef = type_at table t in
    let A : List Entry = entries h n (before_children table t d l ks) in
    let B : List Entry = in_place table h (child_types d l ks) (n + 1) ks in
    let C : List Entry = child_tests h (child_agreements d ks) (n + 1) ks in
    let D : List Entry = in_place table h types (n + 1 + node_count ks) ts in
    let K : List TypedNode = nodes_of table (child_types d l ks) (child_agreements d ks) (m + 1) ks in
    let L : List TypedNode = nodes_of table types (rest_agreements ags) (m + 1 + node_count ks) ts in
    both_bare A (B ++ (C ++ D)) (node_bare table h t n d l ks (view table t d l) a.0)
    (both_bare B (C ++ D) (values_bare table h (child_types d l ks) (child_agreements d ks) (n + 1) (m + 1) ks (all_left (λ x. NamesNone x.label) K L a.1))
    (both_bare C D (children_bare h (child_agreements d ks) (n + 1) ks)
    (values_bare table h types (rest_agreements ags) (n + 1 + node_count ks) (m + 1 + node_count ks) ts (all_right (λ x. NamesNone x.label) K L a.1))))

nodes_name_none : (table : Table) (xs : List TypedNode) → list_all (is_partial_node table no_graph) xs ≡ true → AllByRecursion (λ x. NamesNone x.label) xs
nodes_name_none table [] e = tt
nodes_name_none table (x ∷ xs) e =
    let (a, b) = and_parts (is_partial_node table no_graph x) (list_all (is_partial_node table no_graph) xs) e in
    (names_none table x a, nodes_name_none table xs b)

elements_name_none : (table : Table) (t : ℕ) (vs : List Tree) → AllByRecursion (λ v. list_all (is_partial_node table no_graph) (home_nodes table t v) ≡ true) vs
    → AllByRecursion (λ v. AllByRecursion (λ x. NamesNone x.label) (home_nodes table t v)) vs
elements_name_none table t [] a = tt
elements_name_none table t (v ∷ vs) a = (nodes_name_none table (home_nodes table t v) a.0, elements_name_none table t vs a.1)

-- a chunk whose elements may be unread in part
pub part_bare : (w : Setting) (s : Spot) (vs : List Tree) → AllByRecursion (λ v. list_all (is_partial_node w.table no_graph) (home_nodes w.table (elem_at w s.root) v) ≡ true) vs
    → full_cells (part_entries w s (length vs) vs) ≡ []
part_bare w s vs a =
    let t : ℕ = elem_at w s.root in
    let nodes : AllByRecursion (λ x. NamesNone x.label) (nodes_of w.table (replicate (count (trees vs)) t) [] s.node (trees vs)) =
    in_pipe w.table (λ of ags l ks. NamesNone l) t s.node vs (elements_name_none w.table t vs a) in
    values_bare w.table (home.Root s.root) (replicate (length vs) t) [] s.node s.node (trees vs)
    (subst (λ k. AllByRecursion (λ x. NamesNone x.label) (nodes_of w.table (replicate k t) [] s.node (trees vs))) (count_trees vs) nodes)

unread_bare : (w : Setting) (i : ℕ) (rs : List Root) (m : ℕ) → Bare (pipes_entries w.table i rs (replicate m unread) (replicate {A = List ℕ} m []))
unread_bare w i [] m = refl
unread_bare w i (r ∷ rs) zero = refl
unread_bare w i (r ∷ rs) (suc m) =
    both_bare (pipe_entries w.table (home.Root i) (type_at w.table r.of) [] unread) (pipes_entries w.table (i + 1) rs (replicate m unread) (replicate {A = List ℕ} m []))
    (ap full_cells (unread_pipe w.table (home.Root i) (type_at w.table r.of) [] none)) (unread_bare w (i + 1) rs m)

pub after_bare : (w : Setting) (side : IsLegalSide w) (order : Order) (s : Spot) (els : List Tree) (m : ℕ) → full_cells (entries_after w side order s els m) ≡ []
after_bare w side order s [] m = unread_bare w (s.root + 1) (drop (s.root + 1) (root_list w)) m
after_bare w side order s (v ∷ vs) m = unread_bare w (s.root + 1) (drop (s.root + 1) (root_list w)) m
