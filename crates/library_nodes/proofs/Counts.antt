-- How many nodes of values a listing says: at most as many as it has nodes and numbers.
-- `table` are the types of an interface, `d` is a type, `x` a node, `xs` are nodes, `zs` numbers, `os` octets, `y` is what a node says, `fs` are nodes of values.
use Rattle.std.proofs.Common.{◌≡◌, ◌∙◌, ◌≤◌, ◌<◌, ◌^◌, ℕ, zero, suc, ◌+◌, ℤ, Bool, true, false, leb, ◌&&◌, List, [], ◌∷◌, ◌++◌, length, map, take, drop, replicate}
use Rattle.std.proofs.Common.{Option, Some, None, refl, sym, ap, subst, arith, length-append}
use Rattle.std.specs.List.{AllByRecursion}
use Rattle.std.proofs.lemmas.List.{take-append-drop}
use Rattle.std.proofs.lemmas.Option.{same_Some}
use Rattle.nd_types.specs.declared.types.Field.{Field}
use Rattle.nd_types.specs.declared.types.TypeDef.{TypeDef}
use Rattle.nd_types.specs.declared.types.TypeDef.TheVariants as def
use Rattle.nd_types.specs.Table.{Table, type_at, selected}
use Rattle.nd_value.specs.Conforms.{FewNodes}
use Rattle.nd_value.specs.Nodes.{selected_types}
use Rattle.nd_value.specs.Tree as tree
use Rattle.nd_value.specs.Tree.{Flat, Label, Tree, Trees, flat, more, node, node_count, none, trees}
use Rattle.nd_lemmas.proofs.Lists.{length_map}
use Rattle.library_nodes.specs.declared.description.Description.{Description}
use Rattle.library_nodes.specs.Left.{Left}
use Rattle.library_nodes.specs.Listings.{Saying, Outcome, Said, Wrong, after, goes_on, no_more, said_from, said, saying, plain, numbered, elements_by}
use Rattle.library_nodes.specs.Listings.{has_form, has_parts, has_numbers}
use Rattle.library_nodes.specs.Listings.{is_numeral, is_wide, is_pointer, is_context, meant, number_flat, cell_numbered}

-- a node says itself and its numbers, of which it leaves the others
plain_few : (test : Bool) (label : Label) (us zs os : List ℕ) (y : Saying) → plain test label us zs os ≡ Some y → length y.flats + length y.numbers ≤ suc (length zs)
plain_few true label us zs os y e =
    subst (λ (s : Saying). length s.flats + length s.numbers ≤ suc (length zs)) (same_Some _ _ e) (omega arith)
plain_few false label us zs os y e = cc

numbered_few : (test wide : Bool) (label : Label) (k : ℕ) (zs os : List ℕ) (y : Saying) → numbered test wide label k zs os ≡ Some y
    → length y.flats + length y.numbers ≤ suc (length zs)
numbered_few true wide label k zs os y e =
    let parts : length (take k zs) + length (drop k zs) ≡ length zs = sym (length-append (take k zs) (drop k zs)) ∙ ap (λ (us : List ℕ). length us) (take-append-drop k zs) in
    subst (λ (s : Saying). length s.flats + length s.numbers ≤ suc (length zs)) (same_Some _ _ e)
    (omega (arith, parts, length_map (number_flat wide) (take k zs)))
numbered_few false wide label k zs os y e = cc

elements_few : (b wide : Bool) (kind elem : ℕ) (label : Label) (x : Description) (zs os : List ℕ) (y : Saying) → elements_by b wide kind elem label x zs os ≡ Some y
    → length y.flats + length y.numbers ≤ suc (length zs)
elements_few true wide kind elem label x zs os y e = numbered_few (has_numbers x kind && leb x.count (length zs)) wide label x.count zs os y e
elements_few false wide kind elem label x zs os y e = plain_few (has_parts x kind) label (replicate x.count elem) zs os y e

saying_few : (table : Table) (d : Option TypeDef) (x : Description) (zs os : List ℕ) (y : Saying) → saying table d x zs os ≡ Some y
    → length y.flats + length y.numbers ≤ suc (length zs)
saying_few table (Some (def.Prim p)) x zs os y e = plain_few (has_form x 1 0) (tree.Num (meant (is_wide (Some (def.Prim p))) x.number)) [] zs os y e
saying_few table (Some (def.Enum values)) x zs os y e = plain_few (has_form x 1 0) (tree.Num (meant (is_wide (Some (def.Enum values))) x.number)) [] zs os y e
saying_few table (Some (def.Struct members)) x zs os y e = plain_few (has_form x 2 (length members)) tree.Rec (map (λ (f : Field). f.of.0) members) zs os y e
saying_few table (Some (def.Array elem bound varying)) x zs os y e =
    elements_few (is_numeral (type_at table elem.0)) (is_wide (type_at table elem.0)) 3 elem.0 (tree.Arr x.max x.offset) x zs os y e
saying_few table (Some (def.Text elem bound)) x zs os y e =
    plain_few (has_form x 4 0 && leb x.length (length os)) (tree.Text x.max (take x.length os)) [] zs (drop x.length os) y e
saying_few table (Some (def.Union tag encapsulated arms default)) x zs os y e =
    let z : ℤ = meant (is_wide (type_at table tag.0)) x.number in
    let us : List ℕ = selected_types (selected arms default z) in
    plain_few (has_form x 5 (length us)) (tree.Union z) us zs os y e
saying_few table (Some (def.Pointer class to)) x zs os y e = plain_few (is_pointer x) (tree.Ptr (cell_numbered x.number)) [] zs os y e
saying_few table (Some def.Context) x zs os y e = plain_few (is_context x && leb 16 (length os)) (tree.Context x.number (take 16 os)) [] zs (drop 16 os) y e
saying_few table (Some (def.Pipe elem)) x zs os y e =
    elements_few (is_numeral (type_at table elem.0)) (is_wide (type_at table elem.0)) 8 elem.0 tree.Pipe x zs os y e
saying_few table None x zs os y e = cc

none_said : (ts zs os : List ℕ) (fs : List Flat) → no_more ts zs os ≡ Said fs → length fs ≤ 0 + length zs
none_said [] [] [] fs e =
    let same : [] ≡ fs = cc in
    subst (λ (gs : List Flat). length gs ≤ 0 + length {A = ℕ} []) same (omega arith)
none_said [] (z ∷ zs) os fs e = cc
none_said [] [] (o ∷ os) fs e = cc
none_said (t ∷ ts) zs os fs e = cc

after_few : (gs : List Flat) (m : ℕ) (o : Outcome) (fs : List Flat) → ((hs : List Flat) → o ≡ Said hs → length hs ≤ m) → after gs o ≡ Said fs → length fs ≤ length gs + m
after_few gs m (Said hs) fs few e =
    let same : gs ++ hs ≡ fs = cc in
    omega (arith, few hs refl, length-append gs hs, ap (λ (ks : List Flat). length ks) same)
after_few gs m (Wrong k) fs few e = cc

step_few : (n left : ℕ) (zs : List ℕ) (s : Option Saying) (next : Saying → Outcome) (fs : List Flat)
    → ((y : Saying) → s ≡ Some y → length y.flats + length y.numbers ≤ suc (length zs)) → ((y : Saying) (gs : List Flat) → next y ≡ Said gs → length gs ≤ n + length y.numbers)
    → goes_on left s next ≡ Said fs → length fs ≤ suc n + length zs
step_few n left zs None next fs few later e = cc
step_few n left zs (Some y) next fs few later e =
    let all : length fs ≤ length y.flats + (n + length y.numbers) = after_few y.flats (n + length y.numbers) (next y) fs (later y) e in
    let own : length y.flats + length y.numbers ≤ suc (length zs) = few y refl in
    omega (arith, all, own)

said_few : (table : Table) (ts : List ℕ) (xs : List Description) (zs os : List ℕ) (fs : List Flat) → said_from table ts xs zs os ≡ Said fs → length fs ≤ length xs + length zs
said_few table ts [] zs os fs e = none_said ts zs os fs e
said_few table [] (x ∷ xs) zs os fs e = cc
said_few table (t ∷ ts) (x ∷ xs) zs os fs e =
    step_few (length xs) (suc (length xs)) zs (saying table (type_at table t) x zs os) (λ y. said_from table (y.parts ++ ts) xs y.numbers y.octets) fs
    (saying_few table (type_at table t) x zs os) (λ y gs h. said_few table (y.parts ++ ts) xs y.numbers y.octets gs h) e

length_flat : (ts : Trees) → length (flat ts) ≡ node_count ts
length_flat none = refl
length_flat (more (node l ks) ts) = omega (arith, length-append (flat ks) (flat ts), length_flat ks, length_flat ts)

few_each : (vs : List Tree) → node_count (trees vs) < 2 ^ 32 → FewNodes vs
few_each [] low = tt
few_each (node l ks ∷ vs) low = (omega (arith, low), few_each vs (omega (arith, low)))

-- the nodes of the values that a listing says are numbered in 32 bits
pub few_nodes : (table : Table) (ts : List ℕ) (l : Left) (vs : List Tree) → said table ts l ≡ Said (flat (trees vs)) → length l.nodes ≤ 1073741824
    → length l.numbers ≤ 1073741824 → FewNodes vs
few_nodes table ts l vs e nodes numbers =
    let few = said_few table ts l.nodes l.numbers l.octets (flat (trees vs)) e in
    few_each vs (omega (arith, few, length_flat (trees vs), nodes, numbers))
