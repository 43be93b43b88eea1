-- The first node of each child in the flat list of nodes: agreements are tried by these nodes, without a walk.
use Rattle.std.proofs.Common.{◌≡◌, ℕ, ◌+◌, zero, suc, List, [], ◌∷◌, ◌++◌, length, Some, refl, ap, sym, ◌∙◌, subst, arith, append_assoc, length-append}
use Rattle.std.specs.List.{slice_get}
use Rattle.std.proofs.lemmas.Option.{same_Some}
use Rattle.nd_types.specs.declared.types.Attr.{Attr}
use Rattle.nd_types.specs.declared.types.Attr.TheVariants as attr
use Rattle.nd_value.specs.Tree as tree
use Rattle.nd_value.specs.Tree.{Tree, Trees, node, none, more, Label, Flat, flat, count, node_count}
use Rattle.nd_value.specs.Agreement.{number_of, number_in, found_in, offset_of, actual}
use Rattle.nd_grammar.specs.Reader.{tree_nodes}
use Rattle.std.specs.Prelude.{pos, ◌-ℤ◌}
use Rattle.ndr_decoder_laws.specs.reader.ChildNodes.{first_nodes, tree_at, top, top_of, flat_number, flat_actual, flat_found}
use Rattle.nd_grammar.proofs.agreements.EntriesTell.{flat_length as length_flat}

at_end : (zs : List Flat) (x : Flat) (rest : List Flat) → slice_get (zs ++ (x ∷ rest)) (length zs) ≡ Some x
at_end [] x rest = refl
at_end (z ∷ zs) x rest = at_end zs x rest

-- at the i-th of these numbers is the first node of the i-th child
pub first_node_is : (zs : List Flat) (xs : Trees) (i k : ℕ) → slice_get (first_nodes (length zs) xs) i ≡ Some k → slice_get (zs ++ flat xs) k ≡ top_of (tree_at xs i)
first_node_is zs none i k e = cc
first_node_is zs (more (node l ks) ts) zero k e =
    ap (slice_get (zs ++ ((l, count ks) ∷ (flat ks ++ flat ts)))) (sym (same_Some (length zs) k e)) ∙ at_end zs (l, count ks) (flat ks ++ flat ts)
first_node_is zs (more (node l ks) ts) (suc i) k e =
    let ys : List Flat = zs ++ ((l, count ks) ∷ flat ks) in
    let n : length zs + tree_nodes (node l ks) ≡ length ys =
    let a : length ys ≡ length zs + suc (length (flat ks)) = length-append zs ((l, count ks) ∷ flat ks) in
    let b : length (flat ks) ≡ node_count ks = length_flat ks in omega (arith, a, b) in
    ap (λ us. slice_get us k) (sym (append_assoc zs ((l, count ks) ∷ flat ks) (flat ts)))
    ∙ first_node_is ys ts i k (subst (λ m. slice_get (first_nodes m ts) i ≡ Some k) n e)

pub same_number : (t : Tree) → flat_number (top t) ≡ number_of t
same_number (node (tree.Num z) ks) = refl
same_number (node tree.Rec ks) = refl
same_number (node (tree.Arr max offset) ks) = refl
same_number (node (tree.Text max octets) ks) = refl
same_number (node (tree.Union tag) ks) = refl
same_number (node (tree.Ptr c) ks) = refl
same_number (node (tree.Context a id) ks) = refl
same_number (node tree.Pipe ks) = refl
same_number (node tree.Unread ks) = refl

same_actual : (l : Label) (ks : Trees) → flat_actual l (count ks) ≡ actual l ks
same_actual (tree.Num z) ks = refl
same_actual tree.Rec ks = refl
same_actual (tree.Arr max offset) ks = refl
same_actual (tree.Text max octets) ks = refl
same_actual (tree.Union tag) ks = refl
same_actual (tree.Ptr c) ks = refl
same_actual (tree.Context a id) ks = refl
same_actual tree.Pipe ks = refl
same_actual tree.Unread ks = refl

pub same_found : (a : Attr) (t : Tree) → flat_found a (top t) ≡ found_in a t
same_found attr.Size (node l ks) = refl
same_found attr.Max (node l ks) = refl
same_found attr.First (node l ks) = refl
same_found attr.Length (node l ks) = ap pos (same_actual l ks)
same_found attr.Last (node l ks) = ap (λ n. pos (offset_of l + n) -ℤ pos 1) (same_actual l ks)
same_found attr.Switch (node l ks) = refl

-- the number of a variable is in the first node of its child
pub number_at : (xs : Trees) (i : ℕ) (t : Tree) → tree_at xs i ≡ Some t → number_in xs i ≡ number_of t
number_at none i t e = cc
number_at (more x xs) zero t e = ap number_of (same_Some x t e)
number_at (more x xs) (suc i) t e = number_at xs i t e
