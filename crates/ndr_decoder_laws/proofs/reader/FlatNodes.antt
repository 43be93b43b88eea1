-- Nodes in a flat list while a value is being read.
use Rattle.std.proofs.Common.{◌≡◌, ℕ, ◌+◌, suc, List, ◌∷◌, ◌++◌, length, ap, ap₂, sym, ◌∙◌, arith, append_assoc, length-append}
use Rattle.std.proofs.lemmas.List.{append-nil}
use Rattle.nd_value.specs.Tree.{Tree, Trees, node, none, more, joined, Label, Flat, flat, count}
use Rattle.nd_grammar.specs.Reader.{tree_nodes}
use Rattle.ndr_decoder_laws.specs.reader.Around.{Around, nodes_around}
use Rattle.nd_flat.proofs.Forests.{flat-joined as flat_joined}
use Rattle.nd_grammar.proofs.agreements.EntriesTell.{flat_length as length_flat}
use Rattle.nd_grammar.proofs.reader.ReaderPipes.{joined_count as count_joined}

-- a child that was read comes after those before it
pub nodes_moved : (f : Around) (fs : List Around) (v : Tree) (n : ℕ) → nodes_around fs ++ ((f.label, count (joined f.done (more v none)) + n) ∷ flat (joined f.done (more v none)))
    ≡ (nodes_around fs ++ ((f.label, count f.done + (1 + n)) ∷ flat f.done)) ++ flat (more v none)
nodes_moved f fs v n =
    let c : count (joined f.done (more v none)) + n ≡ count f.done + (1 + n) =
    let h : count (joined f.done (more v none)) ≡ count f.done + suc 0 = count_joined f.done (more v none) in omega (arith, h) in
    ap₂ (λ a zs. nodes_around fs ++ ((f.label, a) ∷ zs)) c (flat_joined f.done (more v none))
    ∙ sym (append_assoc (nodes_around fs) ((f.label, count f.done + (1 + n)) ∷ flat f.done) (flat (more v none)))

-- a node whose children are all there is one of the flat list
pub node_closed : (l : Label) (ks : Trees) (xs : List Flat) → xs ++ ((l, count ks + 0) ∷ flat ks) ≡ xs ++ flat (more (node l ks) none)
node_closed l ks xs =
    let c : count ks + 0 ≡ count ks = omega arith in
    ap₂ (λ a zs. xs ++ ((l, a) ∷ zs)) c (sym (append-nil (flat ks)))

pub length_more : (xs : List Flat) (v : Tree) → length (xs ++ flat (more v none)) ≡ length xs + tree_nodes v
length_more xs v = length-append xs (flat (more v none)) ∙ ap (λ n. length xs + n) (length_flat (more v none))
