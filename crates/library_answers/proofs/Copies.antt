-- What is answered of nodes, from what the calls below answer.
-- `xs` are numbers, `old` and `new` are a buffer before and after one more of them is written.
use Rattle.std.proofs.Common.{◌≡◌, ◌∙◌, ℕ, ◌+◌, ◌<◌, ◌≤◌, List, [], ◌∷◌, ◌++◌, length, map, take, get_or, Option, Some, IsSomeAnd, ap, sym, subst, arith}
use Rattle.std.proofs.lemmas.List.{map-append, take_all, take_more}
use Rattle.nd_value.specs.declared.value.Graph.{Graph}
use Rattle.library_handles.specs.declared.held.Held.{Held}
use Rattle.library_handles.specs.declared.held.Held.TheVariants as kept
use Rattle.library_nodes.specs.declared.nodes.Nodes.{Nodes}
use Rattle.library_nodes.specs.Listed.{IsListOf}
use Rattle.library_answers.specs.Nodes.{nodes_in, low_octet}
use Rattle.library_answers.proofs.Numbered.{there_and}

pub nodes_are : (g h : Graph) (made : Nodes) (held : Option Held) → IsListOf h made → held ≡ Some (kept.Nodes made) → h ≡ g → IsSomeAnd (nodes_in held) (IsListOf g)
nodes_are g h made held list filled same =
    there_and (nodes_in held) made (IsListOf g) (ap nodes_in filled) (subst (λ (k : Graph). IsListOf k made) same list)

-- ## Numbers as octets

pub octets_more : (xs old new : List ℕ) (i : ℕ) → i < length xs → take i old ≡ map low_octet (take i xs) → take (i + 1) new ≡ take i old ++ low_octet (get_or xs i 0) ∷ []
    → take (i + 1) new ≡ map low_octet (take (i + 1) xs)
octets_more xs old new i low front more =
    more ∙ ap (λ ys. ys ++ low_octet (get_or xs i 0) ∷ []) front ∙ sym (map-append low_octet (take i xs) (get_or xs i 0 ∷ [])) ∙ sym (ap (map low_octet) (take_more xs i 0 low))

pub octets_all : (xs out : List ℕ) (i : ℕ) → length xs ≤ i → i ≤ length xs → take i out ≡ map low_octet (take i xs) → take (length xs) out ≡ map low_octet xs
octets_all xs out i past within front =
    let e : length xs ≡ i = omega (arith, past, within) in
    ap (λ n. take n out) e ∙ front ∙ ap (map low_octet) (take_all i xs past)
