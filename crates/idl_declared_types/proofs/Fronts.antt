-- The nodes for which the first of the program stand, each with its names.
use Rattle.std.proofs.Common.{append-nil, ◌≡◌, ℕ, ◌+◌, List, [], ◌∷◌, ◌++◌, take, length, Some, slice_get, refl, ap, ◌∙◌}
use Rattle.std.specs.List.{flat_map}
use Rattle.std.proofs.lemmas.Grind.{flat_map-append}
use Rattle.std.proofs.Math.Seq.{take-length}
use Rattle.idl_scope.specs.Known.{Known}
use Rattle.idl_rule_definitions.specs.Nodes.{World, Node, nodes}
use Rattle.idl_constructs.specs.declared.nodes.Node as program_node
use Rattle.idl_constructs.specs.declared.nodes.Nodes as program_nodes
use Rattle.idl_rule_definitions.specs.Types.{Names}
use Rattle.idl_rule_definitions.specs.Scene.{scoped_from, names_behind, scene_of}
use Rattle.idl_constructs.specs.SeenNodes.{seen_node, seen_nodes}
use Rattle.idl_declared_types.specs.SeenTypes.{names_past, front, names_at, scoped_front, scene_seen}
use Rattle.nd_lemmas.proofs.Lists.{take_next}

pub names_past-append : (known : Known) (names : Names) (xs ys : List Node) → names_past known names (xs ++ ys) ≡ names_past known (names_past known names xs) ys
names_past-append known names [] ys = refl
names_past-append known names (x ∷ xs) ys = names_past-append known (names_behind known names x) xs ys

pub scoped_from-append : (known : Known) (names : Names) (xs ys : List Node)
    → scoped_from known names (xs ++ ys) ≡ scoped_from known names xs ++ scoped_from known (names_past known names xs) ys
scoped_from-append known names [] ys = refl
scoped_from-append known names (x ∷ xs) ys =
    ap (λ l. record { names = names; node = x } ∷ l) (scoped_from-append known (names_behind known names x) xs ys)

pub front_next : (n : program_nodes.Nodes) (i : ℕ) (it : program_node.Node) → slice_get n.items.items i ≡ Some it → front n (i + 1) ≡ front n i ++ seen_node n.lists.items it
front_next n i it h = ap (λ l. flat_map (seen_node n.lists.items) l) (take_next n.items.items i it h) ∙ flat_map-append (seen_node n.lists.items) (take i n.items.items) (it ∷ [])
    ∙ ap (λ l. front n i ++ l) (append-nil (seen_node n.lists.items it))

pub scoped_front_next : (known : Known) (n : program_nodes.Nodes) (i : ℕ) (it : program_node.Node) → slice_get n.items.items i ≡ Some it
    → scoped_front known n (i + 1) ≡ scoped_front known n i ++ scoped_from known (names_at known n i) (seen_node n.lists.items it)
scoped_front_next known n i it h = ap (scoped_from known []) (front_next n i it h) ∙ scoped_from-append known [] (front n i) (seen_node n.lists.items it)

pub names_at_next : (known : Known) (n : program_nodes.Nodes) (i : ℕ) (it : program_node.Node) → slice_get n.items.items i ≡ Some it
    → names_at known n (i + 1) ≡ names_past known (names_at known n i) (seen_node n.lists.items it)
names_at_next known n i it h = ap (names_past known []) (front_next n i it h) ∙ names_past-append known [] (front n i) (seen_node n.lists.items it)

pub scoped_front_all : (known : Known) (n : program_nodes.Nodes) → scoped_front known n (length n.items.items) ≡ (scene_seen known n).nodes
scoped_front_all known n = ap (λ l. scoped_from known [] (flat_map (seen_node n.lists.items) l)) (take-length n.items.items)

-- the scene of the program's nodes is that of the rules
pub scene_is : (w : World) (n : program_nodes.Nodes) → seen_nodes n ≡ nodes w → scene_seen w.known n ≡ scene_of w
unfolding scene_of
scene_is w n h = ap (λ l. record { known = w.known; nodes = scoped_from w.known [] l }) h
