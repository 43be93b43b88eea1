-- A walk whose nodes are added one by one.
-- `old` and `now` are what is left of it, `a` and `b` lists of nodes, `o` is the node that is open.
use Rattle.std.proofs.Common.{◌≡◌, List, [], ◌∷◌, ◌++◌, Option, refl, ap, sym, ◌∙◌, append_assoc, subst}
use Rattle.std.proofs.lemmas.List.{append-nil}
use Rattle.nd_value.specs.Tree.{Flat, Trees, flat, none}
use Rattle.library_nodes.specs.declared.node.Node.{Node}
use Rattle.library_nodes.specs.declared.nodes.NodeList.{NodeList}
use Rattle.library_nodes.specs.Laying.{AddsOpen}

-- the first nodes of a walk are added, and the others are left
pub record Walks (old : List Flat) (a : NodeList) (now : List Flat) (b : NodeList) (o : Option Node) : Type 0 where
  pub done : List Flat
  pub all : old ≡ done ++ now
  pub adds : AddsOpen done a b o

-- these were added before it began
pub walks_from : (fs now : List Flat) (a b : NodeList) (o : Option Node) → AddsOpen fs a b o → Walks (fs ++ now) a now b o
walks_from fs now a b o h = record { done = fs; all = refl; adds = h }

pub walks_on : (old now next : List Flat) (f : Flat) (a b c : NodeList) (o p : Option Node) → now ≡ f ∷ next
    → ((d : NodeList) (fs : List Flat) → AddsOpen fs d b o → AddsOpen (fs ++ f ∷ []) d c p) → Walks old a now b o → Walks old a next c p
walks_on old now next f a b c o p is more h = record {
  done = h.done ++ f ∷ [];
  all = h.all ∙ ap (λ xs. h.done ++ xs) is ∙ sym (append_assoc h.done (f ∷ []) next);
  adds = more a h.done h.adds;
}

-- all nodes were added, where none is left
pub walks_all : (old : List Flat) (now : Trees) (a b : NodeList) (o : Option Node) → now ≡ none → Walks old a (flat now) b o → AddsOpen old a b o
walks_all old now a b o is h =
    subst (λ fs. AddsOpen fs a b o) (sym (h.all ∙ ap (λ ts. h.done ++ flat ts) is ∙ append-nil h.done)) h.adds

-- several in one go
pub walks_far : (old now next done : List Flat) (a b c : NodeList) (o p : Option Node) → now ≡ done ++ next
    → ((d : NodeList) (fs : List Flat) → AddsOpen fs d b o → AddsOpen (fs ++ done) d c p) → Walks old a now b o → Walks old a next c p
walks_far old now next done a b c o p is more h = record {
  done = h.done ++ done;
  all = h.all ∙ ap (λ xs. h.done ++ xs) is ∙ sym (append_assoc h.done done next);
  adds = more a h.done h.adds;
}
