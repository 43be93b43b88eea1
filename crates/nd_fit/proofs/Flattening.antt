-- Values put into a builder.
use Rattle.std.proofs.Common.{◌≡◌, ℕ, ◌+◌, ◌≤◌, zero, suc, List, [], ◌∷◌, ◌++◌, length, drop, Some, ap, ap₂, sym, ◌∙◌, subst, arith, append_assoc}
use Rattle.std.proofs.lemmas.List.{append-nil}
use Rattle.std.proofs.lemmas.Option.{same_Some}
use Rattle.std.specs.List.{slice_get}
use Rattle.nd_value.specs.Tree.{Tree, Trees, Flat, Label, node, none, more, trees, flat, node_count, count}
use Rattle.nd_lemmas.proofs.Lists.{drop_next as drop-get}
use Rattle.nd_flat.specs.Building.{Building, with_nodes, with_node}
use Rattle.nd_flat.specs.Keepable.{AreKeepable}
use Rattle.nd_flat.specs.Built.{Adds}
use Rattle.nd_flat.proofs.Forests.{flat-more}

-- how far a list of values has been put
pub record AddedTo (vs : List Tree) (b : Building) (i : ℕ) (now : Building) : Type 0 where
  pub same : now ≡ with_nodes now.nodes b
  pub all : b.nodes ++ flat (trees vs) ≡ now.nodes ++ flat (trees (drop i vs))

-- one value further
pub added_on : (vs : List Tree) (b : Building) (i : ℕ) (now next : Building) (v : Tree) → slice_get vs i ≡ Some v → AddedTo vs b i now
    → Adds (more v none) now next → AddedTo vs b (i + 1) next
added_on vs b i now next v there w a =
    let fs : List Flat = flat (more v none) in
    let gs : List Flat = flat (trees (drop (i + 1) vs)) in
    let n : next.nodes ≡ now.nodes ++ fs = ap (λ (x : Building). x.nodes) a in
    record {
      same = a ∙ ap (λ (x : Building). with_nodes (now.nodes ++ fs) x) w.same ∙ ap (λ xs. with_nodes xs b) (sym n);
      all =
          w.all ∙ ap (λ us. now.nodes ++ flat (trees us)) (drop-get vs i v there) ∙ ap (λ xs. now.nodes ++ xs) (flat-more v (trees (drop (i + 1) vs)))
          ∙ sym (append_assoc now.nodes fs gs) ∙ ap (λ xs. xs ++ gs) (sym n);
    }

-- a node, and then its children
pub then_kids : (l : Label) (k : ℕ) (ks : Trees) (old mid new : Building) → k ≡ count ks → mid ≡ with_node (l, k) old → Adds ks mid new
    → Adds (more (node l ks) none) old new
then_kids l k ks old mid new e m a =
    let n : mid.nodes ++ flat ks ≡ old.nodes ++ flat (more (node l ks) none) =
    ap (λ (b : Building). b.nodes ++ flat ks) m ∙ append_assoc old.nodes ((l, k) ∷ []) (flat ks)
    ∙ ap₂ (λ j xs. old.nodes ++ (l, j) ∷ xs) e (sym (append-nil (flat ks))) in
    a ∙ ap₂ (λ xs (b : Building). with_nodes xs b) n m

pub keepable_at : (vs : List Tree) (i : ℕ) (v : Tree) → slice_get vs i ≡ Some v → AreKeepable (trees vs) → AreKeepable (more v none)
keepable_at [] i v e h = cc
keepable_at (node l ks ∷ vs) zero v e h = subst (λ t. AreKeepable (more t none)) (same_Some (node l ks) v e) (h.0, (h.1.0, tt))
keepable_at (node l ks ∷ vs) (suc i) v e h = keepable_at vs i v e h.1.1

-- there are no more values than nodes
pub few_values : (vs : List Tree) → length vs ≤ node_count (trees vs)
few_values [] = omega arith
few_values (node l ks ∷ vs) = let m : length vs ≤ node_count (trees vs) = few_values vs in omega arith
