-- How a search for pointers goes through the nodes of values.
use Rattle.std.proofs.Common.{◌≡◌, ℕ, ◌+◌, List, [], ◌∷◌, ◌++◌, drop, Some, Ok, ap, ap₂, sym, ◌∙◌, arith, append_assoc}
use Rattle.std.specs.List.{slice_get}
use Rattle.std.proofs.lemmas.List.{append-nil}
use Rattle.nd_types.specs.Table.{Table, type_at}
use Rattle.nd_value.specs.declared.item.Home.{Home}
use Rattle.nd_misfits.specs.declared.pointers.CellPointer.{CellPointer}
use Rattle.nd_value.specs.Tree.{Tree, Trees, node, none, more, trees, node_count}
use Rattle.nd_value.specs.Nodes.{child_types}
use Rattle.nd_misfits.specs.Pointers.{named_here, pointers_in, Collects}
use Rattle.nd_lemmas.proofs.Lists.{drop_next as drop-get}
use Rattle.nd_misfits.proofs.FormWalk.{Counted, next_counted}

module _ (table : Table) (h : Home) where
  pub one_more : (t : ℕ) (types : List ℕ) (n : ℕ) (v : Tree) (vs : Trees)
      → pointers_in table h (t ∷ types) n (more v vs)
      ≡ pointers_in table h (t ∷ []) n (more v none) ++ pointers_in table h types (n + node_count (more v none)) vs
  one_more t types n (node l ks) vs =
      let a : List CellPointer = named_here l (type_at table t) h n in
      let b : List CellPointer = pointers_in table h (child_types (type_at table t) l ks) (n + 1) ks in
      let c : List CellPointer = pointers_in table h types (n + node_count (more (node l ks) none)) vs in
      let m : n + 1 + node_count ks ≡ n + node_count (more (node l ks) none) = omega arith in
      ap (λ k. a ++ (b ++ pointers_in table h types k vs)) m
      ∙ sym (append_assoc a b c)
      ∙ ap (λ x. (a ++ x) ++ c) (sym (append-nil b))

  -- how far a search through a list of values has come
  pub record CollectedTo (types : List ℕ) (vs : List Tree) (start : ℕ) (before : List CellPointer) (i now : ℕ) (after : List CellPointer) : Type 0 where
    pub all : before ++ pointers_in table h types start (trees vs) ≡ after ++ pointers_in table h (drop i types) now (trees (drop i vs))
    pub count : Counted vs start i now

  -- one value further
  pub collect_on : (types : List ℕ) (vs : List Tree) (start : ℕ) (before : List CellPointer) (i now : ℕ) (after : List CellPointer) (t : ℕ) (v : Tree)
      → slice_get types i ≡ Some t → slice_get vs i ≡ Some v → CollectedTo types vs start before i now after
      → (m : ℕ) (next : List CellPointer) → Collects table h (t ∷ []) now (more v none) after next (Ok m)
      → CollectedTo types vs start before (i + 1) m next
  collect_on types vs start before i now after t v typed there w m next s =
      let a : List CellPointer = pointers_in table h (t ∷ []) now (more v none) in
      let b : List CellPointer = pointers_in table h (drop (i + 1) types) (now + node_count (more v none)) (trees (drop (i + 1) vs)) in
      let split : pointers_in table h (drop i types) now (trees (drop i vs)) ≡ a ++ b =
      ap₂ (λ ts us. pointers_in table h ts now (trees us)) (drop-get types i t typed) (drop-get vs i v there)
      ∙ one_more t (drop (i + 1) types) now v (trees (drop (i + 1) vs)) in
      record {
        all =
            w.all ∙ ap (λ x. after ++ x) split ∙ sym (append_assoc after a b)
            ∙ ap₂ (λ x k. x ++ pointers_in table h (drop (i + 1) types) k (trees (drop (i + 1) vs))) (sym s.0) (sym s.1);
        count = next_counted vs start i now v there w.count m s.1;
      }
