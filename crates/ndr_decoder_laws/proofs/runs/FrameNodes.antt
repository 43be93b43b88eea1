-- The nodes at a point of a value are few, since the whole value is made.
use Rattle.std.proofs.Common.{◌≡◌, ℕ, ◌+◌, ◌*◌, ◌≤◌, suc, List, [], ◌∷◌, ◌++◌, length, sym, arith, subst, length-append}
use Rattle.std.proofs.lemmas.List.{append-nil}
use Rattle.nd_base.specs.declared.octets.Order.{Order}
use Rattle.nd_types.specs.Table.{Table, type_at}
use Rattle.nd_value.specs.declared.item.Home.{Home}
use Rattle.nd_value.specs.Nodes.{child_types}
use Rattle.nd_value.specs.Setting.{Setting}
use Rattle.nd_value.specs.Tree.{Tree, Trees, node, none, more, Label, Flat, flat, count, node_count, joined}
use Rattle.nd_value.proofs.Apart.{all_left, all_right}
use Rattle.nd_grammar.specs.LegalSide.{IsLegalSide}
use Rattle.nd_grammar.specs.Reader.{Progress, Names, Read, ReadAll, read_list, read_in_place, tree_nodes}
use Rattle.nd_grammar.specs.MadeTrees.{MadeTrees, MadeTree}
use Rattle.ndr_decoder_laws.specs.reader.Around.{Around, go_on, finish, nodes_around}
use Rattle.ndr_decoder_laws.specs.reader.Points.{Point, hoisting, counting, called, due, opened, offset_read, text_offset, text_counted, tagged, between, checking, has, read_at, below, nodes_at}
use Rattle.nd_flat.proofs.Forests.{joined-none as joined_none}
use Rattle.nd_grammar.proofs.agreements.EntriesTell.{flat_length as length_flat}
use Rattle.ndr_decoder_laws.specs.runs.Paid.{label_paid, paid, IsRead, AllRead}
use Rattle.ndr_decoder_laws.proofs.runs.PaidSteps.{paid_append}
use Rattle.ndr_decoder_laws.proofs.runs.TreeNodes.{trees_paid, TreesRead, flat_paid, flat_read, made_first, few_first}

abbrev IsReadNode : Flat → Type 0
IsReadNode x = IsRead x.0

-- nodes with one node and its children after them
parts_many : (xs : List Flat) (x : Flat) (ts : Trees) → length (xs ++ (x ∷ flat ts)) ≡ length xs + (1 + node_count ts)
parts_many xs x ts =
    let e : length (xs ++ (x ∷ flat ts)) ≡ length xs + suc (length (flat ts)) = length-append xs (x ∷ flat ts) in
    let d : length (flat ts) ≡ node_count ts = length_flat ts in omega (arith, e, d)

parts_paid : (xs : List Flat) (x : Flat) (ts : Trees) → paid xs + trees_paid ts ≤ paid (xs ++ (x ∷ flat ts))
parts_paid xs x ts =
    let e : paid (xs ++ (x ∷ flat ts)) ≡ paid xs + (label_paid x.0 x.1 + paid (flat ts)) = paid_append xs (x ∷ flat ts) in
    let d : paid (flat ts) ≡ trees_paid ts = flat_paid ts in omega (arith, e, d)

parts_before : (xs : List Flat) (x : Flat) (ts : Trees) → AllRead (xs ++ (x ∷ flat ts)) → AllRead xs
parts_before xs x ts r = all_left IsReadNode xs (x ∷ flat ts) r

parts_read : (xs : List Flat) (x : Flat) (ts : Trees) → AllRead (xs ++ (x ∷ flat ts)) → TreesRead ts
parts_read xs x ts r = flat_read ts (all_right IsReadNode xs (x ∷ flat ts) r).1

-- some nodes are few, and those of a node more
bound_more : (n k c p q : ℕ) → n ≤ 32 * p + 33 * k → c ≤ 32 * q + 32 → n + (1 + c) ≤ 32 * (p + q) + 33 * suc k
bound_more n k c p q a b = omega (arith, a, b)

first_made : (table : Table) (vs : List ℕ) (v : Tree) (ts : Trees) → MadeTrees table vs (more v ts) → (u : ℕ) × MadeTree table (type_at table u) v
first_made table [] v ts m = absurd m
first_made table (u ∷ vs) (node l ks) ts m = (u, (m.0, m.1))

-- a value that was made, of some type
abbrev Made : Table → Tree → Type 0
Made table v = (t : ℕ) × MadeTree table (type_at table t) v

module _ (w : Setting) (side : IsLegalSide w) where
  kids_few : (t : ℕ) (l : Label) (ks : Trees) → MadeTree w.table (type_at w.table t) (node l ks) → TreesRead ks → node_count ks ≤ 32 * trees_paid ks + 32
  kids_few t l ks m r = few_first w side t l ks none (subst (λ k. MadeTree w.table (type_at w.table t) (node l k)) (sym (joined_none ks)) m) r

  module _ (order : Order) (octets : List ℕ) (h : Home) (m : ℕ) where
    -- what is around a value that is being read is few, and the value itself is made
    pub record AroundFew (fs : List Around) (v : Tree) : Type 0 where
      pub few : AllRead (nodes_around fs) → length (nodes_around fs) ≤ 32 * paid (nodes_around fs) + 33 * length fs
      pub made : Made w.table v

    around_few : (depth : ℕ) (fs : List Around) (r : Read) → Made w.table (finish order octets w.table h m depth fs r).tree → AroundFew fs r.tree
    around_few depth [] r made = record { few = λ a. omega arith; made = made }
    around_few depth (f ∷ fs) r made =
        let others : ReadAll = read_list w.table (read_in_place order octets w.table h depth m) f.left (f.next + tree_nodes r.tree) r.progress r.names in
        let outer : AroundFew fs (node f.label (joined f.done (more r.tree others.trees))) = around_few (suc depth) fs (go_on order octets w.table h m depth f r) made in
        let t : ℕ = outer.made.0 in
        let own : MadeTree w.table (type_at w.table t) (node f.label (joined f.done (more r.tree others.trees))) = outer.made.1 in
        let (us, vs, e, a, b) = made_first w.table (child_types (type_at w.table t) f.label (joined f.done (more r.tree others.trees))) f.done (more r.tree others.trees) own.1 in
        let x : Flat = (f.label, count f.done + (1 + length f.left)) in
        record {
          few = λ read. (
              let n : length (nodes_around fs ++ (x ∷ flat f.done)) ≡ length (nodes_around fs) + (1 + node_count f.done) = parts_many (nodes_around fs) x f.done in
              let p : paid (nodes_around fs) + trees_paid f.done ≤ paid (nodes_around fs ++ (x ∷ flat f.done)) = parts_paid (nodes_around fs) x f.done in
              let before : length (nodes_around fs) ≤ 32 * paid (nodes_around fs) + 33 * length fs = outer.few (parts_before (nodes_around fs) x f.done read) in
              let kids : node_count f.done ≤ 32 * trees_paid f.done + 32 = few_first w side t f.label f.done (more r.tree others.trees) own (parts_read (nodes_around fs) x f.done read) in
              let sum : length (nodes_around fs) + (1 + node_count f.done) ≤ 32 * (paid (nodes_around fs) + trees_paid f.done) + 33 * suc (length fs) =
              bound_more (length (nodes_around fs)) (length fs) (node_count f.done) (paid (nodes_around fs)) (trees_paid f.done) before kids in
              omega (arith, n, p, sum));
          made = first_made w.table vs r.tree others.trees b;
        }

    -- a node more after those around it
    node_more : (fs : List Around) (x : Flat) (ts : Trees) → length (nodes_around fs) ≤ 32 * paid (nodes_around fs) + 33 * length fs → node_count ts ≤ 32 * trees_paid ts + 32
        → length (nodes_around fs ++ (x ∷ flat ts)) ≤ 32 * paid (nodes_around fs ++ (x ∷ flat ts)) + 33 * suc (length fs)
    node_more fs x ts before kids =
        let n : length (nodes_around fs ++ (x ∷ flat ts)) ≡ length (nodes_around fs) + (1 + node_count ts) = parts_many (nodes_around fs) x ts in
        let p : paid (nodes_around fs) + trees_paid ts ≤ paid (nodes_around fs ++ (x ∷ flat ts)) = parts_paid (nodes_around fs) x ts in
        let sum : length (nodes_around fs) + (1 + node_count ts) ≤ 32 * (paid (nodes_around fs) + trees_paid ts) + 33 * suc (length fs) =
        bound_more (length (nodes_around fs)) (length fs) (node_count ts) (paid (nodes_around fs)) (trees_paid ts) before kids in
        omega (arith, n, p, sum)

    abbrev Bounded : List Around → List Flat → Type 0
    Bounded fs xs = length xs ≤ 32 * paid xs + 33 * suc (length fs)

    only_around : (fs : List Around) → length (nodes_around fs) ≤ 32 * paid (nodes_around fs) + 33 * length fs → Bounded fs (nodes_around fs)
    only_around fs a = omega (arith, a)

    abbrev At : ℕ → Point → List Around → ℕ → Progress → Names → Type 0
    At depth p fs n q s = AroundFew fs (read_at order octets w.table h m depth p n q s).tree

    -- the nodes at a point
    at_point : (depth : ℕ) (p : Point) (fs : List Around) (n : ℕ) (q : Progress) (s : Names) → At depth p fs n q s → AllRead (nodes_at p fs) → Bounded fs (nodes_at p fs)
    at_point depth (between f) fs n q s a read =
        let x : Flat = (f.label, count f.done + length f.left) in
        let others : ReadAll = read_list w.table (read_in_place order octets w.table h (below depth) m) f.left f.next q s in
        node_more fs x f.done (a.few (parts_before (nodes_around fs) x f.done read)) (few_first w side a.made.0 f.label f.done others.trees a.made.1 (parts_read (nodes_around fs) x f.done read))
    at_point depth (checking f so_far tests) fs n q s a read =
        let x : Flat = (f.label, count f.done + length f.left) in
        node_more fs x f.done (a.few (parts_before (nodes_around fs) x f.done read)) (kids_few a.made.0 f.label f.done a.made.1 (parts_read (nodes_around fs) x f.done read))
    at_point depth (has t (node l ks)) fs n q s a read = one_tree a.few a.made.1 read
      where
        one_tree : (AllRead (nodes_around fs) → length (nodes_around fs) ≤ 32 * paid (nodes_around fs) + 33 * length fs) → MadeTree w.table (type_at w.table a.made.0) (node l ks)
            → AllRead (nodes_around fs ++ ((l, count ks) ∷ (flat ks ++ []))) → Bounded fs (nodes_around fs ++ ((l, count ks) ∷ (flat ks ++ [])))
        one_tree few made read =
            let e : flat ks ++ [] ≡ flat ks = append-nil (flat ks) in
            subst (λ xs. Bounded fs (nodes_around fs ++ ((l, count ks) ∷ xs))) (sym e)
            (let r : AllRead (nodes_around fs ++ ((l, count ks) ∷ flat ks)) = subst (λ xs. AllRead (nodes_around fs ++ ((l, count ks) ∷ xs))) e read in
            node_more fs (l, count ks) ks (few (parts_before (nodes_around fs) (l, count ks) ks r)) (kids_few a.made.0 l ks made (parts_read (nodes_around fs) (l, count ks) ks r)))
    at_point depth (hoisting t) fs n q s a read = only_around fs (a.few read)
    at_point depth (counting t) fs n q s a read = only_around fs (a.few read)
    at_point depth (called t) fs n q s a read = only_around fs (a.few read)
    at_point depth (due t) fs n q s a read = only_around fs (a.few read)
    at_point depth (opened t d) fs n q s a read = only_around fs (a.few read)
    at_point depth (offset_read t d max elem o) fs n q s a read = only_around fs (a.few read)
    at_point depth (text_offset t max) fs n q s a read = only_around fs (a.few read)
    at_point depth (text_counted t max c) fs n q s a read = only_around fs (a.few read)
    at_point depth (tagged t d form arms default z) fs n q s a read = only_around fs (a.few read)

    -- the nodes at a point within a value that is made
    pub few_at : (depth : ℕ) (p : Point) (fs : List Around) (n : ℕ) (q : Progress) (s : Names)
        → Made w.table (finish order octets w.table h m depth fs (read_at order octets w.table h m depth p n q s)).tree
        → AllRead (nodes_at p fs) → length (nodes_at p fs) ≤ 32 * paid (nodes_at p fs) + 33 * suc (length fs)
    few_at depth p fs n q s made read = at_point depth p fs n q s (around_few depth fs (read_at order octets w.table h m depth p n q s) made) read
