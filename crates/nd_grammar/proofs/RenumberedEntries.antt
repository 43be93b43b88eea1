-- Trees whose cells are renumbered: the same octets are written for them, where the cells' numbers are the same.
use Rattle.std.proofs.Common.{◌≡◌, ℕ, ◌+◌, zero, suc, ℤ, Bool, true, false, List, [], ◌∷◌, ◌++◌, Option, Some, None, refl, ap, ap₂, sym, ◌∙◌, subst}
use Rattle.std.specs.Prelude.{map, flat_map}
use Rattle.std.specs.List.{AllByRecursion}
use Rattle.std.proofs.lemmas.Grind.{flat_map-append}
use Rattle.nd_base.specs.declared.octets.Order.{Order}
use Rattle.nd_types.specs.declared.types.TypeDef.{TypeDef}
use Rattle.nd_types.specs.declared.types.Arm.{Arm}
use Rattle.nd_types.specs.declared.types.TypeDef.TheVariants as def
use Rattle.nd_types.specs.Table.{Table, type_at}
use Rattle.nd_types.specs.Layout.{hoists}
use Rattle.nd_types.specs.Number.{spelling}
use Rattle.nd_value.specs.declared.value.Graph.{Graph}
use Rattle.nd_value.specs.declared.item.Home.{Home}
use Rattle.nd_value.specs.Tree as tree
use Rattle.nd_value.specs.Tree.{Tree, Trees, node, none, more, Label, count, node_count, is_pointer, cell_in, take_trees, drop_trees}
use Rattle.nd_value.specs.Agreement.{Agreement, number_in}
use Rattle.nd_value.specs.Nodes.{TypedNode, nodes_of, child_types, child_agreements, first_agreements, rest_agreements}
use Rattle.nd_value.specs.Deferral.{Pending, pointer, pointer_by, home_pointers}
use Rattle.nd_value.specs.Canon.{target, renumbered, renumbered_label}
use Rattle.nd_value.proofs.Apart.{all_left, all_right}
use Rattle.nd_grammar.specs.Entry.{Kind, Entry, size_at, before_children, entries, counts, tag_entries, in_place, tests, own_tests, child_tests, hoisted, hoisted_max, own_max, whole_value}
use Rattle.nd_grammar.specs.Stream.{octets_of, octets_from}
use Rattle.nd_grammar.proofs.next.Matching.{bare, number_same, child_agreements_same, pointer_bare, through}
use Rattle.nd_grammar.proofs.next.NextPending.{types_same}

module _ (m : ℕ → ℕ) where
  bare_same : (l : Label) → bare l ≡ bare (renumbered_label m l)
  bare_same (tree.Ptr None) = refl
  bare_same (tree.Ptr (Some c)) = refl
  bare_same (tree.Num z) = refl
  bare_same _ = refl

  pub count_same : (ts : Trees) → count (renumbered m ts) ≡ count ts
  count_same none = refl
  count_same (more (node l ks) ts) = ap suc (count_same ts)

  numbers_same : (ts : Trees) (i : ℕ) → number_in ts i ≡ number_in (renumbered m ts) i
  numbers_same none i = refl
  numbers_same (more (node l ks) ts) zero = number_same l (renumbered_label m l) (bare_same l) ks (renumbered m ks)
  numbers_same (more (node l ks) ts) (suc i) = numbers_same ts i

  no_graph : Graph
  no_graph = record { roots = []; cells = [] }

  pub child_types_same : (d : Option TypeDef) (l : Label) (ks : Trees) → child_types d (renumbered_label m l) (renumbered m ks) ≡ child_types d l ks
  child_types_same d l ks =
      types_same (λ k a b. Unit {0}) no_graph no_graph d (renumbered_label m l) l (renumbered m ks) ks (sym (bare_same l)) (count_same ks)

  agreements_alike : (table : Table) (d : Option TypeDef) (ks : Trees) → child_agreements d (renumbered m ks) ≡ child_agreements d ks
  agreements_alike table d ks = sym (child_agreements_same (λ k a b. Unit {0}) table d ks (renumbered m ks) (numbers_same ks))

  pointer_alike : (l : Label) → is_pointer (renumbered_label m l) ≡ is_pointer l
  pointer_alike l = sym (through l (renumbered_label m l) (bare_same l) is_pointer pointer_bare)

  own_same : (l : Label) (x : ℕ) → own_max (renumbered_label m l) x ≡ own_max l x
  own_same (tree.Ptr None) x = refl
  own_same (tree.Ptr (Some c)) x = refl
  own_same (tree.Num z) x = refl
  own_same _ x = refl

  max_same : (a : ℕ) (ts : Trees) → hoisted_max a (renumbered m ts) ≡ hoisted_max a ts
  max_same a none = refl
  max_same a (more (node l ks) ts) =
      max_same (own_max (renumbered_label m l) (hoisted_max 0 (renumbered m ks))) ts
      ∙ ap (λ u. hoisted_max u ts) (own_same l (hoisted_max 0 (renumbered m ks)) ∙ ap (own_max l) (max_same 0 ks))

  pub take_same : (k : ℕ) (ts : Trees) → take_trees k (renumbered m ts) ≡ renumbered m (take_trees k ts)
  take_same zero ts = refl
  take_same (suc k) none = refl
  take_same (suc k) (more (node l ks) ts) = ap (more (node (renumbered_label m l) (renumbered m ks))) (take_same k ts)

  pub drop_same : (k : ℕ) (ts : Trees) → drop_trees k (renumbered m ts) ≡ renumbered m (drop_trees k ts)
  drop_same zero ts = refl
  drop_same (suc k) none = refl
  drop_same (suc k) (more (node l ks) ts) = drop_same k ts

  -- the same pointer, its cell renumbered
  abbrev pub carried : Option ℕ → Option ℕ
  carried None = None
  carried (Some c) = Some (m c)

  pub record PendLike (p q : Pending) : Type 0 where
    pub class : q.class ≡ p.class
    pub to : q.to ≡ p.to
    pub agreements : q.agreements ≡ p.agreements
    pub cell : q.cell ≡ carried p.cell

  abbrev pub AllPend : List Pending → List Pending → Type 0
  AllPend [] [] = Unit {0}
  AllPend (p ∷ ps) (q ∷ qs) = PendLike p q × AllPend ps qs
  AllPend _ _ = ⊥

  pend_append : (ps qs ps' qs' : List Pending) → AllPend ps qs → AllPend ps' qs' → AllPend (ps ++ ps') (qs ++ qs')
  pend_append [] [] ps' qs' a b = b
  pend_append [] (q ∷ qs) ps' qs' a b = absurd a
  pend_append (p ∷ ps) [] ps' qs' a b = absurd a
  pend_append (p ∷ ps) (q ∷ qs) ps' qs' a b = (a.0, pend_append ps qs ps' qs' a.1 b)

  own_pend : (d : Option TypeDef) (l : Label) (h h' : Home) (n n' : ℕ) (ags : List Agreement)
      → AllPend (pointer_by d (is_pointer l) (cell_in l) h n ags) (pointer_by d (is_pointer (renumbered_label m l)) (cell_in (renumbered_label m l)) h' n' ags)
  own_pend (Some (def.Pointer k to)) (tree.Ptr None) h h' n n' ags = (record { class = refl; to = refl; agreements = refl; cell = refl }, tt)
  own_pend (Some (def.Pointer k to)) (tree.Ptr (Some c)) h h' n n' ags = (record { class = refl; to = refl; agreements = refl; cell = refl }, tt)
  own_pend (Some (def.Pointer k to)) (tree.Num z) h h' n n' ags = tt
  own_pend (Some (def.Pointer k to)) _ h h' n n' ags = tt
  own_pend None l h h' n n' ags = tt
  own_pend (Some (def.Prim p)) l h h' n n' ags = tt
  own_pend (Some _) l h h' n n' ags = tt

  pub pointers_alike : (table : Table) (h h' : Home) (types : List ℕ) (ags : List (List Agreement)) (n n' : ℕ) (ts : Trees)
      → AllPend (flat_map (pointer table h) (nodes_of table types ags n ts)) (flat_map (pointer table h') (nodes_of table types ags n' (renumbered m ts)))
  pointers_alike table h h' types ags n n' none = tt
  pointers_alike table h h' [] ags n n' (more (node l ks) ts) = tt
  pointers_alike table h h' (t ∷ types) ags n n' (more (node l ks) ts) =
      let d : Option TypeDef = type_at table t in
      let K : List TypedNode = nodes_of table (child_types d l ks) (child_agreements d ks) (n + 1) ks in
      let R : List TypedNode = nodes_of table types (rest_agreements ags) (n + 1 + node_count ks) ts in
      let K' : List TypedNode = nodes_of table (child_types d (renumbered_label m l) (renumbered m ks)) (child_agreements d (renumbered m ks)) (n' + 1) (renumbered m ks) in
      let R' : List TypedNode = nodes_of table types (rest_agreements ags) (n' + 1 + node_count (renumbered m ks)) (renumbered m ts) in
      let own : List Pending = pointer_by d (is_pointer l) (cell_in l) h n (first_agreements ags) in
      let own' : List Pending = pointer_by d (is_pointer (renumbered_label m l)) (cell_in (renumbered_label m l)) h' n' (first_agreements ags) in
      let k : AllPend (flat_map (pointer table h) K) (flat_map (pointer table h') K') =
      subst (λ u. AllPend (flat_map (pointer table h) K) (flat_map (pointer table h') (nodes_of table u (child_agreements d (renumbered m ks)) (n' + 1) (renumbered m ks))))
      (sym (child_types_same d l ks))
      (subst (λ u. AllPend (flat_map (pointer table h) K) (flat_map (pointer table h') (nodes_of table (child_types d l ks) u (n' + 1) (renumbered m ks)))) (sym (agreements_alike table d ks))
      (pointers_alike table h h' (child_types d l ks) (child_agreements d ks) (n + 1) (n' + 1) ks)) in
      let r = pointers_alike table h h' types (rest_agreements ags) (n + 1 + node_count ks) (n' + 1 + node_count (renumbered m ks)) ts in
      pend_append own own' (flat_map (pointer table h) (K ++ R)) (flat_map (pointer table h') (K' ++ R')) (own_pend d l h h' n n' (first_agreements ags))
      (subst (λ u. AllPend u (flat_map (pointer table h') (K' ++ R'))) (sym (flat_map-append (pointer table h) K R))
      (subst (λ u. AllPend (flat_map (pointer table h) K ++ flat_map (pointer table h) R) u) (sym (flat_map-append (pointer table h') K' R'))
      (pend_append (flat_map (pointer table h) K) (flat_map (pointer table h') K') (flat_map (pointer table h) R) (flat_map (pointer table h') R') k r)))

  target_same : (o o' : Option ℕ) → o' ≡ carried o → target o' ≡ map m (target o)
  target_same None o' e = ap target e
  target_same (Some c) o' e = ap target e

  map_append : (xs ys : List ℕ) → map m (xs ++ ys) ≡ map m xs ++ map m ys
  map_append [] ys = refl
  map_append (x ∷ xs) ys = ap (λ u. m x ∷ u) (map_append xs ys)

  pub named_same : (ps qs : List Pending) → AllPend ps qs → flat_map (λ p. target p.cell) qs ≡ map m (flat_map (λ p. target p.cell) ps)
  named_same [] [] a = refl
  named_same [] (q ∷ qs) a = absurd a
  named_same (p ∷ ps) [] a = absurd a
  named_same (p ∷ ps) (q ∷ qs) a =
      ap₂ (λ u v. u ++ v) (target_same p.cell q.cell a.0.cell) (named_same ps qs a.1) ∙ sym (map_append (target p.cell) (flat_map (λ p. target p.cell) ps))

  module _ (order : Order) (nums nums' : ℕ → ℕ) where
    -- the same octets are written for two kinds, wherever they stand
    abbrev pub SameKind : Kind → Kind → Type 0
    SameKind x y = (at : ℕ) → (octets_of order nums at x ≡ octets_of order nums' at y) × (size_at at x ≡ size_at at y)

    abbrev pub AllKinds : List Kind → List Kind → Type 0
    AllKinds [] [] = Unit {0}
    AllKinds (x ∷ xs) (y ∷ ys) = SameKind x y × AllKinds xs ys
    AllKinds _ _ = ⊥

    abbrev pub AllSame : List Entry → List Entry → Type 0
    AllSame [] [] = Unit {0}
    AllSame (x ∷ xs) (y ∷ ys) = SameKind x.kind y.kind × AllSame xs ys
    AllSame _ _ = ⊥

    pub same_append : (xs ys xs' ys' : List Entry) → AllSame xs ys → AllSame xs' ys' → AllSame (xs ++ xs') (ys ++ ys')
    same_append [] [] xs' ys' a b = b
    same_append [] (y ∷ ys) xs' ys' a b = absurd a
    same_append (x ∷ xs) [] xs' ys' a b = absurd a
    same_append (x ∷ xs) (y ∷ ys) xs' ys' a b = (a.0, same_append xs ys xs' ys' a.1 b)

    pub same_octets : (xs ys : List Entry) → AllSame xs ys → (at : ℕ) → octets_from order nums at xs ≡ octets_from order nums' at ys
    same_octets [] [] a at = refl
    same_octets [] (y ∷ ys) a at = absurd a
    same_octets (x ∷ xs) [] a at = absurd a
    same_octets (x ∷ xs) (y ∷ ys) a at =
        let (e, f) = a.0 at in
        ap₂ (λ u v. u ++ v) e (ap (λ k. octets_from order nums (at + k) xs) f ∙ same_octets xs ys a.1 (at + size_at at y.kind))

    pub entries_same : (h h' : Home) (n n' : ℕ) (xs ys : List Kind) → AllKinds xs ys → AllSame (entries h n xs) (entries h' n' ys)
    entries_same h h' n n' [] [] a = tt
    entries_same h h' n n' [] (y ∷ ys) a = absurd a
    entries_same h h' n n' (x ∷ xs) [] a = absurd a
    entries_same h h' n n' (x ∷ xs) (y ∷ ys) a = (a.0, entries_same h h' n n' xs ys a.1)

    -- a pointer's cell and the one that it is renumbered to have one number
    abbrev pub OneNumber : Pending → Type 0
    OneNumber p = (c : ℕ) → p.cell ≡ Some c → nums' (m c) ≡ nums c

    counts_alike : (v : Bool) (mx o a b : ℕ) → a ≡ b → AllKinds (counts v mx o a) (counts v mx o b)
    counts_alike false mx o a b e = tt
    counts_alike true mx o a b e = ((λ at. (refl, refl)), ((λ at. (refl, refl)), ((λ at. (ap (spelling order 4) e, refl)), tt)))

    tag_alike : (dt : Option TypeDef) (arms : List Arm) (default : Option Arm) (v : ℤ) → AllKinds (tag_entries dt arms default v) (tag_entries dt arms default v)
    tag_alike (Some (def.Prim p)) arms default v = ((λ at. (refl, refl)), ((λ at. (refl, refl)), tt))
    tag_alike (Some (def.Enum vs)) arms default v = ((λ at. (refl, refl)), ((λ at. (refl, refl)), tt))
    tag_alike None arms default v = ((λ at. (refl, refl)), tt)
    tag_alike (Some _) arms default v = ((λ at. (refl, refl)), tt)

    before_alike : (table : Table) (t : ℕ) (d : Option TypeDef) (l : Label) (ks : Trees) (h : Home) (n : ℕ) (ags : List Agreement)
        → AllByRecursion OneNumber (pointer_by d (is_pointer l) (cell_in l) h n ags)
        → AllKinds (before_children table t d l ks) (before_children table t d (renumbered_label m l) (renumbered m ks))
    before_alike table t (Some (def.Pointer k to)) (tree.Ptr None) ks h n ags a = ((λ at. (refl, refl)), ((λ at. (refl, refl)), tt))
    before_alike table t (Some (def.Pointer k to)) (tree.Ptr (Some c)) ks h n ags a = ((λ at. (refl, refl)), ((λ at. (ap (spelling order 4) (sym (a.0 c refl)), refl)), tt))
    before_alike table t (Some (def.Prim p)) (tree.Num z) ks h n ags a = ((λ at. (refl, refl)), ((λ at. (refl, refl)), tt))
    before_alike table t (Some (def.Enum vs)) (tree.Num z) ks h n ags a = ((λ at. (refl, refl)), ((λ at. (refl, refl)), tt))
    before_alike table t (Some (def.Struct ms)) tree.Rec ks h n ags a = ((λ at. (refl, refl)), tt)
    before_alike table t (Some (def.Array e b v)) (tree.Arr mx o) ks h n ags a = counts_alike v mx o (count ks) (count (renumbered m ks)) (sym (count_same ks))
    before_alike table t (Some (def.Text e b)) (tree.Text mx os) ks h n ags a = ((λ at. (refl, refl)), ((λ at. (refl, refl)), ((λ at. (refl, refl)), ((λ at. (refl, refl)), tt))))
    before_alike table t (Some (def.Union tag enc arms default)) (tree.Union v) ks h n ags a = tag_alike (type_at table tag.0) arms default v
    before_alike table t (Some def.Context) (tree.Context x i) ks h n ags a = ((λ at. (refl, refl)), ((λ at. (refl, refl)), tt))
    before_alike table t None (tree.Ptr None) ks h n ags a = ((λ at. (refl, refl)), tt)
    before_alike table t None (tree.Ptr (Some c)) ks h n ags a = ((λ at. (refl, refl)), tt)
    before_alike table t (Some (def.Prim p)) (tree.Ptr None) ks h n ags a = ((λ at. (refl, refl)), tt)
    before_alike table t (Some (def.Prim p)) (tree.Ptr (Some c)) ks h n ags a = ((λ at. (refl, refl)), tt)
    before_alike table t (Some _) (tree.Ptr None) ks h n ags a = ((λ at. (refl, refl)), tt)
    before_alike table t (Some _) (tree.Ptr (Some c)) ks h n ags a = ((λ at. (refl, refl)), tt)
    before_alike table t _ _ ks h n ags a = ((λ at. (refl, refl)), tt)

    tests_alike : (h h' : Home) (n n' : ℕ) (v v' : Tree) (ags : List Agreement) → AllSame (tests h n v ags) (tests h' n' v' ags)
    tests_alike h h' n n' v v' [] = tt
    tests_alike h h' n n' v v' (a ∷ ags) = ((λ at. (refl, refl)), tests_alike h h' n n' v v' ags)

    own_alike : (b b' : Bool) → b' ≡ b → (h h' : Home) (n n' : ℕ) (v v' : Tree) (ags : List Agreement) → AllSame (own_tests b h n v ags) (own_tests b' h' n' v' ags)
    own_alike true true e h h' n n' v v' ags = tt
    own_alike false false e h h' n n' v v' ags = tests_alike h h' n n' v v' ags
    own_alike true false e h h' n n' v v' ags = cc
    own_alike false true e h h' n n' v v' ags = cc

    child_tests_alike : (h h' : Home) (ags : List (List Agreement)) (n n' : ℕ) (ts : Trees) → AllSame (child_tests h ags n ts) (child_tests h' ags n' (renumbered m ts))
    child_tests_alike h h' ags n n' none = tt
    child_tests_alike h h' ags n n' (more (node l ks) ts) =
        same_append (own_tests (is_pointer l) h n (node l ks) (first_agreements ags))
        (own_tests (is_pointer (renumbered_label m l)) h' n' (node (renumbered_label m l) (renumbered m ks)) (first_agreements ags)) _ _
        (own_alike (is_pointer l) (is_pointer (renumbered_label m l)) (pointer_alike l) h h' n n' (node l ks) (node (renumbered_label m l) (renumbered m ks)) (first_agreements ags))
        (child_tests_alike h h' (rest_agreements ags) (n + 1 + node_count ks) (n' + 1 + node_count (renumbered m ks)) ts)

    parted : (f : TypedNode → List Pending) (xs ys : List TypedNode) → AllByRecursion OneNumber (flat_map f (xs ++ ys))
        → AllByRecursion OneNumber (flat_map f xs) × AllByRecursion OneNumber (flat_map f ys)
    parted f xs ys a =
        let b : AllByRecursion OneNumber (flat_map f xs ++ flat_map f ys) = subst (AllByRecursion OneNumber) (flat_map-append f xs ys) a in
        (all_left OneNumber (flat_map f xs) (flat_map f ys) b, all_right OneNumber (flat_map f xs) (flat_map f ys) b)

    pub in_place_alike : (table : Table) (h h' : Home) (types : List ℕ) (ags : List (List Agreement)) (n n' : ℕ) (ts : Trees)
        → AllByRecursion OneNumber (flat_map (pointer table h) (nodes_of table types ags n ts)) → AllSame (in_place table h types n ts) (in_place table h' types n' (renumbered m ts))
    in_place_alike table h h' types ags n n' none a = tt
    in_place_alike table h h' [] ags n n' (more (node l ks) ts) a = tt
    in_place_alike table h h' (t ∷ types) ags n n' (more (node l ks) ts) a =
        let d : Option TypeDef = type_at table t in
        let own : List Pending = pointer_by d (is_pointer l) (cell_in l) h n (first_agreements ags) in
        let K : List TypedNode = nodes_of table (child_types d l ks) (child_agreements d ks) (n + 1) ks in
        let R : List TypedNode = nodes_of table types (rest_agreements ags) (n + 1 + node_count ks) ts in
        let (b, c) = parted (pointer table h) K R (all_right OneNumber own (flat_map (pointer table h) (K ++ R)) a) in
        let l' : Label = renumbered_label m l in
        let ks' : Trees = renumbered m ks in
        let I : List Entry = in_place table h (child_types d l ks) (n + 1) ks in
        let C : List Entry = child_tests h (child_agreements d ks) (n + 1) ks in
        let kids : AllSame I (in_place table h' (child_types d l' ks') (n' + 1) ks') =
        subst (λ u. AllSame I (in_place table h' u (n' + 1) ks')) (sym (child_types_same d l ks)) (in_place_alike table h h' (child_types d l ks) (child_agreements d ks) (n + 1) (n' + 1) ks b) in
        let its : AllSame C (child_tests h' (child_agreements d ks') (n' + 1) ks') =
        subst (λ u. AllSame C (child_tests h' u (n' + 1) ks')) (sym (agreements_alike table d ks)) (child_tests_alike h h' (child_agreements d ks) (n + 1) (n' + 1) ks) in
        same_append (entries h n (before_children table t d l ks)) (entries h' n' (before_children table t d l' ks')) _ _
        (entries_same h h' n n' (before_children table t d l ks) (before_children table t d l' ks')
        (before_alike table t d l ks h n (first_agreements ags) (all_left OneNumber own (flat_map (pointer table h) (K ++ R)) a)))
        (same_append I (in_place table h' (child_types d l' ks') (n' + 1) ks') _ _ kids
        (same_append C (child_tests h' (child_agreements d ks') (n' + 1) ks') (in_place table h types (n + 1 + node_count ks) ts)
        (in_place table h' types (n' + 1 + node_count ks') (renumbered m ts)) its
        (in_place_alike table h h' types (rest_agreements ags) (n + 1 + node_count ks) (n' + 1 + node_count ks') ts c)))

    hoisted_alike : (b : Bool) (l : Label) (x y : ℕ) → x ≡ y → AllKinds (hoisted b l x) (hoisted b (renumbered_label m l) y)
    hoisted_alike false l x y e = tt
    hoisted_alike true tree.Unread x y e = tt
    hoisted_alike true (tree.Ptr None) x y e = ((λ at. (refl, refl)), ((λ at. (ap (spelling order 4) e, refl)), tt))
    hoisted_alike true (tree.Ptr (Some c)) x y e = ((λ at. (refl, refl)), ((λ at. (ap (spelling order 4) e, refl)), tt))
    hoisted_alike true (tree.Num z) x y e = ((λ at. (refl, refl)), ((λ at. (ap (spelling order 4) e, refl)), tt))
    hoisted_alike true _ x y e = ((λ at. (refl, refl)), ((λ at. (ap (spelling order 4) e, refl)), tt))

    pub whole_alike : (table : Table) (h h' : Home) (t : ℕ) (v v' : Tree) → more v' none ≡ renumbered m (more v none) → AllByRecursion OneNumber (home_pointers table h t v)
        → AllSame (whole_value table h t v) (whole_value table h' t v')
    whole_alike table h h' t (node l ks) v' e a =
        subst (λ u. AllSame (whole_value table h t (node l ks)) (whole_value table h' t u)) (sym (ap (first_of v') e))
        (same_append (entries h 0 (hoisted (hoists table t) l (hoisted_max 0 (more (node l ks) none))))
        (entries h' 0 (hoisted (hoists table t) (renumbered_label m l) (hoisted_max 0 (more (node (renumbered_label m l) (renumbered m ks)) none)))) _ _
        (entries_same h h' 0 0 _ _ (hoisted_alike (hoists table t) l _ _ (sym (max_same 0 (more (node l ks) none)))))
        (in_place_alike table h h' (t ∷ []) [] 0 0 (more (node l ks) none) a))
      where
        first_of : Tree → Trees → Tree
        first_of d none = d
        first_of d (more t ts) = t
