-- Values that match have pointers that match.
use Rattle.std.proofs.Common.{◌≡◌, ℕ, ◌+◌, Bool, true, false, List, [], ◌∷◌, ◌++◌, Option, Some, None, refl, ap, sym, ◌∙◌, subst, replicate}
use Rattle.std.proofs.lemmas.Grind.{flat_map-append}
use Rattle.std.specs.Prelude.{map, flat_map}
use Rattle.nd_types.specs.declared.types.TypeDef.{TypeDef}
use Rattle.nd_types.specs.declared.types.TypeDef.TheVariants as def
use Rattle.nd_types.specs.declared.types.Class.{Class}
use Rattle.nd_types.specs.Table.{Table, type_at}
use Rattle.nd_value.specs.declared.value.Graph.{Graph}
use Rattle.nd_value.specs.declared.item.Home.{Home}
use Rattle.nd_value.specs.Tree as tree
use Rattle.nd_value.specs.Tree.{Tree, Trees, node, none, more, count, node_count, Label, Referent, is_pointer, cell_in}
use Rattle.nd_value.specs.Agreement.{Agreement}
use Rattle.nd_value.specs.Nodes.{child_types, child_agreements, first_agreements, rest_agreements, nodes_of, TypedNode}
use Rattle.nd_value.specs.Deferral.{Pending, pointer, pointer_by, Due, due_root, due_referent}
use Rattle.nd_value.proofs.Orderly.{Pointee}
use Rattle.nd_grammar.proofs.next.Matching.{bare, class_of, Matched, PointeeKnown, Known, matched_nodes, matched_count, matched_number, child_agreements_same, through, pointer_bare}

module _ (C : Class → Option ℕ → Option ℕ → Type 0) (g g' : Graph) where
  pub record PointersMatch (p q : Pending) : Type 0 where
    pub class : p.class ≡ q.class
    pub to : p.to ≡ q.to
    pub node : p.node ≡ q.node
    pub agreements : p.agreements ≡ q.agreements
    pub cells : C p.class p.cell q.cell
    pub typed : Pointee g p
    pub typed' : Pointee g' q

  abbrev pub AllPointers : List Pending → List Pending → Type 0
  AllPointers [] [] = Unit {0}
  AllPointers (p ∷ ps) (q ∷ qs) = PointersMatch p q × AllPointers ps qs
  AllPointers _ _ = ⊥

  pub both : (ps qs ps' qs' : List Pending) → AllPointers ps qs → AllPointers ps' qs' → AllPointers (ps ++ ps') (qs ++ qs')
  both [] [] ps' qs' a b = b
  both [] (q ∷ qs) ps' qs' a b = absurd a
  both (p ∷ ps) [] ps' qs' a b = absurd a
  both (p ∷ ps) (q ∷ qs) ps' qs' a b = (a.0, both ps qs ps' qs' a.1 b)

  by_match : (d : Option TypeDef) (b : Bool) (c c' : Option ℕ) (h h' : Home) (n : ℕ) (ws : List Agreement)
      → C (class_of d) c c' → PointeeKnown g d c → PointeeKnown g' d c'
      → AllPointers (pointer_by d b c h n ws) (pointer_by d b c' h' n ws)
  by_match (Some (def.Pointer k to)) true c c' h h' n ws m a a' = (
    record {
      class = refl;
      to = refl;
      node = refl;
      agreements = refl;
      cells = m;
      typed = λ e same. subst (λ o. PointeeKnown g (Some (def.Pointer k to)) o) same a;
      typed' = λ e same. subst (λ o. PointeeKnown g' (Some (def.Pointer k to)) o) same a';
    },
    tt,
  )
  by_match (Some (def.Pointer k to)) false c c' h h' n ws m a a' = tt
  by_match _ b c c' h h' n ws m a a' = tt

  count_types : (d : Option TypeDef) (l : Label) (ks ks' : Trees) → count ks ≡ count ks' → child_types d l ks ≡ child_types d l ks'
  count_types (Some (def.Array e b v)) (tree.Arr m o) ks ks' c = ap (λ u. replicate u e.0) c
  count_types (Some (def.Pipe e)) tree.Pipe ks ks' c = ap (λ u. replicate u e.0) c
  count_types (Some (def.Struct fs)) tree.Rec ks ks' c = refl
  count_types (Some (def.Union tag enc arms default)) (tree.Union v) ks ks' c = refl
  count_types _ _ ks ks' c = refl

  bare_types : (d : Option TypeDef) (ks : Trees) (l : Label) → child_types d l ks ≡ child_types d (bare l) ks
  bare_types d ks (tree.Ptr c) = go d
    where
      go : (d : Option TypeDef) → child_types d (tree.Ptr c) ks ≡ child_types d (tree.Ptr None) ks
      go (Some (def.Struct fs)) = refl
      go (Some (def.Array e b v)) = refl
      go (Some (def.Pipe e)) = refl
      go (Some (def.Union tag enc arms default)) = refl
      go _ = refl
  bare_types d ks _ = refl

  pub types_same : (d : Option TypeDef) (l l' : Label) (ks ks' : Trees) → bare l ≡ bare l' → count ks ≡ count ks' → child_types d l ks ≡ child_types d l' ks'
  types_same d l l' ks ks' e c = through l l' e (λ k. child_types d k ks) (bare_types d ks) ∙ count_types d l' ks ks' c

  pub nodes_match : (table : Table) (h h' : Home) (types : List ℕ) (agreements : List (List Agreement)) (n : ℕ) (ts us : Trees)
      → Known g table types ts → Known g' table types us → Matched C table types ts us
      → AllPointers (flat_map (pointer table h) (nodes_of table types agreements n ts)) (flat_map (pointer table h') (nodes_of table types agreements n us))
  nodes_match table h h' [] agreements n none none a b m = tt
  nodes_match table h h' [] agreements n none (more u us) a b m = absurd m
  nodes_match table h h' [] agreements n (more t ts) us a b m = absurd a
  nodes_match table h h' (t ∷ types) agreements n none us a b m = absurd a
  nodes_match table h h' (t ∷ types) agreements n (more (node l ks) ts) none a b m = absurd m
  nodes_match table h h' (t ∷ types) agreements n (more (node l ks) ts) (more (node l' ks') us) a b m =
      let d : Option TypeDef = type_at table t in
      let c : count ks ≡ count ks' = matched_count C table _ ks ks' m.1 in
      let v : node_count ks ≡ node_count ks' = matched_nodes C table _ ks ks' m.1 in
      let w : child_agreements d ks ≡ child_agreements d ks' = child_agreements_same C table d ks ks' (matched_number C table _ ks ks' m.1) in
      let e : child_types d l ks ≡ child_types d l' ks' = types_same d l l' ks ks' m.0.same c in
      let i : is_pointer l ≡ is_pointer l' = through l l' m.0.same is_pointer pointer_bare in
      let A : List TypedNode = nodes_of table (child_types d l ks) (child_agreements d ks) (n + 1) ks in
      let B : List TypedNode = nodes_of table types (rest_agreements agreements) (n + 1 + node_count ks) ts in
      let A' : List ℕ → List (List Agreement) → List TypedNode = λ x y. nodes_of table x y (n + 1) ks' in
      let B' : ℕ → List TypedNode = λ x. nodes_of table types (rest_agreements agreements) (n + 1 + x) us in
      let f : TypedNode → List Pending = pointer table h in
      let f' : TypedNode → List Pending = pointer table h' in
      let own = by_match d (is_pointer l) (cell_in l) (cell_in l') h h' n (first_agreements agreements) m.0.cells a.0.pointee b.0.pointee in
      let kids = nodes_match table h h' (child_types d l ks) (child_agreements d ks) (n + 1) ks ks' (a.1 m.0.read) (subst (λ x. Known g' table x ks') (sym e) (b.1 m.0.read')) m.1 in
      let rest = nodes_match table h h' types (rest_agreements agreements) (n + 1 + node_count ks) ts us a.2 b.2 m.2 in
      let whole : AllPointers
      (pointer_by d (is_pointer l) (cell_in l) h n (first_agreements agreements) ++ (flat_map f A ++ flat_map f B))
      (pointer_by d (is_pointer l) (cell_in l') h' n (first_agreements agreements) ++ (flat_map f' (A' (child_types d l ks) (child_agreements d ks)) ++ flat_map f' (B' (node_count ks)))) =
      both _ _ _ _ own (both _ _ _ _ kids rest) in
      let T : Bool → List ℕ → List (List Agreement) → ℕ → Type 0 = λ x y z u.
      AllPointers
      (pointer_by d (is_pointer l) (cell_in l) h n (first_agreements agreements) ++ flat_map f (A ++ B))
      (pointer_by d x (cell_in l') h' n (first_agreements agreements) ++ flat_map f' (A' y z ++ B' u)) in
      let start : T (is_pointer l) (child_types d l ks) (child_agreements d ks) (node_count ks) =
      rw (flat_map-append f A B, flat_map-append f' (A' (child_types d l ks) (child_agreements d ks)) (B' (node_count ks))) whole in
      subst (λ x. T x (child_types d l' ks') (child_agreements d ks') (node_count ks')) i
      (subst (λ y. T (is_pointer l) y (child_agreements d ks') (node_count ks')) e
      (subst (λ z. T (is_pointer l) (child_types d l ks) z (node_count ks')) w
      (subst (λ u. T (is_pointer l) (child_types d l ks) (child_agreements d ks) u) v start)))

  abbrev pub DueMatches : Due → Due → Type 0
  DueMatches (due_root i) (due_root j) = i ≡ j
  DueMatches (due_referent p) (due_referent q) = PointersMatch p q
  DueMatches _ _ = ⊥

  abbrev pub AllDueMatch : List Due → List Due → Type 0
  AllDueMatch [] [] = Unit {0}
  AllDueMatch (x ∷ xs) (y ∷ ys) = DueMatches x y × AllDueMatch xs ys
  AllDueMatch _ _ = ⊥

  pub then_due : (ps qs : List Pending) (xs ys : List Due) → AllPointers ps qs → AllDueMatch xs ys
      → AllDueMatch (map due_referent ps ++ xs) (map due_referent qs ++ ys)
  then_due [] [] xs ys a b = b
  then_due [] (q ∷ qs) xs ys a b = absurd a
  then_due (p ∷ ps) [] xs ys a b = absurd a
  then_due (p ∷ ps) (q ∷ qs) xs ys a b = (a.0, then_due ps qs xs ys a.1 b)
