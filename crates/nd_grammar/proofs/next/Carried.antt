-- Values that match, and whose pointers name pairs of a map of cells, are carried by that map.
use Rattle.std.proofs.Common.{◌≡◌, ℕ, ◌+◌, Bool, true, false, List, [], ◌∷◌, ◌++◌, length, Option, Some, None, refl, ap, ap₂, sym, ◌∙◌, inl, inr, ◌⊎◌, arith, subst, length-append}
use Rattle.std.proofs.lemmas.Grind.{flat_map-append}
use Rattle.std.specs.Prelude.{map, flat_map}
use Rattle.nd_types.specs.declared.types.TypeDef.{TypeDef}
use Rattle.nd_types.specs.declared.types.TypeDef.TheVariants as def
use Rattle.nd_types.specs.declared.types.Class.{Class}
use Rattle.nd_types.specs.Table.{Table, type_at}
use Rattle.nd_value.specs.declared.value.Graph.{Graph}
use Rattle.nd_value.specs.declared.item.Home.{Home}
use Rattle.nd_value.specs.Tree as tree
use Rattle.nd_value.specs.Tree.{Trees, node, none, more, count, node_count, Label, is_pointer, cell_in}
use Rattle.nd_value.specs.Agreement.{Agreement}
use Rattle.nd_value.specs.Setting.{Among}
use Rattle.nd_value.specs.Misfit.{has_shape, has_counts}
use Rattle.nd_value.specs.Nodes.{child_types, child_agreements, first_agreements, rest_agreements, nodes_of, TypedNode}
use Rattle.nd_value.specs.Deferral.{Pending, pointer, pointer_by}
use Rattle.nd_grammar.proofs.next.Matching.{bare, class_of, Matched, NodeKnown, Known, matched_count, through, pointer_bare}
use Rattle.nd_grammar.proofs.next.Next.{Pair}
use Rattle.nd_grammar.proofs.next.NextPending.{types_same}

-- two cells are a pair of the map, or both are none
abbrev pub InMap : List Pair → Class → Option ℕ → Option ℕ → Type 0
InMap map k None None = Unit {0}
InMap map k (Some c) (Some d) = (x : Pair) × Among map x × (x.left ≡ c) × (x.right ≡ d)
InMap map k _ _ = ⊥

-- the pointers' cells are pairs of the map, pointer by pointer
abbrev pub AllInMap : List Pair → List Pending → List Pending → Type 0
AllInMap map [] [] = Unit {0}
AllInMap map (p ∷ ps) (q ∷ qs) = InMap map p.class p.cell q.cell × AllInMap map ps qs
AllInMap map _ _ = ⊥

module _ (map : List Pair) where
  parted : (ps qs ps' qs' : List Pending) → length ps ≡ length qs → AllInMap map (ps ++ ps') (qs ++ qs') → AllInMap map ps qs × AllInMap map ps' qs'
  parted [] [] ps' qs' e a = (tt, a)
  parted [] (q ∷ qs) ps' qs' e a = cc
  parted (p ∷ ps) [] ps' qs' e a = cc
  parted (p ∷ ps) (q ∷ qs) ps' qs' e a =
      let f : length ps ≡ length qs = omega arith in
      let (x, y) = parted ps qs ps' qs' f a.1 in
      ((a.0, x), y)

pointer_count : (d : Option TypeDef) (b b' : Bool) (c c' : Option ℕ) (h h' : Home) (n n' : ℕ) (ags ags' : List Agreement) → b ≡ b'
    → length (pointer_by d b c h n ags) ≡ length (pointer_by d b' c' h' n' ags')
pointer_count (Some (def.Pointer k to)) true true c c' h h' n n' ags ags' e = refl
pointer_count (Some (def.Pointer k to)) true false c c' h h' n n' ags ags' e = cc
pointer_count (Some (def.Pointer k to)) false true c c' h h' n n' ags ags' e = cc
pointer_count (Some (def.Pointer k to)) false false c c' h h' n n' ags ags' e = refl
pointer_count _ b b' c c' h h' n n' ags ags' e = refl

no_cell : (l : Label) → is_pointer l ≡ false → cell_in l ≡ None
no_cell (tree.Ptr c) e = cc
no_cell _ e = refl

pub a_pointer : (l : Label) → is_pointer l ≡ true → l ≡ tree.Ptr (cell_in l)
a_pointer (tree.Ptr c) e = refl
a_pointer _ e = cc

module _ (C : Class → Option ℕ → Option ℕ → Type 0) (g g' : Graph) (table : Table) (h h' : Home) where
  abbrev f : TypedNode → List Pending
  f = pointer table h

  abbrev f' : TypedNode → List Pending
  f' = pointer table h'

  abbrev L : List ℕ → List (List Agreement) → ℕ → Trees → List Pending
  L types ags n ts = flat_map f (nodes_of table types ags n ts)

  abbrev R : List ℕ → List (List Agreement) → ℕ → Trees → List Pending
  R types ags n ts = flat_map f' (nodes_of table types ags n ts)

  length_split : (p : TypedNode → List Pending) (own : List Pending) (as' bs : List TypedNode)
      → length (own ++ flat_map p (as' ++ bs)) ≡ length own + (length (flat_map p as') + length (flat_map p bs))
  length_split p own as' bs =
      length-append own (flat_map p (as' ++ bs)) ∙ ap (λ u. length own + u) (ap length (flat_map-append p as' bs) ∙ length-append (flat_map p as') (flat_map p bs))

  -- values that match have as many pointers
  as_many : (types : List ℕ) (ts us : Trees) → Matched C table types ts us → (ags ags' : List (List Agreement)) (n n' : ℕ)
      → length (L types ags n ts) ≡ length (R types ags' n' us)
  as_many types none none m ags ags' n n' = refl
  as_many [] none (more u us) m ags ags' n n' = absurd m
  as_many [] (more t ts) none m ags ags' n n' = absurd m
  as_many (t ∷ types) none (more u us) m ags ags' n n' = absurd m
  as_many (t ∷ types) (more (node l ks) ts) none m ags ags' n n' = absurd m
  as_many [] (more t ts) (more u us) m ags ags' n n' = absurd m
  as_many (t ∷ types) (more (node l ks) ts) (more (node l' ks') us) m ags ags' n n' =
      let d : Option TypeDef = type_at table t in
      let c : count ks ≡ count ks' = matched_count C table _ ks ks' m.1 in
      let e : child_types d l ks ≡ child_types d l' ks' = types_same C g g' d l l' ks ks' m.0.same c in
      let own = pointer_count d (is_pointer l) (is_pointer l') (cell_in l) (cell_in l') h h' n n' (first_agreements ags) (first_agreements ags')
      (through l l' m.0.same is_pointer pointer_bare) in
      let kids : length (L (child_types d l ks) (child_agreements d ks) (n + 1) ks) ≡ length (R (child_types d l' ks') (child_agreements d ks') (n' + 1) ks') =
      subst (λ u. length (L (child_types d l ks) (child_agreements d ks) (n + 1) ks) ≡ length (R u (child_agreements d ks') (n' + 1) ks')) e
      (as_many (child_types d l ks) ks ks' m.1 (child_agreements d ks) (child_agreements d ks') (n + 1) (n' + 1)) in
      let rest = as_many types ts us m.2 (rest_agreements ags) (rest_agreements ags') (n + 1 + node_count ks) (n' + 1 + node_count ks') in
      length_split f (pointer_by d (is_pointer l) (cell_in l) h n (first_agreements ags))
      (nodes_of table (child_types d l ks) (child_agreements d ks) (n + 1) ks) (nodes_of table types (rest_agreements ags) (n + 1 + node_count ks) ts)
      ∙ ap₂ (λ u v. u + v) own (ap₂ (λ u v. u + v) kids rest)
      ∙ sym (length_split f' (pointer_by d (is_pointer l') (cell_in l') h' n' (first_agreements ags'))
      (nodes_of table (child_types d l' ks') (child_agreements d ks') (n' + 1) ks') (nodes_of table types (rest_agreements ags') (n' + 1 + node_count ks') us))

  module _ (map : List Pair) where
    its_cell : (d : Option TypeDef) (c c' : Option ℕ) (ks : Trees) (n n' : ℕ) (ags ags' : List Agreement) → has_shape d (tree.Ptr c) ks ≡ true
        → AllInMap map (pointer_by d true c h n ags) (pointer_by d true c' h' n' ags') → InMap map (class_of d) c c'
    its_cell (Some (def.Pointer k to)) c c' ks n n' ags ags' e a = a.0
    its_cell None c c' ks n n' ags ags' e a = cc
    its_cell (Some _) c c' ks n n' ags ags' e a = cc

    own_cell : (d : Option TypeDef) (l l' : Label) (ks : Trees) (n n' : ℕ) (ags ags' : List Agreement) → bare l ≡ bare l' → NodeKnown g d l ks
        → AllInMap map (pointer_by d (is_pointer l) (cell_in l) h n ags) (pointer_by d (is_pointer l') (cell_in l') h' n' ags')
        → InMap map (class_of d) (cell_in l) (cell_in l')
    own_cell d l l' ks n n' ags ags' e known a = by_pointer (is_pointer l) refl
      where
        same : is_pointer l ≡ is_pointer l'
        same = through l l' e is_pointer pointer_bare

        by_pointer : (b : Bool) → is_pointer l ≡ b → InMap map (class_of d) (cell_in l) (cell_in l')
        by_pointer false i =
            subst (λ u. InMap map (class_of d) u (cell_in l')) (sym (no_cell l i))
            (subst (λ u. InMap map (class_of d) None u) (sym (no_cell l' (sym same ∙ i))) tt)
        by_pointer true i = go known.shape
          where
            a' : AllInMap map (pointer_by d true (cell_in l) h n ags) (pointer_by d true (cell_in l') h' n' ags')
            a' =
                subst (λ u. AllInMap map (pointer_by d true (cell_in l) h n ags) (pointer_by d u (cell_in l') h' n' ags')) (sym same ∙ i)
                (subst (λ u. AllInMap map (pointer_by d u (cell_in l) h n ags) (pointer_by d (is_pointer l') (cell_in l') h' n' ags')) i a)

            go : (l ≡ tree.Unread) ⊎ ((has_shape d l ks ≡ true) × (has_counts d l ks ≡ true)) → InMap map (class_of d) (cell_in l) (cell_in l')
            go (inl u) = let x : tree.Ptr (cell_in l) ≡ tree.Unread = sym (a_pointer l i) ∙ u in absurd (cc)
            go (inr s) = its_cell d (cell_in l) (cell_in l') ks n n' ags ags' (subst (λ u. has_shape d u ks ≡ true) (a_pointer l i) s.0) a'

    -- values that match and whose pointers are resolved in a map match by that map
    pub carried : (types : List ℕ) (ts us : Trees) → Known g table types ts → Matched C table types ts us
        → (ags ags' : List (List Agreement)) (n n' : ℕ) → AllInMap map (L types ags n ts) (R types ags' n' us) → Matched (InMap map) table types ts us
    carried types none none k m ags ags' n n' a = tt
    carried [] none (more u us) k m ags ags' n n' a = absurd m
    carried [] (more t ts) us k m ags ags' n n' a = absurd k
    carried (t ∷ types) none us k m ags ags' n n' a = absurd k
    carried (t ∷ types) (more (node l ks) ts) none k m ags ags' n n' a = absurd m
    carried (t ∷ types) (more (node l ks) ts) (more (node l' ks') us) k m ags ags' n n' a =
        let d : Option TypeDef = type_at table t in
        let c : count ks ≡ count ks' = matched_count C table _ ks ks' m.1 in
        let e : child_types d l ks ≡ child_types d l' ks' = types_same C g g' d l l' ks ks' m.0.same c in
        let own : List Pending = pointer_by d (is_pointer l) (cell_in l) h n (first_agreements ags) in
        let own' : List Pending = pointer_by d (is_pointer l') (cell_in l') h' n' (first_agreements ags') in
        let K : List TypedNode = nodes_of table (child_types d l ks) (child_agreements d ks) (n + 1) ks in
        let K' : List TypedNode = nodes_of table (child_types d l' ks') (child_agreements d ks') (n' + 1) ks' in
        let T : List TypedNode = nodes_of table types (rest_agreements ags) (n + 1 + node_count ks) ts in
        let T' : List TypedNode = nodes_of table types (rest_agreements ags') (n' + 1 + node_count ks') us in
        let whole : AllInMap map (own ++ (flat_map f K ++ flat_map f T)) (own' ++ (flat_map f' K' ++ flat_map f' T')) =
        subst (λ u. AllInMap map (own ++ u) (own' ++ (flat_map f' K' ++ flat_map f' T'))) (flat_map-append f K T)
        (subst (λ u. AllInMap map (own ++ flat_map f (K ++ T)) (own' ++ u)) (flat_map-append f' K' T') a) in
        let (first, others) = parted map own own' _ _
        (pointer_count d (is_pointer l) (is_pointer l') (cell_in l) (cell_in l') h h' n n' (first_agreements ags) (first_agreements ags')
        (through l l' m.0.same is_pointer pointer_bare)) whole in
        let kids_many : length (flat_map f K) ≡ length (flat_map f' K') =
        subst (λ u. length (flat_map f K) ≡ length (R u (child_agreements d ks') (n' + 1) ks')) e
        (as_many (child_types d l ks) ks ks' m.1 (child_agreements d ks) (child_agreements d ks') (n + 1) (n' + 1)) in
        let (of_kids, of_rest) = parted map (flat_map f K) (flat_map f' K') (flat_map f T) (flat_map f' T') kids_many others in
        let of_kids' : AllInMap map (flat_map f K) (R (child_types d l ks) (child_agreements d ks') (n' + 1) ks') =
        subst (λ u. AllInMap map (flat_map f K) (R u (child_agreements d ks') (n' + 1) ks')) (sym e) of_kids in (
          record { same = m.0.same; cells = own_cell d l l' ks n n' (first_agreements ags) (first_agreements ags') m.0.same k.0 first; read = m.0.read; read' = m.0.read' },
          carried (child_types d l ks) ks ks' (k.1 m.0.read) m.1 (child_agreements d ks) (child_agreements d ks') (n + 1) (n' + 1) of_kids',
          carried types ts us k.2 m.2 (rest_agreements ags) (rest_agreements ags') (n + 1 + node_count ks) (n' + 1 + node_count ks') of_rest,
        )
