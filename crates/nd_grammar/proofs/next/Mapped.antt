-- What a map of cells that carries two graphs says of their values, and of their pointers.
use Rattle.std.proofs.Common.{◌≡◌, ℕ, ◌+◌, zero, suc, Bool, true, false, List, [], ◌∷◌, ◌++◌, Option, Some, None, refl, ap, ap₂, sym, ◌∙◌, inl, inr, subst, replicate}
use Rattle.std.specs.Prelude.{flat_map, eqb, cond}
use Rattle.std.specs.List.{AllByRecursion}
use Rattle.std.proofs.lemmas.Bool.{and_parts, not-true, eq-eqb}
use Rattle.std.proofs.lemmas.Grind.{flat_map-append}
use Rattle.nd_types.specs.declared.types.TypeDef.{TypeDef}
use Rattle.nd_types.specs.declared.types.TypeId.{TypeId}
use Rattle.nd_types.specs.declared.types.TypeDef.TheVariants as def
use Rattle.nd_types.specs.declared.types.Class.{Class}
use Rattle.nd_types.specs.Table.{Table, type_at}
use Rattle.nd_types.specs.Layout.{parts}
use Rattle.nd_types.specs.Legal.{has_none_within, is_barred_in_pipes}
use Rattle.nd_value.specs.declared.value.Graph.{Graph}
use Rattle.nd_value.specs.declared.item.Home.{Home}
use Rattle.nd_value.specs.Tree as tree
use Rattle.nd_value.specs.Tree.{Tree, Trees, node, none, more, Label, is_pointer, cell_in, count, node_count}
use Rattle.nd_value.specs.Agreement.{Agreement}
use Rattle.nd_value.specs.Setting.{Among}
use Rattle.nd_value.specs.Nodes.{TypedNode, nodes_of, child_types, child_agreements, first_agreements, rest_agreements}
use Rattle.nd_value.specs.Deferral.{Pending, pointer, pointer_by, home_pointers}
use Rattle.nd_value.specs.Canon.{renumbered, renumbered_label}
use Rattle.nd_value.proofs.NodeFacts.{all_of_list}
use Rattle.nd_value.proofs.Apart.{all_among, all_weaker}
use Rattle.nd_value.proofs.Waiting.{not_equal}
use Rattle.nd_grammar.proofs.next.Next.{Pair, IsApart, OneToOne}
use Rattle.nd_grammar.proofs.next.Matching.{bare, class_of, Match, Matched, through, pointer_bare}
use Rattle.nd_grammar.proofs.next.NextPending.{AllPointers}
use Rattle.nd_grammar.proofs.next.Carried.{InMap, a_pointer as pointer_label}
use Rattle.nd_grammar.proofs.next.NextStream.{FitsPipes}
use Rattle.nd_grammar.proofs.LegalSides.{in_selected}

-- the cell to which a map carries one; a number that is none of its cells stays
abbrev pub image : List Pair → ℕ → ℕ
image [] c = c
image (x ∷ xs) c = cond (eqb c x.left) x.right (image xs c)

pub image_at : (ys : List Pair) → OneToOne ys → (z : Pair) → Among ys z → image ys z.left ≡ z.right
image_at [] one z a = absurd a
image_at (x ∷ xs) one z (inl e) =
    ap (λ b. cond b x.right (image xs z.left)) (eq-eqb z.left x.left (ap (λ u. u.left) e)) ∙ ap (λ u. u.right) (sym e)
image_at (x ∷ xs) one z (inr a) =
    let p : IsApart x z = all_among (IsApart x) xs z a one.0 in
    ap (λ b. cond b x.right (image xs z.left)) (not_equal z.left x.left (λ e. p.0 (sym e))) ∙ image_at xs one.1 z a

pub image_elsewhere : (ys : List Pair) (c : ℕ) → ((z : Pair) → Among ys z → z.left ≡ c → ⊥) → image ys c ≡ c
image_elsewhere [] c none_there = refl
image_elsewhere (x ∷ xs) c none_there =
    ap (λ b. cond b x.right (image xs c)) (not_equal c x.left (λ e. none_there x (inl refl) (sym e)))
    ∙ image_elsewhere xs c (λ z a. none_there z (inr a))

-- pairs with one right cell have one left cell
pub one_left : (ys : List Pair) → OneToOne ys → (y z : Pair) → Among ys y → Among ys z → y.right ≡ z.right → y.left ≡ z.left
one_left [] one y z a b e = absurd a
one_left (x ∷ xs) one y z (inl f) (inl k) e = ap (λ u. u.left) (f ∙ sym k)
one_left (x ∷ xs) one y z (inl f) (inr b) e =
    absurd ((all_among (IsApart x) xs z b one.0).1 (ap (λ u. u.right) (sym f) ∙ e))
one_left (x ∷ xs) one y z (inr a) (inl k) e =
    absurd ((all_among (IsApart x) xs y a one.0).1 (ap (λ u. u.right) (sym k) ∙ sym e))
one_left (x ∷ xs) one y z (inr a) (inr b) e = one_left xs one.1 y z a b e

plain_bare : (l : Label) → is_pointer l ≡ false → bare l ≡ l
plain_bare (tree.Ptr c) e = cc
plain_bare (tree.Num z) e = refl
plain_bare _ e = refl

plain_label : (m : ℕ → ℕ) (l : Label) → is_pointer l ≡ false → renumbered_label m l ≡ l
plain_label m (tree.Ptr c) e = cc
plain_label m (tree.Num z) e = refl
plain_label m _ e = refl

module _ (ys : List Pair) (one : OneToOne ys) where
  cell_image : (k : Class) (o o' : Option ℕ) → InMap ys k o o' → renumbered_label (image ys) (tree.Ptr o) ≡ tree.Ptr o'
  cell_image k None None m = refl
  cell_image k None (Some d) m = absurd m
  cell_image k (Some c) None m = absurd m
  cell_image k (Some c) (Some d) (z, a, l, r) = ap (λ u. tree.Ptr (Some u)) (ap (image ys) (sym l) ∙ image_at ys one z a ∙ r)

  label_image : (d : Option TypeDef) (l l' : Label) → Match (InMap ys) d l l' → renumbered_label (image ys) l ≡ l'
  label_image d l l' m = go (is_pointer l) refl
    where
      same : is_pointer l ≡ is_pointer l'
      same = through l l' m.same is_pointer pointer_bare

      go : (b : Bool) → is_pointer l ≡ b → renumbered_label (image ys) l ≡ l'
      go false e = plain_label (image ys) l e ∙ sym (plain_bare l e) ∙ m.same ∙ plain_bare l' (sym same ∙ e)
      go true e =
          ap (renumbered_label (image ys)) (pointer_label l e) ∙ cell_image (class_of d) (cell_in l) (cell_in l') m.cells ∙ sym (pointer_label l' (sym same ∙ e))

  -- what a map carries, its image renumbers
  pub renumber : (table : Table) (types : List ℕ) (ts us : Trees) → Matched (InMap ys) table types ts us → renumbered (image ys) ts ≡ us
  renumber table types none none m = refl
  renumber table [] none (more u us) m = absurd m
  renumber table [] (more t ts) none m = absurd m
  renumber table (t ∷ types) none (more u us) m = absurd m
  renumber table (t ∷ types) (more (node l ks) ts) none m = absurd m
  renumber table [] (more t ts) (more u us) m = absurd m
  renumber table (t ∷ types) (more (node l ks) ts) (more (node l' ks') us) m =
      ap₂ (λ u v. more u v)
      (ap₂ (λ u v. node u v) (label_image (type_at table t) l l' m.0) (renumber table (child_types (type_at table t) l ks) ks ks' m.1))
      (renumber table types ts us m.2)

  -- the pointers of values that a map carries name cells of the map
  module _ (g g' : Graph) where
    pub left_in : (ps qs : List Pending) → AllPointers (InMap ys) g g' ps qs → (p : Pending) → Among ps p → (c : ℕ) → p.cell ≡ Some c
        → (z : Pair) × Among ys z × (z.left ≡ c)
    left_in [] qs m p a c e = absurd a
    left_in (q ∷ ps) [] m p a c e = absurd m
    left_in (q ∷ ps) (r ∷ qs) m p (inr a) c e = left_in ps qs m.1 p a c e
    left_in (q ∷ ps) (r ∷ qs) m p (inl s) c e = go r.cell (subst (λ o. InMap ys q.class o r.cell) (ap (λ u. u.cell) (sym s) ∙ e) m.0.cells)
      where
        go : (o : Option ℕ) → InMap ys q.class (Some c) o → (z : Pair) × Among ys z × (z.left ≡ c)
        go None x = absurd x
        go (Some d) (z, b, l, k) = (z, b, l)

    pub right_in : (ps qs : List Pending) → AllPointers (InMap ys) g g' ps qs → (q : Pending) → Among qs q → (c : ℕ) → q.cell ≡ Some c
        → (z : Pair) × Among ys z × (z.right ≡ c)
    right_in ps [] m q a c e = absurd a
    right_in [] (r ∷ qs) m q a c e = absurd m
    right_in (p ∷ ps) (r ∷ qs) m q (inr a) c e = right_in ps qs m.1 q a c e
    right_in (p ∷ ps) (r ∷ qs) m q (inl s) c e = go p.cell (subst (λ o. InMap ys p.class p.cell o) (ap (λ u. u.cell) (sym s) ∙ e) m.0.cells)
      where
        go : (o : Option ℕ) → InMap ys p.class o (Some c) → (z : Pair) × Among ys z × (z.right ≡ c)
        go None x = absurd x
        go (Some d) (z, b, l, k) = (z, b, k)

-- A pipe's elements have no pointers.
all_replicate : (P : ℕ → Type 0) (n t : ℕ) → P t → AllByRecursion P (replicate n t)
all_replicate P zero t p = tt
all_replicate P (suc n) t p = (p, all_replicate P n t p)

pub in_parts : (P : ℕ → Type 0) (d : Option TypeDef) (l : Label) (ks : Trees) → AllByRecursion P (parts d) → AllByRecursion P (child_types d l ks)
in_parts P (Some (def.Struct ms)) tree.Rec ks a = a
in_parts P (Some (def.Array e b v)) (tree.Arr m o) ks a = all_replicate P (count ks) e.0 a.0
in_parts P (Some (def.Union tag enc arms default)) (tree.Union v) ks a = in_selected P arms default v a
in_parts P (Some (def.Pipe e)) tree.Pipe ks a = all_replicate P (count ks) e.0 a.0
in_parts P _ _ ks a = tt

no_pointer : (d : Option TypeDef) (b : Bool) (c : Option ℕ) (h : Home) (n : ℕ) (ags : List Agreement) → is_barred_in_pipes d ≡ false → pointer_by d b c h n ags ≡ []
no_pointer (Some (def.Pointer k to)) b c h n ags e = cc
no_pointer None b c h n ags e = refl
no_pointer (Some _) b c h n ags e = refl

module _ (table : Table) (h : Home) where
  deeper : (depth : ℕ) (t : ℕ) → has_none_within depth is_barred_in_pipes table t ≡ true
      → (is_barred_in_pipes (type_at table t) ≡ false) × AllByRecursion (FitsPipes table) (parts (type_at table t))
  deeper zero t e = cc
  deeper (suc depth) t e =
      let (a, b) = and_parts _ _ e in
      (not-true _ a, all_weaker _ _ (λ u f. (depth, f)) (parts (type_at table t)) (all_of_list _ _ b))

  pub no_pointers : (types : List ℕ) (ags : List (List Agreement)) (n : ℕ) (ts : Trees) → AllByRecursion (FitsPipes table) types
      → flat_map (pointer table h) (nodes_of table types ags n ts) ≡ []
  no_pointers types ags n none a = refl
  no_pointers [] ags n (more t ts) a = refl
  no_pointers (t ∷ types) ags n (more (node l ks) ts) a =
      let d : Option TypeDef = type_at table t in
      let (depth, f) = a.0 in
      let (b, c) = deeper depth t f in
      let kids : List TypedNode = nodes_of table (child_types d l ks) (child_agreements d ks) (n + 1) ks in
      let rest : List TypedNode = nodes_of table types (rest_agreements ags) (n + 1 + node_count ks) ts in
      ap₂ (λ u v. u ++ v) (no_pointer d (is_pointer l) (cell_in l) h n (first_agreements ags) b)
      (flat_map-append (pointer table h) kids rest
      ∙ ap₂ (λ u v. u ++ v) (no_pointers (child_types d l ks) (child_agreements d ks) (n + 1) ks (in_parts (FitsPipes table) d l ks c))
      (no_pointers types (rest_agreements ags) (n + 1 + node_count ks) ts a.1))

  pipe_children : (e : TypeId) (l : Label) (ks : Trees) → FitsPipes table e.0 → AllByRecursion (FitsPipes table) (child_types (Some (def.Pipe e)) l ks)
  pipe_children e l ks f = in_parts (FitsPipes table) (Some (def.Pipe e)) l ks (f, tt)

  pub pipe_pointers : (t : ℕ) (e : TypeId) (v : Tree) → type_at table t ≡ Some (def.Pipe e) → FitsPipes table e.0 → home_pointers table h t v ≡ []
  pipe_pointers t e (node l ks) et f =
      let d : Option TypeDef = type_at table t in
      let kids : List TypedNode = nodes_of table (child_types d l ks) (child_agreements d ks) 1 ks in
      let free : AllByRecursion (FitsPipes table) (child_types d l ks) = subst (λ u. AllByRecursion (FitsPipes table) (child_types u l ks)) (sym et) (pipe_children e l ks f) in
      let own : pointer_by d (is_pointer l) (cell_in l) h 0 [] ≡ [] = ap (λ u. pointer_by u (is_pointer l) (cell_in l) h 0 []) et in
      ap₂ (λ u v. u ++ v) own
      (flat_map-append (pointer table h) kids [] ∙ ap (λ u. u ++ []) (no_pointers (child_types d l ks) (child_agreements d ks) 1 ks free))
