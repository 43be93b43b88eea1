-- Nodes and pointers of one value under tied types: all about them is equal but the types' numbers, which are related.
use Rattle.std.proofs.Common.{◌≡◌, ℕ, ◌+◌, zero, suc, ℤ, Bool, true, false, List, [], ◌∷◌, ◌++◌, Option, Some, None, refl, ap, ap₂, sym, ◌∙◌, subst, map}
use Rattle.std.specs.Prelude.{flat_map, replicate}
use Rattle.std.specs.Ordering.{int_eq}
use Rattle.std.proofs.lemmas.Grind.{flat_map-append}
use Rattle.nd_types.specs.declared.types.TypeDef.{TypeDef}
use Rattle.nd_types.specs.declared.types.TypeDef.TheVariants as def
use Rattle.nd_types.specs.declared.types.Class.{Class}
use Rattle.nd_types.specs.declared.types.Field.{Field}
use Rattle.nd_types.specs.declared.types.Arm.{Arm}
use Rattle.nd_types.specs.Table.{Table, type_at, labelled, or_else, selected}
use Rattle.nd_types.specs.Layout.{arm_type}
use Rattle.nd_value.specs.declared.item.Home.{Home}
use Rattle.nd_value.specs.Tree as tree
use Rattle.nd_value.specs.Tree.{Tree, Trees, node, none, more, Label, count, node_count, is_pointer, cell_in}
use Rattle.nd_value.specs.Agreement.{Agreement, member_agreements}
use Rattle.nd_value.specs.Nodes.{TypedNode, nodes_of, home_nodes, governed_nodes, child_types, child_agreements, selected_types, first_agreements, rest_agreements}
use Rattle.nd_value.specs.Deferral.{Pending, pointer, pointer_by, home_pointers}
use Rattle.idl_compat.specs.Comparison.{OneByOne, BothOrNone, AlikeFields, AlikeArms, AlikeDefaults, AlikeTypes, alike_prims, alike_enums, alike_structs, alike_arrays, alike_texts, alike_unions}
use Rattle.idl_compat.specs.Comparison.{alike_pointers, alike_contexts, alike_pipes}
use Rattle.idl_compat.proofs.Tied.{IsTied, one_append, lists_typed, fields_typed}

-- a node under both tables
pub data AlikeNode (R : ℕ → ℕ → Type 0) : TypedNode → TypedNode → Type 0 where
  alike_node : (n t u : ℕ) (ags : List Agreement) (l : Label) (ks : Trees) → R t u
      → AlikeNode R (record { node = n; of = t; agreements = ags; label = l; kids = ks }) (record { node = n; of = u; agreements = ags; label = l; kids = ks })

-- a pointer under both tables
pub data AlikePending (R : ℕ → ℕ → Type 0) : Pending → Pending → Type 0 where
  alike_pending : (h : Home) (n : ℕ) (class : Class) (t u : ℕ) (cell : Option ℕ) (ags : List Agreement) → R t u
      → AlikePending R (record { home = h; node = n; class = class; to = t; cell = cell; agreements = ags }) (record { home = h; node = n; class = class; to = u; cell = cell; agreements = ags })

module _ (R : ℕ → ℕ → Type 0) where
  repeated : (t u : ℕ) → R t u → (n : ℕ) → OneByOne R (replicate {A = ℕ} n t) (replicate {A = ℕ} n u)
  repeated t u a zero = tt
  repeated t u a (suc n) = (a, repeated t u a n)

  label_chosen : (b : Bool) (x y : Arm) (o p : Option Arm) → BothOrNone R x.of y.of → AlikeDefaults R o p
      → AlikeDefaults R (elim b [ true ↦ Some x | false ↦ o ]) (elim b [ true ↦ Some y | false ↦ p ])
  label_chosen true x y o p a r = a
  label_chosen false x y o p a r = r

  labelled_alike : (xs ys : List Arm) → OneByOne (AlikeArms R) xs ys → (v : ℤ) → AlikeDefaults R (labelled xs v) (labelled ys v)
  labelled_alike [] [] a v = tt
  labelled_alike [] (y ∷ ys) a v = absurd a
  labelled_alike (x ∷ xs) [] a v = absurd a
  labelled_alike (x ∷ xs) (y ∷ ys) a v =
      subst (λ l. AlikeDefaults R (elim (int_eq x.label v) [ true ↦ Some x | false ↦ labelled xs v ]) (elim (int_eq l v) [ true ↦ Some y | false ↦ labelled ys v ]))
      a.0.label
      (label_chosen (int_eq x.label v) x y (labelled xs v) (labelled ys v) a.0.types (labelled_alike xs ys a.1 v))

  or_alike : (a b d e : Option Arm) → AlikeDefaults R a b → AlikeDefaults R d e → AlikeDefaults R (or_else a d) (or_else b e)
  or_alike None None d e x y = y
  or_alike None (Some b) d e x y = absurd x
  or_alike (Some a) None d e x y = absurd x
  or_alike (Some a) (Some b) d e x y = x

  pub selected_alike : (xs ys : List Arm) (d e : Option Arm) → OneByOne (AlikeArms R) xs ys → AlikeDefaults R d e → (v : ℤ)
      → AlikeDefaults R (selected xs d v) (selected ys e v)
  selected_alike xs ys d e a b v = or_alike (labelled xs v) (labelled ys v) d e (labelled_alike xs ys a v) b

  selected_typed : (d e : Option Arm) → AlikeDefaults R d e → OneByOne R (selected_types d) (selected_types e)
  selected_typed None None a = tt
  selected_typed None (Some u) a = absurd a
  selected_typed (Some t) None a = absurd a
  selected_typed (Some t) (Some u) a = lists_typed R t.of u.of a

  pub child_types_alike : {d e : Option TypeDef} → AlikeTypes R d e → (l : Label) (ks : Trees) → OneByOne R (child_types d l ks) (child_types e l ks)
  child_types_alike (alike_prims p) l ks = tt
  child_types_alike (alike_enums vs) l ks = tt
  child_types_alike (alike_structs fs gs a) tree.Rec ks = fields_typed R fs gs a
  child_types_alike (alike_structs fs gs a) _ ks = tt
  child_types_alike (alike_arrays t u b v a) (tree.Arr mx o) ks = repeated t.0 u.0 a (count ks)
  child_types_alike (alike_arrays t u b v a) _ ks = tt
  child_types_alike (alike_texts t u b a) l ks = tt
  child_types_alike (alike_unions t u n xs ys d e a b c) (tree.Union v) ks = selected_typed (selected xs d v) (selected ys e v) (selected_alike xs ys d e b c v)
  child_types_alike (alike_unions t u n xs ys d e a b c) _ ks = tt
  child_types_alike (alike_pointers c t u a) l ks = tt
  child_types_alike alike_contexts l ks = tt
  child_types_alike (alike_pipes t u a) tree.Pipe ks = repeated t.0 u.0 a (count ks)
  child_types_alike (alike_pipes t u a) _ ks = tt

  members_agree : (ks : Trees) (fs gs : List Field) → OneByOne (AlikeFields R) fs gs → map (λ f. member_agreements ks f.vars) fs ≡ map (λ f. member_agreements ks f.vars) gs
  members_agree ks [] [] a = refl
  members_agree ks [] (y ∷ ys) a = absurd a
  members_agree ks (x ∷ xs) [] a = absurd a
  members_agree ks (x ∷ xs) (y ∷ ys) a = ap₂ (λ f fs. member_agreements ks f ∷ fs) a.0.vars (members_agree ks xs ys a.1)

  pub child_agreements_alike : {d e : Option TypeDef} → AlikeTypes R d e → (ks : Trees) → child_agreements d ks ≡ child_agreements e ks
  child_agreements_alike (alike_prims p) ks = refl
  child_agreements_alike (alike_enums vs) ks = refl
  child_agreements_alike (alike_structs fs gs a) ks = members_agree ks fs gs a
  child_agreements_alike (alike_arrays t u b v a) ks = refl
  child_agreements_alike (alike_texts t u b a) ks = refl
  child_agreements_alike (alike_unions t u n xs ys d e a b c) ks = refl
  child_agreements_alike (alike_pointers c t u a) ks = refl
  child_agreements_alike alike_contexts ks = refl
  child_agreements_alike (alike_pipes t u a) ks = refl

  pointer_by_alike : {d e : Option TypeDef} → AlikeTypes R d e → (b : Bool) (c : Option ℕ) (h : Home) (n : ℕ) (ags : List Agreement)
      → OneByOne (AlikePending R) (pointer_by d b c h n ags) (pointer_by e b c h n ags)
  pointer_by_alike (alike_prims p) b c h n ags = tt
  pointer_by_alike (alike_enums vs) b c h n ags = tt
  pointer_by_alike (alike_structs fs gs a) b c h n ags = tt
  pointer_by_alike (alike_arrays t u bound v a) b c h n ags = tt
  pointer_by_alike (alike_texts t u bound a) b c h n ags = tt
  pointer_by_alike (alike_unions t u en xs ys d e a x y) b c h n ags = tt
  pointer_by_alike (alike_pointers class t u a) true c h n ags = (alike_pending h n class t.0 u.0 c ags a, tt)
  pointer_by_alike (alike_pointers class t u a) false c h n ags = tt
  pointer_by_alike alike_contexts b c h n ags = tt
  pointer_by_alike (alike_pipes t u a) b c h n ags = tt

pub one_flat : {X Y U V : Type 0} (P : X → Y → Type 0) (Q : U → V → Type 0) (f : X → List U) (g : Y → List V) → ((x : X) (y : Y) → P x y → OneByOne Q (f x) (g y))
    → (xs : List X) (ys : List Y) → OneByOne P xs ys → OneByOne Q (flat_map f xs) (flat_map g ys)
one_flat P Q f g k [] [] a = tt
one_flat P Q f g k [] (y ∷ ys) a = absurd a
one_flat P Q f g k (x ∷ xs) [] a = absurd a
one_flat P Q f g k (x ∷ xs) (y ∷ ys) a = one_append Q (f x) (g y) (flat_map f xs) (flat_map g ys) (k x y a.0) (one_flat P Q f g k xs ys a.1)

module _ (R : ℕ → ℕ → Type 0) (old new : Table) (k : IsTied R old new) where
  pub nodes_alike : (ts us : List ℕ) → OneByOne R ts us → (ags : List (List Agreement)) (n : ℕ) (vs : Trees)
      → OneByOne (AlikeNode R) (nodes_of old ts ags n vs) (nodes_of new us ags n vs)
  nodes_alike ts us a ags n none = tt
  nodes_alike [] [] a ags n (more t vs) = tt
  nodes_alike [] (u ∷ us) a ags n (more t vs) = absurd a
  nodes_alike (t ∷ ts) [] a ags n (more v vs) = absurd a
  nodes_alike (t ∷ ts) (u ∷ us) a ags n (more (node l ks) vs) =
      let d : Option TypeDef = type_at old t in
      let e : Option TypeDef = type_at new u in
      let kids : OneByOne (AlikeNode R) (nodes_of old (child_types d l ks) (child_agreements d ks) (n + 1) ks) (nodes_of new (child_types e l ks) (child_agreements e ks) (n + 1) ks) =
      subst (λ g. OneByOne (AlikeNode R) (nodes_of old (child_types d l ks) (child_agreements d ks) (n + 1) ks) (nodes_of new (child_types e l ks) g (n + 1) ks))
      (child_agreements_alike R (k.alike t u a.0) ks)
      (nodes_alike (child_types d l ks) (child_types e l ks) (child_types_alike R (k.alike t u a.0) l ks) (child_agreements d ks) (n + 1) ks) in (
        alike_node n t u (first_agreements ags) l ks a.0,
        one_append (AlikeNode R) (nodes_of old (child_types d l ks) (child_agreements d ks) (n + 1) ks) (nodes_of new (child_types e l ks) (child_agreements e ks) (n + 1) ks)
            (nodes_of old ts (rest_agreements ags) (n + 1 + node_count ks) vs) (nodes_of new us (rest_agreements ags) (n + 1 + node_count ks) vs) kids
            (nodes_alike ts us a.1 (rest_agreements ags) (n + 1 + node_count ks) vs),
      )

  pub governed_alike : (t u : ℕ) → R t u → (ags : List Agreement) (v : Tree) → OneByOne (AlikeNode R) (governed_nodes old t ags v) (governed_nodes new u ags v)
  governed_alike t u a ags v = nodes_alike (t ∷ []) (u ∷ []) (a, tt) (ags ∷ []) 0 (more v none)

  pub home_alike : (t u : ℕ) → R t u → (v : Tree) → OneByOne (AlikeNode R) (home_nodes old t v) (home_nodes new u v)
  home_alike t u a v = nodes_alike (t ∷ []) (u ∷ []) (a, tt) [] 0 (more v none)

  pub pointer_alike : (h : Home) (x y : TypedNode) → AlikeNode R x y → OneByOne (AlikePending R) (pointer old h x) (pointer new h y)
  pointer_alike h _ _ (alike_node n t u ags l ks a) = pointer_by_alike R (k.alike t u a) (is_pointer l) (cell_in l) h n ags

  pub pointers_alike : (h : Home) (t u : ℕ) → R t u → (v : Tree) → OneByOne (AlikePending R) (home_pointers old h t v) (home_pointers new h u v)
  pointers_alike h t u a v =
      one_flat (AlikeNode R) (AlikePending R) (pointer old h) (pointer new h) (pointer_alike h) (home_nodes old t v) (home_nodes new u v) (home_alike t u a v)
