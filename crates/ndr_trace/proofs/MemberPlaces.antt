-- The path of a member of a struct among the nodes of a home, and which member its node is.
-- `w` is a setting, `g` a partial graph, `h` a home, `types` are types of values, `ts` the values, `paths` are theirs, `places` says which members they are, `x` is
-- a struct, `fs` are its members, `f` is one and `i` its index, `p` is a path, `n` and `m` are numbers of nodes.
use Rattle.std.proofs.Common.{◌≡◌, ◌⊎◌, inl, inr, ◌∙◌, ℕ, ◌+◌, ◌<◌, ◌≤◌, zero, suc, List, [], ◌∷◌, length, map, Option, Some, None, refl, sym, ap, subst, arith}
use Rattle.std.proofs.Common.{replicate}
use Rattle.std.specs.List.{slice_get}
use Rattle.std.proofs.lemmas.List.{length-map, length-replicate}
use Rattle.std.proofs.lemmas.Option.{same_Some}
use Rattle.nd_types.specs.declared.types.Arm.{Arm}
use Rattle.nd_types.specs.declared.types.Field.{Field}
use Rattle.nd_types.specs.declared.types.TypeDef.{TypeDef}
use Rattle.nd_types.specs.declared.types.TypeDef.TheVariants as def
use Rattle.nd_types.specs.declared.types.TypeId.{TypeId}
use Rattle.nd_types.specs.Layout.{type_list}
use Rattle.nd_types.specs.Table.{selected, type_at}
use Rattle.nd_value.specs.declared.item.Home.{Home}
use Rattle.nd_value.specs.declared.value.Graph.{Graph}
use Rattle.nd_value.specs.Agreement.{Agreement}
use Rattle.nd_value.specs.Nodes.{TypedNode, child_agreements, child_types, first_agreements, nodes_of, rest_agreements, selected_types}
use Rattle.nd_value.specs.Setting.{Among, Setting}
use Rattle.nd_value.specs.Tree as tree
use Rattle.nd_value.specs.Tree.{Label, Trees, count, more, node, node_count, none}
use Rattle.nd_grammar.proofs.Placed.{among_split}
use Rattle.text_grammar.specs.Paths.{arm_paths, child_paths, element_paths, home_name, home_types, home_value, member_path}
use Rattle.ndr_explain.specs.Cursors.{Place, child_places, member_places}
use Rattle.ndr_explain.specs.Explained.{home_paths, path_in}
use Rattle.ndr_trace_value.specs.Places.{ArePlaced, home_place, kid_places}
use Rattle.ndr_trace_value.specs.Traces.{member_node}
use Rattle.ndr_trace_value.proofs.Placed.{home_placed}
use Rattle.ndr_trace.proofs.FrontTests.{HavePaths, home_have, inner_paths, later_paths, own_path}

-- ## There are paths for all children

element_count : (p : List ℕ) (i : ℕ) (ks : Trees) → length (element_paths p i ks) ≡ count ks
element_count p i none = refl
element_count p i (more v ks) = ap suc (element_count p (i + 1) ks)

-- the elements of an array or a pipe
all_elements : (p : List ℕ) (i t : ℕ) (ks : Trees) → length (replicate (count ks) t) ≤ length (element_paths p i ks)
all_elements p i t ks = let a = length-replicate (count ks) t in let b = element_count p i ks in omega (arith, a, b)

all_arms : (p : List ℕ) (a : Option Arm) → length (selected_types a) ≤ length (arm_paths p a)
all_arms p None = omega arith
all_arms p (Some a) = go a.of a.name
  where
    go : (of : Option TypeId) (name : Option (List ℕ)) → length (type_list of) ≤ length {A = List ℕ} (elim name [ None ↦ p ∷ [] | Some n ↦ member_path p n ∷ [] ])
    go None None = omega arith
    go None (Some n) = omega arith
    go (Some t) None = omega arith
    go (Some t) (Some n) = omega arith

all_paths : (d : Option TypeDef) (l : Label) (p : List ℕ) (ks : Trees) → length (child_types d l ks) ≤ length (child_paths d l p ks)
all_paths (Some (def.Struct fs)) tree.Rec p ks =
    let a = length-map fs (λ f. f.of.0) in let b = length-map fs (λ f. member_path p f.name) in omega (arith, a, b)
all_paths (Some (def.Array elem bound varying)) (tree.Arr max offset) p ks = all_elements p offset elem.0 ks
all_paths (Some (def.Union tag encapsulated arms default)) (tree.Union z) p ks = all_arms p (selected arms default z)
all_paths (Some (def.Pipe elem)) tree.Pipe p ks = all_elements p 0 elem.0 ks
all_paths None l p ks = omega arith
all_paths (Some _) _ p ks = omega arith

module _ (w : Setting) (g : Graph) (h : Home) where
  -- a node is this member of these members, and its path is beside that of the struct
  abbrev IsMember : List Field → ℕ → Field → List ℕ → ℕ → Type 0
  IsMember fs i f p m = (home_place w g h m ≡ Some (fs, i)) × (path_in (home_paths w g h) m ≡ member_path p f.name)

  -- ## The members of a struct

  one_on : (n c : ℕ) → n + 1 + 1 + c ≡ n + 1 + c + 1
  one_on n c = omega arith

  -- those from one on, after the node n
  at_member : (p : List ℕ) (fs gs : List Field) (j n : ℕ) (us : Trees) (i : ℕ) (f : Field)
      → HavePaths w g h (map (λ x. x.of.0) gs) (map (λ x. member_path p x.name) gs) (n + 1) us
      → ArePlaced (home_place w g h) w.table (map (λ x. x.of.0) gs) (member_places fs j (map (λ x. x.of.0) gs)) (n + 1) us
      → slice_get gs i ≡ Some f → i < count us → IsMember fs (j + i) f p (member_node n i us)
  at_member p fs [] j n us i f have placed e low = cc
  at_member p fs (x ∷ gs) j n none i f have placed e low = absurd (omega (arith, low))
  at_member p fs (x ∷ gs) j n (more (node l ks) us) zero f have placed e low =
      let here : j ≡ j + 0 = omega arith in (
        placed.0 ∙ ap (λ c. Some (fs, c)) here,
        own_path w g h x.of.0 (map (λ y. y.of.0) gs) (member_path p x.name) (map (λ y. member_path p y.name) gs) (n + 1) l ks us have
            ∙ ap (λ (y : Field). member_path p y.name) (same_Some x f e),
      )
  at_member p fs (x ∷ gs) j n (more (node l ks) us) (suc i) f have placed e low =
      let later : j + 1 + i ≡ j + suc i = omega arith in
      subst (λ c. IsMember fs c f p (member_node (n + 1 + node_count ks) i us)) later
      (at_member p fs gs (j + 1) (n + 1 + node_count ks) us i f
      (subst (λ m. HavePaths w g h (map (λ y. y.of.0) gs) (map (λ y. member_path p y.name) gs) m us) (one_on n (node_count ks))
      (later_paths w g h x.of.0 (map (λ y. y.of.0) gs) (member_path p x.name) (map (λ y. member_path p y.name) gs) (n + 1) l ks us have))
      (subst (λ m. ArePlaced (home_place w g h) w.table (map (λ y. y.of.0) gs) (member_places fs (j + 1) (map (λ y. y.of.0) gs)) m us) (one_on n (node_count ks)) placed.2) e
      (omega (arith, low)))

  -- ## The structs of a home

  module _ (x : TypedNode) (fs : List Field) (is_struct : type_at w.table x.of ≡ Some (def.Struct fs)) (is_record : x.label ≡ tree.Rec) (i : ℕ) (f : Field)
      (there : slice_get fs i ≡ Some f) (low : i < count x.kids) where
    abbrev Goal : Type 0
    Goal = IsMember fs i f (path_in (home_paths w g h) x.node) (member_node x.node i x.kids)

    -- the struct is the first of values
    at_first : (t : ℕ) (types : List ℕ) (p : List ℕ) (paths : List (List ℕ)) (q : Place) (places : List Place) (n : ℕ) (l : Label) (ks ts : Trees) (ags : List Agreement)
        → HavePaths w g h (t ∷ types) (p ∷ paths) n (more (node l ks) ts) → ArePlaced (home_place w g h) w.table (t ∷ types) (q ∷ places) n (more (node l ks) ts)
        → x ≡ record { node = n; of = t; agreements = ags; label = l; kids = ks } → Goal
    at_first t types p paths q places n l ks ts ags have placed e =
        let d : type_at w.table t ≡ Some (def.Struct fs) = ap (λ (y : TypedNode). type_at w.table y.of) (sym e) ∙ is_struct in
        let r : l ≡ tree.Rec = ap (λ (y : TypedNode). y.label) (sym e) ∙ is_record in
        let kids : ks ≡ x.kids = ap (λ (y : TypedNode). y.kids) (sym e) in
        let number : n ≡ x.node = ap (λ (y : TypedNode). y.node) (sym e) in
        let inner =
        subst (λ (b : Label). HavePaths w g h (child_types (Some (def.Struct fs)) b ks) (child_paths (Some (def.Struct fs)) b p ks) (n + 1) ks) r
        (subst (λ (b : Option TypeDef). HavePaths w g h (child_types b l ks) (child_paths b l p ks) (n + 1) ks) d (inner_paths w g h t types p paths n l ks ts have)) in
        let inside =
        subst (λ (b : Label). ArePlaced (home_place w g h) w.table (child_types (Some (def.Struct fs)) b ks) (member_places fs 0 (child_types (Some (def.Struct fs)) b ks)) (n + 1) ks) r
        (subst (λ (b : Option TypeDef). ArePlaced (home_place w g h) w.table (child_types b l ks) (child_places b (child_types b l ks)) (n + 1) ks) d placed.1) in
        let one =
        at_member p fs fs 0 n ks i f inner inside there (subst (λ (us : Trees). i < count us) (sym kids) low) in
        let zeroth : 0 + i ≡ i = omega arith in
        subst (λ q. IsMember fs i f q (member_node x.node i x.kids)) (sym (own_path w g h t types p paths n l ks ts have) ∙ ap (path_in (home_paths w g h)) number)
        (subst (λ (us : Trees). IsMember fs i f p (member_node x.node i us)) kids
        (subst (λ m. IsMember fs i f p (member_node m i ks)) number (subst (λ c. IsMember fs c f p (member_node n i ks)) zeroth one)))

    node_there : (types : List ℕ) (paths : List (List ℕ)) (places : List Place) (ags : List (List Agreement)) (n : ℕ) (ts : Trees) → length types ≤ length paths
        → HavePaths w g h types paths n ts → ArePlaced (home_place w g h) w.table types places n ts → Among (nodes_of w.table types ags n ts) x → Goal
    node_there types paths places ags n none e have placed m = absurd m
    node_there [] paths places ags n (more v ts) e have placed m = absurd m
    node_there (t ∷ types) [] places ags n (more v ts) e have placed m = absurd (omega (arith, e))
    node_there (t ∷ types) (p ∷ paths) [] ags n (more v ts) e have placed m = absurd placed
    node_there (t ∷ types) (p ∷ paths) (q ∷ places) ags n (more (node l ks) ts) e have placed (inl first) =
        at_first t types p paths q places n l ks ts (first_agreements ags) have placed first
    node_there (t ∷ types) (p ∷ paths) (q ∷ places) ags n (more (node l ks) ts) e have placed (inr m) =
        go (among_split inner outer x m)
        (node_there (child_types (type_at w.table t) l ks) (child_paths (type_at w.table t) l p ks) (kid_places w.table t l ks) (child_agreements (type_at w.table t) ks) (n + 1) ks
        (all_paths (type_at w.table t) l p ks) (inner_paths w g h t types p paths n l ks ts have) placed.1)
        (node_there types paths places (rest_agreements ags) (n + 1 + node_count ks) ts (omega (arith, e)) (later_paths w g h t types p paths n l ks ts have) placed.2)
      where
        inner : List TypedNode
        inner = nodes_of w.table (child_types (type_at w.table t) l ks) (child_agreements (type_at w.table t) ks) (n + 1) ks

        outer : List TypedNode
        outer = nodes_of w.table types (rest_agreements ags) (n + 1 + node_count ks) ts

        go : Among (nodes_of w.table (child_types (type_at w.table t) l ks) (child_agreements (type_at w.table t) ks) (n + 1) ks) x
            ⊎ Among (nodes_of w.table types (rest_agreements ags) (n + 1 + node_count ks) ts) x
            → (Among (nodes_of w.table (child_types (type_at w.table t) l ks) (child_agreements (type_at w.table t) ks) (n + 1) ks) x → Goal)
            → (Among (nodes_of w.table types (rest_agreements ags) (n + 1 + node_count ks) ts) x → Goal) → Goal
        go (inl a) first later = first a
        go (inr a) first later = later a

    -- a member of a struct of a home
    pub member_there : (of : ℕ) → home_types w g h ≡ of ∷ [] → Among (nodes_of w.table (of ∷ []) [] 0 (more (home_value g h) none)) x → Goal
    member_there of types m =
        node_there (of ∷ []) (home_name w h ∷ []) (None ∷ []) [] 0 (more (home_value g h) none) (omega arith) (home_have w g h of (home_value g h) types refl)
        (home_placed w g h of (home_value g h) types refl) m
