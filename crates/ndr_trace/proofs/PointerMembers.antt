-- Pointers that have agreements: they are members of structs.
-- `w` is a setting, `g` a graph, `h` a home, `p` a pointer, `x` a node, `types` are types of values, `ts` the values, `ags` are their agreements, `a` is an agreement,
-- `n` and `m` are numbers of nodes, `i` is the place of a value, `S` a struct.
use Rattle.std.proofs.Common.{◌≡◌, ◌⊎◌, inl, inr, ◌∙◌, ℕ, zero, suc, ◌+◌, ◌<◌, ℤ, Bool, true, false, List, [], ◌∷◌, ◌++◌, map, Option, Some, None, refl, sym, ap, subst, arith}
use Rattle.std.specs.Prelude.{flat_map}
use Rattle.std.specs.List.{slice_get}
use Rattle.std.proofs.lemmas.Option.{same_Some}
use Rattle.nd_types.specs.declared.types.Attr.{Attr}
use Rattle.nd_types.specs.declared.types.Field.{Field}
use Rattle.nd_types.specs.declared.types.TypeDef.{TypeDef}
use Rattle.nd_types.specs.declared.types.TypeDef.TheVariants as def
use Rattle.nd_types.specs.declared.types.TypeId.{TypeId}
use Rattle.nd_types.specs.Kinds.{pointee, pointee_by}
use Rattle.nd_types.specs.Roots.{Root}
use Rattle.nd_types.specs.Table.{Table, type_at}
use Rattle.nd_value.specs.declared.item.Home.{Home}
use Rattle.nd_value.specs.declared.item.Home.TheVariants as home
use Rattle.nd_value.specs.declared.value.Graph.{Graph}
use Rattle.nd_value.specs.Agreement.{Agreement, member_agreements}
use Rattle.nd_value.specs.Deferral.{Pending as Pointer, home_pointers, pointer, pointer_by}
use Rattle.nd_value.specs.Conforms.{all_pointers, cell_pointers, root_pointers}
use Rattle.nd_value.specs.Nodes.{TypedNode, child_agreements, child_types, first_agreements, home_nodes, nodes_of, rest_agreements}
use Rattle.nd_value.specs.Setting.{Among, Setting, cell_home, cell_of_number, cell_tree, or_unread, root_list}
use Rattle.nd_value.specs.Tree as tree
use Rattle.nd_value.specs.Tree.{Label, Referent, Tree, Trees, count, more, node, node_count, none}
use Rattle.nd_value.proofs.Apart.{among_left, among_right}
use Rattle.nd_grammar.proofs.Placed.{among_split}
use Rattle.text_grammar.specs.Paths.{cell_types, home_types, home_value, root_types}
use Rattle.ndr_trace_value.specs.Traces.{member_node}
use Rattle.ndr_trace.proofs.FrontTests.{OfStruct, SaysOf, says_of}
use Rattle.ndr_trace.proofs.RootAttributes.{mapped_there}

-- ## Lists

among_flat : {X Y : Type 0} (f : X → List Y) (xs : List X) (y : Y) → Among (flat_map f xs) y → (x : X) × Among xs x × Among (f x) y
among_flat f [] y e = absurd e
among_flat f (x ∷ xs) y e = go (among_split (f x) (flat_map f xs) y e) (among_flat f xs y)
  where
    go : Among (f x) y ⊎ Among (flat_map f xs) y → (Among (flat_map f xs) y → (z : _) × Among xs z × Among (f z) y) → (z : _) × Among (x ∷ xs) z × Among (f z) y
    go (inl k) later = (x, inl refl, k)
    go (inr k) later = let (z, m, n) = later k in (z, inr m, n)

among_map : (f : Field → List Agreement) (xs : List Field) (i : ℕ) (zs : List Agreement) → slice_get (map f xs) i ≡ Some zs → (x : Field) × (slice_get xs i ≡ Some x) × (zs ≡ f x)
among_map f [] i zs e = cc
among_map f (x ∷ xs) zero zs e = (x, refl, sym (same_Some _ _ e))
among_map f (x ∷ xs) (suc i) zs e = among_map f xs i zs e

-- ## The nodes that have agreements

-- the number of one of some values, where n is that of the first
abbrev value_node : ℕ → ℕ → Trees → ℕ
value_node n zero ts = n
value_node n (suc i) none = n
value_node n (suc i) (more (node l ks) ts) = value_node (n + 1 + node_count ks) i ts

value_is_member : (n i : ℕ) (ts : Trees) → i < count ts → value_node (n + 1) i ts ≡ member_node n i ts
value_is_member n zero ts low = refl
value_is_member n (suc i) none low = absurd (omega (arith, low))
value_is_member n (suc i) (more (node l ks) ts) low =
    let z : n + 1 + 1 + node_count ks ≡ n + 1 + node_count ks + 1 = omega arith in
    ap (λ m. value_node m i ts) z ∙ value_is_member (n + 1 + node_count ks) i ts (omega (arith, low))

-- an agreement of one of some values
abbrev IsGoverned : List ℕ → List (List Agreement) → ℕ → Trees → TypedNode → Agreement → Type 0
IsGoverned types ags n ts x a =
    (i : ℕ) × (i < count ts) × (x.node ≡ value_node n i ts) × (slice_get types i ≡ Some x.of) × ((zs : List Agreement) × (slice_get ags i ≡ Some zs) × Among zs a)

-- an agreement of a member of a struct among these nodes
record InStruct (table : Table) (nodes : List TypedNode) (x : TypedNode) (a : Agreement) : Type 0 where
  struct : TypedNode
  in_nodes : Among nodes struct
  members : List Field
  is_struct : type_at table struct.of ≡ Some (def.Struct members)
  is_record : struct.label ≡ tree.Rec
  index : ℕ
  within : index < count struct.kids
  field : Field
  there : slice_get members index ≡ Some field
  place : x.node ≡ member_node struct.node index struct.kids
  of_is : x.of ≡ field.of.0
  among : Among (member_agreements struct.kids field.vars) a

wider : (table : Table) (xs ys : List TypedNode) → ((x : TypedNode) → Among xs x → Among ys x) → (y : TypedNode) (a : Agreement) → InStruct table xs y a → InStruct table ys y a
wider table xs ys f y a s = record {
  struct = s.struct;
  in_nodes = f s.struct s.in_nodes;
  members = s.members;
  is_struct = s.is_struct;
  is_record = s.is_record;
  index = s.index;
  within = s.within;
  field = s.field;
  there = s.there;
  place = s.place;
  of_is = s.of_is;
  among = s.among;
}

module _ (table : Table) where
  -- the children of a node that have agreements are those of a struct
  of_children : (n t : ℕ) (d : Option TypeDef) → type_at table t ≡ d → (own : List Agreement) (l : Label) (ks : Trees) (x : TypedNode) (a : Agreement) (nodes : List TypedNode)
      → Among nodes (record { node = n; of = t; agreements = own; label = l; kids = ks }) → l ≡ tree.Rec
      → IsGoverned (child_types d tree.Rec ks) (child_agreements d ks) (n + 1) ks x a → InStruct table nodes x a
  of_children n t (Some (def.Struct fs)) e own l ks x a nodes here r (i, low, at, its_type, (zs, got, k)) =
      let (f, there, is) = among_map (λ (y : Field). member_agreements ks y.vars) fs i zs got in
      record {
        struct = record { node = n; of = t; agreements = own; label = l; kids = ks };
        in_nodes = here;
        members = fs;
        is_struct = e;
        is_record = r;
        index = i;
        within = low;
        field = f;
        there = there;
        place = at ∙ value_is_member n i ks low;
        of_is = same_Some _ _ (sym its_type ∙ mapped_there (λ (y : Field). y.of.0) fs i f there);
        among = subst (λ xs. Among xs a) is k;
      }
  of_children n t None e own l ks x a nodes here r (i, low, at, its_type, (zs, got, k)) = cc
  of_children n t (Some _) e own l ks x a nodes here r (i, low, at, its_type, (zs, got, k)) = cc

  no_nodes : (ags : List (List Agreement)) (n : ℕ) (us : Trees) (x : TypedNode) → Among (nodes_of table [] ags n us) x → ⊥
  no_nodes ags n none x e = e
  no_nodes ags n (more v us) x e = e

  -- a node of a struct's type that has nodes in it is a struct
  is_record_there : (d : Option TypeDef) (l : Label) (ks : Trees) (ags : List (List Agreement)) (n : ℕ) (x : TypedNode) (a : Agreement)
      → Among (nodes_of table (child_types d l ks) ags n ks) x → IsGoverned (child_types d l ks) (child_agreements d ks) n ks x a → l ≡ tree.Rec
  is_record_there (Some (def.Struct fs)) tree.Rec ks ags n x a k g = refl
  is_record_there (Some (def.Struct fs)) (tree.Num z) ks ags n x a k g = absurd (no_nodes ags n ks x k)
  is_record_there (Some (def.Struct fs)) (tree.Arr max o) ks ags n x a k g = absurd (no_nodes ags n ks x k)
  is_record_there (Some (def.Struct fs)) (tree.Text max os) ks ags n x a k g = absurd (no_nodes ags n ks x k)
  is_record_there (Some (def.Struct fs)) (tree.Union z) ks ags n x a k g = absurd (no_nodes ags n ks x k)
  is_record_there (Some (def.Struct fs)) (tree.Ptr c) ks ags n x a k g = absurd (no_nodes ags n ks x k)
  is_record_there (Some (def.Struct fs)) (tree.Context b id) ks ags n x a k g = absurd (no_nodes ags n ks x k)
  is_record_there (Some (def.Struct fs)) tree.Pipe ks ags n x a k g = absurd (no_nodes ags n ks x k)
  is_record_there (Some (def.Struct fs)) tree.Unread ks ags n x a k g = absurd (no_nodes ags n ks x k)
  is_record_there None l ks ags n x a k (i, low, at, its_type, (zs, got, y)) = cc
  is_record_there (Some _) l ks ags n x a k (i, low, at, its_type, (zs, got, y)) = cc

  -- the agreements of the first of values, and of a later one
  first_governed : (t : ℕ) (types : List ℕ) (ags : List (List Agreement)) (n : ℕ) (l : Label) (ks ts : Trees) (a : Agreement) → Among (first_agreements ags) a
      → IsGoverned (t ∷ types) ags n (more (node l ks) ts) (record { node = n; of = t; agreements = first_agreements ags; label = l; kids = ks }) a
  first_governed t types [] n l ks ts a e = absurd e
  first_governed t types (zs ∷ rest) n l ks ts a e = (0, omega arith, refl, refl, (zs, refl, e))

  later_governed : (t : ℕ) (types : List ℕ) (ags : List (List Agreement)) (n : ℕ) (l : Label) (ks ts : Trees) (x : TypedNode) (a : Agreement)
      → IsGoverned types (rest_agreements ags) (n + 1 + node_count ks) ts x a → IsGoverned (t ∷ types) ags n (more (node l ks) ts) x a
  later_governed t types [] n l ks ts x a (i, low, at, its_type, (zs, got, k)) = cc
  later_governed t types (bs ∷ rest) n l ks ts x a (i, low, at, its_type, (zs, got, k)) = (suc i, omega (arith, low), at, its_type, (zs, got, k))

  nodes_say : (types : List ℕ) (ags : List (List Agreement)) (n : ℕ) (ts : Trees) (x : TypedNode) (a : Agreement) → Among (nodes_of table types ags n ts) x → Among x.agreements a
      → IsGoverned types ags n ts x a ⊎ InStruct table (nodes_of table types ags n ts) x a
  nodes_say types ags n none x a m k = absurd m
  nodes_say [] ags n (more v ts) x a m k = absurd m
  nodes_say (t ∷ types) ags n (more (node l ks) ts) x a (inl e) k =
      inl (subst (λ (y : TypedNode). IsGoverned (t ∷ types) ags n (more (node l ks) ts) y a) (sym e)
      (first_governed t types ags n l ks ts a (subst (λ (y : TypedNode). Among y.agreements a) e k)))
  nodes_say (t ∷ types) ags n (more (node l ks) ts) x a (inr m) k =
      go (among_split inner outer x m) (λ i. nodes_say (child_types (type_at table t) l ks) (child_agreements (type_at table t) ks) (n + 1) ks x a i k)
      (λ o. nodes_say types (rest_agreements ags) (n + 1 + node_count ks) ts x a o k)
    where
      d : Option TypeDef
      d = type_at table t

      own : TypedNode
      own = record { node = n; of = t; agreements = first_agreements ags; label = l; kids = ks }

      inner : List TypedNode
      inner = nodes_of table (child_types (type_at table t) l ks) (child_agreements (type_at table t) ks) (n + 1) ks

      outer : List TypedNode
      outer = nodes_of table types (rest_agreements ags) (n + 1 + node_count ks) ts

      Goal : Type 0
      Goal = IsGoverned (t ∷ types) ags n (more (node l ks) ts) x a ⊎ InStruct table (own ∷ (inner ++ outer)) x a

      of_inner : Among inner x → IsGoverned (child_types d l ks) (child_agreements d ks) (n + 1) ks x a ⊎ InStruct table inner x a → Goal
      of_inner i (inl g) =
          let r : l ≡ tree.Rec = is_record_there d l ks (child_agreements d ks) (n + 1) x a i g in
          inr (of_children n t d refl (first_agreements ags) l ks x a (own ∷ (inner ++ outer)) (inl refl) r
          (subst (λ (b : Label). IsGoverned (child_types d b ks) (child_agreements d ks) (n + 1) ks x a) r g))
      of_inner i (inr s) = inr (wider table inner (own ∷ (inner ++ outer)) (λ y e. inr (among_left inner outer y e)) x a s)

      of_outer : IsGoverned types (rest_agreements ags) (n + 1 + node_count ks) ts x a ⊎ InStruct table outer x a → Goal
      of_outer (inl g) = inl (later_governed t types ags n l ks ts x a g)
      of_outer (inr s) = inr (wider table outer (own ∷ (inner ++ outer)) (λ y e. inr (among_right inner outer y e)) x a s)

      go : Among inner x ⊎ Among outer x → (Among inner x → IsGoverned (child_types d l ks) (child_agreements d ks) (n + 1) ks x a ⊎ InStruct table inner x a)
          → (Among outer x → IsGoverned types (rest_agreements ags) (n + 1 + node_count ks) ts x a ⊎ InStruct table outer x a) → Goal
      go (inl i) first later = of_inner i (first i)
      go (inr o) first later = of_outer (later o)

-- ## The pointers of homes

-- what a pointer is, by its node
record IsPointerOf (d : Option TypeDef) (h : Home) (n : ℕ) (ags : List Agreement) (p : Pointer) : Type 0 where
  at_home : p.home ≡ h
  number : p.node ≡ n
  its : p.agreements ≡ ags
  to : TypeId
  type_is : d ≡ Some (def.Pointer p.class to)
  to_is : p.to ≡ to.0

pointer_is : (d : Option TypeDef) (b : Bool) (c : Option ℕ) (h : Home) (n : ℕ) (ags : List Agreement) (p : Pointer) → Among (pointer_by d b c h n ags) p → IsPointerOf d h n ags p
pointer_is (Some (def.Pointer k to)) true c h n ags p (inl e) = record {
  at_home = ap (λ (q : Pointer). q.home) e;
  number = ap (λ (q : Pointer). q.node) e;
  its = ap (λ (q : Pointer). q.agreements) e;
  to = to;
  type_is = ap (λ (q : Pointer). Some (def.Pointer q.class to)) (sym e);
  to_is = ap (λ (q : Pointer). q.to) e;
}
pointer_is (Some (def.Pointer k to)) true c h n ags p (inr e) = absurd e
pointer_is (Some (def.Pointer k to)) false c h n ags p e = absurd e
pointer_is (Some (def.Prim q)) b c h n ags p e = absurd e
pointer_is None b c h n ags p e = absurd e
pointer_is (Some _) b c h n ags p e = absurd e

module _ (w : Setting) (g : Graph) where
  -- a pointer is a member of a struct, and an attribute of the member states the number
  abbrev pub IsPointerMember : Pointer → Attr → ℤ → Type 0
  IsPointerMember p a wanted = (s : OfStruct w g p.home p.node a wanted) × (pointee w.table s.field.of.0 ≡ p.to)

  -- a pointer of a home that has an agreement is a member of a struct
  home_says : (h : Home) (t : ℕ) (v : Tree) → home_types w g h ≡ t ∷ [] → home_value g h ≡ v → (p : Pointer) (a : Agreement) → Among (home_pointers w.table h t v) p
      → Among p.agreements a → IsPointerMember p a.attr a.wanted
  home_says h t v types value p a m k =
      let (x, node_there, is) = among_flat (pointer w.table h) (home_nodes w.table t v) p m in
      let i = pointer_is (type_at w.table x.of) _ _ h x.node x.agreements p is in
      go x i (nodes_say w.table (t ∷ []) [] 0 (more v none) x a node_there (subst (λ zs. Among zs a) i.its k))
    where
      go : (x : TypedNode) → IsPointerOf (type_at w.table x.of) h x.node x.agreements p
          → IsGoverned (t ∷ []) [] 0 (more v none) x a ⊎ InStruct w.table (home_nodes w.table t v) x a → IsPointerMember p a.attr a.wanted
      go x i (inl (j, low, at, its_type, (zs, got, y))) = cc
      go x i (inr s) =
          let says : SaysOf s.struct.kids s.field.vars a = says_of g s.struct.kids s.field.vars a s.among in (
            record {
              of = t;
              home_is = ap (home_types w g) i.at_home ∙ types;
              struct = s.struct;
              in_home = subst (λ u. Among (home_nodes w.table t u) s.struct) (sym (ap (home_value g) i.at_home ∙ value)) s.in_nodes;
              members = s.members;
              is_struct = s.is_struct;
              is_record = s.is_record;
              index = s.index;
              within = s.within;
              field = s.field;
              there = s.there;
              place = i.number ∙ s.place;
              by = says.by;
              among = says.among;
              attr_is = says.attr_is;
              value = says.value;
              value_is = says.value_is;
              wanted_is = says.wanted_is;
            },
            ap (pointee w.table) (sym s.of_is) ∙ ap (pointee_by x.of) i.type_is ∙ sym i.to_is,
          )

  roots_say : (n : ℕ) (rs : List Root) (vs : List Tree) → ((j : ℕ) → slice_get (root_list w) (n + j) ≡ slice_get rs j) → ((j : ℕ) → slice_get g.roots (n + j) ≡ slice_get vs j)
      → (p : Pointer) (a : Agreement) → Among (root_pointers w.table n rs vs) p → Among p.agreements a → IsPointerMember p a.attr a.wanted
  roots_say n [] vs f d p a m k = absurd m
  roots_say n (r ∷ rs) [] f d p a m k = absurd m
  roots_say n (r ∷ rs) (v ∷ vs) f d p a m k =
      go (among_split (home_pointers w.table (home.Root n) r.of v) (root_pointers w.table (n + 1) rs vs) p m)
      (roots_say (n + 1) rs vs (λ j. ap (slice_get (root_list w)) (one_on j) ∙ f (suc j)) (λ j. ap (slice_get g.roots) (one_on j) ∙ d (suc j)) p a)
    where
      one_on : (j : ℕ) → n + 1 + j ≡ n + suc j
      one_on j = omega arith

      same : n ≡ n + 0
      same = omega arith

      go : Among (home_pointers w.table (home.Root n) r.of v) p ⊎ Among (root_pointers w.table (n + 1) rs vs) p
          → (Among (root_pointers w.table (n + 1) rs vs) p → Among p.agreements a → IsPointerMember p a.attr a.wanted) → IsPointerMember p a.attr a.wanted
      go (inl e) later =
          home_says (home.Root n) r.of v (ap root_types (ap (slice_get (root_list w)) same ∙ f 0)) (ap or_unread (ap (slice_get g.roots) same ∙ d 0)) p a e k
      go (inr e) later = later e k

  cells_say : (n : ℕ) (xs : List Referent) → ((j : ℕ) → cell_of_number g (n + 1 + j) ≡ slice_get xs j) → (p : Pointer) (a : Agreement)
      → Among (cell_pointers w.table (n + 1) xs) p → Among p.agreements a → IsPointerMember p a.attr a.wanted
  cells_say n [] f p a m k = absurd m
  cells_say n (x ∷ xs) f p a m k =
      go (among_split (home_pointers w.table (cell_home (n + 1)) x.of x.val) (cell_pointers w.table (n + 1 + 1) xs) p m)
      (cells_say (n + 1) xs (λ j. ap (cell_of_number g) (one_on j) ∙ f (suc j)) p a)
    where
      one_on : (j : ℕ) → n + 1 + 1 + j ≡ n + 1 + suc j
      one_on j = omega arith

      same : n + 1 ≡ n + 1 + 0
      same = omega arith

      go : Among (home_pointers w.table (cell_home (n + 1)) x.of x.val) p ⊎ Among (cell_pointers w.table (n + 1 + 1) xs) p
          → (Among (cell_pointers w.table (n + 1 + 1) xs) p → Among p.agreements a → IsPointerMember p a.attr a.wanted) → IsPointerMember p a.attr a.wanted
      go (inl e) later =
          let there : cell_of_number g (n + 1) ≡ Some x = ap (cell_of_number g) same ∙ f 0 in
          home_says (cell_home (n + 1)) x.of x.val (ap cell_types there) (ap cell_tree there) p a e k
      go (inr e) later = later e k

  -- a pointer that has an agreement is a member of a struct
  pub pointer_member : (p : Pointer) (a : Agreement) → Among (all_pointers w g) p → Among p.agreements a → IsPointerMember p a.attr a.wanted
  pointer_member p a m k = go (among_split (root_pointers w.table 0 (root_list w) g.roots) (cell_pointers w.table 1 g.cells) p m)
    where
      nought : (j : ℕ) → 0 + j ≡ j
      nought j = omega arith

      next_cell : (j : ℕ) → 0 + 1 + j ≡ suc j
      next_cell j = omega arith

      go : Among (root_pointers w.table 0 (root_list w) g.roots) p ⊎ Among (cell_pointers w.table 1 g.cells) p → IsPointerMember p a.attr a.wanted
      go (inl e) = roots_say 0 (root_list w) g.roots (λ j. ap (slice_get (root_list w)) (nought j)) (λ j. ap (slice_get g.roots) (nought j)) p a e k
      go (inr e) = cells_say 0 g.cells (λ j. ap (cell_of_number g) (next_cell j)) p a e k
