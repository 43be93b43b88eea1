-- Agreements over the values of a home: each is of an attribute of a member of a struct, and one on a maximum count is tried at the value whose maximum count
-- is in front of the home's value.
-- `w` is a setting, `g` a partial graph, `h` a home, `n` a node's number, `t` a type's number, `d` what it is, `l` a label, `ks` are its children, `ts` values
-- of some types, `ags` are agreements, `m` is an entry, `v` a value.
use Rattle.std.proofs.Common.{◌≡◌, ◌⊎◌, inl, inr, ◌∙◌, ℕ, suc, ℤ, ◌+◌, ◌<◌, ◌≤◌, Bool, true, false, List, [], ◌∷◌, ◌++◌, Option, Some, None, map, refl, sym, ap, ap₂, subst, arith}
use Rattle.std.specs.Prelude.{◌==◌, ◌||◌}
use Rattle.std.specs.List.{AllByRecursion, slice_get}
use Rattle.nd_lemmas.proofs.Booleans.{clash}
use Rattle.nd_types.specs.declared.types.Attr.{Attr}
use Rattle.nd_types.specs.declared.types.Attr.TheVariants as attr
use Rattle.nd_types.specs.declared.types.AttrVar.{AttrVar}
use Rattle.nd_types.specs.declared.types.Field.{Field}
use Rattle.nd_types.specs.declared.types.TypeDef.{TypeDef}
use Rattle.nd_types.specs.declared.types.TypeDef.TheVariants as def
use Rattle.nd_types.specs.Kinds.{is_conformant_array, is_conformant_text, pointee, pointee_by}
use Rattle.nd_types.specs.Layout.{hoists}
use Rattle.nd_types.specs.Table.{Table, type_at}
use Rattle.nd_value.specs.declared.item.Home.{Home}
use Rattle.nd_value.specs.declared.item.ItemKind.TheVariants as kind
use Rattle.nd_value.specs.declared.value.Graph.{Graph}
use Rattle.nd_value.specs.Agreement.{Agreement, agreement, found_in, member_agreements, number_in, wanted_by}
use Rattle.nd_value.specs.Nodes.{TypedNode, child_agreements, child_types, first_agreements, home_nodes, nodes_of, rest_agreements}
use Rattle.nd_value.specs.Setting.{Among, Setting}
use Rattle.nd_value.specs.Tree as tree
use Rattle.nd_value.specs.Tree.{Label, Tree, Trees, count, is_pointer, more, node, node_count, none}
use Rattle.nd_value.proofs.Apart.{all_left, all_right, among_left, among_right}
use Rattle.nd_grammar.specs.Entry.{Entry, Kind, Test, Unread, before_children, child_tests, entries, hoisted, hoisted_max, in_place, own_tests, tests, whole_value}
use Rattle.nd_grammar.proofs.agreements.TestsFind.{AgsFit, AllFit, AreRead, AttrFits, HasSubjects, IsNoTest, IsReadKind, before_plain, child_fits, kinds_read, read_label}
use Rattle.nd_grammar.proofs.next.HoistedMaxes.{HoistsLast, OnlyLast, children, last_of}
use Rattle.nd_grammar.proofs.next.Matching.{Known as AreKnown}
use Rattle.text_grammar.specs.Paths.{child_paths, home_name, home_types, home_value, member_path, node_paths}
use Rattle.ndr_explain.specs.Explained.{home_paths, path_in}
use Rattle.ndr_explain.proofs.Walks.{path_here, path_later}
use Rattle.ndr_trace.proofs.LastPaths.{AreBare, LastIs, LastSays, conformant_hoists, last_member_is, last_member_says, no_member}
use Rattle.ndr_trace.proofs.Parts.{front_path_in, none_before, skip_nodes}
use Rattle.ndr_trace_value.specs.Attributes.{first_of, speaks, spoken}
use Rattle.ndr_trace_value.specs.LastMembers.{front_variable as front_by_types}
use Rattle.ndr_trace_value.specs.LastMembers.{counted_path, last_field, last_member, last_path, last_variable, onward, stated_by, stated_by_last, stated_in, struct_of}
use Rattle.ndr_trace_value.specs.Traces.{OfMember, member_node, numbered_path}
use Rattle.ndr_trace_value.proofs.Attributes.{OneEach, first_is}

-- ## Attributes of members

-- size_is or max_is
abbrev pub is_maximum : Attr → Bool
is_maximum attr.Size = true
is_maximum attr.Max = true
is_maximum _ = false

-- an attribute on a maximum count
pub maximum_spoken : (a : Attr) → is_maximum a ≡ true → spoken a ≡ kind.Max
maximum_spoken attr.Size e = refl
maximum_spoken attr.Max e = refl
maximum_spoken attr.First e = cc
maximum_spoken attr.Length e = cc
maximum_spoken attr.Last e = cc
maximum_spoken attr.Switch e = cc

-- an attribute with its variable states an agreement's number
pub record SaysOf (ks : Trees) (vs : List AttrVar) (a : Agreement) : Type 0 where
  pub by : AttrVar
  pub among : Among vs by
  pub attr_is : by.attr ≡ a.attr
  pub value : ℤ
  pub value_is : number_in ks by.var ≡ Some value
  pub wanted_is : a.wanted ≡ wanted_by a.attr value

pub says_of : (g : Graph) (ks : Trees) (vs : List AttrVar) (a : Agreement) → Among (member_agreements ks vs) a → SaysOf ks vs a
says_of g ks [] a e = absurd e
says_of g ks (v ∷ vs) a e = go (number_in ks v.var) refl e (says_of g ks vs a)
  where
    one_more : SaysOf ks vs a → SaysOf ks (v ∷ vs) a
    one_more s = record { by = s.by; among = inr s.among; attr_is = s.attr_is; value = s.value; value_is = s.value_is; wanted_is = s.wanted_is }

    go : (o : Option ℤ) → number_in ks v.var ≡ o → Among (agreement v.attr o ++ member_agreements ks vs) a → (Among (member_agreements ks vs) a → SaysOf ks vs a)
        → SaysOf ks (v ∷ vs) a
    go None f k later = one_more (later k)
    go (Some z) f (inl k) later = record {
      by = v;
      among = inl refl;
      attr_is = ap (λ (y : Agreement). y.attr) (sym k);
      value = z;
      value_is = f;
      wanted_is = ap (λ (y : Agreement). y.wanted) k ∙ ap (λ b. wanted_by b z) (ap (λ (y : Agreement). y.attr) (sym k));
    }
    go (Some z) f (inr k) later = one_more (later k)

-- a struct has no attribute on a maximum count
pub none_on_struct : (d : Option TypeDef) (ms : List Field) → d ≡ Some (def.Struct ms) → (vs : List AttrVar) → AllByRecursion (λ (v : AttrVar). AttrFits v.attr d) vs
    → first_of kind.Max vs ≡ None
none_on_struct d ms e [] f = refl
none_on_struct d ms e (v ∷ vs) f = by_attr v.attr refl (subst (AttrFits v.attr) e f.0) (none_on_struct d ms e vs f.1)
  where
    by_attr : (a : Attr) → v.attr ≡ a → AttrFits v.attr (Some (def.Struct ms)) → first_of kind.Max vs ≡ None → first_of kind.Max (v ∷ vs) ≡ None
    by_attr attr.Size is g later = let z : false ≡ true = subst (λ b. AttrFits b (Some (def.Struct ms))) is g in cc
    by_attr attr.Max is g later = let z : false ≡ true = subst (λ b. AttrFits b (Some (def.Struct ms))) is g in cc
    by_attr attr.First is g later = ap (λ b. elim (speaks b kind.Max) [ true ↦ Some v | false ↦ first_of kind.Max vs ]) is ∙ later
    by_attr attr.Length is g later = ap (λ b. elim (speaks b kind.Max) [ true ↦ Some v | false ↦ first_of kind.Max vs ]) is ∙ later
    by_attr attr.Last is g later = ap (λ b. elim (speaks b kind.Max) [ true ↦ Some v | false ↦ first_of kind.Max vs ]) is ∙ later
    by_attr attr.Switch is g later = ap (λ b. elim (speaks b kind.Max) [ true ↦ Some v | false ↦ first_of kind.Max vs ]) is ∙ later

are_bare : (table : Table) (fs : List Field) → AllByRecursion (λ f. AllByRecursion (λ (v : AttrVar). AttrFits v.attr (type_at table (pointee table f.of.0))) f.vars) fs
    → AreBare table fs
are_bare table [] a = tt
are_bare table (f ∷ fs) a =
    ((λ ms e. none_on_struct (type_at table (pointee table f.of.0)) ms (ap (λ d. type_at table (pointee_by f.of.0 d)) e ∙ e) f.vars a.0), are_bare table fs a.1)

-- ## Where agreements on a maximum count are tried

-- the path of the value whose maximum count is in front of a home's value
abbrev pub front_path : Setting → Graph → Home → List ℕ
front_path w g h = counted_path w.table kind.Max (home_types w g h) (home_name w h)

-- it is that of a node
abbrev pub IsFrontOf : Setting → Graph → Home → ℕ → Type 0
IsFrontOf w g h n = front_path w g h ≡ path_in (home_paths w g h) n

-- the path of the variable that states it, if a struct ends the home's value
abbrev pub front_variable : Setting → Graph → Home → List ℕ
front_variable w g h = front_by_types w.table (home_types w g h) (home_name w h)

-- that is the variable of a member at a node
abbrev pub IsSaid : Setting → Graph → Home → ℕ → Attr → ℤ → Type 0
IsSaid w g h n a wanted = 0 < n → OfMember w g h n a wanted (front_variable w g h)

-- an agreement on a maximum count is tried at that node, and its variable is that one
abbrev pub IsAtFront : Setting → Graph → Home → ℕ → Attr → ℤ → Type 0
IsAtFront w g h n attr.Size wanted = IsFrontOf w g h n × IsSaid w g h n attr.Size wanted
IsAtFront w g h n attr.Max wanted = IsFrontOf w g h n × IsSaid w g h n attr.Max wanted
IsAtFront w g h n _ wanted = Unit {0}

-- A node is a member of a struct, and an attribute of the member states the number by another member.
pub record OfStruct (w : Setting) (g : Graph) (h : Home) (n : ℕ) (a : Attr) (wanted : ℤ) : Type 0 where
  pub of : ℕ
  pub home_is : home_types w g h ≡ of ∷ []
  pub struct : TypedNode
  pub in_home : Among (home_nodes w.table of (home_value g h)) struct
  pub members : List Field
  pub is_struct : type_at w.table struct.of ≡ Some (def.Struct members)
  pub is_record : struct.label ≡ tree.Rec
  pub index : ℕ
  pub within : index < count struct.kids
  pub field : Field
  pub there : slice_get members index ≡ Some field
  pub place : n ≡ member_node struct.node index struct.kids
  pub by : AttrVar
  pub among : Among field.vars by
  pub attr_is : by.attr ≡ a
  pub value : ℤ
  pub value_is : number_in struct.kids by.var ≡ Some value
  pub wanted_is : wanted ≡ wanted_by a value

-- an agreement that is not at a home's own value is of a member's attribute
abbrev pub IsOfStruct : Setting → Graph → Home → ℕ → Attr → ℤ → Type 0
IsOfStruct w g h n a wanted = 0 < n → OfStruct w g h n a wanted

abbrev pub IsTestOfFront : Setting → Graph → Home → ℕ → Kind → Type 0
IsTestOfFront w g h n (Test a wanted found) = IsOfStruct w g h n a wanted × IsAtFront w g h n a wanted
IsTestOfFront w g h n _ = Unit {0}

-- the same of all entries, up to the first value that is not read
abbrev pub AreTestsOfFront : Setting → Graph → List Entry → Type 0
AreTestsOfFront w g [] = Unit {0}
AreTestsOfFront w g (m ∷ ms) = (m.kind ≡ Unread) ⊎ (IsReadKind m.kind × IsTestOfFront w g m.home m.node m.kind × AreTestsOfFront w g ms)

-- a path that is there twice
path_twice : (n m : ℕ) (p : List ℕ) (xs : List (ℕ × List ℕ)) → path_in ((n, p) ∷ (n, p) ∷ xs) m ≡ path_in ((n, p) ∷ xs) m
path_twice n m p xs = go (n == m) (n == m) refl
  where
    go : (b c : Bool) → c ≡ b → ◌≡◌ {A = List ℕ} (elim b [ true ↦ p | false ↦ elim c [ true ↦ p | false ↦ path_in xs m ] ]) (elim b [ true ↦ p | false ↦ path_in xs m ])
    go true c e = refl
    go false c e = ap (λ u. elim u [ true ↦ p | false ↦ path_in xs m ]) e

module _ (w : Setting) (g : Graph) where
  pub both_parts : (ms ns : List Entry) → AreTestsOfFront w g ms → (AreRead ms → AreTestsOfFront w g ns) → AreTestsOfFront w g (ms ++ ns)
  both_parts [] ns a k = k tt
  both_parts (m ∷ ms) ns (inl u) k = inl u
  both_parts (m ∷ ms) ns (inr (r, f, a)) k = inr (r, f, both_parts ms ns a (λ rs. k (r, rs)))

  -- entries that are no agreements
  pub no_tests : (h : Home) (n : ℕ) (xs : List Kind) → AllByRecursion IsNoTest xs → AreTestsOfFront w g (entries h n xs)
  no_tests h n [] a = tt
  no_tests h n (Unread ∷ xs) a = inl refl
  no_tests h n (Test b wanted found ∷ xs) a = absurd a.0
  no_tests h n (x ∷ xs) a = inr (tt, tt, no_tests h n xs a.1)

  -- the agreements on a maximum count of a value at a node have this variable
  abbrev AllSaid : Home → ℕ → List Agreement → Type 0
  AllSaid h n ags = (a : Agreement) → Among ags a → is_maximum a.attr ≡ true → IsSaid w g h n a.attr a.wanted

  -- all agreements of a value at a node are of a member's attributes
  abbrev AllOfStruct : Home → ℕ → List Agreement → Type 0
  AllOfStruct h n ags = (a : Agreement) → Among ags a → IsOfStruct w g h n a.attr a.wanted

  -- the agreements of a value
  pub tests_there : (d : Option TypeDef) (h : Home) (n : ℕ) (v : Tree) (ags : List Agreement) → AllFit d ags
      → ((is_conformant_array d || is_conformant_text d) ≡ true → IsFrontOf w g h n) → ((is_conformant_array d || is_conformant_text d) ≡ true → AllSaid h n ags)
      → AllOfStruct h n ags → AreTestsOfFront w g (tests h n v ags)
  tests_there d h n v [] f k s mine = tt
  tests_there d h n v (a ∷ ags) f k s mine =
      inr (tt, (mine a (inl refl), by_attr a.attr refl f.0), tests_there d h n v ags f.1 k (λ e b m. s e b (inr m)) (λ b m. mine b (inr m)))
    where
      by_attr : (b : Attr) → a.attr ≡ b → AttrFits b d → IsAtFront w g h n b a.wanted
      by_attr attr.Size is e = (k e, subst (λ b. IsSaid w g h n b a.wanted) is (s e a (inl refl) (ap is_maximum is)))
      by_attr attr.Max is e = (k e, subst (λ b. IsSaid w g h n b a.wanted) is (s e a (inl refl) (ap is_maximum is)))
      by_attr attr.First is e = tt
      by_attr attr.Length is e = tt
      by_attr attr.Last is e = tt
      by_attr attr.Switch is e = tt

  -- ## Where the nodes of a home are

  -- the nodes of some values have the paths in their home that they have among these
  abbrev pub HavePaths : Home → List ℕ → List (List ℕ) → ℕ → Trees → Type 0
  HavePaths h types paths n ts =
      (m : ℕ) → n ≤ m → m < n + node_count ts → path_in (home_paths w g h) m ≡ path_in (node_paths w.table types paths n ts) m

  pub own_path : (h : Home) (t : ℕ) (types : List ℕ) (p : List ℕ) (paths : List (List ℕ)) (n : ℕ) (l : Label) (ks ts : Trees)
      → HavePaths h (t ∷ types) (p ∷ paths) n (more (node l ks) ts) → path_in (home_paths w g h) n ≡ p
  own_path h t types p paths n l ks ts a =
      a n (omega arith) (omega arith)
      ∙ path_here n p (node_paths w.table (child_types (type_at w.table t) l ks) (child_paths (type_at w.table t) l p ks) (n + 1) ks
      ++ node_paths w.table types paths (n + 1 + node_count ks) ts)

  pub inner_paths : (h : Home) (t : ℕ) (types : List ℕ) (p : List ℕ) (paths : List (List ℕ)) (n : ℕ) (l : Label) (ks ts : Trees)
      → HavePaths h (t ∷ types) (p ∷ paths) n (more (node l ks) ts)
      → HavePaths h (child_types (type_at w.table t) l ks) (child_paths (type_at w.table t) l p ks) (n + 1) ks
  inner_paths h t types p paths n l ks ts a m low high =
      let inner = node_paths w.table (child_types (type_at w.table t) l ks) (child_paths (type_at w.table t) l p ks) (n + 1) ks in
      let outer = node_paths w.table types paths (n + 1 + node_count ks) ts in
      a m (omega (arith, low)) (omega (arith, high)) ∙ path_later n m p (inner ++ outer) (omega (arith, low))
      ∙ front_path_in inner outer m (none_before w.table types paths (n + 1 + node_count ks) m ts (omega (arith, high)))

  pub later_paths : (h : Home) (t : ℕ) (types : List ℕ) (p : List ℕ) (paths : List (List ℕ)) (n : ℕ) (l : Label) (ks ts : Trees)
      → HavePaths h (t ∷ types) (p ∷ paths) n (more (node l ks) ts) → HavePaths h types paths (n + 1 + node_count ks) ts
  later_paths h t types p paths n l ks ts a m low high =
      let inner = node_paths w.table (child_types (type_at w.table t) l ks) (child_paths (type_at w.table t) l p ks) (n + 1) ks in
      let outer = node_paths w.table types paths (n + 1 + node_count ks) ts in
      a m (omega (arith, low)) (omega (arith, high)) ∙ path_later n m p (inner ++ outer) (omega (arith, low))
      ∙ skip_nodes w.table (child_types (type_at w.table t) l ks) (child_paths (type_at w.table t) l p ks) (n + 1) m ks outer (omega (arith, low))

  -- a node of a home
  abbrev pub NodeIn : Home → TypedNode → Type 0
  NodeIn h x = (of : ℕ) × (home_types w g h ≡ of ∷ []) × Among (home_nodes w.table of (home_value g h)) x

  -- the nodes of some values are nodes of a home
  abbrev pub HaveNodes : Home → List ℕ → ℕ → Trees → Type 0
  HaveNodes h types n ts = (ags : List (List Agreement)) × ((x : TypedNode) → Among (nodes_of w.table types ags n ts) x → NodeIn h x)

  pub inner_nodes : (h : Home) (t : ℕ) (types : List ℕ) (n : ℕ) (l : Label) (ks ts : Trees) → HaveNodes h (t ∷ types) n (more (node l ks) ts)
      → HaveNodes h (child_types (type_at w.table t) l ks) (n + 1) ks
  inner_nodes h t types n l ks ts (ags, f) = (
    child_agreements (type_at w.table t) ks,
    λ x m.
        f x
        (inr (among_left (nodes_of w.table (child_types (type_at w.table t) l ks) (child_agreements (type_at w.table t) ks) (n + 1) ks)
        (nodes_of w.table types (rest_agreements ags) (n + 1 + node_count ks) ts) x m)),
  )

  pub later_nodes : (h : Home) (t : ℕ) (types : List ℕ) (n : ℕ) (l : Label) (ks ts : Trees) → HaveNodes h (t ∷ types) n (more (node l ks) ts)
      → HaveNodes h types (n + 1 + node_count ks) ts
  later_nodes h t types n l ks ts (ags, f) = (
    rest_agreements ags,
    λ x m.
        f x
        (inr (among_right (nodes_of w.table (child_types (type_at w.table t) l ks) (child_agreements (type_at w.table t) ks) (n + 1) ks)
        (nodes_of w.table types (rest_agreements ags) (n + 1 + node_count ks) ts) x m)),
  )

  -- ## A home's own value

  pub home_in : (h : Home) (t : ℕ) (v : Tree) → home_types w g h ≡ t ∷ [] → home_value g h ≡ v → HaveNodes h (t ∷ []) 0 (more v none)
  home_in h t v types value = ([], λ x m. (t, types, subst (λ u. Among (home_nodes w.table t u) x) (sym value) m))

  pub home_have : (h : Home) (t : ℕ) (v : Tree) → home_types w g h ≡ t ∷ [] → home_value g h ≡ v → HavePaths h (t ∷ []) (home_name w h ∷ []) 0 (more v none)
  home_have h t (node l ks) types value m low high =
      ap₂ (λ (ts : List ℕ) (u : Tree). path_in ((0, home_name w h) ∷ node_paths w.table ts (home_name w h ∷ []) 0 (more u none)) m) types value
      ∙ path_twice 0 m (home_name w h)
      (node_paths w.table (child_types (type_at w.table t) l ks) (child_paths (type_at w.table t) l (home_name w h) ks) (0 + 1) ks
      ++ node_paths w.table [] [] (0 + 1 + node_count ks) none)

  -- ## Values that end with the one whose maximum count is in front

  -- the maximum count in front is that of the last of some values, or of its last member, and so on; its variable is that of this value, if it is a struct
  abbrev Last : Home → List ℕ → ℕ → Trees → Type 0
  Last h types n ts =
      (paths : List (List ℕ)) × LastIs w.table (front_path w g h) types paths × LastSays w.table (front_variable w g h) types paths × HavePaths h types paths n ts

  -- the same, if the last of them hoists
  abbrev IfLast : Home → List ℕ → ℕ → Trees → Type 0
  IfLast h types n ts = last_of (hoists w.table) types ≡ true → Last h types n ts

  fewer : (t : ℕ) (types : List ℕ) → OnlyLast (hoists w.table) (t ∷ types) → OnlyLast (hoists w.table) types
  fewer t [] o = tt
  fewer t (u ∷ types) o = o.1

  -- the values after the first
  others_last : (h : Home) (t : ℕ) (types : List ℕ) (n : ℕ) (l : Label) (ks ts : Trees) → IfLast h (t ∷ types) n (more (node l ks) ts)
      → IfLast h types (n + 1 + node_count ks) ts
  others_last h t [] n l ks ts c e = cc
  others_last h t (u ∷ types) n l ks ts c e = go (c e)
    where
      go : Last h (t ∷ u ∷ types) n (more (node l ks) ts) → Last h (u ∷ types) (n + 1 + node_count ks) ts
      go ([], last, says, have) = absurd last
      go (p ∷ paths, last, says, have) = (paths, last, says, later_paths h t (u ∷ types) p paths n l ks ts have)

  module _ (laid : HoistsLast w.table) (subjects : HasSubjects w.table)
      (unfolds : (t : ℕ) (p : List ℕ) → last_path w.table t p ≡ onward (last_path w.table) p (last_member (type_at w.table t)))
      (stated : (t : ℕ) (p : List ℕ) → last_variable w.table t p ≡ stated_in (last_variable w.table) p (struct_of (type_at w.table t)))
      (one_each : (t : ℕ) (fs : List Field) → type_at w.table t ≡ Some (def.Struct fs) → AllByRecursion (λ (f : Field). OneEach f.vars) fs) where
    -- the variable of a struct that is the last value is that of its last member
    struct_says : (h : Home) (t : ℕ) (p : List ℕ) (fs : List Field) → type_at w.table t ≡ Some (def.Struct fs)
        → ((ms : List Field) → type_at w.table t ≡ Some (def.Struct ms) → front_variable w g h ≡ last_variable w.table t p)
        → front_variable w g h ≡ stated_by_last (last_variable w.table) p fs (last_field fs)
    struct_says h t p fs d says = says fs d ∙ stated t p ∙ ap (λ u. stated_in (last_variable w.table) p (struct_of u)) d

    -- the members of a struct that is the last value
    members_last : (h : Home) (t n : ℕ) (l : Label) (ks ts : Trees) (fs : List Field) → l ≡ tree.Rec → type_at w.table t ≡ Some (def.Struct fs)
        → last_of (hoists w.table) (child_types (type_at w.table t) l ks) ≡ true → Last h (t ∷ []) n (more (node l ks) ts)
        → Last h (child_types (type_at w.table t) l ks) (n + 1) ks
    members_last h t n l ks ts fs r d e ([], last, says, have) = absurd last
    members_last h t n l ks ts fs r d e (p ∷ paths, last, says, have) = (
      child_paths (type_at w.table t) l p ks,
      subst (λ us. LastIs w.table (front_path w g h) us (child_paths (type_at w.table t) l p ks)) (sym same_types)
          (subst (LastIs w.table (front_path w g h) (map (λ f. f.of.0) fs)) (sym same_paths)
          (last_member_is w.table (hoists w.table) (front_path w g h) p fs (ap (last_of (hoists w.table)) (sym same_types) ∙ e)
          (last ∙ unfolds t p ∙ ap (λ u. onward (last_path w.table) p (last_member u)) d))),
      subst (λ us. LastSays w.table (front_variable w g h) us (child_paths (type_at w.table t) l p ks)) (sym same_types)
          (subst (LastSays w.table (front_variable w g h) (map (λ f. f.of.0) fs)) (sym same_paths)
          (last_member_says w.table (front_variable w g h) p fs fs (are_bare w.table fs (subjects.members t fs d)) (struct_says h t p fs d says))),
      inner_paths h t [] p paths n l ks ts have,
    )
      where
        same_types : child_types (type_at w.table t) l ks ≡ map (λ f. f.of.0) fs
        same_types = ap₂ (λ (u : Option TypeDef) (q : Label). child_types u q ks) d r

        same_paths : child_paths (type_at w.table t) l p ks ≡ map (λ f. member_path p f.name) fs
        same_paths = ap₂ (λ (u : Option TypeDef) (q : Label). child_paths u q p ks) d r

    -- the children of the first value: they hoist only in a struct that does, which is the last value then
    children_last : (h : Home) (t : ℕ) (types : List ℕ) (n : ℕ) (l : Label) (ks ts : Trees) → OnlyLast (hoists w.table) (t ∷ types)
        → IfLast h (t ∷ types) n (more (node l ks) ts) → IfLast h (child_types (type_at w.table t) l ks) (n + 1) ks
    children_last h t [] n l ks ts o c e =
        let (top, is_record, (fs, is_struct)) = (children w.table laid t (type_at w.table t) l ks refl).1 e in
        members_last h t n l ks ts fs is_record is_struct e (c top)
    children_last h t (u ∷ types) n l ks ts o c e =
        let (top, is_record, (fs, is_struct)) = (children w.table laid t (type_at w.table t) l ks refl).1 e in
        clash (hoists w.table t) top o.0

    -- ## Agreements

    -- an array or text with a maximum count is the last value
    at_last : (h : Home) (t : ℕ) (types : List ℕ) (n : ℕ) (l : Label) (ks ts : Trees) → OnlyLast (hoists w.table) (t ∷ types)
        → IfLast h (t ∷ types) n (more (node l ks) ts) → (is_conformant_array (type_at w.table t) || is_conformant_text (type_at w.table t)) ≡ true → IsFrontOf w g h n
    at_last h t (u ∷ types) n l ks ts o c e =
        clash (hoists w.table t) (laid.unfolds t ∙ conformant_hoists (hoists w.table) (type_at w.table t) e) o.0
    at_last h t [] n l ks ts o c e = go (c (laid.unfolds t ∙ conformant_hoists (hoists w.table) (type_at w.table t) e))
      where
        go : Last h (t ∷ []) n (more (node l ks) ts) → IsFrontOf w g h n
        go ([], last, says, have) = absurd last
        go (p ∷ paths, last, says, have) =
            last ∙ unfolds t p ∙ ap (onward (last_path w.table) p) (no_member (type_at w.table t) e) ∙ sym (own_path h t [] p paths n l ks ts have)

    -- the agreements of a value that is no pointer are on its own type
    own_fits : (t : ℕ) (d : Option TypeDef) (l : Label) (ks : Trees) (ags : List Agreement) → is_pointer l ≡ false
        → AllByRecursion IsReadKind (before_children w.table t d l ks) → AllFit (type_at w.table (pointee_by t d)) ags → AllFit (type_at w.table t) ags
    own_fits t (Some (def.Pointer k to)) (tree.Ptr c) ks ags p r f = cc
    own_fits t (Some (def.Pointer k to)) _ ks ags p r f = absurd r.0
    own_fits t None l ks ags p r f = f
    own_fits t (Some _) l ks ags p r f = f

    own_there : (b : Bool) (h : Home) (t : ℕ) (types : List ℕ) (n : ℕ) (l : Label) (ks ts : Trees) (ags : List Agreement) → is_pointer l ≡ b
        → OnlyLast (hoists w.table) (t ∷ types) → IfLast h (t ∷ types) n (more (node l ks) ts)
        → AllByRecursion IsReadKind (before_children w.table t (type_at w.table t) l ks) → AllFit (type_at w.table (pointee w.table t)) ags
        → ((is_conformant_array (type_at w.table t) || is_conformant_text (type_at w.table t)) ≡ true → AllSaid h n ags) → AllOfStruct h n ags
        → AreTestsOfFront w g (own_tests b h n (node l ks) ags)
    own_there true h t types n l ks ts ags e o c r f s mine = tt
    own_there false h t types n l ks ts ags e o c r f s mine =
        tests_there (type_at w.table t) h n (node l ks) ags (own_fits t (type_at w.table t) l ks ags e r f) (at_last h t types n l ks ts o c) s mine

    -- values whose entries before their children were read
    abbrev HaveRead : List ℕ → Trees → Type 0
    HaveRead (t ∷ types) (more (node l ks) ts) = AllByRecursion IsReadKind (before_children w.table t (type_at w.table t) l ks) × HaveRead types ts
    HaveRead _ _ = Unit {0}

    have_read : (h : Home) (types : List ℕ) (n : ℕ) (ts : Trees) → AreRead (in_place w.table h types n ts) → HaveRead types ts
    have_read h [] n none r = tt
    have_read h [] n (more v ts) r = tt
    have_read h (t ∷ types) n none r = tt
    have_read h (t ∷ types) n (more (node l ks) ts) r =
        let d : Option TypeDef = type_at w.table t in
        let A : List Entry = entries h n (before_children w.table t d l ks) in
        let B : List Entry = in_place w.table h (child_types d l ks) (n + 1) ks in
        let C : List Entry = child_tests h (child_agreements d ks) (n + 1) ks in
        let D : List Entry = in_place w.table h types (n + 1 + node_count ks) ts in
        let r1 = all_right (λ (m : Entry). IsReadKind m.kind) A (B ++ (C ++ D)) r in
        let r2 = all_right (λ (m : Entry). IsReadKind m.kind) B (C ++ D) r1 in (
          kinds_read h n _ (all_left (λ (m : Entry). IsReadKind m.kind) A (B ++ (C ++ D)) r),
          have_read h types (n + 1 + node_count ks) ts (all_right (λ (m : Entry). IsReadKind m.kind) C D r2),
        )

    -- ## The variables of members

    -- the agreements of these values, which are of these types, are of members' attributes, and those on a maximum count have the variable
    abbrev ChildrenSaid : Home → List ℕ → List (List Agreement) → ℕ → Trees → Type 0
    ChildrenSaid h (t ∷ types) ags n (more (node l ks) ts) =
        ((is_conformant_array (type_at w.table t) || is_conformant_text (type_at w.table t)) ≡ true → AllSaid h n (first_agreements ags))
        × AllOfStruct h n (first_agreements ags) × ChildrenSaid h types (rest_agreements ags) (n + 1 + node_count ks) ts
    ChildrenSaid h _ ags n _ = Unit {0}

    -- where there are no agreements
    none_said : (h : Home) (types : List ℕ) (n : ℕ) (ts : Trees) → ChildrenSaid h types [] n ts
    none_said h [] n ts = tt
    none_said h (t ∷ types) n none = tt
    none_said h (t ∷ types) n (more (node l ks) ts) = ((λ e a m. absurd m), (λ a m. absurd m), none_said h types (n + 1 + node_count ks) ts)

    -- what the members of a struct are known by: its number, type, label and children
    module _ (h : Home) (t : ℕ) (types : List ℕ) (n : ℕ) (l : Label) (ks ts : Trees) (o : OnlyLast (hoists w.table) (t ∷ types)) (c : IfLast h (t ∷ types) n (more (node l ks) ts))
        (nodes : HaveNodes h (t ∷ types) n (more (node l ks) ts)) (fs : List Field) (d : type_at w.table t ≡ Some (def.Struct fs)) (r : l ≡ tree.Rec) where
      -- each member
      said_struct : (i : ℕ) (f : Field) (m : ℕ) → slice_get fs i ≡ Some f → i < count ks → m ≡ member_node n i ks → AllOfStruct h m (member_agreements ks f.vars)
      said_struct i f m there within place a among low =
          let struct : TypedNode = record { node = n; of = t; agreements = first_agreements nodes.0; label = l; kids = ks } in
          let (of, home_is, in_home) = nodes.1 struct (inl refl) in
          let s = says_of g ks f.vars a among in
          record {
            of = of;
            home_is = home_is;
            struct = struct;
            in_home = in_home;
            members = fs;
            is_struct = d;
            is_record = r;
            index = i;
            within = within;
            field = f;
            there = there;
            place = place;
            by = s.by;
            among = s.among;
            attr_is = s.attr_is;
            value = s.value;
            value_is = s.value_is;
            wanted_is = s.wanted_is;
          }

      -- a struct that hoists is the last value
      is_last : (types : List ℕ) → OnlyLast (hoists w.table) (t ∷ types) → IfLast h (t ∷ types) n (more (node l ks) ts) → hoists w.table t ≡ true
          → Last h (t ∷ []) n (more (node l ks) ts)
      is_last [] o c e = c e
      is_last (u ∷ types) o c e = clash (hoists w.table t) e o.0

      -- the last member
      said_last : (i : ℕ) (f : Field) (m : ℕ) → slice_get fs i ≡ Some f → last_field fs ≡ Some f → m ≡ member_node n i ks → OneEach f.vars
          → Last h (t ∷ []) n (more (node l ks) ts) → AllSaid h m (member_agreements ks f.vars)
      said_last i f m there final place one ([], last, says, have) a among e low = absurd last
      said_last i f m there final place one (p ∷ paths, last, says, have) a among e low =
          let struct : TypedNode = record { node = n; of = t; agreements = first_agreements nodes.0; label = l; kids = ks } in
          let (of, home_is, in_home) = nodes.1 struct (inl refl) in
          let s = says_of g ks f.vars a among in
          let counts : spoken s.by.attr ≡ kind.Max = ap spoken s.attr_is ∙ maximum_spoken a.attr e in
          let first : first_of kind.Max f.vars ≡ Some s.by = first_is kind.Max f.vars s.by one s.among counts in
          let text : front_variable w g h ≡ numbered_path p fs s.by.var =
          struct_says h t p fs d says ∙ ap (stated_by_last (last_variable w.table) p fs) final ∙ ap (stated_by (last_variable w.table) p fs f) first in
          record {
            of = of;
            home_is = home_is;
            struct = struct;
            in_home = in_home;
            members = fs;
            is_struct = d;
            index = i;
            field = f;
            there = there;
            place = place;
            by = s.by;
            among = s.among;
            attr_is = s.attr_is;
            value = s.value;
            value_is = s.value_is;
            wanted_is = s.wanted_is;
            path = text ∙ ap (λ q. numbered_path q fs s.by.var) (sym (own_path h t [] p paths n l ks ts have));
          }

      -- the members from one on, where the node before the first of them is m
      members_said : (i m : ℕ) (gs : List Field) (us : Trees) (first : ℕ) → first ≡ m + 1 → count ks ≡ i + count us → ((j : ℕ) → slice_get fs (i + j) ≡ slice_get gs j)
          → ((j : ℕ) → member_node n (i + j) ks ≡ member_node m j us) → last_field fs ≡ last_field gs
          → last_of (hoists w.table) (map (λ f. f.of.0) fs) ≡ last_of (hoists w.table) (map (λ f. f.of.0) gs) → OnlyLast (hoists w.table) (map (λ f. f.of.0) gs)
          → AllByRecursion (λ (f : Field). OneEach f.vars) gs → (last_of (hoists w.table) (map (λ f. f.of.0) fs) ≡ true → hoists w.table t ≡ true)
          → ChildrenSaid h (map (λ f. f.of.0) gs) (map (λ (f : Field). member_agreements ks f.vars) gs) first us
      members_said i m [] us first e size get place final same only one top = tt
      members_said i m (f ∷ gs) none first e size get place final same only one top = tt
      members_said i m (f ∷ []) (more (node k js) us) first e size get place final same only one top = (
        (λ fits.
            (let own : hoists w.table f.of.0 ≡ true = laid.unfolds f.of.0 ∙ conformant_hoists (hoists w.table) (type_at w.table f.of.0) fits in
            said_last i f first (ap (slice_get fs) (plus_zero i) ∙ get 0) final (e ∙ sym (place 0) ∙ ap (λ x. member_node n x ks) (sym (plus_zero i))) one.0
            (is_last types o c (top (same ∙ own))))),
        said_struct i f first (ap (slice_get fs) (plus_zero i) ∙ get 0) (omega (arith, size)) (e ∙ sym (place 0) ∙ ap (λ x. member_node n x ks) (sym (plus_zero i))),
        tt,
      )
        where
          plus_zero : (x : ℕ) → x ≡ x + 0
          plus_zero x = omega arith
      members_said i m (f ∷ f' ∷ gs) (more (node k js) us) first e size get place final same only one top = (
        (λ fits.
            (let own : hoists w.table f.of.0 ≡ true = laid.unfolds f.of.0 ∙ conformant_hoists (hoists w.table) (type_at w.table f.of.0) fits in
            clash (hoists w.table f.of.0) own only.0)),
        said_struct i f first (ap (slice_get fs) (no_further i) ∙ get 0) (omega (arith, size)) (e ∙ sym (place 0) ∙ ap (λ x. member_node n x ks) (sym (no_further i))),
        members_said (i + 1) (m + 1 + node_count js) (f' ∷ gs) us (first + 1 + node_count js) (omega (arith, e)) (omega (arith, size))
            (λ j. ap (slice_get fs) (one_further j) ∙ get (suc j)) (λ j. ap (λ x. member_node n x ks) (one_further j) ∙ place (suc j)) final same only.1 one.1 top,
      )
        where
          no_further : (x : ℕ) → x ≡ x + 0
          no_further x = omega arith

          one_further : (j : ℕ) → i + 1 + j ≡ i + suc j
          one_further j = omega arith

    -- the children of a value
    children_said : (h : Home) (t : ℕ) (types : List ℕ) (n : ℕ) (l : Label) (ks ts : Trees) → OnlyLast (hoists w.table) (t ∷ types)
        → IfLast h (t ∷ types) n (more (node l ks) ts) → HaveNodes h (t ∷ types) n (more (node l ks) ts)
        → ChildrenSaid h (child_types (type_at w.table t) l ks) (child_agreements (type_at w.table t) ks) (n + 1) ks
    children_said h t types n l ks ts o c nodes = go (type_at w.table t) refl l refl
      where
        of_struct : (fs : List Field) → type_at w.table t ≡ Some (def.Struct fs) → l ≡ tree.Rec
            → ChildrenSaid h (map (λ f. f.of.0) fs) (map (λ (f : Field). member_agreements ks f.vars) fs) (n + 1) ks
        of_struct fs d r =
            let same : child_types (type_at w.table t) l ks ≡ map (λ f. f.of.0) fs = ap₂ (λ (u : Option TypeDef) (q : Label). child_types u q ks) d r in
            let kids = children w.table laid t (type_at w.table t) l ks refl in
            members_said h t types n l ks ts o c nodes fs d r 0 n fs ks (n + 1) refl (omega arith) (λ j. ap (slice_get fs) (zero_plus j)) (λ j. ap (λ x. member_node n x ks) (zero_plus j)) refl refl
            (subst (OnlyLast (hoists w.table)) same kids.0) (one_each t fs d) (λ e. (kids.1 (ap (last_of (hoists w.table)) same ∙ e)).0)
          where
            zero_plus : (j : ℕ) → 0 + j ≡ j
            zero_plus j = omega arith

        go : (u : Option TypeDef) → type_at w.table t ≡ u → (q : Label) → l ≡ q → ChildrenSaid h (child_types u q ks) (child_agreements u ks) (n + 1) ks
        go (Some (def.Struct fs)) d tree.Rec r = of_struct fs d r
        go (Some (def.Struct fs)) d (tree.Num z) r = tt
        go (Some (def.Struct fs)) d (tree.Arr x y) r = tt
        go (Some (def.Struct fs)) d (tree.Text x os) r = tt
        go (Some (def.Struct fs)) d (tree.Union z) r = tt
        go (Some (def.Struct fs)) d (tree.Ptr x) r = tt
        go (Some (def.Struct fs)) d (tree.Context x id) r = tt
        go (Some (def.Struct fs)) d tree.Pipe r = tt
        go (Some (def.Struct fs)) d tree.Unread r = tt
        go None d q r = none_said h (child_types None q ks) (n + 1) ks
        go (Some u) d q r = none_said h (child_types (Some u) q ks) (n + 1) ks

    -- the agreements of children
    children_there : (h : Home) (types : List ℕ) (ags : List (List Agreement)) (n : ℕ) (ts : Trees) → OnlyLast (hoists w.table) types → AreKnown g w.table types ts
        → IfLast h types n ts → HaveRead types ts → AgsFit w.table types ags → ChildrenSaid h types ags n ts → AreTestsOfFront w g (child_tests h ags n ts)
    children_there h [] ags n none o k c r f s = tt
    children_there h [] ags n (more v ts) o k c r f s = absurd k
    children_there h (t ∷ types) ags n none o k c r f s = absurd k
    children_there h (t ∷ types) ags n (more (node l ks) ts) o k c r f s =
        both_parts (own_tests (is_pointer l) h n (node l ks) (first_agreements ags)) (child_tests h (rest_agreements ags) (n + 1 + node_count ks) ts)
        (own_there (is_pointer l) h t types n l ks ts (first_agreements ags) refl o c r.0 f.0 s.0 s.1)
        (λ rs. children_there h types (rest_agreements ags) (n + 1 + node_count ks) ts (fewer t types o) k.2 (others_last h t types n l ks ts c) r.1 f.1 s.2)

    -- values in their places
    pub in_place_there : (h : Home) (types : List ℕ) (n : ℕ) (ts : Trees) → OnlyLast (hoists w.table) types → AreKnown g w.table types ts → IfLast h types n ts
        → HaveNodes h types n ts → AreTestsOfFront w g (in_place w.table h types n ts)
    in_place_there h [] n none o k c nodes = tt
    in_place_there h [] n (more v ts) o k c nodes = absurd k
    in_place_there h (t ∷ types) n none o k c nodes = absurd k
    in_place_there h (t ∷ types) n (more (node l ks) ts) o k c nodes =
        let d : Option TypeDef = type_at w.table t in
        let A : List Entry = entries h n (before_children w.table t d l ks) in
        let B : List Entry = in_place w.table h (child_types d l ks) (n + 1) ks in
        let C : List Entry = child_tests h (child_agreements d ks) (n + 1) ks in
        let D : List Entry = in_place w.table h types (n + 1 + node_count ks) ts in
        let only : OnlyLast (hoists w.table) (child_types d l ks) = (children w.table laid t d l ks refl).0 in
        let inner : IfLast h (child_types d l ks) (n + 1) ks = children_last h t types n l ks ts o c in
        both_parts A (B ++ (C ++ D)) (no_tests h n _ (before_plain w.table t d l ks)) (λ ra.
        let kids : AreKnown g w.table (child_types d l ks) ks = k.1 (read_label w.table t d l ks (kinds_read h n _ ra)) in
        both_parts B (C ++ D) (in_place_there h (child_types d l ks) (n + 1) ks only kids inner (inner_nodes h t types n l ks ts nodes)) (λ rb.
        both_parts C D
        (children_there h (child_types d l ks) (child_agreements d ks) (n + 1) ks only kids inner (have_read h (child_types d l ks) (n + 1) ks rb)
        (child_fits w.table laid subjects t d l ks refl) (children_said h t types n l ks ts o c nodes)) (λ rc.
        in_place_there h types (n + 1 + node_count ks) ts (fewer t types o) k.2 (others_last h t types n l ks ts c) (later_nodes h t types n l ks ts nodes))))

    -- ## A home's value

    hoisted_plain : (b : Bool) (l : Label) (m : ℕ) → AllByRecursion IsNoTest (hoisted b l m)
    hoisted_plain false l m = tt
    hoisted_plain true tree.Unread m = tt
    hoisted_plain true _ m = (tt, (tt, tt))

    front_of : (h : Home) (t : ℕ) → home_types w g h ≡ t ∷ [] → front_path w g h ≡ last_path w.table t (home_name w h)
    front_of h t e = ap (λ ts. counted_path w.table kind.Max ts (home_name w h)) e

    variable_of : (h : Home) (t : ℕ) → home_types w g h ≡ t ∷ [] → front_variable w g h ≡ last_variable w.table t (home_name w h)
    variable_of h t e = ap (λ ts. front_by_types w.table ts (home_name w h)) e

    pub whole_there : (h : Home) (t : ℕ) (v : Tree) → home_types w g h ≡ t ∷ [] → home_value g h ≡ v → AreKnown g w.table (t ∷ []) (more v none)
        → AreTestsOfFront w g (whole_value w.table h t v)
    whole_there h t (node l ks) types value k =
        both_parts (entries h 0 (hoisted (hoists w.table t) l (hoisted_max 0 (more (node l ks) none)))) (in_place w.table h (t ∷ []) 0 (more (node l ks) none))
        (no_tests h 0 _ (hoisted_plain (hoists w.table t) l (hoisted_max 0 (more (node l ks) none))))
        (λ re.
        in_place_there h (t ∷ []) 0 (more (node l ks) none) tt k
        (λ e. (home_name w h ∷ [], front_of h t types, (λ ms d. variable_of h t types), home_have h t (node l ks) types value))
        (home_in h t (node l ks) types value))

    -- the agreements on a home's own value, which has no members
    pub own_value_there : (h : Home) (t : ℕ) (d : Option TypeDef) (v : Tree) (ags : List Agreement) → home_types w g h ≡ t ∷ []
        → ((is_conformant_array d || is_conformant_text d) ≡ true → last_member (type_at w.table t) ≡ None) → AllFit d ags → AreTestsOfFront w g (tests h 0 v ags)
    own_value_there h t d v ags types bare fit =
        tests_there d h 0 v ags fit (λ e.
        front_of h t types ∙ unfolds t (home_name w h) ∙ ap (onward (last_path w.table) (home_name w h)) (bare e)
        ∙ sym (path_here 0 (home_name w h) (node_paths w.table (home_types w g h) (home_name w h ∷ []) 0 (more (home_value g h) none))))
        (λ e a m x low. absurd (omega (arith, low))) (λ a m low. absurd (omega (arith, low)))
