-- Which members of structs the nodes of values are: of values one after the other, and of a home's.
-- `f` says of each node's number which member it is, `table` are the types, `types` and `T` are types of values, `places` and `P` say which members these are,
-- `ks` and `us` are values, `n` and `m` numbers of nodes, `k` is the kind of an item, `p` a path, `L` a level, `Ls` are those around it.
use Rattle.std.proofs.Common.{◌≡◌, ◌∙◌, ℕ, ◌+◌, ◌<◌, ◌≤◌, suc, Bool, true, false, List, [], ◌∷◌, ◌++◌, length, Option, Some, None, refl, sym, ap, ap₂, subst, add-zero}
use Rattle.std.proofs.Common.{arith, codes, length-append}
use Rattle.std.specs.Prelude.{◌-◌, ltb, take}
use Rattle.std.specs.List.{slice_get}
use Rattle.std.proofs.lemmas.Bool.{eq-eqb, le-ltb, lt-ltb, ne_eqb}
use Rattle.nd_lemmas.proofs.Lists.{take_front}
use Rattle.nd_types.specs.declared.types.AttrVar.{AttrVar}
use Rattle.nd_types.specs.declared.types.Field.{Field}
use Rattle.nd_types.specs.Table.{Table, type_at}
use Rattle.nd_value.specs.declared.item.Home.{Home}
use Rattle.nd_value.specs.declared.item.ItemKind.{ItemKind}
use Rattle.nd_value.specs.declared.value.Graph.{Graph}
use Rattle.nd_value.specs.Nodes.{child_types}
use Rattle.nd_value.specs.Setting.{Setting}
use Rattle.nd_value.specs.Tree.{Tree, Trees, count, joined, more, node, node_count, none}
use Rattle.text_grammar.specs.Paths.{home_types, home_value, member_path}
use Rattle.ndr_explain.specs.declared.levels.Level.{Level}
use Rattle.ndr_explain.specs.declared.levels.Level.TheVariants as level
use Rattle.ndr_explain.specs.Cursors.{Place, field_path, level_place, no_places, path_to}
use Rattle.ndr_explain.proofs.LevelPlaces.{child_length}
use Rattle.ndr_trace_value.specs.Places.{ArePlaced, field_variable, home_place, kid_places, member_variable, outer_path, place_at, place_variable, without_step}
use Rattle.ndr_trace_value.specs.Attributes.{first_of}
use Rattle.ndr_trace_value.specs.Places.{stated_beside}
use Rattle.ndr_trace_value.specs.Traces.{field_name, numbered_path}

-- ## Values one after the other

one_on : (n a b : ℕ) → n + suc (a + b) ≡ n + 1 + a + b
one_on n a b = omega arith

module _ (f : ℕ → Place) (table : Table) where
  -- some values, and then others
  pub placed_joined : (types T : List ℕ) (places P : List Place) (n : ℕ) (ks us : Trees) → count ks ≡ length types → length places ≡ length types
      → ArePlaced f table types places n ks → ArePlaced f table T P (n + node_count ks) us → ArePlaced f table (types ++ T) (places ++ P) n (joined ks us)
  placed_joined [] T [] P n none us e l a b = subst (λ m. ArePlaced f table T P m us) (add-zero n) b
  placed_joined [] T [] P n (more v ks) us e l a b = cc
  placed_joined [] T (x ∷ places) P n ks us e l a b = cc
  placed_joined (t ∷ types) T places P n none us e l a b = cc
  placed_joined (t ∷ types) T [] P n (more v ks) us e l a b = cc
  placed_joined (t ∷ types) T (x ∷ places) P n (more (node i js) ks) us e l a b = (
    a.0,
    a.1,
    placed_joined types T places P (n + 1 + node_count js) ks us (omega (arith, e)) (omega (arith, l)) a.2
        (subst (λ m. ArePlaced f table T P m us) (one_on n (node_count js) (node_count ks)) b),
  )

  -- the parts of values that are no members
  pub plain_parts : (types T : List ℕ) (n : ℕ) (ks us : Trees) → count ks ≡ length types → ArePlaced f table (types ++ T) (no_places (types ++ T)) n (joined ks us)
      → ArePlaced f table types (no_places types) n ks × ArePlaced f table T (no_places T) (n + node_count ks) us
  plain_parts [] T n none us e a = (tt, subst (λ m. ArePlaced f table T (no_places T) m us) (sym (add-zero n)) a)
  plain_parts [] T n (more v ks) us e a = cc
  plain_parts (t ∷ types) T n none us e a = cc
  plain_parts (t ∷ types) T n (more (node i js) ks) us e a =
      let (x, y) = plain_parts types T (n + 1 + node_count js) ks us (omega (arith, e)) a.2 in
      ((a.0, a.1, x), subst (λ m. ArePlaced f table T (no_places T) m us) (sym (one_on n (node_count js) (node_count ks))) y)

-- ## By the number of a node

abbrev pick : Bool → Bool → Place → Place → Place → Place
pick b c x y z = elim b [ true ↦ x | false ↦ elim c [ true ↦ y | false ↦ z ] ]

module _ (f : ℕ → Place) (table : Table) where
  -- the nodes of values are the members that are found by their numbers
  pub are_placed : (types : List ℕ) (places : List Place) (n : ℕ) (ts : Trees) → length places ≡ length types
      → ((m : ℕ) → n ≤ m → m < n + node_count ts → f m ≡ place_at table types places n ts m) → ArePlaced f table types places n ts
  are_placed [] places n ts e a = tt
  are_placed (t ∷ types) [] n ts e a = cc
  are_placed (t ∷ types) (x ∷ places) n none e a = tt
  are_placed (t ∷ types) (x ∷ places) n (more (node l ks) ts) e a = (
    a n (omega arith) (omega arith) ∙ ap (λ b. pick b (ltb n (n + 1 + node_count ks)) x (inner n) (outer n)) (eq-eqb n n refl),
    are_placed (child_types (type_at table t) l ks) (kid_places table t l ks) (n + 1) ks (child_length (type_at table t) (child_types (type_at table t) l ks)) (λ m low high.
        a m (omega (arith, low)) (omega (arith, high))
        ∙ ap₂ (λ b c. pick b c x (inner m) (outer m)) (ne_eqb m n (λ s. absurd (omega (arith, s, low)))) (lt-ltb m (n + 1 + node_count ks) high)),
    are_placed types places (n + 1 + node_count ks) ts (omega (arith, e)) (λ m low high.
        a m (omega (arith, low)) (omega (arith, high))
        ∙ ap₂ (λ b c. pick b c x (inner m) (outer m)) (ne_eqb m n (λ s. absurd (omega (arith, s, low)))) (le-ltb m (n + 1 + node_count ks) low)),
  )
    where
      inner : ℕ → Place
      inner m = place_at table (child_types (type_at table t) l ks) (kid_places table t l ks) (n + 1) ks m

      outer : ℕ → Place
      outer m = place_at table types places (n + 1 + node_count ks) ts m

module _ (w : Setting) (g : Graph) (h : Home) where
  -- the nodes of a home
  pub home_placed : (t : ℕ) (v : Tree) → home_types w g h ≡ t ∷ [] → home_value g h ≡ v → ArePlaced (home_place w g h) w.table (t ∷ []) (None ∷ []) 0 (more v none)
  home_placed t v types value =
      are_placed (home_place w g h) w.table (t ∷ []) (None ∷ []) 0 (more v none) refl
      (λ m low high. ap₂ (λ (ts : List ℕ) (u : Tree). place_at w.table ts (None ∷ []) 0 (more u none) m) types value)

  -- its own value is no member
  pub home_plain : home_place w g h 0 ≡ None
  home_plain = go (home_types w g h) (home_value g h)
    where
      go : (ts : List ℕ) (v : Tree) → place_at w.table ts (None ∷ []) 0 (more v none) 0 ≡ None
      go [] v = refl
      go (t ∷ ts) (node l ks) = refl

-- ## The variable of a member's attribute

-- a path without its last step
pub step_off : (p name : List ℕ) → without_step (member_path p name) name ≡ p
step_off p name =
    let all = length-append p (codes "." ++ name) in
    let step : length (codes "." ++ name) ≡ suc (length name) = refl in
    let size : length (member_path p name) - length name - 1 ≡ length p = omega (arith, all, step) in
    ap (λ n. take n (member_path p name)) size ∙ take_front (length p) p (codes "." ++ name) refl

-- by the path of the struct or by that of the member
pub beside_is : (k : ItemKind) (p : List ℕ) (L : Level) (Ls : List Level)
    → place_variable k (path_to p Ls) (level_place L) ≡ member_variable k (path_to p (L ∷ Ls)) (level_place L)
beside_is k p (level.Whole of) Ls = refl
beside_is k p (level.Arm of name) Ls = refl
beside_is k p (level.Elements of offset at size) Ls = refl
beside_is k p (level.Members members at) Ls = go (slice_get members.now at) refl
  where
    fs : List Field
    fs = members.now

    q : List ℕ
    q = path_to p Ls

    go : (o : Option Field) → slice_get members.now at ≡ o
        → place_variable k (path_to p Ls) (Some (members.now, at)) ≡ member_variable k (path_to p (level.Members members at ∷ Ls)) (Some (members.now, at))
    go None e = ap (field_variable k q fs) e ∙ sym (ap (field_variable k (outer_path (path_to p (level.Members members at ∷ Ls)) (Some (members.now, at))) fs) e)
    go (Some x) e =
        ap (λ r. place_variable k r (Some (members.now, at)))
        (sym (ap (λ o. without_step (field_path q o) (field_name o)) e ∙ step_off q x.name))

-- of a member that has the attribute
pub variable_there : (k : ItemKind) (p : List ℕ) (fs : List Field) (i : ℕ) (f : Field) (by : AttrVar) → slice_get fs i ≡ Some f → first_of k f.vars ≡ Some by
    → member_variable k (member_path p f.name) (Some (fs, i)) ≡ numbered_path p fs by.var
variable_there k p fs i f by there first =
    ap (λ o. field_variable k (without_step (member_path p f.name) (field_name o)) fs o) there
    ∙ ap (stated_beside (without_step (member_path p f.name) f.name) fs) first ∙ ap (λ q. numbered_path q fs by.var) (step_off p f.name)
