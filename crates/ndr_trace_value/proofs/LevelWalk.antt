-- A walk from one node to the next.
-- `k` are the octets with the partial graph in which they are refused, `h` is a home, `L` a level, `Ls` are those around it, the innermost first, `w` are
-- the values that are left, `t` is the type of the first, `l` its label, `ks` are its children, `us` the values after it, `inner` is the children's level.
use Rattle.std.proofs.Common.{◌≡◌, inl, ◌∙◌, le_trans, ℕ, ℤ, ◌+◌, ◌<◌, ◌≤◌, zero, suc, List, [], ◌∷◌, ◌++◌, drop, length, reverse, Option, Some, None, refl, sym, ap, ap₂, subst, append_assoc}
use Rattle.std.proofs.Common.{append-nil, arith}
use Rattle.std.proofs.Common.{length-append}
use Rattle.std.specs.Prelude.{IsSome, flat_map}
use Rattle.std.specs.List.{slice_get}
use Rattle.std.proofs.lemmas.Grind.{flat_map-append}
use Rattle.nd_lemmas.proofs.Lists.{get_in_front}
use Rattle.nd_types.specs.declared.types.TypeDef.{TypeDef}
use Rattle.nd_types.specs.declared.types.TypeDef.TheVariants as def
use Rattle.nd_types.specs.Table.{Table, type_at}
use Rattle.nd_value.specs.declared.item.Home.{Home}
use Rattle.nd_value.specs.Deferral.{Placed_cells}
use Rattle.nd_value.specs.Nodes.{child_types}
use Rattle.nd_value.specs.Tree as tree
use Rattle.nd_value.specs.Tree.{Flat, Label, Trees, count, flat, joined, more, node, node_count, none}
use Rattle.nd_flat.proofs.Forests.{flat-joined}
use Rattle.nd_grammar.specs.Entry.{Entry}
use Rattle.text_grammar.specs.Paths.{child_paths, node_paths}
use Rattle.text_printer.specs.Walks.{Begins}
use Rattle.ndr_explain.specs.declared.levels.Level.{Level}
use Rattle.ndr_explain.specs.declared.levels.Levels.{Levels}
use Rattle.ndr_explain.specs.Explained.{home_flats, home_paths, label_in, path_in}
use Rattle.ndr_explain.specs.Cursors.{AreLevelsOf, HasChild, IsChildLevel, IsLevelOf, inner_paths, inner_types, level_paths, level_types, name_text, path_to, paths_after, paths_from, types_after}
use Rattle.ndr_explain.specs.Cursors.{Place, child_places, inner_places, level_place, next_places, places_after, places_from, types_from}
use Rattle.ndr_explain.proofs.LevelPaths.{path_first}
use Rattle.ndr_explain.proofs.LevelPlaces.{inner_length, place_first}
use Rattle.ndr_explain.proofs.Walks.{ComesAfter, after_step, path_here, path_later}
use Rattle.ndr_trace_value.proofs.NextNodes.{after_own}
use Rattle.ndr_trace_value.proofs.Passing.{all_lines, from_all, kept_all, variable_all}
use Rattle.ndr_trace_value.proofs.Placed.{placed_joined}
use Rattle.ndr_trace_value.specs.declared.cells.Cells.{Cells}
use Rattle.ndr_trace_value.specs.declared.cells.Pending.{Pending}
use Rattle.ndr_trace_value.specs.declared.nodes.Walker.{Walker}
use Rattle.ndr_trace_value.specs.declared.progress.Ground.{Ground}
use Rattle.ndr_trace_value.specs.declared.progress.Progress.{Progress}
use Rattle.ndr_trace_value.specs.declared.progress.Spot.{Spot}
use Rattle.ndr_trace_value.specs.Naming.{HasNamed, IsNaming, named_by, names_in, pending_by, pending_in}
use Rattle.ndr_trace_value.specs.Places.{ArePlaced, home_place}
use Rattle.ndr_trace_value.specs.Tracing.{IsEnded, IsFrom, IsGround, IsSpot, IsTracing, KeptFrom, Known}
use Rattle.ndr_trace_value.specs.Walking.{AreOwn, AreThere, ComesTo, GoesOn, HavePaid, IsNode, IsOwn, IsPaid, IsReady, IsSeen, own_due, values_due}

-- ## What a node says stands for its label

leaf_types : (d : Option TypeDef) (c : Option ℕ) (ks : Trees) → child_types d (tree.Ptr c) ks ≡ []
leaf_types None c ks = refl
leaf_types (Some (def.Struct ms)) c ks = refl
leaf_types (Some (def.Array e b v)) c ks = refl
leaf_types (Some (def.Union tag enc arms default)) c ks = refl
leaf_types (Some (def.Pipe e)) c ks = refl
leaf_types (Some _) c ks = refl

num_types : (d : Option TypeDef) (z : ℤ) (ks : Trees) → child_types d (tree.Num z) ks ≡ []
num_types None z ks = refl
num_types (Some (def.Struct ms)) z ks = refl
num_types (Some (def.Array e b v)) z ks = refl
num_types (Some (def.Union tag enc arms default)) z ks = refl
num_types (Some (def.Pipe e)) z ks = refl
num_types (Some _) z ks = refl

text_types : (d : Option TypeDef) (max : ℕ) (os : List ℕ) (ks : Trees) → child_types d (tree.Text max os) ks ≡ []
text_types None max os ks = refl
text_types (Some (def.Struct ms)) max os ks = refl
text_types (Some (def.Array e b v)) max os ks = refl
text_types (Some (def.Union tag enc arms default)) max os ks = refl
text_types (Some (def.Pipe e)) max os ks = refl
text_types (Some _) max os ks = refl

context_types : (d : Option TypeDef) (a : ℕ) (id : List ℕ) (ks : Trees) → child_types d (tree.Context a id) ks ≡ []
context_types None a id ks = refl
context_types (Some (def.Struct ms)) a id ks = refl
context_types (Some (def.Array e b v)) a id ks = refl
context_types (Some (def.Union tag enc arms default)) a id ks = refl
context_types (Some (def.Pipe e)) a id ks = refl
context_types (Some _) a id ks = refl

rec_types : (d : Option TypeDef) (ks js : Trees) → child_types d tree.Rec ks ≡ child_types d tree.Rec js
rec_types None ks js = refl
rec_types (Some (def.Struct ms)) ks js = refl
rec_types (Some (def.Array e b v)) ks js = refl
rec_types (Some (def.Union tag enc arms default)) ks js = refl
rec_types (Some (def.Pipe e)) ks js = refl
rec_types (Some _) ks js = refl

rec_paths : (d : Option TypeDef) (p : List ℕ) (ks js : Trees) → child_paths d tree.Rec p ks ≡ child_paths d tree.Rec p js
rec_paths None p ks js = refl
rec_paths (Some (def.Struct ms)) p ks js = refl
rec_paths (Some (def.Array e b v)) p ks js = refl
rec_paths (Some (def.Union tag enc arms default)) p ks js = refl
rec_paths (Some (def.Pipe e)) p ks js = refl
rec_paths (Some _) p ks js = refl

no_level : (types : List ℕ) (ways : List ℕ → List (List ℕ)) (types1 : List ℕ) (ways1 : List ℕ → List (List ℕ)) (r : Option Level) → types ≡ [] → types1 ≡ []
    → IsLevelOf types ways r → IsLevelOf types1 ways1 r
no_level types ways types1 ways1 None e e1 h = e1
no_level types ways types1 ways1 (Some L) e e1 h = let z = ap length (h.0.1 ∙ e) in let p = h.0.0 in absurd (omega (arith, z, p))

abbrev pub trees_of : ℕ → Trees
trees_of zero = none
trees_of (suc n) = more (node tree.Unread none) (trees_of n)

pub so_many : (n : ℕ) → count (trees_of n) ≡ n
so_many zero = refl
so_many (suc n) = ap suc (so_many n)

same_level : (types types1 : List ℕ) (ways ways1 : List ℕ → List (List ℕ)) (r : Option Level) → types ≡ types1 → ((p : List ℕ) → ways p ≡ ways1 p) → IsLevelOf types ways r
    → IsLevelOf types1 ways1 r
same_level types types1 ways ways1 None e f h = sym e ∙ h
same_level types types1 ways ways1 (Some L) e f h = ((h.0.0, h.0.1 ∙ e), λ p. h.1 p ∙ f p)

-- the level of what a node says is that of its children
pub level_of_seen : (table : Table) (t : ℕ) (l : Label) (ks : Trees) (f : Flat) (r : Option Level) → IsSeen l (count ks) f → IsChildLevel table t f r
    → IsLevelOf (child_types (type_at table t) l ks) (λ p. child_paths (type_at table t) l p ks) r
level_of_seen table t (tree.Num z) ks f r s h =
    no_level _ (λ p. child_paths (type_at table t) (tree.Num z) p none) _ (λ p. child_paths (type_at table t) (tree.Num z) p ks) r (num_types (type_at table t) z none)
    (num_types (type_at table t) z ks) (subst (λ (x : Flat). IsChildLevel table t x r) s h none refl)
level_of_seen table t (tree.Text max os) ks f r s h =
    no_level _ (λ p. child_paths (type_at table t) (tree.Ptr None) p none) _ (λ p. child_paths (type_at table t) (tree.Text max os) p ks) r
    (leaf_types (type_at table t) None none) (text_types (type_at table t) max os ks) (subst (λ (x : Flat). IsChildLevel table t x r) s h none refl)
level_of_seen table t (tree.Ptr c) ks f r s h =
    no_level _ (λ p. child_paths (type_at table t) (tree.Ptr c) p none) _ (λ p. child_paths (type_at table t) (tree.Ptr c) p ks) r (leaf_types (type_at table t) c none)
    (leaf_types (type_at table t) c ks) (subst (λ (x : Flat). IsChildLevel table t x r) s h none refl)
level_of_seen table t (tree.Context a id) ks f r s h =
    no_level _ (λ p. child_paths (type_at table t) (tree.Ptr None) p none) _ (λ p. child_paths (type_at table t) (tree.Context a id) p ks) r
    (leaf_types (type_at table t) None none) (context_types (type_at table t) a id ks) (subst (λ (x : Flat). IsChildLevel table t x r) s h none refl)
level_of_seen table t (tree.Arr max offset) ks f r s h = subst (λ (x : Flat). IsChildLevel table t x r) s h ks refl
level_of_seen table t (tree.Union z) ks f r s h = subst (λ (x : Flat). IsChildLevel table t x r) s h ks refl
level_of_seen table t tree.Rec ks f r s h = go (f.0) (f.1) s (h (trees_of f.1) (so_many f.1))
  where
    go : (m : Label) (n : ℕ) → m ≡ tree.Rec
        → IsLevelOf (child_types (type_at table t) m (trees_of n)) (λ p. child_paths (type_at table t) m p (trees_of n)) r
        → IsLevelOf (child_types (type_at table t) tree.Rec ks) (λ p. child_paths (type_at table t) tree.Rec p ks) r
    go m n e i =
        same_level _ _ (λ p. child_paths (type_at table t) m p (trees_of n)) (λ p. child_paths (type_at table t) tree.Rec p ks) r
        (ap (λ x. child_types (type_at table t) x (trees_of n)) e ∙ rec_types (type_at table t) (trees_of n) ks)
        (λ p. ap (λ x. child_paths (type_at table t) x p (trees_of n)) e ∙ rec_paths (type_at table t) p (trees_of n) ks) i
level_of_seen table t tree.Pipe ks f r s h = absurd s
level_of_seen table t tree.Unread ks f r s h = absurd s

-- the children's level, if there is one, has a child
pub level_has_child : (types : List ℕ) (ways : List ℕ → List (List ℕ)) (i : Option Level) → IsLevelOf types ways i → HasChild i
level_has_child types ways None h = tt
level_has_child types ways (Some L) h = h.0.0

pub inner_types_are : (types : List ℕ) (ways : List ℕ → List (List ℕ)) (i : Option Level) → IsLevelOf types ways i → inner_types i ≡ types
inner_types_are types ways None h = sym h
inner_types_are types ways (Some L) h = h.0.1

-- ## Values one after the other

module _ (k : Known) (max : ℕ) where
  own_joined : (types T : List ℕ) (ks us : Trees) → count ks ≡ length types → AreOwn k max types ks → AreOwn k max T us → AreOwn k max (types ++ T) (joined ks us)
  own_joined [] T none us e a b = b
  own_joined [] T (more v ks) us e a b = cc
  own_joined (t ∷ types) T none us e a b = cc
  own_joined (t ∷ types) T (more (node l js) ks) us e a b = (a.0, a.1, own_joined types T ks us (omega (arith, e)) a.2 b)

pub nodes_joined : (ks us : Trees) → node_count (joined ks us) ≡ node_count ks + node_count us
nodes_joined none us = omega arith
nodes_joined (more (node l js) ks) us = let h = nodes_joined ks us in omega (arith, h)

some_first : (ts : List ℕ) → 0 < length ts → (t : ℕ) × ((T : List ℕ) × (ts ≡ t ∷ T))
some_first [] h = absurd (omega (arith, h))
some_first (t ∷ T) h = (t, (T, refl))

-- the first of values
pub record First (w : Trees) : Type 0 where
  pub label : Label
  pub kids : Trees
  pub others : Trees
  pub is : w ≡ more (node label kids) others

pub first_of : (w : Trees) → 0 < count w → First w
first_of none h = absurd (omega (arith, h))
first_of (more (node l ks) us) h = record { label = l; kids = ks; others = us; is = refl }

-- ## One node

module _ (k : Known) (h : Home) (max : ℕ) (name : List ℕ) (L : Level) (Ls : List Level) (n : ℕ) (l : Label) (ks us : Trees) (t : ℕ)
    (first : level_types L ≡ t ∷ drop 1 (level_types L)) (some : 0 < length (level_types L))
    (there : AreThere k h max (types_from L Ls) (paths_from name L Ls) (places_from L Ls) n (more (node l ks) us)) where
  types_are : types_from L Ls ≡ t ∷ types_after (L ∷ Ls)
  types_are = ap (λ ts. ts ++ types_after Ls) first

  ways_are : paths_from name L Ls ≡ path_to name (L ∷ Ls) ∷ paths_after name (L ∷ Ls)
  ways_are = ap (λ ps. ps ++ paths_after name Ls) (path_first (path_to name Ls) L some)

  placed : ArePlaced (home_place k.setting k.graph h) k.setting.table (t ∷ types_after (L ∷ Ls)) (level_place L ∷ places_after (L ∷ Ls)) n (more (node l ks) us)
  placed =
      subst (λ xs. ArePlaced (home_place k.setting k.graph h) k.setting.table (t ∷ types_after (L ∷ Ls)) xs n (more (node l ks) us))
      (ap (λ xs. xs ++ places_after Ls) (place_first L some))
      (subst (λ ts. ArePlaced (home_place k.setting k.graph h) k.setting.table ts (places_from L Ls) n (more (node l ks) us)) types_are there.placed)

  begins : Begins k.setting.table (t ∷ types_after (L ∷ Ls)) (more (node l ks) us)
  begins = subst (λ ts. Begins k.setting.table ts (more (node l ks) us)) types_are there.begins

  all : count (more (node l ks) us) ≡ length (t ∷ types_after (L ∷ Ls))
  all = there.all ∙ ap length types_are

  own : AreOwn k max (t ∷ types_after (L ∷ Ls)) (more (node l ks) us)
  own = subst (λ ts. AreOwn k max ts (more (node l ks) us)) types_are there.own

  -- it is a node where it is
  pub is_node : (s : Spot) → s.home ≡ h → name_text s.name ≡ name → s.top ≡ L → reverse s.below.now.items ≡ Ls → IsFrom k s.home s.from.now → IsNode k s max t n l ks
  is_node s home named top below from = record {
    spot = record {
      path =
          ap₂ (λ q (M : Level). path_to q (M ∷ reverse s.below.now.items)) named top ∙ ap (λ (Ms : List Level). path_to name (L ∷ Ms)) below
          ∙ sym (there.paths_are n (omega arith) (omega arith)
          ∙ ap₂ (λ ts ps. path_in (node_paths k.setting.table ts ps n (more (node l ks) us)) n) types_are ways_are
          ∙ path_here n (path_to name (L ∷ Ls)) _)
          ∙ ap (λ (j : Home). path_in (home_paths k.setting k.graph j) n) (sym home);
      place = ap level_place top ∙ sym placed.0 ∙ ap (λ (j : Home). home_place k.setting k.graph j n) (sym home);
      from = from;
    };
    label_is =
        ap (λ (j : Home). label_in (home_flats k.graph j) n) home
        ∙ ap (λ (o : Option Flat). elim o [ None ↦ None | Some f ↦ Some f.0 ])
        (ap (slice_get (home_flats k.graph h)) (plus_zero n) ∙ there.flats_are 0 (omega arith));
    own = own.0;
  }
    where
      plus_zero : (m : ℕ) → m ≡ m + 0
      plus_zero m = omega arith

  -- its own entries are due, and then those of what comes after it
  pub due_is : values_due k h (types_from L Ls) n (more (node l ks) us)
      ≡ own_due k h n t l ks ++ values_due k h (child_types (type_at k.setting.table t) l ks ++ types_after (L ∷ Ls)) (n + 1) (joined ks us)
  due_is =
      ap (λ ts. values_due k h ts n (more (node l ks) us)) types_are
      ∙ after_own k.setting.table h t (types_after (L ∷ Ls)) n l ks us begins.0.0

  module _ (f : Flat) (inner : Option Level) (seen : IsSeen l (count ks) f) (level : IsChildLevel k.setting.table t f inner) where
    is_level : IsLevelOf (child_types (type_at k.setting.table t) l ks) (λ q. child_paths (type_at k.setting.table t) l q ks) inner
    is_level = level_of_seen k.setting.table t l ks f inner seen level

    pub has_child : HasChild inner
    has_child = level_has_child _ (λ q. child_paths (type_at k.setting.table t) l q ks) inner is_level

    same_types : inner_types inner ≡ child_types (type_at k.setting.table t) l ks
    same_types = inner_types_are _ (λ q. child_paths (type_at k.setting.table t) l q ks) inner is_level

    comes : ComesAfter k.setting.table (inner_types inner ++ types_after (L ∷ Ls)) (inner_paths (path_to name (L ∷ Ls)) inner ++ paths_after name (L ∷ Ls)) t
        (path_to name (L ∷ Ls)) (types_after (L ∷ Ls)) (paths_after name (L ∷ Ls)) n (more (node l ks) us) (joined ks us)
    comes =
        after_step k.setting.table t (path_to name (L ∷ Ls)) (types_after (L ∷ Ls)) (paths_after name (L ∷ Ls)) n (l, count ks) (more (node l ks) us) (joined ks us) inner
        (ap (λ fs. (l, count ks) ∷ fs) (sym (flat-joined ks us))) (λ js e. level_by js e) begins all
      where
        level_by : (js : Trees) → count js ≡ count ks
            → IsLevelOf (child_types (type_at k.setting.table t) l js) (λ q. child_paths (type_at k.setting.table t) l q js) inner
        level_by js e = level_of_seen k.setting.table t l js f inner (subst (λ c. IsSeen l c f) (sym e) seen) level

    own_after : AreOwn k max (inner_types inner ++ types_after (L ∷ Ls)) (joined ks us)
    own_after =
        subst (λ ts. AreOwn k max (ts ++ types_after (L ∷ Ls)) (joined ks us)) (sym same_types)
        (own_joined k max (child_types (type_at k.setting.table t) l ks) (types_after (L ∷ Ls)) ks us begins.0.0 own.1 own.2)

    placed_after : inner_places inner ≡ child_places (type_at k.setting.table t) (inner_types inner)
        → ArePlaced (home_place k.setting k.graph h) k.setting.table (inner_types inner ++ types_after (L ∷ Ls)) (inner_places inner ++ places_after (L ∷ Ls)) (n + 1)
        (joined ks us)
    placed_after places =
        placed_joined (home_place k.setting k.graph h) k.setting.table (inner_types inner) (types_after (L ∷ Ls)) (inner_places inner) (places_after (L ∷ Ls)) (n + 1) ks us
        (begins.0.0 ∙ sym (ap length same_types)) (inner_length inner)
        (subst (λ xs. ArePlaced (home_place k.setting k.graph h) k.setting.table (inner_types inner) xs (n + 1) ks) (sym places)
        (subst (λ ts. ArePlaced (home_place k.setting k.graph h) k.setting.table ts (child_places (type_at k.setting.table t) ts) (n + 1) ks) (sym same_types) placed.1))
        placed.2

    -- what comes after it is there
    pub there_after : inner_places inner ≡ child_places (type_at k.setting.table t) (inner_types inner)
        → AreThere k h max (inner_types inner ++ types_after (L ∷ Ls)) (inner_paths (path_to name (L ∷ Ls)) inner ++ paths_after name (L ∷ Ls))
        (inner_places inner ++ places_after (L ∷ Ls)) (n + 1) (joined ks us)
    there_after places = record {
      begins = comes.begins;
      all = comes.all;
      own = own_after;
      paths_are = λ m a b.
          let c : node_count (joined ks us) ≡ node_count ks + node_count us = nodes_joined ks us in
          there.paths_are m (omega (arith, a)) (omega (arith, b, c))
          ∙ ap₂ (λ ts ps. path_in (node_paths k.setting.table ts ps n (more (node l ks) us)) m) types_are ways_are
          ∙ ap (λ xs. path_in xs m) comes.nodes
          ∙ path_later n m (path_to name (L ∷ Ls)) _ (omega (arith, a));
      placed = placed_after places;
      flats_are = λ i a.
          let c : node_count (joined ks us) ≡ node_count ks + node_count us = nodes_joined ks us in
          ap (slice_get (home_flats k.graph h)) (one_more n i) ∙ there.flats_are (suc i) (omega (arith, a, c))
          ∙ ap (λ fs. slice_get fs i) (sym (flat-joined ks us));
    }
      where
        one_more : (m i : ℕ) → m + 1 + i ≡ m + suc i
        one_more m i = omega arith

-- ## Steps

no_values : (k : Known) (h : Home) (n : ℕ) (w : Trees) → values_due k h [] n w ≡ []
no_values k h n none = refl
no_values k h n (more v w) = refl

pub names_append : (xs ys : List Entry) → names_in (xs ++ ys) ≡ names_in xs ++ names_in ys
names_append xs ys = flat_map-append (λ (m : Entry). named_by m.kind) xs ys

pending_append : (k : Known) (xs ys : List Entry) → pending_in k (xs ++ ys) ≡ pending_in k xs ++ pending_in k ys
pending_append k xs ys = flat_map-append (λ (m : Entry). pending_by k m.home m.node m.kind) xs ys

-- what visiting a node comes to
abbrev pub Visits : Known → Spot → ℕ → ℕ → ℕ → Walker → Walker → Flat → Type 0
Visits k s max t n before after f =
    (l : Label) (ks : Trees) → IsNode k s max t n l ks → (rest : List Entry) → IsTracing k before.progress (own_due k s.home n t l ks ++ rest)
    → (names : Placed_cells) → IsNaming k before.cells (names_in (own_due k s.home n t l ks) ++ names)
    → IsSeen l (count ks) f × (IsTracing k after.progress rest × HasNamed k before.cells after.cells (own_due k s.home n t l ks) names)

module _ (k : Known) (s : Spot) (max : ℕ) (L : Level) (Ls : List Level) (n : ℕ) (t : ℕ) (first : level_types L ≡ t ∷ drop 1 (level_types L))
    (some : 0 < length (level_types L)) (rest : List Entry) (names : Placed_cells) (before after : Walker) (f : Flat)
    (visits : Visits k s max t n before after f) (top : s.top ≡ L) (below : reverse s.below.now.items ≡ Ls) (from : IsFrom k s.home s.from.now)
    (inner : Option Level) (level : IsChildLevel k.setting.table t f inner)
    (places : inner_places inner ≡ child_places (type_at k.setting.table t) (inner_types inner)) (r : Option Levels)
    (next : HasChild inner → AreLevelsOf (inner_types inner ++ types_after (L ∷ Ls)) (λ q. inner_paths (path_to q (L ∷ Ls)) inner ++ paths_after q (L ∷ Ls)) r)
    (next_is : next_places r ≡ inner_places inner ++ places_after (L ∷ Ls)) where
  after_node_is : (l : Label) (ks us : Trees) → AreThere k s.home max (types_from L Ls) (paths_from (name_text s.name) L Ls) (places_from L Ls) n (more (node l ks) us)
      → IsTracing k before.progress (values_due k s.home (types_from L Ls) n (more (node l ks) us) ++ rest)
      → IsNaming k before.cells (names_in (values_due k s.home (types_from L Ls) n (more (node l ks) us)) ++ names)
      → ComesTo k s.home max (name_text s.name) (values_due k s.home (types_from L Ls) n (more (node l ks) us)) rest names before after r
  after_node_is l ks us there tr nm = by_levels r next_is (next (has_child k s.home max (name_text s.name) L Ls n l ks us t first some there f inner visited.0 level))
    where
      due_first : values_due k s.home (types_from L Ls) n (more (node l ks) us)
          ≡ own_due k s.home n t l ks ++ values_due k s.home (child_types (type_at k.setting.table t) l ks ++ types_after (L ∷ Ls)) (n + 1) (joined ks us)
      due_first = due_is k s.home max (name_text s.name) L Ls n l ks us t first some there

      visited : IsSeen l (count ks) f
          × (IsTracing k after.progress (values_due k s.home (child_types (type_at k.setting.table t) l ks ++ types_after (L ∷ Ls)) (n + 1) (joined ks us) ++ rest)
          × HasNamed k before.cells after.cells (own_due k s.home n t l ks)
          (names_in (values_due k s.home (child_types (type_at k.setting.table t) l ks ++ types_after (L ∷ Ls)) (n + 1) (joined ks us)) ++ names))
      visited =
          visits l ks (is_node k s.home max (name_text s.name) L Ls n l ks us t first some there s refl refl top below from)
          (values_due k s.home (child_types (type_at k.setting.table t) l ks ++ types_after (L ∷ Ls)) (n + 1) (joined ks us) ++ rest)
          (subst (IsTracing k before.progress) (ap (λ xs. xs ++ rest) due_first ∙ append_assoc (own_due k s.home n t l ks) _ rest) tr)
          (names_in (values_due k s.home (child_types (type_at k.setting.table t) l ks ++ types_after (L ∷ Ls)) (n + 1) (joined ks us)) ++ names)
          (subst (IsNaming k before.cells)
          (ap (λ xs. names_in xs ++ names) due_first ∙ ap (λ xs. xs ++ names) (names_append (own_due k s.home n t l ks) _)
          ∙ append_assoc (names_in (own_due k s.home n t l ks)) _ names) nm)

      same : child_types (type_at k.setting.table t) l ks ++ types_after (L ∷ Ls) ≡ inner_types inner ++ types_after (L ∷ Ls)
      same = ap (λ ts. ts ++ types_after (L ∷ Ls)) (sym (same_types k s.home max (name_text s.name) L Ls n l ks us t first some there f inner visited.0 level))

      by_levels : (r : Option Levels) → next_places r ≡ inner_places inner ++ places_after (L ∷ Ls)
          → AreLevelsOf (inner_types inner ++ types_after (L ∷ Ls)) (λ q. inner_paths (path_to q (L ∷ Ls)) inner ++ paths_after q (L ∷ Ls)) r
          → ComesTo k s.home max (name_text s.name) (values_due k s.home (types_from L Ls) n (more (node l ks) us)) rest names before after r
      by_levels None is e =
          let nothing : values_due k s.home (child_types (type_at k.setting.table t) l ks ++ types_after (L ∷ Ls)) (n + 1) (joined ks us) ≡ [] =
          ap (λ ts. values_due k s.home ts (n + 1) (joined ks us)) (same ∙ e) ∙ no_values k s.home (n + 1) (joined ks us) in
          let all : values_due k s.home (types_from L Ls) n (more (node l ks) us) ≡ own_due k s.home n t l ks =
          due_first ∙ ap (λ xs. own_due k s.home n t l ks ++ xs) nothing ∙ append-nil (own_due k s.home n t l ks) in (
            subst (λ xs. IsTracing k after.progress (xs ++ rest)) nothing visited.1.0,
            subst (λ xs. HasNamed k before.cells after.cells xs names) (sym all)
                (subst (λ xs. HasNamed k before.cells after.cells (own_due k s.home n t l ks) (names_in xs ++ names)) nothing visited.1.1),
          )
      by_levels (Some m) is e =
          let types : child_types (type_at k.setting.table t) l ks ++ types_after (L ∷ Ls) ≡ types_from m.top (reverse m.below.items) = same ∙ sym e.0.1 in
          record {
            some = e.0.0;
            node = n + 1;
            left = joined ks us;
            there =
                subst (λ xs. AreThere k s.home max (types_from m.top (reverse m.below.items)) (paths_from (name_text s.name) m.top (reverse m.below.items)) xs (n + 1) (joined ks us))
                (sym is)
                (subst (λ ts. AreThere k s.home max ts (paths_from (name_text s.name) m.top (reverse m.below.items)) (inner_places inner ++ places_after (L ∷ Ls)) (n + 1) (joined ks us))
                (sym e.0.1)
                (subst (λ ps. AreThere k s.home max (inner_types inner ++ types_after (L ∷ Ls)) ps (inner_places inner ++ places_after (L ∷ Ls)) (n + 1) (joined ks us))
                (sym (e.1 (name_text s.name)))
                (there_after k s.home max (name_text s.name) L Ls n l ks us t first some there f inner visited.0 level places)));
            passed = own_due k s.home n t l ks;
            split = due_first ∙ ap (λ ts. own_due k s.home n t l ks ++ values_due k s.home ts (n + 1) (joined ks us)) types;
            tracing = subst (λ ts. IsTracing k after.progress (values_due k s.home ts (n + 1) (joined ks us) ++ rest)) types visited.1.0;
            named =
                subst (λ ts. HasNamed k before.cells after.cells (own_due k s.home n t l ks) (names_in (values_due k s.home ts (n + 1) (joined ks us)) ++ names)) types
                visited.1.1;
          }

  -- the walk goes on from the node after one
  pub node_passed : (left : Trees) → AreThere k s.home max (types_from L Ls) (paths_from (name_text s.name) L Ls) (places_from L Ls) n left
      → IsTracing k before.progress (values_due k s.home (types_from L Ls) n left ++ rest) → IsNaming k before.cells (names_in (values_due k s.home (types_from L Ls) n left) ++ names)
      → ComesTo k s.home max (name_text s.name) (values_due k s.home (types_from L Ls) n left) rest names before after r
  node_passed left there tr nm =
      let positive : 0 < count left =
      (let a = there.all in let b = length-append (level_types L) (types_after Ls) in omega (arith, a, b, some)) in
      let w = first_of left positive in
      subst (λ v. ComesTo k s.home max (name_text s.name) (values_due k s.home (types_from L Ls) n v) rest names before after r) (sym w.is)
      (after_node_is w.label w.kids w.others (subst (AreThere k s.home max (types_from L Ls) (paths_from (name_text s.name) L Ls) (places_from L Ls) n) w.is there)
      (subst (λ v. IsTracing k before.progress (values_due k s.home (types_from L Ls) n v ++ rest)) w.is tr)
      (subst (λ v. IsNaming k before.cells (names_in (values_due k s.home (types_from L Ls) n v) ++ names)) w.is nm))

-- ## Turns

-- no entry is passed yet
pub begins_walk : (k : Known) (h : Home) (max : ℕ) (name : List ℕ) (types : List ℕ) (ways : List (List ℕ)) (places : List Place) (s : Levels)
    → types ≡ types_from s.top (reverse s.below.items) → ways ≡ paths_from name s.top (reverse s.below.items) → places ≡ places_from s.top (reverse s.below.items)
    → 0 < length (level_types s.top) → (n : ℕ) (left : Trees) → AreThere k h max types ways places n left
    → (rest : List Entry) (names : Placed_cells) (u : Walker) → IsTracing k u.progress (values_due k h types n left ++ rest)
    → IsNaming k u.cells (names_in (values_due k h types n left) ++ names) → GoesOn k h max name (values_due k h types n left) rest names u u s
begins_walk k h max name types ways places s same same_ways same_places some n left there rest names u tr nm = record {
  some = some;
  node = n;
  left = left;
  there =
      subst (λ xs. AreThere k h max (types_from s.top (reverse s.below.items)) (paths_from name s.top (reverse s.below.items)) xs n left) same_places
      (subst (λ ts. AreThere k h max ts (paths_from name s.top (reverse s.below.items)) places n left) same
      (subst (λ ps. AreThere k h max types ps places n left) same_ways there));
  passed = [];
  split = ap (λ ts. values_due k h ts n left) same;
  tracing = subst (λ ts. IsTracing k u.progress (values_due k h ts n left ++ rest)) same tr;
  named = record {
    naming = subst (λ ts. IsNaming k u.cells (names_in (values_due k h ts n left) ++ names)) same nm;
    pending = sym (append-nil u.cells.pending.items);
    stands = refl;
  };
}

named_on : (k : Known) (a b c : Cells) (xs ys : List Entry) (before names : Placed_cells) → HasNamed k a b xs before → HasNamed k b c ys names → HasNamed k a c (xs ++ ys) names
named_on k a b c xs ys before names g h = record {
  naming = h.naming;
  pending =
      h.pending ∙ ap (λ ps. ps ++ pending_in k ys) g.pending ∙ append_assoc a.pending.items (pending_in k xs) (pending_in k ys)
      ∙ ap (λ ps. a.pending.items ++ ps) (sym (pending_append k xs ys));
  stands = h.stands ∙ g.stands;
}

-- one node more
pub one_turn : (k : Known) (h : Home) (max : ℕ) (name : List ℕ) (due rest : List Entry) (names : Placed_cells) (start mid after : Walker) (s : Levels)
    → (g : GoesOn k h max name due rest names start mid s) → (r : Option Levels)
    → ComesTo k h max name (values_due k h (types_from s.top (reverse s.below.items)) g.node g.left) rest names mid after r → ComesTo k h max name due rest names start after r
one_turn k h max name due rest names start mid after s g None c = (
  c.0,
  subst (λ xs. HasNamed k start.cells after.cells xs names) (sym g.split) (named_on k start.cells mid.cells after.cells g.passed _ _ names g.named c.1),
)
one_turn k h max name due rest names start mid after s g (Some m) c = record {
  some = c.some;
  node = c.node;
  left = c.left;
  there = c.there;
  passed = g.passed ++ c.passed;
  split = g.split ∙ ap (λ xs. g.passed ++ xs) c.split ∙ sym (append_assoc g.passed c.passed _);
  tracing = c.tracing;
  named = named_on k start.cells mid.cells after.cells g.passed c.passed _ _ g.named c.named;
}

pub paid_on : (a b c : Walker) → IsPaid a b → IsPaid b c → IsPaid a c
paid_on a b c g h = (le_trans g.0 h.0, (let g1 = g.1 in let h1 = h.1 in omega (arith, g1, h1)))

-- ## Around a node

pub ready_after : (k : Known) (u : Ground) → IsGround k u → (p p1 : Progress) → p1 ≡ p → (IsSome u.sought → p.next < length u.items.now.items) → IsReady k p1
ready_after k u g p p1 e f t = subst (λ (q : Progress). q.next < length k.log) (sym e) (subst (λ xs. p.next < length xs) g.items (f (g.seeks t)))

pub ended_there : (k : Known) (u : Ground) → IsGround k u → (p p1 : Progress) (ms : List Entry) → p1 ≡ p → IsTracing k p ms
    → IsSome u.sought × (length u.items.now.items ≤ p.next) → IsEnded k p1
ended_there k u g p p1 ms e t over = record {
  lines = ap (λ (q : Progress). q.lines) e ∙ all_lines k p.next p.lines (subst (λ xs. length xs ≤ p.next) g.items over.1) t.lines;
  path = inl (g.sought over.0, ap (λ (q : Progress). q.path) e ∙ kept_all k p ms t (subst (λ xs. length xs ≤ p.next) g.items over.1));
  variable = ap (λ (q : Progress). q.variable) e ∙ variable_all k p ms t (subst (λ xs. length xs ≤ p.next) g.items over.1);
  from =
      subst (KeptFrom k (length k.log)) (ap (λ (q : Progress). q.from) (sym e)) (from_all k p ms t (subst (λ xs. length xs ≤ p.next) g.items over.1));
}

pub named_around : (k : Known) (a a1 a2 a3 : Cells) (due : List Entry) (names : Placed_cells) → a1 ≡ a → a3 ≡ a2 → HasNamed k a1 a2 due names → HasNamed k a a3 due names
named_around k a a1 a2 a3 due names e f g = subst (λ x. HasNamed k x a3 due names) e (subst (λ x. HasNamed k a1 x due names) (sym f) g)

pub paid_around : (p p1 p2 p3 : Progress) (a a1 a2 a3 : Cells) → p1 ≡ p → a1 ≡ a → p3 ≡ p2 → a3 ≡ a2 → HavePaid p1 a1 p2 a2 → HavePaid p a p3 a3
paid_around p p1 p2 p3 a a1 a2 a3 e e1 f f1 g =
    let e0 = ap (λ (x : Progress). x.next) e in
    let c0 = ap (λ (x : Cells). length x.pending.items) e1 in
    let f0 = ap (λ (x : Progress). x.next) f in
    let d0 = ap (λ (x : Cells). length x.pending.items) f1 in
    let g0 = g.0 in
    let g1 = g.1 in
    (omega (arith, e0, f0, g0), omega (arith, e0, c0, f0, d0, g0, g1))

-- what is done around a node's own items changes neither how far the walk came nor the cells
pub visits_around : (k : Known) (u : Ground) → IsGround k u → (s : Spot) (max t n : ℕ) (before mid after : Walker) (p2 : Progress) (a2 : Cells) (f : Flat)
    → (mid.progress ≡ before.progress) × (mid.cells ≡ before.cells) → (IsSome u.sought → before.progress.next < length u.items.now.items)
    → ((l : Label) (ks : Trees) → IsNode k s max t n l ks → IsReady k mid.progress → (rest : List Entry) → IsTracing k mid.progress (own_due k s.home n t l ks ++ rest)
    → (names : Placed_cells) → IsNaming k mid.cells (names_in (own_due k s.home n t l ks) ++ names)
    → IsSeen l (count ks) f × (IsTracing k p2 rest × HasNamed k mid.cells a2 (own_due k s.home n t l ks) names))
    → (after.progress ≡ p2) × (after.cells ≡ a2) → Visits k s max t n before after f
visits_around k u ground s max t n before mid after p2 a2 f same ready own later l ks it rest tr names nm =
    let due = own_due k s.home n t l ks in
    let r =
    own l ks it (ready_after k u ground before.progress mid.progress same.0 ready) rest (subst (λ p. IsTracing k p (due ++ rest)) (sym same.0) tr) names
    (subst (λ a. IsNaming k a (names_in due ++ names)) (sym same.1) nm) in
    (r.0, (subst (λ p. IsTracing k p rest) (sym later.0) r.1.0, named_around k before.cells mid.cells a2 after.cells due names same.1 later.1 r.1.1))

-- the walk ends at a node
pub node_stopped : {E : Type 0} (k : Known) (s : Spot) (max : ℕ) (L : Level) (Ls : List Level) (n t : ℕ) → level_types L ≡ t ∷ drop 1 (level_types L) → 0 < length (level_types L)
    → (rest : List Entry) (names : Placed_cells) (before : Walker)
    → ((l : Label) (ks : Trees) → IsNode k s max t n l ks → (later : List Entry) → IsTracing k before.progress (own_due k s.home n t l ks ++ later)
    → (more_names : Placed_cells) → IsNaming k before.cells (names_in (own_due k s.home n t l ks) ++ more_names) → E)
    → s.top ≡ L → reverse s.below.now.items ≡ Ls → IsFrom k s.home s.from.now → (left : Trees)
    → AreThere k s.home max (types_from L Ls) (paths_from (name_text s.name) L Ls) (places_from L Ls) n left
    → IsTracing k before.progress (values_due k s.home (types_from L Ls) n left ++ rest) → IsNaming k before.cells (names_in (values_due k s.home (types_from L Ls) n left) ++ names) → E
node_stopped {E = E} k s max L Ls n t first some rest names before ends top below from left there tr nm =
    let positive : 0 < count left =
    (let a = there.all in let b = length-append (level_types L) (types_after Ls) in omega (arith, a, b, some)) in
    let w = first_of left positive in
    go w.label w.kids w.others (subst (AreThere k s.home max (types_from L Ls) (paths_from (name_text s.name) L Ls) (places_from L Ls) n) w.is there)
    (subst (λ v. IsTracing k before.progress (values_due k s.home (types_from L Ls) n v ++ rest)) w.is tr)
    (subst (λ v. IsNaming k before.cells (names_in (values_due k s.home (types_from L Ls) n v) ++ names)) w.is nm)
  where
    go : (l : Label) (ks us : Trees) → AreThere k s.home max (types_from L Ls) (paths_from (name_text s.name) L Ls) (places_from L Ls) n (more (node l ks) us)
        → IsTracing k before.progress (values_due k s.home (types_from L Ls) n (more (node l ks) us) ++ rest)
        → IsNaming k before.cells (names_in (values_due k s.home (types_from L Ls) n (more (node l ks) us)) ++ names) → E
    go l ks us here tr1 nm1 =
        let due = due_is k s.home max (name_text s.name) L Ls n l ks us t first some here in
        let later = values_due k s.home (child_types (type_at k.setting.table t) l ks ++ types_after (L ∷ Ls)) (n + 1) (joined ks us) in
        ends l ks (is_node k s.home max (name_text s.name) L Ls n l ks us t first some here s refl refl top below from) (later ++ rest)
        (subst (IsTracing k before.progress) (ap (λ xs. xs ++ rest) due ∙ append_assoc (own_due k s.home n t l ks) later rest) tr1) (names_in later ++ names)
        (subst (IsNaming k before.cells)
        (ap (λ xs. names_in xs ++ names) due ∙ ap (λ xs. xs ++ names) (names_append (own_due k s.home n t l ks) later)
        ∙ append_assoc (names_in (own_due k s.home n t l ks)) (names_in later) names) nm1)
