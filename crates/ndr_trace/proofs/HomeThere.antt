-- The value of a home at which a walk begins.
-- `k` are the octets with the partial graph in which they are refused, `h` is a home, `t` a type's number, `l` a label, `ks` are its children, `ts`
-- values of some types, `m` is the maximum count in front.
use Rattle.std.proofs.Common.{◌≡◌, ◌⊎◌, inl, inr, ◌∙◌, ℕ, zero, suc, ◌+◌, ◌<◌, ◌≤◌, Bool, true, false, List, [], ◌∷◌, ◌++◌, length, Option, Some, None, refl, sym, ap, ap₂, subst, arith}
use Rattle.std.specs.List.{list_all, slice_get}
use Rattle.std.proofs.lemmas.Bool.{and_parts}
use Rattle.nd_types.specs.declared.types.Field.{Field}
use Rattle.nd_types.specs.declared.types.TypeDef.{TypeDef}
use Rattle.nd_types.specs.declared.types.TypeDef.TheVariants as def
use Rattle.nd_types.specs.Layout.{hoists}
use Rattle.nd_types.specs.Table.{Table, type_at}
use Rattle.nd_value.specs.declared.item.Home.{Home}
use Rattle.nd_value.specs.Agreement.{Agreement}
use Rattle.nd_value.specs.Misfit.{is_partial_node}
use Rattle.nd_value.specs.Nodes.{TypedNode, child_agreements, child_types, first_agreements, nodes_of, rest_agreements}
use Rattle.nd_value.specs.Tree as tree
use Rattle.nd_value.specs.Tree.{Label, Tree, Trees, count, flat, more, node, node_count, none}
use Rattle.nd_grammar.specs.Entry.{hoisted_max, own_max}
use Rattle.nd_grammar.proofs.LegalSides.{laid_out}
use Rattle.nd_grammar.proofs.next.HoistedMaxes.{HoistsLast, OnlyLast, children, last_of}
use Rattle.text_grammar.specs.Paths.{child_paths, home_name, home_types, home_value, node_paths}
use Rattle.text_printer.proofs.Sound.{all_parts}
use Rattle.text_printer.specs.Walks.{Begins}
use Rattle.ndr_explain.specs.Cursors.{name_text}
use Rattle.ndr_explain.specs.Explained.{home_flats, home_paths, path_in}
use Rattle.ndr_explain.specs.declared.names.HomeName.{HomeName}
use Rattle.ndr_explain.proofs.Walks.{path_here, path_later}
use Rattle.ndr_trace.specs.Homes.{HasHome, IsFront, home_max}
use Rattle.ndr_trace_value.specs.Tracing.{IsSpot, Known}
use Rattle.ndr_trace_value.specs.Walking.{AreOwn, AreThere, IsOwn}
use Rattle.ndr_trace_value.proofs.Partial.{partial_begins}
use Rattle.ndr_trace_value.proofs.Placed.{home_placed}

-- ## Maximum counts

-- a value's own maximum count, if that of what ends it is known
own_known : (l : Label) (inner m : ℕ) → own_max l inner ≡ m → own_max l m ≡ m
own_known (tree.Arr max offset) inner m e = e
own_known (tree.Text max octets) inner m e = e
own_known _ inner m e = refl

of_record : (l : Label) (inner m : ℕ) → l ≡ tree.Rec → own_max l inner ≡ m → inner ≡ m
of_record l inner m is e = sym (ap (λ u. own_max u inner) is) ∙ e

module _ (k : Known) (m : ℕ) (laid : HoistsLast k.setting.table) where
  abbrev H : ℕ → Bool
  H = hoists k.setting.table

  -- of the first value, where it hoists: then it is the last
  its_max : (t : ℕ) (types : List ℕ) (l : Label) (ks ts : Trees) → OnlyLast (hoists k.setting.table) (t ∷ types) → count ts ≡ length types
      → (last_of (hoists k.setting.table) (t ∷ types) ≡ true → hoisted_max 0 (more (node l ks) ts) ≡ m) → hoists k.setting.table t ≡ true → own_max l (hoisted_max 0 ks) ≡ m
  its_max t [] l ks none o c f e = f e
  its_max t [] l ks (more v ts) o c f e = cc
  its_max t (u ∷ types) l ks ts o c f e = let n : hoists k.setting.table t ≡ false = o.0 in cc

  -- of the others
  others_max : (t : ℕ) (types : List ℕ) (l : Label) (ks ts : Trees) → count ts ≡ length types
      → (last_of (hoists k.setting.table) (t ∷ types) ≡ true → hoisted_max 0 (more (node l ks) ts) ≡ m) → last_of (hoists k.setting.table) types ≡ true → hoisted_max 0 ts ≡ m
  others_max t [] l ks ts c f e = cc
  others_max t (u ∷ types) l ks none c f e = cc
  others_max t (u ∷ types) l ks (more (node i js) ts) c f e = f e

  fewer : (t : ℕ) (types : List ℕ) → OnlyLast (hoists k.setting.table) (t ∷ types) → OnlyLast (hoists k.setting.table) types
  fewer t [] o = tt
  fewer t (u ∷ types) o = o.1

  -- values of which the last alone may hoist, and then this maximum count
  pub are_own : (types : List ℕ) (ags : List (List Agreement)) (n : ℕ) (ts : Trees) → OnlyLast (hoists k.setting.table) types → count ts ≡ length types → Begins k.setting.table types ts
      → (last_of (hoists k.setting.table) types ≡ true → hoisted_max 0 ts ≡ m) → list_all (is_partial_node k.setting.table k.graph) (nodes_of k.setting.table types ags n ts) ≡ true
      → AreOwn k m types ts
  are_own types ags n none o c b f p = tt
  are_own [] ags n (more v ts) o c b f p = tt
  are_own (t ∷ types) ags n (more (node l ks) ts) o c b f p =
      let d = type_at k.setting.table t in
      let inner = nodes_of k.setting.table (child_types d l ks) (child_agreements d ks) (n + 1) ks in
      let outer = nodes_of k.setting.table types (rest_agreements ags) (n + 1 + node_count ks) ts in
      let own : TypedNode = record { node = n; of = t; agreements = first_agreements ags; label = l; kids = ks } in
      let (first, later) = and_parts (is_partial_node k.setting.table k.graph own) (list_all (is_partial_node k.setting.table k.graph) (inner ++ outer)) p in
      let parts = all_parts (is_partial_node k.setting.table k.graph) inner outer later in
      let c' : count ts ≡ length types = omega (arith, c) in
      let mine = its_max t types l ks ts o c' f in
      let kids = children k.setting.table laid t d l ks refl in (
        record { partial = first; max_is = λ e. own_known l (hoisted_max 0 ks) m (mine e) },
        are_own (child_types d l ks) (child_agreements d ks) (n + 1) ks kids.0 b.0.0 b.0.1 (λ e. (let r = kids.1 e in of_record l (hoisted_max 0 ks) m r.1 (mine r.0))) parts.0,
        are_own types (rest_agreements ags) (n + 1 + node_count ks) ts (fewer t types o) c' b.1 (others_max t types l ks ts c' f) parts.1,
      )

-- ## A home's value

one_more : {X : Type 0} (xs : List X) (i : ℕ) → slice_get xs (0 + i) ≡ slice_get xs i
one_more xs i = ap (slice_get xs) (omega arith)

-- the path of a home's value is its name
pub path_of_home : (k : Known) (h : Home) → path_in (home_paths k.setting k.graph h) 0 ≡ home_name k.setting h
path_of_home k h =
    path_here 0 (home_name k.setting h)
    (node_paths k.setting.table (home_types k.setting k.graph h) (home_name k.setting h ∷ []) 0 (more (home_value k.graph h) none))

-- the value of a home is there, at its first node
pub home_there : (k : Known) (h : Home) (name : HomeName) (t m : ℕ) → HasHome k h name t → IsFront k h t m
    → AreThere k h m (t ∷ []) (name_text name ∷ []) (None ∷ []) 0 (more (home_value k.graph h) none)
home_there k h name t m a front = go (home_value k.graph h) refl
  where
    go : (v : Tree) → home_value k.graph h ≡ v → AreThere k h m (t ∷ []) (name_text name ∷ []) (None ∷ []) 0 (more v none)
    go (node l ks) e =
        let v : Trees = more (node l ks) none in
        let partial : list_all (is_partial_node k.setting.table k.graph) (nodes_of k.setting.table (t ∷ []) [] 0 (more (node l ks) none)) ≡ true =
        subst (λ u. list_all (is_partial_node k.setting.table k.graph) (nodes_of k.setting.table (t ∷ []) [] 0 (more u none)) ≡ true) e a.partial in
        let begins : Begins k.setting.table (t ∷ []) (more (node l ks) none) = partial_begins k.setting.table k.graph (t ∷ []) [] 0 (more (node l ks) none) partial refl in
        let nodes = node_paths k.setting.table (t ∷ []) (home_name k.setting h ∷ []) 0 (more (node l ks) none) in
        let paths : home_paths k.setting k.graph h ≡ (0, home_name k.setting h) ∷ nodes =
        ap₂ (λ ts u. (0, home_name k.setting h) ∷ node_paths k.setting.table ts (home_name k.setting h ∷ []) 0 (more u none)) a.types e in
        record {
          begins = begins;
          all = refl;
          own =
              are_own k m (laid_out k.setting a.legal).hoisting (t ∷ []) [] 0 (more (node l ks) none) tt refl begins
              (λ f. ap (λ u. hoisted_max 0 (more u none)) (sym e) ∙ sym (front f)) partial;
          paths_are = λ n low high.
              ap (λ xs. path_in xs n) paths ∙ first_or_later n nodes refl ∙ ap (λ p. path_in (node_paths k.setting.table (t ∷ []) (p ∷ []) 0 (more (node l ks) none)) n) (sym a.name_is);
          placed = home_placed k.setting k.graph h t (node l ks) a.types e;
          flats_are = λ i low. one_more (home_flats k.graph h) i ∙ ap (λ u. slice_get (flat (more u none)) i) e;
        }
      where
        first_or_later : (n : ℕ) (nodes : List (ℕ × List ℕ)) → nodes ≡ node_paths k.setting.table (t ∷ []) (home_name k.setting h ∷ []) 0 (more (node l ks) none)
            → path_in ((0, home_name k.setting h) ∷ nodes) n ≡ path_in nodes n
        first_or_later zero nodes is =
            path_here 0 (home_name k.setting h) nodes
            ∙ sym (ap (λ xs. path_in xs 0) is
            ∙ path_here 0 (home_name k.setting h) (node_paths k.setting.table (child_types (type_at k.setting.table t) l ks)
            (child_paths (type_at k.setting.table t) l (home_name k.setting h) ks) (0 + 1) ks
            ++ node_paths k.setting.table [] [] (0 + 1 + node_count ks) none))
        first_or_later (suc n) nodes is = path_later 0 (suc n) (home_name k.setting h) nodes (omega arith)
