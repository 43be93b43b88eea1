-- The entries before an entry fix the next one, over whole values.
use Rattle.std.proofs.Common.{◌≡◌, ℕ, Bool, true, false, List, [], ◌∷◌, ◌++◌, Option, Some, None, refl, ap, sym, ◌∙◌, inl, inr, ◌⊎◌, subst}
use Rattle.nd_types.specs.declared.types.TypeDef.{TypeDef}
use Rattle.nd_types.specs.declared.types.TypeDef.TheVariants as def
use Rattle.nd_types.specs.Table.{Table, type_at}
use Rattle.nd_types.specs.Layout.{hoists}
use Rattle.nd_value.specs.declared.value.Graph.{Graph}
use Rattle.nd_value.specs.declared.item.Home.{Home}
use Rattle.nd_value.specs.Tree as tree
use Rattle.nd_value.specs.Tree.{Tree, Trees, node, none, more, Label}
use Rattle.nd_value.specs.Nodes.{child_types, child_agreements}
use Rattle.nd_grammar.specs.Entry.{Entry, Align, Max, Unread, before_children, entries, in_place, child_tests, hoisted, hoisted_max, whole_value}
use Rattle.nd_grammar.proofs.next.Next.{Pair, HomesMeet, Readings, Next, unread_left, unread_right}
use Rattle.nd_grammar.proofs.next.Matching.{CellsMatch, Matched, Known, Maxes}
use Rattle.nd_grammar.proofs.next.NextInPlace.{in_place_next}

unread_or : (l : Label) → (l ≡ tree.Unread) ⊎ ((m : ℕ) → hoisted true l m ≡ Align 4 ∷ Max m ∷ [])
unread_or tree.Unread = inl refl
unread_or (tree.Num z) = inr (λ m. refl)
unread_or _ = inr (λ m. refl)

pub before_unread : (table : Table) (t : ℕ) (d : Option TypeDef) (ks : Trees) → before_children table t d tree.Unread ks ≡ Unread ∷ []
before_unread table t None ks = refl
before_unread table t (Some (def.Prim p)) ks = refl
before_unread table t (Some _) ks = refl

abbrev pub unread_entry : Home → Entry
unread_entry h = record { home = h; node = 0; kind = Unread }

abbrev UnreadFirst : Table → Home → ℕ → ℕ → Trees → Label → Type 0
UnreadFirst table h t m ks l =
    (rest : List Entry) × (entries h 0 (hoisted true l m) ++ in_place table h (t ∷ []) 0 (more (node l ks) none) ≡ unread_entry h ∷ rest)

unread_first : (table : Table) (h : Home) (t m : ℕ) (ks : Trees) (l : Label) → l ≡ tree.Unread → UnreadFirst table h t m ks l
unread_first table h t m ks l e =
    let R : List Entry = in_place table h (child_types (type_at table t) tree.Unread ks) 1 ks
    ++ (child_tests h (child_agreements (type_at table t) ks) 1 ks ++ []) in
    let F : UnreadFirst table h t m ks tree.Unread = (R, ap (λ bs. entries h 0 bs ++ R) (before_unread table t (type_at table t) ks)) in
    subst (λ k. UnreadFirst table h t m ks k) (sym e) F

-- a value that is not read stands as one unread entry
pub unread_whole : (table : Table) (h : Home) (t : ℕ) (l : Label) (ks : Trees) → l ≡ tree.Unread
    → (rest : List Entry) × (whole_value table h t (node l ks) ≡ unread_entry h ∷ rest)
unread_whole table h t l ks e = by_hoists (hoists table t)
  where
    by_hoists : (b : Bool)
        → (rest : List Entry) × (entries h 0 (hoisted b l (hoisted_max 0 (more (node l ks) none))) ++ in_place table h (t ∷ []) 0 (more (node l ks) none)
        ≡ unread_entry h ∷ rest)
    by_hoists true = unread_first table h t (hoisted_max 0 (more (node l ks) none)) ks l e
    by_hoists false = let (rest, f) = unread_first table h t (hoisted_max 0 (more (node l ks) none)) ks l e in
        (rest, ap (λ u. entries h 0 u ++ in_place table h (t ∷ []) 0 (more (node l ks) none)) (no_count l e (hoisted_max 0 (more (node l ks) none))) ∙ f)
      where
        no_count : (l : Label) → l ≡ tree.Unread → (m : ℕ) → hoisted false l m ≡ hoisted true l m
        no_count tree.Unread e m = refl
        no_count (tree.Num z) e m = cc
        no_count _ e m = cc

-- what the hoisted maximum count tells of the maximum counts inside a value
abbrev pub MaxesFrom : Table → ℕ → Trees → Trees → Type 0
MaxesFrom table t v v' = (hoists table t ≡ true → hoisted_max 0 v ≡ hoisted_max 0 v') → Maxes table (t ∷ []) v v'

module _ (two : Readings) (W X : List Pair → Type 0) (pairs : List Pair) (one : W pairs) (table : Table) (g g' : Graph) (h h' : Home)
    (meet : HomesMeet pairs h h') where
  abbrev N : ℕ → List Entry → List Entry → Type 0
  N at ms ns = Next two W X pairs at ms ns

  module _ (t : ℕ) (l l' : Label) (ks ks' : Trees) (ms ns : List Entry) where
    abbrev V : Trees
    V = more (node l ks) none

    abbrev V' : Trees
    V' = more (node l' ks') none

    hoist_next : (b : Bool) (at : ℕ)
        → ((p : ℕ) → (b ≡ true → hoisted_max 0 V ≡ hoisted_max 0 V') → N p (in_place table h (t ∷ []) 0 V ++ ms) (in_place table h' (t ∷ []) 0 V' ++ ns))
        → N at
        ((entries h 0 (hoisted b l (hoisted_max 0 V)) ++ in_place table h (t ∷ []) 0 V) ++ ms)
        ((entries h' 0 (hoisted b l' (hoisted_max 0 V')) ++ in_place table h' (t ∷ []) 0 V') ++ ns)
    hoist_next false at k = k at (λ e. cc)
    hoist_next true at k = go (unread_or l) (unread_or l')
      where
        go : (l ≡ tree.Unread) ⊎ ((m : ℕ) → hoisted true l m ≡ Align 4 ∷ Max m ∷ [])
            → (l' ≡ tree.Unread) ⊎ ((m : ℕ) → hoisted true l' m ≡ Align 4 ∷ Max m ∷ [])
            → N at
            ((entries h 0 (hoisted true l (hoisted_max 0 V)) ++ in_place table h (t ∷ []) 0 V) ++ ms)
            ((entries h' 0 (hoisted true l' (hoisted_max 0 V')) ++ in_place table h' (t ∷ []) 0 V') ++ ns)
        go (inl e) y = let (r, f) = unread_first table h t (hoisted_max 0 V) ks l e in rw f (unread_left two W X pairs at (unread_entry h) (r ++ ms) _ refl)
        go (inr e) (inl f) = let (r, q) = unread_first table h' t (hoisted_max 0 V') ks' l' f in rw q (unread_right two W X pairs at (unread_entry h') _ (r ++ ns) refl)
        go (inr e) (inr f) =
            rw (e (hoisted_max 0 V), f (hoisted_max 0 V'))
            (inr (inr ([], one, meet, (refl, refl), λ _ _. inr (inr ([], one, meet, (refl, refl), λ x y. k _ (λ _. sym x.1 ∙ y.1))))))

  whole_node_next : (t : ℕ) (l l' : Label) (ks ks' : Trees)
      → Known g table (t ∷ []) (more (node l ks) none) → Known g' table (t ∷ []) (more (node l' ks') none)
      → MaxesFrom table t (more (node l ks) none) (more (node l' ks') none)
      → (ms ns : List Entry) (at : ℕ)
      → ((p : ℕ) → Matched (CellsMatch two.left two.right) table (t ∷ []) (more (node l ks) none) (more (node l' ks') none) → N p ms ns)
      → N at (whole_value table h t (node l ks) ++ ms) (whole_value table h' t (node l' ks') ++ ns)
  whole_node_next t l l' ks ks' a b x ms ns at k =
      hoist_next t l l' ks ks' ms ns (hoists table t) at (λ p m.
      in_place_next two W X pairs one table g g' h h' meet (t ∷ []) 0 (more (node l ks) none) (more (node l' ks') none) a b (x m) ms ns p k)

  pub whole_value_next : (t : ℕ) (v v' : Tree)
      → Known g table (t ∷ []) (more v none) → Known g' table (t ∷ []) (more v' none) → MaxesFrom table t (more v none) (more v' none)
      → (ms ns : List Entry) (at : ℕ)
      → ((p : ℕ) → Matched (CellsMatch two.left two.right) table (t ∷ []) (more v none) (more v' none) → N p ms ns)
      → N at (whole_value table h t v ++ ms) (whole_value table h' t v' ++ ns)
  whole_value_next t (node l ks) (node l' ks') a b x ms ns at k = whole_node_next t l l' ks ks' a b x ms ns at k
