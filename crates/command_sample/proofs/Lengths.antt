-- How long the stream of the sample is: a pointer, and three numbers for each node.
use Rattle.std.proofs.Common.{◌≡◌, ℕ, zero, suc, ◌+◌, ◌-◌, ◌*◌, ◌%◌, ◌<◌, ◌≤◌, ℤ, pos, List, [], ◌∷◌, ◌++◌, map, Option, Some, None, refl, ap, sym, ◌∙◌, subst, inl, inr, ◌⊎◌, arith, append_assoc}
use Rattle.std.specs.Prelude.{flat_map}
use Rattle.std.proofs.lemmas.Bool.{cases_eq}
use Rattle.std.proofs.lemmas.List.{append-nil}
use Rattle.nd_types.specs.declared.types.Class.TheVariants.{Full}
use Rattle.nd_types.specs.declared.types.Primitive.TheVariants.{Long}
use Rattle.nd_types.specs.Layout.{align_of, hoists}
use Rattle.nd_types.specs.Roots.{roots_of}
use Rattle.nd_value.specs.declared.value.Graph.{Graph}
use Rattle.nd_value.specs.declared.item.Home.{Home}
use Rattle.nd_value.specs.declared.item.Home.TheVariants as home
use Rattle.nd_value.specs.Tree.{Tree}
use Rattle.nd_value.specs.Setting.{Setting, root_list, cell_at, cell_tree, cell_home}
use Rattle.nd_value.specs.Deferral.{home_pointers, Due, due_referent, Step, root_stands, referent_stands, stands_already, Deferral, none_due, at_root, at_null, at_standing, at_referent, Placed_cells}
use Rattle.nd_value.specs.Deferral.{IsPlaced, IsPlacedFull, due_roots, before_pipes}
use Rattle.nd_value.proofs.DeferralLaws.{one_order}
use Rattle.nd_grammar.specs.Entry.{Kind, Entry, Align, Num, Number, gap, size_at, end_of}
use Rattle.nd_grammar.specs.Stream.{representation, step_entries, standing_entries}
use Rattle.command_sample.specs.Interface.{sample_types, sample_setting}
use Rattle.command_sample.specs.Nodes.{sample_node, sample_graph, left, right, value_by}
use Rattle.command_sample.proofs.Conforming.{node_is, first_state, second_state, root_pending, left_pending, right_pending, left_next, left_none, right_among}

-- ## Places

-- there is no gap at a multiple of four
no_gap : (m : ℕ) → gap (4 * m) 4 ≡ 0
no_gap m = let e : (4 * m) % 4 ≡ 0 = omega arith in rw e refl

-- past an aligned place
aligned : (m : ℕ) (x : Entry) (rest : List Entry) → x.kind ≡ Align 4 → end_of (4 * m) (x ∷ rest) ≡ end_of (4 * m) rest
aligned m x rest e =
    ap (λ k. end_of (4 * m + size_at (4 * m) k) rest) e ∙ ap (λ d. end_of (4 * m + d) rest) (no_gap m) ∙ ap (λ at. end_of at rest) (omega arith)

-- four octets more
four : (m : ℕ) (rest : List Entry) → end_of (4 * m + 4) rest ≡ end_of (4 * (m + 1)) rest
four m rest = ap (λ at. end_of at rest) (omega arith)

-- the entries of a node: its number and its two pointers, each aligned
abbrev entry : Home → ℕ → Kind → Entry
entry h k x = record { home = h; node = k; kind = x }

abbrev node_entries : Home → ℤ → Option ℕ → Option ℕ → List Entry → List Entry
node_entries h v l r rest =
    entry h 0 (Align 4) ∷ entry h 1 (Align 4) ∷ entry h 1 (Num Long None v) ∷ entry h 2 (Align 4) ∷ entry h 2 (Number Full 12 l)
    ∷ entry h 3 (Align 4) ∷ entry h 3 (Number Full 12 r) ∷ rest

node_size : (h : Home) (v : ℤ) (l r : Option ℕ) (m : ℕ) (rest : List Entry) → end_of (4 * m) (node_entries h v l r rest) ≡ end_of (4 * (m + 3)) rest
node_size h v l r m rest =
    let third = entry h 3 (Number Full 12 r) ∷ rest in
    let second = entry h 2 (Number Full 12 l) ∷ entry h 3 (Align 4) ∷ third in
    let first = entry h 1 (Num Long None v) ∷ entry h 2 (Align 4) ∷ second in
    aligned m (entry h 0 (Align 4)) (entry h 1 (Align 4) ∷ first) refl
    ∙ aligned m (entry h 1 (Align 4)) first refl
    ∙ four m (entry h 2 (Align 4) ∷ second)
    ∙ aligned (m + 1) (entry h 2 (Align 4)) second refl
    ∙ four (m + 1) (entry h 3 (Align 4) ∷ third)
    ∙ aligned (m + 1 + 1) (entry h 3 (Align 4)) third refl
    ∙ four (m + 1 + 1) rest
    ∙ ap (λ q. end_of (4 * q) rest) (omega arith)

module _ (seed n : ℕ) (some : 1 ≤ n) (few : n ≤ 1000000) where
  abbrev w : Setting
  w = sample_setting

  abbrev g : Graph
  g = sample_graph seed n

  cell_is : (j : ℕ) → j < n → cell_at g (suc j) ≡ (sample_node n (suc j) (first_state seed j) (second_state seed j)).val
  cell_is j lt = ap cell_tree (node_is seed n some few j lt)

  -- ## The order of deferral: down the left pointers, and then the right ones of all nodes, last first

  abbrev rights : ℕ → List Due
  rights zero = []
  rights (suc j) = due_referent (right_pending n (suc j) (second_state seed j)) ∷ rights j

  abbrev placed : ℕ → Placed_cells
  placed zero = []
  placed (suc j) = (Full, suc j) ∷ placed j

  abbrev already : ℕ → List Step
  already zero = []
  already (suc j) = stands_already (right_pending n (suc j) (second_state seed j)) (right n (second_state seed j)) ∷ already j

  -- the steps after the j-th node, from 0, where k are left
  abbrev below : ℕ → ℕ → List Step
  below j zero = already (suc j)
  below j (suc k) = referent_stands (left_pending n (suc j)) (suc (suc j)) ∷ below (suc j) k

  abbrev all_steps : ℕ → List Step
  all_steps k = root_stands 0 ∷ referent_stands root_pending 1 ∷ below 0 k

  not_placed : (j c : ℕ) → j < c → ¬ IsPlaced (placed j) c
  not_placed zero c lt h = absurd h
  not_placed (suc j) c lt (inl e) = absurd (omega (arith, lt, e))
  not_placed (suc j) c lt (inr h) = not_placed j c (omega (arith, lt)) h

  is_placed : (j c : ℕ) → 1 ≤ c → c ≤ j → IsPlacedFull (placed j) c
  is_placed zero c low le = absurd (omega (arith, low, le))
  is_placed (suc j) c low le = go (cases_eq c (suc j)) (is_placed j c low)
    where
      go : (c ≡ suc j) ⊎ (c ≡ suc j → ⊥) → (c ≤ j → IsPlacedFull (placed j) c) → IsPlacedFull (placed (suc j)) c
      go (inl e) further = inl (refl, e)
      go (inr other) further = inr (further (let h : ¬ (c ≡ suc j) = other in omega (arith, le, h)))

  backs : (j : ℕ) → Deferral w g (placed n) (rights j) (already j)
  backs zero = none_due
  backs (suc j) =
      at_standing (right n (second_state seed j)) refl refl (is_placed n (right n (second_state seed j)) (omega arith) (right_among n (second_state seed j) some)) (backs j)

  walk : (j k : ℕ) → suc j + k ≡ n
      → Deferral w g (placed (suc j)) (due_referent (left_pending n (suc j)) ∷ due_referent (right_pending n (suc j) (second_state seed j)) ∷ rights j) (below j k)
  walk j zero e =
      let is : n ≡ suc j = omega (arith, e) in
      at_null (left_none n (suc j) (omega (arith, e))) (subst (λ m. Deferral w g (placed m) (rights (suc j)) (already (suc j))) is (backs (suc j)))
  walk j (suc k) e =
      at_referent (suc (suc j)) (left_next n (suc j) (omega (arith, e)) ∙ ap Some (omega arith)) (not_placed (suc j) (suc (suc j)) (omega arith))
      (subst
      (λ (t : Tree). Deferral w g (placed (suc (suc j))) (map due_referent (home_pointers sample_types (cell_home (suc (suc j))) 12 t)
      ++ due_referent (right_pending n (suc j) (second_state seed j)) ∷ rights j) (below (suc j) k))
      (sym (cell_is (suc j) (omega (arith, e)))) (walk (suc j) k (omega (arith, e))))

  order_is : (k : ℕ) → 1 + k ≡ n → Deferral w g [] (due_roots 0 (before_pipes (root_list w))) (all_steps k)
  unfolding roots_of
  order_is k e =
      at_root tt (at_referent 1 refl (λ h. h)
      (subst (λ (t : Tree). Deferral w g (placed 1) (map due_referent (home_pointers sample_types (cell_home 1) 12 t) ++ []) (below 0 k))
      (sym (cell_is 0 (omega (arith, e)))) (walk 0 k (omega (arith, e)))))

  -- ## The length

  abbrev written : List Step → List Entry
  written steps = flat_map (step_entries w g) steps

  already_none : (j : ℕ) → written (already j) ≡ []
  already_none zero = refl
  already_none (suc j) = already_none j

  node_ends : (c m : ℕ) (rest : List Entry) → c < n
      → end_of (4 * m) (standing_entries sample_types (record { home = cell_home (suc c); of = 12; val = cell_at g (suc c) }) ++ rest) ≡ end_of (4 * (m + 3)) rest
  unfolding align_of hoists
  node_ends c m rest lt =
      subst (λ (t : Tree). end_of (4 * m) (standing_entries sample_types (record { home = cell_home (suc c); of = 12; val = t }) ++ rest) ≡ end_of (4 * (m + 3)) rest)
      (sym (cell_is c lt)) (node_size (cell_home (suc c)) (pos (value_by (first_state seed c))) (left n (suc c)) (Some (right n (second_state seed c))) m rest)

  abbrev standing : ℕ → List Entry
  standing c = standing_entries sample_types (record { home = cell_home (suc c); of = 12; val = cell_at g (suc c) })

  below_ends : (j k m : ℕ) (rest : List Entry) → suc j + k ≡ n → end_of (4 * m) (written (below j k) ++ rest) ≡ end_of (4 * (m + 3 * k)) rest
  below_ends j zero m rest e = ap (λ (l : List Entry). end_of (4 * m) (l ++ rest)) (already_none (suc j)) ∙ ap (λ q. end_of (4 * q) rest) (omega arith)
  below_ends j (suc k) m rest e =
      ap (λ (l : List Entry). end_of (4 * m) ((l ++ written (below (suc j) k)) ++ rest)) (append-nil (standing (suc j)))
      ∙ ap (end_of (4 * m)) (append_assoc (standing (suc j)) (written (below (suc j) k)) rest)
      ∙ node_ends (suc j) m (written (below (suc j) k) ++ rest) (omega (arith, e))
      ∙ below_ends (suc j) k (m + 3) rest (omega (arith, e))
      ∙ ap (λ q. end_of (4 * q) rest) (omega arith)

  whole_ends : (k : ℕ) (cuts : List (List ℕ)) → 1 + k ≡ n → end_of 0 (representation w g (all_steps k) cuts) ≡ 4 + 12 * n
  unfolding roots_of hoists
  whole_ends k cuts e =
      ap (end_of 4) (append-nil (((standing 0 ++ []) ++ written (below 0 k)) ++ []) ∙ append-nil ((standing 0 ++ []) ++ written (below 0 k)))
      ∙ ap (λ (l : List Entry). end_of 4 (l ++ written (below 0 k))) (append-nil (standing 0))
      ∙ node_ends 0 1 (written (below 0 k)) (omega (arith, e))
      ∙ ap (end_of 16) (sym (append-nil (written (below 0 k))))
      ∙ below_ends 0 k 4 [] e
      ∙ omega (arith, e)

  pub length_is : (steps : List Step) → Deferral w g [] (due_roots 0 (before_pipes (root_list w))) steps → (cuts : List (List ℕ))
      → end_of 0 (representation w g steps cuts) ≡ 4 + 12 * n
  length_is steps d cuts =
      let e : 1 + (n - 1) ≡ n = omega (arith, some) in
      let same : steps ≡ all_steps (n - 1) = one_order w g d (order_is (n - 1) e) in
      subst (λ (s : List Step). end_of 0 (representation w g s cuts) ≡ 4 + 12 * n) (sym same) (whole_ends (n - 1) cuts e)
