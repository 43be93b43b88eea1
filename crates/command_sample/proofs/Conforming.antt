-- The graph of the sample conforms to the request of its operation.
use Rattle.std.proofs.Common.{◌≡◌, ℕ, zero, suc, ◌+◌, ◌-◌, ◌/◌, ◌%◌, ◌^◌, ◌<◌, ◌≤◌, pos, Bool, true, List, [], ◌∷◌, map, length, Option, Some, None, refl, ap, ◌∙◌, inl, inr, ◌⊎◌, arith, lit≤, lit<}
use Rattle.std.specs.List.{slice_get, list_all, AllByRecursion}
use Rattle.std.proofs.lemmas.Bool.{le-leb, lt-ltb, le-ltb, ne_eqb, cases_lt}
use Rattle.std.proofs.lemmas.Nat.{mod_below}
use Rattle.nd_types.specs.declared.types.Class.TheVariants.{Full}
use Rattle.nd_types.specs.declared.types.Primitive.TheVariants.{Long}
use Rattle.nd_types.specs.declared.types.TypeDef.TheVariants as def
use Rattle.nd_types.specs.Roots.{roots_of}
use Rattle.nd_types.specs.Table.{is_value}
use Rattle.nd_value.specs.declared.value.Graph.{Graph}
use Rattle.nd_value.specs.declared.item.Home.TheVariants as home
use Rattle.nd_value.specs.declared.misfit.MisfitReason.TheVariants as misfit
use Rattle.nd_value.specs.Tree as tree
use Rattle.nd_value.specs.Tree.{node, none}
use Rattle.nd_value.specs.Setting.{root_list, cell_of_number, cell_home}
use Rattle.nd_value.specs.Conforms.{HomeNode, in_home, cell_nodes, cell_pointers, all_nodes, all_pointers, Conforms, Reached, by_root, by_cell, AgreesAt, AllEarlier, ShareOnlyIfFull, FewNodes}
use Rattle.nd_value.specs.Nodes.{home_nodes}
use Rattle.nd_value.specs.Deferral.{Pending}
use Rattle.nd_value.specs.Misfit.{misfit_of, misfit_by, unless, has_machine_values, has_type, names_cell}
use Rattle.nd_value.proofs.Apart.{all_append}
use Rattle.command_sample.specs.Interface.{sample_types, sample_setting}
use Rattle.command_sample.specs.Nodes.{next_state, value_by, left, right, sample_node, sample_nodes, sample_graph}
use Rattle.nd_lemmas.proofs.Lists.{list_all_from as list_of_all}

-- ## The nodes

pub length_is : (n i k x : ℕ) → length (sample_nodes n i k x) ≡ k
length_is n i zero x = refl
length_is n i (suc k) x = ap suc (length_is n (i + 1) k (next_state (next_state x)))

-- the state before the j-th node, from 0, of those that are drawn after a state
abbrev pub state_at : ℕ → ℕ → ℕ
state_at x zero = x
state_at x (suc j) = state_at (next_state (next_state x)) j

-- the states that are drawn for it
abbrev pub first_state : ℕ → ℕ → ℕ
first_state x j = next_state (state_at x j)

abbrev pub second_state : ℕ → ℕ → ℕ
second_state x j = next_state (next_state (state_at x j))

pub is_there : (n i k x j : ℕ) → j < k → slice_get (sample_nodes n i k x) j ≡ Some (sample_node n (i + j) (first_state x j) (second_state x j))
is_there n i zero x j lt = absurd (omega (arith, lt))
is_there n i (suc k) x zero lt = ap (λ m. Some (sample_node n m (next_state x) (next_state (next_state x)))) (omega arith)
is_there n i (suc k) x (suc j) lt =
    is_there n (i + 1) k (next_state (next_state x)) j (omega (arith, lt))
    ∙ ap (λ m. Some (sample_node n m (first_state x (suc j)) (second_state x (suc j)))) (omega arith)

-- whatever cell is there is a node
are_nodes : (n i k x j : ℕ) → has_type (slice_get (sample_nodes n i k x) j) 12 ≡ true
are_nodes n i zero x j = refl
are_nodes n i (suc k) x zero = refl
are_nodes n i (suc k) x (suc j) = are_nodes n (i + 1) k (next_state (next_state x)) j

pub names_node : (seed n c : ℕ) → has_type (cell_of_number (sample_graph seed n) c) 12 ≡ true
names_node seed n zero = refl
names_node seed n (suc c) = are_nodes n 1 n seed c

-- ## Numbers

pub value_small : (x : ℕ) → value_by x < 1000
value_small x = mod_below x 1000 (lit< tt)

pub right_among : (n x : ℕ) → 1 ≤ n → right n x ≤ n
right_among n x some = let h : x / 65536 % n < n = mod_below (x / 65536) n some in omega (arith, h)

-- the left of a node that is not the last, and of the last
pub left_next : (n i : ℕ) → i < n → left n i ≡ Some (i + 1)
left_next n i lt = rw (lt-ltb i n lt) refl

pub left_none : (n i : ℕ) → n ≤ i → left n i ≡ None
left_none n i le = rw (le-ltb i n le) refl

value_fits : (v : ℕ) → v < 1000 → is_value (Some (def.Prim Long)) (pos v) ≡ true
value_fits v lt = le-leb v (2 ^ 31 - 1) (omega (arith, lt))

-- ## The pointers

abbrev pub root_pending : Pending
root_pending = record { home = home.Root 0; node = 0; class = Full; to = 12; cell = Some 1; agreements = [] }

abbrev pub left_pending : ℕ → ℕ → Pending
left_pending n i = record { home = cell_home i; node = 2; class = Full; to = 12; cell = left n i; agreements = [] }

abbrev pub right_pending : ℕ → ℕ → ℕ → Pending
right_pending n i y = record { home = cell_home i; node = 3; class = Full; to = 12; cell = Some (right n y); agreements = [] }

abbrev IsFull : Pending → Type 0
IsFull p = p.class ≡ Full

all_full : (n k i x : ℕ) → AllByRecursion IsFull (cell_pointers sample_types i (sample_nodes n i k x))
all_full n zero i x = tt
all_full n (suc k) i x = (refl, (refl, all_full n k (i + 1) (next_state (next_state x))))

full_with : (p : Pending) (ps : List Pending) → IsFull p → AllByRecursion IsFull ps → AllByRecursion (ShareOnlyIfFull p) ps
full_with p [] h all = tt
full_with p (q ∷ ps) h all = (λ c a b. (h, all.0), full_with p ps h all.1)

unshared_full : (ps : List Pending) → AllByRecursion IsFull ps → AllEarlier ShareOnlyIfFull ps
unshared_full [] all = tt
unshared_full (p ∷ ps) all = (full_with p ps all.0 all.1, unshared_full ps all.1)

-- ## The nodes of the cells

module _ (P : HomeNode → Type 0) (n : ℕ)
    (each : (i x y : ℕ) → 1 ≤ i → i ≤ n → AllByRecursion P (map (in_home (cell_home i)) (home_nodes sample_types 12 (sample_node n i x y).val))) where
  pub all_cells : (k i x : ℕ) → 1 ≤ i → i + k ≡ n + 1 → AllByRecursion P (cell_nodes sample_types i (sample_nodes n i k x))
  all_cells zero i x some e = tt
  all_cells (suc k) i x some e =
      all_append P (map (in_home (cell_home i)) (home_nodes sample_types 12 (sample_node n i (next_state x) (next_state (next_state x))).val))
      (cell_nodes sample_types (i + 1) (sample_nodes n (i + 1) k (next_state (next_state x))))
      (each i (next_state x) (next_state (next_state x)) some (omega (arith, e)))
      (all_cells k (i + 1) (next_state (next_state x)) (omega (arith, some)) (omega (arith, e)))

module _ (seed n : ℕ) (some : 1 ≤ n) (few : n ≤ 1000000) where
  abbrev g : Graph
  g = sample_graph seed n

  pub node_is : (j : ℕ) → j < n → cell_of_number g (suc j) ≡ Some (sample_node n (suc j) (first_state seed j) (second_state seed j))
  node_is j lt = is_there n 1 n seed j lt ∙ ap (λ m. Some (sample_node n m (first_state seed j) (second_state seed j))) (omega arith)

  -- ### Counts

  abbrev Machine : HomeNode → Type 0
  Machine x = has_machine_values x.typed.label ≡ true

  left_machine : (i : ℕ) → i ≤ n → has_machine_values (tree.Ptr (left n i)) ≡ true
  left_machine i le = go (cases_lt i n)
    where
      go : (i < n) ⊎ (n ≤ i) → has_machine_values (tree.Ptr (left n i)) ≡ true
      go (inl lt) = rw (left_next n i lt) (lt-ltb (i + 1) (2 ^ 32) (omega (arith, few, lt)))
      go (inr ge) = rw (left_none n i ge) refl

  machine : (i x y : ℕ) → 1 ≤ i → i ≤ n → AllByRecursion Machine (map (in_home (cell_home i)) (home_nodes sample_types 12 (sample_node n i x y).val))
  machine i x y low le =
      (refl, (refl, (left_machine i le, (lt-ltb (right n y) (2 ^ 32) (let h = right_among n y some in omega (arith, few, h)), tt))))

  machine_values_are : list_all (λ x. has_machine_values x.typed.label) (all_nodes sample_setting g) ≡ true
  unfolding roots_of
  machine_values_are = list_of_all (λ (x : HomeNode). has_machine_values x.typed.label) (cell_nodes sample_types 1 g.cells) (all_cells Machine n machine n 1 seed (lit≤ tt) (omega arith))

  -- ### Each node by itself

  abbrev Fits : HomeNode → Type 0
  Fits x = misfit_of sample_types g x.typed ≡ None

  named : (a b : Bool) → a ≡ true → b ≡ true → unless a misfit.NoCell (unless b misfit.CellType None) ≡ None
  named a b e f = rw (e, f) refl

  names : (c : ℕ) → 1 ≤ c → c ≤ n → names_cell g (tree.Ptr (Some c)) ≡ true
  names c low le = rw (ne_eqb c 0 (λ e. omega (arith, low, e)), length_is n 1 n seed, le-leb c n le) refl

  names_some : (c : ℕ) → 1 ≤ c → c ≤ n → misfit_by sample_types g (Some (def.Pointer Full (record { 0 = 12 }))) (tree.Ptr (Some c)) none ≡ None
  names_some c low le = named (names_cell g (tree.Ptr (Some c))) (has_type (cell_of_number g c) 12) (names c low le) (names_node seed n c)

  left_fits : (i : ℕ) → 1 ≤ i → i ≤ n → misfit_by sample_types g (Some (def.Pointer Full (record { 0 = 12 }))) (tree.Ptr (left n i)) none ≡ None
  left_fits i low le = go (cases_lt i n)
    where
      go : (i < n) ⊎ (n ≤ i) → misfit_by sample_types g (Some (def.Pointer Full (record { 0 = 12 }))) (tree.Ptr (left n i)) none ≡ None
      go (inl lt) = rw (left_next n i lt) (names_some (i + 1) (omega arith) (omega (arith, lt)))
      go (inr ge) = rw (left_none n i ge) refl

  fits : (i x y : ℕ) → 1 ≤ i → i ≤ n → AllByRecursion Fits (map (in_home (cell_home i)) (home_nodes sample_types 12 (sample_node n i x y).val))
  fits i x y low le =
      (refl, (ap (λ b. unless b misfit.Range None) (value_fits (value_by x) (value_small x)), (left_fits i low le, (names_some (right n y) (omega arith) (right_among n y some), tt))))

  local_are : AllByRecursion Fits (all_nodes sample_setting g)
  unfolding roots_of
  local_are = (names_some 1 (lit≤ tt) some, all_cells Fits n fits n 1 seed (lit≤ tt) (omega arith))

  -- ### Every cell is reached

  reach : (j : ℕ) → j < n → Reached sample_setting g (suc j)
  unfolding roots_of
  reach zero lt = by_root root_pending (inl refl) refl
  reach (suc j) lt =
      by_cell (sample_node n (suc j) (first_state seed j) (second_state seed j)) (left_pending n (suc j)) (reach j (omega (arith, lt))) (node_is j (omega (arith, lt))) (inl refl)
      (left_next n (suc j) lt ∙ ap Some (omega arith))

  reached_are : (c : ℕ) → 0 < c → c < length g.cells + 1 → Reached sample_setting g c
  reached_are zero low high = absurd (omega (arith, low))
  reached_are (suc j) low high = reach j (let e = length_is n 1 n seed in omega (arith, high, e))

  -- ### No node is governed

  abbrev Agrees : HomeNode → Type 0
  Agrees x = AgreesAt g x.typed

  left_agrees : (i : ℕ) → AgreesAt g (record { node = 2; of = 13; agreements = []; label = tree.Ptr (left n i); kids = none })
  left_agrees i = go (left n i)
    where
      go : (o : Option ℕ) → AgreesAt g (record { node = 2; of = 13; agreements = []; label = tree.Ptr o; kids = none })
      go None = tt
      go (Some c) = (tt, tt)

  agrees : (i x y : ℕ) → 1 ≤ i → i ≤ n → AllByRecursion Agrees (map (in_home (cell_home i)) (home_nodes sample_types 12 (sample_node n i x y).val))
  agrees i x y low le = ((tt, tt), ((tt, tt), (left_agrees i, ((tt, tt), tt))))

  agreed_are : AllByRecursion Agrees (all_nodes sample_setting g)
  unfolding roots_of
  agreed_are = ((tt, tt), all_cells Agrees n agrees n 1 seed (lit≤ tt) (omega arith))

  -- ### Few nodes

  few_of : (k i x : ℕ) → FewNodes (map (λ c. c.val) (sample_nodes n i k x))
  few_of zero i x = tt
  few_of (suc k) i x = (lit< tt, few_of k (i + 1) (next_state (next_state x)))

  unshared_are : AllEarlier ShareOnlyIfFull (all_pointers sample_setting g)
  unfolding roots_of
  unshared_are = unshared_full (all_pointers sample_setting g) (refl, all_full n n 1 seed)

  all_roots_are : length g.roots ≡ length (root_list sample_setting)
  unfolding roots_of
  all_roots_are = refl

  pub conforms : Conforms sample_setting g
  conforms = record {
    all_roots = all_roots_are;
    machine_values = machine_values_are;
    local = local_are;
    unshared = unshared_are;
    reached = reached_are;
    agreed = agreed_are;
    few_cells = rw (length_is n 1 n seed) (omega (arith, few));
    few_nodes = (lit< tt, few_of n 1 seed);
  }
