-- In which homes, and at which nodes, the entries of a head and of chunks are.
use Rattle.std.proofs.Common.{◌≡◌, ◌<◌, ◌≤◌, ap, sym, subst, refl, ℕ, ◌+◌, suc, ℤ, Bool, true, false, List, [], ◌∷◌, ◌++◌, length, map, flat_map, replicate, Option, Some, None, inl, inr, ◌⊎◌, arith}
use Rattle.std.specs.List.{AllByRecursion, slice_get}
use Rattle.nd_types.specs.declared.types.Arm.{Arm}
use Rattle.nd_types.specs.declared.types.TypeDef.{TypeDef}
use Rattle.nd_types.specs.declared.types.TypeDef.TheVariants as def
use Rattle.nd_types.specs.Layout.{hoists}
use Rattle.nd_types.specs.Roots.{Root}
use Rattle.nd_types.specs.Table.{Table, type_at}
use Rattle.nd_value.specs.Agreement.{Agreement, root_agreements}
use Rattle.nd_value.specs.declared.item.Home.{Home}
use Rattle.nd_value.specs.declared.item.Home.TheVariants as home
use Rattle.nd_value.specs.declared.value.Graph.{Graph}
use Rattle.nd_value.specs.Tree as tree
use Rattle.nd_value.specs.Tree.{Tree, Trees, node, none, more, node_count, trees, Label, is_pointer}
use Rattle.nd_value.specs.Deferral.{Deferral, none_due, at_root, at_null, at_standing, at_referent, Due, due_referent, Step, Pending, Placed_cells, standing_root, standing_cell, standing_by, direct}
use Rattle.nd_value.specs.Deferral.{root_type, home_pointers}
use Rattle.nd_value.specs.Nodes.{child_agreements, child_types, first_agreements, rest_agreements}
use Rattle.nd_value.specs.Setting.{Setting, root_list, root_at, cell_at, cell_home}
use Rattle.nd_value.proofs.Apart.{all_append, all_weaker}
use Rattle.nd_value.proofs.Waiting.{not_equal}
use Rattle.nd_grammar.specs.Entry.{Kind, Entry, Align, Chunk, before_children, child_tests, counts, entries, hoisted, hoisted_max, in_place, own_tests, tag_entries, tests, whole_value}
use Rattle.nd_grammar.specs.Refusal.{is_max, same_home}
use Rattle.nd_grammar.specs.Stream.{root_test, root_tests, standing_entries, step_entries, step_tests}
use Rattle.nd_grammar.proofs.agreements.TestsFind.{IsNoTest}
use Rattle.nd_grammar.proofs.next.NextInPlace.{View, view, v_prim, v_enum, v_struct, v_array, v_text, v_union, v_pointer, v_context, v_unread}
use Rattle.ndr_drain_laws.specs.parts.Parts.{Part, Spot, after, after_all, elem_at, part_entries, spot_after}
use Rattle.ndr_drain_laws.proofs.parts.Chunks.{parts_entries}
use Rattle.ndr_drain_laws.proofs.parts.Heads.{IsEarly}

-- ## Values in their places

-- an entry of a home, at a node of a range, that is no maximum count
pub record IsInside (h : Home) (low high : ℕ) (m : Entry) : Type 0 where
  pub at_home : m.home ≡ h
  pub from : low ≤ m.node
  pub below : m.node < high
  pub plain : is_max m.kind ≡ false

abbrev Plain : Kind → Type 0
Plain k = is_max k ≡ false

plain_tags : (d : Option TypeDef) (arms : List Arm) (default : Option Arm) (v : ℤ) → AllByRecursion Plain (tag_entries d arms default v)
plain_tags (Some (def.Prim p)) arms default v = (refl, (refl, tt))
plain_tags (Some (def.Enum vs)) arms default v = (refl, (refl, tt))
plain_tags None arms default v = (refl, tt)
plain_tags (Some _) arms default v = (refl, tt)

plain_counts : (b : Bool) (m o n : ℕ) → AllByRecursion Plain (counts b m o n)
plain_counts true m o n = (refl, (refl, (refl, tt)))
plain_counts false m o n = tt

plain_by : (table : Table) (t : ℕ) (d : Option TypeDef) (l : Label) (ks : Trees) → View table t d l → AllByRecursion Plain (before_children table t d l ks)
plain_by table t d l ks v_prim = (refl, (refl, tt))
plain_by table t d l ks v_enum = (refl, (refl, tt))
plain_by table t d l ks v_struct = (refl, tt)
plain_by table t d l ks (v_array {v = b} {m = m} {o = o}) = plain_counts b m o _
plain_by table t d l ks v_text = (refl, (refl, (refl, (refl, tt))))
plain_by table t d l ks (v_union {tag = tag} {arms = arms} {d = default} {v = v}) = plain_tags (type_at table tag.0) arms default v
plain_by table t d l ks v_pointer = (refl, (refl, tt))
plain_by table t d l ks v_context = (refl, (refl, tt))
plain_by table t d l ks (v_unread f) = subst (AllByRecursion Plain) (sym (f ks)) (refl, tt)

module _ (h : Home) (low high : ℕ) where
  abbrev In : Entry → Type 0
  In = IsInside h low high

  kinds_inside : (n : ℕ) → low ≤ n → n < high → (xs : List Kind) → AllByRecursion Plain xs → AllByRecursion (IsInside h low high) (entries h n xs)
  kinds_inside n a b [] p = tt
  kinds_inside n a b (x ∷ xs) p = (record { at_home = refl; from = a; below = b; plain = p.0 }, kinds_inside n a b xs p.1)

  tests_inside : (n : ℕ) → low ≤ n → n < high → (v : Tree) (ags : List Agreement) → AllByRecursion (IsInside h low high) (tests h n v ags)
  tests_inside n a b v [] = tt
  tests_inside n a b v (x ∷ ags) = (record { at_home = refl; from = a; below = b; plain = refl }, tests_inside n a b v ags)

  own_inside : (pointer : Bool) (n : ℕ) → low ≤ n → n < high → (v : Tree) (ags : List Agreement) → AllByRecursion (IsInside h low high) (own_tests pointer h n v ags)
  own_inside true n a b v ags = tt
  own_inside false n a b v ags = tests_inside n a b v ags

  children_inside : (ags : List (List Agreement)) (n : ℕ) (ts : Trees) → low ≤ n → n + node_count ts ≤ high → AllByRecursion (IsInside h low high) (child_tests h ags n ts)
  children_inside ags n none a b = tt
  children_inside ags n (more (node l ks) ts) a b =
      all_append In (own_tests (is_pointer l) h n (node l ks) (first_agreements ags)) (child_tests h (rest_agreements ags) (n + 1 + node_count ks) ts)
      (own_inside (is_pointer l) n a (omega (arith, b)) (node l ks) (first_agreements ags))
      (children_inside (rest_agreements ags) (n + 1 + node_count ks) ts (omega (arith, a)) (omega (arith, b)))

  pub inside : (table : Table) (types : List ℕ) (n : ℕ) (ts : Trees) → low ≤ n → n + node_count ts ≤ high → AllByRecursion (IsInside h low high) (in_place table h types n ts)
  inside table types n none a b = tt
  inside table [] n (more t ts) a b = tt
  inside table (t ∷ types) n (more (node l ks) ts) a b =
      let d : Option TypeDef = type_at table t in
      let A : List Entry = entries h n (before_children table t d l ks) in
      let B : List Entry = in_place table h (child_types d l ks) (n + 1) ks in
      let C : List Entry = child_tests h (child_agreements d ks) (n + 1) ks in
      let D : List Entry = in_place table h types (n + 1 + node_count ks) ts in
      all_append In A (B ++ (C ++ D)) (kinds_inside n a (omega (arith, b)) (before_children table t d l ks) (plain_by table t d l ks (view table t d l)))
      (all_append In B (C ++ D) (inside table (child_types d l ks) (n + 1) ks (omega (arith, a)) (omega (arith, b)))
      (all_append In C D (children_inside (child_agreements d ks) (n + 1) ks (omega (arith, a)) (omega (arith, b)))
      (inside table types (n + 1 + node_count ks) ts (omega (arith, a)) (omega (arith, b)))))

-- ## Chunks

part_inside : (w : Setting) (s : Spot) (k : ℕ) (vs : List Tree) (high : ℕ) → 0 < high → s.node + node_count (trees vs) ≤ high
    → AllByRecursion (IsInside (home.Root s.root) 0 high) (part_entries w s k vs)
part_inside w s k vs high a b =
    let one : (x : Kind) → is_max x ≡ false → IsInside (home.Root s.root) 0 high (record { home = home.Root s.root; node = 0; kind = x }) =
    λ x p. record { at_home = refl; from = omega arith; below = a; plain = p } in
    (one (Align 4) refl, (one (Chunk k) refl, inside (home.Root s.root) 0 high w.table (replicate k (elem_at w s.root)) s.node (trees vs) (omega arith) b))

-- an entry of a pipe: an agreement is of a node from this number on
abbrev pub IsOwn : ℕ → ℕ → Entry → Type 0
IsOwn r low m = (m.home ≡ home.Root r) × (IsNoTest m.kind ⊎ (low ≤ m.node))

pub part_own : (w : Setting) (s : Spot) (k : ℕ) (vs : List Tree) → AllByRecursion (IsOwn s.root s.node) (part_entries w s k vs)
part_own w s k vs =
    let h : Home = home.Root s.root in
    let high : ℕ = s.node + node_count (trees vs) in
    let E : List Entry = in_place w.table h (replicate k (elem_at w s.root)) s.node (trees vs) in (
      (refl, inl tt),
      (
        (refl, inl tt),
        all_weaker (IsInside h s.node high) (IsOwn s.root s.node) (λ m i. (i.at_home, inr i.from)) E
            (inside h s.node high w.table (replicate k (elem_at w s.root)) s.node (trees vs) (omega arith) (omega arith)),
      ),
    )

-- an entry of which no agreement of a pipe speaks, from a node of it on: it is of another home, or of an earlier node
abbrev pub IsBefore : ℕ → ℕ → Entry → Type 0
IsBefore r low m = (same_home m.home (home.Root r) ≡ false) ⊎ ((is_max m.kind ≡ false) × (m.node < low))

-- a spot after another one
abbrev IsLater : Spot → Spot → Type 0
IsLater s z = (s.root < z.root) ⊎ ((s.root ≡ z.root) × (s.node ≤ z.node))

later_after : (s z : Spot) (n : ℕ) (els : List Tree) → IsLater (spot_after s n els) z → IsLater s z
later_after s z n [] (inl h) = inl (omega (arith, h))
later_after s z n [] (inr (e, h)) = inl (omega (arith, e))
later_after s z n (u ∷ us) (inl h) = inl h
later_after s z n (u ∷ us) (inr (e, h)) = inr (e, omega (arith, h))

later_all : (ps : List Part) (s : Spot) → IsLater s (after_all s ps)
later_all [] s = inr (refl, omega arith)
later_all (p ∷ ps) s = later_after s (after_all (after s p) ps) (length p.octets) p.elements (later_all ps (after s p))

one_after : (s : Spot) (n : ℕ) (els : List Tree) → 0 < s.node → 0 < (spot_after s n els).node
one_after s n [] h = omega arith
one_after s n (u ∷ us) h = omega (arith, h)

pub one_all : (ps : List Part) (s : Spot) → 0 < s.node → 0 < (after_all s ps).node
one_all [] s h = h
one_all (p ∷ ps) s h = one_all ps (after s p) (one_after s (length p.octets) p.elements h)

away_root : (i r : ℕ) → i < r → same_home (home.Root i) (home.Root r) ≡ false
away_root i r h = not_equal i r (λ e. omega (arith, e, h))

module _ (w : Setting) (s z : Spot) (els : List Tree) where
  abbrev E : List Entry
  E = part_entries w s (length els) els

  before_root : s.root < z.root → AllByRecursion (IsBefore z.root z.node) E
  before_root h =
      all_weaker (IsInside (home.Root s.root) 0 (1 + s.node + node_count (trees els))) (IsBefore z.root z.node)
      (λ m i. inl (subst (λ u. same_home u (home.Root z.root) ≡ false) (sym i.at_home) (away_root s.root z.root h)))
      E (part_inside w s (length els) els (1 + s.node + node_count (trees els)) (omega arith) (omega arith))

  before_node : 0 < z.node → s.node + node_count (trees els) ≤ z.node → AllByRecursion (IsBefore z.root z.node) E
  before_node a b =
      all_weaker (IsInside (home.Root s.root) 0 z.node) (IsBefore z.root z.node) (λ m i. inr (i.plain, i.below)) E (part_inside w s (length els) els z.node a b)

part_before : (w : Setting) (s z : Spot) (n : ℕ) (els : List Tree) → 0 < z.node → IsLater (spot_after s n els) z
    → AllByRecursion (IsBefore z.root z.node) (part_entries w s (length els) els)
part_before w s z n [] a (inl h) = before_root w s z [] (omega (arith, h))
part_before w s z n [] a (inr (e, h)) = before_root w s z [] (omega (arith, e))
part_before w s z n (u ∷ us) a (inl h) = before_root w s z (u ∷ us) h
part_before w s z n (u ∷ us) a (inr (e, h)) = before_node w s z (u ∷ us) a h

pub parts_before : (w : Setting) (ps : List Part) (s : Spot) → 0 < s.node → AllByRecursion (IsBefore (after_all s ps).root (after_all s ps).node) (parts_entries w s ps)
parts_before w [] s h = tt
parts_before w (p ∷ ps) s h =
    let z : Spot = after_all (after s p) ps in
    let one : 0 < (after s p).node = one_after s (length p.octets) p.elements h in
    all_append (IsBefore z.root z.node) (part_entries w s (length p.elements) p.elements) (parts_entries w (after s p) ps)
    (part_before w s z (length p.octets) p.elements (one_all ps (after s p) one) (later_all ps (after s p)))
    (parts_before w ps (after s p) one)

-- ## The head

module _ (r : ℕ) where
  abbrev Away : Home → Type 0
  Away h = same_home h (home.Root r) ≡ false

  abbrev AllAway : List Entry → Type 0
  AllAway ms = AllByRecursion (λ m. same_home m.home (home.Root r) ≡ false) ms

  kinds_away : (h : Home) (n : ℕ) (xs : List Kind) → Away h → AllAway (entries h n xs)
  kinds_away h n [] a = tt
  kinds_away h n (x ∷ xs) a = (a, kinds_away h n xs a)

  tests_away : (h : Home) (n : ℕ) (v : Tree) (ags : List Agreement) → Away h ⊎ (ags ≡ []) → AllAway (tests h n v ags)
  tests_away h n v [] a = tt
  tests_away h n v (x ∷ ags) (inl a) = (a, tests_away h n v ags (inl a))
  tests_away h n v (x ∷ ags) (inr e) = absurd (cc)

  whole_away : (table : Table) (h : Home) (t : ℕ) (v : Tree) → Away h → AllAway (whole_value table h t v)
  whole_away table h t (node l ks) a =
      let V : Trees = more (node l ks) none in
      let H : List Kind = hoisted (hoists table t) l (hoisted_max 0 V) in
      let E : List Entry = in_place table h (t ∷ []) 0 V in
      let high : ℕ = 0 + node_count V in
      all_append (λ m. same_home m.home (home.Root r) ≡ false) (entries h 0 H) E (kinds_away h 0 H a)
      (all_weaker (IsInside h 0 high) (λ m. same_home m.home (home.Root r) ≡ false) (λ m i. subst Away (sym i.at_home) a) E
      (inside h 0 high table (t ∷ []) 0 V (omega arith) (omega arith)))

  module _ (w : Setting) (g : Graph) where
    away_by : (i t : ℕ) (v : Tree) (o : Option (ℕ × ℕ)) → i < r → Away (standing_by g i t v o).home
    away_by i t v None h = away_root i r h
    away_by i t v (Some d) h = refl

    early_map : (ps : List Pending) (due : List Due) → AllByRecursion (IsEarly r) due → AllByRecursion (IsEarly r) (map due_referent ps ++ due)
    early_map [] due a = a
    early_map (p ∷ ps) due a = (tt, early_map ps due a)

    abbrev A : Entry → Type 0
    A m = same_home m.home (home.Root r) ≡ false

    pub steps_away : {done : Placed_cells} {due : List Due} {steps : List Step} → Deferral w g done due steps → AllByRecursion (IsEarly r) due
        → AllAway (flat_map (step_entries w g) steps)
    steps_away none_due a = tt
    steps_away (at_root {i = i} {due = due} {steps = steps} f d) a =
        let x = standing_root w g i in
        let t : ℕ = root_type (slice_get (root_list w) i) in
        all_append A (standing_entries w.table x) (flat_map (step_entries w g) steps)
        (whole_away w.table x.home x.of x.val (away_by i t (root_at g i) (direct (type_at w.table t) (root_at g i)) a.0))
        (steps_away d (early_map (home_pointers w.table x.home x.of x.val) due a.1))
    steps_away (at_null e d) a = steps_away d a.1
    steps_away (at_standing {p = p} {steps = steps} c e f q d) a =
        all_append A (step_tests g p c) (flat_map (step_entries w g) steps) (tests_away (cell_home c) 0 (cell_at g c) p.agreements (inl refl)) (steps_away d a.1)
    steps_away (at_referent {p = p} {due = due} {steps = steps} c e f d) a =
        let x = standing_cell g p c in
        all_append A (standing_entries w.table x ++ step_tests g p c) (flat_map (step_entries w g) steps)
        (all_append A (standing_entries w.table x) (step_tests g p c) (whole_away w.table x.home x.of x.val refl)
        (tests_away (cell_home c) 0 (cell_at g c) p.agreements (inl refl)))
        (steps_away d (early_map (home_pointers w.table x.home x.of x.val) due a.1))

    root_test_away : (i : ℕ) (l : Label) (ks : Trees) (ags : List Agreement) → Away (home.Root i) ⊎ (ags ≡ []) → AllAway (root_test g i (node l ks) ags)
    root_test_away i (tree.Ptr None) ks ags a = tt
    root_test_away i (tree.Ptr (Some c)) ks ags a = tests_away (cell_home c) 0 (cell_at g c) ags (inl refl)
    root_test_away i (tree.Num z) ks ags a = tests_away (home.Root i) 0 (node (tree.Num z) ks) ags a
    root_test_away i tree.Rec ks ags a = tests_away (home.Root i) 0 (node tree.Rec ks) ags a
    root_test_away i (tree.Arr m o) ks ags a = tests_away (home.Root i) 0 (node (tree.Arr m o) ks) ags a
    root_test_away i (tree.Text m os) ks ags a = tests_away (home.Root i) 0 (node (tree.Text m os) ks) ags a
    root_test_away i (tree.Union v) ks ags a = tests_away (home.Root i) 0 (node (tree.Union v) ks) ags a
    root_test_away i (tree.Context x q) ks ags a = tests_away (home.Root i) 0 (node (tree.Context x q) ks) ags a
    root_test_away i tree.Pipe ks ags a = tests_away (home.Root i) 0 (node tree.Pipe ks) ags a
    root_test_away i tree.Unread ks ags a = tests_away (home.Root i) 0 (node tree.Unread ks) ags a

    own_away : (i : ℕ) (x : Root) → (i < r) ⊎ (x.vars ≡ []) → Away (home.Root i) ⊎ (root_agreements w g x.vars ≡ [])
    own_away i x (inl h) = inl (away_root i r h)
    own_away i x (inr e) = inr (ap (root_agreements w g) e)

    pub root_tests_away : (i : ℕ) (rs : List Root) (vs : List Tree) → ((j : ℕ) (x : Root) → slice_get rs j ≡ Some x → (i + j < r) ⊎ (x.vars ≡ []))
        → AllAway (root_tests w g i rs vs)
    root_tests_away i [] vs f = tt
    root_tests_away i (x ∷ rs) [] f = tt
    root_tests_away i (x ∷ rs) (node l ks ∷ vs) f =
        let z : i + 0 ≡ i = omega arith in
        all_append A (root_test g i (node l ks) (root_agreements w g x.vars)) (root_tests w g (i + 1) rs vs)
        (root_test_away i l ks (root_agreements w g x.vars) (own_away i x (subst (λ u. (u < r) ⊎ (x.vars ≡ [])) z (f 0 x refl))))
        (root_tests_away (i + 1) rs vs (λ j y e.
        (let q : i + suc j ≡ i + 1 + j = omega arith in subst (λ u. (u < r) ⊎ (y.vars ≡ [])) q (f (suc j) y e))))
