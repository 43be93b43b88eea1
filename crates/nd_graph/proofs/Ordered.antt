-- The search for the order of cells.
-- `g` is a graph, `h` a home, `c` a cell's number, `cs` are cells that a home names, `s` is how far the search has come, `rest` are the homes that are due later.
use Rattle.std.proofs.Common.{◌≡◌, ℕ, ◌+◌, ◌-◌, ◌<◌, ◌≤◌, ◌^◌, zero, suc, Bool, true, false, not, cond, eqb, List, [], ◌∷◌, ◌++◌, length, get_or, set, replicate, refl, ap, sym, ◌∙◌, subst, arith}
use Rattle.std.proofs.Common.{append_assoc}
use Rattle.std.specs.List.{AllByRecursion, slice_get}
use Rattle.std.proofs.lemmas.Bool.{eqb-true, eqb-false, ne_eqb}
use Rattle.nd_value.specs.declared.value.Graph.{Graph}
use Rattle.nd_value.specs.declared.item.Home.{Home}
use Rattle.nd_value.specs.declared.item.Home.TheVariants as home
use Rattle.nd_value.specs.Tree.{Tree, Referent}
use Rattle.nd_value.specs.Setting.{Among, root_at, cell_at, cell_home, cell_tree, or_unread}
use Rattle.nd_value.specs.Names.{AreThere, HasNames, named_by}
use Rattle.nd_value.specs.Canon.{has}
use Rattle.nd_value.proofs.Apart.{all_append}
use Rattle.nd_flat.specs.Building.{HasHome, home_tree}
use Rattle.nd_graph.specs.Naming.{Naming, none_due, root_due, cell_due, stands_already, AreNamed, cell_homes, root_homes}
use Rattle.nd_graph.specs.Order.{Numbering, name, Ordering, visited, visited_by, IsAllNamed, IsOrder, zeros, HaveNumbers}
use Rattle.nd_graph.proofs.Numbers.{AreNumbers, names_step, can_name, firsts, place, number_is_place, placed, placed_at, found, has_among, among_has, firsts_have, no_zeros}
use Rattle.nd_lemmas.proofs.Lists.{marked_elsewhere as other_mark, marked_here as get_mark, marks_length as mark_length}

-- what the search keeps
pub record Ordered (g : Graph) (s : Ordering) : Type 0 where
  pub names : List ℕ
  pub placed : List ℕ
  -- what is named from here on comes after what was named
  pub follows : (ns : List ℕ) → Naming g placed s.due ns → AreNamed g (names ++ ns)
  pub numbers : AreNumbers (length g.cells) names s.named
  pub marks : (i : ℕ) → get_or s.stands i false ≡ has placed (suc i)
  pub all : length s.stands ≡ length g.cells
  pub there : AllByRecursion (HasHome g) s.due

-- ## Marks

-- ## The cells that a home names are there

of_root : (n : ℕ) (ts : List Tree) (i : ℕ) → AllByRecursion (λ t. AreThere n (named_by t)) ts → AreThere n (named_by (or_unread (slice_get ts i)))
of_root n [] i h = tt
of_root n (t ∷ ts) zero h = h.0
of_root n (t ∷ ts) (suc i) h = of_root n ts i h.1

of_cell : (n : ℕ) (xs : List Referent) (i : ℕ) → AllByRecursion (λ x. AreThere n (named_by x.val)) xs → AreThere n (named_by (cell_tree (slice_get xs i)))
of_cell n [] i h = tt
of_cell n (x ∷ xs) zero h = h.0
of_cell n (x ∷ xs) (suc i) h = of_cell n xs i h.1

of_number : (g : Graph) → HasNames g → (c : ℕ) → AreThere (length g.cells) (named_by (cell_at g c))
of_number g h zero = tt
of_number g h (suc i) = of_cell (length g.cells) g.cells i h.cells

pub home_there : (g : Graph) → HasNames g → (h : Home) → AreThere (length g.cells) (named_by (home_tree g h))
home_there g n (home.Root i) = of_root (length g.cells) g.roots i n.roots
home_there g n (home.Cell c) = of_number g n c.0

homes_there : (g : Graph) (cs : List ℕ) → AreThere (length g.cells) cs → AllByRecursion (HasHome g) (cell_homes cs)
homes_there g [] h = tt
homes_there g (c ∷ cs) h = (h.0, homes_there g cs h.1)

-- ## A visit

module _ (g : Graph) (names : HasNames g) (s : Ordering) (rest : List Home) where
  abbrev popped : Ordering
  popped = record { named = s.named; stands = s.stands; due = rest }

  root_step : (i : ℕ) → s.due ≡ home.Root i ∷ rest → Ordered g s → Ordered g (visited_by true g (home.Root i) popped)
  root_step i e o =
      let cs : List ℕ = named_by (root_at g i) in
      let there : AreThere (length g.cells) cs = home_there g names (home.Root i) in
      record {
        names = o.names ++ cs;
        placed = o.placed;
        follows = λ ns d.
            subst (AreNamed g) (sym (append_assoc o.names cs ns)) (o.follows (cs ++ ns) (subst (λ u. Naming g o.placed u (cs ++ ns)) (sym e) (root_due i d)));
        numbers = names_step (length g.cells) o.names s.named cs o.numbers there;
        marks = o.marks;
        all = o.all;
        there = all_append (HasHome g) (cell_homes cs) rest (homes_there g cs there) (subst (AllByRecursion (HasHome g)) e o.there).1;
      }

  module _ (j : ℕ) (e : s.due ≡ cell_home (suc j) ∷ rest) (o : Ordered g s) where
    abbrev c : ℕ
    c = suc j

    below : j < length s.stands
    below =
        let l : suc j ≤ length g.cells = (subst (AllByRecursion (HasHome g)) e o.there).0.1 in
        let a = o.all in
        omega (arith, l, a)

    new_marks : (i : ℕ) → get_or (set s.stands j true) i false ≡ has (c ∷ o.placed) (suc i)
    new_marks i = go (eqb (suc i) c) refl
      where
        go : (b : Bool) → eqb (suc i) c ≡ b → get_or (set s.stands j true) i false ≡ has (c ∷ o.placed) (suc i)
        go true f =
            let k : suc i ≡ suc j = eqb-true (suc i) c f in
            let i_is : i ≡ j = omega (arith, k) in
            ap (λ u. get_or (set s.stands j true) u false) i_is ∙ get_mark s.stands j below ∙ sym (ap (λ b. cond b true (has o.placed (suc i))) f)
        go false f =
            other_mark s.stands j i (λ k. eqb-false (suc i) c f (ap suc k)) ∙ o.marks i ∙ sym (ap (λ b. cond b true (has o.placed (suc i))) f)

    old_marks : get_or s.stands j false ≡ true → (i : ℕ) → get_or (set s.stands j true) i false ≡ has o.placed (suc i)
    old_marks t i = go (eqb i j) refl
      where
        go : (b : Bool) → eqb i j ≡ b → get_or (set s.stands j true) i false ≡ has o.placed (suc i)
        go true f =
            let i_is : i ≡ j = eqb-true i j f in
            ap (λ u. get_or (set s.stands j true) u false) i_is ∙ get_mark s.stands j below ∙ sym t ∙ ap (λ u. get_or s.stands u false) (sym i_is) ∙ o.marks i
        go false f = other_mark s.stands j i (eqb-false i j f) ∙ o.marks i

    abbrev new_at : ℕ → Ordering
    new_at k = record {
      named = name (named_by (cell_at g c)) s.named;
      stands = set s.stands k true;
      due = cell_homes (named_by (cell_at g c)) ++ rest;
    }

    abbrev old_at : ℕ → Ordering
    old_at k = record { named = s.named; stands = set s.stands k true; due = rest }

    stands_new : get_or s.stands j false ≡ false → Ordered g (new_at j)
    stands_new f =
        let cs : List ℕ = named_by (cell_at g c) in
        let there : AreThere (length g.cells) cs = home_there g names (cell_home c) in
        let absent : has o.placed c ≡ false = sym (o.marks j) ∙ f in
        let free : ¬ Among o.placed c = λ a. differ (sym (has_among o.placed c a) ∙ absent) in
        record {
          names = o.names ++ cs;
          placed = c ∷ o.placed;
          follows = λ ns d.
              subst (AreNamed g) (sym (append_assoc o.names cs ns)) (o.follows (cs ++ ns) (subst (λ u. Naming g o.placed u (cs ++ ns)) (sym e) (cell_due c free d)));
          numbers = names_step (length g.cells) o.names s.named cs o.numbers there;
          marks = new_marks;
          all = mark_length s.stands j ∙ o.all;
          there = all_append (HasHome g) (cell_homes cs) rest (homes_there g cs there) (subst (AllByRecursion (HasHome g)) e o.there).1;
        }
      where
        differ : true ≡ false → ⊥
        differ z = cc

    stood : get_or s.stands j false ≡ true → Ordered g (old_at j)
    stood t =
        let present : Among o.placed c = among_has o.placed c (sym (o.marks j) ∙ t) in
        record {
          names = o.names;
          placed = o.placed;
          follows = λ ns d. o.follows ns (subst (λ u. Naming g o.placed u ns) (sym e) (stands_already c present d));
          numbers = o.numbers;
          marks = old_marks t;
          all = mark_length s.stands j ∙ o.all;
          there = (subst (AllByRecursion (HasHome g)) e o.there).1;
        }

    cell_step : (k : ℕ) → j ≡ k → (b : Bool) → get_or s.stands k false ≡ b → Ordered g (elim (not b) [ true ↦ new_at k | false ↦ old_at k ])
    cell_step k e true t = subst (λ i. Ordered g (old_at i)) e (stood (ap (λ i. get_or s.stands i false) e ∙ t))
    cell_step k e false f = subst (λ i. Ordered g (new_at i)) e (stands_new (ap (λ i. get_or s.stands i false) e ∙ f))

    by_mark : (b : Bool) → get_or s.stands (c - 1) false ≡ b → Ordered g (visited_by (not b) g (cell_home c) popped)
    by_mark true t = cell_step (c - 1) (omega arith) true t
    by_mark false f = cell_step (c - 1) (omega arith) false f

  no_cell : s.due ≡ cell_home 0 ∷ rest → Ordered g s → ⊥
  no_cell e o = let l : 0 < 0 = (subst (AllByRecursion (HasHome g)) e o.there).0.0 in omega (arith, l)

  number_step : (c : ℕ) → s.due ≡ cell_home c ∷ rest → Ordered g s → Ordered g (visited g (cell_home c) popped)
  number_step zero e o = absurd (no_cell e o)
  number_step (suc j) e o = by_mark j e o (get_or s.stands (suc j - 1) false) refl

  -- the next home is visited
  pub visit_step : (h : Home) → s.due ≡ h ∷ rest → Ordered g s → Ordered g (visited g h popped)
  visit_step (home.Root i) e o = root_step i e o
  visit_step (home.Cell c) e o = number_step c.0 e o

  pub next_named : length g.cells < 2 ^ 32 → (h : Home) → Ordered g s → HaveNumbers s.named.numbers s.named.cells (named_by (home_tree g h))
  next_named few h o = can_name (length g.cells) o.names s.named (named_by (home_tree g h)) o.numbers few (home_there g names h)

-- ## How much is left

-- the visits that a home that is due may take
abbrev pub weight_of : Graph → Home → ℕ
weight_of g (home.Root i) = suc (length (named_by (root_at g i)))
weight_of g (home.Cell c) = 1

abbrev pub weight : Graph → List Home → ℕ
weight g [] = 0
weight g (h ∷ hs) = weight_of g h + weight g hs

-- the pointers of the cells that do not stand
abbrev pub unmet : List Bool → List Referent → ℕ
unmet ms [] = 0
unmet [] (x ∷ xs) = 0
unmet (true ∷ ms) (x ∷ xs) = unmet ms xs
unmet (false ∷ ms) (x ∷ xs) = length (named_by x.val) + unmet ms xs

abbrev pub visits_left : Graph → Ordering → ℕ
visits_left g s = weight g s.due + unmet s.stands g.cells

weight_cells : (g : Graph) (cs : List ℕ) (rest : List Home) → weight g (cell_homes cs ++ rest) ≡ length cs + weight g rest
weight_cells g [] rest = omega arith
weight_cells g (c ∷ cs) rest = let r = weight_cells g cs rest in omega (arith, r)

unmet_less : (ms : List Bool) (xs : List Referent) (j : ℕ) → j < length ms → j < length xs → get_or ms j false ≡ false
    → length (named_by (cell_tree (slice_get xs j))) + unmet (set ms j true) xs ≡ unmet ms xs
unmet_less [] xs j l m e = absurd (omega (arith, l))
unmet_less (b ∷ ms) [] j l m e = absurd (omega (arith, m))
unmet_less (true ∷ ms) (x ∷ xs) zero l m e = cc
unmet_less (false ∷ ms) (x ∷ xs) zero l m e = refl
unmet_less (true ∷ ms) (x ∷ xs) (suc j) l m e = unmet_less ms xs j (omega (arith, l)) (omega (arith, m)) e
unmet_less (false ∷ ms) (x ∷ xs) (suc j) l m e = let r = unmet_less ms xs j (omega (arith, l)) (omega (arith, m)) e in omega (arith, r)

unmet_same : (ms : List Bool) (xs : List Referent) (j : ℕ) → get_or ms j false ≡ true → unmet (set ms j true) xs ≡ unmet ms xs
unmet_same ms [] j e = refl
unmet_same [] (x ∷ xs) j e = cc
unmet_same (true ∷ ms) (x ∷ xs) zero e = refl
unmet_same (false ∷ ms) (x ∷ xs) zero e = cc
unmet_same (true ∷ ms) (x ∷ xs) (suc j) e = unmet_same ms xs j e
unmet_same (false ∷ ms) (x ∷ xs) (suc j) e = ap (λ u. length (named_by x.val) + u) (unmet_same ms xs j e)

module _ (g : Graph) (s : Ordering) (rest : List Home) where
  abbrev after : Ordering
  after = record { named = s.named; stands = s.stands; due = rest }

  root_less : (i : ℕ) → s.due ≡ home.Root i ∷ rest → visits_left g (visited_by true g (home.Root i) after) < visits_left g s
  root_less i e =
      let a : weight g s.due ≡ suc (length (named_by (root_at g i))) + weight g rest = ap (weight g) e in
      let b = weight_cells g (named_by (root_at g i)) rest in
      omega (arith, a, b)

  cell_less : (j k : ℕ) → j ≡ k → s.due ≡ cell_home (suc j) ∷ rest → k < length s.stands → k < length g.cells → (b : Bool) → get_or s.stands k false ≡ b
      → weight g (elim (not b) [ true ↦ cell_homes (named_by (cell_at g (suc j))) ++ rest | false ↦ rest ]) + unmet (set s.stands k true) g.cells < visits_left g s
  cell_less j k same e l m true f =
      let a : weight g s.due ≡ 1 + weight g rest = ap (weight g) e in
      let u = unmet_same s.stands g.cells k f in
      omega (arith, a, u)
  cell_less j k same e l m false f =
      let a : weight g s.due ≡ 1 + weight g rest = ap (weight g) e in
      let b = weight_cells g (named_by (cell_at g (suc j))) rest in
      let u : length (named_by (cell_at g (suc j))) + unmet (set s.stands k true) g.cells ≡ unmet s.stands g.cells =
      ap (λ i. length (named_by (cell_at g (suc i))) + unmet (set s.stands k true) g.cells) same ∙ unmet_less s.stands g.cells k l m f in
      omega (arith, a, b, u)

  by_mark_less : (j : ℕ) → s.due ≡ cell_home (suc j) ∷ rest → suc j - 1 < length s.stands → suc j - 1 < length g.cells → (b : Bool) → get_or s.stands (suc j - 1) false ≡ b
      → visits_left g (visited_by (not b) g (cell_home (suc j)) after) < visits_left g s
  by_mark_less j e l m true f = cell_less j (suc j - 1) (omega arith) e l m true f
  by_mark_less j e l m false f = cell_less j (suc j - 1) (omega arith) e l m false f

  number_less : (c : ℕ) → s.due ≡ cell_home c ∷ rest → Ordered g s → visits_left g (visited g (cell_home c) after) < visits_left g s
  number_less zero e o = absurd (let l : 0 < 0 = (subst (AllByRecursion (HasHome g)) e o.there).0.0 in omega (arith, l))
  number_less (suc j) e o =
      let m : suc j ≤ length g.cells = (subst (AllByRecursion (HasHome g)) e o.there).0.1 in
      let a = o.all in
      by_mark_less j e (omega (arith, m, a)) (omega (arith, m)) (get_or s.stands (suc j - 1) false) refl

  -- each visit is one less
  pub visit_less : (h : Home) → s.due ≡ h ∷ rest → Ordered g s → visits_left g (visited g h after) < visits_left g s
  visit_less (home.Root i) e o = root_less i e
  visit_less (home.Cell c) e o = number_less c.0 e o

-- ## Start and end

no_numbers : (n c : ℕ) → get_or (replicate {A = ℕ} n 0) c 0 ≡ 0
no_numbers zero c = refl
no_numbers (suc n) zero = refl
no_numbers (suc n) (suc c) = no_numbers n c

all_zeros : (n : ℕ) → zeros (replicate {A = ℕ} n 0) ≡ n
all_zeros zero = refl
all_zeros (suc n) = ap suc (all_zeros n)

how_many : {A : Type 0} (n : ℕ) (x : A) → length (replicate n x) ≡ n
how_many zero x = refl
how_many (suc n) x = ap suc (how_many n x)

no_marks : (n i : ℕ) → get_or (replicate n false) i false ≡ false
no_marks zero i = refl
no_marks (suc n) zero = refl
no_marks (suc n) (suc i) = no_marks n i

roots_there : (g : Graph) (i n : ℕ) → i + n ≤ length g.roots → AllByRecursion (HasHome g) (root_homes i n)
roots_there g i zero l = tt
roots_there g i (suc n) l = (omega (arith, l), roots_there g (suc i) n (omega (arith, l)))

pub ordered_start : (g : Graph) (s : Ordering) (n : ℕ) → n ≡ length g.cells → s.named.numbers ≡ replicate {A = ℕ} (n + 1) 0 → s.named.cells ≡ [] → s.stands ≡ replicate n false
    → s.due ≡ root_homes 0 (length g.roots) → Ordered g s
ordered_start g s n many numbers cells stands due =
    let l : length s.named.cells ≡ 0 = ap length cells in
    let z : zeros s.named.numbers ≡ n + 1 = ap zeros numbers ∙ all_zeros (n + 1) in
    let m : length s.named.numbers ≡ n + 1 = ap length numbers ∙ how_many (n + 1) 0 in
    record {
      names = [];
      placed = [];
      follows = λ ns d. subst (λ u. Naming g [] u ns) due d;
      numbers = record {
        listed = cells;
        numbers = λ c. ap (λ u. get_or u c 0) numbers ∙ no_numbers (n + 1) c ∙ sym (ap (place 1 c) cells);
        all = m ∙ omega (arith, many);
        few = omega (arith, l, z, many);
        there = subst (AreThere (length g.cells)) (sym cells) tt;
      };
      marks = λ i. ap (λ u. get_or u i false) stands ∙ no_marks n i;
      all = ap length stands ∙ how_many n false ∙ many;
      there = subst (AllByRecursion (HasHome g)) (sym due) (roots_there g 0 (length g.roots) (omega arith));
    }

no_more : (xs : List ℕ) → xs ++ [] ≡ xs
no_more [] = refl
no_more (x ∷ xs) = ap (λ u. x ∷ u) (no_more xs)

pub ordered_end : (g : Graph) (s : Ordering) → IsAllNamed g → s.due ≡ [] → Ordered g s → IsOrder g s.named.numbers s.named.cells
ordered_end g s all_named e o =
    let named : AreNamed g o.names = subst (AreNamed g) (no_more o.names) (o.follows [] (subst (λ u. Naming g o.placed u []) (sym e) none_due)) in
    let a = o.numbers in
    let cells : s.named.cells ≡ firsts [] o.names = a.listed in
    let some : (c : ℕ) → 0 < c → c ≤ length g.cells → 0 < get_or s.named.numbers c 0 = λ c lo hi. (
    let h : has (firsts [] o.names) c ≡ true = firsts_have [] o.names c (has_among o.names c (all_named o.names named c lo hi)) refl in
    let (k, p) = placed 0 c (firsts [] o.names) h in
    let q : get_or s.named.numbers c 0 ≡ suc k = a.numbers c ∙ ap (place 1 c) cells ∙ p in
    omega (arith, q)) in
    let m = a.all in
    let none_left : zeros s.named.numbers ≡ 1 = tail_zeros s.named.numbers (length g.cells) m (λ i lo hi. some i lo hi) (first_zero (length g.cells) s.named a) in
    let few = a.few in
    record {
      names = o.names;
      named = named;
      canonical = λ c. a.numbers c ∙ ap (place 1 c) cells ∙ sym (number_is_place 1 [] o.names c);
      all = omega (arith, few, none_left);
      there = a.there;
      numbered = some;
      number = λ k l.
          a.numbers (get_or s.named.cells k 0)
          ∙ ap (λ xs. place 1 (get_or xs k 0) xs) cells ∙ placed_at 1 [] o.names k (subst (λ xs. k < length xs) cells l) ∙ omega arith;
      cell = λ c k q. found 0 c k s.named.cells (sym (a.numbers c) ∙ q ∙ omega arith);
    }
  where
    first_zero : (n : ℕ) (t : Numbering) → AreNumbers n o.names t → get_or t.numbers 0 0 ≡ 0
    first_zero n t a = a.numbers 0 ∙ not_first t.cells a.there 1
      where
        not_first : (cs : List ℕ) → AreThere n cs → (m : ℕ) → place m 0 cs ≡ 0
        not_first [] h m = refl
        not_first (zero ∷ cs) h m = absurd (let l = h.0.0 in omega (arith, l))
        not_first (suc c ∷ cs) h m = skip (eqb 0 (suc c)) (ne_eqb 0 (suc c) (λ e. cc)) (not_first cs h.1 (m + 1))
          where
            skip : (b : Bool) → b ≡ false → place (m + 1) 0 cs ≡ 0 → elim b as (λ _. ℕ) [ true ↦ m | false ↦ place (m + 1) 0 cs ] ≡ 0
            skip false e r = r
            skip true e r = cc

    tail_zeros : (xs : List ℕ) (n : ℕ) → length xs ≡ suc n → ((i : ℕ) → 0 < i → i ≤ n → 0 < get_or xs i 0) → get_or xs 0 0 ≡ 0 → zeros xs ≡ 1
    tail_zeros [] n l h f = cc
    tail_zeros (zero ∷ xs) n l h f =
        ap suc (no_zeros xs (λ i b. h (suc i) (omega arith) (omega (arith, l, b))))
    tail_zeros (suc x ∷ xs) n l h f = cc
