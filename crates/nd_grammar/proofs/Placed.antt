-- A conforming graph's stream has no more items but gaps, with its cells, than octets and roots.
use Rattle.std.proofs.Common.{◌≡◌, ℕ, ◌+◌, ◌≤◌, suc, List, [], ◌∷◌, ◌++◌, length, Option, Some, None, ap, sym, ◌∙◌, inl, inr, ◌⊎◌, arith, subst, length-append}
use Rattle.std.specs.Prelude.{map, flat_map}
use Rattle.std.specs.List.{AllByRecursion}
use Rattle.std.proofs.lemmas.Option.{same_Some}
use Rattle.nd_value.specs.declared.value.Graph.{Graph}
use Rattle.nd_value.specs.declared.item.Home.{Home}
use Rattle.nd_value.specs.declared.item.Home.TheVariants as home
use Rattle.nd_value.specs.Tree.{Tree, Referent}
use Rattle.nd_value.specs.Setting.{Setting, Among, cell_at, cell_of_number, cell_home}
use Rattle.nd_value.specs.Deferral.{Pending, home_pointers, Due, due_root, due_referent, Step, root_stands, referent_stands, stands_already, Deferral, none_due, at_root, at_null, at_standing}
use Rattle.nd_value.specs.Deferral.{at_referent, IsPlaced, Placed_cells, Standing, standing_root, standing_cell, due_of, root_cell}
use Rattle.nd_value.specs.Conforms.{Conforms}
use Rattle.nd_value.proofs.DeferralLaws.{full_stands}
use Rattle.nd_value.proofs.Apart.{all_append, all_right, among_left, among_right}
use Rattle.nd_grammar.specs.Stream.{step_entries, standing_entries, step_tests}
use Rattle.nd_grammar.proofs.conforming.GoodEntries.{HoldsNoPipe}
use Rattle.nd_grammar.proofs.conforming.GoodStream.{StandsGood, DueGood, standing_due, pending_cell, root_good}
use Rattle.nd_grammar.proofs.ItemSizes.{numbers, numbers_append, whole_numbers}

abbrev pub own : Home → List ℕ
own (home.Root i) = []
own (home.Cell c) = c.0 ∷ []

pub among_split : {X : Type 0} (xs ys : List X) (x : X) → Among (xs ++ ys) x → Among xs x ⊎ Among ys x
among_split [] ys x a = inr a
among_split (y ∷ xs) ys x (inl e) = inl (inl e)
among_split (y ∷ xs) ys x (inr a) = go (among_split xs ys x a)
  where
    go : Among xs x ⊎ Among ys x → Among (y ∷ xs) x ⊎ Among ys x
    go (inl b) = inl (inr b)
    go (inr b) = inr b

pub closed_at : {A B C : Type 0} → A ⊎ B → (A → C) → (B → C) → C
closed_at (inl a) f g = f a
closed_at (inr b) f g = g b

pub none_some : {X : Type 0} (o : Option ℕ) (k : ℕ) → o ≡ None → o ≡ Some k → X
none_some o k e f = absurd (cc)

pub one_among : (k b : ℕ) → Among (k ∷ []) b → k ≡ b
one_among k b (inl e) = sym e
one_among k b (inr a) = absurd a

module _ (w : Setting) (g : Graph) where
  -- the cells that a step places, and the pointers whose referents it makes due
  abbrev pub placed : Step → List ℕ
  placed (root_stands i) = own (standing_root w g i).home
  placed (referent_stands p c) = c ∷ []
  placed (stands_already p c) = []

  abbrev pub all_placed : List Step → List ℕ
  all_placed steps = flat_map placed steps

  abbrev pub made : Step → List Pending
  made (root_stands i) = home_pointers w.table (standing_root w g i).home (standing_root w g i).of (standing_root w g i).val
  made (referent_stands p c) = home_pointers w.table (cell_home c) p.to (cell_at g c)
  made (stands_already p c) = []

  step_numbers : (x : Step) → length (made x) ≤ numbers (step_entries w g x)
  step_numbers (root_stands i) = whole_numbers w.table (standing_root w g i).home (standing_root w g i).of (standing_root w g i).val
  step_numbers (referent_stands p c) =
      let a = whole_numbers w.table (cell_home c) p.to (cell_at g c) in
      let e = numbers_append (standing_entries w.table (standing_cell g p c)) (step_tests g p c) in
      omega arith
  step_numbers (stands_already p c) = omega arith

  pub made_numbers : (steps : List Step) → length (flat_map made steps) ≤ numbers (flat_map (step_entries w g) steps)
  made_numbers [] = omega arith
  made_numbers (x ∷ steps) =
      let a = step_numbers x in
      let b = made_numbers steps in
      let e = numbers_append (step_entries w g x) (flat_map (step_entries w g) steps) in
      let f = length-append (made x) (flat_map made steps) in
      omega arith

  own_one : (h : Home) → length (own h) ≤ 1
  own_one (home.Root i) = omega arith
  own_one (home.Cell c) = omega arith

  due_length : (ps : List Pending) (ds : List Due) → length (map due_referent ps ++ ds) ≡ length ps + length ds
  due_length [] ds = omega arith
  due_length (p ∷ ps) ds = ap suc (due_length ps ds) ∙ omega arith

  -- each cell that is placed was due
  pub few_placed : {done : Placed_cells} {due : List Due} {steps : List Step} → Deferral w g done due steps
      → length (all_placed steps) ≤ length due + length (flat_map made steps)
  few_placed none_due = omega arith
  few_placed (at_root {i = i} {due = due} {steps = steps} f d) =
      let a = few_placed d in
      let o = own_one (standing_root w g i).home in
      let e = length-append (own (standing_root w g i).home) (all_placed steps) in
      let k = due_length (home_pointers w.table (standing_root w g i).home (standing_root w g i).of (standing_root w g i).val) due in
      let f' = length-append (made (root_stands i)) (flat_map made steps) in
      omega arith
  few_placed (at_null e d) = let a = few_placed d in omega arith
  few_placed (at_standing c e k h d) = let a = few_placed d in omega arith
  few_placed (at_referent {p = p} {due = due} {steps = steps} c e n d) =
      let a = few_placed d in
      let k = due_length (home_pointers w.table (cell_home c) p.to (cell_at g c)) due in
      let f' = length-append (made (referent_stands p c)) (flat_map made steps) in
      omega arith

  -- a cell stands, or is placed
  abbrev pub Covers : Placed_cells → List Step → ℕ → Type 0
  Covers done steps c = IsPlaced done c ⊎ Among (all_placed steps) c

  abbrev HomeCovered : Placed_cells → List Step → Home → ℕ → Tree → Type 0
  HomeCovered done steps h t v = (p : Pending) → Among (home_pointers w.table h t v) p → (c : ℕ) → p.cell ≡ Some c → Covers done steps c

  abbrev pub DueCovered : Placed_cells → List Step → Due → Type 0
  DueCovered done steps (due_root i) =
      HomeCovered done steps (standing_root w g i).home (standing_root w g i).of (standing_root w g i).val
      × ((c : ℕ) → Among (own (standing_root w g i).home) c → Covers done steps c)
  DueCovered done steps (due_referent p) = (c : ℕ) → p.cell ≡ Some c → Covers done steps c

  abbrev Closed : Placed_cells → List Step → Type 0
  Closed done steps =
      (b : ℕ) → Among (all_placed steps) b → (x : Referent) → cell_of_number g b ≡ Some x → HomeCovered done steps (cell_home b) x.of x.val

  standing_split : (new done : Placed_cells) (c : ℕ) → IsPlaced (new ++ done) c → IsPlaced new c ⊎ IsPlaced done c
  standing_split [] done c h = inr h
  standing_split (d ∷ new) done c (inl e) = inl (inl e)
  standing_split (d ∷ new) done c (inr h) = go (standing_split new done c h)
    where
      go : IsPlaced new c ⊎ IsPlaced done c → IsPlaced (d ∷ new) c ⊎ IsPlaced done c
      go (inl a) = inl (inr a)
      go (inr a) = inr a

  module _ (new done : Placed_cells) (x : Step) (steps : List Step) (of_step : (c : ℕ) → IsPlaced new c → Among (placed x) c) where
    pub before_step : (c : ℕ) → Covers (new ++ done) steps c → Covers done (x ∷ steps) c
    before_step c (inr a) = inr (among_right (placed x) (all_placed steps) c a)
    before_step c (inl h) = go (standing_split new done c h)
      where
        go : IsPlaced new c ⊎ IsPlaced done c → Covers done (x ∷ steps) c
        go (inl a) = inr (among_left (placed x) (all_placed steps) c (of_step c a))
        go (inr a) = inl a

    due_before : (d : Due) → DueCovered (new ++ done) steps d → DueCovered done (x ∷ steps) d
    due_before (due_root i) a = ((λ p m c e. before_step c (a.0 p m c e)), (λ c m. before_step c (a.1 c m)))
    due_before (due_referent p) a = λ c e. before_step c (a c e)

    all_before : (ds : List Due) → AllByRecursion (DueCovered (new ++ done) steps) ds → AllByRecursion (DueCovered done (x ∷ steps)) ds
    all_before [] a = tt
    all_before (d ∷ ds) a = (due_before d a.0, all_before ds a.1)

    home_before : (h : Home) (t : ℕ) (v : Tree) → HomeCovered (new ++ done) steps h t v → HomeCovered done (x ∷ steps) h t v
    home_before h t v a p m c e = before_step c (a p m c e)

  home_of_due : (done : Placed_cells) (steps : List Step) (ps : List Pending) (ds : List Due) → AllByRecursion (DueCovered done steps) (map due_referent ps ++ ds)
      → (p : Pending) → Among ps p → (c : ℕ) → p.cell ≡ Some c → Covers done steps c
  home_of_due done steps [] ds a p m c e = absurd m
  home_of_due done steps (q ∷ ps) ds a p (inl f) c e = a.0 c (ap (λ u. u.cell) (sym f) ∙ e)
  home_of_due done steps (q ∷ ps) ds a p (inr m) c e = home_of_due done steps ps ds a.1 p m c e

  rest_of_due : (done : Placed_cells) (steps : List Step) (ps : List Pending) (ds : List Due) → AllByRecursion (DueCovered done steps) (map due_referent ps ++ ds)
      → AllByRecursion (DueCovered done steps) ds
  rest_of_due done steps ps ds a = all_right (DueCovered done steps) (map due_referent ps) ds a

  pub of_root : (h : Home) (c : ℕ) → IsPlaced (root_cell h) c → Among (own h) c
  of_root (home.Root i) c a = absurd a
  of_root (home.Cell b) c (inl e) = inl e
  of_root (home.Cell b) c (inr a) = absurd a

  pub home_is : (h : Home) (b : ℕ) → Among (own h) b → h ≡ cell_home b
  home_is (home.Root i) b a = absurd a
  home_is (home.Cell c) b (inl e) = ap (λ u. home.Cell (record { 0 = u })) (sym e)
  home_is (home.Cell c) b (inr a) = absurd a

  module _ (none_inside : HoldsNoPipe w.table) (c : Conforms w g) where
    abbrev IsGoodDue : Due → Type 0
    IsGoodDue = DueGood w none_inside g

    -- a home's pointers, by the type and the value of its cell
    by_cell_of : (x : Standing) → StandsGood w none_inside g x → (done : Placed_cells) (steps : List Step) → HomeCovered done steps x.home x.of x.val
        → (b : ℕ) → x.home ≡ cell_home b → (y : Referent) → cell_of_number g b ≡ Some y → HomeCovered done steps (cell_home b) y.of y.val
    by_cell_of x s done steps a b h y e p m k f =
        let (et, ev) = s.its_cell b h y e in
        a p (subst (λ u. Among (home_pointers w.table u x.of x.val) p) (sym h)
        (subst (λ u. Among (home_pointers w.table (cell_home b) u x.val) p) et (subst (λ u. Among (home_pointers w.table (cell_home b) y.of u) p) ev m))) k f

    pub covered : {done : Placed_cells} {due : List Due} {steps : List Step} → Deferral w g done due steps → AllByRecursion IsGoodDue due
        → AllByRecursion (DueCovered done steps) due × Closed done steps
    covered none_due a = (tt, λ b m. absurd m)
    covered (at_root {done = done} {i = i} {due = due} {steps = steps} f d) a =
        let (r, er, pr) = a.0 in
        let x : Standing = standing_root w g i in
        let s : StandsGood w none_inside g x = root_good w none_inside g c i r er pr in
        let ps : List Pending = home_pointers w.table x.home x.of x.val in
        let new : Placed_cells = root_cell x.home in
        let (all, closed) = covered d (all_append IsGoodDue (due_of w.table x) due (standing_due w none_inside g x s) a.1) in
        let own_home : HomeCovered (new ++ done) steps x.home x.of x.val = home_of_due (new ++ done) steps ps due all in
        let step : Step = root_stands i in
        let home : HomeCovered done (step ∷ steps) x.home x.of x.val = home_before new done step steps (of_root x.home) x.home x.of x.val own_home in (
          (
            (home, (λ b m. inr (among_left (own x.home) (all_placed steps) b m))),
            all_before new done step steps (of_root x.home) due (rest_of_due (new ++ done) steps ps due all),
          ),
          (λ b m y e. (
              closed_at (among_split (own x.home) (all_placed steps) b m)
              (λ k. by_cell_of x s done (step ∷ steps) home b (home_is x.home b k) y e)
              (λ k. home_before new done step steps (of_root x.home) (cell_home b) y.of y.val (closed b k y e)))),
        )
    covered (at_null {p = p} e d) a =
        let (all, closed) = covered d a.1 in
        (((λ k f. none_some p.cell k e f), all), closed)
    covered (at_standing {done = done} {p = p} {due = due} {steps = steps} k e full h d) a =
        let (all, closed) = covered d a.1 in (
          (
            (λ q f. inl (subst (λ u. IsPlaced done u) (same_Some _ _ (sym e ∙ f)) (full_stands done k h))),
            all_before [] done (stands_already p k) steps (λ q m. absurd m) due all,
          ),
          (λ b m y f. home_before [] done (stands_already p k) steps (λ q m. absurd m) (cell_home b) y.of y.val (closed b m y f)),
        )
    covered (at_referent {done = done} {p = p} {due = due} {steps = steps} k e n d) a =
        let x : Standing = standing_cell g p k in
        let s : StandsGood w none_inside g x = pending_cell w none_inside g c p a.0 k e in
        let ps : List Pending = home_pointers w.table x.home x.of x.val in
        let new : Placed_cells = (p.class, k) ∷ [] in
        let step : Step = referent_stands p k in
        let (all, closed) = covered d (all_append IsGoodDue (due_of w.table x) due (standing_due w none_inside g x s) a.1) in
        let of_step : (q : ℕ) → IsPlaced new q → Among (placed step) q = λ q m. m in
        let own_home : HomeCovered (new ++ done) steps x.home x.of x.val = home_of_due (new ++ done) steps ps due all in
        let home : HomeCovered done (step ∷ steps) x.home x.of x.val = home_before new done step steps of_step x.home x.of x.val own_home in (
          (
            (λ q f. inr (inl (same_Some q k (sym f ∙ e)))),
            all_before new done step steps of_step due (rest_of_due (new ++ done) steps ps due all),
          ),
          (λ b m y f. (
              closed_at (among_split (k ∷ []) (all_placed steps) b m)
              (λ z. by_cell_of x s done (step ∷ steps) home b (ap cell_home (one_among k b z)) y f)
              (λ z. home_before new done step steps of_step (cell_home b) y.of y.val (closed b z y f)))),
        )
