-- In a stream that is accepted whole, all that was due is met: each value that stands passed, and the agreements of its pointers hold.
use Rattle.std.proofs.Common.{◌≡◌, ℕ, ◌+◌, zero, suc, true, List, [], ◌∷◌, ◌++◌, Option, Some, None, refl, ap, sym, ◌∙◌, inl, inr, arith, subst}
use Rattle.std.specs.Prelude.{map, flat_map}
use Rattle.std.specs.List.{AllByRecursion, slice_get}
use Rattle.std.proofs.lemmas.Option.{same_Some}
use Rattle.nd_types.specs.declared.types.TypeDef.{TypeDef}
use Rattle.nd_types.specs.declared.types.Class.TheVariants.{Ref}
use Rattle.nd_types.specs.Table.{Table, type_at}
use Rattle.nd_types.specs.Roots.{Root}
use Rattle.nd_value.specs.declared.value.Graph.{Graph}
use Rattle.nd_value.specs.declared.item.Home.{Home}
use Rattle.nd_value.specs.declared.item.Home.TheVariants as home
use Rattle.nd_value.specs.Tree as tree
use Rattle.nd_value.specs.Tree.{Tree, Trees, node, none, more, Label, Referent}
use Rattle.nd_value.specs.Setting.{Setting, Among, root_list, root_at, or_unread, cell_home, cell_at, cell_tree, cell_of_number}
use Rattle.nd_value.specs.Deferral.{Pending, home_pointers, Due, due_root, due_referent, Step, root_stands, referent_stands, stands_already, Deferral, none_due, at_root, at_null, at_standing}
use Rattle.nd_value.specs.Deferral.{at_referent, IsPlaced, Placed_cells, Standing, standing_root, standing_by, standing_cell, direct, root_type, due_of, root_cell}
use Rattle.nd_value.specs.Conforms.{root_pointers, cell_pointers, all_pointers, IsAgreed}
use Rattle.nd_value.specs.Misfit.{is_no_null_ref}
use Rattle.nd_value.proofs.Apart.{all_append, all_left, all_right, among_left}
use Rattle.nd_value.proofs.DeferralExists.{direct_is, direct_pointer}
use Rattle.nd_value.proofs.DeferralLaws.{full_stands}
use Rattle.nd_grammar.specs.Entry.{Entry, whole_value}
use Rattle.nd_grammar.specs.Stream.{step_entries, standing_entries, step_tests}
use Rattle.nd_grammar.proofs.conforming.GoodStream.{same_home_number}
use Rattle.nd_grammar.proofs.reader.MadeTrees.{CellOf, CellFits}
use Rattle.nd_grammar.specs.MadeTrees.{MadeNode, MadeTrees}
use Rattle.nd_grammar.proofs.conforming.Passed.{PassedAll, left_passed, right_passed}
use Rattle.nd_grammar.proofs.conforming.PassedTrees.{tests_agree}
use Rattle.nd_grammar.proofs.Placed.{own, among_split, one_among, none_some, closed_at, placed, all_placed, Covers, before_step, of_root, home_is}
use Rattle.nd_grammar.specs.ReaderState.{RootsMade}
use Rattle.nd_value.proofs.NodeFacts.{unread_no_null}

pub made_no_null : (table : Table) (d : Option TypeDef) (l : Label) (ks : Trees) → MadeNode table d l ks → is_no_null_ref d l ≡ true
made_no_null table d l ks (inl e) = ap (is_no_null_ref d) e ∙ unread_no_null d
made_no_null table d l ks (inr f) = f.no_null

-- the root of a number was made
pub root_made : (table : Table) (rs : List Root) (vs : List Tree) → RootsMade table rs vs → (i : ℕ) (r : Root) (v : Tree) → slice_get rs i ≡ Some r → slice_get vs i ≡ Some v
    → MadeTrees table (r.of ∷ []) (more v none)
root_made table rs [] m i r v e f = cc
root_made table [] (u ∷ vs) m i r v e f = absurd m
root_made table (q ∷ rs) (u ∷ vs) m zero r v e f =
    subst (λ x. MadeTrees table (x.of ∷ []) (more v none)) (same_Some _ _ e) (subst (λ x. MadeTrees table (q.of ∷ []) (more x none)) (same_Some _ _ f) m.0)
root_made table (q ∷ rs) (u ∷ vs) m (suc i) r v e f = root_made table rs vs m.1 i r v e f

module _ (w : Setting) (g : Graph) (typed : AllByRecursion (CellFits g.cells) (all_pointers w g)) (made : RootsMade w.table (root_list w) g.roots)
    (as_many : (i : ℕ) (r : Root) → slice_get (root_list w) i ≡ Some r → (v : Tree) × (slice_get g.roots i ≡ Some v)) where
  abbrev Fit : Pending → Type 0
  Fit = CellFits g.cells

  cell_fit : (n : ℕ) (xs : List Referent) → AllByRecursion (CellFits g.cells) (cell_pointers w.table n xs) → (i : ℕ) (x : Referent) → slice_get xs i ≡ Some x
      → AllByRecursion (CellFits g.cells) (home_pointers w.table (cell_home (n + i)) x.of x.val)
  cell_fit n [] a i x e = cc
  cell_fit n (y ∷ xs) a zero x e =
      let z : n ≡ n + 0 = omega arith in
      subst (λ k. AllByRecursion Fit (home_pointers w.table (cell_home k) x.of x.val)) z
      (subst (λ u. AllByRecursion Fit (home_pointers w.table (cell_home n) u.of u.val)) (same_Some _ _ e)
      (all_left Fit (home_pointers w.table (cell_home n) y.of y.val) (cell_pointers w.table (n + 1) xs) a))
  cell_fit n (y ∷ xs) a (suc i) x e =
      let z : n + 1 + i ≡ n + suc i = omega arith in
      subst (λ k. AllByRecursion Fit (home_pointers w.table (cell_home k) x.of x.val)) z
      (cell_fit (n + 1) xs (all_right Fit (home_pointers w.table (cell_home n) y.of y.val) (cell_pointers w.table (n + 1) xs) a) i x e)

  root_fit : (n : ℕ) (rs : List Root) (vs : List Tree) → AllByRecursion (CellFits g.cells) (root_pointers w.table n rs vs) → (i : ℕ) (r : Root) (v : Tree) → slice_get rs i ≡ Some r
      → slice_get vs i ≡ Some v → AllByRecursion (CellFits g.cells) (home_pointers w.table (home.Root (n + i)) r.of v)
  root_fit n [] vs a i r v e f = cc
  root_fit n (q ∷ rs) [] a i r v e f = cc
  root_fit n (q ∷ rs) (u ∷ vs) a zero r v e f =
      let z : n ≡ n + 0 = omega arith in
      subst (λ k. AllByRecursion Fit (home_pointers w.table (home.Root k) r.of v)) z
      (subst (λ x. AllByRecursion Fit (home_pointers w.table (home.Root n) x.of v)) (same_Some _ _ e)
      (subst (λ x. AllByRecursion Fit (home_pointers w.table (home.Root n) q.of x)) (same_Some _ _ f)
      (all_left Fit (home_pointers w.table (home.Root n) q.of u) (root_pointers w.table (n + 1) rs vs) a)))
  root_fit n (q ∷ rs) (u ∷ vs) a (suc i) r v e f =
      let z : n + 1 + i ≡ n + suc i = omega arith in
      subst (λ k. AllByRecursion Fit (home_pointers w.table (home.Root k) r.of v)) z
      (root_fit (n + 1) rs vs (all_right Fit (home_pointers w.table (home.Root n) q.of u) (root_pointers w.table (n + 1) rs vs) a) i r v e f)

  pub cell_pointers_fit : (b : ℕ) (x : Referent) → cell_of_number g b ≡ Some x → AllByRecursion (CellFits g.cells) (home_pointers w.table (cell_home b) x.of x.val)
  cell_pointers_fit zero x e = cc
  cell_pointers_fit (suc i) x e =
      let z : 1 + i ≡ suc i = omega arith in
      subst (λ k. AllByRecursion Fit (home_pointers w.table (cell_home k) x.of x.val)) z
      (cell_fit 1 g.cells (all_right Fit (root_pointers w.table 0 (root_list w) g.roots) (cell_pointers w.table 1 g.cells) typed) i x e)

  pub root_pointers_fit : (i : ℕ) (r : Root) (v : Tree) → slice_get (root_list w) i ≡ Some r → slice_get g.roots i ≡ Some v
      → AllByRecursion (CellFits g.cells) (home_pointers w.table (home.Root i) r.of v)
  root_pointers_fit i r v e f =
      let z : 0 + i ≡ i = omega arith in
      subst (λ k. AllByRecursion Fit (home_pointers w.table (home.Root k) r.of v)) z
      (root_fit 0 (root_list w) g.roots (all_left Fit (root_pointers w.table 0 (root_list w) g.roots) (cell_pointers w.table 1 g.cells) typed) i r v e f)

  -- a value that stands: its pointers fit, and a cell has its type and its value
  pub record StandsOk (x : Standing) : Type 0 where
    pub fits : AllByRecursion (CellFits g.cells) (home_pointers w.table x.home x.of x.val)
    pub its_cell : (b : ℕ) → x.home ≡ cell_home b → (y : Referent) → cell_of_number g b ≡ Some y → (y.of ≡ x.of) × (y.val ≡ x.val)

  pending_stands : (p : Pending) → CellFits g.cells p → (c : ℕ) → p.cell ≡ Some c → StandsOk (standing_cell g p c)
  pending_stands p f c e =
      let z : CellOf g.cells p.to c = f c e in
      let there : cell_of_number g c ≡ Some z.cell = ap (cell_of_number g) z.is ∙ z.there in
      let v : cell_at g c ≡ z.cell.val = ap cell_tree there in
      record {
        fits = subst (λ u. AllByRecursion Fit (home_pointers w.table (cell_home c) p.to u)) (sym v)
            (subst (λ t. AllByRecursion Fit (home_pointers w.table (cell_home c) t z.cell.val)) z.of (cell_pointers_fit c z.cell there));
        its_cell = λ b h y k. (
            let s : y ≡ z.cell = same_Some _ _ (sym k ∙ ap (cell_of_number g) (sym (same_home_number c b h)) ∙ there) in
            (ap (λ u. u.of) s ∙ z.of, ap (λ u. u.val) s ∙ sym v));
      }

  root_by : (i : ℕ) (r : Root) (l : Label) (ks : Trees) → slice_get (root_list w) i ≡ Some r → slice_get g.roots i ≡ Some (node l ks) → (o : Option (ℕ × ℕ))
      → direct (type_at w.table r.of) (node l ks) ≡ o → StandsOk (standing_by g i r.of (node l ks) o)
  root_by i r l ks e f None k = record { fits = root_pointers_fit i r (node l ks) e f; its_cell = λ b h. cc }
  root_by i r l ks e f (Some (c, t)) k =
      let m : MadeTrees w.table (r.of ∷ []) (more (node l ks) none) = root_made w.table (root_list w) g.roots made i r (node l ks) e f in
      let (to, ed, el, et) = direct_is (type_at w.table r.of) l ks c t k (made_no_null w.table (type_at w.table r.of) l ks m.0) in
      let q : Pending = record { home = home.Root i; node = 0; class = Ref; to = to.0; cell = Some c; agreements = [] } in
      let fit_all : AllByRecursion Fit (home_pointers w.table (home.Root i) r.of (node (tree.Ptr (Some c)) ks)) =
      subst (λ u. AllByRecursion Fit (home_pointers w.table (home.Root i) r.of (node u ks))) el (root_pointers_fit i r (node l ks) e f) in
      let fit_q : AllByRecursion Fit (q ∷ []) = subst (AllByRecursion Fit) (direct_pointer w.table (home.Root i) r.of c to ks ed) fit_all in
      subst (λ u. StandsOk (record { home = cell_home c; of = u; val = cell_at g c })) (sym et) (pending_stands q fit_q.0 c refl)

  pub root_ok : (i : ℕ) (r : Root) → slice_get (root_list w) i ≡ Some r → StandsOk (standing_root w g i)
  root_ok i r e =
      let (v, f) = as_many i r e in
      subst (λ t. StandsOk (standing_by g i t (root_at g i) (direct (type_at w.table t) (root_at g i)))) (sym (ap root_type e))
      (subst (λ u. StandsOk (standing_by g i r.of u (direct (type_at w.table r.of) u))) (sym (ap or_unread f)) (by_tree v f))
    where
      by_tree : (v : Tree) → slice_get g.roots i ≡ Some v → StandsOk (standing_by g i r.of v (direct (type_at w.table r.of) v))
      by_tree (node l ks) f = root_by i r l ks e f (direct (type_at w.table r.of) (node l ks)) refl

  abbrev pub DueOk : Due → Type 0
  DueOk (due_root i) = (r : Root) × (slice_get (root_list w) i ≡ Some r)
  DueOk (due_referent p) = CellFits g.cells p

  due_ok : (ps : List Pending) → AllByRecursion (CellFits g.cells) ps → AllByRecursion DueOk (map due_referent ps)
  due_ok [] a = tt
  due_ok (p ∷ ps) a = (a.0, due_ok ps a.1)

  -- a pointer is met: its cell stands, and its agreements hold there
  abbrev pub PointerMet : Placed_cells → List Step → Pending → Type 0
  PointerMet done steps p = (c : ℕ) → p.cell ≡ Some c → Covers w g done steps c × AllByRecursion (IsAgreed (cell_at g c)) p.agreements

  -- a home is met: its value passed, and its pointers are met
  pub record HomeMet (done : Placed_cells) (steps : List Step) (h : Home) (t : ℕ) (v : Tree) : Type 0 where
    pub passed : PassedAll (whole_value w.table h t v)
    pub pointers : (p : Pending) → Among (home_pointers w.table h t v) p → PointerMet done steps p

  abbrev pub DueMet : Placed_cells → List Step → Due → Type 0
  DueMet done steps (due_root i) =
      HomeMet done steps (standing_root w g i).home (standing_root w g i).of (standing_root w g i).val
      × ((c : ℕ) → Among (own (standing_root w g i).home) c → Covers w g done steps c)
  DueMet done steps (due_referent p) = PointerMet done steps p

  abbrev pub Closed : Placed_cells → List Step → Type 0
  Closed done steps = (b : ℕ) → Among (all_placed w g steps) b → (y : Referent) → cell_of_number g b ≡ Some y → HomeMet done steps (cell_home b) y.of y.val

  module _ (new done : Placed_cells) (x : Step) (steps : List Step) (of_step : (c : ℕ) → IsPlaced new c → Among (placed w g x) c) where
    pointer_before : (p : Pending) → PointerMet (new ++ done) steps p → PointerMet done (x ∷ steps) p
    pointer_before p a c e = let (k, m) = a c e in (before_step w g new done x steps of_step c k, m)

    home_before : (h : Home) (t : ℕ) (v : Tree) → HomeMet (new ++ done) steps h t v → HomeMet done (x ∷ steps) h t v
    home_before h t v a = record { passed = a.passed; pointers = λ p m. pointer_before p (a.pointers p m) }

    due_before : (d : Due) → DueMet (new ++ done) steps d → DueMet done (x ∷ steps) d
    due_before (due_root i) a = (home_before (standing_root w g i).home (standing_root w g i).of (standing_root w g i).val a.0, (λ c m. before_step w g new done x steps of_step c (a.1 c m)))
    due_before (due_referent p) a = pointer_before p a

    all_before : (ds : List Due) → AllByRecursion (DueMet (new ++ done) steps) ds → AllByRecursion (DueMet done (x ∷ steps)) ds
    all_before [] a = tt
    all_before (d ∷ ds) a = (due_before d a.0, all_before ds a.1)

  of_due : (done : Placed_cells) (steps : List Step) (ps : List Pending) (ds : List Due) → AllByRecursion (DueMet done steps) (map due_referent ps ++ ds)
      → (p : Pending) → Among ps p → PointerMet done steps p
  of_due done steps [] ds a p m = absurd m
  of_due done steps (q ∷ ps) ds a p (inl f) = subst (PointerMet done steps) (sym f) a.0
  of_due done steps (q ∷ ps) ds a p (inr m) = of_due done steps ps ds a.1 p m

  -- a home by the type and the value of its cell
  by_cell_of : (x : Standing) → StandsOk x → (done : Placed_cells) (steps : List Step) → HomeMet done steps x.home x.of x.val
      → (b : ℕ) → x.home ≡ cell_home b → (y : Referent) → cell_of_number g b ≡ Some y → HomeMet done steps (cell_home b) y.of y.val
  by_cell_of x s done steps a b h y e =
      let (et, ev) = s.its_cell b h y e in
      subst (λ u. HomeMet done steps (cell_home b) y.of u) (sym ev) (subst (λ t. HomeMet done steps (cell_home b) t x.val) (sym et) (subst (λ k. HomeMet done steps k x.of x.val) h a))

  pub met : {done : Placed_cells} {due : List Due} {steps : List Step} → Deferral w g done due steps → AllByRecursion DueOk due
      → PassedAll (flat_map (step_entries w g) steps) → AllByRecursion (DueMet done steps) due × Closed done steps
  met none_due a p = (tt, λ b m. absurd m)
  met (at_root {done = done} {i = i} {due = due} {steps = steps} f d) a p =
      let (r, e) = a.0 in
      let x : Standing = standing_root w g i in
      let s : StandsOk x = root_ok i r e in
      let ps : List Pending = home_pointers w.table x.home x.of x.val in
      let new : Placed_cells = root_cell x.home in
      let step : Step = root_stands i in
      let rest : List Entry = flat_map (step_entries w g) steps in
      let (all, closed) = met d (all_append DueOk (due_of w.table x) due (due_ok ps s.fits) a.1) (right_passed (standing_entries w.table x) rest p) in
      let its : HomeMet (new ++ done) steps x.home x.of x.val =
      record { passed = left_passed (standing_entries w.table x) rest p; pointers = λ q m. of_due (new ++ done) steps ps due all q m } in
      let home : HomeMet done (step ∷ steps) x.home x.of x.val = home_before new done step steps (of_root w g x.home) x.home x.of x.val its in (
        (
          (home, (λ b m. inr (among_left (own x.home) (all_placed w g steps) b m))),
          all_before new done step steps (of_root w g x.home) due (all_right (DueMet (new ++ done) steps) (map due_referent ps) due all),
        ),
        (λ b m y k.
            closed_at (among_split (own x.home) (all_placed w g steps) b m) (λ z. by_cell_of x s done (step ∷ steps) home b (home_is w g x.home b z) y k)
            (λ z. home_before new done step steps (of_root w g x.home) (cell_home b) y.of y.val (closed b z y k))),
      )
  met (at_null {p = p} e d) a q =
      let (all, closed) = met d a.1 q in
      (((λ k f. none_some p.cell k e f), all), closed)
  met (at_standing {done = done} {p = p} {due = due} {steps = steps} k e full h d) a q =
      let rest : List Entry = flat_map (step_entries w g) steps in
      let (all, closed) = met d a.1 (right_passed (step_tests g p k) rest q) in
      let agreed : AllByRecursion (IsAgreed (cell_at g k)) p.agreements = tests_agree w.table g (cell_home k) 0 (cell_at g k) p.agreements (left_passed (step_tests g p k) rest q).passed in (
        (
          (λ c f. (
              let z : k ≡ c = same_Some _ _ (sym e ∙ f) in
              (inl (subst (λ u. IsPlaced done u) z (full_stands done k h)), subst (λ u. AllByRecursion (IsAgreed (cell_at g u)) p.agreements) z agreed))),
          all_before [] done (stands_already p k) steps (λ c m. absurd m) due all,
        ),
        (λ b m y f. home_before [] done (stands_already p k) steps (λ c m. absurd m) (cell_home b) y.of y.val (closed b m y f)),
      )
  met (at_referent {done = done} {p = p} {due = due} {steps = steps} k e n d) a q =
      let x : Standing = standing_cell g p k in
      let s : StandsOk x = pending_stands p a.0 k e in
      let ps : List Pending = home_pointers w.table x.home x.of x.val in
      let new : Placed_cells = (p.class, k) ∷ [] in
      let step : Step = referent_stands p k in
      let rest : List Entry = flat_map (step_entries w g) steps in
      let own_entries : PassedAll (standing_entries w.table x ++ step_tests g p k) = left_passed (standing_entries w.table x ++ step_tests g p k) rest q in
      let (all, closed) = met d (all_append DueOk (due_of w.table x) due (due_ok ps s.fits) a.1) (right_passed (standing_entries w.table x ++ step_tests g p k) rest q) in
      let of_step : (c : ℕ) → IsPlaced new c → Among (placed w g step) c = λ c m. m in
      let agreed : AllByRecursion (IsAgreed (cell_at g k)) p.agreements =
      tests_agree w.table g (cell_home k) 0 (cell_at g k) p.agreements (right_passed (standing_entries w.table x) (step_tests g p k) own_entries).passed in
      let its : HomeMet (new ++ done) steps x.home x.of x.val =
      record { passed = left_passed (standing_entries w.table x) (step_tests g p k) own_entries; pointers = λ z m. of_due (new ++ done) steps ps due all z m } in
      let home : HomeMet done (step ∷ steps) x.home x.of x.val = home_before new done step steps of_step x.home x.of x.val its in (
        (
          (λ c f. (
              let z : k ≡ c = same_Some _ _ (sym e ∙ f) in
              (inr (inl (sym z)), subst (λ u. AllByRecursion (IsAgreed (cell_at g u)) p.agreements) z agreed))),
          all_before new done step steps of_step due (all_right (DueMet (new ++ done) steps) (map due_referent ps) due all),
        ),
        (λ b m y f.
            closed_at (among_split (k ∷ []) (all_placed w g steps) b m) (λ z. by_cell_of x s done (step ∷ steps) home b (ap cell_home (one_among k b z)) y f)
            (λ z. home_before new done step steps of_step (cell_home b) y.of y.val (closed b z y f))),
      )
