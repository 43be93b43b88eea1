-- What the checks of a side try are the agreements of its parameters.
use Rattle.std.proofs.Common.{◌≡◌, ℕ, ◌+◌, ◌≤◌, ℤ, zero, suc, Bool, true, false, List, [], ◌∷◌, ◌++◌, length, Option, Some, None, refl, ap, ap₂, sym, ◌∙◌, subst, arith, append_assoc}
use Rattle.std.specs.Prelude.{flat_map}
use Rattle.std.specs.List.{slice_get}
use Rattle.std.proofs.lemmas.Grind.{flat_map-append}
use Rattle.std.proofs.lemmas.List.{append-nil}
use Rattle.nd_types.specs.declared.types.AttrVar.{AttrVar}
use Rattle.nd_types.specs.declared.types.Side.{Side}
use Rattle.nd_types.specs.declared.types.Side.TheVariants as side
use Rattle.nd_types.specs.Roots.{Root, roots_of, root_index}
use Rattle.nd_value.specs.declared.value.Graph.{Graph}
use Rattle.nd_value.specs.declared.item.Home.{Home}
use Rattle.nd_value.specs.declared.item.Home.TheVariants as home
use Rattle.nd_value.specs.Tree as tree
use Rattle.nd_value.specs.Tree.{Tree, node}
use Rattle.nd_value.specs.Agreement.{Agreement, agreement, found_in, starred, given_value, variable, root_agreements}
use Rattle.nd_value.specs.Setting.{Setting, root_list, root_at, or_unread, cell_at, cell_home}
use Rattle.nd_grammar.specs.Entry.{Entry, Test, tests}
use Rattle.nd_grammar.specs.Stream.{root_test, root_tests}
use Rattle.ndr_code.specs.declared.instr.Instr.{Instr}
use Rattle.ndr_code.specs.declared.instr.Instr.TheVariants as op
use Rattle.ndr_code.specs.Code.{given_check, root_check, vars_checks, root_checks, checks_run}
use Rattle.ndr_code.specs.Tried.{given_number, tried}

tests_both : (h : Home) (n : ℕ) (t : Tree) (xs ys : List Agreement) → tests h n t (xs ++ ys) ≡ tests h n t xs ++ tests h n t ys
tests_both h n t [] ys = refl
tests_both h n t (x ∷ xs) ys = ap (λ u. record { home = h; node = n; kind = Test x.attr x.wanted (found_in x.attr t) } ∷ u) (tests_both h n t xs ys)

module _ (g : Graph) (i : ℕ) where
  root_both : (v : Tree) (xs ys : List Agreement) → root_test g i v (xs ++ ys) ≡ root_test g i v xs ++ root_test g i v ys
  root_both (node (tree.Ptr None) ks) xs ys = refl
  root_both (node (tree.Ptr (Some c)) ks) xs ys = tests_both (cell_home c) 0 (cell_at g c) xs ys
  root_both (node (tree.Num z) ks) xs ys = tests_both (home.Root i) 0 (node (tree.Num z) ks) xs ys
  root_both (node l ks) xs ys = tests_both (home.Root i) 0 (node l ks) xs ys

  root_none : (v : Tree) → root_test g i v [] ≡ []
  root_none (node (tree.Ptr None) ks) = refl
  root_none (node (tree.Ptr (Some c)) ks) = refl
  root_none (node (tree.Num z) ks) = refl
  root_none (node l ks) = refl

module _ (w : Setting) (g : Graph) where
  abbrev asked : List Root
  asked = roots_of w.table side.In w.op

  abbrev found : ℕ → AttrVar → Option ℤ → List Entry
  found i a z = root_test g i (root_at g i) (agreement a.attr z)

  -- an attribute whose variable is no root of this side
  given_tried : (i : ℕ) (a : AttrVar) → root_index (root_list w) a.var 0 ≡ None → (s : Side) → w.side ≡ s → (o : Option ℕ) → root_index asked a.var 0 ≡ o
      → (q : Option Graph) → w.given ≡ q → flat_map (tried w g) (given_check s i a o) ≡ found i a (given_value w a q)
  given_tried i a e side.In f o h None k = sym (root_none g i (root_at g i))
  given_tried i a e side.In f o h (Some q) k =
      let none_asked : root_index asked a.var 0 ≡ None = ap (λ s. root_index (roots_of w.table s w.op) a.var 0) (sym f) ∙ e in
      sym (ap (λ u. found i a (elim u [ None ↦ None | Some v ↦ starred q a.star (root_at q v) ])) none_asked ∙ root_none g i (root_at g i))
  given_tried i a e side.Out f (Some v) h None k = append-nil _ ∙ ap (λ u. found i a (given_number a.star v u)) k
  given_tried i a e side.Out f (Some v) h (Some q) k =
      append-nil _ ∙ ap (λ u. found i a (given_number a.star v u)) k
      ∙ sym (ap (λ u. found i a (elim u [ None ↦ None | Some v ↦ starred q a.star (root_at q v) ])) h)
  given_tried i a e side.Out f None h None k = sym (root_none g i (root_at g i))
  given_tried i a e side.Out f None h (Some q) k =
      sym (ap (λ u. found i a (elim u [ None ↦ None | Some v ↦ starred q a.star (root_at q v) ])) h ∙ root_none g i (root_at g i))

  one_tried : (i : ℕ) (a : AttrVar) (o : Option ℕ) → root_index (root_list w) a.var 0 ≡ o
      → flat_map (tried w g) (root_check w.side asked i a o) ≡ found i a (elim o [ None ↦ given_value w a w.given | Some v ↦ starred g a.star (root_at g v) ])
  one_tried i a (Some v) e = append-nil _
  one_tried i a None e = given_tried i a e w.side refl (root_index asked a.var 0) refl w.given refl

  vars_tried : (i : ℕ) (vars : List AttrVar) → flat_map (tried w g) (vars_checks w.side (root_list w) asked i vars) ≡ root_test g i (root_at g i) (root_agreements w g vars)
  vars_tried i [] = sym (root_none g i (root_at g i))
  vars_tried i (a ∷ vars) =
      let X : List Instr = root_check w.side asked i a (root_index (root_list w) a.var 0) in
      flat_map-append (tried w g) X (vars_checks w.side (root_list w) asked i vars)
      ∙ ap₂ (λ u v. u ++ v) (one_tried i a (root_index (root_list w) a.var 0) refl) (vars_tried i vars)
      ∙ sym (root_both g i (root_at g i) (agreement a.attr (variable w g a)) (root_agreements w g vars))

  -- from the i-th root on
  roots_tried : (i : ℕ) (rs : List Root) (vs : List Tree) → length vs ≡ length rs → ((j : ℕ) (v : Tree) → slice_get vs j ≡ Some v → root_at g (i + j) ≡ v)
      → flat_map (tried w g) (root_checks w.side (root_list w) asked i rs) ≡ root_tests w g i rs vs
  roots_tried i [] vs e f = refl
  roots_tried i (r ∷ rs) [] e f = cc
  roots_tried i (r ∷ rs) (v ∷ vs) e f =
      let here : root_at g i ≡ v = ap (root_at g) (omega arith) ∙ f 0 v refl in
      let n : suc i ≡ i + 1 = omega arith in
      flat_map-append (tried w g) (vars_checks w.side (root_list w) asked i r.vars) (root_checks w.side (root_list w) asked (suc i) rs)
      ∙ ap₂ (λ x y. x ++ y) (vars_tried i r.vars ∙ ap (λ u. root_test g i u (root_agreements w g r.vars)) here)
      (roots_tried (suc i) rs vs (omega (arith, e)) (λ j u k. ap (root_at g) (omega arith) ∙ f (suc j) u k) ∙ ap (λ k. root_tests w g k rs vs) n)

  pub checks_tried : length g.roots ≡ length (root_list w) → flat_map (tried w g) (checks_run w.table w.op w.side) ≡ root_tests w g 0 (root_list w) g.roots
  checks_tried e =
      flat_map-append (tried w g) (root_checks w.side (root_list w) asked 0 (root_list w)) (op.Ret ∷ [])
      ∙ append-nil (flat_map (tried w g) (root_checks w.side (root_list w) asked 0 (root_list w)))
      ∙ roots_tried 0 (root_list w) g.roots e (λ j v k. ap (root_at g) (omega arith) ∙ ap or_unread k)
