-- A graph conforms exactly if no pass finds a misfit, and a first misfit is the only one.
use Rattle.std.proofs.Common.{◌≡◌, ℕ, ◌^◌, ◌<◌, ◌≤◌, Bool, true, false, not, ◌&&◌, ◌||◌, eqb, ltb, List, [], ◌∷◌, ◌++◌, length, Option, Some, None, refl, ap, ap₂, sym, ◌∙◌, inl, inr, ◌⊎◌, arith, cond}
use Rattle.std.specs.List.{AllByRecursion, list_all, list_any}
use Rattle.std.specs.Ordering.{int_eq}
use Rattle.std.proofs.lemmas.Bool.{eqb-true, eq-eqb, cases_order, or_parts, cond-true, cond-false}
use Rattle.std.proofs.lemmas.Bool.Decides.{Decides-int_eq}
use Rattle.std.proofs.lemmas.Option.{same_Some, none-some}
use Rattle.nd_types.specs.declared.types.Class.{Class}
use Rattle.nd_types.specs.declared.types.Class.TheVariants.{Ref, Unique, Full}
use Rattle.nd_value.specs.declared.value.Graph.{Graph}
use Rattle.nd_value.specs.declared.item.Home.TheVariants as home
use Rattle.nd_value.specs.declared.misfit.MisfitReason.{MisfitReason}
use Rattle.nd_value.specs.declared.misfit.MisfitReason.TheVariants as misfit
use Rattle.nd_value.specs.Tree as tree
use Rattle.nd_value.specs.Tree.{Tree, node, Label}
use Rattle.nd_value.specs.Agreement.{Agreement, found_in}
use Rattle.nd_value.specs.Setting.{Setting, root_list, cell_home, cell_at}
use Rattle.nd_value.specs.Nodes.{TypedNode}
use Rattle.nd_value.specs.Deferral.{Pending}
use Rattle.nd_value.specs.Conforms.{HomeNode, root_nodes, cell_nodes, all_nodes, all_pointers, Conforms, HasFewNodes, AllEarlier, ShareOnlyIfFull, Reached, subject, subject_by, IsAgreed, AgreesAt}
use Rattle.nd_value.specs.Conforms.{MisfitAt, or_later, at_node, first_node, root_count, first_local, is_full, same_cell, clashes, first_shared, IsFirstUnreached, disagreement, disagreement_of}
use Rattle.nd_value.specs.Conforms.{first_disagreeing, IsFirstMisfit, is_local, is_shared, is_unreached, is_disagreeing}
use Rattle.nd_value.specs.Misfit.{misfit_of, has_machine_values}
use Rattle.nd_value.proofs.LocalPass.{count_same as count-none}

pub all_left : {X : Type 0} (P : X → Type 0) (xs ys : List X) → AllByRecursion P (xs ++ ys) → AllByRecursion P xs
all_left P [] ys h = tt
all_left P (x ∷ xs) ys h = (h.0, all_left P xs ys h.1)

pub all_right : {X : Type 0} (P : X → Type 0) (xs ys : List X) → AllByRecursion P (xs ++ ys) → AllByRecursion P ys
all_right P [] ys h = h
all_right P (x ∷ xs) ys h = all_right P xs ys h.1

pub all_both : {X : Type 0} (P : X → Type 0) (xs ys : List X) → AllByRecursion P xs → AllByRecursion P ys → AllByRecursion P (xs ++ ys)
all_both P [] ys a b = b
all_both P (x ∷ xs) ys a b = (a.0, all_both P xs ys a.1 b)

pub neither : (a b : Option MisfitAt) → or_later a b ≡ None → (a ≡ None) × (b ≡ None)
neither None b e = (refl, e)
neither (Some m) b e = cc

module _ (test : TypedNode → Option MisfitReason) where
  -- no node of these has a reason
  abbrev pub Without : HomeNode → Type 0
  Without x = test x.typed ≡ None

  pub first-none : (xs : List HomeNode) → AllByRecursion Without xs → first_node test xs ≡ None
  first-none [] a = refl
  first-none (x ∷ xs) a = ap (λ o. or_later (at_node x o) (first_node test xs)) a.0 ∙ first-none xs a.1

  one-none : (x : HomeNode) (o : Option MisfitReason) → at_node x o ≡ None → o ≡ None
  one-none x None e = refl
  one-none x (Some r) e = cc

  pub none-first : (xs : List HomeNode) → first_node test xs ≡ None → AllByRecursion Without xs
  none-first [] e = tt
  none-first (x ∷ xs) e =
      let (a, b) = neither (at_node x (test x.typed)) (first_node test xs) e in
      (one-none x (test x.typed) a, none-first xs b)

pub none-count : (has due : ℕ) → root_count has due ≡ None → has ≡ due
none-count has due e = go (eqb has due) refl e
  where
    go : (b : Bool) → eqb has due ≡ b
        → cond {A = Option MisfitAt} b None (Some (record { home = home.Root (cond (ltb has due) has due); node = 0; reason = misfit.Shape })) ≡ None
        → has ≡ due
    go true f h = eqb-true has due f
    go false f h = cc

-- two pointers that share a cell only if they are full do not clash
full-is : (k : Class) → is_full k ≡ true → k ≡ Full
full-is Ref e = cc
full-is Unique e = cc
full-is Full e = refl

no_clash : (p q : Pending) → ShareOnlyIfFull q p → clashes p q ≡ false
no_clash p q s = go p.cell q.cell refl refl
  where
    go : (a b : Option ℕ) → p.cell ≡ a → q.cell ≡ b → (same_cell a b && not (is_full p.class && is_full q.class)) ≡ false
    go None b e f = refl
    go (Some c) None e f = refl
    go (Some c) (Some d) e f = one (eqb c d) refl
      where
        one : (t : Bool) → eqb c d ≡ t → (t && not (is_full p.class && is_full q.class)) ≡ false
        one false h = refl
        one true h =
            let (k, l) = s c (f ∙ ap Some (sym (eqb-true c d h))) e in
            ap₂ (λ u v. not (is_full u && is_full v)) l k

clash-share : (p q : Pending) → clashes q p ≡ false → ShareOnlyIfFull p q
clash-share p q e c f h =
    let same : same_cell q.cell p.cell ≡ true = ap₂ same_cell h f ∙ eq-eqb c c refl in
    let both : not (is_full q.class && is_full p.class) ≡ false = ap (λ b. b && not (is_full q.class && is_full p.class)) (sym same) ∙ e in
    let (a, b) = fulls (is_full q.class) (is_full p.class) both in
    (full-is p.class b, full-is q.class a)
  where
    fulls : (a b : Bool) → not (a && b) ≡ false → (a ≡ true) × (b ≡ true)
    fulls true true e = (refl, refl)
    fulls true false e = cc
    fulls false b e = cc

-- the earlier pointers share with none of the later ones
abbrev Apart : List Pending → List Pending → Type 0
Apart earlier ps = AllByRecursion (λ q. AllByRecursion (ShareOnlyIfFull q) ps) earlier

apart_one : (p : Pending) (ps earlier : List Pending) → Apart earlier (p ∷ ps) → list_any (clashes p) earlier ≡ false
apart_one p ps [] a = refl
apart_one p ps (q ∷ earlier) a = ap₂ (λ x y. x || y) (no_clash p q a.0.0) (apart_one p ps earlier a.1)

apart_rest : (p : Pending) (ps earlier : List Pending) → Apart earlier (p ∷ ps) → Apart earlier ps
apart_rest p ps [] a = tt
apart_rest p ps (q ∷ earlier) a = (a.0.1, apart_rest p ps earlier a.1)

shared_at : Pending → MisfitAt
shared_at p = record { home = p.home; node = p.node; reason = misfit.Shared }

pub shared-none : (earlier ps : List Pending) → Apart earlier ps → AllEarlier ShareOnlyIfFull ps → first_shared earlier ps ≡ None
shared-none earlier [] a h = refl
shared-none earlier (p ∷ ps) a h =
    cond-false (list_any (clashes p) earlier) _ (first_shared (p ∷ earlier) ps) (apart_one p ps earlier a)
    ∙ shared-none (p ∷ earlier) ps (h.0, apart_rest p ps earlier a) h.1

shared_parts : (p : Pending) (earlier ps : List Pending) → first_shared earlier (p ∷ ps) ≡ None
    → (list_any (clashes p) earlier ≡ false) × (first_shared (p ∷ earlier) ps ≡ None)
shared_parts p earlier ps e = go (list_any (clashes p) earlier) refl e
  where
    go : (b : Bool) → list_any (clashes p) earlier ≡ b
        → cond b (Some (record { home = p.home; node = p.node; reason = misfit.Shared })) (first_shared (p ∷ earlier) ps) ≡ None
        → (list_any (clashes p) earlier ≡ false) × (first_shared (p ∷ earlier) ps ≡ None)
    go true f h = cc
    go false f h = (f, h)

-- a pointer shares only if full with those that follow it, once it is among the earlier ones
none_after : (before : List Pending) (p : Pending) (behind ps : List Pending) → first_shared (before ++ p ∷ behind) ps ≡ None
    → AllByRecursion (ShareOnlyIfFull p) ps
none_after before p behind [] e = tt
none_after before p behind (q ∷ ps) e =
    let (a, b) = shared_parts q (before ++ p ∷ behind) ps e in
    (clash-share p q (among before a), none_after (q ∷ before) p behind ps b)
  where
    among : (xs : List Pending) → list_any (clashes q) (xs ++ p ∷ behind) ≡ false → clashes q p ≡ false
    among [] h = (or_parts (clashes q p) _ h).0
    among (x ∷ xs) h = among xs (or_parts (clashes q x) _ h).1

pub none-shared : (earlier ps : List Pending) → first_shared earlier ps ≡ None → AllEarlier ShareOnlyIfFull ps
none-shared earlier [] e = tt
none-shared earlier (p ∷ ps) e =
    let (a, b) = shared_parts p earlier ps e in
    (none_after [] p earlier ps b, none-shared (p ∷ earlier) ps b)

-- agreements hold exactly if none of them disagrees
agreed-none : (t : Tree) (ags : List Agreement) → AllByRecursion (IsAgreed t) ags → disagreement t ags ≡ None
agreed-none t [] h = refl
agreed-none t (a ∷ rest) h =
    cond-true (int_eq a.wanted (found_in a.attr t)) _ _ ((Decides-int_eq a.wanted (found_in a.attr t)).1 (sym h.0)) ∙ agreed-none t rest h.1

none-agreed : (t : Tree) (ags : List Agreement) → disagreement t ags ≡ None → AllByRecursion (IsAgreed t) ags
none-agreed t [] e = tt
none-agreed t (a ∷ rest) e = go (int_eq a.wanted (found_in a.attr t)) refl e (none-agreed t rest)
  where
    go : (b : Bool) → int_eq a.wanted (found_in a.attr t) ≡ b
        → cond b (disagreement t rest) (Some (misfit.Disagrees a.wanted (found_in a.attr t))) ≡ None
        → (disagreement t rest ≡ None → AllByRecursion (IsAgreed t) rest) → AllByRecursion (IsAgreed t) (a ∷ rest)
    go true f h r = (sym ((Decides-int_eq a.wanted (found_in a.attr t)).0 f), r h)
    go false f h r = cc

agrees-none : (ts : List Tree) (ags : List Agreement) → AllByRecursion (λ t. AllByRecursion (IsAgreed t) ags) ts → disagreement_of ts ags ≡ None
agrees-none [] ags h = refl
agrees-none (t ∷ ts) ags h = agreed-none t ags h.0

none-agrees : (g : Graph) (x : TypedNode) (l : Label) → disagreement_of (subject_by g x l) x.agreements ≡ None
    → AllByRecursion (λ t. AllByRecursion (IsAgreed t) x.agreements) (subject_by g x l)
none-agrees g x (tree.Ptr None) e = tt
none-agrees g x (tree.Ptr (Some c)) e = (none-agreed (cell_at g c) x.agreements e, tt)
none-agrees g x l e = (none-agreed (node l x.kids) x.agreements e, tt)

pub all_weaker : {X : Type 0} (P Q : X → Type 0) → ((x : X) → P x → Q x) → (xs : List X) → AllByRecursion P xs → AllByRecursion Q xs
all_weaker P Q f [] h = tt
all_weaker P Q f (x ∷ xs) h = (f x h.0, all_weaker P Q f xs h.1)

module _ (w : Setting) (g : Graph) where
  abbrev local_test : TypedNode → Option MisfitReason
  local_test x = misfit_of w.table g x

  abbrev agreement_test : TypedNode → Option MisfitReason
  agreement_test x = disagreement_of (subject g x) x.agreements

  abbrev roots : List HomeNode
  roots = root_nodes w g 0 (root_list w) g.roots

  abbrev cells : List HomeNode
  cells = cell_nodes w.table 1 g.cells

  pub local-none : length g.roots ≡ length (root_list w) → AllByRecursion (λ (x : HomeNode). misfit_of w.table g x.typed ≡ None) (all_nodes w g)
      → first_local w g ≡ None
  local-none many h =
      ap (λ o. or_later o (or_later (root_count (length g.roots) (length (root_list w))) (first_node local_test cells)))
      (first-none local_test roots (all_left (Without local_test) roots cells h))
      ∙ ap (λ o. or_later o (first_node local_test cells)) (count-none (length g.roots) (length (root_list w)) many)
      ∙ first-none local_test cells (all_right (Without local_test) roots cells h)

  pub none-local : first_local w g ≡ None
      → (length g.roots ≡ length (root_list w)) × AllByRecursion (λ (x : HomeNode). misfit_of w.table g x.typed ≡ None) (all_nodes w g)
  none-local e =
      let (a, rest) = neither (first_node local_test roots) _ e in
      let (b, c) = neither (root_count (length g.roots) (length (root_list w))) (first_node local_test cells) rest in (
        none-count (length g.roots) (length (root_list w)) b,
        all_both (Without local_test) roots cells (none-first local_test roots a) (none-first local_test cells c),
      )

  pub disagreeing-none : AllByRecursion (λ (x : HomeNode). AgreesAt g x.typed) (all_nodes w g) → first_disagreeing w g ≡ None
  disagreeing-none h =
      first-none agreement_test (all_nodes w g)
      (all_weaker (λ (x : HomeNode). AgreesAt g x.typed) (Without agreement_test)
      (λ x a. agrees-none (subject g x.typed) x.typed.agreements a) (all_nodes w g) h)

  pub none-disagreeing : first_disagreeing w g ≡ None → AllByRecursion (λ (x : HomeNode). AgreesAt g x.typed) (all_nodes w g)
  none-disagreeing e =
      all_weaker (Without agreement_test) (λ (x : HomeNode). AgreesAt g x.typed)
      (λ x a. none-agrees g x.typed x.typed.label a) (all_nodes w g) (none-first agreement_test (all_nodes w g) e)

  -- what has a first misfit does not conform
  pub misfit_is_no_fit : (m : MisfitAt) → IsFirstMisfit w g m → ¬ Conforms w g
  misfit_is_no_fit m (is_local n e) c = let f = local-none c.all_roots c.local in absurd (none-some _ (sym f ∙ e))
  misfit_is_no_fit m (is_shared n d e) c = let f = shared-none [] (all_pointers w g) tt c.unshared in absurd (none-some _ (sym f ∙ e))
  misfit_is_no_fit m (is_unreached b d e u) c = u.unreached (c.reached b u.is_cell.0 (omega (arith, u.is_cell.1)))
  misfit_is_no_fit m (is_disagreeing n d e r f) c = let k = disagreeing-none c.agreed in absurd (none-some _ (sym k ∙ f))

  -- what no pass finds a misfit in conforms
  pub passed_conforms : first_local w g ≡ None → first_shared [] (all_pointers w g) ≡ None
      → ((c : ℕ) → 0 < c → c ≤ length g.cells → Reached w g c) → first_disagreeing w g ≡ None
      → list_all (λ (x : HomeNode). has_machine_values x.typed.label) (all_nodes w g) ≡ true → length g.cells < 2 ^ 32 → HasFewNodes g
      → Conforms w g
  passed_conforms a b r d values few nodes = record {
    all_roots = (none-local a).0;
    machine_values = values;
    local = (none-local a).1;
    unshared = none-shared [] (all_pointers w g) b;
    reached = λ c low high. r c low (omega (arith, high));
    agreed = none-disagreeing d;
    few_cells = few;
    few_nodes = nodes;
  }

  -- the first cell that is not reached is the only one
  one_unreached : (c d : ℕ) → IsFirstUnreached w g c → IsFirstUnreached w g d → c ≡ d
  one_unreached c d u v = go (cases_order c d)
    where
      go : (c ≡ d) ⊎ ((c < d) ⊎ (d < c)) → c ≡ d
      go (inl e) = e
      go (inr (inl lt)) = absurd (u.unreached (v.earlier c u.is_cell.0 lt))
      go (inr (inr gt)) = absurd (v.unreached (u.earlier d v.is_cell.0 gt))

  pub one_first_misfit : (m n : MisfitAt) → IsFirstMisfit w g m → IsFirstMisfit w g n → m ≡ n
  one_first_misfit m n (is_local x e) (is_local y f) = same_Some _ _ (sym e ∙ f)
  one_first_misfit m n (is_local x e) (is_shared y a f) = absurd (none-some _ (sym a ∙ e))
  one_first_misfit m n (is_local x e) (is_unreached d a b v) = absurd (none-some _ (sym a ∙ e))
  one_first_misfit m n (is_local x e) (is_disagreeing y a b r f) = absurd (none-some _ (sym a ∙ e))
  one_first_misfit m n (is_shared x a e) (is_local y f) = absurd (none-some _ (sym a ∙ f))
  one_first_misfit m n (is_shared x a e) (is_shared y b f) = same_Some _ _ (sym e ∙ f)
  one_first_misfit m n (is_shared x a e) (is_unreached d b k v) = absurd (none-some _ (sym k ∙ e))
  one_first_misfit m n (is_shared x a e) (is_disagreeing y b k r f) = absurd (none-some _ (sym k ∙ e))
  one_first_misfit m n (is_unreached c a b u) (is_local y f) = absurd (none-some _ (sym a ∙ f))
  one_first_misfit m n (is_unreached c a b u) (is_shared y k f) = absurd (none-some _ (sym b ∙ f))
  one_first_misfit m n (is_unreached c a b u) (is_unreached d k l v) =
      ap (λ i. record { home = cell_home i; node = 0; reason = misfit.Unreached }) (one_unreached c d u v)
  one_first_misfit m n (is_unreached c a b u) (is_disagreeing y k l r f) = absurd (u.unreached (r c u.is_cell.0 u.is_cell.1))
  one_first_misfit m n (is_disagreeing x a b r e) (is_local y f) = absurd (none-some _ (sym a ∙ f))
  one_first_misfit m n (is_disagreeing x a b r e) (is_shared y k f) = absurd (none-some _ (sym b ∙ f))
  one_first_misfit m n (is_disagreeing x a b r e) (is_unreached d k l v) = absurd (v.unreached (r d v.is_cell.0 v.is_cell.1))
  one_first_misfit m n (is_disagreeing x a b r e) (is_disagreeing y k l s f) = same_Some _ _ (sym e ∙ f)
