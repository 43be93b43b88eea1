-- The numbers of parameters are the values of the variables that attributes name.
use Rattle.std.proofs.Common.{◌≡◌, ℕ, ◌+◌, ◌<◌, ◌≤◌, suc, Bool, true, false, cond, eqb, List, [], ◌∷◌, ◌++◌, length, get_or, Option, Some, None, refl, ap, ap₂, sym, ◌∙◌, arith, subst, map, inl, inr}
use Rattle.std.proofs.Common.{◌⊎◌}
use Rattle.std.specs.Prelude.{filter, not, ◌&&◌}
use Rattle.std.specs.List.{slice_get, AllByRecursion}
use Rattle.std.proofs.lemmas.Option.{same_Some}
use Rattle.std.proofs.lemmas.Bool.{eqb-true, cases_lt}
use Rattle.std.proofs.lemmas.List.{get_or_past}
use Rattle.nd_types.specs.declared.types.TypeId.{TypeId}
use Rattle.nd_types.specs.declared.types.AttrVar.{AttrVar}
use Rattle.nd_types.specs.declared.types.Param.{Param}
use Rattle.nd_types.specs.declared.types.Operation.{Operation}
use Rattle.nd_types.specs.declared.types.Side.{Side}
use Rattle.nd_types.specs.declared.types.Side.TheVariants as side
use Rattle.nd_types.specs.declared.TheConstants.{HANDLE}
use Rattle.nd_types.specs.Table.{Table}
use Rattle.nd_types.specs.Roots.{Root, roots_of, params_from, result_root, root_of, root_by, pipe_of, travels, root_index, named_root}
use Rattle.nd_value.specs.declared.value.Graph.{Graph}
use Rattle.nd_value.specs.Tree.{Tree}
use Rattle.nd_value.specs.Agreement.{agreement, starred, given_value, variable, root_agreements}
use Rattle.nd_value.specs.Setting.{Setting, root_list, root_at, or_unread, unread}
use Rattle.nd_value.proofs.Apart.{all_append}
use Rattle.nd_misfits.specs.declared.numbers.ParamNumber.{ParamNumber}
use Rattle.nd_misfits.specs.declared.numbers.RootNumber.{RootNumber}
use Rattle.nd_misfits.specs.Disagreeing.{vars_of, home_vars}
use Rattle.nd_misfits.specs.Numbers.{number_at, numbers_of, given_numbers, no_number, is_param, number_among, value_by, value_in, agreements_by, AreNumbers}

-- a root is a parameter of the operation, and has its attributes; or it is the result, and has none
abbrev pub IsOfParam : Operation → Root → Type 0
IsOfParam o r = (home_vars o r.param ≡ r.vars) × ((j : ℕ) → r.param ≡ Some j → j < length o.params)

all_filter : {X : Type 0} (P : X → Type 0) (test : X → Bool) (xs : List X) → AllByRecursion P xs → AllByRecursion P (filter test xs)
all_filter P test [] h = tt
all_filter P test (x ∷ xs) h = go (test x) (all_filter P test xs h.1)
  where
    go : (b : Bool) → AllByRecursion P (filter test xs) → AllByRecursion P (cond b (x ∷ filter test xs) (filter test xs))
    go true r = (h.0, r)
    go false r = r

module _ (table : Table) (s : Side) (o : Operation) where
  root_one : (i : ℕ) (p : Param) (d : Option ℕ) → slice_get o.params i ≡ Some p → i < length o.params → IsOfParam o (root_by i p d)
  root_one i p None e h = (ap vars_of e, λ j f. subst (λ k. k < length o.params) (same_Some i j f) h)
  root_one i p (Some t) e h = (ap vars_of e, λ j f. subst (λ k. k < length o.params) (same_Some i j f) h)

  params_own : (i : ℕ) (ps : List Param) → i + length ps ≡ length o.params → ((k : ℕ) (p : Param) → slice_get ps k ≡ Some p → slice_get o.params (i + k) ≡ Some p)
      → AllByRecursion (IsOfParam o) (params_from table s i ps)
  params_own i [] n at = tt
  params_own i (p ∷ ps) n at =
      let z : i + 0 ≡ i = omega arith in
      let first : IsOfParam o (root_of table i p) = root_one i p (pipe_of table p.field.of.0) (subst (λ k. slice_get o.params k ≡ Some p) z (at 0 p refl)) (omega (arith, n)) in
      let later : AllByRecursion (IsOfParam o) (params_from table s (i + 1) ps) = params_own (i + 1) ps (omega (arith, n))
      (λ k q e. let m : i + suc k ≡ i + 1 + k = omega arith in subst (λ x. slice_get o.params x ≡ Some q) m (at (suc k) q e)) in
      go (travels s p.way && not (eqb p.field.of.0 HANDLE.0)) first later
    where
      go : (b : Bool) → IsOfParam o (root_of table i p) → AllByRecursion (IsOfParam o) (params_from table s (i + 1) ps)
          → AllByRecursion (IsOfParam o) (elim b [ true ↦ root_of table i p ∷ params_from table s (i + 1) ps | false ↦ params_from table s (i + 1) ps ])
      go true f l = (f, l)
      go false f l = l

  result_own : (s : Side) (t : Option TypeId) → AllByRecursion (IsOfParam o) (result_root s t)
  result_own side.Out (Some t) = ((refl, λ j e. cc), tt)
  result_own side.Out None = tt
  result_own side.In t = tt

  pub roots_own : AllByRecursion (IsOfParam o) (roots_of table s o)
  unfolding roots_of
  roots_own =
      let ps : List Root = params_from table s 0 o.params in
      let all : AllByRecursion (IsOfParam o) ps = params_own 0 o.params (omega arith) (λ k p e. let m : k ≡ 0 + k = omega arith in subst (λ x. slice_get o.params x ≡ Some p) m e) in
      let plain : List Root = filter (λ r. not r.is_pipe) ps in
      let pipes : List Root = filter (λ r. r.is_pipe) ps in
      all_append (IsOfParam o) (plain ++ result_root s o.result) pipes
      (all_append (IsOfParam o) plain (result_root s o.result) (all_filter (IsOfParam o) (λ r. not r.is_pipe) ps all) (result_own s o.result))
      (all_filter (IsOfParam o) (λ r. r.is_pipe) ps all)

-- no root is a parameter past the last
index_past : (o : Operation) (rs : List Root) (j i : ℕ) → length o.params ≤ j → AllByRecursion (IsOfParam o) rs → root_index rs j i ≡ None
index_past o [] j i h a = refl
index_past o (r ∷ rs) j i h a = go r.param refl (index_past o rs j (i + 1) h a.1)
  where
    by_test : (b : Bool) (k : ℕ) → r.param ≡ Some k → eqb k j ≡ b → root_index rs j (i + 1) ≡ None
        → ◌≡◌ {A = Option ℕ} (elim b [ true ↦ Some i | false ↦ root_index rs j (i + 1) ]) None
    by_test true k e f ih = let s : k ≡ j = eqb-true k j f in absurd (omega (arith, s, h, a.0.1 k e))
    by_test false k e f ih = ih

    go : (q : Option ℕ) → r.param ≡ q → root_index rs j (i + 1) ≡ None
        → ◌≡◌ {A = Option ℕ} (elim q [ None ↦ root_index rs j (i + 1) | Some k ↦ elim (eqb k j) [ true ↦ Some i | false ↦ root_index rs j (i + 1) ] ]) None
    go None e ih = ih
    go (Some k) e ih = by_test (eqb k j) k e refl ih

-- the number at a place among roots, or another one
abbrev number_found : Graph → (ℕ → Tree) → Option ℕ → ParamNumber → ParamNumber
number_found g at None other = other
number_found g at (Some i) other = number_at g (at i)

module _ (o : Operation) (g : Graph) (at : ℕ → Tree) (j : ℕ) (other : ParamNumber) where
  among_index : (rs : List Root) (ts : List Tree) (i : ℕ) → ((k : ℕ) → or_unread (slice_get ts k) ≡ at (i + k))
      → number_among (numbers_of g (map (named_root o) rs) ts) j other ≡ number_found g at (root_index rs j i) other
  among_index [] ts i h = refl
  among_index (r ∷ rs) [] i h =
      let ih = among_index rs [] (i + 1) (λ k. let m : i + 1 + k ≡ i + suc k = omega arith in h (suc k) ∙ ap at (sym m)) in
      let z : unread ≡ at i = (let m : i + 0 ≡ i = omega arith in h 0 ∙ ap at m) in
      by_param r.param ih z
    where
      by_test : (b : Bool) → number_among (numbers_of g (map (named_root o) rs) []) j other ≡ number_found g at (root_index rs j (i + 1)) other → unread ≡ at i
          → elim b [ true ↦ no_number | false ↦ number_among (numbers_of g (map (named_root o) rs) []) j other ]
          ≡ number_found g at (elim b [ true ↦ Some i | false ↦ root_index rs j (i + 1) ]) other
      by_test true ih z = ap (number_at g) z
      by_test false ih z = ih

      by_param : (q : Option ℕ) → number_among (numbers_of g (map (named_root o) rs) []) j other ≡ number_found g at (root_index rs j (i + 1)) other → unread ≡ at i
          → elim (is_param q j) [ true ↦ no_number | false ↦ number_among (numbers_of g (map (named_root o) rs) []) j other ]
          ≡ number_found g at (elim q [ None ↦ root_index rs j (i + 1) | Some k ↦ elim (eqb k j) [ true ↦ Some i | false ↦ root_index rs j (i + 1) ] ]) other
      by_param None ih z = ih
      by_param (Some k) ih z = by_test (eqb k j) ih z
  among_index (r ∷ rs) (t ∷ ts) i h =
      let ih = among_index rs ts (i + 1) (λ k. let m : i + 1 + k ≡ i + suc k = omega arith in h (suc k) ∙ ap at (sym m)) in
      let z : t ≡ at i = (let m : i + 0 ≡ i = omega arith in h 0 ∙ ap at m) in
      by_param r.param ih z
    where
      by_test : (b : Bool) → number_among (numbers_of g (map (named_root o) rs) ts) j other ≡ number_found g at (root_index rs j (i + 1)) other → t ≡ at i
          → elim b [ true ↦ number_at g t | false ↦ number_among (numbers_of g (map (named_root o) rs) ts) j other ]
          ≡ number_found g at (elim b [ true ↦ Some i | false ↦ root_index rs j (i + 1) ]) other
      by_test true ih z = ap (number_at g) z
      by_test false ih z = ih

      by_param : (q : Option ℕ) → number_among (numbers_of g (map (named_root o) rs) ts) j other ≡ number_found g at (root_index rs j (i + 1)) other → t ≡ at i
          → elim (is_param q j) [ true ↦ number_at g t | false ↦ number_among (numbers_of g (map (named_root o) rs) ts) j other ]
          ≡ number_found g at (elim q [ None ↦ root_index rs j (i + 1) | Some k ↦ elim (eqb k j) [ true ↦ Some i | false ↦ root_index rs j (i + 1) ] ]) other
      by_param None ih z = ih
      by_param (Some k) ih z = by_test (eqb k j) ih z

-- the number of a parameter that is among the roots of a graph
pub among_roots : (o : Operation) (g : Graph) (rs : List Root) (j : ℕ) (other : ParamNumber)
    → number_among (numbers_of g (map (named_root o) rs) g.roots) j other ≡ number_found g (root_at g) (root_index rs j 0) other
among_roots o g rs j other = among_index o g (root_at g) j other rs g.roots 0 (λ k. let m : k ≡ 0 + k = omega arith in ap (root_at g) m)

value_found : (g : Graph) (i : Option ℕ) (other : ParamNumber) (star : Bool)
    → value_by (number_found g (root_at g) i other) star ≡ elim i [ None ↦ value_by other star | Some k ↦ starred g star (root_at g k) ]
value_found g None other star = refl
value_found g (Some k) other true = refl
value_found g (Some k) other false = refl

nothing_found : (star : Bool) → value_by no_number star ≡ None
nothing_found true = refl
nothing_found false = refl

module _ (w : Setting) (g : Graph) where
  -- the number that the request gives
  given_is : (a : AttrVar) (q : Option Graph) → value_by (number_among (given_numbers w.table w.op q) a.var no_number) a.star ≡ given_value w a q
  given_is a None = nothing_found a.star
  given_is a (Some q) =
      let i : Option ℕ = root_index (roots_of w.table side.In w.op) a.var 0 in
      ap (λ n. value_by n a.star) (among_roots w.op q (roots_of w.table side.In w.op) a.var no_number) ∙ value_found q i no_number a.star
      ∙ ap (λ n. elim i [ None ↦ n | Some k ↦ starred q a.star (root_at q k) ]) (nothing_found a.star)

  -- the number of a parameter by the graph and the request
  both_are : (a : AttrVar)
      → value_by (number_among (numbers_of g (map (named_root w.op) (root_list w)) g.roots) a.var (number_among (given_numbers w.table w.op w.given) a.var no_number)) a.star
      ≡ variable w g a
  both_are a =
      let i : Option ℕ = root_index (root_list w) a.var 0 in
      let other : ParamNumber = number_among (given_numbers w.table w.op w.given) a.var no_number in
      ap (λ n. value_by n a.star) (among_roots w.op g (root_list w) a.var other) ∙ value_found g i other a.star
      ∙ ap (λ n. elim i [ None ↦ n | Some k ↦ starred g a.star (root_at g k) ]) (given_is a w.given)

  given_past : (a : AttrVar) (q : Option Graph) → length w.op.params ≤ a.var → given_value w a q ≡ None
  given_past a None h = refl
  given_past a (Some q) h =
      ap (λ i. elim i [ None ↦ None | Some k ↦ starred q a.star (root_at q k) ]) (index_past w.op (roots_of w.table side.In w.op) a.var 0 h (roots_own w.table side.In w.op))

  variable_past : (a : AttrVar) → length w.op.params ≤ a.var → variable w g a ≡ None
  variable_past a h =
      ap (λ i. elim i [ None ↦ given_value w a w.given | Some k ↦ starred g a.star (root_at g k) ]) (index_past w.op (root_list w) a.var 0 h (roots_own w.table w.side w.op))
      ∙ given_past a w.given h

  -- numbers by the places of parameters
  pub are_numbers : (numbers : List ParamNumber) → length numbers ≡ length w.op.params
      → ((j : ℕ) → j < length w.op.params
      → get_or numbers j no_number ≡ number_among (numbers_of g (map (named_root w.op) (root_list w)) g.roots) j (number_among (given_numbers w.table w.op w.given) j no_number))
      → AreNumbers w g numbers
  are_numbers numbers n at a = go (cases_lt a.var (length w.op.params))
    where
      go : (a.var < length w.op.params) ⊎ (length w.op.params ≤ a.var) → value_in numbers a ≡ variable w g a
      go (inl h) = ap (λ x. value_by x a.star) (at a.var h) ∙ both_are a
      go (inr h) =
          ap (λ x. value_by x a.star) (get_or_past numbers a.var no_number (omega (arith, n, h))) ∙ nothing_found a.star ∙ sym (variable_past a h)

  -- the agreements of a parameter, by these numbers
  pub agreements_are : (numbers : List ParamNumber) → AreNumbers w g numbers → (vars : List AttrVar) → agreements_by numbers vars ≡ root_agreements w g vars
  agreements_are numbers h [] = refl
  agreements_are numbers h (a ∷ rest) = ap₂ (λ x xs. agreement a.attr x ++ xs) (h a) (agreements_are numbers h rest)

-- Numbers are put to the places of parameters, from the last root to the first.
pub record PlacedFrom (roots : List RootNumber) (before now : List ParamNumber) : Type 0 where
  pub many : length now ≡ length before
  pub placed : (j : ℕ) → j < length before → get_or now j no_number ≡ number_among roots j (get_or before j no_number)
