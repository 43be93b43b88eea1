-- The inputs of a request as variables.
use Rattle.std.proofs.Common.{◌≡◌, ℕ, option_map, ◌+◌, ◌≤◌, true, List, [], ◌∷◌, ◌++◌, length, drop, Option, Some, None, refl, ap, ap₂, sym, ◌∙◌, arith, subst, append_assoc}
use Rattle.std.proofs.lemmas.List.{append-nil}
use Rattle.std.proofs.lemmas.Option.{same_Some}
use Rattle.std.specs.List.{slice_get}
use Rattle.nd_types.specs.declared.interface.Interface.{Interface}
use Rattle.nd_types.specs.declared.types.Operation.{Operation}
use Rattle.nd_types.specs.declared.types.Side.{Side}
use Rattle.nd_types.specs.declared.types.Side.TheVariants as side
use Rattle.nd_types.specs.Roots.{NamedRoot, named_roots}
use Rattle.nd_value.specs.declared.value.Graph.{Graph}
use Rattle.nd_value.specs.Tree.{Tree, none}
use Rattle.nd_value.specs.Setting.{Setting, or_unread}
use Rattle.nd_value.specs.Conforms.{Conforms, first_local}
use Rattle.nd_value.specs.Fitting.{Fitting, IsFit, IsGiven, IsGivenRequest, setting_beside, setting_of}
use Rattle.nd_lemmas.proofs.Lists.{past_end, drop_next as drop-get, drop_past as drop-past}
use Rattle.nd_value.proofs.Misfits.{local-none}
use Rattle.nd_misfits.specs.declared.numbers.RootNumber.{RootNumber}
use Rattle.nd_misfits.specs.Numbers.{number_at, numbers_of, no_number, are_small_roots}
use Rattle.nd_misfits.proofs.HomeNumbers.{roots_small}
use Rattle.nd_misfits.proofs.Walkable.{walkable_roots, walkable_cells}
use Rattle.nd_value.specs.Request.{IsRequest, IsRequestOf, ConformsIfGiven}

-- one input more
number_there : (g : Graph) (rs : List NamedRoot) (ts : List Tree) (i : ℕ) (r : NamedRoot) → slice_get rs i ≡ Some r
    → numbers_of g (drop i rs) (drop i ts)
    ≡ record { param = r.param; number = number_at g (or_unread (slice_get ts i)) } ∷ numbers_of g (drop (i + 1) rs) (drop (i + 1) ts)
number_there g rs ts i r there = by (slice_get ts i) refl
  where
    by : (o : Option Tree) → slice_get ts i ≡ o
        → numbers_of g (drop i rs) (drop i ts) ≡ record { param = r.param; number = number_at g (or_unread o) } ∷ numbers_of g (drop (i + 1) rs) (drop (i + 1) ts)
    by (Some t) e = ap₂ (numbers_of g) (drop-get rs i r there) (drop-get ts i t e)
    by None e =
        let past : length ts ≤ i = past_end ts i e in
        ap₂ (numbers_of g) (drop-get rs i r there) (drop-past ts i past)
        ∙ ap (λ us. record { param = r.param; number = no_number } ∷ numbers_of g (drop (i + 1) rs) us) (sym (drop-past ts (i + 1) (omega (arith, past))))

pub numbers_next : (g : Graph) (rs : List NamedRoot) (ts : List Tree) (i : ℕ) (r : NamedRoot) (n : RootNumber) (ns : List RootNumber) → slice_get rs i ≡ Some r
    → n ≡ record { param = r.param; number = number_at g (or_unread (slice_get ts i)) }
    → ns ++ numbers_of g (drop i rs) (drop i ts) ≡ numbers_of g rs ts
    → (ns ++ n ∷ []) ++ numbers_of g (drop (i + 1) rs) (drop (i + 1) ts) ≡ numbers_of g rs ts
numbers_next g rs ts i r n ns there is before =
    append_assoc ns (n ∷ []) (numbers_of g (drop (i + 1) rs) (drop (i + 1) ts))
    ∙ ap (λ m. ns ++ m ∷ numbers_of g (drop (i + 1) rs) (drop (i + 1) ts)) is
    ∙ ap (λ ms. ns ++ ms) (sym (number_there g rs ts i r there))
    ∙ before

pub numbers_end : (g : Graph) (rs : List NamedRoot) (ts : List Tree) (i : ℕ) (ns : List RootNumber) → length rs ≤ i
    → ns ++ numbers_of g (drop i rs) (drop i ts) ≡ numbers_of g rs ts → ns ≡ numbers_of g rs ts
numbers_end g rs ts i ns past before =
    sym (append-nil ns) ∙ ap (λ us. ns ++ numbers_of g us (drop i ts)) (sym (drop-past rs i past)) ∙ before

-- the request is judged as a fit of the inputs
pub of_request : (i : Interface) (op : ℕ) (s : Side) (q : Option Fitting) → IsRequestOf i op s q → IsRequestOf i op side.Out q
of_request i op s None h = tt
of_request i op s (Some f) h = record { interface = h.interface; op = h.op; side = h.side; judged = refl }

-- what is judged beside no request has none
no_request : (i : Interface) (o : Operation) (q : Option Graph) → IsGiven i o side.In q → q ≡ None
no_request i o None h = refl
no_request i o (Some g) h = let e = h.judged in cc

-- a fit of a request gives one
given_fit : (i : Interface) (op : ℕ) (o : Operation) (s : Side) (f : Fitting) → slice_get i.operations op ≡ Some o → IsFit f → IsRequest i op s f
    → IsGivenRequest i o s f.graph
given_fit i op o s f there fit h =
    let same : fit.operation ≡ o = same_Some _ _ (sym fit.is_there ∙ ap₂ (λ (j : Interface) n. slice_get j.operations n) h.interface h.op ∙ there) in
    let none : f.given ≡ None = no_request f.interface fit.operation f.given (subst (λ s. IsGiven f.interface fit.operation s f.given) h.side fit.request) in
    let setting : setting_beside f.interface fit.operation f.side f.given ≡ setting_of i o side.In = λ k. setting_beside (h.interface k) (same k) (h.side k) (none k) in
    record { judged = h.judged; inputs = subst (λ w. Conforms w f.graph) setting fit.conforms }

-- the same of what holds a fit, if it is given
pub given_request : {R : Type 0} (i : Interface) (op : ℕ) (o : Operation) (s : Side) (q : Option R) (held : R → Fitting) → slice_get i.operations op ≡ Some o
    → ConformsIfGiven (option_map held q) → IsRequestOf i op s (option_map held q) → IsGiven i o s (option_map (λ r. (held r).graph) q)
given_request i op o s None held there fit h = tt
given_request i op o s (Some r) held there fit h = given_fit i op o s (held r) there fit h

-- the roots of a fit are small numbers, read as those of an operation's side
abbrev AreSmall : Fitting → Interface → Side → Operation → Type 0
AreSmall f i s o = are_small_roots (numbers_of f.graph (named_roots i.types s o) f.graph.roots) ≡ true

-- the inputs of a request are small numbers
pub small_inputs : (i : Interface) (op : ℕ) (o : Operation) (f : Fitting) → slice_get i.operations op ≡ Some o → IsFit f → IsRequest i op side.Out f
    → are_small_roots (numbers_of f.graph (named_roots i.types side.In o) f.graph.roots) ≡ true
small_inputs i op o f there fit request =
    let w : Setting = setting_beside f.interface fit.operation f.side f.given in
    let local : first_local w f.graph ≡ None = local-none w f.graph fit.conforms.all_roots fit.conforms.local in
    let small = roots_small w.table (length f.graph.cells + 1) f.graph (walkable_cells w f.graph f.interface.legal.enumerators fit.conforms.few_nodes local)
    0 (named_roots w.table w.side w.op) f.graph.roots (walkable_roots w f.graph f.interface.legal.enumerators fit.conforms.few_nodes local) in
    let same : fit.operation ≡ o = same_Some _ _ (sym fit.is_there ∙ ap₂ (λ (j : Interface) n. slice_get j.operations n) request.interface request.op ∙ there) in
    subst (λ (j : Interface). AreSmall f j side.In o) request.interface
    (subst (λ s. AreSmall f f.interface s o) request.side (subst (AreSmall f f.interface f.side) same small))
