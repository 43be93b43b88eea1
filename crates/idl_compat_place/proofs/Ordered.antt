-- The order of origins is the order in which the places of their pairs are visited.
use Rattle.std.proofs.Common.{arith, ◌≡◌, ℕ, ◌+◌, ◌<◌, ◌≤◌, suc, List, [], ◌∷◌, ◌++◌, Option, Some, None, refl, ap, sym, ◌∙◌, subst, length, get_or, inl, inr, ◌⊎◌}
use Rattle.std.specs.Prelude.{slice_get}
use Rattle.std.proofs.lemmas.Option.{same_Some, slice_get_cases, slice_get_within}
use Rattle.nd_types.specs.declared.interface.Interface.{Interface}
use Rattle.idl_compat.specs.declared.pairs.TypePair.{TypePair}
use Rattle.idl_compat_place.specs.declared.steps.Step.{Step}
use Rattle.idl_compat_place.specs.declared.steps.Step.TheVariants as step
use Rattle.idl_compat_place.specs.declared.origins.Origin.{Origin}
use Rattle.idl_compat_place.specs.declared.origins.Origin.TheVariants as origin
use Rattle.idl_compat_place.specs.declared.trail.Trail.{Trail}
use Rattle.idl_compat_place.specs.declared.trail.End.{End}
use Rattle.idl_compat_place.specs.Differences.{turn, number, IsStepBefore, AreStepsBefore}
use Rattle.idl_compat_place.specs.Trails.{IsOrigin, IsTrail, IsOriginBefore, AreBefore, EndsAfter, IsEndInOrder, AreInOrder, ComesTo, IsPath}
use Rattle.idl_compat_place.proofs.Trailing.{last_or_before}

-- ## One after the other

step_after : (a b c : Step) → IsStepBefore a b → IsStepBefore b c → IsStepBefore a c
step_after a b c (inl x) (inl y) = inl (omega (arith, x, y))
step_after a b c (inl x) (inr (e, y)) = inl (omega (arith, x, e))
step_after a b c (inr (e, x)) (inl y) = inl (omega (arith, e, y))
step_after a b c (inr (e, x)) (inr (f, y)) = inr (omega (arith, e, f), omega (arith, x, y))

origin_after : (f g h : Origin) → IsOriginBefore f g → IsOriginBefore g h → IsOriginBefore f h
origin_after (origin.Part a b) (origin.Part c d) (origin.Part t u) x y = absurd y
origin_after (origin.Step a b) (origin.Part c d) (origin.Part t u) x y = absurd y
origin_after (origin.Part a b) (origin.Step c d) (origin.Part t u) x y = absurd y
origin_after (origin.Step a b) (origin.Step c d) (origin.Part t u) x y = absurd y
origin_after (origin.Part a b) (origin.Part c d) (origin.Step t u) x y = absurd x
origin_after (origin.Step a b) (origin.Part c d) (origin.Step t u) x y = absurd x
origin_after (origin.Part a b) (origin.Step c d) (origin.Step t u) x y = tt
origin_after (origin.Step a b) (origin.Step c d) (origin.Step t u) x y = by x y
  where
    by : (a < c) ⊎ ((a ≡ c) × IsStepBefore b d) → (c < t) ⊎ ((c ≡ t) × IsStepBefore d u) → (a < t) ⊎ ((a ≡ t) × IsStepBefore b u)
    by (inl x) (inl y) = inl (omega (arith, x, y))
    by (inl x) (inr (e, y)) = inl (omega (arith, x, e))
    by (inr (e, x)) (inl y) = inl (omega (arith, e, y))
    by (inr (e, x)) (inr (f, y)) = inr (e ∙ f, step_after b d u x y)

-- no origin is before that of a part
none_before : (g : Origin) (j i : ℕ) → IsOriginBefore g (origin.Part j i) → ⊥
none_before (origin.Part a b) j i h = h
none_before (origin.Step a b) j i h = h

-- the steps from a type, in their order
pub next_part : (from many : ℕ) → IsOriginBefore (origin.Step from (step.Nth many)) (origin.Step from (step.Nth (many + 1)))
next_part from many = let less : many < many + 1 = omega arith in inr (refl, inr (refl, less))

pub part_default : (from many : ℕ) → IsOriginBefore (origin.Step from (step.Nth many)) (origin.Step from step.Default)
part_default from many = let less : 0 < 1 = omega arith in inr (refl, inl less)

pub default_tag : (from : ℕ) → IsOriginBefore (origin.Step from step.Default) (origin.Step from step.Tag)
default_tag from = let less : 1 < 2 = omega arith in inr (refl, inl less)

pub tag_next : (from : ℕ) → IsOriginBefore (origin.Step from step.Tag) (origin.Step (from + 1) (step.Nth 0))
tag_next from = inl (omega arith)

-- the types of a part come before those that the types of its first pair name
pub first_next : (old new : Interface) (k n base : ℕ) (pairs : List TypePair) (p : TypePair) (g : Origin) (at : ℕ) → at ≡ length pairs
    → IsOrigin old new k n base pairs (length pairs) p g → IsOriginBefore g (origin.Step at (step.Nth 0))
first_next old new k n base pairs p (origin.Part j i) at e h = tt
first_next old new k n base pairs p (origin.Step from step) at e h = inl (let a = h.is_earlier in omega (arith, a, e))

module _ (base : ℕ) (gs : List Origin) where
  -- where none is of the part, all are before any
  pub none_own : (g : Origin) → length gs ≤ base → AreBefore base gs g
  none_own g few = record {
    sorted = λ at i f h l less e e'. absurd (let a : at < length gs = slice_get_within gs at f e in omega (arith, a, l, few));
    before = λ at f l e. absurd (let a : at < length gs = slice_get_within gs at f e in omega (arith, a, l, few));
  }

  pub before_later : (g h : Origin) → AreBefore base gs g → IsOriginBefore g h → AreBefore base gs h
  before_later g h a up = record { sorted = a.sorted; before = λ at f l e. origin_after f g h (a.before at f l e) up }

  pub before_more : (g h : Origin) → AreBefore base gs g → IsOriginBefore g h → AreBefore base (gs ++ g ∷ []) h
  before_more g h a up = record { sorted = in_order; before = all_before }
    where
      in_order : (at i : ℕ) (f f' : Origin) → base ≤ at → at < i → slice_get (gs ++ g ∷ []) at ≡ Some f → slice_get (gs ++ g ∷ []) i ≡ Some f' → IsOriginBefore f f'
      in_order at i f f' l less e e' = by (last_or_before gs g f at e) (last_or_before gs g f' i e')
        where
          by : ((at < length gs) × (slice_get gs at ≡ Some f)) ⊎ ((at ≡ length gs) × (g ≡ f))
              → ((i < length gs) × (slice_get gs i ≡ Some f')) ⊎ ((i ≡ length gs) × (g ≡ f')) → IsOriginBefore f f'
          by (inl (x, is)) (inl (y, is')) = a.sorted at i f f' l less is is'
          by (inl (x, is)) (inr (y, same)) = subst (λ z. IsOriginBefore f z) same (a.before at f l is)
          by (inr (x, same)) (inl (y, is')) = absurd (omega (arith, x, y, less))
          by (inr (x, same)) (inr (y, same')) = absurd (omega (arith, x, y, less))

      all_before : (at : ℕ) (f : Origin) → base ≤ at → slice_get (gs ++ g ∷ []) at ≡ Some f → IsOriginBefore f h
      all_before at f l e = by (last_or_before gs g f at e)
        where
          by : ((at < length gs) × (slice_get gs at ≡ Some f)) ⊎ ((at ≡ length gs) × (g ≡ f)) → IsOriginBefore f h
          by (inl (x, is)) = origin_after f g h (a.before at f l is) up
          by (inr (x, same)) = subst (λ z. IsOriginBefore z h) same up

  pub ends_after : (g : Origin) (o : Option ℕ) → AreBefore base gs g → EndsAfter base gs g o
  ends_after g None a = tt
  ends_after g (Some at) a = a

  pub ends_alone : (e : End) → e.other ≡ None → IsEndInOrder base gs e
  ends_alone e is = subst (EndsAfter base gs e.origin) (sym is) tt

  pub comes_none : (g : Origin) (o : Option End) → ComesTo base gs g o → o ≡ None → AreBefore base gs g
  comes_none g None h is = h
  comes_none g (Some e) h is = cc

  pub comes_some : (g : Origin) (o : Option End) (d : End) → ComesTo base gs g o → o ≡ Some d → IsEndInOrder base gs d
  comes_some g None d h is = cc
  comes_some g (Some e) d h is = subst (IsEndInOrder base gs) (same_Some e d is) h

  pub ends_some : (o : Option End) (d : End) → AreInOrder base gs o → o ≡ Some d → IsEndInOrder base gs d
  ends_some None d h is = cc
  ends_some (Some e) d h is = subst (IsEndInOrder base gs) (same_Some e d is) h

  pub end_before : (e : End) (at : ℕ) → IsEndInOrder base gs e → e.other ≡ Some at → AreBefore base gs e.origin
  end_before e at h is = subst (EndsAfter base gs e.origin) is h

-- ## Paths

same_path : (gs : List Origin) (op part op' part' : ℕ) (steps others : List Step) (g : Origin) → IsPath gs g op part steps → IsPath gs g op' part' others → steps ≡ others
same_path gs op part op' part' [] [] g h h' = refl
same_path gs op part op' part' [] (b ∷ others) g h (from, f, is, at, rest) = absurd (part_or_step op part from b (sym h ∙ is))
  where
    part_or_step : (j i from : ℕ) (b : Step) → origin.Part j i ≡ origin.Step from b → ⊥
    part_or_step j i from b e = cc
same_path gs op part op' part' (a ∷ steps) [] g (from, f, is, at, rest) h = absurd (part_or_step op' part' from a (sym h ∙ is))
  where
    part_or_step : (j i from : ℕ) (b : Step) → origin.Part j i ≡ origin.Step from b → ⊥
    part_or_step j i from b e = cc
same_path gs op part op' part' (a ∷ steps) (b ∷ others) g (from, f, is, at, rest) (from', f', is', at', rest') =
    let both : origin.Step from a ≡ origin.Step from' b = sym is ∙ is' in
    let first : from ≡ from' = cc in
    let last : a ≡ b = cc in
    let here : f ≡ f' = same_Some f f' (sym at ∙ ap (λ x. slice_get gs x) first ∙ at') in
    let tails : steps ≡ others = same_path gs op part op' part' steps others f rest (subst (λ x. IsPath gs x op' part' others) (sym here) rest') in
    ap (λ x. x ∷ steps) last ∙ ap (λ x. b ∷ x) tails

-- the pair of each origin is there
pair_there : (s : Trail) (at : ℕ) → length s.origins ≡ length s.pairing.pairs → at < length s.origins → (p : TypePair) × (slice_get s.pairing.pairs at ≡ Some p)
pair_there s at e l = by (slice_get_cases s.pairing.pairs at).1
  where
    by : ((x : TypePair) × (at < length s.pairing.pairs) × (slice_get s.pairing.pairs at ≡ Some x) × (get_or s.pairing.pairs at x ≡ x))
        ⊎ ((length s.pairing.pairs ≤ at) × (slice_get s.pairing.pairs at ≡ None)) → (p : TypePair) × (slice_get s.pairing.pairs at ≡ Some p)
    by (inl (x, l', is, r)) = (x, is)
    by (inr (l', is)) = absurd (omega (arith, e, l, l'))

-- an origin of the part that is walked steps from a pair of it
abbrev pub AreOwn : ℕ → Origin → Type 0
AreOwn base g = (from : ℕ) (step : Step) → g ≡ origin.Step from step → base ≤ from

pub own_origin : (old new : Interface) (k n base : ℕ) (pairs : List TypePair) (before : ℕ) (p : TypePair) (g : Origin) → IsOrigin old new k n base pairs before p g → base ≤ before
    → AreOwn base g
own_origin old new k n base pairs before p (origin.Part j i) h l from step is = cc
own_origin old new k n base pairs before p (origin.Step from' step') h l from step is =
    let same : from' ≡ from = cc in
    let low = h.own l in
    omega (arith, low, same)

module _ (old new : Interface) (k n base : ℕ) (s : Trail) (a : IsTrail old new k n base s) where
  pub own_there : (at : ℕ) (g : Origin) → base ≤ at → slice_get s.origins at ≡ Some g → AreOwn base g
  own_there at g l is =
      let (p, there) = pair_there s at a.as_many (slice_get_within s.origins at g is) in
      own_origin old new k n base s.pairing.pairs at p g (a.each at p g there is) l

  module _ (sorted : (at i : ℕ) (f h : Origin) → base ≤ at → at < i → slice_get s.origins at ≡ Some f → slice_get s.origins i ≡ Some h → IsOriginBefore f h) where
    -- earlier origins of a part have earlier steps
    pub steps_before : (op part op' part' : ℕ) (steps others : List Step) (g h : Origin) → AreOwn base g → AreOwn base h → IsOriginBefore g h → IsPath s.origins g op part steps
        → IsPath s.origins h op' part' others → AreStepsBefore steps others
    steps_before op part op' part' [] [] g h own own' b path path' = none_before g op' part' (subst (IsOriginBefore g) path' b)
    steps_before op part op' part' (x ∷ steps) [] g h own own' b path path' = none_before g op' part' (subst (IsOriginBefore g) path' b)
    steps_before op part op' part' [] (y ∷ others) g h own own' b path path' = tt
    steps_before op part op' part' (x ∷ steps) (y ∷ others) g h own own' b (from, f, is, at, rest) (from', f', is', at', rest') =
        by
        (λ l. steps_before op part op' part' steps others f f' (own_there from f (own from x is) at) (own_there from' f' (own' from' y is') at')
        (sorted from from' f f' (own from x is) l at at') rest rest')
        (subst (IsOriginBefore (origin.Step from x)) is' (subst (λ z. IsOriginBefore z h) is b))
      where
        by : ((from < from') → AreStepsBefore steps others) → (from < from') ⊎ ((from ≡ from') × IsStepBefore x y)
            → AreStepsBefore steps others ⊎ ((steps ≡ others) × IsStepBefore x y)
        by fewer (inl l) = inl (fewer l)
        by fewer (inr (same, next)) =
            let here : f ≡ f' = same_Some f f' (sym at ∙ ap (λ z. slice_get s.origins z) same ∙ at') in
            inr (same_path s.origins op part op' part' steps others f rest (subst (λ z. IsPath s.origins z op' part' others) (sym here) rest'), next)
