-- The steps from a pair back to the part of an operation from which it was come to.
use Rattle.std.proofs.Common.{arith, ◌≡◌, ℕ, ◌+◌, ◌<◌, ◌≤◌, List, [], ◌∷◌, ◌++◌, Option, Some, None, refl, ap, sym, ◌∙◌, subst, length, get_or, inl, inr, ◌⊎◌, append_assoc}
use Rattle.std.proofs.Common.{append-nil}
use Rattle.std.specs.Prelude.{slice_get}
use Rattle.std.proofs.lemmas.Option.{slice_get_cases, slice_get_within}
use Rattle.nd_types.specs.declared.interface.Interface.{Interface}
use Rattle.nd_types.specs.declared.types.TypeId.{TypeId}
use Rattle.nd_types.specs.Table.{Table, type_at}
use Rattle.idl_compat.specs.declared.pairs.TypePair.{TypePair}
use Rattle.idl_compat_place.specs.declared.steps.Step.{Step}
use Rattle.idl_compat_place.specs.declared.origins.Origin.{Origin}
use Rattle.idl_compat_place.specs.declared.origins.Origin.TheVariants as origin
use Rattle.idl_compat_place.specs.declared.places.Place.{Place}
use Rattle.idl_compat_place.specs.declared.trail.Trail.{Trail}
use Rattle.idl_compat_place.specs.Differences.{part_at, led, stepped, child_of}
use Rattle.idl_compat_place.specs.Trails.{IsOfPart, IsStepFrom, IsOrigin, IsTrail, IsPlaced, IsPath}

-- From the pair of an origin `g` the steps lead to the pair from which they began, that of origin `o`, and so they do after any others that lead to it.
pub record IsOnTheWay (old new : Interface) (k n base first : ℕ) (s : Trail) (end : TypePair) (o : Origin) (turn : ℕ) (g : Origin) (steps : List Step) : Type 0 where
  pub before : ℕ
  pub pair : TypePair
  pub few : before + turn ≤ length s.pairing.pairs
  pub is_origin : IsOrigin old new k n base s.pairing.pairs before pair g
  pub own : base ≤ first → base ≤ before
  pub back : before ≤ first
  pub path : (op part : ℕ) (earlier : List Step) → IsPath s.origins g op part earlier → IsPath s.origins o op part (steps ++ earlier)
  pub leads : (t u : Option TypeId) (earlier : List Step) → led old.types t earlier ≡ Some pair.old → led new.types u earlier ≡ Some pair.new
      → (led old.types t (steps ++ earlier) ≡ Some end.old) × (led new.types u (steps ++ earlier) ≡ Some end.new)

pub start : (old new : Interface) (k n base before : ℕ) (s : Trail) (p : TypePair) (g : Origin) → before ≤ length s.pairing.pairs
    → IsOrigin old new k n base s.pairing.pairs before p g → IsOnTheWay old new k n base before s p g 0 g []
start old new k n base before s p g l h =
    record {
      before = before;
      pair = p;
      few = omega (arith, l);
      is_origin = h;
      own = λ x. x;
      back = omega arith;
      path = λ op part earlier q. q;
      leads = λ t u earlier e e'. (e, e');
    }

-- the origin of each pair is there
pub origin_there : (s : Trail) (at : ℕ) → length s.origins ≡ length s.pairing.pairs → at < length s.pairing.pairs → (g : Origin) × (slice_get s.origins at ≡ Some g)
origin_there s at e l = by (slice_get_cases s.origins at).1
  where
    by : ((x : Origin) × (at < length s.origins) × (slice_get s.origins at ≡ Some x) × (get_or s.origins at x ≡ x))
        ⊎ ((length s.origins ≤ at) × (slice_get s.origins at ≡ None)) → (g : Origin) × (slice_get s.origins at ≡ Some g)
    by (inl (x, l', is, r)) = (x, is)
    by (inr (l', is)) = absurd (omega (arith, e, l, l'))

led_step : (types : Table) (t : Option TypeId) (earlier : List Step) (n : Step) (a b : TypeId) → led types t earlier ≡ Some a → child_of (type_at types a.0) n ≡ Some b
    → led types t (n ∷ earlier) ≡ Some b
led_step types t earlier n a b e f = ap (λ z. stepped types z n) e ∙ f

module _ (old new : Interface) (k n base first : ℕ) (s : Trail) (a : IsTrail old new k n base s) (end : TypePair) (o : Origin) (turn : ℕ) (steps : List Step) where
  pub next : (from : ℕ) (step : Step) (g : Origin) → ((f : Origin) → slice_get s.origins from ≡ Some f → g ≡ f)
      → IsOnTheWay old new k n base first s end o turn (origin.Step from step) steps → IsOnTheWay old new k n base first s end o (turn + 1) g (steps ++ step ∷ [])
  next from step g is w =
      let h : IsStepFrom old new base s.pairing.pairs w.before from step w.pair = w.is_origin in
      let less : from < length s.pairing.pairs = slice_get_within s.pairing.pairs from h.pair h.is_pair in
      let (f, there) = origin_there s from a.as_many less in
      record {
        before = from;
        pair = h.pair;
        few = (let b = h.is_earlier in let c = w.few in omega (arith, b, c));
        is_origin = subst (λ x. IsOrigin old new k n base s.pairing.pairs from h.pair x) (sym (is f there)) (a.each from h.pair f h.is_pair there);
        own = λ l. h.own (w.own l);
        back = (let b = h.is_earlier in let c = w.back in omega (arith, b, c));
        path = λ op part earlier q.
            subst (λ x. IsPath s.origins o op part x) (sym (append_assoc steps (step ∷ []) earlier))
            (w.path op part (step ∷ earlier) (from, f, refl, there, subst (λ x. IsPath s.origins x op part earlier) (is f there) q));
        leads = λ t u earlier e e'.
            let both = w.leads t u (step ∷ earlier) (led_step old.types t earlier step h.pair.old w.pair.old e h.is_old) (led_step new.types u earlier step h.pair.new w.pair.new e' h.is_new) in
            let same : (steps ++ step ∷ []) ++ earlier ≡ steps ++ step ∷ earlier = append_assoc steps (step ∷ []) earlier in
            (ap (λ x. led old.types t x) same ∙ both.0, ap (λ x. led new.types u x) same ∙ both.1);
      }

  pub arrived : (j i : ℕ) (l : Place) → l ≡ record { op = j; part = i; steps = steps } → IsOnTheWay old new k n base first s end o turn (origin.Part j i) steps
      → IsPlaced old new k n base first l end × IsPath s.origins o l.op l.part l.steps
  arrived j i l is w =
      let h : IsOfPart old new k n base w.before j i w.pair = w.is_origin in
      let both = w.leads (part_at old j i) (part_at new j i) [] h.is_old h.is_new in
      subst (λ x. IsPlaced old new k n base first x end × IsPath s.origins o x.op x.part x.steps) (sym is) (
        record {
          place = record {
            old_led = ap (λ x. led old.types (part_at old j i) x) (sym (append-nil steps)) ∙ both.0;
            new_led = ap (λ x. led new.types (part_at new j i) x) (sym (append-nil steps)) ∙ both.1;
            no_handles = h.no_handles;
          };
          earlier = λ l. h.earlier (let b = w.back in omega (arith, b, l));
          own = λ l. h.own (w.own l);
        },
        subst (λ x. IsPath s.origins o j i x) (append-nil steps) (w.path j i [] refl),
      )

  -- after as many turns as there are pairs the part is come to
  pub over : (g : Origin) (l : Place) → ((j i : ℕ) → g ≡ origin.Part j i → l ≡ record { op = j; part = i; steps = steps }) → length s.origins ≤ turn
      → IsOnTheWay old new k n base first s end o turn g steps → IsPlaced old new k n base first l end × IsPath s.origins o l.op l.part l.steps
  over (origin.Part j i) l is past w = arrived j i l (is j i refl) w
  over (origin.Step from step) l is past w =
      let h : IsStepFrom old new base s.pairing.pairs w.before from step w.pair = w.is_origin in
      let b = h.is_earlier in
      let c = w.few in
      let d = a.as_many in
      absurd (omega (arith, b, c, d, past))

-- the origin of a pair that is there
pub origin_is : (old new : Interface) (k n base : ℕ) (s : Trail) (at : ℕ) (p : TypePair) (g : Origin) → IsTrail old new k n base s → slice_get s.pairing.pairs at ≡ Some p
    → ((f : Origin) → slice_get s.origins at ≡ Some f → g ≡ f) → IsOrigin old new k n base s.pairing.pairs at p g
origin_is old new k n base s at p g a is found =
    let (f, there) = origin_there s at a.as_many (slice_get_within s.pairing.pairs at p is) in
    subst (λ x. IsOrigin old new k n base s.pairing.pairs at p x) (sym (found f there)) (a.each at p f is there)
