-- What the passes report is the first misfit.
use Rattle.std.proofs.Common.{◌≡◌, ℕ, [], Option, Some, None, ap, sym, ◌∙◌, subst}
use Rattle.std.specs.List.{slice_get}
use Rattle.nd_types.specs.declared.interface.Interface.{Interface}
use Rattle.nd_types.specs.declared.types.Operation.{Operation}
use Rattle.nd_types.specs.declared.types.Side.{Side}
use Rattle.nd_value.specs.declared.value.Graph.{Graph}
use Rattle.nd_value.specs.declared.item.Home.{Home}
use Rattle.nd_value.specs.declared.misfit.MisfitReason.{MisfitReason}
use Rattle.nd_value.specs.declared.misfit.Misfit.{Misfit}
use Rattle.nd_value.specs.declared.misfit.Misfit.TheVariants as answer
use Rattle.nd_value.specs.Setting.{Setting, cell_home}
use Rattle.nd_value.specs.Conforms.{all_pointers, Conforms, MisfitAt, first_local, first_shared, first_disagreeing, IsFirstMisfit, is_local, is_shared, is_unreached, is_disagreeing, IsMisfit}
use Rattle.nd_value.specs.Conforms.{IsOfNoFit}
use Rattle.nd_value.specs.Fitting.{setting_beside, IsFit, IsGiven}
use Rattle.nd_value.specs.Passes.{Tells, TellsUnreached, AreReached}
use Rattle.nd_value.proofs.Misfits.{misfit_is_no_fit}

module _ (w : Setting) (g : Graph) where
  pub told_local : (e : Misfit) → Tells (first_local w g) e → IsMisfit w g e
  told_local answer.Memory h = tt
  told_local (answer.At k n r) h = is_local _ h

  pub told_shared : (e : Misfit) → first_local w g ≡ None → Tells (first_shared [] (all_pointers w g)) e → IsMisfit w g e
  told_shared answer.Memory a h = tt
  told_shared (answer.At k n r) a h = is_shared _ a h

  pub told_unreached : (e : Misfit) → first_local w g ≡ None → first_shared [] (all_pointers w g) ≡ None → TellsUnreached w g e → IsMisfit w g e
  told_unreached answer.Memory a b h = tt
  told_unreached (answer.At k n r) a b h =
      let F : Home → ℕ → MisfitReason → MisfitAt = λ x y z. record { home = x; node = y; reason = z } in
      subst (IsFirstMisfit w g)
      (sym (ap (λ x. F x n r) h.2 ∙ ap (λ y. F (cell_home h.0) y r) h.3 ∙ ap (λ z. F (cell_home h.0) 0 z) h.4))
      (is_unreached h.0 a b h.1)

  -- the same of a graph that is the same
  pub told_unreached_in : (f : Graph) (e : Misfit) → f ≡ g → first_local w g ≡ None → first_shared [] (all_pointers w g) ≡ None → TellsUnreached w f e → IsMisfit w g e
  told_unreached_in f e s a b h = told_unreached e a b (subst (λ x. TellsUnreached w x e) s h)

  pub told_disagreeing : (e : Misfit) → first_local w g ≡ None → first_shared [] (all_pointers w g) ≡ None → AreReached w g
      → Tells (first_disagreeing w g) e → IsMisfit w g e
  told_disagreeing answer.Memory a b r h = tt
  told_disagreeing (answer.At k n s) a b r h = is_disagreeing _ a b r h

  -- where memory runs out nothing is said
  pub told_memory : (e : Misfit) → e ≡ answer.Memory → IsMisfit w g e
  told_memory e is = subst (IsMisfit w g) (sym is) tt

  -- and the graph does not conform
  pub told_no_fit : (e : Misfit) → IsMisfit w g e → IsOfNoFit w g e
  told_no_fit answer.Memory h = tt
  told_no_fit (answer.At k n r) h = misfit_is_no_fit w g _ h

-- a graph that conforms is that of a fit
pub fits_of : (i j : Interface) (n : ℕ) (o : Operation) (s : Side) (q p : Option Graph) (g f : Graph) → slice_get i.operations n ≡ Some o → f ≡ g → j ≡ i → p ≡ q
    → Conforms (setting_beside i o s q) g → IsGiven i o s q → IsFit (record { graph = f; op = n; side = s; interface = j; given = p })
fits_of i j n o s q p g f there same tied given h request =
    subst (λ x. IsFit (record { graph = f; op = n; side = s; interface = j; given = x })) (sym given)
    (subst (λ x. IsFit (record { graph = f; op = n; side = s; interface = x; given = q })) (sym tied)
    (subst (λ x. IsFit (record { graph = x; op = n; side = s; interface = i; given = q })) (sym same)
    (record { operation = o; is_there = there; conforms = h; request = request })))
