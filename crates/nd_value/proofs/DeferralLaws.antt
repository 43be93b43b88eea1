-- A graph has one order of deferral: one list of steps.
use Rattle.std.proofs.Common.{◌≡◌, ℕ, List, [], ◌∷◌, ◌++◌, Option, Some, None, refl, ap, sym, ◌∙◌, subst, inl, inr, ◌⊎◌}
use Rattle.std.proofs.lemmas.Option.{same_Some}
use Rattle.nd_value.specs.declared.value.Graph.{Graph}
use Rattle.nd_value.specs.Setting.{Setting}
use Rattle.nd_value.specs.Deferral.{Due, due_root, due_referent, Step, root_stands, referent_stands, stands_already, Deferral, none_due, at_root, at_null, at_standing, at_referent, Pending, IsPlaced}
use Rattle.nd_value.specs.Deferral.{IsPlacedFull, Placed_cells, due_of, standing_cell}

pub full_stands : (done : Placed_cells) (c : ℕ) → IsPlacedFull done c → IsPlaced done c
full_stands [] c h = h
full_stands (d ∷ ds) c (inl h) = inl h.1
full_stands (d ∷ ds) c (inr h) = inr (full_stands ds c h)

module _ (w : Setting) (g : Graph) where
  pub one_order : {done : Placed_cells} {due : List Due} {us vs : List Step} → Deferral w g done due us → Deferral w g done due vs → us ≡ vs
  one_order none_due none_due = refl
  one_order (at_root {i = i} f a) (at_root f' b) = ap (λ ts. root_stands i ∷ ts) (one_order a b)
  one_order (at_null e a) (at_null f b) = one_order a b
  one_order (at_null e a) (at_standing c f k d b) = cc
  one_order (at_null e a) (at_referent c f d b) = cc
  one_order (at_standing c e k d a) (at_null f b) = cc
  one_order (at_standing {p = p} c e k d a) (at_standing c' e' k' d' b) =
      let s : c ≡ c' = same_Some _ _ (sym e ∙ e') in
      let t = one_order a b in
      cc
  one_order (at_standing {done = done} {p = p} c e k d a) (at_referent c' e' n b) =
      let s : c ≡ c' = same_Some _ _ (sym e ∙ e') in
      absurd (n (subst (λ x. IsPlaced done x) s (full_stands done c d)))
  one_order (at_referent c e n a) (at_null f b) = cc
  one_order (at_referent {done = done} {p = p} c e n a) (at_standing c' e' k d b) =
      let s : c' ≡ c = same_Some _ _ (sym e' ∙ e) in
      absurd (n (subst (λ x. IsPlaced done x) s (full_stands done c' d)))
  one_order (at_referent {done = done} {p = p} {due = due} c e n a) (at_referent {steps = vs} c' e' n' b) =
      let s : c' ≡ c = same_Some _ _ (sym e' ∙ e) in
      let b' = subst (λ x. Deferral w g ((p.class, x) ∷ done) (due_of w.table (standing_cell g p x) ++ due) vs) s b in
      let t = one_order a b' in
      cc
