-- For graphs whose cells are shared by full pointers alone the two rules of deferral have the same steps.
use Rattle.std.proofs.Common.{◌≡◌, ℕ, zero, List, [], ◌∷◌, ◌++◌, Option, Some, None, refl, ap, sym, ◌∙◌, subst, inl, inr, ◌⊎◌}
use Rattle.std.proofs.lemmas.Option.{same_Some}
use Rattle.nd_types.specs.declared.types.Class.{Class}
use Rattle.nd_types.specs.declared.types.Class.TheVariants.{Ref, Unique, Full}
use Rattle.nd_types.specs.Roots.{Root}
use Rattle.nd_value.specs.declared.value.Graph.{Graph}
use Rattle.nd_value.specs.declared.item.Home.{Home}
use Rattle.nd_value.specs.declared.item.Home.TheVariants as home
use Rattle.nd_value.specs.Setting.{Setting, Among, root_list}
use Rattle.nd_value.specs.Deferral.{Due, due_root, due_referent, due_roots, before_pipes, Step, root_stands, referent_stands, stands_already, Deferral, none_due, at_root, at_null, at_standing}
use Rattle.nd_value.specs.Deferral.{at_referent, Pending, IsPlaced, IsPlacedFull, Placed_cells, root_cell, due_of, standing_root, standing_cell}
use Rattle.nd_value.specs.RepeatedDeferral.{RepeatedDeferral, nothing, root, null, met_again, referent, full_one}
use Rattle.nd_value.proofs.DeferralLaws.{one_order}
use Rattle.nd_value.proofs.DeferralExists.{deferral_of}
use Rattle.nd_value.proofs.NodeFacts.{IsSound, orderly}
use Rattle.nd_value.proofs.FewRoots.{few_before_pipes}

-- the cells that stand for full pointers
abbrev fulls : Placed_cells → List ℕ
fulls [] = []
fulls (d ∷ ds) = full_one d.0 d.1 ++ fulls ds

full_among : (done : Placed_cells) (c : ℕ) → IsPlacedFull done c → Among (fulls done) c
full_among [] c h = h
full_among ((Full, d) ∷ ds) c (inl h) = inl h.1
full_among ((Full, d) ∷ ds) c (inr h) = inr (full_among ds c h)
full_among ((Ref, d) ∷ ds) c (inl h) = let x : Ref ≡ Full = h.0 in absurd (cc)
full_among ((Ref, d) ∷ ds) c (inr h) = full_among ds c h
full_among ((Unique, d) ∷ ds) c (inl h) = let x : Unique ≡ Full = h.0 in absurd (cc)
full_among ((Unique, d) ∷ ds) c (inr h) = full_among ds c h

among_stands : (done : Placed_cells) (c : ℕ) → Among (fulls done) c → IsPlaced done c
among_stands [] c h = h
among_stands ((Full, d) ∷ ds) c (inl e) = inl e
among_stands ((Full, d) ∷ ds) c (inr h) = inr (among_stands ds c h)
among_stands ((Ref, d) ∷ ds) c h = inr (among_stands ds c h)
among_stands ((Unique, d) ∷ ds) c h = inr (among_stands ds c h)

no_full_root : (h : Home) (done : Placed_cells) → fulls (root_cell h ++ done) ≡ fulls done
no_full_root (home.Root i) done = refl
no_full_root (home.Cell c) done = refl

module _ (w : Setting) (g : Graph) where
  pub repeated : {done : Placed_cells} {due : List Due} {steps : List Step} → Deferral w g done due steps → RepeatedDeferral w g (fulls done) due steps
  repeated none_due = nothing
  repeated (at_root {done = done} {i = i} {due = due} {steps = steps} f a) =
      root (subst (λ u. RepeatedDeferral w g u (due_of w.table (standing_root w g i) ++ due) steps) (no_full_root (standing_root w g i).home done) (repeated a))
  repeated (at_null e a) = null e (repeated a)
  repeated (at_standing {done = done} c e k h a) = met_again c e k (full_among done c h) (repeated a)
  repeated (at_referent {done = done} c e n a) = referent c e (λ h. n (among_stands done c h.1)) (repeated a)

  one_repeated : {done : List ℕ} {due : List Due} {us vs : List Step} → RepeatedDeferral w g done due us → RepeatedDeferral w g done due vs → us ≡ vs
  one_repeated nothing nothing = refl
  one_repeated (root {i = i} a) (root b) = ap (λ ts. root_stands i ∷ ts) (one_repeated a b)
  one_repeated (null e a) (null f b) = one_repeated a b
  one_repeated (null e a) (met_again c f k d b) = cc
  one_repeated (null e a) (referent c f d b) = cc
  one_repeated (met_again c e k d a) (null f b) = cc
  one_repeated (referent c e n a) (null f b) = cc
  one_repeated (met_again {p = p} c e k d a) (met_again c' e' k' d' b) =
      let s : c ≡ c' = same_Some _ _ (sym e ∙ e') in
      let t = one_repeated a b in
      cc
  one_repeated (met_again {done = done} {p = p} c e k d a) (referent c' e' n b) =
      let s : c ≡ c' = same_Some _ _ (sym e ∙ e') in
      absurd (n (k, subst (λ x. Among done x) s d))
  one_repeated (referent {done = done} {p = p} c e n a) (met_again c' e' k d b) =
      let s : c' ≡ c = same_Some _ _ (sym e' ∙ e) in
      absurd (n (k, subst (λ x. Among done x) s d))
  one_repeated (referent {done = done} {p = p} {due = due} c e n a) (referent {steps = vs} c' e' n' b) =
      let s : c' ≡ c = same_Some _ _ (sym e' ∙ e) in
      let b' = subst (λ x. RepeatedDeferral w g (full_one p.class x ++ done) (due_of w.table (standing_cell g p x) ++ due) vs) s b in
      let t = one_repeated a b' in
      cc

  abbrev due_first : List Due
  due_first = due_roots 0 (before_pipes (root_list w))

  -- a sound graph has an order of deferral
  pub deferral_is : IsSound w g → (steps : List Step) × Deferral w g [] due_first steps
  deferral_is s = deferral_of w g (orderly w g s) (before_pipes (root_list w)) (few_before_pipes (root_list w))

  -- and it is the one by the other rule too
  pub deferral_not_repeated : IsSound w g → (steps : List Step) → RepeatedDeferral w g [] due_first steps → Deferral w g [] due_first steps
  deferral_not_repeated s steps r =
      let (us, d) = deferral_is s in
      subst (λ u. Deferral w g [] due_first u) (one_repeated (repeated d) r) d
