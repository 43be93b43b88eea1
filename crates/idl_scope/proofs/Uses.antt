-- Uses of tags, from a place on.
use Rattle.std.proofs.Common.{◌≡◌, ℕ, ◌+◌, ◌<◌, true, false, refl, sym, ap, ◌∙◌, List, ◌∷◌, drop, length, get_or, Some}
use Rattle.std.proofs.lemmas.List.{drop_more}
use Rattle.idl_scope.specs.declared.tag.TagUse.{TagUse}
use Rattle.idl_scope.specs.Known.{Known, is_defined, first_undefined}

module _ (k : Known) (us : List TagUse) (i : ℕ) (u : TagUse) (below : i < length us) (is : u ≡ get_or us i u) where
  here : drop i us ≡ u ∷ drop (i + 1) us
  here = drop_more us i u below ∙ ap (λ y. y ∷ drop (i + 1) us) (sym is)

  pub is_first_undefined : is_defined k u.kind u.tag ≡ false → first_undefined k (drop i us) ≡ Some u.place
  is_first_undefined h = ap (first_undefined k) here ∙ ap (λ b. elim b [ true ↦ first_undefined k (drop (i + 1) us) | false ↦ Some u.place ]) h

  pub is_not_undefined : is_defined k u.kind u.tag ≡ true → first_undefined k (drop i us) ≡ first_undefined k (drop (i + 1) us)
  is_not_undefined h = ap (first_undefined k) here ∙ ap (λ b. elim b [ true ↦ first_undefined k (drop (i + 1) us) | false ↦ Some u.place ]) h
