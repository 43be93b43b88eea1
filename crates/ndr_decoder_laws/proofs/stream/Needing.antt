-- Each octet that is fetched is needed, if each one that was added is.
use Rattle.std.proofs.Common.{◌≡◌, ℕ, List, [], ◌∷◌, ◌++◌, length, Some, refl, ap, sym, ◌∙◌, inl, inr, ◌⊎◌, subst, append_assoc}
use Rattle.std.proofs.lemmas.List.{append-nil}
use Rattle.nd_base.specs.declared.octets.Order.{Order}
use Rattle.nd_value.specs.Setting.{Setting}
use Rattle.nd_grammar.specs.declared.reason.Reason.TheVariants as reason
use Rattle.nd_grammar.specs.StreamReader.{read_stream}
use Rattle.nd_grammar.specs.decoded.Needed.{IsNeeded}
use Rattle.nd_lemmas.proofs.Lists.{same_before_last}

-- a list is empty, or has a last item
pub last_of : (xs : List ℕ) → (xs ≡ []) ⊎ ((ys : List ℕ) × (y : ℕ) × (xs ≡ ys ++ y ∷ []))
last_of [] = inl refl
last_of (x ∷ xs) = go (last_of xs)
  where
    go : (xs ≡ []) ⊎ ((ys : List ℕ) × (y : ℕ) × (xs ≡ ys ++ y ∷ [])) → (x ∷ xs ≡ []) ⊎ ((ys : List ℕ) × (y : ℕ) × (x ∷ xs ≡ ys ++ y ∷ []))
    go (inl e) = inr ([], x, ap (λ u. x ∷ u) e)
    go (inr (ys, y, e)) = inr (x ∷ ys, y, ap (λ u. x ∷ u) e)

-- the octets that were added are needed after these
abbrev pub NeededAfter : Setting → Order → List ℕ → List ℕ → Type 0
NeededAfter w order fetched more =
    (part : List ℕ) (last : ℕ) → more ≡ part ++ last ∷ [] → (read_stream w order (fetched ++ part)).progress.stop ≡ Some (length (fetched ++ part), reason.Truncated)

pub needed_more : (w : Setting) (order : Order) (fetched more : List ℕ) → IsNeeded w order fetched → NeededAfter w order fetched more → IsNeeded w order (fetched ++ more)
needed_more w order fetched more old new part last e = go (last_of more)
  where
    go : (more ≡ []) ⊎ ((ys : List ℕ) × (y : ℕ) × (more ≡ ys ++ y ∷ [])) → (read_stream w order part).progress.stop ≡ Some (length part, reason.Truncated)
    go (inl z) = old part last (sym (append-nil fetched) ∙ ap (λ u. fetched ++ u) (sym z) ∙ e)
    go (inr (ys, y, z)) =
        let f : (fetched ++ ys) ++ y ∷ [] ≡ part ++ last ∷ [] = append_assoc fetched ys (y ∷ []) ∙ ap (λ u. fetched ++ u) (sym z) ∙ e in
        let g : fetched ++ ys ≡ part = same_before_last (fetched ++ ys) part y last f in
        subst (λ u. (read_stream w order u).progress.stop ≡ Some (length u, reason.Truncated)) g (new ys y z)
