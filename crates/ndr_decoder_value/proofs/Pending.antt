-- Agreements that join a pending referent: they are kept side by side, after all others.
use Rattle.std.proofs.Common.{get_or, ◌≡◌, ◌≤◌, ◌<◌, ℕ, ◌+◌, zero, suc, List, [], ◌∷◌, ◌++◌, length, take, drop, map, refl, sym, ap, ap₂, ◌∙◌, subst, arith, length-append, length-drop}
use Rattle.std.specs.Prelude.{slice_set}
use Rattle.std.specs.List.{AllByRecursion}
use Rattle.std.proofs.lemmas.List.{take-append-le, drop-append-le}
use Rattle.nd_value.specs.Agreement.{Agreement}
use Rattle.ndr_decoder_laws.specs.steps.Steps as steps
use Rattle.ndr_decoder_laws.specs.steps.Steps.{joined_by}
use Rattle.ndr_decoder_state.specs.declared.machine.Owed.{Owed}
use Rattle.ndr_decoder_state.specs.declared.machine.Wanted.{Wanted}
use Rattle.ndr_decoder_state.specs.Seen.{owed_of, agreement_of, HasGrown}
use Rattle.ndr_decoder_value.specs.Parts.{with_agreement}

-- the agreements of a referent are within these
abbrev pub IsWithin : List Wanted → Owed → Type 0
IsWithin ws o = o.from + o.len ≤ length ws

-- agreements that are kept later change none
pub span_kept : (ws more : List Wanted) (from len : ℕ) → from + len ≤ length ws → take len (drop from (ws ++ more)) ≡ take len (drop from ws)
span_kept ws more from len h =
    let fits : from ≤ length ws = omega (arith, h) in
    let rest : len ≤ length (drop from ws) = rw (length-drop from ws) (omega (arith, h)) in
    ap (take len) (drop-append-le from ws more fits) ∙ take-append-le len (drop from ws) more rest

pub owed_kept : (ws more : List Wanted) (o : Owed) → IsWithin ws o → owed_of (ws ++ more) o ≡ owed_of ws o
owed_kept ws more o h =
    ap (λ (l : List Wanted). record { class = o.class; to = o.to.0; run = o.run; cell = (owed_of ws o).cell; agreements = map agreement_of l })
    (span_kept ws more o.from o.len h)

pub fresh_kept : (ws more : List Wanted) (os : List Owed) → AllByRecursion (IsWithin ws) os → map (owed_of (ws ++ more)) os ≡ map (owed_of ws) os
fresh_kept ws more [] h = refl
fresh_kept ws more (o ∷ os) h = ap₂ (λ (x : steps.Owed) (xs : List steps.Owed). x ∷ xs) (owed_kept ws more o h.0) (fresh_kept ws more os h.1)

-- all of them are within more
pub within_kept : (ws more : List Wanted) (os : List Owed) → AllByRecursion (IsWithin ws) os → AllByRecursion (IsWithin (ws ++ more)) os
within_kept ws more [] h = tt
within_kept ws more (o ∷ os) h = (rw (length-append ws more) (omega (arith, h.0)), within_kept ws more os h.1)

-- ## One agreement more

-- the referent at a place is another one, which has one agreement more
pub joined_at : (ws more : List Wanted) (x : Agreement) (os : List Owed) (n : ℕ) (o new : Owed) → AllByRecursion (IsWithin ws) os → n < length os
    → owed_of (ws ++ more) new
    ≡ record { class = (owed_of ws o).class; to = (owed_of ws o).to; run = (owed_of ws o).run; cell = (owed_of ws o).cell; agreements = (owed_of ws o).agreements ++ x ∷ [] }
    → take 1 (drop n os) ≡ o ∷ [] → map (owed_of (ws ++ more)) (slice_set os n new) ≡ joined_by (x ∷ []) (map (owed_of ws) os) n
joined_at ws more x [] n o new h there e at = absurd (omega (arith, there))
joined_at ws more x (p ∷ ps) zero o new h there e at =
    let same : p ≡ o = cc in
    ap₂ (λ (y : steps.Owed) (ys : List steps.Owed). y ∷ ys)
    (e ∙ ap (λ (q : Owed). record { class = (owed_of ws q).class; to = (owed_of ws q).to; run = (owed_of ws q).run; cell = (owed_of ws q).cell; agreements = (owed_of ws q).agreements ++ x ∷ [] })
    (sym same))
    (fresh_kept ws more ps h.1)
joined_at ws more x (p ∷ ps) (suc n) o new h there e at =
    ap₂ (λ (y : steps.Owed) (ys : List steps.Owed). y ∷ ys) (owed_kept ws more p h.0) (joined_at ws more x ps n o new h.1 (omega (arith, there)) e at)

-- no referent is at a place past the last
pub joined_past : (ws : List Agreement) (os : List steps.Owed) (n : ℕ) → length os ≤ n → joined_by ws os n ≡ os
joined_past ws [] n h = refl
joined_past ws (o ∷ os) zero h = absurd (omega (arith, h))
joined_past ws (o ∷ os) (suc n) h = ap (λ (l : List steps.Owed). o ∷ l) (joined_past ws os n (omega (arith, h)))

-- ## Pending referents

-- the referent at a place
pub read_at : (os : List Owed) (n : ℕ) (o : Owed) → n < length os → o ≡ get_or os n o → take 1 (drop n os) ≡ o ∷ []
read_at [] n o there e = absurd (omega (arith, there))
read_at (p ∷ ps) zero o there e = ap (λ (q : Owed). q ∷ []) (sym e)
read_at (p ∷ ps) (suc n) o there e = read_at ps n o (omega (arith, there)) e

-- another in its place
within_set : (ws : List Wanted) (os : List Owed) (n : ℕ) (o : Owed) → AllByRecursion (IsWithin ws) os → IsWithin ws o → AllByRecursion (IsWithin ws) (slice_set os n o)
within_set ws [] n o h x = tt
within_set ws (p ∷ ps) zero o h x = (x, h.1)
within_set ws (p ∷ ps) (suc n) o h x = (h.0, within_set ws ps n o h.1 x)

pub still_within : (ws now : List Wanted) (os : List Owed) (n : ℕ) (o : Owed) → HasGrown ws now → AllByRecursion (IsWithin ws) os → IsWithin now o
    → AllByRecursion (IsWithin now) (slice_set os n o)
still_within ws now os n o g h x =
    within_set now os n o (subst (λ (l : List Wanted). AllByRecursion (IsWithin l) os) (sym g.1) (within_kept ws g.0 os h)) x

-- more agreements are kept, and the pending referents are within them still
pub all_within : (ws now : List Wanted) (os : List Owed) → HasGrown ws now → AllByRecursion (IsWithin ws) os → AllByRecursion (IsWithin now) os
all_within ws now os g h = subst (λ (l : List Wanted). AllByRecursion (IsWithin l) os) (sym g.1) (within_kept ws g.0 os h)

-- one of them has one agreement more
pub joined_there : (ws now : List Wanted) (one : Wanted) (os : List Owed) (n : ℕ) (o new : Owed) → HasGrown ws now → AllByRecursion (IsWithin ws) os → n < length os
    → o ≡ get_or os n o → owed_of now new ≡ with_agreement (agreement_of one) (owed_of ws o)
    → map (owed_of now) (slice_set os n new) ≡ joined_by (agreement_of one ∷ []) (map (owed_of ws) os) n
joined_there ws now one os n o new g h there e is =
    ap (λ (l : List Wanted). map (owed_of l) (slice_set os n new)) g.1
    ∙ joined_at ws g.0 (agreement_of one) os n o new h there (ap (λ (l : List Wanted). owed_of l new) (sym g.1) ∙ is) (read_at os n o there e)
