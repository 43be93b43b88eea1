-- No identifier is live twice.
use Rattle.std.proofs.Common.{◌≡◌, ◌∙◌, ap, sym, refl, subst, ℕ, zero, suc, ◌+◌, Bool, true, false, not, cond, nat_lt, true≢false, List, [], ◌∷◌, ◌++◌}
use Rattle.std.proofs.Common.{length, Some, None, position, remove, slice_set, arith}
use Rattle.std.specs.List.{slice_get, position_or_len}
use Rattle.std.specs.Str.{bytes_eq}
use Rattle.std.proofs.lemmas.Option.{same_Some}
use Rattle.std.proofs.lemmas.Slice.Eq.{bytes_eq-Decides}
use Rattle.std.proofs.lemmas.Grind.{common_steps}
use Rattle.ctx_store.specs.Resource.{ResourceSeen}
use Rattle.ctx_store.specs.Live.{Live, AreDistinct, ids_of, place_of}
use Rattle.ctx_store.specs.Calls.{Changes, Leaves, open_fault}
use Rattle.ctx_store.proofs.Entries.{absent}
use Rattle.ctx_store.proofs.Tables.{remove_shown}
use Rattle.ctx_session.proofs.Places.{Apart, apart, apart_append, apart_remove}

irrefl : (n : ℕ) → nat_lt n n ≡ false
irrefl n = grind (arith, common_steps)

-- a test that passes nowhere has no place
module _ {X : Type 0} (p : X → Bool) where
  past_all : (xs : List X) → Apart p xs → position_or_len p xs ≡ length xs
  past_all [] a = refl
  past_all (x ∷ xs) a =
      let first = ap (λ b. cond (not b) (1 + position_or_len p xs) 0) a.0 in
      let more = past_all xs a.1 in
      let next : 1 + position_or_len p xs ≡ suc (length xs) = omega (arith, more) in
      first ∙ next

  nowhere : (xs : List X) → Apart p xs → position p xs ≡ None
  nowhere xs a =
      ap (λ n. cond (nat_lt n (length xs)) (Some n) None) (past_all xs a) ∙ ap (λ b. cond b (Some (length xs)) None) (irrefl (length xs))

not_same : (xs ys : List ℕ) → bytes_eq xs ys ≡ false → bytes_eq ys xs ≡ false
not_same xs ys h = by (bytes_eq ys xs) refl
  where
    by : (b : Bool) → bytes_eq ys xs ≡ b → bytes_eq ys xs ≡ false
    by false k = k
    by true k = let e = (bytes_eq-Decides xs ys).1 (sym ((bytes_eq-Decides ys xs).0 k)) in absurd (true≢false (sym e ∙ h))

ids_append : (es : List Live) (e : Live) → ids_of (es ++ e ∷ []) ≡ ids_of es ++ e.id ∷ []
ids_append [] e = refl
ids_append (x ∷ es) e = ap (λ l. x.id ∷ l) (ids_append es e)

opened : (es : List Live) (e : Live) → AreDistinct es → place_of es e.id ≡ None → AreDistinct (es ++ e ∷ [])
opened [] e d a = (refl, tt)
opened (x ∷ es) e d a =
    let all = apart (bytes_eq e.id) (x.id ∷ ids_of es) a in
    let own = apart_append (bytes_eq x.id) (ids_of es) e.id (apart (bytes_eq x.id) (ids_of es) d.0) (not_same e.id x.id all.0) in (
      ap (position (bytes_eq x.id)) (ids_append es e) ∙ nowhere (bytes_eq x.id) (ids_of es ++ e.id ∷ []) own,
      opened es e d.1 (nowhere (bytes_eq e.id) (ids_of es) all.1),
    )

ids_kept : (es : List Live) (at : ℕ) (e : Live) (r : ResourceSeen) → slice_get es at ≡ Some e → ids_of (slice_set es at (record e { resource = r })) ≡ ids_of es
ids_kept [] at e r h = refl
ids_kept (x ∷ es) zero e r h = ap (λ (y : Live). y.id ∷ ids_of es) (sym (same_Some x e h))
ids_kept (x ∷ es) (suc at) e r h = ap (λ l. x.id ∷ l) (ids_kept es at e r h)

called : (es : List Live) (at : ℕ) (e : Live) (r : ResourceSeen) → slice_get es at ≡ Some e → AreDistinct es → AreDistinct (slice_set es at (record e { resource = r }))
called [] at e r h d = d
called (x ∷ es) zero e r h d = (subst (λ (y : Live). place_of es y.id ≡ None) (same_Some x e h) d.0, d.1)
called (x ∷ es) (suc at) e r h d = (ap (position (bytes_eq x.id)) (ids_kept es at e r h) ∙ d.0, called es at e r h d.1)

left : (es : List Live) (at : ℕ) → AreDistinct es → AreDistinct (remove es at)
left [] zero d = d
left [] (suc at) d = d
left (x ∷ es) zero d = d.1
left (x ∷ es) (suc at) d =
    let own = apart_remove (bytes_eq x.id) (ids_of es) at (apart (bytes_eq x.id) (ids_of es) d.0) in
    (ap (position (bytes_eq x.id)) (remove_shown (λ e. e.id) es at) ∙ nowhere (bytes_eq x.id) (remove (ids_of es) at) own, left es at d.1)

pub after_open : (live : List Live) (id : List ℕ) (client : ℕ) (r : ResourceSeen) → AreDistinct live → open_fault live id ≡ None
    → AreDistinct (live ++ record { id = id; client = client; resource = r } ∷ [])
after_open live id client r d h = opened live (record { id = id; client = client; resource = r }) d (absent live id h)

pub after_call : (live now : List Live) (at : ℕ) (was is : ResourceSeen) → Changes live now at was is → AreDistinct live → AreDistinct now
after_call live now at was is c d = subst AreDistinct (sym c.now_is) (called live at c.entry is c.there d)

pub after_leaving : (live now : List Live) (at : ℕ) (spent : ResourceSeen) (failed : Bool) → Leaves live now at spent failed → AreDistinct live → AreDistinct now
after_leaving live now at spent failed l d = subst AreDistinct (sym l.now_is) (left live at d)
