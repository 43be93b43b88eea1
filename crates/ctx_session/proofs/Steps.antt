-- What one line does, where a session is shown by lists.
use Rattle.std.proofs.Common.{◌≡◌, ◌∙◌, ap, sym, refl, subst, ℕ, suc, ◌+◌, ◌<◌, ◌≤◌, Bool, true, false, true≢false, List, [], ◌∷◌, ◌++◌, length, map, Option, Some, None, ◌==◌, arith, length-append}
use Rattle.std.proofs.Common.{remove, slice_set, nat_le, if◌then◌else◌, is_some, Result, Ok, Err, MatchResult, OnOk}
use Rattle.std.specs.List.{slice_get}
use Rattle.std.proofs.lemmas.List.{length-set}
use Rattle.std.proofs.lemmas.List.Edits.{length-remove}
use Rattle.std.proofs.lemmas.Option.{slice_get_within}
use Rattle.std.proofs.lemmas.Bool.{eqb-true}
use Rattle.std.proofs.lemmas.Grind.{common_steps}
use Rattle.uuid.specs.Parts.{is_nil_bytes}
use Rattle.ctx_store.specs.Resource.{ResourceSeen, with_line}
use Rattle.ctx_store.specs.Live.{Live, AreLive, place_of, first_of}
use Rattle.ctx_store.specs.Calls.{open_fault, Applies, Fails, Leaves, Closes, RunsDown, IsUnknown}
use Rattle.ctx_store.specs.declared.store.OpenFault.{OpenFault}
use Rattle.ctx_store.specs.declared.store.OpenFault.TheVariants.{NullId, Twice, Full}
use Rattle.ctx_session.specs.declared.answer.Answer.{Answer}
use Rattle.ctx_session.specs.declared.answer.Answer.TheVariants as answer
use Rattle.ctx_session.specs.Script.{Line, Open, Use, Close, Down}
use Rattle.ctx_session.specs.Session.{State, DoesLine, none_fresh, refused, opened, unknown_use, failed_use, applied, unknown_close, closed, failed_close, AreFresh, IsReady}

pub no_items : {X : Type 0} (xs : List X) → true ≡ (length xs == 0) → xs ≡ []
no_items [] h = refl
no_items (x ∷ xs) h = absurd (omega (arith, eqb-true (suc (length xs)) 0 (sym h)))

pub some_items : {X : Type 0} (xs : List X) → false ≡ (length xs == 0) → (x : X) × (ys : List X) × (xs ≡ x ∷ ys)
some_items [] h = cc
some_items (x ∷ xs) h = (x, xs, refl)

-- where nothing refuses an identifier the store is not full
pub not_full : (es : List Live) (id : List ℕ) → open_fault es id ≡ None → length es < 4096
not_full es id h = by (is_nil_bytes id) (is_some (place_of es id)) (nat_le 4096 (length es)) refl h
  where
    by : (a b c : Bool) → nat_le 4096 (length es) ≡ c → (if a then Some NullId else if b then Some Twice else if c then Some Full else None) ≡ None → length es < 4096
    by true b c k e = cc
    by false true c k e = cc
    by false false true k e = cc
    by false false false k e = grind (arith, common_steps)

module _ (live : List Live) (fresh spent : List ResourceSeen) where
  abbrev was : State
  was = record { live = live; fresh = fresh; spent = spent }

  pub refused_line : (client : ℕ) (id : List ℕ) (fault : OpenFault) → false ≡ (length fresh == 0) → open_fault live id ≡ Some fault
      → DoesLine was (Open client id) (answer.Refused fault) was
  refused_line client id fault h f = let s = some_items fresh h in refused s.2 f

  module _ (live' : List Live) (fresh' spent' : List ResourceSeen) where
    abbrev is : State
    is = record { live = live'; fresh = fresh'; spent = spent' }

    pub opened_line : (client : ℕ) (id : List ℕ) (r : ResourceSeen) → fresh ≡ r ∷ fresh' → spent' ≡ spent
        → live' ≡ live ++ record { id = id; client = client; resource = r } ∷ [] → open_fault live id ≡ None → DoesLine was (Open client id) answer.Done is
    opened_line client id r f p l o =
        let P : List Live → Type 0 = λ x. DoesLine was (Open client id) answer.Done (record { live = x; fresh = fresh'; spent = spent' }) in
        let Q : List ResourceSeen → Type 0 = λ x. DoesLine was (Open client id) answer.Done (record {
          live = live ++ record { id = id; client = client; resource = r } ∷ [];
          fresh = fresh';
          spent = x;
        }) in
        subst P (sym l) (subst Q (sym p) (opened f o))

    pub opened_ready : (room room' : ℕ) (e : Live) (r : ResourceSeen) (id : List ℕ) → IsReady was room → fresh ≡ r ∷ fresh' → live' ≡ live ++ e ∷ [] → open_fault live id ≡ None
        → AreLive live' → room' ≡ room → IsReady is room'
    opened_ready room room' e r id ready f l o a k =
        let few = not_full live id o in
        let n : length live' ≡ length live + 1 = ap length l ∙ length-append live (e ∷ []) in
        let m = ap length f in
        let fits = ready.fits in
        let P : List ResourceSeen → Type 0 = λ x. AreFresh x in
        record {
          live = a;
          fresh = (subst P f ready.fresh).1;
          few = omega (arith, few, n);
          fits = omega (arith, n, m, fits, k);
        }

    pub closed_line : (id : List ℕ) (ended : ResourceSeen) (failed : Bool) → Closes live live' id ended failed → fresh' ≡ fresh → spent' ≡ spent ++ ended ∷ [] → failed ≡ false
        → DoesLine was (Close id) answer.Done is
    closed_line id ended failed c f p e =
        let P : List ResourceSeen → Type 0 = λ x. DoesLine was (Close id) answer.Done (record { live = live'; fresh = x; spent = spent' }) in
        let Q : List ResourceSeen → Type 0 = λ x. DoesLine was (Close id) answer.Done (record { live = live'; fresh = fresh; spent = x }) in
        subst P (sym f) (subst Q (sym p) (closed (subst (λ b. Closes live live' id ended b) e c)))

    pub failed_line : (id : List ℕ) (ended : ResourceSeen) (failed : Bool) → Closes live live' id ended failed → fresh' ≡ fresh → spent' ≡ spent ++ ended ∷ [] → failed ≡ true
        → DoesLine was (Close id) answer.Failed is
    failed_line id ended failed c f p e =
        let P : List ResourceSeen → Type 0 = λ x. DoesLine was (Close id) answer.Failed (record { live = live'; fresh = x; spent = spent' }) in
        let Q : List ResourceSeen → Type 0 = λ x. DoesLine was (Close id) answer.Failed (record { live = live'; fresh = fresh; spent = x }) in
        subst P (sym f) (subst Q (sym p) (failed_close (subst (λ b. Closes live live' id ended b) e c)))

    pub left_ready : (room room' at : ℕ) (ended : ResourceSeen) (failed : Bool) → IsReady was room → Leaves live live' at ended failed → fresh' ≡ fresh → AreLive live'
        → room ≤ room' + 1 → IsReady is room'
    left_ready room room' at ended failed ready leaves f a h =
        let n : length live' + 1 ≡ length live = ap (λ l. length l + 1) leaves.now_is ∙ length-remove live at (slice_get_within live at leaves.entry leaves.there) in
        let m = ap length f in
        let few = ready.few in
        let fits = ready.fits in
        let P : List ResourceSeen → Type 0 = λ x. AreFresh x in
        record {
          live = a;
          fresh = subst P (sym f) ready.fresh;
          few = omega (arith, few, n);
          fits = omega (arith, n, m, fits, h);
        }

  -- something live leaves room to spend it
  pub room_to_end : (room at : ℕ) (e : Live) → IsReady was room → slice_get live at ≡ Some e → 0 < room
  room_to_end room at e ready there =
      let n = slice_get_within live at e there in
      let fits = ready.fits in
      omega (arith, n, fits)

-- an identifier that is not live
module _ (live live' : List Live) (fresh spent : List ResourceSeen) (id : List ℕ) (u : IsUnknown live live' id) where
  pub unknown_use_line : (text : List ℕ) → DoesLine (record { live = live; fresh = fresh; spent = spent }) (Use id text) answer.Unknown (record { live = live'; fresh = fresh; spent = spent })
  unknown_use_line text =
      let P : List Live → Type 0 = λ x. DoesLine (record { live = live; fresh = fresh; spent = spent }) (Use id text) answer.Unknown (record { live = x; fresh = fresh; spent = spent }) in
      subst P (sym u.same) (unknown_use u.place)

  pub unknown_close_line : DoesLine (record { live = live; fresh = fresh; spent = spent }) (Close id) answer.Unknown (record { live = live'; fresh = fresh; spent = spent })
  unknown_close_line =
      let P : List Live → Type 0 = λ x. DoesLine (record { live = live; fresh = fresh; spent = spent }) (Close id) answer.Unknown (record { live = x; fresh = fresh; spent = spent }) in
      subst P (sym u.same) (unknown_close u.place)

-- as many are live as before
pub same_ready : (live live' : List Live) (fresh spent : List ResourceSeen) (room : ℕ) → IsReady (record { live = live; fresh = fresh; spent = spent }) room
    → length live' ≡ length live → AreLive live' → IsReady (record { live = live'; fresh = fresh; spent = spent }) room
same_ready live live' fresh spent room ready n a =
    let few = ready.few in
    let fits = ready.fits in
    record {
      live = a;
      fresh = ready.fresh;
      few = omega (arith, few, n);
      fits = omega (arith, n, fits);
    }

-- a use keeps the number of what is live
pub applied_many : (live live' : List Live) (id text : List ℕ) → Applies live live' id text → length live' ≡ length live
applied_many live live' id text a = ap length a.changes.now_is ∙ length-set live a.at (record a.changes.entry { resource = with_line text a.was })

pub failed_many : (live live' : List Live) (id : List ℕ) → Fails live live' id → length live' ≡ length live
failed_many live live' id f = ap length f.changes.now_is ∙ length-set live f.at (record f.changes.entry { resource = f.is })

-- a call that nothing refuses
pub not_refused : {E : Type 0} (P Q : Type 0) (F : E → Type 0) (r : Result Unit E) → MatchResult r (λ _. Q) F → OnOk r P → ((e : E) → F e → ⊥) → P
not_refused P Q F (Ok u) m p n = p
not_refused P Q F (Err e) m p n = absurd (n e m)

pub no_fault : (es : List Live) (id : List ℕ) (fault : OpenFault) → open_fault es id ≡ None → open_fault es id ≡ Some fault → ⊥
no_fault es id fault h k = let e = sym h ∙ k in cc

-- one fresh resource more
pub all_fresh : (fresh : List ResourceSeen) (r : ResourceSeen) → AreFresh fresh → r.ended ≡ false → AreFresh (fresh ++ r ∷ [])
all_fresh [] r a h = (h, tt)
all_fresh (x ∷ fresh) r a h = (a.0, all_fresh fresh r a.1 h)

pub all_fresh_shown : {R : Type 0} (shows : R → ResourceSeen) (items now : List R) (r : R) → now ≡ items ++ r ∷ [] → AreFresh (map shows items) → (shows r).ended ≡ false
    → AreFresh (map shows now)
all_fresh_shown {R = R} shows items now r e a h =
    let P : List ResourceSeen → Type 0 = λ l. AreFresh l in
    subst P (sym (ap (λ l. map shows l) e ∙ joined items)) (all_fresh (map shows items) (shows r) a h)
  where
    joined : (xs : List R) → map shows (xs ++ r ∷ []) ≡ map shows xs ++ shows r ∷ []
    joined [] = refl
    joined (x ∷ xs) = ap (λ l. shows x ∷ l) (joined xs)
