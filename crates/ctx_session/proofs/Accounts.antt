-- Each resource that a session opened is accounted for.
use Rattle.std.proofs.Common.{◌≡◌, ◌∙◌, ap, sym, refl, subst, ℕ, zero, suc, ◌+◌, Bool, true, false, true≢false, List, [], ◌∷◌, ◌++◌, map, Option, Some, None, option_map, position, eqb, arith}
use Rattle.std.proofs.Common.{append_assoc, append-nil, remove, slice_set, if◌then◌else◌}
use Rattle.std.specs.List.{slice_get}
use Rattle.std.specs.Str.{bytes_eq}
use Rattle.std.proofs.lemmas.Option.{slice_get-map, slice_get_within, same_Some}
use Rattle.std.proofs.lemmas.List.Edits.{remove-append_left}
use Rattle.std.proofs.lemmas.List.{length-map}
use Rattle.std.proofs.lemmas.Slice.Eq.{bytes_eq-Decides}
use Rattle.ctx_store.specs.Resource.{ResourceSeen, with_line, HasFailed, HasEndedSo}
use Rattle.ctx_store.specs.Live.{Live, ids_of, place_of, first_of}
use Rattle.ctx_store.specs.Calls.{Changes, Applies, Fails, Leaves, Closes, RunsDown, open_fault}
use Rattle.ctx_store.proofs.Entries.{absent}
use Rattle.ctx_store.proofs.Tables.{position_shown, remove_shown}
use Rattle.ctx_session.specs.declared.answer.Answer.{Answer}
use Rattle.ctx_session.specs.declared.answer.Answer.TheVariants as answer
use Rattle.ctx_session.specs.Script.{Line, Open, Use, Close, Down}
use Rattle.ctx_session.specs.Session as session
use Rattle.ctx_session.specs.Session.{State, EndsClient, DoesLine, DoesLines, EndsAll, IsSession}
use Rattle.ctx_session.specs.Accounts.{Effect, Accepted, FailedUse, Closed, FailedClose, RunDown, Nothing, effect, life_by, life_of, Opening, openings, opened_of, HasServed, AreServed, none, one}
use Rattle.ctx_session.specs.Accounts.{IsAccounted}
use Rattle.ctx_session.proofs.Places.{FirstAt, at_first, at_later, Apart, first_at, apart, passes, apart_append, apart_set, apart_remove, get_left}
use Rattle.ctx_session.proofs.Serving.{Covers, cover_none, cover, covers_same, covers_append, served_more, closed_served, failed_close_served, run_down_served, accepted_served, failed_served}
use Rattle.ctx_session.proofs.UnderWay.{none_first}

abbrev named : List ℕ → Live → Bool
named id e = bytes_eq id e.id

abbrev of_client : ℕ → Live → Bool
of_client client e = eqb e.client client

named_at : (live : List Live) (id : List ℕ) (at : ℕ) → place_of live id ≡ Some at → FirstAt (named id) live at
named_at live id at h = first_at (named id) live at (position_shown (bytes_eq id) (λ e. e.id) live ∙ h)

unnamed : (live : List Live) (id : List ℕ) → place_of live id ≡ None → Apart (named id) live
unnamed live id h = apart (named id) live (position_shown (bytes_eq id) (λ e. e.id) live ∙ h)

-- ## No identifier is live twice

abbrev Distinct : List Live → Type 0
Distinct [] = Unit {0}
Distinct (e ∷ es) = Apart (named e.id) es × Distinct es

not_same : (xs ys : List ℕ) → bytes_eq xs ys ≡ false → bytes_eq ys xs ≡ false
not_same xs ys h = by (bytes_eq ys xs) refl
  where
    by : (b : Bool) → bytes_eq ys xs ≡ b → bytes_eq ys xs ≡ false
    by false k = k
    by true k = let e = (bytes_eq-Decides xs ys).1 (sym ((bytes_eq-Decides ys xs).0 k)) in absurd (true≢false (sym e ∙ h))

distinct_append : (es : List Live) (e : Live) → Distinct es → Apart (named e.id) es → Distinct (es ++ e ∷ [])
distinct_append [] e d a = (tt, tt)
distinct_append (x ∷ es) e d a = (apart_append (named x.id) es e d.0 (not_same e.id x.id a.0), distinct_append es e d.1 a.1)

distinct_set : (es : List Live) (at : ℕ) (e : Live) (r : ResourceSeen) → slice_get es at ≡ Some e → Distinct es → Distinct (slice_set es at (record e { resource = r }))
distinct_set [] at e r h d = tt
distinct_set (x ∷ es) zero e r h d =
    let same = same_Some x e h in
    (subst (λ y. Apart (named y.id) es) same d.0, d.1)
distinct_set (x ∷ es) (suc at) e r h d = (apart_set (named x.id) es at e (record e { resource = r }) h refl d.0, distinct_set es at e r h d.1)

distinct_remove : (es : List Live) (at : ℕ) → Distinct es → Distinct (remove es at)
distinct_remove [] zero d = tt
distinct_remove [] (suc at) d = tt
distinct_remove (x ∷ es) zero d = d.1
distinct_remove (x ∷ es) (suc at) d = (apart_remove (named x.id) es at d.0, distinct_remove es at d.1)

-- the others have other identifiers
others : (id : List ℕ) (es : List Live) (at : ℕ) → FirstAt (named id) es at → Distinct es → Apart (named id) (remove es at)
others id _ _ (at_first {x = x} {xs = es} k) d = subst (λ i. Apart (named i) es) (sym ((bytes_eq-Decides id x.id).0 k)) d.0
others id _ _ (at_later {xs = es} {at = at} k f) d = (k, others id es at f d.1)

-- ## What is live, as openings

abbrev opening_of : List Line → List Answer → Live → Opening
opening_of lines answers e = record { was = e.resource; life = life_of e.client e.id lines answers }

abbrev lives : List Line → List Answer → List Live → List Opening
lives lines answers live = map (opening_of lines answers) live

module _ (line : Line) (given : Answer) (lines : List Line) (answers : List Answer) where
  abbrev Idle : Live → Type 0
  Idle e = effect e.client e.id line given ≡ Nothing

  idle_one : (e : Live) → Idle e → (now : ResourceSeen) → HasServed (opening_of lines answers e) now → HasServed (opening_of (line ∷ lines) (given ∷ answers) e) now
  idle_one e h now s =
      subst (λ l. HasServed (record { was = e.resource; life = l }) now) (sym (ap (λ f. life_by f (life_of e.client e.id lines answers)) h)) s

  -- a line that is nothing to what is live
  idle_all : (es : List Live) → ((e : Live) → Idle e) → Covers (lives lines answers es) (lives (line ∷ lines) (given ∷ answers) es)
  idle_all [] h = cover_none
  idle_all (e ∷ es) h = cover (idle_one e (h e)) (idle_all es h)

  idle_apart : (p : Live → Bool) → ((e : Live) → p e ≡ false → Idle e) → (es : List Live) → Apart p es → Covers (lives lines answers es) (lives (line ∷ lines) (given ∷ answers) es)
  idle_apart p h [] a = cover_none
  idle_apart p h (e ∷ es) a = cover (idle_one e (h e a.0)) (idle_apart p h es a.1)

  -- a line that is something to one alone
  acts : (id : List ℕ) → ((e : Live) → named id e ≡ false → Idle e) → (es : List Live) (at : ℕ) (e : Live) (r : ResourceSeen) → FirstAt (named id) es at → Distinct es
      → slice_get es at ≡ Some e
      → ((now : ResourceSeen) → HasServed (opening_of lines answers (record e { resource = r })) now → HasServed (opening_of (line ∷ lines) (given ∷ answers) e) now)
      → Covers (lives lines answers (slice_set es at (record e { resource = r }))) (lives (line ∷ lines) (given ∷ answers) es)
  acts id h _ _ e r (at_first {x = x} {xs = es} k) d there act =
      let same = same_Some x e there in
      let a : Apart (named id) es = subst (λ i. Apart (named i) es) (sym ((bytes_eq-Decides id x.id).0 k)) d.0 in
      cover (λ now s. subst (λ y. HasServed (opening_of (line ∷ lines) (given ∷ answers) y) now) (sym same) (act now s)) (idle_apart (named id) h es a)
  acts id h _ _ e r (at_later {x = x} {xs = es} {at = at} k f) d there act = cover (idle_one x (h x k)) (acts id h es at e r f d.1 there act)

map_append : {X Y : Type 0} (f : X → Y) (xs ys : List X) → map f (xs ++ ys) ≡ map f xs ++ map f ys
map_append f [] ys = refl
map_append f (x ∷ xs) ys = ap (λ l. f x ∷ l) (map_append f xs ys)

-- ## One live resource is ended

module _ (lines : List Line) (answers : List Answer) where
  ended_one : (es : List Live) (op : List Opening) (at : ℕ) (e : Live) (now : ResourceSeen) (ended : List ResourceSeen) → slice_get es at ≡ Some e
      → HasServed (opening_of lines answers e) now → AreServed (lives lines answers (remove es at) ++ op) ended → AreServed (lives lines answers es ++ op) (now ∷ ended)
  ended_one es op at e now ended there s rest =
      let os = lives lines answers es in
      let shown : slice_get os at ≡ Some (opening_of lines answers e) = slice_get-map (opening_of lines answers) es at ∙ ap (λ o. option_map (opening_of lines answers) o) there in
      let within = slice_get_within os at (opening_of lines answers e) shown in
      let left : lives lines answers (remove es at) ++ op ≡ remove (os ++ op) at =
      ap (λ l. l ++ op) (remove_shown (opening_of lines answers) es at) ∙ sym (remove-append_left os op at within) in
      one at (get_left os op at (opening_of lines answers e) shown) s (subst (λ l. AreServed l ended) left rest)

-- what was ended of a client
record Ran (s t : State) (lines : List Line) (answers : List Answer) (op : List Opening) (later : List ResourceSeen) : Type 0 where
  ended : List ResourceSeen
  spent_are : t.spent ≡ s.spent ++ ended
  fresh_are : t.fresh ≡ s.fresh
  served : AreServed (lives lines answers s.live ++ op) (ended ++ later)

ran : (client n : ℕ) (s t : State) (lines : List Line) (answers : List Answer) (op : List Opening) (later : List ResourceSeen) → EndsClient client s n t
    → ((e : Live) → of_client client e ≡ true → (was now : ResourceSeen) (failed : Bool) → HasEndedSo was now failed → HasServed (record {
      was = was;
      life = life_of e.client e.id lines
          answers;
    }) now)
    → AreServed (lives lines answers t.live ++ op) later → Ran s t lines answers op later
ran client _ s _ lines answers op later (session.none h) act r = record { ended = []; spent_are = sym (append-nil s.spent); fresh_are = refl; served = r }
ran client _ s t lines answers op later (session.more {n = n} {live = live} {ended = now} {failed = failed} d p) act r =
    let next : State = record { live = live; fresh = s.fresh; spent = s.spent ++ now ∷ [] } in
    let q = ran client n next t lines answers op later p act r in
    let f = first_at (of_client client) s.live d.at d.place in
    let e = d.leaves.entry in
    let k = passes (of_client client) s.live d.at e f d.leaves.there in
    record {
      ended = now ∷ q.ended;
      spent_are = q.spent_are ∙ append_assoc s.spent (now ∷ []) q.ended;
      fresh_are = q.fresh_are;
      served = ended_one lines answers s.live op d.at e now (q.ended ++ later) d.leaves.there (act e k e.resource now failed d.leaves.ended)
          (subst (λ l. AreServed (lives lines answers l ++ op) (q.ended ++ later)) d.leaves.now_is q.served);
    }

none_of_client : (client n : ℕ) (s t : State) → EndsClient client s n t → Apart (of_client client) t.live
none_of_client client _ s _ (session.none h) = apart (of_client client) s.live h
none_of_client client _ s t (session.more {n = n} {live = live} {ended = now} d p) = none_of_client client n (record { live = live; fresh = s.fresh; spent = s.spent ++ now ∷ [] }) t p

-- ## A session from here to its end

record Accounts (s : State) (lines : List Line) (answers : List Answer) (last : State) : Type 0 where
  ended : List ResourceSeen
  spent_are : last.spent ≡ s.spent ++ ended
  fresh_are : s.fresh ≡ opened_of (openings lines answers s.fresh) ++ last.fresh
  served : AreServed (lives lines answers s.live ++ openings lines answers s.fresh) ended

nothing_live : (live : List Live) → live ≡ [] → AreServed (lives [] [] live ++ []) []
nothing_live [] h = none
nothing_live (e ∷ live) h = cc

all_ended : (s last : State) → EndsAll s last → Accounts s [] [] last
all_ended s _ (session.none h) = record { ended = []; spent_are = sym (append-nil s.spent); fresh_are = refl; served = nothing_live s.live (none_first s.live h) }
all_ended s last (session.more {t = t} {client = client} {n = n} f e p) =
    let a = all_ended t last p in
    let q = ran client n s t [] [] [] a.ended e (λ e k was now failed h. run_down_served was now failed h) a.served in
    record {
      ended = q.ended ++ a.ended;
      spent_are = a.spent_are ∙ ap (λ l. l ++ a.ended) q.spent_are ∙ append_assoc s.spent q.ended a.ended;
      fresh_are = sym q.fresh_are ∙ a.fresh_are;
      served = q.served;
    }

-- what one line adds to the accounts of what follows it
module _ (s last : State) (lines : List Line) (answers : List Answer) (d : Distinct s.live) where
  -- nothing changed, and the line opens nothing
  unchanged : (line : Line) (given : Answer) → ((e : Live) → effect e.client e.id line given ≡ Nothing)
      → openings (line ∷ lines) (given ∷ answers) s.fresh ≡ openings lines answers s.fresh → Accounts s lines answers last → Accounts s (line ∷ lines) (given ∷ answers) last
  unchanged line given idle same a =
      let op = openings lines answers s.fresh in
      record {
        ended = a.ended;
        spent_are = a.spent_are;
        fresh_are = a.fresh_are ∙ ap (λ o. opened_of o ++ last.fresh) (sym same);
        served = subst (λ o. AreServed (lives (line ∷ lines) (given ∷ answers) s.live ++ o) a.ended) (sym same)
            (served_more (lives lines answers s.live ++ op) (lives (line ∷ lines) (given ∷ answers) s.live ++ op) a.ended a.served
            (covers_append (lives lines answers s.live) (lives (line ∷ lines) (given ∷ answers) s.live) op op (idle_all line given lines answers s.live idle) (covers_same op)));
      }

  -- the resource of an identifier changed
  changed : (id text : List ℕ) (given : Answer) (live : List Live) (at : ℕ) (e : Live) (r : ResourceSeen) → place_of s.live id ≡ Some at → slice_get s.live at ≡ Some e
      → live ≡ slice_set s.live at (record e { resource = r }) → ((x : Live) → named id x ≡ false → effect x.client x.id (Use id text) given ≡ Nothing)
      → ((now : ResourceSeen) → HasServed (opening_of lines answers (record e { resource = r })) now → HasServed (opening_of (Use id text ∷ lines) (given ∷ answers) e) now)
      → Accounts (record { live = live; fresh = s.fresh; spent = s.spent }) lines answers last → Accounts s (Use id text ∷ lines) (given ∷ answers) last
  changed id text given live at e r place there now_is idle act a =
      let op = openings lines answers s.fresh in
      let line = Use id text in
      let set = slice_set s.live at (record e { resource = r }) in
      record {
        ended = a.ended;
        spent_are = a.spent_are;
        fresh_are = a.fresh_are;
        served = served_more (lives lines answers set ++ op) (lives (line ∷ lines) (given ∷ answers) s.live ++ op) a.ended
            (subst (λ l. AreServed (lives lines answers l ++ op) a.ended) now_is a.served)
            (covers_append (lives lines answers set) (lives (line ∷ lines) (given ∷ answers) s.live) op op
            (acts line given lines answers id idle s.live at e r (named_at s.live id at place) d there act) (covers_same op));
      }

  -- the resource of an identifier was ended
  left : (id : List ℕ) (given : Answer) (live : List Live) (now : ResourceSeen) (failed : Bool) (c : Closes s.live live id now failed)
      → ((x : Live) → named id x ≡ false → effect x.client x.id (Close id) given ≡ Nothing)
      → ((x : Live) → named id x ≡ true → HasEndedSo x.resource now failed → HasServed (opening_of (Close id ∷ lines) (given ∷ answers) x) now)
      → Accounts (record { live = live; fresh = s.fresh; spent = s.spent ++ now ∷ [] }) lines answers last → Accounts s (Close id ∷ lines) (given ∷ answers) last
  left id given live now failed c idle act a =
      let op = openings lines answers s.fresh in
      let line = Close id in
      let e = c.leaves.entry in
      let f = named_at s.live id c.at c.place in
      let gone = remove s.live c.at in
      record {
        ended = now ∷ a.ended;
        spent_are = a.spent_are ∙ append_assoc s.spent (now ∷ []) a.ended;
        fresh_are = a.fresh_are;
        served = ended_one (line ∷ lines) (given ∷ answers) s.live op c.at e now a.ended c.leaves.there
            (act e (passes (named id) s.live c.at e f c.leaves.there) c.leaves.ended)
            (served_more (lives lines answers gone ++ op) (lives (line ∷ lines) (given ∷ answers) gone ++ op) a.ended
            (subst (λ l. AreServed (lives lines answers l ++ op) a.ended) c.leaves.now_is a.served)
            (covers_append (lives lines answers gone) (lives (line ∷ lines) (given ∷ answers) gone) op op
            (idle_apart line given lines answers (named id) idle gone (others id s.live c.at f d)) (covers_same op)));
      }

  -- all of a client was ended
  downed : (client n : ℕ) (t : State) → EndsClient client s n t → Accounts t lines answers last → Accounts s (Down client ∷ lines) (answer.Ended n ∷ answers) last
  downed client n t e a =
      let line = Down client in
      let op = openings lines answers t.fresh in
      let q = ran client n s t (line ∷ lines) (answer.Ended n ∷ answers) op a.ended e
      (λ x k was now failed h. subst (λ l. HasServed (record { was = was; life = l }) now)
      (sym (ap (λ b. life_by (if b then RunDown else Nothing) (life_of x.client x.id lines answers)) k)) (run_down_served was now failed h))
      (served_more (lives lines answers t.live ++ op) (lives (line ∷ lines) (answer.Ended n ∷ answers) t.live ++ op) a.ended a.served
      (covers_append (lives lines answers t.live) (lives (line ∷ lines) (answer.Ended n ∷ answers) t.live) op op
      (idle_apart line (answer.Ended n) lines answers (of_client client) (λ x k. ap (λ b. if b then RunDown else Nothing) k) t.live (none_of_client client n s t e)) (covers_same op))) in
      record {
        ended = q.ended ++ a.ended;
        spent_are = a.spent_are ∙ ap (λ l. l ++ a.ended) q.spent_are ∙ append_assoc s.spent q.ended a.ended;
        fresh_are = sym q.fresh_are ∙ a.fresh_are ∙ ap (λ f. opened_of (openings lines answers f) ++ last.fresh) q.fresh_are;
        served = subst (λ f. AreServed (lives (line ∷ lines) (answer.Ended n ∷ answers) s.live ++ openings lines answers f) (q.ended ++ a.ended)) q.fresh_are q.served;
      }

  -- the first fresh resource was opened
  opened : (client : ℕ) (id : List ℕ) (r : ResourceSeen) (fresh : List ResourceSeen) → s.fresh ≡ r ∷ fresh
      → Accounts (record { live = s.live ++ record { id = id; client = client; resource = r } ∷ []; fresh = fresh; spent = s.spent }) lines answers last
      → Accounts s (Open client id ∷ lines) (answer.Done ∷ answers) last
  opened client id r fresh f a =
      let e : Live = record { id = id; client = client; resource = r } in
      let line = Open client id in
      let op = openings lines answers fresh in
      let o = opening_of lines answers e in
      let is : openings (line ∷ lines) (answer.Done ∷ answers) s.fresh ≡ o ∷ op = ap (λ x. openings (line ∷ lines) (answer.Done ∷ answers) x) f in
      let joined : lives lines answers (s.live ++ e ∷ []) ++ op ≡ lives lines answers s.live ++ (o ∷ op) =
      ap (λ l. l ++ op) (map_append (opening_of lines answers) s.live (e ∷ [])) ∙ append_assoc (lives lines answers s.live) (o ∷ []) op in
      record {
        ended = a.ended;
        spent_are = a.spent_are;
        fresh_are = f ∙ ap (λ l. r ∷ l) a.fresh_are ∙ ap (λ l. opened_of l ++ last.fresh) (sym is);
        served = subst (λ l. AreServed (lives (line ∷ lines) (answer.Done ∷ answers) s.live ++ l) a.ended) (sym is)
            (served_more (lives lines answers s.live ++ (o ∷ op)) (lives (line ∷ lines) (answer.Done ∷ answers) s.live ++ (o ∷ op)) a.ended
            (subst (λ l. AreServed l a.ended) joined a.served)
            (covers_append (lives lines answers s.live) (lives (line ∷ lines) (answer.Done ∷ answers) s.live) (o ∷ op) (o ∷ op)
            (idle_all line answer.Done lines answers s.live (λ x. refl)) (covers_same (o ∷ op))));
      }

distinct_after : (s t : State) (line : Line) (given : Answer) → DoesLine s line given t → Distinct s.live → Distinct t.live
distinct_after s _ _ _ (session.none_fresh h) d = d
distinct_after s _ _ _ (session.refused f h) d = d
distinct_after s _ _ _ (session.opened {client = client} {id = id} {r = r} f h) d =
    distinct_append s.live (record { id = id; client = client; resource = r }) d (unnamed s.live id (absent s.live id h))
distinct_after s _ _ _ (session.unknown_use h) d = d
distinct_after s _ _ _ (session.failed_use f) d =
    subst Distinct (sym f.changes.now_is) (distinct_set s.live f.at f.changes.entry f.is f.changes.there d)
distinct_after s _ _ _ (session.applied {text = text} a) d =
    subst Distinct (sym a.changes.now_is) (distinct_set s.live a.at a.changes.entry (with_line text a.was) a.changes.there d)
distinct_after s _ _ _ (session.unknown_close h) d = d
distinct_after s _ _ _ (session.closed c) d = subst Distinct (sym c.leaves.now_is) (distinct_remove s.live c.at d)
distinct_after s _ _ _ (session.failed_close c) d = subst Distinct (sym c.leaves.now_is) (distinct_remove s.live c.at d)
distinct_after s t _ _ (session.downed {client = client} {n = n} e) d = distinct_client client n s t e d
  where
    distinct_client : (client n : ℕ) (s t : State) → EndsClient client s n t → Distinct s.live → Distinct t.live
    distinct_client client _ s _ (session.none h) d = d
    distinct_client client _ s t (session.more {n = n} {live = live} {ended = now} r p) d =
        distinct_client client n (record { live = live; fresh = s.fresh; spent = s.spent ++ now ∷ [] }) t p (subst Distinct (sym r.leaves.now_is) (distinct_remove s.live r.at d))

one_line : (s t last : State) (line : Line) (given : Answer) (lines : List Line) (answers : List Answer) → DoesLine s line given t → Distinct s.live
    → Accounts t lines answers last → Accounts s (line ∷ lines) (given ∷ answers) last
one_line s _ last _ _ lines answers (session.none_fresh {client = client} {id = id} h) d a =
    unchanged s last lines answers d (Open client id) answer.NoneFresh (λ e. refl) refl a
one_line s _ last _ _ lines answers (session.refused {client = client} {id = id} {fault = fault} f h) d a =
    unchanged s last lines answers d (Open client id) (answer.Refused fault) (λ e. refl) refl a
one_line s _ last _ _ lines answers (session.opened {client = client} {id = id} {r = r} {fresh = fresh} f h) d a = opened s last lines answers d client id r fresh f a
one_line s _ last _ _ lines answers (session.unknown_use {id = id} {text = text} h) d a =
    unchanged s last lines answers d (Use id text) answer.Unknown (λ e. refl) refl a
one_line s _ last _ _ lines answers (session.failed_use {id = id} {text = text} {live = live} f) d a =
    let c = f.changes in
    let k = passes (named id) s.live f.at c.entry (named_at s.live id f.at f.place) c.there in
    changed s last lines answers d id text answer.Failed live f.at c.entry f.is f.place c.there c.now_is (λ x k. ap (λ b. if b then FailedUse else Nothing) k)
    (λ now h. subst (λ l. HasServed (record { was = c.entry.resource; life = l }) now)
    (sym (ap (λ b. life_by (if b then FailedUse else Nothing) (life_of c.entry.client c.entry.id lines answers)) k))
    (failed_served c.entry.resource f.is now (life_of c.entry.client c.entry.id lines answers) (subst (λ w. HasFailed w f.is w.ended) c.was_is f.failed) h)) a
one_line s _ last _ _ lines answers (session.applied {id = id} {text = text} {live = live} f) d a =
    let c = f.changes in
    let k = passes (named id) s.live f.at c.entry (named_at s.live id f.at f.place) c.there in
    changed s last lines answers d id text answer.Done live f.at c.entry (with_line text f.was) f.place c.there c.now_is (λ x k. ap (λ b. if b then Accepted text else Nothing) k)
    (λ now h. subst (λ l. HasServed (record { was = c.entry.resource; life = l }) now)
    (sym (ap (λ b. life_by (if b then Accepted text else Nothing) (life_of c.entry.client c.entry.id lines answers)) k))
    (accepted_served c.entry.resource now text (life_of c.entry.client c.entry.id lines answers)
    (subst (λ w. HasServed (record { was = with_line text w; life = life_of c.entry.client c.entry.id lines answers }) now) c.was_is h))) a
one_line s _ last _ _ lines answers (session.unknown_close {id = id} h) d a =
    unchanged s last lines answers d (Close id) answer.Unknown (λ e. refl) refl a
one_line s _ last _ _ lines answers (session.closed {id = id} {live = live} {ended = now} c) d a =
    left s last lines answers d id answer.Done live now false c (λ x k. ap (λ b. if b then Closed else Nothing) k)
    (λ x k h. subst (λ l. HasServed (record { was = x.resource; life = l }) now)
    (sym (ap (λ b. life_by (if b then Closed else Nothing) (life_of x.client x.id lines answers)) k)) (closed_served x.resource now h)) a
one_line s _ last _ _ lines answers (session.failed_close {id = id} {live = live} {ended = now} c) d a =
    left s last lines answers d id answer.Failed live now true c (λ x k. ap (λ b. if b then FailedClose else Nothing) k)
    (λ x k h. subst (λ l. HasServed (record { was = x.resource; life = l }) now)
    (sym (ap (λ b. life_by (if b then FailedClose else Nothing) (life_of x.client x.id lines answers)) k)) (failed_close_served x.resource now h)) a
one_line s t last _ _ lines answers (session.downed {client = client} {n = n} e) d a = downed s last lines answers d client n t e a

all_lines : (s u last : State) (lines : List Line) (answers : List Answer) → DoesLines s lines answers u → EndsAll u last → Distinct s.live → Accounts s lines answers last
all_lines s _ last _ _ session.none e d = all_ended s last e
all_lines s u last _ _ (session.more {t = t} {line = line} {answer = given} {lines = lines} {answers = answers} l p) e d =
    one_line s t last line given lines answers l d (all_lines t u last lines answers p e (distinct_after s t line given l d))

pub accounted : (fresh spent : List ResourceSeen) (lines : List Line) (answers : List Answer) (fresh_now spent_now : List ResourceSeen)
    → IsSession fresh spent lines answers fresh_now spent_now → IsAccounted fresh spent lines answers fresh_now spent_now
accounted fresh spent lines answers fresh_now spent_now s =
    let a = all_lines (record { live = []; fresh = fresh; spent = spent }) s.done (record { live = []; fresh = fresh_now; spent = spent_now }) lines answers s.lines_did s.ended tt in
    record { ended = a.ended; fresh_are = a.fresh_are; spent_are = a.spent_are; served = a.served }
