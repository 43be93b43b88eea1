-- Loops of a session: what was done so far, and what is left.
use Rattle.std.proofs.Common.{◌≡◌, ◌∙◌, ap, sym, refl, subst, ℕ, suc, ◌+◌, ◌*◌, ◌<◌, ◌≤◌, Bool, true, false, not, List, [], ◌∷◌, ◌++◌, length, drop, take, eq-eqb, Option, Some, None, option_map, eqb}
use Rattle.std.proofs.Common.{position, arith, append_assoc, append-nil, cond, nat_lt}
use Rattle.std.specs.List.{slice_get, position_or_len}
use Rattle.std.proofs.lemmas.List.Edits.{length-remove}
use Rattle.std.proofs.lemmas.Option.{slice_get_within, same_Some}
use Rattle.std.proofs.lemmas.Grind.{common_steps}
use Rattle.ctx_store.specs.Resource.{ResourceSeen}
use Rattle.ctx_store.specs.Live.{Live, first_of}
use Rattle.ctx_store.specs.Calls.{RunsDown, Leaves}
use Rattle.ctx_session.specs.declared.answer.Answer.{Answer}
use Rattle.ctx_session.specs.Script.{Line, line_of, feed_of, BeginsWith, HasLine, AreLines, none, more, opens_of, opens_in}
use Rattle.ctx_session.specs.Session as session
use Rattle.ctx_session.specs.Session.{State, EndsClient, DoesLine, DoesLines, EndsAll, answer_words, answer_lines, first_client_of}
use Rattle.ctx_session.specs.UnderWay.{AreLeft, AreDone}
use Rattle.ctx_session.specs.Outcome.{IsDone}
use Rattle.ctx_session.proofs.Scripts.{one_more}

-- So many resources of a client were ended.
pub record IsEnding (client : ℕ) (start now : State) (count : ℕ) : Type 0 where
  pub goes : (n : ℕ) (t : State) → EndsClient client now n t → EndsClient client start (count + n) t

pub ending_start : (client : ℕ) (s : State) → IsEnding client s s 0
ending_start client s = record { goes = λ n t p. subst (λ k. EndsClient client s k t) (omega arith) p }

module _ (client : ℕ) (start : State) (live : List Live) (fresh spent : List ResourceSeen) (count : ℕ)
    (c : IsEnding client start (record { live = live; fresh = fresh; spent = spent }) count) where
  pub ending_next : (live' : List Live) (fresh' spent' : List ResourceSeen) (ended : ResourceSeen) (failed : Bool) → RunsDown live live' client ended failed → fresh' ≡ fresh
      → spent' ≡ spent ++ ended ∷ [] → IsEnding client start (record { live = live'; fresh = fresh'; spent = spent' }) (count + 1)
  ending_next live' fresh' spent' ended failed r f p = record {
    goes = λ n t q.
        let P : List ResourceSeen → Type 0 = λ x. EndsClient client (record { live = live'; fresh = x; spent = spent' }) n t in
        let Q : List ResourceSeen → Type 0 = λ x. EndsClient client (record { live = live'; fresh = fresh; spent = x }) n t in
        subst (λ k. EndsClient client start k t) (omega arith) (c.goes (suc n) t (session.more r (subst Q p (subst P f q))));
  }

  pub ending_done : (live' : List Live) → first_of live client ≡ None → live' ≡ live → EndsClient client start count (record { live = live'; fresh = fresh; spent = spent })
  ending_done live' h e =
      let P : List Live → Type 0 = λ x. EndsClient client start count (record { live = x; fresh = fresh; spent = spent }) in
      subst P (sym e) (subst (λ k. EndsClient client start k (record { live = live; fresh = fresh; spent = spent })) (omega arith) (c.goes 0 (record {
        live = live;
        fresh = fresh;
        spent =
            spent;
      }) (session.none h)))

-- fewer are live
pub fewer : (live live' : List Live) (client : ℕ) (ended : ResourceSeen) (failed : Bool) → RunsDown live live' client ended failed → length live' + 1 ≡ length live
fewer live live' client ended failed r =
    ap (λ l. length l + 1) r.leaves.now_is ∙ length-remove live r.at (slice_get_within live r.at r.leaves.entry r.leaves.there)

no_more : (client n : ℕ) (s t : State) → EndsClient client s n t → length t.live ≤ length s.live
no_more client n s t (session.none h) = omega arith
no_more client n s t (session.more {n = m} {live = live} {ended = ended} {failed = failed} r p) =
    let a = fewer s.live live client ended failed r in
    let b = no_more client m (record { live = live; fresh = s.fresh; spent = s.spent ++ ended ∷ [] }) t p in
    omega (arith, a, b)

lt_first : (n : ℕ) → nat_lt 0 (suc n) ≡ true
lt_first n = grind (arith, common_steps)

first_is_there : (live : List Live) (client : ℕ) → first_client_of live ≡ Some client → first_of live client ≡ Some 0
first_is_there [] client h = cc
first_is_there (e ∷ es) client h =
    let same : e.client ≡ client = same_Some e.client client h in
    let b = eq-eqb e.client client same in
    ap (λ t. cond (nat_lt (cond (not t) (1 + position_or_len (λ x. eqb x.client client) es) 0) (suc (length es))) (Some (cond (not t) (1 + position_or_len (λ x. eqb x.client client) es) 0)) None) b
    ∙ ap (λ t. cond t (Some 0) None) (lt_first (length es))

-- a client that has the first live resource has at least one
pub fewer_live : (client n : ℕ) (s t : State) → EndsClient client s n t → first_client_of s.live ≡ Some client → length t.live < length s.live
fewer_live client n s t (session.none h) f = let e = sym (first_is_there s.live client f) ∙ h in cc
fewer_live client n s t (session.more {n = m} {live = live} {ended = ended} {failed = failed} r p) f =
    let a = fewer s.live live client ended failed r in
    let b = no_more client m (record { live = live; fresh = s.fresh; spent = s.spent ++ ended ∷ [] }) t p in
    omega (arith, a, b)

pub none_first : (live : List Live) → first_client_of live ≡ None → live ≡ []
none_first [] h = refl
none_first (e ∷ es) h = cc

-- All of so many clients was ended.
pub record AreEnding (start now : State) : Type 0 where
  pub goes : (t : State) → EndsAll now t → EndsAll start t

pub all_start : (s : State) → AreEnding s s
all_start s = record { goes = λ t p. p }

pub all_next : (start s t : State) (client n : ℕ) → AreEnding start s → first_client_of s.live ≡ Some client → EndsClient client s n t → AreEnding start t
all_next start s t client n c f e = record { goes = λ u p. c.goes u (session.more f e p) }

pub all_done : (start s : State) → AreEnding start s → first_client_of s.live ≡ None → EndsAll start s
all_done start s c h = c.goes s (session.none h)

-- ## The lines of a script

pub record IsUnderWay (script rest : List ℕ) (start now : State) (before written : List ℕ) (spare room : ℕ) : Type 0 where
  pub all : List Line
  pub are_all : AreLines script all
  pub left : List Line
  pub are_left : AreLines rest left
  pub given : List Answer
  pub goes : (answers : List Answer) (t : State) → DoesLines now left answers t → DoesLines start all (given ++ answers) t
  pub written_is : written ≡ before ++ answer_lines given
  pub opens : opens_in left ≤ spare
  pub fits : 16 * length left ≤ room

pub way_start : (script : List ℕ) (start : State) (before : List ℕ) (spare room : ℕ) → AreLeft script spare room → IsUnderWay script script start start before before spare room
way_start script start before spare room a = record {
  all = a.lines;
  are_all = a.are_lines;
  left = a.lines;
  are_left = a.are_lines;
  given = [];
  goes = λ answers t p. p;
  written_is = sym (simp append-nil);
  opens = a.opens;
  fits = a.fits;
}

-- lines that are left have one at their front
pub front_line : (rest : List ℕ) (left : List Line) → AreLines rest left → 0 < length rest → HasLine rest
front_line _ _ none h = absurd (omega (arith, h))
front_line rest _ (more {at = at} {line = line} b p) h = (at, line, b)

-- and it is this one
pub at_front : (rest : List ℕ) (left : List Line) (at : ℕ) (line : Line) → AreLines rest left → BeginsWith rest at line
    → (after : List Line) × (left ≡ line ∷ after) × AreLines (drop (at + 1) rest) after
at_front _ _ at line none b = let e = b.feed in cc
at_front rest _ at line (more {at = i} {line = l} {lines = lines} c p) b =
    let same : i ≡ at = same_Some i at (sym c.feed ∙ b.feed) in
    let one : l ≡ line = same_Some l line (sym c.line_is ∙ ap (λ k. line_of (take k rest)) same ∙ b.line_is) in
    (lines, ap (λ x. x ∷ lines) one, subst (λ k. AreLines (drop (k + 1) rest) lines) same p)

more_lines : (given : List Answer) (answer : Answer) → answer_lines (given ++ answer ∷ []) ≡ answer_lines given ++ (answer_words answer ++ 10 ∷ [])
more_lines [] answer = simp append-nil
more_lines (a ∷ given) answer =
    ap (λ l. (answer_words a ++ 10 ∷ []) ++ l) (more_lines given answer) ∙ sym (append_assoc (answer_words a ++ 10 ∷ []) (answer_lines given) (answer_words answer ++ 10 ∷ []))

module _ (script rest : List ℕ) (start now : State) (before written : List ℕ) (spare room : ℕ) (c : IsUnderWay script rest start now before written spare room) where
  pub way_front : 0 < length rest → HasLine rest
  way_front h = front_line rest c.left c.are_left h

  module _ (at : ℕ) (line : Line) (b : BeginsWith rest at line) where
    pub way_spare : opens_of line ≤ spare
    way_spare =
        let f = at_front rest c.left at line c.are_left b in
        let o = c.opens in
        let e = ap opens_in f.1 in
        omega (arith, o, e)

    pub way_room : 16 ≤ room
    way_room =
        let f = at_front rest c.left at line c.are_left b in
        let o = c.fits in
        let e = ap length f.1 in
        omega (arith, o, e)

    pub way_next : (rest' : List ℕ) (t : State) (answer : Answer) (written' : List ℕ) (spare' room' : ℕ) → DoesLine now line answer t → rest' ≡ drop (at + 1) rest
        → written' ≡ written ++ (answer_words answer ++ 10 ∷ []) → spare ≤ spare' + opens_of line → room ≤ room' + 16
        → IsUnderWay script rest' start t before written' spare' room'
    way_next rest' t answer written' spare' room' d r w s m =
        let f = at_front rest c.left at line c.are_left b in
        let o = c.opens in
        let oe = ap opens_in f.1 in
        let l = c.fits in
        let le = ap length f.1 in
        record {
          all = c.all;
          are_all = c.are_all;
          left = f.0;
          are_left = subst (λ x. AreLines x f.0) (sym r) f.2;
          given = c.given ++ answer ∷ [];
          goes = λ answers u p. subst (λ x. DoesLines start c.all x u) (one_more c.given answers answer)
              (c.goes (answer ∷ answers) u (subst (λ x. DoesLines now x (answer ∷ answers) u) (sym f.1) (session.more d p)));
          written_is = w ∙ ap (λ x. x ++ (answer_words answer ++ 10 ∷ [])) c.written_is ∙ append_assoc before (answer_lines c.given) (answer_words answer ++ 10 ∷ [])
              ∙ ap (λ x. before ++ x) (sym (more_lines c.given answer));
          opens = omega (arith, o, oe, s);
          fits = omega (arith, l, le, m);
        }

  pub way_done : length rest ≡ 0 → AreDone script start now before written
  way_done h = record {
    lines = c.all;
    answers = c.given;
    are_lines = c.are_all;
    did = subst (λ x. DoesLines start c.all x now) (simp append-nil) (c.goes [] now (none_left rest c.left c.are_left h));
    written_is = c.written_is;
  }
    where
      none_left : (r : List ℕ) (ls : List Line) → AreLines r ls → length r ≡ 0 → DoesLines now ls [] now
      none_left _ _ none h = session.none
      none_left [] _ (more b p) h = let e = b.feed in cc
      none_left (x ∷ r) _ (more b p) h = cc

-- a whole session
pub whole : (script before written : List ℕ) (live : List Live) (fresh spent fresh_old spent_old : List ResourceSeen) (done : State) (live' : List Live)
    → (fresh' spent' : List ResourceSeen) → AreDone script (record { live = live; fresh = fresh; spent = spent }) done before written
    → EndsAll done (record { live = live'; fresh = fresh'; spent = spent' }) → live ≡ [] → fresh ≡ fresh_old → spent ≡ spent_old → live' ≡ [] → before ≡ []
    → length script ≤ 1048576 → IsDone script (record { fresh = fresh_old; spent = spent_old; fresh_now = fresh'; spent_now = spent' }) written
whole script before written live fresh spent fresh_old spent_old done live' fresh' spent' d e l f p m b few =
    let P : List Live → Type 0 = λ x. DoesLines (record { live = x; fresh = fresh; spent = spent }) d.lines d.answers done in
    let Q : List ResourceSeen → Type 0 = λ x. DoesLines (record { live = []; fresh = x; spent = spent }) d.lines d.answers done in
    let R : List ResourceSeen → Type 0 = λ x. DoesLines (record { live = []; fresh = fresh_old; spent = x }) d.lines d.answers done in
    let S : List Live → Type 0 = λ x. EndsAll done (record { live = x; fresh = fresh'; spent = spent' }) in
    record {
      lines = d.lines;
      answers = d.answers;
      few = few;
      are_lines = d.are_lines;
      session = record { done = done; lines_did = subst R p (subst Q f (subst P l d.did)); ended = subst S m e };
      written_is = d.written_is ∙ ap (λ x. x ++ answer_lines d.answers) b;
    }
