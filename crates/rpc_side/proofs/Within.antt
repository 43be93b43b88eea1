-- Where no limit is passed, what a side reports of the calls of an id is what the PDUs of this id give alone.
use Rattle.std.proofs.Common.{◌≡◌, ◌∙◌, ℕ, Bool, true, false, not, ◌==◌, leb, List, [], ◌∷◌, ◌++◌, Some, None, refl, ap, sym, append_assoc, append-nil, eqb-true, slice_index}
use Rattle.rpc_stream.specs.declared.call.Peer.{Peer}
use Rattle.rpc_stream.specs.declared.call.Pdu.{Pdu}
use Rattle.rpc_stream.specs.declared.call.Part.{Part}
use Rattle.rpc_stream.specs.declared.call.Part.TheVariants.{Sole, Opening, Middle, Closing, Stopping}
use Rattle.rpc_stream.specs.declared.call.Ended.{Ended}
use Rattle.rpc_stream.specs.declared.call.Ended.TheVariants.{Complete, CutOff}
use Rattle.rpc_stream.specs.Calls.{Open, id_of, part_of, in_calls, put_by, pick_by, keep_by, next_by, ended_by, next, ended, ended_all, open_after, of_id, calls_of, others_of}
use Rattle.rpc_side.specs.declared.report.Limits.{Limits}
use Rattle.rpc_side.specs.declared.report.Report.{Report}
use Rattle.rpc_side.specs.declared.report.Report.TheVariants.{CallEnded, Passed, Other}
use Rattle.rpc_side.specs.Kept.{Kept, Step, without, fits, begin_by, grow_by, step_by, step_if, step, kept_after, reports_of, NonePassed, ended_under, other_pdus}

-- ## Lists of reports

first_none : (rs ss : List Report) → NonePassed (rs ++ ss) → NonePassed rs
first_none [] ss n = tt
first_none (CallEnded c how ∷ rs) ss n = first_none rs ss n
first_none (Passed c limit g p ∷ rs) ss n = absurd n
first_none (Other p ∷ rs) ss n = first_none rs ss n

rest_none : (rs ss : List Report) → NonePassed (rs ++ ss) → NonePassed ss
rest_none [] ss n = n
rest_none (CallEnded c how ∷ rs) ss n = rest_none rs ss n
rest_none (Passed c limit g p ∷ rs) ss n = absurd n
rest_none (Other p ∷ rs) ss n = rest_none rs ss n

picked_more : (b : Bool) (es fs gs : List Ended) → pick_by b es (fs ++ gs) ≡ pick_by b es fs ++ gs
picked_more true es fs gs = sym (append_assoc es fs gs)
picked_more false es fs gs = refl

under_more : (c : ℕ) (rs ss : List Report) → ended_under c (rs ++ ss) ≡ ended_under c rs ++ ended_under c ss
under_more c [] ss = refl
under_more c (CallEnded d how ∷ rs) ss =
    ap (pick_by (d == c) (how ∷ [])) (under_more c rs ss) ∙ picked_more (d == c) (how ∷ []) (ended_under c rs) (ended_under c ss)
under_more c (Passed d limit g p ∷ rs) ss = under_more c rs ss
under_more c (Other p ∷ rs) ss = under_more c rs ss

-- ## One step

-- what a step of the call `d` does, seen from the id `c`
record Does (c d : ℕ) (o : Open) (part : Part) (p : Pdu) (k : Kept) (s : Step) : Type 0 where
  pub kept : s.kept.by_id c ≡ put_by (d == c) (next_by o part p) (k.by_id c)
  pub reports : ended_under c s.reports ≡ pick_by (d == c) (ended_by o part p) []

-- the call is not open, and stays so
stays : (b : Bool) (x : Open) → (b ≡ true → x ≡ None) → x ≡ put_by b None x
stays true x h = h refl
stays false x h = refl

not_open : (c d : ℕ) (k : Kept) → k.by_id d ≡ None → (d == c) ≡ true → k.by_id c ≡ None
not_open c d k e h = ap k.by_id (sym (eqb-true d c h)) ∙ e

twice : (b : Bool) (o x : Open) → put_by b o (put_by b None x) ≡ put_by b o x
twice true o x = refl
twice false o x = refl

two_picked : (b : Bool) (e f : Ended) → pick_by b (e ∷ []) (pick_by b (f ∷ []) []) ≡ pick_by b (e ∷ (f ∷ [])) []
two_picked true e f = refl
two_picked false e f = refl

none_picked : (b : Bool) → [] ≡ pick_by b [] []
none_picked true = refl
none_picked false = refl

begins_by : (c d : ℕ) (p : Pdu) (k : Kept) (many fit : Bool) → NonePassed (begin_by many fit d p k).reports
    → Does c d None Opening p k (begin_by many fit d p k)
begins_by c d p k true fit n = absurd n
begins_by c d p k false false n = absurd n
begins_by c d p k false true n = record { kept = refl; reports = none_picked (d == c) }

begins_again : (c d : ℕ) (g : List Pdu) (p : Pdu) (k : Kept) (many fit : Bool) → NonePassed (begin_by many fit d p (without d g k)).reports
    → (begin_by many fit d p (without d g k)).kept.by_id c ≡ put_by (d == c) (Some (p ∷ [])) (k.by_id c)
begins_again c d g p k true fit n = absurd n
begins_again c d g p k false false n = absurd n
begins_again c d g p k false true n = twice (d == c) (Some (p ∷ [])) (k.by_id c)

begins_silent : (c d : ℕ) (p : Pdu) (k : Kept) (many fit : Bool) → NonePassed (begin_by many fit d p k).reports
    → ended_under c (begin_by many fit d p k).reports ≡ []
begins_silent c d p k true fit n = absurd n
begins_silent c d p k false false n = absurd n
begins_silent c d p k false true n = refl

grows_by : (c d : ℕ) (g : List Pdu) (p : Pdu) (k : Kept) (fit : Bool) → NonePassed (grow_by fit d g p k).reports
    → Does c d (Some g) Middle p k (grow_by fit d g p k)
grows_by c d g p k true n = record { kept = refl; reports = none_picked (d == c) }
grows_by c d g p k false n = absurd n

does : (limits : Limits) (c d : ℕ) (o : Open) (part : Part) (p : Pdu) (k : Kept) → k.by_id d ≡ o → NonePassed (step_by limits d o part p k).reports
    → Does c d o part p k (step_by limits d o part p k)
does limits c d None Sole p k e n = record { kept = stays (d == c) (k.by_id c) (not_open c d k e); reports = refl }
does limits c d None Opening p k e n = begins_by c d p k (leb limits.calls k.calls) (fits limits [] p k) n
does limits c d None Middle p k e n = record { kept = stays (d == c) (k.by_id c) (not_open c d k e); reports = refl }
does limits c d None Closing p k e n = record { kept = stays (d == c) (k.by_id c) (not_open c d k e); reports = refl }
does limits c d None Stopping p k e n = record { kept = stays (d == c) (k.by_id c) (not_open c d k e); reports = refl }
does limits c d (Some g) Sole p k e n = record { kept = refl; reports = two_picked (d == c) (CutOff g) (Complete (p ∷ [])) }
does limits c d (Some g) Opening p k e n =
    let many : Bool = leb limits.calls (without d g k).calls in
    let fit : Bool = fits limits [] p (without d g k) in
    record {
      kept = begins_again c d g p k many fit n;
      reports = ap (pick_by (d == c) (CutOff g ∷ [])) (begins_silent c d p (without d g k) many fit n);
    }
does limits c d (Some g) Middle p k e n = grows_by c d g p k (fits limits g p k) n
does limits c d (Some g) Closing p k e n = record { kept = refl; reports = refl }
does limits c d (Some g) Stopping p k e n = record { kept = refl; reports = refl }

-- ## All of them

pub record Agree (c : ℕ) (peer : Peer) (limits : Limits) (k : Kept) (ps : List Pdu) : Type 0 where
  pub kept : (kept_after peer limits k ps).by_id c ≡ open_after (k.by_id c) (of_id c (calls_of peer ps))
  pub reports : ended_under c (reports_of peer limits k ps) ≡ ended_all (k.by_id c) (of_id c (calls_of peer ps))

-- what is open under the id `c` after a PDU of the id `d`, and what ended
opened_by : (b : Bool) (o x : Open) (p : Pdu) (qs : List Pdu) → (b ≡ true → o ≡ x) → open_after (put_by b (next o p) x) qs ≡ open_after x (keep_by b p qs)
opened_by true o x p qs h = ap (λ y. open_after (next y p) qs) (h refl)
opened_by false o x p qs h = refl

ended_then : (b : Bool) (o x : Open) (p : Pdu) (qs : List Pdu) → (b ≡ true → o ≡ x)
    → pick_by b (ended o p) [] ++ ended_all (put_by b (next o p) x) qs ≡ ended_all x (keep_by b p qs)
ended_then true o x p qs h =
    ap (λ l. l ++ ended_all (next o p) qs) (append-nil (ended o p)) ∙ ap (λ y. ended y p ++ ended_all (next y p) qs) (h refl)
ended_then false o x p qs h = refl

-- after a PDU that is a part of a call, or is not
record AgreeAfter (b : Bool) (c : ℕ) (peer : Peer) (limits : Limits) (k : Kept) (p : Pdu) (ps : List Pdu) : Type 0 where
  pub kept : (kept_after peer limits (step_if b limits p k).kept ps).by_id c ≡ open_after (k.by_id c) (of_id c (keep_by b p (calls_of peer ps)))
  pub reports : ended_under c ((step_if b limits p k).reports ++ reports_of peer limits (step_if b limits p k).kept ps)
      ≡ ended_all (k.by_id c) (of_id c (keep_by b p (calls_of peer ps)))

one_more : (b : Bool) (c : ℕ) (peer : Peer) (limits : Limits) (k : Kept) (p : Pdu) (ps : List Pdu)
    → NonePassed ((step_if b limits p k).reports ++ reports_of peer limits (step_if b limits p k).kept ps)
    → (NonePassed (reports_of peer limits (step_if b limits p k).kept ps) → Agree c peer limits (step_if b limits p k).kept ps)
    → AgreeAfter b c peer limits k p ps
one_more false c peer limits k p ps n next_agree = let a = next_agree n in record { kept = a.kept; reports = a.reports }
one_more true c peer limits k p ps n next_agree =
    let s : Step = step_by limits (id_of p) (k.by_id (id_of p)) (part_of p) p k in
    let rest : List Report = reports_of peer limits (step_by limits (id_of p) (k.by_id (id_of p)) (part_of p) p k).kept ps in
    let own : List Pdu = of_id c (calls_of peer ps) in
    let a = next_agree (rest_none s.reports rest n) in
    let t = does limits c (id_of p) (k.by_id (id_of p)) (part_of p) p k refl (first_none s.reports rest n) in
    let same : ((id_of p == c) ≡ true → k.by_id (id_of p) ≡ k.by_id c) = λ h. ap k.by_id (eqb-true (id_of p) c h) in
    record {
      kept = a.kept ∙ ap (λ y. open_after y own) t.kept ∙ opened_by (id_of p == c) (k.by_id (id_of p)) (k.by_id c) p own same;
      reports =
          under_more c s.reports rest
          ∙ ap (λ l. l ++ ended_under c rest) t.reports
          ∙ ap (λ l. pick_by (id_of p == c) (ended (k.by_id (id_of p)) p) [] ++ l) (a.reports ∙ ap (λ y. ended_all y own) t.kept)
          ∙ ended_then (id_of p == c) (k.by_id (id_of p)) (k.by_id c) p own same;
    }

pub agree : (c : ℕ) (peer : Peer) (limits : Limits) (ps : List Pdu) (k : Kept) → NonePassed (reports_of peer limits k ps) → Agree c peer limits k ps
agree c peer limits [] k n = record { kept = refl; reports = refl }
agree c peer limits (p ∷ ps) k n =
    let a =
    one_more (in_calls peer (slice_index p.octets 2)) c peer limits k p ps n
    (λ m. agree c peer limits ps (step_if (in_calls peer (slice_index p.octets 2)) limits p k).kept m) in
    record { kept = a.kept; reports = a.reports }

-- ## Other PDUs

none_begun : (c : ℕ) (p : Pdu) (k : Kept) (many fit : Bool) (rest : List Report) → other_pdus ((begin_by many fit c p k).reports ++ rest) ≡ other_pdus rest
none_begun c p k true fit rest = refl
none_begun c p k false true rest = refl
none_begun c p k false false rest = refl

none_grown : (c : ℕ) (g : List Pdu) (p : Pdu) (k : Kept) (fit : Bool) (rest : List Report) → other_pdus ((grow_by fit c g p k).reports ++ rest) ≡ other_pdus rest
none_grown c g p k true rest = refl
none_grown c g p k false rest = refl

none_other : (limits : Limits) (c : ℕ) (o : Open) (part : Part) (p : Pdu) (k : Kept) (rest : List Report)
    → other_pdus ((step_by limits c o part p k).reports ++ rest) ≡ other_pdus rest
none_other limits c None Sole p k rest = refl
none_other limits c None Opening p k rest = none_begun c p k (leb limits.calls k.calls) (fits limits [] p k) rest
none_other limits c None Middle p k rest = refl
none_other limits c None Closing p k rest = refl
none_other limits c None Stopping p k rest = refl
none_other limits c (Some g) Sole p k rest = refl
none_other limits c (Some g) Opening p k rest =
    none_begun c p (without c g k) (leb limits.calls (without c g k).calls) (fits limits [] p (without c g k)) rest
none_other limits c (Some g) Middle p k rest = none_grown c g p k (fits limits g p k) rest
none_other limits c (Some g) Closing p k rest = refl
none_other limits c (Some g) Stopping p k rest = refl

other_step : (b : Bool) (limits : Limits) (p : Pdu) (k : Kept) (rest : List Report) (qs : List Pdu) → other_pdus rest ≡ qs
    → other_pdus ((step_if b limits p k).reports ++ rest) ≡ keep_by (not b) p qs
other_step true limits p k rest qs e = none_other limits (id_of p) (k.by_id (id_of p)) (part_of p) p k rest ∙ e
other_step false limits p k rest qs e = ap (λ l. p ∷ l) e

pub others : (peer : Peer) (limits : Limits) (ps : List Pdu) (k : Kept) → other_pdus (reports_of peer limits k ps) ≡ others_of peer ps
others peer limits [] k = refl
others peer limits (p ∷ ps) k =
    other_step (in_calls peer (slice_index p.octets 2)) limits p k (reports_of peer limits (step peer limits p k).kept ps) (others_of peer ps)
    (others peer limits ps (step peer limits p k).kept)
