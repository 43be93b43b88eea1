-- What became of a resource, by what its lines said.
use Rattle.std.proofs.Common.{◌≡◌, ◌∙◌, ap, sym, refl, subst, ℕ, suc, zero, ◌+◌, ◌-◌, ◌^◌, ◌≤◌, min, Bool, true, false, true≢false, List, [], ◌∷◌, ◌++◌, Option, Some, None, option_map, arith}
use Rattle.std.proofs.Common.{append_assoc, append-nil, remove}
use Rattle.std.specs.List.{slice_get}
use Rattle.std.proofs.lemmas.Option.{none-some, same_Some}
use Rattle.std.proofs.lemmas.Grind.{common_steps}
use Rattle.ctx_store.specs.Resource.{ResourceSeen, gone, with_line, HasFailed, HasEndedSo}
use Rattle.ctx_session.specs.Accounts.{Opening, Life, HasServed, AreServed, none, one}

least : (a m : ℕ) → min (a + 0) m ≤ a
least a m = grind (arith, common_steps)

least_step : (a b c k m : ℕ) → min (a + 1) m ≤ b → min (b + k) m ≤ c → min (a + suc k) m ≤ c
least_step a b c k m h g = grind (arith, common_steps)

abbrev no_life : Bool → ℕ → Life
no_life closed failures = record { accepted = []; failures = failures; closed = closed }

quiet_end : (was now : ResourceSeen) (closed : Bool) → now ≡ gone was → HasServed (record { was = was; life = no_life closed 0 }) now
quiet_end was now closed e = record {
  ended = ap (λ r. r.ended) e;
  lines = ap (λ r. r.lines) e ∙ sym (append-nil was.lines);
  is_shown = ap (λ r. r.is_shown) e;
  faults = subst (λ n. min (was.faults + 0) (2 ^ 64 - 1) ≤ n) (sym (ap (λ r. r.faults) e)) (least was.faults (2 ^ 64 - 1));
  later = (let f = ap (λ r. r.faults) e in omega (arith, f));
  unfailed = λ c n. ap (λ r. r.faults) e;
}

-- a resource that a line closed
pub closed_served : (was now : ResourceSeen) → HasEndedSo was now false → HasServed (record { was = was; life = no_life true 0 }) now
closed_served was now e = quiet_end was now true e

pub failed_close_served : (was now : ResourceSeen) → HasEndedSo was now true → HasServed (record { was = was; life = no_life true 1 }) now
failed_close_served was now e = record {
  ended = e.ended_is;
  lines = e.lines ∙ sym (append-nil was.lines);
  is_shown = e.is_shown;
  faults = e.risen;
  later = e.later;
  unfailed = λ c n. cc;
}

-- one that was ended with its client
pub run_down_served : (was now : ResourceSeen) (failed : Bool) → HasEndedSo was now failed → HasServed (record { was = was; life = no_life false 0 }) now
run_down_served was now false e = quiet_end was now false e
run_down_served was now true e = record {
  ended = e.ended_is;
  lines = e.lines ∙ sym (append-nil was.lines);
  is_shown = e.is_shown;
  faults = (let l = e.later in let m = least was.faults (2 ^ 64 - 1) in omega (arith, l, m));
  later = e.later;
  unfailed = λ c n. absurd (true≢false (sym c));
}

-- one more line was accepted
pub accepted_served : (was now : ResourceSeen) (text : List ℕ) (life : Life) → HasServed (record { was = with_line text was; life = life }) now
    → HasServed (record { was = was; life = record life { accepted = (text ++ 10 ∷ []) ++ life.accepted } }) now
accepted_served was now text life s = record {
  ended = s.ended;
  lines = s.lines ∙ append_assoc was.lines (text ++ 10 ∷ []) life.accepted;
  is_shown = s.is_shown;
  faults = s.faults;
  later = s.later;
  unfailed = s.unfailed;
}

-- one more line failed
pub failed_served : (was is now : ResourceSeen) (life : Life) → HasFailed was is was.ended → HasServed (record { was = is; life = life }) now
    → HasServed (record { was = was; life = record life { failures = suc life.failures } }) now
failed_served was is now life f s = record {
  ended = s.ended;
  lines = s.lines ∙ ap (λ l. l ++ life.accepted) f.lines;
  is_shown = s.is_shown ∙ f.is_shown;
  faults = least_step was.faults is.faults now.faults life.failures (2 ^ 64 - 1) f.risen s.faults;
  later = (let a = f.later in let b = s.later in omega (arith, a, b));
  unfailed = λ c n. cc;
}

-- ## What serves each of these serves each of those

pub data Covers : List Opening → List Opening → Type 0 where
  cover_none : Covers [] []
  cover : {o p : Opening} {os ps : List Opening} → ((now : ResourceSeen) → HasServed o now → HasServed p now) → Covers os ps → Covers (o ∷ os) (p ∷ ps)

pub covers_same : (os : List Opening) → Covers os os
covers_same [] = cover_none
covers_same (o ∷ os) = cover (λ now h. h) (covers_same os)

pub covers_append : (os ps qs rs : List Opening) → Covers os ps → Covers qs rs → Covers (os ++ qs) (ps ++ rs)
covers_append _ _ qs rs cover_none d = d
covers_append _ _ qs rs (cover {os = os} {ps = ps} f c) d = cover f (covers_append os ps qs rs c d)

covers_at : (os ps : List Opening) (at : ℕ) (o : Opening) → Covers os ps → slice_get os at ≡ Some o
    → (p : Opening) × (slice_get ps at ≡ Some p) × ((now : ResourceSeen) → HasServed o now → HasServed p now) × Covers (remove os at) (remove ps at)
covers_at _ _ at o cover_none h = absurd (none-some o h)
covers_at _ _ zero o (cover {o = a} {p = b} f c) h = (b, refl, subst (λ x. (now : ResourceSeen) → HasServed x now → HasServed b now) (same_Some a o h) f, c)
covers_at _ _ (suc at) o (cover {os = os} {ps = ps} f c) h = let r = covers_at os ps at o c h in (r.0, r.1, r.2, cover f r.3)

pub served_more : (os ps : List Opening) (ended : List ResourceSeen) → AreServed os ended → Covers os ps → AreServed ps ended
served_more _ _ _ none cover_none = none
served_more os ps _ (one {o = o} {now = now} {rest = rest} at h s r) c =
    let d = covers_at os ps at o c h in
    one at d.1 (d.2 now s) (served_more (remove os at) (remove ps at) rest r d.3)
