-- The rows of a session follow from the whole of it.
use Rattle.std.proofs.Common.{◌≡◌, ◌∙◌, ℕ, ◌+◌, ◌<◌, ◌≤◌, List, [], ◌∷◌, ◌⊎◌, inl, inr, refl, sym, subst, length, arith}
use Rattle.std.specs.Prelude.{◌≢◌}
use Rattle.nd_base.specs.Over.{SinkOver, HasRisen, Got}
use Rattle.command_refusals.specs.declared.refusal.Refusal.{Refusal}
use Rattle.command_refusals.specs.declared.refusal.Refusal.TheVariants.{Memory, Absent, FileFailed, BadIdl, NoOperation, ReadFault, BadOctets, BadText, BadValue, TooLong, BadRequest}
use Rattle.command_refusals.specs.declared.refusal.Refusal.TheVariants.{BadLabel, ShortLabel, TooFewEnds, EndFailed, BadPdu, NotCompatible, BadScript, LongScript}
use Rattle.command_refusals.specs.Lines.{status_of, line_of}
use Rattle.command_streams.specs.Input.{AreGiven}
use Rattle.command_streams.specs.Delivery.{IsOneOf, IsCompleted}
use Rattle.ctx_session.specs.Script.{AreLines, IsBadLine}
use Rattle.ctx_session.proofs.OneScript.{never_both, one_bad_line}
use Rattle.command_session.specs.Session.{script_limit, SessionSeen, HasSession, IsSessionDone, IsSessionCause, IsLong, HasBadLine}
use Rattle.command_session.specs.Rows.{IsAnswered, IsRefusedWith, IsCutShort, IsUnreported, HasNotFailed, IsScript, IsNoScript, Refuses}
use Rattle.command_session.proofs.Known.{all_octets, many_octets, whole_octets}
use Rattle.command_session.proofs.Ends.{by_cause}

apart : (n a b : ℕ) → n ≡ a → n ≡ b → (a ≡ b → ⊥) → ⊥
apart n a b x y unlike = unlike (sym x ∙ y)

module _ (x : SessionSeen) (out notes : SinkOver) (status : ℕ) where
  -- ## What a status says

  -- the status of a refusal
  refused_status : (r : Refusal) → IsSessionCause x.input r → status ≡ status_of r → IsOneOf (1 ∷ 3 ∷ 5 ∷ []) status
  refused_status r cause = by_cause (λ q. status ≡ status_of q → IsOneOf (1 ∷ 3 ∷ 5 ∷ []) status) x.input (λ e. inr (inr (inl e))) (λ h e. inr (inl e)) (λ h e. inl e) (λ line h e. inl e) r cause

  refused_is : (k : ℕ) → IsOneOf (1 ∷ 3 ∷ 5 ∷ []) status → status ≡ k → (1 ≡ k → ⊥) → (3 ≡ k → ⊥) → (5 ≡ k → ⊥) → ⊥
  refused_is k (inl a) e one three five = one (sym a ∙ e)
  refused_is k (inr (inl a)) e one three five = three (sym a ∙ e)
  refused_is k (inr (inr (inl a))) e one three five = five (sym a ∙ e)
  refused_is k (inr (inr (inr never))) e one three five = absurd never

  pub statuses : HasSession x out notes status → IsOneOf (0 ∷ 1 ∷ 3 ∷ 4 ∷ 5 ∷ []) status
  statuses (inl (made, d, inl (is, given, quiet))) = inl is
  statuses (inl (made, d, inr (is, rose, some, warned))) = inr (inr (inr (inl is)))
  statuses (inr (r, refused, before, inr (is, rose, some))) = inr (inr (inr (inl is)))
  statuses (inr (r, refused, before, inl (is, told))) = by (refused_status r refused.cause is)
    where
      by : IsOneOf (1 ∷ 3 ∷ 5 ∷ []) status → IsOneOf (0 ∷ 1 ∷ 3 ∷ 4 ∷ 5 ∷ []) status
      by (inl e) = inr (inl e)
      by (inr (inl e)) = inr (inr (inl e))
      by (inr (inr (inl e))) = inr (inr (inr (inr (inl e))))
      by (inr (inr (inr never))) = absurd never

  pub answered : HasSession x out notes status → status ≡ 0 → IsAnswered x out notes
  answered (inl (made, d, inl (is, given, quiet))) e = record { made = made; done = d; given = given; quiet = quiet }
  answered (inl (made, d, inr (is, rose, some, warned))) e = absurd (apart status 4 0 is e (λ h. cc))
  answered (inr (r, refused, before, inl (is, told))) e =
      absurd (refused_is 0 (refused_status r refused.cause is) e (λ h. cc) (λ h. cc) (λ h. cc))
  answered (inr (r, refused, before, inr (is, rose, some))) e = absurd (apart status 4 0 is e (λ h. cc))

  pub refused_with : HasSession x out notes status → status ≢ 0 → status ≢ 4 → IsRefusedWith x out notes status
  refused_with (inl (made, d, inl (is, given, quiet))) zero four = absurd (zero is)
  refused_with (inl (made, d, inr (is, rose, some, warned))) zero four = absurd (four is)
  refused_with (inr (r, refused, before, inl (is, told))) zero four =
      record { refusal = r; refused = refused; own_status = is; line = told; nothing_given = before }
  refused_with (inr (r, refused, before, inr (is, rose, some))) zero four = absurd (four is)

  pub unwritten : HasSession x out notes status → status ≡ 4 → IsCutShort x out notes ⊎ IsUnreported x out notes
  unwritten (inl (made, d, inl (is, given, quiet))) e = absurd (apart status 0 4 is e (λ h. cc))
  unwritten (inl (made, d, inr (is, rose, some, warned))) e = inl (record { made = made; done = d; risen = rose; given = some; warned = warned })
  unwritten (inr (r, refused, before, inl (is, told))) e =
      absurd (refused_is 4 (refused_status r refused.cause is) e (λ h. cc) (λ h. cc) (λ h. cc))
  unwritten (inr (r, refused, before, inr (is, rose, some))) e =
      inr (record { refusal = r; refused = refused; risen = rose; line = some; nothing_given = before })

  pub unfailed : HasSession x out notes status → HasNotFailed x out notes → IsOneOf (0 ∷ 1 ∷ 5 ∷ []) status
  unfailed (inl (made, d, inl (is, given, quiet))) nothing = inl is
  unfailed (inl (made, d, inr (is, rose, some, warned))) nothing = absurd (nothing.writes rose)
  unfailed (inr (r, refused, before, inr (is, rose, some))) nothing = absurd (nothing.reports rose)
  unfailed (inr (r, refused, before, inl (is, told))) nothing =
      by_cause (λ q. status ≡ status_of q → IsOneOf (0 ∷ 1 ∷ 5 ∷ []) status) x.input (λ e. inr (inr (inl e))) (λ rose. absurd (nothing.reads rose)) (λ h e. inr (inl e))
      (λ line h e. inr (inl e)) r refused.cause is

  -- ## Where the octets of the input are known

  module _ (octets : List ℕ) (given : AreGiven x.input octets) (sound : HasRisen notes.faults → ⊥) where
    -- what was done is not longer than it may be
    done_few : (made : List ℕ) → IsSessionDone x made → length octets ≤ script_limit
    done_few made d = subst (λ (l : List ℕ). length l ≤ script_limit) (whole_octets x.input octets given d.script d.taken d.none_left) d.few

    -- what was refused as too long is
    long_many : IsLong x.input → length octets ≤ script_limit → ⊥
    long_many h few =
        let many = h.many in
        let same = subst (λ (l : List ℕ). script_limit < length l) (all_octets x.input octets given script_limit h.octets few h.read) many in
        omega (arith, few, same)

    -- what was refused for a line is not too long, and that line is none
    bad_few : (line : ℕ) → HasBadLine x.input line → script_limit < length octets → ⊥
    bad_few line h many =
        let more = many_octets x.input octets given script_limit h.octets many h.read in
        let few = h.few in
        omega (arith, more, few)

    bad_here : (line : ℕ) → HasBadLine x.input line → length octets ≤ script_limit → IsBadLine octets line
    bad_here line h few = subst (λ (l : List ℕ). IsBadLine l line) (all_octets x.input octets given script_limit h.octets few h.read) h.bad

    pub complete : IsScript octets → HasSession x out notes status → IsCompleted out status
    complete (few, (lines, are)) (inl (made, d, inl (is, told, quiet))) = inl is
    complete (few, (lines, are)) (inl (made, d, inr (is, rose, some, warned))) = inr (inr (is, rose))
    complete (few, (lines, are)) (inr (r, refused, before, inr (is, rose, some))) = absurd (sound rose)
    complete (few, (lines, are)) (inr (r, refused, before, inl (is, told))) =
        by_cause (λ q. status ≡ status_of q → IsCompleted out status) x.input (λ e. inr (inl e)) (λ rose. absurd (given.reads rose)) (λ h. absurd (long_many h few))
        (λ line h. absurd (never_both octets lines line are (bad_here line h few))) r refused.cause is

    -- what was done is a script
    never_done : (r : Refusal) → IsNoScript octets r → (made : List ℕ) → IsSessionDone x made → ⊥
    never_done LongScript many made d = let few = done_few made d in omega (arith, many, few)
    never_done (BadScript line) (few, bad) made d =
        never_both octets d.lines line
        (subst (λ (l : List ℕ). AreLines l d.lines) (whole_octets x.input octets given d.script d.taken d.none_left) d.are_lines) bad
    never_done Memory h made d = absurd h
    never_done ReadFault h made d = absurd h
    never_done (Absent file) h made d = absurd h
    never_done (FileFailed file) h made d = absurd h
    never_done (BadIdl file line column reason) h made d = absurd h
    never_done NoOperation h made d = absurd h
    never_done (BadOctets place why) h made d = absurd h
    never_done (BadText line column reason) h made d = absurd h
    never_done (BadValue path reason) h made d = absurd h
    never_done (TooLong many) h made d = absurd h
    never_done (BadRequest fault) h made d = absurd h
    never_done (BadLabel fault) h made d = absurd h
    never_done ShortLabel h made d = absurd h
    never_done (TooFewEnds wanted found) h made d = absurd h
    never_done (EndFailed which) h made d = absurd h
    never_done (BadPdu place why) h made d = absurd h
    never_done (NotCompatible fault) h made d = absurd h

    -- what is refused in one way is refused in no other
    same_refusal : (r : Refusal) → IsNoScript octets r → (q : Refusal) → IsSessionCause x.input q → (q ≡ Memory) ⊎ (q ≡ r)
    same_refusal LongScript many =
        by_cause (λ q. (q ≡ Memory) ⊎ (q ≡ LongScript)) x.input (inl refl) (λ rose. absurd (given.reads rose)) (λ h. inr refl) (λ line h. absurd (bad_few line h many))
    same_refusal (BadScript line) (few, bad) =
        by_cause (λ q. (q ≡ Memory) ⊎ (q ≡ BadScript line)) x.input (inl refl) (λ rose. absurd (given.reads rose)) (λ h. absurd (long_many h few))
        (λ n h. inr (let same : n ≡ line = one_bad_line octets n line (bad_here n h few) bad in cc))
    same_refusal Memory h = absurd h
    same_refusal ReadFault h = absurd h
    same_refusal (Absent file) h = absurd h
    same_refusal (FileFailed file) h = absurd h
    same_refusal (BadIdl file line column reason) h = absurd h
    same_refusal NoOperation h = absurd h
    same_refusal (BadOctets place why) h = absurd h
    same_refusal (BadText line column reason) h = absurd h
    same_refusal (BadValue path reason) h = absurd h
    same_refusal (TooLong many) h = absurd h
    same_refusal (BadRequest fault) h = absurd h
    same_refusal (BadLabel fault) h = absurd h
    same_refusal ShortLabel h = absurd h
    same_refusal (TooFewEnds wanted found) h = absurd h
    same_refusal (EndFailed which) h = absurd h
    same_refusal (BadPdu place why) h = absurd h
    same_refusal (NotCompatible fault) h = absurd h

    as_refused : (r q : Refusal) → (q ≡ Memory) ⊎ (q ≡ r) → status ≡ status_of q → Got notes (line_of [] [] q) → Refuses notes status r
    as_refused r q (inl e) is told = inr (subst (λ (u : Refusal). status ≡ status_of u) e is)
    as_refused r q (inr e) is told =
        inl (subst (λ (u : Refusal). status ≡ status_of u) e is, subst (λ (u : Refusal). Got notes (line_of [] [] u)) e told)

    pub exactly : (r : Refusal) → IsNoScript octets r → HasSession x out notes status → Refuses notes status r
    exactly r fault (inl (made, d, given)) = absurd (never_done r fault made d)
    exactly r fault (inr (q, refused, before, inl (is, told))) = as_refused r q (same_refusal r fault q refused.cause) is told
    exactly r fault (inr (q, refused, before, inr (is, rose, some))) = absurd (sound rose)
