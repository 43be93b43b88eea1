-- What a session comes to, from what was read and how the script ran.
use Rattle.std.proofs.Common.{◌≡◌, ℕ, ◌+◌, ◌<◌, ◌≤◌, List, [], inl, inr, length, Result, Ok, Err, MatchResult, arith}
use Rattle.nd_base.specs.Over.{SourceOver, SinkOver, HasRisen}
use Rattle.command_refusals.specs.declared.refusal.Refusal.{Refusal}
use Rattle.command_refusals.specs.declared.refusal.Refusal.TheVariants.{Memory, Absent, FileFailed, BadIdl, NoOperation, ReadFault, BadOctets, BadText, BadValue, TooLong, BadRequest}
use Rattle.command_refusals.specs.declared.refusal.Refusal.TheVariants.{BadLabel, ShortLabel, TooFewEnds, EndFailed, BadPdu, NotCompatible, BadScript, LongScript}
use Rattle.command_streams.specs.Input.{AreRead, IsFetchCause}
use Rattle.command_streams.specs.Delivery.{IsGiven}
use Rattle.ctx_session.specs.Outcome.{StockSeen, IsUntouched, IsDone}
use Rattle.ctx_session.proofs.Accounts.{accounted}
use Rattle.command_session.specs.Session.{script_limit, SessionSeen, session_over, HasSession, IsSessionDone, IsSessionCause, IsSessionRefused, IsRefusalDelivered, IsNotRun}

-- the causes of a session, one by one
pub by_cause : (P : Refusal → Type 0) (s : SourceOver) → P Memory → (HasRisen s.faults → P ReadFault) → (IsSessionCause s LongScript → P LongScript)
    → ((line : ℕ) → IsSessionCause s (BadScript line) → P (BadScript line)) → (r : Refusal) → IsSessionCause s r → P r
by_cause P s memory read long bad Memory h = memory
by_cause P s memory read long bad ReadFault h = read h
by_cause P s memory read long bad LongScript h = long h
by_cause P s memory read long bad (BadScript line) h = bad line h
by_cause P s memory read long bad (Absent file) h = absurd h
by_cause P s memory read long bad (FileFailed file) h = absurd h
by_cause P s memory read long bad (BadIdl file line column reason) h = absurd h
by_cause P s memory read long bad NoOperation h = absurd h
by_cause P s memory read long bad (BadOctets place why) h = absurd h
by_cause P s memory read long bad (BadText line column reason) h = absurd h
by_cause P s memory read long bad (BadValue path reason) h = absurd h
by_cause P s memory read long bad (TooLong many) h = absurd h
by_cause P s memory read long bad (BadRequest fault) h = absurd h
by_cause P s memory read long bad (BadLabel fault) h = absurd h
by_cause P s memory read long bad ShortLabel h = absurd h
by_cause P s memory read long bad (TooFewEnds wanted found) h = absurd h
by_cause P s memory read long bad (EndFailed which) h = absurd h
by_cause P s memory read long bad (BadPdu place why) h = absurd h
by_cause P s memory read long bad (NotCompatible fault) h = absurd h

-- ## From what was read

module _ (s : SourceOver) (stock : StockSeen) where
  abbrev x : SessionSeen
  x = session_over s stock

  -- a fetch failed, or there was no memory
  pub unread : (r : Refusal) → IsFetchCause s r → IsUntouched stock → IsSessionRefused x r
  unread Memory h same = record { cause = tt; untouched = same }
  unread ReadFault h same = record { cause = h; untouched = same }
  unread (Absent file) h same = absurd h
  unread (FileFailed file) h same = absurd h
  unread (BadIdl file line column reason) h same = absurd h
  unread NoOperation h same = absurd h
  unread (BadOctets place why) h same = absurd h
  unread (BadText line column reason) h same = absurd h
  unread (BadValue path reason) h same = absurd h
  unread (TooLong many) h same = absurd h
  unread (BadRequest fault) h same = absurd h
  unread (BadLabel fault) h same = absurd h
  unread ShortLabel h same = absurd h
  unread (TooFewEnds wanted found) h same = absurd h
  unread (EndFailed which) h same = absurd h
  unread (BadPdu place why) h same = absurd h
  unread (NotCompatible fault) h same = absurd h
  unread (BadScript line) h same = absurd h
  unread LongScript h same = absurd h

  module _ (script : List ℕ) (read : AreRead s script_limit script) where
    pub done : (made : List ℕ) → IsDone script stock made → IsSessionDone x made
    done made d =
        let few : length script < script_limit + 1 = omega (arith, d.few) in record {
          script = script;
          taken = read.taken;
          whole = read.whole few;
          none_left = read.none_left few;
          few = d.few;
          lines = d.lines;
          answers = d.answers;
          are_lines = d.are_lines;
          session = d.session;
          accounted = accounted stock.fresh stock.spent d.lines d.answers stock.fresh_now stock.spent_now d.session;
          made_is = d.written_is;
        }

    pub refused : (r : Refusal) → IsNotRun script stock r → IsSessionRefused x r
    refused Memory n = record { cause = tt; untouched = n.untouched }
    refused LongScript n = record { cause = record { octets = script; read = read; many = n.cause }; untouched = n.untouched }
    refused (BadScript line) n = record { cause = record { octets = script; read = read; few = n.cause.0; bad = n.cause.1 }; untouched = n.untouched }
    refused ReadFault n = absurd n.cause
    refused (Absent file) n = absurd n.cause
    refused (FileFailed file) n = absurd n.cause
    refused (BadIdl file line column reason) n = absurd n.cause
    refused NoOperation n = absurd n.cause
    refused (BadOctets place why) n = absurd n.cause
    refused (BadText line column reason) n = absurd n.cause
    refused (BadValue path reason) n = absurd n.cause
    refused (TooLong many) n = absurd n.cause
    refused (BadRequest fault) n = absurd n.cause
    refused (BadLabel fault) n = absurd n.cause
    refused ShortLabel n = absurd n.cause
    refused (TooFewEnds wanted found) n = absurd n.cause
    refused (EndFailed which) n = absurd n.cause
    refused (BadPdu place why) n = absurd n.cause
    refused (NotCompatible fault) n = absurd n.cause

    pub ran : (r : Result (List ℕ) Refusal) → MatchResult r (IsDone script stock) (IsNotRun script stock) → MatchResult r (IsSessionDone x) (IsSessionRefused x)
    ran (Ok made) d = done made d
    ran (Err refusal) n = refused refusal n

-- ## From how it was written

-- a refusal was reported, or want of memory in its place
reported : (x : SessionSeen) (out notes : SinkOver) (status : ℕ) (r : Refusal) → IsSessionRefused x r → IsRefusalDelivered out notes r status
    → HasSession x out notes status
reported x out notes status r refused (before, inl told) = inr (r, refused, before, told)
reported x out notes status r refused (before, inr told) = inr (Memory, record { cause = tt; untouched = refused.untouched }, before, told)

pub written : (x : SessionSeen) (out notes : SinkOver) (status : ℕ) (r : Result (List ℕ) Refusal) → MatchResult r (IsSessionDone x) (IsSessionRefused x)
    → MatchResult r (λ made. IsGiven out notes made status) (λ refusal. IsRefusalDelivered out notes refusal status) → HasSession x out notes status
written x out notes status (Ok made) d given = inl (made, d, given)
written x out notes status (Err refusal) refused told = reported x out notes status refusal refused told
