-- What the fragments of one call say together. Each is a whole PDU, with its padding and security trailer.
use Rattle.std.specs.Prelude.{◌≡◌, ℕ, ◌-◌, ◌^◌, ◌≤◌, ◌<◌, suc, Bool, true, false, List, [], ◌∷◌, length, Option, Some, None}
use Rattle.rpc_pdu.specs.declared.pdu.Wanted.{Wanted}
use Rattle.rpc_pdu.specs.declared.pdu.PduReason.{PduReason}
use Rattle.rpc_pdu.specs.Checks.{Before, nothing, after, refusal, is_last, fragment_length}
use Rattle.rpc_connection.specs.Bare.{Bare, plain, sealed, no_room, bare}

-- why a fragment is refused
pub data Why : Type 0 where
  check : PduReason → Why
  trailer : Why

-- what they say
pub data Verdict : Type 0 where
  -- the last fragment is there: what the first states for all, and their stub data
  said : Before → Verdict
  -- the last fragment is not there
  part : Before → Verdict
  -- a fragment is encrypted: its number among those of the call, from 0
  private : ℕ → Verdict
  -- a fragment is refused: its number, and the octet of it
  bad : ℕ → ℕ → Why → Verdict

abbrev pub verdict_by : Option (ℕ × PduReason) → Bool → ℕ → Before → Before → Verdict → Verdict
verdict_by (Some r) last k s next rest = bad k (r.0 - s.at) (check r.1)
verdict_by None true k s next rest = said next
verdict_by None false k s next rest = rest

-- Of plain fragments: each is checked as `rpc_pdu` does, after those before it.
abbrev pub plain_from : Wanted → ℕ → Before → List (List ℕ) → Verdict
plain_from want k s [] = part s
plain_from want k s (q ∷ qs) =
    verdict_by (refusal want s q) (is_last q) k s (after want s q) (plain_from want (suc k) (after want s q) qs)

-- fragments up to the first that is not plain, and what that one is
pub record Opened : Type 0 where
  pub plains : List (List ℕ)
  pub stop : Option Bare

abbrev pub open_by : Bare → Opened → Opened
open_by (plain q) rest = record { plains = q ∷ rest.plains; stop = rest.stop }
open_by sealed rest = record { plains = []; stop = Some sealed }
open_by no_room rest = record { plains = []; stop = Some no_room }

abbrev pub opened : Wanted → List (List ℕ) → Opened
opened want [] = record { plains = []; stop = None }
opened want (p ∷ ps) = open_by (bare want p) (opened want ps)

-- the verdict on those before it holds, unless they only end too early
abbrev pub stopped_by : ℕ → Option Bare → Verdict → Verdict
stopped_by k None v = v
stopped_by k (Some (plain q)) v = v
stopped_by k (Some sealed) (part s) = private k
stopped_by k (Some sealed) (said s) = said s
stopped_by k (Some sealed) (private n) = private n
stopped_by k (Some sealed) (bad n place w) = bad n place w
stopped_by k (Some no_room) (part s) = bad k 10 trailer
stopped_by k (Some no_room) (said s) = said s
stopped_by k (Some no_room) (private n) = private n
stopped_by k (Some no_room) (bad n place w) = bad n place w

abbrev pub count : List (List ℕ) → ℕ
count [] = 0
count (p ∷ ps) = suc (count ps)

abbrev pub verdict : Wanted → List (List ℕ) → Verdict
verdict want ps = stopped_by (count (opened want ps).plains) (opened want ps).stop (plain_from want 0 nothing (opened want ps).plains)

-- each is as long as its header says
abbrev pub AllWhole : List (List ℕ) → Type 0
AllWhole [] = Unit {0}
AllWhole (q ∷ qs) = (length q ≡ fragment_length q) × AllWhole qs

-- octets that are one PDU, whose length is an unsigned short
pub record IsSound (p : List ℕ) : Type 0 where
  pub whole : length p ≡ fragment_length p
  pub long : 16 ≤ length p
  pub fits : fragment_length p < 2 ^ 16

abbrev pub AllSound : List (List ℕ) → Type 0
AllSound [] = Unit {0}
AllSound (p ∷ ps) = IsSound p × AllSound ps
