-- What a session does, line by line.
use Rattle.std.specs.Prelude.{◌≡◌, ℕ, ◌+◌, ◌≤◌, suc, Bool, true, false, List, [], ◌∷◌, ◌++◌, length, Option, Some, None, option_map, codes, decimal}
use Rattle.std.specs.List.{slice_get, AllByRecursion}
use Rattle.ctx_store.specs.Resource.{ResourceSeen}
use Rattle.ctx_store.specs.Live.{Live, AreLive, place_of, first_of}
use Rattle.ctx_store.specs.Calls.{open_fault, Applies, Fails, Closes, RunsDown}
use Rattle.ctx_store.specs.declared.store.OpenFault.{OpenFault}
use Rattle.ctx_store.specs.declared.store.OpenFault.TheVariants.{NullId, Twice, Full}
use Rattle.ctx_session.specs.declared.answer.Answer.{Answer}
use Rattle.ctx_session.specs.declared.answer.Answer.TheVariants.{Done, NoneFresh, Refused, Unknown, Failed, Ended}
use Rattle.ctx_session.specs.Script.{Line, Open, Use, Close, Down}

-- where a session is: what is live, in the order of opening; what is fresh; what was ended, in the order of ending
pub record State : Type 0 where
  pub live : List Live
  pub fresh : List ResourceSeen
  pub spent : List ResourceSeen

-- the word of a fault of opening
abbrev pub fault_word : OpenFault → List ℕ
fault_word NullId = codes "null"
fault_word Twice = codes "twice"
fault_word Full = codes "full"

-- the words of an answer
abbrev pub answer_words : Answer → List ℕ
answer_words Done = codes "ok"
answer_words NoneFresh = codes "none"
answer_words (Refused fault) = fault_word fault
answer_words Unknown = codes "unknown"
answer_words Failed = codes "failed"
answer_words (Ended count) = codes "ended " ++ decimal count

-- the answers, a line each
abbrev pub answer_lines : List Answer → List ℕ
answer_lines [] = []
answer_lines (answer ∷ answers) = (answer_words answer ++ 10 ∷ []) ++ answer_lines answers

-- All live resources of a client were ended, so many of them, each time the first one.
pub data EndsClient (client : ℕ) : State → ℕ → State → Type 0 where
  none : {s : State} → first_of s.live client ≡ None → EndsClient client s 0 s
  more : {s t : State} {n : ℕ} {live : List Live} {ended : ResourceSeen} {failed : Bool} → RunsDown s.live live client ended failed
      → EndsClient client (record { live = live; fresh = s.fresh; spent = s.spent ++ ended ∷ [] }) n t → EndsClient client s (suc n) t

-- A line does this, with this answer: the first case that applies.
pub data DoesLine (s : State) : Line → Answer → State → Type 0 where
  none_fresh : {client : ℕ} {id : List ℕ} → s.fresh ≡ [] → DoesLine s (Open client id) NoneFresh s
  refused : {client : ℕ} {id : List ℕ} {r : ResourceSeen} {fresh : List ResourceSeen} {fault : OpenFault} → s.fresh ≡ r ∷ fresh
      → open_fault s.live id ≡ Some fault → DoesLine s (Open client id) (Refused fault) s
  opened : {client : ℕ} {id : List ℕ} {r : ResourceSeen} {fresh : List ResourceSeen} → s.fresh ≡ r ∷ fresh → open_fault s.live id ≡ None
      → DoesLine s (Open client id) Done
      (record { live = s.live ++ record { id = id; client = client; resource = r } ∷ []; fresh = fresh; spent = s.spent })
  unknown_use : {id text : List ℕ} → place_of s.live id ≡ None → DoesLine s (Use id text) Unknown s
  failed_use : {id text : List ℕ} {live : List Live} → Fails s.live live id
      → DoesLine s (Use id text) Failed (record { live = live; fresh = s.fresh; spent = s.spent })
  applied : {id text : List ℕ} {live : List Live} → Applies s.live live id text
      → DoesLine s (Use id text) Done (record { live = live; fresh = s.fresh; spent = s.spent })
  unknown_close : {id : List ℕ} → place_of s.live id ≡ None → DoesLine s (Close id) Unknown s
  closed : {id : List ℕ} {live : List Live} {ended : ResourceSeen} → Closes s.live live id ended false
      → DoesLine s (Close id) Done (record { live = live; fresh = s.fresh; spent = s.spent ++ ended ∷ [] })
  failed_close : {id : List ℕ} {live : List Live} {ended : ResourceSeen} → Closes s.live live id ended true
      → DoesLine s (Close id) Failed (record { live = live; fresh = s.fresh; spent = s.spent ++ ended ∷ [] })
  downed : {client n : ℕ} {t : State} → EndsClient client s n t → DoesLine s (Down client) (Ended n) t

-- Lines do this, one after the other, with these answers.
pub data DoesLines : State → List Line → List Answer → State → Type 0 where
  none : {s : State} → DoesLines s [] [] s
  more : {s t u : State} {line : Line} {answer : Answer} {lines : List Line} {answers : List Answer} → DoesLine s line answer t
      → DoesLines t lines answers u → DoesLines s (line ∷ lines) (answer ∷ answers) u

-- the client of the first live resource
abbrev pub first_client_of : List Live → Option ℕ
first_client_of live = option_map (λ e. e.client) (slice_get live 0)

-- All that is live was ended, client by client: while there is a first live resource, all of its client.
pub data EndsAll : State → State → Type 0 where
  none : {s : State} → first_client_of s.live ≡ None → EndsAll s s
  more : {s t u : State} {client n : ℕ} → first_client_of s.live ≡ Some client → EndsClient client s n t → EndsAll t u → EndsAll s u

-- A whole session: its lines were done from where nothing was live, with these answers, and then all that was live was ended.
pub record IsSession (fresh spent : List ResourceSeen) (lines : List Line) (answers : List Answer) (fresh_now spent_now : List ResourceSeen)
    : Type 0 where
  pub done : State
  pub lines_did : DoesLines (record { live = []; fresh = fresh; spent = spent }) lines answers done
  pub ended : EndsAll done (record { live = []; fresh = fresh_now; spent = spent_now })

-- none was ended
abbrev pub AreFresh : List ResourceSeen → Type 0
AreFresh resources = AllByRecursion (λ r. r.ended ≡ false) resources

-- What each line needs: nothing that can be opened was ended, no more is live than may be, and the spent ones have room for all of it.
pub record IsReady (s : State) (room : ℕ) : Type 0 where
  pub live : AreLive s.live
  pub fresh : AreFresh s.fresh
  pub few : length s.live ≤ 4096
  pub fits : length s.live + length s.fresh ≤ room
