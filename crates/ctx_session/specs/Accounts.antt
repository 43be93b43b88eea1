-- What a session says of each resource that it opened.
use Rattle.std.specs.Prelude.{◌≡◌, ℕ, ◌+◌, ◌-◌, ◌^◌, ◌≤◌, min, suc, Bool, true, false, ◌==◌, List, [], ◌∷◌, ◌++◌, map, Some, remove, if◌then◌else◌}
use Rattle.std.specs.List.{slice_get}
use Rattle.std.specs.Str.{bytes_eq}
use Rattle.ctx_store.specs.Resource.{ResourceSeen}
use Rattle.ctx_session.specs.declared.answer.Answer.{Answer}
use Rattle.ctx_session.specs.declared.answer.Answer.TheVariants.{Done, Failed}
use Rattle.ctx_session.specs.Script.{Line, Open, Use, Close, Down}

-- what a line with its answer is to a live resource: its text was accepted; it failed; it was ended by its identifier, and failed or not; it was
-- ended with its client; or nothing
pub data Effect : Type 0 where
  Accepted : (text : List ℕ) → Effect
  FailedUse : Effect
  Closed : Effect
  FailedClose : Effect
  RunDown : Effect
  Nothing : Effect

-- what a line is to the live resource of a client under an identifier
abbrev pub effect : ℕ → List ℕ → Line → Answer → Effect
effect client id (Use other text) Done = if bytes_eq other id then Accepted text else Nothing
effect client id (Use other text) Failed = if bytes_eq other id then FailedUse else Nothing
effect client id (Close other) Done = if bytes_eq other id then Closed else Nothing
effect client id (Close other) Failed = if bytes_eq other id then FailedClose else Nothing
effect client id (Down other) answer = if client == other then RunDown else Nothing
effect client id line answer = Nothing

-- the life of a resource: the lines that were accepted, each with a line feed; how many lines said that it failed; whether a line closed it
pub record Life : Type 0 where
  pub accepted : List ℕ
  pub failures : ℕ
  pub closed : Bool

abbrev pub life_by : Effect → Life → Life
life_by (Accepted text) rest = record rest { accepted = (text ++ 10 ∷ []) ++ rest.accepted }
life_by FailedUse rest = record rest { failures = suc rest.failures }
life_by Closed rest = record { accepted = []; failures = 0; closed = true }
life_by FailedClose rest = record { accepted = []; failures = 1; closed = true }
life_by RunDown rest = record { accepted = []; failures = 0; closed = false }
life_by Nothing rest = rest

-- the life of a resource of a client under an identifier that is live before these lines
abbrev pub life_of : ℕ → List ℕ → List Line → List Answer → Life
life_of client id (line ∷ lines) (answer ∷ answers) = life_by (effect client id line answer) (life_of client id lines answers)
life_of client id lines answers = record { accepted = []; failures = 0; closed = false }

-- a resource when it was opened, and its life from then on
pub record Opening : Type 0 where
  pub was : ResourceSeen
  pub life : Life

-- the resources that lines opened, in this order, from the fresh ones
abbrev pub openings : List Line → List Answer → List ResourceSeen → List Opening
openings (Open client id ∷ lines) (Done ∷ answers) (r ∷ fresh) =
    record { was = r; life = life_of client id lines answers } ∷ openings lines answers fresh
openings (line ∷ lines) (answer ∷ answers) fresh = openings lines answers fresh
openings lines answers fresh = []

-- what they were when they were opened
abbrev pub opened_of : List Opening → List ResourceSeen
opened_of os = map (λ o. o.was) os

-- What became of a resource that was opened.
pub record HasServed (o : Opening) (now : ResourceSeen) : Type 0 where
  pub ended : now.ended ≡ true
  -- the lines that it had, and then those that were accepted while it was live
  pub lines : now.lines ≡ o.was.lines ++ o.life.accepted
  -- they are shown if they were shown before
  pub is_shown : now.is_shown ≡ o.was.is_shown
  -- its count of faults rose by at least as many as its lines say, or is at its greatest value
  pub faults : min (o.was.faults + o.life.failures) (2 ^ 64 - 1) ≤ now.faults
  pub later : o.was.faults ≤ now.faults
  -- one that a line closed and that no line says failed did not fail
  pub unfailed : o.life.closed ≡ true → o.life.failures ≡ 0 → now.faults ≡ o.was.faults

-- Each of the resources that were opened was ended once, and they were ended in this order.
pub data AreServed : List Opening → List ResourceSeen → Type 0 where
  none : AreServed [] []
  one : {os : List Opening} {o : Opening} {now : ResourceSeen} {rest : List ResourceSeen} (at : ℕ) → slice_get os at ≡ Some o → HasServed o now
      → AreServed (remove os at) rest → AreServed os (now ∷ rest)

-- Each resource of a stock is accounted for: the first of the fresh ones were opened, and these, each ended once, come after those that were spent
-- before, in the order of ending. The other fresh ones are as before.
pub record IsAccounted (fresh spent : List ResourceSeen) (lines : List Line) (answers : List Answer) (fresh_now spent_now : List ResourceSeen)
    : Type 0 where
  pub ended : List ResourceSeen
  pub fresh_are : fresh ≡ opened_of (openings lines answers fresh) ++ fresh_now
  pub spent_are : spent_now ≡ spent ++ ended
  pub served : AreServed (openings lines answers fresh) ended
