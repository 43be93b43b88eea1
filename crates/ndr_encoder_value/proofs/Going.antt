-- What one step of a run does to an output.
use Rattle.std.proofs.Common.{◌≡◌, ℕ, ◌+◌, ◌-◌, ◌<◌, ◌≤◌, suc, Bool, true, false, List, [], ◌++◌, Some, None, ap, sym, ◌∙◌, subst, arith}
use Rattle.std.specs.List.{slice_get}
use Rattle.nd_value.specs.Tree.{Flat}
use Rattle.ndr_code.specs.declared.instr.Instr.{Instr}
use Rattle.ndr_encoder_laws.specs.pieces.Pieces.{Piece}
use Rattle.ndr_encoder_output.specs.Outputs.{Whole, Moves, Able}
use Rattle.ndr_encoder_laws.specs.declared.frames.Frame.{Frame}
use Rattle.ndr_encoder_laws.specs.written.Run.{Rest, stepped, run}
use Rattle.ndr_encoder_laws.proofs.written.Steps.{run_zero, run_none}
use Rattle.ndr_encoder_value.specs.Going.{left}

module _ {S : Type 0} (can : S → List Piece → Type 0) (whole : S → List Piece → Whole) where
  -- nothing is written
  pub stays : (s : S) (ps qs : List Piece) → ps ≡ qs → Moves can whole s s ps qs
  stays s ps qs e =
      record { able = λ rest h. subst (λ l. can s (l ++ rest)) e h; same = λ rest. ap (λ l. whole s (l ++ rest)) (sym e) }

  -- what follows may be said otherwise
  pub moves_from : (old new : S) (ps us qs : List Piece) → ps ≡ us → Moves can whole old new us qs → Moves can whole old new ps qs
  moves_from old new ps us qs e h = subst (λ l. Moves can whole old new l qs) (sym e) h

  pub moves_to : (old new : S) (ps us qs : List Piece) → us ≡ qs → Moves can whole old new ps us → Moves can whole old new ps qs
  moves_to old new ps us qs e h = subst (Moves can whole old new ps) e h

  -- one after the other
  pub moves_on : (old mid new : S) (ps us qs : List Piece) → Moves can whole old mid ps us → Moves can whole mid new us qs → Moves can whole old new ps qs
  moves_on old mid new ps us qs a b =
      record { able = λ rest h. b.able rest (a.able rest h); same = λ rest. b.same rest ∙ a.same rest }

  pub able_from : (s : S) (ps us : List Piece) → ps ≡ us → Able can s ps → Able can s us
  able_from s ps us e h = subst (Able can s) e h

  pub able_on : (old new : S) (ps qs : List Piece) → Moves can whole old new ps qs → Able can old ps → Able can new qs
  able_on old new ps qs m h = record { rest = h.rest; can_follow = m.able h.rest h.can_follow }

  -- one step: whether the run goes on, and what is left
  module _ (code : List Instr) (m k : ℕ) where
    pub arm : (G : Rest) (at : ℕ) (frames : List Frame) (fs : List Flat) (old new : S) (instr i : Instr) (on : Bool) (qs us : List Piece) → instr ≡ i → on ≡ true
        → Moves can whole old new (stepped G code m k at frames fs (Some i)) qs → qs ≡ us
        → Moves can whole old new (stepped G code m k at frames fs (Some instr)) (left on us)
    arm G at frames fs old new instr i on qs us is goes h e =
        moves_to old new _ us (left on us) (ap (λ b. left b us) (sym goes))
        (moves_to old new _ qs us e (moves_from old new _ _ qs (ap (λ j. stepped G code m k at frames fs (Some j)) is) h))

    -- an instruction at which a run ends
    pub ends : (G : Rest) (at : ℕ) (frames : List Frame) (fs : List Flat) (old : S) (instr i : Instr) (us : List Piece) → instr ≡ i
        → stepped G code m k at frames fs (Some i) ≡ [] → Moves can whole old old (stepped G code m k at frames fs (Some instr)) (left false us)
    ends G at frames fs old instr i us is e = stays old _ _ (ap (λ j. stepped G code m k at frames fs (Some j)) is ∙ e)

    pub able_arm : (G : Rest) (at : ℕ) (frames : List Frame) (fs : List Flat) (s : S) (instr i : Instr) → instr ≡ i
        → Able can s (stepped G code m k at frames fs (Some instr)) → Able can s (stepped G code m k at frames fs (Some i))
    able_arm G at frames fs s instr i is h = able_from s _ _ (ap (λ j. stepped G code m k at frames fs (Some j)) is) h

    -- one more turn of the loop
    pub turned : (pc : ℕ) (frames : List Frame) (fs : List Flat) (old mid new : S) (most turn at : ℕ) (gs : List Flat) (more : List Frame) (on : Bool) (us : List Piece) → turn < most
        → Moves can whole old mid us (run code m k (most - turn) pc frames fs)
        → ((n : ℕ) → Moves can whole mid new (run code m k (suc n) pc frames fs) (left on (run code m k n at more gs)))
        → Moves can whole old new us (left on (run code m k (most - (turn + 1)) at more gs))
    turned pc frames fs old mid new most turn at gs more on us h a b =
        let e : most - turn ≡ suc (most - (turn + 1)) = omega (arith, h) in
        moves_on old mid new us _ _ a
        (moves_from mid new _ _ _ (ap (λ n. run code m k n pc frames fs) e) (b (most - (turn + 1))))

    pub able_turn : (pc : ℕ) (frames : List Frame) (fs : List Flat) (old mid : S) (most turn : ℕ) (us : List Piece) → turn < most → Able can old us
        → Moves can whole old mid us (run code m k (most - turn) pc frames fs) → (n : ℕ) × Able can mid (run code m k (suc n) pc frames fs)
    able_turn pc frames fs old mid most turn us h able a =
        let e : most - turn ≡ suc (most - (turn + 1)) = omega (arith, h) in
        (most - (turn + 1), able_from mid _ _ (ap (λ n. run code m k n pc frames fs) e) (able_on old mid us _ a able))

    -- at the end of the loop
    pub over : (pc : ℕ) (frames : List Frame) (fs : List Flat) (old mid : S) (most turn : ℕ) (us : List Piece) → most ≤ turn
        → Moves can whole old mid us (run code m k (most - turn) pc frames fs) → Moves can whole old mid us []
    over pc frames fs old mid most turn us h a =
        let e : most - turn ≡ 0 = omega (arith, h) in
        subst (Moves can whole old mid us) (ap (λ n. run code m k n pc frames fs) e ∙ run_zero code m k pc frames fs) a

    -- no instruction is there
    pub nothing : (pc : ℕ) (frames : List Frame) (fs : List Flat) (s : S) (n : ℕ) → None ≡ slice_get code pc → Moves can whole s s (run code m k (suc n) pc frames fs) []
    nothing pc frames fs s n e = stays s _ _ (run_none code m k n pc frames fs (sym e))

  pub ended : (old new : S) (us ps : List Piece) (on : Bool) → on ≡ false → Moves can whole old new us (left on ps) → Moves can whole old new us []
  ended old new us ps on e h = subst (λ b. Moves can whole old new us (left b ps)) e h

  pub went : (old new : S) (us ps : List Piece) (on : Bool) → on ≡ true → Moves can whole old new us (left on ps) → Moves can whole old new us ps
  went old new us ps on e h = subst (λ b. Moves can whole old new us (left b ps)) e h

-- what is left is said of other addresses, frames and nodes
pub same_rest : (G : Rest) (pc at : ℕ) (frames more : List Frame) (fs gs : List Flat) → pc ≡ at → frames ≡ more → fs ≡ gs → G pc frames fs ≡ G at more gs
same_rest G pc at frames more fs gs a b e = ap (λ k. G k frames fs) a ∙ ap (λ k. G at k fs) b ∙ ap (G at more) e
