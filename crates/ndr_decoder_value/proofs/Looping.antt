-- The loop over turns: what it keeps, and what it comes to.
-- `h` is the home at the beginning, `h1` the one before a turn, which is the same; `m` is what came before the turn, `r` what the turn answers.
use Rattle.std.proofs.Common.{◌≡◌, ◌≤◌, ℕ, List, ◌++◌, Option, Result, Ok, Err, OnOk, ◌∙◌, subst}
use Rattle.std.specs.Prelude.{Bool}
use Rattle.nd_base.specs.declared.octets.Order.{Order}
use Rattle.nd_base.specs.Over.{SourceOver}
use Rattle.nd_value.specs.Logged.{Logged}
use Rattle.nd_value.specs.declared.item.Home.{Home}
use Rattle.nd_value.specs.declared.item.Item.{Item}
use Rattle.ndr_code.specs.declared.instr.Instr.{Instr}
use Rattle.ndr_code.specs.declared.lists.EnumList.{EnumList}
use Rattle.ndr_decoder_laws.specs.steps.Steps.{State}
use Rattle.ndr_decoder_laws.specs.runs.Reaching.{Reaches, IsSafe}
use Rattle.ndr_decoder_laws.proofs.runs.Joining.{joined}
use Rattle.ndr_decoder_state.specs.declared.fault.DecodeFault.{DecodeFault}
use Rattle.ndr_decoder_state.specs.declared.fault.Progress.{Progress}
use Rattle.ndr_decoder_state.specs.declared.fault.Progress.TheVariants as progress
use Rattle.ndr_decoder_state.specs.Notes.{NotesSeen, notes_seen}
use Rattle.ndr_decoder_state.specs.Seen.{Outside}
use Rattle.ndr_decoder_value.specs.Reaching.{Moves, EndsWhole, EndsFault, Turns}
use Rattle.ndr_decoder_value.proofs.Moving.{source, moves_on, whole_on, fault_on}

-- every state that is reached is safe
abbrev pub AllSafe : List EnumList → Order → List Instr → Home → State → Type 0
AllSafe values order code h s0 = (fetched : List ℕ) (noted : List Item) (s : State) → Reaches values order code h s0 fetched noted s → IsSafe code s

-- what is outside stays, if there is an answer
pub stays_on : {T E : Type 0} (r : Result T E) (x y z : Outside) → OnOk r (x ≡ y) → y ≡ z → OnOk r (x ≡ z)
stays_on (Ok t) x y z e f = e ∙ f
stays_on (Err e) x y z _ _ = tt

-- and from where the turn begins
pub still_safe : {values : List EnumList} {order : Order} {code : List Instr} {h h1 : Home} {src : SourceOver} {n : NotesSeen} {s0 s1 : State} → Moves values order code h s0 src n s1 → h1 ≡ h
    → AllSafe values order code h s0 → AllSafe values order code h1 s1
still_safe {values} {order} {code} {h} {h1} {src} {n} {s0} {s1} m same safe fetched noted s r =
    safe (m.fetched ++ fetched) (m.noted ++ noted) s
    (joined values order code h s0 s1 m.fetched m.noted m.reached (subst (λ x. Reaches values order code x s1 fetched noted s) same r))

module _ {values : List EnumList} {order : Order} {code : List Instr} {h h1 : Home} {l0 l1 : Option (List ℕ)} {e1 : Bool} {f0 f1 : ℕ} {g0 g1 : Logged} {k0 k1 c0 c1 : ℕ}
    {s0 s1 : State} (m : Moves values order code h s0 (source l0 l1 e1 f0 f1) (notes_seen g0 g1 k0 k1 c0 c1) s1) (same : h1 ≡ h)
    (l2 : Option (List ℕ)) (e2 : Bool) (f2 : ℕ) (g2 : Logged) (k2 c2 : ℕ) (s2 : State) where
  turned : (r r' : Result Progress DecodeFault) → r ≡ r' → Turns values order code h1 s1 (source l1 l2 e2 f1 f2) (notes_seen g1 g2 k1 k2 c1 c2) s2 r
      → Turns values order code h s1 (source l1 l2 e2 f1 f2) (notes_seen g1 g2 k1 k2 c1 c2) s2 r'
  turned r r' e t =
      subst (λ x. Turns values order code x s1 (source l1 l2 e2 f1 f2) (notes_seen g1 g2 k1 k2 c1 c2) s2 r') same
      (subst (λ x. Turns values order code h1 s1 (source l1 l2 e2 f1 f2) (notes_seen g1 g2 k1 k2 c1 c2) s2 x) e t)

  pub goes_on : (r : Result Progress DecodeFault) → r ≡ Ok progress.More → Turns values order code h1 s1 (source l1 l2 e2 f1 f2) (notes_seen g1 g2 k1 k2 c1 c2) s2 r
      → Moves values order code h s0 (source l0 l2 e2 f0 f2) (notes_seen g0 g2 k0 k2 c0 c2) s2
  goes_on r e t = moves_on values order code h l0 l1 l2 e1 e2 f0 f1 f2 g0 g1 g2 k0 k1 k2 c0 c1 c2 s0 s1 s2 m (turned r (Ok progress.More) e t)

  pub ends_whole : (r : Result Progress DecodeFault) → r ≡ Ok progress.Whole → Turns values order code h1 s1 (source l1 l2 e2 f1 f2) (notes_seen g1 g2 k1 k2 c1 c2) s2 r
      → EndsWhole values order code h s0 (source l0 l2 e2 f0 f2) (notes_seen g0 g2 k0 k2 c0 c2) s2
  ends_whole r e t = whole_on values order code h l0 l1 l2 e1 e2 f0 f1 f2 g0 g1 g2 k0 k1 k2 c0 c1 c2 s0 s1 s2 m (turned r (Ok progress.Whole) e t)

  pub ends_faulty : f0 ≤ f1 → (r : Result Progress DecodeFault) (e : DecodeFault) → r ≡ Err e
      → Turns values order code h1 s1 (source l1 l2 e2 f1 f2) (notes_seen g1 g2 k1 k2 c1 c2) s2 r
      → EndsFault values order code h s0 (source l0 l2 e2 f0 f2) (notes_seen g0 g2 k0 k2 c0 c2) s2 e
  ends_faulty later r e is t = fault_on values order code h l0 l1 l2 e1 e2 f0 f1 f2 g0 g1 g2 k0 k1 k2 c0 c1 c2 s0 s1 s2 m later e (turned r (Err e) is t)
