-- The loop over the pending referents: what was read so far.
-- `x` is what was kept of the stream before the loop, `y` before a turn, with `q`, if it was taken from it, `y'` the same without the next of the pending referents,
-- `o` that referent, `z` after it was read; 0, 1 and 2 number what was seen before the loop, before the turn and after it.
use Rattle.std.proofs.Common.{◌≡◌, ◌≤◌, ◌<◌, ℕ, ◌+◌, ◌*◌, ◌^◌, suc, Bool, List, [], ◌++◌, length, reverse, Option, None, Result, Ok, Err, IsErrAnd, refl, sym, ap, ◌∙◌, subst, arith}
use Rattle.std.proofs.lemmas.List.{length-map, length-reverse}
use Rattle.nd_base.specs.declared.octets.Order.{Order}
use Rattle.nd_base.specs.declared.TheConstants.{STREAM_LIMIT}
use Rattle.nd_base.specs.Over.{SourceOver}
use Rattle.nd_value.specs.declared.item.Item.{Item}
use Rattle.nd_value.specs.Deferral.{Pending}
use Rattle.nd_value.specs.Logged.{Logged}
use Rattle.nd_value.specs.Setting.{Setting}
use Rattle.nd_flat.specs.Building.{CanClose}
use Rattle.nd_grammar.specs.Entry.{EntryAt}
use Rattle.nd_grammar.specs.LegalSide.{IsLegalSide}
use Rattle.nd_grammar.specs.StreamReader.{Reading}
use Rattle.ndr_code.specs.declared.plan.Plan.{Plan}
use Rattle.ndr_decoder_state.specs.declared.fault.DecodeFault.{DecodeFault}
use Rattle.ndr_decoder_state.specs.declared.machine.Machine.{Machine}
use Rattle.ndr_decoder_state.specs.declared.machine.Owed.{Owed}
use Rattle.ndr_decoder_state.specs.Seen.{owed_of}
use Rattle.nd_grammar.specs.decoded.Verdict.{DecodingSeen, decoding_seen}
use Rattle.ndr_decoder_laws.specs.stream.Between.{Agrees, Between}
use Rattle.ndr_decoder_laws.specs.stream.Calls.{Follows, Took}
use Rattle.ndr_decoder_stream.specs.declared.stream.Stream.{Stream}
use Rattle.ndr_decoder_stream.specs.Seen.{pending_in}
use Rattle.ndr_decoder_laws.specs.stream.Report.{the_head}
use Rattle.ndr_decode.specs.Streaming.{ArePaid, FaultOf, IsAtReferent, IsStreaming, PendingReads, ReferentReads, Stands, WentOn, WentOnTaking, cells_of, with_next, with_taken}
use Rattle.ndr_decode.proofs.PendingTurns.{HasNext, none_due, stands_next}
use Rattle.ndr_decode.proofs.Standing.{then_fault, then_went_taking, went_nowhere}

-- ## Calls one after the other

abbrev pub source_by : Option (List ℕ) → Option (List ℕ) → Bool → ℕ → ℕ → SourceOver
source_by l l' e f f' = record { left = l; left_now = l'; ended_now = e; faults = record { before = f; now = f' } }

followed : (l0 l1 l2 : Option (List ℕ)) (e1 e2 : Bool) (f0 f1 f2 : ℕ) (g0 g1 g2 : Logged) (k0 k1 k2 : ℕ)
    → Follows (source_by l0 l1 e1 f0 f1) (source_by l1 l2 e2 f1 f2) (source_by l0 l2 e2 f0 f2) (decoding_seen g0 g1 k0 k1) (decoding_seen g1 g2 k1 k2) (decoding_seen g0 g2 k0 k2)
followed l0 l1 l2 e1 e2 f0 f1 f2 g0 g1 g2 k0 k1 k2 = record {
  before = refl;
  middle = refl;
  after = refl;
  ended = refl;
  log = refl;
  log_middle = refl;
  log_now = refl;
  steps = refl;
  steps_middle = refl;
  steps_now = refl;
}

-- Of the referents that were pending, and of those that became it, one was taken in each turn.
abbrev pub AreTurns : ℕ → Stream → Option Owed → Stream → Type 0
AreTurns turns x q y = 4 * (turns + length (with_taken q y).pending) + x.machine.at ≤ 4 * length (with_taken None x).pending + y.machine.at

pub one_turn : (turns : ℕ) (x : Stream) (q : Option Owed) (y y' : Stream) (o : Owed) (q' : Option Owed) (z : Stream) → AreTurns turns x q y → y'.machine ≡ y.machine
    → with_next o y' ≡ with_taken q y → ArePaid y' q' z → AreTurns (turns + 1) x q' z
one_turn turns x q y y' o q' z t same e paid =
    let at : y'.machine.at ≡ y.machine.at = ap (λ (m : Machine). m.at) same in
    let one_more : suc (length (with_taken None y').pending) ≡ length (with_taken q y).pending = ap (λ (b : Between). length b.pending) e in
    let before : 4 * (turns + length (with_taken q y).pending) + x.machine.at ≤ 4 * length (with_taken None x).pending + y.machine.at = t in
    let now : 4 * length (with_taken q' z).pending + y'.machine.at ≤ 4 * length (with_taken None y').pending + z.machine.at = paid in
    omega (arith, before, now, at, one_more)

-- what was read so far
abbrev pub SoFar : Plan → Order → Stream → SourceOver → DecodingSeen → Option Owed → Stream → Type 0
SoFar plan order x source t q y =
    (w : Setting) (side : IsLegalSide w) (fetched : List ℕ) (noted : List Item) (direct : ℕ) (s : Reading) (seen : List EntryAt) (ps : List Pending) (n : ℕ) → w.table ≡ plan.tie.types
    → Stands w side order fetched noted direct x s seen ps n → WentOnTaking w side order fetched noted (cells_of x) source t q y n

pub so_far_none : (plan : Plan) (order : Order) (x : Stream) (l : Option (List ℕ)) (e : Bool) (f : ℕ) (g : Logged) (k : ℕ) → SoFar plan order x (source_by l l e f f) (decoding_seen g g k k) None x
so_far_none plan order x l e f g k w side fetched noted direct s seen ps n table st =
    went_nowhere l e (record { before = f; now = f }) g k w side order fetched noted direct x s seen ps n st

module _ (plan : Plan) (order : Order) (x : Stream) (q : Option Owed) (y : Stream) (l0 l1 : Option (List ℕ)) (e1 : Bool) (f0 f1 : ℕ) (g0 g1 : Logged) (k0 k1 : ℕ)
    (so_far : SoFar plan order x (source_by l0 l1 e1 f0 f1) (decoding_seen g0 g1 k0 k1) q y) where
  -- the next of the pending referents is due
  pub next_due : (y' : Stream) (o : Owed) → y'.machine ≡ y.machine → with_next o y' ≡ with_taken q y → IsStreaming plan order x → IsAtReferent plan order o y'
  next_due y' o m e i =
      let g : WentOnTaking i.w i.side order i.fetched i.noted (cells_of x) (source_by l0 l1 e1 f0 f1) (decoding_seen g0 g1 k0 k1) q y i.n =
      so_far i.w i.side i.fetched i.noted i.direct i.s i.seen i.ps i.n i.table i.stands in
      let next : HasNext i.w i.side order (i.fetched ++ g.octets) (i.noted ++ g.items) g.direct q y g.s g.seen i.n o y' g.ps =
      stands_next i.w i.side order (i.fetched ++ g.octets) (i.noted ++ g.items) g.direct q y g.s g.seen i.n g.ps g.stands y' m o e in
      record {
        w = i.w;
        side = i.side;
        table = i.table;
        fetched = i.fetched ++ g.octets;
        noted = i.noted ++ g.items;
        direct = g.direct;
        s = g.s;
        seen = g.seen;
        p = next.p;
        ps = next.others;
        n = i.n;
        stands = next.stands;
      }

  -- none is left
  pub none_left : (y' : Stream) → y'.machine ≡ y.machine → with_taken None y' ≡ with_taken q y → y'.todo.items ≡ [] → (u : Unit {0})
      → PendingReads plan order x (source_by l0 l1 e1 f0 f1) (decoding_seen g0 g1 k0 k1) y' (Ok u)
  none_left y' same e none u w side fetched noted direct s seen ps n table st =
      let g : WentOnTaking w side order fetched noted (cells_of x) (source_by l0 l1 e1 f0 f1) (decoding_seen g0 g1 k0 k1) q y n = so_far w side fetched noted direct s seen ps n table st in
      let now : WentOn w side order fetched noted (cells_of x) (source_by l0 l1 e1 f0 f1) (decoding_seen g0 g1 k0 k1) y' n = record {
        octets = g.octets;
        items = g.items;
        direct = g.direct;
        s = g.s;
        seen = g.seen;
        ps = g.ps;
        stands = record {
          agrees = subst (λ (b : Between). Agrees w side order (fetched ++ g.octets) (noted ++ g.items) g.direct b g.s g.seen g.ps n) (sym e) g.stands.agrees;
          within = subst (λ (m : Machine). m.at ≤ STREAM_LIMIT) (sym same) g.stands.within;
          whole = subst (λ (m : Machine). CanClose m.builder) (sym same) g.stands.whole;
        };
        took = subst (λ (m : Machine). Took (source_by l0 l1 e1 f0 f1) (decoding_seen g0 g1 k0 k1) (cells_of x) g.octets g.items (length m.builder.graph.cells)) (sym same) g.took;
      } in
      (now, none_due w side order (fetched ++ g.octets) (noted ++ g.items) g.direct None y' g.s g.seen n g.ps now.stands (ap (pending_in y'.wanted.items) none))

  -- no stream has so many turns
  pub few_turns : (turns : ℕ) → AreTurns turns x q y → IsStreaming plan order x → 18446744073709551615 ≤ turns → ⊥
  few_turns turns t i many =
      let g : WentOnTaking i.w i.side order i.fetched i.noted (cells_of x) (source_by l0 l1 e1 f0 f1) (decoding_seen g0 g1 k0 k1) q y i.n =
      so_far i.w i.side i.fetched i.noted i.direct i.s i.seen i.ps i.n i.table i.stands in
      let within : y.machine.at ≤ STREAM_LIMIT = g.stands.within in
      let listed : length (pending_in x.wanted.items x.todo.items) ≡ length x.todo.items = length-map (reverse x.todo.items) (owed_of x.wanted.items) ∙ length-reverse x.todo.items in
      let is : x.todo.len ≡ length x.todo.items = x.todo.ok.0 in
      let room : x.todo.len ≤ x.todo.cap = x.todo.ok.1 in
      let small : x.todo.cap < 2 ^ 63 = x.todo.small in
      let taken : 4 * (turns + length (with_taken q y).pending) + x.machine.at ≤ 4 * length (pending_in x.wanted.items x.todo.items) + y.machine.at = t in
      omega (arith, taken, many, within, listed, is, room, small)

  module _ (later : f0 ≤ f1) where
    -- ## A turn

    module _ (l2 : Option (List ℕ)) (e2 : Bool) (f2 : ℕ) (g2 : Logged) (k2 : ℕ) where
      abbrev first : SourceOver
      first = source_by l0 l1 e1 f0 f1

      abbrev second : SourceOver
      second = source_by l1 l2 e2 f1 f2

      abbrev both : SourceOver
      both = source_by l0 l2 e2 f0 f2

      follow : Follows first second both (decoding_seen g0 g1 k0 k1) (decoding_seen g1 g2 k1 k2) (decoding_seen g0 g2 k0 k2)
      follow = followed l0 l1 l2 e1 e2 f0 f1 f2 g0 g1 g2 k0 k1 k2

      pub so_far_more : {y' : Stream} (z : Stream) (o : Owed) (q' : Option Owed) → ReferentReads plan order o y' second (decoding_seen g1 g2 k1 k2) z (Ok q') → y'.machine ≡ y.machine
          → with_next o y' ≡ with_taken q y → SoFar plan order x both (decoding_seen g0 g2 k0 k2) q' z
      so_far_more {y'} z o q' reads same e w side fetched noted direct s seen ps n table st =
          let g : WentOnTaking w side order fetched noted (cells_of x) first (decoding_seen g0 g1 k0 k1) q y n = so_far w side fetched noted direct s seen ps n table st in
          let next : HasNext w side order (fetched ++ g.octets) (noted ++ g.items) g.direct q y g.s g.seen n o y' g.ps =
          stands_next w side order (fetched ++ g.octets) (noted ++ g.items) g.direct q y g.s g.seen n g.ps g.stands y' same o e in
          let went : WentOnTaking w side order (fetched ++ g.octets) (noted ++ g.items) (cells_of y') second (decoding_seen g1 g2 k1 k2) q' z n =
          reads w side (fetched ++ g.octets) (noted ++ g.items) g.direct g.s g.seen next.p next.others n table next.stands in
          then_went_taking w side order fetched noted (cells_of x) first second both (decoding_seen g0 g1 k0 k1) (decoding_seen g1 g2 k1 k2) (decoding_seen g0 g2 k0 k2) follow g.octets g.items
          (cells_of y) g.took q' z n
          (subst (λ (m : Machine). WentOnTaking w side order (fetched ++ g.octets) (noted ++ g.items) (length m.builder.graph.cells) second (decoding_seen g1 g2 k1 k2) q' z n) same went)

      pub fault_then : {y' : Stream} (z : Stream) (o : Owed) (f : DecodeFault) → ReferentReads plan order o y' second (decoding_seen g1 g2 k1 k2) z (Err f) → y'.machine ≡ y.machine
          → with_next o y' ≡ with_taken q y → PendingReads plan order x both (decoding_seen g0 g2 k0 k2) z (Err f)
      fault_then {y'} z o f reads same e w side fetched noted direct s seen ps n table st =
          let g : WentOnTaking w side order fetched noted (cells_of x) first (decoding_seen g0 g1 k0 k1) q y n = so_far w side fetched noted direct s seen ps n table st in
          let next : HasNext w side order (fetched ++ g.octets) (noted ++ g.items) g.direct q y g.s g.seen n o y' g.ps =
          stands_next w side order (fetched ++ g.octets) (noted ++ g.items) g.direct q y g.s g.seen n g.ps g.stands y' same o e in
          let fails : FaultOf the_head w order (fetched ++ g.octets) (noted ++ g.items) (cells_of y') second (decoding_seen g1 g2 k1 k2) f =
          reads w side (fetched ++ g.octets) (noted ++ g.items) g.direct g.s g.seen next.p next.others n table next.stands in
          then_fault w side order fetched noted (cells_of x) first second both (decoding_seen g0 g1 k0 k1) (decoding_seen g1 g2 k1 k2) (decoding_seen g0 g2 k0 k2) follow g.octets g.items
          (cells_of y) g.took the_head later refl f
          (subst (λ (m : Machine). FaultOf the_head w order (fetched ++ g.octets) (noted ++ g.items) (length m.builder.graph.cells) second (decoding_seen g1 g2 k1 k2) f) same fails)

-- what is right of a fault is right of the answer that hands it on
pub pending_fault : (plan : Plan) (order : Order) (x : Stream) (source : SourceOver) (t : DecodingSeen) (y : Stream) (r : Result (Unit {0}) DecodeFault) (e : DecodeFault) → IsErrAnd r (λ z. z ≡ e)
    → PendingReads plan order x source t y (Err e) → PendingReads plan order x source t y r
pending_fault plan order x source t y (Ok u) e is f w side fetched noted direct s seen ps n table st = absurd is
pending_fault plan order x source t y (Err z) e is f w side fetched noted direct s seen ps n table st =
    subst (λ (q : DecodeFault). FaultOf the_head w order fetched noted (cells_of x) source t q) (sym is) (f w side fetched noted direct s seen ps n table st)
