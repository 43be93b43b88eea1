-- What a call of head comes to, from what its parts come to.
-- `number` is that of the operation `o`, `way` its side, `q` the graph of the request, if one is given; `x` is what is kept at the beginning of the stream, `y` after
-- the head, `a` and `t` are what was seen of the source, the log and the steps.
use Rattle.std.proofs.Common.{◌≡◌, ◌≤◌, ℕ, List, [], ◌++◌, length, Option, Some, Result, Ok, Err, refl, ap, sym, ◌∙◌, subst, arith}
use Rattle.std.specs.Prelude.{IsErrAnd}
use Rattle.std.specs.List.{slice_get}
use Rattle.std.proofs.lemmas.List.{length-map}
use Rattle.nd_base.specs.declared.octets.Order.{Order}
use Rattle.nd_base.specs.Over.{HasRisen, SourceOver}
use Rattle.nd_types.specs.declared.types.Operation.{Operation}
use Rattle.nd_types.specs.declared.types.Side.{Side}
use Rattle.nd_value.specs.declared.value.Graph.{Graph}
use Rattle.nd_value.specs.Conforms.{Conforms}
use Rattle.nd_value.specs.Fitting.{Fitting, IsFit, IsGiven, setting_beside}
use Rattle.nd_value.specs.declared.item.Item.{Item}
use Rattle.nd_value.specs.Setting.{Setting}
use Rattle.nd_flat.specs.Building.{Building, closed, fitting}
use Rattle.nd_types.specs.Number.{AreOctets}
use Rattle.nd_grammar.specs.declared.reason.Reason.{Reason}
use Rattle.nd_grammar.specs.declared.reason.Reason.TheVariants as reason
use Rattle.nd_grammar.specs.Entry.{EntryAt}
use Rattle.nd_grammar.specs.Reader.{Progress}
use Rattle.nd_grammar.specs.LegalSide.{IsLegalSide}
use Rattle.ndr_code.specs.declared.plan.Plan.{Plan}
use Rattle.ndr_decoder_state.specs.declared.fault.DecodeFault.{DecodeFault}
use Rattle.ndr_decoder_state.specs.declared.fault.DecodeFault.TheVariants as fault
use Rattle.nd_grammar.specs.decoded.Verdict.{DecodingSeen}
use Rattle.ndr_decoder_laws.specs.stream.Between.{Begins}
use Rattle.ndr_decoder_laws.specs.stream.Calls.{CutOff, Follows, Refused, Unread}
use Rattle.ndr_decoder_laws.specs.stream.Report.{IsReported, StreamRefused, the_head, the_stream}
use Rattle.ndr_decoder_laws.proofs.stream.Heads.{stream_stays}
use Rattle.ndr_decoder_laws.proofs.stream.Reports as reports
use Rattle.ndr_drain_laws.specs.parts.Parts.{BadHead}
use Rattle.ndr_drain_laws.specs.heads.Heads.{HeadThrough, head_tested}
use Rattle.ndr_decoder_stream.specs.declared.stream.Stream.{Stream}
use Rattle.ndr_decoder_stream.specs.Seen.{between_of}
use Rattle.ndr_decode.specs.Streaming.{FaultOf, Purpose, cells_of}
use Rattle.ndr_decode.proofs.Decodes.{purpose_by}
use Rattle.ndr_decode.proofs.Placed.{types_length}
use Rattle.ndr_decode.proofs.Reported.{reported_of}
use Rattle.ndr_decode.proofs.Standing.{cut_off_here, idle_log, idle_source, then_fault}
use Rattle.ndr_drain_reader.specs.Calls.{IsHeadCause, IsHeadCut, IsHeadRefused, IsHeadUnread}
use Rattle.ndr_drain_reader.specs.Heads.{HeadReads, ReadTo, for_what}

-- nothing has its number at the beginning
pub no_cells : (x : Stream) → Begins (between_of x) → cells_of x ≡ 0
no_cells x begins = sym (length-map x.machine.builder.graph.cells (λ c. c.of)) ∙ ap length begins.cells

-- a fault that is handed on
pub handed : (w : Setting) (legal : IsLegalSide w) (order : Order) (n : ℕ) (a : SourceOver) (t : DecodingSeen) (y : Stream) (r : Result (Unit {0}) DecodeFault) (e : DecodeFault)
    → IsErrAnd r (λ k. k ≡ e) → FaultOf the_head w order [] [] n a t e → HeadReads w legal order n a t y r
handed w legal order n a t y (Ok u) e is f = absurd is
handed w legal order n a t y (Err k) e is f = subst (FaultOf the_head w order [] [] n a t) (sym is) f

-- the head is refused where the reader stops, and what it passes is of the head
abbrev pub HeadFaultsLaw : Type 0
HeadFaultsLaw =
    ((w : Setting) → IsLegalSide w → (order : Order) (octets : List ℕ) → AreOctets octets → (place : ℕ) (why : Reason) → (head_tested w order octets).stop ≡ Some (place, why)
    → (b : BadHead w order octets place why) × (b.bad.earlier ≡ (head_tested w order octets).seen))
    × ((w : Setting) → IsLegalSide w → (order : Order) (octets : List ℕ) → AreOctets octets → (earlier later : List EntryAt) → (head_tested w order octets).seen ≡ earlier ++ later
    → HeadThrough w order octets earlier)

-- a fault has its cause
module _ (law : HeadFaultsLaw) (w : Setting) (legal : IsLegalSide w) (order : Order) (a : SourceOver) (t : DecodingSeen) where
  -- where the head is refused, so is the stream, after the same entries
  abbrev of_stream : (octets : List ℕ) (noted : List Item) (n place : ℕ) (why : Reason) → StreamRefused the_head w order octets noted n place why
      → StreamRefused the_stream w order octets noted n place why
  of_stream octets noted n place why r = record {
    octets = r.octets;
    at = r.at;
    seen = r.seen;
    stops = stream_stays w order octets r.at r.seen (place, why) r.stops;
    items_are = r.items_are;
    needed = r.needed;
    cells = r.cells;
  }

  refused_so : (place : ℕ) (why : Reason) → Refused the_head w order [] [] 0 a t place why → IsHeadRefused w order a place why t
  refused_so place why x =
      let (it, (of_it, as_it)) = reports.refused_so w legal order a t x.octets x.items x.n' place why
      (of_stream x.octets x.items x.n' place why x.refused) (reported_of a t x.octets x.items x.n' x.took) x.took.left x.ended x.none_left in
      let (bad, as_far) = law.0 w legal order x.octets x.refused.octets place why (ap (λ (p : Progress). p.stop) x.refused.stops) in
      let seen_is : (head_tested w order x.octets).seen ≡ x.refused.seen = ap (λ (p : Progress). p.seen) x.refused.stops in
      let here : (b : BadHead w order it.fetched place why) × (b.bad.earlier ≡ x.refused.seen) =
      subst (λ k. (b : BadHead w order k place why) × (b.bad.earlier ≡ x.refused.seen)) (sym of_it) (bad, as_far ∙ seen_is) in
      record { refused = it; in_head = here.0; as_far = here.1 ∙ sym as_it }

  unread_so : Unread the_head w order [] [] 0 a t → IsHeadUnread w order a t
  unread_so x =
      let (it, (of_it, as_it)) = reports.unread_so w legal order a t x.octets x.items x.n'
      (of_stream x.octets x.items x.n' (length x.octets) reason.Truncated x.short) (reported_of a t x.octets x.items x.n' x.took) x.took.left in
      let (bad, as_far) = law.0 w legal order x.octets x.short.octets (length x.octets) reason.Truncated (ap (λ (p : Progress). p.stop) x.short.stops) in
      let seen_is : (head_tested w order x.octets).seen ≡ x.short.seen = ap (λ (p : Progress). p.seen) x.short.stops in
      let here : (b : BadHead w order it.cut.fetched (length it.cut.fetched) reason.Truncated) × (b.bad.earlier ≡ x.short.seen) =
      subst (λ k. (b : BadHead w order k (length k) reason.Truncated) × (b.bad.earlier ≡ x.short.seen)) (sym of_it) (bad, as_far ∙ seen_is) in
      record { unread = it; in_head = here.0; as_far = here.1 ∙ sym as_it }

  cut_so : CutOff the_head w order [] [] 0 a t → IsHeadCut w order a t
  cut_so x =
      let h : HeadThrough w order x.octets x.cut.seen = law.1 w legal order x.octets x.cut.octets x.cut.seen x.cut.after x.cut.passed in
      let reported : IsReported x.items x.n' t = reported_of a t x.octets x.items x.n' x.took in
      record {
        cut = record {
          fetched = x.octets;
          left = x.took.left;
          earlier = x.cut.seen;
          read = h.through;
          logged = reports.logged_so w legal order a t x.octets x.cut.seen x.items x.n' x.cut.items_are reported;
          counted = reports.counted_so w legal order a t x.octets x.cut.seen x.items x.n' x.cut.items_are x.cut.cells reported h.through;
        };
        in_head = h.in_head;
      }

  pub caused : (n : ℕ) → n ≡ 0 → (e : DecodeFault) → FaultOf the_head w order [] [] n a t e → IsHeadCause w order a t e
  caused n none e f = by e (subst (λ k. FaultOf the_head w order [] [] k a t e) none f)
    where
      by : (e : DecodeFault) → FaultOf the_head w order [] [] 0 a t e → IsHeadCause w order a t e
      by (fault.Bad place why) x = refused_so place why x
      by fault.ReadFault (x, risen) = (risen, unread_so x)
      by fault.Memory x = cut_so x

-- memory fails after the head was read
pub cut_after : (w : Setting) (legal : IsLegalSide w) (order : Order) (n : ℕ) (a : SourceOver) (t : DecodingSeen) (y : Stream) → ReadTo w legal order n a t y
    → FaultOf the_head w order [] [] n a t fault.Memory
cut_after w legal order n a t y r =
    let follows : Follows a (idle_source a.left_now a.ended_now a.faults) a t (idle_log t.log_now t.steps_now) t = record {
      before = refl;
      middle = refl;
      after = refl;
      ended = refl;
      log = refl;
      log_middle = refl;
      log_now = refl;
      steps = refl;
      steps_middle = refl;
      steps_now = refl;
    } in
    let none : a.faults.before ≤ a.faults.before = omega arith in
    then_fault w legal order [] [] n a (idle_source a.left_now a.ended_now a.faults) a t (idle_log t.log_now t.steps_now) t follows r.octets r.items (cells_of y) r.took the_head none refl fault.Memory
    (cut_off_here a.left_now a.ended_now a.faults t.log_now t.steps_now w legal order r.octets r.items r.direct (between_of y) r.s r.seen [] 0 (cells_of y)
    (sym (types_length y.machine.builder)) r.stands.agrees)

-- what is built for a purpose is a fit
abbrev fit_for : Graph → Purpose → Fitting
fit_for g p = record { graph = g; op = p.op; side = p.side; interface = p.interface; given = p.given }

pub fits_for : (plan : Plan) (number : ℕ) (way : Side) (q : Option Graph) (o : Operation) → slice_get plan.tie.operations number ≡ Some o → (b : Building) → for_what b ≡ purpose_by plan number way q
    → Conforms (setting_beside plan.tie o way q) (closed b) → IsGiven plan.tie o way q → IsFit (fitting b)
fits_for plan number way q o there b e conforms request =
    subst (λ p. IsFit (fit_for (closed b) p)) (sym e) (record { operation = o; is_there = there; conforms = conforms; request = request })

-- a fault of the source is answered only where its count rose
pub risen : (w : Setting) (order : Order) (a : SourceOver) (t : DecodingSeen) (e : DecodeFault) → e ≡ fault.ReadFault → IsHeadCause w order a t e → HasRisen a.faults
risen w order a t e is x = (subst (IsHeadCause w order a t) is x).0
