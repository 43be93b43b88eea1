-- What a call of decode comes to.
-- `o` is the operation, of this number, `way` its side, `q` the graph of the request, if one is given; `x` is what is kept at the beginning of the stream, `z` at
-- its end; `c`, `u` are what was seen of the source, the log and the steps.
use Rattle.std.proofs.Common.{◌≡◌, ℕ, Bool, List, [], length, Option, Some, None, Result, Ok, Err, refl, ap, ap₂, sym, ◌∙◌, subst}
use Rattle.std.specs.Prelude.{IfErr, IsErrAnd, IsErrOf, option_map}
use Rattle.std.specs.List.{slice_get}
use Rattle.std.proofs.lemmas.List.{length-map}
use Rattle.std.proofs.lemmas.Option.{same_Some}
use Rattle.nd_base.specs.declared.octets.Order.{Order}
use Rattle.nd_base.specs.Over.{Count, HasRisen, SourceOver}
use Rattle.nd_types.specs.declared.types.Operation.{Operation}
use Rattle.nd_types.specs.declared.interface.Interface.{Interface}
use Rattle.nd_types.specs.declared.types.Side.{Side}
use Rattle.nd_types.specs.declared.types.Side.TheVariants as side
use Rattle.nd_value.specs.declared.value.Graph.{Graph}
use Rattle.nd_value.specs.Conforms.{Conforms}
use Rattle.nd_value.specs.Deferral.{before_pipes}
use Rattle.nd_value.specs.Fitting.{Fitting, IsFit, IsGiven, IsGivenRequest, setting_beside, setting_of}
use Rattle.nd_value.specs.Request.{ConformsIfGiven, IsRequest, IsRequestOf}
use Rattle.nd_value.specs.Logged.{Logged}
use Rattle.nd_value.specs.Setting.{Setting, root_list}
use Rattle.nd_flat.specs.Building.{Building, closed, fitting, start}
use Rattle.nd_grammar.specs.LegalSide.{IsLegalSide}
use Rattle.nd_grammar.specs.StreamReader.{read_start}
use Rattle.ndr_code.specs.declared.plan.Plan.{Plan}
use Rattle.ndr_decoder_state.specs.declared.fault.DecodeFault.{DecodeFault}
use Rattle.ndr_decoder_state.specs.declared.fault.DecodeFault.TheVariants as fault
use Rattle.ndr_decoder_laws.specs.stream.Between.{Begins}
use Rattle.ndr_decoder_laws.proofs.stream.StreamBegins.{stream_begins}
use Rattle.nd_grammar.specs.decoded.Verdict.{DecodingSeen, IsDecoded}
use Rattle.ndr_decoder_stream.specs.declared.stream.Stream.{Stream}
use Rattle.ndr_decoder_stream.specs.Seen.{between_of}
use Rattle.ndr_decoder_laws.specs.stream.Report.{the_stream}
use Rattle.ndr_decode.specs.Decoding.{IsFault, IsInOrder}
use Rattle.ndr_decode.specs.Piping.{EndComes}
use Rattle.ndr_decode.specs.Streaming.{FaultOf, IsSettingOf, Purpose, WasRead, cells_of, purpose_of}
use Rattle.ndr_decode.proofs.Handed.{stream_fault}
use Rattle.ndr_decode.proofs.EndsWell.{decoded_reported}
use Rattle.ndr_decode.proofs.Reported.{fault_reported, in_order_reported}
use Rattle.ndr_decode.proofs.Standing.{cut_off_here, idle_log, idle_source}
use Rattle.nd_grammar.proofs.LegalSides.{operation_there as operation_among}

-- what a graph is built for, by a plan
abbrev pub purpose_by : Plan → ℕ → Side → Option Graph → Purpose
purpose_by plan number way q = record { op = number; side = way; interface = plan.tie; given = q }

-- a fit of a graph for a purpose
abbrev fit_by : Graph → Purpose → Fitting
fit_by g p = record { graph = g; op = p.op; side = p.side; interface = p.interface; given = p.given }

-- what is kept at the end is for the purpose of the builder at the beginning
pub built_for : (plan : Plan) (number : ℕ) (way : Side) (q : Option Graph) (i : Interface) (x z : Stream) (b : Building) → purpose_of z ≡ purpose_of x → x.machine.builder ≡ b
    → b ≡ start i number way q → i ≡ plan.tie → purpose_of z ≡ purpose_by plan number way q
built_for plan number way q i x z b same e f g =
    same ∙ ap (λ (d : Building). record { op = d.op; side = d.side; interface = d.interface; given = d.given }) (e ∙ f)
    ∙ ap (λ (j : Interface). record { op = number; side = way; interface = j; given = q }) g

-- what a fit is of
pub fit_of : (f : Fitting) (z : Stream) (p : Purpose) → f ≡ fitting z.machine.builder → purpose_of z ≡ p → (f.op ≡ p.op) × (f.side ≡ p.side) × (f.interface ≡ p.interface)
fit_of f z p e h = (
  ap (λ (k : Fitting). k.op) e ∙ ap (λ (k : Purpose). k.op) h,
  ap (λ (k : Fitting). k.side) e ∙ ap (λ (k : Purpose). k.side) h,
  ap (λ (k : Fitting). k.interface) e
      ∙ ap (λ (k : Purpose). k.interface) h,
)

pub fit_beside : (f : Fitting) (z : Stream) (p : Purpose) → f ≡ fitting z.machine.builder → purpose_of z ≡ p → f.given ≡ p.given
fit_beside f z p e h = ap (λ (k : Fitting). k.given) e ∙ ap (λ (k : Purpose). k.given) h

-- ## A request

no_request : (i : Interface) (o : Operation) (q : Option Graph) → IsGiven i o side.In q → q ≡ None
no_request i o None h = refl
no_request i o (Some g) h = let e = h.judged in cc

request_fits : (i : Interface) (number : ℕ) (o : Operation) (way : Side) (f : Fitting) → slice_get i.operations number ≡ Some o → IsFit f → IsRequest i number way f
    → IsGivenRequest i o way f.graph
request_fits i number o way f there fit h =
    let same : fit.operation ≡ o = same_Some _ _ (sym fit.is_there ∙ ap₂ (λ (j : Interface) n. slice_get j.operations n) h.interface h.op ∙ there) in
    let none : f.given ≡ None = no_request f.interface fit.operation f.given (subst (λ s. IsGiven f.interface fit.operation s f.given) h.side fit.request) in
    let setting : setting_beside f.interface fit.operation f.side f.given ≡ setting_of i o side.In = λ k. setting_beside (h.interface k) (same k) (h.side k) (none k) in
    record { judged = h.judged; inputs = subst (λ w. Conforms w f.graph) setting fit.conforms }

-- what is given is a request of the operation
pub given_fits : {R : Type 0} (i : Interface) (number : ℕ) (o : Operation) (way : Side) (q : Option R) (fit_in : R → Fitting) → slice_get i.operations number ≡ Some o
    → ConformsIfGiven (option_map fit_in q) → IsRequestOf i number way (option_map fit_in q) → IsGiven i o way (option_map (λ r. (fit_in r).graph) q)
given_fits i number o way None fit_in there fit h = tt
given_fits i number o way (Some r) fit_in there fit h = request_fits i number o way (fit_in r) there fit h

-- ## Faults

-- what is right of a fault is right of the answer that hands it on
pub handed_on : {A : Type 0} (P : DecodeFault → Type 0) (r : Result A DecodeFault) (e : DecodeFault) → IsErrAnd r (λ k. k ≡ e) → P e → IfErr r P
handed_on P (Ok a) e is p = tt
handed_on P (Err k) e is p = subst P (sym is) p

pub same_fault : {A : Type 0} (r : Result A DecodeFault) (e k : DecodeFault) → IsErrAnd r (λ j. j ≡ e) → IsErrOf r k → e ≡ k
same_fault (Ok a) e k is h = absurd is
same_fault (Err j) e k is h = (let x : j ≡ k = cc in sym is ∙ x)

-- a fault of the source has its cause
pub source_failed : (w : Setting) (order : Order) (n : ℕ) (c : SourceOver) (u : DecodingSeen) (e : DecodeFault) → e ≡ fault.ReadFault → FaultOf the_stream w order [] [] n c u e → HasRisen c.faults
source_failed w order n c u e is x = (subst (λ (k : DecodeFault). FaultOf the_stream w order [] [] n c u k) is x).1

-- ## A call

module _ (plan : Plan) (number : ℕ) (way : Side) (q : Option Graph) (o : Operation) (there : slice_get plan.tie.operations number ≡ Some o) (order : Order) where
  abbrev pub w : Setting
  w = setting_beside plan.tie o way q

  pub legal : IsLegalSide w
  legal = record { operations = plan.tie.operations; legal = plan.legal; operation = operation_among plan.tie.operations number o there }

  pub setting : IsSettingOf plan number way w
  setting = record { table = refl; there = there; on = refl }

  pub is_fit : (z : Stream) → purpose_of z ≡ purpose_by plan number way q → Conforms w (closed z.machine.builder) → IsGiven plan.tie o way q → IsFit (fitting z.machine.builder)
  is_fit z e conforms request =
      subst (λ p. IsFit (fit_by (closed z.machine.builder) p)) (sym e) (record { operation = o; is_there = there; conforms = conforms; request = request })

  module _ (x : Stream) (begins : Begins (between_of x)) where
    no_cells : cells_of x ≡ 0
    no_cells = sym (length-map x.machine.builder.graph.cells (λ c. c.of)) ∙ ap length begins.cells

    -- where memory is refused before anything is read
    pub nothing_read : (left : Option (List ℕ)) (ended : Bool) (faults : Count) (log : Logged) (steps : ℕ) → IsFault w order (idle_source left ended faults) fault.Memory (idle_log log steps)
    nothing_read left ended faults log steps =
        fault_reported w legal order (idle_source left ended faults) (idle_log log steps) fault.Memory
        (stream_fault w order [] [] 0 (idle_source left ended faults) (idle_log log steps) fault.Memory
        (cut_off_here left ended faults log steps w legal order [] [] 0 (between_of x) (read_start w order []) [] [] (before_pipes (root_list w)) 0 (sym (ap length begins.cells))
        (stream_begins w legal order (between_of x) begins)))

    pub side_fails : (c : SourceOver) (u : DecodingSeen) (z : Stream) (e : DecodeFault) → EndComes w order [] [] (cells_of x) c u z (Err e) → IsFault w order c e u
    side_fails c u z e r = fault_reported w legal order c u e (subst (λ n. FaultOf the_stream w order [] [] n c u e) no_cells r)

    pub side_in_order : (c : SourceOver) (u : DecodingSeen) (z : Stream) (e : DecodeFault) → EndComes w order [] [] (cells_of x) c u z (Err e) → IsInOrder w order c e u
    side_in_order c u z e r = in_order_reported w legal order c u e (subst (λ n. FaultOf the_stream w order [] [] n c u e) no_cells r)

    pub side_ends : (c : SourceOver) (u : DecodingSeen) (z : Stream) → WasRead w order [] [] (cells_of x) c u z → IsDecoded w order c z.machine.at (closed z.machine.builder) u
    side_ends c u z r = decoded_reported w legal order c u z (subst (λ n. WasRead w order [] [] n c u z) no_cells r)

    pub decoded_as : (c : SourceOver) (u : DecodingSeen) (z : Stream) (count : ℕ) (f : Fitting) → f ≡ fitting z.machine.builder → count ≡ z.machine.at → WasRead w order [] [] (cells_of x) c u z
        → IsDecoded w order c count f.graph u
    decoded_as c u z count f e h r =
        subst (λ k. IsDecoded w order c k f.graph u) (sym h) (subst (λ (k : Fitting). IsDecoded w order c z.machine.at k.graph u) (sym e) (side_ends c u z r))
