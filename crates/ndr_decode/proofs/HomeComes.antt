-- What the run of a home's code comes to, in the stream that the home is a part of.
-- `reach` is what is read of the stream, `f0` and `n0` are the octets that were fetched and the items that were noted before the home, `s0` is the state at its beginning, `target` what the plain
-- reader gives for it; `source` and `notes` are what was seen of the source, the log and the steps over the run.
use Rattle.std.proofs.Common.{◌≡◌, ◌≤◌, ◌<◌, ◌⊎◌, inl, inr, ℕ, ◌+◌, Bool, true, false, List, [], ◌∷◌, ◌++◌, length, refl, ap, sym, ◌∙◌, subst, append_assoc, arith}
use Rattle.std.specs.Prelude.{if◌then◌else◌, not}
use Rattle.std.specs.Io.KnownBytes.{Consumes, IsAtEnd}
use Rattle.std.proofs.lemmas.List.{append-nil}
use Rattle.std.proofs.lemmas.Option.{same_Some}
use Rattle.nd_base.specs.declared.octets.Order.{Order}
use Rattle.nd_base.specs.declared.TheConstants.{STREAM_LIMIT}
use Rattle.nd_base.specs.Over.{SourceOver}
use Rattle.nd_types.specs.Number.{AreOctets}
use Rattle.nd_types.specs.Table.{Table}
use Rattle.nd_value.specs.declared.item.Home.{Home}
use Rattle.nd_value.specs.declared.item.Item.{Item}
use Rattle.nd_value.specs.declared.item.ItemKind.{ItemKind}
use Rattle.nd_value.specs.declared.item.ItemKind.TheVariants as kind
use Rattle.nd_value.specs.Logged.{Logged, noted, ticks_of}
use Rattle.nd_value.specs.Setting.{Setting}
use Rattle.nd_value.proofs.Apart.{all_append}
use Rattle.nd_grammar.specs.declared.reason.Reason.{Reason}
use Rattle.nd_grammar.specs.declared.reason.Reason.TheVariants as reason
use Rattle.nd_grammar.specs.Items.{is_gap, but_gaps, items}
use Rattle.nd_grammar.specs.Reader.{Progress, Read}
use Rattle.ndr_code.specs.declared.instr.Instr.{Instr}
use Rattle.ndr_code.specs.declared.lists.EnumList.{EnumList}
use Rattle.ndr_decoder_laws.specs.reader.Around.{going, stopped}
use Rattle.ndr_decoder_laws.specs.steps.Good.{Good, HasOctets, IsCut}
use Rattle.ndr_decoder_laws.specs.steps.Spots.{IsPlanned}
use Rattle.ndr_decoder_laws.specs.steps.StepItems.{step_items}
use Rattle.ndr_decoder_laws.specs.steps.Steps.{State, refused, wants, step}
use Rattle.ndr_decoder_laws.proofs.steps.Lacking.{cut_right}
use Rattle.ndr_decoder_laws.proofs.steps.Passing.{items_stay}
use Rattle.ndr_decoder_laws.specs.runs.Reaching.{Reaches}
use Rattle.ndr_decoder_laws.specs.runs.Refusals.{IsRefusedHere, IsShort}
use Rattle.ndr_decoder_laws.proofs.runs.EndRuns.{needed_then, needed_along, whole_end, refused_end, cut_end, long_end}
use Rattle.ndr_decoder_laws.proofs.runs.GoodRuns.{along}
use Rattle.ndr_decoder_laws.proofs.runs.Joining.{over_octets}
use Rattle.ndr_decoder_state.specs.Notes.{NotesSeen, all_noted, ticks}
use Rattle.ndr_decoder_state.specs.declared.fault.DecodeFault.{DecodeFault}
use Rattle.ndr_decoder_state.specs.declared.fault.DecodeFault.TheVariants as fault
use Rattle.ndr_decoder_value.specs.Reaching.{IsLogged, IsLoggedPart, End, EndsWhole, EndsBad, EndsUnread, EndsCutOff, EndsFault}
use Rattle.nd_grammar.specs.decoded.Needed.{IsNeeded}
use Rattle.nd_grammar.specs.decoded.Verdict.{DecodingSeen, with_items, direct_roots}
use Rattle.ndr_decoder_laws.specs.stream.Added.{Added}
use Rattle.ndr_decoder_laws.specs.stream.Between.{AreNeeded}
use Rattle.ndr_decoder_laws.specs.stream.Calls.{Took, TookPart, Refused, Unread, CutOff, RefusesWith, GoesWith}
use Rattle.ndr_decoder_laws.specs.stream.Report.{AreCells, Extent, StreamRefused}
use Rattle.ndr_decoder_laws.proofs.stream.HomeFaults.{home_refused, home_cut}
use Rattle.ndr_decoder_laws.proofs.stream.StateAdds.{state_adds}
use Rattle.ndr_decode.proofs.WholeStays.{whole_stays}
use Rattle.ndr_decode.specs.Streaming.{FaultOf, HomeWhole}

-- ## Logs

-- what was seen of the log and the steps, without the cells
abbrev pub decoding_of : NotesSeen → DecodingSeen
decoding_of n = record { log = n.log; log_now = n.log_now; steps = n.steps; steps_now = n.steps_now }

abbrev kept_in : Bool → List Item → Logged
kept_in b xs = record { keeps = b; items = xs }

pub noted_as : (xs : List Item) (g : Logged) → all_noted xs g ≡ with_items xs g
noted_as [] g = go g.keeps
  where
    go : (b : Bool) → kept_in b g.items ≡ kept_in b (if b then g.items ++ [] else g.items)
    go true = ap (kept_in true) (sym (append-nil g.items))
    go false = refl
noted_as (x ∷ xs) g = noted_as xs (noted x g) ∙ go g.keeps
  where
    go : (b : Bool) → with_items xs (noted x (kept_in b g.items)) ≡ kept_in b (if b then g.items ++ x ∷ xs else g.items)
    go true = ap (kept_in true) (append_assoc g.items (x ∷ []) xs)
    go false = refl

pub ticks_are : (xs : List Item) → ticks xs ≡ length (but_gaps xs)
ticks_are [] = refl
ticks_are (x ∷ xs) = go x.kind (ticks_are xs)
  where
    go : (k : ItemKind) → ticks xs ≡ length (but_gaps xs) → ticks_of k + ticks xs ≡ length (if not (is_gap k) then x ∷ but_gaps xs else but_gaps xs)
    go kind.Gap e = omega (arith, e)
    go kind.Max e = omega (arith, e)
    go kind.Offset e = omega (arith, e)
    go kind.Actual e = omega (arith, e)
    go kind.Number e = omega (arith, e)
    go kind.Tag e = omega (arith, e)
    go kind.Num e = omega (arith, e)
    go kind.Text e = omega (arith, e)
    go kind.Context e = omega (arith, e)
    go kind.Chunk e = omega (arith, e)

pub took_all : (source : SourceOver) (notes : NotesSeen) (s0 s : State) (octets : List ℕ) (xs : List Item) → Consumes source.left source.left_now octets → IsLogged xs s0 s notes
    → Took source (decoding_of notes) (length s0.cells) octets xs (length s.cells)
took_all source notes s0 s octets xs left (log, count) =
    let t = ticks_are xs in record { left = left; logged = log ∙ noted_as xs notes.log; steps = omega (arith, count, t) }

pub took_some : (source : SourceOver) (notes : NotesSeen) (s0 s : State) (octets : List ℕ) (xs : List Item) → Consumes source.left source.left_now octets → IsLoggedPart xs s0 s notes
    → TookPart source (decoding_of notes) (length s0.cells) octets xs (length s.cells)
took_some source notes s0 s octets xs left (log, count) =
    let t = ticks_are xs in record { left = left; logged = log ∙ noted_as xs notes.log; steps = omega (arith, count, t) }

all_is_part : (notes : NotesSeen) (s0 s : State) (xs : List Item) → IsLogged xs s0 s notes → IsLoggedPart xs s0 s notes
all_is_part notes s0 s xs (log, count) = (log, omega (arith, count))

-- ## Homes

abbrev IsNotCut : Reason → Type 0
IsNotCut reason.Truncated = ⊥
IsNotCut why = Unit {0}

module _ (values : List EnumList) (order : Order) (code : List Instr) (table : Table) (h : Home) (own limit direct : ℕ) (target : List ℕ → Read) (planned : IsPlanned code values table)
    (f0 : List ℕ) (n0 : List Item) (s0 : State) (g0 : Good order f0 code table h own limit n0 direct target s0) (source : SourceOver) (notes : NotesSeen) where
  abbrev Comes : Type 0
  Comes = End values order code h s0 source

  abbrev octets_of : Comes → List ℕ
  octets_of e = e.fetched ++ e.os

  all_of : (e : Comes) → AreOctets (octets_of e)
  all_of e = all_append (λ b. b < 256) e.fetched e.os (over_octets values order code h s0 e.reached) e.octets

  needed_of : (e : Comes) → HasOctets (wants values e.i e.s) e.os e.s.at ⊎ IsCut (wants values e.i e.s) e.os e.s.at → AreNeeded target f0 (octets_of e)
  needed_of e came part last is =
      let x : IsShort target (f0 ++ part) =
      needed_then values order code table h own limit direct target planned f0 n0 s0 g0 e.fetched e.noted e.s e.reached e.i e.there e.os came
      (needed_along values order code table h own limit direct target planned f0 n0 s0 g0 e.reached) part last is in
      (x.0, x.1.0, x.1.1)

  pub whole_comes : (s1 : State) → ((more : List ℕ) (items : List Item) (y : State) → Reaches values order code h s0 more items y → y.at ≤ STREAM_LIMIT)
      → EndsWhole values order code h s0 source notes s1 → HomeWhole order table h own direct target f0 n0 (length s0.cells) source (decoding_of notes) s1
  whole_comes s1 within (e, (has, (is, logged))) = record {
    within = subst (λ k. k ≤ STREAM_LIMIT) (sym (whole_stays values order e.os e.i e.s s1 is)) (within e.fetched e.noted e.s e.reached);
    octets = octets_of e;
    items = e.noted ++ step_items order h e.os e.i e.s;
    all = all_of e;
    is = whole_end values order code table h own limit direct target planned f0 n0 s0 g0 e.fetched e.noted e.s e.reached e.i e.there e.os has s1 is;
    needed = needed_of e (inl has);
    took = took_all source notes s0 s1 (octets_of e) (e.noted ++ step_items order h e.os e.i e.s) e.left logged;
  }

  -- octets that are cut short end where they are refused
  pub cut_place : (e : Comes) → IsCut (wants values e.i e.s) e.os e.s.at → e.s.at + length e.os ≡ length (f0 ++ octets_of e)
  cut_place e cut =
      let fetched : List ℕ = f0 ++ octets_of e in
      let g : Good order (f0 ++ e.fetched) code table h own limit (n0 ++ e.noted) direct target e.s = along values order code table h own limit direct target planned f0 n0 s0 g0 e.reached in
      let x : IsRefusedHere order (f0 ++ octets_of e) (n0 ++ e.noted) (length e.s.cells) direct target (e.s.at + length e.os) reason.Truncated =
      cut_end values order code table h own limit direct target planned f0 n0 s0 g0 e.fetched e.noted e.s e.reached e.i e.there e.os cut in
      let there : (target fetched).progress ≡ stopped x.at x.seen (e.s.at + length e.os, reason.Truncated) =
      subst (λ k. (target k).progress ≡ stopped x.at x.seen (e.s.at + length e.os, reason.Truncated)) (append-nil fetched) (x.stops [] (λ u. refl)) in
      let at_end : (target fetched).progress ≡ stopped e.s.at g.seen (length fetched, reason.Truncated) =
      subst (λ k. (target k).progress ≡ stopped e.s.at g.seen (length k, reason.Truncated)) (append_assoc f0 e.fetched e.os)
      (cut_right order (f0 ++ e.fetched) code values table h own limit (n0 ++ e.noted) direct target planned e.s g e.i e.there e.os cut) in
      ap (λ (r : ℕ × Reason). r.0) (same_Some _ _ (ap (λ (p : Progress). p.stop) (sym there ∙ at_end)))

  -- ## Faults

  module _ (reach : Extent) (w : Setting) (all : AreOctets f0) (needed : IsNeeded w order f0) (refuses : RefusesWith reach w order f0 target) (goes : GoesWith reach w order f0 target)
      (few : direct ≤ length (direct_roots w)) where
    abbrev IsRefusedIn : ℕ → Reason → Type 0
    IsRefusedIn place why = Refused reach w order f0 n0 (length s0.cells) source (decoding_of notes) place why

    stream_refused : (e : Comes) (place : ℕ) (why : Reason) → IsRefusedHere order (f0 ++ octets_of e) (n0 ++ e.noted) (length e.s.cells) direct target place why → AreNeeded target f0 (octets_of e)
        → StreamRefused reach w order (f0 ++ octets_of e) (n0 ++ e.noted) (length e.s.cells) place why
    stream_refused e place why x needs =
        let stop : (target (f0 ++ octets_of e)).progress ≡ stopped x.at x.seen (place, why) =
        subst (λ k. (target k).progress ≡ stopped x.at x.seen (place, why)) (append-nil (f0 ++ octets_of e)) (x.stops [] (λ u. refl)) in
        let cells : AreCells w x.seen (length e.s.cells) = record { d = direct; named = x.cells_named; few = few } in
        home_refused reach w order f0 all needed target (octets_of e) (all_of e) refuses needs (n0 ++ e.noted) (length e.s.cells) place why x.at x.seen stop x.items_are cells

    taken_of : (e : Comes) → IsLogged e.noted s0 e.s notes → TookPart source (decoding_of notes) (length s0.cells) (octets_of e) e.noted (length e.s.cells)
    taken_of e logged = took_some source notes s0 e.s (octets_of e) e.noted e.left (all_is_part notes s0 e.s e.noted logged)

    refused_of : (e : Comes) (place : ℕ) (why : Reason) → IsRefusedHere order (f0 ++ octets_of e) (n0 ++ e.noted) (length e.s.cells) direct target place why → AreNeeded target f0 (octets_of e)
        → IsLogged e.noted s0 e.s notes → (why ≡ reason.Truncated → source.ended_now ≡ true) → (why ≡ reason.Truncated → IsAtEnd source.left_now) → IsRefusedIn place why
    refused_of e place why x needs logged ended at_end = record {
      octets = octets_of e;
      items = e.noted;
      n' = length e.s.cells;
      refused = stream_refused e place why x needs;
      took = taken_of e logged;
      ended = ended;
      none_left = at_end;
    }

    -- the last step is refused
    abbrev StepIsRefused : ℕ → Reason → Type 0
    StepIsRefused place why =
        (e : Comes) × (HasOctets (wants values e.i e.s) e.os e.s.at × ((step values order e.os e.i e.s ≡ refused place why) × IsLogged e.noted s0 e.s notes))

    step_refused : (place : ℕ) (why : Reason) → IsNotCut why → StepIsRefused place why → IsRefusedIn place why
    step_refused place why other (e, (has, (is, logged))) =
        refused_of e place why (refused_end values order code table h own limit direct target planned f0 n0 s0 g0 e.fetched e.noted e.s e.reached e.i e.there e.os has place why is)
        (needed_of e (inl has)) logged (λ u. absurd (subst IsNotCut u other)) (λ u. absurd (subst IsNotCut u other))

    pub bad_comes : (s1 : State) (place : ℕ) (why : Reason) → EndsBad values order code h s0 source notes s1 place why → IsRefusedIn place why
    bad_comes s1 place reason.TooLong (e, (long, (none, (is, logged)))) =
        let same : octets_of e ≡ e.fetched = ap (λ k. e.fetched ++ k) none ∙ append-nil e.fetched in
        let needs : AreNeeded target f0 e.fetched =
        λ part last u. let x : IsShort target (f0 ++ part) = needed_along values order code table h own limit direct target planned f0 n0 s0 g0 e.reached part last u in (x.0, x.1.0, x.1.1) in
        subst (λ k. IsRefusedIn k reason.TooLong) (sym is)
        (refused_of e STREAM_LIMIT reason.TooLong (long_end values order code table h own limit direct target planned f0 n0 s0 g0 e.fetched e.noted e.s e.reached e.i e.there e.os long none)
        (subst (AreNeeded target f0) (sym same) needs) logged (λ u. absurd (subst IsNotCut u tt)) (λ u. absurd (subst IsNotCut u tt)))
    bad_comes s1 place reason.Truncated (e, (cut, (is, (ended, (at_end, logged))))) =
        subst (λ k. IsRefusedIn k reason.Truncated) (sym is)
        (refused_of e (e.s.at + length e.os) reason.Truncated (cut_end values order code table h own limit direct target planned f0 n0 s0 g0 e.fetched e.noted e.s e.reached e.i e.there e.os cut)
        (needed_of e (inr cut)) logged (λ u. ended) (λ u. at_end))
    bad_comes s1 place reason.EnumValue x = step_refused place reason.EnumValue tt x
    bad_comes s1 place reason.PastBound x = step_refused place reason.PastBound tt x
    bad_comes s1 place reason.TextOffset x = step_refused place reason.TextOffset tt x
    bad_comes s1 place reason.TextEmpty x = step_refused place reason.TextEmpty tt x
    bad_comes s1 place reason.TextUnended x = step_refused place reason.TextUnended tt x
    bad_comes s1 place reason.TextZero x = step_refused place reason.TextZero tt x
    bad_comes s1 place reason.NoArm x = step_refused place reason.NoArm tt x
    bad_comes s1 place reason.OtherType x = step_refused place reason.OtherType tt x
    bad_comes s1 place (reason.Disagrees wanted found) x = step_refused place (reason.Disagrees wanted found) tt x

    -- the source failed before all octets of a step came
    unread_comes : (s1 : State) → EndsUnread values order code h s0 source notes s1 → Unread reach w order f0 n0 (length s0.cells) source (decoding_of notes)
    unread_comes s1 (e, (cut, logged)) =
        let x : IsRefusedHere order (f0 ++ octets_of e) (n0 ++ e.noted) (length e.s.cells) direct target (e.s.at + length e.os) reason.Truncated =
        cut_end values order code table h own limit direct target planned f0 n0 s0 g0 e.fetched e.noted e.s e.reached e.i e.there e.os cut in
        record {
          octets = octets_of e;
          items = e.noted;
          n' = length e.s.cells;
          short = subst (λ k. StreamRefused reach w order (f0 ++ octets_of e) (n0 ++ e.noted) (length e.s.cells) k reason.Truncated) (cut_place e cut)
              (stream_refused e (e.s.at + length e.os) reason.Truncated x (needed_of e (inr cut)));
          took = taken_of e logged;
        }

    pub cut_comes : (s1 : State) → EndsCutOff values order code h s0 source notes s1 → CutOff reach w order f0 n0 (length s0.cells) source (decoding_of notes)
    cut_comes s1 (e, logged) =
        let g : Good order (f0 ++ e.fetched) code table h own limit (n0 ++ e.noted) direct target e.s = along values order code table h own limit direct target planned f0 n0 s0 g0 e.reached in
        let more : Added h (going e.s.at g.seen) (target ((f0 ++ e.fetched) ++ e.os)).progress = state_adds order (f0 ++ e.fetched) code table h own limit (n0 ++ e.noted) direct target e.s g e.os in
        let passed : (target (f0 ++ octets_of e)).progress.seen ≡ g.seen ++ more.added =
        subst (λ k. (target k).progress.seen ≡ g.seen ++ more.added) (append_assoc f0 e.fetched e.os) more.seen in
        let items_are : items order (f0 ++ octets_of e) g.seen ≡ n0 ++ e.noted =
        subst (λ k. items order k g.seen ≡ n0 ++ e.noted) (append_assoc f0 e.fetched e.os) (items_stay order (f0 ++ e.fetched) e.os g.seen g.told.lie_within ∙ g.told.noted_are) in
        let cells : AreCells w g.seen (length e.s.cells) = record { d = direct; named = g.told.cells_named.named; few = few } in
        record {
          octets = octets_of e;
          items = e.noted;
          n' = length e.s.cells;
          cut = home_cut reach w order f0 all needed target (octets_of e) (all_of e) goes (n0 ++ e.noted) (length e.s.cells) g.seen more.added passed items_are cells;
          took = took_some source notes s0 e.s (octets_of e) e.noted e.left logged;
        }

    pub fault_comes : (s1 : State) (x : DecodeFault) → EndsFault values order code h s0 source notes s1 x → FaultOf reach w order f0 n0 (length s0.cells) source (decoding_of notes) x
    fault_comes s1 (fault.Bad place why) x = bad_comes s1 place why x
    fault_comes s1 fault.ReadFault (x, risen) = (unread_comes s1 x, risen)
    fault_comes s1 fault.Memory x = cut_comes s1 x
