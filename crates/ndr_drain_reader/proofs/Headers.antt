-- The gap and the count of a chunk that is read by itself.
-- `m` is the machine before, `n` the one after, `s` the source over the call, `t` the log and the steps over it.
use Rattle.std.proofs.Common.{◌≡◌, ◌≤◌, ◌<◌, ℕ, ◌+◌, List, [], ◌∷◌, ◌++◌, length, Result, Ok, Err, IsErrAnd, refl, ap, sym, ◌∙◌, subst, length-append, arith}
use Rattle.std.specs.Io.KnownBytes.{Consumes}
use Rattle.std.proofs.lemmas.List.{append-nil}
use Rattle.nd_base.specs.declared.octets.Order.{Order}
use Rattle.nd_base.specs.declared.TheConstants.{STREAM_LIMIT}
use Rattle.nd_base.specs.Over.{SourceOver}
use Rattle.nd_types.specs.Number.{AreOctets}
use Rattle.nd_value.specs.declared.item.Home.TheVariants as home
use Rattle.nd_value.specs.Setting.{Setting}
use Rattle.nd_value.proofs.Apart.{all_left, all_right}
use Rattle.nd_grammar.specs.declared.reason.Reason.{Reason}
use Rattle.nd_grammar.specs.declared.reason.Reason.TheVariants as reason
use Rattle.nd_grammar.specs.Entry.{gap}
use Rattle.nd_grammar.specs.Items.{but_gaps}
use Rattle.nd_grammar.specs.LegalSide.{IsLegalSide}
use Rattle.ndr_decoder_state.specs.declared.fault.DecodeFault.{DecodeFault}
use Rattle.ndr_decoder_state.specs.declared.fault.DecodeFault.TheVariants as fault
use Rattle.ndr_decoder_state.specs.declared.machine.Machine.{Machine}
use Rattle.ndr_decoder_laws.specs.steps.StepItems.{gap_items}
use Rattle.nd_grammar.specs.decoded.Verdict.{DecodingSeen, HasNoted}
use Rattle.ndr_decoder_stream.specs.Chunks.{HasMoved}
use Rattle.ndr_decoder_stream.specs.Counted.{ChunkCounted, ChunkStopped, count_item_at, in_the_count, in_the_gap}
use Rattle.ndr_decoder_stream.specs.Fetched.{CountBad, CountCame, GapBad, GapCame}
use Rattle.ndr_decode.proofs.HomeComes.{noted_as}
use Rattle.ndr_drain_laws.specs.parts.Parts.{Spot}
use Rattle.ndr_drain_laws.specs.reader.PartReader.{IsAtPipe, after_count, header_items, pipe_home}
use Rattle.ndr_drain_laws.specs.reader.Outcomes.{PartRefused}
use Rattle.ndr_drain_laws.proofs.reader.Meeting.{count_cut, count_end, count_long, count_refused, gap_cut, gap_refused}
use Rattle.ndr_drain_reader.specs.Chunks.{Fills, FillsNot, FilledBad, FilledPart, FilledWhole, HasElements, IsOpened, TookOctets}

-- what is right of a fault is right of the answer that hands it on
pub handed_fault : (w : Setting) (order : Order) (spot : Spot) (s : SourceOver) (t : DecodingSeen) (n : Machine) (r : Result ℕ DecodeFault) (e : DecodeFault) → IsErrAnd r (λ y. y ≡ e)
    → FillsNot w order spot s t e
    → Fills w order spot s t n r
handed_fault w order spot s t n (Ok count) e is x = absurd is
handed_fault w order spot s t n (Err y) e is x = subst (FillsNot w order spot s t) (sym is) x

pub not_cut : {P : Type 0} → reason.TooLong ≡ reason.Truncated → P
not_cut e = cc

-- the count is the one item that is no gap
pub header_steps : (order : Order) (spot : Spot) (g os : List ℕ) → length (but_gaps (header_items order spot g os)) ≡ 1
header_steps order spot [] os = refl
header_steps order spot (o ∷ g) os = refl

pub none_noted : (t : DecodingSeen) → t.log_now ≡ t.log → HasNoted [] t
none_noted t e = e ∙ noted_as [] t.log

module _ (w : Setting) (legal : IsLegalSide w) (order : Order) (spot : Spot) (pipe : IsAtPipe w spot) (m : Machine) (o : IsOpened spot m) (s : SourceOver) (t : DecodingSeen) where
  abbrev Bad : ℕ → Reason → Type 0
  Bad place why = FilledBad w order spot s t place why

  -- ## The gap

  module _ (os : List ℕ) (all : AreOctets os) (left : Consumes s.left s.left_now os) (log : t.log_now ≡ t.log) (steps : t.steps_now ≡ t.steps) where
    took_gap : TookOctets s t os []
    took_gap = record { left = left; logged = none_noted t log; steps = omega (arith, steps) }

    gap_part : FilledPart w order spot s t
    gap_part = record { octets = os; noted = []; cut = gap_cut w legal order spot pipe os all; took = took_gap }

    gap_bad : (place : ℕ) (why : Reason) → GapBad m.at s os place why → Bad place why
    gap_bad place reason.Truncated (less, there, ended, at_end) =
        let fewer : length os < gap spot.place 4 = subst (λ z. length os < gap z 4) o.at less in
        let at : m.at ≡ spot.place = o.at in
        let is : spot.place + length os ≡ place = omega (arith, there, at) in
        record {
          octets = os;
          noted = [];
          refused = subst (λ z. PartRefused w order spot os [] z reason.Truncated) is (gap_refused w legal order spot pipe os all fewer);
          took = took_gap;
          ended = λ u. ended;
          none_left = λ u. at_end;
        }
    gap_bad place reason.TooLong x = absurd x
    gap_bad place reason.EnumValue x = absurd x
    gap_bad place reason.PastBound x = absurd x
    gap_bad place reason.TextOffset x = absurd x
    gap_bad place reason.TextEmpty x = absurd x
    gap_bad place reason.TextUnended x = absurd x
    gap_bad place reason.TextZero x = absurd x
    gap_bad place reason.NoArm x = absurd x
    gap_bad place reason.OtherType x = absurd x
    gap_bad place (reason.Disagrees wanted found) x = absurd x

    gap_fault : (e : DecodeFault) → GapCame m.at s os (Err e) → FillsNot w order spot s t e
    gap_fault (fault.Bad place why) x = gap_bad place why x
    gap_fault fault.ReadFault (less, risen) =
        let fewer : length os < gap spot.place 4 = subst (λ z. length os < gap z 4) o.at less in
        (risen, record { octets = os; noted = []; short = gap_refused w legal order spot pipe os all fewer; took = took_gap })
    gap_fault fault.Memory x = gap_part

  -- ## The count

  module _ (g os : List ℕ) (all : AreOctets (g ++ os)) (left : Consumes s.left s.left_now (g ++ os)) (size : length g ≡ gap m.at 4) where
    of_gap : AreOctets g
    of_gap = all_left (λ b. b < 256) g os all

    of_count : AreOctets os
    of_count = all_right (λ b. b < 256) g os all

    size_is : length g ≡ gap spot.place 4
    size_is = subst (λ z. length g ≡ gap z 4) o.at size

    there : m.at + length g + 4 ≡ after_count spot
    there =
        let at : m.at ≡ spot.place = o.at in
        let many : length g ≡ gap spot.place 4 = size_is in
        omega (arith, at, many)

    gap_items_are : gap_items m.home m.at g ≡ gap_items (pipe_home spot) spot.place g
    gap_items_are = ap (λ h. gap_items h m.at g) o.in_pipe ∙ ap (λ z. gap_items (home.Root spot.root) z g) o.at

    module _ (logged : HasNoted (gap_items m.home m.at g) t) (steps : t.steps_now ≡ t.steps) where
      took_count : TookOctets s t (g ++ os) (gap_items (pipe_home spot) spot.place g)
      took_count = record { left = left; logged = subst (λ z. HasNoted z t) gap_items_are logged; steps = omega (arith, steps) }

      count_part : FilledPart w order spot s t
      count_part = record { octets = g ++ os; noted = gap_items (pipe_home spot) spot.place g; cut = count_cut w legal order spot pipe g os of_gap size_is of_count; took = took_count }

      count_bad : (place : ℕ) (why : Reason) → CountBad (m.at + length g) s os place why → Bad place why
      count_bad place reason.TooLong (long, none, is) =
          let past : STREAM_LIMIT < after_count spot = subst (λ z. STREAM_LIMIT < z) there long in
          let same : g ≡ g ++ os = sym (ap (λ z. g ++ z) none ∙ append-nil g) in
          record {
            octets = g ++ os;
            noted = gap_items (pipe_home spot) spot.place g;
            refused = subst (λ z. PartRefused w order spot z (gap_items (pipe_home spot) spot.place g) place reason.TooLong) same
                (subst (λ z. PartRefused w order spot g (gap_items (pipe_home spot) spot.place g) z reason.TooLong) (sym is) (count_long w legal order spot pipe g of_gap size_is past));
            took = took_count;
            ended = λ u. not_cut u;
            none_left = λ u. not_cut u;
          }
      count_bad place reason.Truncated (short, (less, at, ended, at_end)) =
          let near : after_count spot ≤ STREAM_LIMIT = subst (λ z. z ≤ STREAM_LIMIT) there short in
          let before : m.at ≡ spot.place = o.at in
          let many : length (g ++ os) ≡ length g + length os = length-append g os in
          let is : spot.place + length (g ++ os) ≡ place = omega (arith, at, before, many) in
          record {
            octets = g ++ os;
            noted = gap_items (pipe_home spot) spot.place g;
            refused = subst (λ z. PartRefused w order spot (g ++ os) (gap_items (pipe_home spot) spot.place g) z reason.Truncated) is
                (count_refused w legal order spot pipe g os of_gap size_is of_count less near);
            took = took_count;
            ended = λ u. ended;
            none_left = λ u. at_end;
          }
      count_bad place reason.EnumValue x = absurd x
      count_bad place reason.PastBound x = absurd x
      count_bad place reason.TextOffset x = absurd x
      count_bad place reason.TextEmpty x = absurd x
      count_bad place reason.TextUnended x = absurd x
      count_bad place reason.TextZero x = absurd x
      count_bad place reason.NoArm x = absurd x
      count_bad place reason.OtherType x = absurd x
      count_bad place (reason.Disagrees wanted found) x = absurd x

      count_fault : (e : DecodeFault) → CountCame (m.at + length g) s os (Err e) → FillsNot w order spot s t e
      count_fault (fault.Bad place why) x = count_bad place why x
      count_fault fault.ReadFault (short, less, risen) =
          let near : after_count spot ≤ STREAM_LIMIT = subst (λ z. z ≤ STREAM_LIMIT) there short in (
            risen,
            record {
              octets = g ++ os;
              noted = gap_items (pipe_home spot) spot.place g;
              short = count_refused w legal order spot pipe g os of_gap size_is of_count less near;
              took = took_count;
            },
          )
      count_fault fault.Memory x = count_part

  -- the gap or the count did not come, or was not noted
  pub stopped_there : (e : DecodeFault) → ChunkStopped m s t e → FillsNot w order spot s t e
  stopped_there e (in_the_gap x) = gap_fault x.octets x.all x.left x.log x.steps e x.came
  stopped_there e (in_the_count x) = count_fault x.gap_octets x.count_octets x.all x.left x.gap_size x.logged x.steps e x.came

  -- ## Both came

  module _ (n : Machine) (count : ℕ) (c : ChunkCounted order m n s t count) where
    abbrev pub g : List ℕ
    g = c.gap_octets

    abbrev pub os : List ℕ
    os = c.count_octets

    pub of_gap_all : AreOctets c.gap_octets
    of_gap_all = of_gap c.gap_octets c.count_octets c.all c.left c.gap_size

    pub of_count_all : AreOctets c.count_octets
    of_count_all = of_count c.gap_octets c.count_octets c.all c.left c.gap_size

    pub gap_is : length c.gap_octets ≡ gap spot.place 4
    gap_is = size_is c.gap_octets c.count_octets c.all c.left c.gap_size

    pub counted_near : after_count spot ≤ STREAM_LIMIT
    counted_near = subst (λ z. z ≤ STREAM_LIMIT) (there c.gap_octets c.count_octets c.all c.left c.gap_size) c.within

    pub counted_at : n.at ≡ after_count spot
    counted_at = c.at ∙ there c.gap_octets c.count_octets c.all c.left c.gap_size

    header_are : gap_items m.home m.at c.gap_octets ++ count_item_at m.home (m.at + length c.gap_octets) count ∷ [] ≡ header_items order spot c.gap_octets c.count_octets
    header_are =
        let a = gap_items_are c.gap_octets c.count_octets c.all c.left c.gap_size in
        let b : m.at + length c.gap_octets ≡ spot.place + gap spot.place 4 =
        (let at : m.at ≡ spot.place = o.at in let many : length c.gap_octets ≡ gap spot.place 4 = gap_is in omega (arith, at, many)) in
        ap (λ z. z ++ count_item_at m.home (m.at + length c.gap_octets) count ∷ []) a
        ∙ ap (λ h. gap_items (pipe_home spot) spot.place c.gap_octets ++ count_item_at h (m.at + length c.gap_octets) count ∷ []) o.in_pipe
        ∙ ap (λ z. gap_items (pipe_home spot) spot.place c.gap_octets ++ count_item_at (home.Root spot.root) z count ∷ []) b
        ∙ ap (λ z. gap_items (pipe_home spot) spot.place c.gap_octets ++ count_item_at (home.Root spot.root) (spot.place + gap spot.place 4) z ∷ []) (sym c.value)

    pub header_noted : HasNoted (header_items order spot c.gap_octets c.count_octets) t
    header_noted = subst (λ z. HasNoted z t) header_are c.logged

    pub header_stepped : t.steps_now ≡ t.steps + length (but_gaps (header_items order spot c.gap_octets c.count_octets))
    header_stepped = let one : length (but_gaps (header_items order spot c.gap_octets c.count_octets)) ≡ 1 = header_steps order spot c.gap_octets c.count_octets in let k : t.steps_now ≡ t.steps + 1 =
        c.steps in omega (arith, one, k)

    pub took_header : TookOctets s t (c.gap_octets ++ c.count_octets) (header_items order spot c.gap_octets c.count_octets)
    took_header = record { left = c.left; logged = header_noted; steps = (let k = header_stepped in omega (arith, k)) }

    -- a chunk without elements
    module _ (moved : HasMoved m n) (none : count ≡ 0) where
      built_none : HasElements [] n
      built_none = record {
        open_home = ap (λ b. b.home) moved.builder ∙ o.open_home;
        roots = ap (λ b. b.graph.roots) moved.builder ∙ o.roots;
        cells = ap (λ b. b.graph.cells) moved.builder ∙ o.cells;
        nodes = ap (λ b. b.nodes) moved.builder ∙ o.nodes;
      }

      pub filled_none : FilledWhole w order spot s t n 0
      filled_none =
          let many : length (c.gap_octets ++ c.count_octets) ≡ length c.gap_octets + length c.count_octets = length-append c.gap_octets c.count_octets in
          let four : length c.count_octets ≡ 4 = c.size in
          let at : n.at ≡ m.at + length c.gap_octets + 4 = c.at in
          let before : m.at ≡ spot.place = o.at in
          record {
            octets = c.gap_octets ++ c.count_octets;
            elements = [];
            noted = header_items order spot c.gap_octets c.count_octets;
            whole = count_end w legal order spot pipe c.gap_octets c.count_octets of_gap_all gap_is of_count_all c.size counted_near (c.value ∙ none);
            took = took_header;
            stepped = header_stepped;
            as_many = refl;
            at = omega (arith, many, four, at, before);
            built = built_none;
          }
