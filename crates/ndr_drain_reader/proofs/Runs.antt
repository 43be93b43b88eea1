-- The elements of a chunk that is read by itself.
-- `m` is the machine before the chunk, `n` the one after its count, `o` the one at the beginning of its elements, `z` the one at their end; `a` and `d` are what was
-- seen of the source, and of the log and the steps, over the count, `b` and `notes` over the elements, `s` and `t` over both. `suc k` is the count.
use Rattle.std.proofs.Common.{◌≡◌, ◌≤◌, ◌<◌, ◌-◌, ◌⊎◌, inl, inr, ℕ, ◌+◌, suc, pos, true, List, [], ◌∷◌, ◌++◌, length, map, Some, None, refl, ap, ap₂, sym, ◌∙◌, subst, length-append, arith}
use Rattle.std.specs.Io.KnownBytes.{Consumes, IsAtEnd}
use Rattle.std.proofs.KnownBytes.{Consumes-trans}
use Rattle.std.proofs.lemmas.List.{append-nil, length-map, length-replicate}
use Rattle.nd_base.specs.declared.octets.Order.{Order}
use Rattle.nd_base.specs.declared.TheConstants.{STREAM_LIMIT}
use Rattle.nd_base.specs.Over.{Rose, SourceOver}
use Rattle.nd_base.proofs.Rising.{rose_later}
use Rattle.nd_types.specs.declared.types.Primitive.TheVariants as prim
use Rattle.nd_types.specs.Number.{AreOctets}
use Rattle.nd_types.specs.declared.types.TypeId.{TypeId}
use Rattle.nd_value.specs.declared.item.Home.{Home}
use Rattle.nd_value.specs.declared.item.Home.TheVariants as home
use Rattle.nd_value.specs.declared.item.Item.{Item}
use Rattle.nd_value.specs.Setting.{Setting}
use Rattle.nd_value.specs.Tree as tree
use Rattle.nd_value.specs.Tree.{Tree, Trees, Referent, flat, items, more, node, none, trees, trees-items}
use Rattle.nd_value.proofs.Apart.{all_append}
use Rattle.nd_flat.specs.Building.{Building, raised, with_nodes}
use Rattle.nd_grammar.specs.declared.reason.Reason.{Reason}
use Rattle.nd_grammar.specs.declared.reason.Reason.TheVariants as reason
use Rattle.nd_grammar.specs.Entry.{gap}
use Rattle.nd_grammar.specs.Items.{but_gaps}
use Rattle.nd_grammar.specs.LegalSide.{IsLegalSide}
use Rattle.nd_grammar.specs.Reader.{Read}
use Rattle.nd_grammar.specs.Stream.{kids_of}
use Rattle.ndr_code.specs.Code.{place_at}
use Rattle.ndr_code.specs.declared.plan.Plan.{Plan}
use Rattle.ndr_decoder_laws.specs.declared.first.First.TheVariants as first
use Rattle.ndr_decoder_laws.specs.declared.frame.Frame.TheVariants as frame
use Rattle.ndr_decoder_laws.specs.steps.Good.{Good, HasOctets, IsCut}
use Rattle.ndr_decoder_laws.specs.steps.Spots.{IsFine, IsPlanned}
use Rattle.ndr_decoder_laws.specs.steps.Steps.{State, begun, refused, step, wants}
use Rattle.ndr_decoder_laws.specs.runs.Reaching.{IsSafe, Reaches}
use Rattle.ndr_decoder_laws.specs.runs.Refusals.{IsRefusedHere, IsShort}
use Rattle.ndr_decoder_laws.proofs.runs.EndRuns.{cut_end, long_end, needed_along, needed_then, refused_end}
use Rattle.ndr_decoder_laws.proofs.runs.GoodRuns.{along}
use Rattle.ndr_decoder_laws.proofs.runs.Joining.{over_octets}
use Rattle.ndr_decoder_state.specs.Notes.{NotesSeen}
use Rattle.ndr_decoder_state.specs.Seen.{Outside, outside, state_of}
use Rattle.ndr_decoder_state.specs.declared.fault.DecodeFault.{DecodeFault}
use Rattle.ndr_decoder_state.specs.declared.fault.DecodeFault.TheVariants as fault
use Rattle.ndr_decoder_state.specs.declared.machine.Machine.{Machine}
use Rattle.ndr_decoder_laws.specs.stream.Between.{AreNeeded}
use Rattle.ndr_decoder_laws.specs.stream.Calls.{Follows}
use Rattle.nd_grammar.specs.decoded.Verdict.{DecodingSeen, HasNoted, with_items}
use Rattle.ndr_decoder_value.specs.Reaching.{End, EndsBad, EndsFault, EndsWhole, IsLogged, IsLoggedPart}
use Rattle.ndr_decoder_stream.specs.Chunks.{HasMoved}
use Rattle.ndr_decoder_stream.specs.Counted.{ChunkCounted}
use Rattle.ndr_decoder_stream.specs.Opening.{BeginsElements}
use Rattle.ndr_decode.specs.Piping.{IsPipeBy}
use Rattle.ndr_decode.specs.Streaming.{HomeWhole}
use Rattle.ndr_decode.proofs.AtRoots.{planned_is}
use Rattle.ndr_decode.proofs.HomeComes.{cut_place, decoding_of, noted_as, ticks_are, whole_comes}
use Rattle.ndr_decode.proofs.PipeElements.{elements_fine}
use Rattle.ndr_drain_laws.specs.parts.Parts.{Spot}
use Rattle.ndr_drain_laws.specs.reader.PartReader.{IsAtPipe, after_count, before_place, header_items, part_target, pipe_home, to_elements, type_of_root}
use Rattle.ndr_drain_laws.specs.reader.Outcomes.{OpensPart, PartCut, PartRefused, PartWhole}
use Rattle.ndr_drain_laws.proofs.reader.Meeting.{elements_begin, elements_cut, elements_pipe, elements_refused, elements_safe, elements_whole}
use Rattle.ndr_drain_reader.specs.Chunks.{FilledBad, FilledPart, FilledUnread, FilledWhole, FillsNot, HasElements, IsOpened, TookOctets}
use Rattle.ndr_drain_reader.proofs.Headers.{counted_at, counted_near, gap_is, header_stepped, not_cut, of_count_all, of_gap_all, took_header}
use Rattle.ndr_decoder_laws.proofs.stream.Joined.{gaps_apart, noted_twice}

-- a count that is not 0
pub some_is : (n : ℕ) → (n ≡ 0 → ⊥) → n ≡ suc (n - 1)
some_is n h = omega (arith, h)

-- ## Two calls

module _ (a b s : SourceOver) (d e t : DecodingSeen) (f : Follows a b s d e t) where
  taken_twice : (xs ys : List ℕ) → Consumes a.left a.left_now xs → Consumes b.left b.left_now ys → Consumes s.left s.left_now (xs ++ ys)
  taken_twice xs ys x y =
      subst (λ o. Consumes o s.left_now (xs ++ ys)) (sym f.before)
      (subst (λ o. Consumes a.left o (xs ++ ys)) (sym f.after)
      (Consumes-trans a.left a.left_now b.left_now xs ys x (subst (λ o. Consumes o b.left_now ys) (sym f.middle) y)))

  logged_twice : (xs ys : List Item) → HasNoted xs d → HasNoted ys e → HasNoted (xs ++ ys) t
  logged_twice xs ys x y =
      f.log_now ∙ y ∙ ap (with_items ys) (sym f.log_middle ∙ x ∙ ap (with_items xs) (sym f.log)) ∙ noted_twice xs ys t.log

  pub took_both : (xs ys : List ℕ) (us vs : List Item) → TookOctets a d xs us → TookOctets b e ys vs → TookOctets s t (xs ++ ys) (us ++ vs)
  took_both xs ys us vs x y =
      let g = gaps_apart us vs in
      let i = x.steps in
      let j = y.steps in
      let k = f.steps in
      let l = f.steps_middle in
      let m = f.steps_now in
      record { left = taken_twice xs ys x.left y.left; logged = logged_twice us vs x.logged y.logged; steps = omega (arith, g, i, j, k, l, m) }

  stepped_both : (us vs : List Item) → d.steps_now ≡ d.steps + length (but_gaps us) → e.steps_now ≡ e.steps + length (but_gaps vs) → t.steps_now ≡ t.steps + length (but_gaps (us ++ vs))
  stepped_both us vs i j =
      let g = gaps_apart us vs in
      let k = f.steps in
      let l = f.steps_middle in
      let m = f.steps_now in
      omega (arith, g, i, j, k, l, m)

-- a state at the beginning of elements
abbrev opening : ℕ → ℕ → ℕ → State
opening run k at = record {
  pc = run;
  phase = begun;
  at = at;
  max = 0;
  max_at = None;
  tag = pos 0;
  carrier = prim.Byte;
  top = frame.Elements k run 1;
  stack = frame.Home ∷ [];
  nodes = (tree.Pipe, suc k) ∷ [];
  own = Some first.Other;
  members = [];
  firsts = [];
  fresh = [];
  cells = [];
  numbers = [];
}

no_cells : (m : Machine) → length (state_of m).cells ≡ 0 → m.builder.graph.cells ≡ []
no_cells m e = empty m.builder.graph.cells (sym (length-map m.builder.graph.cells (λ (c : Referent). c.of)) ∙ e)
  where
    empty : (cs : List Referent) → length cs ≡ 0 → cs ≡ []
    empty [] e = refl
    empty (c ∷ cs) e = cc

one_tree : (v : Tree) (ks : Trees) → v ≡ node tree.Pipe ks → flat (more v none) ≡ flat (more (node tree.Pipe (trees (items ks))) none)
one_tree v ks e = ap (λ u. flat (more u none)) (e ∙ ap (node tree.Pipe) (sym (trees-items ks)))

module _ (plan : Plan) (w : Setting) (legal : IsLegalSide w) (order : Order) (spot : Spot) (pipe : IsAtPipe w spot) (elem : TypeId) (run : ℕ)
    (by_plan : IsPipeBy plan w (type_of_root w spot.root) elem run)
    (m : Machine) (opened : IsOpened spot m) (a : SourceOver) (d : DecodingSeen) (n : Machine) (count : ℕ) (c : ChunkCounted order m n a d count) (k : ℕ) (some : count ≡ suc k) where
  abbrev g : List ℕ
  g = c.gap_octets

  abbrev os : List ℕ
  os = c.count_octets

  abbrev h : Home
  h = pipe_home spot

  abbrev pub own : ℕ
  own = type_of_root w spot.root

  abbrev pub target : List ℕ → Read
  target = part_target w order spot elem k

  abbrev pub f0 : List ℕ
  f0 = to_elements spot c.gap_octets c.count_octets

  abbrev pub n0 : List Item
  n0 = header_items order spot c.gap_octets c.count_octets

  gall : AreOctets c.gap_octets
  gall = of_gap_all w legal order spot pipe m opened a d n count c

  oall : AreOctets c.count_octets
  oall = of_count_all w legal order spot pipe m opened a d n count c

  gsize : length c.gap_octets ≡ gap spot.place 4
  gsize = gap_is w legal order spot pipe m opened a d n count c

  near : after_count spot ≤ STREAM_LIMIT
  near = counted_near w legal order spot pipe m opened a d n count c

  took0 : TookOctets a d (c.gap_octets ++ c.count_octets) n0
  took0 = took_header w legal order spot pipe m opened a d n count c

  planned : IsPlanned plan.code plan.values w.table
  planned = planned_is plan w by_plan.table

  fine : IsFine w.table 32 elem.0
  fine = elements_fine plan w by_plan.table own elem by_plan.there

  good : (x : State) → OpensPart (place_at w.table elem.0) k (after_count spot) x → Good order f0 plan.code w.table h own 33 n0 0 target x
  good x open_at =
      elements_begin w legal order spot pipe elem by_plan.there c.gap_octets c.count_octets gall gsize oall c.size near k (c.value ∙ some) plan.values plan.code planned fine x open_at

  cut_at : (fetched rest : List ℕ) → AreOctets fetched → AreOctets rest → (noted : List Item) (x : State) → Good order (f0 ++ fetched) plan.code w.table h own 33 (n0 ++ noted) 0 target x
      → PartCut w order spot ((c.gap_octets ++ c.count_octets) ++ (fetched ++ rest)) (n0 ++ noted) × (length x.cells ≡ 0)
  cut_at fetched rest all more_all noted x is =
      elements_cut w legal order spot pipe elem by_plan.there c.gap_octets c.count_octets gall gsize oall c.size near k (c.value ∙ some) plan.code fetched rest all more_all noted x is

  -- the elements were not begun
  pub begun_part : FilledPart w order spot a d
  begun_part =
      let x : State = opening (place_at w.table elem.0) k (after_count spot) in
      let open_at : OpensPart (place_at w.table elem.0) k (after_count spot) x =
      record {
        pc = refl;
        phase = refl;
        place = refl;
        max = refl;
        max_at = refl;
        top = refl;
        stack = refl;
        nodes = refl;
        own = refl;
        members = refl;
        firsts = refl;
        fresh = refl;
        cells = refl;
        numbers = refl;
      } in
      let there : Good order (f0 ++ []) plan.code w.table h own 33 (n0 ++ []) 0 target x =
      subst (λ z. Good order z plan.code w.table h own 33 (n0 ++ []) 0 target x) (sym (append-nil f0))
      (subst (λ z. Good order f0 plan.code w.table h own 33 z 0 target x) (sym (append-nil n0)) (good x open_at)) in
      let cut : PartCut w order spot ((c.gap_octets ++ c.count_octets) ++ ([] ++ [])) (n0 ++ []) = (cut_at [] [] tt tt [] x there).0 in
      record {
        octets = c.gap_octets ++ c.count_octets;
        noted = n0;
        cut = subst (λ z. PartCut w order spot z n0) (append-nil (c.gap_octets ++ c.count_octets)) (subst (PartCut w order spot ((c.gap_octets ++ c.count_octets) ++ [])) (append-nil n0) cut);
        took = took0;
      }

  -- ## Their beginning

  module _ (moved : HasMoved m n) (o : Machine) (begins : BeginsElements run (count - 1) (raised count n.builder.nodes) (state_of n) (state_of o))
      (built : o.builder ≡ with_nodes (raised count n.builder.nodes) n.builder) (at_home : o.home ≡ n.home) where
    less : count - 1 ≡ k
    less = omega (arith, some)

    as_many : 0 + count ≡ suc k
    as_many = omega (arith, some)

    opens : OpensPart (place_at w.table elem.0) k (after_count spot) (state_of o)
    opens = record {
      pc = begins.pc ∙ by_plan.run_is;
      phase = begins.phase;
      place = begins.at ∙ counted_at w legal order spot pipe m opened a d n count c;
      max = begins.max;
      max_at = begins.max_at ∙ moved.max_at ∙ opened.max_at;
      top = begins.top ∙ ap₂ (λ j r. frame.Elements j r 1) less by_plan.run_is;
      stack = begins.stack;
      nodes = begins.nodes_are ∙ ap (raised count) (ap (λ (x : Building). x.nodes) moved.builder ∙ opened.nodes) ∙ ap (λ j. (tree.Pipe, j) ∷ []) as_many;
      own = begins.own;
      members = begins.members;
      firsts = begins.firsts;
      fresh = begins.fresh;
      cells = begins.cells ∙ ap (λ (x : Building). map (λ (y : Referent). y.of) x.graph.cells) moved.builder ∙ ap (map (λ (y : Referent). y.of)) opened.cells;
      numbers = begins.numbers ∙ moved.referents ∙ opened.numbers;
    }

    pub at_root : o.home ≡ home.Root spot.root
    at_root = at_home ∙ moved.home ∙ opened.in_pipe

    g0 : Good order f0 plan.code w.table h own 33 n0 0 target (state_of o)
    g0 = good (state_of o) opens

    safe_here : (fetched : List ℕ) (noted : List Item) (y : State) → Reaches plan.values order plan.code h (state_of o) fetched noted y → IsSafe plan.code y
    safe_here =
        elements_safe w legal order spot pipe elem by_plan.there c.gap_octets c.count_octets gall gsize oall c.size near k (c.value ∙ some) plan.values plan.code planned fine (state_of o) opens

    pub chunk_safe : (fetched : List ℕ) (noted : List Item) (y : State) → Reaches plan.values order plan.code o.home (state_of o) fetched noted y → IsSafe plan.code y
    chunk_safe fetched noted y reached = safe_here fetched noted y (subst (λ u. Reaches plan.values order plan.code u (state_of o) fetched noted y) at_root reached)

    cells0 : length (state_of o).cells ≡ 0
    cells0 = ap length opens.cells

    module _ (b : SourceOver) (notes : NotesSeen) (s : SourceOver) (t : DecodingSeen) (f : Follows a b s d (decoding_of notes) t) where
      -- ## A fault

      abbrev Comes : Type 0
      Comes = End plan.values order plan.code h (state_of o) b

      all_of : (e : Comes) → AreOctets (e.fetched ++ e.os)
      all_of e = all_append (λ x. x < 256) e.fetched e.os (over_octets plan.values order plan.code h (state_of o) e.reached) e.octets

      needed_of : (e : Comes) → HasOctets (wants plan.values e.i e.s) e.os e.s.at ⊎ IsCut (wants plan.values e.i e.s) e.os e.s.at → AreNeeded target f0 (e.fetched ++ e.os)
      needed_of e has part last is =
          let x : IsShort target (f0 ++ part) =
          needed_then plan.values order plan.code w.table h own 33 0 target planned f0 n0 (state_of o) g0 e.fetched e.noted e.s e.reached e.i e.there e.os has
          (needed_along plan.values order plan.code w.table h own 33 0 target planned f0 n0 (state_of o) g0 e.reached) part last is in
          (x.0, x.1.0, x.1.1)

      took_of : (e : Comes) → length e.s.cells ≡ 0 → IsLoggedPart e.noted (state_of o) e.s notes → TookOctets s t ((c.gap_octets ++ c.count_octets) ++ (e.fetched ++ e.os)) (n0 ++ e.noted)
      took_of e clear (log, steps) =
          let i = ticks_are e.noted in
          let z = cells0 in
          let second : TookOctets b (decoding_of notes) (e.fetched ++ e.os) e.noted = record { left = e.left; logged = log ∙ noted_as e.noted notes.log; steps = omega (arith, i, z, clear, steps) } in
          took_both a b s d (decoding_of notes) t f (c.gap_octets ++ c.count_octets) (e.fetched ++ e.os) n0 e.noted took0 second

      part_of : (e : Comes) → IsLoggedPart e.noted (state_of o) e.s notes → FilledPart w order spot s t
      part_of e logged =
          let (cut, clear) =
          cut_at e.fetched e.os (over_octets plan.values order plan.code h (state_of o) e.reached) e.octets e.noted e.s
          (along plan.values order plan.code w.table h own 33 0 target planned f0 n0 (state_of o) g0 e.reached) in
          record { octets = (c.gap_octets ++ c.count_octets) ++ (e.fetched ++ e.os); noted = n0 ++ e.noted; cut = cut; took = took_of e clear logged }

      bad_of : (e : Comes) (place : ℕ) (why : Reason) → IsRefusedHere order (f0 ++ (e.fetched ++ e.os)) (n0 ++ e.noted) (length e.s.cells) 0 target place why → AreNeeded target f0 (e.fetched ++ e.os)
          → IsLogged e.noted (state_of o) e.s notes → (why ≡ reason.Truncated → b.ended_now ≡ true) → (why ≡ reason.Truncated → IsAtEnd b.left_now) → FilledBad w order spot s t place why
      bad_of e place why here needs (log, steps) ended at_end =
          let (part, clear) =
          elements_refused w legal order spot pipe elem by_plan.there c.gap_octets c.count_octets gall gsize oall c.size near k (c.value ∙ some) (e.fetched ++ e.os) (all_of e) e.noted
          (length e.s.cells) place why here needs in
          record {
            octets = (c.gap_octets ++ c.count_octets) ++ (e.fetched ++ e.os);
            noted = n0 ++ e.noted;
            refused = part;
            took = took_of e clear (log, omega (arith, steps));
            ended = λ u. f.ended ∙ ended u;
            none_left = λ u. subst IsAtEnd (sym f.after) (at_end u);
          }

      -- the source failed before all octets of a step came
      unread_of : (e : Comes) → IsCut (wants plan.values e.i e.s) e.os e.s.at → IsLogged e.noted (state_of o) e.s notes → FilledUnread w order spot s t
      unread_of e cut (log, steps) =
          let octets : List ℕ = (c.gap_octets ++ c.count_octets) ++ (e.fetched ++ e.os) in
          let (part, clear) =
          elements_refused w legal order spot pipe elem by_plan.there c.gap_octets c.count_octets gall gsize oall c.size near k (c.value ∙ some) (e.fetched ++ e.os) (all_of e) e.noted
          (length e.s.cells)
          (e.s.at + length e.os) reason.Truncated
          (cut_end plan.values order plan.code w.table h own 33 0 target planned f0 n0 (state_of o) g0 e.fetched e.noted e.s e.reached e.i e.there e.os cut) (needed_of e (inr cut)) in
          let place : e.s.at + length e.os ≡ length (f0 ++ (e.fetched ++ e.os)) = cut_place plan.values order plan.code w.table h own 33 0 target planned f0 n0 (state_of o) g0 b notes e cut in
          let x : length (f0 ++ (e.fetched ++ e.os)) ≡ length f0 + length (e.fetched ++ e.os) = length-append f0 (e.fetched ++ e.os) in
          let y : length f0 ≡ length (before_place spot) + length (c.gap_octets ++ c.count_octets) = length-append (before_place spot) (c.gap_octets ++ c.count_octets) in
          let z : length (before_place spot) ≡ spot.place = length-replicate spot.place 0 in
          let j : length octets ≡ length (c.gap_octets ++ c.count_octets) + length (e.fetched ++ e.os) = length-append (c.gap_octets ++ c.count_octets) (e.fetched ++ e.os) in
          let at_end : e.s.at + length e.os ≡ spot.place + length octets = omega (arith, place, x, y, z, j) in
          record {
            octets = octets;
            noted = n0 ++ e.noted;
            short = subst (λ q. PartRefused w order spot octets (n0 ++ e.noted) q reason.Truncated) at_end part;
            took = took_of e clear (log, omega (arith, steps));
          }

      abbrev IsOther : Reason → Type 0
      IsOther reason.Truncated = ⊥
      IsOther why = Unit {0}

      abbrev StepIsRefused : ℕ → Reason → Type 0
      StepIsRefused place why =
          (e : Comes) × (HasOctets (wants plan.values e.i e.s) e.os e.s.at × ((step plan.values order e.os e.i e.s ≡ refused place why) × IsLogged e.noted (state_of o) e.s notes))

      step_refused : (place : ℕ) (why : Reason) → IsOther why → StepIsRefused place why → FilledBad w order spot s t place why
      step_refused place why other (e, (has, (is, logged))) =
          bad_of e place why (refused_end plan.values order plan.code w.table h own 33 0 target planned f0 n0 (state_of o) g0 e.fetched e.noted e.s e.reached e.i e.there e.os has place why is)
          (needed_of e (inl has)) logged (λ u. absurd (subst IsOther u other)) (λ u. absurd (subst IsOther u other))

      bad_comes : (s1 : State) (place : ℕ) (why : Reason) → EndsBad plan.values order plan.code h (state_of o) b notes s1 place why → FilledBad w order spot s t place why
      bad_comes s1 place reason.TooLong (e, (long, (nothing, (is, logged)))) =
          let same : e.fetched ++ e.os ≡ e.fetched = ap (λ z. e.fetched ++ z) nothing ∙ append-nil e.fetched in
          let needs : AreNeeded target f0 e.fetched =
          λ part last u. let x : IsShort target (f0 ++ part) =
          needed_along plan.values order plan.code w.table h own 33 0 target planned f0 n0 (state_of o) g0 e.reached part last u in (x.0, x.1.0, x.1.1) in
          subst (λ z. FilledBad w order spot s t z reason.TooLong) (sym is)
          (bad_of e STREAM_LIMIT reason.TooLong
          (long_end plan.values order plan.code w.table h own 33 0 target planned f0 n0 (state_of o) g0 e.fetched e.noted e.s e.reached e.i e.there e.os long nothing)
          (subst (AreNeeded target f0) (sym same) needs) logged (λ u. not_cut u) (λ u. not_cut u))
      bad_comes s1 place reason.Truncated (e, (cut, (is, (ended, (at_end, logged))))) =
          subst (λ z. FilledBad w order spot s t z reason.Truncated) (sym is)
          (bad_of e (e.s.at + length e.os) reason.Truncated
          (cut_end plan.values order plan.code w.table h own 33 0 target planned f0 n0 (state_of o) g0 e.fetched e.noted e.s e.reached e.i e.there e.os cut)
          (needed_of e (inr cut)) logged (λ u. ended) (λ u. at_end))
      bad_comes s1 place reason.EnumValue x = step_refused place reason.EnumValue tt x
      bad_comes s1 place reason.PastBound x = step_refused place reason.PastBound tt x
      bad_comes s1 place reason.TextOffset x = step_refused place reason.TextOffset tt x
      bad_comes s1 place reason.TextEmpty x = step_refused place reason.TextEmpty tt x
      bad_comes s1 place reason.TextUnended x = step_refused place reason.TextUnended tt x
      bad_comes s1 place reason.TextZero x = step_refused place reason.TextZero tt x
      bad_comes s1 place reason.NoArm x = step_refused place reason.NoArm tt x
      bad_comes s1 place reason.OtherType x = step_refused place reason.OtherType tt x
      bad_comes s1 place (reason.Disagrees wanted found) x = step_refused place (reason.Disagrees wanted found) tt x

      fault_here : s.faults.now ≡ b.faults.now → s.faults.before ≤ b.faults.before → (s1 : State) (e : DecodeFault) → EndsFault plan.values order plan.code h (state_of o) b notes s1 e
          → FillsNot w order spot s t e
      fault_here same low s1 (fault.Bad place why) x = bad_comes s1 place why x
      fault_here same low s1 fault.ReadFault ((e, (cut, logged)), risen) =
          (subst (λ z. Rose s.faults.before z) (sym same) (rose_later s.faults.before b.faults.before b.faults.now low risen), unread_of e cut logged)
      fault_here same low s1 fault.Memory (e, logged) = part_of e logged

      pub fault_comes : s.faults.now ≡ b.faults.now → s.faults.before ≤ b.faults.before → (s1 : State) (e : DecodeFault) → EndsFault plan.values order plan.code o.home (state_of o) b notes s1 e
          → FillsNot w order spot s t e
      fault_comes same low s1 e x = fault_here same low s1 e (subst (λ u. EndsFault plan.values order plan.code u (state_of o) b notes s1 e) at_root x)

      -- ## The end

      module _ (z : Machine) (out : outside z ≡ outside o) (ends0 : EndsWhole plan.values order plan.code o.home (state_of o) b notes (state_of z)) where
        read : HomeWhole order w.table h own 0 target f0 n0 (length (state_of o).cells) b (decoding_of notes) (state_of z)
        read =
            whole_comes plan.values order plan.code w.table h own 33 0 target planned f0 n0 (state_of o) g0 b notes (state_of z) (λ later xs y reached. (safe_here later xs y reached).within)
            (subst (λ u. EndsWhole plan.values order plan.code u (state_of o) b notes (state_of z)) at_root ends0)

        whole : PartWhole w order spot ((c.gap_octets ++ c.count_octets) ++ read.octets) (items (kids_of read.is.v)) (n0 ++ read.items)
        whole =
            elements_whole w legal order spot pipe elem by_plan.there c.gap_octets c.count_octets gall gsize oall c.size near k (c.value ∙ some) read.octets read.all read.items (state_of z) read.is

        alone : (read.is.v ≡ node tree.Pipe (kids_of read.is.v)) × (length (items (kids_of read.is.v)) ≡ suc k) × (length (state_of z).cells ≡ 0)
        alone =
            elements_pipe w legal order spot pipe elem by_plan.there c.gap_octets c.count_octets gall gsize oall c.size near k (c.value ∙ some) read.octets read.all read.items (state_of z) read.is

        second_steps : (decoding_of notes).steps_now ≡ (decoding_of notes).steps + length (but_gaps read.items)
        second_steps =
            let j = read.took.steps in
            let i = cells0 in
            let l : length (state_of z).cells ≡ 0 = alone.2 in
            omega (arith, j, i, l)

        second : TookOctets b (decoding_of notes) read.octets read.items
        second = record { left = read.took.left; logged = read.took.logged; steps = (let j = second_steps in omega (arith, j)) }

        built_whole : HasElements (items (kids_of read.is.v)) z
        built_whole = record {
          open_home = ap (λ (x : Outside). x.open_home) out ∙ ap (λ (x : Building). x.home) built ∙ ap (λ (x : Building). x.home) moved.builder ∙ opened.open_home;
          roots = ap (λ (x : Outside). x.roots) out ∙ ap (λ (x : Building). x.graph.roots) built ∙ ap (λ (x : Building). x.graph.roots) moved.builder ∙ opened.roots;
          cells = no_cells z alone.2;
          nodes = read.is.nodes ∙ one_tree read.is.v (kids_of read.is.v) alone.0;
        }

        reached : z.at ≡ spot.place + length ((c.gap_octets ++ c.count_octets) ++ read.octets)
        reached =
            let all : length (f0 ++ read.octets) ≡ z.at = read.is.reached in
            let x : length (f0 ++ read.octets) ≡ length f0 + length read.octets = length-append f0 read.octets in
            let y : length f0 ≡ length (before_place spot) + length (c.gap_octets ++ c.count_octets) = length-append (before_place spot) (c.gap_octets ++ c.count_octets) in
            let i : length (before_place spot) ≡ spot.place = length-replicate spot.place 0 in
            let j : length ((c.gap_octets ++ c.count_octets) ++ read.octets) ≡ length (c.gap_octets ++ c.count_octets) + length read.octets =
            length-append (c.gap_octets ++ c.count_octets) read.octets in
            omega (arith, all, x, y, i, j)

        pub filled : FilledWhole w order spot s t z count
        filled = record {
          octets = (c.gap_octets ++ c.count_octets) ++ read.octets;
          elements = items (kids_of read.is.v);
          noted = n0 ++ read.items;
          whole = whole;
          took = took_both a b s d (decoding_of notes) t f (c.gap_octets ++ c.count_octets) read.octets n0 read.items took0 second;
          stepped = stepped_both a b s d (decoding_of notes) t f n0 read.items (header_stepped w legal order spot pipe m opened a d n count c) second_steps;
          as_many = alone.1 ∙ sym some;
          at = reached;
          built = built_whole;
        }
