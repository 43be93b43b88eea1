-- The gap and the count of a chunk, as the plain reader reads them.
-- `m` is the machine before, `n` the one after, `os` are the octets that came.
use Rattle.std.proofs.Common.{◌≡◌, ◌≤◌, ◌<◌, ℕ, ◌+◌, zero, suc, Bool, true, false, List, [], ◌∷◌, ◌++◌, length, map, pos, Option, Result, Ok, Err, IsErrAnd, ℤ, refl, ap, sym, ◌∙◌, subst}
use Rattle.std.proofs.Common.{length-append, arith}
use Rattle.std.specs.Prelude.{if◌then◌else◌}
use Rattle.std.specs.Io.KnownBytes.{Consumes, IsAtEnd}
use Rattle.std.proofs.lemmas.List.{append-nil, length-map}
use Rattle.nd_base.specs.declared.octets.Order.{Order}
use Rattle.nd_base.specs.declared.TheConstants.{STREAM_LIMIT}
use Rattle.nd_base.specs.Over.{SourceOver}
use Rattle.nd_types.specs.declared.types.TypeId.{TypeId}
use Rattle.nd_types.specs.Number.{AreOctets, unsigned}
use Rattle.nd_types.specs.Roots.{Root}
use Rattle.nd_value.specs.declared.item.Home.{Home}
use Rattle.nd_value.specs.declared.item.Home.TheVariants as home
use Rattle.nd_value.specs.declared.item.Item.{Item}
use Rattle.nd_value.specs.declared.item.ItemKind.TheVariants as item
use Rattle.nd_value.specs.Logged.{Logged, noted as noted_in}
use Rattle.nd_value.specs.Setting.{Setting}
use Rattle.nd_value.specs.Tree.{Tree, Trees, Referent}
use Rattle.nd_value.proofs.Apart.{all_append, all_left}
use Rattle.nd_grammar.specs.declared.reason.Reason.{Reason}
use Rattle.nd_grammar.specs.declared.reason.Reason.TheVariants as reason
use Rattle.nd_grammar.specs.Entry.{gap}
use Rattle.nd_grammar.specs.Items.{but_gaps, items}
use Rattle.nd_grammar.specs.Reader.{Names, Progress}
use Rattle.nd_grammar.specs.StreamReader.{read_stream}
use Rattle.ndr_decoder_laws.specs.reader.Around.{going, stopped}
use Rattle.ndr_decoder_state.specs.Notes.{all_noted}
use Rattle.ndr_decoder_state.specs.declared.fault.DecodeFault.{DecodeFault}
use Rattle.ndr_decoder_state.specs.declared.fault.DecodeFault.TheVariants as fault
use Rattle.ndr_decoder_state.specs.declared.machine.Machine.{Machine}
use Rattle.ndr_decoder_laws.specs.steps.StepItems.{gap_items, item_here}
use Rattle.ndr_decoder_laws.proofs.steps.Passing.{items_stay}
use Rattle.ndr_decoder_laws.specs.stream.Added.{Goes}
use Rattle.ndr_decoder_laws.specs.stream.Calls.{TookPart, Refused, CutOff, Unread}
use Rattle.ndr_decoder_laws.specs.stream.Report.{AreCells, StreamRefused, StreamCut, the_stream}
use Rattle.ndr_decoder_laws.proofs.stream.Needing.{NeededAfter, needed_more}
use Rattle.nd_grammar.specs.decoded.Needed.{IsNeeded}
use Rattle.ndr_decoder_laws.specs.verdict.CellsSeen.{CellsSeen}
use Rattle.nd_grammar.specs.decoded.Verdict.{DecodingSeen, direct_roots, with_items}
use Rattle.ndr_decoder_laws.specs.pipes.Pipes.{InPipe, Position, Rest, at_chunk, at_count, count_item, past_count, past_gap}
use Rattle.ndr_decoder_laws.proofs.pipes.PipeEntries.{gap_cut, gap_passes, chunk_goes}
use Rattle.ndr_decoder_laws.proofs.pipes.Counts.{count_long, count_cut, count_ends, count_goes_on, count_adds}
use Rattle.ndr_decoder_stream.specs.Chunks.{AfterCount, CountRead, Counts, FaultOf, GapRead, Gaps, HasMoved, IsAt}
use Rattle.ndr_decoder_stream.specs.Fetched.{CountBad, CountCame, GapBad, GapCame}

-- ## Logs

abbrev kept_in : Bool → List Item → Logged
kept_in b xs = record { keeps = b; items = xs }

pub none_noted : (g : Logged) → g ≡ with_items [] g
none_noted g = go g.keeps
  where
    go : (b : Bool) → kept_in b g.items ≡ kept_in b (if b then g.items ++ [] else g.items)
    go true = ap (kept_in true) (sym (append-nil g.items))
    go false = refl

pub one_noted : (x : Item) (g : Logged) → noted_in x g ≡ with_items (x ∷ []) g
one_noted x g = go g.keeps
  where
    go : (b : Bool) → noted_in x (kept_in b g.items) ≡ kept_in b (if b then g.items ++ x ∷ [] else g.items)
    go true = refl
    go false = refl

pub gap_noted : (h : Home) (at : ℕ) (os : List ℕ) (g : Logged) → all_noted (gap_items h at os) g ≡ with_items (gap_items h at os) g
gap_noted h at [] g = none_noted g
gap_noted h at (o ∷ os) g = one_noted (item_here h at item.Gap (length (o ∷ os)) (pos 0) 0) g

pub gap_counts : (h : Home) (at : ℕ) (os : List ℕ) → length (but_gaps (gap_items h at os)) ≡ 0
gap_counts h at [] = refl
gap_counts h at (o ∷ os) = refl

gap_within : (at : ℕ) → at ≤ STREAM_LIMIT → at + gap at 4 ≤ STREAM_LIMIT
gap_within at h = omega (arith, h)

pub faulty : {T : Type 0} (r : Result T DecodeFault) (e : DecodeFault) → IsErrAnd r (λ y. y ≡ e) → Err e ≡ r
faulty (Ok t) e h = absurd h
faulty (Err y) e h = ap Err (sym h)

abbrev IsNotCut : Reason → Type 0
IsNotCut reason.Truncated = ⊥
IsNotCut why = Unit {0}

module _ (w : Setting) (order : Order) (fetched : List ℕ) (noted : List Item) (direct : ℕ) (first : Names) (i : ℕ) (rs : List Root) (roots : List Tree) (elem : TypeId) (done : Trees)
    (max_at : Option ℕ) (k : Position)
    (few : direct ≤ length (direct_roots w)) (m : Machine) (here : IsAt i k m) (source : SourceOver) (t : DecodingSeen) where
  abbrev h : Home
  h = home.Root i

  same_cells : (n : Machine) → HasMoved m n → map (λ c. c.of) n.builder.graph.cells ≡ k.cells
  same_cells n v = ap (λ b. map (λ (c : Referent). c.of) b.graph.cells) v.builder ∙ here.cells

  cells_are : length k.cells ≡ m.cells
  cells_are =
      let x : length (map (λ (c : Referent). c.of) m.builder.graph.cells) ≡ length m.builder.graph.cells = length-map m.builder.graph.cells (λ (c : Referent). c.of) in
      sym (m.numbered ∙ sym x ∙ ap length here.cells)

  -- ## Faults

  module _ (due : ℕ) (rest : Rest) (p : InPipe w order fetched noted direct first i rs roots elem done max_at due rest k) (os : List ℕ) (all : AreOctets os)
      (left : Consumes source.left source.left_now os) (log : t.log_now ≡ t.log) (steps : t.steps_now ≡ t.steps) where
    both : AreOctets (fetched ++ os)
    both = all_append (λ b. b < 256) fetched os p.stands.octets all

    items_are : items order (fetched ++ os) k.seen ≡ noted ++ []
    items_are = items_stay order fetched os k.seen p.told.lie_within ∙ p.told.noted_are ∙ sym (append-nil noted)

    cells : AreCells w k.seen m.cells
    cells = record { d = direct; named = subst (λ c. CellsSeen k.seen c direct) cells_are p.told.cells_named.named; few = few }

    none_taken : TookPart source t m.cells os [] m.cells
    none_taken = record { left = left; logged = log ∙ none_noted t.log; steps = omega (arith, steps) }

    cut_here : ((later : List ℕ) → AreOctets later → Goes (going k.at k.seen) (read_stream w order (fetched ++ later)).progress) → CutOff the_stream w order fetched noted m.cells source t
    cut_here adds =
        let g : Goes (going k.at k.seen) (read_stream w order (fetched ++ os)).progress = adds os all in
        let c : StreamCut the_stream w order (fetched ++ os) (noted ++ []) m.cells = record { octets = both; seen = k.seen; after = g.added; passed = g.seen; items_are = items_are; cells = cells } in
        record { octets = os; items = []; n' = m.cells; cut = c; took = none_taken }

    refused_here : (place : ℕ) (why : Reason) → (read_stream w order (fetched ++ os)).progress ≡ stopped k.at k.seen (place, why) → IsNeeded w order (fetched ++ os)
        → (why ≡ reason.Truncated → source.ended_now ≡ true) → (why ≡ reason.Truncated → IsAtEnd source.left_now) → Refused the_stream w order fetched noted m.cells source t place why
    refused_here place why stop needed ended at_end =
        let c : StreamRefused the_stream w order (fetched ++ os) (noted ++ []) m.cells place why =
        record { octets = both; at = k.at; seen = k.seen; stops = stop; items_are = items_are; needed = needed; cells = cells } in
        record { octets = os; items = []; n' = m.cells; refused = c; took = none_taken; ended = ended; none_left = at_end }

    -- octets that are cut short, as all first parts of them
    abbrev AreCut : Type 0
    AreCut = (part : List ℕ) → AreOctets part → length part ≤ length os → (read_stream w order (fetched ++ part)).progress ≡ stopped k.at k.seen (length (fetched ++ part), reason.Truncated)

    short_so : AreCut → StreamRefused the_stream w order (fetched ++ os) (noted ++ []) m.cells (length (fetched ++ os)) reason.Truncated
    short_so cuts =
        let needed : NeededAfter w order fetched os =
        λ part last e.
        let l : length os ≡ length part + 1 = ap length e ∙ length-append part (last ∷ []) in
        ap (λ (u : Progress). u.stop) (cuts part (all_left (λ b. b < 256) part (last ∷ []) (subst AreOctets e all)) (omega (arith, l))) in
        record {
          octets = both;
          at = k.at;
          seen = k.seen;
          stops = cuts os all (omega arith);
          items_are = items_are;
          needed = needed_more w order fetched os p.stands.needed needed;
          cells = cells;
        }

    -- the source has ended there
    short_here : (place : ℕ) → AreCut → place ≡ m.at + length os → source.ended_now ≡ true → IsAtEnd source.left_now → Refused the_stream w order fetched noted m.cells source t place reason.Truncated
    short_here place cuts there ended at_end =
        let size : length (fetched ++ os) ≡ length fetched + length os = length-append fetched os in
        let reached : length fetched ≡ k.at = p.stands.reached in
        let at : m.at ≡ k.at = here.at in
        let same : length (fetched ++ os) ≡ place = omega (arith, size, reached, at, there) in
        record {
          octets = os;
          items = [];
          n' = m.cells;
          refused = subst (λ z. StreamRefused the_stream w order (fetched ++ os) (noted ++ []) m.cells z reason.Truncated) same (short_so cuts);
          took = none_taken;
          ended = λ u. ended;
          none_left = λ u. at_end;
        }

    -- it failed there
    unread_here : AreCut → Unread the_stream w order fetched noted m.cells source t
    unread_here cuts = record { octets = os; items = []; n' = m.cells; short = short_so cuts; took = none_taken }

  -- ## The gap

  module _ (p : InPipe w order fetched noted direct first i rs roots elem done max_at 4 (at_chunk w order i elem done k) k) (os : List ℕ) (all : AreOctets os)
      (left : Consumes source.left source.left_now os) where
    abbrev rest_of_chunk : Rest
    rest_of_chunk = at_chunk w order i elem done k

    pub gap_memory : t.log_now ≡ t.log → t.steps_now ≡ t.steps → CutOff the_stream w order fetched noted m.cells source t
    gap_memory log steps =
        cut_here 4 rest_of_chunk p os all left log steps (λ later a. chunk_goes w order fetched noted direct first i rs roots elem done max_at k p later a)

    gap_cuts : length os < gap m.at 4 → (part : List ℕ) → AreOctets part → length part ≤ length os
        → (read_stream w order (fetched ++ part)).progress ≡ stopped k.at k.seen (length (fetched ++ part), reason.Truncated)
    gap_cuts less part a l =
        let fewer : length os < gap k.at 4 = subst (λ z. length os < gap z 4) here.at less in
        gap_cut w order fetched noted direct first i rs roots elem done max_at k p part a (omega (arith, l, fewer))

    gap_bad : t.log_now ≡ t.log → t.steps_now ≡ t.steps → (place : ℕ) (why : Reason) → GapBad m.at source os place why → Refused the_stream w order fetched noted m.cells source t place why
    gap_bad log steps place reason.Truncated (less, there, ended, at_end) =
        short_here 4 rest_of_chunk p os all left log steps place (gap_cuts less) there ended at_end
    gap_bad log steps place reason.TooLong x = absurd x
    gap_bad log steps place reason.EnumValue x = absurd x
    gap_bad log steps place reason.PastBound x = absurd x
    gap_bad log steps place reason.TextOffset x = absurd x
    gap_bad log steps place reason.TextEmpty x = absurd x
    gap_bad log steps place reason.TextUnended x = absurd x
    gap_bad log steps place reason.TextZero x = absurd x
    gap_bad log steps place reason.NoArm x = absurd x
    gap_bad log steps place reason.OtherType x = absurd x
    gap_bad log steps place (reason.Disagrees wanted found) x = absurd x

    pub gap_fault : t.log_now ≡ t.log → t.steps_now ≡ t.steps → (e : DecodeFault) → GapCame m.at source os (Err e) → FaultOf w order fetched noted m.cells source t e
    gap_fault log steps (fault.Bad place why) x = gap_bad log steps place why x
    gap_fault log steps fault.ReadFault (less, risen) = (unread_here 4 rest_of_chunk p os all left log steps (gap_cuts less), risen)
    gap_fault log steps fault.Memory x = gap_memory log steps

    pub gap_stops : t.log_now ≡ t.log → t.steps_now ≡ t.steps → (e : DecodeFault) → GapCame m.at source os (Err e) → (n : Machine) (r : Result (Unit {0}) DecodeFault) → IsErrAnd r (λ y. y ≡ e)
        → Gaps w order fetched noted direct first i rs roots elem done max_at m.cells source t n r
    gap_stops log steps e x n r is =
        subst (λ z. Gaps w order fetched noted direct first i rs roots elem done max_at m.cells source t n z) (faulty r e is) (gap_fault log steps e x)

    pub gap_gives_up : t.log_now ≡ t.log → t.steps_now ≡ t.steps → (e : DecodeFault) → e ≡ fault.Memory → (n : Machine) (r : Result (Unit {0}) DecodeFault) → IsErrAnd r (λ y. y ≡ e)
        → Gaps w order fetched noted direct first i rs roots elem done max_at m.cells source t n r
    gap_gives_up log steps e memory n r is =
        subst (λ z. Gaps w order fetched noted direct first i rs roots elem done max_at m.cells source t n z) (ap Err (sym memory) ∙ faulty r e is) (gap_memory log steps)

    pub gap_read : length os ≡ gap m.at 4 → t.log_now ≡ all_noted (gap_items m.home m.at os) t.log → t.steps_now ≡ t.steps → (n : Machine) → HasMoved m n → n.at ≡ m.at + length os
        → GapRead w order fetched noted direct first i rs roots elem done max_at m.cells source t n
    gap_read size log steps n v at =
        let size_is : length os ≡ gap k.at 4 = subst (λ z. length os ≡ gap z 4) here.at size in
        let before : m.at ≡ k.at = here.at in
        let near : k.at + gap k.at 4 ≤ STREAM_LIMIT = gap_within k.at here.within in
        let logged : t.log_now ≡ all_noted (gap_items h k.at os) t.log =
        subst (λ z. t.log_now ≡ all_noted (gap_items z k.at os) t.log) here.home (subst (λ z. t.log_now ≡ all_noted (gap_items m.home z os) t.log) here.at log) in
        let none : length (but_gaps (gap_items h k.at os)) ≡ 0 = gap_counts h k.at os in
        let new_at : n.at ≡ k.at + length os = omega (arith, at, before) in
        let new_near : k.at + length os ≤ STREAM_LIMIT = omega (arith, near, size_is) in
        record {
          octets = os;
          items = gap_items h k.at os;
          k = past_gap i os k;
          in_pipe = gap_passes w order fetched noted direct first i rs roots elem done max_at k p os all size_is;
          is_at = record { home = v.home ∙ here.home; at = new_at; cells = same_cells n v; numbers = v.referents ∙ here.numbers; within = new_near };
          took = record { left = left; logged = logged ∙ gap_noted h k.at os t.log; steps = omega (arith, steps, none) };
        }

  -- ## The count

  module _ (p : InPipe w order fetched noted direct first i rs roots elem done max_at 4 (at_count w order i elem done k) k) (os : List ℕ) (all : AreOctets os)
      (left : Consumes source.left source.left_now os) where
    abbrev rest_of_count : Rest
    rest_of_count = at_count w order i elem done k

    pub count_memory : t.log_now ≡ t.log → t.steps_now ≡ t.steps → CutOff the_stream w order fetched noted m.cells source t
    count_memory log steps =
        cut_here 4 rest_of_count p os all left log steps (λ later a. count_adds w order fetched noted direct first i rs roots elem done max_at k p later a)

    count_cuts : m.at + 4 ≤ STREAM_LIMIT → length os < 4 → (part : List ℕ) → AreOctets part → length part ≤ length os
        → (read_stream w order (fetched ++ part)).progress ≡ stopped k.at k.seen (length (fetched ++ part), reason.Truncated)
    count_cuts short less part a l =
        count_cut w order fetched noted direct first i rs roots elem done max_at k p part a (omega (arith, l, less)) (subst (λ z. z + 4 ≤ STREAM_LIMIT) here.at short)

    count_bad : t.log_now ≡ t.log → t.steps_now ≡ t.steps → (place : ℕ) (why : Reason) → CountBad m.at source os place why → Refused the_stream w order fetched noted m.cells source t place why
    count_bad log steps place reason.TooLong (long, none, there) =
        let past : STREAM_LIMIT < k.at + 4 = subst (λ z. STREAM_LIMIT < z + 4) here.at long in
        let stop : (read_stream w order (fetched ++ os)).progress ≡ stopped k.at k.seen (STREAM_LIMIT, reason.TooLong) =
        count_long w order fetched noted direct first i rs roots elem done max_at k p past os all in
        let same : fetched ≡ fetched ++ os = sym (ap (λ z. fetched ++ z) none ∙ append-nil fetched) in
        subst (λ z. Refused the_stream w order fetched noted m.cells source t z reason.TooLong) (sym there)
        (refused_here 4 rest_of_count p os all left log steps STREAM_LIMIT reason.TooLong stop (subst (λ z. IsNeeded w order z) same p.stands.needed)
        (λ u. absurd (subst IsNotCut u tt)) (λ u. absurd (subst IsNotCut u tt)))
    count_bad log steps place reason.Truncated (short, (less, there, ended, at_end)) =
        short_here 4 rest_of_count p os all left log steps place (count_cuts short less) there ended at_end
    count_bad log steps place reason.EnumValue x = absurd x
    count_bad log steps place reason.PastBound x = absurd x
    count_bad log steps place reason.TextOffset x = absurd x
    count_bad log steps place reason.TextEmpty x = absurd x
    count_bad log steps place reason.TextUnended x = absurd x
    count_bad log steps place reason.TextZero x = absurd x
    count_bad log steps place reason.NoArm x = absurd x
    count_bad log steps place reason.OtherType x = absurd x
    count_bad log steps place (reason.Disagrees wanted found) x = absurd x

    pub count_fault : t.log_now ≡ t.log → t.steps_now ≡ t.steps → (e : DecodeFault) → CountCame m.at source os (Err e) → FaultOf w order fetched noted m.cells source t e
    count_fault log steps (fault.Bad place why) x = count_bad log steps place why x
    count_fault log steps fault.ReadFault (short, less, risen) = (unread_here 4 rest_of_count p os all left log steps (count_cuts short less), risen)
    count_fault log steps fault.Memory x = count_memory log steps

    pub count_stops : t.log_now ≡ t.log → t.steps_now ≡ t.steps → (e : DecodeFault) → CountCame m.at source os (Err e) → (n : Machine) (r : Result ℕ DecodeFault) → IsErrAnd r (λ y. y ≡ e)
        → Counts w order fetched noted direct first i rs roots elem done max_at m.cells source t n r
    count_stops log steps e x n r is =
        subst (λ z. Counts w order fetched noted direct first i rs roots elem done max_at m.cells source t n z) (faulty r e is) (count_fault log steps e x)

    pub count_gives_up : t.log_now ≡ t.log → t.steps_now ≡ t.steps → (n : Machine) (r : Result ℕ DecodeFault) → IsErrAnd r (λ y. y ≡ fault.Memory)
        → Counts w order fetched noted direct first i rs roots elem done max_at m.cells source t n r
    count_gives_up log steps n r is =
        subst (λ z. Counts w order fetched noted direct first i rs roots elem done max_at m.cells source t n z) (faulty r fault.Memory is) (count_memory log steps)

    module _ (size : length os ≡ 4) (near : m.at + 4 ≤ STREAM_LIMIT) where
      near_is : k.at + 4 ≤ STREAM_LIMIT
      near_is = subst (λ z. z + 4 ≤ STREAM_LIMIT) here.at near

      after_count : (c : ℕ) → unsigned order os ≡ c → AfterCount w order (fetched ++ os) (noted ++ count_item order i os k) direct first i rs roots elem done max_at (past_count order i os k) c
      after_count zero e = count_ends w order fetched noted direct first i rs roots elem done max_at k p os all size near_is e
      after_count (suc c) e = count_goes_on w order fetched noted direct first i rs roots elem done max_at k p os all size near_is c e

      pub count_read : (c : ℕ) → unsigned order os ≡ c → (v : ℤ) → v ≡ pos c → t.log_now ≡ noted_in (item_here m.home m.at item.Chunk 4 v 0) t.log → t.steps_now ≡ t.steps + 1 → (n : Machine)
          → HasMoved m n → n.at ≡ m.at + 4
          → CountRead w order fetched noted direct first i rs roots elem done max_at m.cells source t n c
      count_read c is z value log steps n v at =
          let before : m.at ≡ k.at = here.at in
          let there : item_here m.home m.at item.Chunk 4 z 0 ≡ item_here h k.at item.Chunk 4 (pos (unsigned order os)) 0 =
          ap (λ y. item_here y m.at item.Chunk 4 z 0) here.home ∙ ap (λ y. item_here h y item.Chunk 4 z 0) here.at
          ∙ ap (λ y. item_here h k.at item.Chunk 4 y 0) (value ∙ ap pos (sym is)) in
          let logged : t.log_now ≡ with_items (count_item order i os k) t.log =
          log ∙ ap (λ y. noted_in y t.log) there ∙ one_noted (item_here h k.at item.Chunk 4 (pos (unsigned order os)) 0) t.log in
          record {
            octets = os;
            items = count_item order i os k;
            k = past_count order i os k;
            after = after_count c is;
            is_at = record { home = v.home ∙ here.home; at = omega (arith, at, before); cells = same_cells n v; numbers = v.referents ∙ here.numbers; within = near_is };
            took = record { left = left; logged = logged; steps = omega (arith, steps) };
          }
