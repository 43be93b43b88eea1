-- The next root, which is a reference pointer: what a call for its referent comes to, which is read in its place.
-- `x` is what is kept of the stream before it, `to` the type of the referent and `run` the run of its code, `c` its cell, `s1` the stream when its home is open,
-- `s2` after its value, `s3` after it was kept; `k` is how many steps were counted before.
use Rattle.std.proofs.Common.{◌≡◌, ◌≤◌, ◌<◌, ℕ, ◌+◌, ◌-◌, ◌*◌, ◌^◌, zero, suc, Bool, List, [], ◌∷◌, ◌++◌, length, map, Option, Some, None, Result, Ok, Err, IsErrAnd, OnOk, IfErr, refl, ap, sym, ◌∙◌}
use Rattle.std.proofs.Common.{subst, arith, length-append}
use Rattle.std.specs.Prelude.{slice_get}
use Rattle.std.proofs.lemmas.List.{append-nil, length-map}
use Rattle.nd_base.specs.declared.octets.Order.{Order}
use Rattle.nd_base.specs.declared.TheConstants.{STREAM_LIMIT}
use Rattle.nd_base.specs.Over.{Count, SourceOver}
use Rattle.nd_types.specs.declared.types.Class.TheVariants.{Ref}
use Rattle.nd_types.specs.declared.types.TypeDef.TheVariants as def
use Rattle.nd_types.specs.declared.types.TypeId.{TypeId}
use Rattle.nd_types.specs.Number.{AreOctets}
use Rattle.nd_types.specs.Roots.{Root}
use Rattle.nd_types.specs.Table.{type_at}
use Rattle.nd_value.specs.declared.item.Home.{Home}
use Rattle.nd_value.specs.declared.item.Home.TheVariants as home
use Rattle.nd_value.specs.declared.item.Item.{Item}
use Rattle.nd_value.specs.declared.value.CellId.{CellId}
use Rattle.nd_value.specs.declared.value.Graph.{Graph}
use Rattle.nd_value.specs.Deferral.{Pending}
use Rattle.nd_value.specs.Logged.{Logged}
use Rattle.nd_value.specs.Seen.{cell_number}
use Rattle.nd_value.specs.Setting.{Setting, root_list, cell_at, cell_home, unread}
use Rattle.nd_value.specs.Tree.{Tree, Referent}
use Rattle.nd_value.proofs.Apart.{all_append}
use Rattle.nd_flat.specs.Building.{Building, CanClose, closed, opened}
use Rattle.nd_grammar.specs.Entry.{EntryAt}
use Rattle.nd_grammar.specs.LegalSide.{IsLegalSide}
use Rattle.nd_grammar.specs.Reader.{Names, Read, with_cell}
use Rattle.nd_grammar.specs.StreamReader.{Reading}
use Rattle.nd_grammar.proofs.reader.ReaderNames.{Extends, longer}
use Rattle.nd_grammar.proofs.reader.ReaderStates.{WholeRead, read_wholly}
use Rattle.ndr_code.specs.declared.instr.Instr.TheVariants as op
use Rattle.ndr_code.specs.declared.plan.Plan.{Plan}
use Rattle.ndr_code.specs.Code.{root_by, whole_at}
use Rattle.ndr_decoder_value.specs.Reaching.{EndsFault, EndsWhole}
use Rattle.ndr_decoder_laws.specs.reader.Around.{going}
use Rattle.ndr_decoder_laws.specs.runs.Reaching.{IsSafe, Reaches}
use Rattle.ndr_decoder_state.specs.Notes.{NotesSeen}
use Rattle.ndr_decoder_state.specs.Seen.{outside, state_of}
use Rattle.ndr_decoder_state.specs.declared.fault.DecodeFault.{DecodeFault}
use Rattle.ndr_decoder_state.specs.declared.fault.DecodeFault.TheVariants as fault
use Rattle.ndr_decoder_state.specs.declared.machine.Machine.{Machine}
use Rattle.ndr_decoder_laws.specs.steps.Good.{Told}
use Rattle.ndr_decoder_laws.specs.steps.Steps as steps
use Rattle.ndr_decoder_laws.specs.steps.Steps.{State}
use Rattle.ndr_decoder_laws.specs.declared.kept.Kept.{Kept}
use Rattle.ndr_decoder_laws.specs.declared.kept.KeptRoot.{KeptRoot}
use Rattle.ndr_decoder_laws.specs.stream.Added.{Goes}
use Rattle.ndr_decoder_laws.specs.stream.Between.{Agrees, Between, CellFilled, CellKept, Opens, cell_read, home_target, kept_at, with_pointer}
use Rattle.ndr_decoder_laws.specs.stream.Calls.{CutOff, Took, TookPart}
use Rattle.ndr_decoder_laws.specs.stream.Parameters.{head_read}
use Rattle.ndr_decoder_laws.specs.stream.Report.{AreCells, StreamCut, the_head}
use Rattle.ndr_decoder_laws.proofs.stream.Cells.{told_reference}
use Rattle.ndr_decoder_laws.proofs.stream.DirectEnds.{its_usable, direct_goes}
use Rattle.ndr_decoder_laws.proofs.stream.DirectEnds as law
use Rattle.ndr_decoder_laws.proofs.stream.FewReferences.{few_next}
use Rattle.ndr_decoder_laws.proofs.stream.Graphs.{values_stay}
use Rattle.ndr_decoder_laws.proofs.stream.HomeFaults.{home_cut}
use Rattle.ndr_decoder_laws.proofs.stream.StreamGrows.{head_goes}
use Rattle.ndr_decoder_stream.specs.Ends.{HomeRan, with_reference}
use Rattle.ndr_decoder_stream.specs.Seen.{KeepsAll, ReferenceEnds, between_of}
use Rattle.ndr_decoder_stream.specs.declared.stream.Stream.{Stream}
use Rattle.ndr_decoder_stream.proofs.GraphEnds.{cell_ends}
use Rattle.nd_grammar.specs.decoded.Verdict.{DecodingSeen, direct_roots, is_direct}
use Rattle.ndr_decode.specs.Streaming.{FaultOf, HomeWhole, Reads, Stands, WentOn, cells_of, purpose_of}
use Rattle.ndr_decode.proofs.AtRoots.{code_is, direct_is, direct_placed_safe, legal_is, planned_is}
use Rattle.ndr_decode.proofs.Counted.{fault_counted, with_steps}
use Rattle.ndr_decode.proofs.DirectReads.{direct_fault, read}
use Rattle.ndr_decode.proofs.Handed.{memory_fault, reads_fault}
use Rattle.ndr_decode.proofs.HomeComes.{decoding_of}
use Rattle.ndr_decode.proofs.PaidHomes.{paid_between, roots_within}
use Rattle.ndr_decode.proofs.Placed.{can_close, kept_of, ran, same_pending, types_length}
use Rattle.ndr_decode.proofs.SamePurpose.{same_purpose}
use Rattle.ndr_decode.proofs.Standing.{idle_log, idle_source, took_nothing}

-- what the graph is for stays as it is
pub reference_purpose : (x s1 s2 s3 : Stream) (h : Home) (g : Graph) (c : CellId) → s1.machine.builder ≡ opened h g x.machine.builder → outside s2.machine ≡ outside s1.machine
    → (result : Result (Unit {0}) DecodeFault) → OnOk result (ReferenceEnds c s2 s3) → OnOk result (purpose_of s3 ≡ purpose_of x)
reference_purpose x s1 s2 s3 h g c opens out (Ok u) ends = same_purpose h g x.machine.builder s3.machine.builder s1.machine s2.machine opens out ends.cleared.builder
reference_purpose x s1 s2 s3 h g c opens out (Err e) ends = tt

-- a cell more has its number
pub few_cells : (w : Setting) (side : IsLegalSide w) (order : Order) (fetched : List ℕ) (noted : List Item) (direct : ℕ) (x : Stream) (s : Reading) (seen : List EntryAt) (ps : List Pending) (n : ℕ)
    → Stands w side order fetched noted direct x s seen ps n → length x.machine.builder.graph.cells < 2 ^ 32 - 1
few_cells w side order fetched noted direct x s seen ps n st =
    let paid : 4 * length (between_of x).cells ≤ x.machine.at + 4 * length s.roots = paid_between w side order fetched noted direct (between_of x) s seen ps n st.agrees in
    let roots = roots_within w side order fetched noted direct (between_of x) s seen ps n st.agrees in
    let within = st.within in
    let cells = types_length x.machine.builder in
    omega (arith, paid, roots, within, cells)

-- a cell that is not read changes no value
one_cell : (to : ℕ) (s : Names) → Extends s (with_cell to s)
one_cell to s = record { new = record { of = to; val = unread } ∷ []; cells = refl; blank = (refl, tt); more_numbers = []; numbers = refl; of_new = tt }

same_value : (g : Graph) (c to d : ℕ) → cell_at (with_reference c to g) d ≡ cell_at g d
same_value g c to zero = refl
same_value g c to (suc i) = let names : Names = record { cells = g.cells; numbers = [] } in values_stay names (with_cell to names) (one_cell to names) i

-- what is kept after a cell, where the pending referents are the same
same_cell : (b c : Between) (m : State) (roots roots' : List KeptRoot) (kept : List (Option Kept)) (g : Graph) → b.pending ≡ c.pending → roots ≡ roots'
    → cell_read b m roots kept g ≡ cell_read c m roots' kept g
same_cell b c m roots roots' kept g p r =
    ap (λ (u : List steps.Owed). record { at = m.at; pending = m.fresh ++ u; cells = m.cells; numbers = m.numbers; roots = roots; read = kept; graph = g }) p
    ∙ ap (λ (u : List KeptRoot). record { at = m.at; pending = m.fresh ++ c.pending; cells = m.cells; numbers = m.numbers; roots = u; read = kept; graph = g }) r

module _ (plan : Plan) (order : Order) (to : TypeId) (run : ℕ) (x : Stream) (w : Setting) (side : IsLegalSide w) (fetched : List ℕ) (noted : List Item) (direct : ℕ) (s : Reading)
    (seen : List EntryAt) (n : ℕ)
    (table : w.table ≡ plan.tie.types) (st : Stands w side order fetched noted direct x s seen [] (suc n)) (r : Root) (there : slice_get (root_list w) (length s.roots) ≡ Some r)
    (instr : op.Direct to run ≡ root_by w.table r.of (type_at w.table r.of)) where
  refers : type_at w.table r.of ≡ Some (def.Pointer Ref to)
  refers = (direct_is w.table r.of to run (type_at w.table r.of) instr).0

  few : direct + 1 ≤ length (direct_roots w)
  few = few_next w side order fetched noted direct (between_of x) s seen [] (suc n) st.agrees r there (ap is_direct refers)

  one_more : length ((between_of x).cells ++ to.0 ∷ []) ≡ cells_of x + 1
  one_more = length-append (between_of x).cells (to.0 ∷ []) ∙ ap (λ (k : ℕ). k + 1) (types_length x.machine.builder)

  -- nothing was kept of the cell that has the next number
  pub direct_unread : (k : ℕ) → k ≡ length x.machine.builder.graph.cells + 1 → kept_at x.cells.items k ≡ None
  direct_unread k is =
      let told = st.agrees.keeps.told (home.Root (length s.roots)) (omega arith) in
      let many : length s.names.cells ≡ length x.machine.builder.graph.cells =
      sym (length-map s.names.cells (λ (c : Referent). c.of)) ∙ sym (ap length told.cells_are) ∙ length-map x.machine.builder.graph.cells (λ (c : Referent). c.of) in
      let same : k ≡ length s.names.cells + 1 = omega (arith, is, many) in
      subst (λ (j : ℕ). kept_at x.cells.items j ≡ None) (sym same)
      (st.agrees.keeps.not_read (length s.names.cells + 1) (law.free w side order fetched noted direct (between_of x) s seen n st.agrees r there to refers))

  -- the cell has its number, and nothing of its value was read
  cut_begun : StreamCut the_head w order fetched noted (length ((between_of x).cells ++ to.0 ∷ []))
  cut_begun =
      let b : Between = between_of x in
      let h : Home = home.Root (length s.roots) in
      let grows : Goes s.progress (head_read w order (fetched ++ [])) = head_goes w order fetched s st.agrees.reached [] tt in
      let told : Told noted (direct + 1) order fetched (home.Root (length s.roots)) seen (with_cell to.0 s.names) ((between_of x).cells ++ to.0 ∷ []) (between_of x).numbers None 0 [] =
      told_reference order fetched h seen s.names b.cells b.numbers None 0 [] to.0 (st.agrees.keeps.told h (omega arith)) in
      let cells : AreCells w seen (length ((between_of x).cells ++ to.0 ∷ [])) = record { d = direct + 1; named = told.cells_named.named; few = few } in
      record {
        octets = st.agrees.octets;
        seen = seen;
        after = grows.added;
        passed = subst (λ (f : List ℕ). (head_read w order f).seen ≡ seen ++ grows.added) (append-nil fetched)
            (grows.seen ∙ ap (λ q. q.seen ++ grows.added) st.agrees.progress);
        items_are = told.noted_are;
        cells = cells;
      }

  -- memory fails before its home is open; the cell may be counted
  pub direct_unopened : (o : Option (List ℕ)) (ended : Bool) (faults : Count) (g : Logged) (k k' : ℕ) (y : Stream) (e : DecodeFault) (result : Result (Unit {0}) DecodeFault)
      → k' ≤ k + 1 → e ≡ fault.Memory → IsErrAnd result (λ z. z ≡ e)
      → Reads w side order fetched noted (cells_of x) n (idle_source o ended faults) (record { log = g; log_now = g; steps = k; steps_now = k' }) y result
  direct_unopened o ended faults g k k' y e result one memory is =
      let t : DecodingSeen = record { log = g; log_now = g; steps = k; steps_now = k' } in
      let m = one_more in
      let nothing : Took (idle_source o ended faults) (idle_log g k) (cells_of x) [] [] (cells_of x) = took_nothing o ended faults g k (cells_of x) in
      let part : TookPart (idle_source o ended faults) t (cells_of x) [] [] (length ((between_of x).cells ++ to.0 ∷ [])) =
      record { left = nothing.left; logged = nothing.logged; steps = omega (arith, one, m) } in
      reads_fault w side order fetched noted (cells_of x) n (idle_source o ended faults) t y result e is
      (memory_fault w order fetched noted (cells_of x) (idle_source o ended faults) t e memory
      (record {
        octets = [];
        items = [];
        n' = length ((between_of x).cells ++ to.0 ∷ []);
        cut = subst (λ (f : List ℕ). StreamCut the_head w order f (noted ++ []) (length ((between_of x).cells ++ to.0 ∷ []))) (sym (append-nil fetched))
            (subst (λ (i : List Item). StreamCut the_head w order fetched i (length ((between_of x).cells ++ to.0 ∷ []))) (sym (append-nil noted)) cut_begun);
        took = part;
      }))

  abbrev target : List ℕ → Read
  target = home_target w order (between_of x) seen (cell_home (length s.names.cells + 1)) to.0 (with_cell to.0 s.names)

  -- the number of its cell
  many : length s.names.cells ≡ cells_of x
  many =
      let told = st.agrees.keeps.told (home.Root (length s.roots)) (omega arith) in
      sym (length-map s.names.cells (λ c. c.of)) ∙ sym (ap length told.cells_are) ∙ types_length x.machine.builder

  module _ (s1 : Stream) (opens : Opens run (between_of x) ((between_of x).cells ++ to.0 ∷ []) (state_of s1.machine)) (c : CellId) (next : c.0 ≡ cells_of x + 1)
      (home_is : s1.machine.home ≡ cell_home c.0) where
    at_whole : Opens (whole_at w.table to.0) (between_of x) ((between_of x).cells ++ to.0 ∷ []) (state_of s1.machine)
    at_whole =
        subst (λ (k : ℕ). Opens k (between_of x) ((between_of x).cells ++ to.0 ∷ []) (state_of s1.machine)) (direct_is w.table r.of to run (type_at w.table r.of) instr).1 opens

    pub its_number : c.0 ≡ length s.names.cells + 1
    its_number = next ∙ ap (λ (k : ℕ). k + 1) (sym many)

    pub at_home : s1.machine.home ≡ cell_home (length s.names.cells + 1)
    at_home = home_is ∙ ap (λ (k : ℕ). cell_home k) its_number

    so_many : length (state_of s1.machine).cells ≡ cells_of x + 1
    so_many = ap length opens.cells ∙ one_more

    -- each state that is reached in its value is safe
    pub direct_states : (added : List ℕ) (items : List Item) (y : State) → Reaches plan.values order plan.code s1.machine.home (state_of s1.machine) added items y → IsSafe plan.code y
    direct_states = direct_placed_safe plan w table side order fetched noted direct x s seen n st r there to run s1.machine instr opens at_home

    within : (added : List ℕ) (items : List Item) (y : State) → Reaches plan.values order plan.code (cell_home (length s.names.cells + 1)) (state_of s1.machine) added items y
        → y.at ≤ STREAM_LIMIT
    within added items y reached =
        let safe : IsSafe plan.code y =
        direct_states added items y (subst (λ (h : Home). Reaches plan.values order plan.code h (state_of s1.machine) added items y) (sym at_home) reached) in
        safe.within

    -- a fault within its value
    pub direct_stops : (source : SourceOver) (notes : NotesSeen) (k : ℕ) (x1 : State) (y : Stream) (e : DecodeFault) (result : Result (Unit {0}) DecodeFault) → notes.steps ≡ k + 1
        → EndsFault plan.values order plan.code s1.machine.home (state_of s1.machine) source notes x1 e → IsErrAnd result (λ z. z ≡ e)
        → Reads w side order fetched noted (cells_of x) n source (with_steps k (decoding_of notes)) y result
    direct_stops source notes k x1 y e result one ends is =
        reads_fault w side order fetched noted (cells_of x) n source (with_steps k (decoding_of notes)) y result e is
        (fault_counted w order fetched noted source (decoding_of notes) k (cells_of x) one e
        (subst (λ (m : ℕ). FaultOf the_head w order fetched noted m source (decoding_of notes) e) so_many
        (direct_fault w side order fetched noted direct (between_of x) s seen n st.agrees r there to refers (state_of s1.machine) at_whole plan.values plan.tie.operations
        (legal_is plan w table) plan.code (code_is plan w table) (planned_is plan w table) source notes x1 e
        (subst (λ (h : Home). EndsFault plan.values order plan.code h (state_of s1.machine) source notes x1 e) at_home ends))))

    direct_whole : (source : SourceOver) (notes : NotesSeen) (x1 : State) → EndsWhole plan.values order plan.code s1.machine.home (state_of s1.machine) source notes x1
        → HomeWhole order w.table (cell_home (length s.names.cells + 1)) to.0 (direct + 1) target fetched noted (length (state_of s1.machine).cells) source (decoding_of notes) x1
    direct_whole source notes x1 ends =
        read w side order fetched noted direct (between_of x) s seen n st.agrees r there to refers (state_of s1.machine) at_whole plan.values plan.tie.operations
        (legal_is plan w table) plan.code (code_is plan w table) (planned_is plan w table) source notes x1 within
        (subst (λ (h : Home). EndsWhole plan.values order plan.code h (state_of s1.machine) source notes x1) at_home ends)

    module _ (source : SourceOver) (t : DecodingSeen) (k : ℕ) (one : t.steps ≡ k + 1) (s2 : Stream)
        (hw : HomeWhole order w.table (cell_home (length s.names.cells + 1)) to.0 (direct + 1) target fetched noted (length (state_of s1.machine).cells) source t (state_of s2.machine)) where
      part : TookPart source (with_steps k t) (cells_of x) hw.octets hw.items (length (state_of s2.machine).cells)
      part = let a = hw.took.steps in let b = so_many in record { left = hw.took.left; logged = hw.took.logged; steps = omega (arith, a, b, one) }

      -- memory fails after its value
      direct_cut : CutOff the_head w order fetched noted (cells_of x) source (with_steps k t)
      direct_cut =
          let passed : (target (fetched ++ hw.octets)).progress.seen ≡ hw.is.seen ++ [] =
          subst (λ (f : List ℕ). (target f).progress.seen ≡ hw.is.seen ++ []) (append-nil (fetched ++ hw.octets))
          (sym (ap (λ (u : Read). u.progress.seen) (hw.is.is [])) ∙ sym (append-nil hw.is.seen)) in
          let cells : AreCells w hw.is.seen (length (state_of s2.machine).cells) = record { d = direct + 1; named = hw.is.told.cells_named.named; few = few } in
          record {
            octets = hw.octets;
            items = hw.items;
            n' = length (state_of s2.machine).cells;
            cut = home_cut the_head w order fetched st.agrees.octets st.agrees.needed target hw.octets hw.all
                (λ part all. direct_goes w side order fetched noted direct (between_of x) s seen n st.agrees r there to refers part all)
                (noted ++ hw.items) (length (state_of s2.machine).cells) hw.is.seen [] passed hw.is.told.noted_are cells;
            took = part;
          }

      module _ (s3 : Stream) (built : s1.machine.builder ≡ opened (cell_home c.0) (with_reference c.0 to.0 (closed x.machine.builder)) x.machine.builder)
          (keeps : KeepsAll x s2) (out : outside s2.machine ≡ outside s1.machine) (re : ReferenceEnds c s2 s3) where
        abbrev b : Building
        b = x.machine.builder

        abbrev m : Machine
        m = s2.machine

        abbrev v : Tree
        v = hw.is.v

        -- what was built when the home was opened, without a home
        abbrev begun : Building
        begun = record {
          graph = with_reference (length s.names.cells + 1) to.0 (closed x.machine.builder);
          home = None;
          nodes = [];
          op = b.op;
          side = b.side;
          interface = b.interface;
          given = b.given;
        }

        home_ran : HomeRan (opened (cell_home (length s.names.cells + 1)) (closed begun) begun) m.builder
        home_ran =
            subst (λ (i : ℕ). HomeRan (opened (cell_home i) (with_reference i to.0 (closed b)) b) m.builder) its_number
            (subst (λ (u : Building). HomeRan u m.builder) built (ran s1.machine m out))

        all_there : AreOctets ((fetched ++ hw.octets) ++ [])
        all_there = all_append (λ b. b < 256) (fetched ++ hw.octets) [] (all_append (λ b. b < 256) fetched hw.octets st.agrees.octets hw.all) tt

        wholly : WholeRead w side order ((fetched ++ hw.octets) ++ []) all_there (cell_home (length s.names.cells + 1)) to.0 (going x.machine.at seen) (with_cell to.0 s.names)
            (record { tree = hw.is.v; progress = going m.at hw.is.seen; names = hw.is.names })
        wholly =
            subst (WholeRead w side order ((fetched ++ hw.octets) ++ []) all_there (cell_home (length s.names.cells + 1)) to.0 (going x.machine.at seen) (with_cell to.0 s.names)) (sym (hw.is.is []))
            (read_wholly w side order ((fetched ++ hw.octets) ++ []) all_there (cell_home (length s.names.cells + 1)) to.0
            (its_usable w side order fetched noted direct (between_of x) s seen n st.agrees r there to refers) (going x.machine.at seen) (with_cell to.0 s.names))

        cell_there : length s.names.cells + 1 ≤ length m.builder.graph.cells
        cell_there =
            let l : length (with_cell to.0 s.names).cells ≤ length hw.is.names.cells = longer (with_cell to.0 s.names) hw.is.names wholly.extends in
            let e : length (with_cell to.0 s.names).cells ≡ length s.names.cells + 1 = length-append s.names.cells (record { of = to.0; val = unread } ∷ []) in
            let now : length hw.is.names.cells ≡ length m.builder.graph.cells =
            sym (length-map hw.is.names.cells (λ c. c.of)) ∙ sym (ap length hw.is.told.cells_are) ∙ types_length m.builder in
            omega (arith, l, e, now)

        raw : CellFilled (closed begun).roots (length s.names.cells + 1) v (map (λ c. c.of) m.builder.graph.cells) (closed begun) (closed m.builder)
        raw = cell_ends begun m.builder (length s.names.cells + 1) v home_ran hw.is.nodes (omega arith) cell_there

        filled : CellFilled (with_pointer (length s.names.cells + 1) s.roots) (length s.names.cells + 1) v (map (λ c. c.of) m.builder.graph.cells) (closed b) (closed m.builder)
        filled = record {
          roots_are = raw.roots_are ∙ ap (λ (g : Graph). with_pointer (length s.names.cells + 1) g.roots) st.agrees.keeps.graph;
          types_are = raw.types_are;
          value = raw.value;
          others = λ d f. raw.others d f ∙ same_value (closed b) (length s.names.cells + 1) to.0 d;
        }

        is_kept : CellKept (length s.names.cells + 1) re.k x.cells.items s3.cells.items
        is_kept =
            subst (λ (i : ℕ). CellKept i re.k x.cells.items s3.cells.items) its_number (subst (λ (l : List (Option Kept)). CellKept c.0 re.k l s3.cells.items) keeps.cells re.kept)

        is_now : between_of s3 ≡ cell_read (between_of x) (state_of m) (x.roots.items ++ re.root ∷ []) s3.cells.items (closed m.builder)
        is_now =
            re.between
            ∙ same_cell (between_of s2) (between_of x) (state_of m) (s2.roots.items ++ re.root ∷ []) (x.roots.items ++ re.root ∷ []) s3.cells.items (closed m.builder)
            (same_pending x s2 keeps) (ap (λ (l : List KeptRoot). l ++ re.root ∷ []) keeps.roots)

        took : Took source (with_steps k t) (cells_of x) hw.octets hw.items (cells_of s3)
        took =
            let a = hw.took.steps in
            let b = so_many in
            let now : length (state_of m).cells ≡ cells_of s3 = types_length m.builder ∙ sym (ap (λ (u : Building). length u.graph.cells) re.cleared.builder) in
            record { left = hw.took.left; logged = hw.took.logged; steps = omega (arith, a, b, one, now) }

        direct_done : WentOn w side order fetched noted (cells_of x) source (with_steps k t) s3 n
        direct_done =
            let after = law.after w side order fetched noted direct (between_of x) s seen n st.agrees r there to refers hw.octets hw.all (noted ++ hw.items) (state_of m) hw.is hw.needed in
            let made = law.made w side order fetched noted direct (between_of x) s seen n st.agrees r there to refers hw.octets hw.all (noted ++ hw.items) (state_of m) hw.is hw.needed in
            let agrees : Agrees w side order (fetched ++ hw.octets) (noted ++ hw.items) (direct + 1)
            (cell_read (between_of x) (state_of m) (x.roots.items ++ re.root ∷ []) s3.cells.items (closed m.builder)) after hw.is.seen made n =
            law.direct_ends w side order fetched noted direct (between_of x) s seen n st.agrees r there to refers hw.octets hw.all (noted ++ hw.items) (state_of m) hw.is hw.needed
            re.root re.pointer (ap cell_number re.names ∙ ap Some its_number) re.k (kept_of m re.k hw.is.first.0 hw.is.first.1 re.own) s3.cells.items is_kept (closed m.builder) filled in
            record {
              octets = hw.octets;
              items = hw.items;
              direct = direct + 1;
              s = after;
              seen = hw.is.seen;
              ps = made;
              stands = record {
                agrees = subst (λ (u : Between). Agrees w side order (fetched ++ hw.octets) (noted ++ hw.items) (direct + 1) u after hw.is.seen made n) (sym is_now) agrees;
                within = let at = re.cleared.at in let short = hw.within in omega (arith, at, short);
                whole = subst CanClose (sym re.cleared.builder) (can_close m.builder v hw.is.nodes);
              };
              took = took;
            }

    -- its value is whole, and it is kept or memory fails
    pub direct_last : (source : SourceOver) (notes : NotesSeen) (k : ℕ) → notes.steps ≡ k + 1 → (s2 s3 : Stream)
        → s1.machine.builder ≡ opened (cell_home c.0) (with_reference c.0 to.0 (closed x.machine.builder)) x.machine.builder
        → KeepsAll x s2 → outside s2.machine ≡ outside s1.machine → EndsWhole plan.values order plan.code s1.machine.home (state_of s1.machine) source notes (state_of s2.machine)
        → (result : Result (Unit {0}) DecodeFault) → OnOk result (ReferenceEnds c s2 s3) → IfErr result (λ e. e ≡ fault.Memory)
        → Reads w side order fetched noted (cells_of x) n source (with_steps k (decoding_of notes)) s3 result
    direct_last source notes k one s2 s3 built keeps out ends (Ok u) kept memory =
        direct_done source (decoding_of notes) k one s2 (direct_whole source notes (state_of s2.machine) ends) s3 built keeps out kept
    direct_last source notes k one s2 s3 built keeps out ends (Err e) kept memory =
        memory_fault w order fetched noted (cells_of x) source (with_steps k (decoding_of notes)) e memory
        (direct_cut source (decoding_of notes) k one s2 (direct_whole source notes (state_of s2.machine) ends))
