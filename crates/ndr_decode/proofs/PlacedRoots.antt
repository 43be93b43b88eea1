-- The next root, which is read in its place: what a call for it comes to.
-- `x` is what is kept of the stream before it, `run` the run of its code, `s1` the stream when its home is open, `s2` after its value, `s3` after it was kept.
use Rattle.std.proofs.Common.{◌≡◌, ◌≤◌, ℕ, suc, false, Bool, List, [], ◌++◌, length, Option, Some, Result, Ok, Err, IsErrAnd, OnOk, IfErr, ap, sym, ◌∙◌, subst, arith}
use Rattle.std.specs.Prelude.{slice_get}
use Rattle.std.proofs.lemmas.List.{append-nil}
use Rattle.nd_base.specs.declared.octets.Order.{Order}
use Rattle.nd_base.specs.declared.TheConstants.{STREAM_LIMIT}
use Rattle.nd_base.specs.Over.{Count, SourceOver}
use Rattle.nd_types.specs.Roots.{Root}
use Rattle.nd_types.specs.Table.{type_at}
use Rattle.nd_value.specs.declared.item.Home.{Home}
use Rattle.nd_value.specs.declared.item.Home.TheVariants as home
use Rattle.nd_value.specs.declared.item.Item.{Item}
use Rattle.nd_value.specs.declared.value.Graph.{Graph}
use Rattle.nd_value.specs.Logged.{Logged}
use Rattle.nd_value.specs.Setting.{Setting, root_list}
use Rattle.nd_flat.specs.Building.{closed, opened, with_root}
use Rattle.nd_grammar.specs.Entry.{EntryAt}
use Rattle.nd_grammar.specs.LegalSide.{IsLegalSide}
use Rattle.nd_grammar.specs.Reader.{Read}
use Rattle.nd_grammar.specs.StreamReader.{Reading}
use Rattle.ndr_code.specs.declared.instr.Instr.TheVariants as op
use Rattle.ndr_code.specs.declared.plan.Plan.{Plan}
use Rattle.ndr_code.specs.Code.{root_by, whole_at}
use Rattle.ndr_decoder_value.specs.Reaching.{EndsFault, EndsWhole}
use Rattle.ndr_decoder_laws.specs.runs.Reaching.{IsSafe, Reaches}
use Rattle.ndr_decoder_state.specs.Notes.{NotesSeen}
use Rattle.ndr_decoder_state.specs.Seen.{outside, state_of}
use Rattle.ndr_decoder_state.specs.declared.fault.DecodeFault.{DecodeFault}
use Rattle.ndr_decoder_state.specs.declared.fault.DecodeFault.TheVariants as fault
use Rattle.ndr_decoder_laws.specs.steps.Steps.{State}
use Rattle.ndr_decoder_laws.specs.stream.Between.{Opens, home_target}
use Rattle.ndr_decoder_laws.specs.stream.Calls.{CutOff, TookPart}
use Rattle.ndr_decoder_laws.specs.stream.Report.{AreCells, the_head}
use Rattle.ndr_decoder_laws.proofs.stream.FewReferences.{few_now}
use Rattle.ndr_decoder_laws.proofs.stream.HomeFaults.{home_cut}
use Rattle.ndr_decoder_laws.proofs.stream.RootEnds.{root_goes}
use Rattle.ndr_decoder_stream.specs.Seen.{KeepsAll, RootEnds, between_of}
use Rattle.ndr_decoder_stream.specs.declared.stream.Stream.{Stream}
use Rattle.nd_grammar.specs.decoded.Verdict.{DecodingSeen, is_direct}
use Rattle.ndr_decode.specs.Streaming.{FaultOf, HomeWhole, Reads, Stands, cells_of, purpose_of}
use Rattle.ndr_decode.proofs.AtRoots.{call_is, code_is, legal_is, placed_safe, planned_is, usable_is}
use Rattle.ndr_decode.proofs.Handed.{memory_fault, reads_fault}
use Rattle.ndr_decode.proofs.HomeComes.{decoding_of}
use Rattle.ndr_decode.proofs.PaidHomes.{roots_kept}
use Rattle.ndr_decode.proofs.Placed.{placed_ends, types_length}
use Rattle.ndr_decode.proofs.RootReads.{root_fault, root_whole}
use Rattle.ndr_decode.proofs.SamePurpose.{same_purpose}
use Rattle.ndr_decode.proofs.Standing.{cut_off_here, idle_log, idle_source}

-- what the graph is for stays as it is
pub root_purpose : (x s1 s2 s3 : Stream) (h : Home) (g : Graph) → s1.machine.builder ≡ opened h g x.machine.builder → outside s2.machine ≡ outside s1.machine
    → (result : Result (Unit {0}) DecodeFault) → OnOk result (RootEnds s2 s3) → OnOk result (purpose_of s3 ≡ purpose_of x)
root_purpose x s1 s2 s3 h g opens out (Ok u) ends = same_purpose h g x.machine.builder s3.machine.builder s1.machine s2.machine opens out ends.cleared.builder
root_purpose x s1 s2 s3 h g opens out (Err e) ends = tt

-- ## The next root

module _ (plan : Plan) (order : Order) (run : ℕ) (x : Stream) (w : Setting) (side : IsLegalSide w) (fetched : List ℕ) (noted : List Item) (direct : ℕ) (s : Reading) (seen : List EntryAt) (n : ℕ)
    (table : w.table ≡ plan.tie.types) (st : Stands w side order fetched noted direct x s seen [] (suc n)) (r : Root) (there : slice_get (root_list w) (length s.roots) ≡ Some r)
    (instr : op.Call run ≡ root_by w.table r.of (type_at w.table r.of)) where
  -- memory fails before it is open
  pub placed_unopened : (o : Option (List ℕ)) (ended : Bool) (faults : Count) (g : Logged) (k : ℕ) (y : Stream) (e : DecodeFault) (result : Result (Unit {0}) DecodeFault)
      → e ≡ fault.Memory → IsErrAnd result (λ z. z ≡ e)
      → Reads w side order fetched noted (cells_of x) n (idle_source o ended faults) (idle_log g k) y result
  placed_unopened o ended faults g k y e result memory is =
      reads_fault w side order fetched noted (cells_of x) n (idle_source o ended faults) (idle_log g k) y result e is
      (memory_fault w order fetched noted (cells_of x) (idle_source o ended faults) (idle_log g k) e memory
      (cut_off_here o ended faults g k w side order fetched noted direct (between_of x) s seen [] (suc n) (cells_of x) (sym (types_length x.machine.builder)) st.agrees))

  abbrev target : List ℕ → Read
  target = home_target w order (between_of x) seen (home.Root (length s.roots)) r.of s.names

  plain : is_direct (type_at w.table r.of) ≡ false
  plain = (call_is w.table r.of run (type_at w.table r.of) instr).1

  module _ (s1 : Stream) (opens : Opens run (between_of x) (between_of x).cells (state_of s1.machine)) (home_is : s1.machine.home ≡ home.Root (length x.roots.items)) where
    at_whole : Opens (whole_at w.table r.of) (between_of x) (between_of x).cells (state_of s1.machine)
    at_whole =
        subst (λ (k : ℕ). Opens k (between_of x) (between_of x).cells (state_of s1.machine)) (call_is w.table r.of run (type_at w.table r.of) instr).0 opens

    at_home : s1.machine.home ≡ home.Root (length s.roots)
    at_home = home_is ∙ ap (λ (k : ℕ). home.Root k) (roots_kept w side order fetched noted direct (between_of x) s seen [] (suc n) st.agrees)

    so_many : length (state_of s1.machine).cells ≡ cells_of x
    so_many = ap length opens.cells ∙ types_length x.machine.builder

    within : (more : List ℕ) (items : List Item) (y : State) → Reaches plan.values order plan.code (home.Root (length s.roots)) (state_of s1.machine) more items y → y.at ≤ STREAM_LIMIT
    within more items y reached =
        let safe : IsSafe plan.code y =
        placed_safe plan w table side order fetched noted direct x s seen n st r there run s1.machine instr opens home_is more items y
        (subst (λ (h : Home). Reaches plan.values order plan.code h (state_of s1.machine) more items y) (sym at_home) reached) in
        safe.within

    -- a fault within its value
    pub placed_fault : (source : SourceOver) (notes : NotesSeen) (x1 : State) (y : Stream) (e : DecodeFault) (result : Result (Unit {0}) DecodeFault)
        → EndsFault plan.values order plan.code s1.machine.home (state_of s1.machine) source notes x1 e → IsErrAnd result (λ z. z ≡ e)
        → Reads w side order fetched noted (cells_of x) n source (decoding_of notes) y result
    placed_fault source notes x1 y e result ends is =
        reads_fault w side order fetched noted (cells_of x) n source (decoding_of notes) y result e is
        (subst (λ (k : ℕ). FaultOf the_head w order fetched noted k source (decoding_of notes) e) so_many
        (root_fault w side order fetched noted direct (between_of x) s seen n st.agrees r there plain (usable_is plan w table side order fetched noted direct x s seen n st r there)
        (state_of s1.machine) at_whole plan.values plan.tie.operations (legal_is plan w table) plan.code (code_is plan w table) (planned_is plan w table) source notes x1 e
        (subst (λ (h : Home). EndsFault plan.values order plan.code h (state_of s1.machine) source notes x1 e) at_home ends)))

    placed_whole : (source : SourceOver) (notes : NotesSeen) (x1 : State) → EndsWhole plan.values order plan.code s1.machine.home (state_of s1.machine) source notes x1
        → HomeWhole order w.table (home.Root (length s.roots)) r.of direct target fetched noted (length (state_of s1.machine).cells) source (decoding_of notes) x1
    placed_whole source notes x1 ends =
        root_whole w side order fetched noted direct (between_of x) s seen n st.agrees r there plain (usable_is plan w table side order fetched noted direct x s seen n st r there)
        (state_of s1.machine) at_whole plan.values plan.tie.operations (legal_is plan w table) plan.code (code_is plan w table) (planned_is plan w table) source notes x1 within
        (subst (λ (h : Home). EndsWhole plan.values order plan.code h (state_of s1.machine) source notes x1) at_home ends)

    module _ (source : SourceOver) (t : DecodingSeen) (x1 : State)
        (hw : HomeWhole order w.table (home.Root (length s.roots)) r.of direct target fetched noted (length (state_of s1.machine).cells) source t x1) where
      part : TookPart source t (length (state_of s1.machine).cells) hw.octets hw.items (length x1.cells)
      part = let k = hw.took.steps in record { left = hw.took.left; logged = hw.took.logged; steps = omega (arith, k) }

      -- memory fails after its value
      placed_cut : CutOff the_head w order fetched noted (cells_of x) source t
      placed_cut =
          let passed : (target (fetched ++ hw.octets)).progress.seen ≡ hw.is.seen ++ [] =
          subst (λ (f : List ℕ). (target f).progress.seen ≡ hw.is.seen ++ []) (append-nil (fetched ++ hw.octets))
          (sym (ap (λ (u : Read). u.progress.seen) (hw.is.is [])) ∙ sym (append-nil hw.is.seen)) in
          let cells : AreCells w hw.is.seen (length x1.cells) = record {
            d = direct;
            named = hw.is.told.cells_named.named;
            few = few_now w side order fetched noted direct (between_of x) s seen [] (suc n) st.agrees;
          } in
          record {
            octets = hw.octets;
            items = hw.items;
            n' = length x1.cells;
            cut = home_cut the_head w order fetched st.agrees.octets st.agrees.needed target hw.octets hw.all
                (λ part all. root_goes w side order fetched noted direct (between_of x) s seen n st.agrees r there plain part all)
                (noted ++ hw.items) (length x1.cells) hw.is.seen [] passed hw.is.told.noted_are cells;
            took = subst (λ (k : ℕ). TookPart source t k hw.octets hw.items (length x1.cells)) so_many part;
          }

    -- its value is whole, and it is kept or memory fails
    pub placed_last : (source : SourceOver) (notes : NotesSeen) (s2 s3 : Stream)
        → s1.machine.builder ≡ opened (home.Root (length x.machine.builder.graph.roots)) (with_root (closed x.machine.builder)) x.machine.builder
        → KeepsAll x s2 → outside s2.machine ≡ outside s1.machine → EndsWhole plan.values order plan.code s1.machine.home (state_of s1.machine) source notes (state_of s2.machine)
        → (result : Result (Unit {0}) DecodeFault) → OnOk result (RootEnds s2 s3) → IfErr result (λ e. e ≡ fault.Memory)
        → Reads w side order fetched noted (cells_of x) n source (decoding_of notes) s3 result
    placed_last source notes s2 s3 built keeps out ends (Ok u) kept memory =
        placed_ends w side order fetched noted direct x s1 s2 s3 s seen n st r there plain built opens.cells keeps out source (decoding_of notes)
        (placed_whole source notes (state_of s2.machine) ends) kept
    placed_last source notes s2 s3 built keeps out ends (Err e) kept memory =
        memory_fault w order fetched noted (cells_of x) source (decoding_of notes) e memory
        (placed_cut source (decoding_of notes) (state_of s2.machine) (placed_whole source notes (state_of s2.machine) ends))
