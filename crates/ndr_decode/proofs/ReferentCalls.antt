-- What reading the next of the pending referents owes and comes to, by the code of a plan.
-- `o` is the referent as code has it, `x` what was kept before it, `c` its cell, `s1` the stream when its home was open, `s2` after its value, `s3` after its cell
-- was kept, `s4` after its pointers became pending.
use Rattle.std.proofs.Common.{◌≡◌, ◌≤◌, ℕ, ◌+◌, ◌*◌, List, ◌∷◌, ◌++◌, length, map, take, drop, Option, Some, None, Result, Ok, Err, OnOk, sym, ap, ◌∙◌, subst, arith}
use Rattle.nd_base.specs.declared.octets.Order.{Order}
use Rattle.nd_base.specs.declared.TheConstants.{STREAM_LIMIT}
use Rattle.nd_base.specs.Over.{SourceOver}
use Rattle.nd_types.specs.declared.types.Class.TheVariants.{Full}
use Rattle.nd_value.specs.declared.item.Home.{Home}
use Rattle.nd_value.specs.declared.item.Item.{Item}
use Rattle.nd_value.specs.declared.value.CellId.{CellId}
use Rattle.nd_value.specs.Deferral.{Pending}
use Rattle.nd_value.specs.Setting.{Setting, cell_home}
use Rattle.nd_flat.specs.Building.{closed, opened}
use Rattle.nd_grammar.specs.Entry.{EntryAt}
use Rattle.nd_grammar.specs.LegalSide.{IsLegalSide}
use Rattle.nd_grammar.specs.StreamReader.{Reading}
use Rattle.nd_grammar.specs.ReaderState.{Usable}
use Rattle.ndr_code.specs.declared.plan.Plan.{Plan}
use Rattle.ndr_code.specs.Code.{whole_at}
use Rattle.ndr_decoder_laws.specs.runs.Paid.{IsPaid}
use Rattle.ndr_decoder_laws.specs.runs.Reaching.{IsSafe, Reaches}
use Rattle.ndr_decoder_state.specs.Notes.{NotesSeen}
use Rattle.ndr_decoder_state.specs.declared.fault.DecodeFault.{DecodeFault}
use Rattle.ndr_decoder_state.specs.declared.fault.DecodeFault.TheVariants as fault
use Rattle.ndr_decoder_state.specs.declared.machine.Machine.{Machine}
use Rattle.ndr_decoder_state.specs.declared.machine.Owed.{Owed}
use Rattle.ndr_decoder_state.specs.declared.machine.Wanted.{Wanted}
use Rattle.ndr_decoder_state.specs.Seen.{agreement_of, outside, owed_of, state_of}
use Rattle.ndr_decoder_laws.specs.steps.Steps.{State}
use Rattle.ndr_decoder_value.specs.Reaching.{EndsFault, EndsWhole}
use Rattle.ndr_decoder_laws.specs.declared.kept.Kept.{Kept}
use Rattle.ndr_decoder_laws.specs.stream.Between.{Opens, home_target, kept_at}
use Rattle.ndr_decoder_laws.specs.stream.Tests.{AllAgree}
use Rattle.ndr_decoder_laws.proofs.stream.FineTypes.{usable_fine}
use Rattle.ndr_decoder_stream.specs.declared.stream.Stream.{Stream}
use Rattle.ndr_decoder_stream.specs.Seen.{CellEnds, HasOwn, IsCleared, KeepsAll, KeepsHomes, between_of, pending_in, pending_with}
use Rattle.ndr_decoder_laws.specs.stream.Report.{the_head}
use Rattle.ndr_decode.specs.Streaming.{ArePaid, FaultOf, HomeWhole, StandsWith, WentOnTaking, cells_of, purpose_of, with_next}
use Rattle.ndr_decode.specs.Tried.{AreTried}
use Rattle.ndr_decode.proofs.AtRoots.{code_is, legal_is, planned_is}
use Rattle.ndr_decode.proofs.HomeComes.{decoding_of}
use Rattle.ndr_decode.proofs.PaidHomes.{opened_paid, paid_between, roots_within}
use Rattle.ndr_decode.proofs.Placed.{kept_of, types_length}
use Rattle.ndr_decode.proofs.ReferentDone.{referent_done, referent_paid}
use Rattle.ndr_decode.proofs.ReferentFails.{referent_cut, referent_disagrees}
use Rattle.ndr_decode.proofs.ReferentReads.{its_usable, referent_fault, referent_safe, referent_whole, run_is}
use Rattle.ndr_decode.proofs.SamePurpose.{same_purpose}

-- a pointer without agreements has none that is refused
pub none_refused : (k : Kept) (ws : List Wanted) (o : Owed) → o.len ≡ 0 → AllAgree k (owed_of ws o).agreements
none_refused k ws o z = subst (λ (n : ℕ). AllAgree k (map agreement_of (take n (drop o.from ws)))) (sym z) tt

module _ (plan : Plan) (order : Order) (o : Owed) (x : Stream) (c : CellId) (some : o.cell ≡ Some c) (unread : o.class ≡ Full → kept_at x.cells.items c.0 ≡ None) (s1 : Stream)
    (opens : Opens o.run (between_of x) (between_of x).cells (state_of s1.machine)) (builder : s1.machine.builder ≡ opened (cell_home c.0) (closed x.machine.builder) x.machine.builder)
    (here : s1.machine.home ≡ cell_home c.0) where
  module _ (w : Setting) (side : IsLegalSide w) (fetched : List ℕ) (noted : List Item) (direct : ℕ) (s : Reading) (seen : List EntryAt) (p : Pending) (ps : List Pending) (n : ℕ)
      (table : w.table ≡ plan.tie.types) (st : StandsWith w side order fetched noted direct o x s seen p ps n) where
    abbrev x0 : State
    x0 = state_of s1.machine

    at_whole : Opens (whole_at w.table p.to) (between_of x) (between_of x).cells x0
    at_whole = subst (λ (k : ℕ). Opens k (between_of x) (between_of x).cells x0) (run_is w side order fetched noted direct o x s seen p ps n st c some unread) opens

    usable : Usable w.table p.to
    usable = its_usable w side order fetched noted direct o x s seen p ps n st c some unread

    pays : IsPaid x0
    pays =
        let few : 4 * length (between_of x).cells ≤ x.machine.at + 4 * length s.roots = paid_between w side order fetched noted direct (with_next o x) s seen (p ∷ ps) n st.agrees in
        let roots = roots_within w side order fetched noted direct (with_next o x) s seen (p ∷ ps) n st.agrees in
        opened_paid o.run (between_of x) (between_of x).cells x0 opens (omega (arith, few, roots))

    short : length fetched ≤ STREAM_LIMIT
    short = let at : length fetched ≡ x.machine.at = st.agrees.keeps.at in let within = st.within in omega (arith, at, within)

    many : length x0.cells ≡ cells_of x
    many = ap length opens.cells ∙ types_length x.machine.builder

    safe_here : (more : List ℕ) (items : List Item) (y : State) → Reaches plan.values order plan.code (cell_home c.0) x0 more items y → IsSafe plan.code y
    safe_here more items y reached =
        referent_safe w side order fetched noted direct o x s seen p ps n st c some unread x0 at_whole plan.values plan.tie.operations (legal_is plan w table) plan.code (code_is plan w table)
        (planned_is plan w table) (usable_fine w.table plan.tie.operations (legal_is plan w table) p.to usable) short pays more items y reached

    -- each state that is reached in the value is safe
    pub safe : (more : List ℕ) (items : List Item) (y : State) → Reaches plan.values order plan.code s1.machine.home x0 more items y → IsSafe plan.code y
    safe more items y reached = safe_here more items y (subst (λ (h : Home). Reaches plan.values order plan.code h x0 more items y) here reached)

    module _ (source : SourceOver) (notes : NotesSeen) where
      -- a fault within the value
      pub home_fault : (x1 : State) (e : DecodeFault) → EndsFault plan.values order plan.code s1.machine.home x0 source notes x1 e
          → FaultOf the_head w order fetched noted (cells_of x) source (decoding_of notes) e
      home_fault x1 e ends =
          subst (λ (k : ℕ). FaultOf the_head w order fetched noted k source (decoding_of notes) e) many
          (referent_fault w side order fetched noted direct o x s seen p ps n st c some unread x0 at_whole plan.values plan.tie.operations (legal_is plan w table) plan.code (code_is plan w table)
          (planned_is plan w table) source notes x1 e (subst (λ (h : Home). EndsFault plan.values order plan.code h x0 source notes x1 e) here ends))

      module _ (m : Machine) (ends : EndsWhole plan.values order plan.code s1.machine.home x0 source notes (state_of m)) where
        is_whole : HomeWhole order w.table (cell_home c.0) p.to direct (home_target w order (between_of x) seen (cell_home c.0) p.to s.names) fetched noted (length x0.cells) source
            (decoding_of notes) (state_of m)
        is_whole =
            referent_whole w side order fetched noted direct o x s seen p ps n st c some unread x0 at_whole plan.values plan.tie.operations (legal_is plan w table) plan.code (code_is plan w table)
            (planned_is plan w table) source notes (state_of m) (λ more items y reached. let safe : IsSafe plan.code y = safe_here more items y reached in safe.within)
            (subst (λ (h : Home). EndsWhole plan.values order plan.code h x0 source notes (state_of m)) here ends)

        -- memory fails after the value
        pub cut_then : (e : DecodeFault) → e ≡ fault.Memory → FaultOf the_head w order fetched noted (cells_of x) source (decoding_of notes) e
        cut_then e is =
            subst (λ (z : DecodeFault). FaultOf the_head w order fetched noted (cells_of x) source (decoding_of notes) z) (sym is)
            (subst (λ (k : ℕ). FaultOf the_head w order fetched noted k source (decoding_of notes) fault.Memory) many
            (referent_cut w side order fetched noted direct o x s seen p ps n st c some unread source (decoding_of notes) (length x0.cells) (state_of m) is_whole))

        -- an agreement is refused
        pub tried_then : (k : Kept) → HasOwn m k → (e : DecodeFault) → AreTried (owed_of x.wanted.items o).agreements k (Err e)
            → FaultOf the_head w order fetched noted (cells_of x) source (decoding_of notes) e
        tried_then k own (fault.Bad place why) t =
            subst (λ (j : ℕ). FaultOf the_head w order fetched noted j source (decoding_of notes) (fault.Bad place why)) many
            (referent_disagrees w side order fetched noted direct o x s seen p ps n st c some unread source (decoding_of notes) (length x0.cells) (state_of m) is_whole k
            (kept_of m k is_whole.is.first.0 is_whole.is.first.1 own) place why t)
        tried_then k own fault.ReadFault t = absurd t
        tried_then k own fault.Memory t = absurd t

  -- the agreements that are tried are those of the pointer
  pub tried_all : {s2 s3 : Stream} (k : Kept) → CellEnds c.0 k s2 s3 → (ws : List Wanted) → ws ≡ s3.wanted.items → s2.wanted.items ≡ x.wanted.items
      → (r : Result (Unit {0}) DecodeFault) → AreTried (owed_of ws o).agreements k r → AreTried (owed_of x.wanted.items o).agreements k r
  tried_all k ends ws is before r t = subst (λ (l : List Wanted). AreTried (owed_of l o).agreements k r) (is ∙ ends.others.wanted ∙ before) t

  -- all was read
  pub settled : {s2 s3 : Stream} (s4 : Stream) (k : Kept) → CellEnds c.0 k s2 s3 → HasOwn s2.machine k → KeepsAll x s2 → outside s2.machine ≡ outside s1.machine
      → AllAgree k (owed_of x.wanted.items o).agreements → (source : SourceOver) (notes : NotesSeen)
      → EndsWhole plan.values order plan.code s1.machine.home (state_of s1.machine) source notes (state_of s2.machine) → (q : Option Owed)
      → pending_with q s4.wanted.items s4.todo.items ≡ (state_of s3.machine).fresh ++ pending_in s3.wanted.items s3.todo.items → IsCleared s3.machine s4.machine
      → KeepsHomes s3 s4 → (w : Setting) (side : IsLegalSide w) (fetched : List ℕ) (noted : List Item) (direct : ℕ) (s : Reading) (seen : List EntryAt)
      (p : Pending) (ps : List Pending) (n : ℕ) → w.table ≡ plan.tie.types → StandsWith w side order fetched noted direct o x s seen p ps n
      → WentOnTaking w side order fetched noted (cells_of x) source (decoding_of notes) q s4 n
  settled {s2} {s3} s4 k kept own keeps out agree source notes ends q pending cleared homes w side fetched noted direct s seen p ps n table st =
      referent_done w side order fetched noted direct o x s seen p ps n st c some unread source (decoding_of notes) s1 s2 builder opens.cells keeps out
      (is_whole w side fetched noted direct s seen p ps n table st source notes s2.machine ends) s3 s4 k own kept agree q pending cleared homes

  pub settled_paid : {s2 s3 : Stream} (s4 : Stream) (k : Kept) → CellEnds c.0 k s2 s3 → HasOwn s2.machine k → KeepsAll x s2 → outside s2.machine ≡ outside s1.machine
      → AllAgree k (owed_of x.wanted.items o).agreements → (source : SourceOver) (notes : NotesSeen)
      → EndsWhole plan.values order plan.code s1.machine.home (state_of s1.machine) source notes (state_of s2.machine) → (q : Option Owed)
      → pending_with q s4.wanted.items s4.todo.items ≡ (state_of s3.machine).fresh ++ pending_in s3.wanted.items s3.todo.items → IsCleared s3.machine s4.machine
      → KeepsHomes s3 s4 → (w : Setting) (side : IsLegalSide w) (fetched : List ℕ) (noted : List Item) (direct : ℕ) (s : Reading) (seen : List EntryAt)
      (p : Pending) (ps : List Pending) (n : ℕ) → w.table ≡ plan.tie.types → StandsWith w side order fetched noted direct o x s seen p ps n
      → ArePaid x q s4
  settled_paid {s2} {s3} s4 k kept own keeps out agree source notes ends q pending cleared homes w side fetched noted direct s seen p ps n table st =
      referent_paid w side order fetched noted direct o x s seen p ps n st c some unread source (decoding_of notes) s1 s2 builder opens.cells keeps out
      (is_whole w side fetched noted direct s seen p ps n table st source notes s2.machine ends) s3 s4 k own kept agree q pending cleared homes

  -- and the graph is for what it was for
  pub same_then : {s2 s3 : Stream} (s4 : Stream) (k : Kept) → CellEnds c.0 k s2 s3 → outside s2.machine ≡ outside s1.machine → (r : Result (Unit {0}) DecodeFault)
      → OnOk r (IsCleared s3.machine s4.machine) → OnOk r (purpose_of s4 ≡ purpose_of x)
  same_then {s2} {s3} s4 k kept out (Ok u) cleared =
      same_purpose (cell_home c.0) (closed x.machine.builder) x.machine.builder s4.machine.builder s1.machine s2.machine builder out
      (cleared.builder ∙ ap (λ (q : Machine). q.builder) kept.others.machine)
  same_then s4 k kept out (Err e) cleared = tt
