-- The next of the pending referents, where it was not read yet: from what is kept of the stream before its value, through the run of its code, to what is kept
-- after it and after the agreements of its pointer.
-- `o` is the referent as code has it, `x` what is kept of the stream, `c` its cell, `x0` the state of the decoder at the beginning of the value and `x1` at its end.
use Rattle.std.proofs.Common.{◌≡◌, ◌≤◌, ◌<◌, ℕ, List, [], ◌∷◌, ◌++◌, length, map, Some, None, sym, ap, ◌∙◌, subst, arith}
use Rattle.std.proofs.lemmas.List.{length-map}
use Rattle.nd_base.specs.declared.octets.Order.{Order}
use Rattle.nd_base.specs.declared.TheConstants.{STREAM_LIMIT}
use Rattle.nd_base.specs.Over.{SourceOver}
use Rattle.nd_types.specs.declared.types.Class.TheVariants.{Full}
use Rattle.nd_types.specs.declared.types.Operation.{Operation}
use Rattle.nd_types.specs.Legal.{IsLegal}
use Rattle.nd_types.specs.Number.{AreOctets}
use Rattle.nd_value.specs.declared.item.Home.TheVariants as home
use Rattle.nd_value.specs.declared.item.Item.{Item}
use Rattle.nd_value.specs.declared.value.CellId.{CellId}
use Rattle.nd_value.specs.Deferral.{Pending, due_roots, due_referent}
use Rattle.nd_value.specs.Seen.{cell_number}
use Rattle.nd_value.specs.Setting.{Setting, cell_home}
use Rattle.nd_value.proofs.Apart.{all_append}
use Rattle.nd_grammar.specs.Entry.{EntryAt}
use Rattle.nd_grammar.specs.LegalSide.{IsLegalSide}
use Rattle.nd_grammar.specs.Reader.{Read}
use Rattle.nd_grammar.specs.StreamReader.{Reading}
use Rattle.nd_grammar.specs.ReaderState.{Usable, no_names, PointerAt}
use Rattle.nd_grammar.proofs.reader.ReaderStates.{at_cell}
use Rattle.ndr_code.specs.declared.instr.Instr.{Instr}
use Rattle.ndr_code.specs.declared.lists.EnumList.{EnumList}
use Rattle.ndr_code.specs.Code.{code_of, whole_at}
use Rattle.ndr_decoder_laws.specs.reader.Around.{going}
use Rattle.ndr_decoder_laws.specs.steps.Steps as steps
use Rattle.ndr_decoder_laws.specs.steps.Good.{Good}
use Rattle.ndr_decoder_laws.specs.steps.Spots.{IsFine, IsPlanned}
use Rattle.ndr_decoder_laws.specs.steps.Steps.{State}
use Rattle.ndr_decoder_laws.specs.runs.Paid.{IsPaid}
use Rattle.ndr_decoder_laws.specs.runs.Reaching.{IsSafe, Reaches}
use Rattle.ndr_decoder_laws.proofs.runs.Safe.{safe_in_home}
use Rattle.ndr_decoder_state.specs.Notes.{NotesSeen}
use Rattle.ndr_decoder_state.specs.declared.fault.DecodeFault.{DecodeFault}
use Rattle.ndr_decoder_state.specs.declared.machine.Owed.{Owed}
use Rattle.ndr_decoder_value.specs.Reaching.{EndsWhole, EndsFault}
use Rattle.ndr_decoder_laws.specs.stream.Between.{Agrees, Opens, home_target, kept_at}
use Rattle.ndr_decoder_laws.proofs.stream.FewReferences.{few_now}
use Rattle.ndr_decoder_laws.proofs.stream.HomeBegins.{home_begins}
use Rattle.ndr_decoder_laws.proofs.stream.ReferentEnds as law
use Rattle.ndr_decoder_stream.specs.declared.stream.Stream.{Stream}
use Rattle.ndr_decoder_stream.specs.Seen.{between_of}
use Rattle.ndr_decoder_laws.specs.stream.Report.{the_head}
use Rattle.ndr_decode.specs.Streaming.{FaultOf, HomeWhole, StandsWith, cells_of, with_next}
use Rattle.ndr_decode.proofs.HomeComes.{whole_comes, fault_comes, decoding_of}
use Rattle.ndr_decode.proofs.OwedReads.{cell_is, class_is, due_is}
use Rattle.nd_grammar.proofs.reader.ReaderCells.{cell_positive as positive}

module _ (w : Setting) (side : IsLegalSide w) (order : Order) (fetched : List ℕ) (noted : List Item) (direct : ℕ) (o : Owed) (x : Stream) (s : Reading) (seen : List EntryAt) (p : Pending)
    (ps : List Pending) (n : ℕ)
    (st : StandsWith w side order fetched noted direct o x s seen p ps n) (c : CellId) (some : o.cell ≡ Some c) (unread : o.class ≡ Full → kept_at x.cells.items c.0 ≡ None) where
  ag : Agrees w side order fetched noted direct (with_next o x) s seen (p ∷ ps) n
  ag = st.agrees

  is_cell : p.cell ≡ Some c.0
  is_cell = sym (cell_is w side order fetched noted direct o x s seen p ps n st) ∙ ap cell_number some

  -- a cell that a full pointer names is new
  pub is_new : p.class ≡ Full → kept_at x.cells.items c.0 ≡ None
  is_new f = unread (class_is w side order fetched noted direct o x s seen p ps n st ∙ f)

  pub run_is : o.run ≡ whole_at w.table p.to
  run_is = ap (λ (q : steps.Owed). q.run) (due_is w side order fetched noted direct o x s seen p ps n st)

  all_now : AreOctets (fetched ++ [])
  all_now = all_append (λ b. b < 256) fetched [] ag.octets tt

  pub its_usable : Usable w.table p.to
  its_usable = let (passed, is) = ag.state [] all_now in is.usable.0

  at_it : PointerAt no_names s.names p c.0
  at_it =
      let (passed, is) = ag.state [] all_now in
      at_cell w side order (fetched ++ []) all_now s passed p ps n c.0 (map due_referent ps ++ due_roots (length s.roots) n) is is_cell
      (law.free w side order fetched noted direct (with_next o x) s seen p ps n ag c.0 is_cell is_new)

  -- the cell has its number
  many : length s.names.cells ≡ cells_of x
  many =
      let told = ag.keeps.told (home.Root (length s.roots)) (omega arith) in
      sym (length-map s.names.cells (λ c. c.of)) ∙ sym (ap length told.cells_are) ∙ length-map x.machine.builder.graph.cells (λ c. c.of)

  pub cell_there : (0 < c.0) × (c.0 ≤ cells_of x)
  cell_there =
      let m : c.0 ≤ length s.names.cells = at_it.within in
      let e : length s.names.cells ≡ cells_of x = many in
      (positive s.names.cells c.0 at_it.there.0 at_it.there.1, omega (arith, m, e))

  -- and nothing of it was kept
  pub cell_unread : kept_at x.cells.items c.0 ≡ None
  cell_unread = ag.keeps.not_read c.0 (law.free w side order fetched noted direct (with_next o x) s seen p ps n ag c.0 is_cell is_new)

  abbrev target : List ℕ → Read
  target = home_target w order (between_of x) seen (cell_home c.0) p.to s.names

  module _ (x0 : State) (opens : Opens (whole_at w.table p.to) (between_of x) (between_of x).cells x0) (values : List EnumList) (operations : List Operation)
      (legal : IsLegal w.table operations) (code : List Instr) (code_is : code ≡ code_of w.table operations) (planned : IsPlanned code values w.table) where
    pub referent_good : Good order fetched code w.table (cell_home c.0) p.to 32 noted direct target x0
    referent_good =
        subst (λ k. Good order fetched k w.table (cell_home c.0) p.to 32 noted direct target x0) (sym code_is)
        (home_begins w.table operations legal order fetched noted direct (cell_home c.0) seen s.names p.to its_usable (between_of x) ag.keeps.at (between_of x).cells x0 opens
        (ag.keeps.told (cell_home c.0) (law.free w side order fetched noted direct (with_next o x) s seen p ps n ag c.0 is_cell is_new)))

    pub referent_safe : IsFine w.table 32 p.to → length fetched ≤ STREAM_LIMIT → IsPaid x0 → (more : List ℕ) (items : List Item) (y : State)
        → Reaches values order code (cell_home c.0) x0 more items y → IsSafe code y
    referent_safe fine short pays more items y reached =
        safe_in_home w side values order code (cell_home c.0) p.to direct planned fine (going x.machine.at seen) s.names fetched ag.octets short noted x0 referent_good pays more items y reached

    -- a fault within the value is one of the stream
    pub referent_fault : (source : SourceOver) (notes : NotesSeen) (x1 : State) (e : DecodeFault) → EndsFault values order code (cell_home c.0) x0 source notes x1 e
        → FaultOf the_head w order fetched noted (length x0.cells) source (decoding_of notes) e
    referent_fault source notes x1 e ends =
        fault_comes values order code w.table (cell_home c.0) p.to 32 direct target planned fetched noted x0 referent_good source notes the_head w ag.octets ag.needed
        (λ part all at so why stop. law.referent_refused w side order fetched noted direct (with_next o x) s seen p ps n ag c.0 is_cell is_new part all at so why stop)
        (λ part all. law.referent_goes w side order fetched noted direct (with_next o x) s seen p ps n ag c.0 is_cell is_new part all)
        (few_now w side order fetched noted direct (with_next o x) s seen (p ∷ ps) n ag) x1 e ends

    -- what the value is
    pub referent_whole : (source : SourceOver) (notes : NotesSeen) (x1 : State)
        → ((more : List ℕ) (items : List Item) (y : State) → Reaches values order code (cell_home c.0) x0 more items y → y.at ≤ STREAM_LIMIT)
        → EndsWhole values order code (cell_home c.0) x0 source notes x1
        → HomeWhole order w.table (cell_home c.0) p.to direct target fetched noted (length x0.cells) source (decoding_of notes) x1
    referent_whole source notes x1 within ends = whole_comes values order code w.table (cell_home c.0) p.to 32 direct target planned fetched noted x0 referent_good source notes x1 within ends
