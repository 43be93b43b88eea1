-- The next root, where it is a reference pointer: its referent is read in its place. From what is kept of the stream before the referent's value, through the
-- run of its code, to what is kept after it.
-- `b` is what is kept, `s` the state of the reader, `x` the state of the decoder at the beginning of the value and `x1` at its end, `root` and `k` are what is
-- kept of the root and of its cell.
use Rattle.std.proofs.Common.{◌≡◌, ◌≤◌, ℕ, ◌+◌, suc, List, [], ◌∷◌, ◌++◌, length, None, Some, ap, sym, subst}
use Rattle.std.specs.Prelude.{slice_get}
use Rattle.nd_base.specs.declared.octets.Order.{Order}
use Rattle.nd_base.specs.declared.TheConstants.{STREAM_LIMIT}
use Rattle.nd_base.specs.Over.{SourceOver}
use Rattle.nd_types.specs.declared.types.Class.TheVariants.{Ref}
use Rattle.nd_types.specs.declared.types.TypeDef.TheVariants as def
use Rattle.nd_types.specs.declared.types.TypeId.{TypeId}
use Rattle.nd_types.specs.declared.types.Operation.{Operation}
use Rattle.nd_types.specs.Legal.{IsLegal}
use Rattle.nd_types.specs.Table.{type_at}
use Rattle.nd_types.specs.Roots.{Root}
use Rattle.nd_value.specs.declared.item.Home.{Home}
use Rattle.nd_value.specs.declared.item.Item.{Item}
use Rattle.nd_value.specs.Setting.{Setting, root_list, cell_home}
use Rattle.nd_grammar.specs.Entry.{EntryAt}
use Rattle.nd_grammar.specs.LegalSide.{IsLegalSide}
use Rattle.nd_grammar.specs.Reader.{Names, Read, with_cell}
use Rattle.nd_grammar.specs.StreamReader.{Reading}
use Rattle.ndr_code.specs.declared.instr.Instr.{Instr}
use Rattle.ndr_code.specs.declared.lists.EnumList.{EnumList}
use Rattle.ndr_code.specs.Code.{code_of, whole_at}
use Rattle.ndr_decoder_laws.specs.reader.Around.{going}
use Rattle.ndr_decoder_laws.specs.steps.Good.{Good}
use Rattle.ndr_decoder_laws.specs.steps.Spots.{IsFine, IsPlanned}
use Rattle.ndr_decoder_laws.specs.steps.Steps.{State}
use Rattle.ndr_decoder_laws.specs.runs.Paid.{IsPaid}
use Rattle.ndr_decoder_laws.specs.runs.Reaching.{IsSafe, Reaches}
use Rattle.ndr_decoder_laws.proofs.runs.Safe.{safe_in_home}
use Rattle.ndr_decoder_state.specs.Notes.{NotesSeen}
use Rattle.ndr_decoder_state.specs.declared.fault.DecodeFault.{DecodeFault}
use Rattle.ndr_decoder_value.specs.Reaching.{EndsWhole, EndsFault}
use Rattle.nd_grammar.specs.decoded.Verdict.{is_direct}
use Rattle.ndr_decoder_laws.specs.stream.Between.{Between, Agrees, Opens, home_target}
use Rattle.ndr_decoder_laws.proofs.stream.Cells.{told_reference}
use Rattle.ndr_decoder_laws.proofs.stream.FewReferences.{few_next}
use Rattle.ndr_decoder_laws.proofs.stream.HomeBegins.{home_begins}
use Rattle.ndr_decoder_laws.proofs.stream.DirectEnds.{its_usable, free, direct_refused, direct_goes}
use Rattle.ndr_decoder_laws.specs.stream.Report.{the_head}
use Rattle.ndr_decode.specs.Streaming.{FaultOf, HomeWhole}
use Rattle.ndr_decode.proofs.HomeComes.{whole_comes, fault_comes, decoding_of}

module _ (w : Setting) (side : IsLegalSide w) (order : Order) (fetched : List ℕ) (noted : List Item) (direct : ℕ) (b : Between) (s : Reading) (seen : List EntryAt) (n : ℕ)
    (agrees : Agrees w side order fetched noted direct b s seen [] (suc n)) (r : Root) (there : slice_get (root_list w) (length s.roots) ≡ Some r) (to : TypeId)
    (refers : type_at w.table r.of ≡ Some (def.Pointer Ref to)) (x : State) (opens : Opens (whole_at w.table to.0) b (b.cells ++ to.0 ∷ []) x) (values : List EnumList)
    (operations : List Operation) (legal : IsLegal w.table operations) (code : List Instr) (code_is : code ≡ code_of w.table operations)
    (planned : IsPlanned code values w.table) where
  abbrev here : Home
  here = cell_home (length s.names.cells + 1)

  abbrev names : Names
  names = with_cell to.0 s.names

  abbrev target : List ℕ → Read
  target = home_target w order b seen here to.0 names

  pub direct_good : Good order fetched code w.table here to.0 32 noted (direct + 1) target x
  direct_good =
      subst (λ c. Good order fetched c w.table here to.0 32 noted (direct + 1) target x) (sym code_is)
      (home_begins w.table operations legal order fetched noted (direct + 1) here seen names to.0
      (its_usable w side order fetched noted direct b s seen n agrees r there to refers) b agrees.keeps.at (b.cells ++ to.0 ∷ []) x opens
      (told_reference order fetched here seen s.names b.cells b.numbers None 0 [] to.0 (agrees.keeps.told here (free w side order fetched noted direct b s seen n agrees r there to refers))))

  pub direct_safe : IsFine w.table 32 to.0 → length fetched ≤ STREAM_LIMIT → IsPaid x → (more : List ℕ) (items : List Item) (y : State) → Reaches values order code here x more items y
      → IsSafe code y
  direct_safe fine short pays more items y reached =
      safe_in_home w side values order code here to.0 (direct + 1) planned fine (going b.at seen) names fetched agrees.octets short noted x direct_good pays more items y reached

  -- a fault within the value is one of the stream
  pub direct_fault : (source : SourceOver) (notes : NotesSeen) (x1 : State) (e : DecodeFault) → EndsFault values order code here x source notes x1 e
      → FaultOf the_head w order fetched noted (length x.cells) source (decoding_of notes) e
  direct_fault source notes x1 e ends =
      fault_comes values order code w.table here to.0 32 (direct + 1) target planned fetched noted x direct_good source notes the_head w agrees.octets agrees.needed
      (λ part all at so why stop. direct_refused w side order fetched noted direct b s seen n agrees r there to refers part all at so why stop)
      (λ part all. direct_goes w side order fetched noted direct b s seen n agrees r there to refers part all)
      (few_next w side order fetched noted direct b s seen [] (suc n) agrees r there (ap is_direct refers)) x1 e ends

  -- what the value is, and what is kept after it
  module _ (source : SourceOver) (notes : NotesSeen) (x1 : State)
      (within : (more : List ℕ) (items : List Item) (y : State) → Reaches values order code here x more items y → y.at ≤ STREAM_LIMIT) (ends : EndsWhole values order code here x source notes x1) where
    abbrev pub read : HomeWhole order w.table here to.0 (direct + 1) target fetched noted (length x.cells) source (decoding_of notes) x1
    read = whole_comes values order code w.table here to.0 32 (direct + 1) target planned fetched noted x direct_good source notes x1 within ends
