-- The next root, where it is no reference pointer: from what is kept of the stream before its value, through the run of its code, to what is kept after it.
-- `b` is what is kept, `s` the state of the reader, `x` the state of the decoder at the beginning of the value and `x1` at its end, `k` what is kept of the root.
use Rattle.std.proofs.Common.{◌≡◌, ◌≤◌, ℕ, suc, false, List, [], length, Some, sym, subst, arith}
use Rattle.std.specs.Prelude.{slice_get}
use Rattle.nd_base.specs.declared.octets.Order.{Order}
use Rattle.nd_base.specs.declared.TheConstants.{STREAM_LIMIT}
use Rattle.nd_base.specs.Over.{SourceOver}
use Rattle.nd_grammar.specs.ReaderState.{Usable}
use Rattle.nd_types.specs.declared.types.Operation.{Operation}
use Rattle.nd_types.specs.Legal.{IsLegal}
use Rattle.nd_types.specs.Table.{type_at}
use Rattle.nd_types.specs.Roots.{Root}
use Rattle.nd_value.specs.declared.item.Home.{Home}
use Rattle.nd_value.specs.declared.item.Home.TheVariants as home
use Rattle.nd_value.specs.declared.item.Item.{Item}
use Rattle.nd_value.specs.Setting.{Setting, root_list}
use Rattle.nd_grammar.specs.Entry.{EntryAt}
use Rattle.nd_grammar.specs.LegalSide.{IsLegalSide}
use Rattle.nd_grammar.specs.Reader.{Read}
use Rattle.nd_grammar.specs.StreamReader.{Reading}
use Rattle.ndr_code.specs.declared.instr.Instr.{Instr}
use Rattle.ndr_code.specs.declared.lists.EnumList.{EnumList}
use Rattle.ndr_code.specs.Code.{code_of, whole_at}
use Rattle.ndr_decoder_laws.specs.reader.Around.{going}
use Rattle.ndr_decoder_laws.specs.steps.Good.{Good}
use Rattle.ndr_decoder_laws.specs.steps.Spots.{IsFine, IsPlanned}
use Rattle.ndr_decoder_laws.specs.steps.Steps.{State}
use Rattle.ndr_decoder_laws.specs.runs.Paid.{IsPaid}
use Rattle.ndr_decoder_laws.specs.runs.Reaching.{IsSafe, Reaches}
use Rattle.ndr_decoder_laws.proofs.runs.Safe.{safe_in_home}
use Rattle.ndr_decoder_state.specs.Notes.{NotesSeen}
use Rattle.ndr_decoder_state.specs.declared.fault.DecodeFault.{DecodeFault}
use Rattle.ndr_decoder_value.specs.Reaching.{EndsWhole, EndsFault}
use Rattle.nd_grammar.specs.decoded.Verdict.{is_direct}
use Rattle.ndr_decoder_laws.specs.stream.Between.{Between, Agrees, Opens, home_target}
use Rattle.ndr_decoder_laws.proofs.stream.FewReferences.{few_now}
use Rattle.ndr_decoder_laws.proofs.stream.HomeBegins.{home_begins}
use Rattle.ndr_decoder_laws.proofs.stream.RootEnds.{root_refused, root_goes}
use Rattle.ndr_decoder_laws.specs.stream.Report.{the_head}
use Rattle.ndr_decode.specs.Streaming.{FaultOf, HomeWhole}
use Rattle.ndr_decode.proofs.HomeComes.{whole_comes, fault_comes, decoding_of}

module _ (w : Setting) (side : IsLegalSide w) (order : Order) (fetched : List ℕ) (noted : List Item) (direct : ℕ) (b : Between) (s : Reading) (seen : List EntryAt) (n : ℕ)
    (agrees : Agrees w side order fetched noted direct b s seen [] (suc n)) (r : Root) (there : slice_get (root_list w) (length s.roots) ≡ Some r)
    (plain : is_direct (type_at w.table r.of) ≡ false) (usable : Usable w.table r.of) (x : State) (opens : Opens (whole_at w.table r.of) b b.cells x) (values : List EnumList)
    (operations : List Operation) (legal : IsLegal w.table operations) (code : List Instr) (code_is : code ≡ code_of w.table operations)
    (planned : IsPlanned code values w.table) where
  abbrev here : Home
  here = home.Root (length s.roots)

  abbrev target : List ℕ → Read
  target = home_target w order b seen here r.of s.names

  pub root_good : Good order fetched code w.table here r.of 32 noted direct target x
  root_good =
      subst (λ c. Good order fetched c w.table here r.of 32 noted direct target x) (sym code_is)
      (home_begins w.table operations legal order fetched noted direct here seen s.names r.of usable b agrees.keeps.at b.cells x opens (agrees.keeps.told here (omega arith)))

  pub root_safe : IsFine w.table 32 r.of → length fetched ≤ STREAM_LIMIT → IsPaid x → (more : List ℕ) (items : List Item) (y : State) → Reaches values order code here x more items y
      → IsSafe code y
  root_safe fine short pays more items y reached =
      safe_in_home w side values order code here r.of direct planned fine (going b.at seen) s.names fetched agrees.octets short noted x root_good pays more items y reached

  -- a fault within the value is one of the stream
  pub root_fault : (source : SourceOver) (notes : NotesSeen) (x1 : State) (e : DecodeFault) → EndsFault values order code here x source notes x1 e
      → FaultOf the_head w order fetched noted (length x.cells) source (decoding_of notes) e
  root_fault source notes x1 e ends =
      fault_comes values order code w.table here r.of 32 direct target planned fetched noted x root_good source notes the_head w agrees.octets agrees.needed
      (λ part all at so why stop. root_refused w side order fetched noted direct b s seen n agrees r there plain part all at so why stop)
      (λ part all. root_goes w side order fetched noted direct b s seen n agrees r there plain part all)
      (few_now w side order fetched noted direct b s seen [] (suc n) agrees) x1 e ends

  -- what the value is
  pub root_whole : (source : SourceOver) (notes : NotesSeen) (x1 : State) → ((more : List ℕ) (items : List Item) (y : State) → Reaches values order code here x more items y → y.at ≤ STREAM_LIMIT)
      → EndsWhole values order code here x source notes x1
      → HomeWhole order w.table here r.of direct target fetched noted (length x.cells) source (decoding_of notes) x1
  root_whole source notes x1 within ends = whole_comes values order code w.table here r.of 32 direct target planned fetched noted x root_good source notes x1 within ends
