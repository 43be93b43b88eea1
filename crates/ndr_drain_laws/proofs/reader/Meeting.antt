-- What reading one chunk of a pipe by itself comes to: the laws of `src/laws.rt`, one by one.
use Rattle.std.specs.Prelude.{◌≡◌, ◌≤◌, ◌<◌, ℕ, ◌+◌, suc, List, [], ◌++◌, length, Some, None}
use Rattle.nd_base.specs.declared.octets.Order.{Order}
use Rattle.nd_base.specs.declared.TheConstants.{STREAM_LIMIT}
use Rattle.nd_types.specs.declared.types.TypeDef.TheVariants as def
use Rattle.nd_types.specs.declared.types.TypeId.{TypeId}
use Rattle.nd_types.specs.Number.{AreOctets, unsigned}
use Rattle.nd_types.specs.Table.{type_at}
use Rattle.nd_value.specs.declared.item.Item.{Item}
use Rattle.nd_value.specs.Setting.{Setting}
use Rattle.nd_value.specs.Tree as tree
use Rattle.nd_value.specs.Tree.{items, node}
use Rattle.nd_grammar.specs.declared.reason.Reason.{Reason}
use Rattle.nd_grammar.specs.declared.reason.Reason.TheVariants as reason
use Rattle.nd_grammar.specs.Entry.{gap}
use Rattle.nd_grammar.specs.LegalSide.{IsLegalSide}
use Rattle.nd_grammar.specs.Stream.{kids_of}
use Rattle.ndr_code.specs.declared.instr.Instr.{Instr}
use Rattle.ndr_code.specs.declared.lists.EnumList.{EnumList}
use Rattle.ndr_code.specs.Code.{place_at}
use Rattle.ndr_drain_laws.specs.parts.Parts.{BadPart, IsPart, Spot}
use Rattle.ndr_decoder_laws.specs.steps.Good.{Good, Whole}
use Rattle.ndr_decoder_laws.specs.steps.Spots.{IsFine, IsPlanned}
use Rattle.ndr_decoder_laws.specs.steps.StepItems.{gap_items}
use Rattle.ndr_decoder_laws.specs.steps.Steps.{State}
use Rattle.ndr_decoder_laws.specs.runs.Reaching.{IsSafe, Reaches}
use Rattle.ndr_decoder_laws.specs.runs.Refusals.{IsRefusedHere}
use Rattle.ndr_decoder_laws.specs.stream.Between.{AreNeeded}
use Rattle.ndr_drain_laws.specs.reader.PartReader.{IsAtPipe, after_count, header_items, part_target, pipe_home, read_part, to_elements, type_of_root}
use Rattle.ndr_drain_laws.specs.reader.Outcomes.{OpensPart, PartCut, PartRefused, PartWhole}
use Rattle.ndr_drain_laws.proofs.reader.Decoding.{begins, is_cut, is_pipe, is_refused, is_safe, is_whole}
use Rattle.ndr_drain_laws.proofs.reader.Fewer.{cut_before}
use Rattle.ndr_drain_laws.proofs.reader.Headers.{count_is_cut, count_is_end, count_is_long, count_is_refused, gap_is_cut, gap_is_refused}
use Rattle.ndr_drain_laws.proofs.reader.Refused.{bad_part}
use Rattle.ndr_drain_laws.proofs.reader.Wholes.{its_part}

pub part_accepted : (w : Setting) → IsLegalSide w → (order : Order) (s : Spot) → IsAtPipe w s → (before octets : List ℕ) → length before ≡ s.place → AreOctets (before ++ octets)
    → (read_part w order (before ++ octets) s).progress.stop ≡ None → (read_part w order (before ++ octets) s).progress.at ≡ s.place + length octets
    → IsPart w order s (record { octets = octets; elements = items (read_part w order (before ++ octets) s).trees })
part_accepted w side order s at_pipe before octets of_place all no_stop to_end = its_part w side order s at_pipe before octets of_place all no_stop to_end

pub part_refused : (w : Setting) → IsLegalSide w → (order : Order) (s : Spot) → IsAtPipe w s → (before octets : List ℕ) → length before ≡ s.place → AreOctets (before ++ octets)
    → (place : ℕ) (why : Reason) → (read_part w order (before ++ octets) s).progress.stop ≡ Some (place, why) → BadPart w order s octets place why
part_refused w side order s at_pipe before octets of_place all place why stop = bad_part w side order s at_pipe before octets of_place all place why stop

pub gap_refused : (w : Setting) → IsLegalSide w → (order : Order) (s : Spot) → IsAtPipe w s → (os : List ℕ) → AreOctets os → length os < gap s.place 4
    → PartRefused w order s os [] (s.place + length os) reason.Truncated
gap_refused = gap_is_refused

pub gap_cut : (w : Setting) → IsLegalSide w → (order : Order) (s : Spot) → IsAtPipe w s → (os : List ℕ) → AreOctets os → PartCut w order s os []
gap_cut = gap_is_cut

pub count_long : (w : Setting) → IsLegalSide w → (order : Order) (s : Spot) → IsAtPipe w s → (g : List ℕ) → AreOctets g → length g ≡ gap s.place 4
    → STREAM_LIMIT < after_count s → PartRefused w order s g (gap_items (pipe_home s) s.place g) STREAM_LIMIT reason.TooLong
count_long w side order s at_pipe g a size far = count_is_long w side order s at_pipe g a size far

pub count_refused : (w : Setting) → IsLegalSide w → (order : Order) (s : Spot) → IsAtPipe w s → (g os : List ℕ) → AreOctets g → length g ≡ gap s.place 4 → AreOctets os
    → length os < 4 → after_count s ≤ STREAM_LIMIT → PartRefused w order s (g ++ os) (gap_items (pipe_home s) s.place g) (s.place + length (g ++ os)) reason.Truncated
count_refused w side order s at_pipe g os a size b less short = count_is_refused w side order s at_pipe g os a size b less short

pub count_cut : (w : Setting) → IsLegalSide w → (order : Order) (s : Spot) → IsAtPipe w s → (g os : List ℕ) → AreOctets g → length g ≡ gap s.place 4 → AreOctets os
    → PartCut w order s (g ++ os) (gap_items (pipe_home s) s.place g)
count_cut w side order s at_pipe g os a size b = count_is_cut w side order s at_pipe g a size os b

pub count_end : (w : Setting) → IsLegalSide w → (order : Order) (s : Spot) → IsAtPipe w s → (g os : List ℕ) → AreOctets g → length g ≡ gap s.place 4 → AreOctets os
    → length os ≡ 4 → after_count s ≤ STREAM_LIMIT → unsigned order os ≡ 0 → PartWhole w order s (g ++ os) [] (header_items order s g os)
count_end w side order s at_pipe g os a size b four short z = count_is_end w side order s at_pipe g os a size b four short z

pub elements_begin : (w : Setting) → IsLegalSide w → (order : Order) (s : Spot) → IsAtPipe w s → (elem : TypeId) → type_at w.table (type_of_root w s.root) ≡ Some (def.Pipe elem)
    → (g os : List ℕ) → AreOctets g → length g ≡ gap s.place 4 → AreOctets os → length os ≡ 4 → after_count s ≤ STREAM_LIMIT → (c : ℕ) → unsigned order os ≡ suc c
    → (values : List EnumList) (code : List Instr) → IsPlanned code values w.table → IsFine w.table 32 elem.0 → (x : State) → OpensPart (place_at w.table elem.0) c (after_count s) x
    → Good order (to_elements s g os) code w.table (pipe_home s) (type_of_root w s.root) 33 (header_items order s g os) 0 (part_target w order s elem c) x
elements_begin w side order s at_pipe elem there g os a size b four short c some values code planned fine x o =
    begins w side order s at_pipe elem there g os a size b four short c some values code planned fine x o

pub elements_safe : (w : Setting) → IsLegalSide w → (order : Order) (s : Spot) → IsAtPipe w s → (elem : TypeId) → type_at w.table (type_of_root w s.root) ≡ Some (def.Pipe elem)
    → (g os : List ℕ) → AreOctets g → length g ≡ gap s.place 4 → AreOctets os → length os ≡ 4 → after_count s ≤ STREAM_LIMIT → (c : ℕ) → unsigned order os ≡ suc c
    → (values : List EnumList) (code : List Instr) → IsPlanned code values w.table → IsFine w.table 32 elem.0 → (x : State) → OpensPart (place_at w.table elem.0) c (after_count s) x
    → (fetched : List ℕ) (noted : List Item) (y : State) → Reaches values order code (pipe_home s) x fetched noted y → IsSafe code y
elements_safe w side order s at_pipe elem there g os a size b four short c some values code planned fine x o fetched noted y reached =
    is_safe w side order s at_pipe elem there g os a size b four short c some values code planned fine x o fetched noted y reached

pub elements_whole : (w : Setting) → IsLegalSide w → (order : Order) (s : Spot) → IsAtPipe w s → (elem : TypeId) → type_at w.table (type_of_root w s.root) ≡ Some (def.Pipe elem)
    → (g os : List ℕ) → AreOctets g → length g ≡ gap s.place 4 → AreOctets os → length os ≡ 4 → after_count s ≤ STREAM_LIMIT → (c : ℕ) → unsigned order os ≡ suc c
    → (more : List ℕ) → AreOctets more → (noted : List Item) (x : State)
    → (it : Whole order (to_elements s g os ++ more) w.table (pipe_home s) (type_of_root w s.root) (header_items order s g os ++ noted) 0 (part_target w order s elem c) x)
    → PartWhole w order s ((g ++ os) ++ more) (items (kids_of it.v)) (header_items order s g os ++ noted)
elements_whole w side order s at_pipe elem there g os a size b four short c some more all noted x it =
    is_whole w side order s at_pipe elem there g os a size b four short c some more all noted x it

pub elements_refused : (w : Setting) → IsLegalSide w → (order : Order) (s : Spot) → IsAtPipe w s → (elem : TypeId) → type_at w.table (type_of_root w s.root) ≡ Some (def.Pipe elem)
    → (g os : List ℕ) → AreOctets g → length g ≡ gap s.place 4 → AreOctets os → length os ≡ 4 → after_count s ≤ STREAM_LIMIT → (c : ℕ) → unsigned order os ≡ suc c
    → (more : List ℕ) → AreOctets more → (noted : List Item) (cells place : ℕ) (why : Reason)
    → IsRefusedHere order (to_elements s g os ++ more) (header_items order s g os ++ noted) cells 0 (part_target w order s elem c) place why
    → AreNeeded (part_target w order s elem c) (to_elements s g os) more
    → PartRefused w order s ((g ++ os) ++ more) (header_items order s g os ++ noted) place why × (cells ≡ 0)
elements_refused w side order s at_pipe elem there g os a size b four short c some more all noted cells place why it needed =
    is_refused w side order s at_pipe elem there g os a size b four short c some more all noted cells place why it needed

pub elements_cut : (w : Setting) → IsLegalSide w → (order : Order) (s : Spot) → IsAtPipe w s → (elem : TypeId) → type_at w.table (type_of_root w s.root) ≡ Some (def.Pipe elem)
    → (g os : List ℕ) → AreOctets g → length g ≡ gap s.place 4 → AreOctets os → length os ≡ 4 → after_count s ≤ STREAM_LIMIT → (c : ℕ) → unsigned order os ≡ suc c
    → (code : List Instr) (fetched more : List ℕ) → AreOctets fetched → AreOctets more → (noted : List Item) (x : State)
    → Good order (to_elements s g os ++ fetched) code w.table (pipe_home s) (type_of_root w s.root) 33 (header_items order s g os ++ noted) 0 (part_target w order s elem c) x
    → PartCut w order s ((g ++ os) ++ (fetched ++ more)) (header_items order s g os ++ noted) × (length x.cells ≡ 0)
elements_cut w side order s at_pipe elem there g os a size b four short c some code fetched more p q noted x good =
    is_cut w side order s at_pipe elem there g os a size b four short c some code fetched more p q noted x good

pub elements_pipe : (w : Setting) → IsLegalSide w → (order : Order) (s : Spot) → IsAtPipe w s → (elem : TypeId) → type_at w.table (type_of_root w s.root) ≡ Some (def.Pipe elem)
    → (g os : List ℕ) → AreOctets g → length g ≡ gap s.place 4 → AreOctets os → length os ≡ 4 → after_count s ≤ STREAM_LIMIT → (c : ℕ) → unsigned order os ≡ suc c
    → (more : List ℕ) → AreOctets more → (noted : List Item) (x : State)
    → (it : Whole order (to_elements s g os ++ more) w.table (pipe_home s) (type_of_root w s.root) (header_items order s g os ++ noted) 0 (part_target w order s elem c) x)
    → (it.v ≡ node tree.Pipe (kids_of it.v)) × (length (items (kids_of it.v)) ≡ suc c) × (length x.cells ≡ 0)
elements_pipe w side order s at_pipe elem there g os a size b four short c some more all noted x it =
    is_pipe w side order s at_pipe elem there g os a size b four short c some more all noted x it

pub fewer : (w : Setting) (order : Order) (s : Spot) (octets : List ℕ) (first others : List Item) → PartCut w order s octets (first ++ others) → PartCut w order s octets first
fewer = cut_before
