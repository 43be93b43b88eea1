-- What the octets of a source are printed, explained and traced as, and why they are refused.
use Rattle.std.specs.Prelude.{◌≡◌, ℕ, zero, suc, true, List, [], ◌∷◌, ◌++◌, length, Option, Some, None, codes, decimal, Result, Ok, Err, ⊤}
use Rattle.std.specs.Io.KnownBytes.{Consumes, IsAtEnd}
use Rattle.nd_base.specs.declared.octets.Order.{Order}
use Rattle.nd_base.specs.declared.TheConstants.{STREAM_LIMIT}
use Rattle.nd_base.specs.declared.octets.Memory.{Memory as NoMemory}
use Rattle.nd_base.specs.Over.{SourceOver, HasRisen}
use Rattle.nd_value.specs.declared.value.Graph.{Graph}
use Rattle.nd_value.specs.declared.item.Item.{Item}
use Rattle.nd_value.specs.Setting.{Setting}
use Rattle.nd_value.specs.Conforms.{Conforms}
use Rattle.nd_value.specs.Canon.{IsCanon}
use Rattle.nd_grammar.specs.declared.reason.Reason.{Reason}
use Rattle.nd_grammar.specs.declared.reason.Reason.TheVariants as reason
use Rattle.nd_grammar.specs.Stream.{Represents}
use Rattle.nd_grammar.specs.Refusal.{Bad}
use Rattle.nd_grammar.specs.decoded.Verdict.{MayFollow, fetched_to}
use Rattle.nd_grammar.specs.Entry.{end_to_end}
use Rattle.nd_grammar.specs.Items.{items}
use Rattle.text_grammar.specs.Written.{IsText}
use Rattle.ndr_explain.specs.Explained.{explanation, explanation_over, filled_gaps}
use Rattle.ndr_trace_value.specs.Traces.{IsTrace}
use Rattle.command_refusals.specs.declared.refusal.Refusal.{Refusal}
use Rattle.command_refusals.specs.declared.refusal.Refusal.TheVariants.{Memory, ReadFault, BadOctets}
use Rattle.command_refusals.specs.declared.refusal.OctetsFault.TheVariants.{Refused, Trailing}
use Rattle.command_refusals.specs.declared.refusal.OctetsFault.{OctetsFault}
use Rattle.command_refusals.specs.Lines.{fault_text}
use Rattle.command_streams.specs.Input.{AreRead}
use Rattle.command_decode.specs.declared.held.Traced.{Traced}
use Rattle.command_decode.specs.declared.held.Traced.TheVariants as traced
use Rattle.command_decode.specs.declared.tracing.Stopped.{Stopped}
use Rattle.command_decode.specs.Taken.{IsTaken}

-- ## What octets are printed as, and why they are refused

-- `w` is a setting, `s` a source over the call.

-- The octets are a stream of a graph that conforms, and the text is that graph's.
pub record IsDecoding (w : Setting) (order : Order) (octets text : List ℕ) : Type 0 where
  pub graph : Graph
  pub conforms : Conforms w graph
  pub represents : Represents w order octets graph
  pub is_text : IsText w graph text

-- These octets were taken of the source, and are all that it gives.
pub record IsWhole (s : SourceOver) (octets : List ℕ) : Type 0 where
  pub taken : Consumes s.left s.left_now octets
  pub ended : s.ended_now ≡ true
  pub none_left : IsAtEnd s.left_now

-- The source was read to its end, and its octets are decoded to this text.
pub record IsPrinted (s : SourceOver) (w : Setting) (order : Order) (text : List ℕ) : Type 0 where
  pub octets : List ℕ
  pub whole : IsWhole s octets
  pub decoding : IsDecoding w order octets text

-- The octets that were taken are refused, and end with what is refused; so are all that begin with them, and where they are cut short the source
-- gives no more.
pub record IsRefusedInput (s : SourceOver) (w : Setting) (order : Order) (place : ℕ) (why : Reason) : Type 0 where
  pub octets : List ℕ
  pub taken : Consumes s.left s.left_now octets
  pub bad : Bad w order octets place why
  pub ends : length octets ≡ fetched_to why (length octets) bad.here
  pub stays : (more : List ℕ) → MayFollow why more → Bad w order (octets ++ more) place why
  pub ended : why ≡ reason.Truncated → (s.ended_now ≡ true) × IsAtEnd s.left_now

-- The octets that were taken are a stream of a graph that conforms, and one octet more.
pub record IsTrailedInput (s : SourceOver) (w : Setting) (order : Order) (place : ℕ) : Type 0 where
  pub octets : List ℕ
  pub next : ℕ
  pub taken : Consumes s.left s.left_now (octets ++ next ∷ [])
  pub place_is : place ≡ length octets
  pub graph : Graph
  pub represents : Represents w order octets graph
  pub conforms : Conforms w graph

-- why the octets of a source are not printed; running out of memory needs no cause
abbrev pub IsInputCause : SourceOver → Setting → Order → Refusal → Type 0
IsInputCause s w order ReadFault = HasRisen s.faults
IsInputCause s w order Memory = ⊤
IsInputCause s w order (BadOctets place (Refused why)) = IsRefusedInput s w order place why
IsInputCause s w order (BadOctets place Trailing) = IsTrailedInput s w order place
IsInputCause s w order _ = ⊥

-- ## What octets are explained as

-- `w` is a setting, `s` a source over the call, `g` a graph.

-- The octets are a stream of a graph that conforms, whose cells are numbered in the order of the stream, and the text has a line for each item of
-- that stream.
pub record IsExplanation (w : Setting) (order : Order) (octets text : List ℕ) : Type 0 where
  pub graph : Graph
  pub conforms : Conforms w graph
  pub canonical : IsCanon w graph graph
  pub represents : Represents w order octets graph
  pub lines : text ≡ explanation w graph (items order octets (end_to_end 0 represents.entries))

-- The source was read to its end, and this text explains its octets.
pub record IsExplained (s : SourceOver) (w : Setting) (order : Order) (text : List ℕ) : Type 0 where
  pub octets : List ℕ
  pub whole : IsWhole s octets
  pub explanation : IsExplanation w order octets text

-- The octets that were taken, so many, are a stream of a graph that conforms, and these are its items.
pub record IsLogged (s : SourceOver) (w : Setting) (order : Order) (taken : ℕ) (g : Graph) (log : List Item) : Type 0 where
  pub first : IsTaken s w order taken g
  pub canonical : IsCanon w g g
  pub items_are : log ≡ items order first.octets (end_to_end 0 first.represents.entries)

-- ## What octets are traced as

-- `w` is a setting.

-- the line of a fault at a place, with the path of what is refused
abbrev pub fault_line : ℕ → OctetsFault → List ℕ → List ℕ
fault_line place why path = decimal place ++ codes " fault " ++ fault_text why ++ codes " " ++ path ++ codes "\n"

-- of an octet that follows the values no path is shown
abbrev pub trailing_line : ℕ → List ℕ
trailing_line place = decimal place ++ codes " fault Trailing\n"

-- the last line of a trace: how many gaps have octets that are not all zero; none if all are zero
abbrev pub gaps_line : ℕ → List ℕ
gaps_line zero = []
gaps_line (suc n) = codes "gaps that are not zero: " ++ (decimal (suc n) ++ codes "\n")

-- The octets are a stream of a graph that conforms, whose cells are numbered in the order of the stream, and these lines explain the items of that
-- stream; so many of its gaps have octets that are not all zero, which the lines show.
pub record IsShown (w : Setting) (order : Order) (octets : List ℕ) (gaps : ℕ) (lines : List ℕ) : Type 0 where
  pub graph : Graph
  pub conforms : Conforms w graph
  pub canonical : IsCanon w graph graph
  pub represents : Represents w order octets graph
  pub lines_are : lines ≡ explanation_over w graph octets (items order octets (end_to_end 0 represents.entries))
  pub gaps_are : gaps ≡ filled_gaps octets (items order octets (end_to_end 0 represents.entries))

-- The octets are explained to their end.
pub record IsWholeTrace (w : Setting) (order : Order) (octets text : List ℕ) : Type 0 where
  pub gaps : ℕ
  pub shown : List ℕ
  pub explanation : IsShown w order octets gaps shown
  pub text_is : text ≡ shown ++ gaps_line gaps

-- The source was read to its end, and this text traces its octets.
pub record IsTracedWhole (s : SourceOver) (w : Setting) (order : Order) (text : List ℕ) : Type 0 where
  pub octets : List ℕ
  pub whole : IsWhole s octets
  pub trace : IsWholeTrace w order octets text

-- The first of the octets are refused at a place, and these lines trace them.
pub record IsRefusedTrace (w : Setting) (order : Order) (octets : List ℕ) (place : ℕ) (why : Reason) (lines : List ℕ) : Type 0 where
  pub fetched : List ℕ
  pub more : List ℕ
  pub split : octets ≡ fetched ++ more
  pub follow : MayFollow why more
  pub shown : List ℕ
  pub path : List ℕ
  pub trace : IsTrace w order fetched place why shown path
  pub lines_are : lines ≡ shown ++ (fault_line place (Refused why) path ++ gaps_line (filled_gaps fetched (items order fetched trace.bad.earlier)))

-- The first of the octets are explained, and an octet follows them.
pub record IsTrailedTrace (w : Setting) (order : Order) (octets : List ℕ) (place : ℕ) (lines : List ℕ) : Type 0 where
  pub fetched : List ℕ
  pub next : ℕ
  pub rest : List ℕ
  pub split : octets ≡ fetched ++ next ∷ rest
  pub gaps : ℕ
  pub shown : List ℕ
  pub explanation : IsShown w order fetched gaps shown
  pub place_is : place ≡ length fetched
  pub lines_are : lines ≡ shown ++ (trailing_line place ++ gaps_line gaps)

-- octets are refused at a place, and these lines trace them
abbrev pub IsRefusedWith : Setting → Order → List ℕ → ℕ → OctetsFault → List ℕ → Type 0
IsRefusedWith w order octets place (Refused why) lines = IsRefusedTrace w order octets place why lines
IsRefusedWith w order octets place Trailing lines = IsTrailedTrace w order octets place lines

-- what octets are traced as: an explanation, or the trace of their refusal
abbrev pub IsTraced : Setting → Order → List ℕ → Traced → Type 0
IsTraced w order octets (traced.Whole text) = IsWholeTrace w order octets text
IsTraced w order octets (traced.Refused lines place why) = IsRefusedWith w order octets place why lines

-- ## Why octets are not explained to their end, and what is written beside the refusal

-- `w` is a setting, `s` a source over the call.

-- The source was read, to its end or to one octet past the limit of a stream. Its octets are refused at a place, and these lines trace them.
pub record IsRefusedSource (s : SourceOver) (w : Setting) (order : Order) (place : ℕ) (why : OctetsFault) (lines : List ℕ) : Type 0 where
  pub octets : List ℕ
  pub read : AreRead s STREAM_LIMIT octets
  pub refused : IsRefusedWith w order octets place why lines

-- why they are not explained; running out of memory needs no cause
abbrev pub IsTraceCause : SourceOver → Setting → Order → Refusal → Type 0
IsTraceCause s w order Memory = ⊤
IsTraceCause s w order ReadFault = HasRisen s.faults
IsTraceCause s w order (BadOctets place why) = (lines : List ℕ) × IsRefusedSource s w order place why lines
IsTraceCause s w order _ = ⊥

-- the refusal is that of octets, and these lines trace them
abbrev pub AreLines : SourceOver → Setting → Order → Refusal → List ℕ → Type 0
AreLines s w order r lines = (place : ℕ) × (why : OctetsFault) × (r ≡ BadOctets place why) × IsRefusedSource s w order place why lines

-- the refusal is not one of octets
abbrev pub IsOther : Refusal → Type 0
IsOther (BadOctets place why) = ⊥
IsOther r = ⊤

-- the lines are beside the refusal of octets, and nothing is beside any other
abbrev pub IsBeside : SourceOver → Setting → Order → Refusal → Option (List ℕ) → Type 0
IsBeside s w order r (Some lines) = AreLines s w order r lines
IsBeside s w order r None = IsOther r

pub record IsStopped (s : SourceOver) (w : Setting) (order : Order) (x : Stopped) : Type 0 where
  pub cause : IsTraceCause s w order x.refusal
  pub beside : IsBeside s w order x.refusal x.lines

-- what octets in memory come to, as a text or a refusal
abbrev pub IsMadeOf : Result Traced NoMemory → Result (List ℕ) Stopped → Type 0
IsMadeOf (Ok (traced.Whole text)) r = r ≡ Ok text
IsMadeOf (Ok (traced.Refused lines place why)) r = r ≡ Err (record { refusal = BadOctets place why; lines = Some lines })
IsMadeOf (Err e) r = r ≡ Err (record { refusal = Memory; lines = None })
