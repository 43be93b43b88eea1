-- What the commands on values make of texts and of the input, and why these are refused.
use Rattle.std.specs.Prelude.{◌≡◌, ◌⊎◌, ℕ, ◌+◌, ◌<◌, ◌≤◌, true, List, [], ◌∷◌, ◌++◌, length, Option, Some, None, Ok, ⊤}
use Rattle.std.specs.Io.KnownBytes.{Consumes, IsAtEnd}
use Rattle.idl_grammar.specs.Files.{Idl}
use Rattle.nd_base.specs.declared.octets.Order.{Order}
use Rattle.nd_base.specs.Over.{FilesOver, SourceOver, HasRisen, IsUntouched}
use Rattle.nd_types.specs.declared.interface.Interface.{Interface}
use Rattle.nd_types.specs.declared.types.Operation.{Operation}
use Rattle.nd_types.specs.declared.types.Side.{Side}
use Rattle.nd_types.specs.declared.types.Side.TheVariants.{In, Out}
use Rattle.ndr_prim.specs.Label.{order_of_label}
use Rattle.nd_value.specs.declared.value.Graph.{Graph}
use Rattle.nd_value.specs.Setting.{Setting}
use Rattle.nd_value.specs.Conforms.{Conforms}
use Rattle.nd_value.specs.Fitting.{setting_of}
use Rattle.text_grammar.specs.declared.TheConstants.{TEXT_LIMIT}
use Rattle.text_grammar.specs.Written.{IsText}
use Rattle.text_grammar.specs.Reads.{ReadsAs}
use Rattle.ndr_pipe.specs.Ends.{EndsSeen, AreAsBefore}
use Rattle.rpc_pdu.specs.declared.pdu.Head.{Head}
use Rattle.rpc_pdu.specs.declared.pdu.Head.TheVariants as head
use Rattle.rpc_pdu.specs.Fragments.{Pieces}
use Rattle.command_line.specs.declared.command.OrderWord.{OrderWord}
use Rattle.command_line.specs.declared.command.OrderWord.TheVariants.{Fixed, Label}
use Rattle.command_line.specs.declared.command.Reading.{Reading}
use Rattle.command_line.specs.declared.command.Reading.TheVariants.{Decode, Explain, Trace, Drain}
use Rattle.command_line.specs.declared.command.Task.{Task}
use Rattle.command_line.specs.declared.command.Task.TheVariants.{Read, Encode, Migrate}
use Rattle.command_line.specs.Words.{order_in, Subject}
use Rattle.command_refusals.specs.declared.refusal.Refusal.{Refusal}
use Rattle.command_refusals.specs.declared.refusal.Refusal.TheVariants.{TooLong, Memory, ReadFault}
use Rattle.command_streams.specs.Input.{IsLabelCause, AreRead}
use Rattle.command_decode.specs.Decoded.{IsExplained, IsInputCause, IsPrinted, IsTraceCause, IsTracedWhole}
use Rattle.command_encode.specs.Encoded.{IsWritten, IsLong, IsTextCause, beside, HoldsRequest, HoldsNoRequest}
use Rattle.command_call.specs.Called.{IsCalled, IsCallCause}
use Rattle.command_drain.specs.Printed as draining
use Rattle.dceidl.specs.Ready.{IsFound, IsReady, IsReadyCause, IsCallReady, IsCallUnready}

-- ## What is made of a text

-- The text reads as a graph that conforms, and the octets are those that are chosen for it, which are no more than a stream may have.
pub record IsEncoding (w : Setting) (order : Order) (chunk : ℕ) (text octets : List ℕ) : Type 0 where
  pub graph : Graph
  pub reads : ReadsAs w text graph
  pub conforms : Conforms w graph
  pub written : IsWritten w order chunk graph octets

-- what is written before the octets of values: a format label (C706 14.1) of little endian, ASCII and IEEE, if the command asks for one
abbrev pub label_for : OrderWord → List ℕ
label_for (Fixed order) = []
label_for Label = 16 ∷ 0 ∷ 0 ∷ 0 ∷ []

-- The octets of a text were made, after a format label if the command asks for one.
pub record IsLabelledEncoding (w : Setting) (word : OrderWord) (chunk : ℕ) (text made : List ℕ) : Type 0 where
  pub octets : List ℕ
  pub encoding : IsEncoding w (order_in word) chunk text octets
  pub made_is : made ≡ label_for word ++ octets

-- The text reads as a graph that conforms, and so many octets are chosen for it, which are more than a stream may have.
pub record IsLongEncoding (w : Setting) (chunk : ℕ) (text : List ℕ) (length : ℕ) : Type 0 where
  pub graph : Graph
  pub reads : ReadsAs w text graph
  pub conforms : Conforms w graph
  pub long : IsLong w chunk graph length

-- why a text is not encoded; running out of memory needs no cause
abbrev pub IsEncodingCause : Setting → ℕ → List ℕ → Refusal → Type 0
IsEncodingCause w chunk text (TooLong length) = IsLongEncoding w chunk text length
IsEncodingCause w chunk text refusal = IsTextCause w text refusal

-- The text reads as a graph that conforms, and what is made is that graph's text as it is printed.
pub record IsMigration (w : Setting) (text made : List ℕ) : Type 0 where
  pub graph : Graph
  pub reads : ReadsAs w text graph
  pub conforms : Conforms w graph
  pub printed : IsText w graph made

-- ## What is made of the input, and why it is refused

-- the text of the input was read to its end or to one octet past its limit, and this holds of it
abbrev pub OfText : SourceOver → (List ℕ → Type 0) → Type 0
OfText s P = (text : List ℕ) × AreRead s TEXT_LIMIT text × P text

-- why the text of the input is refused; running out of memory needs no cause
abbrev pub IsInputTextCause : SourceOver → Setting → Refusal → Type 0
IsInputTextCause s w ReadFault = HasRisen s.faults
IsInputTextCause s w Memory = ⊤
IsInputTextCause s w refusal = OfText s (λ text. IsTextCause w text refusal)

-- the same of a text that is encoded
abbrev pub IsInputEncodingCause : SourceOver → Setting → ℕ → Refusal → Type 0
IsInputEncodingCause s w chunk (TooLong length) = OfText s (λ text. IsLongEncoding w chunk text length)
IsInputEncodingCause s w chunk refusal = IsInputTextCause s w refusal

-- ### Octets, after a format label if the command asks for one

-- these octets are the label before octets in this order: none if the command names the order
abbrev pub IsLabel : OrderWord → List ℕ → Order → Type 0
IsLabel (Fixed named) label order = (label ≡ []) × (order ≡ named)
IsLabel Label label order = (length label ≡ 4) × (order_of_label label ≡ Ok order)

-- A label was taken first, and this is the source after it.
pub record IsAfterLabel (s rest : SourceOver) (order : Order) : Type 0 where
  pub label : List ℕ
  pub taken : Consumes s.left rest.left label
  pub is_label : IsLabel Label label order
  pub left_now : rest.left_now ≡ s.left_now
  pub ended : rest.ended_now ≡ s.ended_now
  pub faults : rest.faults.now ≡ s.faults.now
  pub later : s.faults.before ≤ rest.faults.before

-- what is read in this order is all of the source, or what follows its label
abbrev pub IsOpened : OrderWord → SourceOver → SourceOver → Order → Type 0
IsOpened (Fixed named) s rest order = (rest ≡ s) × (order ≡ named)
IsOpened Label s rest order = IsAfterLabel s rest order

-- why it is not: the label is refused
abbrev pub IsUnopened : OrderWord → SourceOver → Refusal → Type 0
IsUnopened (Fixed named) s r = ⊥
IsUnopened Label s r = IsLabelCause s r

-- this is made of the octets of values, by the way of reading
abbrev pub IsMadeReading : Reading → SourceOver → EndsSeen → Setting → Order → List ℕ → Type 0
IsMadeReading Decode s e w order made = IsPrinted s w order made
IsMadeReading Explain s e w order made = IsExplained s w order made
IsMadeReading Trace s e w order made = IsTracedWhole s w order made
IsMadeReading Drain s e w order made = draining.IsPrinted s e w order made

-- why these octets are refused
abbrev pub IsReadingCause : Reading → SourceOver → EndsSeen → Setting → Order → Refusal → Type 0
IsReadingCause Decode s e w order r = IsInputCause s w order r
IsReadingCause Explain s e w order r = IsInputCause s w order r
IsReadingCause Trace s e w order r = IsTraceCause s w order r
IsReadingCause Drain s e w order r = draining.IsDrainRefusal s e w order r

-- ### The input, by what is done

-- this is made of the input
abbrev pub IsMadeOf : SourceOver → EndsSeen → Task → Setting → List ℕ → Type 0
IsMadeOf s e (Read how word) w made = (rest : SourceOver) × (order : Order) × IsOpened word s rest order × IsMadeReading how rest e w order made
IsMadeOf s e (Encode word chunk) w made = OfText s (λ text. IsLabelledEncoding w word chunk text made)
IsMadeOf s e Migrate w made = OfText s (λ text. IsMigration w text made)

-- why the input is refused
abbrev pub IsTaskCause : SourceOver → EndsSeen → Task → Setting → Refusal → Type 0
IsTaskCause s e (Read how word) w r =
    (IsUnopened word s r × AreAsBefore e) ⊎ ((rest : SourceOver) × (order : Order) × IsOpened word s rest order × IsReadingCause how rest e w order r)
IsTaskCause s e (Encode word chunk) w r = IsInputEncodingCause s w chunk r
IsTaskCause s e Migrate w r = IsInputTextCause s w r

-- the file of a name holds a request, and beside it this is made of the input
abbrev pub IsMadeBeside : FilesOver → SourceOver → EndsSeen → List ℕ → Task → Setting → List ℕ → Type 0
IsMadeBeside f s e name task w made = (q : Graph) × HoldsRequest f name w q × IsMadeOf s e task (beside w q) made

-- why it is not: the request is refused before the input is touched, or the input is
abbrev pub IsBesideCause : FilesOver → SourceOver → EndsSeen → List ℕ → Task → Setting → Refusal → Type 0
IsBesideCause f s e name task w r =
    (HoldsNoRequest f name w r × IsUntouched s × AreAsBefore e) ⊎ ((q : Graph) × HoldsRequest f name w q × IsTaskCause s e task (beside w q) r)

-- ## What `call` and `wrap` make, and why they are refused

-- `f` are files over a run, `s` is the input.

-- ### `call`

-- the files mean an interface, and the input is printed as a call
abbrev pub HasCalled : FilesOver → SourceOver → Idl → Option (List ℕ) → Option (List ℕ) → List ℕ → Type 0
HasCalled f s idl acf op made = (i : Interface) × (number : Option ℕ) × IsCallReady f idl acf op i number × IsCalled s i number made

-- why it is not: the files are refused before the input is touched, or the input is
abbrev pub IsNoCall : FilesOver → SourceOver → Idl → Option (List ℕ) → Option (List ℕ) → Refusal → Type 0
IsNoCall f s idl acf op r =
    (IsCallUnready f idl acf op r × IsUntouched s)
    ⊎ ((i : Interface) × (number : Option ℕ) × IsCallReady f idl acf op i number × IsCallCause s i number r)

-- ### `wrap`

-- a chunk of a pipe has as many elements as there are left, and at most so many
abbrev pub wrap_chunk : ℕ
wrap_chunk = 65536

-- the values are encoded in this order
abbrev pub wrap_task : Order → Task
wrap_task order = Encode (Fixed order) wrap_chunk

-- inputs are of a request, which states the number of its operation, and outputs of a response
abbrev pub head_for : Side → ℕ → Head
head_for In n = head.Request n
head_for Out n = head.Response

-- the operation by which `call` reads what was written for a side: a request states its own
abbrev pub stated_for : Side → ℕ → Option ℕ
stated_for In n = None
stated_for Out n = Some n

-- The octets of the values of the text are the stub data of the fragments that are written.
pub record IsWrapped (f : FilesOver) (s : SourceOver) (of : Subject) (order : Order) (call max : ℕ) (made : List ℕ) : Type 0 where
  pub interface : Interface
  pub number : ℕ
  pub operation : Operation
  pub found : IsFound f of interface number operation
  pub stub : List ℕ
  pub encoded : OfText s (λ text. IsLabelledEncoding (setting_of interface operation of.side) (Fixed order) wrap_chunk text stub)
  pub made_is : made ≡ Pieces order (head_for of.side number) call max stub

-- why nothing is written: as the text is not encoded
abbrev pub IsNoWrap : FilesOver → SourceOver → Subject → Refusal → Type 0
IsNoWrap f s of r =
    (IsReadyCause f of r × IsUntouched s) ⊎ ((w : Setting) × IsReady f of w × IsInputEncodingCause s w wrap_chunk r)
