-- What is written of the text of values, and why such a text is refused.
use Rattle.std.specs.Prelude.{◌≡◌, ◌⊎◌, ℕ, ◌<◌, ◌≤◌, List, length, Some, None, ⊤}
use Rattle.nd_base.specs.declared.TheConstants.{FILE_LIMIT, STREAM_LIMIT}
use Rattle.nd_base.specs.declared.octets.Order.{Order}
use Rattle.nd_base.specs.Over.{IsContent, IsMissing, FilesOver, HasRisen}
use Rattle.nd_types.specs.declared.types.Side.TheVariants.{In}
use Rattle.nd_value.specs.declared.item.Home.{Home}
use Rattle.nd_value.specs.declared.misfit.MisfitReason.{MisfitReason}
use Rattle.nd_value.specs.declared.value.Graph.{Graph}
use Rattle.nd_value.specs.Setting.{Setting}
use Rattle.nd_value.specs.Conforms.{IsFirstMisfit, Conforms}
use Rattle.nd_grammar.specs.Stream.{Chosen}
use Rattle.text_grammar.specs.declared.fault.TextReason.{TextReason}
use Rattle.text_grammar.specs.declared.fault.TextReason.TheVariants as text_reason
use Rattle.text_grammar.specs.Paths.{IsPath}
use Rattle.text_grammar.specs.Reads.{ReadsAs, IsTextFault}
use Rattle.command_refusals.specs.declared.refusal.Refusal.{Refusal}
use Rattle.command_refusals.specs.declared.refusal.Refusal.TheVariants.{Memory, BadText, BadValue, Absent, FileFailed, BadRequest, TooLong}
use Rattle.command_refusals.specs.declared.refusal.RequestFault.{RequestFault}
use Rattle.command_refusals.specs.declared.refusal.RequestFault.TheVariants.{Text, Value}

-- ## Why a text of values is refused on a side of an operation

-- A graph does not conform, and this is the path of its first misfit, with the reason.
pub record IsMisfitAt (w : Setting) (g : Graph) (path : List ℕ) (reason : MisfitReason) : Type 0 where
  pub home : Home
  pub node : ℕ
  pub first : IsFirstMisfit w g (record { home = home; node = node; reason = reason })
  pub path_is : IsPath w g home node path

-- why a graph is refused; running out of memory needs no cause
abbrev pub IsValueCause : Setting → Graph → Refusal → Type 0
IsValueCause w g Memory = ⊤
IsValueCause w g (BadValue path reason) = IsMisfitAt w g path reason
IsValueCause w g _ = ⊥

-- The text reads as a graph that does not conform.
pub record IsBadValue (w : Setting) (text path : List ℕ) (reason : MisfitReason) : Type 0 where
  pub graph : Graph
  pub reads : ReadsAs w text graph
  pub misfit : IsMisfitAt w graph path reason

-- why a text is refused; running out of memory needs no cause
abbrev pub IsTextCause : Setting → List ℕ → Refusal → Type 0
IsTextCause w text Memory = ⊤
IsTextCause w text (BadText line column reason) = IsTextFault w text line column reason
IsTextCause w text (BadValue path reason) = IsBadValue w text path reason
IsTextCause w text _ = ⊥

-- ## The text of the request beside which a response is judged, and why it is refused

-- `w` is the setting of the response, `q` the graph of the request.

-- the inputs of the operation, beside no request
abbrev pub inputs : Setting → Setting
inputs w = record { table = w.table; op = w.op; side = In; given = None }

-- the same side beside this request
abbrev pub beside : Setting → Graph → Setting
beside w q = record { table = w.table; op = w.op; side = w.side; given = Some q }

-- The text of a file, within the limit of a file, reads as a request: a graph that conforms to the inputs.
pub record IsRequestText (w : Setting) (text : List ℕ) (q : Graph) : Type 0 where
  pub within : length text ≤ FILE_LIMIT
  pub reads : ReadsAs (inputs w) text q
  pub conforms : Conforms (inputs w) q

-- a text that is past the limit of a file is refused at its beginning
pub record IsLongText (text : List ℕ) (line column : ℕ) (reason : TextReason) : Type 0 where
  pub long : FILE_LIMIT < length text
  pub line_is : line ≡ 1
  pub column_is : column ≡ 1
  pub reason_is : reason ≡ text_reason.TooLong

-- why the text of a request is refused: it is too long, it reads as no graph, or its graph does not conform to the inputs
abbrev pub IsRequestFault : Setting → List ℕ → RequestFault → Type 0
IsRequestFault w text (Text line column reason) =
    IsLongText text line column reason ⊎ ((length text ≤ FILE_LIMIT) × IsTextFault (inputs w) text line column reason)
IsRequestFault w text (Value path reason) = (length text ≤ FILE_LIMIT) × IsBadValue (inputs w) text path reason

-- the same as a refusal; running out of memory needs no cause
abbrev pub IsTextRefusal : Setting → List ℕ → Refusal → Type 0
IsTextRefusal w text Memory = ⊤
IsTextRefusal w text (BadRequest fault) = IsRequestFault w text fault
IsTextRefusal w text _ = ⊥

-- the file of a name holds this request
abbrev pub HoldsRequest : FilesOver → List ℕ → Setting → Graph → Type 0
HoldsRequest f name w q = (text : List ℕ) × IsContent f.held name text × IsRequestText w text q

-- why the request of a file is refused; running out of memory needs no cause
abbrev pub HoldsNoRequest : FilesOver → List ℕ → Setting → Refusal → Type 0
HoldsNoRequest f name w (Absent file) = (file ≡ name) × HasRisen f.absences × IsMissing f.held name
HoldsNoRequest f name w (FileFailed file) = (file ≡ name) × HasRisen f.faults
HoldsNoRequest f name w Memory = ⊤
HoldsNoRequest f name w (BadRequest fault) = (text : List ℕ) × IsContent f.held name text × IsRequestFault w text fault
HoldsNoRequest f name w _ = ⊥

-- ## What is written of the values of a fit, and why nothing is

-- `w` is a setting, `g` a graph, `chunk` the greatest count of a chunk.

-- The octets are those that are chosen for a graph, and no more than a stream may have.
pub record IsWritten (w : Setting) (order : Order) (chunk : ℕ) (g : Graph) (octets : List ℕ) : Type 0 where
  pub chosen : Chosen w order chunk g octets
  pub within : length octets ≤ STREAM_LIMIT

-- So many octets are chosen for a graph, in either order, and these are more than a stream may have.
pub record IsLong (w : Setting) (chunk : ℕ) (g : Graph) (many : ℕ) : Type 0 where
  pub chosen : (order : Order) (octets : List ℕ) → Chosen w order chunk g octets → length octets ≡ many
  pub long : STREAM_LIMIT < many

-- why no octets are written for a graph; running out of memory needs no cause
abbrev pub IsWritingCause : Setting → ℕ → Graph → Refusal → Type 0
IsWritingCause w chunk g Memory = ⊤
IsWritingCause w chunk g (TooLong many) = IsLong w chunk g many
IsWritingCause w chunk g _ = ⊥
