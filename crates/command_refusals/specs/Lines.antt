-- The status of each refusal, and its line on notes.
use Rattle.std.specs.Prelude.{ℕ, ℤ, List, [], ◌∷◌, codes, decimal}
use Rattle.std.specs.Fmt.{signed_decimal}
use Rattle.idl_lexer.specs.declared.tokens.LexKind.{LexKind}
use Rattle.idl_lexer.specs.declared.tokens.LexKind.TheVariants as kind
use Rattle.idl_scope.specs.declared.fault.ConstFault.{ConstFault}
use Rattle.idl_scope.specs.declared.fault.ConstFault.TheVariants as const_fault
use Rattle.nd_value.specs.declared.misfit.MisfitReason.{MisfitReason}
use Rattle.nd_value.specs.declared.misfit.MisfitReason.TheVariants as misfit
use Rattle.nd_grammar.specs.declared.reason.Reason.{Reason}
use Rattle.nd_grammar.specs.declared.reason.Reason.TheVariants as reason
use Rattle.ndr_prim.specs.declared.label.LabelFault.{LabelFault}
use Rattle.ndr_prim.specs.declared.label.LabelFault.TheVariants as label_fault
use Rattle.text_grammar.specs.declared.fault.TextReason.{TextReason}
use Rattle.text_grammar.specs.declared.fault.TextReason.TheVariants as text
use Rattle.rpc_pdu.specs.declared.pdu.PduReason.{PduReason}
use Rattle.rpc_pdu.specs.declared.pdu.PduReason.TheVariants as pdu_reason
use Rattle.nd_base.specs.Text.{joined}
use Rattle.command_refusals.specs.declared.refusal.Refusal.{Refusal}
use Rattle.command_refusals.specs.declared.refusal.Refusal.TheVariants.{Memory, Absent, FileFailed, BadIdl, NoOperation, ReadFault, BadOctets}
use Rattle.command_refusals.specs.declared.refusal.Refusal.TheVariants.{BadText, BadValue, TooLong, BadRequest, BadLabel, ShortLabel, TooFewEnds}
use Rattle.command_refusals.specs.declared.refusal.Refusal.TheVariants.{EndFailed, BadPdu, NotCompatible, BadScript, LongScript}
use Rattle.command_refusals.specs.declared.refusal.FragmentsFault.{FragmentsFault}
use Rattle.command_refusals.specs.declared.refusal.FragmentsFault.TheVariants as fragments
use Rattle.command_refusals.specs.declared.refusal.CompatFault.{CompatFault}
use Rattle.command_refusals.specs.declared.refusal.CompatFault.TheVariants as compat
use Rattle.command_refusals.specs.declared.refusal.IdlReason.{IdlReason}
use Rattle.command_refusals.specs.declared.refusal.IdlReason.TheVariants as idl_reason
use Rattle.command_refusals.specs.declared.refusal.OctetsFault.{OctetsFault}
use Rattle.command_refusals.specs.declared.refusal.OctetsFault.TheVariants.{Refused, Trailing}
use Rattle.command_refusals.specs.declared.refusal.RequestFault.{RequestFault}
use Rattle.command_refusals.specs.declared.refusal.RequestFault.TheVariants as request

-- the status of a refusal
abbrev pub status_of : Refusal → ℕ
status_of (BadOctets place why) = 1
status_of (BadText line column reason) = 1
status_of (BadValue path reason) = 1
status_of (TooLong length) = 1
status_of (BadRequest fault) = 1
status_of (BadLabel fault) = 1
status_of ShortLabel = 1
status_of (TooFewEnds wanted found) = 1
status_of (BadPdu place why) = 1
status_of (NotCompatible fault) = 1
status_of (BadScript line) = 1
status_of LongScript = 1
status_of ReadFault = 3
status_of Memory = 5
status_of (BadIdl file line column reason) = 6
status_of NoOperation = 6
status_of (Absent file) = 7
status_of (EndFailed which) = 8
status_of (FileFailed file) = 9

-- the name of a reason why a text of IDL cannot be cut into tokens
abbrev pub lex_kind_name : LexKind → List ℕ
lex_kind_name kind.BadOctet = codes "BadOctet"
lex_kind_name kind.OpenComment = codes "OpenComment"
lex_kind_name kind.OpenText = codes "OpenText"
lex_kind_name kind.LongName = codes "LongName"
lex_kind_name kind.BadNumber = codes "BadNumber"
lex_kind_name kind.TooLong = codes "TooLong"

-- the name of a reason why an expression has no value
abbrev pub const_fault_name : ConstFault → List ℕ
const_fault_name const_fault.OutOfRange = codes "OutOfRange"
const_fault_name const_fault.ZeroDivisor = codes "ZeroDivisor"
const_fault_name const_fault.NotConst = codes "NotConst"

-- a reason why a file is refused, as a line tells it
abbrev pub idl_reason_text : IdlReason → List ℕ
idl_reason_text (idl_reason.Lexical kind) = lex_kind_name kind
idl_reason_text idl_reason.Syntax = codes "Syntax"
idl_reason_text idl_reason.Deep = codes "Deep"
idl_reason_text (idl_reason.Banned word) = joined (codes "Banned " ∷ word ∷ [])
idl_reason_text (idl_reason.Unknown name) = joined (codes "Unknown " ∷ name ∷ [])
idl_reason_text (idl_reason.Twice name) = joined (codes "Twice " ∷ name ∷ [])
idl_reason_text idl_reason.ImportCycle = codes "ImportCycle"
idl_reason_text idl_reason.TooMany = codes "TooMany"
idl_reason_text (idl_reason.NoValue fault) = const_fault_name fault
idl_reason_text (idl_reason.Rule rule) = joined (codes "Rule " ∷ decimal rule ∷ [])

-- the name of a reason why octets are refused
abbrev pub reason_name : Reason → List ℕ
reason_name reason.Truncated = codes "Truncated"
reason_name reason.TooLong = codes "TooLong"
reason_name reason.EnumValue = codes "EnumValue"
reason_name reason.PastBound = codes "PastBound"
reason_name reason.TextOffset = codes "TextOffset"
reason_name reason.TextEmpty = codes "TextEmpty"
reason_name reason.TextUnended = codes "TextUnended"
reason_name reason.TextZero = codes "TextZero"
reason_name reason.NoArm = codes "NoArm"
reason_name reason.OtherType = codes "OtherType"
reason_name (reason.Disagrees wanted found) = codes "Disagrees"

-- the name of a reason why a format label is refused
abbrev pub label_fault_name : LabelFault → List ℕ
label_fault_name label_fault.BadOrder = codes "BadOrder"
label_fault_name label_fault.Ebcdic = codes "Ebcdic"
label_fault_name label_fault.BadCharset = codes "BadCharset"

-- the name of a reason why a text is refused
abbrev pub text_reason_name : TextReason → List ℕ
text_reason_name text.TooLong = codes "TooLong"
text_reason_name text.BadToken = codes "BadToken"
text_reason_name text.Expected = codes "Expected"
text_reason_name text.OtherName = codes "OtherName"
text_reason_name text.OutOfOrder = codes "OutOfOrder"
text_reason_name text.Unnamed = codes "Unnamed"

-- the name of a reason why a value is refused
abbrev pub misfit_name : MisfitReason → List ℕ
misfit_name misfit.Shape = codes "Shape"
misfit_name misfit.Range = codes "Range"
misfit_name misfit.NullRef = codes "NullRef"
misfit_name misfit.NoCell = codes "NoCell"
misfit_name misfit.CellType = codes "CellType"
misfit_name misfit.Bound = codes "Bound"
misfit_name misfit.Zero = codes "Zero"
misfit_name misfit.NoArm = codes "NoArm"
misfit_name misfit.Shared = codes "Shared"
misfit_name misfit.Unreached = codes "Unreached"
misfit_name (misfit.Disagrees wanted found) = codes "Disagrees"

-- a disagreement is reported with its two numbers
abbrev pub disagreement : ℤ → ℤ → List ℕ
disagreement wanted found = joined (codes "Disagrees wanted " ∷ signed_decimal wanted ∷ codes " found " ∷ signed_decimal found ∷ [])

-- a reason why octets are refused, as a line tells it
abbrev pub reason_text : Reason → List ℕ
reason_text (reason.Disagrees wanted found) = disagreement wanted found
reason_text reason = reason_name reason

-- a reason why a value is refused, as a line tells it
abbrev pub misfit_text : MisfitReason → List ℕ
misfit_text (misfit.Disagrees wanted found) = disagreement wanted found
misfit_text reason = misfit_name reason

-- why octets are refused, as a line tells it
abbrev pub fault_text : OctetsFault → List ℕ
fault_text (Refused reason) = reason_text reason
fault_text Trailing = codes "Trailing"

-- the line of a text of values, and that of a value, after what they are of
abbrev pub text_line : List ℕ → ℕ → ℕ → TextReason → List ℕ
text_line what line column reason = joined (what ∷ decimal line ∷ codes ":" ∷ decimal column ∷ codes ": " ∷ text_reason_name reason ∷ codes "\n" ∷ [])

abbrev pub value_line : List ℕ → List ℕ → MisfitReason → List ℕ
value_line what path reason = joined (what ∷ path ∷ codes ": " ∷ misfit_text reason ∷ codes "\n" ∷ [])

-- the line of a request
abbrev pub request_line : RequestFault → List ℕ
request_line (request.Text line column reason) = text_line (codes "refused: given: text ") line column reason
request_line (request.Value path reason) = value_line (codes "refused: given: value at ") path reason

-- the name of a reason why fragments are refused
abbrev pub pdu_reason_name : PduReason → List ℕ
pdu_reason_name pdu_reason.Short = codes "Short"
pdu_reason_name pdu_reason.Version = codes "Version"
pdu_reason_name pdu_reason.Kind = codes "Kind"
pdu_reason_name pdu_reason.Flags = codes "Flags"
pdu_reason_name pdu_reason.Label = codes "Label"
pdu_reason_name pdu_reason.OtherOrder = codes "OtherOrder"
pdu_reason_name pdu_reason.Length = codes "Length"
pdu_reason_name pdu_reason.Auth = codes "Auth"
pdu_reason_name pdu_reason.OtherCall = codes "OtherCall"
pdu_reason_name pdu_reason.OtherOperation = codes "OtherOperation"
pdu_reason_name pdu_reason.EmptyPiece = codes "EmptyPiece"
pdu_reason_name pdu_reason.StubLong = codes "StubLong"

-- an operation number that the interface does not have
abbrev pub no_operation_text : ℕ → List ℕ
no_operation_text number = joined (codes "NoOperation " ∷ decimal number ∷ [])

-- why fragments are refused, as a line reports it
abbrev pub fragments_fault_text : FragmentsFault → List ℕ
fragments_fault_text (fragments.Refused reason) = pdu_reason_name reason
fragments_fault_text fragments.Trailing = codes "Trailing"
fragments_fault_text (fragments.NoOperation number) = no_operation_text number

-- a reason with its two numbers
abbrev pub two_numbers : List ℕ → ℕ → ℕ → List ℕ
two_numbers what old new = joined (what ∷ decimal old ∷ codes " " ∷ decimal new ∷ [])

-- why an interface is not compatible with an older one, as a line reports it
abbrev pub compat_fault_text : CompatFault → List ℕ
compat_fault_text compat.OtherUuid = codes "OtherUuid"
compat_fault_text (compat.OtherMajor old new) = two_numbers (codes "OtherMajor ") old new
compat_fault_text (compat.OlderMinor old new) = two_numbers (codes "OlderMinor ") old new
compat_fault_text (compat.Fewer old new) = two_numbers (codes "Fewer ") old new
compat_fault_text (compat.Differs name) = joined (codes "Differs " ∷ name ∷ [])

-- the line of a refusal
abbrev pub line_of : List ℕ → List ℕ → Refusal → List ℕ
line_of idl op (BadOctets place why) = joined (codes "refused: octets at " ∷ decimal place ∷ codes ": " ∷ fault_text why ∷ codes "\n" ∷ [])
line_of idl op (BadText line column reason) = text_line (codes "refused: text ") line column reason
line_of idl op (BadValue path reason) = value_line (codes "refused: value at ") path reason
line_of idl op (TooLong length) = joined (codes "refused: TooLong " ∷ decimal length ∷ codes "\n" ∷ [])
line_of idl op (BadRequest fault) = request_line fault
line_of idl op (BadLabel fault) = joined (codes "refused: label: " ∷ label_fault_name fault ∷ codes "\n" ∷ [])
line_of idl op ShortLabel = codes "refused: label: Truncated\n"
line_of idl op (TooFewEnds wanted found) =
    joined (codes "refused: TooFewEnds wanted " ∷ decimal wanted ∷ codes " found " ∷ decimal found ∷ codes "\n" ∷ [])
line_of idl op (EndFailed which) = joined (codes "pipe end " ∷ decimal which ∷ codes " failed\n" ∷ [])
line_of idl op (BadPdu place why) = joined (codes "refused: pdu at " ∷ decimal place ∷ codes ": " ∷ fragments_fault_text why ∷ codes "\n" ∷ [])
line_of idl op (NotCompatible fault) = joined (codes "refused: compat: " ∷ compat_fault_text fault ∷ codes "\n" ∷ [])
line_of idl op (BadScript line) = joined (codes "refused: script " ∷ decimal line ∷ codes "\n" ∷ [])
line_of idl op LongScript = codes "refused: script TooLong\n"
line_of idl op ReadFault = codes "read fault\n"
line_of idl op Memory = codes "want of memory\n"
line_of idl op (BadIdl file line column reason) =
    joined (codes "idl " ∷ file ∷ codes ":" ∷ decimal line ∷ codes ":" ∷ decimal column ∷ codes ": " ∷ idl_reason_text reason ∷ codes "\n" ∷ [])
line_of idl op NoOperation = joined (codes "idl " ∷ idl ∷ codes ": NoOperation " ∷ op ∷ codes "\n" ∷ [])
line_of idl op (Absent file) = joined (codes "absent: " ∷ file ∷ codes "\n" ∷ [])
line_of idl op (FileFailed file) = joined (codes "file fault: " ∷ file ∷ codes "\n" ∷ [])
